use Rattle.std.proofs.Common.{◌≡◌, true, rules}
use Rattle.dy_term.specs.Characters.{is_long_word}
use Rattle.dy_parse.proofs.Prefixes.{is_word-take}
use Rattle.dy_parse.proofs.cursor.name_of.Goals as goal

pub returns-in-None : goal.returns-in-None
returns-in-None c =
    let text = c.args.token.now.text.now in
    let long : is_long_word text ≡ true = search rules in
    cc (c.in-None.ensures.found.1 (rw c.prefix.ensures (is_word-take text long)))
