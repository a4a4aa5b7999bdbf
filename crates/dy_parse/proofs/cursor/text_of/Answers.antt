use Rattle.std.proofs.Common.{◌≡◌, true, rules}
use Rattle.dy_term.specs.Characters.{is_long_text}
use Rattle.dy_parse.proofs.Prefixes.{is_text-take}
use Rattle.dy_parse.proofs.cursor.text_of.Goals as goal

pub returns-in-None : goal.returns-in-None
returns-in-None c =
    let text = c.text_inside-inner.result.now in
    let long : is_long_text text ≡ true = search rules in
    cc (c.in-None.ensures.found.1 (rw c.prefix.ensures (is_text-take text long)))
