use Rattle.std.proofs.Common.{◌≡◌, sym, ap, ◌∙◌}
use Rattle.std.specs.Prelude.{string_bytes}
use Rattle.std.specs.Str.{bytes_eq}
use Rattle.dy_tool.proofs.Words.{one_element, one_word, is_one_word}
use Rattle.dy_tool.proofs.commands.is_word.Goals as goal

pub returns-in-len1 : goal.returns-in-len1
returns-in-len1 c =
    let words = c.args.words.now in
    let word = c.args.word.now in
    let only = c.only-item.result in
    let one = one_element words only c.in-len1.len_at_least c.in-len1.len_below c.only-item.is in
    let compared : c.eq.result ≡ bytes_eq (string_bytes only) word = c.eq.ensures ∙ ap (λ bytes. bytes_eq bytes word) c.as_str.ensures.value in
    (λ is. one_word string_bytes words only word one (sym compared ∙ is), λ same. compared ∙ is_one_word string_bytes words only word one same)
