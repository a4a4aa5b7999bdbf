-- What is written in the place of a name stays when more is written.
use Rattle.std.proofs.Common.{◌≡◌, true, List, Option, refl, sym, ap, ◌∙◌}
use Rattle.std.specs.Prelude.{find, unwrap_or}
use Rattle.std.specs.Option.{option_map, option_or}
use Rattle.std.specs.Str.{bytes_eq}
use Rattle.std.proofs.lemmas.List.Folds.{find-append}
use Rattle.dy_term.specs.Terms as trees
use Rattle.dy_term.specs.Terms.{Term}
use Rattle.dy_syntax.specs.Names.{Nm, Named, Me}
use Rattle.dy_syntax.specs.Scopes.{is_among}
use Rattle.dy_eval.specs.declared.written.Written.{Written}
use Rattle.dy_eval.specs.Names.{Names, write, bytes_for}
use Rattle.dy_sound.specs.Matches.{words_written}
use Rattle.dy_sound.proofs.WrittenWords.{word_found}

-- Something is written in the name's place.
abbrev pub IsWritten : Names → Nm → Type 0
IsWritten names (Me line) = Unit {0}
IsWritten names (Named id) = is_among id.word (words_written names) ≡ true

-- A name in whose place something is written has the same value when more is written.
module _ (start : Names) (more : List Written) where
  pub written_is_the_same : (name : Nm) → IsWritten start name → bytes_for (write start more) name ≡ bytes_for start name
  written_is_the_same (Me line) written = refl
  written_is_the_same (Named id) written =
      let found = word_found start id.word written in
      let value_in : Option Written → Term = λ w. unwrap_or (option_map (λ one. one.bytes) w) (trees.Name start.principal) in
      ap value_in (find-append (λ w. bytes_eq w.word id.word) start.written more
      ∙ ap (λ (w : Option Written). option_or w (find (λ one. bytes_eq one.word id.word) more)) found.1)
      ∙ sym (ap value_in found.1)
