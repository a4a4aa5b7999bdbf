-- The laws of labels, knowledge and traces on which the proofs rest.
use Rattle.std.specs.Prelude.{◌≡◌, ◌≢◌, ◌↔◌, ℕ, ◌<◌, true, List, [], ◌++◌, take, Contains}
use Rattle.std.specs.List.{list_all}
use Rattle.dy_term.specs.Terms.{Term}
use Rattle.dy_label.specs.Labels.{Place, One, Version, Label, is_open}
use Rattle.dy_label.specs.Words.{StaticLabel, Choice, meaning_of}
use Rattle.dy_types.specs.Claims.{MeetImplies}
use Rattle.dy_syntax.specs.Files.{File}
use Rattle.dy_typing.specs.Knowledge.{Knowledge, IsWeakerKnowledge}
use Rattle.dy_entry.specs.Entries.{Entry}
use Rattle.dy_entry.specs.LookUps.{corruptions, is_covered}
use Rattle.dy_entry.specs.ValueLabels.{label_of, HasMadeNonces}
use Rattle.dy_traces.specs.Interleavings.{Interleaves}

pub record LawsBelow : Type 0 where
  pub no_label_closes : (some more : List Place) (label : Label)
      → ((corruption : Place) → Contains some corruption → Contains more corruption)
      → is_open some label ≡ true → is_open more label ≡ true
  pub corruptions_stay : (T more : List Entry) (corruption : Place)
      → Contains (corruptions T) corruption → Contains (corruptions (T ++ more)) corruption
  pub labels_stay : (T more : List Entry) (value : Term) → HasMadeNonces T value
      → label_of (T ++ more) value ≡ label_of T value
  pub nonces_stay : (T more : List Entry) (value : Term) → HasMadeNonces T value
      → HasMadeNonces (T ++ more) value
  pub covered_is_open : (T : List Entry) (principal : List ℕ) (session version : ℕ)
      → is_covered T principal session version ≡ is_open (corruptions T) (One (Version principal session version))
  pub meet_implies : (labels : List StaticLabel) (weaker : StaticLabel) → MeetImplies labels weaker ↔
      ((labels ≢ []) × ((choice : Choice) (corruptions : List Place)
      → list_all (λ label. is_open corruptions (meaning_of choice label)) labels ≡ true
      → is_open corruptions (meaning_of choice weaker) ≡ true))
  pub no_weaker_than_itself : (k : Knowledge) → IsWeakerKnowledge k k
  pub weaker_onward : (first second third : Knowledge)
      → IsWeakerKnowledge first second → IsWeakerKnowledge second third → IsWeakerKnowledge first third
  pub prefixes_interleave : (bytes : List ℕ) (file : File) (T : List Entry) (n : ℕ)
      → Interleaves bytes file T → 0 < n → Interleaves bytes file (take n T)
