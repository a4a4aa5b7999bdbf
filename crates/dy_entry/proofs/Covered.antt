-- Versions that a trace's corruptions cover.
use Rattle.std.proofs.Common.{◌≡◌, ℕ, List, [], ◌∷◌, ◌||◌, refl, ap, ◌∙◌}
use Rattle.std.specs.List.{list_any}
use Rattle.dy_entry.specs.Entries.{Entry, Setup, Start, Fresh, Message, State, Event, Cert, End, Corrupt, Forge, Inject, Skip}
use Rattle.dy_entry.specs.declared.entries.Entry as declared
use Rattle.dy_entry.specs.Meaning.{entry_of, entries_of}
use Rattle.dy_entry.specs.LookUps.{is_covered}
use Rattle.dy_entry.specs.MirrorLookUps.{covers_version}

module _ (principal : List ℕ) (session version : ℕ) where
  covered_by_entries : (T : List Entry) → is_covered T principal session version ≡ list_any (covers_version principal session version) T
  covered_by_entries [] = refl
  covered_by_entries (Corrupt step corruption ∷ T) = ap (λ rest. covers_version principal session version (Corrupt step corruption) || rest) (covered_by_entries T)
  covered_by_entries (Setup input ∷ T) = covered_by_entries T
  covered_by_entries (Start step handler p s args message ∷ T) = covered_by_entries T
  covered_by_entries (Fresh instance label usage ∷ T) = covered_by_entries T
  covered_by_entries (Message instance value ∷ T) = covered_by_entries T
  covered_by_entries (State instance p s v tag fields ∷ T) = covered_by_entries T
  covered_by_entries (Event instance p name args ∷ T) = covered_by_entries T
  covered_by_entries (Cert instance p usage key ∷ T) = covered_by_entries T
  covered_by_entries (End instance outcome ∷ T) = covered_by_entries T
  covered_by_entries (Forge step ∷ T) = covered_by_entries T
  covered_by_entries (Inject step value ∷ T) = covered_by_entries T
  covered_by_entries (Skip step ∷ T) = covered_by_entries T

  -- the same, of the code's entries
  pub covered_in_code : (entries : List declared.Entry) → is_covered (entries_of entries) principal session version
      ≡ list_any (λ entry. covers_version principal session version (entry_of entry)) entries
  covered_in_code entries = covered_by_entries (entries_of entries) ∙ any_mapped entries where
    any_mapped : (entries : List declared.Entry) → list_any (covers_version principal session version) (entries_of entries)
        ≡ list_any (λ entry. covers_version principal session version (entry_of entry)) entries
    any_mapped [] = refl
    any_mapped (x ∷ entries) = ap (λ rest. covers_version principal session version (entry_of x) || rest) (any_mapped entries)
