-- Of no entries no nonce is derived.
use Rattle.std.proofs.Common.{ℕ, []}
use Rattle.dy_term.specs.Terms.{Term, Nonce}
use Rattle.dy_entry.specs.Attacker.{Derives}
use Rattle.dy_derive.specs.Saturation.{IsSaturated, IsGivenAll}
use Rattle.dy_derive.proofs.Saturated.{derived_is_built}

abbrev None : Term → Type 0
None term = ⊥

none_saturated : IsSaturated None None
none_saturated = record {
  had = λ term had. had;
  parts = λ whole part number of at. of;
  built = λ term of made each. of;
  first = λ a b had. had;
  second = λ a b had. had;
  decrypted = λ key message had with_key. had;
  opened = λ key message associated had with_key. had;
  associated = λ key message associated had. had;
  signed = λ key message had. had;
}

none_given : IsGivenAll [] None
none_given = record {
  sent = λ index instance value at. absurd (cc);
  injected = λ index step value at. absurd (cc);
  certified = λ index instance principal usage key at. absurd (cc);
  forged = λ index step at. absurd (cc);
  corrupted = λ index instance principal session version tag fields field at covered within. absurd (cc);
}

pub nothing_derived : (index : ℕ) → Derives [] (Nonce index) → ⊥
nothing_derived index derived = derived_is_built None None none_saturated [] none_given (Nonce index) derived
