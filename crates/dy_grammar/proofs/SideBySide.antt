-- What is kept of symbols side by side, and what is made of it.
use Rattle.std.proofs.Common.{◌≡◌, [], ◌∷◌, ◌++◌, refl}
use Rattle.dy_grammar.specs.Tables.{silent, token, part, Takes, Values, apply, followed_by}
use Rattle.dy_grammar.specs.Parts.{PartValue}
use Rattle.dy_grammar.specs.Grammar.{Syms}

-- what is kept of the symbols that stand first
abbrev pub first_values : (rs ss : Syms) → Values PartValue (rs ++ ss) → Values PartValue rs
first_values [] ss vs = tt
first_values (silent x ∷ rs) ss vs = first_values rs ss vs
first_values (token x ∷ rs) ss vs = (vs.0, first_values rs ss vs.1)
first_values (part p ∷ rs) ss vs = (vs.0, first_values rs ss vs.1)

-- what is kept of those that stand after them
abbrev pub later_values : (rs ss : Syms) → Values PartValue (rs ++ ss) → Values PartValue ss
later_values [] ss vs = vs
later_values (silent x ∷ rs) ss vs = later_values rs ss vs
later_values (token x ∷ rs) ss vs = later_values rs ss vs.1
later_values (part p ∷ rs) ss vs = later_values rs ss vs.1

-- what is made of both is made of the later ones by what is made of the first
pub apply_split : (A X : Type 0) (rs ss : Syms) (g : Takes PartValue rs A) (f : A → Takes PartValue ss X) (vs : Values PartValue (rs ++ ss))
    → apply PartValue X (rs ++ ss) (followed_by PartValue A X rs ss g f) vs ≡ apply PartValue X ss (f (apply PartValue A rs g (first_values rs ss vs))) (later_values rs ss vs)
apply_split A X [] ss g f vs = refl
apply_split A X (silent x ∷ rs) ss g f vs = apply_split A X rs ss g f vs
apply_split A X (token x ∷ rs) ss g f vs = apply_split A X rs ss (g vs.0) f vs.1
apply_split A X (part p ∷ rs) ss g f vs = apply_split A X rs ss (g vs.0) f vs.1
