-- How a grammar is written down: each part has rules, and a rule begins with a token.
use Rattle.std.specs.Prelude.{List, [], ◌∷◌, ◌++◌}
use Rattle.dy_grammar.specs.Terminals.{Terminal, TokenValue}

-- what a rule asks for in turn: a token of which nothing is kept, a token that is kept, a part
pub data Sym (P : Type 0) : Type 0 where
  silent : (x : Terminal) → Sym P
  token : (x : Terminal) → Sym P
  part : (p : P) → Sym P

-- a function of all that is kept
abbrev pub Takes : {P : Type 0} → (P → Type 0) → List (Sym P) → Type 0 → Type 0
Takes V [] X = X
Takes V (silent x ∷ ss) X = Takes V ss X
Takes V (token x ∷ ss) X = TokenValue x → Takes V ss X
Takes V (part p ∷ ss) X = V p → Takes V ss X

-- a rule: its first token, what follows, and what they make
pub record Rule (P : Type 0) (V : P → Type 0) (X : Type 0) : Type 0 where
  pub first : Terminal
  pub more : List (Sym P)
  pub make : TokenValue first → Takes V more X

abbrev pub rule : {P : Type 0} {V : P → Type 0} {X : Type 0} (first : Terminal) (more : List (Sym P))
    → (TokenValue first → Takes V more X) → Rule P V X
rule first more make = record { first = first; more = more; make = make }

-- all that is kept
abbrev pub Values : {P : Type 0} → (P → Type 0) → List (Sym P) → Type 0
Values V [] = Unit {0}
Values V (silent x ∷ ss) = Values V ss
Values V (token x ∷ ss) = TokenValue x × Values V ss
Values V (part p ∷ ss) = V p × Values V ss

-- the function of all that is kept
abbrev pub apply : {P : Type 0} (V : P → Type 0) (X : Type 0) (ss : List (Sym P)) → Takes V ss X → Values V ss → X
apply V X [] x vs = x
apply V X (silent x ∷ ss) f vs = apply V X ss f vs
apply V X (token x ∷ ss) f vs = apply V X ss (f vs.0) vs.1
apply V X (part p ∷ ss) f vs = apply V X ss (f vs.0) vs.1

-- one function after another
abbrev pub followed_by : {P : Type 0} (V : P → Type 0) (A X : Type 0) (rs ss : List (Sym P))
    → Takes V rs A → (A → Takes V ss X) → Takes V (rs ++ ss) X
followed_by V A X [] ss a f = f a
followed_by V A X (silent x ∷ rs) ss g f = followed_by V A X rs ss g f
followed_by V A X (token x ∷ rs) ss g f = λ v. followed_by V A X rs ss (g v) f
followed_by V A X (part p ∷ rs) ss g f = λ v. followed_by V A X rs ss (g v) f
