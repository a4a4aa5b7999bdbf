-- What a derivation of the typing rules came from.
use Rattle.std.proofs.Common.{◌≡◌, List, [], ◌∷◌, ◌++◌, ◌⊎◌, inl, inr, refl, subst}
use Rattle.dy_syntax.specs.Statements.{Statement}
use Rattle.dy_typing.specs.Names.{Setting}
use Rattle.dy_typing.specs.Knowledge.{Knowledge, IsWeakerKnowledge}
use Rattle.dy_typing.specs.Demands.{demands_of}
use Rattle.dy_typing.specs.Conditions.{AreMet}
use Rattle.dy_typing.specs.Effects.{after}
use Rattle.dy_typing.specs.Typing.{Derives, begins, weakens, goes_on}
use Rattle.dy_sound.specs.LawsBelow.{LawsBelow}

-- What is known after a statement is no stronger than what follows from something known before it, whose demands were met.
pub record CameFrom (setting : Setting) (start : Knowledge) (done : List Statement) (statement : Statement)
    (k : Knowledge) : Type 0 where
  pub before : Knowledge
  pub reached : Derives setting start done before
  pub are_met : AreMet setting.decls before (demands_of setting statement.act)
  pub no_stronger : IsWeakerKnowledge (after setting before statement.act) k

-- one more is not none
pub not_none : {A : Type 0} (xs : List A) (x : A) → [] ≡ xs ++ x ∷ [] → ⊥
not_none [] x same = absurd cc
not_none (y ∷ ys) x same = absurd cc

-- Two lists with one more are the same only where both are.
pub same_last : {A : Type 0} (xs ys : List A) (x y : A) → xs ++ x ∷ [] ≡ ys ++ y ∷ [] → (xs ≡ ys) × (x ≡ y)
same_last [] [] x y same = (refl, cc)
same_last [] (z ∷ zs) x y same = let rest : [] ≡ zs ++ y ∷ [] = cc in absurd (not_none zs y rest)
same_last (z ∷ zs) [] x y same = let rest : [] ≡ zs ++ x ∷ [] = cc in absurd (not_none zs x rest)
same_last (z ∷ zs) (w ∷ ws) x y same =
    let rest : zs ++ x ∷ [] ≡ ws ++ y ∷ [] = cc in
    let first : z ≡ w = cc in
    let parts = same_last zs ws x y rest in
    let others = parts.0 in
    (cc, parts.1)

module _ (below : LawsBelow) (setting : Setting) (start : Knowledge) where
  pub came_from : (all : List Statement) (k : Knowledge) → Derives setting start all k → (done : List Statement) (statement : Statement)
      → all ≡ done ++ statement ∷ [] → CameFrom setting start done statement k
  came_from [] k begins done statement same = absurd (not_none done statement same)
  came_from all k (weakens {k = stronger} weaker derived weak) done statement same =
      let from = came_from all stronger derived done statement same in
      record { before = from.before; reached = from.reached; are_met = from.are_met; no_stronger = below.weaker_onward (after setting from.before statement.act) stronger k from.no_stronger weak }
  came_from all k (goes_on {done = prefix} {k = known} last derived met) done statement same =
      let parts = same_last prefix done last statement same in
      record {
        before = known;
        reached = subst (λ (d : List Statement). Derives setting start d known) parts.0 derived;
        are_met = subst (λ (s : Statement). AreMet setting.decls known (demands_of setting s.act)) parts.1 met;
        no_stronger = subst (λ (s : Statement). IsWeakerKnowledge (after setting known s.act) (after setting known last.act)) parts.1 (below.no_weaker_than_itself (after setting known last.act));
      }

  -- What goes on after some statements has passed them.
  pub known_earlier : (all : List Statement) (k : Knowledge) → Derives setting start all k → (done more : List Statement)
      → all ≡ done ++ more → (known : Knowledge) × Derives setting start done known
  known_earlier all k derived [] more same = (start, begins)
  known_earlier [] k begins (first ∷ before) more same = absurd cc
  known_earlier all k (weakens {k = stronger} weaker derived weak) (first ∷ before) more same = known_earlier all stronger derived (first ∷ before) more same
  known_earlier all k (goes_on {done = prefix} {k = known} last derived met) (first ∷ before) more same =
      elim (last_or_before more prefix last (first ∷ before) same) [
        | inl all_of ↦ (after setting known last.act, subst (λ (d : List Statement). Derives setting start d (after setting known last.act)) all_of (goes_on last derived met))
        | inr earlier ↦ known_earlier prefix known derived (first ∷ before) earlier.0 earlier.1
      ] where
        last_or_before : (more prefix : List Statement) (last : Statement) (done : List Statement) → prefix ++ last ∷ [] ≡ done ++ more
            → (prefix ++ last ∷ [] ≡ done) ⊎ ((rest : List Statement) × (prefix ≡ done ++ rest))
        last_or_before more prefix last [] same = inr (prefix, refl)
        last_or_before more [] last (d ∷ []) same = let first : last ≡ d = cc in inl cc
        last_or_before more [] last (d ∷ (e ∷ ds)) same = absurd cc
        last_or_before more (p ∷ ps) last (d ∷ ds) same =
            let rest : ps ++ last ∷ [] ≡ ds ++ more = cc in
            let first : p ≡ d = cc in
            elim (last_or_before more ps last ds rest) [
              | inl all_of ↦ inl cc
              | inr earlier ↦ let others = earlier.1 in inr (earlier.0, cc)
            ]
