-- One statement more, as in a loop.
use Rattle.std.proofs.Common.{◌≡◌, ℕ, ◌+◌, ◌<◌, List, [], ◌∷◌, ◌++◌, map, take, drop, length, get_or, fold, refl, sym, ap, ◌∙◌}
use Rattle.std.proofs.lemmas.List.{take-append-drop, drop_more, map-append}
use Rattle.std.proofs.lemmas.List.Sums.{fold-append}
use Rattle.dy_syntax.specs.Statements.{Statement}
use Rattle.dy_typing.specs.Names.{Setting}
use Rattle.dy_typing.specs.Knowledge.{Knowledge}
use Rattle.dy_typing.specs.Demands.{demands_of}
use Rattle.dy_typing.specs.Conditions.{AreMet}
use Rattle.dy_typing.specs.Effects.{after}
use Rattle.dy_typing.specs.Strongest.{after_all, AllMet}

-- a list, with one of its elements between those before it and those after it
pub parted_at : {A B : Type 0} (f : A → B) (xs : List A) (i : ℕ) (x : A) → i < length xs → x ≡ get_or xs i x
    → map f xs ≡ map f (take i xs) ++ f x ∷ map f (drop (i + 1) xs)
parted_at f xs i x below is =
    ap (map f) (sym (take-append-drop i xs)) ∙ map-append f (take i xs) (drop i xs)
    ∙ ap (λ ys. map f (take i xs) ++ map f ys) (drop_more xs i x below ∙ ap (λ y. y ∷ drop (i + 1) xs) (sym is))

module _ (setting : Setting) where
  pub after_all-more : (k : Knowledge) (statements : List Statement) (statement : Statement)
      → after_all setting k (statements ++ statement ∷ []) ≡ after setting (after_all setting k statements) statement.act
  after_all-more k statements statement =
      fold-append (λ (known : Knowledge) (s : Statement). after setting known s.act) k statements (statement ∷ [])

  pub AllMet-more : (k : Knowledge) (statements : List Statement) (statement : Statement) → AllMet setting k statements
      → AreMet setting.decls (after_all setting k statements) (demands_of setting statement.act)
      → AllMet setting k (statements ++ statement ∷ [])
  AllMet-more k [] statement met more = (more, tt)
  AllMet-more k (first ∷ statements) statement met more =
      (met.0, AllMet-more (after setting k first.act) statements statement met.1 more)
