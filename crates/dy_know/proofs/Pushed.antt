-- What is kept, while an entry is pushed.
use Rattle.std.proofs.Common.{◌≡◌, ℕ, ◌-◌, ◌^◌, ◌<◌, ◌≤◌, ◌⊎◌, inl, inr, min, true, false, List, [], length, take, drop, sum_by, Result, Ok, Err, OnOk, OnErr, refl, ap, sym, ◌∙◌, arith, length-drop}
use Rattle.std.specs.Result.{is_err}
use Rattle.std.proofs.lemmas.Bool.{cases_lt}
use Rattle.std.proofs.lemmas.List.{take_all, drop_all}
use Rattle.dy_syntax.specs.Files.{Decl}
use Rattle.dy_entry.specs.Entries.{Entry}
use Rattle.dy_know.specs.declared.notes.Notes.{Notes}
use Rattle.dy_know.specs.MirrorNotes.{AreSame}
use Rattle.dy_know.specs.MirrorAuditors.{Keeps, breach_count}
use Rattle.dy_know.proofs.Lists.{in_none}
use Rattle.dy_know.proofs.KeptSecrets.{keeps_weaker}
use Rattle.dy_know.proofs.Growing.{keeps_with, keeps_same}
use Rattle.dy_know.proofs.Audited.{few_breaches}

-- the same notes, cut back, where no recipe was missing
pub keeps_cut : (known missing : List ℕ) (decls : List Decl) (T : List Entry) (old new : Notes) → AreSame old new → Keeps old known [] decls T → Keeps new known missing decls T
keeps_cut known missing decls T old new same keeps =
    let still : Keeps new known [] decls T = keeps_same known [] decls T old new same keeps in
    keeps_with known [] known missing decls T new new
    (keeps_weaker known [] missing T new.secrets.items (λ n within. absurd (in_none n within)) still.secrets) refl refl refl still.breaches_are still

-- no more breaches than fit, where there are few entries
pub count_fits : (known missing : List ℕ) (decls : List Decl) (T : List Entry) (notes : Notes) → Keeps notes known missing decls T → sum_by breach_count notes.secrets.items < 2 ^ 32
count_fits known missing decls T notes keeps = omega (arith, few_breaches notes.secrets.items, keeps.secrets.one_each, keeps.few)

-- the nonces from a place on, where the place may be past the end
pub from_place : (known nonces : List ℕ) (place from : ℕ) → nonces ≡ known → from ≡ min place (length nonces)
    → take (length nonces - from) (drop from nonces) ≡ drop place known
from_place known nonces place from same is =
    take_all (length nonces - from) (drop from nonces) (omega (arith, length-drop from nonces)) ∙ by_order (cases_lt place (length nonces)) ∙ ap (drop place) same
  where
    by_order : (place < length nonces) ⊎ (length nonces ≤ place) → drop from nonces ≡ drop place nonces
    by_order (inl less) = ap (λ n. drop n nonces) (omega (arith, is, less))
    by_order (inr more) = drop_all from nonces (omega (arith, is, more)) ∙ sym (drop_all place nonces more)

-- what a result that refuses says
pub err_fact : {A E P : Type 0} (r : Result A E) → is_err r ≡ true → OnErr r P → P
err_fact (Ok value) refuses fact = absurd cc
err_fact (Err e) refuses fact = fact

pub ok_fact : {A E P : Type 0} (r : Result A E) → is_err r ≡ false → OnOk r P → P
ok_fact (Ok value) succeeds fact = fact
ok_fact (Err e) succeeds fact = absurd cc

pub on_err : {A E P : Type 0} (r : Result A E) → P → OnErr r P
on_err (Ok value) fact = tt
on_err (Err e) fact = fact
