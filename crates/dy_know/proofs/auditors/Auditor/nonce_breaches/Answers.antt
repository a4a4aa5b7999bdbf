use Rattle.std.proofs.Common.{◌≡◌, ◌+◌, ◌++◌, ◌∷◌, [], List, Option, Some, length, map, refl, sym, ap, ◌∙◌, subst, arith}
use Rattle.std.specs.List.{slice_get}
use Rattle.std.specs.Option.{option_map}
use Rattle.std.proofs.lemmas.Option.{slice_get_read}
use Rattle.std.proofs.lemmas.List.{map_push}
use Rattle.dy_know.specs.declared.reports.Breach as code
use Rattle.dy_know.specs.declared.secrets.Secret.{Secret}
use Rattle.dy_know.specs.ReportMeaning.{breach_of}
use Rattle.dy_know.specs.MirrorAuditors.{fresh_label, IsKept}
use Rattle.dy_know.specs.MirrorReports.{IsFound, ListsNonceBreaches}
use Rattle.dy_know.proofs.ReportLists.{kept_at, lists_breaches_same, lists_breaches_push}
use Rattle.dy_know.proofs.auditors.Auditor.nonce_breaches.Goals as goal
use Rattle.dy_know.proofs.auditors.Auditor.nonce_breaches.Goals.{in-Some+in_ok-push, in_default-2}

pub loop-place-preserved : goal.loop-place-preserved
loop-place-preserved c = λ T known missing stands keeps all.
    let secrets = c.args.self.now.notes.secrets.items in
    let lent = c.as_slice-secret-items.result.now in
    let place = c.loop-place.place in
    let secret = c.secret-item.result in
    let at : slice_get secrets place ≡ Some secret =
    subst (λ (xs : List (Option Secret)). slice_get xs place ≡ Some secret) c.as_slice-secret-items.ensures.value
    (slice_get_read lent (length lent) place secret refl c.loop-place-test.true c.secret-item.is) in
    let kept = kept_at known missing T secrets place secret keeps at in
    let number : c.in-Ok.nonce ≡ place = c.in-Ok.ensures.1 in
    let found : IsFound T place secret (option_map breach_of c.in_ok-breach.field-0) =
    subst (λ n. IsFound T n secret (option_map breach_of c.in_ok-breach.field-0)) number
    (c.in_ok-breach.ensures T known missing (fresh_label kept.0) stands (subst (λ n. IsKept known missing T n (fresh_label kept.0) secret) (sym number) kept.2)) in
    let before = c.loop-place.invariant T known missing stands keeps all in
    elim c.match-branch-2.branch [
      | in-Some+in_ok-push w ↦
          let item = breach_of w.in-Some.breach in
          let list : map breach_of c.match-branch-2.breaches ≡ map breach_of c.loop-place.breaches ++ item ∷ [] = ap (map breach_of) (w.breaches-is ∙ w.in_ok-push.ensures.ok) ∙ map_push breach_of c.loop-place.breaches _ in
          subst (ListsNonceBreaches (place + 1) T) (sym list)
          (lists_breaches_push known missing T secrets place secret (map breach_of c.loop-place.breaches) item keeps at
          (subst (λ (o : Option code.Breach). IsFound T place secret (option_map breach_of o)) w.in-Some.is found) before)
      | in_default-2 w ↦
          subst (ListsNonceBreaches (place + 1) T) (ap (map breach_of) (sym w.breaches-is))
          (lists_breaches_same known missing T secrets place secret (map breach_of c.loop-place.breaches) keeps all at
          (subst (λ (o : Option code.Breach). IsFound T place secret (option_map breach_of o)) w.in_default-2.is found) before)
    ]

pub returns : goal.returns
returns c = λ T known missing stands keeps all.
    let value = ap length c.as_slice-secret-items.ensures.value in
    let end : c.loop-place.place ≡ length T = omega (arith, c.loop-place-test.false, c.loop-place.auto.place-end, keeps.one_each, value) in
    subst (λ n. ListsNonceBreaches n T (map breach_of c.loop-place.breaches)) end (c.loop-place.invariant T known missing stands keeps all)
