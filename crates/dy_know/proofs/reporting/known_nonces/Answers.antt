use Rattle.std.proofs.Common.{◌≡◌, ◌+◌, ◌++◌, ◌∷◌, [], ℕ, length, map, refl, sym, ap, ◌∙◌, subst, arith}
use Rattle.std.proofs.lemmas.Option.{slice_get_read}
use Rattle.std.proofs.lemmas.List.{map_push}
use Rattle.dy_know.specs.Knowing.{KnownFrom}
use Rattle.dy_know.specs.ReportMeaning.{known_of}
use Rattle.dy_know.specs.MirrorReports.{ListsKnownBelow}
use Rattle.dy_know.proofs.ReportLists.{lists_known_same, lists_known_push}
use Rattle.dy_know.proofs.reporting.known_nonces.Goals as goal
use Rattle.dy_know.proofs.reporting.known_nonces.Goals.{in-Some+in_ok-push, in_default-known_from}

pub loop-place-preserved : goal.loop-place-preserved
loop-place-preserved c = λ T known missing keeps.
    let secrets = c.args.secrets.now in
    let place = c.loop-place.place in
    let secret = c.index-secrets-place.result in
    let at = slice_get_read secrets (length secrets) place secret refl c.loop-place-test.true c.index-secrets-place.is in
    let before = c.loop-place.invariant T known missing keeps in
    elim c.match-known_from.branch [
      | in-Some+in_ok-push w ↦
          let item : KnownFrom = record { nonce = c.in-Ok.nonce; from = w.in-Some.from } in
          let list : map known_of c.match-known_from.known ≡ map known_of c.loop-place.known ++ item ∷ [] = ap (map known_of) (w.known-is ∙ w.in_ok-push.ensures.ok) ∙ map_push known_of c.loop-place.known _ in
          subst (ListsKnownBelow known (place + 1) T) (sym list)
          (lists_known_push known missing T secrets place w.in-Some.from secret (map known_of c.loop-place.known) item keeps at (sym c.known_from.ensures ∙ w.in-Some.is)
          (ap (λ (n : ℕ). record { nonce = n; from = w.in-Some.from }) c.in-Ok.ensures.1) before)
      | in_default-known_from w ↦
          subst (ListsKnownBelow known (place + 1) T) (ap (map known_of) (sym w.known-is))
          (lists_known_same known missing T secrets place secret (map known_of c.loop-place.known) keeps at (sym c.known_from.ensures ∙ w.in_default-known_from.is) before)
    ]

pub returns : goal.returns
returns c = λ T known missing keeps.
    let all : c.loop-place.place ≡ length T = omega (arith, c.loop-place-test.false, c.loop-place.auto.place-end, keeps.one_each) in
    subst (λ n. ListsKnownBelow known n T (map known_of c.loop-place.known)) all (c.loop-place.invariant T known missing keeps)
