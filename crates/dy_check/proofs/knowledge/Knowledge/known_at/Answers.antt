use Rattle.std.proofs.Common.{Some, Result, Ok, Err, option_map, sym, ap, subst, ◌∙◌}
use Rattle.std.specs.Result.{IfOk}
use Rattle.std.proofs.lemmas.Option.{slice_get-map}
use Rattle.dy_types.specs.Claims.{Known}
use Rattle.dy_types.specs.Meaning.{known_of}
use Rattle.dy_types.specs.Tables.{KnownHasTables}
use Rattle.dy_check.specs.Meaning.{knowledge_of}
use Rattle.dy_check.proofs.KnowledgeTables.{known_at-tables, known_at-unknown}
use Rattle.dy_check.proofs.knowledge.Knowledge.known_at.Goals as goal

if_ok : {T E : Type 0} (r : Result T E) {P Q : T → Type 0} → ((x : T) → P x → Q x) → IfOk r P → IfOk r Q
if_ok (Ok x) f h = f x h
if_ok (Err e) f h = tt

pub returns-in-Some : goal.returns-in-Some
returns-in-Some c =
    let kept = knowledge_of c.args.self.now in
    let found = slice_get-map known_of c.args.self.now.values c.args.number ∙ ap (option_map known_of) (sym c.in-Some.ensures.value) in
    if_ok c.copy.result
    (λ known same k h.
    known_at-tables k kept h c.args.number (known_of known) (found ∙ ap (λ x. Some (known_of x)) (sym same)))
    c.copy.ensures

pub returns-in-None : goal.returns-in-None
returns-in-None c =
    let kept = knowledge_of c.args.self.now in
    let found = slice_get-map known_of c.args.self.now.values c.args.number ∙ ap (option_map known_of) (sym c.in-None.ensures.value) in
    λ k h. subst (λ (known : Known). KnownHasTables known (known_of c.unknown.result)) (sym (known_at-unknown k kept h c.args.number found)) c.unknown.ensures
