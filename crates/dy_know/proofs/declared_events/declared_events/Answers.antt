use Rattle.std.proofs.Common.{◌≡◌, ◌+◌, List, [], ◌∷◌, ◌++◌, Option, None, map, take, refl, ap, sym, ◌∙◌, arith}
use Rattle.std.specs.List.{cons_option}
use Rattle.std.proofs.lemmas.Grind.{common_steps}
use Rattle.std.proofs.lemmas.List.{map_push, append-nil}
use Rattle.std.proofs.lemmas.List.Elements.{filter_map-append}
use Rattle.dy_syntax.specs.Declarations as declarations
use Rattle.dy_syntax.specs.declared.declarations.Decl.{Decl}
use Rattle.dy_syntax.specs.declared.declarations.Decl.TheVariants as code
use Rattle.dy_syntax.specs.declared.declarations.EventDecl.{EventDecl}
use Rattle.dy_syntax.specs.Meaning.{decl_of, event_of}
use Rattle.dy_eval.proofs.Drops.{map_take_next}
use Rattle.dy_know.specs.MirrorEvents.{event_in, events_in}
use Rattle.dy_know.proofs.declared_events.declared_events.Goals.{in-Event+in_ok-event_copy+in_ok-push, in_default}
use Rattle.dy_know.proofs.declared_events.declared_events.Goals as goal

-- another declaration declares no event
no_event : (decl : Decl) → ((event : EventDecl) → decl ≡ code.Event event → ⊥) → event_in (decl_of decl) ≡ None
no_event (code.Event event) other = absurd (other event refl)
no_event (code.Usage usage) other = refl
no_event (code.Case case) other = refl
no_event (code.State state) other = refl
no_event (code.Handler handler) other = refl

pub loop-decl-preserved : goal.loop-decl-preserved
loop-decl-preserved c =
    let decls = c.args.decls.now in
    let i = c.loop-decl.decl-index in
    let decl = c.decl-item.result in
    let before = events_in (map decl_of (take i decls)) in
    let more : events_in (map decl_of (take (i + 1) decls)) ≡ before ++ cons_option (event_in (decl_of decl)) [] =
    ap events_in (map_take_next decl_of decls i decl c.loop-decl-test.true c.decl-item.is) ∙ filter_map-append event_in (map decl_of (take i decls)) (decl_of decl ∷ []) in
    let joined = λ (o : Option declarations.EventDecl). before ++ cons_option o [] in
    elim c.match-decl.branch [
      | in-Event+in_ok-event_copy+in_ok-push w ↦
          let copied = w.in_ok-event_copy.field-0 in
          let pushed : c.match-decl.events.items ≡ c.loop-decl.events.items ++ copied ∷ [] = grind (arith, common_steps, w.in_ok-push.ensures, w.events-is) in
          ap (map event_of) pushed ∙ map_push event_of c.loop-decl.events.items copied
          ∙ ap (λ (l : List declarations.EventDecl). l ++ event_of copied ∷ []) c.loop-decl.invariant
          ∙ ap (λ (e : declarations.EventDecl). before ++ e ∷ []) w.in_ok-event_copy.ensures
          ∙ ap joined (sym (ap (λ (d : Decl). event_in (decl_of d)) w.in-Event.is)) ∙ sym more
      | in_default w ↦
          rw w.events-is (c.loop-decl.invariant ∙ sym (append-nil before) ∙ ap joined (sym (no_event decl w.in_default.not-Event)) ∙ sym more)
    ]
