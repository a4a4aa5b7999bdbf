use Rattle.std.proofs.Common.{◌≡◌, ◌+◌, List, [], ◌∷◌, ◌++◌, Some, None, ap, sym, ◌∙◌, subst}
use Rattle.dy_label.specs.LabelsMeaning.{places_of}
use Rattle.dy_syntax.specs.Meaning.{event_of}
use Rattle.dy_know.specs.declared.happened.Happened.{Happened}
use Rattle.dy_know.specs.declared.happened.Lack.{Lack}
use Rattle.dy_know.specs.declared.notes.Notes.{Notes}
use Rattle.dy_know.specs.MirrorEvents.{ListsLacks, IsEventAt}
use Rattle.dy_know.proofs.notes.Notes.add_event.Goals.{in-Some+in_ok-add_lacks, in_default}
use Rattle.dy_know.proofs.notes.Notes.add_event.Goals as goal

some_none : {A : Type 0} {x : A} → Some x ≡ None → ⊥
some_none is = cc

some_same : {A : Type 0} {x y : A} → Some x ≡ Some y → x ≡ y
some_same is = cc

pub returns-clause-ok : goal.returns-clause-ok
returns-clause-ok c =
    let args = c.args.args.now in
    let name = c.args.name.now in
    let index = c.args.index in
    let pushed = c.in_ok-push.ensures.items in
    let made : Happened = record { name = c.copy.result; args = c.in_ok-terms_copy.field-0 } in
    let wanted : Happened = record { name = name; args = args } in
    let added : made ≡ wanted = cc (c.copy.ensures, c.in_ok-terms_copy.ensures) in
    elim c.match-event_called.branch [
      | in-Some+in_ok-add_lacks w ↦
          let event = event_of w.in-Some.event.now in
          record {
            secrets = ap (λ (n : Notes). n.secrets.items) w.self-is;
            corruptions = ap (λ (n : Notes). n.corruptions.items) w.self-is;
            happened = pushed ∙ ap (λ (n : Notes). n.happened.items ++ made ∷ []) w.self-is
                ∙ ap (λ (h : Happened). c.args.self.now.happened.items ++ h ∷ []) added;
            breaches = ap (λ (n : Notes). n.breaches) w.self-is;
            unnamed = λ none. absurd (some_none (w.in-Some.ensures ∙ none));
            lacks = λ event' named decls T is_at lists.
                let same : event ≡ event' = some_same (w.in-Some.ensures ∙ named) in
                let still : IsEventAt decls T index event args w.as_slice.result.now (places_of w.as_slice-in-Some.result.now) =
                rw (same, w.as_slice.ensures.value, w.as_slice-in-Some.ensures.value) is_at in
                subst (λ (ls : List Lack). ListsLacks decls T (index + 1) 0 ls) (sym (ap (λ (n : Notes). n.lacks.items) w.self-is)) (w.in_ok-add_lacks.ensures.ok decls T still lists);
          }
      | in_default w ↦ record {
        secrets = ap (λ (n : Notes). n.secrets.items) w.self-is;
        corruptions = ap (λ (n : Notes). n.corruptions.items) w.self-is;
        happened = pushed ∙ ap (λ (n : Notes). n.happened.items ++ made ∷ []) w.self-is
            ∙ ap (λ (h : Happened). c.args.self.now.happened.items ++ h ∷ []) added;
        breaches = ap (λ (n : Notes). n.breaches) w.self-is;
        unnamed = λ none. ap (λ (n : Notes). n.lacks.items) w.self-is;
        lacks = λ event' named. absurd (some_none (sym named ∙ sym w.in_default.ensures));
      }
    ]
