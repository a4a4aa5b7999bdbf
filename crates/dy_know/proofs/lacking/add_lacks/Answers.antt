use Rattle.std.proofs.Common.{◌≡◌, ◌+◌, ◌++◌, List, [], ◌∷◌, length, take, Some, ap, sym, ◌∙◌, subst, arith, append_assoc}
use Rattle.std.specs.List.{slice_get}
use Rattle.std.proofs.lemmas.Grind.{common_steps}
use Rattle.std.proofs.lemmas.List.{append-nil, length-map}
use Rattle.dy_label.specs.LabelsMeaning.{places_of}
use Rattle.dy_syntax.specs.Meaning.{event_of, partner_of}
use Rattle.dy_sound.specs.Words.{event_words}
use Rattle.dy_know.specs.declared.happened.Lack.{Lack}
use Rattle.dy_know.specs.MirrorEvents.{ListsLacks}
use Rattle.dy_know.proofs.Happenings.{lists_start, lists_there, lists_lacking, lists_end, partner_there, partner_among}
use Rattle.dy_know.proofs.Placed.{mapped_at}
use Rattle.dy_know.proofs.lacking.add_lacks.Goals.{then-not-branch+in_ok-push, else-not-branch}
use Rattle.dy_know.proofs.lacking.add_lacks.Goals as goal

pub loop-place-init : goal.loop-place-init
loop-place-init c = record {
  lists = λ decls T is_at start. lists_start decls T c.args.index c.args.lacks.now.items start;
  extends = ([], sym (append-nil c.args.lacks.now.items));
}

pub loop-place-preserved : goal.loop-place-preserved
loop-place-preserved c =
    let index = c.args.index in
    let place = c.loop-place.place in
    let lacks = c.loop-place.lacks.items in
    let old = c.args.lacks.now.items in
    let event = event_of c.args.event.now in
    let args = c.args.args.now in
    let words = event_words event args in
    let happened = c.args.happened.now in
    let places = places_of c.args.corruptions.now in
    let partner = partner_of c.partner-item.result in
    let at : slice_get event.after place ≡ Some partner =
    mapped_at partner_of c.as_slice-partner-items.result.now c.args.event.now.after place c.partner-item.result c.as_slice-partner-items.ensures c.loop-place-test.true c.partner-item.is in
    let so_far = c.loop-place.invariant in
    elim c.if-not-branch.branch [
      | then-not-branch+in_ok-push w ↦
          let lack : Lack = record { event = index; partner = c.in-Ok.number } in
          let number_is : c.in-Ok.number ≡ place + 1 = c.in-Ok.ensures.1 in
          let pushed : c.if-not-branch.lacks.items ≡ lacks ++ lack ∷ [] = grind (arith, common_steps, w.in_ok-push.ensures, w.lacks-is) in
          record {
            lists = λ decls T is_at start.
                subst (λ (l : List Lack). ListsLacks decls T index (place + 1 + 1) l) (sym pushed)
                (lists_lacking decls T index place event args happened places partner lacks lack is_at at
                (λ has. c.in_ok-has_partner.ensures.no w.if-not-branch.true (partner_among (take index T) happened places words partner is_at.happened_before is_at.corrupted_before has))
                (ap (λ n. record { event = index; partner = n }) number_is) (so_far.lists decls T is_at start));
            extends = (
              so_far.extends.0 ++ lack ∷ [],
              pushed ∙ ap (λ (l : List Lack). l ++ lack ∷ []) so_far.extends.1 ∙ append_assoc old so_far.extends.0 (lack ∷ []),
            );
          }
      | else-not-branch w ↦ record {
        lists = λ decls T is_at start.
            rw w.lacks-is (lists_there decls T index place event args happened places partner lacks is_at at
            (partner_there (take index T) happened places words partner is_at.happened_before is_at.corrupted_before (c.in_ok-has_partner.ensures.yes w.if-not-branch.false))
            (so_far.lists decls T is_at start));
        extends = rw w.lacks-is so_far.extends;
      }
    ]

pub returns-clause-ok : goal.returns-clause-ok
returns-clause-ok c = λ decls T is_at start.
    let event = event_of c.args.event.now in
    let lacks = c.loop-place.lacks.items in
    let last : c.loop-place.place + 1 ≡ length event.after + 1 =
    omega (arith, c.loop-place-test.false, c.loop-place.auto.place-end, length-map c.args.event.now.after partner_of, ap length c.as_slice-partner-items.ensures) in
    lists_end decls T c.args.index event c.args.args.now c.args.happened.now (places_of c.args.corruptions.now) lacks is_at
    (subst (λ n. ListsLacks decls T c.args.index n lacks) last (c.loop-place.invariant.lists decls T is_at start))
