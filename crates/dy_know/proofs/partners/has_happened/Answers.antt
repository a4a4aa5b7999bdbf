use Rattle.std.proofs.Common.{◌≡◌, true, Some, inl, inr, refl, ap, ◌∙◌, subst, arith}
use Rattle.std.specs.List.{slice_get}
use Rattle.std.specs.Str.{bytes_eq}
use Rattle.std.proofs.lemmas.Bool.{cases_order}
use Rattle.std.proofs.lemmas.Option.{slice_get_within}
use Rattle.std.proofs.lemmas.Slice.Eq.{bytes_eq-Decides}
use Rattle.dy_syntax.specs.Meaning.{atom_of, event_of}
use Rattle.dy_sound.specs.Words.{event_words, args_meant}
use Rattle.dy_know.specs.declared.happened.Happened.{Happened}
use Rattle.dy_know.proofs.Lists.{place_of}
use Rattle.dy_know.proofs.Placed.{read_at, named_not}
use Rattle.dy_know.proofs.partners.has_happened.Goals.{else-same-via-then-same+else-is_event, else-same-via-else-same}
use Rattle.dy_know.proofs.partners.has_happened.Goals as goal

pub loop-one-preserved : goal.loop-one-preserved
loop-one-preserved c = λ k h below at name_is args_are.
    let happened = c.args.happened.now in
    let i = c.loop-one.one-index in
    let one = c.one-item.result in
    let word = c.args.atom.now.event.word in
    elim (cases_order k i) [
      | inl same ↦
          let here : slice_get happened i ≡ Some one = read_at happened happened i one refl c.loop-one-test.true c.one-item.is in
          let is : one ≡ h = cc (here, subst (λ n. slice_get happened n ≡ Some h) same at) in
          let named : bytes_eq one.name word ≡ true = (bytes_eq-Decides one.name word).1 (ap (λ (x : Happened). x.name) is ∙ name_is) in
          elim c.else-same.branch [
            | else-same-via-then-same+else-is_event w ↦
                named_not (args_meant (event_words (event_of c.args.event.now) c.args.args.now) (atom_of c.args.atom.now)) one.args h.args w.is_event.result w.if-is_event.false
                (ap (λ (x : Happened). x.args) is) w.is_event.ensures args_are
            | else-same-via-else-same w ↦ cc (named, c.same.ensures, w.if-same.false)
          ]
      | inr order ↦ elim order [ inl less ↦ c.loop-one.invariant k h less at name_is args_are | inr more ↦ absurd (omega (arith, below, more)) ]
    ]

pub returns-clause-no : goal.returns-clause-no
returns-clause-no c = λ _ has.
    let at = place_of c.args.happened.now (record { name = c.args.atom.now.event.word; args = has.args }) has.among in
    let within = slice_get_within c.args.happened.now at.0 (record { name = c.args.atom.now.event.word; args = has.args }) at.1 in
    c.loop-one.invariant at.0 (record { name = c.args.atom.now.event.word; args = has.args }) (omega (arith, within, c.loop-one-test.false)) at.1 refl has.args_are
