use Rattle.std.proofs.Common.{◌≡◌, ◌<◌, map, length, Some, inl, inr, refl, ap, subst, arith}
use Rattle.std.specs.List.{slice_get}
use Rattle.std.proofs.lemmas.Bool.{cases_order}
use Rattle.std.proofs.lemmas.List.{length-map}
use Rattle.std.proofs.lemmas.Option.{slice_get_within}
use Rattle.dy_term.specs.Terms.{Term}
use Rattle.dy_syntax.specs.Names.{Nm}
use Rattle.dy_syntax.specs.Meaning.{nm_of, event_of}
use Rattle.dy_sound.specs.Words.{event_words, value_meant}
use Rattle.dy_know.proofs.Words.{each_length, each_at, each_from}
use Rattle.dy_know.proofs.Placed.{read_at, mapped_at, named_so, named_not}
use Rattle.dy_know.proofs.partners.is_event.Goals as goal

pub returns-then-wanted-given : goal.returns-then-wanted-given
returns-then-wanted-given c = λ all.
    let atom = c.args.atom.now in
    let lengths : length (map nm_of atom.args) ≡ length c.args.happened.now.args =
    each_length (value_meant (event_words (event_of c.args.event.now) c.args.args.now)) (map nm_of atom.args) c.args.happened.now.args all in
    omega (arith, lengths, length-map atom.args nm_of, ap length c.as_slice-wanted.ensures, ap length c.as_slice-given.ensures, c.if-wanted-given.true)

pub returns-then-not-stands_for : goal.returns-then-not-stands_for
returns-then-not-stands_for c = λ all.
    let W = event_words (event_of c.args.event.now) c.args.args.now in
    let atom = c.args.atom.now in
    let within_given : c.loop-i.i < length c.as_slice-given.result.now = omega (arith, c.loop-i-test.true, c.if-wanted-given.false) in
    named_not (value_meant W (nm_of c.index-wanted-i.result)) c.index-given-i.result c.index-given-i.result c.stands_for.result c.if-not-stands_for.true refl c.stands_for.ensures
    (each_at (value_meant W) (map nm_of atom.args) c.args.happened.now.args all c.loop-i.i (nm_of c.index-wanted-i.result) c.index-given-i.result
    (mapped_at nm_of c.as_slice-wanted.result.now atom.args c.loop-i.i c.index-wanted-i.result c.as_slice-wanted.ensures c.loop-i-test.true c.index-wanted-i.is)
    (read_at c.as_slice-given.result.now c.args.happened.now.args c.loop-i.i c.index-given-i.result c.as_slice-given.ensures within_given c.index-given-i.is))

pub loop-i-preserved : goal.loop-i-preserved
loop-i-preserved c = λ k name value below at at'.
    let W = event_words (event_of c.args.event.now) c.args.args.now in
    let atom = c.args.atom.now in
    let within_given : c.loop-i.i < length c.as_slice-given.result.now = omega (arith, c.loop-i-test.true, c.if-wanted-given.false) in
    elim (cases_order k c.loop-i.i) [
      | inl same ↦
          let here : slice_get (map nm_of atom.args) c.loop-i.i ≡ Some (nm_of c.index-wanted-i.result) =
          mapped_at nm_of c.as_slice-wanted.result.now atom.args c.loop-i.i c.index-wanted-i.result c.as_slice-wanted.ensures c.loop-i-test.true c.index-wanted-i.is in
          let there : slice_get c.args.happened.now.args c.loop-i.i ≡ Some c.index-given-i.result =
          read_at c.as_slice-given.result.now c.args.happened.now.args c.loop-i.i c.index-given-i.result c.as_slice-given.ensures within_given c.index-given-i.is in
          let name_is : nm_of c.index-wanted-i.result ≡ name = cc (here, subst (λ n. slice_get (map nm_of atom.args) n ≡ Some name) same at) in
          let value_is : c.index-given-i.result ≡ value = cc (there, subst (λ n. slice_get c.args.happened.now.args n ≡ Some value) same at') in
          subst (λ (y : Term). value_meant W name ≡ Some y) value_is
          (subst (λ (n : Nm). value_meant W n ≡ Some c.index-given-i.result) name_is
          (named_so (value_meant W (nm_of c.index-wanted-i.result)) c.index-given-i.result c.stands_for.result c.if-not-stands_for.false c.stands_for.ensures))
      | inr order ↦ elim order [ inl less ↦ c.loop-i.invariant k name value less at at' | inr more ↦ absurd (omega (arith, below, more)) ]
    ]

pub returns : goal.returns
returns c =
    let atom = c.args.atom.now in
    each_from (value_meant (event_words (event_of c.args.event.now) c.args.args.now)) (map nm_of atom.args) c.args.happened.now.args
    (omega (arith, length-map atom.args nm_of, ap length c.as_slice-wanted.ensures, ap length c.as_slice-given.ensures, c.if-wanted-given.false))
    (λ i x y at at'.
    let within = slice_get_within (map nm_of atom.args) i x at in
    c.loop-i.invariant i x y (omega (arith, within, length-map atom.args nm_of, ap length c.as_slice-wanted.ensures, c.loop-i-test.false)) at at')
