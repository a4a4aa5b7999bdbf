use Rattle.std.proofs.Common.{◌≡◌, ℕ, List, [], ◌∷◌, map, drop, ap, sym, ◌∙◌, subst, arith, length-append}
use Rattle.dy_syntax.specs.Meaning.{event_of}
use Rattle.dy_entry.specs.Meaning.{entry_of}
use Rattle.dy_derive.specs.KnowledgeMeaning.{nonces_of}
use Rattle.dy_know.specs.MirrorAuditors.{Keeps}
use Rattle.dy_know.proofs.Audited.{not_yet, known_before}
use Rattle.dy_know.proofs.Pushed.{keeps_cut, err_fact, ok_fact}
use Rattle.dy_know.proofs.auditors.Auditor.add.Goals as goal

pub returns-then-is_err-clause-err : goal.returns-then-is_err-clause-err
returns-then-is_err-clause-err c = λ decls T explained.
    let self = c.args.self.now in
    let known = nonces_of self.knowledge in
    record {
      knowledge = explained.knowledge;
      events_are = explained.events_are;
      notes = keeps_cut known (drop self.pending known) decls T self.notes c.cut.new.self (c.cut.ensures self.notes c.marks-marks.ensures c.add-added.ensures.extends) explained.notes;
    }

pub returns-then-is_err-2-clause-err : goal.returns-then-is_err-2-clause-err
returns-then-is_err-2-clause-err c = λ decls T explained.
    let self = c.args.self.now in
    let cut = c.cut-then-is_err-2.new.self in
    let refused = sym c.is_err-2.ensures.value ∙ c.if-is_err-2.true in
    let same : nonces_of c.push-pushed.new.self ≡ nonces_of self.knowledge = err_fact c.push-pushed.result refused c.push-pushed.ensures.same in
    record {
      knowledge = err_fact c.push-pushed.result refused c.push-pushed.ensures.err T explained.knowledge;
      events_are = explained.events_are;
      notes = subst (λ (known : List ℕ). Keeps cut known (drop self.pending known) decls T) (sym same)
          (keeps_cut (nonces_of self.knowledge) (drop self.pending (nonces_of self.knowledge)) decls T self.notes cut
          (c.cut-then-is_err-2.ensures self.notes c.marks-marks.ensures c.add-added.ensures.extends) explained.notes);
    }

pub returns-clause-ok : goal.returns-clause-ok
returns-clause-ok c = λ decls T first explained.
    let self = c.args.self.now in
    let e = entry_of c.args.entry.now in
    let known = nonces_of self.knowledge in
    record {
      knowledge = ok_fact c.push-pushed.result (sym c.is_err-2.ensures.value ∙ c.if-is_err-2.false) c.push-pushed.ensures.ok T explained.knowledge;
      events_are = explained.events_are;
      known = known;
      notes = ok_fact c.add-added.result (sym c.is_err.ensures.value ∙ c.if-is_err.false) c.add-added.ensures.ok known decls T
          (ap (map event_of) c.as_slice.ensures.value ∙ explained.events_are) (not_yet T e known first explained.derived) explained.notes;
      pending_is = explained.pending_is;
      more = c.push-pushed.ensures.prefix.0;
      nonces_are = c.push-pushed.ensures.prefix.1;
      before = known_before T e known explained.all;
      is_last = omega (arith, length-append T (e ∷ []));
    }
