use Rattle.std.proofs.Common.{drop, arith}
use Rattle.dy_derive.specs.KnowledgeMeaning.{nonces_of}
use Rattle.dy_know.proofs.OneReport.{count_of_notes}
use Rattle.dy_know.proofs.Audited.{few_breaches}
use Rattle.dy_know.proofs.auditors.Auditor.breaches.Goals as goal

pub returns : goal.returns
returns c = λ decls T report audits is.
    let auditor = c.args.self.now in
    let notes = audits.notes in
    let count = count_of_notes (nonces_of auditor.knowledge) (drop auditor.pending (nonces_of auditor.knowledge)) decls T auditor.notes.secrets.items auditor.notes.lacks.items report
    notes.secrets (c.knows_all.ensures T audits.knowledge) notes.lacks is in
    let few = few_breaches auditor.notes.secrets.items in
    omega (arith, count, few, c.len-lacks.ensures, c.saturating_add.ensures, notes.secrets.one_each, notes.few, notes.breaches_are, auditor.notes.lacks.ok, auditor.notes.lacks.small)
