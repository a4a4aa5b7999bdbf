use Rattle.std.proofs.Common.{[], ◌∷◌, ◌++◌, length}
use Rattle.dy_entry.specs.Meaning.{entry_of}
use Rattle.dy_know.proofs.Pushed.{on_err}
use Rattle.dy_know.proofs.auditors.Auditor.push.Goals as goal

pub returns-in_err-add-clause-err : goal.returns-in_err-add-clause-err
returns-in_err-add-clause-err c = on_err c.from_residual-in_err-add.result (λ decls T audits.
    c.in_err-add.ensures.err decls T (c.in_ok-explain.ensures.ok decls T audits))

pub returns-clause-ok : goal.returns-clause-ok
returns-clause-ok c = λ decls T first audits.
    c.learn.ensures decls (T ++ entry_of c.args.entry.now ∷ []) (length T) (c.in_ok-add.ensures.ok decls T first (c.in_ok-explain.ensures.ok decls T audits))
