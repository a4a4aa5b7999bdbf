use Rattle.std.proofs.Common.{List, map, Some, ap, subst, ◌∙◌}
use Rattle.std.proofs.lemmas.Result.{on_ok_weaker}
use Rattle.dy_label.specs.Labels.{Nobody}
use Rattle.dy_syntax.specs.Names.{Nm}
use Rattle.dy_syntax.specs.Meaning.{nm_of}
use Rattle.dy_typing.specs.Knowledge.{add_event}
use Rattle.dy_check.specs.Meaning.{knowledge_of, nm_ref_of}
use Rattle.dy_check.specs.Tables.{KnowledgeHasTables}
use Rattle.dy_check.proofs.effects.statements.after_event.Goals as goal

pub returns : goal.returns
returns c = on_ok_weaker c.add_event.result (λ h k t.
    subst (λ (names : List Nm). KnowledgeHasTables (add_event k c.args.atom.now.event.word (Some names) Nobody) (knowledge_of c.add_event.new.self))
    (ap (map nm_ref_of) c.as_slice-2.ensures ∙ c.in_ok-args.ensures ∙ ap (map nm_of) c.as_slice.ensures)
    (h k Nobody t c.nobody_table-guard.ensures)) c.add_event.ensures
