use Rattle.std.proofs.Common.{List, map, Option, sym, ap, subst, ◌∙◌}
use Rattle.std.specs.Option.{option_map}
use Rattle.std.proofs.lemmas.Result.{on_ok_weaker}
use Rattle.dy_syntax.specs.Names.{Nm}
use Rattle.dy_typing.specs.Knowledge.{add_event}
use Rattle.dy_check.specs.Meaning.{knowledge_of, nm_ref_of}
use Rattle.dy_check.specs.Tables.{KnowledgeHasTables}
use Rattle.dy_check.proofs.effects.events.add_atom.Goals as goal

pub returns-in-None : goal.returns-in-None
returns-in-None c = on_ok_weaker c.add_event.result (λ h k label t g.
    subst (λ (names : Option (List Nm)). KnowledgeHasTables (add_event k c.args.atom.now.event.word names label) (knowledge_of c.add_event.new.self))
    (ap (option_map (map nm_ref_of)) (sym c.in-None.is) ∙ c.in_ok-atom_names.ensures) (h k label t g)) c.add_event.ensures
