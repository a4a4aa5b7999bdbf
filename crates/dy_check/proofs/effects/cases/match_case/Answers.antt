use Rattle.std.proofs.Common.{map, Option, subst}
use Rattle.std.specs.Option.{option_map_or}
use Rattle.std.proofs.lemmas.Result.{on_ok_weaker}
use Rattle.dy_syntax.specs.Declarations.{CaseDecl}
use Rattle.dy_syntax.specs.Meaning.{nm_of, pattern_of}
use Rattle.dy_typing.specs.Effects.{open_case}
use Rattle.dy_check.specs.Meaning.{knowledge_of, setting_of}
use Rattle.dy_check.specs.MirrorOpenings.{known_by}
use Rattle.dy_check.specs.Tables.{KnowledgeHasTables}
use Rattle.dy_check.proofs.effects.cases.match_case.Goals as goal

pub returns-in-Some : goal.returns-in-Some
returns-in-Some c = on_ok_weaker c.open_case.result (λ h k way hi guard t o.
    subst (λ (found : Option CaseDecl). KnowledgeHasTables
    (option_map_or (open_case (setting_of c.args.setting.now) k (known_by way hi guard) guard (map nm_of c.args.usage.now.args) (map pattern_of c.args.pats.now)) found k)
    (knowledge_of c.open_case.new.known))
    c.in-Some.ensures (rw c.as_slice.ensures at (h k way hi guard t o))) c.open_case.ensures
