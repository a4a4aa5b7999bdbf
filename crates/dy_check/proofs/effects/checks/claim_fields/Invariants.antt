use Rattle.std.proofs.Common.{map, take, fold, zip, None}
use Rattle.dy_label.specs.Words.{StaticLabel}
use Rattle.dy_syntax.specs.Meaning.{nm_of, field_of}
use Rattle.dy_types.specs.Tables.{HasTable}
use Rattle.dy_typing.specs.Knowledge.{Knowledge}
use Rattle.dy_typing.specs.Instances.{type_in}
use Rattle.dy_typing.specs.Effects.{add_checked}
use Rattle.dy_check.specs.Meaning.{knowledge_of}
use Rattle.dy_check.specs.MirrorNames.{numbers_of}
use Rattle.dy_check.specs.Tables.{KnowledgeHasTables}
use Rattle.dy_check.proofs.effects.checks.claim_fields.Given as goal

-- the arguments so far are claimed to be what their fields say
abbrev pub invariant-loop-i : goal.invariant-loop-i
invariant-loop-i l =
    (k : Knowledge) (label : StaticLabel) → KnowledgeHasTables k (knowledge_of l.initial.known) → HasTable label l.guard
    → KnowledgeHasTables (fold (add_checked label) k (zip (map nm_of (take l.i l.args)) (take l.i (map (λ field. type_in (numbers_of l.naming) None field.kind) (map field_of l.fields))))) (knowledge_of l.known)
