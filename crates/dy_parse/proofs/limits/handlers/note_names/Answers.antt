use Rattle.dy_syntax.specs.Meaning.{handler_of}
use Rattle.dy_parse.specs.declared.errors.LimitName.TheVariants.{Names}
use Rattle.dy_parse.specs.Limits.{names_of}
use Rattle.dy_parse.proofs.LimitLaws.Folds.{counted}
use Rattle.dy_parse.proofs.limits.handlers.note_names.Goals as goal

pub returns : goal.returns
returns c = rw (← counted Names (names_of (handler_of c.args.handler.now)) c.most.result c.most.ensures, ← c.count_names-names.ensures) c.note_count.ensures
