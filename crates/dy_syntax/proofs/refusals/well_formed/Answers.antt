use Rattle.std.proofs.Common.{◌∙◌, ap, sym}
use Rattle.std.specs.Option.{option_map}
use Rattle.dy_syntax.specs.Meaning.{file_of}
use Rattle.dy_syntax.specs.MirrorMeaning.{fault_of}
use Rattle.dy_syntax.proofs.FirstFaults.{well_formed_at_none, first_at_some}
use Rattle.dy_syntax.proofs.refusals.well_formed.Goals as goal

pub returns-in-None-clause-well_formed : goal.returns-in-None-clause-well_formed
returns-in-None-clause-well_formed c = well_formed_at_none (file_of c.args.file.now) (sym c.in-Ok.ensures ∙ ap (option_map fault_of) c.in-None.is)

pub returns-in-Some-clause-refused : goal.returns-in-Some-clause-refused
returns-in-Some-clause-refused c = first_at_some (file_of c.args.file.now) (fault_of c.in-Some.fault) (sym c.in-Ok.ensures ∙ ap (option_map fault_of) c.in-Some.is)
