use Rattle.std.proofs.Common.{map, sym}
use Rattle.dy_syntax.specs.Meaning.{decl_of, case_of}
use Rattle.dy_check.proofs.ShortDecls.{short_case}
use Rattle.dy_check.proofs.conditions.events.unmet_event.Goals as goal

pub unmet_case_event-requires : goal.unmet_case_event-requires
unmet_case_event-requires c = short_case (map decl_of c.args.setting.now.cases.now) _ _ (case_of c.in-Some.case.now) c.requires (sym c.in-Some.ensures)
