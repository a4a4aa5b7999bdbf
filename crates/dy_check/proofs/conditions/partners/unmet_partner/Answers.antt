use Rattle.std.proofs.Common.{map, sym}
use Rattle.dy_syntax.specs.Meaning.{decl_of, event_of}
use Rattle.dy_check.proofs.ShortDecls.{short_event}
use Rattle.dy_check.proofs.conditions.partners.unmet_partner.Goals as goal

pub unmet_after-requires : goal.unmet_after-requires
unmet_after-requires c = short_event (map decl_of c.args.setting.now.cases.now) c.args.atom.now.event.word (event_of c.in-Some.event.now) c.requires (sym c.in-Some.ensures)
