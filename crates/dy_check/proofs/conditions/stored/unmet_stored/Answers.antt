use Rattle.std.proofs.Common.{map, sym}
use Rattle.dy_syntax.specs.Meaning.{decl_of, state_of}
use Rattle.dy_check.proofs.ShortDecls.{short_state}
use Rattle.dy_check.proofs.conditions.stored.unmet_stored.Goals as goal

pub unmet_in_state-requires : goal.unmet_in_state-requires
unmet_in_state-requires c = short_state (map decl_of c.args.setting.now.cases.now) c.args.state.now.word (state_of c.in-Some.declared.now) c.requires (sym c.in-Some.ensures)
