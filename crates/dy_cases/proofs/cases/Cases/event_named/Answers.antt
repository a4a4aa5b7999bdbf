use Rattle.std.proofs.Common.{◌∙◌, map, refl, sym, ap}
use Rattle.std.specs.Option.{option_map}
use Rattle.dy_syntax.specs.Meaning as meaning
use Rattle.dy_syntax.specs.Meaning.{decl_of}
use Rattle.dy_cases.specs.MirrorTables.{event_at}
use Rattle.dy_cases.proofs.FirstFound.{option_map-copied}
use Rattle.dy_cases.proofs.Named.{event_named-find}
use Rattle.dy_cases.proofs.cases.Cases.event_named.Goals as goal

pub returns : goal.returns
returns c =
    option_map-copied meaning.event_of c.copied.result
    ∙ ap (option_map event_at) (c.copied.ensures ∙ c.get.ensures.value)
    ∙ c.self.invariant.events c.as_bytes.result.now
    ∙ sym (event_named-find (map decl_of c.self.inside.decls.now) c.as_bytes.result.now)
    ∙ rw (c.as_bytes.ensures.bytes, c.self.view_is) refl
