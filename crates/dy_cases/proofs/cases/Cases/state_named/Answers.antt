use Rattle.std.proofs.Common.{◌∙◌, map, refl, sym, ap}
use Rattle.std.specs.Option.{option_map}
use Rattle.dy_syntax.specs.Meaning as meaning
use Rattle.dy_syntax.specs.Meaning.{decl_of}
use Rattle.dy_cases.specs.MirrorTables.{state_at}
use Rattle.dy_cases.proofs.FirstFound.{option_map-copied}
use Rattle.dy_cases.proofs.Named.{state_named-find}
use Rattle.dy_cases.proofs.cases.Cases.state_named.Goals as goal

pub returns : goal.returns
returns c =
    option_map-copied meaning.state_of c.copied.result
    ∙ ap (option_map state_at) (c.copied.ensures ∙ c.get.ensures.value)
    ∙ c.self.invariant.states c.as_bytes.result.now
    ∙ sym (state_named-find (map decl_of c.self.inside.decls.now) c.as_bytes.result.now)
    ∙ rw (c.as_bytes.ensures.bytes, c.self.view_is) refl
