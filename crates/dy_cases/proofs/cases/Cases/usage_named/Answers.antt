use Rattle.std.proofs.Common.{◌∙◌, map, refl, sym, ap}
use Rattle.std.specs.Option.{option_map}
use Rattle.dy_syntax.specs.Meaning as meaning
use Rattle.dy_syntax.specs.Meaning.{decl_of}
use Rattle.dy_cases.specs.MirrorTables.{usage_at}
use Rattle.dy_cases.proofs.FirstFound.{option_map-copied}
use Rattle.dy_cases.proofs.Named.{usage_named-find}
use Rattle.dy_cases.proofs.cases.Cases.usage_named.Goals as goal

pub returns : goal.returns
returns c =
    option_map-copied meaning.usage_of c.copied.result
    ∙ ap (option_map usage_at) (c.copied.ensures ∙ c.get.ensures.value)
    ∙ c.self.invariant.usages c.as_bytes.result.now
    ∙ sym (usage_named-find (map decl_of c.self.inside.decls.now) c.as_bytes.result.now)
    ∙ rw (c.as_bytes.ensures.bytes, c.self.view_is) refl
