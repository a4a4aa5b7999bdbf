use Rattle.std.proofs.Common.{◌≡◌, ◌∙◌, ap, sym, map}
use Rattle.dy_label.specs.MirrorRuns.{run_of, label_in, last_node}
use Rattle.dy_label.specs.MirrorRuns as runs
use Rattle.dy_label.specs.MirrorNodes.{node_of}
use Rattle.dy_label.proofs.LabelParts.{label_of_parts}
use Rattle.dy_label.proofs.labels.LabelView.shape.Goals as goal

pub returns-in-Join-default : goal.returns-in-Join-default
returns-in-Join-default c =
    let label = label_in (map node_of c.self.inside.nodes.now) in
    let end : runs.Join c.in-Join-default.field-0-0 ≡ last_node label = ap node_of (sym c.in-Join-default.is-0) ∙ c.split_run.ensures.last in
    label_of_parts label c.two_views-first.result.0 c.two_views-first.result.1 (runs.Join c.in-Join-default.field-0-0) end (sym c.two_views-first.ensures ∙ c.split_run.ensures.parts) ∙ c.self.view_is

pub returns-in-Meet-default : goal.returns-in-Meet-default
returns-in-Meet-default c =
    let label = label_in (map node_of c.self.inside.nodes.now) in
    let end : runs.Meet c.in-Meet-default.field-0-0 ≡ last_node label = ap node_of (sym c.in-Meet-default.is-0) ∙ c.split_run.ensures.last in
    label_of_parts label c.two_views-first-in-Meet-default.result.0 c.two_views-first-in-Meet-default.result.1 (runs.Meet c.in-Meet-default.field-0-0) end (sym c.two_views-first-in-Meet-default.ensures ∙ c.split_run.ensures.parts) ∙ c.self.view_is
