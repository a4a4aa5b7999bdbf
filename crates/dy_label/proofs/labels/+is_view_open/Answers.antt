use Rattle.std.proofs.Common.{◌∙◌, ap, sym, map}
use Rattle.dy_label.specs.Labels.{opens, is_open}
use Rattle.dy_label.specs.LabelsMeaning.{place_of_reader, place_of_corruption}
use Rattle.dy_label.proofs.LabelsOpen.{list_any_map}
use Rattle.dy_label.proofs.labels.+is_view_open.Goals as goal

pub returns-in-One : goal.returns-in-One
returns-in-One t c =
    c.is_open_to.ensures ∙ sym (list_any_map (opens (place_of_reader c.in-One.reader.now)) place_of_corruption c.args.corruptions.now)
    ∙ ap (is_open (map place_of_corruption c.args.corruptions.now)) c.in-One.ensures ∙ c.loop-reader.invariant.same
