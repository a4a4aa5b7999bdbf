-- What a label's shape in the code stands for.
use Rattle.dy_label.specs.declared.labels.LabelShape.{LabelShape}
use Rattle.dy_label.specs.declared.labels.LabelShape.TheVariants as code
use Rattle.dy_label.specs.Labels.{Label, Public, Nobody, One, Join, Meet}
use Rattle.dy_label.specs.LabelsMeaning.{place_of_reader}

abbrev pub label_of_shape : LabelShape → Label
label_of_shape code.Public = Public
label_of_shape code.Nobody = Nobody
label_of_shape (code.One reader) = One (place_of_reader reader.now)
label_of_shape (code.Join first second) = Join first second
label_of_shape (code.Meet first second) = Meet first second
