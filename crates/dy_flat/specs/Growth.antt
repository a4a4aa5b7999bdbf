-- Contents that only gain texts and names, after those they had.
use Rattle.dy_flat.specs.declared.contents.Contents.{Contents}
use Rattle.dy_flat.specs.Extending.{Extends}

pub record Grows (old new : Contents) : Type 0 where
  pub texts : Extends old.texts.items new.texts.items
  pub names : Extends old.names.items new.names.items
