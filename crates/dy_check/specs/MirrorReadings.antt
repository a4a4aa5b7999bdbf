-- The part of the code that goes by the statements that open, verify or check a value.
use Rattle.dy_syntax.specs.Statements.{Act, Opened, Popened, Verify, Check}
use Rattle.dy_typing.specs.Names.{Setting}
use Rattle.dy_typing.specs.Knowledge.{Knowledge}
use Rattle.dy_typing.specs.Effects.{after}

-- what is known after such a statement; any other changes nothing here
abbrev pub after_reading : Setting → Knowledge → Act → Knowledge
after_reading setting k (Opened value key usage tag pats ad) = after setting k (Opened value key usage tag pats ad)
after_reading setting k (Popened value key usage tag pats) = after setting k (Popened value key usage tag pats)
after_reading setting k (Verify value key usage tag pats) = after setting k (Verify value key usage tag pats)
after_reading setting k (Check value key usage tag args) = after setting k (Check value key usage tag args)
after_reading setting k _ = k
