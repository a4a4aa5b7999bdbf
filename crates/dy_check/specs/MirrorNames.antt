-- How the code numbers names: those of the handler itself, or those that stand for words of a declaration.
use Rattle.std.specs.Prelude.{ℕ, Option}
use Rattle.dy_syntax.specs.Names.{Nm}
use Rattle.dy_typing.specs.Names.{name_number, stands_number}
use Rattle.dy_check.specs.declared.labels.Naming.{Naming}
use Rattle.dy_check.specs.declared.labels.Naming.TheVariants as namings
use Rattle.dy_check.specs.Meaning.{setting_of, stands_of}

abbrev pub numbers_of : Naming → Nm → Option ℕ
numbers_of (namings.Handler setting) name = name_number (setting_of setting.now) name
numbers_of (namings.Declaration setting stands) name =
    stands_number (setting_of setting.now) (stands_of stands.now) name
