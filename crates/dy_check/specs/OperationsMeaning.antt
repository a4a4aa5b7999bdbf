-- What the code's operations stand for.
use Rattle.std.specs.Prelude.{map}
use Rattle.dy_syntax.specs.Names as names
use Rattle.dy_syntax.specs.Meaning.{id_of, nm_of, kind_of, use_of, expr_of}
use Rattle.dy_typing.specs.Demands as d
use Rattle.dy_check.specs.declared.settings.Setting as setting
use Rattle.dy_check.specs.declared.operations.Seal as seal
use Rattle.dy_check.specs.declared.operations.Operation as operation
use Rattle.dy_check.specs.declared.operations.Operation.TheVariants as operations
use Rattle.dy_check.specs.Meaning.{setting_of}

abbrev pub operation_of : operation.Operation → d.Operation
operation_of (operations.Seals seal) =
    d.Seals (kind_of seal.kind) (nm_of seal.key.now) (use_of seal.usage.now) seal.tag.now (map expr_of seal.fields.now)
operation_of (operations.Opens kind key usage) =
    d.Opens (kind_of kind) (names.Named (id_of key.now)) (use_of usage.now)

-- a tuple that is sealed in a handler
abbrev pub sealing_in : setting.Setting → seal.Seal → d.Sealing
sealing_in setting seal =
    d.sealing_of (setting_of setting) (kind_of seal.kind) (nm_of seal.key.now) (use_of seal.usage.now)
    (map expr_of seal.fields.now)
