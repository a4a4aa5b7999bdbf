-- The texts of the errors.
use Rattle.std.specs.Prelude.{ℕ, List, codes}
use Rattle.dy_io.specs.declared.errors.ReadError.{ReadError}
use Rattle.dy_io.specs.declared.errors.ReadError.TheVariants.{Fault, TooLong, Memory}
use Rattle.dy_io.specs.declared.errors.WriteError.{WriteError}
use Rattle.dy_io.specs.declared.errors.WriteError.TheVariants as write

abbrev pub read_message : ReadError → List ℕ
read_message Fault = codes "reading failed"
read_message TooLong = codes "more bytes came than the limit"
read_message Memory = codes "out of memory"

abbrev pub write_message : WriteError → List ℕ
write_message write.Fault = codes "writing failed"
