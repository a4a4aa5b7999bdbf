-- What it means that a file is refused.
use Rattle.dy_syntax.specs.declared.refusals.FileError.{FileError}
use Rattle.dy_syntax.specs.declared.refusals.FileError.TheVariants.{Rule, Memory}
use Rattle.dy_syntax.specs.Files.{File}
use Rattle.dy_syntax.specs.Rules.{IsFirst}

-- A rule is named where it is broken first. Running out of memory says nothing of the file.
abbrev pub IsRefused : File → FileError → Type 0
IsRefused file (Rule line rule) = IsFirst file rule line
IsRefused file Memory = Unit {0}
