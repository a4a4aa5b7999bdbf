-- What an input is: a protocol, or bytes with a fault.
use Rattle.std.specs.Prelude.{ℕ, List}
use Rattle.dy_syntax.specs.Files.{File}
use Rattle.dy_syntax.specs.Meaning.{file_of}
use Rattle.dy_syntax.specs.Rules.{IsWellFormed, IsFirst}
use Rattle.dy_parse.specs.Reading.{Reads, IsBadLine, IsOverLimit}
use Rattle.dy_tool.specs.declared.protocols.InputFault.{InputFault}
use Rattle.dy_tool.specs.declared.protocols.InputFault.TheVariants.{Syntax, Limit, Rule}
use Rattle.dy_tool.specs.declared.protocols.Input.{Input}
use Rattle.dy_tool.specs.declared.protocols.Input.TheVariants.{Protocol, Faulty}
use Rattle.dy_tool.specs.Texts.{syntax_text, limit_text, rule_text}

-- the bytes are this file, and it is well formed
pub record IsProtocol (bytes : List ℕ) (file : File) : Type 0 where
  pub reads : Reads bytes file
  pub well_formed : IsWellFormed file

-- The bytes are not in the grammar, over a limit, or a file that is not well formed: the first fault of each.
abbrev pub HasFault : List ℕ → InputFault → Type 0
HasFault bytes (Syntax line) = IsBadLine bytes line
HasFault bytes (Limit line which) = IsOverLimit bytes line which
HasFault bytes (Rule line rule) = (file : File) × Reads bytes file × IsFirst file rule line

abbrev pub fault_text : InputFault → List ℕ
fault_text (Syntax line) = syntax_text line
fault_text (Limit line which) = limit_text line which
fault_text (Rule line rule) = rule_text line rule

-- what is found is what the bytes are
abbrev pub IsReadAs : List ℕ → Input → Type 0
IsReadAs bytes (Protocol file) = IsProtocol bytes (file_of file)
IsReadAs bytes (Faulty fault) = HasFault bytes fault
