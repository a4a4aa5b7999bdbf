-- What an input is to a command that asks for typing.
use Rattle.std.specs.Prelude.{ℕ, List}
use Rattle.dy_syntax.specs.Files.{File}
use Rattle.dy_syntax.specs.Meaning.{file_of}
use Rattle.dy_parse.specs.Reading.{Reads}
use Rattle.dy_sound.specs.Acceptance.{IsTyped}
use Rattle.dy_tool.specs.declared.statuses.Status.{Status}
use Rattle.dy_tool.specs.declared.statuses.Status.TheVariants.{Done, NotAccepted, Words, Input, ReadFault, WriteFault, Memory, TooLong}
use Rattle.dy_tool.specs.declared.judging.Judgement.{Judgement}
use Rattle.dy_tool.specs.declared.judging.Judgement.TheVariants as judgements
use Rattle.dy_tool.specs.Due.{IsRefusedInput, IsUntyped}

-- the bytes are this file, and it is typed
pub record IsTypedText (bytes : List ℕ) (file : File) : Type 0 where
  pub reads : Reads bytes file
  pub typed : IsTyped file

-- the answer to bytes that are no typed file
abbrev pub IsRefusal : List ℕ → Status → List ℕ → Type 0
IsRefusal bytes Done text = ⊥
IsRefusal bytes NotAccepted text = IsUntyped bytes text
IsRefusal bytes Words text = ⊥
IsRefusal bytes Input text = IsRefusedInput bytes text
IsRefusal bytes ReadFault text = ⊥
IsRefusal bytes WriteFault text = ⊥
IsRefusal bytes Memory text = ⊥
IsRefusal bytes TooLong text = ⊥

abbrev pub IsJudgement : List ℕ → Judgement → Type 0
IsJudgement bytes (judgements.Accepted accepted) = IsTypedText bytes (file_of accepted.file)
IsJudgement bytes (judgements.Refused answer) = IsRefusal bytes answer.status answer.text.items
