-- Which status and which text are due, for the words and for the bytes that the source has.
use Rattle.std.specs.Prelude.{◌≡◌, ◌≢◌, ℕ, ◌<◌, ◌≤◌, ◌⊎◌, Bool, true, false, List, [], ◌∷◌, ◌++◌, length, map}
use Rattle.std.specs.Prelude.{codes, Option, Some, None, String, string_bytes}
use Rattle.std.specs.declared.alloc.Global.{Global}
use Rattle.dy_lex.specs.declared.limits.TheConstants.{MAX_SOURCE_BYTES}
use Rattle.dy_syntax.specs.Files.{File}
use Rattle.dy_parse.specs.Reading.{Reads}
use Rattle.dy_show.specs.Canonical.{canon}
use Rattle.dy_cases.specs.DeclaredParts.{handlers_in}
use Rattle.dy_entry.specs.Entries.{Entry}
use Rattle.dy_traces.specs.Interleavings.{Interleaves}
use Rattle.dy_sound.specs.Secure.{IsSecure}
use Rattle.dy_sound.specs.Acceptance.{IsTyped, IsRefusedFile}
use Rattle.dy_plan.specs.Completeness.{IsSerial}
use Rattle.dy_trace_text.specs.TraceText.{trace_text}
use Rattle.dy_know.specs.Reports.{Report, IsReport}
use Rattle.dy_know.specs.AuditText.{audit_text}
use Rattle.dy_tool.specs.declared.commands.Command.{Command}
use Rattle.dy_tool.specs.declared.commands.Command.TheVariants.{Check, Show, Run, Play}
use Rattle.dy_tool.specs.declared.statuses.Status.{Status}
use Rattle.dy_tool.specs.declared.statuses.Status.TheVariants.{Done, NotAccepted, Words, Input, ReadFault, WriteFault, Memory, TooLong}
use Rattle.dy_tool.specs.Texts.{accepted_text, refused_text, bad_words, too_long}
use Rattle.dy_tool.specs.Protocols.{IsProtocol, HasFault, fault_text}
use Rattle.dy_tool.specs.declared.protocols.InputFault.{InputFault}

-- Every interleaving of the bytes is secure at each prefix. A nonce that the attacker derives has an open label. Each
-- event follows its partners, or the exempting label was open before it.
abbrev pub EachInterleavingIsSecure : List ℕ → Type 0
EachInterleavingIsSecure bytes = (file : File) (T : List Entry) → Interleaves bytes file T → IsSecure file.decls T

-- a fault of the input, with its text
abbrev pub IsFaulty : List ℕ → List ℕ → Type 0
IsFaulty bytes text = (fault : InputFault) × HasFault bytes fault × (text ≡ fault_text fault)

-- bytes that are no protocol, with the text for them
abbrev pub IsRefusedInput : List ℕ → List ℕ → Type 0
IsRefusedInput bytes text = (length bytes ≤ MAX_SOURCE_BYTES) × IsFaulty bytes text

-- more bytes than a source may have
abbrev pub IsTooLong : List ℕ → List ℕ → Type 0
IsTooLong bytes text = (MAX_SOURCE_BYTES < length bytes) × (text ≡ too_long)

-- a protocol that is not typed, with the text for its refused place
abbrev pub IsUntyped : List ℕ → List ℕ → Type 0
IsUntyped bytes text =
    (file : File) × (line : ℕ) × (condition : ℕ) × (field : ℕ) × Reads bytes file
    × IsRefusedFile file line condition field × (text ≡ refused_text line condition field)

-- The trace of a run in which no two instances run at once. It is an interleaving of the bytes, in which the steps
-- of the plan stand in text order, each whole.
pub record IsSerialRun (bytes : List ℕ) (file : File) (T : List Entry) : Type 0 where
  pub interleaves : Interleaves bytes file T
  pub serial : IsSerial file.plan T

-- what a command writes where nothing is refused: `check` the verdict, `show` the canonical text, `run` the trace of
-- the plan, and `play` that trace and then the report of an audit
abbrev pub IsDoneBy : Command → List ℕ → List ℕ → Type 0
IsDoneBy Check bytes text =
    (file : File) × Reads bytes file × IsTyped file × (text ≡ accepted_text (length (handlers_in file.decls)))
IsDoneBy Show bytes text = (file : File) × IsProtocol bytes file × (text ≡ canon file)
IsDoneBy Run bytes text =
    (file : File) × (T : List Entry) × IsTyped file × IsSerialRun bytes file T × (text ≡ trace_text T)
IsDoneBy Play bytes text =
    (file : File) × (T : List Entry) × (report : Report) × IsSerialRun bytes file T × IsReport file.decls T report
    × (text ≡ trace_text T ++ audit_text report)

-- the commands that ask whether the file is typed
abbrev pub asks_for_typing : Command → Bool
asks_for_typing Check = true
asks_for_typing Show = false
asks_for_typing Run = true
asks_for_typing Play = false

-- what a command is to answer for these bytes
abbrev pub IsDueBy : Command → List ℕ → Status → List ℕ → Type 0
IsDueBy command bytes Done text = IsDoneBy command bytes text
IsDueBy command bytes NotAccepted text = (asks_for_typing command ≡ true) × IsUntyped bytes text
IsDueBy command bytes Input text = IsRefusedInput bytes text
IsDueBy command bytes TooLong text = IsTooLong bytes text
IsDueBy command bytes Words text = ⊥
IsDueBy command bytes ReadFault text = ⊥
IsDueBy command bytes WriteFault text = ⊥
IsDueBy command bytes Memory text = ⊥

-- the words as lists of bytes
abbrev pub words_of : List (String Global) → List (List ℕ)
words_of words = map string_bytes words

-- the words of each command
abbrev pub words_for : Command → List (List ℕ)
words_for Check = codes "check" ∷ []
words_for Show = codes "show" ∷ []
words_for Run = codes "run" ∷ []
words_for Play = codes "play" ∷ []

-- the commands that `quiet` carries out, and those of `tool`
abbrev pub quiet_commands : List Command
quiet_commands = Check ∷ Show ∷ Play ∷ []

abbrev pub tool_commands : List Command
tool_commands = Run ∷ quiet_commands

-- none of the commands has these words
abbrev pub AreRefused : List Command → List (List ℕ) → Type 0
AreRefused [] words = Unit {0}
AreRefused (command ∷ commands) words = (words ≢ words_for command) × AreRefused commands words

-- the command is one of these
abbrev pub IsAmong : Command → List Command → Type 0
IsAmong command [] = ⊥
IsAmong command (first ∷ commands) = (command ≡ first) ⊎ IsAmong command commands

-- the words are those of this one of the commands, or of none
abbrev pub IsNamed : List Command → List (List ℕ) → Option Command → Type 0
IsNamed commands words (Some command) = IsAmong command commands × (words ≡ words_for command)
IsNamed commands words None = AreRefused commands words

-- The status and the text that are due. Refused words come before all else.
abbrev pub IsDue : List Command → List (List ℕ) → List ℕ → Status → List ℕ → Type 0
IsDue commands words bytes Words text = AreRefused commands words × (text ≡ bad_words)
IsDue commands words bytes status text =
    (command : Command) × IsNamed commands words (Some command) × IsDueBy command bytes status text
