-- What carrying out a command does to the source and the sink, for each status.
use Rattle.std.specs.Prelude.{◌≡◌, ◌≢◌, ℕ, ◌+◌, ◌≤◌, ◌⊎◌, List, Option, IfSome}
use Rattle.std.specs.Io.KnownBytes.{Keeps, Appends}
use Rattle.dy_io.specs.Faults.{Rose}
use Rattle.dy_io.specs.Bytes.{CameAtMost, AppendsPrefix}
use Rattle.dy_lex.specs.declared.limits.TheConstants.{MAX_SOURCE_BYTES}
use Rattle.dy_syntax.specs.Files.{File}
use Rattle.dy_parse.specs.Reading.{Reads}
use Rattle.dy_sound.specs.Acceptance.{IsTyped}
use Rattle.dy_tool.specs.declared.commands.Command.{Command}
use Rattle.dy_tool.specs.declared.commands.Command.TheVariants.{Check, Run, Play}
use Rattle.dy_tool.specs.declared.statuses.Status.{Status}
use Rattle.dy_tool.specs.declared.statuses.Status.TheVariants.{Done, Words, ReadFault, WriteFault, Memory}
use Rattle.dy_tool.specs.Due.{words_for, AreRefused, IsDue, EachInterleavingIsSecure}
use Rattle.dy_tool.specs.Playing.{EndsUnbreached}

-- A text is due with this status, for the bytes that the source had left, where it tells them.
pub record Owes (commands : List Command) (words : List (List ℕ)) (left : Option (List ℕ)) (status : Status)
    (text : List ℕ) : Type 0 where
  pub bytes : List ℕ
  pub told : IfSome left (λ all. bytes ≡ all)
  pub due : IsDue commands words bytes status text

-- The text that is due was written.
pub record Wrote (commands : List Command) (words : List (List ℕ)) (left held held_after : Option (List ℕ))
    (status : Status) : Type 0 where
  pub text : List ℕ
  pub owed : Owes commands words left status text
  pub written : Appends held held_after text

-- A prefix of the text that is due was written.
pub record BrokeOff (commands : List Command) (words : List (List ℕ)) (left held held_after : Option (List ℕ))
    : Type 0 where
  pub status : Status
  pub text : List ℕ
  pub owed : Owes commands words left status text
  pub written : AppendsPrefix held held_after text

-- What is held afterwards. It is nothing more where reading failed or memory ran out. It is a prefix of the
-- text that is due where writing failed, and else that text.
abbrev pub Leaves : (commands : List Command) (words : List (List ℕ)) (left held held_after : Option (List ℕ))
    → Status → Type 0
Leaves commands words left held held_after ReadFault = Keeps held held_after
Leaves commands words left held held_after Memory = Keeps held held_after
Leaves commands words left held held_after WriteFault = BrokeOff commands words left held held_after
Leaves commands words left held held_after status = Wrote commands words left held held_after status

-- Writing a text either adds it and ends with its status, or fails and adds a prefix of it.
abbrev pub Says : (held held_after : Option (List ℕ)) (faults faults_after : ℕ)
    → Status → List ℕ → Status → Type 0
Says held held_after faults faults_after status text result =
    ((result ≡ status) × Appends held held_after text × (faults_after ≡ faults))
    ⊎ ((result ≡ WriteFault) × AppendsPrefix held held_after text
    × Rose faults faults_after × (faults ≤ faults_after))

-- Where the bytes are a typed file, a text is written whose last line is `breaches 0`.
abbrev pub WritesUnbreached : (held held_after : Option (List ℕ)) (bytes : List ℕ) → Type 0
WritesUnbreached held held_after bytes =
    (file : File) → Reads bytes file → IsTyped file
    → (text : List ℕ) × Appends held held_after text × EndsUnbreached text

-- What carrying out one of these commands does. It speaks of what the source has left, what the sink holds, and
-- their counts of faults, each before and after.
pub record CarriesOut (commands : List Command) (words : List (List ℕ))
    (left left_after held held_after : Option (List ℕ))
    (source_faults source_faults_after sink_faults sink_faults_after : ℕ) (status : Status) : Type 0 where
  -- The status and the text are those that are due.
  pub leaves : Leaves commands words left held held_after status
  -- Where `check` is Done, every interleaving of the bytes is secure.
  pub checked : words ≡ words_for Check → status ≡ Done → IfSome left EachInterleavingIsSecure
  -- Where `run` is Done, every interleaving of the bytes is secure.
  pub run : words ≡ words_for Run → status ≡ Done → IfSome left EachInterleavingIsSecure
  -- Where `play` is Done and the bytes are a typed file, what it wrote ends with the line `breaches 0`.
  pub played : words ≡ words_for Play → status ≡ Done → IfSome left (WritesUnbreached held held_after)
  -- At most one byte past the limit is taken.
  pub taken : CameAtMost (MAX_SOURCE_BYTES + 1) left left_after
  -- Where reading failed, none past the limit is taken.
  pub fault_within : status ≡ ReadFault → CameAtMost MAX_SOURCE_BYTES left left_after
  -- Where memory ran out, none past the limit is taken.
  pub memory_within : status ≡ Memory → CameAtMost MAX_SOURCE_BYTES left left_after
  -- With refused words the status says so, unless writing fails.
  pub refused : AreRefused commands words → (status ≡ Words) ⊎ (status ≡ WriteFault)
  -- With refused words nothing is read.
  pub unread : AreRefused commands words → Keeps left left_after × (source_faults_after ≡ source_faults)
  -- A read fault comes only where the source's count of faults rose.
  pub read_fault : status ≡ ReadFault → Rose source_faults source_faults_after
  -- With each other status that count stays.
  pub source_kept : status ≢ ReadFault → source_faults_after ≡ source_faults
  -- That count never falls.
  pub source_later : source_faults ≤ source_faults_after
  -- A write fault comes only where the sink's count of faults rose.
  pub write_fault : status ≡ WriteFault → Rose sink_faults sink_faults_after
  -- With each other status that count stays.
  pub sink_kept : status ≢ WriteFault → sink_faults_after ≡ sink_faults
  -- That count never falls.
  pub sink_later : sink_faults ≤ sink_faults_after
