-- What is owed, and what the sink holds once it is said.
use Rattle.std.proofs.Common.{◌≡◌, ℕ, ◌+◌, List, [], length, Option, Some, None, IfSome, refl, sym, subst, ◌∙◌, inl, inr, arith}
use Rattle.std.proofs.lemmas.List.{length-append}
use Rattle.dy_io.specs.Bytes.{Came}
use Rattle.dy_lex.specs.declared.limits.TheConstants.{MAX_SOURCE_BYTES}
use Rattle.dy_syntax.specs.Files.{File}
use Rattle.dy_parse.specs.Reading.{Reads}
use Rattle.dy_sound.specs.Acceptance.{IsTyped}
use Rattle.dy_tool.specs.declared.statuses.Status.{Status}
use Rattle.dy_tool.specs.declared.statuses.Status.TheVariants.{Done, NotAccepted, Words, Input, ReadFault, WriteFault, Memory, TooLong}
use Rattle.dy_tool.specs.Texts.{bad_words, too_long}
use Rattle.dy_tool.specs.declared.commands.Command.{Command}
use Rattle.dy_tool.specs.Due.{AreRefused, IsNamed, IsDue, IsDueBy}
use Rattle.dy_tool.specs.Playing.{EndsUnbreached}
use Rattle.dy_tool.specs.Answers.{Owes, Wrote, Leaves, Says, WritesUnbreached}

-- what a command is to answer is due with its words
pub due_with : (commands : List Command) (command : Command) (words : List (List ℕ)) (bytes : List ℕ) (status : Status) (text : List ℕ) → IsNamed commands words (Some command) → IsDueBy command bytes status text → IsDue commands words bytes status text
due_with commands command words bytes Done text named due = (command, named, due)
due_with commands command words bytes NotAccepted text named due = (command, named, due)
due_with commands command words bytes Words text named due = absurd due
due_with commands command words bytes Input text named due = (command, named, due)
due_with commands command words bytes ReadFault text named due = (command, named, due)
due_with commands command words bytes WriteFault text named due = (command, named, due)
due_with commands command words bytes Memory text named due = (command, named, due)
due_with commands command words bytes TooLong text named due = (command, named, due)

-- with other words
pub owes_words : (commands : List Command) (words : List (List ℕ)) (left : Option (List ℕ)) → AreRefused commands words → Owes commands words left Words bad_words
owes_words commands words None refused = record { bytes = []; told = tt; due = (refused, refl) }
owes_words commands words (Some all) refused = record { bytes = all; told = refl; due = (refused, refl) }

-- where too many bytes came
pub owes_too_long : (commands : List Command) (command : Command) (words : List (List ℕ)) (left rest : Option (List ℕ)) → IsNamed commands words (Some command) → Came (MAX_SOURCE_BYTES + 1) left rest → Owes commands words left TooLong too_long
owes_too_long commands command words None rest named came = record { bytes = came.0; told = tt; due = (command, named, (omega (arith, came.1), refl)) }
owes_too_long commands command words (Some all) None named came = absurd came.2
owes_too_long commands command words (Some all) (Some rest) named came = record {
  bytes = all;
  told = refl;
  due = (command, named, ((let longer : length all ≡ length came.0 + length rest = rw came.2 (length-append came.0 rest) in omega (arith, came.1)), refl));
}

-- a text that is written and owed is what the sink is left with
wrote_leaves : (commands : List Command) (words : List (List ℕ)) (left held after : Option (List ℕ)) (status : Status) → Wrote commands words left held after status → Leaves commands words left held after status
wrote_leaves commands words left held after Done wrote = wrote
wrote_leaves commands words left held after NotAccepted wrote = wrote
wrote_leaves commands words left held after Words wrote = wrote
wrote_leaves commands words left held after Input wrote = wrote
wrote_leaves commands words left held after ReadFault wrote = absurd wrote.owed.due.2
wrote_leaves commands words left held after WriteFault wrote = absurd wrote.owed.due.2
wrote_leaves commands words left held after Memory wrote = absurd wrote.owed.due.2
wrote_leaves commands words left held after TooLong wrote = wrote

-- so it is with a text that was to be said
pub said_leaves : (commands : List Command) (words : List (List ℕ)) (left held after : Option (List ℕ)) (faults faults_after : ℕ) (status : Status) (text : List ℕ) (result : Status) → Owes commands words left status text → Says held after faults faults_after status text result → Leaves commands words left held after result
said_leaves commands words left held after faults faults_after status text result owed said =
    elim said [
      | inl whole ↦ rw whole.0 (wrote_leaves commands words left held after status (record { text = text; owed = owed; written = whole.1 }))
      | inr broken ↦ rw broken.0 (record { status = status; text = text; owed = owed; written = broken.1 })
    ]

-- a text is said with its status, unless writing fails
pub said_done : (held after : Option (List ℕ)) (faults faults_after : ℕ) (status : Status) (text : List ℕ) (result : Status) → Says held after faults faults_after status text result → result ≡ Done → status ≡ Done
said_done held after faults faults_after status text result said done =
    elim said [
      | inl whole ↦ sym whole.0 ∙ done
      | inr broken ↦ absurd (let other : WriteFault ≡ Done = sym broken.0 ∙ done in cc)
    ]

-- the text ends with the line `breaches 0`, where the bytes are a typed file
abbrev pub EndsWhereTyped : List ℕ → List ℕ → Type 0
EndsWhereTyped text bytes = (file : File) → Reads bytes file → IsTyped file → EndsUnbreached text

-- a text that ends so, and is said
pub said_unbreached : (left held after : Option (List ℕ)) (faults faults_after : ℕ) (status : Status) (text : List ℕ) (result : Status) → Says held after faults faults_after status text result → result ≡ Done → IfSome left (EndsWhereTyped text) → IfSome left (WritesUnbreached held after)
said_unbreached None held after faults faults_after status text result said done ends = tt
said_unbreached (Some bytes) held after faults faults_after status text result said done ends = λ file reads typed. elim said [
  | inl whole ↦ (text, whole.1, ends file reads typed)
  | inr broken ↦ absurd (let other : WriteFault ≡ Done = sym broken.0 ∙ done in cc)
]

-- what holds of the bytes that came holds of those that were there, where they are told
pub told_holds : (P : List ℕ → Type 0) (left : Option (List ℕ)) (bytes : List ℕ) → IfSome left (λ all. bytes ≡ all) → P bytes → IfSome left P
told_holds P None bytes told holds = tt
told_holds P (Some all) bytes told holds = subst P told holds
