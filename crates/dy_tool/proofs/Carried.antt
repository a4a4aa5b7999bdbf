-- What carrying out a command does, by the way that it ends.
use Rattle.std.proofs.Common.{◌≡◌, ◌≢◌, ℕ, ◌+◌, ◌≤◌, true, List, [], Option, Some, None, IfSome, refl, sym, ◌∙◌, ◌⊎◌, inl, inr, arith}
use Rattle.std.specs.Io.KnownBytes.{Keeps, Consumes}
use Rattle.dy_io.specs.Faults.{Rose}
use Rattle.dy_io.specs.Bytes.{CameAtMost}
use Rattle.dy_lex.specs.declared.limits.TheConstants.{MAX_SOURCE_BYTES}
use Rattle.dy_tool.specs.declared.commands.Command.{Command}
use Rattle.dy_tool.specs.declared.commands.Command.TheVariants.{Check, Run, Play}
use Rattle.dy_tool.specs.declared.statuses.Status.{Status}
use Rattle.dy_tool.specs.declared.statuses.Status.TheVariants.{Done, NotAccepted, Words, Input, ReadFault, WriteFault, Memory, TooLong}
use Rattle.dy_tool.specs.Texts.{bad_words}
use Rattle.dy_tool.specs.Due.{words_for, AreRefused, IsNamed, IsDue, EachInterleavingIsSecure, asks_for_typing}
use Rattle.dy_tool.specs.Answers.{Owes, Says, CarriesOut}
use Rattle.dy_tool.proofs.NamedCommands.{refused_or_named}
use Rattle.dy_tool.proofs.Owed.{EndsWhereTyped, owes_words, said_leaves, said_done, said_unbreached}

-- ---- bytes that are taken

pub keeps_known : (left : Option (List ℕ)) → Keeps left left
keeps_known None = tt
keeps_known (Some bytes) = refl

consumes_nothing : (left : Option (List ℕ)) → Consumes left left []
consumes_nothing None = tt
consumes_nothing (Some bytes) = refl

pub came_nothing : (most : ℕ) (left : Option (List ℕ)) → CameAtMost most left left
came_nothing most left = (0, omega arith, ([], refl, consumes_nothing left))

pub one_more_came : (most : ℕ) (left after : Option (List ℕ)) → CameAtMost most left after → CameAtMost (most + 1) left after
one_more_came most left after came = (came.0, omega (arith, came.1), came.2)

-- ---- the statuses of an owed text

-- no text is due with a fault, nor where memory ran out
due_apart : (commands : List Command) (words : List (List ℕ)) (bytes : List ℕ) (status : Status) (text : List ℕ) → IsDue commands words bytes status text → (status ≢ ReadFault) × (status ≢ WriteFault) × (status ≢ Memory)
due_apart commands words bytes Done text due = (λ is. cc, λ is. cc, λ is. cc)
due_apart commands words bytes NotAccepted text due = (λ is. cc, λ is. cc, λ is. cc)
due_apart commands words bytes Words text due = (λ is. cc, λ is. cc, λ is. cc)
due_apart commands words bytes Input text due = (λ is. cc, λ is. cc, λ is. cc)
due_apart commands words bytes ReadFault text due = absurd due.2
due_apart commands words bytes WriteFault text due = absurd due.2
due_apart commands words bytes Memory text due = absurd due.2
due_apart commands words bytes TooLong text due = (λ is. cc, λ is. cc, λ is. cc)

-- the status is that of the text, or a write fault
said_status : (held after : Option (List ℕ)) (faults faults_after : ℕ) (status : Status) (text : List ℕ) (result : Status) → Says held after faults faults_after status text result → (result ≡ status) ⊎ (result ≡ WriteFault)
said_status held after faults faults_after status text result said = elim said [ inl whole ↦ inl whole.0 | inr broken ↦ inr broken.0 ]

-- What is known once a text was to be said.
record Said (faults faults_after : ℕ) (result : Status) : Type 0 where
  pub no_read_fault : result ≢ ReadFault
  pub no_memory : result ≢ Memory
  pub write_fault : result ≡ WriteFault → Rose faults faults_after
  pub kept : result ≢ WriteFault → faults_after ≡ faults
  pub later : faults ≤ faults_after

said_so : (commands : List Command) (words : List (List ℕ)) (left held after : Option (List ℕ)) (faults faults_after : ℕ) (status : Status) (text : List ℕ) (result : Status) → Owes commands words left status text → Says held after faults faults_after status text result → Said faults faults_after result
said_so commands words left held after faults faults_after status text result owed said =
    let apart = due_apart commands words owed.bytes status text owed.due in
    elim said [
      | inl whole ↦ record {
        no_read_fault = λ is. apart.0 (sym whole.0 ∙ is);
        no_memory = λ is. apart.2 (sym whole.0 ∙ is);
        write_fault = λ is. absurd (apart.1 (sym whole.0 ∙ is));
        kept = λ is. whole.2;
        later = omega (arith, whole.2);
      }
      | inr broken ↦ record {
        no_read_fault = λ is. (let other : WriteFault ≡ ReadFault = sym broken.0 ∙ is in cc);
        no_memory = λ is. (let other : WriteFault ≡ Memory = sym broken.0 ∙ is in cc);
        write_fault = λ is. broken.2;
        kept = λ is. absurd (is broken.0);
        later = broken.3;
      }
    ]

-- ---- the ends

-- Where the words are refused.
pub carries_refusal : (commands : List Command) (words : List (List ℕ)) (left held held_after : Option (List ℕ)) (source_faults sink_faults sink_faults_after : ℕ) (status : Status) → AreRefused commands words → Says held held_after sink_faults sink_faults_after Words bad_words status
    → CarriesOut commands words left left held held_after source_faults source_faults sink_faults sink_faults_after status
carries_refusal commands words left held held_after source_faults sink_faults sink_faults_after status refused says =
    let owed = owes_words commands words left refused in
    let said = said_so commands words left held held_after sink_faults sink_faults_after Words bad_words status owed says in
    let so = said_status held held_after sink_faults sink_faults_after Words bad_words status says in
    let not_done : status ≢ Done = λ done. elim so [
      | inl is ↦ (let other : Words ≡ Done = sym is ∙ done in cc)
      | inr is ↦ (let other : WriteFault ≡ Done = sym is ∙ done in cc)
    ] in
    record {
      leaves = said_leaves commands words left held held_after sink_faults sink_faults_after Words bad_words status owed says;
      checked = λ is done. absurd (not_done done);
      run = λ is done. absurd (not_done done);
      played = λ is done. absurd (not_done done);
      taken = came_nothing (MAX_SOURCE_BYTES + 1) left;
      fault_within = λ is. absurd (said.no_read_fault is);
      memory_within = λ is. absurd (said.no_memory is);
      refused = λ again. so;
      unread = λ again. (keeps_known left, refl);
      read_fault = λ is. absurd (said.no_read_fault is);
      source_kept = λ is. refl;
      source_later = omega arith;
      write_fault = said.write_fault;
      sink_kept = said.kept;
      sink_later = said.later;
    }

-- Where a text is said that is owed for the bytes that came.
pub carries_text : (commands : List Command) (command : Command) (words : List (List ℕ)) (left left_after held held_after : Option (List ℕ)) (source_faults source_faults_after sink_faults sink_faults_after : ℕ) (owed_status : Status) (text : List ℕ) (status : Status)
    → IsNamed commands words (Some command) → Owes commands words left owed_status text → Says held held_after sink_faults sink_faults_after owed_status text status
    → CameAtMost (MAX_SOURCE_BYTES + 1) left left_after → source_faults_after ≡ source_faults
    → ((asked : Command) → asks_for_typing asked ≡ true → words ≡ words_for asked → status ≡ Done → IfSome left EachInterleavingIsSecure)
    → (words ≡ words_for Play → owed_status ≡ Done → IfSome left (EndsWhereTyped text))
    → CarriesOut commands words left left_after held held_after source_faults source_faults_after sink_faults sink_faults_after status
carries_text commands command words left left_after held held_after source_faults source_faults_after sink_faults sink_faults_after owed_status text status named owed says came kept secure unbreached =
    let said = said_so commands words left held held_after sink_faults sink_faults_after owed_status text status owed says in
    record {
      leaves = said_leaves commands words left held held_after sink_faults sink_faults_after owed_status text status owed says;
      checked = secure Check refl;
      run = secure Run refl;
      played = λ is done. said_unbreached left held held_after sink_faults sink_faults_after owed_status text status says done (unbreached is (said_done held held_after sink_faults sink_faults_after owed_status text status says done));
      taken = came;
      fault_within = λ is. absurd (said.no_read_fault is);
      memory_within = λ is. absurd (said.no_memory is);
      refused = λ refused. absurd (refused_or_named commands words command refused named);
      unread = λ refused. absurd (refused_or_named commands words command refused named);
      read_fault = λ is. absurd (said.no_read_fault is);
      source_kept = λ is. kept;
      source_later = omega (arith, kept);
      write_fault = said.write_fault;
      sink_kept = said.kept;
      sink_later = said.later;
    }

-- Where reading failed.
pub carries_fault : (commands : List Command) (command : Command) (words : List (List ℕ)) (left left_after held : Option (List ℕ)) (source_faults source_faults_after sink_faults : ℕ)
    → IsNamed commands words (Some command) → CameAtMost MAX_SOURCE_BYTES left left_after → Rose source_faults source_faults_after → source_faults ≤ source_faults_after
    → CarriesOut commands words left left_after held held source_faults source_faults_after sink_faults sink_faults ReadFault
carries_fault commands command words left left_after held source_faults source_faults_after sink_faults named came rose later = record {
  leaves = keeps_known held;
  checked = λ is done. absurd cc;
  run = λ is done. absurd cc;
  played = λ is done. absurd cc;
  taken = one_more_came MAX_SOURCE_BYTES left left_after came;
  fault_within = λ is. came;
  memory_within = λ is. came;
  refused = λ refused. absurd (refused_or_named commands words command refused named);
  unread = λ refused. absurd (refused_or_named commands words command refused named);
  read_fault = λ is. rose;
  source_kept = λ is. absurd (is refl);
  source_later = later;
  write_fault = λ is. absurd cc;
  sink_kept = λ is. refl;
  sink_later = omega arith;
}

-- Where memory ran out.
pub carries_no_memory : (commands : List Command) (command : Command) (words : List (List ℕ)) (left left_after held : Option (List ℕ)) (source_faults source_faults_after sink_faults : ℕ)
    → IsNamed commands words (Some command) → CameAtMost MAX_SOURCE_BYTES left left_after → source_faults_after ≡ source_faults
    → CarriesOut commands words left left_after held held source_faults source_faults_after sink_faults sink_faults Memory
carries_no_memory commands command words left left_after held source_faults source_faults_after sink_faults named came kept = record {
  leaves = keeps_known held;
  checked = λ is done. absurd cc;
  run = λ is done. absurd cc;
  played = λ is done. absurd cc;
  taken = one_more_came MAX_SOURCE_BYTES left left_after came;
  fault_within = λ is. came;
  memory_within = λ is. came;
  refused = λ refused. absurd (refused_or_named commands words command refused named);
  unread = λ refused. absurd (refused_or_named commands words command refused named);
  read_fault = λ is. absurd cc;
  source_kept = λ is. kept;
  source_later = omega (arith, kept);
  write_fault = λ is. absurd cc;
  sink_kept = λ is. refl;
  sink_later = omega arith;
}
