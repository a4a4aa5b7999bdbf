-- For one input one status is due, and one text but for the recipes of `play`.
use Rattle.std.proofs.Common.{◌≡◌, ◌≢◌, ℕ, List, length, map, ◌++◌, Some, true, subst, sym, refl, ap, ◌∙◌, ◌⊎◌, inl, inr, arith}
use Rattle.dy_syntax.specs.Files.{File, Decl}
use Rattle.dy_parse.specs.Reading.{Reads}
use Rattle.dy_show.specs.Canonical.{canon}
use Rattle.dy_cases.specs.DeclaredParts.{handlers_in}
use Rattle.dy_typing.specs.Typing.{AreTyped, IsRefusedAt}
use Rattle.dy_sound.specs.Acceptance.{IsTyped, IsRefusedFile}
use Rattle.dy_tool.specs.declared.commands.Command.{Command}
use Rattle.dy_tool.specs.declared.commands.Command.TheVariants.{Check, Show, Run, Play}
use Rattle.dy_tool.specs.declared.statuses.Status.{Status}
use Rattle.dy_tool.specs.declared.statuses.Status.TheVariants.{Done, NotAccepted, Words, Input, ReadFault, WriteFault, Memory, TooLong}
use Rattle.dy_tool.specs.Texts.{accepted_text, refused_text, bad_words}
use Rattle.dy_tool.specs.Protocols.{IsProtocol}
use Rattle.dy_entry.specs.Entries.{Entry}
use Rattle.dy_traces.specs.Interleavings.{Interleaves}
use Rattle.dy_plan.specs.Completeness.{IsSerial}
use Rattle.dy_trace_text.specs.TraceText.{trace_text}
use Rattle.dy_know.specs.Breaches.{without_recipe}
use Rattle.dy_know.specs.Reports.{Report, IsReport}
use Rattle.dy_know.specs.AuditText.{audit_text}
use Rattle.dy_tool.specs.Due.{AreRefused, IsNamed, IsUntyped, IsRefusedInput, IsTooLong, IsSerialRun, IsDue, IsDueBy, IsDoneBy, asks_for_typing, words_for}
use Rattle.dy_tool.specs.Playing.{AreOfOneRun}
use Rattle.dy_tool.proofs.NamedCommands.{one_command, refused_or_named}
use Rattle.dy_tool.proofs.OneInput.{ReadingLaws, no_fault, one_fault_text}

-- the laws of the crates below
pub record Laws : Type 0 where
  pub reading : ReadingLaws
  pub untyped : (decls : List Decl) (line condition field : ℕ) → IsRefusedAt decls line condition field → AreTyped decls (handlers_in decls) → ⊥
  pub one_serial : (bytes : List ℕ) (file : File) (T other : List Entry) → Interleaves bytes file T → IsSerial file.plan T → Interleaves bytes file other → IsSerial file.plan other → T ≡ other
  pub one_known : (decls : List Decl) (T : List Entry) (report other : Report) → IsReport decls T report → IsReport decls T other → report.known ≡ other.known
  pub one_breaches : (decls : List Decl) (T : List Entry) (report other : Report) → IsReport decls T report → IsReport decls T other → map without_recipe report.breaches ≡ map without_recipe other.breaches
  pub place : (decls : List Decl) (line condition field other_line other_condition other_field : ℕ) → IsRefusedAt decls line condition field → IsRefusedAt decls other_line other_condition other_field → (line ≡ other_line) × (condition ≡ other_condition) × (field ≡ other_field)

-- the text names a place by its three numbers
same_place : (line condition field other_line other_condition other_field : ℕ) → line ≡ other_line → condition ≡ other_condition → field ≡ other_field → refused_text line condition field ≡ refused_text other_line other_condition other_field
same_place line condition field other_line other_condition other_field same_line same_condition same_field =
    ap (λ l. refused_text l condition field) same_line ∙ ap (λ k. refused_text other_line k field) same_condition ∙ ap (λ n. refused_text other_line other_condition n) same_field

-- Why a status and a text are due.
data Cause (command : Command) (bytes : List ℕ) : Status → List ℕ → Type 0 where
  is_done : (text : List ℕ) → IsDoneBy command bytes text → Cause command bytes Done text
  is_untyped : (text : List ℕ) → asks_for_typing command ≡ true → IsUntyped bytes text → Cause command bytes NotAccepted text
  is_refused : (text : List ℕ) → IsRefusedInput bytes text → Cause command bytes Input text
  is_long : (text : List ℕ) → IsTooLong bytes text → Cause command bytes TooLong text

cause_of : (command : Command) (bytes : List ℕ) (status : Status) (text : List ℕ) → IsDueBy command bytes status text → Cause command bytes status text
cause_of command bytes Done text due = is_done text due
cause_of command bytes NotAccepted text due = is_untyped text due.0 due.1
cause_of command bytes Words text due = absurd due
cause_of command bytes Input text due = is_refused text due
cause_of command bytes ReadFault text due = absurd due
cause_of command bytes WriteFault text due = absurd due
cause_of command bytes Memory text due = absurd due
cause_of command bytes TooLong text due = is_long text due

-- the bytes are a protocol
record HasProtocol (bytes : List ℕ) : Type 0 where
  pub file : File
  pub protocol : IsProtocol bytes file

-- the bytes are a typed file
pub record HasTyped (bytes : List ℕ) : Type 0 where
  pub file : File
  pub reads : Reads bytes file
  pub typed : IsTyped file

protocol_run : (bytes : List ℕ) (file : File) (T : List Entry) → IsSerialRun bytes file T → HasProtocol bytes
protocol_run bytes file T run = record { file = file; protocol = record { reads = run.interleaves.reads; well_formed = run.interleaves.well_formed } }

-- what is done is done with a protocol
protocol_done : (command : Command) (bytes text : List ℕ) → IsDoneBy command bytes text → HasProtocol bytes
protocol_done Check bytes text due = record { file = due.0; protocol = record { reads = due.1; well_formed = due.2.0 } }
protocol_done Show bytes text due = record { file = due.0; protocol = due.1 }
protocol_done Run bytes text due = protocol_run bytes due.0 due.1 due.3
protocol_done Play bytes text due = protocol_run bytes due.0 due.1 due.3

protocol_untyped : (bytes text : List ℕ) → IsUntyped bytes text → HasProtocol bytes
protocol_untyped bytes text due = record { file = due.0; protocol = record { reads = due.4; well_formed = due.5.0 } }

pub typed_done : (command : Command) (bytes text : List ℕ) → asks_for_typing command ≡ true → IsDoneBy command bytes text → HasTyped bytes
typed_done Check bytes text asks due = record { file = due.0; reads = due.1; typed = due.2 }
typed_done Show bytes text asks due = absurd cc
typed_done Run bytes text asks due = record { file = due.0; reads = due.3.interleaves.reads; typed = due.2 }
typed_done Play bytes text asks due = absurd cc

module _ (laws : Laws) (bytes : List ℕ) where
  one_file : (a b : File) → Reads bytes a → Reads bytes b → a ≡ b
  one_file a b in_a in_b = laws.reading.one_file bytes a b in_a in_b

  -- the causes shut each other out
  protocol_or_fault : HasProtocol bytes → (text : List ℕ) → IsRefusedInput bytes text → ⊥
  protocol_or_fault has text due = no_fault laws.reading bytes has.file due.1.0 has.protocol due.1.1

  protocol_or_long : HasProtocol bytes → (text : List ℕ) → IsTooLong bytes text → ⊥
  protocol_or_long has text due = omega (arith, has.protocol.reads.few, due.0)

  fault_or_long : (text other : List ℕ) → IsRefusedInput bytes text → IsTooLong bytes other → ⊥
  fault_or_long text other due long = omega (arith, due.0, long.0)

  typed_or_untyped : HasTyped bytes → (text : List ℕ) → IsUntyped bytes text → ⊥
  typed_or_untyped has text due =
      let same = one_file has.file due.0 has.reads due.4 in
      let typed : IsTyped due.0 = subst IsTyped same has.typed in
      laws.untyped due.0.decls due.1 due.2 due.3 due.5.1 typed.1

  -- one status is due
  one_cause : (command : Command) (status other : Status) (text other_text : List ℕ) → Cause command bytes status text → Cause command bytes other other_text → status ≡ other
  one_cause command _ _ _ _ (is_done text d) (is_done other_text o) = refl
  one_cause command _ _ _ _ (is_done text d) (is_untyped other_text asks o) = absurd (typed_or_untyped (typed_done command bytes text asks d) other_text o)
  one_cause command _ _ _ _ (is_done text d) (is_refused other_text o) = absurd (protocol_or_fault (protocol_done command bytes text d) other_text o)
  one_cause command _ _ _ _ (is_done text d) (is_long other_text o) = absurd (protocol_or_long (protocol_done command bytes text d) other_text o)
  one_cause command _ _ _ _ (is_untyped text asks d) (is_done other_text o) = absurd (typed_or_untyped (typed_done command bytes other_text asks o) text d)
  one_cause command _ _ _ _ (is_untyped text asks d) (is_untyped other_text again o) = refl
  one_cause command _ _ _ _ (is_untyped text asks d) (is_refused other_text o) = absurd (protocol_or_fault (protocol_untyped bytes text d) other_text o)
  one_cause command _ _ _ _ (is_untyped text asks d) (is_long other_text o) = absurd (protocol_or_long (protocol_untyped bytes text d) other_text o)
  one_cause command _ _ _ _ (is_refused text d) (is_done other_text o) = absurd (protocol_or_fault (protocol_done command bytes other_text o) text d)
  one_cause command _ _ _ _ (is_refused text d) (is_untyped other_text asks o) = absurd (protocol_or_fault (protocol_untyped bytes other_text o) text d)
  one_cause command _ _ _ _ (is_refused text d) (is_refused other_text o) = refl
  one_cause command _ _ _ _ (is_refused text d) (is_long other_text o) = absurd (fault_or_long text other_text d o)
  one_cause command _ _ _ _ (is_long text d) (is_done other_text o) = absurd (protocol_or_long (protocol_done command bytes other_text o) text d)
  one_cause command _ _ _ _ (is_long text d) (is_untyped other_text asks o) = absurd (protocol_or_long (protocol_untyped bytes other_text o) text d)
  one_cause command _ _ _ _ (is_long text d) (is_refused other_text o) = absurd (fault_or_long other_text text o d)
  one_cause command _ _ _ _ (is_long text d) (is_long other_text o) = refl

  -- of a plan there is one serial run
  one_run : (file other : File) (T U : List Entry) → IsSerialRun bytes file T → IsSerialRun bytes other U → T ≡ U
  one_run file other T U run run_other =
      let same = one_file file other run.interleaves.reads run_other.interleaves.reads in
      let here : IsSerialRun bytes other T = subst (λ (f : File). IsSerialRun bytes f T) same run in
      laws.one_serial bytes other T U here.interleaves here.serial run_other.interleaves run_other.serial

  -- what is done has one text, but for `play`
  one_done : (command : Command) (text other : List ℕ) → command ≢ Play → IsDoneBy command bytes text → IsDoneBy command bytes other → text ≡ other
  one_done Check text other is due also =
      let same = one_file due.0 also.0 due.1 also.1 in
      due.3 ∙ ap (λ (file : File). accepted_text (length (handlers_in file.decls))) same ∙ sym also.3
  one_done Show text other is due also =
      let same = one_file due.0 also.0 due.1.reads also.1.reads in
      due.2 ∙ ap (λ (file : File). canon file) same ∙ sym also.2
  one_done Run text other is due also = due.4 ∙ ap trace_text (one_run due.0 also.0 due.1 also.1 due.3 also.3) ∙ sym also.4
  one_done Play text other is due also = absurd (is refl)

  -- with `play` there is one run
  one_play : (text other : List ℕ) → IsDoneBy Play bytes text → IsDoneBy Play bytes other → AreOfOneRun bytes text other
  one_play text other due also =
      let file = also.0 in
      let T = also.1 in
      let same : due.0 ≡ file = one_file due.0 file due.3.interleaves.reads also.3.interleaves.reads in
      let trace : due.1 ≡ T = one_run due.0 file due.1 T due.3 also.3 in
      let there : IsReport file.decls due.1 due.2 = subst (λ (f : File). IsReport f.decls due.1 due.2) same due.4 in
      let report : IsReport file.decls T due.2 = subst (λ (U : List Entry). IsReport file.decls U due.2) trace there in
      record {
        file = file;
        T = T;
        run = also.3;
        report = due.2;
        is_report = report;
        text_is = due.5 ∙ ap (λ (U : List Entry). trace_text U ++ audit_text due.2) trace;
        other_report = also.2;
        is_other_report = also.4;
        other_is = also.5;
        same_known = laws.one_known file.decls T due.2 also.2 report also.4;
        same_breaches = laws.one_breaches file.decls T due.2 also.2 report also.4;
      }

  one_place : (text other : List ℕ) → IsUntyped bytes text → IsUntyped bytes other → text ≡ other
  one_place text other due also =
      let same = one_file due.0 also.0 due.4 also.4 in
      let refused : IsRefusedFile also.0 due.1 due.2 due.3 = subst (λ (file : File). IsRefusedFile file due.1 due.2 due.3) same due.5 in
      let place = laws.place also.0.decls due.1 due.2 due.3 also.1 also.2 also.3 refused.1 also.5.1 in
      due.6 ∙ same_place due.1 due.2 due.3 also.1 also.2 also.3 place.0 place.1 place.2 ∙ sym also.6

  one_text_due : (command : Command) (status : Status) (text other : List ℕ) → (command ≡ Play → status ≢ Done) → IsDueBy command bytes status text → IsDueBy command bytes status other → text ≡ other
  one_text_due command Done text other is due also = one_done command text other (λ play. is play refl) due also
  one_text_due command NotAccepted text other is due also = one_place text other due.1 also.1
  one_text_due command Words text other is due also = absurd due
  one_text_due command Input text other is due also = one_fault_text laws.reading bytes text other due.1 also.1
  one_text_due command ReadFault text other is due also = absurd due
  one_text_due command WriteFault text other is due also = absurd due
  one_text_due command Memory text other is due also = absurd due
  one_text_due command TooLong text other is due also = due.1 ∙ sym also.1

  -- the words are refused, or those of a command
  record IsAnswered (commands : List Command) (words : List (List ℕ)) (status : Status) (text : List ℕ) : Type 0 where
    pub command : Command
    pub named : IsNamed commands words (Some command)
    pub due : IsDueBy command bytes status text

  abbrev Split : List Command → List (List ℕ) → Status → List ℕ → Type 0
  Split commands words status text = ((status ≡ Words) × AreRefused commands words × (text ≡ bad_words)) ⊎ IsAnswered commands words status text

  answered : {commands : List Command} {words : List (List ℕ)} {status : Status} {text : List ℕ} → ((command : Command) × IsNamed commands words (Some command) × IsDueBy command bytes status text) → Split commands words status text
  answered due = inr (record { command = due.0; named = due.1; due = due.2 })

  words_or_command : (commands : List Command) (words : List (List ℕ)) (status : Status) (text : List ℕ) → IsDue commands words bytes status text → Split commands words status text
  words_or_command commands words Done text due = answered due
  words_or_command commands words NotAccepted text due = answered due
  words_or_command commands words Words text due = inl (refl, due.0, due.1)
  words_or_command commands words Input text due = answered due
  words_or_command commands words ReadFault text due = answered due
  words_or_command commands words WriteFault text due = answered due
  words_or_command commands words Memory text due = answered due
  words_or_command commands words TooLong text due = answered due

  -- two commands with the same words are one
  same_command : (commands : List Command) (words : List (List ℕ)) (command other : Command) → IsNamed commands words (Some command) → IsNamed commands words (Some other) → command ≡ other
  same_command commands words command other named also = one_command command other (sym named.1 ∙ also.1)

  -- with any words one status is due
  pub one_status_due : (commands : List Command) (words : List (List ℕ)) (status other : Status) (text other_text : List ℕ) → IsDue commands words bytes status text → IsDue commands words bytes other other_text → status ≡ other
  one_status_due commands words status other text other_text due due_other = both (words_or_command commands words status text due) (words_or_command commands words other other_text due_other) where
    both : Split commands words status text → Split commands words other other_text → status ≡ other
    both (inl refused) (inl again) = refused.0 ∙ sym again.0
    both (inl refused) (inr known) = absurd (refused_or_named commands words known.command refused.1 known.named)
    both (inr known) (inl refused) = absurd (refused_or_named commands words known.command refused.1 known.named)
    both (inr known) (inr again) =
        let same = same_command commands words known.command again.command known.named again.named in
        let here : IsDueBy again.command bytes status text = subst (λ (c : Command). IsDueBy c bytes status text) same known.due in
        one_cause again.command status other text other_text (cause_of again.command bytes status text here) (cause_of again.command bytes other other_text again.due)

  -- and one text, but for what `play` writes
  pub one_text_due_with : (commands : List Command) (words : List (List ℕ)) (status : Status) (text other : List ℕ) → (words ≡ words_for Play → status ≢ Done) → IsDue commands words bytes status text → IsDue commands words bytes status other → text ≡ other
  one_text_due_with commands words status text other is due due_other = both (words_or_command commands words status text due) (words_or_command commands words status other due_other) where
    both : Split commands words status text → Split commands words status other → text ≡ other
    both (inl refused) (inl again) = refused.2 ∙ sym again.2
    both (inl refused) (inr known) = absurd (refused_or_named commands words known.command refused.1 known.named)
    both (inr known) (inl refused) = absurd (refused_or_named commands words known.command refused.1 known.named)
    both (inr known) (inr again) =
        let same = same_command commands words known.command again.command known.named again.named in
        let here : IsDueBy again.command bytes status text = subst (λ (c : Command). IsDueBy c bytes status text) same known.due in
        one_text_due again.command status text other (λ play. is (again.named.1 ∙ ap words_for play)) here again.due

  -- and with those of `play` one run
  pub one_run_due_with : (commands : List Command) (words : List (List ℕ)) (text other : List ℕ) → words ≡ words_for Play → IsDue commands words bytes Done text → IsDue commands words bytes Done other → AreOfOneRun bytes text other
  one_run_due_with commands words text other is due also = one_play text other (played text due) (played other also) where
    played : (written : List ℕ) → IsDue commands words bytes Done written → IsDoneBy Play bytes written
    played written done =
        let same : done.0 ≡ Play = one_command done.0 Play (sym done.1.1 ∙ is) in
        subst (λ (c : Command). IsDoneBy c bytes written) same done.2
