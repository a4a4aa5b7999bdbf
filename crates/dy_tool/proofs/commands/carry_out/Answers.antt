use Rattle.std.proofs.Common.{◌≡◌, ◌+◌, true, map, length, subst, refl, sym, ap, ◌∙◌, arith}
use Rattle.std.specs.Prelude.{string_bytes}
use Rattle.dy_lex.specs.declared.limits.TheConstants.{MAX_SOURCE_BYTES}
use Rattle.dy_io.specs.Bytes.{CameAtMost}
use Rattle.dy_tool.specs.declared.commands.Command.{Command}
use Rattle.dy_tool.specs.declared.commands.Command.TheVariants.{Play}
use Rattle.dy_tool.specs.declared.statuses.Status.{Status}
use Rattle.dy_tool.specs.declared.statuses.Status.TheVariants.{Done, TooLong}
use Rattle.dy_tool.specs.Texts.{too_long}
use Rattle.dy_tool.specs.Due.{IsNamed, IsDueBy, asks_for_typing, EachInterleavingIsSecure}
use Rattle.dy_tool.specs.Answers.{Owes}
use Rattle.dy_tool.proofs.NamedCommands.{one_command}
use Rattle.dy_tool.proofs.Owed.{EndsWhereTyped, due_with, owes_too_long, said_done, told_holds}
use Rattle.dy_tool.proofs.Carried.{carries_refusal, carries_text, carries_fault, carries_no_memory}
use Rattle.dy_tool.proofs.commands.carry_out.Goals as goal

pub returns-in_default : goal.returns-in_default
returns-in_default g c = record {
  carried = λ commands named.
      let words = map string_bytes c.args.words.now in
      let refused = subst (IsNamed commands words) c.in_default.is named in
      carries_refusal commands words _ _ _ _ _ _ _ refused c.say.ensures;
}

pub returns-in-Ok-answer : goal.returns-in-Ok-answer
returns-in-Ok-answer g c = record {
  carried = λ commands given.
      let words = map string_bytes c.args.words.now in
      let left = g.S.Source.left c.args.source.now in
      let command = c.in-Some.command in
      let bytes = c.in-Ok.bytes.items in
      let answer = c.in-Ok-answer.answer in
      let named = subst (IsNamed commands words) c.in-Some.is given in
      let due : IsDueBy command bytes answer.status answer.text.items = rw c.deref.ensures.value at c.in-Ok-answer.ensures.due in
      let owed : Owes commands words left answer.status answer.text.items = record {
        bytes = bytes;
        told = c.in-Ok.ensures.whole;
        due = due_with commands command words bytes answer.status answer.text.items named due;
      } in
      let says = rw c.as_slice.ensures.value at c.say-in-Ok-answer.ensures in
      let came : CameAtMost (MAX_SOURCE_BYTES + 1) left (g.S.Source.left c.read_all.new.source) = (length bytes, (omega (arith, c.in-Ok.ensures.within)), (bytes, refl, c.in-Ok.ensures.taken)) in
      carries_text commands command words left _ _ _ _ _ _ _ answer.status answer.text.items _ named owed says came (c.in-Ok.ensures.no_fault (λ is. cc)) (λ asked asks same done.
      let is_asked = one_command command asked (sym named.1 ∙ same) in
      let asks_too : asks_for_typing command ≡ true = ap asks_for_typing is_asked ∙ asks in
      let is_done : answer.status ≡ Done = said_done _ _ _ _ answer.status answer.text.items _ says done in
      let secure : EachInterleavingIsSecure bytes = (rw c.deref.ensures.value at c.in-Ok-answer.ensures.secure) asks_too is_done in
      told_holds EachInterleavingIsSecure left bytes c.in-Ok.ensures.whole secure) (λ same done.
      let is_play : command ≡ Play = one_command command Play (sym named.1 ∙ same) in
      let at_play : IsDueBy Play bytes answer.status answer.text.items = subst (λ (w : Command). IsDueBy w bytes answer.status answer.text.items) is_play due in
      let at_done : IsDueBy Play bytes Done answer.text.items = subst (λ (s : Status). IsDueBy Play bytes s answer.text.items) done at_play in
      told_holds (EndsWhereTyped answer.text.items) left bytes c.in-Ok.ensures.whole (λ file reads typed. c.typed_files_play_unbreached.ensures bytes answer.text.items file reads typed at_done));
}

pub returns-in-Ok : goal.returns-in-Ok
returns-in-Ok g c = record {
  carried = λ commands given.
      let words = map string_bytes c.args.words.now in
      let left = g.S.Source.left c.args.source.now in
      let bytes = c.in-Ok.bytes.items in
      let named = subst (IsNamed commands words) c.in-Some.is given in
      let came : CameAtMost MAX_SOURCE_BYTES left (g.S.Source.left c.read_all.new.source) = (length bytes, c.in-Ok.ensures.within, (bytes, refl, c.in-Ok.ensures.taken)) in
      carries_no_memory commands c.in-Some.command words left _ _ _ _ _ named came (c.in-Ok.ensures.no_fault (λ is. cc));
}

pub returns-in-Err-TooLong : goal.returns-in-Err-TooLong
returns-in-Err-TooLong g c = record {
  carried = λ commands given.
      let words = map string_bytes c.args.words.now in
      let left = g.S.Source.left c.args.source.now in
      let left_after = g.S.Source.left c.read_all.new.source in
      let command = c.in-Some.command in
      let named = subst (IsNamed commands words) c.in-Some.is given in
      let all_came = c.in-Err-TooLong.ensures.too_long (cc) in
      let owed = owes_too_long commands command words left left_after named all_came in
      let came : CameAtMost (MAX_SOURCE_BYTES + 1) left left_after = (MAX_SOURCE_BYTES + 1, (omega arith), all_came) in
      carries_text commands command words left _ _ _ _ _ _ _ TooLong too_long _ named owed c.say-in-Err-TooLong.ensures came (c.in-Err-TooLong.ensures.no_fault (λ is. cc)) (λ asked asks same done.
      absurd (let other : TooLong ≡ Done = said_done _ _ _ _ TooLong too_long _ c.say-in-Err-TooLong.ensures done in cc)) (λ same done. absurd cc);
}

pub returns-in-Err-Fault : goal.returns-in-Err-Fault
returns-in-Err-Fault g c = record {
  carried = λ commands given.
      let words = map string_bytes c.args.words.now in
      let named = subst (IsNamed commands words) c.in-Some.is given in
      let after = c.in-Err-Fault.ensures in
      carries_fault commands c.in-Some.command words _ _ _ _ _ _ named (after.fault_within (cc)) (after.fault (cc)) after.later;
}

pub returns : goal.returns
returns g c = record {
  carried = λ commands given.
      let words = map string_bytes c.args.words.now in
      let named = subst (IsNamed commands words) c.in-Some.is given in
      let after = c.in-Err-Memory.ensures in
      carries_no_memory commands c.in-Some.command words _ _ _ _ _ _ named (after.memory_within (cc)) (after.no_fault (λ is. cc));
}
