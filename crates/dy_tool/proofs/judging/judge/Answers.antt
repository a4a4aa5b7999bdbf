use Rattle.std.proofs.Common.{◌≡◌, ℕ, List, sym, subst}
use Rattle.dy_syntax.specs.Files.{File}
use Rattle.dy_syntax.specs.declared.files.File as declared
use Rattle.dy_syntax.specs.Meaning.{file_of}
use Rattle.dy_parse.specs.Reading.{Reads}
use Rattle.dy_sound.specs.Acceptance.{IsRefusedFile}
use Rattle.dy_tool.specs.declared.statuses.Status.{Status}
use Rattle.dy_tool.specs.declared.statuses.Status.TheVariants.{NotAccepted}
use Rattle.dy_tool.specs.Protocols.{IsProtocol, IsReadAs}
use Rattle.dy_tool.specs.Judging.{IsTypedText, IsRefusal}
use Rattle.dy_tool.specs.Texts.{refused_text}
use Rattle.dy_tool.proofs.ShortFiles.{are_short}
use Rattle.dy_tool.proofs.judging.judge.Goals as goal

-- where a place is refused
place_is_refused : (bytes : List ℕ) (file : File) (line condition field : ℕ) (status : Status) (text : List ℕ) → Reads bytes file
    → IsRefusedFile file line condition field → (status ≡ NotAccepted) × (text ≡ refused_text line condition field) → IsRefusal bytes status text
place_is_refused bytes file line condition field status text reads refused is = rw is.0 (file, line, condition, field, reads, refused, is.1)

pub accept-requires-clause-short : goal.accept-requires-clause-short
accept-requires-clause-short c =
    let protocol : IsProtocol c.args.bytes.now (file_of c.in-Protocol.file) = subst (IsReadAs c.args.bytes.now) c.in-Protocol.is c.in_ok-fault.ensures in
    are_short c.args.bytes.now (file_of c.in-Protocol.file) protocol.reads

pub returns-in-Ok : goal.returns-in-Ok
returns-in-Ok c =
    let bytes = c.args.bytes.now in
    let file = c.in-Protocol.file in
    let protocol : IsProtocol bytes (file_of file) = subst (IsReadAs bytes) c.in-Protocol.is c.in_ok-fault.ensures in
    let text : IsTypedText bytes (file_of file) = record { reads = protocol.reads; typed = c.in-Ok.ensures.typed } in
    subst (λ (f : declared.File). IsTypedText bytes (file_of f)) (sym c.in-Ok.ensures.file) text

pub returns-in_ok-answer_refused-in-Err-NotAccepted : goal.returns-in_ok-answer_refused-in-Err-NotAccepted
returns-in_ok-answer_refused-in-Err-NotAccepted c =
    let bytes = c.args.bytes.now in
    let file = file_of c.in-Protocol.file in
    let at = c.in-Err-NotAccepted in
    let answer = c.in_ok-answer_refused-in-Err-NotAccepted.field-0 in
    let protocol : IsProtocol bytes file = subst (IsReadAs bytes) c.in-Protocol.is c.in_ok-fault.ensures in
    let refused : IsRefusedFile file at.line at.condition at.field = at.ensures.refused at.line at.condition at.field (cc) in
    place_is_refused bytes file at.line at.condition at.field answer.status answer.text.items protocol.reads refused c.in_ok-answer_refused-in-Err-NotAccepted.ensures
