-- The verdict on a file that was read, for the commands that ask for typing.
use Rattle.std.proofs.Common.{◌≡◌, ◌≢◌, ℕ, true, List, sym, subst}
use Rattle.dy_syntax.specs.Files.{File}
use Rattle.dy_parse.specs.Reading.{Reads}
use Rattle.dy_traces.specs.Interleavings.{Interleaves}
use Rattle.dy_sound.specs.Secure.{IsSecure}
use Rattle.dy_sound.specs.Acceptance.{IsSecureFile}
use Rattle.dy_tool.specs.declared.commands.Command.{Command}
use Rattle.dy_tool.specs.declared.statuses.Status.{Status}
use Rattle.dy_tool.specs.declared.statuses.Status.TheVariants.{Done, NotAccepted, Words, Input, ReadFault, WriteFault, Memory, TooLong}
use Rattle.dy_tool.specs.Due.{IsDueBy, asks_for_typing, EachInterleavingIsSecure}
use Rattle.dy_tool.specs.Judging.{IsRefusal}

-- Where the file that the bytes are is secure, so is every interleaving of the bytes.
pub secure_bytes : ((bytes : List ℕ) (file other : File) → Reads bytes file → Reads bytes other → file ≡ other)
    → (bytes : List ℕ) (file : File) → Reads bytes file → IsSecureFile file → EachInterleavingIsSecure bytes
secure_bytes one bytes file reads secure = λ other T traces.
    let same : file ≡ other = one bytes file other reads traces.reads in
    subst (λ (f : File). IsSecure f.decls T) same
    (secure bytes T (subst (λ (f : File). Interleaves bytes f T) (sym same) traces))

-- The answer to bytes that are no typed file is due.
pub refusal_is_due : (command : Command) (bytes : List ℕ) (status : Status) (text : List ℕ) → asks_for_typing command ≡ true → IsRefusal bytes status text → IsDueBy command bytes status text
refusal_is_due command bytes Done text asks refusal = absurd refusal
refusal_is_due command bytes NotAccepted text asks refusal = (asks, refusal)
refusal_is_due command bytes Words text asks refusal = absurd refusal
refusal_is_due command bytes Input text asks refusal = refusal
refusal_is_due command bytes ReadFault text asks refusal = absurd refusal
refusal_is_due command bytes WriteFault text asks refusal = absurd refusal
refusal_is_due command bytes Memory text asks refusal = absurd refusal
refusal_is_due command bytes TooLong text asks refusal = absurd refusal

-- It is not Done.
pub refusal_is_not_done : (bytes : List ℕ) (status : Status) (text : List ℕ) → IsRefusal bytes status text → status ≢ Done
refusal_is_not_done bytes status text refusal done = subst (λ (s : Status). IsRefusal bytes s text) done refusal
