-- A fault that is answered is a fault of the bytes.
use Rattle.std.proofs.Common.{◌≡◌, ℕ, List, Result, Ok, Err, inl, inr, refl, sym, subst}
use Rattle.std.specs.Prelude.{IfOk, IsErrOf}
use Rattle.dy_syntax.specs.Meaning.{file_of}
use Rattle.dy_syntax.specs.Rules.{IsWellFormed}
use Rattle.dy_syntax.specs.declared.files.File.{File}
use Rattle.dy_parse.specs.declared.errors.LimitName.{LimitName}
use Rattle.dy_parse.specs.declared.errors.ParseError as parse
use Rattle.dy_parse.specs.declared.errors.ParseError.TheVariants as parses
use Rattle.dy_parse.specs.Reading.{Reads, IsBadLine, IsOverLimit}
use Rattle.dy_core.specs.declared.answers.OpenError.{OpenError}
use Rattle.dy_core.specs.declared.answers.OpenError.TheVariants.{BadInput}
use Rattle.dy_core.specs.MirrorFaults.{of_parse_error}
use Rattle.dy_core.specs.Answers.{IsBadInput}
use Rattle.dy_core.specs.Protocols.{IsProtocol}

same_line : (a b : ℕ) → IsErrOf {T = File} (Err (BadInput a)) (BadInput b) → a ≡ b
same_line a b same = cc

pub parse_fault : (bytes : List ℕ) (error : parse.ParseError)
    → ((line : ℕ) → IsErrOf {T = File} (Err error) (parses.BadLine line) → IsBadLine bytes line)
    → ((line : ℕ) (which : LimitName) → IsErrOf {T = File} (Err error) (parses.Limit line which) → IsOverLimit bytes line which)
    → (line : ℕ) → IsErrOf {T = File} (Err (of_parse_error error)) (BadInput line) → IsBadInput bytes line
parse_fault bytes (parses.BadLine at) bad over line same = subst (λ (n : ℕ). IsBadInput bytes n) (same_line at line same) (inl (bad at refl))
parse_fault bytes (parses.Limit at which) bad over line same = subst (λ (n : ℕ). IsBadInput bytes n) (same_line at line same) (inr (inl (which, over at which refl)))
parse_fault bytes parses.Memory bad over line same = absurd cc

pub read_protocol : (bytes : List ℕ) (file : File) (result : Result File OpenError) → Reads bytes (file_of file)
    → IfOk result (λ same. (same ≡ file) × IsWellFormed (file_of file)) → IfOk result (λ same. IsProtocol bytes (file_of same))
read_protocol bytes file (Ok same) reads fine =
    subst (λ (f : File). IsProtocol bytes (file_of f)) (sym fine.0) (record { reads = reads; well_formed = fine.1 })
read_protocol bytes file (Err error) reads fine = tt
