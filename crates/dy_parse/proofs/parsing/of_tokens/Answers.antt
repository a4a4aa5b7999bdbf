use Rattle.std.proofs.Common.{◌≡◌, ℕ, [], None, sym, ◌∙◌, ap, subst}
use Rattle.std.specs.Prelude.{Ok, Err}
use Rattle.std.specs.List.{flat_map}
use Rattle.std.proofs.lemmas.Result.{IfOk-weaker}
use Rattle.dy_lex.specs.Tokens.{pieces_of}
use Rattle.dy_syntax.specs.declared.files.File as code
use Rattle.dy_syntax.specs.Meaning.{file_of}
use Rattle.dy_grammar.specs.Files.{with_end}
use Rattle.dy_grammar.specs.Mirrors.FileReading.{file_at}
use Rattle.dy_parse.specs.Limits.{excess_in_token}
use Rattle.dy_parse.specs.Reading.{Reads, IsBadLine}
use Rattle.dy_parse.specs.Mirrors.Limits.{first_of, note_all}
use Rattle.dy_parse.proofs.Readings.{bad_line, reads, over_limit}
use Rattle.dy_parse.proofs.parsing.of_tokens.Goals as goal

pub returns-in-Ok-file-clause-file : goal.returns-in-Ok-file-clause-file
returns-in-Ok-file-clause-file c =
    let source = c.args.source.now in
    let tokens = pieces_of c.args.tokens.items in
    let first = first_of c.note_tokens.new.first in
    let file = file_of c.in-Ok-file.file in
    let read : file_at (with_end source tokens) ≡ Ok (file, []) = sym (ap file_at (ap pieces_of c.as_slice-2.ensures.value ∙ c.in-Ok.ensures)) ∙ c.in-Ok-file.ensures in
    let noted : first ≡ note_all (flat_map excess_in_token tokens) None = rw (c.as_slice.ensures.value, c.none-first.ensures) at c.note_tokens.ensures in
    IfOk-weaker c.within.result _ _
    (λ same h. subst (λ (f : code.File). Reads source (file_of f)) (sym h.0) (reads source tokens c.requires.few c.requires.cut file first read noted h.1))
    c.within.ensures.fits

pub returns-in-Ok-file-clause-limit : goal.returns-in-Ok-file-clause-limit
returns-in-Ok-file-clause-limit c = λ line which is_err.
    let source = c.args.source.now in
    let tokens = pieces_of c.args.tokens.items in
    let first = first_of c.note_tokens.new.first in
    let file = file_of c.in-Ok-file.file in
    let read : file_at (with_end source tokens) ≡ Ok (file, []) = sym (ap file_at (ap pieces_of c.as_slice-2.ensures.value ∙ c.in-Ok.ensures)) ∙ c.in-Ok-file.ensures in
    let noted : first ≡ note_all (flat_map excess_in_token tokens) None = rw (c.as_slice.ensures.value, c.none-first.ensures) at c.note_tokens.ensures in
    over_limit source tokens c.requires.few c.requires.cut file first read noted (record { which = which; line = line }) (c.within.ensures.limit line which is_err)

pub returns-in-Err-At-clause-bad : goal.returns-in-Err-At-clause-bad
returns-in-Err-At-clause-bad c = λ line is_err.
    let source = c.args.source.now in
    let tokens = pieces_of c.args.tokens.items in
    let left = c.in-Err-At.left in
    let fails : file_at (pieces_of c.as_slice-2.result.now) ≡ Err left = rw c.in-Err-At.field-0-is at c.in-Err-At.ensures in
    let failed : file_at (with_end source tokens) ≡ Err left = sym (ap file_at (ap pieces_of c.as_slice-2.ensures.value ∙ c.in-Ok.ensures)) ∙ fails in
    let place = rw (c.as_slice-in-Err-At.ensures.value, c.in-Ok.ensures, c.last_line-last.ensures, c.in-Err-At.field-0-is) at c.fault_line.ensures in
    let same : c.fault_line.result ≡ line = cc in
    subst (λ (n : ℕ). IsBadLine source n) (sym place ∙ same) (bad_line source tokens c.requires.few c.requires.cut left failed)
