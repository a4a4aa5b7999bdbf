use Rattle.std.proofs.Common.{◌≡◌, ℕ, List, subst}
use Rattle.dy_syntax.specs.Meaning.{file_of}
use Rattle.dy_parse.specs.Reading.{Reads}
use Rattle.dy_core.specs.Answers.{IsBadInput}
use Rattle.dy_core.specs.BookMeaning.{file_in}
use Rattle.dy_tool.proofs.OneInput.{ReadingLaws, no_bad_input}
use Rattle.dy_tool.proofs.running.open_book.Goals as goal

pub unreachable-requires : goal.unreachable-requires
unreachable-requires c =
    let reading : ReadingLaws = record {
      one_file = c.one_file.ensures;
      file_or_bad = c.one_parse.ensures.not_bad;
      file_or_over = c.one_parse.ensures.not_over;
      bad_or_over = c.one_parse.ensures.apart;
      one_bad = c.one_parse.ensures.one_line;
      one_over = c.one_parse.ensures.one_limit;
    } in
    let bytes = c.args.bytes.now in
    let line = c.in-Err-BadInput.field-0-0 in
    let input = c.in_ok-to_vec.field-0.items in
    let same : input ≡ bytes = c.in_ok-to_vec.ensures.items_if_clones_equal (λ x y copied. copied) in
    let bad : IsBadInput input line = c.in-Err-BadInput.ensures.bad line (cc) in
    no_bad_input reading bytes (file_of c.args.file.now) line c.requires.protocol (subst (λ (read : List ℕ). IsBadInput read line) same bad)

pub returns-in-Ok-clause-file : goal.returns-in-Ok-clause-file
returns-in-Ok-clause-file c =
    let bytes = c.args.bytes.now in
    let opened = file_in c.in-Ok.book in
    let same : c.in_ok-to_vec.field-0.items ≡ bytes = c.in_ok-to_vec.ensures.items_if_clones_equal (λ x y copied. copied) in
    let reads : Reads bytes opened = subst (λ (read : List ℕ). Reads read opened) same c.in-Ok.ensures.file.reads in
    c.one_file.ensures bytes opened (file_of c.args.file.now) reads c.requires.protocol.reads
