use Rattle.std.proofs.Common.{subst, inl, inr}
use Rattle.std.specs.Prelude.{List}
use Rattle.dy_lex.specs.Tokens.{Piece}
use Rattle.dy_syntax.specs.Files.{File}
use Rattle.dy_grammar.specs.Files.{IsFile, IsFaultOn, with_end}
use Rattle.dy_parse.specs.Limits.{IsFirstLimit}
use Rattle.dy_parse.proofs.LimitLaws.Least.{one_first}
use Rattle.dy_parse.proofs.laws.one_parse.Goals as goal

pub returns-clause-not_bad : goal.returns-clause-not_bad
returns-clause-not_bad c = λ bytes file line reads bad. elim bad.stops [
  | inl faulty ↦ c.one_reading.ensures.none bytes line reads.tokens faulty reads.cut
  | inr stops ↦ c.one_fault.ensures.none bytes reads.tokens file line reads.is_file
      (subst (λ (ts : List Piece). IsFaultOn line bytes ts) (c.one_reading.ensures.same bytes stops.0 reads.tokens stops.1 reads.cut) stops.2)
]

pub returns-clause-not_over : goal.returns-clause-not_over
returns-clause-not_over c = λ bytes file line which reads over.
    let same = c.one_reading.ensures.same bytes over.tokens reads.tokens over.cut reads.cut in
    let same_file = c.one_file.ensures (with_end bytes reads.tokens) over.file file (subst (λ (ts : List Piece). IsFile over.file (with_end bytes ts)) same over.is_file) reads.is_file in
    let first : IsFirstLimit which line file reads.tokens = subst (λ (ts : List Piece). IsFirstLimit which line file ts) same (subst (λ (f : File). IsFirstLimit which line f over.tokens) same_file over.first) in
    reads.fits which line first.breaks

pub returns-clause-apart : goal.returns-clause-apart
returns-clause-apart c = λ bytes line other which bad over. elim bad.stops [
  | inl faulty ↦ c.one_reading.ensures.none bytes line over.tokens faulty over.cut
  | inr stops ↦ c.one_fault.ensures.none bytes over.tokens over.file line over.is_file
      (subst (λ (ts : List Piece). IsFaultOn line bytes ts) (c.one_reading.ensures.same bytes stops.0 over.tokens stops.1 over.cut) stops.2)
]

pub returns-clause-one_line : goal.returns-clause-one_line
returns-clause-one_line c = λ bytes line other bad bad_too. elim bad.stops [
  | inl faulty ↦ elim bad_too.stops [
    | inl faulty_too ↦ c.one_reading.ensures.first bytes line other faulty faulty_too
    | inr stops_too ↦ absurd (c.one_reading.ensures.none bytes line stops_too.0 faulty stops_too.1)
  ]
  | inr stops ↦ elim bad_too.stops [
    | inl faulty_too ↦ absurd (c.one_reading.ensures.none bytes other stops.0 faulty_too stops.1)
    | inr stops_too ↦ c.one_fault.ensures.one bytes stops_too.0 line other
        (subst (λ (ts : List Piece). IsFaultOn line bytes ts) (c.one_reading.ensures.same bytes stops.0 stops_too.0 stops.1 stops_too.1) stops.2) stops_too.2
  ]
]

pub returns-clause-one_limit : goal.returns-clause-one_limit
returns-clause-one_limit c = λ bytes line other_line which other a b.
    let same = c.one_reading.ensures.same bytes b.tokens a.tokens b.cut a.cut in
    let same_file = c.one_file.ensures (with_end bytes a.tokens) b.file a.file (subst (λ (ts : List Piece). IsFile b.file (with_end bytes ts)) same b.is_file) a.is_file in
    let first : IsFirstLimit other other_line a.file a.tokens = subst (λ (ts : List Piece). IsFirstLimit other other_line a.file ts) same (subst (λ (f : File). IsFirstLimit other other_line f b.tokens) same_file b.first) in
    one_first a.file a.tokens which other line other_line a.first first
