-- An input is one protocol, or it has one fault.
use Rattle.std.proofs.Common.{◌≡◌, ℕ, List, inl, inr, subst, sym, ap, ◌∙◌, arith}
use Rattle.dy_syntax.specs.Files.{File}
use Rattle.dy_syntax.specs.Rules.{Breaks, IsFirst}
use Rattle.dy_parse.specs.declared.errors.LimitName.{LimitName}
use Rattle.dy_parse.specs.Reading.{Reads, IsBadLine, IsOverLimit}
use Rattle.dy_core.specs.Answers.{IsBadInput}
use Rattle.dy_tool.specs.declared.protocols.InputFault.{InputFault}
use Rattle.dy_tool.specs.declared.protocols.InputFault.TheVariants.{Syntax, Limit, Rule}
use Rattle.dy_tool.specs.Protocols.{IsProtocol, HasFault, fault_text}
use Rattle.dy_tool.specs.Due.{IsFaulty}

-- the laws of reading
pub record ReadingLaws : Type 0 where
  pub one_file : (bytes : List ℕ) (a b : File) → Reads bytes a → Reads bytes b → a ≡ b
  pub file_or_bad : (bytes : List ℕ) (file : File) (line : ℕ) → Reads bytes file → IsBadLine bytes line → ⊥
  pub file_or_over : (bytes : List ℕ) (file : File) (line : ℕ) (which : LimitName) → Reads bytes file → IsOverLimit bytes line which → ⊥
  pub bad_or_over : (bytes : List ℕ) (bad line : ℕ) (which : LimitName) → IsBadLine bytes bad → IsOverLimit bytes line which → ⊥
  pub one_bad : (bytes : List ℕ) (line other : ℕ) → IsBadLine bytes line → IsBadLine bytes other → line ≡ other
  pub one_over : (bytes : List ℕ) (line other : ℕ) (which other_which : LimitName) → IsOverLimit bytes line which → IsOverLimit bytes other other_which → (line ≡ other) × (which ≡ other_which)

-- a file breaks one rule first
pub one_first : (file : File) (rule line other_rule other_line : ℕ) → IsFirst file rule line → IsFirst file other_rule other_line → (line ≡ other_line) × (rule ≡ other_rule)
one_first file rule line other_rule other_line first other =
    let same_line : line ≡ other_line = omega (arith, first.line_is_least other_rule other_line other.breaks, other.line_is_least rule line first.breaks) in
    let here : Breaks file rule other_line = subst (λ l. Breaks file rule l) same_line first.breaks in
    let there : Breaks file other_rule line = subst (λ l. Breaks file other_rule l) (sym same_line) other.breaks in
    (same_line, omega (arith, first.rule_is_least other_rule there, other.rule_is_least rule here))

module _ (laws : ReadingLaws) (bytes : List ℕ) where
  -- a protocol has no fault
  pub no_fault : (file : File) (fault : InputFault) → IsProtocol bytes file → HasFault bytes fault → ⊥
  no_fault file (Syntax line) protocol bad = laws.file_or_bad bytes file line protocol.reads bad
  no_fault file (Limit line which) protocol over = laws.file_or_over bytes file line which protocol.reads over
  no_fault file (Rule line rule) protocol wrong =
      let same = laws.one_file bytes wrong.0 file wrong.1 protocol.reads in
      protocol.well_formed rule line (subst (λ (f : File). Breaks f rule line) same wrong.2.breaks)

  -- there is one fault
  one_fault : (fault other : InputFault) → HasFault bytes fault → HasFault bytes other → fault ≡ other
  one_fault (Syntax line) (Syntax other) bad also = ap Syntax (laws.one_bad bytes line other bad also)
  one_fault (Syntax line) (Limit other which) bad over = absurd (laws.bad_or_over bytes line other which bad over)
  one_fault (Syntax line) (Rule other rule) bad wrong = absurd (laws.file_or_bad bytes wrong.0 line wrong.1 bad)
  one_fault (Limit line which) (Syntax other) over bad = absurd (laws.bad_or_over bytes other line which bad over)
  one_fault (Limit line which) (Limit other other_which) over also =
      let same = laws.one_over bytes line other which other_which over also in
      ap (λ l. Limit l which) same.0 ∙ ap (λ (w : LimitName). Limit other w) same.1
  one_fault (Limit line which) (Rule other rule) over wrong = absurd (laws.file_or_over bytes wrong.0 line which wrong.1 over)
  one_fault (Rule line rule) (Syntax other) wrong bad = absurd (laws.file_or_bad bytes wrong.0 other wrong.1 bad)
  one_fault (Rule line rule) (Limit other which) wrong over = absurd (laws.file_or_over bytes wrong.0 other which wrong.1 over)
  one_fault (Rule line rule) (Rule other other_rule) wrong also =
      let same_file = laws.one_file bytes wrong.0 also.0 wrong.1 also.1 in
      let same = one_first also.0 rule line other_rule other (subst (λ (f : File). IsFirst f rule line) same_file wrong.2) also.2 in
      ap (λ l. Rule l rule) same.0 ∙ ap (λ r. Rule other r) same.1

  -- and one text for it
  pub one_fault_text : (text other : List ℕ) → IsFaulty bytes text → IsFaulty bytes other → text ≡ other
  one_fault_text text other faulty also = faulty.2 ∙ ap fault_text (one_fault faulty.0 also.0 faulty.1 also.1) ∙ sym also.2

  -- the bytes of a protocol open a Book
  pub no_bad_input : (file : File) (line : ℕ) → IsProtocol bytes file → IsBadInput bytes line → ⊥
  no_bad_input file line protocol (inl bad) = no_fault file (Syntax line) protocol bad
  no_bad_input file line protocol (inr (inl over)) = no_fault file (Limit line over.0) protocol over.1
  no_bad_input file line protocol (inr (inr wrong)) = no_fault file (Rule line wrong.1) protocol (wrong.0, wrong.2, wrong.3)
