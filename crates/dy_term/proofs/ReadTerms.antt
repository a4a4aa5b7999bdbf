-- What the reader answers is right, wherever it stops.
use Rattle.std.proofs.Common.{◌≡◌, ℕ, ◌+◌, ◌<◌, ◌≤◌, List, [], ◌∷◌, ◌++◌, length, get_or, take, drop, Option, Some, None, refl, sym, ap, subst, ◌∙◌, zero-add, nat_le, inl, inr, arith}
use Rattle.std.specs.Option.{option_and_then}
use Rattle.std.proofs.lemmas.Bool.{cases_Bool, leb-true, leb-false, le-leb}
use Rattle.std.proofs.lemmas.List.{append_assoc, append-nil, take-append-drop, take-take, get_or-take, drop_more, take_more, length-take-le}
use Rattle.dy_term.specs.Terms.{Term, size}
use Rattle.dy_term.specs.TermText.{term_text}
use Rattle.dy_term.specs.TermReading.{IsTextOf, BeginsText, GoesAlongTo, StartsWithTerm, StartsWithNone}
use Rattle.dy_term.specs.MirrorSteps.{State, Part, Stops, step, run, start, part_within, end}
use Rattle.dy_term.proofs.Runs.{run_parts, Finishes}
use Rattle.dy_term.proofs.TextReads.{reads}
use Rattle.dy_term.proofs.Written.{WroteState, WroteMaybe}
use Rattle.dy_term.proofs.WrittenSteps.{wrote_step}
use Rattle.dy_term.proofs.TextBegins.{begins, whole_text}

module _ (limit : ℕ) where
  -- all that was read begins the text of a term
  run_wrote : (s t : State) (prefix bytes : List ℕ) → WroteState s prefix → run limit s bytes ≡ Some t → WroteState t (prefix ++ bytes)
  run_wrote s t prefix [] wrote runs =
      let same : s ≡ t = cc in
      subst (λ (bytes : List ℕ). WroteState t bytes) (sym (append-nil prefix)) (subst (λ (u : State). WroteState u prefix) same wrote)
  run_wrote s t prefix (b ∷ bytes) wrote runs =
      (elim (step limit s b) as (λ (o : Option State). WroteMaybe o (prefix ++ b ∷ []) → option_and_then (λ next. run limit next bytes) o ≡ Some t → WroteState t (prefix ++ b ∷ bytes)) [
        | None ↦ λ so_far ran. absurd cc
        | Some next ↦ λ so_far ran. subst (λ (read : List ℕ). WroteState t read) (append_assoc prefix (b ∷ []) bytes) (run_wrote next t (prefix ++ b ∷ []) bytes so_far ran)
      ]) (wrote_step limit s.reading s.begun s.nodes b prefix wrote) runs

  -- the reader has read these bytes
  read_wrote : (bytes : List ℕ) (s : State) → run limit start bytes ≡ Some s → WroteState s bytes
  read_wrote bytes s runs = run_wrote start s [] bytes refl runs

  -- what was read before a byte that leads nowhere goes on with no text
  dies : (prefix : List ℕ) (s : State) (b : ℕ) (rest : List ℕ) → run limit start prefix ≡ Some s → step limit s b ≡ None → run limit start (prefix ++ b ∷ rest) ≡ None
  dies prefix s b rest runs none =
      run_parts limit start prefix (b ∷ rest) ∙ ap (option_and_then (λ t. run limit t (b ∷ rest))) runs ∙ ap (option_and_then (λ t. run limit t rest)) none

  -- no text begins with such bytes
  no_text_begins : (prefix : List ℕ) (s : State) (b : ℕ) (rest : List ℕ) → run limit start prefix ≡ Some s → step limit s b ≡ None → BeginsText (prefix ++ b ∷ rest) → ⊥
  no_text_begins prefix s b rest runs none begins_so =
      let text = begins_so.2 in
      let whole = reads limit begins_so.0 text.made [] 0 in
      let dead : run limit start (prefix ++ b ∷ (rest ++ begins_so.1)) ≡ None = dies prefix s b (rest ++ begins_so.1) runs none in
      let same : prefix ++ b ∷ (rest ++ begins_so.1) ≡ term_text begins_so.0 = sym (append_assoc prefix (b ∷ rest) begins_so.1) ∙ text.spelled in
      let ran : run limit start (prefix ++ b ∷ (rest ++ begins_so.1)) ≡ Some whole.after = rw same whole.runs in
      cc

  -- where no more is read, no more begins the text of a term
  pub along : (bytes : List ℕ) (at : ℕ) (s : State) → Stops limit bytes at s → GoesAlongTo bytes at
  along bytes at s stop = record {
    within = stop.within;
    begins = begins s.reading s.begun (take at bytes) (read_wrote (take at bytes) s stop.ran);
    longest = λ longer further inside begins_so. no_text_begins (take at bytes) s (get_or bytes at 0) (drop (at + 1) (take longer bytes)) stop.ran (stop.stops (omega arith)) (subst BeginsText (cut longer further inside) begins_so);
  }
    where
      cut : (longer : ℕ) → at < longer → longer ≤ length bytes → take longer bytes ≡ take at bytes ++ get_or bytes at 0 ∷ drop (at + 1) (take longer bytes)
      cut longer further inside =
          let prefix = take longer bytes in
          let reaches : at < length prefix = omega (arith, length-take-le longer bytes inside) in
          let before : take at prefix ≡ take at bytes = take-take at longer bytes (omega arith) in
          let byte : get_or prefix at 0 ≡ get_or bytes at 0 = get_or-take longer bytes at 0 further in
          sym (take-append-drop at prefix) ∙ ap (λ (rest : List ℕ). take at prefix ++ rest) (drop_more prefix at 0 reaches) ∙ rw (before, byte) refl

  -- where a part may end, and nothing is begun, it is the answer
  ends_so : (s : State) (part : Part) (nodes : ℕ) → Finishes limit s part [] nodes → end limit s ≡ Some (part, nodes)
  ends_so s part nodes finishes = rw (finishes.below, finishes.settles) refl

  -- what the reader answers at the end of the text of a term
  answers : (bytes : List ℕ) (s : State) (term : Term) → run limit start bytes ≡ Some s → IsTextOf term bytes → end limit s ≡ Some (part_within limit (size term) term, size term)
  answers bytes s term runs text =
      let whole = reads limit term text.made [] 0 in
      let ran : run limit start bytes ≡ Some whole.after = rw text.spelled whole.runs in
      let same : whole.after ≡ s = cc in
      let ended : end limit whole.after ≡ Some (part_within limit (0 + size term) term, 0 + size term) = ends_so whole.after (part_within limit (0 + size term) term) (0 + size term) whole.finishes in
      let count : 0 + size term ≡ size term = zero-add (size term) in
      let nodes_read : end limit whole.after ≡ Some (part_within limit (size term) term, size term) = rw count at ended in
      rw same at nodes_read

  -- The bytes are the text of a term, and the part and the number are right.
  pub record IsAnswer (bytes : List ℕ) (part : Part) (nodes : ℕ) : Type 0 where
    pub term : Term
    pub text : IsTextOf term bytes
    pub part_is : part ≡ part_within limit (size term) term
    pub nodes_is : nodes ≡ size term

  abbrev part_in : Option (Part × ℕ) → Part
  part_in None = None
  part_in (Some answer) = answer.0

  abbrev nodes_in : Option (Part × ℕ) → ℕ
  nodes_in None = 0
  nodes_in (Some answer) = answer.1

  -- where a term ends with the bytes, it is theirs
  read_whole : (bytes : List ℕ) (s : State) (part : Part) (nodes : ℕ) → run limit start bytes ≡ Some s → end limit s ≡ Some (part, nodes) → IsAnswer bytes part nodes
  read_whole bytes s part nodes runs ended =
      let found = whole_text limit s.reading s.begun s.nodes bytes (part, nodes) (read_wrote bytes s runs) ended in
      let whole = answers bytes s found.0 runs found.1 in
      let same : Some (part, nodes) ≡ Some (part_within limit (size found.0) found.0, size found.0) = sym ended ∙ whole in
      record { term = found.0; text = found.1; part_is = ap part_in same; nodes_is = ap nodes_in same }

  -- one byte more
  pub run_more : (bytes : List ℕ) (at : ℕ) (s t : State) → at < length bytes → run limit start (take at bytes) ≡ Some s → step limit s (get_or bytes at 0) ≡ Some t → run limit start (take (at + 1) bytes) ≡ Some t
  run_more bytes at s t within runs next =
      rw (take_more bytes at 0 within, run_parts limit, runs, next) refl

  -- The bytes begin with this term, which is small.
  pub record StartsWithSmall (bytes : List ℕ) (at : ℕ) (term : Term) : Type 0 where
    pub starts : StartsWithTerm bytes term at
    pub small : size term ≤ limit

  pub starts_with_small : (bytes : List ℕ) (at : ℕ) (s : State) (term : Term) (nodes : ℕ) → Stops limit bytes at s → end limit s ≡ Some (Some term, nodes) → StartsWithSmall bytes at term
  starts_with_small bytes at s term nodes stop ended =
      let answer = read_whole (take at bytes) s (Some term) nodes stop.ran ended in
      elim (cases_Bool (nat_le (size answer.term) limit)) [
        | inl few ↦
            let same : Some term ≡ Some answer.term = rw few at answer.part_is in
            let is : answer.term ≡ term = cc in
            record {
              starts = record { along = along bytes at s stop; text = subst (λ (t : Term). IsTextOf t (take at bytes)) is answer.text };
              small = rw (← is) (leb-true (size answer.term) limit few);
            }
        | inr many ↦ let none : Some term ≡ None = rw many at answer.part_is in absurd cc
      ]

  -- The bytes begin with a term of so many nodes, which are too many.
  pub record StartsWithLarge (bytes : List ℕ) (at nodes : ℕ) : Type 0 where
    pub term : Term
    pub starts : StartsWithTerm bytes term at
    pub count : size term ≡ nodes
    pub large : limit < nodes

  pub starts_with_large : (bytes : List ℕ) (at : ℕ) (s : State) (nodes : ℕ) → Stops limit bytes at s → end limit s ≡ Some (None, nodes) → StartsWithLarge bytes at nodes
  starts_with_large bytes at s nodes stop ended =
      let answer = read_whole (take at bytes) s None nodes stop.ran ended in
      elim (cases_Bool (nat_le (size answer.term) limit)) [
        | inl few ↦ let some : None ≡ Some answer.term = rw few at answer.part_is in absurd cc
        | inr many ↦ record {
          term = answer.term;
          starts = record { along = along bytes at s stop; text = answer.text };
          count = sym answer.nodes_is;
          large = rw answer.nodes_is (leb-false (size answer.term) limit many);
        }
      ]

  pub starts_with_none : (bytes : List ℕ) (at : ℕ) (s : State) → Stops limit bytes at s → end limit s ≡ None → StartsWithNone bytes at
  starts_with_none bytes at s stop ended = record {
    along = along bytes at s stop;
    no_text = λ term text. let some = answers (take at bytes) s term stop.ran text in cc;
  }

-- with this limit both terms are part_within
kept_within : (limit : ℕ) (term : Term) → size term ≤ limit → part_within limit (size term) term ≡ Some term
kept_within limit term small = rw (le-leb (size term) limit small) refl

-- two terms with one text are one term
pub one_term : (bytes : List ℕ) (s t : Term) → IsTextOf s bytes → IsTextOf t bytes → s ≡ t
one_term bytes s t of_s of_t =
    let limit = size s + size t in
    let whole = reads limit s of_s.made [] 0 in
    let ran : run limit start bytes ≡ Some whole.after = rw of_s.spelled whole.runs in
    let first = answers limit bytes whole.after s ran of_s in
    let second = answers limit bytes whole.after t ran of_t in
    let same : part_within limit (size s) s ≡ part_within limit (size t) t = ap (part_in limit) (sym first ∙ second) in
    let some : Some s ≡ Some t = sym (kept_within limit s (omega arith)) ∙ same ∙ kept_within limit t (omega arith) in
    cc
