-- The patterns of a handler that runs: what they write stands once, and what they compare with is written before.
use Rattle.std.proofs.Common.{◌≡◌, ℕ, ◌+◌, ◌≤◌, Bool, true, false, ◌||◌, List, [], ◌∷◌, ◌++◌, map, Contains, Option, unwrap_or, inl, inr, refl, sym, ap, subst, arith}
use Rattle.std.specs.Option.{option_map}
use Rattle.std.specs.List.{flat_map}
use Rattle.std.specs.Str.{bytes_eq}
use Rattle.std.proofs.lemmas.Bool.{or_left, or_right}
use Rattle.std.proofs.lemmas.Slice.Eq.{bytes_eq-Decides}
use Rattle.std.proofs.lemmas.List.{map-append}
use Rattle.std.proofs.lemmas.List.Elements.{Contains-append_right}
use Rattle.dy_term.specs.Terms as trees
use Rattle.dy_term.specs.Terms.{Term}
use Rattle.dy_label.specs.Words.{Choice}
use Rattle.dy_syntax.specs.Names as syntax
use Rattle.dy_syntax.specs.Names.{Id, Nm, Me}
use Rattle.dy_syntax.specs.Statements as statements
use Rattle.dy_syntax.specs.Statements.{Pattern, Bind, Named, Equal, Statement}
use Rattle.dy_syntax.specs.Files.{File}
use Rattle.dy_syntax.specs.Scopes as scopes
use Rattle.dy_syntax.specs.Scopes.{Scope, words_of, is_among, is_name, is_bound, handler_scope, handler_names, on_pats, pattern_binds, pattern_names, act_binds, act_pats, act_variable, variables}
use Rattle.dy_typing.specs.Names.{setting_of}
use Rattle.dy_entry.specs.Entries.{Entry}
use Rattle.dy_entry.specs.LookUps.{newest}
use Rattle.dy_eval.specs.declared.written.Written.{Written}
use Rattle.dy_eval.specs.Names.{Names, write, bytes_at}
use Rattle.dy_eval.specs.Patterns.{fits, written_by}
use Rattle.dy_sound.specs.Names.{Agrees}
use Rattle.dy_sound.specs.Matches.{words_written, scope_in, HandlerMatches}
use Rattle.dy_sound.specs.StatementsAreSound.{NamesArePrincipals, bound_after, IsRunning}
use Rattle.dy_sound.proofs.Lists.{Contains-none, Contains-first, Contains-cases}
use Rattle.dy_sound.proofs.Members.{Contains-flat_map}
use Rattle.dy_sound.proofs.NamesApart.{how_many, count_append, at_most_one, plain_binds, plain_variables}
use Rattle.dy_sound.proofs.NoFaults.{no_fault, variables_place}
use Rattle.dy_sound.proofs.WordsWritten.{all_by}
use Rattle.dy_sound.proofs.Standing.{principals_still, plain_of_act}
use Rattle.dy_sound.proofs.MatchesAt.{handler_matches}
use Rattle.dy_sound.proofs.Tuples.{SameAreEqual}
use Rattle.dy_sound.proofs.StillWritten.{IsWritten, written_is_the_same}
use Rattle.dy_sound.proofs.PatternsHold.{AreWritten}
use Rattle.dy_sound.proofs.GivenPatterns.{found_once, ArePlaced}
use Rattle.dy_sound.proofs.SameStatement.{write_nothing}

-- What is in a list has its word among the words of the list.
pub among_of_member : (id : Id) (ids : List Id) → Contains ids id → is_among id.word (words_of ids) ≡ true
among_of_member id [] within = absurd (Contains-none id within)
among_of_member id (first ∷ ids) within = elim (Contains-cases first ids id within) [
  | inl same ↦ or_left (bytes_eq id.word first.word) (is_among id.word (words_of ids)) ((bytes_eq-Decides id.word first.word).1 (sym (ap (λ (i : Id). i.word) same)))
  | inr later ↦ or_right (bytes_eq id.word first.word) (is_among id.word (words_of ids)) (among_of_member id ids later)
]

among_written : (written : Written) (all : List Written) → Contains all written → is_among written.word (map (λ w. w.word) all) ≡ true
among_written written [] within = absurd (Contains-none written within)
among_written written (first ∷ all) within = elim (Contains-cases first all written within) [
  | inl same ↦ or_left (bytes_eq written.word first.word) _ ((bytes_eq-Decides written.word first.word).1 (sym (ap (λ (w : Written). w.word) same)))
  | inr later ↦ or_right (bytes_eq written.word first.word) _ (among_written written all later)
]

-- What is among some words is among more.
pub among_more : (word : List ℕ) (words more : List (List ℕ)) → is_among word words ≡ true → is_among word (words ++ more) ≡ true
among_more word [] more among = absurd cc
among_more word (first ∷ words) more among = by_test (bytes_eq word first) (is_among word words) among (among_more word words more) where
  by_test : (b c : Bool) → (b || c) ≡ true → (c ≡ true → is_among word (words ++ more) ≡ true) → (b || is_among word (words ++ more)) ≡ true
  by_test true c holds later = refl
  by_test false c holds later = later holds

-- Patterns are matched in a handler that runs: no word is bound twice, what is compared with is bound, and names are the handler's.
pub record AreMatchedIn (handler : statements.Handler) (bound : List Id) (pats : List Pattern) : Type 0 where
  pub bound_once : (word : List ℕ) → how_many word (bound ++ flat_map pattern_binds pats) ≤ 1
  pub plain_are_plain : (id : Id) → Contains (flat_map plain_binds pats) id → Contains (plain_variables handler) id
  pub compared_are_bound : (line : ℕ) (to : Nm) → Contains pats (Equal line to) → is_bound (handler_scope handler bound) to ≡ true
  pub names_are_own : (line : ℕ) (name : Id) → Contains pats (Named line name) → is_among name.word (words_of (handler_names handler)) ≡ true

module _ (file : File) (T X : List Entry) (handler : statements.Handler) (bound : List Id) (names : Names) (running : IsRunning file T X handler bound names)
    (pats : List Pattern) (fields : List Term) (fit : fits names pats fields ≡ true) (matched : AreMatchedIn handler bound pats) where
  abbrev then : Names
  then = write names (written_by pats fields)

  principals_then : NamesArePrincipals handler then
  principals_then =
      principals_still file running.well_formed handler running.is_declared names (flat_map pattern_binds pats) (flat_map plain_binds pats) (written_by pats fields)
      matched.plain_are_plain running.names_are_principals (all_by names pats fields fit)

  -- The choice that agrees with what is written then matches it.
  pub matches_then : (choice : Choice) → Agrees (words_of (handler_names handler)) (newest X names.principal names.session) then choice
      → HandlerMatches (words_of (handler_names handler)) (newest X names.principal names.session) then choice
  matches_then choice agrees =
      handler_matches handler (newest X names.principal names.session) then [] choice principals_then
      (subst (λ (n : Names). Agrees (words_of (handler_names handler)) (newest X names.principal names.session) n choice) (sym (write_nothing then)) agrees)

  written_word : (to : Nm) → is_bound (handler_scope handler bound) to ≡ true → IsWritten names to
  written_word (Me line) binds = tt
  written_word (syntax.Named id) binds = subst (λ (words : List (List ℕ)). is_among id.word words ≡ true) (sym running.words) binds

  -- What the patterns compare with is written before.
  pub are_written : AreWritten names pats
  are_written line to within = written_word to (matched.compared_are_bound line to within)

  words_then : map (λ w. w.word) then.written ≡ words_of (bound ++ flat_map pattern_binds pats)
  words_then =
      let a = map-append (λ (w : Written). w.word) names.written (written_by pats fields) in
      let b = map-append (λ (id : Id). id.word) bound (flat_map pattern_binds pats) in
      let first = running.words in
      let second = (all_by names pats fields fit).words in
      cc

  -- A name that is written before is bound then.
  bound_then : (to : Nm) → IsWritten names to → is_bound (scope_in (words_of (handler_names handler)) then) to ≡ true
  bound_then (Me line) written = refl
  bound_then (syntax.Named id) written =
      subst (λ (words : List (List ℕ)). is_among id.word words ≡ true) (sym (map-append (λ (w : Written). w.word) names.written (written_by pats fields)))
      (among_more id.word (words_written names) (map (λ (w : Written). w.word) (written_by pats fields)) written)

  named_then : (to : Nm) → is_name (handler_scope handler bound) to ≡ true → is_name (scope_in (words_of (handler_names handler)) then) to ≡ true
  named_then (Me line) is = refl
  named_then (syntax.Named id) is = is

  found_then : (written : Written) → Contains (written_by pats fields) written → bytes_at then written.word ≡ written.bytes
  found_then written within =
      ap (λ (w : Option Written). unwrap_or (option_map (λ one. one.bytes) w) (trees.Name names.principal))
      (found_once written.word then.written (bound ++ flat_map pattern_binds pats) words_then (matched.bound_once written.word)
      written (Contains-append_right names.written (written_by pats fields) written within) refl)

  pub are_placed : (equal : SameAreEqual) (choice : Choice) (matches : HandlerMatches (words_of (handler_names handler)) (newest X names.principal names.session) then choice)
      → ArePlaced equal (setting_of file.decls handler) choice (newest X names.principal names.session) names then matches (handler_scope handler bound) pats fields
  are_placed equal choice matches = record {
    values_are = found_then;
    are_bound = λ written within. among_written written then.written (Contains-append_right names.written (written_by pats fields) written within);
    compared_are = λ line to within. written_is_the_same names (written_by pats fields) to (are_written line to within);
    compared_bound = λ line to within. bound_then to (are_written line to within);
    compared_named = λ line to within is. named_then to is;
    names_are = matched.names_are_own;
  }

-- So are the patterns of a statement of a handler of a well-formed file.
module _ (file : File) (T X : List Entry) (handler : statements.Handler) (done later : List Statement) (statement : Statement) (names : Names)
    (running : IsRunning file T X handler (bound_after handler done) names) (body : handler.body ≡ done ++ statement ∷ later) where
  here_in_body : Contains handler.body statement
  here_in_body =
      subst (λ (b : List Statement). Contains b statement) (sym body) (Contains-append_right done (statement ∷ later) statement (Contains-first statement later))

  count_of_all : (word : List ℕ) (f : Statement → List Id) (xs ys : List Statement)
      → how_many word (flat_map f (xs ++ ys)) ≡ how_many word (flat_map f xs) + how_many word (flat_map f ys)
  count_of_all word f [] ys = omega arith
  count_of_all word f (x ∷ xs) ys =
      let rest = count_of_all word f xs ys in
      let a = count_append word (f x) (flat_map f (xs ++ ys)) in
      let b = count_append word (f x) (flat_map f xs) in
      omega (arith, rest, a, b)

  once : (word : List ℕ) → how_many word (bound_after handler done ++ flat_map pattern_binds (act_pats statement.act)) ≤ 1
  once word =
      let most = at_most_one word (variables handler) (no_fault file running.well_formed _ (variables_place file handler running.is_declared)).rule_5 in
      let on = flat_map pattern_binds (on_pats handler) in
      let first = scopes.bound_first handler in
      let binds : Statement → List Id = λ s. act_binds s.act in
      let pats = flat_map pattern_binds (act_pats statement.act) in
      let a1 = count_append word (on ++ first) (flat_map binds handler.body) in
      let a2 = count_append word on first in
      let a3 = count_append word (first ++ on ++ flat_map binds done) pats in
      let a4 = count_append word (first ++ on) (flat_map binds done) in
      let a5 = count_append word first on in
      let whole : how_many word (flat_map binds handler.body) ≡ how_many word (flat_map binds (done ++ statement ∷ later)) = ap (λ (b : List Statement). how_many word (flat_map binds b)) body in
      let a6 = count_of_all word binds done (statement ∷ later) in
      let a7 = count_append word (act_binds statement.act) (flat_map binds later) in
      let a8 = count_append word (act_variable statement.act) pats in
      omega (arith, most, a1, a2, a3, a4, a5, whole, a6, a7, a8)

  pub statement_patterns : ((line : ℕ) (to : Nm) → Contains (act_pats statement.act) (Equal line to) → is_bound (handler_scope handler (bound_after handler done)) to ≡ true)
      → AreMatchedIn handler (bound_after handler done) (act_pats statement.act)
  statement_patterns compared = record {
    bound_once = once;
    plain_are_plain = λ id within.
        plain_of_act file running.well_formed handler running.is_declared done later statement body id
        (Contains-append_right (act_variable statement.act) (flat_map plain_binds (act_pats statement.act)) id within);
    compared_are_bound = compared;
    names_are_own = λ line name within.
        let all : Statement → List Id = λ s. flat_map pattern_names (act_pats s.act) in
        let own : Contains (flat_map pattern_names (act_pats statement.act)) name =
        Contains-flat_map pattern_names (act_pats statement.act) (Named line name) name within (Contains-first name []) in
        among_of_member name (handler_names handler)
        (Contains-append_right (handler.args ++ flat_map pattern_names (on_pats handler)) (flat_map all handler.body) name
        (Contains-flat_map all handler.body statement name here_in_body own));
  }
