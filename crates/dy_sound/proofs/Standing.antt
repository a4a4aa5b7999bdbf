-- How an instance stands between two items. Its lines are those of its handler from a number on, and its words are
-- those that are bound before it.
use Rattle.std.proofs.Common.{◌≡◌, ℕ, zero, suc, true, List, [], ◌∷◌, ◌++◌, map, take, drop, Contains, Option, Some, inl, inr, refl, sym, ap, subst, ◌∙◌, append_assoc, arith}
use Rattle.std.specs.Option.{option_to_list}
use Rattle.std.specs.List.{flat_map}
use Rattle.std.proofs.lemmas.List.{map-append, append-nil}
use Rattle.std.proofs.lemmas.List.Concat.{flat_map-append}
use Rattle.std.proofs.lemmas.List.Elements.{Contains-append_left, Contains-append_right, Contains-append_cases}
use Rattle.dy_syntax.specs.Names.{Id}
use Rattle.dy_syntax.specs.Statements as statements
use Rattle.dy_syntax.specs.Statements.{OnPart, Act, Statement}
use Rattle.dy_syntax.specs.Files.{Decl, Handler, File}
use Rattle.dy_syntax.specs.Scopes.{is_among, words_of, handler_names, bound_first, on_pats, pattern_binds, act_binds}
use Rattle.dy_syntax.specs.Rules.{IsWellFormed}
use Rattle.dy_eval.specs.declared.written.Written.{Written}
use Rattle.dy_eval.specs.Lines.{Line, GoesOn, Does, kind_in, lines_of}
use Rattle.dy_eval.specs.Names.{Names, write}
use Rattle.dy_sound.proofs.Members.{Contains-flat_map}
use Rattle.dy_sound.specs.StatementsAreSound.{NamesArePrincipals, bound_after}
use Rattle.dy_sound.proofs.NamesApart.{plain_binds, act_plain, plain_variables, names_apart}
use Rattle.dy_sound.proofs.WordsWritten.{IsWordOf, IsWrittenFor}

-- the lines of statements
abbrev pub lines_in : List Decl → List Statement → List Line
lines_in decls body = map (λ s. Does (kind_in decls s.act) s.act) body

-- the lines of a handler from this number on
abbrev pub lines_from : List Decl → statements.Handler → ℕ → List Line
lines_from decls handler zero = lines_of decls handler
lines_from decls handler (suc done) = lines_in decls (drop done handler.body)

-- what is bound before the line of this number
abbrev pub bound_before : statements.Handler → ℕ → List Id
bound_before handler zero = bound_first handler
bound_before handler (suc done) = bound_after handler (take done handler.body)

-- Before the line of this number of a handler these lines are left, and this is written.
pub record StandsBefore (decls : List Decl) (handler : statements.Handler) (number : ℕ) (names : Names) (lines : List Line)
    : Type 0 where
  pub lines_are : lines ≡ lines_from decls handler number
  pub words : map (λ w. w.word) names.written ≡ words_of (bound_before handler number)
  pub names_are_principals : NamesArePrincipals handler names
  pub on_first : number ≡ 0 → (on : OnPart) × (handler.on ≡ Some on)

-- The line is that of the statement after so many others.
pub record IsLineAfter (decls : List Decl) (handler : statements.Handler) (done : ℕ) (line : Line) (more : List Line)
    : Type 0 where
  pub statement : Statement
  pub later : List Statement
  pub line_is : line ≡ Does (kind_in decls statement.act) statement.act
  pub more_are : more ≡ lines_in decls (drop (suc done) handler.body)
  pub body : handler.body ≡ take done handler.body ++ statement ∷ later
  pub one_more : take (suc done) handler.body ≡ take done handler.body ++ statement ∷ []

-- a list around the first of what is left
around : {A : Type 0} (n : ℕ) (xs : List A) (x : A) (later : List A) → drop n xs ≡ x ∷ later
    → (xs ≡ take n xs ++ x ∷ later) × (take (suc n) xs ≡ take n xs ++ x ∷ []) × (drop (suc n) xs ≡ later)
around zero [] x later same = absurd cc
around zero (y ∷ ys) x later same = let first : y ≡ x = cc in let rest : ys ≡ later = cc in (same, cc, rest)
around (suc n) [] x later same = absurd cc
around (suc n) (y ∷ ys) x later same =
    let parts = around n ys x later same in
    (ap (λ (zs : List _). y ∷ zs) parts.0, ap (λ (zs : List _). y ∷ zs) parts.1, parts.2)

module _ (decls : List Decl) (handler : statements.Handler) where
  pub line_after : (done : ℕ) (line : Line) (more : List Line) → line ∷ more ≡ lines_from decls handler (suc done) → IsLineAfter decls handler done line more
  line_after done line more same = one (drop done handler.body) refl where
    one : (left : List Statement) → drop done handler.body ≡ left → IsLineAfter decls handler done line more
    one [] is = absurd (let none : line ∷ more ≡ [] = same ∙ ap (lines_in decls) is in cc)
    one (statement ∷ later) is =
        let all : line ∷ more ≡ lines_in decls (statement ∷ later) = same ∙ ap (lines_in decls) is in
        let first : line ≡ Does (kind_in decls statement.act) statement.act = cc in
        let rest : more ≡ lines_in decls later = cc in
        let parts = around done handler.body statement later is in
        record {
          statement = statement;
          later = later;
          line_is = first;
          more_are = rest ∙ ap (lines_in decls) (sym parts.2);
          body = parts.0;
          one_more = parts.1;
        }

  -- one more statement binds its own besides
  pub bound_more : (done : List Statement) (statement : Statement) → bound_after handler (done ++ statement ∷ []) ≡ bound_after handler done ++ act_binds statement.act
  bound_more done statement =
      let before = bound_first handler ++ flat_map pattern_binds (on_pats handler) in
      let binds : Statement → List Id = λ s. act_binds s.act in
      ap (λ (ids : List Id). before ++ ids) (flat_map-append binds done (statement ∷ []))
      ∙ sym (append_assoc before (flat_map binds done) (act_binds statement.act ++ []))
      ∙ ap (λ (ids : List Id). (before ++ flat_map binds done) ++ ids) (append-nil (act_binds statement.act))

module _ (file : File) (well_formed : IsWellFormed file) (handler : statements.Handler) (stands : Contains file.decls (Handler handler)) where
  -- A variable that is no name has the word of none.
  plain_is_none : (word : List ℕ) (plain : List Id) → ((id : Id) → Contains plain id → Contains (plain_variables handler) id)
      → IsWordOf plain word → is_among word (words_of (handler_names handler)) ≡ true → ⊥
  plain_is_none word plain among is named =
      names_apart file well_formed handler stands is.id (among is.id is.stands)
      (subst (λ (w : List ℕ). is_among w (words_of (handler_names handler)) ≡ true) is.word_is named)

  pub principals_still : (names : Names) (binds plain : List Id) (more : List Written)
      → ((id : Id) → Contains plain id → Contains (plain_variables handler) id)
      → NamesArePrincipals handler names → IsWrittenFor binds plain more → NamesArePrincipals handler (write names more)
  principals_still names binds plain more among before is written at named = elim (Contains-append_cases names.written more written at) [
    | inl old ↦ before written old named
    | inr new ↦ elim (is.names written new) [
      | inl word ↦ absurd (plain_is_none written.word plain among word named)
      | inr name ↦ name
    ]
  ]

  pub plain_of_act : (done later : List Statement) (statement : Statement) → handler.body ≡ done ++ statement ∷ later
      → (id : Id) → Contains (act_plain statement.act) id → Contains (plain_variables handler) id
  plain_of_act done later statement body id at =
      let on = flat_map plain_binds (on_pats handler) ++ option_to_list handler.recv in
      let plains : Statement → List Id = λ s. act_plain s.act in
      let here : Contains (statement ∷ later) statement = (0, omega arith, refl) in
      let within : Contains handler.body statement = subst (λ (b : List Statement). Contains b statement) (sym body) (Contains-append_right done (statement ∷ later) statement here) in
      Contains-append_right on (flat_map plains handler.body) id (Contains-flat_map plains handler.body statement id within at)

  plain_of_on : (on : OnPart) → handler.on ≡ Some on → (id : Id) → Contains (flat_map plain_binds on.pats) id → Contains (plain_variables handler) id
  plain_of_on on is id at =
      let pats : on_pats handler ≡ on.pats = rw is refl in
      let plain = flat_map plain_binds (on_pats handler) in
      let recv = option_to_list handler.recv in
      let body = flat_map (λ (s : Statement). act_plain s.act) handler.body in
      let first : Contains plain id = rw pats at in
      Contains-append_left (plain ++ recv) body id (Contains-append_left plain recv id first)

  pub plain_of_received : (id : Id) → Contains (option_to_list handler.recv) id → Contains (plain_variables handler) id
  plain_of_received id at =
      let plain = flat_map plain_binds (on_pats handler) in
      let body = flat_map (λ (s : Statement). act_plain s.act) handler.body in
      Contains-append_left (plain ++ option_to_list handler.recv) body id (Contains-append_right plain (option_to_list handler.recv) id at)

  words_more : (names : Names) (more : List Written) (before binds : List Id) → map (λ w. w.word) names.written ≡ words_of before
      → map (λ w. w.word) more ≡ words_of binds → map (λ w. w.word) (write names more).written ≡ words_of (before ++ binds)
  words_more names more before binds first second =
      let a = map-append (λ (w : Written). w.word) names.written more in
      let b = map-append (λ (id : Id). id.word) before binds in
      cc

  -- After a statement the instance stands before the next.
  pub stands_after : (done : ℕ) (names : Names) (line : Line) (more : List Line) → StandsBefore file.decls handler (suc done) names (line ∷ more)
      → (at : IsLineAfter file.decls handler done line more) → (written : List Written)
      → IsWrittenFor (act_binds at.statement.act) (act_plain at.statement.act) written
      → StandsBefore file.decls handler (suc (suc done)) (write names written) more
  stands_after done names line more before at written is = record {
    lines_are = at.more_are;
    words =
        words_more names written (bound_after handler (take done handler.body)) (act_binds at.statement.act) before.words is.words
        ∙ ap words_of (sym (ap (bound_after handler) at.one_more ∙ bound_more file.decls handler (take done handler.body) at.statement));
    names_are_principals =
        principals_still names (act_binds at.statement.act) (act_plain at.statement.act) written
        (plain_of_act (take done handler.body) at.later at.statement at.body) before.names_are_principals is;
    on_first = λ none. absurd (omega arith);
  }

  -- the `on` part is the first line of its handler
  pub on_line : (names : Names) (line : Line) (more : List Line) → StandsBefore file.decls handler 0 names (line ∷ more)
      → (on : OnPart) → handler.on ≡ Some on → (line ≡ GoesOn on) × (more ≡ lines_from file.decls handler 1)
  on_line names line more before on is =
      let all : line ∷ more ≡ GoesOn on ∷ lines_in file.decls handler.body = before.lines_are ∙ ap (λ (o : Option OnPart). map GoesOn (option_to_list o) ++ lines_in file.decls handler.body) is in
      (cc, cc)

  pub stands_after_on : (names : Names) (line : Line) (more : List Line) → StandsBefore file.decls handler 0 names (line ∷ more)
      → (on : OnPart) → handler.on ≡ Some on → (written : List Written)
      → IsWrittenFor (flat_map pattern_binds on.pats) (flat_map plain_binds on.pats) written
      → StandsBefore file.decls handler 1 (write names written) more
  stands_after_on names line more before on is written written_is =
      let pats : on_pats handler ≡ on.pats = rw is refl in
      let binds = flat_map pattern_binds on.pats in
      let first = bound_first handler in
      record {
        lines_are = (on_line names line more before on is).1;
        words =
            words_more names written first binds before.words written_is.words
            ∙ ap words_of (sym (append-nil (first ++ flat_map pattern_binds (on_pats handler)) ∙ ap (λ ps. first ++ flat_map pattern_binds ps) pats));
        names_are_principals =
            principals_still names binds (flat_map plain_binds on.pats) written (plain_of_on on is) before.names_are_principals written_is;
        on_first = λ none. absurd (omega arith);
      }
