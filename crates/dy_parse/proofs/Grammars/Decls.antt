-- Declarations are read one by one, up to a plan or the end of the input.
use Rattle.std.proofs.Common.{◌≡◌, ℕ, suc, ◌<◌, Bool, true, false, ◌||◌, cond, List, [], ◌∷◌, ◌++◌, length, Some, None, refl, sym, ◌∙◌, ap, subst, append_assoc}
use Rattle.std.specs.Prelude.{Result, Ok, Err, codes}
use Rattle.std.proofs.lemmas.List.{append-nil}
use Rattle.dy_lex.specs.declared.tokens.TokenKind.TheVariants.{Word, Symbol}
use Rattle.dy_lex.specs.Tokens.{Piece}
use Rattle.dy_syntax.specs.Declarations.{FieldType}
use Rattle.dy_syntax.specs.declared.statements.Statement as code
use Rattle.dy_syntax.specs.Meaning.{statement_of}
use Rattle.dy_syntax.specs.Statements.{Statement}
use Rattle.dy_syntax.specs.Plans.{Action, Plan, Round}
use Rattle.dy_syntax.specs.Files.{Decl}
use Rattle.dy_grammar.specs.Terminals.{This, AName, accepts, token_value}
use Rattle.dy_grammar.specs.Tables.{part}
use Rattle.dy_grammar.specs.Parts.{One, ManyTo, AnAction, AFieldType, AStatement, ADecl, ARound, Decls}
use Rattle.dy_grammar.specs.Grammar.{rules, item_rules, field_type_rules, statement_rules, end_of_input}
use Rattle.dy_grammar.specs.Mirrors.Machine.{◌>>=◌, Reads, at, token_value_if, take_or_stop, token_at, by_these}
use Rattle.dy_grammar.proofs.Stepwise.{at_is_by_rules}
use Rattle.dy_parse.specs.declared.cursor.Fault.{Fault}
use Rattle.dy_parse.specs.declared.cursor.Fault.TheVariants as faults
use Rattle.dy_parse.specs.declared.lists.Rest.TheVariants as rests
use Rattle.dy_parse.specs.Mirrors.Gives.{Fails, Gives}
use Rattle.dy_parse.specs.Mirrors.Files.{ends_decls, plan_body, plan_at, alone, with_decls}
use Rattle.dy_parse.specs.Mirrors.Plans.{corrupt_at, forge_at, inject_at, start_at, action_at}
use Rattle.dy_parse.proofs.Grammars.Lists.{choose-with_more, next_shorter}

-- a declaration, and those that are read after it
abbrev then_decls : Reads Decl → Reads (List Decl × Plan)
then_decls first = first >>= λ y. at Decls y.1 >>= λ z. Ok ((y.0 ∷ z.0.0, z.0.1), z.1)

-- ---- a plan alone

ends_alone : (rounds : List Round) (r : Reads ℕ) → (r >>= λ w. Ok (([], record { rounds = rounds }), w.1)) ≡ alone (r >>= λ w. Ok (record { rounds = rounds }, w.1))
ends_alone rounds (Ok w) = refl
ends_alone rounds (Err e) = refl

rounds_alone : (r : Reads (List Round)) (f : List Piece → Reads ℕ)
    → (r >>= λ z. f z.1 >>= λ w. Ok (([], record { rounds = z.0 }), w.1)) ≡ alone (r >>= λ z. f z.1 >>= λ w. Ok (record { rounds = z.0 }, w.1))
rounds_alone (Ok z) f = ends_alone z.0 (f z.1)
rounds_alone (Err e) f = refl

plan_alone : (r : Reads ℕ) (f : List Piece → Reads (List Round)) (g : List Piece → Reads ℕ)
    → (r >>= λ y. f y.1 >>= λ z. g z.1 >>= λ w. Ok (([], record { rounds = z.0 }), w.1)) ≡ alone (r >>= λ y. f y.1 >>= λ z. g z.1 >>= λ w. Ok (record { rounds = z.0 }, w.1))
plan_alone (Ok y) f g = rounds_alone (f y.1) g
plan_alone (Err e) f g = refl

body_alone : (rest : List Piece)
    → (token_at (This Symbol (codes "{")) rest >>= λ y. at (ManyTo ARound) y.1 >>= λ z. token_at (This Symbol end_of_input) z.1 >>= λ w. Ok (([], record { rounds = z.0 }), w.1)) ≡ alone (plan_body rest)
body_alone rest = plan_alone (token_at (This Symbol (codes "{")) rest) (at (ManyTo ARound)) (token_at (This Symbol end_of_input))

-- ---- one step

by_tests : (a b : Bool) (rest : List Piece) (body : Reads Plan) (x err : Reads Plan) (first y z : Reads (List Decl × Plan)) → first ≡ alone x → y ≡ alone body
    → cond a first (cond b y z) ≡ cond (a || b) (alone (cond a x (cond b body err))) z
by_tests true b rest body x err first y z ends plans = ends
by_tests false true rest body x err first y z ends plans = plans
by_tests false false rest body x err first y z ends plans = refl

pub decls_are : (tokens : List Piece) → at Decls tokens ≡ cond (ends_decls tokens) (alone (plan_at tokens)) (then_decls (at (One ADecl) tokens))
unfolding rules ends_decls plan_at
decls_are [] = at_is_by_rules Decls [] ∙ ap then_decls (sym (at_is_by_rules (One ADecl) []))
decls_are (t ∷ rest) =
    at_is_by_rules Decls (t ∷ rest)
    ∙ by_tests (accepts (This Symbol end_of_input) t) (accepts (This Word (codes "plan")) t) rest (plan_body rest) (Ok (record { rounds = [] }, rest)) (Err (length (t ∷ rest))) _ _ _ refl (body_alone rest)
    ∙ ap (cond (accepts (This Symbol end_of_input) t || accepts (This Word (codes "plan")) t) (alone (plan_at (t ∷ rest))))
    (choose-with_more Decl (List Decl × Plan) (part Decls ∷ []) (λ decl ds. (decl ∷ ds.0, ds.1)) (item_rules ADecl) t rest (suc (length rest))
    ∙ ap then_decls (sym (at_is_by_rules (One ADecl) (t ∷ rest))))

-- ---- one by one

regroup : (prefix : List Decl) (v : Decl) (read : Reads (List Decl × Plan)) → with_decls prefix (read >>= λ z. Ok ((v ∷ z.0.0, z.0.1), z.1)) ≡ with_decls (prefix ++ v ∷ []) read
regroup prefix v (Ok z) = ap (λ vs. Ok ((vs, z.0.1), z.1)) (sym (append_assoc prefix (v ∷ []) z.0.0))
regroup prefix v (Err e) = refl

module _ (total : Reads (List Decl × Plan)) (prefix : List Decl) (tokens : List Piece) (so_far : with_decls prefix (at Decls tokens) ≡ total) where
  at_end : ends_decls tokens ≡ true → total ≡ with_decls prefix (alone (plan_at tokens))
  at_end ends = sym so_far ∙ ap (with_decls prefix) (decls_are tokens ∙ ap (λ b. cond b (alone (plan_at tokens)) (then_decls (at (One ADecl) tokens))) ends)

  -- the plan ends the declarations
  pub ends_with : ends_decls tokens ≡ true → (plan : Plan) (rest : List Piece) → plan_at tokens ≡ Ok (plan, rest) → total ≡ Ok ((prefix, plan), rest)
  ends_with ends plan rest read = at_end ends ∙ ap (λ r. with_decls prefix (alone r)) read ∙ ap (λ ds. Ok ((ds, plan), rest)) (append-nil prefix)

  pub plan_fails : ends_decls tokens ≡ true → (e : Fault) → Fails e (plan_at tokens) → Fails e total
  plan_fails ends faults.Memory failed = tt
  plan_fails ends (faults.At left) failed = at_end ends ∙ ap (λ r. with_decls prefix (alone r)) failed

  before_end : ends_decls tokens ≡ false → total ≡ with_decls prefix (then_decls (at (One ADecl) tokens))
  before_end goes = sym so_far ∙ ap (with_decls prefix) (decls_are tokens ∙ ap (λ b. cond b (alone (plan_at tokens)) (then_decls (at (One ADecl) tokens))) goes)

  -- a declaration that is read belongs to those so far
  pub goes_on : ends_decls tokens ≡ false → (v : Decl) (rest : List Piece) → at (One ADecl) tokens ≡ Ok (v, rest) → with_decls (prefix ++ v ∷ []) (at Decls rest) ≡ total
  goes_on goes v rest read = sym (before_end goes ∙ ap (λ r. with_decls prefix (then_decls r)) read ∙ regroup prefix v (at Decls rest))

  pub decl_fails : ends_decls tokens ≡ false → (e : Fault) → Fails e (at (One ADecl) tokens) → Fails e total
  decl_fails goes faults.Memory failed = tt
  decl_fails goes (faults.At left) failed = before_end goes ∙ ap (λ r. with_decls prefix (then_decls r)) failed

-- each declaration has a token
pub decl_shorter : (tokens : List Piece) (y : Decl × List Piece) → at (One ADecl) tokens ≡ Ok y → length y.1 < length tokens
decl_shorter tokens y read = next_shorter rests.Braces ADecl tokens y read

pub no_decls : (read : Reads (List Decl × Plan)) → with_decls [] read ≡ read
no_decls (Ok y) = refl
no_decls (Err e) = refl

-- a field's type is read by its rules
pub types_are : (tokens : List Piece) → at (One AFieldType) tokens ≡ by_these (FieldType × ℕ) field_type_rules tokens
unfolding rules item_rules
types_are [] = at_is_by_rules (One AFieldType) []
types_are (t ∷ rest) = at_is_by_rules (One AFieldType) (t ∷ rest)

-- a statement is read by its rules
pub statements_are : (tokens : List Piece) → at (One AStatement) tokens ≡ by_these Statement statement_rules tokens
unfolding rules item_rules
statements_are [] = at_is_by_rules (One AStatement) []
statements_are (t ∷ rest) = at_is_by_rules (One AStatement) (t ∷ rest)

taken_then : {A B : Type 0} (b : Bool) (v : A) (rest : List Piece) (f : A × List Piece → Reads B) → cond b (f (v, rest)) (Err (suc (length rest))) ≡ take_or_stop rest (cond b (Some v) None) >>= f
taken_then true v rest f = refl
taken_then false v rest f = refl

-- what a step does is read by its first word
pub actions_are : (tokens : List Piece) → at (One AnAction) tokens ≡ action_at tokens
unfolding rules item_rules token_at token_value_if
actions_are [] = at_is_by_rules (One AnAction) []
actions_are (t ∷ rest) =
    at_is_by_rules (One AnAction) (t ∷ rest)
    ∙ ap (λ (other : Reads Action). cond (accepts (This Word (codes "corrupt")) t) (corrupt_at rest)
    (cond (accepts (This Word (codes "forge")) t) (forge_at rest) (cond (accepts (This Word (codes "inject")) t) (inject_at rest) other)))
    (taken_then (accepts AName t) (token_value AName t) rest (λ y. start_at y.0 y.1))

-- a statement is read where it is read otherwise
pub gives_statement : (result : Result (code.Statement × List Piece) Fault) (read other : Reads Statement) → read ≡ other
    → Gives (λ x. (statement_of x.0, x.1)) result other → Gives (λ x. (statement_of x.0, x.1)) result read
gives_statement result read other same given = subst (λ (r : Reads Statement). Gives (λ x. (statement_of x.0, x.1)) result r) (sym same) given
