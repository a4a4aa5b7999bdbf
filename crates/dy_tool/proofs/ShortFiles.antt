-- A file within the limits is short enough to be checked.
use Rattle.std.proofs.Common.{◌≡◌, ℕ, zero, suc, ◌+◌, ◌<◌, ◌≤◌, List, [], ◌∷◌, ◌++◌, length, map, get_or, Option, Some, None, subst, refl, ap, ◌∙◌, lit≤, arith}
use Rattle.std.specs.List.{flat_map}
use Rattle.std.specs.Option.{option_map_or}
use Rattle.std.proofs.lemmas.List.{length-append, length-map}
use Rattle.dy_label.specs.declared.words.TheConstants.{NAMES}
use Rattle.dy_syntax.specs.Statements as s
use Rattle.dy_syntax.specs.Statements.{Pattern, OnPart, Act, Statement}
use Rattle.dy_syntax.specs.Files as f
use Rattle.dy_syntax.specs.Files.{Decl, File}
use Rattle.dy_syntax.specs.Scopes.{pattern_names, act_pats, on_pats, handler_names}
use Rattle.dy_parse.specs.declared.errors.LimitName.{LimitName}
use Rattle.dy_parse.specs.declared.errors.LimitName.TheVariants.{Usages, Cases, Events, States, Handlers, Names, Fields, Partners}
use Rattle.dy_parse.specs.Limits.{Excess, most, counts, name_lines, names_of, patterns_of_on, patterns_of_act, counts_declared, excess_in_token, excess_in_decl, excess_in_plan, excess_in_file}
use Rattle.dy_parse.specs.Reading.{Reads}
use Rattle.dy_parse.proofs.Depth.Depths.{in_left, in_right}
use Rattle.dy_tool.proofs.Within.{excess_at, IsWithin, few_lines}
use Rattle.dy_check.specs.declared.limits.TheConstants.{MAX_MEMBERS}
use Rattle.dy_check.specs.Range.{IsShort, AreShort}

-- ---- no limit is broken

left_within : (xs ys : List Excess) → IsWithin (xs ++ ys) → IsWithin xs
left_within xs ys within = λ which line is_in. within which line (in_left (excess_at which line) xs ys is_in)

right_within : (xs ys : List Excess) → IsWithin (xs ++ ys) → IsWithin ys
right_within xs ys within = λ which line is_in. within which line (in_right (excess_at which line) xs ys is_in)

-- what each member of a list has
part_within : {X : Type 0} (part : X → List Excess) (xs : List X) (x : X) (k : ℕ) → k < length xs → get_or xs k x ≡ x → IsWithin (flat_map part xs) → IsWithin (part x)
part_within part [] x k lt is within = absurd (omega (arith, lt))
part_within part (y ∷ ys) x zero lt is within =
    let P : _ → Type 0 = λ z. IsWithin (part z) in subst P is (left_within (part y) (flat_map part ys) within)
part_within part (y ∷ ys) x (suc k) lt is within =
    part_within part ys x k (omega (arith, lt)) is (right_within (part y) (flat_map part ys) within)

-- a list that is counted has no member too many
few_counted : (which : LimitName) (lines : List ℕ) → IsWithin (counts which lines) → length lines ≤ most which
few_counted which lines within = few_lines which lines (most which) within

few : {X : Type 0} (which : LimitName) (line : X → ℕ) (xs : List X) → IsWithin (counts which (map line xs)) → length xs ≤ most which
few which line xs within = subst (λ n. n ≤ most which) (length-map xs line) (few_counted which (map line xs) within)

-- ---- the names of a handler

same_lengths : {X A B : Type 0} (f : X → List A) (g : X → List B) → ((x : X) → length (f x) ≡ length (g x)) → (xs : List X) → length (flat_map f xs) ≡ length (flat_map g xs)
same_lengths f g same [] = refl
same_lengths f g same (x ∷ xs) =
    omega (arith, same x, same_lengths f g same xs, length-append (f x) (flat_map f xs), length-append (g x) (flat_map g xs))

in_pattern : (pattern : Pattern) → length (pattern_names pattern) ≡ length (name_lines pattern)
in_pattern (s.Bind name) = refl
in_pattern (s.Named line name) = refl
in_pattern (s.Equal line to) = refl

in_patterns : (pats : List Pattern) → length (flat_map pattern_names pats) ≡ length (flat_map name_lines pats)
in_patterns pats = same_lengths pattern_names name_lines in_pattern pats

same_on : (on : Option OnPart) → option_map_or (λ part. part.pats) on [] ≡ patterns_of_on on
same_on None = refl
same_on (Some on) = refl

same_pats : (act : Act) → act_pats act ≡ patterns_of_act act
same_pats (s.New name usage label) = refl
same_pats (s.Let name value) = refl
same_pats (s.Event event) = refl
same_pats (s.Send value) = refl
same_pats (s.Store state fields) = refl
same_pats (s.Certify key usage) = refl
same_pats (s.Find usage owner name) = refl
same_pats (s.Recall state pats) = refl
same_pats (s.Split value tag pats) = refl
same_pats (s.Opened value key usage tag pats ad) = refl
same_pats (s.Popened value key usage tag pats) = refl
same_pats (s.Verify value key usage tag pats) = refl
same_pats (s.Check value key usage tag args) = refl
same_pats (s.Same left right) = refl

in_on : (on : Option OnPart) → length (flat_map pattern_names (option_map_or (λ part. part.pats) on [])) ≡ length (flat_map name_lines (patterns_of_on on))
in_on on = ap (λ pats. length (flat_map pattern_names pats)) (same_on on) ∙ in_patterns (patterns_of_on on)

in_statement : (statement : Statement) → length (flat_map pattern_names (act_pats statement.act)) ≡ length (flat_map name_lines (patterns_of_act statement.act))
in_statement statement = ap (λ pats. length (flat_map pattern_names pats)) (same_pats statement.act) ∙ in_patterns (patterns_of_act statement.act)

-- with `self`, they are those that are counted
names_are_counted : (handler : s.Handler) → length (handler_names handler) + 1 ≡ length (names_of handler)
names_are_counted handler =
    let args = handler.args in
    let on_names = flat_map pattern_names (on_pats handler) in
    let body_names = flat_map (λ statement. flat_map pattern_names (act_pats statement.act)) handler.body in
    let arg_lines = map (λ arg. arg.line) args in
    let on_lines = flat_map name_lines (patterns_of_on handler.on) in
    let body_lines = flat_map (λ statement. flat_map name_lines (patterns_of_act statement.act)) handler.body in
    omega (arith, length-append (args ++ on_names) body_names, length-append args on_names, length-append (arg_lines ++ on_lines) body_lines, length-append arg_lines on_lines, length-map args (λ arg. arg.line), in_on handler.on, same_lengths (λ statement. flat_map pattern_names (act_pats statement.act)) (λ statement. flat_map name_lines (patterns_of_act statement.act)) in_statement handler.body)

-- ---- declarations

few_fields : {X : Type 0} (line : X → ℕ) (xs : List X) → IsWithin (counts Fields (map line xs)) → length xs ≤ MAX_MEMBERS
few_fields line xs within = let enough : most Fields ≤ MAX_MEMBERS = lit≤ tt in omega (arith, few Fields line xs within, enough)

few_partners : {X : Type 0} (line : X → ℕ) (xs : List X) → IsWithin (counts Partners (map line xs)) → length xs ≤ MAX_MEMBERS
few_partners line xs within = let enough : most Partners ≤ MAX_MEMBERS = lit≤ tt in omega (arith, few Partners line xs within, enough)

is_short : (decl : Decl) → IsWithin (excess_in_decl decl) → IsShort decl
is_short (f.Usage usage) within = tt
is_short (f.Case case) within =
    (few_fields _ case.fields (left_within _ _ (left_within _ _ within)), few_partners _ case.requires_ (left_within _ _ (right_within _ _ within)))
is_short (f.Event event) within = few_partners _ event.after (left_within _ _ (right_within _ _ within))
is_short (f.State state) within =
    (few_fields _ state.fields (left_within _ _ (left_within _ _ within)), few_partners _ state.knows (left_within _ _ (right_within _ _ within)))
is_short (f.Handler handler) within =
    let counted : length (names_of handler) ≤ most Names = few_counted Names (names_of handler) (left_within _ _ (left_within _ _ (left_within _ _ (left_within _ _ within)))) in
    let enough : most Names ≤ NAMES = lit≤ tt in
    omega (arith, counted, names_are_counted handler, enough)

-- more of one sort of declaration than a file may have
abbrev too_many_declared : List Decl → List Excess
too_many_declared decls =
    counts_declared Usages decls ++ counts_declared Cases decls ++ counts_declared Events decls ++ counts_declared States decls ++ counts_declared Handlers decls

-- a file that was read
pub are_short : (bytes : List ℕ) (file : File) → Reads bytes file → AreShort file.decls
are_short bytes file reads = λ decl among.
    let in_file : IsWithin (excess_in_file file) = right_within (flat_map excess_in_token reads.tokens) (excess_in_file file) reads.fits in
    let sorts = too_many_declared file.decls in
    let parts = flat_map excess_in_decl file.decls in
    let in_decls : IsWithin parts = right_within sorts parts (left_within (sorts ++ parts) (excess_in_plan file.plan.rounds) in_file) in
    is_short decl (part_within excess_in_decl file.decls decl among.0 among.1 among.2 in_decls)
