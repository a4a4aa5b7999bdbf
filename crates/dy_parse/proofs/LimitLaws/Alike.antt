-- Files that are the same but for line numbers break the same limits.
use Rattle.std.proofs.Common.{◌≡◌, ◌∙◌, sym, ap, refl, ℕ, zero, suc, ◌+◌, ◌-◌, Bool, true, false, cond, List, [], ◌∷◌, ◌++◌, map, length, Option, Some, None, inl, inr}
use Rattle.std.specs.Prelude.{slice_get, ◌==◌}
use Rattle.std.specs.Option.{option_map, option_to_list}
use Rattle.std.specs.List.{flat_map, list_any}
use Rattle.std.specs.Str.{bytes_eq}
use Rattle.std.proofs.lemmas.List.{length-map, length-append, map-append}
use Rattle.dy_syntax.specs.Names as n
use Rattle.dy_syntax.specs.Labels as l
use Rattle.dy_syntax.specs.Declarations as d
use Rattle.dy_syntax.specs.Expressions as e
use Rattle.dy_syntax.specs.Statements as s
use Rattle.dy_syntax.specs.Recipes as r
use Rattle.dy_syntax.specs.Plans as p
use Rattle.dy_syntax.specs.Files as f
use Rattle.dy_syntax.specs.SameFiles as b
use Rattle.dy_parse.specs.declared.errors.LimitName.{LimitName}
use Rattle.dy_parse.specs.declared.errors.LimitName.TheVariants.{Nesting, Usages, Cases, Events, States, Handlers, Statements, Names, Fields, Leaves, Partners, Rows, Rounds, Steps, Principals}
use Rattle.dy_parse.specs.Limits as limits
use Rattle.dy_parse.specs.Limits.{Excess, breaks, counts, on_level, IsIn, FileBreaks}

-- The same limits are broken in the same order, whatever the lines.
record Alike (xs ys : List Excess) : Type 0 where
  same : map (λ x. x.which) xs ≡ map (λ x. x.which) ys

nothing : Alike [] []
nothing = record { same = refl }

both : {ws xs ys zs : List Excess} → Alike ws ys → Alike xs zs → Alike (ws ++ xs) (ys ++ zs)
both {ws = ws} {xs = xs} {ys = ys} {zs = zs} first second = record {
  same = map-append (λ x. x.which) ws xs ∙ ap (λ names. names ++ map (λ x. x.which) xs) first.same
      ∙ ap (λ names. map (λ x. x.which) ys ++ names) second.same ∙ sym (map-append (λ x. x.which) ys zs);
}

-- ---- lists

-- lists of the same length
past_alike : (which : LimitName) (xs ys : List ℕ) (k : ℕ) → length xs ≡ length ys
    → Alike (breaks which (option_to_list (slice_get xs k))) (breaks which (option_to_list (slice_get ys k)))
past_alike which [] [] k same = nothing
past_alike which [] (y ∷ ys) k same = absurd (cc)
past_alike which (x ∷ xs) [] k same = absurd (cc)
past_alike which (x ∷ xs) (y ∷ ys) zero same = record { same = refl }
past_alike which (x ∷ xs) (y ∷ ys) (suc k) same = past_alike which xs ys k (let e : length xs ≡ length ys = cc in e)

counts_alike : (which : LimitName) (xs ys : List ℕ) → length xs ≡ length ys → Alike (counts which xs) (counts which ys)
counts_alike which xs ys same = past_alike which xs ys (limits.most which) same

same_length : {A B : Type 0} (f : A → B) (bare : A → A) (xs : List A) → length (map f xs) ≡ length (map f (map bare xs))
same_length f bare xs = length-map xs f ∙ sym (length-map (map bare xs) f ∙ length-map xs bare)

-- a list by the lines of its members
members : {A : Type 0} (which : LimitName) (line : A → ℕ) (bare : A → A) (xs : List A)
    → Alike (counts which (map line xs)) (counts which (map line (map bare xs)))
members which line bare xs = counts_alike which (map line xs) (map line (map bare xs)) (same_length line bare xs)

each : {A : Type 0} (f : A → List Excess) (bare : A → A) → ((x : A) → Alike (f x) (f (bare x)))
    → (xs : List A) → Alike (flat_map f xs) (flat_map f (map bare xs))
each f bare alike [] = nothing
each f bare alike (x ∷ xs) = both (alike x) (each f bare alike xs)

-- lists in a list
same_length_of_all : {A B : Type 0} (f : A → List B) (bare : A → A) → ((x : A) → length (f x) ≡ length (f (bare x)))
    → (xs : List A) → length (flat_map f xs) ≡ length (flat_map f (map bare xs))
same_length_of_all f bare same [] = refl
same_length_of_all f bare same (x ∷ xs) =
    length-append (f x) (flat_map f xs) ∙ (λ i. same x i + same_length_of_all f bare same xs i)
    ∙ sym (length-append (f (bare x)) (flat_map f (map bare xs)))

flat_map-bare : {A B : Type 0} (f : A → List B) (bare_a : A → A) (bare_b : B → B) → ((x : A) → f (bare_a x) ≡ map bare_b (f x))
    → (xs : List A) → flat_map f (map bare_a xs) ≡ map bare_b (flat_map f xs)
flat_map-bare f bare_a bare_b same [] = refl
flat_map-bare f bare_a bare_b same (x ∷ xs) =
    (λ i. same x i ++ flat_map-bare f bare_a bare_b same xs i) ∙ sym (map-append bare_b (f x) (flat_map f xs))

-- ---- what stands inside each other

on_level_by : (deep : Bool) (line other : ℕ) {xs ys : List Excess} → Alike xs ys
    → Alike (cond deep (breaks Nesting (line ∷ [])) xs) (cond deep (breaks Nesting (other ∷ [])) ys)
on_level_by true line other alike = record { same = refl }
on_level_by false line other alike = alike

level : (room line other : ℕ) {xs ys : List Excess} → Alike xs ys → Alike (on_level room line xs) (on_level room other ys)
level room line other alike = on_level_by (room == 0) line other alike

use_alike : (u : n.UseText) → Alike (limits.excess_in_use u) (limits.excess_in_use (b.bare_use u))
use_alike u = members Fields n.line_of b.bare_nm u.args

atom_alike : (a : n.AtomText) → Alike (limits.excess_in_atom a) (limits.excess_in_atom (b.bare_atom a))
atom_alike a = members Fields n.line_of b.bare_nm a.args

leaves_alike : (x : l.LabelText) → length (limits.leaves x) ≡ length (limits.leaves (b.bare_label x))
leaves_alike (l.Public line) = refl
leaves_alike (l.Nobody line) = refl
leaves_alike (l.Session line) = refl
leaves_alike (l.Next line) = refl
leaves_alike (l.Prior line) = refl
leaves_alike (l.Here line) = refl
leaves_alike (l.One name) = refl
leaves_alike (l.Join line left right) =
    length-append (limits.leaves left) (limits.leaves right) ∙ (λ i. leaves_alike left i + leaves_alike right i)
    ∙ sym (length-append (limits.leaves (b.bare_label left)) (limits.leaves (b.bare_label right)))
leaves_alike (l.Meet line left right) =
    length-append (limits.leaves left) (limits.leaves right) ∙ (λ i. leaves_alike left i + leaves_alike right i)
    ∙ sym (length-append (limits.leaves (b.bare_label left)) (limits.leaves (b.bare_label right)))

inside_label : (room : ℕ) (x : l.LabelText) → Alike (limits.inside_label room x) (limits.inside_label room (b.bare_label x))
inside_label room (l.Join line left right) =
    both (level room _ _ (inside_label (room - 1) left)) (level room _ _ (inside_label (room - 1) right))
inside_label room (l.Meet line left right) =
    both (level room _ _ (inside_label (room - 1) left)) (level room _ _ (inside_label (room - 1) right))
inside_label room (l.Public line) = nothing
inside_label room (l.Nobody line) = nothing
inside_label room (l.Session line) = nothing
inside_label room (l.Next line) = nothing
inside_label room (l.Prior line) = nothing
inside_label room (l.Here line) = nothing
inside_label room (l.One name) = nothing

label_alike : (x : l.LabelText) → Alike (limits.excess_in_label x) (limits.excess_in_label (b.bare_label x))
label_alike x = both
    (counts_alike Leaves (limits.leaves x) (limits.leaves (b.bare_label x)) (leaves_alike x))
    (level (limits.most Nesting) (limits.label_line x) (limits.label_line (b.bare_label x)) (inside_label (limits.most Nesting - 1) x))

row_bare : (xs : e.Exprs) → e.list_of (b.bare_exprs xs) ≡ map b.bare_expr (e.list_of xs)
row_bare e.Nil = refl
row_bare (e.Cons first rest) = ap (λ xs. b.bare_expr first ∷ xs) (row_bare rest)

args_alike : (args : e.Exprs) → Alike (limits.counts_args args) (limits.counts_args (b.bare_exprs args))
args_alike args = counts_alike Fields (map e.line_of (e.list_of args)) (map e.line_of (e.list_of (b.bare_exprs args)))
    (same_length e.line_of b.bare_expr (e.list_of args) ∙ ap (λ xs. length (map e.line_of xs)) (sym (row_bare args)))

mutual
  inside_expr : (room : ℕ) (x : e.Expr) → Alike (limits.inside_expr room x) (limits.inside_expr room (b.bare_expr x))
  inside_expr room (e.Nm name) = nothing
  inside_expr room (e.Lit quote) = nothing
  inside_expr room (e.Tuple tag args) = both (args_alike args) (inside_args room args)
  inside_expr room (e.Pair line first second) =
      both (level room _ _ (inside_expr (room - 1) first)) (level room _ _ (inside_expr (room - 1) second))
  inside_expr room (e.Pk line key) = nothing
  inside_expr room (e.Vk line key) = nothing
  inside_expr room (e.Penc line key usage tag args) = both (both (use_alike usage) (args_alike args)) (inside_args room args)
  inside_expr room (e.Aead line key usage tag args ad) =
      both (both (both (use_alike usage) (args_alike args)) (inside_args room args)) (level room _ _ (inside_expr (room - 1) ad))
  inside_expr room (e.Sign line key usage tag args) = both (both (use_alike usage) (args_alike args)) (inside_args room args)
  inside_expr room (e.Mac line key usage tag args) = both (both (use_alike usage) (args_alike args)) (inside_args room args)
  inside_expr room (e.Kdf line key context input) = level room _ _ (inside_expr (room - 1) input)
  inside_expr room (e.Hash line message) = level room _ _ (inside_expr (room - 1) message)

  inside_args : (room : ℕ) (xs : e.Exprs) → Alike (limits.inside_args room xs) (limits.inside_args room (b.bare_exprs xs))
  inside_args room e.Nil = nothing
  inside_args room (e.Cons first rest) = both (level room _ _ (inside_expr (room - 1) first)) (inside_args room rest)

expr_alike : (x : e.Expr) → Alike (limits.excess_in_expr x) (limits.excess_in_expr (b.bare_expr x))
expr_alike x = level (limits.most Nesting) (e.line_of x) (e.line_of (b.bare_expr x)) (inside_expr (limits.most Nesting - 1) x)

recipes_bare : (xs : r.Recipes) → r.list_of (b.bare_recipes xs) ≡ map b.bare_recipe (r.list_of xs)
recipes_bare r.Nil = refl
recipes_bare (r.Cons first rest) = ap (λ xs. b.bare_recipe first ∷ xs) (recipes_bare rest)

parts_alike : (args : r.Recipes) → Alike (limits.counts_fields limits.recipe_line (r.list_of args)) (limits.counts_fields limits.recipe_line (r.list_of (b.bare_recipes args)))
parts_alike args = counts_alike Fields (map limits.recipe_line (r.list_of args)) (map limits.recipe_line (r.list_of (b.bare_recipes args)))
    (same_length limits.recipe_line b.bare_recipe (r.list_of args) ∙ ap (λ xs. length (map limits.recipe_line xs)) (sym (recipes_bare args)))

mutual
  inside_recipe : (room : ℕ) (x : r.RecipeText) → Alike (limits.inside_recipe room x) (limits.inside_recipe room (b.bare_recipe x))
  inside_recipe room (r.Lit quote) = nothing
  inside_recipe room (r.Tuple tag args) = both (parts_alike args) (inside_recipes room args)
  inside_recipe room (r.Name line principal) = nothing
  inside_recipe room (r.Msg message) = nothing
  inside_recipe room (r.Cert cert) = nothing
  inside_recipe room (r.Nonce line step) = nothing
  inside_recipe room (r.Field line step version number) = nothing
  inside_recipe room (r.Pair line x y) =
      both (level room _ _ (inside_recipe (room - 1) x)) (level room _ _ (inside_recipe (room - 1) y))
  inside_recipe room (r.Pk line x) = level room _ _ (inside_recipe (room - 1) x)
  inside_recipe room (r.Vk line x) = level room _ _ (inside_recipe (room - 1) x)
  inside_recipe room (r.Penc line x y) =
      both (level room _ _ (inside_recipe (room - 1) x)) (level room _ _ (inside_recipe (room - 1) y))
  inside_recipe room (r.Aead line x y z) =
      both (both (level room _ _ (inside_recipe (room - 1) x)) (level room _ _ (inside_recipe (room - 1) y)))
      (level room _ _ (inside_recipe (room - 1) z))
  inside_recipe room (r.Sign line x y) =
      both (level room _ _ (inside_recipe (room - 1) x)) (level room _ _ (inside_recipe (room - 1) y))
  inside_recipe room (r.Mac line x y) =
      both (level room _ _ (inside_recipe (room - 1) x)) (level room _ _ (inside_recipe (room - 1) y))
  inside_recipe room (r.Kdf line x context y) =
      both (level room _ _ (inside_recipe (room - 1) x)) (level room _ _ (inside_recipe (room - 1) y))
  inside_recipe room (r.Hash line x) = level room _ _ (inside_recipe (room - 1) x)
  inside_recipe room (r.Fst line x) = level room _ _ (inside_recipe (room - 1) x)
  inside_recipe room (r.Snd line x) = level room _ _ (inside_recipe (room - 1) x)
  inside_recipe room (r.Pdec line x y) =
      both (level room _ _ (inside_recipe (room - 1) x)) (level room _ _ (inside_recipe (room - 1) y))
  inside_recipe room (r.Adec line x y) =
      both (level room _ _ (inside_recipe (room - 1) x)) (level room _ _ (inside_recipe (room - 1) y))
  inside_recipe room (r.Ad line x) = level room _ _ (inside_recipe (room - 1) x)
  inside_recipe room (r.Body line x) = level room _ _ (inside_recipe (room - 1) x)

  inside_recipes : (room : ℕ) (xs : r.Recipes) → Alike (limits.inside_recipes room xs) (limits.inside_recipes room (b.bare_recipes xs))
  inside_recipes room r.Nil = nothing
  inside_recipes room (r.Cons first rest) = both (level room _ _ (inside_recipe (room - 1) first)) (inside_recipes room rest)

-- ---- declarations

type_alike : (x : d.FieldType) → Alike (limits.excess_in_type x) (limits.excess_in_type (b.bare_type x))
type_alike d.Name = nothing
type_alike d.Any = nothing
type_alike (d.Upto label) = label_alike label
type_alike (d.Secret label) = label_alike label
type_alike (d.Key label usage) = both (label_alike label) (use_alike usage)
type_alike (d.Pk label usage) = both (label_alike label) (use_alike usage)
type_alike (d.Vk label usage) = both (label_alike label) (use_alike usage)

fields_alike : (xs : List d.Field) → Alike (limits.excess_in_fields xs) (limits.excess_in_fields (map b.bare_field xs))
fields_alike xs = both (members Fields (λ field. field.name.line) b.bare_field xs)
    (each (λ field. limits.excess_in_type field.kind) b.bare_field (λ field. type_alike field.kind) xs)

partners_alike : (xs : List d.Partner) → Alike (limits.excess_in_partners xs) (limits.excess_in_partners (map b.bare_partner xs))
partners_alike xs = both (members Partners (λ partner. partner.atom.event.line) b.bare_partner xs)
    (each (λ partner. limits.excess_in_atom partner.atom ++ limits.excess_in_label partner.unless) b.bare_partner
    (λ partner. both (atom_alike partner.atom) (label_alike partner.unless)) xs)

required_alike : (xs : List n.AtomText) → Alike (limits.excess_in_required xs) (limits.excess_in_required (map b.bare_atom xs))
required_alike xs = both (members Partners (λ atom. atom.event.line) b.bare_atom xs) (each limits.excess_in_atom b.bare_atom atom_alike xs)

-- ---- handlers

patterns_alike : (xs : List s.Pattern) → Alike (limits.excess_in_patterns xs) (limits.excess_in_patterns (map b.bare_pattern xs))
patterns_alike xs = members Fields limits.pattern_line b.bare_pattern xs

act_alike : (x : s.Act) → Alike (limits.excess_in_act x) (limits.excess_in_act (b.bare_act x))
act_alike (s.New name usage label) = both (use_alike usage) (label_alike label)
act_alike (s.Let name value) = expr_alike value
act_alike (s.Event atom) = atom_alike atom
act_alike (s.Send value) = expr_alike value
act_alike (s.Store state fields) = both (members Fields e.line_of b.bare_expr fields) (each limits.excess_in_expr b.bare_expr expr_alike fields)
act_alike (s.Certify key usage) = nothing
act_alike (s.Find usage owner name) = nothing
act_alike (s.Recall state pats) = patterns_alike pats
act_alike (s.Split value tag pats) = patterns_alike pats
act_alike (s.Opened value key usage tag pats ad) = both (both (use_alike usage) (patterns_alike pats)) (expr_alike ad)
act_alike (s.Popened value key usage tag pats) = both (use_alike usage) (patterns_alike pats)
act_alike (s.Verify value key usage tag pats) = both (use_alike usage) (patterns_alike pats)
act_alike (s.Check value key usage tag args) = both (use_alike usage) (members Fields n.line_of b.bare_nm args)
act_alike (s.Same left right) = nothing

patterns_of_act : (x : s.Act) → limits.patterns_of_act (b.bare_act x) ≡ map b.bare_pattern (limits.patterns_of_act x)
patterns_of_act (s.New name usage label) = refl
patterns_of_act (s.Let name value) = refl
patterns_of_act (s.Event atom) = refl
patterns_of_act (s.Send value) = refl
patterns_of_act (s.Store state fields) = refl
patterns_of_act (s.Certify key usage) = refl
patterns_of_act (s.Find usage owner name) = refl
patterns_of_act (s.Recall state pats) = refl
patterns_of_act (s.Split value tag pats) = refl
patterns_of_act (s.Opened value key usage tag pats ad) = refl
patterns_of_act (s.Popened value key usage tag pats) = refl
patterns_of_act (s.Verify value key usage tag pats) = refl
patterns_of_act (s.Check value key usage tag args) = refl
patterns_of_act (s.Same left right) = refl

patterns_of_on : (x : Option s.OnPart) → limits.patterns_of_on (option_map b.bare_on_part x) ≡ map b.bare_pattern (limits.patterns_of_on x)
patterns_of_on None = refl
patterns_of_on (Some on) = refl

name_lines : (x : s.Pattern) → length (limits.name_lines x) ≡ length (limits.name_lines (b.bare_pattern x))
name_lines (s.Bind name) = refl
name_lines (s.Named line name) = refl
name_lines (s.Equal line to) = refl

names_in : (xs ys : List s.Pattern) → ys ≡ map b.bare_pattern xs → length (flat_map limits.name_lines xs) ≡ length (flat_map limits.name_lines ys)
names_in xs ys same = same_length_of_all limits.name_lines b.bare_pattern name_lines xs ∙ ap (λ zs. length (flat_map limits.name_lines zs)) (sym same)

names_of : (x : s.Handler) → length (limits.names_of x) ≡ length (limits.names_of (b.bare_handler x))
names_of x = ap suc (
    length-append (args ++ on) body ∙ ap (λ k. k + length body) (length-append args on)
    ∙ (λ i. same_length (λ arg. arg.line) b.bare_id x.args i + names_in (limits.patterns_of_on x.on) _ (patterns_of_on x.on) i
    + same_length_of_all (λ statement. flat_map limits.name_lines (limits.patterns_of_act statement.act)) b.bare_statement
    (λ statement. names_in (limits.patterns_of_act statement.act) _ (patterns_of_act statement.act)) x.body i)
    ∙ sym (length-append (bare_args ++ bare_on) bare_body ∙ ap (λ k. k + length bare_body) (length-append bare_args bare_on)))
  where
    args : List ℕ
    args = map (λ arg. arg.line) x.args

    on : List ℕ
    on = flat_map limits.name_lines (limits.patterns_of_on x.on)

    body : List ℕ
    body = flat_map (λ statement. flat_map limits.name_lines (limits.patterns_of_act statement.act)) x.body

    bare_args : List ℕ
    bare_args = map (λ arg. arg.line) (map b.bare_id x.args)

    bare_on : List ℕ
    bare_on = flat_map limits.name_lines (limits.patterns_of_on (option_map b.bare_on_part x.on))

    bare_body : List ℕ
    bare_body = flat_map (λ statement. flat_map limits.name_lines (limits.patterns_of_act statement.act)) (map b.bare_statement x.body)

on_alike : (x : Option s.OnPart) → Alike (limits.excess_in_patterns (limits.patterns_of_on x)) (limits.excess_in_patterns (limits.patterns_of_on (option_map b.bare_on_part x)))
on_alike None = patterns_alike []
on_alike (Some on) = patterns_alike on.pats

handler_alike : (x : s.Handler) → Alike (limits.excess_in_handler x) (limits.excess_in_handler (b.bare_handler x))
handler_alike x =
    both (both (both (both
    (counts_alike Names (limits.names_of x) (limits.names_of (b.bare_handler x)) (names_of x))
    (on_alike x.on))
    (members Fields (λ arg. arg.line) b.bare_id x.args))
    (members Statements (λ statement. statement.line) b.bare_statement x.body))
    (each (λ statement. limits.excess_in_act statement.act) b.bare_statement (λ statement. act_alike statement.act) x.body)

decl_alike : (x : f.Decl) → Alike (limits.excess_in_decl x) (limits.excess_in_decl (b.bare_decl x))
decl_alike (f.Usage usage) = both (members Fields (λ param. param.line) b.bare_id usage.params) (members Rows (λ row. row.text.line) b.bare_row usage.rows)
decl_alike (f.Case case) = both (fields_alike case.fields) (required_alike case.requires_)
decl_alike (f.Event event) = both (members Fields (λ param. param.line) b.bare_param event.params) (partners_alike event.after)
decl_alike (f.State state) = both (fields_alike state.fields) (partners_alike state.knows)
decl_alike (f.Handler handler) = handler_alike handler

-- ---- plans

two : (xs ys bare_xs bare_ys : List n.Id) → bare_xs ≡ map b.bare_id xs → bare_ys ≡ map b.bare_id ys → bare_xs ++ bare_ys ≡ map b.bare_id (xs ++ ys)
two xs ys bare_xs bare_ys first second = (λ i. first i ++ second i) ∙ sym (map-append b.bare_id xs ys)

mutual
  named_in : (x : r.RecipeText) → limits.named_in (b.bare_recipe x) ≡ map b.bare_id (limits.named_in x)
  named_in (r.Lit quote) = refl
  named_in (r.Tuple tag args) = named_in_parts args
  named_in (r.Name line principal) = refl
  named_in (r.Msg message) = refl
  named_in (r.Cert cert) = refl
  named_in (r.Nonce line step) = refl
  named_in (r.Field line step version number) = refl
  named_in (r.Pair line x y) = two (limits.named_in x) (limits.named_in y) _ _ (named_in x) (named_in y)
  named_in (r.Pk line x) = named_in x
  named_in (r.Vk line x) = named_in x
  named_in (r.Penc line x y) = two (limits.named_in x) (limits.named_in y) _ _ (named_in x) (named_in y)
  named_in (r.Aead line x y z) =
      two (limits.named_in x ++ limits.named_in y) (limits.named_in z) _ _ (two (limits.named_in x) (limits.named_in y) _ _ (named_in x) (named_in y)) (named_in z)
  named_in (r.Sign line x y) = two (limits.named_in x) (limits.named_in y) _ _ (named_in x) (named_in y)
  named_in (r.Mac line x y) = two (limits.named_in x) (limits.named_in y) _ _ (named_in x) (named_in y)
  named_in (r.Kdf line x context y) = two (limits.named_in x) (limits.named_in y) _ _ (named_in x) (named_in y)
  named_in (r.Hash line x) = named_in x
  named_in (r.Fst line x) = named_in x
  named_in (r.Snd line x) = named_in x
  named_in (r.Pdec line x y) = two (limits.named_in x) (limits.named_in y) _ _ (named_in x) (named_in y)
  named_in (r.Adec line x y) = two (limits.named_in x) (limits.named_in y) _ _ (named_in x) (named_in y)
  named_in (r.Ad line x) = named_in x
  named_in (r.Body line x) = named_in x

  named_in_parts : (xs : r.Recipes) → limits.named_in_parts (b.bare_recipes xs) ≡ map b.bare_id (limits.named_in_parts xs)
  named_in_parts r.Nil = refl
  named_in_parts (r.Cons first rest) = two (limits.named_in first) (limits.named_in_parts rest) _ _ (named_in first) (named_in_parts rest)

principals_of : (x : p.Action) → limits.principals_of (b.bare_action x) ≡ map b.bare_id (limits.principals_of x)
principals_of (p.Start principal handler args on msg) = refl
principals_of (p.Corrupt principal session version) = refl
principals_of p.Forge = refl
principals_of (p.Inject recipe) = named_in recipe

principals_in : (xs : List p.Round) → limits.principals_in (map b.bare_round xs) ≡ map b.bare_id (limits.principals_in xs)
principals_in xs = flat_map-bare (λ round. flat_map (λ step. limits.principals_of step.action) round.steps) b.bare_round b.bare_id
    (λ round. flat_map-bare (λ step. limits.principals_of step.action) b.bare_step b.bare_id (λ step. principals_of step.action) round.steps) xs

-- as many principals are met
others_by : (known : Bool) (id : n.Id) (xs xs_bare ys ys_bare : List n.Id) → length xs ≡ length xs_bare → length ys ≡ length ys_bare
    → length (cond known xs (id ∷ ys)) ≡ length (cond known xs_bare (b.bare_id id ∷ ys_bare))
others_by true id xs xs_bare ys ys_bare same longer = same
others_by false id xs xs_bare ys ys_bare same longer = ap suc longer

others : (words : List (List ℕ)) (ids : List n.Id) → length (limits.others words ids) ≡ length (limits.others words (map b.bare_id ids))
others words [] = refl
others words (id ∷ ids) =
    others_by (list_any (λ word. bytes_eq word id.word) words) id (limits.others words ids) (limits.others words (map b.bare_id ids))
    (limits.others (words ++ id.word ∷ []) ids) (limits.others (words ++ id.word ∷ []) (map b.bare_id ids))
    (others words ids) (others (words ++ id.word ∷ []) ids)

principals_alike : (xs : List p.Round)
    → Alike (counts Principals (map (λ id. id.line) (limits.others [] (limits.principals_in xs))))
    (counts Principals (map (λ id. id.line) (limits.others [] (limits.principals_in (map b.bare_round xs)))))
principals_alike xs =
    counts_alike Principals (map (λ id. id.line) met) (map (λ id. id.line) bare_met)
    (length-map met (λ id. id.line) ∙ others [] (limits.principals_in xs)
    ∙ ap (λ ids. length (limits.others [] ids)) (sym (principals_in xs)) ∙ sym (length-map bare_met (λ id. id.line)))
  where
    met : List n.Id
    met = limits.others [] (limits.principals_in xs)

    bare_met : List n.Id
    bare_met = limits.others [] (limits.principals_in (map b.bare_round xs))

action_alike : (x : p.Action) → Alike (limits.excess_in_action x) (limits.excess_in_action (b.bare_action x))
action_alike (p.Start principal handler args on msg) = members Fields (λ arg. arg.line) b.bare_id args
action_alike (p.Corrupt principal session version) = nothing
action_alike p.Forge = nothing
action_alike (p.Inject recipe) = level (limits.most Nesting) (limits.recipe_line recipe) (limits.recipe_line (b.bare_recipe recipe)) (inside_recipe (limits.most Nesting - 1) recipe)

plan_alike : (xs : List p.Round) → Alike (limits.excess_in_plan xs) (limits.excess_in_plan (map b.bare_round xs))
plan_alike xs =
    both (both (both
    (members Rounds (λ round. round.line) b.bare_round xs)
    (counts_alike Steps (flat_map (λ round. map (λ step. step.line) round.steps) xs) (flat_map (λ round. map (λ step. step.line) round.steps) (map b.bare_round xs))
    (same_length_of_all (λ round. map (λ step. step.line) round.steps) b.bare_round (λ round. same_length (λ step. step.line) b.bare_step round.steps) xs)))
    (principals_alike xs))
    (each (λ round. flat_map (λ step. limits.excess_in_action step.action) round.steps) b.bare_round
    (λ round. each (λ step. limits.excess_in_action step.action) b.bare_step (λ step. action_alike step.action) round.steps) xs)

-- ---- files

of_sort : (sort : LimitName) (x : f.Decl) → length (limits.lines_of_sort sort x) ≡ length (limits.lines_of_sort sort (b.bare_decl x))
of_sort Usages (f.Usage x) = refl
of_sort Cases (f.Case x) = refl
of_sort Events (f.Event x) = refl
of_sort States (f.State x) = refl
of_sort Handlers (f.Handler x) = refl
of_sort _ _ = refl

declared_alike : (sort : LimitName) (xs : List f.Decl) → Alike (limits.counts_declared sort xs) (limits.counts_declared sort (map b.bare_decl xs))
declared_alike sort xs = counts_alike sort (flat_map (limits.lines_of_sort sort) xs) (flat_map (limits.lines_of_sort sort) (map b.bare_decl xs))
    (same_length_of_all (limits.lines_of_sort sort) b.bare_decl (of_sort sort) xs)

file_alike : (x : f.File) → Alike (limits.excess_in_file x) (limits.excess_in_file (b.bare_file x))
file_alike x =
    both (both (both (both (both (both
    (declared_alike Usages x.decls) (declared_alike Cases x.decls)) (declared_alike Events x.decls))
    (declared_alike States x.decls)) (declared_alike Handlers x.decls))
    (each limits.excess_in_decl b.bare_decl decl_alike x.decls))
    (plan_alike x.plan.rounds)

-- what is broken in one is broken in the other, on some line
in_other : (which : LimitName) (line : ℕ) (xs ys : List Excess) → map (λ x. x.which) xs ≡ map (λ x. x.which) ys
    → IsIn (record { which = which; line = line }) xs → (other : ℕ) × IsIn (record { which = which; line = other }) ys
in_other which line [] ys same is_in = absurd is_in
in_other which line (x ∷ xs) [] same is_in = absurd (cc)
in_other which line (x ∷ xs) (y ∷ ys) same (inl here) =
    let first : y.which ≡ which = (let e : x.which ≡ y.which = cc in sym e ∙ ap (λ x. x.which) here) in
    (y.line, inl (λ i. record { which = first i; line = y.line }))
in_other which line (x ∷ xs) (y ∷ ys) same (inr later) =
    let rest : map (λ x. x.which) xs ≡ map (λ x. x.which) ys = cc in
    let found = in_other which line xs ys rest later in
    (found.0, inr found.1)

pub same_limits : (x y : f.File) (which : LimitName) (line : ℕ) → b.AreSame x y → FileBreaks which line x → (other : ℕ) × FileBreaks which other y
same_limits x y which line same broken =
    in_other which line (limits.excess_in_file x) (limits.excess_in_file y)
    ((file_alike x).same ∙ ap (λ z. map (λ w. w.which) (limits.excess_in_file z)) same ∙ sym (file_alike y).same) broken
