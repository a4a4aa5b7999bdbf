-- The parts of a statement that a tuple has which it seals.
use Rattle.std.proofs.Common.{◌≡◌, ℕ, Bool, List, [], ◌∷◌, ◌++◌, Contains, inl, inr, refl, sym, subst}
use Rattle.std.specs.List.{flat_map}
use Rattle.std.proofs.lemmas.List.Elements.{Contains-append_cases}
use Rattle.dy_syntax.specs.Names as names
use Rattle.dy_syntax.specs.Names.{Nm, Quote, KindText, UseText}
use Rattle.dy_syntax.specs.Expressions as e
use Rattle.dy_syntax.specs.Expressions.{Expr, Exprs, list_of}
use Rattle.dy_syntax.specs.Statements as s
use Rattle.dy_syntax.specs.Statements.{Act}
use Rattle.dy_syntax.specs.Parts.{Part, Variable, Filled, Used, Defined, Stored, StateFilled, parts_of_use, parts_of_key, parts_of_sealed, parts_of_expr, parts_of_exprs, parts_of_opening, parts_of_act}
use Rattle.dy_syntax.specs.Rules.{IsIn}
use Rattle.dy_typing.specs.Demands.{Operation, Seals, Opens, operations_of_expr, operations_of_exprs, operations_of}
use Rattle.dy_sound.proofs.Lists.{Contains-none, Contains-cases}
use Rattle.dy_sound.proofs.StatementParts.{IsIn-left, IsIn-right}

-- Among the parts are the tuple that is sealed, its usage, and each name that is one of its fields.
pub record HasSealed (parts : List Part) (usage : UseText) (tag : List ℕ) (fields : List Expr) : Type 0 where
  pub quote : Quote
  pub tag_is : quote.text ≡ tag
  pub is_filled : IsIn (Filled usage.usage quote fields) parts
  pub is_used : (part : Part) → IsIn part (parts_of_use usage) → IsIn part parts
  pub has_names : (name : Nm) → Contains fields (e.Nm name) → IsIn (Variable name) parts

pub has_more : (some all : List Part) (usage : UseText) (tag : List ℕ) (fields : List Expr)
    → ((part : Part) → IsIn part some → IsIn part all) → HasSealed some usage tag fields → HasSealed all usage tag fields
has_more some all usage tag fields within has = record {
  quote = has.quote;
  tag_is = has.tag_is;
  is_filled = within (Filled usage.usage has.quote fields) has.is_filled;
  is_used = λ part h. within part (has.is_used part h);
  has_names = λ name stands. within (Variable name) (has.has_names name stands);
}

-- a name among expressions is a part of them
name_among : (exprs : Exprs) (name : Nm) → Contains (list_of exprs) (e.Nm name) → IsIn (Variable name) (parts_of_exprs exprs)
name_among e.Nil name stands = absurd (Contains-none (e.Nm name) stands)
name_among (e.Cons first rest) name stands = elim (Contains-cases first (list_of rest) (e.Nm name) stands) [
  | inl same ↦ IsIn-left (Variable name) (parts_of_expr first) (parts_of_exprs rest)
      (subst (λ (x : Expr). IsIn (Variable name) (parts_of_expr x)) (sym same) (inl refl))
  | inr later ↦ IsIn-right (Variable name) (parts_of_expr first) (parts_of_exprs rest) (name_among rest name later)
]

filled_here : (kind : KindText) (key : Nm) (usage : UseText) (tag : Quote) (fields : List Expr)
    → IsIn (Filled usage.usage tag fields) (parts_of_sealed kind key usage tag fields)
unfolding parts_of_sealed
filled_here kind key usage tag fields = inr (inl refl)

used_here : (kind : KindText) (key : Nm) (usage : UseText) (tag : Quote) (fields : List Expr) (part : Part)
    → IsIn part (parts_of_use usage) → IsIn part (parts_of_sealed kind key usage tag fields)
unfolding parts_of_sealed parts_of_key
used_here kind key usage tag fields part h = inr (inr (inr h))

pub is_used_first : (usage : UseText) → IsIn (Used usage) (parts_of_use usage)
unfolding parts_of_use
is_used_first usage = inl refl

-- The tuple of an operation has its parts.
abbrev IsSealedIn : List Part → List Operation → Type 0
IsSealedIn parts operations =
    (kind : KindText) (key : Nm) (usage : UseText) (tag : List ℕ) (fields : List Expr)
    → Contains operations (Seals kind key usage tag fields) → HasSealed parts usage tag fields

none_sealed : (parts : List Part) → IsSealedIn parts []
none_sealed parts kind key usage tag fields stands = absurd (Contains-none _ stands)

sealed_within : (some all : List Part) (operations : List Operation) → ((part : Part) → IsIn part some → IsIn part all)
    → IsSealedIn some operations → IsSealedIn all operations
sealed_within some all operations within sealed kind key usage tag fields stands =
    has_more some all usage tag fields within (sealed kind key usage tag fields stands)

sealed_both : (first second : List Part) (some others : List Operation) → IsSealedIn first some → IsSealedIn second others
    → IsSealedIn (first ++ second) (some ++ others)
sealed_both first second some others one two kind key usage tag fields stands = elim (Contains-append_cases some others _ stands) [
  | inl here ↦ has_more first (first ++ second) usage tag fields (λ part h. IsIn-left part first second h) (one kind key usage tag fields here)
  | inr there ↦ has_more second (first ++ second) usage tag fields (λ part h. IsIn-right part first second h) (two kind key usage tag fields there)
]

-- One more tuple is sealed, of these expressions.
sealed_too : (own_kind : KindText) (own_key : Nm) (own_usage : UseText) (own_tag : Quote) (args : Exprs) (operations : List Operation)
    → IsSealedIn (parts_of_exprs args) operations
    → IsSealedIn (parts_of_sealed own_kind own_key own_usage own_tag (list_of args) ++ parts_of_exprs args)
    (Seals own_kind own_key own_usage own_tag.text (list_of args) ∷ operations)
sealed_too own_kind own_key own_usage own_tag args operations rest kind key usage tag fields stands =
    let first = parts_of_sealed own_kind own_key own_usage own_tag (list_of args) in
    let all = first ++ parts_of_exprs args in
    elim (Contains-cases _ operations _ stands) [
      | inl same ↦
          let usages : own_usage ≡ usage = cc in
          let tags : own_tag.text ≡ tag = cc in
          let lists : list_of args ≡ fields = cc in
          let own : HasSealed all own_usage own_tag.text (list_of args) = record {
            quote = own_tag;
            tag_is = refl;
            is_filled = IsIn-left _ first (parts_of_exprs args) (filled_here own_kind own_key own_usage own_tag (list_of args));
            is_used = λ part h. IsIn-left part first (parts_of_exprs args) (used_here own_kind own_key own_usage own_tag (list_of args) part h);
            has_names = λ name has. IsIn-right (Variable name) first (parts_of_exprs args) (name_among args name has);
          } in
          subst (λ (u : UseText). HasSealed all u tag fields) usages
          (subst (λ (t : List ℕ). HasSealed all own_usage t fields) tags
          (subst (λ (f : List Expr). HasSealed all own_usage own_tag.text f) lists own))
      | inr later ↦ has_more (parts_of_exprs args) all usage tag fields (λ part h. IsIn-right part first (parts_of_exprs args) h) (rest kind key usage tag fields later)
    ]

mutual
  sealed_in_expr : (expr : Expr) → IsSealedIn (parts_of_expr expr) (operations_of_expr expr)
  sealed_in_expr (e.Nm name) = none_sealed (parts_of_expr (e.Nm name))
  sealed_in_expr (e.Lit quote) = none_sealed (parts_of_expr (e.Lit quote))
  sealed_in_expr (e.Tuple tag args) = sealed_in_exprs args
  sealed_in_expr (e.Pair line first second) =
      sealed_both (parts_of_expr first) (parts_of_expr second) (operations_of_expr first) (operations_of_expr second) (sealed_in_expr first) (sealed_in_expr second)
  sealed_in_expr (e.Pk line key) = none_sealed (parts_of_expr (e.Pk line key))
  sealed_in_expr (e.Vk line key) = none_sealed (parts_of_expr (e.Vk line key))
  sealed_in_expr (e.Penc line key usage tag args) = sealed_too names.Pke key usage tag args (operations_of_exprs args) (sealed_in_exprs args)
  sealed_in_expr (e.Aead line key usage tag args ad) =
      sealed_both (parts_of_sealed names.Aead key usage tag (list_of args) ++ parts_of_exprs args) (parts_of_expr ad)
      (Seals names.Aead key usage tag.text (list_of args) ∷ operations_of_exprs args) (operations_of_expr ad)
      (sealed_too names.Aead key usage tag args (operations_of_exprs args) (sealed_in_exprs args)) (sealed_in_expr ad)
  sealed_in_expr (e.Sign line key usage tag args) = sealed_too names.Sig key usage tag args (operations_of_exprs args) (sealed_in_exprs args)
  sealed_in_expr (e.Mac line key usage tag args) = sealed_too names.Mac key usage tag args (operations_of_exprs args) (sealed_in_exprs args)
  sealed_in_expr (e.Kdf line key context input) =
      sealed_within (parts_of_expr input) (Variable key ∷ parts_of_expr input) (operations_of_expr input) (λ part h. inr h) (sealed_in_expr input)
  sealed_in_expr (e.Hash line message) = sealed_in_expr message

  sealed_in_exprs : (exprs : Exprs) → IsSealedIn (parts_of_exprs exprs) (operations_of_exprs exprs)
  sealed_in_exprs e.Nil = none_sealed []
  sealed_in_exprs (e.Cons first rest) =
      sealed_both (parts_of_expr first) (parts_of_exprs rest) (operations_of_expr first) (operations_of_exprs rest) (sealed_in_expr first) (sealed_in_exprs rest)

sealed_in_all : (exprs : List Expr) → IsSealedIn (flat_map parts_of_expr exprs) (flat_map operations_of_expr exprs)
sealed_in_all [] = none_sealed []
sealed_in_all (expr ∷ exprs) =
    sealed_both (parts_of_expr expr) (flat_map parts_of_expr exprs) (operations_of_expr expr) (flat_map operations_of_expr exprs) (sealed_in_expr expr) (sealed_in_all exprs)

-- What is opened or checked seals nothing.
opens_none : (parts : List Part) (own_kind : KindText) (own_key : Nm) (own_usage : UseText) (operations : List Operation) → IsSealedIn parts operations
    → IsSealedIn parts (Opens own_kind own_key own_usage ∷ operations)
opens_none parts own_kind own_key own_usage operations rest kind key usage tag fields stands = elim (Contains-cases _ operations _ stands) [
  | inl same ↦ absurd cc
  | inr later ↦ rest kind key usage tag fields later
]

-- The tuples that a statement seals are among its parts.
pub sealed_in_act : (line : ℕ) (is_last : Bool) (act : Act) → IsSealedIn (parts_of_act line is_last act) (operations_of act)
sealed_in_act line is_last (s.New name usage label) = none_sealed (parts_of_act line is_last (s.New name usage label))
sealed_in_act line is_last (s.Let name value) =
    sealed_within (parts_of_expr value) (Defined value ∷ parts_of_expr value) (operations_of_expr value) (λ part h. inr h) (sealed_in_expr value)
sealed_in_act line is_last (s.Event atom) = none_sealed (parts_of_act line is_last (s.Event atom))
sealed_in_act line is_last (s.Send value) = sealed_in_expr value
sealed_in_act line is_last (s.Store state fields) =
    sealed_within (flat_map parts_of_expr fields) (Stored line is_last ∷ StateFilled state fields ∷ flat_map parts_of_expr fields)
    (flat_map operations_of_expr fields) (λ part h. inr (inr h)) (sealed_in_all fields)
sealed_in_act line is_last (s.Certify key usage) = none_sealed (parts_of_act line is_last (s.Certify key usage))
sealed_in_act line is_last (s.Find usage owner name) = none_sealed (parts_of_act line is_last (s.Find usage owner name))
sealed_in_act line is_last (s.Recall state pats) = none_sealed (parts_of_act line is_last (s.Recall state pats))
sealed_in_act line is_last (s.Split value tag pats) = none_sealed (parts_of_act line is_last (s.Split value tag pats))
sealed_in_act line is_last (s.Opened value key usage tag pats ad) =
    let opening = parts_of_opening names.Aead value key usage tag pats in
    opens_none (opening ++ parts_of_expr ad) names.Aead (names.Named key) usage (operations_of_expr ad)
    (sealed_within (parts_of_expr ad) (opening ++ parts_of_expr ad) (operations_of_expr ad) (λ part h. IsIn-right part opening (parts_of_expr ad) h) (sealed_in_expr ad))
sealed_in_act line is_last (s.Popened value key usage tag pats) =
    opens_none _ names.Pke (names.Named key) usage [] (none_sealed (parts_of_act line is_last (s.Popened value key usage tag pats)))
sealed_in_act line is_last (s.Verify value key usage tag pats) =
    opens_none _ names.Sig (names.Named key) usage [] (none_sealed (parts_of_act line is_last (s.Verify value key usage tag pats)))
sealed_in_act line is_last (s.Check value key usage tag args) =
    opens_none _ names.Mac (names.Named key) usage [] (none_sealed (parts_of_act line is_last (s.Check value key usage tag args)))
sealed_in_act line is_last (s.Same left right) = none_sealed (parts_of_act line is_last (s.Same left right))
