-- What has nothing that stands too deep, and the parts of such a value.
use Rattle.std.proofs.Common.{◌≡◌, ◌∙◌, sym, ap, subst, refl, ℕ, ◌+◌, ◌-◌, ◌==◌, Bool, true, false, cond, List, [], ◌∷◌, ◌++◌, map, Some, None, inl, inr, arith}
use Rattle.std.specs.Prelude.{nat_lt}
use Rattle.std.specs.List.{flat_map}
use Rattle.std.proofs.lemmas.Bool.{lt-ltb, eqb-false}
use Rattle.dy_grammar.specs.declared.limits.TheConstants.{TOO_DEEP}
use Rattle.dy_grammar.specs.Terminals.{TokenValue}
use Rattle.dy_grammar.specs.Tables.{silent, token, part, Takes, Values, apply}
use Rattle.dy_grammar.specs.Parts.{Item, AnId, ANm, AKind, AUse, AnAtom, AFieldType, AField, ARow, AParam, APartner, APattern, ALabel, AStatement, ADecl, ARound, AStep, AnAction, AnInner, AnExpr, ARecipe, ItemValue, Part, AFile, Decls, TableEnd, LastingOpen, OnArgs, RecvOpen, StartEnd, MsgEnd, One, ManyTo, Commas, MoreTo, ListEnd, MaybeListed, PartValue}
use Rattle.dy_grammar.specs.Grammar.{Syms, RuleOf, deeper, within, with_more}
use Rattle.dy_grammar.specs.Trees.{IsAmong}
use Rattle.dy_grammar.proofs.SideBySide.{first_values, later_values, apply_split}
use Rattle.dy_parse.specs.declared.errors.LimitName.TheVariants.{Nesting}
use Rattle.dy_parse.specs.Limits as limits
use Rattle.dy_parse.specs.Limits.{Excess, breaks, on_level, IsIn}

-- none of these is the limit of nesting
pub record NoneDeep (xs : List Excess) : Type 0 where
  pub never : (line : ℕ) → IsIn (record { which = Nesting; line = line }) xs → ⊥

pub in_left : (x : Excess) (xs ys : List Excess) → IsIn x xs → IsIn x (xs ++ ys)
in_left x [] ys is_in = absurd is_in
in_left x (z ∷ xs) ys (inl here) = inl here
in_left x (z ∷ xs) ys (inr later) = inr (in_left x xs ys later)

pub in_right : (x : Excess) (xs ys : List Excess) → IsIn x ys → IsIn x (xs ++ ys)
in_right x [] ys is_in = is_in
in_right x (z ∷ xs) ys is_in = inr (in_right x xs ys is_in)

pub of_left : (xs ys : List Excess) → NoneDeep (xs ++ ys) → NoneDeep xs
of_left xs ys free = record { never = λ line deep. free.never line (in_left _ xs ys deep) }

pub of_right : (xs ys : List Excess) → NoneDeep (xs ++ ys) → NoneDeep ys
of_right xs ys free = record { never = λ line deep. free.never line (in_right _ xs ys deep) }

pub none_both : (xs ys : List Excess) → NoneDeep xs → NoneDeep ys → NoneDeep (xs ++ ys)
none_both [] ys first second = second
none_both (x ∷ xs) ys first second = record {
  never = λ line deep. elim deep [
    | inl here ↦ first.never line (inl here)
    | inr later ↦ (none_both xs ys (record { never = λ l d. first.never l (inr d) }) second).never line later
  ];
}

pub plain : NoneDeep []
plain = record { never = λ line deep. deep }

pub plain_list : {A : Type 0} (vs : List A) → NoneDeep (flat_map (λ (v : A). []) vs)
plain_list [] = plain
plain_list (v ∷ vs) = plain_list vs

-- ---- levels

-- what is not too deep has a level
pub has_level : (level line : ℕ) (inside : List Excess) → NoneDeep (on_level (TOO_DEEP - level) line inside) → nat_lt level TOO_DEEP ≡ true
has_level level line inside free = by_room (TOO_DEEP - level == 0) refl free where
  by_room : (b : Bool) → (TOO_DEEP - level == 0) ≡ b → NoneDeep (cond b (breaks Nesting (line ∷ [])) inside) → nat_lt level TOO_DEEP ≡ true
  by_room true is deep = absurd (deep.never line (inl refl))
  by_room false is deep = lt-ltb level TOO_DEEP (let some : TOO_DEEP - level ≡ 0 → ⊥ = eqb-false (TOO_DEEP - level) 0 is in omega (arith, some))

-- of what is built and not too deep, what is inside is one level deeper
pub inside_kept : (X : Type 0) (line_of : X → ℕ) (inside : ℕ → X → List Excess) (level : ℕ) (x other : X)
    → NoneDeep (on_level (TOO_DEEP - level) (line_of (within level x other)) (inside (TOO_DEEP - level - 1) (within level x other)))
    → NoneDeep (inside (TOO_DEEP - deeper level) x)
inside_kept X line_of inside level x other free =
    subst (λ k. NoneDeep (inside k x)) (sym next) (subst (λ (y : X). NoneDeep (inside (TOO_DEEP - level - 1) y)) same opened)
  where
    up : nat_lt level TOO_DEEP ≡ true
    up = has_level level (line_of (within level x other)) (inside (TOO_DEEP - level - 1) (within level x other)) free

    same : within level x other ≡ x
    same = ap (λ b. cond b x other) up

    next : TOO_DEEP - deeper level ≡ TOO_DEEP - level - 1
    next = ap (λ b. TOO_DEEP - cond b (level + 1) TOO_DEEP) up ∙ omega arith

    opened : NoneDeep (inside (TOO_DEEP - level - 1) (within level x other))
    opened = by_room (TOO_DEEP - level == 0) free where
      by_room : (b : Bool) → NoneDeep (cond b (breaks Nesting (line_of (within level x other) ∷ [])) (inside (TOO_DEEP - level - 1) (within level x other)))
          → NoneDeep (inside (TOO_DEEP - level - 1) (within level x other))
      by_room true deep = absurd (deep.never (line_of (within level x other)) (inl refl))
      by_room false deep = deep

-- ---- parts

-- what an item has too much of
abbrev pub excess_of : (x : Item) → ItemValue x → List Excess
excess_of AnId v = []
excess_of ANm v = []
excess_of AKind v = []
excess_of AUse v = []
excess_of AnAtom v = []
excess_of AFieldType v = limits.excess_in_type v.0
excess_of AField v = limits.excess_in_type v.kind
excess_of ARow v = []
excess_of AParam v = []
excess_of APartner v = limits.excess_in_atom v.atom ++ limits.excess_in_label v.unless
excess_of APattern v = []
excess_of ALabel v = limits.excess_in_label v
excess_of AStatement v = limits.excess_in_act v.act
excess_of ADecl v = limits.excess_in_decl v
excess_of ARound v = flat_map (λ step. limits.excess_in_action step.action) v.steps
excess_of AStep v = limits.excess_in_action v.action
excess_of AnAction v = limits.excess_in_action v
excess_of (AnInner level) v = limits.label_within (TOO_DEEP - level) v
excess_of (AnExpr level) v = limits.expr_within (TOO_DEEP - level) v
excess_of (ARecipe level) v = limits.recipe_within (TOO_DEEP - level) v

abbrev pub excess_of_part : (p : Part) → PartValue p → List Excess
excess_of_part AFile v = limits.excess_in_file v
excess_of_part Decls v = flat_map limits.excess_in_decl v.0 ++ limits.of_steps (λ step. limits.excess_in_action step.action) v.1.rounds
excess_of_part TableEnd v = []
excess_of_part LastingOpen v = []
excess_of_part OnArgs v = []
excess_of_part RecvOpen v = []
excess_of_part StartEnd v = []
excess_of_part MsgEnd v = []
excess_of_part (One x) v = excess_of x v
excess_of_part (ManyTo x) vs = flat_map (excess_of x) vs
excess_of_part (Commas x) vs = flat_map (excess_of x) vs
excess_of_part (MoreTo end x) vs = flat_map (excess_of x) vs
excess_of_part (ListEnd w x) vs = flat_map (excess_of x) vs
excess_of_part (MaybeListed x) None = []
excess_of_part (MaybeListed x) (Some vs) = flat_map (excess_of x) vs

-- nothing in what follows in a rule is too deep
abbrev pub NoneIn : (ss : Syms) → Values PartValue ss → Type 0
NoneIn [] vs = Unit {0}
NoneIn (silent x ∷ ss) vs = NoneIn ss vs
NoneIn (token x ∷ ss) vs = NoneIn ss vs.1
NoneIn (part p ∷ ss) vs = NoneDeep (excess_of_part p vs.0) × NoneIn ss vs.1

none_append : (rs ss : Syms) (vs : Values PartValue (rs ++ ss)) → NoneIn rs (first_values rs ss vs) → NoneIn ss (later_values rs ss vs) → NoneIn (rs ++ ss) vs
none_append [] ss vs first later = later
none_append (silent x ∷ rs) ss vs first later = none_append rs ss vs first later
none_append (token x ∷ rs) ss vs first later = none_append rs ss vs.1 first later
none_append (part p ∷ rs) ss vs first later = (first.0, none_append rs ss vs.1 first.1 later)

-- ---- rules

-- where nothing in what a rule makes is too deep, nothing in its parts is
abbrev pub Passes : (X : Type 0) → (X → List Excess) → RuleOf X → Type 0
Passes X excess r = (k : TokenValue r.first) (vs : Values PartValue r.more) → NoneDeep (excess (apply PartValue X r.more (r.make k) vs)) → NoneIn r.more vs

abbrev pub AllPass : (X : Type 0) → (X → List Excess) → List (RuleOf X) → Type 0
AllPass X excess [] = Unit {0}
AllPass X excess (r ∷ rs) = Passes X excess r × AllPass X excess rs

pub among_passes : (X : Type 0) (excess : X → List Excess) (rs : List (RuleOf X)) (r : RuleOf X) → IsAmong r rs → AllPass X excess rs → Passes X excess r
among_passes X excess [] r among all = absurd among
among_passes X excess (q ∷ rs) r (inl same) all = subst (λ (x : RuleOf X). Passes X excess x) (sym same) all.0
among_passes X excess (q ∷ rs) r (inr later) all = among_passes X excess rs r later all.1

-- where more is looked at
pub all_with : (X : Type 0) (less more : X → List Excess) → ((x : X) → NoneDeep (more x) → NoneDeep (less x)) → (rs : List (RuleOf X)) → AllPass X less rs → AllPass X more rs
all_with X less more weaker [] all = tt
all_with X less more weaker (r ∷ rs) all = (λ k vs free. all.0 k vs (weaker _ free), all_with X less more weaker rs all.1)

-- rules that go on
pub all_grown : (A X : Type 0) (of_a : A → List Excess) (of_x : X → List Excess) (more : Syms) (make : A → Takes PartValue more X)
    → ((a : A) (ws : Values PartValue more) → NoneDeep (of_x (apply PartValue X more (make a) ws)) → NoneDeep (of_a a) × NoneIn more ws)
    → (rs : List (RuleOf A)) → AllPass A of_a rs → AllPass X of_x (map (with_more more make) rs)
all_grown A X of_a of_x more make grows [] all = tt
all_grown A X of_a of_x more make grows (r ∷ rs) all = (
  λ k vs free.
      let a = apply PartValue A r.more (r.make k) (first_values r.more more vs) in
      let parts = grows a (later_values r.more more vs) (subst (λ (x : X). NoneDeep (of_x x)) (apply_split A X r.more more (r.make k) make vs) free) in
      none_append r.more more vs (all.0 k (first_values r.more more vs) parts.0) parts.1,
  all_grown A X of_a of_x more make grows rs all.1,
)
