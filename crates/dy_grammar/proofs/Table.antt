-- The two tests of the table.
use Rattle.std.proofs.Common.{◌≡◌, ℕ, Bool, true, false, cond, ◌&&◌, ◌||◌, List, [], ◌∷◌, ◌++◌, Some, None, refl, ◌∙◌, ap, inl, inr}
use Rattle.std.specs.Prelude.{not, map}
use Rattle.std.specs.List.{list_all}
use Rattle.std.proofs.lemmas.Bool.{and_parts, and_from}
use Rattle.std.specs.Prelude.{codes}
use Rattle.dy_lex.specs.declared.tokens.TokenKind.TheVariants.{Symbol}
use Rattle.dy_lex.specs.Tokens.{Piece}
use Rattle.dy_grammar.specs.Words.{is_reserved}
use Rattle.dy_grammar.specs.Terminals.{Terminal, This, accepts}
use Rattle.dy_grammar.specs.Tables.{silent, token, part, Takes}
use Rattle.dy_grammar.specs.Parts.{Item, AnId, ANm, AKind, AUse, AnAtom, AFieldType, AField, ARow, AParam, APartner, APattern, ALabel, AStatement, ADecl, ARound, AStep, AnAction, AnInner, AnExpr, ARecipe, ItemValue, Closing, Parenthesis, Semicolon, Requires, After, Knows, Part, AFile, Decls, TableEnd, LastingOpen, OnArgs, RecvOpen, StartEnd, MsgEnd, One, ManyTo, Commas, MoreTo, ListEnd, MaybeListed, PartValue}
use Rattle.dy_grammar.specs.Grammar.{Syms, RuleOf, with_more, item_rules, rules, left_out}
use Rattle.dy_grammar.specs.Trees.{IsAmong}
use Rattle.dy_grammar.specs.Mirrors.Machine.{rule_for}
use Rattle.dy_grammar.specs.Mirrors.Distinct.{may_meet, are_distinct, firsts, opener, may_go_on, may_end_open, starts_closed, is_clear, are_clear}
use Rattle.dy_grammar.proofs.Apart.{only_found}

-- ---- items

-- the symbols that begin or end lists of items
abbrev marks : List Terminal
marks = This Symbol (codes ")") ∷ This Symbol (codes "}") ∷ This Symbol (codes "(") ∷ []

-- none of these tokens is one of those
abbrev are_apart : List Terminal → List Terminal → Bool
are_apart xs ys = list_all (λ x. list_all (λ y. not (may_meet x y)) ys) xs

-- the rules of an item begin with different tokens, none of them such a symbol, and what may be left out stands before no `(`
item_is_right : (x : Item) → (are_distinct (firsts (item_rules x)) && (are_apart marks (firsts (item_rules x)) && are_clear (may_go_on (One x)) (item_rules x))) ≡ true
unfolding item_rules rules is_reserved
item_is_right AnId = refl
item_is_right ANm = refl
item_is_right AKind = refl
item_is_right AUse = refl
item_is_right AnAtom = refl
item_is_right AFieldType = refl
item_is_right AField = refl
item_is_right ARow = refl
item_is_right AParam = refl
item_is_right APartner = refl
item_is_right APattern = refl
item_is_right ALabel = refl
item_is_right AStatement = refl
item_is_right ADecl = refl
item_is_right ARound = refl
item_is_right AStep = refl
item_is_right AnAction = refl
item_is_right (AnInner level) = refl
item_is_right (AnExpr level) = refl
item_is_right (ARecipe level) = refl

item_is_distinct : (x : Item) → are_distinct (firsts (item_rules x)) ≡ true
item_is_distinct x = (and_parts (are_distinct (firsts (item_rules x))) _ (item_is_right x)).0

item_is_apart : (x : Item) → are_apart marks (firsts (item_rules x)) ≡ true
item_is_apart x = (and_parts (are_apart marks (firsts (item_rules x))) _ (and_parts (are_distinct (firsts (item_rules x))) _ (item_is_right x)).1).0

item_is_clear : (x : Item) → are_clear (may_go_on (One x)) (item_rules x) ≡ true
item_is_clear x = (and_parts (are_apart marks (firsts (item_rules x))) _ (and_parts (are_distinct (firsts (item_rules x))) _ (item_is_right x)).1).1

-- each mark by itself
abbrev avoids : Item → List ℕ → Type 0
avoids x m = list_all (λ y. not (may_meet (This Symbol m) y)) (firsts (item_rules x)) ≡ true

record Avoids (x : Item) : Type 0 where
  parenthesis : avoids x (codes ")")
  brace : avoids x (codes "}")
  opening : avoids x (codes "(")

item_avoids : (x : Item) → Avoids x
item_avoids x =
    let a = and_parts (list_all (λ y. not (may_meet (This Symbol (codes ")")) y)) (firsts (item_rules x))) _ (item_is_apart x) in
    let b = and_parts (list_all (λ y. not (may_meet (This Symbol (codes "}")) y)) (firsts (item_rules x))) _ a.1 in
    let c = and_parts (list_all (λ y. not (may_meet (This Symbol (codes "(")) y)) (firsts (item_rules x))) _ b.1 in
    record { parenthesis = a.0; brace = b.0; opening = c.0 }

-- ---- parts

-- a rule begins with the same token where it is extended
firsts-with_more : {A : Type 0} (X : Type 0) (more : Syms) (f : A → Takes PartValue more X) (rs : List (RuleOf A)) → firsts (map (with_more more f) rs) ≡ firsts rs
firsts-with_more X more f [] = refl
firsts-with_more X more f (r ∷ rs) = ap (λ (xs : List Terminal). r.first ∷ xs) (firsts-with_more X more f rs)

-- no two rules of a part begin with the same token
distinct : (p : Part) → are_distinct (firsts (rules p)) ≡ true
unfolding rules item_rules is_reserved
distinct AFile = refl
distinct Decls = refl
distinct TableEnd = refl
distinct LastingOpen = refl
distinct OnArgs = refl
distinct RecvOpen = refl
distinct StartEnd = refl
distinct MsgEnd = refl
distinct (One x) = item_is_distinct x
distinct (ManyTo x) = rw (firsts-with_more (List (ItemValue x)) (part (ManyTo x) ∷ []) (λ v vs. v ∷ vs) (item_rules x)) (and_from _ _ (item_avoids x).brace (item_is_distinct x))
distinct (Commas x) = rw (firsts-with_more (List (ItemValue x)) (part (MoreTo Parenthesis x) ∷ []) (λ v vs. v ∷ vs) (item_rules x)) (and_from _ _ (item_avoids x).parenthesis (item_is_distinct x))
distinct (MoreTo Parenthesis x) = refl
distinct (MoreTo Semicolon x) = refl
distinct (ListEnd Requires x) = refl
distinct (ListEnd After x) = refl
distinct (ListEnd Knows x) = refl
distinct (MaybeListed x) = refl

-- the rule of a part that a token begins is the one that is found
pub the_rule : (p : Part) (r : RuleOf (PartValue p)) (t : Piece) → IsAmong r (rules p) → accepts r.first t ≡ true → rule_for (rules p) t ≡ Some r
the_rule p r t among fits = only_found (rules p) r t (distinct p) among fits

-- ---- nothing that may be left out stands before `(`

clear-append : (before : Bool) (ss : Syms) (q : Part) → is_clear before ss ≡ true → starts_closed q ≡ true → is_clear before (ss ++ part q ∷ []) ≡ true
clear-append true [] q clear closed = and_from _ _ closed refl
clear-append false [] q clear closed = refl
clear-append before (silent x ∷ ss) q clear closed =
    let parts = and_parts (not before || not (may_meet opener x)) _ clear in
    and_from _ _ parts.0 (clear-append false ss q parts.1 closed)
clear-append before (token x ∷ ss) q clear closed =
    let parts = and_parts (not before || not (may_meet opener x)) _ clear in
    and_from _ _ parts.0 (clear-append false ss q parts.1 closed)
clear-append before (part p ∷ ss) q clear closed =
    let parts = and_parts (not before || starts_closed p) _ clear in
    and_from _ _ parts.0 (clear-append (may_go_on p) ss q parts.1 closed)

may_end_open-append : (before : Bool) (ss : Syms) (q : Part) → may_end_open before (ss ++ part q ∷ []) ≡ may_go_on q
may_end_open-append before [] q = refl
may_end_open-append before (silent x ∷ ss) q = may_end_open-append false ss q
may_end_open-append before (token x ∷ ss) q = may_end_open-append false ss q
may_end_open-append before (part p ∷ ss) q = may_end_open-append (may_go_on p) ss q

are_clear-with_more : {A : Type 0} (X : Type 0) (goes_on : Bool) (q : Part) (f : A → PartValue q → X) (rs : List (RuleOf A)) → starts_closed q ≡ true → may_go_on q ≡ false → are_clear goes_on rs ≡ true → are_clear false (map (with_more (part q ∷ []) f) rs) ≡ true
are_clear-with_more X goes_on q f [] closed ends clear = refl
are_clear-with_more X goes_on q f (r ∷ rs) closed ends clear =
    let parts = and_parts (is_clear false r.more && (not (may_end_open false r.more) || goes_on)) (are_clear goes_on rs) clear in
    let inside = and_parts (is_clear false r.more) _ parts.0 in
    let open_ : may_end_open false (r.more ++ part q ∷ []) ≡ false = may_end_open-append false r.more q ∙ ends in
    and_from _ _ (and_from _ _ (clear-append false r.more q inside.0 closed) (rw open_)) (are_clear-with_more X goes_on q f rs closed ends parts.1)

items_start_closed : (x : Item) → starts_closed (ManyTo x) ≡ true
unfolding rules
items_start_closed x = rw (firsts-with_more (List (ItemValue x)) (part (ManyTo x) ∷ []) (λ v vs. v ∷ vs) (item_rules x)) (item_avoids x).opening

decls_start_closed : starts_closed Decls ≡ true
unfolding rules item_rules is_reserved
decls_start_closed = refl

more_start_closed : (end : Closing) (x : Item) → starts_closed (MoreTo end x) ≡ true
unfolding rules
more_start_closed Parenthesis x = refl
more_start_closed Semicolon x = refl

or-true : (b : Bool) → (not b || true) ≡ true
or-true true = refl
or-true false = refl

part_is_clear : (p : Part) → are_clear (may_go_on p) (rules p) ≡ true
unfolding rules
part_is_clear AFile = refl
part_is_clear Decls = are_clear-with_more (PartValue Decls) false Decls (λ decl ds. (decl ∷ ds.0, ds.1)) (item_rules ADecl) decls_start_closed refl (item_is_clear ADecl)
part_is_clear TableEnd = refl
part_is_clear LastingOpen = refl
part_is_clear OnArgs = refl
part_is_clear RecvOpen = refl
part_is_clear StartEnd = refl
part_is_clear MsgEnd = refl
part_is_clear (One x) = item_is_clear x
part_is_clear (ManyTo x) = are_clear-with_more (List (ItemValue x)) (may_go_on (One x)) (ManyTo x) (λ v vs. v ∷ vs) (item_rules x) (items_start_closed x) refl (item_is_clear x)
part_is_clear (Commas x) = are_clear-with_more (List (ItemValue x)) (may_go_on (One x)) (MoreTo Parenthesis x) (λ v vs. v ∷ vs) (item_rules x) (more_start_closed Parenthesis x) refl (item_is_clear x)
part_is_clear (MoreTo Parenthesis x) = rw (or-true (may_go_on (One x)))
part_is_clear (MoreTo Semicolon x) = rw (or-true (may_go_on (One x)))
part_is_clear (ListEnd w x) = rw (or-true (may_go_on (One x)))
part_is_clear (MaybeListed x) = refl

implied : (a b : Bool) → (not a || b) ≡ true → a ≡ true → b ≡ true
implied true b or_ holds = or_
implied false b or_ holds = absurd (cc)

-- a rule of a part is clear inside, and ends with what may be left out only where the part may go on
rule_is_clear : {X : Type 0} (goes_on : Bool) (rs : List (RuleOf X)) (r : RuleOf X) → are_clear goes_on rs ≡ true → IsAmong r rs → (is_clear false r.more ≡ true) × (may_end_open false r.more ≡ true → goes_on ≡ true)
rule_is_clear goes_on [] r clear among = absurd among
rule_is_clear goes_on (q ∷ rs) r clear (inl same) =
    let parts = and_parts (is_clear false q.more) _ (and_parts (is_clear false q.more && (not (may_end_open false q.more) || goes_on)) (are_clear goes_on rs) clear).0 in
    rw same (parts.0, implied (may_end_open false q.more) goes_on parts.1)
rule_is_clear goes_on (q ∷ rs) r clear (inr among) = rule_is_clear goes_on rs r (and_parts (is_clear false q.more && (not (may_end_open false q.more) || goes_on)) (are_clear goes_on rs) clear).1 among

-- where a part may be left out, only `(` begins it
pub none_for : (p : Part) (v : PartValue p) (t : Piece) → left_out p ≡ Some v → accepts opener t ≡ false → rule_for (rules p) t ≡ None
unfolding rules
none_for (MaybeListed x) v t e other = rw other refl
none_for _ v t e other = absurd (cc)

pub is_clear_rule : (p : Part) (r : RuleOf (PartValue p)) → IsAmong r (rules p) → (is_clear false r.more ≡ true) × (may_end_open false r.more ≡ true → may_go_on p ≡ true)
is_clear_rule p r among = rule_is_clear (may_go_on p) (rules p) r (part_is_clear p) among

-- and where no rule is found, `(` does not stand there
pub open_first : (p : Part) (v : PartValue p) (t : Piece) → left_out p ≡ Some v → rule_for (rules p) t ≡ None → accepts opener t ≡ false
unfolding rules
open_first (MaybeListed x) v t e other = not_first (accepts opener t) _ other where
  not_first : {A : Type 0} (b : Bool) (a : A) → cond b (Some a) None ≡ None → b ≡ false
  not_first true a e = absurd (cc)
  not_first false a e = refl
open_first _ v t e other = absurd (cc)
