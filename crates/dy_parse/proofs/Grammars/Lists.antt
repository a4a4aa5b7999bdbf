-- Lists are read item by item.
use Rattle.std.proofs.Common.{◌≡◌, ℕ, suc, ◌<◌, Bool, true, false, cond, List, [], ◌∷◌, ◌++◌, length, Option, Some, None, refl, sym, ◌∙◌, ap, append_assoc, arith}
use Rattle.std.specs.Prelude.{Ok, Err, map, codes}
use Rattle.std.proofs.lemmas.List.{append-nil, length-append}
use Rattle.std.proofs.lemmas.Result.{IfOk-at_ok}
use Rattle.dy_lex.specs.declared.tokens.TokenKind.TheVariants.{Word, Symbol}
use Rattle.dy_lex.specs.Tokens.{Piece}
use Rattle.dy_parse.specs.declared.lists.Rest.{Rest}
use Rattle.dy_parse.specs.declared.lists.Rest.TheVariants as rests
use Rattle.dy_parse.specs.declared.cursor.Fault.{Fault}
use Rattle.dy_parse.specs.declared.cursor.Fault.TheVariants as faults
use Rattle.dy_grammar.specs.Terminals.{This, accepts, token_value}
use Rattle.dy_grammar.specs.Tables.{part, Takes}
use Rattle.dy_syntax.specs.Names.{AtomText}
use Rattle.dy_syntax.specs.Declarations.{Partner}
use Rattle.dy_grammar.specs.Parts.{Item, ItemValue, Closing, Parenthesis, Semicolon, Listing, Part, One, ManyTo, MoreTo, Commas, ListEnd, PartValue, AnAtom, APartner, AnInner}
use Rattle.dy_grammar.specs.Grammar.{Syms, RuleOf, rules, item_rules, opens, with_more, closing, listing, word, atom_rules}
use Rattle.dy_grammar.specs.Trees.{Trees, node, absent, none, tree, all_leaves}
use Rattle.dy_grammar.specs.Mirrors.Machine.{◌>>=◌, Reads, at, token_value_if, take_or_stop, token_at, syms_at, choose}
use Rattle.dy_parse.specs.Mirrors.Lists.{after_mark, end_or, with_prefix, before, rest_at, rest_mark, next_at}
use Rattle.dy_parse.specs.Mirrors.Gives.{Fails}
use Rattle.dy_grammar.proofs.Sound.{IsRead, sound}
use Rattle.dy_grammar.proofs.Stepwise.{syms_at-append, at_is_by_rules}

-- rules that are extended
pub choose-with_more : (A X : Type 0) (more : Syms) (f : A → Takes PartValue more X) (rs : List (RuleOf A)) (t : Piece) (rest : List Piece) (e : ℕ) → choose X (map (with_more more f) rs) t rest (Err e) ≡ (choose A rs t rest (Err e) >>= λ y. syms_at X more (f y.0) y.1)
choose-with_more A X more f [] t rest e = refl
choose-with_more A X more f (r ∷ rs) t rest e = by_test (accepts r.first t) _ _ (syms_at-append A X r.more more (r.make (token_value r.first t)) f rest) (choose-with_more A X more f rs t rest e) where
  by_test : (b : Bool) {x y : Reads X} (v w : Reads A) → x ≡ (v >>= λ y. syms_at X more (f y.0) y.1) → y ≡ (w >>= λ y. syms_at X more (f y.0) y.1) → cond b x y ≡ (cond b v w >>= λ y. syms_at X more (f y.0) y.1)
  by_test true v w first other = first
  by_test false v w first other = other

-- a symbol, and otherwise something else
end_or-test : {A : Type 0} (b : Bool) (rest : List Piece) (v : A) (other : Reads A) → cond b (Ok (v, rest)) other ≡ end_or (cond b (Some rest) None) v other
end_or-test true rest v other = refl
end_or-test false rest v other = refl

-- a list that ends, or begins with an item
abbrev by_list : (m : List ℕ) (x : Item) (q : Part) → (ItemValue x → PartValue q → List (ItemValue x)) → List Piece → Reads (List (ItemValue x))
by_list m x q f [] = Err 0
by_list m x q f (t ∷ rest) = choose (List (ItemValue x)) (opens m [] (λ line. []) ∷ map (with_more (part q ∷ []) f) (item_rules x)) t rest (Err (suc (length rest)))

from_items : (m : List ℕ) (x : Item) (q : Part) (f : ItemValue x → PartValue q → List (ItemValue x)) (tokens : List Piece) → by_list m x q f tokens ≡ end_or (after_mark m tokens) [] (at (One x) tokens >>= λ y. at q y.1 >>= λ z. Ok (f y.0 z.0, z.1))
unfolding after_mark rules
from_items m x q f [] = rw (at_is_by_rules (One x) []) refl
from_items m x q f (t ∷ rest) =
    let items = choose-with_more (ItemValue x) (List (ItemValue x)) (part q ∷ []) f (item_rules x) t rest (suc (length rest)) in
    let item = at_is_by_rules (One x) (t ∷ rest) in
    end_or-test (accepts (This Symbol m) t) rest [] _
    ∙ ap (end_or (cond (accepts (This Symbol m) t) (Some rest) None) []) (items ∙ ap (λ r. r >>= λ y. at q y.1 >>= λ z. Ok (f y.0 z.0, z.1)) (sym item))

-- a list of items with a comma before each
more_test : (x : Item) (b : Bool) (rest : List Piece) (k : ℕ) (later : List Piece → Reads (List (ItemValue x))) → cond b (before (at (One x) rest) later) (Err (suc (length rest))) ≡ before (take_or_stop rest (cond b (Some k) None) >>= λ y. at (One x) y.1) later
more_test x true rest k later = refl
more_test x false rest k later = refl

more_is : (end : Closing) (x : Item) (tokens : List Piece) → at (MoreTo end x) tokens ≡ end_or (after_mark (closing end) tokens) [] (before (token_at (This Symbol (codes ",")) tokens >>= λ y. at (One x) y.1) (at (MoreTo end x)))
unfolding after_mark rules token_at token_value_if
more_is end x [] = at_is_by_rules (MoreTo end x) []
more_is end x (t ∷ rest) =
    at_is_by_rules (MoreTo end x) (t ∷ rest)
    ∙ end_or-test (accepts (This Symbol (closing end)) t) rest [] _
    ∙ ap (end_or (cond (accepts (This Symbol (closing end)) t) (Some rest) None) []) (more_test x (accepts (This Symbol (codes ",")) t) rest t.line (at (MoreTo end x)))

many_is : (x : Item) (tokens : List Piece) → at (ManyTo x) tokens ≡ end_or (after_mark (codes "}") tokens) [] (before (at (One x) tokens) (at (ManyTo x)))
unfolding rules
many_is x [] = at_is_by_rules (ManyTo x) [] ∙ from_items (codes "}") x (ManyTo x) (λ v vs. v ∷ vs) []
many_is x (t ∷ rest) = at_is_by_rules (ManyTo x) (t ∷ rest) ∙ from_items (codes "}") x (ManyTo x) (λ v vs. v ∷ vs) (t ∷ rest)

-- items in parentheses
pub commas_is : (x : Item) (tokens : List Piece) → at (Commas x) tokens ≡ end_or (after_mark (codes ")") tokens) [] (before (at (One x) tokens) (at (MoreTo Parenthesis x)))
unfolding rules
commas_is x [] = at_is_by_rules (Commas x) [] ∙ from_items (codes ")") x (MoreTo Parenthesis x) (λ v vs. v ∷ vs) []
commas_is x (t ∷ rest) = at_is_by_rules (Commas x) (t ∷ rest) ∙ from_items (codes ")") x (MoreTo Parenthesis x) (λ v vs. v ∷ vs) (t ∷ rest)

-- a word and items with a comma between them, or nothing
pub list_end_is : (w : Listing) (x : Item) (tokens : List Piece) → at (ListEnd w x) tokens ≡ end_or (after_mark (codes ";") tokens) [] (before (token_at (This Word (listing w)) tokens >>= λ y. at (One x) y.1) (at (MoreTo Semicolon x)))
unfolding after_mark rules token_at token_value_if
list_end_is w x [] = at_is_by_rules (ListEnd w x) []
list_end_is w x (t ∷ rest) =
    at_is_by_rules (ListEnd w x) (t ∷ rest)
    ∙ end_or-test (accepts (This Symbol (codes ";")) t) rest [] _
    ∙ ap (end_or (cond (accepts (This Symbol (codes ";")) t) (Some rest) None) []) (more_test x (accepts (This Word (listing w)) t) rest t.line (at (MoreTo Semicolon x)))

-- an event, and the label after `unless`
pub partner_is : (tokens : List Piece) → at (One APartner) tokens ≡ (at (One AnAtom) tokens >>= λ y. token_at (This Word (codes "unless")) y.1 >>= λ z. at (One (AnInner 1)) z.1 >>= λ w. Ok (record { atom = y.0; unless = w.0 }, w.1))
unfolding rules item_rules
partner_is [] = rw (at_is_by_rules (One APartner) [], at_is_by_rules (One AnAtom) []) refl
partner_is (t ∷ rest) =
    at_is_by_rules (One APartner) (t ∷ rest)
    ∙ choose-with_more AtomText Partner (word (codes "unless") ∷ part (One (AnInner 1)) ∷ []) (λ atom label. record { atom = atom; unless = label }) atom_rules t rest (suc (length rest))
    ∙ ap (λ r. r >>= λ y. token_at (This Word (codes "unless")) y.1 >>= λ z. at (One (AnInner 1)) z.1 >>= λ w. Ok (record { atom = y.0; unless = w.0 }, w.1)) (sym (at_is_by_rules (One AnAtom) (t ∷ rest)))

-- the rest of a list
pub rest_is : (kind : Rest) (x : Item) (tokens : List Piece) → rest_at kind x tokens ≡ end_or (after_mark (rest_mark kind) tokens) [] (before (next_at kind x tokens) (rest_at kind x))
rest_is rests.Braces x tokens = many_is x tokens
rest_is rests.Parentheses x tokens = more_is Parenthesis x tokens
rest_is rests.Semicolon x tokens = more_is Semicolon x tokens

-- ---- item by item

regroup : {A : Type 0} (prefix : List A) (v : A) (read : Reads (List A)) → with_prefix prefix (read >>= λ z. Ok (v ∷ z.0, z.1)) ≡ with_prefix (prefix ++ v ∷ []) read
regroup prefix v (Ok z) = ap (λ vs. Ok (vs, z.1)) (sym (append_assoc prefix (v ∷ []) z.0))
regroup prefix v (Err e) = refl

module _ (kind : Rest) (x : Item) (total : Reads (List (ItemValue x))) (prefix : List (ItemValue x)) (tokens : List Piece) (so_far : with_prefix prefix (rest_at kind x tokens) ≡ total) where
  -- at its end the list is what was read so far
  pub ends_with : (rest : List Piece) → after_mark (rest_mark kind) tokens ≡ Some rest → total ≡ Ok (prefix, rest)
  ends_with rest closed =
      sym so_far ∙ ap (with_prefix prefix) (rest_is kind x tokens ∙ ap (λ o. end_or o [] (before (next_at kind x tokens) (rest_at kind x))) closed) ∙ ap (λ vs. Ok (vs, rest)) (append-nil prefix)

  -- where it goes on
  one : after_mark (rest_mark kind) tokens ≡ None → rest_at kind x tokens ≡ before (next_at kind x tokens) (rest_at kind x)
  one open_ = rest_is kind x tokens ∙ ap (λ o. end_or o [] (before (next_at kind x tokens) (rest_at kind x))) open_

  -- an item that is read belongs to those so far
  pub goes_on : (v : ItemValue x) (rest : List Piece) → after_mark (rest_mark kind) tokens ≡ None → next_at kind x tokens ≡ Ok (v, rest) → with_prefix (prefix ++ v ∷ []) (rest_at kind x rest) ≡ total
  goes_on v rest open_ next =
      let step : rest_at kind x tokens ≡ (rest_at kind x rest >>= λ z. Ok (v ∷ z.0, z.1)) = one open_ ∙ ap (λ r. before r (rest_at kind x)) next in
      sym (regroup prefix v (rest_at kind x rest)) ∙ ap (with_prefix prefix) (sym step) ∙ so_far

  -- where no item is read, no list is
  pub fails_with : (e : Fault) → after_mark (rest_mark kind) tokens ≡ None → Fails e (next_at kind x tokens) → Fails e total
  fails_with faults.Memory open_ failed = tt
  fails_with (faults.At left) open_ failed = sym so_far ∙ ap (with_prefix prefix) (one open_ ∙ ap (λ r. before r (rest_at kind x)) failed)

-- with nothing before it
pub prefixed_nothing : {A : Type 0} (read : Reads (List A)) → with_prefix [] read ≡ read
prefixed_nothing (Ok z) = refl
prefixed_nothing (Err e) = refl

-- ---- each item has a token

one_shorter : (x : Item) (tokens : List Piece) (y : ItemValue x × List Piece) → at (One x) tokens ≡ Ok y → length y.1 < length tokens
unfolding at
one_shorter x tokens y read = by_trees is_read.trees is_read.split where
  is_read : IsRead false (ItemValue x) tokens (part (One x) ∷ []) (λ v. v) y
  is_read = IfOk-at_ok (IsRead false (ItemValue x) tokens (part (One x) ∷ []) (λ v. v)) read (sound (ItemValue x) tokens (part (One x) ∷ []) (λ v. v))

  by_trees : (ts : Trees (part (One x) ∷ [])) → tokens ≡ all_leaves ts ++ y.1 → length y.1 < length tokens
  by_trees (tree (node r is_rule t fits us) none) split = omega (arith, ap length split, length-append (all_leaves us ++ []) y.1)
  by_trees (tree (absent v e) none) split = absurd (cc)

comma_shorter : (tokens : List Piece) (y : ℕ × List Piece) → token_at (This Symbol (codes ",")) tokens ≡ Ok y → length y.1 < length tokens
unfolding token_at
comma_shorter [] y read = absurd (cc)
comma_shorter (t ∷ rest) y read = go (token_value_if (This Symbol (codes ",")) t) read where
  go : (o : Option ℕ) → take_or_stop rest o ≡ Ok y → length y.1 < length (t ∷ rest)
  go None e = absurd (cc)
  go (Some k) e = let same : rest ≡ y.1 = cc in omega (arith, ap length same)

after_comma : (x : Item) (tokens : List Piece) (y : ItemValue x × List Piece) → (token_at (This Symbol (codes ",")) tokens >>= λ c. at (One x) c.1) ≡ Ok y → length y.1 < length tokens
after_comma x tokens y read = go (token_at (This Symbol (codes ",")) tokens) refl read where
  go : (r : Reads ℕ) → token_at (This Symbol (codes ",")) tokens ≡ r → (r >>= λ c. at (One x) c.1) ≡ Ok y → length y.1 < length tokens
  go (Ok c) comma e = omega (arith, comma_shorter tokens c comma, one_shorter x c.1 y e)
  go (Err e') comma e = absurd (cc)

pub next_shorter : (kind : Rest) (x : Item) (tokens : List Piece) (y : ItemValue x × List Piece) → next_at kind x tokens ≡ Ok y → length y.1 < length tokens
next_shorter rests.Braces x tokens y read = one_shorter x tokens y read
next_shorter rests.Parentheses x tokens y read = after_comma x tokens y read
next_shorter rests.Semicolon x tokens y read = after_comma x tokens y read
