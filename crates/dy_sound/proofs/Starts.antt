-- A good trace stays good with a Start that may follow.
use Rattle.std.proofs.Common.{◌≡◌, ℕ, zero, suc, ◌<◌, Bool, true, false, List, [], ◌∷◌, ◌++◌, length, take, Option, Some, None, if◌then◌else◌, refl, sym, subst, ◌∙◌, arith}
use Rattle.std.specs.Option.{option_and_then, is_some}
use Rattle.std.specs.List.{slice_get}
use Rattle.std.proofs.lemmas.Bool.{eqb-true}
use Rattle.std.proofs.lemmas.List.{length-take}
use Rattle.dy_syntax.specs.Statements.{Handler}
use Rattle.dy_syntax.specs.Files.{Decl, File}
use Rattle.dy_entry.specs.Entries.{Entry, Setup, Start, Fresh, Message, State, Event, Cert, End, Corrupt, Forge, Inject, Skip}
use Rattle.dy_eval.specs.Runs.{Left}
use Rattle.dy_eval.specs.Starts.{opening}
use Rattle.dy_traces.specs.Instances.{is_item_of, items_of, end_of, entry_next, next_entry}
use Rattle.dy_traces.specs.Following.{message_at, MayReceive, MayStart, MayFollow}
use Rattle.dy_traces.specs.Interleavings.{Interleaves}
use Rattle.dy_sound.specs.Instances.{left_after, IsUnfinished, IsGoodSoFar}
use Rattle.dy_sound.specs.Good.{IsGood}
use Rattle.dy_sound.specs.LawsBelow.{LawsBelow}
use Rattle.dy_sound.proofs.Lists.{below_length, in_last, take_whole}
use Rattle.dy_sound.proofs.Searches.{no_index_more, no_index}
use Rattle.dy_sound.proofs.OneMore.{good_so_far_still, good_with_more}
use Rattle.dy_sound.proofs.Opening.{opening_is_good}

from_some : {A B : Type 0} (over : Bool) (f : A → Option B) (found : Option A) (y : B)
    → (if over then None else option_and_then f found) ≡ Some y → (x : A) × (found ≡ Some x)
from_some true f found y is = absurd cc
from_some false f None y is = absurd cc
from_some false f (Some x) y is = (x, refl)

-- What an instance puts next, it puts after its Start.
puts_after_start : (decls : List Decl) (T : List Entry) (instance : ℕ) (e : Entry) → next_entry decls T instance ≡ Some e → instance < length T
puts_after_start decls T instance e is =
    let start = from_some (is_some (end_of T instance)) (entry_next decls T instance) (slice_get T instance) e is in
    below_length T instance start.0 start.1

-- An item that may follow is of an instance that has a Start.
item_after_start : (decls : List Decl) (T : List Entry) (instance : ℕ) (e : Entry) → is_item_of instance e ≡ true → MayFollow decls T e → instance < length T
item_after_start decls T instance (Fresh other label usage) is may = subst (λ (n : ℕ). n < length T) (eqb-true other instance is) (puts_after_start decls T other _ may)
item_after_start decls T instance (Message other value) is may = subst (λ (n : ℕ). n < length T) (eqb-true other instance is) (puts_after_start decls T other _ may)
item_after_start decls T instance (State other principal session version tag fields) is may = subst (λ (n : ℕ). n < length T) (eqb-true other instance is) (puts_after_start decls T other _ may)
item_after_start decls T instance (Event other principal name args) is may = subst (λ (n : ℕ). n < length T) (eqb-true other instance is) (puts_after_start decls T other _ may)
item_after_start decls T instance (Cert other principal usage key) is may = subst (λ (n : ℕ). n < length T) (eqb-true other instance is) (puts_after_start decls T other _ may)
item_after_start decls T instance (Setup input) is may = absurd cc
item_after_start decls T instance (Start step handler principal session args message) is may = absurd cc
item_after_start decls T instance (End other outcome) is may = absurd cc
item_after_start decls T instance (Corrupt step corruption) is may = absurd cc
item_after_start decls T instance (Forge step) is may = absurd cc
item_after_start decls T instance (Inject step value) is may = absurd cc
item_after_start decls T instance (Skip step) is may = absurd cc

false_unless_true : (b : Bool) → (b ≡ true → ⊥) → b ≡ false
false_unless_true true none = absurd (none refl)
false_unless_true false none = refl

module _ (bytes : List ℕ) (file : File) (T : List Entry) (is_one : Interleaves bytes file T) where
  item_is_late : (at : ℕ) (e : Entry) → slice_get T at ≡ Some e → is_item_of (length T) e ≡ true → ⊥
  item_is_late zero e stands is =
      let same : Setup bytes ≡ e = let opens = is_one.opens in cc in
      let no : is_item_of (length T) (Setup bytes) ≡ true = subst (λ (x : Entry). is_item_of (length T) x ≡ true) (sym same) is in cc
  item_is_late (suc at) e stands is =
      let inside = below_length T (suc at) e stands in
      let after = item_after_start file.decls (take (suc at) T) (length T) e is (is_one.follows (suc at) e (omega arith) stands) in
      let short = length-take (suc at) T in
      omega (arith, inside, after, short)

  -- No item of an instance stands before its Start.
  pub no_items_yet : items_of T (length T) ≡ []
  no_items_yet = no_index (is_item_of (length T)) 0 T (λ at e stands. false_unless_true (is_item_of (length T) e) (item_is_late at e stands))

  module _ (below : LawsBelow) (good : IsGood file.decls T) (e : Entry) where
    new_is_good : MayFollow file.decls T e → ((instance : ℕ) → is_item_of instance e ≡ false)
        → (handler : Handler) (left : Left) → IsUnfinished file.decls (T ++ e ∷ []) (length T) handler left
        → IsGoodSoFar file.decls (T ++ e ∷ []) T handler left
    new_is_good may no_item handler left h =
        let same : e ≡ Start h.step h.name h.principal h.session h.args h.message = let here = in_last T e in let stands = h.stands in cc in
        let starts : MayStart file.decls T h.step h.name h.principal h.session h.args h.message = subst (MayFollow file.decls T) same may in
        let one_handler : starts.declared ≡ handler = let own = starts.is_declared in let other = h.is_declared in cc in
        let whole : take (length T) (T ++ e ∷ []) ≡ T = take_whole T (e ∷ []) in
        let none : items_of (T ++ e ∷ []) (length T) ≡ [] = no_index_more (is_item_of (length T)) 0 T e (no_item (length T)) ∙ no_items_yet in
        let begun : left_after T (opening file.decls handler h.principal h.session h.args (option_and_then (message_at T) h.message)) [] ≡ Some left =
        subst (λ (items : List ℕ). left_after T (opening file.decls handler h.principal h.session h.args (option_and_then (message_at T) h.message)) items ≡ Some left) none
        (subst (λ (X : List Entry). left_after X (opening file.decls handler h.principal h.session h.args (option_and_then (message_at X) h.message)) (items_of (T ++ e ∷ []) (length T)) ≡ Some left) whole h.has_left) in
        let left_is : opening file.decls handler h.principal h.session h.args (option_and_then (message_at T) h.message) ≡ left = cc in
        good_so_far_still below file.decls T (e ∷ []) T handler left
        (subst (IsGoodSoFar file.decls T T handler) left_is
        (opening_is_good below file.decls T good T handler h.principal h.session h.args h.message
        (subst (λ (own : Handler). length h.args ≡ length own.args) one_handler starts.arguments)
        (subst (λ (own : Handler). MayReceive T own.recv h.message) one_handler starts.message_fits)))

  pub good_with_start : LawsBelow → IsGood file.decls T → (step : ℕ) (handler principal : List ℕ) (session : ℕ) (args : List (List ℕ)) (message : Option ℕ)
      → MayStart file.decls T step handler principal session args message
      → IsGood file.decls (T ++ Start step handler principal session args message ∷ [])
  good_with_start below good step handler principal session args message may =
      let e = Start step handler principal session args message in
      good_with_more below file.decls T e good (record {
        message = λ instance value is. absurd cc;
        injection = λ own value is. absurd cc;
        cert = λ instance owner usage key is. absurd cc;
        state = λ instance owner own version tag fields is. absurd cc;
        event = λ instance owner name own is. absurd cc;
        own_instance = λ instance own left is inside h. absurd cc;
        new_instance = new_is_good below good e may (λ instance. refl);
      })
