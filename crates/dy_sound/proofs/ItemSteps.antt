-- A good trace stays good with an item that an instance puts, where the item is good and the instance stays so.
use Rattle.std.proofs.Common.{◌≡◌, ℕ, suc, ◌+◌, Bool, true, false, List, [], ◌∷◌, ◌++◌, length, take, Option, Some, if◌then◌else◌, refl, sym, ap, subst, ◌∙◌, arith}
use Rattle.std.specs.Option.{option_and_then}
use Rattle.std.proofs.lemmas.Bool.{eqb-true, eq-eqb}
use Rattle.std.proofs.lemmas.List.Sums.{fold-append}
use Rattle.dy_term.specs.Terms.{Term}
use Rattle.dy_syntax.specs.Statements.{Handler}
use Rattle.dy_syntax.specs.Files.{Decl, File}
use Rattle.dy_entry.specs.Entries.{Entry, Start, Message, State, Event, Cert, Inject}
use Rattle.dy_eval.specs.declared.items.Item.{Item}
use Rattle.dy_eval.specs.declared.items.Item.TheVariants as items
use Rattle.dy_eval.specs.Runs.{Left, Puts, next_of, tell}
use Rattle.dy_eval.specs.Starts.{opening}
use Rattle.dy_traces.specs.Instances.{is_item_of, items_of, indices_from, entry_for}
use Rattle.dy_traces.specs.Following.{message_at}
use Rattle.dy_traces.specs.Interleavings.{Interleaves}
use Rattle.dy_sound.specs.Valid.{MayBeKnown}
use Rattle.dy_sound.specs.Instances.{left_told, with_item_at, left_after, IsUnfinished, IsGoodSoFar}
use Rattle.dy_sound.specs.Good.{IsGoodCert, IsGoodState, IsGoodEvent, IsGood}
use Rattle.dy_sound.specs.LawsBelow.{LawsBelow}
use Rattle.dy_sound.specs.StatementsAreSound.{IsGoodItem}
use Rattle.dy_sound.proofs.Lists.{below_length, in_longer, in_last, take_before}
use Rattle.dy_sound.proofs.OneMore.{good_with_more}

-- the trace with the entry of an item more
abbrev pub with_item : {decls : List Decl} (T : List Entry) (instance : ℕ) {handler : Handler} {left : Left} → IsUnfinished decls T instance handler left → Item → List Entry
with_item T instance h item = T ++ entry_for instance h.principal h.session item ∷ []

-- What is to be shown of the statements of a file's handlers. In a good interleaving, what an unfinished instance
-- puts next is good, and so is the instance once its entry's index is told.
pub record PutsWell (bytes : List ℕ) (file : File) : Type 0 where
  pub item_is_good : (T : List Entry) (instance : ℕ) (handler : Handler) (left : Left) (item : Item) (binds : Option (List ℕ)) (after : Left)
      → Interleaves bytes file T → IsGood file.decls T → (h : IsUnfinished file.decls T instance handler left)
      → next_of (take instance T) left ≡ Puts item binds after
      → IsGoodItem file.decls (with_item T instance h item) T h.principal h.session item
  pub stays_good : (T : List Entry) (instance : ℕ) (handler : Handler) (left : Left) (item : Item) (binds : Option (List ℕ)) (after : Left)
      → Interleaves bytes file T → IsGood file.decls T → (h : IsUnfinished file.decls T instance handler left)
      → next_of (take instance T) left ≡ Puts item binds after
      → IsGoodSoFar file.decls (with_item T instance h item) (take instance T) handler (tell (length T) binds after)

-- One entry more that passes a test adds its index.
one_index_more : (test : Entry → Bool) (n : ℕ) (T : List Entry) (e : Entry) → test e ≡ true
    → indices_from n test (T ++ e ∷ []) ≡ indices_from n test T ++ (n + length T) ∷ []
one_index_more test n [] e passes =
    let same : n ≡ n + 0 = omega arith in
    ap (λ (b : Bool). if b then n ∷ [] else []) passes ∙ ap (λ (m : ℕ). m ∷ []) same
one_index_more test n (x ∷ T) e passes =
    let same : suc n + length T ≡ n + suc (length T) = omega arith in
    added_if (test x) n (indices_from (suc n) test (T ++ e ∷ [])) (indices_from (suc n) test T) (n + suc (length T))
    (one_index_more test (suc n) T e passes ∙ ap (λ (m : ℕ). indices_from (suc n) test T ++ m ∷ []) same) where
      added_if : (b : Bool) (n : ℕ) (whole rest : List ℕ) (last : ℕ) → whole ≡ rest ++ last ∷ []
          → (if b then n ∷ whole else whole) ≡ (if b then n ∷ rest else rest) ++ last ∷ []
      added_if true n whole rest last same = ap (λ (later : List ℕ). n ∷ later) same
      added_if false n whole rest last same = same

own_item : (instance : ℕ) (principal : List ℕ) (session : ℕ) (item : Item) → is_item_of instance (entry_for instance principal session item) ≡ true
own_item instance principal session (items.Fresh label usage) = eq-eqb instance instance refl
own_item instance principal session (items.Message value) = eq-eqb instance instance refl
own_item instance principal session (items.State version tag fields) = eq-eqb instance instance refl
own_item instance principal session (items.Event name args) = eq-eqb instance instance refl
own_item instance principal session (items.Cert usage key) = eq-eqb instance instance refl

one_instance : (instance other : ℕ) (principal : List ℕ) (session : ℕ) (item : Item) → is_item_of other (entry_for instance principal session item) ≡ true → instance ≡ other
one_instance instance other principal session (items.Fresh label usage) is = eqb-true instance other is
one_instance instance other principal session (items.Message value) is = eqb-true instance other is
one_instance instance other principal session (items.State version tag fields) is = eqb-true instance other is
one_instance instance other principal session (items.Event name args) is = eqb-true instance other is
one_instance instance other principal session (items.Cert usage key) is = eqb-true instance other is

abbrev starts_instance : Entry → Bool
starts_instance (Start step handler principal session args message) = true
starts_instance e = false

no_start : (instance : ℕ) (principal : List ℕ) (session : ℕ) (item : Item) → starts_instance (entry_for instance principal session item) ≡ false
no_start instance principal session (items.Fresh label usage) = refl
no_start instance principal session (items.Message value) = refl
no_start instance principal session (items.State version tag fields) = refl
no_start instance principal session (items.Event name args) = refl
no_start instance principal session (items.Cert usage key) = refl

module _ (decls : List Decl) (T before : List Entry) (instance : ℕ) (principal : List ℕ) (session : ℕ) where
  message_is_good : (item : Item) → IsGoodItem decls T before principal session item → (own : ℕ) (value : Term) → entry_for instance principal session item ≡ Message own value → MayBeKnown decls T value
  message_is_good (items.Message sent) good own value is = let same : sent ≡ value = cc in subst (MayBeKnown decls T) same good
  message_is_good (items.Fresh label usage) good own value is = absurd cc
  message_is_good (items.State version tag fields) good own value is = absurd cc
  message_is_good (items.Event name args) good own value is = absurd cc
  message_is_good (items.Cert usage key) good own value is = absurd cc

  no_inject : (item : Item) (step : ℕ) (value : Term) → entry_for instance principal session item ≡ Inject step value → ⊥
  no_inject (items.Message sent) step value is = cc
  no_inject (items.Fresh label usage) step value is = cc
  no_inject (items.State version tag fields) step value is = cc
  no_inject (items.Event name args) step value is = cc
  no_inject (items.Cert usage key) step value is = cc

  cert_is_good : (item : Item) → IsGoodItem decls T before principal session item → (own : ℕ) (owner usage : List ℕ) (key : Term)
      → entry_for instance principal session item ≡ Cert own owner usage key → IsGoodCert decls T owner usage key
  cert_is_good (items.Cert certified own_key) good own owner usage key is =
      let owners : principal ≡ owner = cc in
      let usages : certified ≡ usage = cc in
      let keys : own_key ≡ key = cc in
      subst (λ (k : Term). IsGoodCert decls T owner usage k) keys
      (subst (λ (u : List ℕ). IsGoodCert decls T owner u own_key) usages
      (subst (λ (p : List ℕ). IsGoodCert decls T p certified own_key) owners good))
  cert_is_good (items.Fresh label usage) good own owner other key is = absurd cc
  cert_is_good (items.Message sent) good own owner usage key is = absurd cc
  cert_is_good (items.State version tag fields) good own owner usage key is = absurd cc
  cert_is_good (items.Event name args) good own owner usage key is = absurd cc

  state_is_good : (item : Item) → IsGoodItem decls T before principal session item → (own : ℕ) (owner : List ℕ) (own_session version : ℕ) (tag : List ℕ) (fields : List Term)
      → entry_for instance principal session item ≡ State own owner own_session version tag fields → IsGoodState decls T owner own_session version tag fields
  state_is_good (items.State stored own_tag own_fields) good own owner own_session version tag fields is =
      let owners : principal ≡ owner = cc in
      let sessions : session ≡ own_session = cc in
      let versions : stored ≡ version = cc in
      let tags : own_tag ≡ tag = cc in
      let same_fields : own_fields ≡ fields = cc in
      subst (λ (f : List Term). IsGoodState decls T owner own_session version tag f) same_fields
      (subst (λ (t : List ℕ). IsGoodState decls T owner own_session version t own_fields) tags
      (subst (λ (v : ℕ). IsGoodState decls T owner own_session v own_tag own_fields) versions
      (subst (λ (s : ℕ). IsGoodState decls T owner s stored own_tag own_fields) sessions
      (subst (λ (p : List ℕ). IsGoodState decls T p session stored own_tag own_fields) owners good))))
  state_is_good (items.Fresh label usage) good own owner own_session version tag fields is = absurd cc
  state_is_good (items.Message sent) good own owner own_session version tag fields is = absurd cc
  state_is_good (items.Event name args) good own owner own_session version tag fields is = absurd cc
  state_is_good (items.Cert usage key) good own owner own_session version tag fields is = absurd cc

  event_is_good : (item : Item) → IsGoodItem decls T before principal session item → (own : ℕ) (owner name : List ℕ) (args : List Term)
      → entry_for instance principal session item ≡ Event own owner name args → IsGoodEvent decls T before name args
  event_is_good (items.Event event own_args) good own owner name args is =
      let events : event ≡ name = cc in
      let same_args : own_args ≡ args = cc in
      subst (λ (a : List Term). IsGoodEvent decls T before name a) same_args
      (subst (λ (n : List ℕ). IsGoodEvent decls T before n own_args) events good)
  event_is_good (items.Fresh label usage) good own owner name args is = absurd cc
  event_is_good (items.Message sent) good own owner name args is = absurd cc
  event_is_good (items.State version tag fields) good own owner name args is = absurd cc
  event_is_good (items.Cert usage key) good own owner name args is = absurd cc

module _ (below : LawsBelow) (bytes : List ℕ) (file : File) (well : PutsWell bytes file) (T : List Entry) (is_one : Interleaves bytes file T) (good : IsGood file.decls T)
    (instance : ℕ) (handler : Handler) (left : Left) (h : IsUnfinished file.decls T instance handler left) (item : Item) (binds : Option (List ℕ)) (after : Left)
    (puts : next_of (take instance T) left ≡ Puts item binds after) where
  abbrev entry : Entry
  entry = entry_for instance h.principal h.session item

  -- The instance is unfinished once the item is put, and has what is left after it.
  left_with_item : (own : Handler) (rest : Left) → IsUnfinished file.decls (T ++ entry ∷ []) instance own rest
      → (handler ≡ own) × (tell (length T) binds after ≡ rest)
  left_with_item own rest u =
      let inside = below_length T instance _ h.stands in
      let start_is = in_longer T (entry ∷ []) instance _ h.stands in
      let starts : Start h.step h.name h.principal h.session h.args h.message ≡ Start u.step u.name u.principal u.session u.args u.message = let stands = u.stands in cc in
      let one_handler : handler ≡ own = let first = h.is_declared in let second = u.is_declared in cc in
      let same_items = one_index_more (is_item_of instance) 0 T entry (own_item instance h.principal h.session item) in
      let same_index : 0 + length T ≡ length T = omega arith in
      let shorter = take_before T (entry ∷ []) instance (omega (arith, inside)) in
      let begins_alike : opening file.decls handler h.principal h.session h.args (option_and_then (message_at (take instance T)) h.message)
      ≡ opening file.decls own u.principal u.session u.args (option_and_then (message_at (take instance T)) u.message) = cc in
      let X = take instance T in
      let start = opening file.decls handler h.principal h.session h.args (option_and_then (message_at X) h.message) in
      let here : left_after X start (items_of T instance ++ length T ∷ []) ≡ Some (tell (length T) binds after) =
      fold-append (with_item_at X) (Some start) (items_of T instance) (length T ∷ [])
      ∙ ap (λ (at : Option Left). with_item_at X at (length T)) h.has_left
      ∙ ap (left_told (length T)) puts in
      let there : left_after X start (items_of T instance ++ length T ∷ []) ≡ Some rest =
      ap (λ (first : Left). left_after X first (items_of T instance ++ length T ∷ [])) begins_alike
      ∙ ap (λ (index : ℕ). left_after X (opening file.decls own u.principal u.session u.args (option_and_then (message_at X) u.message)) (items_of T instance ++ index ∷ [])) (sym same_index)
      ∙ ap (λ (all : List ℕ). left_after X (opening file.decls own u.principal u.session u.args (option_and_then (message_at X) u.message)) all) (sym same_items)
      ∙ ap (λ (Y : List Entry). left_after Y (opening file.decls own u.principal u.session u.args (option_and_then (message_at Y) u.message)) (items_of (T ++ entry ∷ []) instance)) (sym shorter)
      ∙ u.has_left in
      (one_handler, (let joined = sym here ∙ there in cc))

  own_stays_good : (other : ℕ) (own : Handler) (rest : Left) → is_item_of other entry ≡ true
      → IsUnfinished file.decls (T ++ entry ∷ []) other own rest → IsGoodSoFar file.decls (T ++ entry ∷ []) (take other T) own rest
  own_stays_good other own rest is u =
      let same = one_instance instance other h.principal h.session item is in
      let u_here : IsUnfinished file.decls (T ++ entry ∷ []) instance own rest = subst (λ (i : ℕ). IsUnfinished file.decls (T ++ entry ∷ []) i own rest) (sym same) u in
      let lefts = left_with_item own rest u_here in
      subst (λ (i : ℕ). IsGoodSoFar file.decls (T ++ entry ∷ []) (take i T) own rest) same
      (subst (λ (l : Left). IsGoodSoFar file.decls (T ++ entry ∷ []) (take instance T) own l) lefts.1
      (subst (λ (o : Handler). IsGoodSoFar file.decls (T ++ entry ∷ []) (take instance T) o (tell (length T) binds after)) lefts.0
      (well.stays_good T instance handler left item binds after is_one good h puts)))

  none_starts : (own : Handler) (rest : Left) → IsUnfinished file.decls (T ++ entry ∷ []) (length T) own rest → ⊥
  none_starts own rest u =
      let same : entry ≡ Start u.step u.name u.principal u.session u.args u.message = let here = in_last T entry in let stands = u.stands in cc in
      let no = no_start instance h.principal h.session item in
      let yes : starts_instance entry ≡ true = ap starts_instance same in cc

  pub good_with_item : IsGood file.decls (T ++ entry ∷ [])
  good_with_item =
      let own = well.item_is_good T instance handler left item binds after is_one good h puts in
      let U = T ++ entry ∷ [] in
      good_with_more below file.decls T entry good (record {
        message = message_is_good file.decls U T instance h.principal h.session item own;
        injection = λ step value is. absurd (no_inject file.decls U T instance h.principal h.session item step value is);
        cert = cert_is_good file.decls U T instance h.principal h.session item own;
        state = state_is_good file.decls U T instance h.principal h.session item own;
        event = event_is_good file.decls U T instance h.principal h.session item own;
        own_instance = λ other own_handler rest is inside u. own_stays_good other own_handler rest is u;
        new_instance = λ own_handler rest u. absurd (none_starts own_handler rest u);
      })
