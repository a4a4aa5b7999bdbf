-- In a typed file whose statements are sound, what instances put is good; so each of its interleavings is secure.
use Rattle.std.proofs.Common.{◌≡◌, ℕ, zero, suc, ◌<◌, Bool, true, false, List, [], ◌∷◌, ◌++◌, length, take, drop, Contains, Option, Some, if◌then◌else◌, refl, ap, subst, arith}
use Rattle.std.specs.Option.{option_and_then}
use Rattle.std.specs.List.{slice_get}
use Rattle.std.specs.Str.{bytes_eq}
use Rattle.dy_syntax.specs.Statements as statements
use Rattle.dy_syntax.specs.Files.{Decl, Usage, Case, Event, State, Handler, File}
use Rattle.dy_syntax.specs.LookUps.{handler_named}
use Rattle.dy_syntax.specs.Rules.{IsWellFormed}
use Rattle.dy_cases.specs.DeclaredParts.{handler_in, handlers_in}
use Rattle.dy_typing.specs.Typing.{AreTyped}
use Rattle.dy_entry.specs.Entries.{Entry, Start}
use Rattle.dy_eval.specs.declared.items.Item.{Item}
use Rattle.dy_eval.specs.declared.items.Item.TheVariants as items
use Rattle.dy_eval.specs.Runs.{Left, Next, Puts, next_of}
use Rattle.dy_eval.specs.Starts.{opening}
use Rattle.dy_traces.specs.Instances.{items_of, entry_for}
use Rattle.dy_traces.specs.Following.{message_at, MayReceive, MayStart}
use Rattle.dy_traces.specs.Interleavings.{Interleaves}
use Rattle.dy_sound.specs.Instances.{IsUnfinished}
use Rattle.dy_sound.specs.Good.{IsGood}
use Rattle.dy_sound.specs.Secure.{IsSecure}
use Rattle.dy_sound.specs.LawsBelow.{LawsBelow}
use Rattle.dy_sound.specs.StatementsAreSound.{IsGoodItem, StatementsAreSound}
use Rattle.dy_sound.proofs.Lists.{Contains-first, Contains-later}
use Rattle.dy_sound.proofs.Elements.{Contains-filter_map}
use Rattle.dy_sound.proofs.LongerValid.{may_be_known_still}
use Rattle.dy_sound.proofs.OneMore.{good_cert_still, good_state_still, good_event_still}
use Rattle.dy_sound.proofs.ItemSteps.{PutsWell}
use Rattle.dy_sound.proofs.Interleaved.{interleaving_is_secure}
use Rattle.dy_sound.proofs.Turns.{IsGoodNext, runs_good}
use Rattle.dy_sound.proofs.Unfinished.{IsLeftOf, left_standing, opening_stands}

first_or_later : (first handler : statements.Handler) (decls : List Decl) (b : Bool) (rest : Option statements.Handler)
    → (if b then Some first else rest) ≡ Some handler → (rest ≡ Some handler → Contains decls (Handler handler))
    → Contains (Handler first ∷ decls) (Handler handler)
first_or_later first handler decls true rest is later =
    let same : first ≡ handler = cc in
    subst (λ (h : statements.Handler). Contains (Handler first ∷ decls) (Handler h)) same (Contains-first (Handler first) decls)
first_or_later first handler decls false rest is later = Contains-later (Handler first) decls (Handler handler) (later is)

-- A handler that is found by its name is declared.
named_is_declared : (decls : List Decl) (name : List ℕ) (handler : statements.Handler) → handler_named decls name ≡ Some handler → Contains decls (Handler handler)
named_is_declared [] name handler is = absurd cc
named_is_declared (Handler first ∷ decls) name handler is =
    first_or_later first handler decls (bytes_eq first.name.word name) (handler_named decls name) is (named_is_declared decls name handler)
named_is_declared (Usage usage ∷ decls) name handler is = Contains-later (Usage usage) decls (Handler handler) (named_is_declared decls name handler is)
named_is_declared (Case case ∷ decls) name handler is = Contains-later (Case case) decls (Handler handler) (named_is_declared decls name handler is)
named_is_declared (Event event ∷ decls) name handler is = Contains-later (Event event) decls (Handler handler) (named_is_declared decls name handler is)
named_is_declared (State state ∷ decls) name handler is = Contains-later (State state) decls (Handler handler) (named_is_declared decls name handler is)

-- a list around an index
parts_at : {A : Type 0} (n : ℕ) (xs : List A) → xs ≡ take n xs ++ drop n xs
parts_at zero xs = refl
parts_at (suc n) [] = refl
parts_at (suc n) (x ∷ xs) = ap (λ (zs : List _). x ∷ zs) (parts_at n xs)

module _ (below : LawsBelow) (sound : StatementsAreSound) (bytes : List ℕ) (file : File) (well_formed : IsWellFormed file)
    (typed : AreTyped file.decls (handlers_in file.decls)) where
  module _ (T : List Entry) (instance : ℕ) (handler : statements.Handler) (left : Left) (is_one : Interleaves bytes file T) (good : IsGood file.decls T)
      (h : IsUnfinished file.decls T instance handler left) where
    abbrev before : List Entry
    before = take instance T

    is_declared_here : Contains file.decls (Handler handler)
    is_declared_here = named_is_declared file.decls h.name handler h.is_declared

    -- the Setup is no Start
    after_setup : (index : ℕ) → slice_get T index ≡ Some (Start h.step h.name h.principal h.session h.args h.message) → 0 < index
    after_setup zero at = let opens = is_one.opens in absurd cc
    after_setup (suc index) at = omega arith

    may_start : MayStart file.decls before h.step h.name h.principal h.session h.args h.message
    may_start = is_one.follows instance _ (after_setup instance h.stands) h.stands

    one_handler : may_start.declared ≡ handler
    one_handler = let own = may_start.is_declared in let other = h.is_declared in cc

    is_left : IsLeftOf file handler h.principal h.session left
    is_left =
        left_standing file well_formed handler is_declared_here before h.principal h.session
        (opening file.decls handler h.principal h.session h.args (option_and_then (message_at before) h.message)) left (items_of T instance)
        (opening_stands file well_formed handler is_declared_here before h.principal h.session h.args h.message
        (subst (λ (own : statements.Handler). length h.args ≡ length own.args) one_handler may_start.arguments)
        (subst (λ (own : statements.Handler). MayReceive before own.recv h.message) one_handler may_start.message_fits))
        h.has_left

    abbrev IsGoodThen : List ℕ → ℕ → Next → Type 0
    IsGoodThen principal session next =
        IsGoodNext below sound file well_formed handler is_declared_here (typed handler (Contains-filter_map handler_in file.decls (Handler handler) handler is_declared_here refl))
        T before (drop instance T) (parts_at instance T) good instance principal session next

    next_is_good : (next : Next) → next_of before left ≡ next → IsGoodThen h.principal h.session next
    next_is_good next is =
        subst (λ (p : List ℕ). IsGoodThen p h.session next) is_left.principal_is
        (subst (λ (s : ℕ). IsGoodThen left.names.principal s next) is_left.session_is
        (subst (IsGoodThen left.names.principal left.names.session) is
        (runs_good below sound file well_formed handler is_declared_here (typed handler (Contains-filter_map handler_in file.decls (Handler handler) handler is_declared_here refl))
        T before (drop instance T) (parts_at instance T) good instance left.lines left.number left.names is_left.stands (good.instances instance handler left h))))

  -- an item that is good before its entry is so with it
  item_still : (T more : List Entry) (principal : List ℕ) (session : ℕ) (item : Item) → IsGoodItem file.decls T T principal session item
      → IsGoodItem file.decls (T ++ more) T principal session item
  item_still T more principal session (items.Fresh label usage) good = good
  item_still T more principal session (items.Message value) good = may_be_known_still below file.decls T more value good
  item_still T more principal session (items.State version tag fields) good = good_state_still below file.decls T more principal session version tag fields good
  item_still T more principal session (items.Event name args) good = good_event_still below file.decls T more T name args good
  item_still T more principal session (items.Cert usage key) good = good_cert_still below file.decls T more principal usage key good

  -- What the instances of a typed file put is good.
  pub typed_puts_well : PutsWell bytes file
  typed_puts_well = record {
    item_is_good = λ T instance handler left item binds after is_one good h puts.
        item_still T (entry_for instance h.principal h.session item ∷ []) h.principal h.session item
        (next_is_good T instance handler left is_one good h (Puts item binds after) puts).0;
    stays_good = λ T instance handler left item binds after is_one good h puts.
        (next_is_good T instance handler left is_one good h (Puts item binds after) puts).1;
  }

-- Each interleaving of a typed file is secure.
pub typed_is_secure : LawsBelow → StatementsAreSound → (bytes : List ℕ) (file : File) (T : List Entry)
    → AreTyped file.decls (handlers_in file.decls) → Interleaves bytes file T → IsSecure file.decls T
typed_is_secure below sound bytes file T typed is_one =
    interleaving_is_secure below bytes file (typed_puts_well below sound bytes file is_one.well_formed typed) T is_one
