-- Where a trace breaks what its file promises: of a secret nonce, or of the order of events.
use Rattle.std.specs.Prelude.{◌≡◌, ℕ, ◌<◌, ◌-◌, ◌&&◌, ◌||◌, ◌==◌, nat_lt, Bool, true, false, List, [], take, Some}
use Rattle.std.specs.List.{slice_get}
use Rattle.dy_term.specs.Terms as terms
use Rattle.dy_term.specs.Terms.{Term}
use Rattle.dy_label.specs.Labels.{is_open}
use Rattle.dy_syntax.specs.Declarations as declarations
use Rattle.dy_syntax.specs.Declarations.{Partner}
use Rattle.dy_syntax.specs.Files.{Decl}
use Rattle.dy_syntax.specs.LookUps.{event_named}
use Rattle.dy_entry.specs.Entries as entries
use Rattle.dy_entry.specs.Entries.{Entry}
use Rattle.dy_entry.specs.LookUps.{corruptions}
use Rattle.dy_entry.specs.ValueLabels.{label_of}
use Rattle.dy_recipe.specs.Moves.{Move}
use Rattle.dy_recipe.specs.Values.{recipe_value}
use Rattle.dy_recipe.specs.Trimming.{EachIsNeeded}
use Rattle.dy_traces.specs.Given.{given_by}
use Rattle.dy_sound.specs.Words.{event_words}
use Rattle.dy_sound.specs.Events.{HasPartner}
use Rattle.dy_know.specs.Knowing.{IsHonest, IsKnownFrom, through}

pub data Breach : Type 0 where
  -- an honest nonce that the attacker knows from an entry on, and a recipe that gives it
  Nonce : (nonce from : ℕ) (recipe : List Move) → Breach
  -- an event, by its index, and the number of a partner in its declaration, counted from 1
  Event : (event partner : ℕ) → Breach

-- The attacker knows the honest nonce from this entry on, and the corruptions up to it do not open the nonce's label.
pub record IsNonceBreach (T : List Entry) (nonce from : ℕ) : Type 0 where
  pub honest : IsHonest T nonce
  pub known : IsKnownFrom T nonce from
  pub closed : is_open (corruptions (through T from)) (label_of T (terms.Nonce nonce)) ≡ false

-- The recipe gives the nonce over the entries up to and with this one, and each move but the last is needed by a later.
pub record GivesNonce (T : List Entry) (nonce from : ℕ) (recipe : List Move) : Type 0 where
  pub gives : recipe_value (given_by (through T from)) recipe ≡ Some (terms.Nonce nonce)
  pub needed : EachIsNeeded recipe

-- The partner of an event's declaration that has this number, counted from 1.
abbrev pub IsPartner : declarations.EventDecl → ℕ → Partner → Type 0
IsPartner event number partner = (0 < number) × (slice_get event.after (number - 1) ≡ Some partner)

-- At this index stands an event whose declaration has a partner of this number. The partner's event does not stand
-- before it with these arguments, nor is the exempting label open before it.
pub record IsEventBreach (decls : List Decl) (T : List Entry) (index number : ℕ) : Type 0 where
  pub instance : ℕ
  pub principal : List ℕ
  pub name : List ℕ
  pub args : List Term
  pub stands : slice_get T index ≡ Some (entries.Event instance principal name args)
  pub declaration : declarations.EventDecl
  pub declared : event_named decls name ≡ Some declaration
  pub partner : Partner
  pub is_partner : IsPartner declaration number partner
  pub fails : HasPartner (take index T) (event_words declaration args) partner → ⊥

abbrev pub IsBreach : List Decl → List Entry → Breach → Type 0
IsBreach decls T (Nonce nonce from recipe) = IsNonceBreach T nonce from × GivesNonce T nonce from recipe
IsBreach decls T (Event event partner) = IsEventBreach decls T event partner

-- the breach with an empty recipe in the place of its own: which recipe a breach has is left open
abbrev pub without_recipe : Breach → Breach
without_recipe (Nonce nonce from recipe) = Nonce nonce from []
without_recipe (Event event partner) = Event event partner

-- nonces come before events; nonces by rising index, and events by rising index and then by rising partner
abbrev pub comes_before : Breach → Breach → Bool
comes_before (Nonce nonce from recipe) (Nonce other other_from other_recipe) = nat_lt nonce other
comes_before (Nonce nonce from recipe) (Event event partner) = true
comes_before (Event event partner) (Nonce nonce from recipe) = false
comes_before (Event event partner) (Event other other_partner) =
    nat_lt event other || ((event == other) && nat_lt partner other_partner)
