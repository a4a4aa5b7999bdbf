-- What an Auditor keeps, for the trace that it stands for.
use Rattle.std.specs.Prelude.{◌≡◌, ℕ, suc, ◌+◌, ◌<◌, ◌^◌, Bool, true, false, List, [], ◌++◌, Option, Some, None}
use Rattle.std.specs.Prelude.{Contains, length, take, drop, map, sum_by, if◌then◌else◌}
use Rattle.std.specs.List.{slice_get}
use Rattle.std.specs.Option.{option_map}
use Rattle.dy_term.specs.Terms as terms
use Rattle.dy_label.specs.Labels.{Place, Label, is_open}
use Rattle.dy_label.specs.LabelsMeaning.{places_of}
use Rattle.dy_syntax.specs.Files.{Decl}
use Rattle.dy_syntax.specs.Meaning.{event_of}
use Rattle.dy_entry.specs.Entries.{Entry, Fresh}
use Rattle.dy_entry.specs.LookUps.{corruptions}
use Rattle.dy_entry.specs.Attacker.{Derives}
use Rattle.dy_recipe.specs.declared.moves.Recipe.{Recipe}
use Rattle.dy_recipe.specs.Meaning.{recipe_of}
use Rattle.dy_recipe.specs.Values.{recipe_value}
use Rattle.dy_recipe.specs.Trimming.{EachIsNeeded}
use Rattle.dy_traces.specs.Given.{given_by}
use Rattle.dy_derive.specs.KnowledgeMeaning.{Stands, nonces_of}
use Rattle.dy_know.specs.declared.secrets.Knowing.{Knowing}
use Rattle.dy_know.specs.declared.secrets.Knowing.TheVariants as knowing
use Rattle.dy_know.specs.declared.secrets.Secret.{Secret}
use Rattle.dy_know.specs.declared.auditors.Auditor.{Auditor}
use Rattle.dy_know.specs.declared.notes.Notes.{Notes}
use Rattle.dy_know.specs.Knowing.{IsKnownFrom, through}
use Rattle.dy_know.specs.Breaches.{GivesNonce}
use Rattle.dy_know.specs.MirrorEvents.{events_in, all_happened, ListsLacks}

-- the label of the nonce that a handler makes by the entry, if it does
abbrev pub fresh_label : Entry → Option Label
fresh_label (Fresh instance label usage) = Some label
fresh_label e = None

-- A recipe that is there gives the nonce. It may be missing where no entry came after, and the nonce is one of these.
abbrev pub HasRecipe : List ℕ → List Entry → ℕ → ℕ → Option Recipe → Type 0
HasRecipe missing T nonce from None = (suc from ≡ length T) × Contains missing nonce
HasRecipe missing T nonce from (Some recipe) = GivesNonce T nonce from (recipe_of recipe)

-- What is kept of a nonce with this label is so, where these are the nonces that are known.
abbrev pub IsSo : List ℕ → List ℕ → List Entry → ℕ → Label → Knowing → Type 0
IsSo known missing T nonce label knowing.Unknown = Contains known nonce → ⊥
IsSo known missing T nonce label (knowing.Open from) =
    IsKnownFrom T nonce from × (is_open (corruptions (through T from)) label ≡ true)
IsSo known missing T nonce label (knowing.Breach from recipe) =
    IsKnownFrom T nonce from × (is_open (corruptions (through T from)) label ≡ false)
    × HasRecipe missing T nonce from recipe

-- A secret is kept of an entry exactly where it makes an honest nonce.
abbrev pub IsKept : List ℕ → List ℕ → List Entry → ℕ → Option Label → Option Secret → Type 0
IsKept known missing T nonce None None = Unit {0}
IsKept known missing T nonce (Some label) (Some secret) =
    (secret.label ≡ label) × IsSo known missing T nonce label secret.knowing
IsKept known missing T nonce None (Some secret) = ⊥
IsKept known missing T nonce (Some label) None = ⊥

-- Of each entry it is kept what the attacker knows, where these are the nonces that are known, and of some of them the
-- recipe may be missing.
pub record KeepsSecrets (known missing : List ℕ) (T : List Entry) (secrets : List (Option Secret)) : Type 0 where
  pub one_each : length secrets ≡ length T
  pub kept : (nonce : ℕ) (e : Entry) (secret : Option Secret) → slice_get T nonce ≡ Some e
      → slice_get secrets nonce ≡ Some secret → IsKept known missing T nonce (fresh_label e) secret

-- one, if this is a breach
abbrev pub is_breach : Knowing → ℕ
is_breach knowing.Unknown = 0
is_breach (knowing.Open from) = 0
is_breach (knowing.Breach from recipe) = 1

-- one, if the secret is a breach
abbrev pub breach_count : Option Secret → ℕ
breach_count None = 0
breach_count (Some secret) = is_breach secret.knowing

-- What is kept of a trace beside the knowledge.
pub record Keeps (notes : Notes) (known missing : List ℕ) (decls : List Decl) (T : List Entry) : Type 0 where
  pub secrets : KeepsSecrets known missing T notes.secrets.items
  pub corruptions_are : places_of notes.corruptions.items ≡ corruptions T
  pub happened_are : notes.happened.items ≡ all_happened T
  pub lacks : ListsLacks decls T (length T) 0 notes.lacks.items
  pub few : length T < 2 ^ 32
  pub breaches_are : notes.breaches ≡ sum_by breach_count notes.secrets.items

-- what is kept of an entry's nonce when it is made
abbrev pub new_secret : Option Label → Option Secret
new_secret label = option_map (λ l. record { label = l; knowing = knowing.Unknown }) label

-- what is known of a nonce that becomes known now, where it is said whether its label is open
abbrev pub learn_knowing : Bool → ℕ → Knowing → Knowing
learn_knowing is_open_now from knowing.Unknown = if is_open_now then knowing.Open from else knowing.Breach from None
learn_knowing is_open_now from (knowing.Open earlier) = knowing.Open earlier
learn_knowing is_open_now from (knowing.Breach earlier recipe) = knowing.Breach earlier recipe

-- what is kept of a nonce that becomes known now, under these corruptions
abbrev pub learn_secret : List Place → ℕ → Option Secret → Option Secret
learn_secret corruptions from secret =
    option_map (λ s. record { label = s.label; knowing = learn_knowing (is_open corruptions s.label) from s.knowing }) secret

-- The list is the other one, with something made of the item of this index.
pub record ChangesAt {A : Type 0} (change : A → A) (index : ℕ) (old new : List A) : Type 0 where
  pub at : slice_get new index ≡ option_map change (slice_get old index)
  pub others : (i : ℕ) → (i ≡ index → ⊥) → slice_get new i ≡ slice_get old i
  pub one_each : length new ≡ length old

-- All that these entries but the last derive is known.
abbrev pub KnowsBefore : List ℕ → List Entry → ℕ → Type 0
KnowsBefore known T last = (nonce : ℕ) → Derives (take last T) (terms.Nonce nonce) → Contains known nonce

-- The recipe of a breach is made over this trace, if it was missing.
abbrev pub ExplainsKnowing : List Entry → ℕ → Knowing → Knowing → Type 0
ExplainsKnowing T nonce knowing.Unknown k = k ≡ knowing.Unknown
ExplainsKnowing T nonce (knowing.Open from) k = k ≡ knowing.Open from
ExplainsKnowing T nonce (knowing.Breach from (Some recipe)) k = k ≡ knowing.Breach from (Some recipe)
ExplainsKnowing T nonce (knowing.Breach from None) k =
    (recipe : Recipe) × (k ≡ knowing.Breach from (Some recipe))
    × (recipe_value (given_by T) (recipe_of recipe) ≡ Some (terms.Nonce nonce)) × EachIsNeeded (recipe_of recipe)

abbrev pub ExplainsSecret : List Entry → ℕ → Option Secret → Option Secret → Type 0
ExplainsSecret T nonce None secret = secret ≡ None
ExplainsSecret T nonce (Some old) None = ⊥
ExplainsSecret T nonce (Some old) (Some new) = (new.label ≡ old.label) × ExplainsKnowing T nonce old.knowing new.knowing

-- What is kept of this nonce has its recipe, and the rest is the same.
pub record ExplainsAt (T : List Entry) (nonce : ℕ) (old new : List (Option Secret)) : Type 0 where
  pub at : (secret : Option Secret) → slice_get old nonce ≡ Some secret
      → (secret' : Option Secret) × (slice_get new nonce ≡ Some secret') × ExplainsSecret T nonce secret secret'
  pub others : (i : ℕ) → (i ≡ nonce → ⊥) → slice_get new i ≡ slice_get old i
  pub one_each : length new ≡ length old

-- All that the trace derives is known.
abbrev pub AllKnown : List ℕ → List Entry → Type 0
AllKnown known T = (nonce : ℕ) → Derives T (terms.Nonce nonce) → Contains known nonce

-- The attacker derives each of the nonces.
abbrev pub AreDerived : List Entry → List ℕ → Type 0
AreDerived T nonces = (nonce : ℕ) → Contains nonces nonce → Derives T (terms.Nonce nonce)

-- The auditor is that of this trace, of a file with these declarations.
pub record Audits (auditor : Auditor) (decls : List Decl) (T : List Entry) : Type 0 where
  pub knowledge : Stands auditor.knowledge T
  pub events_are : map event_of auditor.events.items ≡ events_in decls
  pub notes : Keeps auditor.notes (nonces_of auditor.knowledge)
      (drop auditor.pending (nonces_of auditor.knowledge)) decls T

-- the number of breaches
abbrev pub breaches_in : Auditor → ℕ
breaches_in auditor = sum_by breach_count auditor.notes.secrets.items + length auditor.notes.lacks.items

-- The auditor is that of this trace, and no recipe is missing.
pub record IsExplained (auditor : Auditor) (decls : List Decl) (T : List Entry) : Type 0 where
  pub knowledge : Stands auditor.knowledge T
  pub events_are : map event_of auditor.events.items ≡ events_in decls
  pub notes : Keeps auditor.notes (nonces_of auditor.knowledge) [] decls T
  pub pending_is : auditor.pending ≡ length (nonces_of auditor.knowledge)
  pub derived : AreDerived T (nonces_of auditor.knowledge)
  pub all : AllKnown (nonces_of auditor.knowledge) T

-- The auditor has added the last entry of this trace, and has yet to learn which nonces are known by it.
pub record HasAdded (auditor : Auditor) (decls : List Decl) (T : List Entry) (last : ℕ) : Type 0 where
  pub knowledge : Stands auditor.knowledge T
  pub events_are : map event_of auditor.events.items ≡ events_in decls
  pub known : List ℕ
  pub notes : Keeps auditor.notes known [] decls T
  pub pending_is : auditor.pending ≡ length known
  pub more : List ℕ
  pub nonces_are : nonces_of auditor.knowledge ≡ known ++ more
  pub before : AllKnown known (take last T)
  pub is_last : suc last ≡ length T
