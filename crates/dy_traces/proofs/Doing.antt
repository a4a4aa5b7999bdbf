-- What an instance does: a State that it puts is the version after the newest before its Start, and its last item.
use Rattle.std.proofs.Common.{◌≡◌, ℕ, ◌+◌, Bool, true, false, List, [], ◌∷◌, ◌++◌, map, Option, Some, None, if◌then◌else◌, refl, ap, ◌∙◌, subst}
use Rattle.dy_term.specs.Terms.{Term}
use Rattle.dy_label.specs.declared.usages.Kind as kind
use Rattle.dy_label.specs.declared.usages.Outcome.TheVariants.{Done}
use Rattle.dy_syntax.specs.Names.{Quote}
use Rattle.dy_syntax.specs.Statements as s
use Rattle.dy_syntax.specs.Statements.{Act, Pattern}
use Rattle.dy_entry.specs.Entries.{Entry}
use Rattle.dy_entry.specs.LookUps.{newest}
use Rattle.dy_eval.specs.declared.written.Written.{Written}
use Rattle.dy_eval.specs.declared.items.Item.{Item}
use Rattle.dy_eval.specs.declared.items.Item.TheVariants as items
use Rattle.dy_eval.specs.Doings.{Effect}
use Rattle.dy_eval.specs.Doings as effects
use Rattle.dy_eval.specs.Lines.{Line, GoesOn, Does}
use Rattle.dy_eval.specs.Names.{Names, write, bytes_at, bytes_for}
use Rattle.dy_eval.specs.Values.{value, are_small}
use Rattle.dy_eval.specs.Patterns.{fits, written_by, match_if, match_tuple}
use Rattle.dy_eval.specs.Effects.{puts, puts_all, writes, effect, effect_of}
use Rattle.dy_eval.specs.Runs.{Left, Next, Puts, Ends, next_by, runs, next_of, tell, step, steps, does}
use Rattle.dy_traces.proofs.Stores.{is_store_line, LinesStoreLast}

module _ (X : List Entry) where
  -- a State has this version, and comes of a `store`
  abbrev pub IsFineItem : List ℕ → ℕ → Bool → Item → Type 0
  IsFineItem principal session stores (items.State version tag fields) = (version ≡ newest X principal session + 1) × (stores ≡ true)
  IsFineItem principal session stores item = Unit {0}

  abbrev IsFineEffect : Names → Bool → Effect → Type 0
  IsFineEffect names stores (effects.Puts item binds) = IsFineItem names.principal names.session stores item
  IsFineEffect names stores (effects.Writes written) = Unit {0}
  IsFineEffect names stores effects.Fails = Unit {0}

  module _ (names : Names) (stores : Bool) where
    fine_if : (b : Bool) (written : List Written) → IsFineEffect names stores (if b then effects.Writes written else effects.Fails)
    fine_if true written = tt
    fine_if false written = tt

    fine_matched : (patterns : List Pattern) (fields : Option (List Term)) → IsFineEffect names stores (match_if names patterns fields)
    fine_matched patterns None = tt
    fine_matched patterns (Some fields) = fine_if (fits names patterns fields) (written_by patterns fields)

    fine_opened : (tag : Quote) (patterns : List Pattern) (message : Option Term) → IsFineEffect names stores (match_tuple names tag patterns message)
    fine_opened tag patterns None = tt
    fine_opened tag patterns (Some message) = fine_matched patterns _

    fine_writes : (word : List ℕ) (term : Option Term) → IsFineEffect names stores (writes word term)
    fine_writes word None = tt
    fine_writes word (Some term) = tt

    fine_puts : (item : Term → Item) → ((term : Term) → IsFineItem names.principal names.session stores (item term)) → (term : Option Term) → IsFineEffect names stores (puts item term)
    fine_puts item fine None = tt
    fine_puts item fine (Some term) = fine term

    fine_puts_all : (item : List Term → Item) → ((terms : List Term) → IsFineItem names.principal names.session stores (item terms)) → (terms : List Term) → IsFineEffect names stores (puts_all item terms)
    fine_puts_all item fine terms = one (are_small terms) where
      one : (b : Bool) → IsFineEffect names stores (if b then effects.Puts (item terms) None else effects.Fails)
      one true = fine terms
      one false = tt

  fine_effect_of : (names : Names) (kind : kind.Kind) (act : Act) → IsFineEffect names (is_store_line (Does kind act)) (effect_of X names kind act)
  fine_effect_of names kind (s.New name usage label) = tt
  fine_effect_of names kind (s.Let name expr) = fine_writes names false name.word _
  fine_effect_of names kind (s.Event atom) = fine_puts_all names false (items.Event atom.event.word) (λ terms. tt) (map (bytes_for names) atom.args)
  fine_effect_of names kind (s.Send expr) = fine_puts names false items.Message (λ term. tt) _
  fine_effect_of names kind (s.Store state fields) = fine_puts_all names true (items.State (newest X names.principal names.session + 1) state.word) (λ terms. (refl, refl)) (map (value names) fields)
  fine_effect_of names kind (s.Certify key usage) = fine_puts names false (items.Cert usage.word) (λ term. tt) _
  fine_effect_of names kind (s.Find usage owner name) = fine_writes names false name.word _
  fine_effect_of names kind (s.Recall state pats) = fine_matched names false pats _
  fine_effect_of names kind (s.Split split tag pats) = fine_opened names false tag pats (Some (bytes_at names split.word))
  fine_effect_of names kind (s.Opened sealed key usage tag pats ad) = fine_opened names false tag pats _
  fine_effect_of names kind (s.Popened sealed key usage tag pats) = fine_opened names false tag pats _
  fine_effect_of names kind (s.Verify signed key usage tag pats) = fine_opened names false tag pats _
  fine_effect_of names kind (s.Check code key usage tag args) = fine_if names false _ []
  fine_effect_of names kind (s.Same left right) = fine_if names false _ []

  fine_effect : (names : Names) (line : Line) → IsFineEffect names (is_store_line line) (effect X names line)
  fine_effect names (GoesOn on) = fine_matched names false on.pats _
  fine_effect names (Does kind act) = fine_effect_of names kind act

  -- a State has this version, and nothing is left after it
  abbrev pub IsLastItem : List ℕ → ℕ → Item → List Line → Type 0
  IsLastItem principal session (items.State version tag fields) lines = (version ≡ newest X principal session + 1) × (lines ≡ [])
  IsLastItem principal session item lines = Unit {0}

  abbrev pub IsFineNext : List ℕ → ℕ → Next → Type 0
  IsFineNext principal session (Puts item binds left) =
      IsLastItem principal session item left.lines × (left.names.principal ≡ principal) × (left.names.session ≡ session) × LinesStoreLast left.lines
  IsFineNext principal session (Ends outcome) = Unit {0}

  last_item : (principal : List ℕ) (session : ℕ) (stores : Bool) (lines : List Line) (item : Item)
      → IsFineItem principal session stores item → (stores ≡ true → lines ≡ []) → IsLastItem principal session item lines
  last_item principal session stores lines (items.State version tag fields) fine last = (fine.0, last fine.1)
  last_item principal session stores lines item fine last = tt

  fine_taken : (names : Names) (number : ℕ) (more : List Line) (stores : Bool) → (stores ≡ true → more ≡ []) → LinesStoreLast more
      → (done : Effect) → IsFineEffect names stores done → (goes_on : Names → Next)
      → ((written : List Written) → IsFineNext names.principal names.session (goes_on (write names written)))
      → IsFineNext names.principal names.session (next_by done names number more goes_on)
  fine_taken names number more stores last later (effects.Puts item binds) fine goes_on rest =
      (last_item names.principal names.session stores more item fine last, refl, refl, later)
  fine_taken names number more stores last later (effects.Writes written) fine goes_on rest = rest written
  fine_taken names number more stores last later effects.Fails fine goes_on rest = tt

  fine_runs : (names : Names) (number : ℕ) (lines : List Line) → LinesStoreLast lines → IsFineNext names.principal names.session (runs X names number lines)
  fine_runs names number [] last = tt
  fine_runs names number (line ∷ more) last =
      fine_taken names number more (is_store_line line) last.0 last.1 (effect X names line) (fine_effect names line)
      (λ after. runs X after (number + 1) more) (λ written. fine_runs (write names written) (number + 1) more last.1)

  fine_step : (principal : List ℕ) (session : ℕ) (next : Next) (index : ℕ) → IsFineNext principal session next → IsFineNext principal session (step X next index)
  fine_step principal session (Ends outcome) index fine = tt
  fine_step principal session (Puts item binds left) index fine =
      subst (λ (p : List ℕ). IsFineNext p session (next_of X (tell index binds left))) fine.1
      (subst (λ (n : ℕ). IsFineNext left.names.principal n (next_of X (tell index binds left))) fine.2
      (fine_runs (tell index binds left).names left.number left.lines fine.3))

  pub fine_steps : (principal : List ℕ) (session : ℕ) (next : Next) (indices : List ℕ) → IsFineNext principal session next → IsFineNext principal session (steps X next indices)
  fine_steps principal session next [] fine = fine
  fine_steps principal session next (index ∷ more) fine = fine_steps principal session (step X next index) more (fine_step principal session next index fine)

  pub fine_does : (left : Left) (indices : List ℕ) → LinesStoreLast left.lines → IsFineNext left.names.principal left.names.session (does X left indices)
  fine_does left indices last = fine_steps left.names.principal left.names.session (next_of X left) indices (fine_runs left.names left.number left.lines last)

  pub steps_more : (next : Next) (indices more : List ℕ) → steps X next (indices ++ more) ≡ steps X (steps X next indices) more
  steps_more next [] more = refl
  steps_more next (index ∷ indices) more = steps_more (step X next index) indices more

  steps_ended : (indices : List ℕ) → steps X (Ends Done) indices ≡ Ends Done
  steps_ended [] = refl
  steps_ended (index ∷ more) = steps_ended more

  -- an item was put, and nothing is left
  abbrev pub IsLastPut : Next → Type 0
  IsLastPut (Puts item binds left) = left.lines ≡ []
  IsLastPut (Ends outcome) = ⊥

  step_last : (next : Next) (index : ℕ) → IsLastPut next → step X next index ≡ Ends Done
  step_last (Puts item binds left) index last = ap (λ lines. runs X (tell index binds left).names left.number lines) last
  step_last (Ends outcome) index last = absurd last

  -- after a last item an instance is done
  pub done_after : (left : Left) (before more : List ℕ) (index : ℕ) → IsLastPut (does X left before) → does X left (before ++ index ∷ more) ≡ Ends Done
  done_after left before more index last =
      steps_more (next_of X left) before (index ∷ more) ∙ ap (λ (next : Next). steps X next more) (step_last (does X left before) index last) ∙ steps_ended more
