-- What each statement keeps, whatever its kind: a statement that puts an item writes nothing, and the other way round.
use Rattle.std.proofs.Common.{◌≡◌, ℕ, ◌+◌, Bool, true, false, List, map, Option, Some, None, if◌then◌else◌}
use Rattle.dy_term.specs.Terms.{Term}
use Rattle.dy_label.specs.Labels.{Label}
use Rattle.dy_label.specs.declared.usages.Kind as kind
use Rattle.dy_label.specs.declared.usages.Usage.{Usage}
use Rattle.dy_syntax.specs.Names.{Quote}
use Rattle.dy_syntax.specs.Statements as s
use Rattle.dy_syntax.specs.Statements.{Pattern, Act}
use Rattle.dy_entry.specs.Entries.{Entry}
use Rattle.dy_entry.specs.LookUps.{newest}
use Rattle.dy_eval.specs.declared.written.Written.{Written}
use Rattle.dy_eval.specs.declared.items.Item.{Item}
use Rattle.dy_eval.specs.declared.items.Item.TheVariants as items
use Rattle.dy_eval.specs.Doings.{Puts, Writes, Fails}
use Rattle.dy_eval.specs.Names.{Names, bytes_at, bytes_for}
use Rattle.dy_eval.specs.Values.{value, are_small}
use Rattle.dy_eval.specs.Patterns.{fits, written_by, match_if, match_tuple}
use Rattle.dy_eval.specs.Readers.{label_for, usage_for}
use Rattle.dy_eval.specs.Effects.{puts, puts_all, writes, effect_of}
use Rattle.dy_sound.specs.StatementsAreSound.{WritesSoundly, PutsSoundly, StatementsAreSound}

puts_no_words : (item : Term → Item) (term : Option Term) (more : List Written) → puts item term ≡ Writes more → ⊥
puts_no_words item None more is = absurd cc
puts_no_words item (Some term) more is = absurd cc

puts_all_no_words : (item : List Term → Item) (terms : List Term) (more : List Written) → puts_all item terms ≡ Writes more → ⊥
puts_all_no_words item terms more is = one (are_small terms) is where
  one : (b : Bool) → (if b then Puts (item terms) None else Fails) ≡ Writes more → ⊥
  one true same = absurd cc
  one false same = absurd cc

writes_no_item : (word : List ℕ) (term : Option Term) (item : Item) (binds : Option (List ℕ)) → writes word term ≡ Puts item binds → ⊥
writes_no_item word None item binds is = absurd cc
writes_no_item word (Some term) item binds is = absurd cc

either_no_item : (b : Bool) (more : List Written) (item : Item) (binds : Option (List ℕ)) → (if b then Writes more else Fails) ≡ Puts item binds → ⊥
either_no_item true more item binds is = absurd cc
either_no_item false more item binds is = absurd cc

pub matched_no_item : (names : Names) (pats : List Pattern) (fields : Option (List Term)) (item : Item) (binds : Option (List ℕ))
    → match_if names pats fields ≡ Puts item binds → ⊥
matched_no_item names pats None item binds is = absurd cc
matched_no_item names pats (Some fields) item binds is = either_no_item (fits names pats fields) (written_by pats fields) item binds is

opened_no_item : (names : Names) (tag : Quote) (pats : List Pattern) (message : Option Term) (item : Item) (binds : Option (List ℕ))
    → match_tuple names tag pats message ≡ Puts item binds → ⊥
opened_no_item names tag pats None item binds is = absurd cc
opened_no_item names tag pats (Some message) item binds is = matched_no_item names pats _ item binds is

-- A statement that writes keeps what is known.
pub each_writes : StatementsAreSound → (act : Act) → WritesSoundly act
each_writes sound (s.New name usage label) = λ file T X handler done line names choice k more at is knows. absurd cc
each_writes sound (s.Let name value) = sound.of_let name value
each_writes sound (s.Event atom) = λ file T X handler done line names choice k more at is knows. absurd (puts_all_no_words (items.Event atom.event.word) (map (bytes_for names) atom.args) more is)
each_writes sound (s.Send value) = λ file T X handler done line names choice k more at is knows. absurd (puts_no_words _ _ more is)
each_writes sound (s.Store state fields) = λ file T X handler done line names choice k more at is knows. absurd (puts_all_no_words (items.State (newest X names.principal names.session + 1) state.word) (map (value names) fields) more is)
each_writes sound (s.Certify key usage) = λ file T X handler done line names choice k more at is knows. absurd (puts_no_words _ _ more is)
each_writes sound (s.Find usage owner name) = sound.of_find usage owner name
each_writes sound (s.Recall state pats) = sound.of_use state pats
each_writes sound (s.Split value tag pats) = sound.of_split value tag pats
each_writes sound (s.Opened value key usage tag pats ad) = sound.of_open value key usage tag pats ad
each_writes sound (s.Popened value key usage tag pats) = sound.of_popen value key usage tag pats
each_writes sound (s.Verify value key usage tag pats) = sound.of_verify value key usage tag pats
each_writes sound (s.Check value key usage tag args) = sound.of_check value key usage tag args
each_writes sound (s.Same left right) = sound.of_same left right

-- A statement that puts an item keeps what is known.
pub each_puts : StatementsAreSound → (act : Act) → PutsSoundly act
each_puts sound (s.New name usage label) = sound.of_new name usage label
each_puts sound (s.Let name value) = λ file T X handler done line names choice k instance item binds at is knows. absurd (writes_no_item _ _ item binds is)
each_puts sound (s.Event atom) = sound.of_event atom
each_puts sound (s.Send value) = sound.of_send value
each_puts sound (s.Store state fields) = sound.of_store state fields
each_puts sound (s.Certify key usage) = sound.of_certify key usage
each_puts sound (s.Find usage owner name) = λ file T X handler done line names choice k instance item binds at is knows. absurd (writes_no_item _ _ item binds is)
each_puts sound (s.Recall state pats) = λ file T X handler done line names choice k instance item binds at is knows. absurd (matched_no_item names pats _ item binds is)
each_puts sound (s.Split value tag pats) = λ file T X handler done line names choice k instance item binds at is knows. absurd (opened_no_item names tag pats (Some (bytes_at names value.word)) item binds is)
each_puts sound (s.Opened value key usage tag pats ad) = λ file T X handler done line names choice k instance item binds at is knows. absurd (opened_no_item names tag pats _ item binds is)
each_puts sound (s.Popened value key usage tag pats) = λ file T X handler done line names choice k instance item binds at is knows. absurd (opened_no_item names tag pats _ item binds is)
each_puts sound (s.Verify value key usage tag pats) = λ file T X handler done line names choice k instance item binds at is knows. absurd (opened_no_item names tag pats _ item binds is)
each_puts sound (s.Check value key usage tag args) = λ file T X handler done line names choice k instance item binds at is knows. absurd (either_no_item _ _ item binds is)
each_puts sound (s.Same left right) = λ file T X handler done line names choice k instance item binds at is knows. absurd (either_no_item _ _ item binds is)

-- the item is a nonce
pub record IsNonce (item : Item) : Type 0 where
  pub label : Label
  pub usage : Usage
  pub item_is : item ≡ items.Fresh label usage

puts_no_nonce : (make : Term → Item) (term : Option Term) (item : Item) (word : List ℕ) → puts make term ≡ Puts item (Some word) → ⊥
puts_no_nonce make None item word is = absurd cc
puts_no_nonce make (Some term) item word is = absurd cc

puts_all_no_nonce : (make : List Term → Item) (terms : List Term) (item : Item) (word : List ℕ) → puts_all make terms ≡ Puts item (Some word) → ⊥
puts_all_no_nonce make terms item word is = one (are_small terms) is where
  one : (b : Bool) → (if b then Puts (make terms) None else Fails) ≡ Puts item (Some word) → ⊥
  one true same = absurd cc
  one false same = absurd cc

-- Where a nonce is due in place of a word, the item is one.
pub due_is_nonce : (X : List Entry) (names : Names) (kind : kind.Kind) (act : Act) (item : Item) (word : List ℕ)
    → effect_of X names kind act ≡ Puts item (Some word) → IsNonce item
due_is_nonce X names kind (s.New name usage label) item word is = record {
  label = label_for names (newest X names.principal names.session) label;
  usage = usage_for names kind usage;
  item_is = cc;
}
due_is_nonce X names kind (s.Event atom) item word is = absurd (puts_all_no_nonce (items.Event atom.event.word) (map (bytes_for names) atom.args) item word is)
due_is_nonce X names kind (s.Send value) item word is = absurd (puts_no_nonce _ _ item word is)
due_is_nonce X names kind (s.Store state fields) item word is = absurd (puts_all_no_nonce (items.State (newest X names.principal names.session + 1) state.word) (map (value names) fields) item word is)
due_is_nonce X names kind (s.Certify key usage) item word is = absurd (puts_no_nonce _ _ item word is)
due_is_nonce X names kind (s.Let name value) item word is = absurd (writes_no_item _ _ item (Some word) is)
due_is_nonce X names kind (s.Find usage owner name) item word is = absurd (writes_no_item _ _ item (Some word) is)
due_is_nonce X names kind (s.Recall state pats) item word is = absurd (matched_no_item names pats _ item (Some word) is)
due_is_nonce X names kind (s.Split value tag pats) item word is = absurd (opened_no_item names tag pats (Some (bytes_at names value.word)) item (Some word) is)
due_is_nonce X names kind (s.Opened value key usage tag pats ad) item word is = absurd (opened_no_item names tag pats _ item (Some word) is)
due_is_nonce X names kind (s.Popened value key usage tag pats) item word is = absurd (opened_no_item names tag pats _ item (Some word) is)
due_is_nonce X names kind (s.Verify value key usage tag pats) item word is = absurd (opened_no_item names tag pats _ item (Some word) is)
due_is_nonce X names kind (s.Check value key usage tag args) item word is = absurd (either_no_item _ _ item (Some word) is)
due_is_nonce X names kind (s.Same left right) item word is = absurd (either_no_item _ _ item (Some word) is)
