-- Which words a statement writes, and where it writes principals' names.
use Rattle.std.proofs.Common.{◌≡◌, ℕ, ◌+◌, Bool, true, false, List, [], ◌∷◌, ◌++◌, map, Contains, Option, Some, None, ◌⊎◌, inl, inr, refl, subst, if◌then◌else◌}
use Rattle.std.specs.Option.{is_some}
use Rattle.std.specs.List.{flat_map}
use Rattle.std.proofs.lemmas.List.{map-append}
use Rattle.std.proofs.lemmas.Bool.{and_parts}
use Rattle.std.proofs.lemmas.List.Elements.{Contains-append_left, Contains-append_right, Contains-append_cases}
use Rattle.dy_term.specs.Terms as trees
use Rattle.dy_term.specs.Terms.{Term}
use Rattle.dy_label.specs.declared.usages.Kind as kind
use Rattle.dy_syntax.specs.Names.{Id, Quote}
use Rattle.dy_syntax.specs.Statements as s
use Rattle.dy_syntax.specs.Statements.{Pattern, Bind, Named, Equal, OnPart, Act}
use Rattle.dy_syntax.specs.Scopes.{words_of, pattern_binds, act_binds}
use Rattle.dy_entry.specs.Entries.{Entry}
use Rattle.dy_entry.specs.LookUps.{newest}
use Rattle.dy_eval.specs.declared.written.Written.{Written}
use Rattle.dy_eval.specs.declared.items.Item.{Item}
use Rattle.dy_eval.specs.declared.items.Item.TheVariants as items
use Rattle.dy_eval.specs.Doings.{Effect, Puts, Writes, Fails}
use Rattle.dy_eval.specs.Names.{Names, bytes_at, bytes_for, principal_in}
use Rattle.dy_eval.specs.Values.{value, are_small}
use Rattle.dy_eval.specs.Patterns.{fits_one, fits, written_by_one, written_by, match_if, match_tuple}
use Rattle.dy_eval.specs.Past.{go_on}
use Rattle.dy_eval.specs.Effects.{puts, puts_all, writes, holds, effect_of}
use Rattle.dy_eval.specs.Runs.{nonce_due}
use Rattle.dy_sound.specs.Fields.{IsName}
use Rattle.dy_sound.proofs.Lists.{Contains-none, Contains-first, Contains-cases}
use Rattle.dy_sound.proofs.NamesApart.{plain_binds, act_plain}

-- the word is one of these
pub record IsWordOf (ids : List Id) (word : List ℕ) : Type 0 where
  pub id : Id
  pub stands : Contains ids id
  pub word_is : word ≡ id.word

-- What is written has these words, and a principal's name in place of each that is none of the plain ones.
pub record IsWrittenFor (binds plain : List Id) (more : List Written) : Type 0 where
  pub words : map (λ w. w.word) more ≡ words_of binds
  pub names : (written : Written) → Contains more written → IsWordOf plain written.word ⊎ IsName written.bytes

pub nothing_written : IsWrittenFor [] [] []
nothing_written = record { words = refl; names = λ written stands. absurd (Contains-none written stands) }

pub one_written : (id : Id) (plain : List Id) (bytes : Term) → (IsWordOf plain id.word ⊎ IsName bytes)
    → IsWrittenFor (id ∷ []) plain (record { word = id.word; bytes = bytes } ∷ [])
one_written id plain bytes is = record {
  words = refl;
  names = λ written stands. elim (Contains-cases _ [] written stands) [
    | inl same ↦ subst (λ (w : Written). IsWordOf plain w.word ⊎ IsName w.bytes) same is
    | inr none ↦ absurd (Contains-none written none)
  ];
}

pub plain_written : (id : Id) (bytes : Term) → IsWrittenFor (id ∷ []) (id ∷ []) (record { word = id.word; bytes = bytes } ∷ [])
plain_written id bytes = one_written id (id ∷ []) bytes (inl (record { id = id; stands = Contains-first id []; word_is = refl }))

wider : (some all : List Id) → ((id : Id) → Contains some id → Contains all id) → (written : Written)
    → IsWordOf some written.word ⊎ IsName written.bytes → IsWordOf all written.word ⊎ IsName written.bytes
wider some all among written (inl word) = inl (record { id = word.id; stands = among word.id word.stands; word_is = word.word_is })
wider some all among written (inr name) = inr name

pub written_both : (binds plain : List Id) (more : List Written) (other_binds other_plain : List Id) (others : List Written)
    → IsWrittenFor binds plain more → IsWrittenFor other_binds other_plain others
    → IsWrittenFor (binds ++ other_binds) (plain ++ other_plain) (more ++ others)
written_both binds plain more other_binds other_plain others first second = record {
  words =
      let a = map-append (λ (w : Written). w.word) more others in
      let b = map-append (λ (id : Id). id.word) binds other_binds in
      let one = first.words in
      let two = second.words in
      cc;
  names = λ written stands. elim (Contains-append_cases more others written stands) [
    | inl here ↦ wider plain (plain ++ other_plain) (λ id at. Contains-append_left plain other_plain id at) written (first.names written here)
    | inr there ↦ wider other_plain (plain ++ other_plain) (λ id at. Contains-append_right plain other_plain id at) written (second.names written there)
  ];
}

pub is_name : (value : Term) → is_some (principal_in value) ≡ true → IsName value
is_name (trees.Name principal) is = (principal, refl)
is_name (trees.Lit text) is = absurd cc
is_name (trees.Nonce index) is = absurd cc
is_name (trees.Pair first second) is = absurd cc
is_name (trees.Pk key) is = absurd cc
is_name (trees.Vk key) is = absurd cc
is_name (trees.Penc to message) is = absurd cc
is_name (trees.Aead key message associated) is = absurd cc
is_name (trees.Sign key message) is = absurd cc
is_name (trees.Mac key message) is = absurd cc
is_name (trees.Kdf key context input) is = absurd cc
is_name (trees.Hash message) is = absurd cc

module _ (names : Names) where
  one_by : (pattern : Pattern) (field : Term) → fits_one names pattern field ≡ true → IsWrittenFor (pattern_binds pattern) (plain_binds pattern) (written_by_one pattern field)
  one_by (Bind name) field fit = plain_written name field
  one_by (Named line name) field fit = one_written name [] field (inr (is_name field fit))
  one_by (Equal line to) field fit = nothing_written

  pub all_by : (pats : List Pattern) (fields : List Term) → fits names pats fields ≡ true → IsWrittenFor (flat_map pattern_binds pats) (flat_map plain_binds pats) (written_by pats fields)
  all_by [] [] fit = nothing_written
  all_by [] (field ∷ fields) fit = absurd cc
  all_by (pattern ∷ pats) [] fit = absurd cc
  all_by (pattern ∷ pats) (field ∷ fields) fit =
      let parts = and_parts _ _ fit in
      written_both (pattern_binds pattern) (plain_binds pattern) (written_by_one pattern field)
      (flat_map pattern_binds pats) (flat_map plain_binds pats) (written_by pats fields)
      (one_by pattern field parts.0) (all_by pats fields parts.1)

  -- What a statement writes has the words that it binds; so has the nonce of the item that it puts.
  abbrev pub IsWrittenBy : List Id → List Id → Effect → Type 0
  IsWrittenBy binds plain (Puts item due) = (index : ℕ) → IsWrittenFor binds plain (nonce_due due index)
  IsWrittenBy binds plain (Writes more) = IsWrittenFor binds plain more
  IsWrittenBy binds plain Fails = Unit {0}

  by_matched : (pats : List Pattern) (fields : Option (List Term)) → IsWrittenBy (flat_map pattern_binds pats) (flat_map plain_binds pats) (match_if names pats fields)
  by_matched pats None = tt
  by_matched pats (Some fields) = one (fits names pats fields) refl where
    one : (b : Bool) → fits names pats fields ≡ b
        → IsWrittenBy (flat_map pattern_binds pats) (flat_map plain_binds pats) (if b then Writes (written_by pats fields) else Fails)
    one true fit = all_by pats fields fit
    one false fit = tt

  by_opened : (tag : Quote) (pats : List Pattern) (message : Option Term) → IsWrittenBy (flat_map pattern_binds pats) (flat_map plain_binds pats) (match_tuple names tag pats message)
  by_opened tag pats None = tt
  by_opened tag pats (Some message) = by_matched pats _

  by_holds : (test : Bool) → IsWrittenBy [] [] (holds test)
  by_holds true = nothing_written
  by_holds false = tt

  by_writes : (name : Id) (term : Option Term) → IsWrittenBy (name ∷ []) (name ∷ []) (writes name.word term)
  by_writes name None = tt
  by_writes name (Some term) = plain_written name term

  by_puts : (item : Term → Item) (term : Option Term) → IsWrittenBy [] [] (puts item term)
  by_puts item None = tt
  by_puts item (Some term) = λ index. nothing_written

  by_puts_all : (item : List Term → Item) (terms : List Term) → IsWrittenBy [] [] (puts_all item terms)
  by_puts_all item terms = one (are_small terms) where
    one : (b : Bool) → IsWrittenBy [] [] (if b then Puts (item terms) None else Fails)
    one true = λ index. nothing_written
    one false = tt

  pub by_act : (X : List Entry) (kind : kind.Kind) (act : Act) → IsWrittenBy (act_binds act) (act_plain act) (effect_of X names kind act)
  by_act X kind (s.New name usage label) = λ index. plain_written name (trees.Nonce index)
  by_act X kind (s.Let name expr) = by_writes name _
  by_act X kind (s.Event atom) = by_puts_all (items.Event atom.event.word) (map (bytes_for names) atom.args)
  by_act X kind (s.Send expr) = by_puts items.Message _
  by_act X kind (s.Store state fields) = by_puts_all (items.State (newest X names.principal names.session + 1) state.word) (map (value names) fields)
  by_act X kind (s.Certify key usage) = by_puts (items.Cert usage.word) _
  by_act X kind (s.Find usage owner name) = by_writes name _
  by_act X kind (s.Recall state pats) = by_matched pats _
  by_act X kind (s.Split split tag pats) = by_opened tag pats (Some (bytes_at names split.word))
  by_act X kind (s.Opened sealed key usage tag pats ad) = by_opened tag pats _
  by_act X kind (s.Popened sealed key usage tag pats) = by_opened tag pats _
  by_act X kind (s.Verify signed key usage tag pats) = by_opened tag pats _
  by_act X kind (s.Check code key usage tag args) = by_holds _
  by_act X kind (s.Same left right) = by_holds _

  pub by_on : (X : List Entry) (on : OnPart) → IsWrittenBy (flat_map pattern_binds on.pats) (flat_map plain_binds on.pats) (go_on X names on)
  by_on X on = by_matched on.pats _
