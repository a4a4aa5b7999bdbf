-- What each statement does.
use Rattle.std.specs.Prelude.{ℕ, ◌+◌, Bool, List, [], ◌∷◌, map, Option, Some, None, if◌then◌else◌}
use Rattle.std.specs.Option.{option_and_then}
use Rattle.dy_term.specs.Terms as trees
use Rattle.dy_term.specs.Terms.{Term}
use Rattle.dy_term.specs.Tuples.{tagged_tuple}
use Rattle.dy_term.specs.Sameness.{is_same}
use Rattle.dy_label.specs.declared.usages.Kind as kind
use Rattle.dy_label.specs.declared.usages.Kind.TheVariants as kinds
use Rattle.dy_flat.specs.Openings.{penc_message, aead_message_with}
use Rattle.dy_syntax.specs.Statements as s
use Rattle.dy_syntax.specs.Statements.{Act}
use Rattle.dy_entry.specs.Entries.{Entry}
use Rattle.dy_entry.specs.LookUps.{newest}
use Rattle.dy_eval.specs.declared.items.Item.{Item}
use Rattle.dy_eval.specs.declared.items.Item.TheVariants.{Fresh, Message, State, Event, Cert}
use Rattle.dy_eval.specs.Doings.{Effect, Puts, Writes, Fails}
use Rattle.dy_eval.specs.Lines.{Line, GoesOn, Does}
use Rattle.dy_eval.specs.Names.{Names, bytes_at, bytes_for, principal_for}
use Rattle.dy_eval.specs.Values.{value, if_small, are_small}
use Rattle.dy_eval.specs.Patterns.{match_tuple}
use Rattle.dy_eval.specs.Readers.{label_for, usage_for}
use Rattle.dy_eval.specs.Past.{go_on, key_of, recall}

-- An item of a value is put, if there is one.
abbrev pub puts : (Term → Item) → Option Term → Effect
puts item None = Fails
puts item (Some term) = Puts (item term) None

-- An item of several values is put, if they have at most 1,024 nodes together.
abbrev pub puts_all : (List Term → Item) → List Term → Effect
puts_all item terms = if are_small terms then Puts (item terms) None else Fails

-- A value, if there is one, is written in place of a word.
abbrev pub writes : List ℕ → Option Term → Effect
writes word None = Fails
writes word (Some term) = Writes (record { word = word; bytes = term } ∷ [])

-- The statement must hold, and does nothing more.
abbrev pub holds : Bool → Effect
holds test = if test then Writes [] else Fails

-- the public key that is certified of a key, by the kind of the usage
abbrev pub public_key : kind.Kind → Term → Option Term
public_key kinds.Pke key = Some (trees.Pk key)
public_key kinds.Sig key = Some (trees.Vk key)
public_key _ key = None

-- what was signed by the key that belongs to a verification key
abbrev pub verified_message : Term → Term → Option Term
verified_message (trees.Sign own message) (trees.Vk key) = if is_same own key then Some message else None
verified_message _ _ = None

-- What a statement does, where its usage has this kind.
abbrev pub effect_of : List Entry → Names → kind.Kind → Act → Effect
effect_of X names kind (s.New name usage label) =
    Puts (Fresh (label_for names (newest X names.principal names.session) label) (usage_for names kind usage))
    (Some name.word)
effect_of X names kind (s.Let name expr) = writes name.word (if_small (value names expr))
effect_of X names kind (s.Event atom) = puts_all (Event atom.event.word) (map (bytes_for names) atom.args)
effect_of X names kind (s.Send expr) = puts Message (if_small (value names expr))
effect_of X names kind (s.Store state fields) =
    puts_all (State (newest X names.principal names.session + 1) state.word) (map (value names) fields)
effect_of X names kind (s.Certify key usage) =
    puts (Cert usage.word) (option_and_then if_small (public_key kind (bytes_at names key.word)))
effect_of X names kind (s.Find usage owner name) =
    writes name.word (option_and_then (λ principal. key_of X principal usage.word) (principal_for names owner))
effect_of X names kind (s.Recall state pats) = recall X names state.word pats
effect_of X names kind (s.Split value tag pats) = match_tuple names tag pats (Some (bytes_at names value.word))
effect_of X names kind (s.Opened sealed key usage tag pats ad) =
    match_tuple names tag pats
    (option_and_then (aead_message_with (bytes_at names sealed.word) (bytes_at names key.word))
    (if_small (value names ad)))
effect_of X names kind (s.Popened sealed key usage tag pats) =
    match_tuple names tag pats (penc_message (bytes_at names sealed.word) (bytes_at names key.word))
effect_of X names kind (s.Verify signed key usage tag pats) =
    match_tuple names tag pats (verified_message (bytes_at names signed.word) (bytes_at names key.word))
effect_of X names kind (s.Check code key usage tag args) =
    holds (is_same (bytes_at names code.word)
    (trees.Mac (bytes_at names key.word) (tagged_tuple tag.text (map (bytes_for names) args))))
effect_of X names kind (s.Same left right) = holds (is_same (bytes_for names left) (bytes_for names right))

-- what a line does
abbrev pub effect : List Entry → Names → Line → Effect
effect X names (GoesOn on) = go_on X names on
effect X names (Does kind act) = effect_of X names kind act
