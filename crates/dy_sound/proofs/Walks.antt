-- Traces that are walked by hand: what is secure, and what is not.
use Rattle.std.proofs.Common.{◌≡◌, ℕ, zero, suc, Bool, true, false, List, [], ◌∷◌, take, Some, inl, inr, refl, subst}
use Rattle.std.specs.Prelude.{codes}
use Rattle.std.specs.List.{slice_get}
use Rattle.dy_term.specs.Terms.{Term, Name, Nonce}
use Rattle.dy_label.specs.Labels as labels
use Rattle.dy_label.specs.Labels.{Principal, Label}
use Rattle.dy_label.specs.declared.usages.Kind.TheVariants as kinds
use Rattle.dy_label.specs.declared.usages.Usage.{Usage}
use Rattle.dy_syntax.specs.Names.{Id, Named}
use Rattle.dy_syntax.specs.Labels as text
use Rattle.dy_syntax.specs.Declarations.{Partner, EventDecl}
use Rattle.dy_syntax.specs.Files as files
use Rattle.dy_syntax.specs.Files.{Decl}
use Rattle.dy_entry.specs.Entries.{Entry, Setup, Fresh, Message, Event, Corrupt}
use Rattle.dy_entry.specs.Attacker.{sent}
use Rattle.dy_sound.specs.Words.{event_words}
use Rattle.dy_sound.specs.Events.{HasPartner}
use Rattle.dy_sound.specs.Valid.{MayBeKnown}
use Rattle.dy_sound.specs.Good.{IsGood}
use Rattle.dy_sound.specs.Secure.{IsSecure}
use Rattle.dy_sound.proofs.Lists.{Contains-first}

abbrev alice : List ℕ
alice = codes "alice"

abbrev token : Usage
token = record { kind = kinds.Nonce; name = codes "token"; owners = [] }

-- A nonce for a principal is sent in the clear.
abbrev leak : List Entry
leak = Setup [] ∷ Fresh 9 (labels.One (Principal alice)) token ∷ Message 9 (Nonce 1) ∷ []

-- Where the principal is not corrupted, that is not secure.
leak_is_not_secure : (decls : List Decl) → IsSecure decls leak → ⊥
leak_is_not_secure decls secure =
    let open_label = ((secure.secrets 3).shown 1 (sent 2 9 (Nonce 1) refl)).is_open_now in cc

-- Where the principal is corrupted before, the trace is good.
abbrev corrupted_trace : List Entry
corrupted_trace = Setup [] ∷ Corrupt 0 (Principal alice) ∷ Fresh 9 (labels.One (Principal alice)) token ∷ Message 9 (Nonce 2) ∷ []

corrupted_message : (decls : List Decl) (index instance : ℕ) (value : Term) → slice_get corrupted_trace index ≡ Some (Message instance value) → MayBeKnown decls corrupted_trace value
corrupted_message decls zero instance value at = absurd cc
corrupted_message decls (suc zero) instance value at = absurd cc
corrupted_message decls (suc (suc zero)) instance value at = absurd cc
corrupted_message decls (suc (suc (suc zero))) instance value at =
    let same : Nonce 2 ≡ value = cc in
    subst (MayBeKnown decls corrupted_trace) same (record {
      valid = (Fresh 9 (labels.One (Principal alice)) token, refl, refl);
      shown = record { is_open_now = refl };
    })
corrupted_message decls (suc (suc (suc (suc index)))) instance value at = absurd cc

abbrev is_as_here : Entry → Bool
is_as_here (Setup input) = true
is_as_here (Corrupt step corruption) = true
is_as_here (Fresh instance label usage) = true
is_as_here (Message instance value) = true
is_as_here e = false

each_as_here : (index : ℕ) (e : Entry) → slice_get corrupted_trace index ≡ Some e → is_as_here e ≡ true
each_as_here zero e at = let same : Setup [] ≡ e = cc in subst (λ (x : Entry). is_as_here x ≡ true) same refl
each_as_here (suc zero) e at = let same : Corrupt 0 (Principal alice) ≡ e = cc in subst (λ (x : Entry). is_as_here x ≡ true) same refl
each_as_here (suc (suc zero)) e at = let same : Fresh 9 (labels.One (Principal alice)) token ≡ e = cc in subst (λ (x : Entry). is_as_here x ≡ true) same refl
each_as_here (suc (suc (suc zero))) e at = let same : Message 9 (Nonce 2) ≡ e = cc in subst (λ (x : Entry). is_as_here x ≡ true) same refl
each_as_here (suc (suc (suc (suc index)))) e at = absurd cc

corrupted_is_good : (decls : List Decl) → IsGood decls corrupted_trace
corrupted_is_good decls = record {
  messages = corrupted_message decls;
  injections = λ index step value at. let as_here = each_as_here index _ at in absurd cc;
  certs = λ index instance owner usage key at. let as_here = each_as_here index _ at in absurd cc;
  states = λ index instance principal session version tag fields at. let as_here = each_as_here index _ at in absurd cc;
  events = λ index instance principal name args at. let as_here = each_as_here index _ at in absurd cc;
  instances = λ instance handler left h. let as_here = each_as_here instance _ h.stands in absurd cc;
}

-- An event that comes after another one with its argument, unless an exempting label is open.
abbrev word : List ℕ → Id
word letters = record { word = letters; line = 1 }

abbrev its_decl : EventDecl
its_decl = record {
  line = 1;
  name = word (codes "ends");
  params = record { line = 1; is_name = true; name = word (codes "who") } ∷ [];
  after =
      record {
        atom = record { event = word (codes "begins"); args = Named (word (codes "who")) ∷ [] };
        unless = text.One (Named (word (codes "who")));
      } ∷ [];
}

abbrev event_decls : List Decl
event_decls = files.Event its_decl ∷ []

abbrev partner : Partner
partner = record {
  atom = record { event = word (codes "begins"); args = Named (word (codes "who")) ∷ [] };
  unless = text.One (Named (word (codes "who")));
}

-- It stands alone.
abbrev alone : List Entry
alone = Setup [] ∷ Event 9 alice (codes "ends") (Name alice ∷ []) ∷ []

-- No other event stands before it.
none_before : (index instance : ℕ) (principal name : List ℕ) (args : List Term) → slice_get (take 1 alone) index ≡ Some (Event instance principal name args) → ⊥
none_before zero instance principal name args at = cc
none_before (suc index) instance principal name args at = cc

alone_is_not_secure : IsSecure event_decls alone → ⊥
alone_is_not_secure secure =
    elim ((secure.events 2).follow 1 9 alice (codes "ends") (Name alice ∷ []) refl its_decl refl partner (Contains-first partner [])) [
      | inl happened ↦ let h = happened.has_happened in none_before h.index h.instance h.principal _ _ h.stands
      | inr shown ↦ let open_label = shown.is_open_now in cc
    ]

-- Its partner stands before it.
abbrev in_order : List Entry
in_order = Setup [] ∷ Event 9 alice (codes "begins") (Name alice ∷ []) ∷ Event 9 alice (codes "ends") (Name alice ∷ []) ∷ []

partner_stands : HasPartner (take 2 in_order) (event_words its_decl (Name alice ∷ [])) partner
partner_stands = inl (record {
  args = Name alice ∷ [];
  args_are = refl;
  has_happened = record { index = 1; instance = 9; principal = alice; stands = refl };
})

-- Or the exempting label is open before it.
abbrev exempt : List Entry
exempt = Setup [] ∷ Corrupt 0 (Principal alice) ∷ Event 9 alice (codes "ends") (Name alice ∷ []) ∷ []

label_is_open : HasPartner (take 2 exempt) (event_words its_decl (Name alice ∷ [])) partner
label_is_open = inr (record { is_open_now = refl })
