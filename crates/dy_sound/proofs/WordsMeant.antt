-- A label, a usage or an argument of a declaration means in a trace what it means in a handler.
use Rattle.std.proofs.Common.{◌≡◌, ℕ, true, false, List, [], ◌∷◌, map, Contains, Option, Some, None, refl, sym, ap, ◌∙◌}
use Rattle.std.specs.Option.{option_map, option_and_then}
use Rattle.std.specs.List.{filter_map, cons_option}
use Rattle.dy_term.specs.Terms.{Term}
use Rattle.dy_label.specs.Labels.{Label, Principal, Join, Meet, one_or_nobody}
use Rattle.dy_label.specs.Words.{Atom, Choice, place_of, meaning_of}
use Rattle.dy_syntax.specs.Names.{Nm, UseText, AtomText}
use Rattle.dy_syntax.specs.Labels as text
use Rattle.dy_syntax.specs.Labels.{LabelText}
use Rattle.dy_syntax.specs.Scopes.{Scope}
use Rattle.dy_typing.specs.Names.{Setting, Stands, stands_for, stands_number, each_or_none, atom_names}
use Rattle.dy_typing.specs.Instances.{name_label, label_in, use_in}
use Rattle.dy_eval.specs.Names.{Names, bytes_for}
use Rattle.dy_sound.specs.Usages.{usage_with}
use Rattle.dy_sound.specs.Words.{Words, value_meant, principal_meant, label_meant, usage_meant, args_meant}
use Rattle.dy_sound.specs.Knowledge.{usage_chosen}
use Rattle.dy_sound.specs.InScope.{LabelIsInScope, UseIsInScope, AtomIsInScope}
use Rattle.dy_sound.specs.Matches.{IsPrincipalOf, Matches}
use Rattle.dy_sound.proofs.Lists.{Contains-first, Contains-later}

one_meant : (choice : Choice) (atom : Option Atom) → meaning_of choice (one_or_nobody atom) ≡ one_or_nobody (option_map (place_of choice) atom)
one_meant choice None = refl
one_meant choice (Some atom) = refl

-- the label of a name, where its number and its principal are one
pub name_meant : (choice : Choice) (number : Option ℕ) (principal : Option (List ℕ)) → IsPrincipalOf choice number principal
    → meaning_of choice (name_label number) ≡ one_or_nobody (option_map Principal principal)
name_meant choice number principal same =
    ap (λ (n : Option ℕ). meaning_of choice (name_label n)) same.number_is
    ∙ sym (ap (λ (p : Option (List ℕ)). one_or_nobody (option_map Principal p)) same.principal_is)

-- both parts of a label
pub same_join : (left right other_left other_right : Label) → left ≡ other_left → right ≡ other_right → Join left right ≡ Join other_left other_right
same_join left right other_left other_right one other = ap (λ (l : Label). Join l right) one ∙ ap (λ (r : Label). Join other_left r) other

pub same_meet : (left right other_left other_right : Label) → left ≡ other_left → right ≡ other_right → Meet left right ≡ Meet other_left other_right
same_meet left right other_left other_right one other = ap (λ (l : Label). Meet l right) one ∙ ap (λ (r : Label). Meet other_left r) other

-- The principals of names that have numbers are those that their numbers stand for.
pub owners_meant : (choice : Choice) (number : Nm → Option ℕ) (principal : Nm → Option (List ℕ)) (args : List Nm)
    → ((name : Nm) → Contains args name → IsPrincipalOf choice (number name) (principal name))
    → map choice.principals (filter_map number args) ≡ filter_map principal args
owners_meant choice number principal [] same = refl
owners_meant choice number principal (name ∷ args) same =
    let own = same name (Contains-first name args) in
    let rest = owners_meant choice number principal args (λ other stands. same other (Contains-later name args other stands)) in
    ap (λ (n : Option ℕ). map choice.principals (cons_option n (filter_map number args))) own.number_is
    ∙ ap (λ (owners : List (List ℕ)). choice.principals own.of_name ∷ owners) rest
    ∙ sym (ap (λ (p : Option (List ℕ)). cons_option p (filter_map principal args)) own.principal_is)

pub each_parts : {A : Type 0} (first : Option A) (rest : Option (List A)) (all : List A)
    → option_and_then (λ y. option_map (λ ys. y ∷ ys) rest) first ≡ Some all
    → (y : A) × (ys : List A) × (first ≡ Some y) × (rest ≡ Some ys) × (y ∷ ys ≡ all)
each_parts None rest all h = absurd cc
each_parts (Some y) None all h = absurd cc
each_parts (Some y) (Some ys) all h = (y, ys, refl, refl, cc)

-- What has values in a handler has the same values in a trace.
each_value : (stand : Nm → Option Nm) (means : Nm → Option Term) (bytes : Nm → Term) (args given : List Nm)
    → ((name one : Nm) → Contains args name → stand name ≡ Some one → means name ≡ Some (bytes one))
    → each_or_none stand args ≡ Some given → each_or_none means args ≡ Some (map bytes given)
each_value stand means bytes [] [] same h = refl
each_value stand means bytes [] (one ∷ given) same h = absurd cc
each_value stand means bytes (name ∷ args) given same h =
    let parts = each_parts (stand name) (each_or_none stand args) given h in
    let first = same name parts.0 (Contains-first name args) parts.2 in
    let rest = each_value stand means bytes args parts.1 (λ other one stands. same other one (Contains-later name args other stands)) parts.3 in
    ap (λ (f : Option Term). option_and_then (λ y. option_map (λ ys. y ∷ ys) (each_or_none means args)) f) first
    ∙ ap (λ (r : Option (List Term)). option_map (λ ys. bytes parts.0 ∷ ys) r) rest
    ∙ ap (λ (g : List Nm). Some (map bytes g)) parts.4

module _ (setting : Setting) (choice : Choice) (names : Names) (scope : Scope) (stands : Stands) (here : Option Atom) (words : Words)
    (matches : Matches setting choice names scope stands here words) where
  -- A declaration's label means in a trace what it means in the handler.
  pub label_means : (label : LabelText) → LabelIsInScope scope label
      → meaning_of choice (label_in (stands_number setting stands) here label) ≡ label_meant words label
  label_means (text.Public line) read = refl
  label_means (text.Nobody line) read = refl
  label_means (text.Session line) read = sym (ap one_or_nobody (matches.session_matches read))
  label_means (text.Next line) read = absurd (let outside : false ≡ true = sym matches.has_no_versions ∙ read in cc)
  label_means (text.Prior line) read = absurd (let outside : false ≡ true = sym matches.has_no_versions ∙ read in cc)
  label_means (text.Here line) read = one_meant choice here ∙ sym (ap one_or_nobody (matches.here_matches read))
  label_means (text.One name) read = name_meant choice (stands_number setting stands name) (principal_meant words name) (matches.principals_match name read)
  label_means (text.Join line left right) read = same_join _ _ _ _ (label_means left read.0) (label_means right read.1)
  label_means (text.Meet line left right) read = same_meet _ _ _ _ (label_means left read.0) (label_means right read.1)

  -- So does its usage.
  pub usage_means : (usage : UseText) → UseIsInScope scope usage
      → usage_chosen setting.decls choice (use_in (stands_number setting stands) usage) ≡ usage_meant setting.decls words usage
  usage_means usage read =
      ap (usage_with setting.decls usage.usage.word)
      (owners_meant choice (stands_number setting stands) (principal_meant words) usage.args (λ name stands. matches.principals_match name (read name stands)))

  -- The arguments of an event that a declaration names have the values of what stands for them in the handler.
  pub args_mean : (atom : AtomText) (given : List Nm) → AtomIsInScope scope atom → atom_names stands atom ≡ Some given
      → args_meant words atom ≡ Some (map (bytes_for names) given)
  args_mean atom given read stand =
      each_value (stands_for stands) (value_meant words) (bytes_for names) atom.args given (λ name one within. matches.values_match name one (read name within)) stand
