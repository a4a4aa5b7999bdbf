-- What the words of a declaration stand for in a trace.
use Rattle.std.specs.Prelude.{ℕ, List, ◌++◌, map, zip, find, filter_map, Option, Some, None}
use Rattle.std.specs.Option.{option_map, option_and_then}
use Rattle.std.specs.Str.{bytes_eq}
use Rattle.dy_term.specs.Terms.{Term, Name}
use Rattle.dy_label.specs.Labels as labels
use Rattle.dy_label.specs.Labels.{Place, Principal, Session, Version, Label, one_or_nobody}
use Rattle.dy_label.specs.declared.usages.Usage.{Usage}
use Rattle.dy_syntax.specs.Names.{Nm, Named, Me, UseText, AtomText}
use Rattle.dy_syntax.specs.Labels as text
use Rattle.dy_syntax.specs.Labels.{LabelText}
use Rattle.dy_syntax.specs.Declarations.{CaseDecl, EventDecl, StateDecl}
use Rattle.dy_syntax.specs.Files.{Decl}
use Rattle.dy_syntax.specs.Scopes.{words_of, field_names, param_names, params_named}
use Rattle.dy_typing.specs.Names.{each_or_none}
use Rattle.dy_eval.specs.Names.{principal_in}
use Rattle.dy_sound.specs.Usages.{usage_with}

-- the principal of `self`, the places of `session` and `here`, and the values of the parameters and fields
pub record Words : Type 0 where
  pub self : Option (List ℕ)
  pub session : Option Place
  pub here : Option Place
  pub values : List (List ℕ × Term)

-- in a case: the usage's parameters stand for its owners, and the fields for their values
abbrev pub case_words : List Decl → List (List ℕ) → CaseDecl → List Term → Words
case_words decls owners case fields = record {
  self = None;
  session = None;
  here = None;
  values =
      zip (words_of (params_named decls case.usage.word)) (map Name owners)
      ++ zip (words_of (field_names case.fields)) fields;
}

-- in a state that is this version of this session of a principal
abbrev pub state_words : StateDecl → List ℕ → ℕ → ℕ → List Term → Words
state_words state principal session version fields = record {
  self = Some principal;
  session = Some (Session principal session);
  here = Some (Version principal session version);
  values = zip (words_of (field_names state.fields)) fields;
}

-- in an event's declaration: the parameters stand for the event's arguments
abbrev pub event_words : EventDecl → List Term → Words
event_words event args = record {
  self = None;
  session = None;
  here = None;
  values = zip (words_of (param_names event.params)) args;
}

-- the value of a word
abbrev pub value_meant : Words → Nm → Option Term
value_meant words (Me line) = option_map Name words.self
value_meant words (Named id) = option_map (λ pair. pair.1) (find (λ pair. bytes_eq id.word pair.0) words.values)

-- the principal whose name the word stands for
abbrev pub principal_meant : Words → Nm → Option (List ℕ)
principal_meant words name = option_and_then principal_in (value_meant words name)

-- the label that a declaration's label stands for; a word that has no meaning there reads nothing
abbrev pub label_meant : Words → LabelText → Label
label_meant words (text.Public line) = labels.Public
label_meant words (text.Nobody line) = labels.Nobody
label_meant words (text.Session line) = one_or_nobody words.session
label_meant words (text.Next line) = labels.Nobody
label_meant words (text.Prior line) = labels.Nobody
label_meant words (text.Here line) = one_or_nobody words.here
label_meant words (text.One name) = one_or_nobody (option_map Principal (principal_meant words name))
label_meant words (text.Join line left right) = labels.Join (label_meant words left) (label_meant words right)
label_meant words (text.Meet line left right) = labels.Meet (label_meant words left) (label_meant words right)

-- the usage that a declaration's usage stands for
abbrev pub usage_meant : List Decl → Words → UseText → Usage
usage_meant decls words usage = usage_with decls usage.usage.word (filter_map (principal_meant words) usage.args)

-- the values of the arguments of an event that a declaration names, where each has one
abbrev pub args_meant : Words → AtomText → Option (List Term)
args_meant words atom = each_or_none (value_meant words) atom.args
