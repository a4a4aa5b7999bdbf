-- What the tables of names have in them.
use Rattle.std.specs.Prelude.{◌≡◌, ℕ, Bool, ◌&&◌, List, [], ◌∷◌, ◌++◌, is_some, find, if◌then◌else◌}
use Rattle.std.specs.Borrow.{Bor}
use Rattle.std.specs.List.{filter_map}
use Rattle.std.specs.Map.{lookup}
use Rattle.std.specs.Option.{option_map}
use Rattle.std.specs.Str.{bytes_eq}
use Rattle.dy_syntax.specs.declared.declarations.UsageDecl.{UsageDecl}
use Rattle.dy_syntax.specs.declared.declarations.CaseDecl.{CaseDecl}
use Rattle.dy_syntax.specs.declared.declarations.EventDecl.{EventDecl}
use Rattle.dy_syntax.specs.declared.declarations.StateDecl.{StateDecl}
use Rattle.dy_syntax.specs.Meaning.{usage_of, case_of, event_of, state_of}
use Rattle.dy_syntax.specs.Declarations as d
use Rattle.dy_syntax.specs.Files as f
use Rattle.dy_cases.specs.DeclaredParts.{usage_in, case_in, event_in, state_in}

-- the entries with one more, where none has its key yet
abbrev pub with_first : {K V : Type 0} → (K → K → Bool) → List (K × V) → K → V → List (K × V)
with_first eq entries key value = if is_some (lookup (eq key) entries) then entries else entries ++ (key, value) ∷ []

-- Under each name stands the first of these declarations that has the name, as it is seen by `view`, or nothing where
-- none has it.
abbrev pub FindsFirst : {N D K V : Type 0} → (N → N → Bool) → (K → N) → (D → N) → (V → D)
    → List (K × V) → List D → Type 0
FindsFirst {N} {D} {K} {V} same name own view entries decls =
    (wanted : N) → option_map view (lookup (λ key. same wanted (name key)) entries)
    ≡ find (λ decl. same (own decl) wanted) decls

-- a name that is lent
abbrev pub Lent : Type 0
Lent = Bor (List ℕ)

abbrev pub word_of : Lent → List ℕ
word_of name = name.now

abbrev pub usage_at : Bor UsageDecl → d.UsageDecl
usage_at usage = usage_of usage.now

abbrev pub case_at : Bor CaseDecl → d.CaseDecl
case_at case = case_of case.now

abbrev pub event_at : Bor EventDecl → d.EventDecl
event_at event = event_of event.now

abbrev pub state_at : Bor StateDecl → d.StateDecl
state_at state = state_of state.now

-- a usage and a tag
abbrev pub Pair : Type 0
Pair = List ℕ × List ℕ

abbrev pub same_pair : Pair → Pair → Bool
same_pair pair other = bytes_eq pair.0 other.0 && bytes_eq pair.1 other.1

abbrev pub pair_of : Lent × Lent → Pair
pair_of name = (name.0.now, name.1.now)

abbrev pub usage_name : d.UsageDecl → List ℕ
usage_name usage = usage.name.word

abbrev pub case_name : d.CaseDecl → Pair
case_name case = (case.usage.word, case.tag.text)

abbrev pub event_name : d.EventDecl → List ℕ
event_name event = event.name.word

abbrev pub state_name : d.StateDecl → List ℕ
state_name state = state.name.word

abbrev pub HasUsages : List (Lent × Bor UsageDecl) → List f.Decl → Type 0
HasUsages entries decls = FindsFirst bytes_eq word_of usage_name usage_at entries (filter_map usage_in decls)

abbrev pub HasCases : List ((Lent × Lent) × Bor CaseDecl) → List f.Decl → Type 0
HasCases entries decls = FindsFirst same_pair pair_of case_name case_at entries (filter_map case_in decls)

abbrev pub HasEvents : List (Lent × Bor EventDecl) → List f.Decl → Type 0
HasEvents entries decls = FindsFirst bytes_eq word_of event_name event_at entries (filter_map event_in decls)

abbrev pub HasStates : List (Lent × Bor StateDecl) → List f.Decl → Type 0
HasStates entries decls = FindsFirst bytes_eq word_of state_name state_at entries (filter_map state_in decls)
