-- In a well-formed file, what the names and words of a declaration are in it.
use Rattle.std.proofs.Common.{◌≡◌, ℕ, Bool, true, false, List, [], ◌∷◌, ◌++◌, map, filter, Contains, Option, Some, None, if◌then◌else◌, cond, inl, inr, refl, sym, ap, subst, ◌∙◌}
use Rattle.std.specs.Prelude.{◌&&◌, ◌||◌}
use Rattle.std.specs.List.{flat_map}
use Rattle.std.specs.Option.{option_map_or}
use Rattle.std.specs.Str.{bytes_eq}
use Rattle.std.proofs.lemmas.List.{map-append}
use Rattle.std.proofs.lemmas.Bool.{cases_Bool}
use Rattle.std.proofs.lemmas.Slice.Eq.{bytes_eq-Decides}
use Rattle.dy_syntax.specs.Names.{Id, Nm, KindText, Pke, Sig, UseText, AtomText, line_of}
use Rattle.dy_syntax.specs.Labels as text
use Rattle.dy_syntax.specs.Labels.{LabelText}
use Rattle.dy_syntax.specs.Declarations as types
use Rattle.dy_syntax.specs.Declarations.{FieldType, Field, Param, Partner, UsageDecl, CaseDecl, EventDecl, StateDecl}
use Rattle.dy_syntax.specs.Files.{Decl, Usage, Case, Event, State, Handler, File}
use Rattle.dy_syntax.specs.LookUps.{usage_named, case_named, event_named, state_named}
use Rattle.dy_syntax.specs.Scopes.{Scope, is_among, is_name, is_bound, words_of, field_names, param_names, params_named, case_scope, event_scope, state_scope, no_scope}
use Rattle.dy_syntax.specs.Parts.{Part, Variable, NameOnly, LabelWord, Bound, OfCase, OfEvent, parts_of_type, parts_of_label, parts_of_use, parts_of_key, parts_of_atom, parts_of_partner}
use Rattle.dy_syntax.specs.Places.{Place, decl_places}
use Rattle.dy_syntax.specs.Rules.{IsIn, IsWellFormed}
use Rattle.dy_syntax.specs.Rules.Declared.{is_in_handler}
use Rattle.dy_syntax.specs.Rules.Doubles.{same_word, lines_of_same_names, lines_of_ids_among}
use Rattle.dy_syntax.specs.Rules.Words.{has_session, has_here, has_versions}
use Rattle.dy_sound.specs.InScope.{IsNamed, LabelIsInScope, UseIsInScope, AtomIsInScope, TypeIsInScope}
use Rattle.dy_sound.specs.Givens.{Slot, usage_slots, field_slots, event_slots, case_slots, words_in, AreDistinct}
use Rattle.dy_sound.proofs.Lists.{Contains-first, Contains-later}
use Rattle.dy_sound.proofs.NoFaults.{HasNoFault, no_fault, of_decl}
use Rattle.dy_sound.proofs.StatementParts.{IsIn-left, IsIn-right, IsIn-map, IsIn-from, IsIn-flat_map}
use Rattle.dy_sound.proofs.GivenSlots.{param_words, field_words}
use Rattle.dy_sound.proofs.NamesAt.{passes_where_no_line}

-- What is found by its name is declared.
event_if : (b : Bool) (event found : EventDecl) (later : Option EventDecl) (decls : List Decl)
    → (later ≡ Some found → Contains decls (Event found)) → (if b then Some event else later) ≡ Some found → Contains (Event event ∷ decls) (Event found)
event_if true event found later decls rest is =
    let same : event ≡ found = cc in
    subst (λ (e : EventDecl). Contains (Event event ∷ decls) (Event e)) same (Contains-first (Event event) decls)
event_if false event found later decls rest is = Contains-later (Event event) decls (Event found) (rest is)

pub event_is_declared : (decls : List Decl) (name : List ℕ) (event : EventDecl) → event_named decls name ≡ Some event → Contains decls (Event event)
event_is_declared [] name event is = absurd cc
event_is_declared (Event first ∷ decls) name event is = event_if (bytes_eq first.name.word name) first event (event_named decls name) decls (event_is_declared decls name event) is
event_is_declared (Usage first ∷ decls) name event is = Contains-later (Usage first) decls (Event event) (event_is_declared decls name event is)
event_is_declared (Case first ∷ decls) name event is = Contains-later (Case first) decls (Event event) (event_is_declared decls name event is)
event_is_declared (State first ∷ decls) name event is = Contains-later (State first) decls (Event event) (event_is_declared decls name event is)
event_is_declared (Handler first ∷ decls) name event is = Contains-later (Handler first) decls (Event event) (event_is_declared decls name event is)

state_if : (b : Bool) (state found : StateDecl) (later : Option StateDecl) (decls : List Decl)
    → (later ≡ Some found → Contains decls (State found)) → (if b then Some state else later) ≡ Some found → Contains (State state ∷ decls) (State found)
state_if true state found later decls rest is =
    let same : state ≡ found = cc in
    subst (λ (s : StateDecl). Contains (State state ∷ decls) (State s)) same (Contains-first (State state) decls)
state_if false state found later decls rest is = Contains-later (State state) decls (State found) (rest is)

pub state_is_declared : (decls : List Decl) (name : List ℕ) (state : StateDecl) → state_named decls name ≡ Some state → Contains decls (State state)
state_is_declared [] name state is = absurd cc
state_is_declared (State first ∷ decls) name state is = state_if (bytes_eq first.name.word name) first state (state_named decls name) decls (state_is_declared decls name state) is
state_is_declared (Usage first ∷ decls) name state is = Contains-later (Usage first) decls (State state) (state_is_declared decls name state is)
state_is_declared (Case first ∷ decls) name state is = Contains-later (Case first) decls (State state) (state_is_declared decls name state is)
state_is_declared (Event first ∷ decls) name state is = Contains-later (Event first) decls (State state) (state_is_declared decls name state is)
state_is_declared (Handler first ∷ decls) name state is = Contains-later (Handler first) decls (State state) (state_is_declared decls name state is)

usage_if : (b : Bool) (usage found : UsageDecl) (later : Option UsageDecl) (decls : List Decl)
    → (later ≡ Some found → Contains decls (Usage found)) → (if b then Some usage else later) ≡ Some found → Contains (Usage usage ∷ decls) (Usage found)
usage_if true usage found later decls rest is =
    let same : usage ≡ found = cc in
    subst (λ (u : UsageDecl). Contains (Usage usage ∷ decls) (Usage u)) same (Contains-first (Usage usage) decls)
usage_if false usage found later decls rest is = Contains-later (Usage usage) decls (Usage found) (rest is)

pub usage_is_declared : (decls : List Decl) (name : List ℕ) (usage : UsageDecl) → usage_named decls name ≡ Some usage → Contains decls (Usage usage)
usage_is_declared [] name usage is = absurd cc
usage_is_declared (Usage first ∷ decls) name usage is = usage_if (bytes_eq first.name.word name) first usage (usage_named decls name) decls (usage_is_declared decls name usage) is
usage_is_declared (Case first ∷ decls) name usage is = Contains-later (Case first) decls (Usage usage) (usage_is_declared decls name usage is)
usage_is_declared (Event first ∷ decls) name usage is = Contains-later (Event first) decls (Usage usage) (usage_is_declared decls name usage is)
usage_is_declared (State first ∷ decls) name usage is = Contains-later (State first) decls (Usage usage) (usage_is_declared decls name usage is)
usage_is_declared (Handler first ∷ decls) name usage is = Contains-later (Handler first) decls (Usage usage) (usage_is_declared decls name usage is)

case_if : (b : Bool) (case found : CaseDecl) (later : Option CaseDecl) (decls : List Decl)
    → (later ≡ Some found → Contains decls (Case found)) → (if b then Some case else later) ≡ Some found → Contains (Case case ∷ decls) (Case found)
case_if true case found later decls rest is =
    let same : case ≡ found = cc in
    subst (λ (c : CaseDecl). Contains (Case case ∷ decls) (Case c)) same (Contains-first (Case case) decls)
case_if false case found later decls rest is = Contains-later (Case case) decls (Case found) (rest is)

pub case_is_declared : (decls : List Decl) (usage tag : List ℕ) (case : CaseDecl) → case_named decls usage tag ≡ Some case → Contains decls (Case case)
case_is_declared [] usage tag case is = absurd cc
case_is_declared (Case first ∷ decls) usage tag case is = case_if (bytes_eq first.usage.word usage && bytes_eq first.tag.text tag) first case (case_named decls usage tag) decls (case_is_declared decls usage tag case) is
case_is_declared (Usage first ∷ decls) usage tag case is = Contains-later (Usage first) decls (Case case) (case_is_declared decls usage tag case is)
case_is_declared (Event first ∷ decls) usage tag case is = Contains-later (Event first) decls (Case case) (case_is_declared decls usage tag case is)
case_is_declared (State first ∷ decls) usage tag case is = Contains-later (State first) decls (Case case) (case_is_declared decls usage tag case is)
case_is_declared (Handler first ∷ decls) usage tag case is = Contains-later (Handler first) decls (Case case) (case_is_declared decls usage tag case is)

-- the scope of a declaration that is no handler
abbrev pub IsDeclared : Scope → Type 0
IsDeclared scope = is_in_handler scope.place ≡ false

module _ (file : File) (scope : Scope) (outside : IsDeclared scope) (parts : List Part) (keeps : (part : Part) → IsIn part parts → HasNoFault file (record { scope = scope; part = part })) where
  named_here : (name : Nm) → IsIn (NameOnly name) parts → IsNamed scope name
  named_here name h = record {
    stands = passes_where_no_line (is_name scope name) (line_of name) (keeps (NameOnly name) h).rule_6;
    binds = λ inside. let none : false ≡ true = sym outside ∙ inside in absurd cc;
  }

  pub label_here : (label : LabelText) → ((part : Part) → IsIn part (parts_of_label label) → IsIn part parts) → LabelIsInScope scope label
  label_here (text.Public line) has = tt
  label_here (text.Nobody line) has = tt
  label_here (text.Session line) has = passes_where_no_line (has_session scope.place) line (keeps (LabelWord (text.Session line)) (has (LabelWord (text.Session line)) (inl refl))).rule_7
  label_here (text.Next line) has = passes_where_no_line (has_versions scope.place) line (keeps (LabelWord (text.Next line)) (has (LabelWord (text.Next line)) (inl refl))).rule_7
  label_here (text.Prior line) has = passes_where_no_line (has_versions scope.place) line (keeps (LabelWord (text.Prior line)) (has (LabelWord (text.Prior line)) (inl refl))).rule_7
  label_here (text.Here line) has = passes_where_no_line (has_here scope.place) line (keeps (LabelWord (text.Here line)) (has (LabelWord (text.Here line)) (inl refl))).rule_7
  label_here (text.One name) has = named_here name (has (NameOnly name) (inr (inl refl)))
  label_here (text.Join line left right) has = (
    label_here left (λ part h. has part (IsIn-left part (parts_of_label left) (parts_of_label right) h)),
    label_here right (λ part h. has part (IsIn-right part (parts_of_label left) (parts_of_label right) h)),
  )
  label_here (text.Meet line left right) has = (
    label_here left (λ part h. has part (IsIn-left part (parts_of_label left) (parts_of_label right) h)),
    label_here right (λ part h. has part (IsIn-right part (parts_of_label left) (parts_of_label right) h)),
  )

  usage_here : (usage : UseText) → ((part : Part) → IsIn part (parts_of_use usage) → IsIn part parts) → UseIsInScope scope usage
  unfolding parts_of_use
  usage_here usage has name stands = named_here name (has (NameOnly name) (inr (IsIn-map NameOnly name usage.args (IsIn-from name usage.args stands))))

  key_here : (kind : KindText) (usage : UseText) → ((part : Part) → IsIn part (parts_of_key kind usage) → IsIn part parts) → UseIsInScope scope usage
  unfolding parts_of_key
  key_here kind usage has = usage_here usage (λ part h. has part (inr h))

  pub atom_here : (atom : AtomText) → ((part : Part) → IsIn part (parts_of_atom atom) → IsIn part parts) → AtomIsInScope scope atom
  unfolding parts_of_atom
  atom_here atom has name stands =
      passes_where_no_line (is_bound scope name) (line_of name) (keeps (Variable name) (has (Variable name) (inr (IsIn-map Variable name atom.args (IsIn-from name atom.args stands))))).rule_2

  pub partner_here : (partner : Partner) → ((part : Part) → IsIn part (parts_of_partner partner) → IsIn part parts) → AtomIsInScope scope partner.atom × LabelIsInScope scope partner.unless
  unfolding parts_of_partner
  partner_here partner has = (
    atom_here partner.atom (λ part h. has part (IsIn-left part (parts_of_atom partner.atom) (parts_of_label partner.unless) h)),
    label_here partner.unless (λ part h. has part (IsIn-right part (parts_of_atom partner.atom) (parts_of_label partner.unless) h)),
  )

  pub type_here : (type : FieldType) → ((part : Part) → IsIn part (parts_of_type type) → IsIn part parts) → TypeIsInScope scope type
  type_here types.Name has = tt
  type_here types.Any has = tt
  type_here (types.Upto label) has = label_here label has
  type_here (types.Secret label) has = label_here label has
  type_here (types.Key label usage) has = (
    label_here label (λ part h. has part (IsIn-left part (parts_of_label label) (parts_of_use usage) h)),
    usage_here usage (λ part h. has part (IsIn-right part (parts_of_label label) (parts_of_use usage) h)),
  )
  type_here (types.Pk label usage) has = (
    label_here label (λ part h. has part (IsIn-left part (parts_of_label label) (parts_of_key Pke usage) h)),
    key_here Pke usage (λ part h. has part (IsIn-right part (parts_of_label label) (parts_of_key Pke usage) h)),
  )
  type_here (types.Vk label usage) has = (
    label_here label (λ part h. has part (IsIn-left part (parts_of_label label) (parts_of_key Sig usage) h)),
    key_here Sig usage (λ part h. has part (IsIn-right part (parts_of_label label) (parts_of_key Sig usage) h)),
  )

-- No word stands twice where no line is named for that.
like_none : (x : Id) (more : List Id) → map (λ id. id.line) (filter (same_word x) more) ≡ [] → is_among x.word (words_of more) ≡ false
like_none x [] none = refl
like_none x (y ∷ more) none = by_test (same_word x y) none (like_none x more) where
  by_test : (b : Bool) → map (λ id. id.line) (cond b (y ∷ filter (same_word x) more) (filter (same_word x) more)) ≡ []
      → (map (λ id. id.line) (filter (same_word x) more) ≡ [] → is_among x.word (words_of more) ≡ false) → (b || is_among x.word (words_of more)) ≡ false
  by_test true none rest = absurd cc
  by_test false none rest = rest none

pub both_empty : {A : Type 0} (xs ys : List A) → xs ++ ys ≡ [] → (xs ≡ []) × (ys ≡ [])
both_empty [] ys is = (refl, is)
both_empty (x ∷ xs) ys is = absurd cc

pub distinct_words : (ids : List Id) → lines_of_same_names ids ≡ [] → AreDistinct (words_of ids)
distinct_words [] none = tt
distinct_words (x ∷ more) none =
    let parts = both_empty (map (λ (id : Id). id.line) (filter (same_word x) more)) (lines_of_same_names more) none in
    (like_none x more parts.0, distinct_words more parts.1)

later_test : (b c : Bool) → (b || c) ≡ false → (b ≡ false) × (c ≡ false)
later_test false c is = (refl, is)
later_test true c is = absurd cc

not_among_both : (word : List ℕ) (xs ys : List (List ℕ)) → is_among word xs ≡ false → is_among word ys ≡ false → is_among word (xs ++ ys) ≡ false
not_among_both word [] ys one other = other
not_among_both word (x ∷ xs) ys one other =
    let parts = later_test (bytes_eq word x) (is_among word xs) one in
    ap (λ (b : Bool). b || is_among word (xs ++ ys)) parts.0 ∙ not_among_both word xs ys parts.1 other

first_among : (x : List ℕ) (xs : List (List ℕ)) → is_among x (x ∷ xs) ≡ true
first_among x xs = ap (λ (b : Bool). b || is_among x xs) ((bytes_eq-Decides x x).1 refl)

or_true : (b : Bool) → (b || true) ≡ true
or_true true = refl
or_true false = refl

later_among : (word x : List ℕ) (xs : List (List ℕ)) → is_among word xs ≡ true → is_among word (x ∷ xs) ≡ true
later_among word x xs among = ap (λ (b : Bool). bytes_eq word x || b) among ∙ or_true (bytes_eq word x)

-- Words that are distinct, and others that are, of which none is among the first, are distinct together.
distinct_together : (xs ys : List (List ℕ)) → AreDistinct xs → AreDistinct ys → ((word : List ℕ) → is_among word xs ≡ true → is_among word ys ≡ false) → AreDistinct (xs ++ ys)
distinct_together [] ys one other apart = other
distinct_together (x ∷ xs) ys one other apart = (
  not_among_both x xs ys one.0 (apart x (first_among x xs)),
  distinct_together xs ys one.1 other (λ word among. apart word (later_among word x xs among)),
)

-- No field has a parameter's word where no line is named for that.
fields_apart : (words : List (List ℕ)) (ids : List Id) → lines_of_ids_among words ids ≡ [] → (word : List ℕ) → is_among word words ≡ true → is_among word (words_of ids) ≡ false
fields_apart words [] none word among = refl
fields_apart words (id ∷ ids) none word among = by_test (is_among id.word words) refl none (λ rest. fields_apart words ids rest word among) where
  differs : is_among id.word words ≡ false → bytes_eq word id.word ≡ false
  differs not_among = elim (cases_Bool (bytes_eq word id.word)) [
    | inl alike ↦
        let same : word ≡ id.word = (bytes_eq-Decides word id.word).0 alike in
        let there : is_among id.word words ≡ true = subst (λ (w : List ℕ). is_among w words ≡ true) same among in
        absurd cc
    | inr other ↦ other
  ]

  by_test : (b : Bool) → is_among id.word words ≡ b → map (λ i. i.line) (cond b (id ∷ filter (λ i. is_among i.word words) ids) (filter (λ i. is_among i.word words) ids)) ≡ []
      → (lines_of_ids_among words ids ≡ [] → is_among word (words_of ids) ≡ false) → is_among word (words_of (id ∷ ids)) ≡ false
  by_test true is none rest = absurd cc
  by_test false is none rest = ap (λ (b : Bool). b || is_among word (words_of ids)) (differs is) ∙ rest none

usage_words : (params : List Id) → words_of params ≡ words_in (usage_slots params)
usage_words [] = refl
usage_words (param ∷ params) = ap (λ (words : List (List ℕ)). param.word ∷ words) (usage_words params)

-- what holds of the declarations of a file
module _ (file : File) (well_formed : IsWellFormed file) where
  keeps_at : (decl : Decl) → Contains file.decls decl → (place : Place) → IsIn place (decl_places file.decls decl) → HasNoFault file place
  keeps_at decl declared place h = no_fault file well_formed place (of_decl file decl place declared h)

  module _ (event : EventDecl) (declared : Contains file.decls (Event event)) where
    abbrev event_parts : List Part
    event_parts = OfEvent event ∷ Bound (param_names event.params) ∷ flat_map parts_of_partner event.after

    event_keeps : (part : Part) → IsIn part event_parts → HasNoFault file (record { scope = event_scope event; part = part })
    event_keeps part h = keeps_at (Event event) declared (record { scope = event_scope event; part = part }) (IsIn-map (λ (p : Part). record { scope = event_scope event; part = p }) part event_parts h)

    pub event_words_distinct : AreDistinct (words_in (event_slots event.params))
    event_words_distinct =
        subst AreDistinct (param_words event.params)
        (distinct_words (param_names event.params) (event_keeps (Bound (param_names event.params)) (inr (inl refl))).rule_5)

    pub event_partner_in_scope : (partner : Partner) → Contains event.after partner → AtomIsInScope (event_scope event) partner.atom × LabelIsInScope (event_scope event) partner.unless
    event_partner_in_scope partner has =
        partner_here file (event_scope event) refl event_parts event_keeps partner
        (λ part h. inr (inr (IsIn-flat_map parts_of_partner partner part event.after (IsIn-from partner event.after has) h)))

  module _ (state : StateDecl) (declared : Contains file.decls (State state)) where
    abbrev state_parts : List Part
    state_parts = Bound (field_names state.fields) ∷ (flat_map (λ field. parts_of_type field.kind) state.fields ++ flat_map parts_of_partner state.knows)

    state_keeps : (part : Part) → IsIn part state_parts → HasNoFault file (record { scope = state_scope state; part = part })
    state_keeps part h = keeps_at (State state) declared (record { scope = state_scope state; part = part }) (IsIn-map (λ (p : Part). record { scope = state_scope state; part = p }) part state_parts h)

    pub state_words_distinct : AreDistinct (words_in (field_slots state.fields))
    state_words_distinct =
        subst AreDistinct (field_words state.fields)
        (distinct_words (field_names state.fields) (state_keeps (Bound (field_names state.fields)) (inl refl)).rule_5)

    pub state_type_in_scope : (field : Field) → Contains state.fields field → TypeIsInScope (state_scope state) field.kind
    state_type_in_scope field has =
        type_here file (state_scope state) refl state_parts state_keeps field.kind
        (λ part h. inr (IsIn-left part (flat_map (λ (f : Field). parts_of_type f.kind) state.fields) (flat_map parts_of_partner state.knows)
        (IsIn-flat_map (λ (f : Field). parts_of_type f.kind) field part state.fields (IsIn-from field state.fields has) h)))

    pub state_partner_in_scope : (partner : Partner) → Contains state.knows partner → AtomIsInScope (state_scope state) partner.atom × LabelIsInScope (state_scope state) partner.unless
    state_partner_in_scope partner has =
        partner_here file (state_scope state) refl state_parts state_keeps partner
        (λ part h. inr (IsIn-right part (flat_map (λ (f : Field). parts_of_type f.kind) state.fields) (flat_map parts_of_partner state.knows)
        (IsIn-flat_map parts_of_partner partner part state.knows (IsIn-from partner state.knows has) h)))

  module _ (case : CaseDecl) (declared : Contains file.decls (Case case)) where
    abbrev pub case_parts : List Part
    case_parts = OfCase case ∷ Bound (field_names case.fields) ∷ (flat_map (λ field. parts_of_type field.kind) case.fields ++ flat_map parts_of_atom case.requires_)

    abbrev pub scope_of_case : Scope
    scope_of_case = case_scope file.decls case

    pub case_keeps : (part : Part) → IsIn part case_parts → HasNoFault file (record { scope = scope_of_case; part = part })
    case_keeps part h = keeps_at (Case case) declared (record { scope = scope_of_case; part = part }) (IsIn-map (λ (p : Part). record { scope = scope_of_case; part = p }) part case_parts h)

    pub case_type_in_scope : (field : Field) → Contains case.fields field → TypeIsInScope (case_scope file.decls case) field.kind
    case_type_in_scope field has =
        type_here file scope_of_case refl case_parts case_keeps field.kind
        (λ part h. inr (inr (IsIn-left part (flat_map (λ (f : Field). parts_of_type f.kind) case.fields) (flat_map parts_of_atom case.requires_)
        (IsIn-flat_map (λ (f : Field). parts_of_type f.kind) field part case.fields (IsIn-from field case.fields has) h))))

    pub case_atom_in_scope : (atom : AtomText) → Contains case.requires_ atom → AtomIsInScope (case_scope file.decls case) atom
    case_atom_in_scope atom has =
        atom_here file scope_of_case refl case_parts case_keeps atom
        (λ part h. inr (inr (IsIn-right part (flat_map (λ (f : Field). parts_of_type f.kind) case.fields) (flat_map parts_of_atom case.requires_)
        (IsIn-flat_map parts_of_atom atom part case.requires_ (IsIn-from atom case.requires_ has) h))))

    params_distinct : AreDistinct (words_of (params_named file.decls case.usage.word))
    params_distinct = from (usage_named file.decls case.usage.word) refl where
      from : (found : Option UsageDecl) → usage_named file.decls case.usage.word ≡ found → AreDistinct (words_of (option_map_or (λ u. u.params) found []))
      from None is = tt
      from (Some usage) is =
          let at = usage_is_declared file.decls case.usage.word usage is in
          distinct_words usage.params (keeps_at (Usage usage) at (record { scope = no_scope; part = Bound usage.params }) (inr (inl refl))).rule_5

    pub case_words_distinct : AreDistinct (words_in (case_slots file.decls case))
    case_words_distinct =
        subst AreDistinct
        (ap (λ (words : List (List ℕ)). words ++ words_of (field_names case.fields)) (usage_words (params_named file.decls case.usage.word))
        ∙ ap (λ (words : List (List ℕ)). words_in (usage_slots (params_named file.decls case.usage.word)) ++ words) (field_words case.fields)
        ∙ sym (map-append (λ (slot : Slot). slot.word) (usage_slots (params_named file.decls case.usage.word)) (field_slots case.fields)))
        (distinct_together (words_of (params_named file.decls case.usage.word)) (words_of (field_names case.fields)) params_distinct
        (distinct_words (field_names case.fields) (case_keeps (Bound (field_names case.fields)) (inr (inl refl))).rule_5)
        (fields_apart (words_of (params_named file.decls case.usage.word)) (field_names case.fields) (case_keeps (OfCase case) (inl refl)).rule_5))
