-- A tuple that a handler seals, its demands being met, is sealed by the rules or by someone who may.
use Rattle.std.proofs.Common.{◌≡◌, ℕ, suc, List, [], ◌∷◌, map, zip, length, Contains, Option, Some, None, ◌⊎◌, inl, inr, refl, sym, subst}
use Rattle.std.specs.Option.{option_map_or}
use Rattle.dy_term.specs.Terms.{Term}
use Rattle.dy_term.specs.Tuples.{tagged_tuple}
use Rattle.dy_label.specs.Words.{StaticLabel, Choice, meaning_of}
use Rattle.dy_label.specs.declared.usages.Usage.{Usage}
use Rattle.dy_syntax.specs.Names.{Nm, KindText, UseText, AtomText}
use Rattle.dy_syntax.specs.Declarations.{Field, CaseDecl}
use Rattle.dy_syntax.specs.Expressions.{Expr}
use Rattle.dy_syntax.specs.Files.{Decl}
use Rattle.dy_syntax.specs.Scopes.{params_named, case_scope}
use Rattle.dy_typing.specs.Names.{Setting, Stands, name_number, stands_number, case_stands, exprs_names, atom_names}
use Rattle.dy_typing.specs.Instances.{use_in, type_in}
use Rattle.dy_typing.specs.Knowledge.{Knowledge}
use Rattle.dy_typing.specs.Expressions.{known_of_expr}
use Rattle.dy_typing.specs.Demands.{Sealing, Fitted, Demand, FieldFits, EventStands, Seals, numbered_from, requirement_of, sealing_of, case_field_demands, field_demands, case_event_demands, event_demands}
use Rattle.dy_typing.specs.Conditions.{IsPublic, sealer_hi, IsMet, AreMet}
use Rattle.dy_entry.specs.Entries.{Entry}
use Rattle.dy_entry.specs.LookUps.{corruptions}
use Rattle.dy_eval.specs.Names.{Names, bytes_for}
use Rattle.dy_eval.specs.Values.{value}
use Rattle.dy_sound.specs.Usages.{usage_of}
use Rattle.dy_sound.specs.Flows.{IsShown}
use Rattle.dy_sound.specs.Words.{Words, case_words}
use Rattle.dy_sound.specs.Events.{HasHappenedFor}
use Rattle.dy_sound.specs.Fields.{AllMeet}
use Rattle.dy_sound.specs.Cases.{CaseHolds}
use Rattle.dy_sound.specs.Knowledge.{usage_chosen, Holds}
use Rattle.dy_sound.specs.InScope.{TypeIsInScope, AtomIsInScope}
use Rattle.dy_sound.specs.Matches.{scope_in, HandlerMatches, Matches}
use Rattle.dy_sound.specs.Sealings.{FillFields, IsOfCase}
use Rattle.dy_sound.specs.Expressions.{ExprsHold}
use Rattle.dy_sound.specs.LawsBelow.{LawsBelow}
use Rattle.dy_sound.proofs.Lists.{Contains-none, Contains-first, Contains-later, Contains-cases}
use Rattle.dy_sound.proofs.KnownNames.{happened_or_shown}
use Rattle.dy_sound.proofs.KnownTuples.{AllHold}
use Rattle.dy_sound.proofs.WordsMeant.{args_mean}
use Rattle.dy_sound.proofs.DeclarationWords.{case_matches}
use Rattle.dy_sound.proofs.FittingFields.{fits_meets}
use Rattle.dy_sound.proofs.SealedFields.{case_of_usage, owners_are_given, fields_are_given, name_fills}

-- What all may know is shown.
pub shown_if_public : (T : List Entry) (choice : Choice) (label : StaticLabel) → IsPublic label → IsShown T (meaning_of choice label)
shown_if_public T choice label public = record { is_open_now = public choice (corruptions T) refl }

pub all_hold : (decls : List Decl) (T : List Entry) (choice : Choice) (names : Names) (k : Knowledge) (exprs : List Expr) → ExprsHold decls T choice names k exprs
    → AllHold decls T choice (map (value names) exprs) (map (known_of_expr decls k) exprs)
all_hold decls T choice names k [] hold = tt
all_hold decls T choice names k (expr ∷ exprs) hold = (hold.0.known_holds, all_hold decls T choice names k exprs hold.1)

module _ (below : LawsBelow) (T : List Entry) (setting : Setting) (choice : Choice) (newest : ℕ) (names : Names) (k : Knowledge)
    (handler : HandlerMatches setting.names newest names choice) (h : Holds setting.decls T choice names k)
    (kind : KindText) (key : Nm) (usage : UseText) (tag : List ℕ) (exprs : List Expr)
    (of_case : IsOfCase setting.decls (scope_in setting.names names) usage tag exprs) where
  abbrev sealing : Sealing
  sealing = sealing_of setting kind key usage exprs

  -- the usage that the handler's usage stands for
  abbrev pub sealed_usage : Usage
  sealed_usage = usage_chosen setting.decls choice (use_in (name_number setting) usage)

  abbrev sealed_stands : Stands
  sealed_stands = case_stands setting.decls usage.args of_case.case (exprs_names exprs)

  abbrev sealed_words : Words
  sealed_words = case_words setting.decls sealed_usage.owners of_case.case (map (value names) exprs)

  -- Those who may seal the tuple are all.
  abbrev pub SealerIsShown : Type 0
  SealerIsShown = IsShown T (meaning_of choice (sealer_hi setting.decls k sealing))

  sealed_matches : Matches setting choice names (case_scope setting.decls of_case.case) sealed_stands None sealed_words
  sealed_matches =
      let usage_is = case_of_usage setting.decls usage.usage.word tag of_case.case of_case.is_declared in
      let count : length usage.args ≡ length (params_named setting.decls of_case.case.usage.word) =
      subst (λ (u : List ℕ). length usage.args ≡ length (params_named setting.decls u)) (sym usage_is) of_case.owners_count in
      case_matches setting choice names of_case.case usage.args sealed_usage.owners (exprs_names exprs) (map (value names) exprs) of_case.in_scope.distinct
      (owners_are_given setting choice newest names handler (params_named setting.decls of_case.case.usage.word) usage.args count of_case.owners)
      (fields_are_given setting choice newest names handler of_case.case.fields exprs of_case.fill)

  abbrev fitted_field : ℕ → Field × Expr → Fitted
  fitted_field = λ n pair. record { number = n; type = type_in (stands_number setting sealed_stands) None pair.0.kind; value = pair.1 }

  -- Each field meets its type, or all may seal the tuple.
  fields_meet : (n : ℕ) (fields : List Field) (values : List Expr) → FillFields (scope_in setting.names names) fields values
      → ExprsHold setting.decls T choice names k values → ((field : Field) → Contains fields field → TypeIsInScope (case_scope setting.decls of_case.case) field.kind)
      → AreMet setting.decls k (map (FieldFits sealing) (numbered_from n fitted_field (zip fields values)))
      → AllMeet setting.decls T sealed_words fields (map (value names) values) ⊎ SealerIsShown
  fields_meet n [] [] fill hold read met = inl tt
  fields_meet n [] (expr ∷ values) fill hold read met = absurd fill
  fields_meet n (field ∷ fields) [] fill hold read met = absurd fill
  fields_meet n (field ∷ fields) (expr ∷ values) fill hold read met =
      let rest = map (FieldFits sealing) (numbered_from (suc n) fitted_field (zip fields values)) in
      let own : Demand = FieldFits sealing (fitted_field n (field, expr)) in
      let later = fields_meet (suc n) fields values fill.1 hold.1 (λ (other : Field) (has : Contains fields other). read other (Contains-later field fields other has))
      (λ (demand : Demand) (has : Contains rest demand). met demand (Contains-later own rest demand has)) in
      let first : IsMet setting.decls k own = met own (Contains-first own rest) in
      elim first [
        | inr public ↦ inr (shown_if_public T choice (sealer_hi setting.decls k sealing) public)
        | inl fits ↦ elim later [
          | inr shown ↦ inr shown
          | inl others ↦ inl (
            fits_meets below T setting choice names (case_scope setting.decls of_case.case) sealed_stands None sealed_words sealed_matches
                (value names expr) (known_of_expr setting.decls k expr) hold.0.known_holds field.kind (read field (Contains-first field fields))
                (name_fills setting choice newest names handler field expr fill.0) fits,
            others,
          )
        ]
      ]

  -- The event stands for the case, or all may seal the tuple.
  event_stands_or_shown : (n : ℕ) (atom : AtomText) → AtomIsInScope (case_scope setting.decls of_case.case) atom
      → IsMet setting.decls k (EventStands sealing (requirement_of sealed_stands n atom)) → HasHappenedFor T sealed_words atom ⊎ SealerIsShown
  event_stands_or_shown n atom read (inr public) = inr (shown_if_public T choice (sealer_hi setting.decls k sealing) public)
  event_stands_or_shown n atom read (inl known) =
      elim (happened_or_shown setting.decls T choice names k h below atom.event.word (sealer_hi setting.decls k sealing) (atom_names sealed_stands atom) known) [
        | inr shown ↦ inr shown
        | inl found ↦ inl (record {
          args = map (bytes_for names) found.0;
          args_are = args_mean setting choice names (case_scope setting.decls of_case.case) sealed_stands None sealed_words sealed_matches atom found.0 read found.1;
          has_happened = found.2;
        })
      ]

  -- Each event of the case stands, or all may seal the tuple.
  events_stand : (n : ℕ) (atoms : List AtomText) → ((atom : AtomText) → Contains atoms atom → AtomIsInScope (case_scope setting.decls of_case.case) atom)
      → AreMet setting.decls k (map (EventStands sealing) (numbered_from n (requirement_of sealed_stands) atoms))
      → ((atom : AtomText) → Contains atoms atom → HasHappenedFor T sealed_words atom) ⊎ SealerIsShown
  events_stand n [] read met = inl (λ (atom : AtomText) (none : Contains [] atom). absurd (Contains-none atom none))
  events_stand n (atom ∷ atoms) read met =
      let rest = map (EventStands sealing) (numbered_from (suc n) (requirement_of sealed_stands) atoms) in
      let own : Demand = EventStands sealing (requirement_of sealed_stands n atom) in
      let later = events_stand (suc n) atoms (λ (other : AtomText) (has : Contains atoms other). read other (Contains-later atom atoms other has))
      (λ (demand : Demand) (has : Contains rest demand). met demand (Contains-later own rest demand has)) in
      elim (event_stands_or_shown n atom (read atom (Contains-first atom atoms)) (met own (Contains-first own rest))) [
        | inr shown ↦ inr shown
        | inl stands ↦ elim later [
          | inr shown ↦ inr shown
          | inl others ↦ inl (λ (other : AtomText) (has : Contains (atom ∷ atoms) other). elim (Contains-cases atom atoms other has) [
            | inl is ↦ subst (λ (one : AtomText). HasHappenedFor T sealed_words one) is stands
            | inr after ↦ others other after
          ])
        ]
      ]

  -- Where the key has the usage, the case holds of the tuple, or all may seal it.
  pub case_or_shown : (own : Term) → usage_of setting.decls T own ≡ Some sealed_usage → ExprsHold setting.decls T choice names k exprs
      → AreMet setting.decls k (field_demands setting (Seals kind key usage tag exprs)) → AreMet setting.decls k (event_demands setting (Seals kind key usage tag exprs))
      → CaseHolds setting.decls T own (tagged_tuple tag (map (value names) exprs)) ⊎ SealerIsShown
  case_or_shown own has_usage hold fields_met events_met =
      let demands = subst (λ (case : Option CaseDecl). AreMet setting.decls k (option_map_or (case_field_demands setting sealing usage.args) case []))
      of_case.is_declared fields_met in
      let event_demands_met = subst (λ (case : Option CaseDecl). AreMet setting.decls k (option_map_or (case_event_demands setting sealing usage.args) case []))
      of_case.is_declared events_met in
      elim (fields_meet 1 of_case.case.fields exprs of_case.fill hold of_case.in_scope.types demands) [
        | inr shown ↦ inr shown
        | inl fields ↦ elim (events_stand 1 of_case.case.requires_ of_case.in_scope.events event_demands_met) [
          | inr shown ↦ inr shown
          | inl events ↦ inl (record {
            usage = sealed_usage;
            has_usage = has_usage;
            tag = tag;
            fields = map (value names) exprs;
            message_is = refl;
            case = of_case.case;
            is_declared = of_case.is_declared;
            fields_meet = fields;
            events_stand = events;
          })
        ]
      ]
