-- What is known of fields, where it is said what stands for the words of their declaration.
use Rattle.std.proofs.Common.{◌≡◌, List, map, fold, zip, Option, Some, None, ap}
use Rattle.dy_label.specs.Labels.{Nobody}
use Rattle.dy_label.specs.Words.{Atom, StaticLabel}
use Rattle.dy_types.specs.Claims.{Known}
use Rattle.dy_types.specs.FieldTypes.{Declared, narrow_by}
use Rattle.dy_syntax.specs.Names.{Nm}
use Rattle.dy_syntax.specs.Declarations.{CaseDecl, StateDecl}
use Rattle.dy_syntax.specs.Statements.{Pattern}
use Rattle.dy_typing.specs.Names.{Setting, Stands, case_stands, state_stands, patterns_names}
use Rattle.dy_typing.specs.Knowledge.{Knowledge}
use Rattle.dy_typing.specs.Effects.{open_case, open_state, check_fields, match_fields, types_in, case_events, state_events, add_guarded, add_checked}

pub open_case-stands : (setting : Setting) (k : Knowledge) (knowing : Declared → Known) (guard : StaticLabel) (args : List Nm) (pats : List Pattern) (case : CaseDecl)
    (stands : Stands) → stands ≡ case_stands setting.decls args case (patterns_names pats)
    → fold add_guarded (match_fields k pats (map knowing (types_in setting stands None case.fields))) (case_events stands guard case)
    ≡ open_case setting k knowing guard args pats case
open_case-stands setting k knowing guard args pats case stands is =
    ap (λ (s : Stands). fold add_guarded (match_fields k pats (map knowing (types_in setting s None case.fields))) (case_events s guard case)) is

pub open_state-stands : (setting : Setting) (k : Knowledge) (here : Option Atom) (pats : List Pattern) (state : StateDecl)
    (stands : Stands) → stands ≡ state_stands state (patterns_names pats)
    → fold add_guarded (match_fields k pats (map (λ type. narrow_by type Nobody Nobody) (types_in setting stands here state.fields))) (state_events setting stands here state)
    ≡ open_state setting k here pats state
open_state-stands setting k here pats state stands is =
    ap (λ (s : Stands). fold add_guarded (match_fields k pats (map (λ type. narrow_by type Nobody Nobody) (types_in setting s here state.fields))) (state_events setting s here state)) is

pub check_fields-stands : (setting : Setting) (k : Knowledge) (guard : StaticLabel) (usage_args args : List Nm) (case : CaseDecl)
    (stands : Stands) → stands ≡ case_stands setting.decls usage_args case (map Some args)
    → fold add_guarded (fold (add_checked guard) k (zip args (types_in setting stands None case.fields))) (case_events stands guard case)
    ≡ check_fields setting k guard usage_args args case
check_fields-stands setting k guard usage_args args case stands is =
    ap (λ (s : Stands). fold add_guarded (fold (add_checked guard) k (zip args (types_in setting s None case.fields))) (case_events s guard case)) is
