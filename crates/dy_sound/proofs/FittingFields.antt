-- A value that fits a field's type in a handler meets the type in a trace.
use Rattle.std.proofs.Common.{◌≡◌, ℕ, true, List, Option, Some, refl, ap, subst}
use Rattle.dy_term.specs.Terms as trees
use Rattle.dy_term.specs.Terms.{Term}
use Rattle.dy_label.specs.Labels.{Label}
use Rattle.dy_label.specs.Words.{Atom, StaticLabel, Choice, meaning_of, Implies}
use Rattle.dy_label.specs.declared.usages.Usage.{Usage}
use Rattle.dy_types.specs.Claims.{Known}
use Rattle.dy_types.specs.FieldTypes.{Fits}
use Rattle.dy_syntax.specs.Declarations as types
use Rattle.dy_syntax.specs.Declarations.{FieldType}
use Rattle.dy_syntax.specs.Scopes.{Scope, is_name_type}
use Rattle.dy_typing.specs.Names.{Setting, Stands, stands_number}
use Rattle.dy_typing.specs.Instances.{label_in, type_in}
use Rattle.dy_entry.specs.Entries.{Entry}
use Rattle.dy_entry.specs.ValueLabels.{label_of}
use Rattle.dy_eval.specs.Names.{Names, principal_in}
use Rattle.dy_sound.specs.Flows.{Flows}
use Rattle.dy_sound.specs.Words.{Words, usage_meant}
use Rattle.dy_sound.specs.Fields.{HasUse, IsPkFor, IsVkFor, IsName, Meets}
use Rattle.dy_sound.specs.Knowledge.{KnownHolds}
use Rattle.dy_sound.specs.InScope.{TypeIsInScope}
use Rattle.dy_sound.specs.Matches.{Matches}
use Rattle.dy_sound.specs.LawsBelow.{LawsBelow}
use Rattle.dy_sound.proofs.Weaker.{use_holds, pk_holds, vk_holds}
use Rattle.dy_sound.proofs.WordsMeant.{label_means, usage_means}

-- A value that names a principal is the principal's name.
pub named_bytes : (value : Term) (principal : List ℕ) → principal_in value ≡ Some principal → value ≡ trees.Name principal
named_bytes (trees.Name own) principal is = let same : own ≡ principal = cc in ap trees.Name same
named_bytes value principal is = absurd cc

module _ (below : LawsBelow) (T : List Entry) (setting : Setting) (choice : Choice) (names : Names) (scope : Scope) (stands : Stands) (here : Option Atom) (words : Words)
    (matches : Matches setting choice names scope stands here words) (value : Term) (known : Known) (h : KnownHolds setting.decls T choice value known) where
  flows_to : (label : StaticLabel) → Implies label known.hi → Flows T (meaning_of choice label) (label_of T value)
  flows_to label implies = record { opens = λ C over opened. h.is_open_by_hi.opens C over (implies choice C opened) }

  flows_from : (label : StaticLabel) → Implies known.lo label → Flows T (label_of T value) (meaning_of choice label)
  flows_from label implies = record { opens = λ C over opened. implies choice C (h.opens_lo.opens C over opened) }

  pub fits_meets : (type : FieldType) → TypeIsInScope scope type → (is_name_type type ≡ true → IsName value)
      → Fits known (type_in (stands_number setting stands) here type) → Meets setting.decls T words value type
  fits_meets types.Name read name fits = name refl
  fits_meets types.Any read name fits = tt
  fits_meets (types.Upto label) read name fits =
      subst (λ (l : Label). Flows T l (label_of T value)) (label_means setting choice names scope stands here words matches label read) (flows_to _ fits)
  fits_meets (types.Secret label) read name fits =
      let same = label_means setting choice names scope stands here words matches label read in (
        subst (λ (l : Label). Flows T l (label_of T value)) same (flows_to _ fits.0),
        subst (λ (l : Label). Flows T (label_of T value) l) same (flows_from _ fits.1),
      )
  fits_meets (types.Key label usage) read name fits =
      let same = label_means setting choice names scope stands here words matches label read.0 in
      let same_usage = usage_means setting choice names scope stands here words matches usage read.1 in (
        subst (λ (l : Label). Flows T l (label_of T value)) same (flows_to _ fits.0),
        subst (λ (l : Label). Flows T (label_of T value) l) same (flows_from _ fits.1),
        subst (λ (u : Usage). HasUse setting.decls T value u) same_usage (use_holds below setting.decls T choice value known h _ fits.2),
      )
  fits_meets (types.Pk label usage) read name fits =
      let same = label_means setting choice names scope stands here words matches label read.0 in
      let same_usage = usage_means setting choice names scope stands here words matches usage read.1 in
      subst (λ (l : Label). IsPkFor setting.decls T value l (usage_meant setting.decls words usage)) same
      (subst (λ (u : Usage). IsPkFor setting.decls T value (meaning_of choice (label_in (stands_number setting stands) here label)) u) same_usage
      (pk_holds below setting.decls T choice value known h _ _ fits))
  fits_meets (types.Vk label usage) read name fits =
      let same = label_means setting choice names scope stands here words matches label read.0 in
      let same_usage = usage_means setting choice names scope stands here words matches usage read.1 in
      subst (λ (l : Label). IsVkFor setting.decls T value l (usage_meant setting.decls words usage)) same
      (subst (λ (u : Usage). IsVkFor setting.decls T value (meaning_of choice (label_in (stands_number setting stands) here label)) u) same_usage
      (vk_holds below setting.decls T choice value known h _ _ fits))
