-- After `new`: the nonce has the label and the usage that are written, and what is known holds.
use Rattle.std.proofs.Common.{◌≡◌, ℕ, List, [], ◌∷◌, ◌++◌, length, Option, Some, None, inl, inr, sym, ap, subst, ◌∙◌}
use Rattle.std.specs.List.{slice_get}
use Rattle.dy_term.specs.Terms.{Nonce}
use Rattle.dy_label.specs.Labels.{Label}
use Rattle.dy_label.specs.Words.{StaticLabel, Choice, meaning_of}
use Rattle.dy_label.specs.declared.usages.Usage.{Usage}
use Rattle.dy_types.specs.Claims as claims
use Rattle.dy_types.specs.Claims.{StaticUse, Claim, Known}
use Rattle.dy_syntax.specs.Names.{Id, UseText}
use Rattle.dy_syntax.specs.Labels.{LabelText}
use Rattle.dy_syntax.specs.Statements as statements
use Rattle.dy_syntax.specs.Statements.{Statement}
use Rattle.dy_syntax.specs.Files.{Decl}
use Rattle.dy_syntax.specs.Scopes.{words_of, handler_names}
use Rattle.dy_syntax.specs.Parts.{parts_of_use, parts_of_label}
use Rattle.dy_typing.specs.Names.{number_in}
use Rattle.dy_typing.specs.Instances.{label_in, use_in}
use Rattle.dy_typing.specs.Knowledge.{bind}
use Rattle.dy_typing.specs.Effects.{fresh}
use Rattle.dy_entry.specs.Entries.{Entry, Fresh}
use Rattle.dy_entry.specs.LookUps.{newest}
use Rattle.dy_entry.specs.ValueLabels.{label_of, label_of_nonce}
use Rattle.dy_eval.specs.declared.written.Written.{Written}
use Rattle.dy_eval.specs.declared.items.Item.{Item}
use Rattle.dy_eval.specs.declared.items.Item.TheVariants as items
use Rattle.dy_eval.specs.Doings.{Puts}
use Rattle.dy_eval.specs.Lines.{kind_of_usage}
use Rattle.dy_eval.specs.Names.{write}
use Rattle.dy_eval.specs.Readers.{label_for, usage_for}
use Rattle.dy_eval.specs.Runs.{nonce_due}
use Rattle.dy_sound.specs.LawsBelow.{LawsBelow}
use Rattle.dy_sound.specs.Usages.{usage_of, usage_of_nonce}
use Rattle.dy_sound.specs.Flows.{Flows}
use Rattle.dy_sound.specs.Knowledge.{usage_chosen, ClaimHolds, KnownHolds, Holds}
use Rattle.dy_sound.specs.StatementsAreSound.{PutsSoundly, HoldsPut}
use Rattle.dy_sound.proofs.Lists.{Contains-none, Contains-cases, in_last}
use Rattle.dy_sound.proofs.LongerValid.{valid_is_made}
use Rattle.dy_sound.proofs.LongerKnowledge.{knowledge_still}
use Rattle.dy_sound.proofs.OneMore.{numbered_made}
use Rattle.dy_sound.proofs.Bound.{bound_holds}
use Rattle.dy_sound.proofs.WrittenWords.{own_label_means, own_usage_means}
use Rattle.dy_sound.proofs.MatchesAt.{handler_matches}
use Rattle.dy_sound.proofs.StatementParts.{IsIn-left, IsIn-right}
use Rattle.dy_sound.proofs.NamesAt.{label_in_scope, usage_in_scope}

module _ (decls : List Decl) (T : List Entry) (choice : Choice) (instance : ℕ) (label : Label) (usage : Usage) (static : StaticLabel) (use_ : StaticUse)
    (label_is : meaning_of choice static ≡ label) (usage_is : usage_chosen decls choice use_ ≡ usage) where
  abbrev longer : List Entry
  longer = T ++ Fresh instance label usage ∷ []

  stands : slice_get longer (length T) ≡ Some (Fresh instance label usage)
  stands = in_last T (Fresh instance label usage)

  own_label : label_of longer (Nonce (length T)) ≡ meaning_of choice static
  own_label = ap label_of_nonce stands ∙ sym label_is

  own_usage : usage_of decls longer (Nonce (length T)) ≡ Some (usage_chosen decls choice use_)
  own_usage = ap usage_of_nonce stands ∙ ap Some (sym usage_is)

  -- What is known of a fresh nonce holds of it.
  pub fresh_is_known : KnownHolds decls longer choice (Nonce (length T)) (fresh static use_)
  fresh_is_known = record {
    is_open_by_hi = subst (λ (l : Label). Flows longer (meaning_of choice static) l) (sym own_label) (record { opens = λ C over opened. opened });
    opens_lo = subst (λ (l : Label). Flows longer l (meaning_of choice static)) (sym own_label) (record { opens = λ C over opened. opened });
    claims_hold = λ claim has. elim (Contains-cases (claims.Use use_) [] claim has) [
      | inl same ↦ subst (ClaimHolds decls longer choice (Nonce (length T))) same (inl own_usage)
      | inr none ↦ absurd (Contains-none claim none)
    ];
  }

put_fresh : (made item : Item) (word : List ℕ) (binds : Option (List ℕ)) → Puts made (Some word) ≡ Puts item binds → (made ≡ item) × (Some word ≡ binds)
put_fresh made item word binds is = (cc, cc)

pub new_is_sound : LawsBelow → (name : Id) (usage : UseText) (label : LabelText) → PutsSoundly (statements.New name usage label)
new_is_sound below name usage label file T X handler done line names choice k instance item binds at effect knows =
    let decls = file.decls in
    let statement : Statement = record { line = line; act = statements.New name usage label } in
    let hw = words_of (handler_names handler) in
    let at_start = newest X names.principal names.session in
    let put = put_fresh (items.Fresh (label_for names at_start label) (usage_for names (kind_of_usage decls usage.usage.word) usage)) item name.word binds effect in
    let matches = handler_matches handler at_start names (nonce_due binds (length T)) choice at.running.names_are_principals knows.agrees in
    let label_read = label_in_scope file T X handler done statement names k at label (λ part h. IsIn-right part (parts_of_use usage) (parts_of_label label) h) in
    let usage_read = usage_in_scope file T X handler done statement names k at usage (λ part h. IsIn-left part (parts_of_use usage) (parts_of_label label) h) in
    let label_is = own_label_means decls hw at_start names choice matches label label_read in
    let usage_is = own_usage_means decls hw at_start names choice matches usage usage_read in
    let known = fresh_is_known decls T choice instance (label_for names at_start label) (usage_for names (kind_of_usage decls usage.usage.word) usage)
    (label_in (number_in hw) None label) (use_in (number_in hw) usage) label_is usage_is in
    let e = Fresh instance (label_for names at_start label) (usage_for names (kind_of_usage decls usage.usage.word) usage) in
    let still = knowledge_still below decls T (e ∷ []) choice names k (numbered_made T names (λ w has. valid_is_made decls T w.bytes (at.running.values_are_valid w has))) knows.holds in
    let written : Written = record { word = name.word; bytes = Nonce (length T) } in
    let then = bound_holds decls (T ++ e ∷ []) choice names k still written (fresh (label_in (number_in hw) None label) (use_in (number_in hw) usage)) known in
    subst (λ (i : Item). HoldsPut decls T choice names instance i binds (bind k name.word (fresh (label_in (number_in hw) None label) (use_in (number_in hw) usage)))) put.0
    (record {
      item_is_good = tt;
      holds = subst (λ (b : Option (List ℕ)). Holds decls (T ++ e ∷ []) choice (write names (nonce_due b (length T))) (bind k name.word (fresh (label_in (number_in hw) None label) (use_in (number_in hw) usage)))) put.1 then;
    })
