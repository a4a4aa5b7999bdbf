-- After `certify`: the key that is certified is a public or a verification key of its owner.
use Rattle.std.proofs.Common.{◌≡◌, ℕ, List, [], ◌∷◌, Some, inl, inr, refl, ap, subst, ◌∙◌}
use Rattle.std.specs.Option.{option_and_then}
use Rattle.dy_term.specs.Terms as trees
use Rattle.dy_term.specs.Terms.{Term}
use Rattle.dy_label.specs.Labels.{Label, One, Principal}
use Rattle.dy_label.specs.declared.usages.Kind as kind
use Rattle.dy_label.specs.declared.usages.Kind.TheVariants as kinds
use Rattle.dy_label.specs.declared.usages.Usage.{Usage}
use Rattle.dy_syntax.specs.Names.{Id, Named}
use Rattle.dy_syntax.specs.Statements as statements
use Rattle.dy_syntax.specs.Files.{Decl}
use Rattle.dy_typing.specs.Knowledge.{known_of}
use Rattle.dy_typing.specs.Demands.{Certifies}
use Rattle.dy_entry.specs.Entries.{Entry}
use Rattle.dy_entry.specs.ValueLabels.{label_of}
use Rattle.dy_eval.specs.declared.items.Item.TheVariants as items
use Rattle.dy_eval.specs.Effects.{public_key}
use Rattle.dy_eval.specs.Lines.{kind_of_usage}
use Rattle.dy_eval.specs.Names.{bytes_at}
use Rattle.dy_eval.specs.Values.{if_small}
use Rattle.dy_traces.specs.Instances.{entry_for}
use Rattle.dy_sound.specs.Usages.{usage_with}
use Rattle.dy_sound.specs.Flows.{Flows}
use Rattle.dy_sound.specs.Fields.{HasUse}
use Rattle.dy_sound.specs.Valid.{IsValid, MayBeKnown}
use Rattle.dy_sound.specs.Good.{IsKeyOfKind, IsGoodCert}
use Rattle.dy_sound.specs.LawsBelow.{LawsBelow}
use Rattle.dy_sound.proofs.Lists.{Contains-first}
use Rattle.dy_sound.proofs.DerivedValues.{shown_by_flow}
use Rattle.dy_sound.proofs.KnownNames.{name_is_valid, known_of_name}
use Rattle.dy_sound.proofs.Weaker.{use_holds}
use Rattle.dy_sound.proofs.ItemsPut.{puts_is, if_small_is, and_then_is, holds_still}
use Rattle.dy_sound.specs.StatementsAreSound.{PutsSoundly, IsGoodItem}

module _ (below : LawsBelow) (decls : List Decl) (T : List Entry) (key : Term) (label : Label) (usage : Usage)
    (valid : IsValid decls T key) (has : HasUse decls T key usage) (opens : Flows T (label_of T key) label) where
  -- A public key of a key with this usage may be known, and belongs to it.
  pub public_key_belongs : (kind : kind.Kind) (made : Term) → public_key kind key ≡ Some made
      → MayBeKnown decls T made × IsKeyOfKind kind decls T made label usage
  public_key_belongs kinds.Pke made is =
      let same : trees.Pk key ≡ made = cc in
      subst (λ (t : Term). MayBeKnown decls T t × IsKeyOfKind kinds.Pke decls T t label usage) same (
        record { valid = valid; shown = record { is_open_now = refl } },
        elim has [
          | inl of_key ↦ inl (record { key = key; value_is = refl; has_usage = of_key; opens = opens })
          | inr shown ↦ inr (shown_by_flow below decls T opens shown)
        ],
      )
  public_key_belongs kinds.Sig made is =
      let same : trees.Vk key ≡ made = cc in
      subst (λ (t : Term). MayBeKnown decls T t × IsKeyOfKind kinds.Sig decls T t label usage) same (
        record { valid = valid; shown = record { is_open_now = refl } },
        elim has [
          | inl of_key ↦ inl (record { key = key; value_is = refl; has_usage = of_key; opens = opens })
          | inr shown ↦ inr (shown_by_flow below decls T opens shown)
        ],
      )
  public_key_belongs kinds.Nonce made is = absurd cc
  public_key_belongs kinds.Aead made is = absurd cc
  public_key_belongs kinds.Mac made is = absurd cc
  public_key_belongs kinds.Kdf made is = absurd cc

-- The certificate that `certify` puts is good, and what is known holds still.
pub certify_is_sound : LawsBelow → (key usage : Id) → PutsSoundly (statements.Certify key usage)
certify_is_sound below key usage file T X handler done line names choice k instance item binds at effect knows =
    let decls = file.decls in
    let own = bytes_at names key.word in
    let put = puts_is (items.Cert usage.word) (option_and_then if_small (public_key (kind_of_usage decls usage.word) own)) item binds effect in
    let made = and_then_is if_small (public_key (kind_of_usage decls usage.word) own) put.value put.value_is in
    let made_is : public_key (kind_of_usage decls usage.word) own ≡ Some put.value = made.1 ∙ ap Some (if_small_is made.0 put.value made.2) in
    let known = known_of_name decls T choice names k knows.holds (Named key) in
    let met = at.are_met (Certifies (Named key) (record { usage = usage.word; args = 0 ∷ [] })) (Contains-first _ []) in
    let used : HasUse decls T own (usage_with decls usage.word (choice.principals 0 ∷ [])) =
    use_holds below decls T choice own (known_of k (Named key)) known (record { usage = usage.word; args = 0 ∷ [] }) met.0 in
    let opens : Flows T (label_of T own) (One (Principal (choice.principals 0))) =
    record { opens = λ C over opened. met.1 choice C (known.opens_lo.opens C over opened) } in
    let belongs = public_key_belongs below decls T own (One (Principal (choice.principals 0))) (usage_with decls usage.word (choice.principals 0 ∷ []))
    (name_is_valid decls T names at.running.values_are_valid (Named key)) used opens (kind_of_usage decls usage.word) put.value made_is in
    let good : IsGoodCert decls T (choice.principals 0) usage.word put.value = record { may_be_known = belongs.0; belongs = belongs.1 } in
    record {
      item_is_good = subst (IsGoodItem decls T T names.principal names.session) put.item_is
          (subst (λ (owner : List ℕ). IsGoodCert decls T owner usage.word put.value) knows.agrees.self good);
      holds = holds_still decls T names at.running.values_are_valid below choice k (entry_for instance names.principal names.session item) binds put.binds_none knows.holds;
    }
