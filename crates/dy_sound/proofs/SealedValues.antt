-- What a handler encrypts, signs or tags, its demands being met, is encrypted, signed or tagged by the rules or by someone
-- who may.
use Rattle.std.proofs.Common.{◌≡◌, ℕ, List, [], map, ◌⊎◌, inl, inr, subst}
use Rattle.dy_term.specs.Terms.{Term}
use Rattle.dy_term.specs.Tuples.{tagged_tuple}
use Rattle.dy_label.specs.Labels.{Label}
use Rattle.dy_label.specs.Words.{StaticLabel, Choice, meaning_of}
use Rattle.dy_types.specs.Claims as claims
use Rattle.dy_syntax.specs.Names as texts
use Rattle.dy_syntax.specs.Names.{Nm, KindText, UseText}
use Rattle.dy_syntax.specs.Expressions.{Expr}
use Rattle.dy_typing.specs.Names.{Setting, name_number}
use Rattle.dy_typing.specs.Instances.{use_in}
use Rattle.dy_typing.specs.Knowledge.{Knowledge, known_of}
use Rattle.dy_typing.specs.Expressions.{known_of_expr}
use Rattle.dy_typing.specs.Demands.{Demand, Operation, Seals, ReadersMayKnow, sealing_of, key_demands, reader_demands, field_demands, event_demands}
use Rattle.dy_typing.specs.Conditions.{IsPublic, content_hi, sealer_hi, MayBeRead, AreMet}
use Rattle.dy_entry.specs.Entries.{Entry}
use Rattle.dy_entry.specs.ValueLabels.{label_of}
use Rattle.dy_eval.specs.Names.{Names, bytes_for}
use Rattle.dy_eval.specs.Values.{value}
use Rattle.dy_sound.specs.Flows.{Flows, IsShown}
use Rattle.dy_sound.specs.Fields.{IsPkFor}
use Rattle.dy_sound.specs.Valid.{IsEncrypted, IsUnder}
use Rattle.dy_sound.specs.Knowledge.{usage_chosen, KnownHolds, Holds}
use Rattle.dy_sound.specs.Matches.{scope_in, HandlerMatches}
use Rattle.dy_sound.specs.Sealings.{IsOfCase}
use Rattle.dy_sound.specs.Expressions.{ExprsHold}
use Rattle.dy_sound.specs.LawsBelow.{LawsBelow}
use Rattle.dy_sound.proofs.Lists.{Contains-first}
use Rattle.dy_sound.proofs.DerivedValues.{shown_by_flow}
use Rattle.dy_sound.proofs.Weaker.{use_holds, pk_holds}
use Rattle.dy_sound.proofs.KnownNames.{known_of_name}
use Rattle.dy_sound.proofs.KnownTuples.{tuple_opens}
use Rattle.dy_sound.proofs.SealedTuples.{shown_if_public, all_hold, case_or_shown}

-- What flows to one label flows on to what that flows to.
pub flows_onward : (T : List Entry) (from through to : Label) → Flows T from through → Flows T through to → Flows T from to
flows_onward T from through to first second = record { opens = λ C over opened. second.opens C over (first.opens C over opened) }

-- All that an operation demands is met.
pub record OperationIsMet (setting : Setting) (k : Knowledge) (operation : Operation) : Type 0 where
  pub keys_met : AreMet setting.decls k (key_demands setting operation)
  pub readers_met : AreMet setting.decls k (reader_demands setting operation)
  pub fields_met : AreMet setting.decls k (field_demands setting operation)
  pub events_met : AreMet setting.decls k (event_demands setting operation)

module _ (below : LawsBelow) (T : List Entry) (setting : Setting) (choice : Choice) (newest : ℕ) (names : Names) (k : Knowledge)
    (handler : HandlerMatches setting.names newest names choice) (h : Holds setting.decls T choice names k)
    (key : Nm) (usage : UseText) (tag : List ℕ) (exprs : List Expr)
    (of_case : IsOfCase setting.decls (scope_in setting.names names) usage tag exprs) (hold : ExprsHold setting.decls T choice names k exprs) where
  abbrev message : Term
  message = tagged_tuple tag (map (value names) exprs)

  own_key : KnownHolds setting.decls T choice (bytes_for names key) (known_of k key)
  own_key = known_of_name setting.decls T choice names k h key

  key_shown : IsShown T (meaning_of choice (known_of k key).hi) → IsShown T (label_of T (bytes_for names key))
  key_shown shown = shown_by_flow below setting.decls T own_key.is_open_by_hi shown

  module _ (kind : KindText) (who_has_key : sealer_hi setting.decls k (sealing_of setting kind key usage exprs) ≡ (known_of k key).hi)
      (met : OperationIsMet setting k (Seals kind key usage tag exprs)) where
    sealer_shown : IsShown T (meaning_of choice (sealer_hi setting.decls k (sealing_of setting kind key usage exprs))) → IsShown T (label_of T (bytes_for names key))
    sealer_shown shown = key_shown (subst (λ (l : StaticLabel). IsShown T (meaning_of choice l)) who_has_key shown)

    -- What is put under a key is under it by the rules, or all may know the key.
    pub is_under : claims.HasUse (known_of k key) (use_in (name_number setting) usage) ⊎ IsPublic (sealer_hi setting.decls k (sealing_of setting kind key usage exprs))
        → IsUnder setting.decls T (bytes_for names key) message
    is_under (inr public) = inr (sealer_shown (shown_if_public T choice _ public))
    is_under (inl has) = elim (use_holds below setting.decls T choice (bytes_for names key) (known_of k key) own_key (use_in (name_number setting) usage) has) [
      | inr shown ↦ inr shown
      | inl has_usage ↦ elim (case_or_shown below T setting choice newest names k handler h kind key usage tag exprs of_case (bytes_for names key) has_usage hold met.fields_met met.events_met) [
        | inl case ↦ inl case
        | inr shown ↦ inr (sealer_shown shown)
      ]
    ]

  -- Where the content is open, so is the message.
  content_opens : (kind : KindText) → Flows T (meaning_of choice (content_hi setting.decls k (sealing_of setting kind key usage exprs))) (label_of T message)
  content_opens kind = tuple_opens setting.decls T choice tag (map (value names) exprs) (map (known_of_expr setting.decls k) exprs) (all_hold setting.decls T choice names k exprs hold)

  -- Who has the key may know what is encrypted under it.
  pub readers_may_know : OperationIsMet setting k (Seals texts.Aead key usage tag exprs) → Flows T (label_of T (bytes_for names key)) (label_of T message)
  readers_may_know met =
      let demand : Demand = ReadersMayKnow (sealing_of setting texts.Aead key usage exprs) in
      let may : MayBeRead texts.Aead setting.decls k (sealing_of setting texts.Aead key usage exprs) = met.readers_met demand (Contains-first demand []) in
      record { opens = λ C over opened. (content_opens texts.Aead).opens C over (may choice C (own_key.opens_lo.opens C over opened)) }

  module _ (met : OperationIsMet setting k (Seals texts.Pke key usage tag exprs)) where
    abbrev content : StaticLabel
    content = content_hi setting.decls k (sealing_of setting texts.Pke key usage exprs)

    content_shown : IsShown T (meaning_of choice content) → IsShown T (label_of T message)
    content_shown shown = shown_by_flow below setting.decls T (content_opens texts.Pke) shown

    encrypted_for : IsPkFor setting.decls T (bytes_for names key) (meaning_of choice content) (usage_chosen setting.decls choice (use_in (name_number setting) usage))
        → IsEncrypted setting.decls T (bytes_for names key) message
    encrypted_for (inr shown) = inr (content_shown shown)
    encrypted_for (inl made) =
        elim (case_or_shown below T setting choice newest names k handler h texts.Pke key usage tag exprs of_case made.key made.has_usage hold met.fields_met met.events_met) [
          | inr shown ↦ inr (content_shown shown)
          | inl case ↦ inl (record {
            key = made.key;
            to_is = made.value_is;
            readers_may_know = flows_onward T _ _ _ made.opens (content_opens texts.Pke);
            case_holds = case;
          })
        ]

    -- What is encrypted to a public key is so by the rules, or all may know it.
    pub is_encrypted : IsEncrypted setting.decls T (bytes_for names key) message
    is_encrypted =
        let demand : Demand = ReadersMayKnow (sealing_of setting texts.Pke key usage exprs) in
        let may : MayBeRead texts.Pke setting.decls k (sealing_of setting texts.Pke key usage exprs) = met.readers_met demand (Contains-first demand []) in
        elim may [
          | inr public ↦ inr (content_shown (shown_if_public T choice content public))
          | inl has ↦ encrypted_for (pk_holds below setting.decls T choice (bytes_for names key) (known_of k key) own_key content (use_in (name_number setting) usage) has)
        ]
