-- The values of expressions whose demands are met are valid, and what is known of them holds.
use Rattle.std.proofs.Common.{◌≡◌, ℕ, List, [], ◌∷◌, ◌++◌, map, Contains, ◌⊎◌, refl, ap, subst}
use Rattle.std.specs.List.{flat_map}
use Rattle.std.proofs.lemmas.List.Elements.{Contains-append_left, Contains-append_right}
use Rattle.dy_term.specs.Terms as trees
use Rattle.dy_term.specs.Terms.{Term}
use Rattle.dy_term.specs.Tuples.{tagged_tuple}
use Rattle.dy_label.specs.Words.{Choice}
use Rattle.dy_types.specs.Claims.{Known, HasUse}
use Rattle.dy_syntax.specs.Names as texts
use Rattle.dy_syntax.specs.Names.{Nm, KindText, UseText}
use Rattle.dy_syntax.specs.Expressions as e
use Rattle.dy_syntax.specs.Expressions.{Expr, Exprs, list_of}
use Rattle.dy_syntax.specs.Files.{Decl}
use Rattle.dy_typing.specs.Names.{Setting, name_number}
use Rattle.dy_typing.specs.Instances.{use_in}
use Rattle.dy_typing.specs.Knowledge.{Knowledge, known_of}
use Rattle.dy_typing.specs.Expressions.{known_together, known_of_expr, knowns_of_exprs}
use Rattle.dy_typing.specs.Demands.{Demand, Operation, Seals, SealedFor, sealing_of, operations_of_expr, operations_of_exprs, operation_demands, key_demands, reader_demands, field_demands, event_demands}
use Rattle.dy_typing.specs.Conditions.{IsPublic, sealer_hi, IsMet, AreMet}
use Rattle.dy_entry.specs.Entries.{Entry}
use Rattle.dy_entry.specs.ValueLabels.{label_of}
use Rattle.dy_eval.specs.declared.written.Written.{Written}
use Rattle.dy_eval.specs.Names.{Names, bytes_for}
use Rattle.dy_eval.specs.Values.{value, values}
use Rattle.dy_sound.specs.Valid.{IsValid, IsUnder, IsEncrypted}
use Rattle.dy_sound.specs.Flows.{Flows}
use Rattle.dy_sound.specs.Knowledge.{KnownHolds, Holds}
use Rattle.dy_sound.specs.Matches.{scope_in, HandlerMatches}
use Rattle.dy_sound.specs.DerivedKeys.{TablesFit}
use Rattle.dy_sound.specs.Sealings.{IsOfCase, AreOfCases}
use Rattle.dy_sound.specs.Expressions.{ExprHolds, ExprsHold}
use Rattle.dy_sound.specs.LawsBelow.{LawsBelow}
use Rattle.dy_sound.proofs.Members.{Contains-flat_map}
use Rattle.dy_sound.proofs.Lists.{Contains-first, Contains-later}
use Rattle.dy_sound.proofs.KnownNames.{name_is_valid, known_of_name}
use Rattle.dy_sound.proofs.KnownTuples.{AreValid, tuple_is_valid, tuple_holds, pair_holds}
use Rattle.dy_sound.proofs.KnownKeys.{plain_holds, labels_hold, public_key_holds, verification_key_holds, derived_key_holds}
use Rattle.dy_sound.proofs.SealedTuples.{all_hold}
use Rattle.dy_sound.proofs.SealedValues.{OperationIsMet, is_under, readers_may_know, is_encrypted}

-- Where all that operations demand is met, so is what each of them demands.
each_is_met : (setting : Setting) (k : Knowledge) (operations : List Operation) → AreMet setting.decls k (operation_demands setting operations)
    → (operation : Operation) → Contains operations operation → OperationIsMet setting k operation
each_is_met setting k operations met operation has =
    let keys = flat_map (key_demands setting) operations in
    let readers = flat_map (reader_demands setting) operations in
    let fields = flat_map (field_demands setting) operations in
    let events = flat_map (event_demands setting) operations in
    record {
      keys_met = λ demand own. met demand (Contains-append_left (keys ++ readers ++ fields) events demand (Contains-append_left (keys ++ readers) fields demand
          (Contains-append_left keys readers demand (Contains-flat_map (key_demands setting) operations operation demand has own))));
      readers_met = λ demand own. met demand (Contains-append_left (keys ++ readers ++ fields) events demand (Contains-append_left (keys ++ readers) fields demand
          (Contains-append_right keys readers demand (Contains-flat_map (reader_demands setting) operations operation demand has own))));
      fields_met = λ demand own. met demand (Contains-append_left (keys ++ readers ++ fields) events demand
          (Contains-append_right (keys ++ readers) fields demand (Contains-flat_map (field_demands setting) operations operation demand has own)));
      events_met = λ demand own. met demand
          (Contains-append_right (keys ++ readers ++ fields) events demand (Contains-flat_map (event_demands setting) operations operation demand has own));
    }

-- the values of expressions in a row are those of the list
values_are : (names : Names) (exprs : Exprs) → map (value names) (list_of exprs) ≡ values names exprs
values_are names e.Nil = refl
values_are names (e.Cons first rest) = ap (λ (others : List Term). value names first ∷ others) (values_are names rest)

knowns_are : (decls : List Decl) (k : Knowledge) (exprs : Exprs) → map (known_of_expr decls k) (list_of exprs) ≡ knowns_of_exprs decls k exprs
knowns_are decls k e.Nil = refl
knowns_are decls k (e.Cons first rest) = ap (λ (others : List Known). known_of_expr decls k first ∷ others) (knowns_are decls k rest)

module _ (below : LawsBelow) (T : List Entry) (setting : Setting) (choice : Choice) (newest : ℕ) (names : Names) (k : Knowledge)
    (handler : HandlerMatches setting.names newest names choice) (h : Holds setting.decls T choice names k) (tables : TablesFit setting.decls)
    (written_valid : (written : Written) → Contains names.written written → IsValid setting.decls T written.bytes) where
  -- The operation is of a case, and what it demands is met.
  record IsSoundOperation (operation : Operation) : Type 0 where
    of_case : (kind : KindText) (key : Nm) (usage : UseText) (tag : List ℕ) (exprs : List Expr) → operation ≡ Seals kind key usage tag exprs
        → IsOfCase setting.decls (scope_in setting.names names) usage tag exprs
    is_met : OperationIsMet setting k operation

  abbrev AreSound : List Operation → Type 0
  AreSound operations = (operation : Operation) → Contains operations operation → IsSoundOperation operation

  sound_left : (some others : List Operation) → AreSound (some ++ others) → AreSound some
  sound_left some others sound operation has = sound operation (Contains-append_left some others operation has)

  sound_right : (some others : List Operation) → AreSound (some ++ others) → AreSound others
  sound_right some others sound operation has = sound operation (Contains-append_right some others operation has)

  sound_later : (first : Operation) (others : List Operation) → AreSound (first ∷ others) → AreSound others
  sound_later first others sound operation has = sound operation (Contains-later first others operation has)

  all_valid : (exprs : List Expr) → ExprsHold setting.decls T choice names k exprs → AreValid setting.decls T (map (value names) exprs)
  all_valid [] hold = tt
  all_valid (expr ∷ exprs) hold = (hold.0.is_valid, all_valid exprs hold.1)

  name_valid : (name : Nm) → IsValid setting.decls T (bytes_for names name)
  name_valid name = name_is_valid setting.decls T names written_valid name

  name_known : (name : Nm) → KnownHolds setting.decls T choice (bytes_for names name) (known_of k name)
  name_known name = known_of_name setting.decls T choice names k h name

  tuple_valid : (tag : List ℕ) (args : Exprs) → ExprsHold setting.decls T choice names k (list_of args) → IsValid setting.decls T (tagged_tuple tag (values names args))
  tuple_valid tag args hold =
      subst (λ (fields : List Term). IsValid setting.decls T (tagged_tuple tag fields)) (values_are names args)
      (tuple_is_valid setting.decls T tag (map (value names) (list_of args)) (all_valid (list_of args) hold))

  tuple_known : (tag : List ℕ) (args : Exprs) → ExprsHold setting.decls T choice names k (list_of args)
      → KnownHolds setting.decls T choice (tagged_tuple tag (values names args)) (known_together (knowns_of_exprs setting.decls k args))
  tuple_known tag args hold =
      subst (λ (fields : List Term). KnownHolds setting.decls T choice (tagged_tuple tag fields) (known_together (knowns_of_exprs setting.decls k args))) (values_are names args)
      (subst (λ (knowns : List Known). KnownHolds setting.decls T choice (tagged_tuple tag (map (value names) (list_of args))) (known_together knowns)) (knowns_are setting.decls k args)
      (tuple_holds setting.decls T choice tag (map (value names) (list_of args)) (map (known_of_expr setting.decls k) (list_of args)) (all_hold setting.decls T choice names k (list_of args) hold)))

  key_demand_is_met : (kind : KindText) (key : Nm) (usage : UseText) (tag : List ℕ) (args : Exprs) → IsSoundOperation (Seals kind key usage tag (list_of args))
      → IsMet setting.decls k (SealedFor (sealing_of setting kind key usage (list_of args)))
  key_demand_is_met kind key usage tag args sound =
      let demand : Demand = SealedFor (sealing_of setting kind key usage (list_of args)) in
      sound.is_met.keys_met demand (Contains-first demand [])

  tuple_is_under : (kind : KindText) (key : Nm) (usage : UseText) (tag : List ℕ) (args : Exprs)
      → sealer_hi setting.decls k (sealing_of setting kind key usage (list_of args)) ≡ (known_of k key).hi
      → IsSoundOperation (Seals kind key usage tag (list_of args))
      → HasUse (known_of k key) (use_in (name_number setting) usage) ⊎ IsPublic (sealer_hi setting.decls k (sealing_of setting kind key usage (list_of args)))
      → ExprsHold setting.decls T choice names k (list_of args) → IsUnder setting.decls T (bytes_for names key) (tagged_tuple tag (values names args))
  tuple_is_under kind key usage tag args who_has_key sound key_met hold =
      subst (λ (fields : List Term). IsUnder setting.decls T (bytes_for names key) (tagged_tuple tag fields)) (values_are names args)
      (is_under below T setting choice newest names k handler h key usage tag (list_of args) (sound.of_case kind key usage tag (list_of args) refl) hold kind who_has_key sound.is_met key_met)

  tuple_is_for_readers : (key : Nm) (usage : UseText) (tag : List ℕ) (args : Exprs) → IsSoundOperation (Seals texts.Aead key usage tag (list_of args))
      → ExprsHold setting.decls T choice names k (list_of args)
      → Flows T (label_of T (bytes_for names key)) (label_of T (tagged_tuple tag (values names args)))
  tuple_is_for_readers key usage tag args sound hold =
      subst (λ (fields : List Term). Flows T (label_of T (bytes_for names key)) (label_of T (tagged_tuple tag fields))) (values_are names args)
      (readers_may_know below T setting choice newest names k handler h key usage tag (list_of args) (sound.of_case texts.Aead key usage tag (list_of args) refl) hold sound.is_met)

  tuple_is_encrypted : (key : Nm) (usage : UseText) (tag : List ℕ) (args : Exprs) → IsSoundOperation (Seals texts.Pke key usage tag (list_of args))
      → ExprsHold setting.decls T choice names k (list_of args) → IsEncrypted setting.decls T (bytes_for names key) (tagged_tuple tag (values names args))
  tuple_is_encrypted key usage tag args sound hold =
      subst (λ (fields : List Term). IsEncrypted setting.decls T (bytes_for names key) (tagged_tuple tag fields)) (values_are names args)
      (is_encrypted below T setting choice newest names k handler h key usage tag (list_of args) (sound.of_case texts.Pke key usage tag (list_of args) refl) hold sound.is_met)

  -- What shows its message is known as the message is.
  shows_message : (sealed : Term) (tag : List ℕ) (args : Exprs) → label_of T sealed ≡ label_of T (tagged_tuple tag (values names args)) → ExprsHold setting.decls T choice names k (list_of args)
      → KnownHolds setting.decls T choice sealed (known_together (knowns_of_exprs setting.decls k args))
  shows_message sealed tag args is hold =
      labels_hold below setting.decls T choice sealed (tagged_tuple tag (values names args)) (known_together (knowns_of_exprs setting.decls k args)) is (tuple_known tag args hold)

  mutual
    expr_holds : (expr : Expr) → AreSound (operations_of_expr expr) → ExprHolds setting.decls T choice names k expr
    expr_holds (e.Nm name) sound = record { is_valid = name_valid name; known_holds = name_known name }
    expr_holds (e.Lit quote) sound = record { is_valid = tt; known_holds = plain_holds below setting.decls T choice (trees.Lit quote.text) refl }
    expr_holds (e.Tuple tag args) sound =
        let hold = row_holds args sound in
        record { is_valid = tuple_valid tag.text args hold; known_holds = tuple_known tag.text args hold }
    expr_holds (e.Pair line first second) sound =
        let one = expr_holds first (sound_left (operations_of_expr first) (operations_of_expr second) sound) in
        let other = expr_holds second (sound_right (operations_of_expr first) (operations_of_expr second) sound) in
        record { is_valid = (one.is_valid, other.is_valid); known_holds = pair_holds setting.decls T choice _ _ _ _ one.known_holds other.known_holds }
    expr_holds (e.Pk line key) sound = record {
      is_valid = name_valid key;
      known_holds = public_key_holds below setting.decls T choice (bytes_for names key) (known_of k key) (name_known key);
    }
    expr_holds (e.Vk line key) sound = record {
      is_valid = name_valid key;
      known_holds = verification_key_holds below setting.decls T choice (bytes_for names key) (known_of k key) (name_known key);
    }
    expr_holds (e.Penc line key usage tag args) sound =
        let own : Operation = Seals texts.Pke key usage tag.text (list_of args) in
        let hold = row_holds args (sound_later own (operations_of_exprs args) sound) in
        record {
          is_valid = (name_valid key, tuple_valid tag.text args hold, tuple_is_encrypted key usage tag.text args (sound own (Contains-first own (operations_of_exprs args))) hold);
          known_holds = plain_holds below setting.decls T choice (value names (e.Penc line key usage tag args)) refl;
        }
    expr_holds (e.Aead line key usage tag args ad) sound =
        let own : Operation = Seals texts.Aead key usage tag.text (list_of args) in
        let others = operations_of_exprs args ++ operations_of_expr ad in
        let later = sound_later own others sound in
        let hold = row_holds args (sound_left (operations_of_exprs args) (operations_of_expr ad) later) in
        let data_ = expr_holds ad (sound_right (operations_of_exprs args) (operations_of_expr ad) later) in
        let first = sound own (Contains-first own others) in
        record {
          is_valid = (
            name_valid key,
            tuple_valid tag.text args hold,
            data_.is_valid,
            tuple_is_for_readers key usage tag.text args first hold,
            tuple_is_under texts.Aead key usage tag.text args refl first (key_demand_is_met texts.Aead key usage tag.text args first) hold,
          );
          known_holds = labels_hold below setting.decls T choice (value names (e.Aead line key usage tag args ad)) (value names ad) (known_of_expr setting.decls k ad) refl data_.known_holds;
        }
    expr_holds (e.Sign line key usage tag args) sound =
        let own : Operation = Seals texts.Sig key usage tag.text (list_of args) in
        let hold = row_holds args (sound_later own (operations_of_exprs args) sound) in
        let first = sound own (Contains-first own (operations_of_exprs args)) in
        record {
          is_valid = (name_valid key, tuple_valid tag.text args hold, tuple_is_under texts.Sig key usage tag.text args refl first (key_demand_is_met texts.Sig key usage tag.text args first) hold);
          known_holds = shows_message (value names (e.Sign line key usage tag args)) tag.text args refl hold;
        }
    expr_holds (e.Mac line key usage tag args) sound =
        let own : Operation = Seals texts.Mac key usage tag.text (list_of args) in
        let hold = row_holds args (sound_later own (operations_of_exprs args) sound) in
        let first = sound own (Contains-first own (operations_of_exprs args)) in
        record {
          is_valid = (name_valid key, tuple_valid tag.text args hold, tuple_is_under texts.Mac key usage tag.text args refl first (key_demand_is_met texts.Mac key usage tag.text args first) hold);
          known_holds = shows_message (value names (e.Mac line key usage tag args)) tag.text args refl hold;
        }
    expr_holds (e.Kdf line key context input) sound = record {
      is_valid = (name_valid key, (expr_holds input sound).is_valid);
      known_holds = derived_key_holds below setting.decls T choice (bytes_for names key) (known_of k key) (name_known key) tables context.text (value names input);
    }
    expr_holds (e.Hash line message) sound =
        let inner = expr_holds message sound in
        record {
          is_valid = inner.is_valid;
          known_holds = labels_hold below setting.decls T choice (value names (e.Hash line message)) (value names message) (known_of_expr setting.decls k message) refl inner.known_holds;
        }

    row_holds : (exprs : Exprs) → AreSound (operations_of_exprs exprs) → ExprsHold setting.decls T choice names k (list_of exprs)
    row_holds e.Nil sound = tt
    row_holds (e.Cons first rest) sound = (
      expr_holds first (sound_left (operations_of_expr first) (operations_of_exprs rest) sound),
      row_holds rest (sound_right (operations_of_expr first) (operations_of_exprs rest) sound),
    )

  exprs_hold : (exprs : List Expr) → AreSound (flat_map operations_of_expr exprs) → ExprsHold setting.decls T choice names k exprs
  exprs_hold [] sound = tt
  exprs_hold (expr ∷ exprs) sound = (
    expr_holds expr (sound_left (operations_of_expr expr) (flat_map operations_of_expr exprs) sound),
    exprs_hold exprs (sound_right (operations_of_expr expr) (flat_map operations_of_expr exprs) sound),
  )

  all_sound : (operations : List Operation) → AreOfCases setting.decls (scope_in setting.names names) operations → AreMet setting.decls k (operation_demands setting operations) → AreSound operations
  all_sound operations of_cases met operation has = record {
    of_case = λ kind key usage tag exprs is. of_cases kind key usage tag exprs (subst (λ (one : Operation). Contains operations one) is has);
    is_met = each_is_met setting k operations met operation has;
  }

  -- The value of an expression whose demands are met is valid, and what is known of it holds.
  pub known_expr_holds : (expr : Expr) → AreOfCases setting.decls (scope_in setting.names names) (operations_of_expr expr)
      → AreMet setting.decls k (operation_demands setting (operations_of_expr expr)) → ExprHolds setting.decls T choice names k expr
  known_expr_holds expr of_cases met = expr_holds expr (all_sound (operations_of_expr expr) of_cases met)

  -- So it is with some expressions together.
  pub known_exprs_hold : (exprs : List Expr) → AreOfCases setting.decls (scope_in setting.names names) (flat_map operations_of_expr exprs)
      → AreMet setting.decls k (operation_demands setting (flat_map operations_of_expr exprs)) → ExprsHold setting.decls T choice names k exprs
  known_exprs_hold exprs of_cases met = exprs_hold exprs (all_sound (flat_map operations_of_expr exprs) of_cases met)
