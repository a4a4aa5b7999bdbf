-- After `split`, `open`, `popen`, `verify` and `check` what is known holds, and what they write is valid.
use Rattle.std.proofs.Common.{◌≡◌, Bool, true, false, List, [], ◌∷◌, ◌++◌, length, Contains, Option, Some, None, if◌then◌else◌, inl, inr, refl, sym, ap, subst, ◌∙◌}
use Rattle.std.specs.List.{flat_map}
use Rattle.std.proofs.lemmas.Bool.{or_left}
use Rattle.dy_term.specs.Terms as trees
use Rattle.dy_term.specs.Terms.{Term, Pk, Penc, Sign, Mac}
use Rattle.dy_flat.specs.Openings.{penc_message, aead_message_with}
use Rattle.dy_syntax.specs.Names.{Id, Quote, Nm, Named, KindText, Pke, Sig, Aead, UseText}
use Rattle.dy_syntax.specs.Expressions.{Expr}
use Rattle.dy_syntax.specs.Statements as statements
use Rattle.dy_syntax.specs.Statements.{Pattern, Bind, Equal, Act, Statement}
use Rattle.dy_syntax.specs.Files.{Decl}
use Rattle.dy_syntax.specs.Scopes.{words_of, handler_names}
use Rattle.dy_syntax.specs.Parts.{parts_of_opening, parts_of_expr}
use Rattle.dy_typing.specs.Names.{Setting, setting_of, name_number, case_stands, patterns_names}
use Rattle.dy_typing.specs.Knowledge.{known_of}
use Rattle.dy_sound.specs.Names.{Agrees}
use Rattle.dy_entry.specs.LookUps.{newest}
use Rattle.dy_typing.specs.Instances.{use_in}
use Rattle.std.proofs.lemmas.List.Elements.{Contains-append_left, Contains-append_right}
use Rattle.dy_typing.specs.Demands.{Operation, Opens, OpenedBy, operations_of, operations_of_expr, key_demands, reader_demands, field_demands, event_demands, operation_demands, sent_demands, other_demands, demands_of}
use Rattle.dy_typing.specs.Effects.{after}
use Rattle.dy_entry.specs.Entries.{Entry}
use Rattle.dy_eval.specs.declared.written.Written.{Written}
use Rattle.dy_eval.specs.Doings.{Writes, Fails}
use Rattle.dy_eval.specs.Names.{Names, write, bytes_at}
use Rattle.dy_eval.specs.Values.{value, if_small}
use Rattle.std.specs.Option.{option_and_then}
use Rattle.dy_eval.specs.Patterns.{fits, written_by, fields_in, match_if, match_tuple}
use Rattle.dy_eval.specs.Effects.{verified_message}
use Rattle.dy_sound.specs.Valid.{IsValid}
use Rattle.dy_sound.specs.Knowledge.{Holds}
use Rattle.dy_sound.specs.StatementsAreSound.{WritesSoundly}
use Rattle.dy_sound.specs.LawsBelow.{LawsBelow}
use Rattle.dy_sound.proofs.Lists.{Contains-none, Contains-first, Contains-later, Contains-cases}
use Rattle.dy_sound.proofs.StatementParts.{IsIn-left}
use Rattle.dy_sound.proofs.KnownNames.{name_is_valid, known_of_name}
use Rattle.dy_sound.proofs.Weaker.{use_holds}
use Rattle.dy_sound.proofs.ItemsPut.{and_then_is}
use Rattle.dy_sound.proofs.Tuples.{SameAreEqual, is_tuple}
use Rattle.dy_sound.proofs.PatternsAt.{are_written}
use Rattle.dy_sound.proofs.CasesAt.{patterns_at, is_opened, key_part, claims_no_uses}
use Rattle.dy_sound.proofs.Openings as openings
use Rattle.dy_sound.proofs.Openings.{is_penc, is_aead, is_signed, fields_are_valid}
use Rattle.dy_sound.proofs.Verified.{verify_holds, split_holds}
use Rattle.dy_sound.specs.StatementsAreSound.{bound_after}

-- What was opened: a message, whose fields fit the patterns.
pub record WasOpened (names : Names) (tag : Quote) (pats : List Pattern) (found : Option Term) (more : List Written) : Type 0 where
  pub message : Term
  pub found_is : found ≡ Some message
  pub fields : List Term
  pub fields_are : fields_in tag.text (length pats) message ≡ Some fields
  pub fit : fits names pats fields ≡ true
  pub more_are : written_by pats fields ≡ more

fits_and_writes : (test : Bool) (written more : List Written) → (if test then Writes written else Fails) ≡ Writes more → (test ≡ true) × (written ≡ more)
fits_and_writes true written more is = (refl, cc)
fits_and_writes false written more is = absurd cc

was_matched : (names : Names) (tag : Quote) (pats : List Pattern) (message : Term) (more : List Written) (fields : Option (List Term))
    → fields_in tag.text (length pats) message ≡ fields → match_if names pats fields ≡ Writes more → WasOpened names tag pats (Some message) more
was_matched names tag pats message more None found is = absurd cc
was_matched names tag pats message more (Some fields) found is =
    let parts = fits_and_writes (fits names pats fields) (written_by pats fields) more is in
    record { message = message; found_is = refl; fields = fields; fields_are = found; fit = parts.0; more_are = parts.1 }

pub was_opened : (names : Names) (tag : Quote) (pats : List Pattern) (found : Option Term) (more : List Written) → match_tuple names tag pats found ≡ Writes more
    → WasOpened names tag pats found more
was_opened names tag pats None more is = absurd cc
was_opened names tag pats (Some message) more is = was_matched names tag pats message more (fields_in tag.text (length pats) message) refl is

-- What patterns write is valid where the fields are.
pub written_is_valid : (decls : List Decl) (T : List Entry) (pats : List Pattern) (fields : List Term) → ((field : Term) → Contains fields field → IsValid decls T field)
    → (written : Written) → Contains (written_by pats fields) written → IsValid decls T written.bytes
written_is_valid decls T [] fields valid written within = absurd (Contains-none written within)
written_is_valid decls T (pat ∷ pats) [] valid written within = absurd (Contains-none written within)
written_is_valid decls T (Bind name ∷ pats) (field ∷ fields) valid written within =
    elim (Contains-cases (record { word = name.word; bytes = field }) (written_by pats fields) written within) [
      | inl same ↦ subst (λ (w : Written). IsValid decls T w.bytes) same (valid field (Contains-first field fields))
      | inr later ↦ written_is_valid decls T pats fields (λ other here. valid other (Contains-later field fields other here)) written later
    ]
written_is_valid decls T (statements.Named line name ∷ pats) (field ∷ fields) valid written within =
    elim (Contains-cases (record { word = name.word; bytes = field }) (written_by pats fields) written within) [
      | inl same ↦ subst (λ (w : Written). IsValid decls T w.bytes) same (valid field (Contains-first field fields))
      | inr later ↦ written_is_valid decls T pats fields (λ other here. valid other (Contains-later field fields other here)) written later
    ]
written_is_valid decls T (Equal line to ∷ pats) (field ∷ fields) valid written within =
    written_is_valid decls T pats fields (λ other here. valid other (Contains-later field fields other here)) written within

-- A statement that opens something with a key demands that the key opens it.
opening_demanded : (setting : Setting) (kind : KindText) (key : Nm) (usage : UseText) (others : List Operation)
    → Contains (operation_demands setting (Opens kind key usage ∷ others)) (OpenedBy kind key (use_in (name_number setting) usage))
opening_demanded setting kind key usage others =
    let operations = Opens kind key usage ∷ others in
    Contains-first (OpenedBy kind key (use_in (name_number setting) usage))
    (flat_map (key_demands setting) others ++ flat_map (reader_demands setting) operations ++ flat_map (field_demands setting) operations ++ flat_map (event_demands setting) operations)

pub key_demanded : (setting : Setting) (act : Act) (kind : KindText) (key : Nm) (usage : UseText) (others : List Operation) → operations_of act ≡ Opens kind key usage ∷ others
    → Contains (demands_of setting act) (OpenedBy kind key (use_in (name_number setting) usage))
key_demanded setting act kind key usage others is =
    let demand = OpenedBy kind key (use_in (name_number setting) usage) in
    let here : Contains (operation_demands setting (operations_of act)) demand =
    subst (λ (operations : List Operation). Contains (operation_demands setting operations) demand) (sym is) (opening_demanded setting kind key usage others) in
    Contains-append_left (sent_demands act ++ operation_demands setting (operations_of act)) (other_demands setting act) demand
    (Contains-append_right (sent_demands act) (operation_demands setting (operations_of act)) demand here)

module _ (below : LawsBelow) (equal : SameAreEqual) where
  -- What is written of a valid message is valid.
  opened_valid : (decls : List Decl) (T : List Entry) (tag : Quote) (pats : List Pattern) (message : Term) (fields : List Term) (more : List Written)
      → fields_in tag.text (length pats) message ≡ Some fields → written_by pats fields ≡ more → IsValid decls T message
      → (written : Written) → Contains more written → IsValid decls T written.bytes
  opened_valid decls T tag pats message fields more fields_are more_are valid written within =
      let tuple = is_tuple equal tag.text (length pats) message fields fields_are in
      written_is_valid decls T pats fields
      (fields_are_valid decls T tag.text fields (subst (IsValid decls T) tuple.term_is valid)) written
      (subst (λ (ws : List Written). Contains ws written) (sym more_are) within)

  pub split_is_sound : (split : Id) (tag : Quote) (pats : List Pattern) → WritesSoundly (statements.Split split tag pats)
  split_is_sound split tag pats file T X handler done line names choice k more at effect knows =
      let decls = file.decls in
      let was = was_opened names tag pats (Some (bytes_at names split.word)) more effect in
      let message_is : bytes_at names split.word ≡ was.message = let is = was.found_is in cc in
      let valid = name_is_valid decls T names at.running.values_are_valid (Named split) in
      let fields_are : fields_in tag.text (length pats) (bytes_at names split.word) ≡ Some was.fields = ap (fields_in tag.text (length pats)) message_is ∙ was.fields_are in
      let statement : Statement = record { line = line; act = statements.Split split tag pats } in
      let matched = patterns_at file T X handler done statement names k at (λ part h. inr h) in
      record {
        values_are_valid = opened_valid decls T tag pats (bytes_at names split.word) was.fields more fields_are was.more_are valid;
        holds = subst (λ (ws : List Written). Holds decls T choice (write names ws) (after (setting_of decls handler) k (statements.Split split tag pats))) was.more_are
            (split_holds below equal (setting_of decls handler) T choice names k knows.holds split tag pats was.fields fields_are
            (are_written file T X handler (bound_after handler done) names at.running pats was.fields was.fit matched) was.fit);
      }

  pub popen_is_sound : (sealed key : Id) (usage : UseText) (tag : Quote) (pats : List Pattern) → WritesSoundly (statements.Popened sealed key usage tag pats)
  popen_is_sound sealed key usage tag pats file T X handler done line names choice k more at effect knows =
      let decls = file.decls in
      let setting = setting_of decls handler in
      let act = statements.Popened sealed key usage tag pats in
      let statement : Statement = record { line = line; act = act } in
      let was = was_opened names tag pats (penc_message (bytes_at names sealed.word) (bytes_at names key.word)) more effect in
      let sealed_is = is_penc equal (bytes_at names sealed.word) (bytes_at names key.word) was.message was.found_is in
      let valid : IsValid decls T (Penc (Pk (bytes_at names key.word)) was.message) =
      subst (IsValid decls T) sealed_is (name_is_valid decls T names at.running.values_are_valid (Named sealed)) in
      let agrees = subst (λ (ws : List Written). Agrees (words_of (handler_names handler)) (newest X names.principal names.session) (write names ws) choice) (sym was.more_are) knows.agrees in
      let case = is_opened file T X handler done statement names k at equal choice Pke sealed key usage tag was.message was.fields was.fields_are was.fit agrees (λ part h. h) in
      let has = use_holds below decls T choice (bytes_at names key.word) (known_of k (Named key)) (known_of_name decls T choice names k knows.holds (Named key)) (use_in (name_number setting) usage)
      (at.are_met (OpenedBy Pke (Named key) (use_in (name_number setting) usage)) (key_demanded setting act Pke (Named key) usage [] refl)) in
      record {
        values_are_valid = opened_valid decls T tag pats was.message was.fields more was.fields_are was.more_are valid.1;
        holds = subst (λ (ws : List Written). Holds decls T choice (write names ws) (after setting k act)) was.more_are
            (openings.popen_holds below equal setting T choice names k knows.holds usage tag pats was.message was.fields case key has valid.2);
      }

  pub open_is_sound : (sealed key : Id) (usage : UseText) (tag : Quote) (pats : List Pattern) (ad : Expr) → WritesSoundly (statements.Opened sealed key usage tag pats ad)
  open_is_sound sealed key usage tag pats ad file T X handler done line names choice k more at effect knows =
      let decls = file.decls in
      let setting = setting_of decls handler in
      let act = statements.Opened sealed key usage tag pats ad in
      let statement : Statement = record { line = line; act = act } in
      let was = was_opened names tag pats (option_and_then (aead_message_with (bytes_at names sealed.word) (bytes_at names key.word)) (if_small (value names ad))) more effect in
      let given = and_then_is (aead_message_with (bytes_at names sealed.word) (bytes_at names key.word)) (if_small (value names ad)) was.message was.found_is in
      let sealed_is = is_aead equal (bytes_at names sealed.word) (bytes_at names key.word) given.0 was.message given.2 in
      let valid : IsValid decls T (trees.Aead (bytes_at names key.word) was.message sealed_is.0) =
      subst (IsValid decls T) sealed_is.1 (name_is_valid decls T names at.running.values_are_valid (Named sealed)) in
      let agrees = subst (λ (ws : List Written). Agrees (words_of (handler_names handler)) (newest X names.principal names.session) (write names ws) choice) (sym was.more_are) knows.agrees in
      let case = is_opened file T X handler done statement names k at equal choice Aead sealed key usage tag was.message was.fields was.fields_are was.fit agrees
      (λ part h. IsIn-left part (parts_of_opening Aead sealed key usage tag pats) (parts_of_expr ad) h) in
      let has = use_holds below decls T choice (bytes_at names key.word) (known_of k (Named key)) (known_of_name decls T choice names k knows.holds (Named key)) (use_in (name_number setting) usage)
      (at.are_met (OpenedBy Aead (Named key) (use_in (name_number setting) usage)) (key_demanded setting act Aead (Named key) usage (operations_of_expr ad) refl)) in
      record {
        values_are_valid = opened_valid decls T tag pats was.message was.fields more was.fields_are was.more_are valid.1;
        holds = subst (λ (ws : List Written). Holds decls T choice (write names ws) (after setting k act)) was.more_are
            (openings.open_holds below equal setting T choice names k knows.holds usage tag pats was.message was.fields case key has valid.3 valid.4);
      }

  pub verify_is_sound : (signed key : Id) (usage : UseText) (tag : Quote) (pats : List Pattern) → WritesSoundly (statements.Verify signed key usage tag pats)
  verify_is_sound signed key usage tag pats file T X handler done line names choice k more at effect knows =
      let decls = file.decls in
      let setting = setting_of decls handler in
      let act = statements.Verify signed key usage tag pats in
      let statement : Statement = record { line = line; act = act } in
      let was = was_opened names tag pats (verified_message (bytes_at names signed.word) (bytes_at names key.word)) more effect in
      let signed_is = is_signed equal (bytes_at names signed.word) (bytes_at names key.word) was.message was.found_is in
      let valid : IsValid decls T (Sign signed_is.0 was.message) =
      subst (IsValid decls T) signed_is.1 (name_is_valid decls T names at.running.values_are_valid (Named signed)) in
      let agrees = subst (λ (ws : List Written). Agrees (words_of (handler_names handler)) (newest X names.principal names.session) (write names ws) choice) (sym was.more_are) knows.agrees in
      let case = is_opened file T X handler done statement names k at equal choice Sig signed key usage tag was.message was.fields was.fields_are was.fit agrees (λ part h. h) in
      let keys = key_part file T X handler done statement names k at equal choice Sig signed key usage tag was.message was.fields was.fields_are was.fit agrees (λ part h. h) in
      let has = at.are_met (OpenedBy Sig (Named key) (use_in (name_number setting) usage)) (key_demanded setting act Sig (Named key) usage [] refl) in
      record {
        values_are_valid = opened_valid decls T tag pats was.message was.fields more was.fields_are was.more_are valid.1;
        holds = subst (λ (ws : List Written). Holds decls T choice (write names ws) (after setting k act)) was.more_are
            (verify_holds below equal setting T choice names k knows.holds usage tag pats was.message was.fields case signed key signed_is.0 signed_is.1 signed_is.2 has valid.2
            (claims_no_uses file T X handler done statement names k at Sig usage keys case.case tag.text case.is_declared (λ is. or_left _ _ is)
            (case_stands decls usage.args case.case (patterns_names pats))));
      }
