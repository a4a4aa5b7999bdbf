-- After `find` what is known holds.
use Rattle.std.proofs.Common.{◌≡◌, ℕ, List, [], Contains, Option, inl, inr, refl, sym, subst}
use Rattle.std.specs.Option.{option_and_then, option_to_list}
use Rattle.dy_label.specs.Labels.{Public}
use Rattle.dy_syntax.specs.Names.{Id, Nm}
use Rattle.dy_syntax.specs.Statements as statements
use Rattle.dy_syntax.specs.Scopes.{words_of, handler_names}
use Rattle.dy_typing.specs.Names.{setting_of}
use Rattle.dy_typing.specs.Instances.{name_label}
use Rattle.dy_typing.specs.Knowledge.{bind}
use Rattle.dy_typing.specs.Effects.{found_claims, found_key}
use Rattle.dy_entry.specs.LookUps.{newest}
use Rattle.dy_eval.specs.declared.written.Written.{Written}
use Rattle.dy_eval.specs.Names.{write, principal_for}
use Rattle.dy_eval.specs.Past.{key_of}
use Rattle.dy_sound.specs.LawsBelow.{LawsBelow}
use Rattle.dy_sound.specs.Valid.{IsValid}
use Rattle.dy_sound.specs.Knowledge.{KnownHolds, Holds}
use Rattle.dy_sound.specs.Good.{IsGoodCert}
use Rattle.dy_sound.specs.StatementsAreSound.{WritesSoundly}
use Rattle.dy_sound.proofs.Lists.{Contains-none, Contains-cases}
use Rattle.dy_sound.proofs.Bound.{bound_holds}
use Rattle.dy_sound.proofs.WrittenWords.{name_stands}
use Rattle.dy_sound.proofs.MatchesAt.{handler_matches}
use Rattle.dy_sound.proofs.NamesAt.{name_is_named}
use Rattle.dy_sound.proofs.ItemsPut.{writes_is, and_then_is}
use Rattle.dy_sound.proofs.CertificatesFound.{good_cert_found, found_is_known}

pub find_is_sound : LawsBelow → (usage : Id) (owner : Nm) (name : Id) → WritesSoundly (statements.Find usage owner name)
find_is_sound below usage owner name file T X handler done line names choice k more at effect knows =
    let decls = file.decls in
    let look = option_and_then (λ (principal : List ℕ). key_of X principal usage.word) (principal_for names owner) in
    let wrote = writes_is name.word look more effect in
    let key = wrote.0 in
    let found = and_then_is (λ (principal : List ℕ). key_of X principal usage.word) (principal_for names owner) key wrote.1 in
    let matches = handler_matches handler (newest X names.principal names.session) names more choice at.running.names_are_principals knows.agrees in
    let named = name_is_named file T X handler done (record { line = line; act = statements.Find usage owner name }) names k at owner (inr (inl refl)) in
    let stands = name_stands decls (words_of (handler_names handler)) (newest X names.principal names.session) names choice matches owner named in
    let owner_is : found.0 ≡ choice.principals stands.of_name = let one = found.1 in let other = stands.principal_is in cc in
    let good : IsGoodCert decls T (choice.principals stands.of_name) usage.word key =
    subst (λ (p : List ℕ). IsGoodCert decls T p usage.word key) owner_is
    (good_cert_found decls T X at.running.since at.running.good at.running.extends found.0 usage.word key found.2) in
    let known : KnownHolds decls T choice key (found_key (setting_of decls handler) usage owner) =
    subst (λ (number : Option ℕ). KnownHolds decls T choice key
    (record { hi = Public; lo = Public; claims = found_claims decls (name_label number) (record { usage = usage.word; args = option_to_list number }) }))
    (sym stands.number_is) (found_is_known below decls T choice usage.word key stands.of_name good) in
    let written : Written = record { word = name.word; bytes = key } in
    record {
      values_are_valid = λ other has. elim (Contains-cases written [] other (subst (λ (ws : List Written). Contains ws other) (sym wrote.2) has)) [
        | inl same ↦ subst (λ (w : Written). IsValid decls T w.bytes) same good.may_be_known.valid
        | inr none ↦ absurd (Contains-none other none)
      ];
      holds = subst (λ (ws : List Written). Holds decls T choice (write names ws) (bind k name.word (found_key (setting_of decls handler) usage owner))) wrote.2
          (bound_holds decls T choice names k knows.holds written (found_key (setting_of decls handler) usage owner) known);
    }
