use Rattle.std.proofs.Common.{◌≡◌, ◌++◌, List, Option, drop, map, sym, ap, ◌∙◌, subst}
use Rattle.dy_derive.specs.KnowledgeMeaning.{nonces_of}
use Rattle.dy_know.specs.declared.secrets.Secret.{Secret}
use Rattle.dy_know.specs.declared.happened.Lack.{Lack}
use Rattle.dy_know.specs.Reports.{ListsBreaches}
use Rattle.dy_know.specs.ReportMeaning.{known_of, breach_of}
use Rattle.dy_know.specs.MirrorAuditors.{KeepsSecrets}
use Rattle.dy_know.specs.MirrorReports.{breach_of_lack}
use Rattle.dy_know.proofs.ReportLists.{lists_all_known, lists_both}
use Rattle.dy_know.proofs.auditors.Auditor.report.Goals as goal

pub returns : goal.returns
returns c = λ decls T audits.
    let auditor = c.args.self.now in
    let nonces = nonces_of auditor.knowledge in
    let missing = drop auditor.pending nonces in
    let notes = audits.notes in
    let all = c.knows_all.ensures T audits.knowledge in
    let of_nonces = map breach_of c.in_ok-nonce_breaches.field-0 in
    let lent : KeepsSecrets nonces missing T c.as_slice.result.now = subst (λ (xs : List (Option Secret)). KeepsSecrets nonces missing T xs) (sym c.as_slice.ensures.value) notes.secrets in
    let list : map breach_of c.in_ok-breaches.breaches ≡ of_nonces ++ map breach_of_lack auditor.notes.lacks.items =
    c.in_ok-breaches.ensures ∙ ap (λ (xs : List Lack). of_nonces ++ map breach_of_lack xs) c.as_slice-2.ensures.value in
    record {
      known = lists_all_known nonces T (map known_of c.in_ok-known.known) all (c.in_ok-known.ensures T nonces missing lent);
      breaches = subst (ListsBreaches decls T) (sym list)
          (lists_both decls T of_nonces auditor.notes.lacks.items (c.in_ok-nonce_breaches.ensures T nonces missing audits.knowledge notes.secrets all) notes.lacks);
    }
