use Rattle.std.proofs.Common.{◌≡◌, ℕ, ◌+◌, ◌≤◌, List, [], ◌∷◌, ◌++◌, inl, inr, length, take, ap, sym, ◌∙◌, subst, arith}
use Rattle.std.specs.List.{take-map}
use Rattle.std.proofs.lemmas.Bool.{cases_lt}
use Rattle.std.proofs.lemmas.Result.{IfOk-weaker}
use Rattle.std.proofs.lemmas.List.{map_more, take_all, take-take, length-map, length-take-le}
use Rattle.dy_term.specs.Terms.{Nonce}
use Rattle.dy_syntax.specs.Meaning.{file_of}
use Rattle.dy_entry.specs.declared.entries.Entry as declared
use Rattle.dy_entry.specs.Entries.{Entry}
use Rattle.dy_entry.specs.Attacker.{Derives}
use Rattle.dy_entry.specs.ValueLabels.{IsMade}
use Rattle.dy_entry.specs.Meaning.{entry_of, entries_of}
use Rattle.dy_know.specs.Conditions.{MakesNoncesFirst}
use Rattle.dy_know.specs.Reports.{IsReport}
use Rattle.dy_know.specs.ReportMeaning.{report_of}
use Rattle.dy_know.specs.MirrorAuditors.{Audits}
use Rattle.dy_know.proofs.auditing.audit.Goals as goal

-- a prefix of a trace makes its nonces first where the trace does
first_prefix : (T : List Entry) (n : ℕ) → n ≤ length T → MakesNoncesFirst T → MakesNoncesFirst (take n T)
first_prefix T n within first = record {
  made = λ m index derived. elim (cases_lt n m) [
    | inl past ↦
        let whole : take m (take n T) ≡ take n T = take_all m (take n T) (omega (arith, past, length-take-le n T within)) in
        subst (λ (X : List Entry). IsMade X index) (sym whole) (first.made n index (subst (λ (X : List Entry). Derives X (Nonce index)) whole derived))
    | inr below ↦
        let shorter : take m (take n T) ≡ take m T = take-take m n T below in
        subst (λ (X : List Entry). IsMade X index) (sym shorter) (first.made m index (subst (λ (X : List Entry). Derives X (Nonce index)) shorter derived))
  ];
}

pub loop-entry-preserved : goal.loop-entry-preserved
loop-entry-preserved c =
    let decls = (file_of c.args.file.now).decls in
    let entries = c.args.entries.now in
    let at = c.loop-entry.entry-index in
    let entry = c.entry-item.result in
    let more : entries_of (take at entries) ++ entry_of entry ∷ [] ≡ entries_of (take (at + 1) entries) =
    ap (λ (e : declared.Entry). entries_of (take at entries) ++ entry_of e ∷ []) c.entry-item.is ∙ sym (map_more entry_of entries at entry c.loop-entry-test.true) in
    let within : at + 1 ≤ length (entries_of entries) = omega (arith, c.loop-entry-test.true, length-map entries entry_of) in
    let first : MakesNoncesFirst (entries_of (take at entries) ++ entry_of entry ∷ []) =
    subst MakesNoncesFirst (take-map entry_of (at + 1) entries ∙ sym more) (first_prefix (entries_of entries) (at + 1) within c.requires.first) in
    subst (Audits c.push.new.self decls) more (c.in_ok-push.ensures.ok decls (entries_of (take at entries)) first c.loop-entry.invariant)

pub returns : goal.returns
returns c =
    let decls = (file_of c.args.file.now).decls in
    let T = entries_of c.args.entries.now in
    let audits : Audits c.loop-entry.auditor decls T =
    subst (Audits c.loop-entry.auditor decls) (ap entries_of (take_all c.loop-entry.entry-index c.args.entries.now c.loop-entry-test.false)) c.loop-entry.invariant in
    IfOk-weaker c.report.result _ (λ report. IsReport decls T (report_of report)) (λ report is. is decls T audits) c.report.ensures
