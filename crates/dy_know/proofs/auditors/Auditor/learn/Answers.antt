use Rattle.std.proofs.Common.{◌≡◌, ℕ, suc, ◌-◌, List, [], ◌++◌, length, take, drop, sum_by, refl, ap, sym, ◌∙◌, subst, arith}
use Rattle.std.proofs.lemmas.List.{drop_at, with_items_is}
use Rattle.std.specs.Vec.{with_items}
use Rattle.dy_label.specs.LabelsMeaning.{places_of}
use Rattle.dy_derive.specs.KnowledgeMeaning.{nonces_of}
use Rattle.dy_know.specs.declared.notes.Notes.{Notes}
use Rattle.dy_know.specs.MirrorAuditors.{KeepsSecrets, AllKnown, AreDerived, breach_count}
use Rattle.dy_know.proofs.InTurn.{derived_in_drop}
use Rattle.dy_know.proofs.Growing.{keeps_with}
use Rattle.dy_know.proofs.Audited.{few_breaches}
use Rattle.dy_know.proofs.Pushed.{from_place}
use Rattle.dy_know.proofs.auditors.Auditor.learn.Goals as goal

pub returns : goal.returns
returns c = λ decls T last added.
    let self = c.args.self.now in
    let new : Notes = record { secrets = with_items self.notes.secrets c.learn_all-found.new.secrets; corruptions = self.notes.corruptions; happened = self.notes.happened; lacks = self.notes.lacks; breaches = c.saturating_add-self.result } in
    let nonces = nonces_of self.knowledge in
    let known = added.known in
    let missing = drop self.pending nonces in
    let notes = added.notes in
    let entries : c.len-entries.result ≡ length T = omega (arith, c.len-entries.ensures, notes.secrets.one_each) in
    let last_is : last ≡ c.len-entries.result - 1 = omega (arith, entries, added.is_last) in
    let is_last : suc (c.len-entries.result - 1) ≡ length T = omega (arith, entries, added.is_last) in
    let more_is : missing ≡ added.more = ap (drop self.pending) added.nonces_are ∙ drop_at known added.more self.pending (sym added.pending_is) in
    let all_are : known ++ missing ≡ nonces = ap (λ ns. known ++ ns) more_is ∙ sym added.nonces_are in
    let learned : KeepsSecrets (known ++ missing) missing T c.learn_all-found.new.secrets =
    subst (λ (m : List ℕ). AreDerived T m → KeepsSecrets known [] T c.deref_mut.result.now → KeepsSecrets (known ++ m) m T c.learn_all-found.new.secrets)
    (from_place nonces c.nonces-nonces.result.now self.pending self.pending c.nonces-nonces.ensures.value (omega (arith, c.if-self-nonces.false)))
    (c.learn_all-found.ensures.secrets known T is_last (ap places_of c.as_slice.ensures.value ∙ notes.corruptions_are)
    (subst (λ n. AllKnown known (take n T)) last_is added.before))
    (derived_in_drop T nonces self.pending (c.nonces-nonces.ensures.derived T added.knowledge))
    (subst (KeepsSecrets known [] T) (sym c.deref_mut.ensures.value) notes.secrets) in
    let before : sum_by breach_count c.deref_mut.result.now ≡ self.notes.breaches = ap (sum_by breach_count) c.deref_mut.ensures.value ∙ sym notes.breaches_are in
    let few = few_breaches c.learn_all-found.new.secrets in
    let count : c.saturating_add-self.result ≡ sum_by breach_count c.learn_all-found.new.secrets =
    omega (arith, c.saturating_add-self.ensures, c.learn_all-found.ensures.count, before, few, learned.one_each, notes.few) in
    let held : new.secrets.items ≡ c.learn_all-found.new.secrets =
    with_items_is self.notes.secrets c.learn_all-found.new.secrets (omega (arith, learned.one_each, notes.secrets.one_each, c.deref_mut.ensures.len, ap length c.deref_mut.ensures.value)) in
    record {
      knowledge = added.knowledge;
      events_are = added.events_are;
      notes = keeps_with known [] nonces missing decls T self.notes new
          (subst (KeepsSecrets nonces missing T) (sym held) (subst (λ (k : List ℕ). KeepsSecrets k missing T c.learn_all-found.new.secrets) all_are learned))
          refl refl refl (count ∙ ap (sum_by breach_count) (sym held)) notes;
    }
