use Rattle.std.proofs.Common.{◌≡◌, ℕ, List, [], length, drop, sum_by, refl, ap, sym, ◌∙◌, subst, arith}
use Rattle.std.specs.Vec.{with_items}
use Rattle.std.proofs.lemmas.List.{with_items_is}
use Rattle.dy_derive.specs.KnowledgeMeaning.{nonces_of}
use Rattle.dy_know.specs.declared.notes.Notes.{Notes}
use Rattle.dy_know.specs.MirrorAuditors.{KeepsSecrets, AreDerived, breach_count}
use Rattle.dy_know.proofs.InTurn.{derived_in_drop}
use Rattle.dy_know.proofs.Growing.{keeps_with}
use Rattle.dy_know.proofs.Pushed.{from_place, on_err}
use Rattle.dy_know.proofs.auditors.Auditor.explain.Goals as goal

pub returns-in_err-add_recipes-clause-err : goal.returns-in_err-add_recipes-clause-err
returns-in_err-add_recipes-clause-err c = on_err c.from_residual.result (λ decls T audits.
    let self = c.args.self.now in
    let new : Notes = record { secrets = with_items self.notes.secrets c.add_recipes.new.secrets; corruptions = self.notes.corruptions; happened = self.notes.happened; lacks = self.notes.lacks; breaches = self.notes.breaches } in
    let known = nonces_of self.knowledge in
    let missing = drop self.pending known in
    let derived : AreDerived T missing = derived_in_drop T known self.pending (c.nonces-nonces.ensures.derived T audits.knowledge) in
    let kept : KeepsSecrets known missing T c.add_recipes.new.secrets =
    subst (λ (m : List ℕ). AreDerived T m → KeepsSecrets known m T c.deref_mut.result.now → KeepsSecrets known m T c.add_recipes.new.secrets)
    (from_place known c.nonces-nonces.result.now self.pending c.min-pending.result c.nonces-nonces.ensures.value c.min-pending.ensures)
    (c.in_err-add_recipes.ensures.err T known audits.knowledge) derived
    (subst (KeepsSecrets known missing T) (sym c.deref_mut.ensures.value) audits.notes.secrets) in
    let held : new.secrets.items ≡ c.add_recipes.new.secrets =
    with_items_is self.notes.secrets c.add_recipes.new.secrets (omega (arith, kept.one_each, audits.notes.secrets.one_each, c.deref_mut.ensures.len, ap length c.deref_mut.ensures.value)) in
    record {
      knowledge = audits.knowledge;
      events_are = audits.events_are;
      notes = keeps_with known missing known missing decls T self.notes new (subst (KeepsSecrets known missing T) (sym held) kept) refl refl refl
          (audits.notes.breaches_are ∙ ap (sum_by breach_count) (sym c.deref_mut.ensures.value) ∙ sym c.add_recipes.ensures.count ∙ ap (sum_by breach_count) (sym held)) audits.notes;
    })

pub returns-clause-ok : goal.returns-clause-ok
returns-clause-ok c = λ decls T audits.
    let self = c.args.self.now in
    let new : Notes = record { secrets = with_items self.notes.secrets c.add_recipes.new.secrets; corruptions = self.notes.corruptions; happened = self.notes.happened; lacks = self.notes.lacks; breaches = self.notes.breaches } in
    let known = nonces_of self.knowledge in
    let missing = drop self.pending known in
    let derived : AreDerived T known = c.nonces-nonces.ensures.derived T audits.knowledge in
    let kept : KeepsSecrets known [] T c.add_recipes.new.secrets =
    subst (λ (m : List ℕ). AreDerived T m → KeepsSecrets known m T c.deref_mut.result.now → KeepsSecrets known [] T c.add_recipes.new.secrets)
    (from_place known c.nonces-nonces.result.now self.pending c.min-pending.result c.nonces-nonces.ensures.value c.min-pending.ensures)
    (c.in_ok-add_recipes.ensures.ok T known audits.knowledge) (derived_in_drop T known self.pending derived)
    (subst (KeepsSecrets known missing T) (sym c.deref_mut.ensures.value) audits.notes.secrets) in
    let held : new.secrets.items ≡ c.add_recipes.new.secrets =
    with_items_is self.notes.secrets c.add_recipes.new.secrets (omega (arith, kept.one_each, audits.notes.secrets.one_each, c.deref_mut.ensures.len, ap length c.deref_mut.ensures.value)) in
    record {
      knowledge = audits.knowledge;
      events_are = audits.events_are;
      notes = keeps_with known missing known [] decls T self.notes new (subst (KeepsSecrets known [] T) (sym held) kept) refl refl refl
          (audits.notes.breaches_are ∙ ap (sum_by breach_count) (sym c.deref_mut.ensures.value) ∙ sym c.add_recipes.ensures.count ∙ ap (sum_by breach_count) (sym held)) audits.notes;
      pending_is = ap length c.nonces-nonces.ensures.value;
      derived = derived;
      all = c.nonces-nonces.ensures.all T audits.knowledge;
    }
