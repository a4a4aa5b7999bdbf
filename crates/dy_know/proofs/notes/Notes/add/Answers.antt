use Rattle.std.proofs.Common.{◌≡◌, ◌+◌, ◌^◌, ◌<◌, List, [], ◌∷◌, ◌++◌, map, length, refl, ap, sym, ◌∙◌, subst, arith}
use Rattle.std.proofs.lemmas.List.{append-nil, map-append}
use Rattle.std.proofs.lemmas.Result.{on_ok_weaker}
use Rattle.dy_term.specs.Terms.{Term}
use Rattle.dy_label.specs.LabelsMeaning.{place_of_corruption, places_of}
use Rattle.dy_label.specs.declared.readers.Corruption.{Corruption}
use Rattle.dy_syntax.specs.Meaning.{event_of}
use Rattle.dy_entry.specs.Entries as entries
use Rattle.dy_entry.specs.Entries.{Entry}
use Rattle.dy_entry.specs.Meaning.{entry_of}
use Rattle.dy_know.specs.declared.notes.Notes.{Notes}
use Rattle.dy_know.specs.MirrorEvents.{ListsLacks}
use Rattle.dy_know.specs.MirrorNotes.{AddsEvent}
use Rattle.dy_know.specs.MirrorAuditors.{fresh_label, new_secret, Keeps}
use Rattle.dy_know.proofs.Growing.{grows, lists_other, lists_event, other_entry}
use Rattle.dy_know.proofs.notes.Notes.add.Goals as goal

pub returns-in_ok-push-in-Corrupt-clause-ok : goal.returns-in_ok-push-in-Corrupt-clause-ok
returns-in_ok-push-in-Corrupt-clause-ok c = λ known decls T are fresh keeps.
    let self = c.args.self.now in
    let new : Notes = record { secrets = c.push.new.self; corruptions = c.push-in-Corrupt.new.self; happened = self.happened; lacks = self.lacks; breaches = self.breaches } in
    let e : Entry = entries.Corrupt c.in-Corrupt.field-0 (place_of_corruption c.in-Corrupt.corruption) in
    let e_is : e ≡ entry_of c.args.entry.now = ap entry_of (sym c.in-Corrupt.is) in
    let few : length T + 1 < 2 ^ 32 = omega (arith, c.if-index.false, c.len-index.ensures, keeps.secrets.one_each) in
    subst (λ (e : Entry). Keeps new known [] decls (T ++ e ∷ [])) e_is
    (grows known decls T e self new fresh few
    (c.in_ok-push.ensures.items ∙ ap (λ s. self.secrets.items ++ s ∷ []) (c.in_ok-secret_of.ensures ∙ ap (λ e. new_secret (fresh_label e)) (sym e_is)))
    (ap places_of c.in_ok-push-in-Corrupt.ensures.items ∙ map-append place_of_corruption self.corruptions.items (c.copy.result ∷ [])
    ∙ ap (λ (k : Corruption). places_of self.corruptions.items ++ place_of_corruption k ∷ []) c.copy.ensures)
    (sym (append-nil self.happened.items)) refl
    (lists_other decls T e self new refl refl keeps.lacks) keeps)

pub returns-in-Event-clause-ok : goal.returns-in-Event-clause-ok
returns-in-Event-clause-ok c = on_ok_weaker c.add_event.result (λ adds. λ known decls T are fresh keeps.
    let self = c.args.self.now in
    let e : Entry = entries.Event c.in-Event.field-0 c.in-Event.field-1 c.in-Event.name c.in-Event.args in
    let e_is : e ≡ entry_of c.args.entry.now = ap entry_of (sym c.in-Event.is) in
    let index_is : c.len-index.result ≡ length T = omega (arith, c.len-index.ensures, keeps.secrets.one_each) in
    let few : length T + 1 < 2 ^ 32 = omega (arith, c.if-index.false, index_is) in
    let events = map event_of c.args.events.now in
    let name = c.in-Event.name in
    let args = c.in-Event.args in
    let new = c.add_event.new.self in
    let begun : Notes = record { secrets = c.push.new.self; corruptions = self.corruptions; happened = self.happened; lacks = self.lacks; breaches = self.breaches } in
    let added : AddsEvent events (length T) name args begun new =
    subst (λ n. AddsEvent events n name args begun new) index_is
    (subst (λ (terms : List Term). AddsEvent events c.len-index.result name terms begun new) c.as_slice.ensures adds) in
    let lists : ListsLacks decls (T ++ e ∷ []) (length T + 1) 0 new.lacks.items =
    lists_event events decls T c.in-Event.field-0 c.in-Event.field-1 name args begun new are keeps.happened_are keeps.corruptions_are added keeps.lacks in
    subst (λ (e : Entry). Keeps new known [] decls (T ++ e ∷ [])) e_is
    (grows known decls T e self new fresh few
    (added.secrets ∙ c.in_ok-push.ensures.items ∙ ap (λ s. self.secrets.items ++ s ∷ []) (c.in_ok-secret_of.ensures ∙ ap (λ e. new_secret (fresh_label e)) (sym e_is)))
    (ap places_of added.corruptions ∙ sym (append-nil (places_of self.corruptions.items)))
    added.happened added.breaches lists keeps)) c.add_event.ensures.ok

pub returns-in_default : goal.returns-in_default
returns-in_default c =
    let self = c.args.self.now in
    let e = entry_of c.args.entry.now in
    let new : Notes = record { secrets = c.push.new.self; corruptions = self.corruptions; happened = self.happened; lacks = self.lacks; breaches = self.breaches } in
    let other = other_entry c.args.entry.now c.in_default.not-Event c.in_default.not-Corrupt in
    record {
      ok = λ known decls T are fresh keeps.
          let few : length T + 1 < 2 ^ 32 = omega (arith, c.if-index.false, c.len-index.ensures, keeps.secrets.one_each) in
          grows known decls T e self new fresh few
          (c.in_ok-push.ensures.items ∙ ap (λ s. self.secrets.items ++ s ∷ []) c.in_ok-secret_of.ensures)
          (sym (ap (λ cs. places_of self.corruptions.items ++ cs) other.2 ∙ append-nil (places_of self.corruptions.items)))
          (sym (ap (λ hs. self.happened.items ++ hs) other.1 ∙ append-nil self.happened.items)) refl
          (lists_other decls T e self new other.0 refl keeps.lacks) keeps;
      extends = record {
        secrets = (c.in_ok-secret_of.field-0 ∷ [], c.in_ok-push.ensures.items);
        corruptions = ([], sym (append-nil self.corruptions.items));
        happened = ([], sym (append-nil self.happened.items));
        lacks = ([], sym (append-nil self.lacks.items));
        breaches = refl;
      };
    }
