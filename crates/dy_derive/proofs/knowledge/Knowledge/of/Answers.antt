use Rattle.std.proofs.Common.{◌++◌, ◌∷◌, [], ◌∙◌, List, ap, sym, subst, take}
use Rattle.std.proofs.lemmas.List.{map_more, take_all}
use Rattle.dy_entry.specs.declared.entries.Entry as declared
use Rattle.dy_entry.specs.Entries.{Entry}
use Rattle.dy_entry.specs.Meaning.{entry_of, entries_of}
use Rattle.dy_derive.specs.MirrorKnowledge.{Stands}
use Rattle.dy_derive.proofs.knowledge.Knowledge.of.Goals as goal

pub loop-entry-preserved : goal.loop-entry-preserved
loop-entry-preserved c =
    let entries = c.args.entries.now in
    let at = c.loop-entry.entry-index in
    let entry = c.entry-item.result in
    subst (λ (T : List Entry). Stands c.push.new.self T)
    (ap (λ (e : declared.Entry). entries_of (take at entries) ++ entry_of e ∷ []) c.entry-item.is ∙ sym (map_more entry_of entries at entry c.loop-entry-test.true))
    (c.in_ok-push.ensures.ok (entries_of (take at entries)) c.loop-entry.invariant)

pub returns : goal.returns
returns c =
    subst (λ (T : List Entry). Stands c.loop-entry.knowledge T) (ap entries_of (take_all c.loop-entry.entry-index c.args.entries.now c.loop-entry-test.false))
    c.loop-entry.invariant
