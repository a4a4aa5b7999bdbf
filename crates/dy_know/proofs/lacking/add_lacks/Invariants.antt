use Rattle.std.proofs.Common.{◌≡◌, ◌+◌, ◌++◌, List}
use Rattle.dy_label.specs.LabelsMeaning.{places_of}
use Rattle.dy_syntax.specs.Files.{Decl}
use Rattle.dy_syntax.specs.Meaning.{event_of}
use Rattle.dy_entry.specs.Entries.{Entry}
use Rattle.dy_know.specs.declared.happened.Lack.{Lack}
use Rattle.dy_know.specs.MirrorEvents.{ListsLacks, IsEventAt}
use Rattle.dy_know.proofs.lacking.add_lacks.Given as goal

-- those of the partners so far are listed
abbrev pub invariant-loop-place : goal.invariant-loop-place
invariant-loop-place l = record {
  lists : (decls : List Decl) (T : List Entry) → IsEventAt decls T l.index (event_of l.event) l.args l.happened (places_of l.corruptions)
      → ListsLacks decls T l.index 0 l.initial.lacks.items → ListsLacks decls T l.index (l.place + 1) l.lacks.items;
  extends : (more : List Lack) × (l.lacks.items ≡ l.initial.lacks.items ++ more);
}
