-- The events of a case or a state, one by one.
use Rattle.std.specs.Prelude.{List, map, Option}
use Rattle.dy_label.specs.Words.{Atom, StaticLabel}
use Rattle.dy_syntax.specs.Names.{AtomText}
use Rattle.dy_syntax.specs.Declarations.{Partner}
use Rattle.dy_typing.specs.Names.{Setting, Stands, atom_names, stands_number}
use Rattle.dy_typing.specs.Instances.{label_in}
use Rattle.dy_typing.specs.Effects.{Guarded}

abbrev pub atom_event : Stands → StaticLabel → AtomText → Guarded
atom_event stands guard atom = record { event = atom.event.word; args = atom_names stands atom; guard = guard }

abbrev pub atom_events : Stands → StaticLabel → List AtomText → List Guarded
atom_events stands guard atoms = map (atom_event stands guard) atoms

abbrev pub partner_event : Setting → Stands → Option Atom → Partner → Guarded
partner_event setting stands here partner =
    atom_event stands (label_in (stands_number setting stands) here partner.unless) partner.atom

abbrev pub partner_events : Setting → Stands → Option Atom → List Partner → List Guarded
partner_events setting stands here partners = map (partner_event setting stands here) partners
