-- What the types of the code stand for.
use Rattle.std.specs.Prelude.{map, List, Option}
use Rattle.std.specs.Option.{option_map}
use Rattle.dy_label.specs.Words.{Atom, Prior, Next}
use Rattle.dy_syntax.specs.Names as names
use Rattle.dy_syntax.specs.Meaning.{decl_of, id_of}
use Rattle.dy_types.specs.Meaning as types
use Rattle.dy_types.specs.Tables.{Table}
use Rattle.dy_typing.specs.Names as n
use Rattle.dy_typing.specs.Names.{name_number, stands_number}
use Rattle.dy_typing.specs.Knowledge.{KnowledgeOf}
use Rattle.dy_check.specs.declared.settings.Setting as setting
use Rattle.dy_check.specs.declared.stands.NmRef as nm_ref
use Rattle.dy_check.specs.declared.stands.NmRef.TheVariants as nm_refs
use Rattle.dy_check.specs.declared.stands.Standing as standing
use Rattle.dy_check.specs.declared.labels.Version as version
use Rattle.dy_check.specs.declared.labels.Version.TheVariants as versions
use Rattle.dy_check.specs.declared.knowledge.Knowledge as knowledge

abbrev pub setting_of : setting.Setting → n.Setting
setting_of s = record { decls = map decl_of s.cases.now; names = s.names }

-- a name or a variable that is written somewhere
abbrev pub nm_ref_of : nm_ref.NmRef → names.Nm
nm_ref_of (nm_refs.Me line) = names.Me line
nm_ref_of (nm_refs.Named id) = names.Named (id_of id.now)

-- what has the places of fields
abbrev pub places_of : List (Option nm_ref.NmRef) → List (Option names.Nm)
places_of places = map (option_map nm_ref_of) places

abbrev pub stands_of : List standing.Standing → n.Stands
stands_of stands = map (λ s. (s.word.now, option_map nm_ref_of s.place)) stands

abbrev pub version_of : version.Version → Atom
version_of versions.Prior = Prior
version_of versions.Next = Next

abbrev pub here_of : Option version.Version → Option Atom
here_of here = option_map version_of here

abbrev pub knowledge_of : knowledge.Knowledge → KnowledgeOf Table
knowledge_of k = record {
  words = k.words;
  first = k.first;
  values = map types.known_of k.values;
  facts = types.facts_of k.facts;
}
