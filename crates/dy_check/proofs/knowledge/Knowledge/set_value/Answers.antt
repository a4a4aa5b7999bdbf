use Rattle.std.proofs.Common.{◌≡◌, ◌≤◌, List, map, length, slice_set, sym, ap, subst, ◌∙◌, arith}
use Rattle.std.proofs.lemmas.List.{set_past, map-set, length-map}
use Rattle.dy_types.specs.Claims.{KnownOf}
use Rattle.dy_types.specs.Meaning.{known_of}
use Rattle.dy_types.specs.Tables.{Table}
use Rattle.dy_check.specs.Meaning.{knowledge_of}
use Rattle.dy_check.specs.Tables.{ValuesHaveTables}
use Rattle.dy_check.proofs.KnowledgeTables.{with_value-tables}
use Rattle.dy_check.proofs.knowledge.Knowledge.set_value.Goals as goal

pub returns-then-number-len : goal.returns-then-number-len
returns-then-number-len c = λ k more h m.
    let after = with_value-tables k (knowledge_of c.args.self.now) h c.args.number more (known_of c.args.known) m in
    let set : map known_of c.set.new.self ≡ slice_set (map known_of c.args.self.now.values) c.args.number (known_of c.args.known) =
    ap (map known_of) c.set.ensures ∙ map-set known_of c.args.self.now.values c.args.number c.args.known in
    record {
      words = after.words;
      first = after.first;
      values = subst (λ (values : List (KnownOf Table)). ValuesHaveTables (slice_set k.values c.args.number more) values) (sym set) after.values;
      facts = after.facts;
    }

pub returns-else-number-len : goal.returns-else-number-len
returns-else-number-len c = λ k more h m.
    let after = with_value-tables k (knowledge_of c.args.self.now) h c.args.number more (known_of c.args.known) m in
    let past : length (map known_of c.args.self.now.values) ≤ c.args.number = omega (arith, length-map c.args.self.now.values known_of, c.len.ensures, c.if-number-len.false) in
    let set = set_past (map known_of c.args.self.now.values) c.args.number (known_of c.args.known) past in
    record {
      words = after.words;
      first = after.first;
      values = subst (λ (values : List (KnownOf Table)). ValuesHaveTables (slice_set k.values c.args.number more) values) set after.values;
      facts = after.facts;
    }
