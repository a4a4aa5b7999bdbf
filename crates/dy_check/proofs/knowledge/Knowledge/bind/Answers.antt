use Rattle.std.proofs.Common.{◌≡◌, ◌++◌, ◌∷◌, [], List, map, sym, ap, subst, ◌∙◌}
use Rattle.std.proofs.lemmas.List.{map-append}
use Rattle.dy_types.specs.Claims.{KnownOf}
use Rattle.dy_types.specs.Meaning.{known_of}
use Rattle.dy_types.specs.Tables.{Table}
use Rattle.dy_check.specs.Meaning.{knowledge_of}
use Rattle.dy_check.specs.Tables.{ValuesHaveTables}
use Rattle.dy_check.proofs.KnowledgeTables.{bind-tables}
use Rattle.dy_check.proofs.knowledge.Knowledge.bind.Goals as goal

pub returns : goal.returns
returns c = λ k more h m.
    let after = bind-tables k (knowledge_of c.args.self.now) h c.args.word.now more (known_of c.args.known) m in
    let pushed : map known_of c.push-3.new.self ≡ map known_of c.args.self.now.values ++ known_of c.args.known ∷ [] =
    ap (map known_of) c.in_ok-push-3.ensures.ok ∙ map-append known_of c.args.self.now.values (c.args.known ∷ []) in
    let number = c.in-Ok.ensures.1 in
    record {
      words = let words = after.words in cc (c.in_ok-push.ensures.ok, c.copy.ensures);
      first = let first = after.first in cc (c.in_ok-push-2.ensures.ok, c.len.ensures, number);
      values = subst (λ (values : List (KnownOf Table)). ValuesHaveTables (k.values ++ more ∷ []) values) (sym pushed) after.values;
      facts = after.facts;
    }
