use Rattle.std.proofs.Common.{◌≡◌, fold, length, get_or, subst, sym, ap, arith}
use Rattle.std.proofs.lemmas.List.{get_or_default}
use Rattle.dy_syntax.specs.Meaning.{pattern_of}
use Rattle.dy_types.specs.Claims as claims
use Rattle.dy_types.specs.Meaning.{known_of}
use Rattle.dy_types.specs.Tables.{KnownHasTables}
use Rattle.dy_types.specs.declared.knowns.Known.{Known}
use Rattle.dy_typing.specs.Knowledge.{Knowledge}
use Rattle.dy_typing.specs.Effects.{match_field}
use Rattle.dy_check.specs.Meaning.{knowledge_of}
use Rattle.dy_check.specs.Tables.{KnowledgeHasTables}
use Rattle.dy_check.proofs.SideBySide.{fold_zip_more, zip_whole}
use Rattle.dy_check.proofs.ValueTables.{length_of_kept, value_at}
use Rattle.dy_check.proofs.effects.fields.match_fields.Goals as goal

pub loop-i-preserved : goal.loop-i-preserved
loop-i-preserved c = λ k values h v.
    let i = c.loop-i.i in
    let pats = c.args.pats.now in
    let fields = c.args.fields.now in
    let pat = c.index-pats-i.result in
    let field = c.index-fields-i.result in
    let same : length values ≡ length fields = length_of_kept values fields v in
    let value = get_or values i claims.unknown in
    let has : KnownHasTables value (known_of field) = subst (λ (f : Known). KnownHasTables value (known_of f)) (sym c.index-fields-i.is)
    (value_at values fields i field v (omega arith)) in
    let more = fold_zip_more match_field k pattern_of pats values i pat value (omega arith) (omega arith) c.index-pats-i.is (get_or_default values i claims.unknown value (omega arith)) in
    subst (λ (known : Knowledge). KnowledgeHasTables known (knowledge_of c.match_field.new.known)) (sym more)
    (c.in_ok-match_field.ensures _ value (c.loop-i.invariant k values h v) has)

pub returns : goal.returns
returns c = λ k values h v.
    let same : length values ≡ length c.args.fields.now = length_of_kept values c.args.fields.now v in
    let whole = zip_whole pattern_of c.args.pats.now values c.loop-i.i (λ in_pats in_fields. absurd (omega arith)) in
    subst (λ (known : Knowledge). KnowledgeHasTables known (knowledge_of c.loop-i.known)) (ap (fold match_field k) whole)
    (c.loop-i.invariant k values h v)
