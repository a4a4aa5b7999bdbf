use Rattle.std.proofs.Common.{◌≡◌, ◌++◌, ◌∷◌, [], None, map, rules}
use Rattle.std.proofs.lemmas.List.{map_push}
use Rattle.std.proofs.lemmas.Result.{err_from_is_err_and}
use Rattle.dy_parse.specs.Mirrors.Lists.{after_mark, rest_at, rest_mark, with_prefix}
use Rattle.dy_parse.proofs.Grammars.Lists.{ends_with, goes_on, fails_with, next_shorter}
use Rattle.dy_parse.proofs.lists.read_rest.Goals as goal

pub returns-in-Some : goal.returns-in-Some
returns-in-Some g c =
    let part = g.P.Listed in
    let total = with_prefix (map part.view c.args.prefix) (rest_at c.args.kind part.item c.args.tokens.now) in
    ends_with c.args.kind part.item total (map part.view c.items.found) c.items.left c.items.invariant c.in-Some.rest (search rules)

pub returns-in_err-item : goal.returns-in_err-item
returns-in_err-item g c =
    let part = g.P.Listed in
    let total = with_prefix (map part.view c.args.prefix) (rest_at c.args.kind part.item c.args.tokens.now) in
    let p = err_from_is_err_and c.from_residual.result c.from_residual.ensures.1 in
    let open_ : after_mark (rest_mark c.args.kind) c.items.left ≡ None = search rules in
    rw (p.1, p.2) (fails_with c.args.kind part.item total (map part.view c.items.found) c.items.left c.items.invariant c.in_err-item.field-0.0 open_ c.in_err-item.ensures)

pub items-smaller : goal.items-smaller
items-smaller g c = next_shorter c.args.kind g.P.Listed.item c.items.left _ c.in_ok-item.ensures

pub items-preserved : goal.items-preserved
items-preserved g c =
    let part = g.P.Listed in
    let total = with_prefix (map part.view c.args.prefix) (rest_at c.args.kind part.item c.args.tokens.now) in
    let open_ : after_mark (rest_mark c.args.kind) c.items.left ≡ None = search rules in
    let pushed : map part.view c.push.new.self ≡ map part.view c.items.found ++ part.view c.in_ok-item.item ∷ [] = rw c.in_ok-push.ensures.ok (map_push _ c.items.found c.in_ok-item.item) in
    rw pushed (goes_on c.args.kind part.item total (map part.view c.items.found) c.items.left c.items.invariant (part.view c.in_ok-item.item) c.in_ok-item.rest open_ c.in_ok-item.ensures)
