use Rattle.std.proofs.Common.{◌≡◌, ◌++◌, ◌∷◌, [], true, false, map, rules}
use Rattle.std.proofs.lemmas.List.{map_push}
use Rattle.std.proofs.lemmas.Result.{err_from_is_err_and}
use Rattle.dy_syntax.specs.Meaning.{decl_of, plan_of}
use Rattle.dy_grammar.specs.Parts.{Decls}
use Rattle.dy_grammar.specs.Mirrors.Machine.{at}
use Rattle.dy_parse.specs.Mirrors.Files.{ends_decls}
use Rattle.dy_parse.proofs.Grammars.Decls.{ends_with, plan_fails, goes_on, decl_fails, decl_shorter}
use Rattle.dy_parse.proofs.files.decls.Goals as goal

pub returns-in_err-decl : goal.returns-in_err-decl
returns-in_err-decl c =
    let total = at Decls c.args.tokens.now in
    let p = err_from_is_err_and c.from_residual.result c.from_residual.ensures.1 in
    let goes : ends_decls c.decls.left ≡ false = search rules in
    rw (p.1, p.2) (decl_fails total (map decl_of c.decls.found) c.decls.left c.decls.invariant goes c.in_err-decl.field-0.0 c.in_err-decl.ensures)

pub decls-smaller : goal.decls-smaller
decls-smaller c = decl_shorter c.decls.left _ c.in_ok-decl.ensures

pub decls-preserved : goal.decls-preserved
decls-preserved c =
    let total = at Decls c.args.tokens.now in
    let goes : ends_decls c.decls.left ≡ false = search rules in
    let pushed : map decl_of c.push.new.self ≡ map decl_of c.decls.found ++ decl_of c.in_ok-decl.decl ∷ [] = rw c.in_ok-push.ensures.ok (map_push _ c.decls.found c.in_ok-decl.decl) in
    rw pushed (goes_on total (map decl_of c.decls.found) c.decls.left c.decls.invariant goes (decl_of c.in_ok-decl.decl) c.in_ok-decl.rest c.in_ok-decl.ensures)

pub returns-in_err-plan : goal.returns-in_err-plan
returns-in_err-plan c =
    let total = at Decls c.args.tokens.now in
    let p = err_from_is_err_and c.from_residual-in_err-plan.result c.from_residual-in_err-plan.ensures.1 in
    let ends : ends_decls c.decls.left ≡ true = search rules in
    rw (p.1, p.2) (plan_fails total (map decl_of c.decls.found) c.decls.left c.decls.invariant ends c.in_err-plan.field-0.0 c.in_err-plan.ensures)

pub returns : goal.returns
returns c =
    let total = at Decls c.args.tokens.now in
    let ends : ends_decls c.decls.left ≡ true = search rules in
    ends_with total (map decl_of c.decls.found) c.decls.left c.decls.invariant ends (plan_of c.in_ok-plan.plan) c.in_ok-plan.rest c.in_ok-plan.ensures
