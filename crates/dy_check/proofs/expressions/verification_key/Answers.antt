use Rattle.std.proofs.Common.{map}
use Rattle.dy_syntax.specs.Meaning.{decl_of}
use Rattle.dy_syntax.specs.Names.{Sig}
use Rattle.dy_types.specs.Claims.{StaticUse, Vk, uses_in}
use Rattle.dy_typing.specs.Expressions.{is_of_kind}
use Rattle.dy_check.proofs.MadeClaims.{made_of_passed}
use Rattle.dy_check.proofs.expressions.verification_key.Goals as goal

pub returns : goal.returns
returns c = λ value h. record {
  hi = c.public_table.ensures;
  lo = c.public_table-2.ensures;
  claims =
      let decls = map decl_of c.args.cases.now in
      rw (made_of_passed (λ (usage : StaticUse). is_of_kind decls Sig usage.usage) (Vk value.lo) (uses_in value.claims)) at (c.in_ok-claims_made.ensures value h);
}
