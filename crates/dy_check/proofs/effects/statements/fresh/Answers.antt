use Rattle.std.proofs.Common.{[], sym}
use Rattle.dy_types.specs.Claims.{Use}
use Rattle.dy_types.proofs.ClaimLaws.{ClaimsHaveTables-none}
use Rattle.dy_syntax.specs.Meaning.{use_of}
use Rattle.dy_typing.specs.Names.{name_number}
use Rattle.dy_typing.specs.Instances.{use_in}
use Rattle.dy_check.specs.Meaning.{setting_of}
use Rattle.dy_check.proofs.effects.statements.fresh.Goals as goal

pub returns : goal.returns
returns c = record {
  hi = c.label_table-table.ensures;
  lo = c.label_table-table.ensures;
  claims = (rw c.new-claims.ensures at c.in_ok-add_claim.ensures.ok) []
      (Use (use_in (name_number (setting_of c.args.setting.now)) (use_of c.args.usage.now))) ClaimsHaveTables-none (sym c.in_ok-use_in.ensures);
}
