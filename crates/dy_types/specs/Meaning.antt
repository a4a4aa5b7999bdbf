-- What the types of the code stand for, with tables in the place of labels.
use Rattle.std.specs.Prelude.{List, map}
use Rattle.dy_types.specs.declared.uses.StaticUse as use_
use Rattle.dy_types.specs.declared.claims.Claim as claim
use Rattle.dy_types.specs.declared.claims.Claim.TheVariants as claims
use Rattle.dy_types.specs.declared.claims.Side as side
use Rattle.dy_types.specs.declared.claims.Side.TheVariants as sides
use Rattle.dy_types.specs.declared.knowns.Known as known
use Rattle.dy_types.specs.declared.field_types.Declared as declared
use Rattle.dy_types.specs.declared.field_types.Declared.TheVariants as types
use Rattle.dy_types.specs.declared.facts.Fact as fact
use Rattle.dy_types.specs.Claims as c
use Rattle.dy_types.specs.FieldTypes as t
use Rattle.dy_types.specs.Facts as f
use Rattle.dy_types.specs.Tables.{Table}

abbrev pub use_of : use_.StaticUse → c.StaticUse
use_of u = record { usage = u.usage; args = u.args }

abbrev pub claim_of : claim.Claim → c.ClaimOf Table
claim_of (claims.Use usage) = c.Use (use_of usage)
claim_of (claims.Pk table usage) = c.Pk table (use_of usage)
claim_of (claims.Vk table usage) = c.Vk table (use_of usage)

abbrev pub claims_of : List claim.Claim → List (c.ClaimOf Table)
claims_of kept = map claim_of kept

abbrev pub known_of : known.Known → c.KnownOf Table
known_of k = record { hi = k.hi; lo = k.lo; claims = claims_of k.claims }

abbrev pub type_of : declared.Declared → t.DeclaredOf Table
type_of types.Name = t.Name
type_of types.Any = t.Any
type_of (types.Upto table) = t.Upto table
type_of (types.Secret table) = t.Secret table
type_of (types.Key table usage) = t.Key table (use_of usage)
type_of (types.Pk table usage) = t.Pk table (use_of usage)
type_of (types.Vk table usage) = t.Vk table (use_of usage)

abbrev pub fact_of : fact.Fact → f.FactOf Table
fact_of x = record { event = x.event; args = x.args; guard = x.guard }

abbrev pub facts_of : List fact.Fact → List (f.FactOf Table)
facts_of kept = map fact_of kept
