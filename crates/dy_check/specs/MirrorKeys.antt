-- What is made of a key: its public key, its verification key, or a key that is derived from it.
use Rattle.std.specs.Prelude.{List, Option, Some, None, option_map, if◌then◌else◌}
use Rattle.std.specs.List.{filter_map}
use Rattle.dy_syntax.specs.Names.{Pke, Sig}
use Rattle.dy_syntax.specs.Files.{Decl}
use Rattle.dy_cases.specs.DeclaredParts.{row_named}
use Rattle.dy_types.specs.Claims.{StaticUse, ClaimOf}
use Rattle.dy_types.specs.Claims as claims
use Rattle.dy_typing.specs.Expressions.{is_of_kind}
use Rattle.dy_check.specs.declared.expressions.Made.{Made}
use Rattle.dy_check.specs.declared.expressions.Made.TheVariants as made

-- what is claimed of it, where the key has this usage and this label
abbrev pub claim_made : {L : Type 0} → List Decl → Made → L → StaticUse → Option (ClaimOf L)
claim_made decls made.Public label usage =
    if is_of_kind decls Pke usage.usage then Some (claims.Pk label usage) else None
claim_made decls made.Verification label usage =
    if is_of_kind decls Sig usage.usage then Some (claims.Vk label usage) else None
claim_made decls (made.Derived text) label usage =
    option_map (λ row. claims.Use (record { usage = row.usage.word; args = usage.args }))
    (row_named decls usage.usage text.now)

-- what is claimed of it for all of these usages
abbrev pub claims_made : {L : Type 0} → List Decl → Made → L → List StaticUse → List (ClaimOf L)
claims_made decls made label uses = filter_map (claim_made decls made label) uses
