-- The values of expressions.
use Rattle.std.specs.Prelude.{Bool, nat_le, List, [], ◌∷◌, sum_by, Option, Some, None, if◌then◌else◌}
use Rattle.dy_term.specs.Terms as trees
use Rattle.dy_term.specs.Terms.{Term, size}
use Rattle.dy_term.specs.Tuples.{tagged_tuple}
use Rattle.dy_term.specs.declared.limits.TheConstants.{MAX_NODES}
use Rattle.dy_syntax.specs.Expressions as e
use Rattle.dy_syntax.specs.Expressions.{Expr, Exprs}
use Rattle.dy_eval.specs.Names.{Names, bytes_for}

-- value: the term that an expression is once bytes are written in place of its names. values: those of some in a row.
abbrev mutual
  pub value : Names → Expr → Term
  value names (e.Nm name) = bytes_for names name
  value names (e.Lit quote) = trees.Lit quote.text
  value names (e.Tuple tag args) = tagged_tuple tag.text (values names args)
  value names (e.Pair line first second) = trees.Pair (value names first) (value names second)
  value names (e.Pk line key) = trees.Pk (bytes_for names key)
  value names (e.Vk line key) = trees.Vk (bytes_for names key)
  value names (e.Penc line key usage tag args) =
      trees.Penc (bytes_for names key) (tagged_tuple tag.text (values names args))
  value names (e.Aead line key usage tag args ad) =
      trees.Aead (bytes_for names key) (tagged_tuple tag.text (values names args)) (value names ad)
  value names (e.Sign line key usage tag args) =
      trees.Sign (bytes_for names key) (tagged_tuple tag.text (values names args))
  value names (e.Mac line key usage tag args) =
      trees.Mac (bytes_for names key) (tagged_tuple tag.text (values names args))
  value names (e.Kdf line key context input) = trees.Kdf (bytes_for names key) context.text (value names input)
  value names (e.Hash line message) = trees.Hash (value names message)

  pub values : Names → Exprs → List Term
  values names e.Nil = []
  values names (e.Cons first rest) = value names first ∷ values names rest

-- a term of at most 1,024 nodes
abbrev pub if_small : Term → Option Term
if_small term = if nat_le (size term) MAX_NODES then Some term else None

-- the terms have at most 1,024 nodes together
abbrev pub are_small : List Term → Bool
are_small terms = nat_le (sum_by size terms) MAX_NODES
