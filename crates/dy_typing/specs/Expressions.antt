-- What is known of the value of an expression.
use Rattle.std.specs.Prelude.{ℕ, Bool, false, List, [], ◌∷◌, map, filter, filter_map, Option, option_map}
use Rattle.std.specs.Option.{option_map_or}
use Rattle.dy_label.specs.Labels.{Public, Meet}
use Rattle.dy_label.specs.Words.{StaticLabel}
use Rattle.dy_syntax.specs.Names.{KindText, Pke, Sig}
use Rattle.dy_syntax.specs.Expressions.{Expr, Exprs, Nm, Lit, Tuple, Pair, Pk, Vk, Penc, Aead, Sign, Mac, Kdf, Hash, Nil, Cons}
use Rattle.dy_syntax.specs.Files.{Decl}
use Rattle.dy_syntax.specs.LookUps.{usage_named}
use Rattle.dy_syntax.specs.Rules.Kinds.{is_kind}
use Rattle.dy_cases.specs.DeclaredParts.{row_named}
use Rattle.dy_types.specs.Claims.{StaticUse, Claim, Use, Known, plain, uses_in}
use Rattle.dy_types.specs.Claims as claims
use Rattle.dy_typing.specs.Knowledge.{Knowledge, known_of}

-- whether the usage of this name is of this kind
abbrev pub is_of_kind : List Decl → KindText → List ℕ → Bool
is_of_kind decls kind usage = option_map_or (λ declared. is_kind kind declared.kind) (usage_named decls usage) false

-- the label that is open where all of these are
abbrev pub meet_all : List StaticLabel → StaticLabel
meet_all [] = Public
meet_all (label ∷ labels) = Meet label (meet_all labels)

-- of a tuple or a pair: it is known where all its parts are
abbrev pub known_together : List Known → Known
known_together parts = record {
  hi = meet_all (map (λ part. part.hi) parts);
  lo = meet_all (map (λ part. part.lo) parts);
  claims = [];
}

-- the labels of what is known, and no claim
abbrev pub labels_alone : Known → Known
labels_alone known = record { hi = known.hi; lo = known.lo; claims = [] }

-- of a public key: for each usage of kind pke that its key has, it is a public key of that usage
abbrev pub public_key : List Decl → Known → Known
public_key decls key = record {
  hi = Public;
  lo = Public;
  claims = map (claims.Pk key.lo) (filter (λ usage. is_of_kind decls Pke usage.usage) (uses_in key.claims));
}

-- of a verification key: the same for the usages of kind sig
abbrev pub verification_key : List Decl → Known → Known
verification_key decls key = record {
  hi = Public;
  lo = Public;
  claims = map (claims.Vk key.lo) (filter (λ usage. is_of_kind decls Sig usage.usage) (uses_in key.claims));
}

-- the claim that the table of a key's usage gives for this text
abbrev pub derived_claim : List Decl → List ℕ → StaticUse → Option Claim
derived_claim decls text usage =
    option_map (λ row. Use (record { usage = row.usage.word; args = usage.args })) (row_named decls usage.usage text)

-- of a key that is derived with this text
abbrev pub derived_key : List Decl → List ℕ → Known → Known
derived_key decls text key = record {
  hi = key.hi;
  lo = key.lo;
  claims = filter_map (derived_claim decls text) (uses_in key.claims);
}

-- The tables that follow have a row for each constructor.
abbrev mutual
  pub known_of_expr : List Decl → Knowledge → Expr → Known
  known_of_expr decls k (Nm name) = known_of k name
  known_of_expr decls k (Lit quote) = plain
  known_of_expr decls k (Tuple tag args) = known_together (knowns_of_exprs decls k args)
  known_of_expr decls k (Pair line first second) =
      known_together (known_of_expr decls k first ∷ known_of_expr decls k second ∷ [])
  known_of_expr decls k (Pk line key) = public_key decls (known_of k key)
  known_of_expr decls k (Vk line key) = verification_key decls (known_of k key)
  known_of_expr decls k (Penc line key usage tag args) = plain
  known_of_expr decls k (Aead line key usage tag args ad) = labels_alone (known_of_expr decls k ad)
  known_of_expr decls k (Sign line key usage tag args) = known_together (knowns_of_exprs decls k args)
  known_of_expr decls k (Mac line key usage tag args) = known_together (knowns_of_exprs decls k args)
  known_of_expr decls k (Kdf line key context input) = derived_key decls context.text (known_of k key)
  known_of_expr decls k (Hash line message) = labels_alone (known_of_expr decls k message)

  pub knowns_of_exprs : List Decl → Knowledge → Exprs → List Known
  knowns_of_exprs decls k Nil = []
  knowns_of_exprs decls k (Cons first rest) = known_of_expr decls k first ∷ knowns_of_exprs decls k rest
