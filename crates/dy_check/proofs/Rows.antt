-- Expressions in a row, and the list that the code keeps of them.
use Rattle.std.proofs.Common.{◌≡◌, ◌∙◌, ap, List, map, ◌∷◌, ◌++◌, refl}
use Rattle.std.specs.List.{flat_map}
use Rattle.dy_syntax.specs.declared.expressions.Expr as code
use Rattle.dy_syntax.specs.declared.expressions.Expr.TheBlock.{hidden-the_row-Expr-0}
use Rattle.dy_syntax.specs.declared.expressions.Tuple.{Tuple}
use Rattle.dy_syntax.specs.Expressions.{Exprs, Nil, Cons, list_of}
use Rattle.dy_syntax.specs.Files.{Decl}
use Rattle.dy_syntax.specs.Meaning.{expr_of, exprs_of, args_of}
use Rattle.dy_typing.specs.Demands.{operations_of_expr, operations_of_exprs}
use Rattle.dy_typing.specs.Expressions.{known_of_expr, knowns_of_exprs}
use Rattle.dy_typing.specs.Knowledge.{Knowledge}

list_of-exprs_of : {n : _} (k : code.Row_of-Expr n) → list_of (exprs_of k) ≡ map expr_of (code.items-the_row-Expr n k)
list_of-exprs_of code.end_of-Expr = refl
list_of-exprs_of (code.more_of-Expr first rest) = ap (λ xs. expr_of first ∷ xs) (list_of-exprs_of rest)

-- the expressions of a tuple are those of its list
pub list_of_args : (tuple : Tuple) → list_of (args_of tuple) ≡ map expr_of tuple.args.items
list_of_args tuple = list_of-exprs_of (hidden-the_row-Expr-0 tuple.args) ∙ ap (map expr_of) (code.items_hidden-the_row-Expr-0 tuple.args)

knowns_of_list : (decls : List Decl) (k : Knowledge) (exprs : Exprs) → knowns_of_exprs decls k exprs ≡ map (known_of_expr decls k) (list_of exprs)
knowns_of_list decls k Nil = refl
knowns_of_list decls k (Cons first rest) = ap (λ xs. known_of_expr decls k first ∷ xs) (knowns_of_list decls k rest)

-- what is known of a tuple's fields, as its list has them
pub knowns_of_args : (decls : List Decl) (k : Knowledge) (tuple : Tuple) → knowns_of_exprs decls k (args_of tuple) ≡ map (known_of_expr decls k) (map expr_of tuple.args.items)
knowns_of_args decls k tuple = knowns_of_list decls k (args_of tuple) ∙ ap (map (known_of_expr decls k)) (list_of_args tuple)

operations_of_list : (exprs : Exprs) → operations_of_exprs exprs ≡ flat_map operations_of_expr (list_of exprs)
operations_of_list Nil = refl
operations_of_list (Cons first rest) = ap (λ xs. operations_of_expr first ++ xs) (operations_of_list rest)

-- the operations of a tuple's fields, as its list has them
pub operations_of_args : (tuple : Tuple) → operations_of_exprs (args_of tuple) ≡ flat_map operations_of_expr (map expr_of tuple.args.items)
operations_of_args tuple = operations_of_list (args_of tuple) ∙ ap (flat_map operations_of_expr) (list_of_args tuple)
