-- Expressions in a row, and the list that the code keeps of them.
use Rattle.std.proofs.Common.{◌≡◌, ◌∙◌, ap, sym, List, map, [], ◌∷◌, refl}
use Rattle.std.specs.declared.vec.Vec.{Vec}
use Rattle.std.specs.declared.alloc.Global.{Global}
use Rattle.dy_syntax.specs.declared.expressions.Expr as code
use Rattle.dy_syntax.specs.declared.expressions.Expr.TheBlock.{hidden-the_row-Expr-0}
use Rattle.dy_syntax.specs.declared.expressions.Tuple.{Tuple}
use Rattle.dy_syntax.specs.Expressions as e
use Rattle.dy_syntax.specs.Expressions.{Exprs, Nil, Cons, row_of}
use Rattle.dy_syntax.specs.Meaning.{expr_of, exprs_of, args_of}
use Rattle.dy_eval.specs.Names.{Names}
use Rattle.dy_eval.specs.Values.{value, values}

row_of-exprs_of : {n : _} (k : code.Row_of-Expr n) → exprs_of k ≡ row_of (map expr_of (code.items-the_row-Expr n k))
row_of-exprs_of code.end_of-Expr = refl
row_of-exprs_of (code.more_of-Expr first rest) = ap (Cons (expr_of first)) (row_of-exprs_of rest)

row_of_list : (args : Vec code.Expr Global) → exprs_of (hidden-the_row-Expr-0 args) ≡ row_of (map expr_of args.items)
row_of_list args = row_of-exprs_of (hidden-the_row-Expr-0 args) ∙ ap (λ xs. row_of (map expr_of xs)) (code.items_hidden-the_row-Expr-0 args)

-- the same expressions in a row
pub row_copied : (made args : Vec code.Expr Global) → map expr_of made.items ≡ map expr_of args.items
    → exprs_of (hidden-the_row-Expr-0 made) ≡ exprs_of (hidden-the_row-Expr-0 args)
row_copied made args same = row_of_list made ∙ ap row_of same ∙ sym (row_of_list args)

values_in_row : (names : Names) (exprs : List e.Expr) → values names (row_of exprs) ≡ map (value names) exprs
values_in_row names [] = refl
values_in_row names (first ∷ rest) = ap (λ xs. value names first ∷ xs) (values_in_row names rest)

-- the values of a tuple's expressions
pub values_of_args : (names : Names) (tuple : Tuple) → values names (args_of tuple) ≡ map (value names) (map expr_of tuple.args.items)
values_of_args names tuple = ap (values names) (row_of_list tuple.args) ∙ values_in_row names (map expr_of tuple.args.items)
