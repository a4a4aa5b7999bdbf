use Rattle.std.proofs.Common.{◌≡◌, ◌+◌, ◌-◌, ◌*◌, length, map}
use Rattle.dy_syntax.specs.Meaning.{expr_of}
use Rattle.dy_grammar.specs.Parts.{AnExpr}
use Rattle.dy_parse.specs.declared.lists.Rest.TheVariants as rests
use Rattle.dy_parse.specs.Mirrors.Lists.{with_prefix, rest_at}
use Rattle.dy_grammar.specs.declared.limits.TheConstants.{TOO_DEEP}
use Rattle.dy_parse.proofs.expressions.+expression.Given as goal

-- the expressions so far, and those that are left, are all
abbrev pub invariant-more_exprs-items : goal.invariant-more_exprs-items
invariant-more_exprs-items l =
    with_prefix (map expr_of l.found.items) (rest_at rests.Parentheses (AnExpr l.level) l.left)
    ≡ with_prefix (map expr_of l.initial.found.items) (rest_at rests.Parentheses (AnExpr l.level) l.tokens)

abbrev pub decreases-more_exprs-items : goal.decreases-more_exprs-items
decreases-more_exprs-items l = length l.left

abbrev pub decreases-fields : goal.decreases-fields
decreases-fields l = 9 * (TOO_DEEP - l.level) + 7

abbrev pub decreases-exprs : goal.decreases-exprs
decreases-exprs l = 9 * (TOO_DEEP - l.level) + 6

abbrev pub decreases-more_exprs : goal.decreases-more_exprs
decreases-more_exprs l = 9 * (TOO_DEEP - l.level) + 5

abbrev pub decreases-next_expr : goal.decreases-next_expr
decreases-next_expr l = 9 * (TOO_DEEP - l.level) + 4

abbrev pub decreases-expr : goal.decreases-expr
decreases-expr l = 9 * (TOO_DEEP - l.level) + 3

abbrev pub decreases-built_expr : goal.decreases-built_expr
decreases-built_expr l = 9 * (TOO_DEEP - l.level) + 2

abbrev pub decreases-text_or_tuple : goal.decreases-text_or_tuple
decreases-text_or_tuple l = 9 * (TOO_DEEP - l.level)

abbrev pub decreases-pair : goal.decreases-pair
decreases-pair l = 9 * (TOO_DEEP - l.level)

abbrev pub decreases-penc : goal.decreases-penc
decreases-penc l = 9 * (TOO_DEEP - l.level)

abbrev pub decreases-aead : goal.decreases-aead
decreases-aead l = 9 * (TOO_DEEP - l.level) + 1

abbrev pub decreases-sign : goal.decreases-sign
decreases-sign l = 9 * (TOO_DEEP - l.level)

abbrev pub decreases-mac : goal.decreases-mac
decreases-mac l = 9 * (TOO_DEEP - l.level)

abbrev pub decreases-kdf : goal.decreases-kdf
decreases-kdf l = 9 * (TOO_DEEP - l.level)

abbrev pub decreases-hash : goal.decreases-hash
decreases-hash l = 9 * (TOO_DEEP - l.level)

abbrev pub decreases-with_data : goal.decreases-with_data
decreases-with_data l = 9 * (TOO_DEEP - l.level)
