use Rattle.std.proofs.Common.{◌≡◌, ◌++◌, ◌∷◌, [], map, get_or, drop, true, false, Some, None, refl, sym, arith}
use Rattle.std.proofs.lemmas.List.{length-drop, length-take-le, map_push, take_rest}
use Rattle.dy_lex.specs.Symbols.{is_blank}
use Rattle.dy_lex.specs.Tokens.{piece_of}
use Rattle.dy_lex.specs.MirrorPrefixes.{token_prefix}
use Rattle.dy_lex.proofs.PrefixLaws.{takes}
use Rattle.dy_lex.proofs.Reading.{newline, newline_is, found_piece, first_of_rest, reads_none, reads_blank, reads_token, reads_all, reads_fault}
use Rattle.dy_lex.proofs.lexing.lex.Goals as goal

pub loop-at-init : goal.loop-at-init
loop-at-init c = rw c.new-tokens.ensures.items (reads_none c.args.source.now)

pub loop-at-preserved-then-is_blank : goal.loop-at-preserved-then-is_blank
loop-at-preserved-then-is_blank c =
    let source = c.args.source.now in
    let at = c.loop-at.at in
    let blank : is_blank (get_or source at 0) ≡ true = rw first_of_rest at (sym c.if-is_blank.ensures) in
    let lines : c.from-line.result ≡ newline (get_or source at 0) = rw (c.from-line.ensures, first_of_rest source at) (newline_is (get_or source at 0)) in
    rw lines (reads_blank source (map piece_of c.loop-at.tokens.items) at c.loop-at.line c.loop-at.invariant c.loop-at-test.true blank)

pub slice_bounds-text-end : goal.slice_bounds-text-end
slice_bounds-text-end c = sym (length-take-le c.in-Some.len _ (takes _ c.in-Some.kind c.in-Some.len (sym c.in-Some.ensures)).within)

pub overflow_add-at-in-Some : goal.overflow_add-at-in-Some
overflow_add-at-in-Some c =
    let found : token_prefix (drop c.loop-at.at c.args.source.now) ≡ Some (c.in-Some.kind, c.in-Some.len) = rw take_rest at (sym c.in-Some.ensures) in
    omega (arith, (takes (drop c.loop-at.at c.args.source.now) c.in-Some.kind c.in-Some.len found).within, length-drop c.loop-at.at c.args.source.now)

pub loop-at-preserved : goal.loop-at-preserved
loop-at-preserved c =
    let source = c.args.source.now in
    let at = c.loop-at.at in
    let found : token_prefix (drop at source) ≡ Some (c.in-Some.kind, c.in-Some.len) = rw take_rest at (sym c.in-Some.ensures) in
    let pushed = rw c.if-is_err.ensures.negation at c.push.ensures.items in
    let read : map piece_of c.push.new.self.items ≡ map piece_of c.loop-at.tokens.items ++ found_piece c.in-Some.kind c.in-Some.len at c.loop-at.line (drop at source) ∷ [] = rw (pushed, map_push, take_rest) refl in
    rw read (reads_token source (map piece_of c.loop-at.tokens.items) at c.loop-at.line c.loop-at.invariant c.in-Some.kind c.in-Some.len found)

pub returns-in_default-clause-bad : goal.returns-in_default-clause-bad
returns-in_default-clause-bad c = λ line bad.
    let source = c.args.source.now in
    let at = c.loop-at.at in
    let none : token_prefix (drop at source) ≡ None = rw take_rest at (sym c.in_default.ensures) in
    let not_blank : is_blank (get_or source at 0) ≡ false = rw first_of_rest at (sym c.if-is_blank.ensures) in
    let same : c.loop-at.line ≡ line = cc in
    rw (← same) (reads_fault source (map piece_of c.loop-at.tokens.items) at c.loop-at.line c.loop-at.invariant c.loop-at-test.true not_blank none)

pub returns-clause-tokens : goal.returns-clause-tokens
returns-clause-tokens c = reads_all c.args.source.now (map piece_of c.loop-at.tokens.items) c.loop-at.at c.loop-at.line c.loop-at.invariant c.loop-at-test.false
