use Rattle.std.proofs.Common.{◌≡◌, Option, Some, None, sym, ap, ◌∙◌}
use Rattle.dy_term.specs.declared.terms.Term.{Term}
use Rattle.dy_term.specs.MirrorSteps.{end}
use Rattle.dy_term.specs.MirrorReader.{part_of, state_of}
use Rattle.dy_term.specs.Meaning.{tree_of}
use Rattle.dy_term.proofs.ReadTerms.{starts_with_small, starts_with_large, starts_with_none}
use Rattle.dy_term.proofs.term_reading.answer.Goals as goal

pub returns-in-Some-Some-default-clause-term : goal.returns-in-Some-Some-default-clause-term
returns-in-Some-Some-default-clause-term c = λ bytes stop.
    let found = c.in-Some-Some-default in
    let ended : end 1024 (state_of c.args.reader) ≡ Some (Some (tree_of found.term), found.field-0-1) = sym found.ensures ∙ ap (λ (part : Option Term). Some (part_of part, found.field-0-1)) found.field-0-0-is in
    (starts_with_small 1024 bytes c.args.end (state_of c.args.reader) (tree_of found.term) found.field-0-1 stop ended).starts

pub returns-in-Some-Some-default-clause-small : goal.returns-in-Some-Some-default-clause-small
returns-in-Some-Some-default-clause-small c = λ bytes stop.
    let found = c.in-Some-Some-default in
    let ended : end 1024 (state_of c.args.reader) ≡ Some (Some (tree_of found.term), found.field-0-1) = sym found.ensures ∙ ap (λ (part : Option Term). Some (part_of part, found.field-0-1)) found.field-0-0-is in
    (starts_with_small 1024 bytes c.args.end (state_of c.args.reader) (tree_of found.term) found.field-0-1 stop ended).small

pub returns-in-Some-None-default-clause-large : goal.returns-in-Some-None-default-clause-large
returns-in-Some-None-default-clause-large c = λ bytes stop nodes last large.
    let found = c.in-Some-None-default in
    let ended : end 1024 (state_of c.args.reader) ≡ Some (None, found.nodes) = sym found.ensures ∙ ap (λ (part : Option Term). Some (part_of part, found.nodes)) found.field-0-0-is in
    let whole = starts_with_large 1024 bytes c.args.end (state_of c.args.reader) found.nodes stop ended in
    let count : found.nodes ≡ nodes = cc in
    let place : c.args.end ≡ last = cc in
    (whole.term, rw (← place) whole.starts, whole.count ∙ count, rw (← count) whole.large)

pub returns-in-None-clause-bad : goal.returns-in-None-clause-bad
returns-in-None-clause-bad c = λ bytes stop at bad.
    let none : end 1024 (state_of c.args.reader) ≡ None = sym c.in-None.ensures in
    let same : c.args.end ≡ at = cc in
    rw (← same) (starts_with_none 1024 bytes c.args.end (state_of c.args.reader) stop none)
