use Rattle.std.proofs.Common.{◌≡◌, ◌++◌, map, take}
use Rattle.std.specs.List.{flat_map}
use Rattle.dy_syntax.specs.Meaning.{statement_of}
use Rattle.dy_syntax.specs.Scopes.{words_of, pattern_names, act_pats}
use Rattle.dy_check.proofs.settings.handler_words.Given as goal

abbrev pub invariant-loop-statement : goal.invariant-loop-statement
invariant-loop-statement l =
    l.words ≡ l.initial.words ++ words_of
    (flat_map (λ s. flat_map pattern_names (act_pats s.act)) (map statement_of (take l.statement-index l.statement-items)))
