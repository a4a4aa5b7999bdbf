use Rattle.dy_term.specs.Terms.{Nonce}
use Rattle.dy_sound.proofs.laws.good_traces_are_secure.Goals as goal

pub returns-clause-secrets : goal.returns-clause-secrets
returns-clause-secrets c = λ decls T good. record {
  shown = λ index derived. (c.derived_values_may_be_known.ensures decls T (Nonce index) good derived).shown;
}

pub returns-clause-events : goal.returns-clause-events
returns-clause-events c = λ decls T good. record {
  follow = λ index instance principal name args stands. (good.events index instance principal name args stands).follows;
}
