use Rattle.std.proofs.lemmas.List.Elements.{filter_map-append, Contains-append_left}
use Rattle.std.proofs.lemmas.List.{append-nil}
use Rattle.dy_entry.specs.LookUps.{corruption_of, corruptions}
use Rattle.dy_entry.proofs.trace_laws.corruptions_of_longer_traces.Goals as goal

pub returns-clause-appended : goal.returns-clause-appended
returns-clause-appended c = filter_map-append corruption_of

pub returns-clause-corrupt : goal.returns-clause-corrupt
returns-clause-corrupt c = λ T step corruption. filter_map-append corruption_of T _

pub returns-clause-other : goal.returns-clause-other
returns-clause-other c = λ T entry none. rw (filter_map-append, none) (append-nil (corruptions T))

pub returns-clause-contained : goal.returns-clause-contained
returns-clause-contained c = λ T more corruption stands. rw filter_map-append (Contains-append_left (corruptions T) (corruptions more) corruption stands)
