-- What entries and counts of the code stand for.
use Rattle.std.specs.Prelude.{List, map}
use Rattle.dy_label.specs.LabelsMeaning.{place_of_corruption}
use Rattle.dy_entry.specs.declared.entries.Entry as declared
use Rattle.dy_entry.specs.declared.entries.Entry.TheVariants as code
use Rattle.dy_entry.specs.declared.summaries.Counts as summaries
use Rattle.dy_entry.specs.Entries.{Entry, Setup, Start, Fresh, Message, State, Event, Cert, End, Corrupt, Forge, Inject, Skip}
use Rattle.dy_entry.specs.Summaries.{Counts}

abbrev pub entry_of : declared.Entry → Entry
entry_of (code.Setup input) = Setup input
entry_of (code.Start step handler principal session args message) = Start step handler principal session args message
entry_of (code.Fresh instance label usage) = Fresh instance label usage
entry_of (code.Message instance value) = Message instance value
entry_of (code.State instance principal session version tag fields) =
    State instance principal session version tag fields
entry_of (code.Event instance principal name args) = Event instance principal name args
entry_of (code.Cert instance principal usage key) = Cert instance principal usage key
entry_of (code.End instance outcome) = End instance outcome
entry_of (code.Corrupt step corruption) = Corrupt step (place_of_corruption corruption)
entry_of (code.Forge step) = Forge step
entry_of (code.Inject step value) = Inject step value
entry_of (code.Skip step) = Skip step

abbrev pub entries_of : List declared.Entry → List Entry
entries_of entries = map entry_of entries

abbrev pub counts_of : summaries.Counts → Counts
counts_of counts = record {
  total = counts.total;
  start = counts.start;
  fresh = counts.fresh;
  message = counts.message;
  state = counts.state;
  event = counts.event;
  cert = counts.cert;
  done = counts.done;
  stopped = counts.stopped;
  corrupt = counts.corrupt;
  forge = counts.forge;
  inject = counts.inject;
  skip = counts.skip;
}
