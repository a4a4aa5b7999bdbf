-- What reports of the code stand for.
use Rattle.std.specs.Prelude.{map}
use Rattle.dy_recipe.specs.Meaning.{recipe_of}
use Rattle.dy_know.specs.declared.reports.KnownFrom as known
use Rattle.dy_know.specs.declared.reports.Breach as breach
use Rattle.dy_know.specs.declared.reports.Breach.TheVariants as breaches
use Rattle.dy_know.specs.declared.reports.Report as report
use Rattle.dy_know.specs.Knowing.{KnownFrom}
use Rattle.dy_know.specs.Breaches.{Breach, Nonce, Event}
use Rattle.dy_know.specs.Reports.{Report}

abbrev pub known_of : known.KnownFrom → KnownFrom
known_of k = record { nonce = k.nonce; from = k.from }

abbrev pub breach_of : breach.Breach → Breach
breach_of (breaches.Nonce nonce from recipe) = Nonce nonce from (recipe_of recipe)
breach_of (breaches.Event event partner) = Event event partner

abbrev pub report_of : report.Report → Report
report_of r = record { known = map known_of r.known; breaches = map breach_of r.breaches }
