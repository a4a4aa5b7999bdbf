use Rattle.std.proofs.Common.{◌≡◌, ◌++◌, map, take}
use Rattle.dy_know.specs.ReportMeaning.{breach_of}
use Rattle.dy_know.specs.MirrorReports.{breach_of_lack}
use Rattle.dy_know.proofs.reporting.with_lacks.Given as goal

-- those so far are added
abbrev pub invariant-loop-lack : goal.invariant-loop-lack
invariant-loop-lack l = map breach_of l.all ≡ map breach_of l.fn.breaches ++ map breach_of_lack (take l.lack-index l.lacks)
