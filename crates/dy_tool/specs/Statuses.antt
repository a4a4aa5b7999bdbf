-- The numbers of the statuses.
use Rattle.std.specs.Prelude.{ℕ}
use Rattle.dy_tool.specs.declared.statuses.Status.{Status}
use Rattle.dy_tool.specs.declared.statuses.Status.TheVariants.{Done, NotAccepted, Words, Input, ReadFault, WriteFault, Memory, TooLong}

abbrev pub number : Status → ℕ
number Done = 0
number NotAccepted = 1
number Words = 2
number Input = 3
number ReadFault = 4
number WriteFault = 5
number Memory = 6
number TooLong = 7
