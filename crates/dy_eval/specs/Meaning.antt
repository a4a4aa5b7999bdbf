-- What lines and instances of the code stand for.
use Rattle.std.specs.Prelude.{◌+◌, map, drop}
use Rattle.dy_eval.specs.declared.instances.Instance as instance
use Rattle.dy_eval.specs.declared.instances.Stand as stand
use Rattle.dy_eval.specs.declared.instances.Stand.TheVariants as stands
use Rattle.dy_eval.specs.NamesMeaning.{names_of}
use Rattle.dy_eval.specs.LineMeaning.{line_of}
use Rattle.dy_eval.specs.Runs.{Left, Standing, Goes, Awaits, Ended}

-- what an instance has left to do
abbrev pub left_of : instance.Instance → Left
left_of i =
    record { names = names_of i.names; number = i.first + i.at; lines = drop i.at (map line_of i.lines) }

abbrev pub standing_as : stand.Stand → Left → Standing
standing_as stands.Goes left = Goes left
standing_as (stands.Awaits binds) left = Awaits binds left
standing_as (stands.Ended outcome) left = Ended outcome

-- how an instance stands
abbrev pub standing_of : instance.Instance → Standing
standing_of i = standing_as i.stand (left_of i)
