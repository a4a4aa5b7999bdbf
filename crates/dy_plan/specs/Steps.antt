-- The steps of a plan, and how they are numbered.
use Rattle.std.specs.Prelude.{ℕ, ◌+◌, ◌-◌, nat_lt, List, [], ◌∷◌, length, take, Option, if◌then◌else◌}
use Rattle.std.specs.List.{slice_get, position, flat_map}
use Rattle.std.specs.Str.{bytes_eq}
use Rattle.dy_syntax.specs.Plans.{Step, Round, Plan}

-- the steps of some rounds, in the order of the text
abbrev pub steps_of_rounds : List Round → List Step
steps_of_rounds rounds = flat_map (λ round. round.steps) rounds

-- the steps of a plan, in the order of the text; they are numbered from 0
abbrev pub steps_in : Plan → List Step
steps_in plan = steps_of_rounds plan.rounds

-- how many steps a plan has
abbrev pub step_count : Plan → ℕ
step_count plan = length (steps_in plan)

-- the step of this number
abbrev pub numbered_step : Plan → ℕ → Option Step
numbered_step plan number = slice_get (steps_in plan) number

-- the number of the first step of this name
abbrev pub number_of : Plan → List ℕ → Option ℕ
number_of plan name = position (λ step. bytes_eq step.name.word name) (steps_in plan)

-- The number of the step at a place of a round: the place, after all steps of the earlier rounds. Rounds and places
-- count from 0.
abbrev pub number_at : Plan → ℕ → ℕ → ℕ
number_at plan round place = length (steps_of_rounds (take round plan.rounds)) + place

-- which of these rounds has the step of this number
abbrev pub round_among : List Round → ℕ → ℕ
round_among [] number = 0
round_among (round ∷ rounds) number =
    if nat_lt number (length round.steps) then 0 else 1 + round_among rounds (number - length round.steps)

-- the round of the step of this number
abbrev pub round_of : Plan → ℕ → ℕ
round_of plan number = round_among plan.rounds number
