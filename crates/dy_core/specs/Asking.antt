-- When a step that starts an instance fits the file.
use Rattle.std.specs.Prelude.{Bool, true, false, ◌&&◌, ◌==◌, nat_lt, List, length, Option, Some, None}
use Rattle.std.specs.Option.{option_map_or}
use Rattle.dy_syntax.specs.Statements.{Handler}
use Rattle.dy_syntax.specs.Files.{Decl}
use Rattle.dy_syntax.specs.LookUps.{handler_named}
use Rattle.dy_traces.specs.declared.limits.TheConstants.{MAX_STEPS}
use Rattle.dy_core.specs.StepMeaning.{StartStep}

-- The one is given exactly where the other is.
abbrev pub are_both_given : {A B : Type 0} → Option A → Option B → Bool
are_both_given None None = true
are_both_given (Some a) (Some b) = true
are_both_given _ _ = false

-- The step has as many arguments as the handler. It has a session exactly where the handler goes on from a
-- state, and a message exactly where it receives one.
abbrev pub fits_handler : StartStep → Handler → Bool
fits_handler s handler =
    (length s.args == length handler.args)
    && (are_both_given s.session handler.on && are_both_given s.message handler.recv)

-- The handler is declared, the step fits it, and its number is below 1,024.
abbrev pub asks_right : List Decl → StartStep → Bool
asks_right decls s = option_map_or (fits_handler s) (handler_named decls s.handler) false && nat_lt s.step MAX_STEPS
