-- How a Book answers a fault of its input.
use Rattle.dy_parse.specs.declared.errors.ParseError as parse
use Rattle.dy_parse.specs.declared.errors.ParseError.TheVariants as parses
use Rattle.dy_syntax.specs.declared.refusals.FileError as rule
use Rattle.dy_syntax.specs.declared.refusals.FileError.TheVariants as rules
use Rattle.dy_core.specs.declared.answers.OpenError.{OpenError}
use Rattle.dy_core.specs.declared.answers.OpenError.TheVariants.{BadInput, Memory}

abbrev pub of_parse_error : parse.ParseError → OpenError
of_parse_error (parses.BadLine line) = BadInput line
of_parse_error (parses.Limit line which) = BadInput line
of_parse_error parses.Memory = Memory

abbrev pub of_file_error : rule.FileError → OpenError
of_file_error (rules.Rule line number) = BadInput line
of_file_error rules.Memory = Memory
