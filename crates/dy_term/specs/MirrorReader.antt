-- What the reader of the code stands for.
use Rattle.std.specs.Prelude.{ℕ, List, map, Option, option_map, reverse}
use Rattle.dy_term.specs.declared.terms.Term.{Term}
use Rattle.dy_term.specs.declared.begun.Begun.{Begun}
use Rattle.dy_term.specs.declared.begun.Begun.TheVariants as code
use Rattle.dy_term.specs.declared.reader.Reading.{Reading}
use Rattle.dy_term.specs.declared.reader.Reading.TheVariants as reads
use Rattle.dy_term.specs.declared.reader.Reader.{Reader}
use Rattle.dy_term.specs.Meaning.{tree_of}
use Rattle.dy_term.specs.MirrorSteps as steps

abbrev pub part_of : Option Term → steps.Part
part_of part = option_map tree_of part

abbrev pub begun_of : Begun → steps.Begun
begun_of (code.One maker) = steps.One maker
begun_of (code.First maker) = steps.First maker
begun_of (code.Second maker first) = steps.Second maker (part_of first)
begun_of code.AeadKey = steps.AeadKey
begun_of (code.AeadMessage key) = steps.AeadMessage (part_of key)
begun_of (code.AeadData key message) = steps.AeadData (part_of key) (part_of message)
begun_of code.KdfKey = steps.KdfKey
begun_of (code.KdfInput key context) = steps.KdfInput (part_of key) context

abbrev pub reading_of : Reading → steps.Reading
reading_of reads.Due = steps.Due
reading_of (reads.Constructor letters) = steps.Constructor letters
reading_of (reads.Chars text) = steps.Chars text
reading_of reads.At = steps.At
reading_of (reads.Letters word) = steps.Letters word
reading_of reads.Sharp = steps.Sharp
reading_of (reads.Digits number) = steps.Digits number
reading_of (reads.After part) = steps.After (part_of part)
reading_of reads.CommaDue = steps.CommaDue
reading_of reads.SpaceDue = steps.SpaceDue
reading_of (reads.ContextSpaceDue key) = steps.ContextSpaceDue (part_of key)
reading_of (reads.ContextDue key) = steps.ContextDue (part_of key)
reading_of (reads.ContextChars key text) = steps.ContextChars (part_of key) text

-- the constructors that are begun, innermost first
abbrev pub stack_of : List Begun → List steps.Begun
stack_of begun = map begun_of (reverse begun)

abbrev pub state_of : Reader → steps.State
state_of reader = steps.state (reading_of reader.reading) (stack_of reader.begun.items) reader.nodes

-- the nodes that were read
abbrev pub nodes_of : Reader → ℕ
nodes_of reader = steps.nodes_read (reading_of reader.reading) reader.nodes
