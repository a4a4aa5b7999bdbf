-- What a label over a handler's words in the code stands for. A pointer stands before each part, and means nothing.
use Rattle.dy_label.specs.declared.words.Atom.{Atom}
use Rattle.dy_label.specs.declared.words.Atom.TheVariants as code_word
use Rattle.dy_label.specs.declared.words.StaticLabel.{StaticLabel}
use Rattle.dy_label.specs.declared.words.StaticLabel.TheVariants as code
use Rattle.dy_label.specs.Labels.{Public, Nobody, One, Join, Meet}
use Rattle.dy_label.specs.Words as words

abbrev pub atom_of : Atom → words.Atom
atom_of (code_word.Name number) = words.Name number
atom_of code_word.Session = words.ThisSession
atom_of code_word.Next = words.Next
atom_of code_word.Prior = words.Prior

abbrev pub static_label_of : StaticLabel → words.StaticLabel
static_label_of code.Public = Public
static_label_of code.Nobody = Nobody
static_label_of (code.One atom) = One (atom_of atom)
static_label_of (code.Join' p first q second) = Join (static_label_of first) (static_label_of second)
static_label_of (code.Meet' p first q second) = Meet (static_label_of first) (static_label_of second)
