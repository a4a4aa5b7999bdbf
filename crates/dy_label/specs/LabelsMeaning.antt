-- What readers, corruptions and nodes of the code stand for.
use Rattle.std.specs.Prelude.{List, map}
use Rattle.dy_label.specs.declared.readers.Reader.{Reader}
use Rattle.dy_label.specs.declared.readers.Reader.TheVariants as readers
use Rattle.dy_label.specs.declared.readers.Corruption.{Corruption}
use Rattle.dy_label.specs.declared.readers.Corruption.TheVariants as corruptions
use Rattle.dy_label.specs.Labels.{Place, Principal, Session, Version}

abbrev pub place_of_reader : Reader → Place
place_of_reader (readers.Principal principal) = Principal principal
place_of_reader (readers.Session principal session) = Session principal session
place_of_reader (readers.Version principal session version) = Version principal session version

abbrev pub place_of_corruption : Corruption → Place
place_of_corruption (corruptions.Principal principal) = Principal principal
place_of_corruption (corruptions.Session principal session) = Session principal session
place_of_corruption (corruptions.Version principal session version) = Version principal session version

abbrev pub places_of : List Corruption → List Place
places_of corruptions = map place_of_corruption corruptions
