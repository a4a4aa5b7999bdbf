-- The text of places, labels and usages.
use Rattle.std.specs.Prelude.{ℕ, List, [], ◌∷◌, ◌++◌, codes}
use Rattle.std.specs.Fmt.{decimal}
use Rattle.dy_label.specs.Labels.{Place, Principal, Session, Version, Label, Public, Nobody, One, Join, Meet}
use Rattle.dy_label.specs.declared.usages.Kind.{Kind}
use Rattle.dy_label.specs.declared.usages.Kind.TheVariants as kinds
use Rattle.dy_label.specs.declared.usages.Usage.{Usage}
use Rattle.dy_trace_text.specs.ListText.{words_text}

-- the principal of a place, its session and its version
abbrev pub place_parts : Place → List (List ℕ)
place_parts (Principal principal) = principal ∷ []
place_parts (Session principal session) = principal ∷ decimal session ∷ []
place_parts (Version principal session version) = principal ∷ decimal session ∷ decimal version ∷ []

-- the letter that says how far a reader goes
abbrev pub reader_letter : Place → List ℕ
reader_letter (Principal principal) = codes "P"
reader_letter (Session principal session) = codes "S"
reader_letter (Version principal session version) = codes "V"

-- P(p), S(p, s) or V(p, s, v)
abbrev pub reader_text : Place → List ℕ
reader_text reader = reader_letter reader ++ words_text (place_parts reader)

abbrev pub label_text : Label → List ℕ
label_text Public = codes "public"
label_text Nobody = codes "nobody"
label_text (One reader) = reader_text reader
label_text (Join first second) = codes "join(" ++ label_text first ++ codes ", " ++ label_text second ++ codes ")"
label_text (Meet first second) = codes "meet(" ++ label_text first ++ codes ", " ++ label_text second ++ codes ")"

abbrev pub kind_text : Kind → List ℕ
kind_text kinds.Nonce = codes "nonce"
kind_text kinds.Pke = codes "pke"
kind_text kinds.Sig = codes "sig"
kind_text kinds.Aead = codes "aead"
kind_text kinds.Mac = codes "mac"
kind_text kinds.Kdf = codes "kdf"

-- KIND NAME(OWNERS)
abbrev pub usage_text : Usage → List ℕ
usage_text usage = kind_text usage.kind ++ codes " " ++ usage.name ++ words_text usage.owners
