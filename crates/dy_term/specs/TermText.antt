-- The text of a term.
use Rattle.std.specs.Prelude.{ℕ, List, ◌++◌, codes}
use Rattle.std.specs.Fmt.{decimal}
use Rattle.dy_term.specs.Characters.{in_quotes}
use Rattle.dy_term.specs.Terms.{Term, Lit, Name, Nonce, Pair, Pk, Vk, Penc, Aead, Sign, Mac, Kdf, Hash}

abbrev pub term_text : Term → List ℕ
term_text (Lit text) = in_quotes text
term_text (Name principal) = codes "@" ++ principal
term_text (Nonce index) = codes "#" ++ decimal index
term_text (Pair first second) = codes "pair(" ++ term_text first ++ codes ", " ++ term_text second ++ codes ")"
term_text (Pk key) = codes "pk(" ++ term_text key ++ codes ")"
term_text (Vk key) = codes "vk(" ++ term_text key ++ codes ")"
term_text (Penc to message) = codes "penc(" ++ term_text to ++ codes ", " ++ term_text message ++ codes ")"
term_text (Aead key message associated) =
    codes "aead(" ++ term_text key ++ codes ", " ++ term_text message ++ codes ", " ++ term_text associated ++ codes ")"
term_text (Sign key message) = codes "sign(" ++ term_text key ++ codes ", " ++ term_text message ++ codes ")"
term_text (Mac key message) = codes "mac(" ++ term_text key ++ codes ", " ++ term_text message ++ codes ")"
term_text (Kdf key context input) =
    codes "kdf(" ++ term_text key ++ codes ", " ++ in_quotes context ++ codes ", " ++ term_text input ++ codes ")"
term_text (Hash message) = codes "hash(" ++ term_text message ++ codes ")"
