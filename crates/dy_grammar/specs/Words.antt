-- The words of the language that are no names.
use Rattle.std.specs.Prelude.{ℕ, Bool, List, [], ◌∷◌, codes}
use Rattle.std.specs.List.{list_any}
use Rattle.std.specs.Str.{bytes_eq}

abbrev pub reserved_words : List (List ℕ)
reserved_words =
    codes "dystar" ∷ codes "usage" ∷ codes "case" ∷ codes "requires" ∷ codes "event" ∷ codes "after" ∷
    codes "unless" ∷ codes "state" ∷ codes "lasting" ∷ codes "knows" ∷ codes "handler" ∷ codes "on" ∷
    codes "args" ∷ codes "recv" ∷ codes "new" ∷ codes "secret" ∷ codes "let" ∷ codes "send" ∷
    codes "store" ∷ codes "certify" ∷ codes "as" ∷ codes "find" ∷ codes "of" ∷ codes "use" ∷
    codes "split" ∷ codes "open" ∷ codes "with" ∷ codes "using" ∷ codes "ad" ∷ codes "popen" ∷
    codes "verify" ∷ codes "check" ∷ codes "same" ∷ codes "name" ∷ codes "any" ∷ codes "upto" ∷
    codes "key" ∷ codes "pk" ∷ codes "vk" ∷ codes "public" ∷ codes "nobody" ∷ codes "join" ∷
    codes "meet" ∷ codes "session" ∷ codes "next" ∷ codes "prior" ∷ codes "here" ∷ codes "self" ∷
    codes "nonce" ∷ codes "pke" ∷ codes "sig" ∷ codes "aead" ∷ codes "mac" ∷ codes "kdf" ∷
    codes "pair" ∷ codes "penc" ∷ codes "sign" ∷ codes "hash" ∷ codes "plan" ∷ codes "round" ∷
    codes "msg" ∷ codes "cert" ∷ codes "field" ∷ codes "corrupt" ∷ codes "forge" ∷ codes "inject" ∷
    codes "fst" ∷ codes "snd" ∷ codes "pdec" ∷ codes "adec" ∷ codes "body" ∷ []

unfoldable pub is_reserved : List ℕ → Bool
is_reserved word = list_any (λ r. bytes_eq r word) reserved_words
