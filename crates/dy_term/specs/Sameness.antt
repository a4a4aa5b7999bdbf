-- When two terms are the same, part by part.
use Rattle.std.specs.Prelude.{Bool, false, ◌&&◌, ◌==◌}
use Rattle.std.specs.Str.{bytes_eq}
use Rattle.dy_term.specs.Terms.{Term, Lit, Name, Nonce, Pair, Pk, Vk, Penc, Aead, Sign, Mac, Kdf, Hash}

abbrev pub is_same : Term → Term → Bool
is_same (Lit text) (Lit other) = bytes_eq text other
is_same (Name principal) (Name other) = bytes_eq principal other
is_same (Nonce index) (Nonce other) = index == other
is_same (Pair a b) (Pair c d) = is_same a c && is_same b d
is_same (Pk a) (Pk c) = is_same a c
is_same (Vk a) (Vk c) = is_same a c
is_same (Penc a b) (Penc c d) = is_same a c && is_same b d
is_same (Aead a b e) (Aead c d f) = is_same a c && (is_same b d && is_same e f)
is_same (Sign a b) (Sign c d) = is_same a c && is_same b d
is_same (Mac a b) (Mac c d) = is_same a c && is_same b d
is_same (Kdf a context b) (Kdf c other d) = is_same a c && (bytes_eq context other && is_same b d)
is_same (Hash a) (Hash c) = is_same a c
is_same _ _ = false
