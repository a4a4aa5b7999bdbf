-- The text and the size of a constructor, by its parts.
use Rattle.std.proofs.Common.{◌≡◌, ℕ, ◌+◌, List, [], ◌∷◌, ◌++◌, codes, refl, ap, ◌∙◌}
use Rattle.std.proofs.lemmas.List.{append_assoc}
use Rattle.dy_term.specs.Characters.{in_quotes}
use Rattle.dy_term.specs.Terms.{Term, Aead, Kdf, size}
use Rattle.dy_term.specs.TermText.{term_text}
use Rattle.dy_term.specs.declared.begun.Single.{Single}
use Rattle.dy_term.specs.declared.begun.Single.TheVariants as single
use Rattle.dy_term.specs.declared.begun.Double.{Double}
use Rattle.dy_term.specs.declared.begun.Double.TheVariants as double
use Rattle.dy_term.specs.MirrorSteps.{single_of, double_of}

-- the text before the parts of a constructor
abbrev pub single_prefix : Single → List ℕ
single_prefix single.Pk = codes "pk("
single_prefix single.Vk = codes "vk("
single_prefix single.Hash = codes "hash("

abbrev pub double_prefix : Double → List ℕ
double_prefix double.Pair = codes "pair("
double_prefix double.Penc = codes "penc("
double_prefix double.Sign = codes "sign("
double_prefix double.Mac = codes "mac("

-- the text and the size of a constructor by its parts
pub one_text : (maker : Single) (part : Term) → term_text (single_of maker part) ≡ single_prefix maker ++ (term_text part ++ codes ")")
one_text single.Pk part = refl
one_text single.Vk part = refl
one_text single.Hash part = refl

pub one_size : (maker : Single) (part : Term) → size (single_of maker part) ≡ 1 + size part
one_size single.Pk part = refl
one_size single.Vk part = refl
one_size single.Hash part = refl

pub two_text : (maker : Double) (first second : Term) → term_text (double_of maker first second) ≡ double_prefix maker ++ (term_text first ++ (codes ", " ++ (term_text second ++ codes ")")))
two_text double.Pair first second = rw (append_assoc, append_assoc) refl
two_text double.Penc first second = rw (append_assoc, append_assoc) refl
two_text double.Sign first second = rw (append_assoc, append_assoc) refl
two_text double.Mac first second = rw (append_assoc, append_assoc) refl

pub two_size : (maker : Double) (first second : Term) → size (double_of maker first second) ≡ 1 + size first + size second
two_size double.Pair first second = refl
two_size double.Penc first second = refl
two_size double.Sign first second = refl
two_size double.Mac first second = refl

pub aead_text : (key message associated : Term) → term_text (Aead key message associated) ≡ codes "aead(" ++ (term_text key ++ (codes ", " ++ (term_text message ++ (codes ", " ++ (term_text associated ++ codes ")")))))
aead_text key message associated = rw (append_assoc, append_assoc, append_assoc, append_assoc) refl

pub kdf_text : (key : Term) (context : List ℕ) (input : Term) → term_text (Kdf key context input) ≡ codes "kdf(" ++ (term_text key ++ (codes ", \"" ++ (context ++ (codes "\", " ++ (term_text input ++ codes ")")))))
kdf_text key context input =
    let rest = codes ", " ++ (term_text input ++ codes ")") in
    let inner : in_quotes context ++ rest ≡ 34 ∷ (context ++ 34 ∷ rest) = ap (λ (xs : List ℕ). 34 ∷ xs) (append_assoc context (34 ∷ []) rest) in
    let parts : term_text (Kdf key context input) ≡ codes "kdf(" ++ (term_text key ++ (codes ", " ++ (in_quotes context ++ rest))) = rw (append_assoc, append_assoc, append_assoc, append_assoc) refl in
    parts ∙ ap (λ (xs : List ℕ). codes "kdf(" ++ (term_text key ++ (codes ", " ++ xs))) inner
