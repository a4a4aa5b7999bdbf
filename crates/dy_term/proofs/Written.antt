-- What was read, as a prefix of the text of a term. Nothing is said of the parts that are part_within.
use Rattle.std.proofs.Common.{◌≡◌, ℕ, ◌<◌, true, List, [], ◌∷◌, ◌++◌, codes, Option, Some, None, refl, sym, ◌∙◌}
use Rattle.std.specs.Fmt.{decimal}
use Rattle.std.proofs.lemmas.Bool.{and_from}
use Rattle.std.proofs.lemmas.List.{append_assoc}
use Rattle.dy_term.specs.Characters.{is_word, is_text}
use Rattle.dy_term.specs.Terms.{Term, Aead, Kdf}
use Rattle.dy_term.specs.TermText.{term_text}
use Rattle.dy_term.specs.TermReading.{is_made}
use Rattle.dy_term.specs.declared.begun.Single.{Single}
use Rattle.dy_term.specs.declared.begun.Single.TheVariants as single
use Rattle.dy_term.specs.declared.begun.Double.{Double}
use Rattle.dy_term.specs.declared.begun.Double.TheVariants as double
use Rattle.dy_term.specs.MirrorSteps.{State, Begun, One, First, Second, AeadKey, AeadMessage, AeadData, KdfKey, KdfInput, Reading, Due, Constructor, Chars, At, Letters, Sharp, Digits, After, CommaDue, SpaceDue, ContextSpaceDue, ContextDue, ContextChars, single_of, double_of, begins_name}
use Rattle.dy_term.proofs.Constructors.{single_prefix, double_prefix, one_text, two_text, kdf_text}

-- the text of a constructor that was begun, up to its next part
abbrev pub Opening : Begun → List ℕ → Type 0
Opening (One maker) o = o ≡ single_prefix maker
Opening (First maker) o = o ≡ double_prefix maker
Opening (Second maker part) o = (a : Term) × (is_made a ≡ true) × (o ≡ double_prefix maker ++ (term_text a ++ codes ", "))
Opening AeadKey o = o ≡ codes "aead("
Opening (AeadMessage part) o = (key : Term) × (is_made key ≡ true) × (o ≡ codes "aead(" ++ (term_text key ++ codes ", "))
Opening (AeadData part other) o = (key : Term) × (message : Term) × (is_made key ≡ true) × (is_made message ≡ true) × (o ≡ codes "aead(" ++ (term_text key ++ (codes ", " ++ (term_text message ++ codes ", "))))
Opening KdfKey o = o ≡ codes "kdf("
Opening (KdfInput part context) o = (key : Term) × (is_made key ≡ true) × (is_text context ≡ true) × (o ≡ codes "kdf(" ++ (term_text key ++ (codes ", \"" ++ (context ++ codes "\", "))))

-- the text of all constructors that are begun
abbrev pub Wrote : List Begun → List ℕ → Type 0
Wrote [] before = before ≡ []
Wrote (maker ∷ begun) before = (out : List ℕ) × (o : List ℕ) × Wrote begun out × Opening maker o × (before ≡ out ++ o)

-- After the constructors that are begun stands this.
pub record WroteAfter (begun : List Begun) (last prefix : List ℕ) : Type 0 where
  pub before : List ℕ
  pub wrote : Wrote begun before
  pub split : prefix ≡ before ++ last

-- after `kdf(`, a key, and this
pub record WroteKey (begun : List Begun) (last prefix : List ℕ) : Type 0 where
  pub key : Term
  pub made : is_made key ≡ true
  pub after : WroteAfter begun (codes "kdf(" ++ (term_text key ++ last)) prefix

-- a part
pub record WrotePart (begun : List Begun) (prefix : List ℕ) : Type 0 where
  pub part : Term
  pub made : is_made part ≡ true
  pub after : WroteAfter begun (term_text part) prefix

-- the text of all that was read
abbrev pub WroteReading : Reading → List Begun → List ℕ → Type 0
WroteReading Due begun prefix = Wrote begun prefix
WroteReading (Constructor letters) begun prefix = (begins_name letters ≡ true) × WroteAfter begun letters prefix
WroteReading (Chars text) begun prefix = (is_text text ≡ true) × WroteAfter begun (34 ∷ text) prefix
WroteReading At begun prefix = WroteAfter begun (codes "@") prefix
WroteReading (Letters word) begun prefix = (is_word word ≡ true) × WroteAfter begun (64 ∷ word) prefix
WroteReading Sharp begun prefix = WroteAfter begun (codes "#") prefix
WroteReading (Digits number) begun prefix = (number < 4294967296) × WroteAfter begun (35 ∷ decimal number) prefix
WroteReading (After part) begun prefix = WrotePart begun prefix
WroteReading CommaDue begun prefix = Wrote begun (prefix ++ codes ", ")
WroteReading SpaceDue begun prefix = Wrote begun (prefix ++ codes " ")
WroteReading (ContextSpaceDue part) begun prefix = WroteKey begun (codes ",") prefix
WroteReading (ContextDue part) begun prefix = WroteKey begun (codes ", ") prefix
WroteReading (ContextChars part text) begun prefix = (is_text text ≡ true) × WroteKey begun (codes ", \"" ++ text) prefix

abbrev pub WroteState : State → List ℕ → Type 0
WroteState s prefix = WroteReading s.reading s.begun prefix

abbrev pub OpeningMaybe : Option Begun → List ℕ → Type 0
OpeningMaybe None o = Unit {0}
OpeningMaybe (Some maker) o = Opening maker o

-- so far as there is a next state
abbrev pub WroteMaybe : Option State → List ℕ → Type 0
WroteMaybe None prefix = Unit {0}
WroteMaybe (Some s) prefix = WroteState s prefix

-- ---- what closes a constructor

-- one more byte
pub longer : (begun : List Begun) (last prefix : List ℕ) (b : ℕ) → WroteAfter begun last prefix → WroteAfter begun (last ++ b ∷ []) (prefix ++ b ∷ [])
longer begun last prefix b wrote = record { before = wrote.before; wrote = wrote.wrote; split = rw (wrote.split, append_assoc) refl }

pub one_made : (maker : Single) (part : Term) → is_made part ≡ true → is_made (single_of maker part) ≡ true
one_made single.Pk part made = made
one_made single.Vk part made = made
one_made single.Hash part made = made

pub two_made : (maker : Double) (first second : Term) → is_made first ≡ true → is_made second ≡ true → is_made (double_of maker first second) ≡ true
two_made double.Pair first second one two = and_from (is_made first) (is_made second) one two
two_made double.Penc first second one two = and_from (is_made first) (is_made second) one two
two_made double.Sign first second one two = and_from (is_made first) (is_made second) one two
two_made double.Mac first second one two = and_from (is_made first) (is_made second) one two

-- The constructor is whole with this part and a bracket.
pub record Closes (o : List ℕ) (part : Term) (rest : List ℕ) : Type 0 where
  pub whole : Term
  pub made : is_made whole ≡ true
  pub spelled : o ++ (term_text part ++ rest) ≡ term_text whole

pub closes_one : (maker : Single) (part : Term) → is_made part ≡ true → Closes (single_prefix maker) part (codes ")")
closes_one maker part made = record { whole = single_of maker part; made = one_made maker part made; spelled = sym (one_text maker part) }

pub closes_two : (maker : Double) (first part : Term) → is_made first ≡ true → is_made part ≡ true → Closes (double_prefix maker ++ (term_text first ++ codes ", ")) part (codes ")")
closes_two maker first part one made = record { whole = double_of maker first part; made = two_made maker first part one made; spelled = rw (two_text, append_assoc, append_assoc) refl }

pub closes_aead : (key message part : Term) → is_made key ≡ true → is_made message ≡ true → is_made part ≡ true
    → Closes (codes "aead(" ++ (term_text key ++ (codes ", " ++ (term_text message ++ codes ", ")))) part (codes ")")
closes_aead key message part one two three = record {
  whole = Aead key message part;
  made = and_from (is_made key) _ one (and_from (is_made message) (is_made part) two three);
  spelled = simp append_assoc refl;
}

pub closes_kdf : (key : Term) (context : List ℕ) (part : Term) → is_made key ≡ true → is_text context ≡ true → is_made part ≡ true
    → Closes (codes "kdf(" ++ (term_text key ++ (codes ", \"" ++ (context ++ codes "\", ")))) part (codes ")")
closes_kdf key context part one text two =
    let prefix = codes "kdf(" ++ (term_text key ++ (codes ", \"" ++ (context ++ codes "\", "))) in
    let same : prefix ++ (term_text part ++ codes ")") ≡ codes "kdf(" ++ (term_text key ++ (codes ", \"" ++ (context ++ (codes "\", " ++ (term_text part ++ codes ")"))))) = simp append_assoc refl in
    record {
      whole = Kdf key context part;
      made = and_from (is_made key) _ one (and_from (is_text context) (is_made part) text two);
      spelled = same ∙ sym (kdf_text key context part);
    }
