-- How the code reads the text of a term, byte by byte. It mirrors the code: what `TermReading` says of texts is proved
-- of it.
use Rattle.std.specs.Prelude.{◌≡◌, ◌<◌, ◌≤◌, ◌^◌, get_or, take, ℕ, ◌+◌, ◌-◌, ◌*◌, Bool, true, false, not, ◌&&◌, ◌||◌, ◌==◌, nat_eq, nat_le, nat_lt, List, [], ◌∷◌, ◌++◌, codes, length, Option, Some, None, option_map, if◌then◌else◌}
use Rattle.std.specs.Option.{option_and_then}
use Rattle.std.specs.List.{starts_with}
use Rattle.std.specs.Str.{bytes_eq}
use Rattle.std.specs.Char.{is_ascii_digit}
use Rattle.dy_term.specs.Characters.{is_word, is_text}
use Rattle.dy_term.specs.declared.letters.TheConstants.{SPACE, QUOTE, SHARP, OPEN, CLOSE, COMMA, ZERO, AT}
use Rattle.dy_term.specs.Terms.{Term, Lit, Name, Nonce, Pair, Pk, Vk, Penc, Aead, Sign, Mac, Kdf, Hash}
use Rattle.dy_term.specs.declared.begun.Single.{Single}
use Rattle.dy_term.specs.declared.begun.Single.TheVariants as single
use Rattle.dy_term.specs.declared.begun.Double.{Double}
use Rattle.dy_term.specs.declared.begun.Double.TheVariants as double

-- A part that was read. Past a limit of nodes no term is part_within; the code's is 1,024.
abbrev pub Part : Type 0
Part = Option Term

-- a constructor that has been begun, with the parts that were read
pub data Begun : Type 0 where
  One : (maker : Single) → Begun
  First : (maker : Double) → Begun
  Second : (maker : Double) (first : Part) → Begun
  AeadKey : Begun
  AeadMessage : (key : Part) → Begun
  AeadData : (key message : Part) → Begun
  KdfKey : Begun
  KdfInput : (key : Part) (context : List ℕ) → Begun

-- what was read since the last part or constructor
pub data Reading : Type 0 where
  Due : Reading
  Constructor : (letters : List ℕ) → Reading
  Chars : (text : List ℕ) → Reading
  At : Reading
  Letters : (word : List ℕ) → Reading
  Sharp : Reading
  Digits : (number : ℕ) → Reading
  After : (part : Part) → Reading
  CommaDue : Reading
  SpaceDue : Reading
  ContextSpaceDue : (key : Part) → Reading
  ContextDue : (key : Part) → Reading
  ContextChars : (key : Part) (text : List ℕ) → Reading

-- what was read, the constructors that are begun, innermost first, and how many nodes there are
pub record State : Type 0 where
  pub reading : Reading
  pub begun : List Begun
  pub nodes : ℕ

abbrev pub state : Reading → List Begun → ℕ → State
state reading begun nodes = record { reading = reading; begun = begun; nodes = nodes }

-- ---- what is part_within

abbrev pub part_within : ℕ → ℕ → Term → Part
part_within limit nodes term = if nat_le nodes limit then Some term else None

abbrev pub single_of : Single → Term → Term
single_of single.Pk part = Pk part
single_of single.Vk part = Vk part
single_of single.Hash part = Hash part

abbrev pub double_of : Double → Term → Term → Term
double_of double.Pair first second = Pair first second
double_of double.Penc first second = Penc first second
double_of double.Sign first second = Sign first second
double_of double.Mac first second = Mac first second

abbrev pub whole_single : Single → Part → Part
whole_single maker None = None
whole_single maker (Some part) = Some (single_of maker part)

abbrev pub whole_double : Double → Part → Part → Part
whole_double maker None second = None
whole_double maker (Some first) None = None
whole_double maker (Some first) (Some second) = Some (double_of maker first second)

abbrev pub whole_aead : Part → Part → Part → Part
whole_aead None message associated = None
whole_aead (Some key) None associated = None
whole_aead (Some key) (Some message) None = None
whole_aead (Some key) (Some message) (Some associated) = Some (Aead key message associated)

abbrev pub whole_kdf : Part → List ℕ → Part → Part
whole_kdf None context input = None
whole_kdf (Some key) context None = None
whole_kdf (Some key) context (Some input) = Some (Kdf key context input)

-- ---- the steps

-- the constructor of this name, begun
abbrev pub begun_by : List ℕ → Option Begun
begun_by name =
    if bytes_eq name (codes "pair") then Some (First double.Pair)
    else if bytes_eq name (codes "pk") then Some (One single.Pk)
    else if bytes_eq name (codes "vk") then Some (One single.Vk)
    else if bytes_eq name (codes "penc") then Some (First double.Penc)
    else if bytes_eq name (codes "aead") then Some AeadKey
    else if bytes_eq name (codes "sign") then Some (First double.Sign)
    else if bytes_eq name (codes "mac") then Some (First double.Mac)
    else if bytes_eq name (codes "kdf") then Some KdfKey
    else if bytes_eq name (codes "hash") then Some (One single.Hash)
    else None

abbrev pub starts : List ℕ → List ℕ → Bool
starts name letters = starts_with nat_eq name letters

-- the letters begin the name of a constructor
abbrev pub begins_name : List ℕ → Bool
begins_name letters =
    starts (codes "pair") letters || starts (codes "pk") letters || starts (codes "vk") letters
    || starts (codes "penc") letters || starts (codes "aead") letters
    || starts (codes "sign") letters || starts (codes "mac") letters || starts (codes "kdf") letters
    || starts (codes "hash") letters

-- a leaf was read
abbrev pub after_leaf : ℕ → Term → List Begun → ℕ → State
after_leaf limit term begun nodes = state (After (part_within limit (nodes + 1) term)) begun (nodes + 1)

-- letters of a name
abbrev pub at_letters : List ℕ → List Begun → ℕ → Option State
at_letters letters begun nodes = if begins_name letters then Some (state (Constructor letters) begun nodes) else None

-- one more letter of a name
abbrev pub next_letter : List ℕ → ℕ → List Begun → ℕ → Option State
next_letter letters b begun nodes =
    if is_word (letters ++ b ∷ []) then at_letters (letters ++ b ∷ []) begun nodes
    else None

-- a bracket after a name
abbrev pub at_bracket : Option Begun → List Begun → ℕ → Option State
at_bracket None begun nodes = None
at_bracket (Some maker) begun nodes = Some (state Due (maker ∷ begun) (nodes + 1))

-- a byte where a term is due
abbrev pub at_due : ℕ → List Begun → ℕ → Option State
at_due b begun nodes =
    if b == QUOTE then Some (state (Chars []) begun nodes)
    else if b == AT then Some (state At begun nodes)
    else if b == SHARP then Some (state Sharp begun nodes)
    else next_letter [] b begun nodes

-- this byte leads to a state
abbrev pub where_is : ℕ → ℕ → State → Option State
where_is wanted b next = if b == wanted then Some next else None

-- a comma after a part of this constructor
abbrev pub comma_after : Part → Begun → List Begun → ℕ → Option State
comma_after part (First maker) begun nodes = Some (state SpaceDue (Second maker part ∷ begun) nodes)
comma_after part AeadKey begun nodes = Some (state SpaceDue (AeadMessage part ∷ begun) nodes)
comma_after part (AeadMessage key) begun nodes = Some (state SpaceDue (AeadData key part ∷ begun) nodes)
comma_after part KdfKey begun nodes = Some (state (ContextSpaceDue part) begun nodes)
comma_after part maker begun nodes = None

-- the constructor that this part, its last one, makes whole
abbrev pub whole_of : Begun → Part → Option Part
whole_of (One maker) part = Some (whole_single maker part)
whole_of (Second maker first) part = Some (whole_double maker first part)
whole_of (AeadData key message) part = Some (whole_aead key message part)
whole_of (KdfInput key context) part = Some (whole_kdf key context part)
whole_of maker part = None

-- a byte after a part of the innermost constructor
abbrev pub after_part : Part → ℕ → List Begun → ℕ → Option State
after_part part b [] nodes = None
after_part part b (maker ∷ begun) nodes =
    if b == COMMA then comma_after part maker begun nodes
    else if b == CLOSE then option_map (λ whole. state (After whole) begun nodes) (whole_of maker part)
    else None

-- a byte after a leaf
abbrev pub leave_leaf : ℕ → Term → ℕ → List Begun → ℕ → Option State
leave_leaf limit term b begun nodes = after_part (part_within limit (nodes + 1) term) b begun (nodes + 1)

-- the number goes on with this digit
abbrev pub goes_on : ℕ → ℕ → Bool
goes_on number b = is_ascii_digit b && (nat_lt 0 number && nat_lt (10 * number + (b - ZERO)) (2 ^ 32))

-- the next byte; None where no text of a term goes on with it
abbrev pub step_from : ℕ → Reading → ℕ → List Begun → ℕ → Option State
step_from limit Due b begun nodes = at_due b begun nodes
step_from limit (Constructor letters) b begun nodes =
    if b == OPEN then at_bracket (begun_by letters) begun nodes
    else next_letter letters b begun nodes
step_from limit (Chars text) b begun nodes =
    if b == QUOTE then Some (after_leaf limit (Lit text) begun nodes)
    else if is_text (text ++ b ∷ []) then Some (state (Chars (text ++ b ∷ [])) begun nodes)
    else None
step_from limit At b begun nodes = if is_word (b ∷ []) then Some (state (Letters (b ∷ [])) begun nodes) else None
step_from limit (Letters word) b begun nodes =
    if is_word (word ++ b ∷ []) then Some (state (Letters (word ++ b ∷ [])) begun nodes)
    else leave_leaf limit (Name word) b begun nodes
step_from limit Sharp b begun nodes = if is_ascii_digit b then Some (state (Digits (b - ZERO)) begun nodes) else None
step_from limit (Digits number) b begun nodes =
    if goes_on number b then Some (state (Digits (10 * number + (b - ZERO))) begun nodes)
    else leave_leaf limit (Nonce number) b begun nodes
step_from limit (After part) b begun nodes = after_part part b begun nodes
step_from limit CommaDue b begun nodes = where_is COMMA b (state SpaceDue begun nodes)
step_from limit SpaceDue b begun nodes = where_is SPACE b (state Due begun nodes)
step_from limit (ContextSpaceDue key) b begun nodes = where_is SPACE b (state (ContextDue key) begun nodes)
step_from limit (ContextDue key) b begun nodes = where_is QUOTE b (state (ContextChars key []) begun nodes)
step_from limit (ContextChars key text) b begun nodes =
    if b == QUOTE then Some (state CommaDue (KdfInput key text ∷ begun) nodes)
    else if is_text (text ++ b ∷ []) then Some (state (ContextChars key (text ++ b ∷ [])) begun nodes)
    else None

abbrev pub step : ℕ → State → ℕ → Option State
step limit s b = step_from limit s.reading b s.begun s.nodes

-- the bytes, one after another
abbrev pub run : ℕ → State → List ℕ → Option State
run limit s [] = Some s
run limit s (b ∷ bytes) = option_and_then (λ next. run limit next bytes) (step limit s b)

-- nothing was read
abbrev pub start : State
start = state Due [] 0

-- ---- the end of the bytes

-- the part that was read whole, if the text of one may end here, and the number of nodes
abbrev pub whole_part : ℕ → Reading → ℕ → Option (Part × ℕ)
whole_part limit (After part) nodes = Some (part, nodes)
whole_part limit (Letters word) nodes = Some (part_within limit (nodes + 1) (Name word), nodes + 1)
whole_part limit (Digits number) nodes = Some (part_within limit (nodes + 1) (Nonce number), nodes + 1)
whole_part limit reading nodes = None

-- the nodes that were read, a leaf that may end here among them
abbrev pub nodes_read : Reading → ℕ → ℕ
nodes_read (Letters word) nodes = nodes + 1
nodes_read (Digits number) nodes = nodes + 1
nodes_read reading nodes = nodes

-- the term that was read whole, if one was, and its number of nodes
abbrev pub end : ℕ → State → Option (Part × ℕ)
end limit s = if length s.begun == 0 then whole_part limit s.reading s.nodes else None

-- The term that was read whole ends before this byte, which is no part of it.
abbrev pub ends_before_from : Reading → ℕ → Bool
ends_before_from (After part) b = true
ends_before_from (Letters word) b = not (is_word (word ++ b ∷ []))
ends_before_from (Digits number) b = not (goes_on number b)
ends_before_from reading b = false

abbrev pub ends_before : State → ℕ → Bool
ends_before s b = length s.begun == 0 && ends_before_from s.reading b

-- So many of the bytes were read, and no text of a term goes on with the next one.
pub record Stops (limit : ℕ) (bytes : List ℕ) (at : ℕ) (s : State) : Type 0 where
  pub within : at ≤ length bytes
  pub ran : run limit start (take at bytes) ≡ Some s
  pub stops : at < length bytes → step limit s (get_or bytes at 0) ≡ None
