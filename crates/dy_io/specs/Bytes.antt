-- What calls that read and write all of something take and add.
use Rattle.std.specs.Prelude.{◌≡◌, ℕ, ◌≤◌, List, length, take, Option}
use Rattle.std.specs.Io.KnownBytes.{Consumes, Appends}

-- So many bytes came: they were the first of those that were left.
abbrev pub Came : ℕ → Option (List ℕ) → Option (List ℕ) → Type 0
Came count before after = (bytes : List ℕ) × (length bytes ≡ count) × Consumes before after bytes

-- No more than so many bytes came.
abbrev pub CameAtMost : ℕ → Option (List ℕ) → Option (List ℕ) → Type 0
CameAtMost most before after = (count : ℕ) × (count ≤ most) × Came count before after

-- What is held has grown by a prefix of the bytes.
abbrev pub AppendsPrefix : Option (List ℕ) → Option (List ℕ) → List ℕ → Type 0
AppendsPrefix before after bytes = (count : ℕ) × (count ≤ length bytes) × Appends before after (take count bytes)
