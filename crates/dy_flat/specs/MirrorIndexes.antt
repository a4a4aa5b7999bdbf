-- Where texts or names are looked up, by classes of their bytes. It mirrors the code, and is there for speed alone.
use Rattle.std.specs.Prelude.{◌≡◌, ℕ, ◌+◌, ◌*◌, ◌%◌, ◌<◌, ◌≤◌, Some, List, [], ◌∷◌, length, slice_get, slice_index}
use Rattle.dy_flat.specs.declared.indexing.Index.{Index}
use Rattle.dy_flat.specs.declared.indexing.TheConstants.{CLASSES}

-- one of the classes, by bytes after others
abbrev pub class_after : ℕ → List ℕ → ℕ
class_after class [] = class
class_after class (byte ∷ more) = class_after ((class * 31 + byte) % CLASSES) more

abbrev pub class_of : List ℕ → ℕ
class_of bytes = class_after 0 bytes

-- From one place up to another none is of this class. The one before them is, if there is one.
pub record Skips {A : Type 0} (bytes : A → List ℕ) (kept : List A) (class from to : ℕ) : Type 0 where
  pub order : from ≤ to
  pub none : (place : ℕ) (one : A) → from ≤ place → place < to → slice_get kept place ≡ Some one
      → class_of (bytes one) ≡ class → ⊥
  pub before : (place : ℕ) (one : A) → place + 1 ≡ from → slice_get kept place ≡ Some one
      → class_of (bytes one) ≡ class

-- Of the first of these, as many as there are links, each class has its last one, and each of them the one before it.
pub record Covers {A : Type 0} (bytes : A → List ℕ) (kept : List A) (lasts links : List ℕ) : Type 0 where
  pub within : length links ≤ length kept
  pub last : (class : ℕ) → class < CLASSES → Skips bytes kept class (slice_index lasts class) (length links)
  pub link : (place : ℕ) (one : A) → place < length links → slice_get kept place ≡ Some one
      → Skips bytes kept (class_of (bytes one)) (slice_index links place) place

abbrev pub Indexes : {A : Type 0} → (A → List ℕ) → List A → Index → Type 0
Indexes bytes kept index = Covers bytes kept index.lasts.items index.links.items
