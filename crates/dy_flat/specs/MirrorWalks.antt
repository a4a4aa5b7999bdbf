-- How a walk finds the numbers of parts. It mirrors the code: `Walks` defines what a walk gives.
use Rattle.std.specs.Prelude.{◌≡◌, ℕ, zero, suc, List, [], ◌∷◌, length, drop, map, reverse, slice_index}
use Rattle.std.specs.Coded.{Coded-set, coded_list, coded_ℕ}
use Rattle.dy_flat.specs.declared.flat_nodes.Node.{Node}
use Rattle.dy_flat.specs.Meaning.{arity}
use Rattle.dy_flat.specs.Runs as runs
use Rattle.dy_flat.specs.Walks.{Step, Lit, Name, Nonce, Pair, Pk, Vk, Penc, Aead, Sign, Mac, Kdf, Hash}

-- numbers without so many of the first
abbrev pub without : ℕ → List ℕ → List ℕ
without zero numbers = numbers
without (suc more) numbers = without more (drop 1 numbers)

-- The numbers of the steps that no later step has as a part yet, the last of them first. Of each node this says how
-- many parts it has.
abbrev pub unused_of : List ℕ → List ℕ
unused_of [] = []
unused_of (parts ∷ more) = length more ∷ without parts (unused_of more)

-- These are those numbers, the first of them last, where so many of the nodes are left.
abbrev pub Unused : List ℕ → List Node → ℕ → Type 0
Unused numbers nodes left = reverse numbers ≡ unused_of (map arity (drop left nodes))

pub Unused-prop : (numbers : List ℕ) (nodes : List Node) (left : ℕ) → IsProp (Unused numbers nodes left)
Unused-prop numbers nodes left = Coded-set (coded_list coded_ℕ) _ _

abbrev pub first_number : List ℕ → ℕ
first_number numbers = slice_index numbers 0

-- the step of a node, whose parts have the first of these numbers
abbrev pub step_over : runs.Node → List ℕ → Step
step_over (runs.Lit text) numbers = Lit text
step_over (runs.Name principal) numbers = Name principal
step_over (runs.Nonce index) numbers = Nonce index
step_over (runs.Pair _) numbers = Pair (first_number numbers) (first_number (drop 1 numbers))
step_over runs.Pk numbers = Pk (first_number numbers)
step_over runs.Vk numbers = Vk (first_number numbers)
step_over (runs.Penc _) numbers = Penc (first_number numbers) (first_number (drop 1 numbers))
step_over (runs.Aead _) numbers =
    Aead (first_number numbers) (first_number (drop 1 numbers)) (first_number (drop 1 (drop 1 numbers)))
step_over (runs.Sign _) numbers = Sign (first_number numbers) (first_number (drop 1 numbers))
step_over (runs.Mac _) numbers = Mac (first_number numbers) (first_number (drop 1 numbers))
step_over (runs.Kdf context) numbers = Kdf (first_number numbers) context (first_number (drop 1 numbers))
step_over runs.Hash numbers = Hash (first_number numbers)
