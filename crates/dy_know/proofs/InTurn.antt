-- What is kept of honest nonces, while nonces are taken one by one.
use Rattle.std.proofs.Common.{◌≡◌, ℕ, suc, ◌+◌, ◌<◌, List, [], ◌∷◌, ◌++◌, length, take, drop, get_or, Option, Contains, subst, append_assoc, add-one, drop-cons}
use Rattle.std.proofs.lemmas.List.{take_more, take-append-drop}
use Rattle.std.proofs.lemmas.List.Elements.{Contains-append_left, Contains-append_right, Contains-get_or}
use Rattle.dy_term.specs.Terms.{Nonce}
use Rattle.dy_label.specs.Labels.{Place}
use Rattle.dy_entry.specs.Entries.{Entry}
use Rattle.dy_entry.specs.LookUps.{corruptions}
use Rattle.dy_entry.specs.Attacker.{Derives}
use Rattle.dy_know.specs.declared.secrets.Secret.{Secret}
use Rattle.dy_know.specs.MirrorAuditors.{KeepsSecrets, learn_secret, ChangesAt, ExplainsAt, AllKnown, AreDerived}
use Rattle.dy_know.proofs.KeptSecrets.{keeps_learned, keeps_explained, keeps_weaker}

-- what is in the end of a list is in the list
in_drop : (i : ℕ) (xs : List ℕ) (x : ℕ) → Contains (drop i xs) x → Contains xs x
in_drop i xs x within = subst (λ (ys : List ℕ). Contains ys x) (take-append-drop i xs) (Contains-append_right (take i xs) (drop i xs) x within)

pub derived_in_drop : (T : List Entry) (nonces : List ℕ) (i : ℕ) → AreDerived T nonces → AreDerived T (drop i nonces)
derived_in_drop T nonces i derived = λ nonce within. derived nonce (in_drop i nonces nonce within)

-- the next of the nonces becomes known
pub keeps_learned_next : (known nonces : List ℕ) (T : List Entry) (C : List Place) (i last : ℕ) (secrets secrets' : List (Option Secret)) → i < length nonces → suc last ≡ length T
    → C ≡ corruptions T → AllKnown known (take last T) → AreDerived T nonces → ChangesAt (learn_secret C last) (get_or nonces i 0) secrets secrets'
    → KeepsSecrets (known ++ take i nonces) (take i nonces) T secrets → KeepsSecrets (known ++ take (i + 1) nonces) (take (i + 1) nonces) T secrets'
keeps_learned_next known nonces T C i last secrets secrets' within is places before derived changes keeps =
    let nonce = get_or nonces i 0 in
    let one_more : take (i + 1) nonces ≡ take i nonces ++ nonce ∷ [] = take_more nonces i 0 within in
    let learned : KeepsSecrets ((known ++ take i nonces) ++ nonce ∷ []) (take i nonces ++ nonce ∷ []) T secrets' =
    keeps_learned (known ++ take i nonces) known (take i nonces) T C nonce last secrets secrets' is places before
    (λ n c. Contains-append_left known (take i nonces) n c) (derived nonce (Contains-get_or nonces i 0 within)) changes keeps in
    rw one_more (subst (λ (k : List ℕ). KeepsSecrets k (take i nonces ++ nonce ∷ []) T secrets') (append_assoc known (take i nonces) (nonce ∷ [])) learned)

-- the recipe of the next of the nonces is made
pub keeps_explained_next : (known nonces : List ℕ) (T : List Entry) (i : ℕ) (secrets secrets' : List (Option Secret)) → i < length nonces
    → (Derives T (Nonce (get_or nonces i 0)) → ExplainsAt T (get_or nonces i 0) secrets secrets') → AreDerived T nonces
    → KeepsSecrets known (drop i nonces) T secrets → KeepsSecrets known (drop (i + 1) nonces) T secrets'
keeps_explained_next known nonces T i secrets secrets' within explains derived keeps =
    let first : drop i nonces ≡ get_or nonces i 0 ∷ drop (suc i) nonces = drop-cons nonces i 0 within in
    let still : KeepsSecrets known (get_or nonces i 0 ∷ drop (suc i) nonces) T secrets = subst (λ (m : List ℕ). KeepsSecrets known m T secrets) first keeps in
    let made : KeepsSecrets known (drop (suc i) nonces) T secrets' =
    keeps_explained known (drop (suc i) nonces) T (get_or nonces i 0) secrets secrets' (explains (derived (get_or nonces i 0) (Contains-get_or nonces i 0 within))) still in
    rw add-one made

-- where of some nonces the recipe may be missing, it may be of all
pub keeps_from_drop : (known nonces : List ℕ) (T : List Entry) (i : ℕ) (secrets : List (Option Secret)) → KeepsSecrets known (drop i nonces) T secrets → KeepsSecrets known nonces T secrets
keeps_from_drop known nonces T i secrets keeps = keeps_weaker known (drop i nonces) nonces T secrets (λ n c. in_drop i nonces n c) keeps
