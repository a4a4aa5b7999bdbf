-- Where what instances put is good, every interleaving is good at each prefix, and so it is secure.
use Rattle.std.proofs.Common.{◌≡◌, ℕ, zero, suc, ◌<◌, List, [], ◌∷◌, ◌++◌, take, Option, Some, None, inl, inr, refl, sym, ap, subst, arith}
use Rattle.std.specs.List.{slice_get}
use Rattle.dy_term.specs.Terms.{Nonce}
use Rattle.dy_syntax.specs.Files.{File}
use Rattle.dy_entry.specs.Entries.{Entry, Setup, Start, Fresh, Message, State, Event, Cert, End, Corrupt, Forge, Inject, Skip}
use Rattle.dy_traces.specs.Instances.{next_entry}
use Rattle.dy_traces.specs.Following.{MayFollow}
use Rattle.dy_traces.specs.Interleavings.{Interleaves}
use Rattle.dy_sound.specs.Good.{IsGood}
use Rattle.dy_sound.specs.Secure.{IsSecure}
use Rattle.dy_sound.specs.LawsBelow.{LawsBelow}
use Rattle.dy_sound.proofs.DerivedValues.{derived_may_be_known}
use Rattle.dy_sound.proofs.AttackerSteps.{good_without_entries, good_with_setup, good_with_end, good_with_corrupt, good_with_forge, good_with_skip, good_with_inject}
use Rattle.dy_sound.proofs.Starts.{good_with_start}
use Rattle.dy_sound.proofs.NextItems.{puts_or_ends}
use Rattle.dy_sound.proofs.ItemSteps.{PutsWell, good_with_item}

take_next : {A : Type 0} (xs : List A) (n : ℕ) (x : A) → slice_get xs n ≡ Some x → take (suc n) xs ≡ take n xs ++ x ∷ []
take_next [] n x at = absurd cc
take_next (y ∷ ys) zero x at = let same : y ≡ x = cc in ap (λ z. z ∷ []) same
take_next (y ∷ ys) (suc n) x at = ap (λ zs. y ∷ zs) (take_next ys n x at)

take_past : {A : Type 0} (xs : List A) (n : ℕ) → slice_get xs n ≡ None → take (suc n) xs ≡ take n xs
take_past [] zero at = refl
take_past [] (suc n) at = refl
take_past (y ∷ ys) zero at = absurd cc
take_past (y ∷ ys) (suc n) at = ap (λ zs. y ∷ zs) (take_past ys n at)

module _ (below : LawsBelow) (bytes : List ℕ) (file : File) (well : PutsWell bytes file) where
  module _ (T : List Entry) (is_one : Interleaves bytes file T) (good : IsGood file.decls T) where
    next_keeps_good : (instance : ℕ) (e : Entry) → next_entry file.decls T instance ≡ Some e → IsGood file.decls (T ++ e ∷ [])
    next_keeps_good instance e may = elim (puts_or_ends file.decls T instance e may) [
      | inl next ↦
          subst (λ (x : Entry). IsGood file.decls (T ++ x ∷ [])) (sym next.entry_is)
          (good_with_item below bytes file well T is_one good instance next.handler next.left next.unfinished next.item next.binds next.after next.puts)
      | inr ends ↦
          subst (λ (x : Entry). IsGood file.decls (T ++ x ∷ [])) (sym ends.1) (good_with_end below file.decls T good instance ends.0)
    ]

    -- A good interleaving stays good with any entry that may follow.
    entry_keeps_good : (e : Entry) → MayFollow file.decls T e → IsGood file.decls (T ++ e ∷ [])
    entry_keeps_good (Setup input) may = absurd may
    entry_keeps_good (Start step handler principal session args message) may = good_with_start bytes file T is_one below good step handler principal session args message may
    entry_keeps_good (Fresh instance label usage) may = next_keeps_good instance _ may
    entry_keeps_good (Message instance value) may = next_keeps_good instance _ may
    entry_keeps_good (State instance principal session version tag fields) may = next_keeps_good instance _ may
    entry_keeps_good (Event instance principal name args) may = next_keeps_good instance _ may
    entry_keeps_good (Cert instance principal usage key) may = next_keeps_good instance _ may
    entry_keeps_good (End instance outcome) may = next_keeps_good instance _ may
    entry_keeps_good (Corrupt step corruption) may = good_with_corrupt below file.decls T good step corruption
    entry_keeps_good (Forge step) may = good_with_forge below file.decls T good step
    entry_keeps_good (Inject step value) may = good_with_inject below file.decls T good step value may.derived
    entry_keeps_good (Skip step) may = good_with_skip below file.decls T good step

  module _ (T : List Entry) (is_one : Interleaves bytes file T) where
    next_prefix_good : (n : ℕ) → IsGood file.decls (take n T) → (e : Entry) → slice_get T n ≡ Some e → IsGood file.decls (take n T ++ e ∷ [])
    next_prefix_good zero good e at =
        let same : Setup bytes ≡ e = let opens = is_one.opens in cc in
        subst (λ (x : Entry). IsGood file.decls (x ∷ [])) same (good_with_setup below file.decls [] (good_without_entries file.decls) bytes)
    next_prefix_good (suc n) good e at =
        let late : 0 < suc n = omega arith in
        entry_keeps_good (take (suc n) T) (below.prefixes_interleave bytes file T (suc n) is_one late) good e (is_one.follows (suc n) e late at)

    one_more_good : (n : ℕ) → IsGood file.decls (take n T) → (found : Option Entry) → slice_get T n ≡ found → IsGood file.decls (take (suc n) T)
    one_more_good n good None at = subst (IsGood file.decls) (sym (take_past T n at)) good
    one_more_good n good (Some e) at = subst (IsGood file.decls) (sym (take_next T n e at)) (next_prefix_good n good e at)

    pub prefix_good : (n : ℕ) → IsGood file.decls (take n T)
    prefix_good zero = good_without_entries file.decls
    prefix_good (suc n) = one_more_good n (prefix_good n) (slice_get T n) refl

    pub interleaving_is_secure : IsSecure file.decls T
    interleaving_is_secure = record {
      secrets = λ n. record { shown = λ index derived. (derived_may_be_known below file.decls (take n T) (prefix_good n) (Nonce index) derived).shown };
      events = λ n. record { follow = λ index instance principal name args stands. ((prefix_good n).events index instance principal name args stands).follows };
    }
