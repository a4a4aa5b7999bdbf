-- What is kept of honest nonces, in a trace that grows.
use Rattle.std.proofs.Common.{◌≡◌, ℕ, suc, ◌<◌, Bool, true, false, List, [], ◌∷◌, ◌++◌, length, take, Option, Some, None, Contains, inl, inr, refl, sym, ◌∙◌, subst, arith, length-append}
use Rattle.std.specs.List.{slice_get}
use Rattle.std.proofs.lemmas.Option.{slice_get_within}
use Rattle.std.proofs.lemmas.List.Elements.{Contains-append_left, Contains-push}
use Rattle.std.proofs.lemmas.Map.Made.{Contains-tail}
use Rattle.std.proofs.lemmas.Bool.{cases_order}
use Rattle.dy_term.specs.Terms.{Nonce}
use Rattle.dy_label.specs.Labels.{Place, Label, is_open}
use Rattle.dy_entry.specs.Entries.{Entry}
use Rattle.dy_entry.specs.LookUps.{corruptions}
use Rattle.dy_entry.specs.Attacker.{Derives}
use Rattle.dy_entry.proofs.Traces.{slice_get_split}
use Rattle.dy_recipe.specs.declared.moves.Recipe.{Recipe}
use Rattle.dy_recipe.specs.Meaning.{recipe_of}
use Rattle.dy_recipe.specs.Values.{recipe_value}
use Rattle.dy_traces.specs.Given.{given_by}
use Rattle.dy_know.specs.declared.secrets.Knowing.{Knowing}
use Rattle.dy_know.specs.declared.secrets.Knowing.TheVariants as knowing
use Rattle.dy_know.specs.declared.secrets.Secret.{Secret}
use Rattle.dy_know.specs.Knowing.{IsKnownFrom, through}
use Rattle.dy_know.specs.MirrorAuditors.{fresh_label, HasRecipe, IsSo, IsKept, KeepsSecrets, new_secret, learn_knowing, learn_secret, ChangesAt, AllKnown, ExplainsKnowing, ExplainsSecret, ExplainsAt}
use Rattle.dy_know.proofs.Lists.{in_none, in_push, stands_below}
use Rattle.dy_know.proofs.Knowings.{through_longer, through_last, known_still, known_now}

pub keeps_none : KeepsSecrets [] [] [] []
keeps_none = record { one_each = refl; kept = λ nonce e secret at at_secret. absurd cc }

-- more recipes may be missing
recipe_weaker : (missing missing' : List ℕ) (T : List Entry) (nonce from : ℕ) (recipe : Option Recipe) → ((n : ℕ) → Contains missing n → Contains missing' n)
    → HasRecipe missing T nonce from recipe → HasRecipe missing' T nonce from recipe
recipe_weaker missing missing' T nonce from None more has = (has.0, more nonce has.1)
recipe_weaker missing missing' T nonce from (Some recipe) more has = has

so_weaker : (known missing missing' : List ℕ) (T : List Entry) (nonce : ℕ) (label : Label) (k : Knowing) → ((n : ℕ) → Contains missing n → Contains missing' n)
    → IsSo known missing T nonce label k → IsSo known missing' T nonce label k
so_weaker known missing missing' T nonce label knowing.Unknown more so = so
so_weaker known missing missing' T nonce label (knowing.Open from) more so = so
so_weaker known missing missing' T nonce label (knowing.Breach from recipe) more so = (so.0, so.1, recipe_weaker missing missing' T nonce from recipe more so.2)

kept_weaker : (known missing missing' : List ℕ) (T : List Entry) (nonce : ℕ) (label : Option Label) (secret : Option Secret) → ((n : ℕ) → Contains missing n → Contains missing' n)
    → IsKept known missing T nonce label secret → IsKept known missing' T nonce label secret
kept_weaker known missing missing' T nonce None None more kept = kept
kept_weaker known missing missing' T nonce (Some label) (Some secret) more kept = (kept.0, so_weaker known missing missing' T nonce label secret.knowing more kept.1)
kept_weaker known missing missing' T nonce None (Some secret) more kept = kept
kept_weaker known missing missing' T nonce (Some label) None more kept = kept

pub keeps_weaker : (known missing missing' : List ℕ) (T : List Entry) (secrets : List (Option Secret)) → ((n : ℕ) → Contains missing n → Contains missing' n)
    → KeepsSecrets known missing T secrets → KeepsSecrets known missing' T secrets
keeps_weaker known missing missing' T secrets more keeps = record {
  one_each = keeps.one_each;
  kept = λ nonce e secret at at_secret. kept_weaker known missing missing' T nonce (fresh_label e) secret more (keeps.kept nonce e secret at at_secret);
}

-- an entry more leaves what is kept of the earlier ones, where no recipe is missing
recipe_still : (T more : List Entry) (nonce from : ℕ) (recipe : Option Recipe) → from < length T
    → HasRecipe [] T nonce from recipe → HasRecipe [] (T ++ more) nonce from recipe
recipe_still T more nonce from None within has = absurd (in_none nonce has.1)
recipe_still T more nonce from (Some recipe) within has = record {
  gives = subst (λ (X : List Entry). recipe_value (given_by X) (recipe_of recipe) ≡ Some (Nonce nonce)) (sym (through_longer T more from within)) has.gives;
  needed = has.needed;
}

open_still : (T more : List Entry) (from : ℕ) (label : Label) (b : Bool) → from < length T → is_open (corruptions (through T from)) label ≡ b
    → is_open (corruptions (through (T ++ more) from)) label ≡ b
open_still T more from label b within is = subst (λ (X : List Entry). is_open (corruptions X) label ≡ b) (sym (through_longer T more from within)) is

so_still : (known : List ℕ) (T more : List Entry) (nonce : ℕ) (label : Label) (k : Knowing) → IsSo known [] T nonce label k → IsSo known [] (T ++ more) nonce label k
so_still known T more nonce label knowing.Unknown so = so
so_still known T more nonce label (knowing.Open from) so = (known_still T more nonce from so.0, open_still T more from label true so.0.within so.1)
so_still known T more nonce label (knowing.Breach from recipe) so =
    (known_still T more nonce from so.0, open_still T more from label false so.0.within so.1, recipe_still T more nonce from recipe so.0.within so.2)

kept_still : (known : List ℕ) (T more : List Entry) (nonce : ℕ) (label : Option Label) (secret : Option Secret) → IsKept known [] T nonce label secret → IsKept known [] (T ++ more) nonce label secret
kept_still known T more nonce None None kept = kept
kept_still known T more nonce (Some label) (Some secret) kept = (kept.0, so_still known T more nonce label secret.knowing kept.1)
kept_still known T more nonce None (Some secret) kept = kept
kept_still known T more nonce (Some label) None kept = kept

kept_new : (known : List ℕ) (T : List Entry) (nonce : ℕ) (label : Option Label) → (Contains known nonce → ⊥) → IsKept known [] T nonce label (new_secret label)
kept_new known T nonce None new = tt
kept_new known T nonce (Some label) new = (refl, new)

pub keeps_one_more : (known : List ℕ) (T : List Entry) (e : Entry) (secrets secrets' : List (Option Secret)) → (Contains known (length T) → ⊥)
    → secrets' ≡ secrets ++ new_secret (fresh_label e) ∷ [] → KeepsSecrets known [] T secrets → KeepsSecrets known [] (T ++ e ∷ []) secrets'
keeps_one_more known T e secrets secrets' new are keeps = rw are (record {
  one_each = omega (arith, keeps.one_each, length-append secrets (new_secret (fresh_label e) ∷ []), length-append T (e ∷ []));
  kept = λ nonce e' secret at at_secret. elim (slice_get_split T e e' nonce at) [
    | inl before ↦ elim (slice_get_split secrets (new_secret (fresh_label e)) secret nonce at_secret) [
      | inl before' ↦ kept_still known T (e ∷ []) nonce (fresh_label e') secret (keeps.kept nonce e' secret before before')
      | inr last' ↦ let within = slice_get_within T nonce e' before in absurd (omega (arith, within, last'.0, keeps.one_each))
    ]
    | inr last ↦ elim (slice_get_split secrets (new_secret (fresh_label e)) secret nonce at_secret) [
      | inl before' ↦ let within = slice_get_within secrets nonce secret before' in absurd (omega (arith, within, last.0, keeps.one_each))
      | inr last' ↦ subst (λ (s : Option Secret). IsKept known [] (T ++ e ∷ []) nonce (fresh_label e') s) last'.1
          (subst (λ (x : Entry). IsKept known [] (T ++ e ∷ []) nonce (fresh_label x) (new_secret (fresh_label e))) last.1
          (kept_new known (T ++ e ∷ []) nonce (fresh_label e) (subst (λ n. Contains known n → ⊥) (sym last.0) new)))
    ]
  ];
})

-- a nonce is known from now on
now_so : (known missing : List ℕ) (T : List Entry) (nonce last : ℕ) (label : Label) (b : Bool) → suc last ≡ length T → IsKnownFrom T nonce last
    → is_open (corruptions T) label ≡ b → IsSo (known ++ nonce ∷ []) (missing ++ nonce ∷ []) T nonce label (learn_knowing b last knowing.Unknown)
now_so known missing T nonce last label true is from shown = (from, rw (through_last T last is) shown)
now_so known missing T nonce last label false is from shown = (from, rw (through_last T last is) shown, (is, Contains-push missing nonce))

learn_so : (known known' missing : List ℕ) (T : List Entry) (nonce last : ℕ) (label : Label) (k : Knowing) → suc last ≡ length T
    → AllKnown known' (take last T) → ((n : ℕ) → Contains known' n → Contains known n) → Derives T (Nonce nonce)
    → IsSo known missing T nonce label k → IsSo (known ++ nonce ∷ []) (missing ++ nonce ∷ []) T nonce label (learn_knowing (is_open (corruptions T) label) last k)
learn_so known known' missing T nonce last label knowing.Unknown is before within derived so =
    now_so known missing T nonce last label (is_open (corruptions T) label) is (known_now T last nonce known' is before (λ c. so (within nonce c)) derived) refl
learn_so known known' missing T nonce last label (knowing.Open from) is before within derived so = so
learn_so known known' missing T nonce last label (knowing.Breach from recipe) is before within derived so =
    (so.0, so.1, recipe_weaker missing (missing ++ nonce ∷ []) T nonce from recipe (λ n c. Contains-append_left missing (nonce ∷ []) n c) so.2)

other_so : (known missing : List ℕ) (T : List Entry) (nonce other : ℕ) (label : Label) (k : Knowing) → (other ≡ nonce → ⊥)
    → IsSo known missing T other label k → IsSo (known ++ nonce ∷ []) (missing ++ nonce ∷ []) T other label k
other_so known missing T nonce other label knowing.Unknown apart so = λ c. elim (in_push known nonce other c) [ inl before ↦ so before | inr is ↦ apart (sym is) ]
other_so known missing T nonce other label (knowing.Open from) apart so = so
other_so known missing T nonce other label (knowing.Breach from recipe) apart so =
    (so.0, so.1, recipe_weaker missing (missing ++ nonce ∷ []) T other from recipe (λ n c. Contains-append_left missing (nonce ∷ []) n c) so.2)

learn_kept : (known known' missing : List ℕ) (T : List Entry) (C : List Place) (nonce last : ℕ) (label : Option Label) (secret secret' : Option Secret) → suc last ≡ length T
    → C ≡ corruptions T → AllKnown known' (take last T) → ((n : ℕ) → Contains known' n → Contains known n) → Derives T (Nonce nonce)
    → secret' ≡ learn_secret C last secret → IsKept known missing T nonce label secret → IsKept (known ++ nonce ∷ []) (missing ++ nonce ∷ []) T nonce label secret'
learn_kept known known' missing T C nonce last None None secret' is places before within derived changed kept = rw changed tt
learn_kept known known' missing T C nonce last (Some label) (Some secret) secret' is places before within derived changed kept =
    rw (changed, places, kept.0) (refl, learn_so known known' missing T nonce last label secret.knowing is before within derived kept.1)
learn_kept known known' missing T C nonce last None (Some secret) secret' is places before within derived changed kept = absurd kept
learn_kept known known' missing T C nonce last (Some label) None secret' is places before within derived changed kept = absurd kept

other_kept : (known missing : List ℕ) (T : List Entry) (nonce other : ℕ) (label : Option Label) (secret : Option Secret) → (other ≡ nonce → ⊥)
    → IsKept known missing T other label secret → IsKept (known ++ nonce ∷ []) (missing ++ nonce ∷ []) T other label secret
other_kept known missing T nonce other None None apart kept = kept
other_kept known missing T nonce other (Some label) (Some secret) apart kept = (kept.0, other_so known missing T nonce other label secret.knowing apart kept.1)
other_kept known missing T nonce other None (Some secret) apart kept = kept
other_kept known missing T nonce other (Some label) None apart kept = kept

-- each item of the one list stands in the other at the same place, where the lengths are the same
stands_too : {A B : Type 0} (xs : List A) (ys : List B) (i : ℕ) (x : A) → length ys ≡ length xs → slice_get xs i ≡ Some x → (y : B) × (slice_get ys i ≡ Some y)
stands_too xs ys i x same at = stands_below ys i (let within = slice_get_within xs i x at in omega (arith, within, same))

-- the nonce becomes known by the last entry
pub keeps_learned : (known known' missing : List ℕ) (T : List Entry) (C : List Place) (nonce last : ℕ) (secrets secrets' : List (Option Secret)) → suc last ≡ length T
    → C ≡ corruptions T → AllKnown known' (take last T) → ((n : ℕ) → Contains known' n → Contains known n) → Derives T (Nonce nonce)
    → ChangesAt (learn_secret C last) nonce secrets secrets' → KeepsSecrets known missing T secrets
    → KeepsSecrets (known ++ nonce ∷ []) (missing ++ nonce ∷ []) T secrets'
keeps_learned known known' missing T C nonce last secrets secrets' is places before within derived changes keeps = record {
  one_each = changes.one_each ∙ keeps.one_each;
  kept = λ other e secret' at at_secret. elim (cases_order other nonce) [
    | inl same ↦
        let old = stands_too T secrets other e keeps.one_each at in
        let old_at : slice_get secrets nonce ≡ Some old.0 = subst (λ n. slice_get secrets n ≡ Some old.0) same old.1 in
        let changed : secret' ≡ learn_secret C last old.0 =
        cc (changes.at, old_at, subst (λ n. slice_get secrets' n ≡ Some secret') same at_secret) in
        subst (λ n. IsKept (known ++ nonce ∷ []) (missing ++ nonce ∷ []) T n (fresh_label e) secret') (sym same)
        (learn_kept known known' missing T C nonce last (fresh_label e) old.0 secret' is places before within derived changed
        (keeps.kept nonce e old.0 (subst (λ n. slice_get T n ≡ Some e) same at) old_at))
    | inr order ↦
        let apart : other ≡ nonce → ⊥ = λ same. elim order [ inl less ↦ omega (arith, less, same) | inr more ↦ omega (arith, more, same) ] in
        other_kept known missing T nonce other (fresh_label e) secret' apart (keeps.kept other e secret' at (sym (changes.others other apart) ∙ at_secret))
  ];
}

-- a recipe is made over the trace
explain_so : (known missing : List ℕ) (T : List Entry) (nonce : ℕ) (label : Label) (k k' : Knowing) → ExplainsKnowing T nonce k k'
    → IsSo known (nonce ∷ missing) T nonce label k → IsSo known missing T nonce label k'
explain_so known missing T nonce label knowing.Unknown k' is so = rw is so
explain_so known missing T nonce label (knowing.Open from) k' is so = rw is so
explain_so known missing T nonce label (knowing.Breach from (Some recipe)) k' is so = rw is so
explain_so known missing T nonce label (knowing.Breach from None) k' is so =
    rw is.1 (
      so.0,
      so.1,
      record {
        gives = subst (λ (X : List Entry). recipe_value (given_by X) (recipe_of is.0) ≡ Some (Nonce nonce)) (sym (through_last T from so.2.0)) is.2;
        needed = is.3;
      },
    )

explain_kept : (known missing : List ℕ) (T : List Entry) (nonce : ℕ) (label : Option Label) (secret secret' : Option Secret) → ExplainsSecret T nonce secret secret'
    → IsKept known (nonce ∷ missing) T nonce label secret → IsKept known missing T nonce label secret'
explain_kept known missing T nonce None None secret' is kept = rw is tt
explain_kept known missing T nonce (Some label) None secret' is kept = absurd kept
explain_kept known missing T nonce None (Some secret) secret' is kept = absurd kept
explain_kept known missing T nonce (Some label) (Some secret) None is kept = absurd is
explain_kept known missing T nonce (Some label) (Some secret) (Some secret') is kept =
    (is.0 ∙ kept.0, explain_so known missing T nonce label secret.knowing secret'.knowing is.1 kept.1)

-- what is kept of another nonce is so without this one among those whose recipe may be missing
apart_recipe : (missing : List ℕ) (T : List Entry) (nonce other from : ℕ) (recipe : Option Recipe) → (other ≡ nonce → ⊥)
    → HasRecipe (nonce ∷ missing) T other from recipe → HasRecipe missing T other from recipe
apart_recipe missing T nonce other from None apart has = (has.0, Contains-tail nonce missing other (λ same. apart (sym same)) has.1)
apart_recipe missing T nonce other from (Some recipe) apart has = has

apart_so : (known missing : List ℕ) (T : List Entry) (nonce other : ℕ) (label : Label) (k : Knowing) → (other ≡ nonce → ⊥)
    → IsSo known (nonce ∷ missing) T other label k → IsSo known missing T other label k
apart_so known missing T nonce other label knowing.Unknown apart so = so
apart_so known missing T nonce other label (knowing.Open from) apart so = so
apart_so known missing T nonce other label (knowing.Breach from recipe) apart so = (so.0, so.1, apart_recipe missing T nonce other from recipe apart so.2)

apart_kept : (known missing : List ℕ) (T : List Entry) (nonce other : ℕ) (label : Option Label) (secret : Option Secret) → (other ≡ nonce → ⊥)
    → IsKept known (nonce ∷ missing) T other label secret → IsKept known missing T other label secret
apart_kept known missing T nonce other None None apart kept = kept
apart_kept known missing T nonce other (Some label) (Some secret) apart kept = (kept.0, apart_so known missing T nonce other label secret.knowing apart kept.1)
apart_kept known missing T nonce other None (Some secret) apart kept = kept
apart_kept known missing T nonce other (Some label) None apart kept = kept

pub keeps_explained : (known missing : List ℕ) (T : List Entry) (nonce : ℕ) (secrets secrets' : List (Option Secret)) → ExplainsAt T nonce secrets secrets'
    → KeepsSecrets known (nonce ∷ missing) T secrets → KeepsSecrets known missing T secrets'
keeps_explained known missing T nonce secrets secrets' explains keeps = record {
  one_each = explains.one_each ∙ keeps.one_each;
  kept = λ other e secret' at at_secret. elim (cases_order other nonce) [
    | inl same ↦
        let old = stands_too T secrets other e keeps.one_each at in
        let old_at : slice_get secrets nonce ≡ Some old.0 = subst (λ n. slice_get secrets n ≡ Some old.0) same old.1 in
        let new = explains.at old.0 old_at in
        let is : new.0 ≡ secret' = cc (new.1, subst (λ n. slice_get secrets' n ≡ Some secret') same at_secret) in
        subst (λ n. IsKept known missing T n (fresh_label e) secret') (sym same)
        (subst (λ (s : Option Secret). IsKept known missing T nonce (fresh_label e) s) is
        (explain_kept known missing T nonce (fresh_label e) old.0 new.0 new.2
        (keeps.kept nonce e old.0 (subst (λ n. slice_get T n ≡ Some e) same at) old_at)))
    | inr order ↦
        let apart : other ≡ nonce → ⊥ = λ same. elim order [ inl less ↦ omega (arith, less, same) | inr more ↦ omega (arith, more, same) ] in
        apart_kept known missing T nonce other (fresh_label e) secret' apart (keeps.kept other e secret' at (sym (explains.others other apart) ∙ at_secret))
  ];
}
