-- In an instance that runs, a choice that agrees with what is written after a statement matches what is written before it.
use Rattle.std.proofs.Common.{◌≡◌, ℕ, Bool, true, false, cond, List, [], ◌∷◌, ◌++◌, Contains, Option, Some, unwrap_or, refl, sym, ap, subst}
use Rattle.std.specs.Prelude.{find}
use Rattle.std.specs.Option.{option_map}
use Rattle.std.specs.Str.{bytes_eq}
use Rattle.std.proofs.lemmas.Slice.Eq.{bytes_eq-Decides}
use Rattle.dy_term.specs.Terms as trees
use Rattle.dy_term.specs.Terms.{Term}
use Rattle.dy_label.specs.Words.{Choice}
use Rattle.dy_syntax.specs.Names.{Id}
use Rattle.dy_syntax.specs.Statements as statements
use Rattle.dy_syntax.specs.Scopes.{is_among, words_of, handler_names}
use Rattle.dy_entry.specs.LookUps.{newest}
use Rattle.dy_eval.specs.declared.written.Written.{Written}
use Rattle.dy_eval.specs.Names.{Names, write, bytes_at, principal_in}
use Rattle.dy_sound.specs.Fields.{IsName}
use Rattle.dy_sound.specs.Names.{Agrees}
use Rattle.dy_sound.specs.Matches.{words_written, HandlerMatches}
use Rattle.dy_sound.proofs.Lists.{Contains-first, Contains-later, and_then_still}
use Rattle.dy_sound.proofs.WrittenWords.{word_found}
use Rattle.dy_sound.specs.StatementsAreSound.{NamesArePrincipals}

found_here : {A : Type 0} (test : A → Bool) (y : A) (ys : List A) (x : A) (b : Bool) → test y ≡ b → cond b (Some y) (find test ys) ≡ Some x
    → (find test ys ≡ Some x → Contains ys x × (test x ≡ true)) → Contains (y ∷ ys) x × (test x ≡ true)
found_here {A = A} test y ys x true passes found rest =
    let same : y ≡ x = cc in
    (subst (λ (z : A). Contains (y ∷ ys) z) same (Contains-first y ys), subst (λ (z : A). test z ≡ true) same passes)
found_here test y ys x false fails found rest = let later = rest found in (Contains-later y ys x later.0, later.1)

-- what is found stands in the list, and passes
pub find_passes : {A : Type 0} (test : A → Bool) (xs : List A) (x : A) → find test xs ≡ Some x → Contains xs x × (test x ≡ true)
find_passes test [] x is = absurd cc
find_passes test (y ∷ ys) x is = found_here test y ys x (test y) refl is (find_passes test ys x)

found_still : {A : Type 0} (y : A) (first second : Option A) (x : A) (b : Bool) → cond b (Some y) first ≡ Some x → (first ≡ Some x → second ≡ Some x)
    → cond b (Some y) second ≡ Some x
found_still y first second x true found rest = found
found_still y first second x false found rest = rest found

-- what is found is found in a longer list too
find_still : {A : Type 0} (test : A → Bool) (xs ys : List A) (x : A) → find test xs ≡ Some x → find test (xs ++ ys) ≡ Some x
find_still test [] ys x is = absurd cc
find_still test (z ∷ zs) ys x is = found_still z (find test zs) (find test (zs ++ ys)) x (test z) is (find_still test zs ys x)

-- A choice that agrees with what is written agrees with less of it.
pub agrees_before : (handler_words : List (List ℕ)) (newest : ℕ) (names : Names) (more : List Written) (choice : Choice)
    → Agrees handler_words newest (write names more) choice → Agrees handler_words newest names choice
agrees_before handler_words newest names more choice agrees = record {
  self = agrees.self;
  session = agrees.session;
  prior = agrees.prior;
  next = agrees.next;
  named = λ id number principal numbered written. agrees.named id number principal numbered
      (and_then_still (λ (w : Written). principal_in w.bytes)
      (find (λ w. bytes_eq w.word id.word) names.written) (find (λ w. bytes_eq w.word id.word) (names.written ++ more)) principal
      (λ w found. find_still (λ (v : Written). bytes_eq v.word id.word) names.written more w found) written);
}

-- In the place of a handler's name a principal's name is written.
are_names : (handler : statements.Handler) (names : Names) → NamesArePrincipals handler names → (id : Id)
    → is_among id.word (words_of (handler_names handler)) ≡ true → is_among id.word (words_written names) ≡ true → IsName (bytes_at names id.word)
are_names handler names principals id named binds =
    let found = word_found names id.word binds in
    let passes = find_passes (λ (w : Written). bytes_eq w.word id.word) names.written found.0 found.1 in
    let same : found.0.word ≡ id.word = (bytes_eq-Decides found.0.word id.word).0 passes.1 in
    let written : bytes_at names id.word ≡ found.0.bytes =
    ap (λ (w : Option Written). unwrap_or (option_map (λ one. one.bytes) w) (trees.Name names.principal)) found.1 in
    subst IsName (sym written)
    (principals found.0 passes.0 (subst (λ (word : List ℕ). is_among word (words_of (handler_names handler)) ≡ true) (sym same) named))

pub handler_matches : (handler : statements.Handler) (newest : ℕ) (names : Names) (more : List Written) (choice : Choice)
    → NamesArePrincipals handler names → Agrees (words_of (handler_names handler)) newest (write names more) choice
    → HandlerMatches (words_of (handler_names handler)) newest names choice
handler_matches handler newest names more choice principals agrees = record {
  agrees = agrees_before (words_of (handler_names handler)) newest names more choice agrees;
  are_names = are_names handler names principals;
}
