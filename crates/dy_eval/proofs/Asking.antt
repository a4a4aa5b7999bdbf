-- An instance that is asked for what it does next.
use Rattle.std.proofs.Common.{◌≡◌, ◌∙◌, ap, sym, ℕ, ◌+◌, ◌≤◌, zero, suc, Option, Some, None, List, [], ◌∷◌, length, map, take, drop, refl, arith}
use Rattle.dy_entry.specs.Entries.{Entry}
use Rattle.dy_eval.specs.declared.instances.Instance.{Instance}
use Rattle.dy_eval.specs.declared.instances.Stand as stand
use Rattle.dy_eval.specs.declared.lines.Line as code
use Rattle.dy_eval.specs.declared.names.Names as code_names
use Rattle.dy_eval.specs.declared.written.Written.{Written}
use Rattle.dy_eval.specs.Runs.{Left, Standing, Goes, Awaits, Ended, next_of}
use Rattle.dy_eval.specs.Turns.{IsAsked, next_asked}
use Rattle.dy_eval.specs.MirrorTurns.{OnlyWrites, Told}
use Rattle.dy_eval.specs.LineMeaning.{line_of}
use Rattle.dy_eval.specs.TakenMeaning.{KeepsWritten}
use Rattle.dy_eval.specs.Meaning.{standing_as, standing_of}

-- what is left once an index is told is what the instance is asked for
pub asked_told : (X : List Entry) (standing : Standing) (landed : Option ℕ) (left : Left) → IsAsked standing landed → Told standing landed left
    → next_of X left ≡ next_asked X standing landed
asked_told X (Goes before) None left asked is = ap (next_of X) is
asked_told X (Goes before) (Some index) left asked is = absurd asked
asked_told X (Awaits binds before) None left asked is = absurd asked
asked_told X (Awaits binds before) (Some index) left asked is = ap (next_of X) is
asked_told X (Ended outcome) None left asked is = absurd asked
asked_told X (Ended outcome) (Some index) left asked is = absurd asked

-- the standing of these parts
abbrev standing_from : stand.Stand → List ℕ → ℕ → List Written → ℕ → ℕ → List code.Line → Standing
standing_from s principal session written first at lines =
    standing_as s (record { names = record { principal = principal; session = session; written = written }; number = first + at; lines = drop at (map line_of lines) })

same_parts : (s s' : stand.Stand) (p p' : List ℕ) (m m' : ℕ) (w w' : List Written) (f f' a a' : ℕ) (l l' : List code.Line)
    → s ≡ s' → p ≡ p' → m ≡ m' → w ≡ w' → f ≡ f' → a ≡ a' → l ≡ l' → standing_from s p m w f a l ≡ standing_from s' p' m' w' f' a' l'
same_parts s s' p p' m m' w w' f f' a a' l l' es ep em ew ef ea el =
    ap (λ x. standing_from x p m w f a l) es ∙ ap (λ x. standing_from s' x m w f a l) ep ∙ ap (λ x. standing_from s' p' x w f a l) em
    ∙ ap (λ x. standing_from s' p' m' x f a l) ew ∙ ap (λ x. standing_from s' p' m' w' x a l) ef ∙ ap (λ x. standing_from s' p' m' w' f' x l) ea
    ∙ ap (λ x. standing_from s' p' m' w' f' a' x) el

-- an instance from which is taken what it wrote stands as before
pub restored : (old between : Instance) (written : List Written) → OnlyWrites old between → written ≡ take (length old.names.written.items) between.names.written.items
    → standing_from between.stand between.names.principal between.names.session written between.first between.at between.lines ≡ standing_of old
restored old between written only is =
    same_parts between.stand old.stand between.names.principal old.names.principal between.names.session old.names.session written old.names.written.items
    between.first old.first between.at old.at between.lines old.lines only.stand only.names.principal only.names.session (is ∙ only.names.written) only.first only.at only.lines

take_take : {A : Type 0} (m n : ℕ) (xs : List A) → m ≤ n → take m (take n xs) ≡ take m xs
take_take zero n xs within = refl
take_take (suc m) zero xs within = absurd (omega arith)
take_take (suc m) (suc n) [] within = refl
take_take (suc m) (suc n) (x ∷ xs) within = ap (λ more. x ∷ more) (take_take m n xs (omega arith))

-- what is kept, and kept again, is kept
pub keeps_through : (old between new : code_names.Names) → KeepsWritten old between → KeepsWritten between new → KeepsWritten old new
keeps_through old between new first second = record {
  principal = second.principal ∙ first.principal;
  session = second.session ∙ first.session;
  longer = omega (arith, first.longer, second.longer);
  written = sym (take_take (length old.written.items) (length between.written.items) new.written.items first.longer)
      ∙ ap (take (length old.written.items)) second.written ∙ first.written;
}
