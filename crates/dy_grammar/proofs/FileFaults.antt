-- Tokens are a file, or they stop being one in one place.
use Rattle.std.proofs.Common.{◌≡◌, ℕ, ◌+◌, List, [], ◌∷◌, ◌++◌, refl, sym, ◌∙◌, ap, subst, append_assoc, inl, inr}
use Rattle.std.specs.Prelude.{Ok, Err, ◌⊎◌}
use Rattle.std.proofs.lemmas.List.{append-nil}
use Rattle.dy_lex.specs.Tokens.{Piece, newlines}
use Rattle.dy_syntax.specs.Files.{File}
use Rattle.dy_grammar.specs.Files.{IsFile, BeginsFile, StopsAt, IsFaultOn, with_end}
use Rattle.dy_grammar.specs.Mirrors.Machine.{Reads}
use Rattle.dy_grammar.specs.Mirrors.FileReading.{file_at}
use Rattle.dy_grammar.proofs.FileLaws.{FailsWith, file_sound, file_fault}

-- what begins a file begins it with fewer tokens
begins_less : (xs ys : List Piece) → BeginsFile (xs ++ ys) → BeginsFile xs
begins_less xs ys b = record {
  file = b.file;
  more = ys ++ b.more;
  is_file = subst (λ (zs : List Piece). IsFile b.file zs) (append_assoc xs ys b.more) b.is_file;
}

-- tokens that stop do not go on
goes_no_further : (t : Piece) (tokens more : List Piece) (s : StopsAt t tokens) → BeginsFile (s.prefix ++ t ∷ more) → ⊥
goes_no_further t tokens more s b =
    s.stops (begins_less (s.prefix ++ t ∷ []) more (subst BeginsFile (sym (append_assoc s.prefix (t ∷ []) more)) b))

stops_no_file : (t : Piece) (tokens : List Piece) → StopsAt t tokens → BeginsFile tokens → ⊥
stops_no_file t tokens s b = goes_no_further t tokens s.after s (subst BeginsFile s.split b)

is_begun : (file : File) (tokens : List Piece) → IsFile file tokens → BeginsFile tokens
is_begun file tokens f = record { file = file; more = []; is_file = subst (λ (zs : List Piece). IsFile file zs) (sym (append-nil tokens)) f }

-- ---- there is a fault where there is no file

pub file_or_fault : (source : List ℕ) (tokens : List Piece) → ((file : File) × IsFile file (with_end source tokens)) ⊎ ((line : ℕ) × IsFaultOn line source tokens)
file_or_fault source tokens = go (file_at all) refl where
  all : List Piece
  all = with_end source tokens

  there : (left : ℕ) (f : FailsWith all left) (suffix : List Piece) → f.suffix ≡ suffix → (line : ℕ) × IsFaultOn line source tokens
  there left f [] same =
      let same_all : all ≡ f.prefix = f.split ∙ ap (λ (xs : List Piece). f.prefix ++ xs) same ∙ append-nil f.prefix in (
        1 + newlines source,
        inr (
          record {
            begins = subst BeginsFile (sym same_all) f.begins;
            none = λ file is_file. f.short same file (subst (λ (xs : List Piece). IsFile file xs) same_all is_file);
          },
          refl,
        ),
      )
  there left f (t ∷ after) same = (
    t.line,
    inl (
      t,
      record {
        prefix = f.prefix;
        after = after;
        split = f.split ∙ ap (λ (xs : List Piece). f.prefix ++ xs) same;
        begins = f.begins;
        stops = f.stops t after same;
      },
      refl,
    ),
  )

  go : (r : Reads File) → file_at all ≡ r → ((file : File) × IsFile file all) ⊎ ((line : ℕ) × IsFaultOn line source tokens)
  go (Ok y) e = inl (y.0, file_sound all y e)
  go (Err left) e = inr (let f = file_fault all left e in there left f f.suffix refl)

-- ---- and none where there is one

pub no_file_and_fault : (source : List ℕ) (tokens : List Piece) (file : File) (line : ℕ) → IsFile file (with_end source tokens) → IsFaultOn line source tokens → ⊥
no_file_and_fault source tokens file line is_file (inl stop) = stops_no_file stop.0 (with_end source tokens) stop.1 (is_begun file (with_end source tokens) is_file)
no_file_and_fault source tokens file line is_file (inr short) = short.0.none file is_file

-- ---- it is one

-- Of two places in a list, they are the same, or one is before the other.
places : (p q : List Piece) (t u : Piece) (a b : List Piece) → p ++ t ∷ a ≡ q ++ u ∷ b → (t ≡ u) ⊎ (((m : List Piece) × (q ≡ p ++ t ∷ m)) ⊎ ((m : List Piece) × (p ≡ q ++ u ∷ m)))
places [] [] t u a b e = inl (cc)
places [] (y ∷ q) t u a b e = inr (inl (q, let same : t ≡ y = cc in ap (λ (z : Piece). z ∷ q) (sym same)))
places (x ∷ p) [] t u a b e = inr (inr (p, let same : x ≡ u = cc in ap (λ (z : Piece). z ∷ p) same))
places (x ∷ p) (y ∷ q) t u a b e = go (places p q t u a b cc) where
  same : x ≡ y
  same = cc

  go : (t ≡ u) ⊎ (((m : List Piece) × (q ≡ p ++ t ∷ m)) ⊎ ((m : List Piece) × (p ≡ q ++ u ∷ m))) → (t ≡ u) ⊎ (((m : List Piece) × (y ∷ q ≡ x ∷ p ++ t ∷ m)) ⊎ ((m : List Piece) × (x ∷ p ≡ y ∷ q ++ u ∷ m)))
  go (inl h) = inl h
  go (inr (inl h)) = inr (inl (h.0, let rest = h.1 in cc))
  go (inr (inr h)) = inr (inr (h.0, let rest = h.1 in cc))

same_stop : (t u : Piece) (tokens : List Piece) → StopsAt t tokens → StopsAt u tokens → t ≡ u
same_stop t u tokens r s = go (places r.prefix s.prefix t u r.after s.after (sym r.split ∙ s.split)) where
  go : (t ≡ u) ⊎ (((m : List Piece) × (s.prefix ≡ r.prefix ++ t ∷ m)) ⊎ ((m : List Piece) × (r.prefix ≡ s.prefix ++ u ∷ m))) → t ≡ u
  go (inl h) = h
  go (inr (inl h)) = absurd (goes_no_further t tokens h.0 r (subst BeginsFile h.1 s.begins))
  go (inr (inr h)) = absurd (goes_no_further u tokens h.0 s (subst BeginsFile h.1 r.begins))

pub one_line : (source : List ℕ) (tokens : List Piece) (line other : ℕ) → IsFaultOn line source tokens → IsFaultOn other source tokens → line ≡ other
one_line source tokens line other (inl r) (inl s) = r.2 ∙ ap (λ (t : Piece). t.line) (same_stop r.0 s.0 (with_end source tokens) r.1 s.1) ∙ sym s.2
one_line source tokens line other (inl r) (inr s) = absurd (stops_no_file r.0 (with_end source tokens) r.1 s.0.begins)
one_line source tokens line other (inr r) (inl s) = absurd (stops_no_file s.0 (with_end source tokens) s.1 r.0.begins)
one_line source tokens line other (inr r) (inr s) = r.1 ∙ sym s.1
