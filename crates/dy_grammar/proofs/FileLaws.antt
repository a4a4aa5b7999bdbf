-- Reading a whole file: what is read is spelled, what is spelled is read, and a fault is where the tokens stop.
use Rattle.std.proofs.Common.{◌≡◌, ℕ, suc, false, List, [], ◌∷◌, ◌++◌, length, refl, sym, ◌∙◌, ap, subst, append_assoc}
use Rattle.std.specs.Prelude.{Result, Ok, Err}
use Rattle.std.proofs.lemmas.List.{append-nil}
use Rattle.std.proofs.lemmas.Result.{IfOk-at_ok}
use Rattle.dy_lex.specs.Tokens.{Piece}
use Rattle.dy_syntax.specs.Files.{File}
use Rattle.dy_grammar.specs.Tables.{part, apply}
use Rattle.dy_grammar.specs.Parts.{AFile, PartValue}
use Rattle.dy_grammar.specs.Trees.{Tree, Trees, none, tree, leaves, all_leaves, value, values}
use Rattle.dy_grammar.specs.Files.{IsFile, BeginsFile}
use Rattle.dy_grammar.specs.Mirrors.Machine.{◌>>=◌, Reads, run, at, skip}
use Rattle.dy_grammar.specs.Mirrors.FileReading.{whole, file_at}
use Rattle.dy_grammar.proofs.TreeLaws.{goes_on}
use Rattle.dy_grammar.proofs.Sound.{IsRead, sound}
use Rattle.dy_grammar.proofs.Complete.{tree_read}
use Rattle.dy_grammar.proofs.Stops.{left_of, left_of-run}
use Rattle.dy_grammar.proofs.Faults.{FailsAt, faulty}

-- a tree of a file is read, and what stands after it is left
tree_at : (x : Tree AFile) (rest : List Piece) → at AFile (leaves x ++ rest) ≡ Ok (value x, rest)
unfolding at run
tree_at x [] = tree_read x File [] (λ v. v) [] (λ open_. refl)
tree_at x (t ∷ rest) = tree_read x File [] (λ v. v) (t ∷ rest) (λ open_. absurd (let closed = goes_on x open_ in cc))

-- what is read at the start is a file
file_prefix : (tokens : List Piece) (v : File) (rest : List Piece) → at AFile tokens ≡ Ok (v, rest) → (x : Tree AFile) × (tokens ≡ leaves x ++ rest) × (v ≡ value x)
unfolding at
file_prefix tokens v rest read = by_trees is_read.trees is_read.split is_read.value_is where
  is_read : IsRead false File tokens (part AFile ∷ []) (λ v. v) (v, rest)
  is_read = IfOk-at_ok (IsRead false File tokens (part AFile ∷ []) (λ v. v)) read (sound File tokens (part AFile ∷ []) (λ v. v))

  by_trees : (ts : Trees (part AFile ∷ [])) → tokens ≡ all_leaves ts ++ rest → v ≡ apply PartValue File (part AFile ∷ []) (λ v. v) (values ts) → (x : Tree AFile) × (tokens ≡ leaves x ++ rest) × (v ≡ value x)
  by_trees (tree x none) split value_is = (x, split ∙ ap (λ (xs : List Piece). xs ++ rest) (append-nil (leaves x)), value_is)

-- what is spelled is read
pub file_complete : (file : File) (tokens : List Piece) → IsFile file tokens → file_at tokens ≡ Ok (file, [])
unfolding file_at
file_complete file tokens is_file =
    let read : at AFile tokens ≡ Ok (value is_file.tree, []) = ap (at AFile) (is_file.spelled ∙ sym (append-nil (leaves is_file.tree))) ∙ tree_at is_file.tree [] in
    ap (λ r. r >>= λ y. whole y.0 y.1) read ∙ ap (λ (v : File). Ok (v, [])) (sym is_file.value_is)

-- what is read is spelled
pub file_sound : (tokens : List Piece) (y : File × List Piece) → file_at tokens ≡ Ok y → IsFile y.0 tokens
unfolding file_at
file_sound tokens y read = go (at AFile tokens) refl read where
  ends : (z : File × List Piece) (rest : List Piece) → z.1 ≡ rest → at AFile tokens ≡ Ok z → whole z.0 rest ≡ Ok y → IsFile y.0 tokens
  ends z [] same e all =
      let x = file_prefix tokens z.0 z.1 e in
      let value_is : y.0 ≡ z.0 = cc in
      record { tree = x.0; spelled = x.1 ∙ ap (λ (xs : List Piece). leaves x.0 ++ xs) same ∙ append-nil (leaves x.0); value_is = value_is ∙ x.2 }
  ends z (t ∷ rest) same e all = absurd (cc)

  go : (r : Reads File) → at AFile tokens ≡ r → (r >>= λ z. whole z.0 z.1) ≡ Ok y → IsFile y.0 tokens
  go (Ok z) e all = ends z z.1 refl e all
  go (Err left) e all = absurd (cc)

-- ---- faults

-- Reading fails where so many tokens are left.
pub record FailsWith (tokens : List Piece) (left : ℕ) : Type 0 where
  pub prefix : List Piece
  pub suffix : List Piece
  pub split : tokens ≡ prefix ++ suffix
  pub left_is : length suffix ≡ left
  pub begins : BeginsFile prefix
  pub stops : (t : Piece) (after : List Piece) → suffix ≡ t ∷ after → BeginsFile (prefix ++ t ∷ []) → ⊥
  pub short : suffix ≡ [] → (file : File) → IsFile file prefix → ⊥

-- what is not read is no file
not_file : (file : File) (tokens : List Piece) (e : ℕ) → at AFile tokens ≡ Err e → IsFile file tokens → ⊥
unfolding file_at
not_file file tokens e failed is_file =
    let read = file_complete file tokens is_file in
    let none_ : file_at tokens ≡ Err e = ap (λ r. r >>= λ y. whole y.0 y.1) failed in
    cc

skip_fails : (tokens : List Piece) (e : ℕ) → skip tokens (part AFile ∷ []) ≡ Err e → at AFile tokens ≡ Err e
unfolding at
skip_fails tokens e failed = go (at AFile tokens) refl where
  go : (r : Reads File) → at AFile tokens ≡ r → at AFile tokens ≡ Err e
  go (Ok y) read = let l : left_of (at AFile tokens) ≡ skip tokens (part AFile ∷ []) = left_of-run File tokens (part AFile ∷ []) (λ v. v) in
      let ok : left_of (at AFile tokens) ≡ Ok y.1 = ap left_of read in absurd (let bad : ◌≡◌ {A = Result (List Piece) ℕ} (Ok y.1) (Err e) = sym ok ∙ l ∙ failed in cc)
  go (Err d) read = let l : left_of (at AFile tokens) ≡ skip tokens (part AFile ∷ []) = left_of-run File tokens (part AFile ∷ []) (λ v. v) in
      let err : left_of (at AFile tokens) ≡ Err d = ap left_of read in
      let same : ◌≡◌ {A = Result (List Piece) ℕ} (Err d) (Err e) = sym err ∙ l ∙ failed in
      read ∙ cc

-- after tokens that fail, no file goes on with them
stops_there : (prefix more : List Piece) (t : Piece) (e : ℕ) → skip (prefix ++ t ∷ more) (part AFile ∷ []) ≡ Err e → (file : File) → IsFile file (prefix ++ t ∷ [] ++ more) → ⊥
stops_there prefix more t e failed file is_file =
    let same : prefix ++ t ∷ [] ++ more ≡ prefix ++ t ∷ more = append_assoc prefix (t ∷ []) more in
    not_file file (prefix ++ t ∷ more) e (skip_fails (prefix ++ t ∷ more) e failed) (subst (λ (xs : List Piece). IsFile file xs) same is_file)

inside_file : (tokens : List Piece) (left : ℕ) → FailsAt (part AFile ∷ []) tokens left → FailsWith tokens left
inside_file tokens left f = record {
  prefix = f.prefix;
  suffix = f.suffix;
  split = f.split;
  left_is = f.left_is;
  begins = by_trees f.trees f.begins;
  stops = λ t after same b. stops_there f.prefix b.more t _ (f.stops t after same b.more) b.file b.is_file;
  short = λ same file. not_file file f.prefix 0 (skip_fails f.prefix 0 (f.short same));
} where
  by_trees : (ts : Trees (part AFile ∷ [])) → all_leaves ts ≡ f.prefix ++ f.more → BeginsFile f.prefix
  by_trees (tree x none) begins = record { file = value x; more = f.more; is_file = record { tree = x; spelled = sym begins ∙ append-nil (leaves x); value_is = refl } }

-- a file does not go on after its end
no_more : (x : Tree AFile) (u : Piece) (b : BeginsFile (leaves x ++ u ∷ [])) → ⊥
unfolding file_at
no_more x u b =
    let same : leaves x ++ u ∷ [] ++ b.more ≡ leaves x ++ u ∷ b.more = append_assoc (leaves x) (u ∷ []) b.more in
    let read = file_complete b.file (leaves x ++ u ∷ b.more) (subst (λ (xs : List Piece). IsFile b.file xs) same b.is_file) in
    let other : file_at (leaves x ++ u ∷ b.more) ≡ Err (suc (length b.more)) = ap (λ r. r >>= λ y. whole y.0 y.1) (tree_at x (u ∷ b.more)) in
    cc

after_file : (tokens : List Piece) (x : Tree AFile) (t : Piece) (rest : List Piece) → tokens ≡ leaves x ++ t ∷ rest → FailsWith tokens (suc (length rest))
after_file tokens x t rest split = record {
  prefix = leaves x;
  suffix = t ∷ rest;
  split = split;
  left_is = refl;
  begins = record { file = value x; more = []; is_file = record { tree = x; spelled = append-nil (leaves x); value_is = refl } };
  stops = λ u after same b. no_more x u b;
  short = λ same. absurd (cc);
}

err_is : {A : Type 0} {a b : ℕ} → ◌≡◌ {A = Result A ℕ} (Err a) (Err b) → a ≡ b
err_is e = cc

pub file_fault : (tokens : List Piece) (left : ℕ) → file_at tokens ≡ Err left → FailsWith tokens left
unfolding file_at at
file_fault tokens left failed = go (at AFile tokens) refl failed where
  inside : at AFile tokens ≡ Err left → FailsWith tokens left
  inside e = inside_file tokens left (faulty tokens (part AFile ∷ []) left (sym (left_of-run File tokens (part AFile ∷ []) (λ v. v)) ∙ ap left_of e))

  ends : (z : File × List Piece) (rest : List Piece) → z.1 ≡ rest → at AFile tokens ≡ Ok z → whole z.0 rest ≡ Err left → FailsWith tokens left
  ends z [] same e all = absurd (cc)
  ends z (t ∷ rest) same e all =
      let x = file_prefix tokens z.0 z.1 e in
      let left_is : suc (length rest) ≡ left = err_is all in
      subst (λ n. FailsWith tokens n) left_is (after_file tokens x.0 t rest (x.1 ∙ ap (λ (xs : List Piece). leaves x.0 ++ xs) same))

  go : (r : Reads File) → at AFile tokens ≡ r → (r >>= λ z. whole z.0 z.1) ≡ Err left → FailsWith tokens left
  go (Ok z) e all = ends z z.1 refl e all
  go (Err d) e all = inside (e ∙ all)
