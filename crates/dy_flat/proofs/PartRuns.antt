-- Where the parts of a whole term stand in its run.
use Rattle.std.proofs.Common.{◌≡◌, ℕ, ◌+◌, ◌-◌, Option, Some, None, List, [], ◌∷◌, ◌++◌, map, length, take, drop, get_or, refl, sym, ◌∙◌, ap, arith, drop-cons, add-zero}
use Rattle.std.specs.Prelude.{slice_get}
use Rattle.std.specs.Option.{option_map}
use Rattle.std.proofs.lemmas.List.{length-append, length-map, append-nil, append_assoc, map-append, drop-map, take_rest}
use Rattle.std.proofs.Math.Seq.{take-append_seam, drop-append_seam}
use Rattle.dy_term.specs.Terms as trees
use Rattle.dy_flat.specs.declared.views.View.{View}
use Rattle.dy_flat.specs.declared.flat_nodes.Node.TheVariants as code
use Rattle.dy_flat.specs.Runs as runs
use Rattle.dy_flat.specs.Runs.{run_of}
use Rattle.dy_flat.specs.MirrorSpans.{span}
use Rattle.dy_flat.specs.Meaning.{read, read_all, arity}
use Rattle.dy_flat.specs.Views.{tree_of}
use Rattle.dy_flat.specs.PartMeaning.{IsPart}
use Rattle.dy_flat.proofs.Spans.{parts_of, read_all_parts, span_run, span_none}
use Rattle.dy_flat.proofs.WholeRuns.{nonempty, length_whole}

-- A run stands between two others.
middle : (A B C : List runs.Node) → take (length B) (drop (length A) (map Some (A ++ (B ++ C)))) ≡ map Some B
middle A B C =
    let lead : map Some (A ++ (B ++ C)) ≡ map Some A ++ (map Some B ++ map Some C) = map-append Some A (B ++ C) ∙ ap (λ back. map Some A ++ back) (map-append Some B C) in
    let after : drop (length A) (map Some (A ++ (B ++ C))) ≡ map Some B ++ map Some C =
    ap (λ n. drop n (map Some (A ++ (B ++ C)))) (sym (length-map A Some)) ∙ ap (drop (length (map Some A))) lead ∙ drop-append_seam (map Some A) (map Some B ++ map Some C) in
    ap (λ n. take n (drop (length A) (map Some (A ++ (B ++ C))))) (sym (length-map B Some)) ∙ ap (take (length (map Some B))) after ∙ take-append_seam (map Some B) (map Some C)

-- A term whose run stands so in that of a view is a part of the view.
pub is_part : (view : View) (A C : List runs.Node) (t : trees.Term) (from to : ℕ) → run_of (tree_of view) ≡ A ++ (run_of t ++ C) → from ≡ length A → to ≡ from + length (run_of t) → IsPart view from to t
is_part view A C t from to split starts ends =
    let all : length view.nodes.now ≡ length (run_of (tree_of view)) = length_whole view.contents.now view.nodes.now (tree_of view) view.whole in
    let len : to - from ≡ length (run_of t) = omega (arith, ends) in
    let nodes : read_all view.contents.now view.nodes.now ≡ map Some (A ++ (run_of t ++ C)) = view.whole ∙ ap (map Some) split in
    record {
      order = omega (arith, ends);
      within = omega (arith, all, ap length split, length-append A (run_of t ++ C), length-append (run_of t) C, starts, ends);
      run = ap (λ n. take n (drop from (read_all view.contents.now view.nodes.now))) len ∙ ap (λ n. take (length (run_of t)) (drop n (read_all view.contents.now view.nodes.now))) starts
          ∙ ap (λ xs. take (length (run_of t)) (drop (length A) xs)) nodes ∙ middle A (run_of t) C;
    }

-- The nodes after the first one, if the term's run begins with a term.
pub key_span : (view : View) (n : runs.Node) (key : trees.Term) (C : List runs.Node) → run_of (tree_of view) ≡ n ∷ (run_of key ++ C) → span 1 (map arity (drop 1 view.nodes.now)) ≡ length (run_of key)
key_span view n key C split =
    let contents = view.contents.now in
    let after : read_all contents (drop 1 view.nodes.now) ≡ map Some (run_of key ++ C) =
    sym (drop-map (read contents) 1 view.nodes.now) ∙ ap (drop 1) (view.whole ∙ ap (map Some) split) in
    let parts = read_all_parts contents (drop 1 view.nodes.now) (run_of key ++ C) after in
    ap (span 1) parts ∙ span_run key 0 C ∙ ap (λ n. length (run_of key) + n) (span_none (map parts_of C)) ∙ add-zero (length (run_of key))

pub key_len : (view : View) (len : ℕ) (key : trees.Term) → len ≡ span 1 (map arity (take (length view.nodes.now - 1) (drop 1 view.nodes.now))) → span 1 (map arity (drop 1 view.nodes.now)) ≡ length (run_of key) → len ≡ length (run_of key)
key_len view len key found is = found ∙ ap (λ nodes. span 1 (map arity nodes)) (take_rest view.nodes.now 1) ∙ is

-- The first node, read, and the others.
first_read : (view : View) → read view.contents.now (get_or view.nodes.now 0 (code.Lit 0)) ∷ read_all view.contents.now (drop 1 view.nodes.now) ≡ map Some (run_of (tree_of view))
first_read view =
    let nodes = view.nodes.now in
    let split : nodes ≡ get_or nodes 0 (code.Lit 0) ∷ drop 1 nodes = drop-cons nodes 0 (code.Lit 0) (nonempty view.contents.now nodes view.whole) in
    ap (read_all view.contents.now) (sym split) ∙ view.whole

-- ---- authenticated encryption

record Sealed (t : trees.Term) (before : ℕ) : Type 0 where
  pub key : trees.Term
  pub message : trees.Term
  pub associated : trees.Term
  pub is : t ≡ trees.Aead key message associated
  pub before_is : before ≡ length (run_of key ++ run_of message)

sealed_of : (t : trees.Term) (before : ℕ) (more : List (Option runs.Node)) → Some (runs.Aead before) ∷ more ≡ map Some (run_of t) → Sealed t before
sealed_of (trees.Aead key message associated) before more e = record { key = key; message = message; associated = associated; is = refl; before_is = cc }
sealed_of _ before more e = cc

-- A view whose first node is an `Aead`, with where its parts stand.
pub record SealedView (view : View) (before : ℕ) : Type 0 where
  pub key : trees.Term
  pub message : trees.Term
  pub associated : trees.Term
  pub is : tree_of view ≡ trees.Aead key message associated
  pub span_is : span 1 (map arity (drop 1 view.nodes.now)) ≡ length (run_of key)
  pub first : IsPart view 1 (1 + length (run_of key)) key
  pub second : IsPart view (1 + length (run_of key)) (1 + before) message
  pub third : IsPart view (1 + before) (length view.nodes.now) associated

pub sealed_view : (view : View) (before : ℕ) → get_or view.nodes.now 0 (code.Lit 0) ≡ code.Aead before → SealedView view before
sealed_view view before is =
    let parts = sealed_of (tree_of view) before _ (ap (λ node. read view.contents.now node ∷ read_all view.contents.now (drop 1 view.nodes.now)) (sym is) ∙ first_read view) in
    let K = run_of parts.key in
    let M = run_of parts.message in
    let D = run_of parts.associated in
    let run : run_of (tree_of view) ≡ runs.Aead (length (K ++ M)) ∷ (K ++ (M ++ D)) = ap run_of parts.is in
    let node = runs.Aead (length (K ++ M)) in
    let KM = length-append K M in
    let all = length_whole view.contents.now view.nodes.now (tree_of view) view.whole in
    record {
      key = parts.key;
      message = parts.message;
      associated = parts.associated;
      is = parts.is;
      span_is = key_span view node parts.key (M ++ D) run;
      first = is_part view (node ∷ []) (M ++ D) parts.key 1 (1 + length K) run refl refl;
      second = is_part view (node ∷ K) D parts.message (1 + length K) (1 + before) run (omega arith) (omega (arith, KM, parts.before_is));
      third = is_part view (node ∷ (K ++ M)) [] parts.associated (1 + before) (length view.nodes.now)
          (run ∙ ap (λ back. node ∷ back) (sym (append_assoc K M D) ∙ ap (λ back. (K ++ M) ++ back) (sym (append-nil D))))
          (omega (arith, parts.before_is))
          (omega (arith, all, ap length run, length-append K (M ++ D), length-append M D, KM, parts.before_is));
    }

-- ---- derived keys

record Derived (t : trees.Term) (found : Option (List ℕ)) : Type 0 where
  pub key : trees.Term
  pub context : List ℕ
  pub input : trees.Term
  pub is : t ≡ trees.Kdf key context input
  pub found_is : found ≡ Some context

derived_of : (t : trees.Term) (found : Option (List ℕ)) (more : List (Option runs.Node)) → option_map runs.Kdf found ∷ more ≡ map Some (run_of t) → Derived t found
derived_of (trees.Kdf key context input) (Some text) more e = record { key = key; context = context; input = input; is = refl; found_is = cc }
derived_of (trees.Kdf key context input) None more e = cc
derived_of _ (Some text) more e = cc
derived_of _ None more e = cc

-- A view whose first node is a `Kdf`, with where its parts stand.
pub record DerivedView (view : View) (place : ℕ) : Type 0 where
  pub key : trees.Term
  pub context : List ℕ
  pub input : trees.Term
  pub is : tree_of view ≡ trees.Kdf key context input
  pub found_is : slice_get view.contents.now.texts.items place ≡ Some context
  pub span_is : span 1 (map arity (drop 1 view.nodes.now)) ≡ length (run_of key)
  pub first : IsPart view 1 (1 + length (run_of key)) key
  pub second : IsPart view (1 + length (run_of key)) (length view.nodes.now) input

pub derived_view : (view : View) (place : ℕ) → get_or view.nodes.now 0 (code.Lit 0) ≡ code.Kdf place → DerivedView view place
derived_view view place is =
    let parts = derived_of (tree_of view) (slice_get view.contents.now.texts.items place) _ (ap (λ node. read view.contents.now node ∷ read_all view.contents.now (drop 1 view.nodes.now)) (sym is) ∙ first_read view) in
    let K = run_of parts.key in
    let X = run_of parts.input in
    let node = runs.Kdf parts.context in
    let run : run_of (tree_of view) ≡ node ∷ (K ++ X) = ap run_of parts.is in
    let all = length_whole view.contents.now view.nodes.now (tree_of view) view.whole in
    record {
      key = parts.key;
      context = parts.context;
      input = parts.input;
      is = parts.is;
      found_is = parts.found_is;
      span_is = key_span view node parts.key X run;
      first = is_part view (node ∷ []) X parts.key 1 (1 + length K) run refl refl;
      second = is_part view (node ∷ K) [] parts.input (1 + length K) (length view.nodes.now)
          (run ∙ ap (λ back. node ∷ (K ++ back)) (sym (append-nil X)))
          (omega arith)
          (omega (arith, all, ap length run, length-append K X));
    }
