-- A file's canonical text reads as the file, but for lines.
use Rattle.std.proofs.Common.{◌≡◌, ℕ, ◌+◌, ◌≤◌, Bool, true, false, List, [], ◌∷◌, ◌++◌, map, refl, sym, ap, subst, ◌∙◌, arith}
use Rattle.std.specs.List.{list_all}
use Rattle.std.proofs.lemmas.Bool.{and_parts, and_from}
use Rattle.std.proofs.lemmas.List.{map-append}
use Rattle.dy_lex.specs.declared.tokens.TokenKind.{TokenKind}
use Rattle.dy_lex.specs.declared.tokens.TokenKind.TheVariants.{Word, Number, Text, Symbol}
use Rattle.dy_lex.specs.Symbols.{IsToken}
use Rattle.dy_lex.specs.Tokens.{Piece, Spells}
use Rattle.dy_syntax.specs.Files.{File}
use Rattle.dy_grammar.specs.Parts.{AFile}
use Rattle.dy_grammar.specs.Trees.{leaves}
use Rattle.dy_grammar.specs.Files.{with_end}
use Rattle.dy_show.specs.declared.spacing.Ending.TheVariants.{Bound}
use Rattle.dy_show.specs.Spacing.{Lexeme}
use Rattle.dy_show.specs.Canonical as c
use Rattle.dy_show.specs.Readings.{is_short, ReadsAs, ReadsAgain}
use Rattle.dy_show.specs.Shapes.{Shape, shape_of, piece_shape, the_end, part_shapes, is_end, one_if, ends, AreLawful}
use Rattle.dy_show.proofs.Cutting.{AreTokens, cut}
use Rattle.dy_show.proofs.Retelling.{Retold, retold, ends_append, lawful_append, lawful_prefix}

-- a token is not the end
token_is_no_end : (kind : TokenKind) (text : List ℕ) → IsToken kind text → is_end (record { kind = kind; text = text }) ≡ false
token_is_no_end Word text is = refl
token_is_no_end Number text is = refl
token_is_no_end Text text is = refl
token_is_no_end Symbol [] is = absurd (cc)
token_is_no_end Symbol (b ∷ text) is = refl

-- the tokens of a source
source_lawful : (ts : List Piece) (at line : ℕ) (source : List ℕ) → Spells ts at line source → list_all is_short ts ≡ true → AreLawful (map piece_shape ts)
source_lawful [] at line source cut short = tt
source_lawful (t ∷ ts) at line source cut short =
    let both = and_parts (is_short t) (list_all is_short ts) short in
    (record { is_token = λ e. cut.1.is_token; short = both.0 }, source_lawful ts _ _ _ cut.2 both.1)

source_ends : (ts : List Piece) (at line : ℕ) (source : List ℕ) → Spells ts at line source → ends (map piece_shape ts) ≡ 0
source_ends [] at line source cut = refl
source_ends (t ∷ ts) at line source cut =
    let none = token_is_no_end t.kind t.text cut.1.is_token in
    let more = source_ends ts _ _ _ cut.2 in
    rw none (omega arith)

end_lawful : AreLawful (shape_of the_end ∷ [])
end_lawful = (record { is_token = λ e. absurd (cc); short = refl }, tt)

-- without an end, what is lawful is a token
no_end : (b : Bool) (n : ℕ) → one_if b + n ≡ 0 → b ≡ false
no_end true n e = absurd (let bad : ⊥ = omega arith in bad)
no_end false n e = refl

are_tokens : (xs : List Lexeme) → AreLawful (map shape_of xs) → ends (map shape_of xs) ≡ 0 → AreTokens xs
are_tokens [] all none = tt
are_tokens (x ∷ xs) all none =
    let first = no_end (is_end (shape_of x)) (ends (map shape_of xs)) none in
    let rest : ends (map shape_of xs) ≡ 0 = omega arith in
    (all.0.is_token first, are_tokens xs all.1 rest)

shapes_short : (ts : List Piece) → AreLawful (map piece_shape ts) → list_all is_short ts ≡ true
shapes_short [] all = refl
shapes_short (t ∷ ts) all = and_from (is_short t) (list_all is_short ts) all.0.short (shapes_short ts all.1)

reads_from : (source : List ℕ) (file : File) (tokens : List Piece) → Spells tokens 0 1 source → list_all is_short tokens ≡ true → Retold AFile file (with_end source tokens) → ReadsAgain file
reads_from source file tokens cut_ short r =
    let shown_is : part_shapes AFile file ≡ map shape_of (c.file file) ++ shape_of the_end ∷ [] = map-append shape_of (c.file file) (the_end ∷ []) in
    let leaves_are : map piece_shape (with_end source tokens) ≡ map piece_shape tokens ++ shape_of the_end ∷ [] = map-append piece_shape tokens _ in
    let none : ends (map piece_shape tokens) ≡ 0 = source_ends tokens 0 1 source cut_ in
    let few : ends (map shape_of (c.file file) ++ shape_of the_end ∷ []) ≤ ends (map piece_shape tokens ++ shape_of the_end ∷ []) =
    subst (λ (xs : List Shape). ends xs ≤ ends (map piece_shape tokens ++ shape_of the_end ∷ [])) shown_is (subst (λ (xs : List Shape). ends (part_shapes AFile file) ≤ ends xs) leaves_are r.few) in
    let fewer : ends (map shape_of (c.file file)) ≡ 0 =
    omega (arith, ends_append (map shape_of (c.file file)) (shape_of the_end ∷ []), ends_append (map piece_shape tokens) (shape_of the_end ∷ []), none, few) in
    let lawful = lawful_prefix (map shape_of (c.file file)) (shape_of the_end ∷ []) (subst (λ (xs : List Shape). AreLawful xs) shown_is r.lawful) in
    let again = cut Bound (c.file file) (are_tokens (c.file file) lawful fewer) 0 1 in
    let same : map piece_shape (with_end (c.canon file) again.pieces) ≡ part_shapes AFile file =
    map-append piece_shape again.pieces _ ∙ ap (λ (xs : List Shape). xs ++ shape_of the_end ∷ []) again.shapes ∙ sym shown_is in
    let told = r.told (with_end (c.canon file) again.pieces) same in
    record {
      again = _;
      reads = record {
        tokens = again.pieces;
        cut = again.spells;
        is_file = record { tree = told.tree; spelled = told.spelled; value_is = refl };
        short = shapes_short again.pieces (subst (λ (xs : List Shape). AreLawful xs) (sym again.shapes) lawful);
        shallow = told.shallow;
      };
      same = sym told.same;
    }

pub reads_again : (source : List ℕ) (file : File) → ReadsAs source file → ReadsAgain file
reads_again source file reads =
    let f = reads.is_file in
    let leaves_are : map piece_shape (with_end source reads.tokens) ≡ map piece_shape reads.tokens ++ shape_of the_end ∷ [] = map-append piece_shape reads.tokens _ in
    let lawful : AreLawful (map piece_shape (with_end source reads.tokens)) =
    subst (λ (xs : List Shape). AreLawful xs) (sym leaves_are)
    (lawful_append (map piece_shape reads.tokens) (shape_of the_end ∷ []) (source_lawful reads.tokens 0 1 source reads.cut reads.short) end_lawful) in
    let r = retold f.tree reads.shallow (subst (λ (ts : List Piece). AreLawful (map piece_shape ts)) f.spelled lawful) in
    let moved = subst (λ (v : File). Retold AFile v (leaves f.tree)) (sym f.value_is) r in
    reads_from source file reads.tokens reads.cut reads.short (subst (λ (ts : List Piece). Retold AFile file ts) (sym f.spelled) moved)
