-- A source is cut in one way: each blank and each token is as long as possible.
use Rattle.std.proofs.Common.{◌≡◌, ℕ, ◌+◌, true, List, [], ◌∷◌, ◌++◌, length, take, drop, refl, sym, ap, subst, ◌∙◌, arith}
use Rattle.std.proofs.lemmas.Bool.{and_parts, both_ways}
use Rattle.std.proofs.lemmas.List.{take_at, drop_at}
use Rattle.std.proofs.lemmas.List.Folds.{list_all-append}
use Rattle.std.specs.List.{list_all, prefix_len}
use Rattle.dy_lex.specs.declared.tokens.TokenKind.{TokenKind}
use Rattle.dy_lex.specs.Symbols.{is_blank}
use Rattle.dy_lex.specs.Tokens.{Piece, newlines, Skips, Begins, Spells, IsNoToken, IsFaultyAfter}
use Rattle.dy_lex.specs.MirrorPrefixes.{token_prefix}
use Rattle.dy_lex.proofs.Runs.{prefix_len-through}
use Rattle.dy_lex.proofs.PrefixLaws.{again, BeginsSolid, token_is_solid}

-- where the first byte is no blank, no blanks stand at the start
solid_stops : (bytes : List ℕ) → BeginsSolid bytes → prefix_len is_blank bytes ≡ 0
solid_stops bytes solid = rw (solid.split, solid.not_blank) refl

-- such bytes are not all blank
solid_is_not_blank : (bytes : List ℕ) → BeginsSolid bytes → list_all is_blank bytes ≡ true → ⊥
solid_is_not_blank bytes solid blank =
    let blanks : list_all is_blank (solid.first ∷ solid.more) ≡ true = rw solid.split at blank in
    both_ways (is_blank solid.first) solid.not_blank (and_parts (is_blank solid.first) (list_all is_blank solid.more) blanks).0

-- a token with what follows it begins with no blank
begins_solid : (token : Piece) (at line : ℕ) (source rest : List ℕ) → Begins token at line source rest → BeginsSolid (token.text ++ rest)
begins_solid token at line source rest begins =
    let solid = token_is_solid token.kind token.text begins.is_token in
    record { first = solid.first; more = solid.more ++ rest; split = ap (λ (bytes : List ℕ). bytes ++ rest) solid.split; not_blank = solid.not_blank }

-- what is no token begins with no blank
no_token_solid : (source : List ℕ) → IsNoToken source → BeginsSolid source
no_token_solid source none = record { first = none.first; more = none.more; split = none.split; not_blank = none.not_blank }

-- the place, the line and the rest after all blanks at the start
pub record IsAfterBlanks (at line : ℕ) (source : List ℕ) (next next_line : ℕ) (rest : List ℕ) : Type 0 where
  pub place : next ≡ at + prefix_len is_blank source
  pub lines : next_line ≡ line + newlines (take (prefix_len is_blank source) source)
  pub after : rest ≡ drop (prefix_len is_blank source) source

-- blanks that lead to another byte are all blanks at the start
skips_all : (at line : ℕ) (source : List ℕ) (next next_line : ℕ) (rest : List ℕ) → Skips at line source next next_line rest → BeginsSolid rest → IsAfterBlanks at line source next next_line rest
skips_all at line source next next_line rest skips solid =
    let len : prefix_len is_blank (skips.blanks ++ rest) ≡ length skips.blanks = omega (arith, prefix_len-through is_blank skips.blanks rest skips.blank, solid_stops rest solid) in
    rw skips.split (record {
      place = rw len skips.place;
      lines = rw (len, take_at skips.blanks rest (length skips.blanks) refl) skips.line_is;
      after = rw (len, drop_at skips.blanks rest (length skips.blanks) refl) refl;
    })

-- a source of blanks leads to no other byte
blanks_end : (at line : ℕ) (source : List ℕ) (next next_line : ℕ) (rest : List ℕ) → list_all is_blank source ≡ true → Skips at line source next next_line rest → BeginsSolid rest → ⊥
blanks_end at line source next next_line rest blank skips solid =
    let both = rw (skips.split, list_all-append) at blank in
    solid_is_not_blank rest solid (and_parts (list_all is_blank skips.blanks) (list_all is_blank rest) both).1

-- two tokens are the same if their parts are
pieces_same : (a b : Piece) → a.kind ≡ b.kind → a.text ≡ b.text → a.at ≡ b.at → a.line ≡ b.line → a ≡ b
pieces_same a b kinds texts places lines = λ i. record { kind = kinds i; text = texts i; at = places i; line = lines i }

-- a source begins with one token
begins_same : (a b : Piece) (at line : ℕ) (source after_a after_b : List ℕ) → Begins a at line source after_a → Begins b at line source after_b → ◌≡◌ {A = Piece × List ℕ} (a, after_a) (b, after_b)
begins_same a b at line source after_a after_b begins_a begins_b =
    let to_a = skips_all at line source a.at a.line (a.text ++ after_a) begins_a.skips (begins_solid a at line source after_a begins_a) in
    let to_b = skips_all at line source b.at b.line (b.text ++ after_b) begins_b.skips (begins_solid b at line source after_b begins_b) in
    let wholes : a.text ++ after_a ≡ b.text ++ after_b = to_a.after ∙ sym to_b.after in
    let found_a = again a.kind a.text after_a begins_a.is_token begins_a.whole in
    let found_b = again b.kind b.text after_b begins_b.is_token begins_b.whole in
    let found : ◌≡◌ {A = TokenKind × ℕ} (a.kind, length a.text) (b.kind, length b.text) = let same = ap token_prefix wholes in cc in
    let lens : length a.text ≡ length b.text = ap (λ (p : TokenKind × ℕ). p.1) found in
    let texts : a.text ≡ b.text = sym (take_at a.text after_a (length a.text) refl) ∙ rw wholes (take_at b.text after_b (length a.text) (sym lens)) in
    let rests : after_a ≡ after_b = sym (drop_at a.text after_a (length a.text) refl) ∙ rw wholes (drop_at b.text after_b (length a.text) (sym lens)) in
    let tokens = pieces_same a b (ap (λ (p : TokenKind × ℕ). p.0) found) texts (to_a.place ∙ sym to_b.place) (to_a.lines ∙ sym to_b.lines) in
    λ i. (tokens i, rests i)

-- no token begins at a fault
begins_no_fault : (token : Piece) (at line : ℕ) (source rest : List ℕ) (fault : ℕ) → IsFaultyAfter [] at line source fault → Begins token at line source rest → ⊥
begins_no_fault token at line source rest fault faulty begins =
    let to_fault = skips_all at line source faulty.0 fault faulty.1 faulty.2 (no_token_solid faulty.1 faulty.3) in
    let to_token = skips_all at line source token.at token.line (token.text ++ rest) begins.skips (begins_solid token at line source rest begins) in
    faulty.3.no_token token.kind token.text rest (to_fault.after ∙ sym to_token.after) begins.is_token begins.whole

-- a source of blanks begins with no token
begins_no_blanks : (token : Piece) (at line : ℕ) (source rest : List ℕ) → list_all is_blank source ≡ true → Begins token at line source rest → ⊥
begins_no_blanks token at line source rest blank begins = blanks_end at line source token.at token.line (token.text ++ rest) blank begins.skips (begins_solid token at line source rest begins)

-- a source has one list of tokens
pub spells_same : (a b : List Piece) (at line : ℕ) (source : List ℕ) → Spells a at line source → Spells b at line source → a ≡ b
spells_same [] [] at line source in_a in_b = refl
spells_same [] (y ∷ b) at line source in_a in_b = absurd (begins_no_blanks y at line source in_b.0 in_a in_b.1)
spells_same (x ∷ a) [] at line source in_a in_b = absurd (begins_no_blanks x at line source in_a.0 in_b in_a.1)
spells_same (x ∷ a) (y ∷ b) at line source in_a in_b =
    let same = begins_same x y at line source in_a.0 in_b.0 in_a.1 in_b.1 in
    let moved = subst (λ (p : Piece × List ℕ). Spells a (p.0.at + length p.0.text) p.0.line p.1) same in_a.2 in
    let heads : x ≡ y = ap (λ (p : Piece × List ℕ). p.0) same in
    let tails : a ≡ b = spells_same a b (y.at + length y.text) y.line in_b.0 moved in_b.2 in
    cc

-- a source with a fault has no list of tokens
pub faulty_not_spelled : (a b : List Piece) (at line : ℕ) (source : List ℕ) (fault : ℕ) → IsFaultyAfter a at line source fault → Spells b at line source → ⊥
faulty_not_spelled [] [] at line source fault faulty spells = blanks_end at line source faulty.0 fault faulty.1 spells faulty.2 (no_token_solid faulty.1 faulty.3)
faulty_not_spelled [] (y ∷ b) at line source fault faulty spells = begins_no_fault y at line source spells.0 fault faulty spells.1
faulty_not_spelled (x ∷ a) [] at line source fault faulty spells = begins_no_blanks x at line source faulty.0 spells faulty.1
faulty_not_spelled (x ∷ a) (y ∷ b) at line source fault faulty spells =
    let same = begins_same x y at line source faulty.0 spells.0 faulty.1 spells.1 in
    let moved = subst (λ (p : Piece × List ℕ). IsFaultyAfter a (p.0.at + length p.0.text) p.0.line p.1 fault) same faulty.2 in
    faulty_not_spelled a b (y.at + length y.text) y.line spells.0 fault moved spells.2

-- a source has one fault
pub faults_same : (a b : List Piece) (at line : ℕ) (source : List ℕ) (k l : ℕ) → IsFaultyAfter a at line source k → IsFaultyAfter b at line source l → k ≡ l
faults_same [] [] at line source k l in_a in_b =
    let to_k = skips_all at line source in_a.0 k in_a.1 in_a.2 (no_token_solid in_a.1 in_a.3) in
    let to_l = skips_all at line source in_b.0 l in_b.1 in_b.2 (no_token_solid in_b.1 in_b.3) in
    to_k.lines ∙ sym to_l.lines
faults_same [] (y ∷ b) at line source k l in_a in_b = absurd (begins_no_fault y at line source in_b.0 k in_a in_b.1)
faults_same (x ∷ a) [] at line source k l in_a in_b = absurd (begins_no_fault x at line source in_a.0 l in_b in_a.1)
faults_same (x ∷ a) (y ∷ b) at line source k l in_a in_b =
    let same = begins_same x y at line source in_a.0 in_b.0 in_a.1 in_b.1 in
    let moved = subst (λ (p : Piece × List ℕ). IsFaultyAfter a (p.0.at + length p.0.text) p.0.line p.1 k) same in_a.2 in
    faults_same a b (y.at + length y.text) y.line in_b.0 k l moved in_b.2
