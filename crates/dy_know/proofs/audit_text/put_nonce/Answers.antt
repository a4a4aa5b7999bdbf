use Rattle.std.proofs.Common.{◌≡◌, ℕ, List, ◌++◌, ◌∙◌, ap, append_assoc, codes}
use Rattle.std.specs.Fmt.{decimal}
use Rattle.dy_recipe.specs.Meaning.{recipe_of}
use Rattle.dy_know.specs.MoveText.{moves_text}
use Rattle.dy_know.proofs.audit_text.put_nonce.Goals as goal

line_is : (old first second third begin a b c d e moves last : List ℕ) → first ≡ old ++ begin → begin ≡ a ++ (b ++ (c ++ (d ++ e))) → second ≡ first ++ moves
    → third ≡ second ++ last → third ≡ old ++ ((((((a ++ b) ++ c) ++ d) ++ e) ++ moves) ++ last)
line_is old first second third begin a b c d e moves last begun begin_is moved ended =
    ended ∙ ap (λ text. text ++ last) (moved ∙ ap (λ text. text ++ moves) (begun ∙ ap (λ text. old ++ text) begin_is)) ∙ simp append_assoc

pub returns : goal.returns
returns c = line_is c.args.text.now.items c.extend_from_slice.new.self.items c.put_moves.new.text.items c.extend_from_slice-2.new.self.items c.as_bytes.result.now
    (codes "breach nonce ") (decimal c.args.nonce) (codes " from ") (decimal c.args.from) (codes " by ") (moves_text (recipe_of c.args.recipe.now)) (codes "\n")
    c.in_ok-extend_from_slice.ensures.items (c.as_bytes.ensures.value ∙ c.in_ok-begin.ensures.ok) c.in_ok-put_moves.ensures c.in_ok-extend_from_slice-2.ensures.items
