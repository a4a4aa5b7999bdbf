use Rattle.std.proofs.Common.{◌≡◌, ℕ, List, ◌++◌, ◌∙◌, ap, append_assoc, codes}
use Rattle.std.specs.Fmt.{decimal}
use Rattle.dy_know.proofs.audit_text.put_event.Goals as goal

line_is : (old new line a b c d e : List ℕ) → new ≡ old ++ line → line ≡ a ++ (b ++ (c ++ (d ++ e))) → new ≡ old ++ ((((a ++ b) ++ c) ++ d) ++ e)
line_is old new line a b c d e added is = added ∙ ap (λ text. old ++ text) is ∙ simp append_assoc

pub returns : goal.returns
returns c = line_is c.args.text.now.items c.extend_from_slice.new.self.items c.as_bytes.result.now
    (codes "breach event ") (decimal c.args.event) (codes " partner ") (decimal c.args.partner) (codes "\n")
    c.in_ok-extend_from_slice.ensures.items (c.as_bytes.ensures.value ∙ c.in_ok-line.ensures.ok)
