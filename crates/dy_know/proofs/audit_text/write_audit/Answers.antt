use Rattle.std.proofs.Common.{◌≡◌, ℕ, ◌++◌, List, [], ap, sym, ◌∙◌}
use Rattle.std.specs.List.{flat_map}
use Rattle.std.proofs.lemmas.List.{length-map}
use Rattle.dy_know.specs.ReportMeaning.{known_of, breach_of}
use Rattle.dy_know.specs.AuditText.{known_line, breach_line, count_line}
use Rattle.dy_know.proofs.Flattened.{flat_map-map}
use Rattle.dy_know.proofs.audit_text.write_audit.Goals as goal

text_is : (t0 t1 t2 t3 a b n a' b' n' : List ℕ) → t0 ≡ [] → t1 ≡ t0 ++ a → t2 ≡ t1 ++ b → t3 ≡ t2 ++ n → a ≡ a' → b ≡ b' → n ≡ n' → t3 ≡ (a' ++ b') ++ n'
text_is t0 t1 t2 t3 a b n a' b' n' none first second third is_a is_b is_n =
    third ∙ ap (λ t. t ++ n) (second ∙ ap (λ t. t ++ b) (first ∙ ap (λ t. t ++ a) none))
    ∙ ap (λ x. (x ++ b) ++ n) is_a ∙ ap (λ x. (a' ++ x) ++ n) is_b ∙ ap (λ x. (a' ++ b') ++ x) is_n

pub returns : goal.returns
returns c =
    let report = c.args.report.now in
    let known = flat_map (λ item. known_line (known_of item)) in
    let breaches = flat_map (λ breach. breach_line (breach_of breach)) in
    text_is c.new-text.result.items c.put_all_known.new.text.items c.put_breaches.new.text.items c.put_count.new.text.items
    (known c.as_slice.result.now) (breaches c.as_slice-2.result.now) (count_line c.len.result) _ _ _
    c.new-text.ensures.items c.in_ok-put_all_known.ensures c.in_ok-put_breaches.ensures c.in_ok-put_count.ensures
    (ap known c.as_slice.ensures ∙ sym (flat_map-map known_line known_of report.known))
    (ap breaches c.as_slice-2.ensures ∙ sym (flat_map-map breach_line breach_of report.breaches))
    (ap count_line (c.len.ensures ∙ sym (length-map report.breaches breach_of)))
