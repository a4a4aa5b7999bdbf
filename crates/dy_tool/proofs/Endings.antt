-- How the text that `play` writes ends.
use Rattle.std.proofs.Common.{◌≡◌, ℕ, List, [], ◌∷◌, ◌++◌, length, refl, sym, subst, ap, ◌∙◌, append_assoc, append-nil, arith}
use Rattle.std.specs.Prelude.{codes}
use Rattle.std.specs.List.{flat_map, join_by}
use Rattle.std.specs.Fmt.{decimal}
use Rattle.std.proofs.lemmas.Fmt.{decimal_digit}
use Rattle.dy_entry.specs.Entries.{Entry}
use Rattle.dy_entry.specs.Summaries.{counts_in}
use Rattle.dy_trace_text.specs.ListText.{line}
use Rattle.dy_trace_text.specs.CountsText.{count_parts, counts_text}
use Rattle.dy_trace_text.specs.TraceText.{lines_from, trace_text}
use Rattle.dy_know.specs.Knowing.{KnownFrom}
use Rattle.dy_know.specs.Breaches.{Breach}
use Rattle.dy_know.specs.Reports.{Report}
use Rattle.dy_know.specs.AuditText.{known_line, breach_line, count_line, audit_text}
use Rattle.dy_tool.specs.Playing.{EndsUnbreached}

-- the text ends with a newline
record EndsLine (text : List ℕ) : Type 0 where
  pub front : List ℕ
  pub is : text ≡ front ++ codes "\n"

ends_line : (front : List ℕ) → EndsLine (front ++ codes "\n")
ends_line front = record { front = front; is = refl }

-- so does a longer one before it
ends_after : (before text : List ℕ) → EndsLine text → EndsLine (before ++ text)
ends_after before text ends = record { front = before ++ ends.front; is = ap (λ t. before ++ t) ends.is ∙ sym (append_assoc before ends.front (codes "\n")) }

known_ends : (known : KnownFrom) → EndsLine (known_line known)
known_ends known = ends_line (codes "known " ++ decimal known.nonce ++ codes " from " ++ decimal known.from)

-- and with lines after it
all_known_end : (text : List ℕ) (known : List KnownFrom) → EndsLine text → EndsLine (text ++ flat_map known_line known)
all_known_end text [] ends = subst EndsLine (sym (append-nil text)) ends
all_known_end text (k ∷ known) ends =
    subst EndsLine (append_assoc text (known_line k) (flat_map known_line known)) (all_known_end (text ++ known_line k) known (ends_after text (known_line k) (known_ends k)))

trace_ends : (T : List Entry) → EndsLine (trace_text T)
trace_ends T =
    let counts = counts_text (codes "total") (counts_in T) in
    ends_after (lines_from 0 T) counts (ends_line (join_by (λ part. part) (codes " ") (codes "total" ∷ count_parts (counts_in T))))

no_breaches : count_line 0 ≡ codes "breaches 0\n"
no_breaches = ap (λ d. codes "breaches " ++ d ++ codes "\n") (decimal_digit 0 (omega arith))

-- Where nothing is breached, the last line says so.
pub ends_unbreached : (T : List Entry) (report : Report) → report.breaches ≡ [] → EndsUnbreached (trace_text T ++ audit_text report)
ends_unbreached T report none =
    let trace = trace_text T in
    let known = flat_map known_line report.known in
    let last = codes "breaches 0\n" in
    let lines = all_known_end trace report.known (trace_ends T) in
    record {
      lines = lines.front;
      ends = ap (λ (bs : List Breach). trace ++ (known ++ flat_map breach_line bs ++ count_line (length bs))) none
          ∙ ap (λ k. trace ++ (k ++ count_line 0)) (append-nil known)
          ∙ ap (λ l. trace ++ (known ++ l)) no_breaches
          ∙ sym (append_assoc trace known last)
          ∙ ap (λ t. t ++ last) lines.is
          ∙ append_assoc lines.front (codes "\n") last;
    }
