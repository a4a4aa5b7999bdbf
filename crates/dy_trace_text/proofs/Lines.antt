-- Lines that are written part after part, and one after another.
use Rattle.std.proofs.Common.{◌≡◌, ℕ, ◌+◌, ◌<◌, ◌≤◌, List, [], ◌∷◌, ◌++◌, codes, map, drop, length, get_or, append_assoc, sym, ◌∙◌, ap}
use Rattle.std.specs.List.{flat_map}
use Rattle.std.proofs.lemmas.List.{append-nil, drop_more, drop_all}
use Rattle.dy_entry.specs.declared.entries.Entry as declared
use Rattle.dy_entry.specs.Meaning.{entry_of}
use Rattle.dy_trace_text.specs.EntryText.{line_of}
use Rattle.dy_trace_text.specs.ListText.{line}
use Rattle.dy_trace_text.specs.MirrorPages.{put_part, put_parts}
use Rattle.dy_trace_text.specs.TraceText.{lines_from}

-- what was written, and then each part with a space before it
pub put_parts_is : (page : List ℕ) (parts : List (List ℕ)) → put_parts page parts ≡ page ++ flat_map (λ part. codes " " ++ part) parts
put_parts_is page [] = sym (append-nil page)
put_parts_is page (part ∷ more) = put_parts_is (put_part page part) more ∙ append_assoc page (codes " " ++ part) (flat_map (λ other. codes " " ++ other) more)

-- a line's first part, its other parts and its end
pub line_is : (page first : List ℕ) (parts : List (List ℕ)) → put_parts (page ++ first) parts ++ codes "\n" ≡ page ++ line (first ∷ parts)
line_is page first parts =
    let others = flat_map (λ part. codes " " ++ part) parts in
    ap (λ text. text ++ codes "\n") (put_parts_is (page ++ first) parts ∙ append_assoc page first others)
    ∙ append_assoc page (first ++ others) (codes "\n")

-- the lines of entries from one on
pub lines_more : (entries : List declared.Entry) (index : ℕ) (entry : declared.Entry) (page : List ℕ) → index < length entries → entry ≡ get_or entries index entry
    → page ++ lines_from index (map entry_of (drop index entries)) ≡ (page ++ line_of index (entry_of entry)) ++ lines_from (index + 1) (map entry_of (drop (index + 1) entries))
lines_more entries index entry page within is = rw (drop_more entries index entry within, ← is) (sym (append_assoc page (line_of index (entry_of entry)) _))

pub lines_done : (entries : List declared.Entry) (index : ℕ) (page all : List ℕ) → length entries ≤ index → page ++ lines_from index (map entry_of (drop index entries)) ≡ all → page ≡ all
lines_done entries index page all ended kept = sym (append-nil page) ∙ rw (drop_all index entries ended) at kept
