use Rattle.std.proofs.Common.{◌≡◌, false, ◌++◌, ◌∷◌, [], Option, Some, None, is_some, sym, ◌∙◌, refl}
use Rattle.std.specs.Map.{lookup}
use Rattle.std.proofs.lemmas.Bool.{cond-true, cond-false}
use Rattle.indexmap.proofs.CallerLemmas.{insert_entry-new}
use Rattle.dy_cases.proofs.first.add_first.Goals as goal

none_of : {V : Type 0} (o : Option V) → is_some o ≡ false → o ≡ None
none_of None h = refl
none_of (Some x) h = cc

pub returns-then-contains_key : goal.returns-then-contains_key
returns-then-contains_key g c =
    let entries = c.args.table.now.entries in
    let eq = g.K.PartialEq.eq in
    sym (cond-true (is_some (lookup (eq c.args.name) entries)) entries (entries ++ (c.args.name, c.args.declaration) ∷ []) (sym c.contains_key.ensures ∙ c.if-contains_key.true))

pub returns : goal.returns
returns g c =
    let entries = c.args.table.now.entries in
    let eq = g.K.PartialEq.eq in
    let absent = sym c.contains_key.ensures ∙ c.if-contains_key.false in
    c.in_ok-insert.ensures.entries
    ∙ insert_entry-new eq c.args.table.now c.args.name c.args.declaration (none_of (lookup (eq c.args.name) entries) absent)
    ∙ sym (cond-false (is_some (lookup (eq c.args.name) entries)) entries (entries ++ (c.args.name, c.args.declaration) ∷ []) absent)
