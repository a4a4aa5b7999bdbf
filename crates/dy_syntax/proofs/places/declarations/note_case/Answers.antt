use Rattle.std.proofs.Common.{◌≡◌, ◌∙◌, ap, sym, List, ◌∷◌, ◌++◌, map}
use Rattle.std.specs.List.{flat_map}
use Rattle.dy_syntax.specs.declared.declarations.Decl.{Decl}
use Rattle.dy_syntax.specs.declared.declarations.Field.{Field}
use Rattle.dy_syntax.specs.Declarations as d
use Rattle.dy_syntax.specs.Meaning.{id_of, field_of, atom_of, case_of, decl_of, file_of}
use Rattle.dy_syntax.specs.MirrorMeaning.{least_of, scope_of}
use Rattle.dy_syntax.specs.MirrorFaults.{note_parts}
use Rattle.dy_syntax.specs.Scopes.{case_scope, field_names}
use Rattle.dy_syntax.specs.Parts.{OfCase, Bound, parts_of_type, parts_of_atom}
use Rattle.dy_syntax.proofs.Noted.{note_within}
use Rattle.dy_syntax.proofs.places.declarations.note_case.Goals as goal

pub returns : goal.returns
returns c =
    let file = file_of c.args.file.now in
    let case = c.args.case.now in
    let least = least_of c.args.least.now in
    let rest = flat_map (λ (f : d.Field). parts_of_type f.kind) (map field_of case.fields) ++ flat_map parts_of_atom (map atom_of case.requires_) in
    let scope = case_scope (map decl_of c.args.file.now.decls) (case_of case) in
    let scoped : scope_of c.in_ok-scope.scope ≡ scope = c.in_ok-scope.ensures ∙ ap (λ (ds : List Decl). case_scope (map decl_of ds) (case_of case)) c.as_slice.ensures in
    let named : map id_of c.as_slice-3.result.now ≡ field_names (map field_of case.fields) =
    ap (map id_of) c.as_slice-3.ensures ∙ c.in_ok-names.ensures ∙ ap (λ (fs : List Field). field_names (map field_of fs)) c.as_slice-2.ensures in
    c.note_case_within.ensures
    ∙ ap (λ s. note_parts file s (OfCase (case_of case) ∷ Bound (map id_of c.as_slice-3.result.now) ∷ rest) least) scoped
    ∙ ap (λ ids. note_parts file scope (OfCase (case_of case) ∷ Bound ids ∷ rest) least) named
    ∙ sym (note_within file scope (OfCase (case_of case) ∷ Bound (field_names (map field_of case.fields)) ∷ rest) least)
