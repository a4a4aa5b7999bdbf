-- One declaration more.
use Rattle.std.proofs.Common.{◌≡◌, ℕ, Bool, ◌&&◌, List, [], ◌∷◌, ◌++◌, Option, Some, None, Result, Ok, Err, refl, sym, subst}
use Rattle.std.specs.Borrow.{Bor}
use Rattle.std.specs.List.{filter_map}
use Rattle.std.specs.Result.{OnOk}
use Rattle.std.specs.Str.{bytes_eq}
use Rattle.std.proofs.lemmas.Slice.Eq.{bytes_eq-Decides}
use Rattle.dy_syntax.specs.declared.declarations.CaseDecl.{CaseDecl}
use Rattle.dy_syntax.specs.Declarations as d
use Rattle.dy_syntax.specs.Files.{Decl}
use Rattle.dy_cases.specs.DeclaredParts.{case_in}
use Rattle.dy_cases.specs.MirrorTables.{with_first, FindsFirst, Lent, word_of, same_pair, pair_of, case_at, case_name, HasCases}
use Rattle.dy_cases.proofs.FirstFound.{picked_more, picked_same, FindsFirst-more}
use Rattle.dy_cases.proofs.Named.{same_pair-Decides}

pub on_ok : {T E : Type 0} (r : Result T E) {P Q : Type 0} → (P → Q) → OnOk r P → OnOk r Q
on_ok (Ok x) f h = f h
on_ok (Err e) f h = tt

-- A declaration of another kind leaves a table as it is.
pub other_kind : {N D K V : Type 0} (same : N → N → Bool) (name : K → N) (own : D → N) (view : V → D) (pick : Decl → Option D)
    (entries : List (K × V)) (decls : List Decl) (decl : Decl) → pick decl ≡ None
    → FindsFirst same name own view entries (filter_map pick decls) → FindsFirst same name own view entries (filter_map pick (decls ++ decl ∷ []))
other_kind {N} {D} same name own view pick entries decls decl none h =
    subst (λ (ds : List D). FindsFirst same name own view entries ds) (sym (picked_same pick decls decl none)) h

-- A declaration is added to the table of its kind, where none has its name.
pub this_kind : {D V : Type 0} (own : D → List ℕ) (view : V → D) (pick : Decl → Option D)
    (entries : List (Lent × V)) (decls : List Decl) (decl : Decl) (key : Lent) (value : V) → pick decl ≡ Some (view value) → key.now ≡ own (view value)
    → FindsFirst bytes_eq word_of own view entries (filter_map pick decls)
    → FindsFirst bytes_eq word_of own view (with_first (λ a b. bytes_eq a.now b.now) entries key value) (filter_map pick (decls ++ decl ∷ []))
this_kind {D} own view pick entries decls decl key value some named h =
    subst (λ (ds : List D). FindsFirst bytes_eq word_of own view (with_first (λ a b. bytes_eq a.now b.now) entries key value) ds)
    (sym (picked_more pick decls decl (view value) some))
    (FindsFirst-more bytes_eq bytes_eq-Decides (λ a b. bytes_eq a.now b.now) word_of own view (λ a b. refl) entries (filter_map pick decls) key value named h)

pub this_case : (entries : List ((Lent × Lent) × Bor CaseDecl)) (decls : List Decl) (decl : Decl) (key : Lent × Lent) (case : Bor CaseDecl)
    → case_in decl ≡ Some (case_at case) → pair_of key ≡ case_name (case_at case) → HasCases entries decls
    → HasCases (with_first (λ a b. bytes_eq a.0.now b.0.now && bytes_eq a.1.now b.1.now) entries key case) (decls ++ decl ∷ [])
this_case entries decls decl key case some named h =
    subst (λ (ds : List d.CaseDecl). FindsFirst same_pair pair_of case_name case_at (with_first (λ a b. bytes_eq a.0.now b.0.now && bytes_eq a.1.now b.1.now) entries key case) ds)
    (sym (picked_more case_in decls decl (case_at case) some))
    (FindsFirst-more same_pair same_pair-Decides (λ a b. bytes_eq a.0.now b.0.now && bytes_eq a.1.now b.1.now) pair_of case_name case_at (λ a b. refl) entries (filter_map case_in decls) key case named h)
