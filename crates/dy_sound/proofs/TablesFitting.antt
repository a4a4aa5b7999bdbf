-- In a well-formed file a table stands on a usage of kind kdf, and each row says the kind of the usage that it names.
use Rattle.std.proofs.Common.{◌≡◌, ℕ, Bool, true, false, not, ◌&&◌, List, [], ◌∷◌, map, length, Contains, Option, Some, inl, inr, refl, sym, ap, subst, ◌∙◌, arith}
use Rattle.std.specs.Prelude.{◌==◌}
use Rattle.std.specs.Option.{option_map_or}
use Rattle.std.specs.Str.{bytes_eq}
use Rattle.std.proofs.lemmas.Bool.{eqb-true}
use Rattle.dy_label.specs.declared.usages.Kind.TheVariants as kinds
use Rattle.dy_syntax.specs.Names.{KindText, Nonce, Pke, Sig, Aead, Mac, Kdf}
use Rattle.dy_syntax.specs.Declarations.{Row, UsageDecl}
use Rattle.dy_syntax.specs.Files.{Usage, File}
use Rattle.dy_syntax.specs.LookUps.{usage_named}
use Rattle.dy_syntax.specs.Scopes.{no_scope}
use Rattle.dy_syntax.specs.Parts.{Part, Bound, OfUsage, OfRow}
use Rattle.dy_syntax.specs.Places.{Place}
use Rattle.dy_syntax.specs.Rules.{IsIn, IsWellFormed}
use Rattle.dy_syntax.specs.Rules.Lines.{lines_if}
use Rattle.dy_syntax.specs.Rules.Kinds.{is_kind, lines_of_row_kind, lines_of_row_params}
use Rattle.dy_cases.specs.DeclaredParts.{row_for, row_named}
use Rattle.dy_cases.specs.Derived.{kind_named}
use Rattle.dy_eval.specs.Lines.{kind_of_usage}
use Rattle.dy_sound.specs.DerivedKeys.{TablesFit}
use Rattle.dy_sound.proofs.Lists.{Contains-none}
use Rattle.dy_sound.proofs.StatementParts.{IsIn-map, IsIn-from}
use Rattle.dy_sound.proofs.NoFaults.{HasNoFault, no_fault, of_decl}
use Rattle.dy_sound.proofs.MatchesAt.{find_passes}
use Rattle.dy_sound.proofs.NamesAt.{passes_where_no_line}
use Rattle.dy_sound.proofs.ItemsPut.{and_then_is}
use Rattle.dy_sound.proofs.DeclaredScopes.{usage_is_declared}
use Rattle.dy_sound.proofs.CasesAt.{found_where_no_line, rule_of_found}
use Rattle.dy_sound.proofs.GivenPatterns.{both_none}

same_kind : (a b : KindText) → is_kind a b ≡ true → a ≡ b
same_kind Nonce Nonce is = refl
same_kind Pke Pke is = refl
same_kind Sig Sig is = refl
same_kind Aead Aead is = refl
same_kind Mac Mac is = refl
same_kind Kdf Kdf is = refl
same_kind a b is = absurd cc

-- a list that has something is not empty
not_empty : (rows : List Row) (row : Row) → Contains rows row → (length rows == 0) ≡ false
not_empty [] row stands = absurd (Contains-none row stands)
not_empty (first ∷ rows) row stands = tested (length (first ∷ rows) == 0) refl where
  tested : (b : Bool) → (length (first ∷ rows) == 0) ≡ b → b ≡ false
  tested true same = let none = eqb-true (length (first ∷ rows)) 0 same in absurd (omega (arith, none))
  tested false same = refl

module _ (file : File) (well_formed : IsWellFormed file) (usage text : List ℕ) (row : Row) (is : row_named file.decls usage text ≡ Some row) where
  found : (declared : UsageDecl) × (usage_named file.decls usage ≡ Some declared) × (row_for declared text ≡ Some row)
  found = and_then_is (λ declared. row_for declared text) (usage_named file.decls usage) row is

  abbrev declared : UsageDecl
  declared = found.0

  has_row : Contains declared.rows row
  has_row = (find_passes (λ (r : Row). bytes_eq r.text.text text) declared.rows row found.2).0

  keeps : (part : Part) → IsIn part (OfUsage declared ∷ Bound declared.params ∷ map (OfRow declared) declared.rows) → HasNoFault file (record { scope = no_scope; part = part })
  keeps part h =
      no_fault file well_formed (record { scope = no_scope; part = part })
      (of_decl file (Usage declared) (record { scope = no_scope; part = part }) (usage_is_declared file.decls usage declared found.1)
      (IsIn-map {B = Place} (λ (p : Part). record { scope = no_scope; part = p }) part (OfUsage declared ∷ Bound declared.params ∷ map (OfRow declared) declared.rows) h))

  table_is_of_kdf : kind_of_usage file.decls usage ≡ kinds.Kdf
  table_is_of_kdf =
      let rule = (keeps (OfUsage declared) (inl refl)).rule_4 in
      let some_row = not_empty declared.rows row has_row in
      let of_kdf : is_kind Kdf declared.kind ≡ true = passes_where_no_line (is_kind Kdf declared.kind) declared.kind_line
      (subst (λ (b : Bool). lines_if (not b && not (is_kind Kdf declared.kind)) declared.kind_line ≡ []) some_row rule) in
      ap (λ (u : Option UsageDecl). option_map_or (λ d. kind_named d.kind) u kinds.Nonce) found.1
      ∙ ap kind_named (sym (same_kind Kdf declared.kind of_kdf))

  row_says_kind : kind_named row.kind ≡ kind_of_usage file.decls row.usage.word
  row_says_kind =
      let kept = keeps (OfRow declared row) (inr (inr (IsIn-map (OfRow declared) row declared.rows (IsIn-from row declared.rows has_row)))) in
      let of_row = found_where_no_line (usage_named file.decls row.usage.word) row.usage.line kept.rule_2 in
      let kind_rule = (both_none (lines_of_row_kind file.decls row) (lines_of_row_params file.decls declared row) kept.rule_4).0 in
      let same : is_kind row.kind of_row.0.kind ≡ true = passes_where_no_line (is_kind row.kind of_row.0.kind) row.kind_line
      (rule_of_found (λ (d : UsageDecl). lines_if (not (is_kind row.kind d.kind)) row.kind_line) (usage_named file.decls row.usage.word) of_row.0 of_row.1 kind_rule) in
      ap kind_named (same_kind row.kind of_row.0.kind same)
      ∙ sym (ap (λ (u : Option UsageDecl). option_map_or (λ d. kind_named d.kind) u kinds.Nonce) of_row.1)

-- The tables of a well-formed file fit.
pub tables_fit : (file : File) → IsWellFormed file → TablesFit file.decls
tables_fit file well_formed = record {
  are_of_kdf = λ usage text row is. table_is_of_kdf file well_formed usage text row is;
  rows_say_kinds = λ usage text row is. row_says_kind file well_formed usage text row is;
}
