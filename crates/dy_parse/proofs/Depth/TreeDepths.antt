-- Where no limit of nesting is broken, nothing in a file's tree is past the last level.
use Rattle.std.proofs.Common.{◌≡◌, sym, subst, refl, ℕ, true, List, [], ◌∷◌, ◌++◌}
use Rattle.std.specs.List.{flat_map}
use Rattle.std.proofs.lemmas.Bool.{and_from}
use Rattle.dy_lex.specs.Tokens.{Piece}
use Rattle.dy_syntax.specs.Files.{File}
use Rattle.dy_grammar.specs.Terminals.{token_value}
use Rattle.dy_grammar.specs.Tables.{part}
use Rattle.dy_grammar.specs.Parts.{Item, ADecl, AnInner, AnExpr, ARecipe, ItemValue, Parenthesis, Part, AFile, Decls, TableEnd, LastingOpen, OnArgs, RecvOpen, StartEnd, MsgEnd, One, ManyTo, Commas, MoreTo, ListEnd, MaybeListed, PartValue}
use Rattle.dy_grammar.specs.Grammar.{Syms, rules, item_rules}
use Rattle.dy_grammar.specs.Trees.{Tree, Trees, node, absent, none, leaf, keep, tree, value, values}
use Rattle.dy_grammar.specs.Levels.{item_is_within, is_within, is_shallow, are_shallow}
use Rattle.dy_grammar.specs.Files.{IsFile}
use Rattle.dy_parse.specs.declared.errors.LimitName.TheVariants.{Nesting}
use Rattle.dy_parse.specs.Limits as limits
use Rattle.dy_parse.specs.Limits.{Excess, FileBreaks}
use Rattle.dy_parse.proofs.Depth.Depths.{NoneDeep, of_left, of_right, none_both, plain, plain_list, has_level, excess_of, excess_of_part, NoneIn, AllPass, among_passes, all_grown}
use Rattle.dy_parse.proofs.Depth.RuleDepths.{items_pass}

-- ---- parts

abbrev PartPasses : Part → Type 0
PartPasses p = AllPass (PartValue p) (excess_of_part p) (rules p)

-- a declaration, others, and a plan
decl_free : (first later plan : List Excess) → NoneDeep (first ++ later ++ plan) → NoneDeep first × (NoneDeep (later ++ plan) × Unit {0})
decl_free first later plan free =
    let decls = of_left (first ++ later) plan free in
    (of_left first later decls, (none_both later plan (of_right first later decls) (of_right (first ++ later) plan free), tt))

-- declarations and the steps of a plan, among the other lists of a file
file_free : (lists decls plan_lists steps : List Excess) → NoneDeep (lists ++ decls ++ (plan_lists ++ steps)) → NoneDeep (decls ++ steps)
file_free lists decls plan_lists steps free =
    none_both decls steps (of_right lists decls (of_left (lists ++ decls) (plan_lists ++ steps) free))
    (of_right plan_lists steps (of_right (lists ++ decls) (plan_lists ++ steps) free))

decls_pass : PartPasses Decls
unfolding rules
decls_pass = (
  λ k vs free. tt,
  (
    λ k vs free. (free, tt),
    all_grown (ItemValue ADecl) (PartValue Decls) (excess_of ADecl) (excess_of_part Decls) (part Decls ∷ []) (λ decl ds. (decl ∷ ds.0, ds.1))
        (λ decl ws free. decl_free (limits.excess_in_decl decl) (flat_map limits.excess_in_decl ws.0.0) (excess_of_part Decls ([], ws.0.1)) free)
        (item_rules ADecl) (items_pass ADecl),
  ),
)

parts_pass : (p : Part) → PartPasses p
unfolding rules
parts_pass AFile = (λ k vs free. (file_free _ (flat_map limits.excess_in_decl vs.0.0) _ (excess_of_part Decls ([], vs.0.1)) free, tt), tt)
parts_pass Decls = decls_pass
parts_pass TableEnd = (λ k vs free. tt, (λ k vs free. (plain_list vs.0, tt), tt))
parts_pass LastingOpen = (λ k vs free. tt, (λ k vs free. tt, tt))
parts_pass OnArgs = (λ k vs free. tt, (λ k vs free. (plain_list vs.1.0, tt), tt))
parts_pass RecvOpen = (λ k vs free. tt, (λ k vs free. tt, tt))
parts_pass StartEnd = (λ k vs free. tt, (λ k vs free. (plain, tt), (λ k vs free. tt, tt)))
parts_pass MsgEnd = (λ k vs free. tt, (λ k vs free. tt, tt))
parts_pass (One x) = items_pass x
parts_pass (ManyTo x) = (
  λ k vs free. tt,
  all_grown (ItemValue x) (PartValue (ManyTo x)) (excess_of x) (excess_of_part (ManyTo x)) (part (ManyTo x) ∷ []) (λ v vs. v ∷ vs)
      (λ v ws free. (of_left _ _ free, (of_right _ _ free, tt))) (item_rules x) (items_pass x),
)
parts_pass (Commas x) = (
  λ k vs free. tt,
  all_grown (ItemValue x) (PartValue (Commas x)) (excess_of x) (excess_of_part (Commas x)) (part (MoreTo Parenthesis x) ∷ []) (λ v vs. v ∷ vs)
      (λ v ws free. (of_left _ _ free, (of_right _ _ free, tt))) (item_rules x) (items_pass x),
)
parts_pass (MoreTo end x) = (λ k vs free. tt, (λ k vs free. (of_left _ _ free, (of_right _ _ free, tt)), tt))
parts_pass (ListEnd w x) = (λ k vs free. tt, (λ k vs free. (of_left _ _ free, (of_right _ _ free, tt)), tt))
parts_pass (MaybeListed x) = (λ k vs free. (free, tt), tt)

-- ---- trees

item_within : (x : Item) (v : ItemValue x) → NoneDeep (excess_of x v) → item_is_within x ≡ true
item_within (AnInner level) v free = has_level level _ _ free
item_within (AnExpr level) v free = has_level level _ _ free
item_within (ARecipe level) v free = has_level level _ _ free
item_within _ v free = refl

part_within : (p : Part) (v : PartValue p) → NoneDeep (excess_of_part p v) → is_within p v ≡ true
part_within (One x) v free = item_within x v free
part_within (ManyTo x) [] free = refl
part_within (ManyTo x) (v ∷ vs) free = item_within x v (of_left _ _ free)
part_within (Commas x) [] free = refl
part_within (Commas x) (v ∷ vs) free = item_within x v (of_left _ _ free)
part_within _ v free = refl

mutual
  shallow : {p : Part} (x : Tree p) → NoneDeep (excess_of_part p (value x)) → is_shallow x ≡ true
  shallow {p} (node rule is_rule t fits ts) free =
      and_from (is_within p (value (node rule is_rule t fits ts))) (are_shallow ts) (part_within p (value (node rule is_rule t fits ts)) free)
      (all_shallow ts (among_passes (PartValue p) (excess_of_part p) (rules p) rule is_rule (parts_pass p) (token_value rule.first t) (values ts) free))
  shallow (absent v out) free = refl

  all_shallow : {ss : Syms} (ts : Trees ss) → NoneIn ss (values ts) → are_shallow ts ≡ true
  all_shallow none free = refl
  all_shallow (leaf t fits ts) free = all_shallow ts free
  all_shallow (keep t fits ts) free = all_shallow ts free
  all_shallow (tree x ts) free = and_from (is_shallow x) (are_shallow ts) (shallow x free.0) (all_shallow ts free.1)

pub file_is_shallow : (file : File) (tokens : List Piece) (is_file : IsFile file tokens)
    → ((line : ℕ) → FileBreaks Nesting line file → ⊥) → is_shallow is_file.tree ≡ true
file_is_shallow file tokens is_file free =
    shallow is_file.tree (record { never = λ line deep. free line (subst (λ (x : File). FileBreaks Nesting line x) (sym is_file.value_is) deep) })
