-- Each rule of a part makes a value whose canonical text has the tokens that the rule asks for. An empty table and a
-- plan of no rounds are left out.
use Rattle.std.proofs.Common.{◌≡◌, ℕ, true, List, [], ◌∷◌, ◌++◌, map, refl, sym, ap, append_assoc, inl, inr, arith}
use Rattle.std.specs.Prelude.{codes, ◌⊎◌}
use Rattle.std.specs.Fmt.{digits}
use Rattle.std.proofs.lemmas.List.{map-append, append-nil}
use Rattle.dy_lex.specs.declared.tokens.TokenKind.TheVariants.{Word, Number, Symbol}
use Rattle.dy_lex.specs.Tokens.{Piece}
use Rattle.dy_syntax.specs.Declarations.{Row}
use Rattle.dy_syntax.specs.Plans.{Round}
use Rattle.dy_grammar.specs.Terminals.{This, accepts}
use Rattle.dy_grammar.specs.Parts.{Item, ADecl, ARow, ARound, ItemValue, Parenthesis, Part, AFile, Decls, TableEnd, LastingOpen, OnArgs, RecvOpen, StartEnd, MsgEnd, One, ManyTo, Commas, MoreTo, ListEnd, MaybeListed, PartValue}
use Rattle.dy_grammar.specs.Tables.{part}
use Rattle.dy_grammar.specs.Grammar.{item_rules, rules, end_of_input}
use Rattle.dy_grammar.specs.Trees.{node, none}
use Rattle.dy_grammar.specs.Levels.{is_within, item_is_within}
use Rattle.dy_show.specs.Canonical as c
use Rattle.dy_show.specs.Shapes.{Shape, piece_shape, part_shapes, bare, shown_item, bare_item}
use Rattle.dy_show.proofs.TokenValues.{accepts_same}
use Rattle.dy_show.proofs.Fitting.{all_grown, Told, IsOther, PartRules, fits_part, fit_part}
use Rattle.dy_show.proofs.ItemRules.{items_fit}

-- ---- what is left out

abbrev symbol_shape : List ℕ → Shape
symbol_shape text = record { kind = Symbol; text = text }

accepts_symbol : (text : List ℕ) (t : Piece) → accepts (This Symbol text) (record { kind = Symbol; text = text; at = 0; line = 0 }) ≡ true → piece_shape t ≡ symbol_shape text → accepts (This Symbol text) t ≡ true
accepts_symbol text t fits same = accepts_same (This Symbol text) (record { kind = Symbol; text = text; at = 0; line = 0 }) t same fits

no_table : (ts : List Piece) → map piece_shape ts ≡ symbol_shape (codes ";") ∷ [] → Told TableEnd [] ts
unfolding rules
no_table [] same = absurd (cc)
no_table (t ∷ []) same = record { tree = node _ (inl refl) t (accepts_symbol (codes ";") t refl (let e : piece_shape t ≡ symbol_shape (codes ";") = cc in e)) none; spelled = refl; same = refl; shallow = refl }
no_table (t ∷ u ∷ ts) same = absurd (cc)

no_plan : (ts : List Piece) → map piece_shape ts ≡ symbol_shape end_of_input ∷ [] → Told Decls ([], record { rounds = [] }) ts
unfolding rules
no_plan [] same = absurd (cc)
no_plan (t ∷ []) same = record { tree = node _ (inl refl) t (accepts_symbol end_of_input t refl (let e : piece_shape t ≡ symbol_shape end_of_input = cc in e)) none; spelled = refl; same = refl; shallow = refl }
no_plan (t ∷ u ∷ ts) same = absurd (cc)

table_shows : (rows : List Row) → (part_shapes TableEnd rows ≡ symbol_shape (codes "{") ∷ (part_shapes (ManyTo ARow) rows ++ symbol_shape (codes ";") ∷ [])) ⊎ IsOther TableEnd rows 0
unfolding c.table
table_shows [] = inr (record { lawful = (record { is_token = λ e. refl; short = refl }, tt); few = omega arith; told = no_table })
table_shows (x ∷ rows) = inl (ap (λ (xs : List Shape). symbol_shape (codes "{") ∷ xs) (map-append _ (c.many_to c.right_brace c.row (x ∷ rows)) (c.semicolon ∷ [])))

plan_shows : (rounds : List Round) → (part_shapes Decls ([], record { rounds = rounds }) ≡ record { kind = Word; text = codes "plan" } ∷ symbol_shape (codes "{") ∷ (part_shapes (ManyTo ARound) rounds ++ symbol_shape end_of_input ∷ [])) ⊎ IsOther Decls ([], record { rounds = rounds }) 1
unfolding c.rounds
plan_shows [] = inr (record { lawful = (record { is_token = λ e. absurd (cc); short = refl }, tt); few = omega arith; told = no_plan })
plan_shows (x ∷ rounds) = inl (simp map-append)

-- ---- parts

many_fit : (x : Item) → PartRules (ManyTo x) (rules (ManyTo x))
unfolding rules
many_fit x = (
  fits_part (ManyTo x) _ (record { plain = refl; shows = λ k vs fine. refl; respects = λ k vs. refl }),
  fit_part (ManyTo x) _ (all_grown (ItemValue x) (PartValue (ManyTo x)) (shown_item x) (bare_item x) (λ v. item_is_within x) (part_shapes (ManyTo x)) (bare (ManyTo x)) (is_within (ManyTo x))
      (part (ManyTo x) ∷ []) (λ v vs. v ∷ vs) (record {
        plain = refl;
        fine = λ a ws e. e;
        shows = λ a ws. simp (map-append, append-nil, append_assoc);
        respects = λ a ws. refl;
      }) (item_rules x) (items_fit x)),
)

commas_fit : (x : Item) → PartRules (Commas x) (rules (Commas x))
unfolding rules c.comma_list
commas_fit x = (
  fits_part (Commas x) _ (record { plain = refl; shows = λ k vs fine. refl; respects = λ k vs. refl }),
  fit_part (Commas x) _ (all_grown (ItemValue x) (PartValue (Commas x)) (shown_item x) (bare_item x) (λ v. item_is_within x) (part_shapes (Commas x)) (bare (Commas x)) (is_within (Commas x))
      (part (MoreTo Parenthesis x) ∷ []) (λ v vs. v ∷ vs) (record {
        plain = refl;
        fine = λ a ws e. e;
        shows = λ a ws. simp (map-append, append-nil);
        respects = λ a ws. refl;
      }) (item_rules x) (items_fit x)),
)

decls_fit : PartRules Decls (rules Decls)
unfolding rules c.rounds
decls_fit = (
  fits_part Decls _ (record { plain = refl; shows = λ k vs fine. refl; respects = λ k vs. refl }),
  (
    record { plain = refl; shows = λ k vs fine. plan_shows vs.0; respects = λ k vs. refl },
    fit_part Decls _ (all_grown (ItemValue ADecl) (PartValue Decls) (shown_item ADecl) (bare_item ADecl) (λ v. item_is_within ADecl) (part_shapes Decls) (bare Decls) (is_within Decls)
        (part Decls ∷ []) (λ decl ds. (decl ∷ ds.0, ds.1)) (record {
          plain = refl;
          fine = λ a ws e. refl;
          shows = λ a ws. simp (map-append, append-nil, append_assoc);
          respects = λ a ws. refl;
        }) (item_rules ADecl) (items_fit ADecl)),
  ),
)

file_shows : (v : PartValue Decls) → part_shapes AFile (record { version = 1; decls = v.0; plan = v.1 })
    ≡ record { kind = Word; text = codes "dystar" } ∷ record { kind = Number; text = codes "1" } ∷ (part_shapes Decls v ++ [])
unfolding digits c.file
file_shows v = ap (λ (xs : List Shape). record { kind = Word; text = codes "dystar" } ∷ record { kind = Number; text = codes "1" } ∷ xs) (sym (append-nil (part_shapes Decls v)))

pub part_rules : (p : Part) → PartRules p (rules p)
unfolding rules c.table c.on_args c.recv_open c.start_end c.msg_end c.more_to c.comma_list c.list_end
part_rules AFile = (fits_part AFile _ (record { plain = refl; shows = λ k vs fine. file_shows vs.0; respects = λ k vs. refl }), tt)
part_rules Decls = decls_fit
part_rules TableEnd = (
  fits_part TableEnd _ (record { plain = refl; shows = λ k vs fine. refl; respects = λ k vs. refl }),
  (record { plain = refl; shows = λ k vs fine. table_shows vs.0; respects = λ k vs. refl }, tt),
)
part_rules LastingOpen = (
  fits_part LastingOpen _ (record { plain = refl; shows = λ k vs fine. refl; respects = λ k vs. refl }),
  (fits_part LastingOpen _ (record { plain = refl; shows = λ k vs fine. refl; respects = λ k vs. refl }), tt),
)
part_rules OnArgs = (
  fits_part OnArgs _ (record { plain = refl; shows = λ k vs fine. refl; respects = λ k vs. refl }),
  (fits_part OnArgs _ (record { plain = refl; shows = λ k vs fine. simp map-append; respects = λ k vs. refl }), tt),
)
part_rules RecvOpen = (
  fits_part RecvOpen _ (record { plain = refl; shows = λ k vs fine. refl; respects = λ k vs. refl }),
  (fits_part RecvOpen _ (record { plain = refl; shows = λ k vs fine. refl; respects = λ k vs. refl }), tt),
)
part_rules StartEnd = (
  fits_part StartEnd _ (record { plain = refl; shows = λ k vs fine. refl; respects = λ k vs. refl }),
  (
    fits_part StartEnd _ (record { plain = refl; shows = λ k vs fine. simp append-nil; respects = λ k vs. refl }),
    (fits_part StartEnd _ (record { plain = refl; shows = λ k vs fine. refl; respects = λ k vs. refl }), tt),
  ),
)
part_rules MsgEnd = (
  fits_part MsgEnd _ (record { plain = refl; shows = λ k vs fine. refl; respects = λ k vs. refl }),
  (fits_part MsgEnd _ (record { plain = refl; shows = λ k vs fine. refl; respects = λ k vs. refl }), tt),
)
part_rules (One x) = fit_part (One x) (item_rules x) (items_fit x)
part_rules (ManyTo x) = many_fit x
part_rules (Commas x) = commas_fit x
part_rules (MoreTo end x) = (
  fits_part (MoreTo end x) _ (record { plain = refl; shows = λ k vs fine. refl; respects = λ k vs. refl }),
  (fits_part (MoreTo end x) _ (record { plain = refl; shows = λ k vs fine. simp (map-append, append-nil); respects = λ k vs. refl }), tt),
)
part_rules (ListEnd w x) = (
  fits_part (ListEnd w x) _ (record { plain = refl; shows = λ k vs fine. refl; respects = λ k vs. refl }),
  (fits_part (ListEnd w x) _ (record { plain = refl; shows = λ k vs fine. simp (map-append, append-nil); respects = λ k vs. refl }), tt),
)
part_rules (MaybeListed x) = (fits_part (MaybeListed x) _ (record { plain = refl; shows = λ k vs fine. simp append-nil; respects = λ k vs. refl }), tt)
