-- Each part has a text, so what was read so far can always be completed.
use Rattle.std.proofs.Common.{◌≡◌, ℕ, true, List, [], ◌∷◌, refl, inl}
use Rattle.std.specs.Prelude.{codes}
use Rattle.std.proofs.lemmas.Bool.{and_from}
use Rattle.std.proofs.lemmas.Slice.Eq.{bytes_eq-Decides}
use Rattle.dy_lex.specs.declared.tokens.TokenKind.TheVariants.{Word, Number, Text}
use Rattle.dy_lex.specs.Tokens.{Piece}
use Rattle.dy_grammar.specs.Words.{is_reserved}
use Rattle.dy_grammar.specs.Terminals.{Terminal, This, AName, AText, ANumber, accepts}
use Rattle.dy_grammar.specs.Tables.{silent, token, part}
use Rattle.dy_grammar.specs.Parts.{Item, AnId, ANm, AKind, AUse, AnAtom, AFieldType, AField, ARow, AParam, APartner, APattern, ALabel, AStatement, ADecl, ARound, AStep, AnAction, AnInner, AnExpr, ARecipe, Part, AFile, Decls, TableEnd, LastingOpen, OnArgs, RecvOpen, StartEnd, MsgEnd, One, ManyTo, Commas, MoreTo, ListEnd, MaybeListed, PartValue}
use Rattle.dy_grammar.specs.Grammar.{Syms, RuleOf, item_rules, rules}
use Rattle.dy_grammar.specs.Trees.{Tree, Trees, node, absent, none, leaf, keep, tree}
use Rattle.dy_grammar.proofs.Apart.{same_kind-refl}

-- a token that is asked for
abbrev sample : Terminal → Piece
sample (This kind text) = record { kind = kind; text = text; at = 0; line = 1 }
sample AName = record { kind = Word; text = codes "a"; at = 0; line = 1 }
sample AText = record { kind = Text; text = 34 ∷ 34 ∷ []; at = 0; line = 1 }
sample ANumber = record { kind = Number; text = codes "0"; at = 0; line = 1 }

sample_fits : (x : Terminal) → accepts x (sample x) ≡ true
unfolding is_reserved
sample_fits (This kind text) = and_from _ _ (same_kind-refl kind) ((bytes_eq-Decides text text).1 refl)
sample_fits AName = refl
sample_fits AText = refl
sample_fits ANumber = refl

-- a tree for each part
abbrev Grown : Syms → Type 0
Grown [] = Unit {0}
Grown (silent x ∷ ss) = Grown ss
Grown (token x ∷ ss) = Grown ss
Grown (part p ∷ ss) = Tree p × Grown ss

grow : (ss : Syms) → Grown ss → Trees ss
grow [] parts = none
grow (silent x ∷ ss) parts = leaf (sample x) (sample_fits x) (grow ss parts)
grow (token x ∷ ss) parts = keep (sample x) (sample_fits x) (grow ss parts)
grow (part p ∷ ss) parts = tree parts.0 (grow ss parts.1)

-- by the first rule of the part
plant : (p : Part) (r : RuleOf (PartValue p)) (rs : List (RuleOf (PartValue p))) → rules p ≡ r ∷ rs → Grown r.more → Tree p
plant p r rs first parts = node r (rw first (inl refl)) (sample r.first) (sample_fits r.first) (grow r.more parts)

commas : (x : Item) → Tree (Commas x)
unfolding rules
commas x = plant (Commas x) _ _ refl tt

inner : (level : ℕ) → Tree (One (AnInner level))
unfolding rules item_rules
inner level = plant (One (AnInner level)) _ _ refl tt

use_ : Tree (One AUse)
unfolding rules item_rules
use_ = plant (One AUse) _ _ refl (commas ANm, tt)

kind : Tree (One AKind)
unfolding rules item_rules
kind = plant (One AKind) _ _ refl tt

table_end : Tree TableEnd
unfolding rules
table_end = plant TableEnd _ _ refl tt

field_type : Tree (One AFieldType)
unfolding rules item_rules
field_type = plant (One AFieldType) _ _ refl tt

label : Tree (One ALabel)
unfolding rules item_rules
label = plant (One ALabel) _ _ refl tt

steps : Tree (ManyTo AStep)
unfolding rules
steps = plant (ManyTo AStep) _ _ refl tt

action : Tree (One AnAction)
unfolding rules item_rules
action = plant (One AnAction) _ _ refl tt

decls : Tree Decls
unfolding rules
decls = plant Decls _ _ refl tt

pub shortest : (p : Part) → Tree p
unfolding rules item_rules
shortest AFile = plant AFile _ _ refl (decls, tt)
shortest Decls = decls
shortest TableEnd = table_end
shortest LastingOpen = plant LastingOpen _ _ refl tt
shortest OnArgs = plant OnArgs _ _ refl tt
shortest RecvOpen = plant RecvOpen _ _ refl tt
shortest StartEnd = plant StartEnd _ _ refl tt
shortest MsgEnd = plant MsgEnd _ _ refl tt
shortest (One AnId) = plant (One AnId) _ _ refl tt
shortest (One ANm) = plant (One ANm) _ _ refl tt
shortest (One AKind) = kind
shortest (One AUse) = use_
shortest (One AnAtom) = plant (One AnAtom) _ _ refl (commas ANm, tt)
shortest (One AFieldType) = field_type
shortest (One AField) = plant (One AField) _ _ refl (field_type, tt)
shortest (One ARow) = plant (One ARow) _ _ refl (kind, tt)
shortest (One AParam) = plant (One AParam) _ _ refl tt
shortest (One APartner) = plant (One APartner) _ _ refl (commas ANm, (inner 1, tt))
shortest (One APattern) = plant (One APattern) _ _ refl tt
shortest (One ALabel) = label
shortest (One AStatement) = plant (One AStatement) _ _ refl (use_, (label, tt))
shortest (One ADecl) = plant (One ADecl) _ _ refl (kind, (commas AnId, (table_end, tt)))
shortest (One ARound) = plant (One ARound) _ _ refl (steps, tt)
shortest (One AStep) = plant (One AStep) _ _ refl (action, tt)
shortest (One AnAction) = action
shortest (One (AnInner level)) = inner level
shortest (One (AnExpr level)) = plant (One (AnExpr level)) _ _ refl tt
shortest (One (ARecipe level)) = plant (One (ARecipe level)) _ _ refl tt
shortest (ManyTo x) = plant (ManyTo x) _ _ refl tt
shortest (Commas x) = commas x
shortest (MoreTo end x) = plant (MoreTo end x) _ _ refl tt
shortest (ListEnd w x) = plant (ListEnd w x) _ _ refl tt
shortest (MaybeListed x) = absent _ refl

pub all_shortest : (ss : Syms) → Trees ss
all_shortest [] = none
all_shortest (silent x ∷ ss) = leaf (sample x) (sample_fits x) (all_shortest ss)
all_shortest (token x ∷ ss) = keep (sample x) (sample_fits x) (all_shortest ss)
all_shortest (part p ∷ ss) = tree (shortest p) (all_shortest ss)
