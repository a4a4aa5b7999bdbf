-- The kinds and texts of tokens, wherever they stand, and those of a part's canonical text.
use Rattle.std.specs.Prelude.{◌≡◌, ℕ, ◌+◌, Bool, true, false, ◌&&◌, List, [], ◌∷◌, ◌++◌, map, Some, None, option_map, if◌then◌else◌}
use Rattle.std.specs.List.{flat_map}
use Rattle.std.specs.Str.{bytes_eq}
use Rattle.std.specs.Fmt.{decimal}
use Rattle.dy_term.specs.Characters.{in_quotes}
use Rattle.dy_lex.specs.declared.tokens.TokenKind.{TokenKind}
use Rattle.dy_lex.specs.declared.tokens.TokenKind.TheVariants.{Word, Number, Text, Symbol}
use Rattle.dy_lex.specs.Symbols.{IsToken}
use Rattle.dy_lex.specs.Tokens.{Piece}
use Rattle.dy_grammar.specs.Terminals.{Terminal, This, AName, AText, ANumber, TokenValue}
use Rattle.dy_grammar.specs.Tables.{silent, token, part, Values}
use Rattle.dy_grammar.specs.Parts.{Item, AnId, ANm, AKind, AUse, AnAtom, AFieldType, AField, ARow, AParam, APartner, APattern, ALabel, AStatement, ADecl, ARound, AStep, AnAction, AnInner, AnExpr, ARecipe, ItemValue, Part, AFile, Decls, TableEnd, LastingOpen, OnArgs, RecvOpen, StartEnd, MsgEnd, One, ManyTo, Commas, MoreTo, ListEnd, MaybeListed, PartValue}
use Rattle.dy_grammar.specs.Grammar.{Syms, closing, listing, end_of_input}
use Rattle.dy_show.specs.declared.spacing.Stand.TheVariants.{Near}
use Rattle.dy_show.specs.Spacing.{Lexeme}
use Rattle.dy_show.specs.Canonical as c
use Rattle.dy_show.specs.MirrorPages.{tokens_of}
use Rattle.dy_show.specs.Readings.{fits_kind}
use Rattle.dy_syntax.specs.SameFiles as b

pub record Shape : Type 0 where
  pub kind : TokenKind
  pub text : List ℕ

abbrev pub shape_of : Lexeme → Shape
shape_of x = record { kind = x.kind; text = x.text }

abbrev pub piece_shape : Piece → Shape
piece_shape t = record { kind = t.kind; text = t.text }

-- ---- what a rule asks for

abbrev pub silent_shape : Terminal → Shape
silent_shape (This kind text) = record { kind = kind; text = text }
silent_shape AName = record { kind = Symbol; text = [] }
silent_shape AText = record { kind = Symbol; text = [] }
silent_shape ANumber = record { kind = Symbol; text = [] }

abbrev pub value_shape : (x : Terminal) → TokenValue x → Shape
value_shape (This kind text) line = record { kind = kind; text = text }
value_shape AName id = record { kind = Word; text = id.word }
value_shape AText quote = record { kind = Text; text = in_quotes quote.text }
value_shape ANumber n = record { kind = Number; text = decimal n }

abbrev pub bare_value : (x : Terminal) → TokenValue x → TokenValue x
bare_value (This kind text) line = 0
bare_value AName id = b.bare_id id
bare_value AText quote = b.bare_quote quote
bare_value ANumber n = n

-- ---- parts

abbrev pub the_end : Lexeme
the_end = record { stand = Near; kind = Symbol; text = end_of_input }

abbrev pub lexemes : (p : Part) → PartValue p → List Lexeme
lexemes AFile v = c.file v ++ the_end ∷ []
lexemes Decls v = (flat_map c.decl v.0 ++ c.rounds v.1.rounds) ++ the_end ∷ []
lexemes TableEnd v = c.table v
lexemes LastingOpen v = c.lasting_open v
lexemes OnArgs v = c.on_args v
lexemes RecvOpen v = c.recv_open v
lexemes StartEnd v = c.start_end v.0 v.1
lexemes MsgEnd v = c.msg_end v
lexemes (One x) v = tokens_of x v
lexemes (ManyTo x) vs = c.many_to c.right_brace (tokens_of x) vs
lexemes (Commas x) vs = c.commas (tokens_of x) vs
lexemes (MoreTo end x) vs = c.more_to (c.mark (closing end)) (tokens_of x) vs
lexemes (ListEnd w x) vs = c.list_end (listing w) (tokens_of x) vs
lexemes (MaybeListed x) None = []
lexemes (MaybeListed x) (Some vs) = c.left_paren ∷ c.commas (tokens_of x) vs

abbrev pub part_shapes : (p : Part) → PartValue p → List Shape
part_shapes p v = map shape_of (lexemes p v)

abbrev pub shown_item : (x : Item) → ItemValue x → List Shape
shown_item x v = map shape_of (tokens_of x v)

abbrev pub bare_item : (x : Item) → ItemValue x → ItemValue x
bare_item AnId v = b.bare_id v
bare_item ANm v = b.bare_nm v
bare_item AKind v = (v.0, 0)
bare_item AUse v = b.bare_use v
bare_item AnAtom v = b.bare_atom v
bare_item AFieldType v = (b.bare_type v.0, 0)
bare_item AField v = b.bare_field v
bare_item ARow v = b.bare_row v
bare_item AParam v = b.bare_param v
bare_item APartner v = b.bare_partner v
bare_item APattern v = b.bare_pattern v
bare_item ALabel v = b.bare_label v
bare_item AStatement v = b.bare_statement v
bare_item ADecl v = b.bare_decl v
bare_item ARound v = b.bare_round v
bare_item AStep v = b.bare_step v
bare_item AnAction v = b.bare_action v
bare_item (AnInner level) v = b.bare_label v
bare_item (AnExpr level) v = b.bare_expr v
bare_item (ARecipe level) v = b.bare_recipe v

abbrev pub bare : (p : Part) → PartValue p → PartValue p
bare AFile v = b.bare_file v
bare Decls v = (map b.bare_decl v.0, b.bare_plan v.1)
bare TableEnd v = map b.bare_row v
bare LastingOpen v = v
bare OnArgs v = option_map b.bare_on_part v
bare RecvOpen v = option_map b.bare_id v
bare StartEnd v = (option_map b.bare_on_step v.0, option_map b.bare_numbered v.1)
bare MsgEnd v = option_map b.bare_numbered v
bare (One x) v = bare_item x v
bare (ManyTo x) vs = map (bare_item x) vs
bare (Commas x) vs = map (bare_item x) vs
bare (MoreTo end x) vs = map (bare_item x) vs
bare (ListEnd w x) vs = map (bare_item x) vs
bare (MaybeListed x) v = option_map (map (bare_item x)) v

-- ---- what follows the first token of a rule

abbrev pub all_shown : (ss : Syms) → Values PartValue ss → List Shape
all_shown [] vs = []
all_shown (silent x ∷ ss) vs = silent_shape x ∷ all_shown ss vs
all_shown (token x ∷ ss) vs = value_shape x vs.0 ∷ all_shown ss vs.1
all_shown (part p ∷ ss) vs = part_shapes p vs.0 ++ all_shown ss vs.1

abbrev pub bare_values : (ss : Syms) → Values PartValue ss → Values PartValue ss
bare_values [] vs = tt
bare_values (silent x ∷ ss) vs = bare_values ss vs
bare_values (token x ∷ ss) vs = (bare_value x vs.0, bare_values ss vs.1)
bare_values (part p ∷ ss) vs = (bare p vs.0, bare_values ss vs.1)

-- nothing is silent but this very token
abbrev pub is_this : Terminal → Bool
is_this (This kind text) = true
is_this AName = false
is_this AText = false
is_this ANumber = false

abbrev pub are_this : Syms → Bool
are_this [] = true
are_this (silent x ∷ ss) = is_this x && are_this ss
are_this (token x ∷ ss) = are_this ss
are_this (part p ∷ ss) = are_this ss

-- ---- tokens, and the end

abbrev pub is_symbol_kind : TokenKind → Bool
is_symbol_kind Symbol = true
is_symbol_kind _ = false

abbrev pub is_end : Shape → Bool
is_end s = is_symbol_kind s.kind && bytes_eq s.text end_of_input

-- how many ends stand among them
abbrev pub one_if : Bool → ℕ
one_if b = if b then 1 else 0

abbrev pub ends : List Shape → ℕ
ends [] = 0
ends (s ∷ ss) = one_if (is_end s) + ends ss

-- a token that is not too long, or the end
pub record IsLawful (s : Shape) : Type 0 where
  pub is_token : (is_end s ≡ false) → IsToken s.kind s.text
  pub short : fits_kind s.kind s.text ≡ true

abbrev pub AreLawful : List Shape → Type 0
AreLawful [] = Unit {0}
AreLawful (s ∷ ss) = IsLawful s × AreLawful ss

-- how many ends a rule asks for
abbrev pub silent_ends : Syms → ℕ
silent_ends [] = 0
silent_ends (silent x ∷ ss) = one_if (is_end (silent_shape x)) + silent_ends ss
silent_ends (token x ∷ ss) = silent_ends ss
silent_ends (part p ∷ ss) = silent_ends ss
