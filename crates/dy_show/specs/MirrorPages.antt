-- What the code has written so far.
use Rattle.std.specs.Prelude.{ℕ, Bool, true, false, List, [], ◌∷◌, ◌++◌, codes}
use Rattle.dy_grammar.specs.Parts.{Item, AnId, ANm, AKind, AUse, AnAtom, AFieldType, AField, ARow, AParam, APartner, APattern, ALabel, AStatement, ADecl, ARound, AStep, AnAction, AnInner, AnExpr, ARecipe, ItemValue}
use Rattle.dy_show.specs.declared.spacing.Ending.{Ending}
use Rattle.dy_show.specs.Spacing.{Lexeme, gap, ending_of}
use Rattle.dy_show.specs.Canonical as c
use Rattle.dy_show.specs.Canonical.{more_to, comma_list, comma, word, name, text, number, left_paren, dot, numbered_item}
use Rattle.dy_syntax.specs.Recipes as r
use Rattle.dy_syntax.specs.Recipes.{RecipeText}

-- the bytes, and what the last token asks for
pub record Page : Type 0 where
  pub bytes : List ℕ
  pub ending : Ending

-- the page with one more token
unfoldable pub put : Page → Lexeme → Page
put page x = record { bytes = page.bytes ++ (gap page.ending x ++ x.text); ending = ending_of x }

abbrev pub put_all : Page → List Lexeme → Page
put_all page [] = page
put_all page (x ∷ xs) = put_all (put page x) xs

-- the tokens of an item
abbrev pub tokens_of : (x : Item) → ItemValue x → List Lexeme
tokens_of AnId = c.id
tokens_of ANm = c.nm
tokens_of AKind = λ kind. c.kind kind.0 ∷ []
tokens_of AUse = c.use_text
tokens_of AnAtom = c.atom
tokens_of AFieldType = λ kind. c.field_type kind.0
tokens_of AField = c.field
tokens_of ARow = c.row
tokens_of AParam = c.param
tokens_of APartner = c.partner
tokens_of APattern = c.pattern_
tokens_of ALabel = c.label
tokens_of AStatement = c.statement
tokens_of ADecl = c.decl
tokens_of ARound = c.round
tokens_of AStep = c.step
tokens_of AnAction = c.action
tokens_of (AnInner level) = c.label
tokens_of (AnExpr level) = c.expr
tokens_of (ARecipe level) = c.recipe

-- a comma, but not before the first item
abbrev pub separator : Bool → List Lexeme
separator true = []
separator false = comma ∷ []

-- a list from its first item on, or from a later one
abbrev pub rest_of : {A : Type 0} → Bool → Lexeme → (A → List Lexeme) → List A → List Lexeme
rest_of true end item xs = comma_list end item xs
rest_of false end item xs = more_to end item xs

abbrev pub open_word : List ℕ → List Lexeme
open_word w = word w ∷ left_paren ∷ []

-- what of a recipe stands before its first part, or the whole where it has none
abbrev pub recipe_head : RecipeText → List Lexeme
recipe_head (r.Lit quote) = text quote ∷ []
recipe_head (r.Tuple tag args) = text tag ∷ left_paren ∷ []
recipe_head (r.Name line principal) = word (codes "name") ∷ name principal ∷ []
recipe_head (r.Msg x) = numbered_item (codes "msg") x
recipe_head (r.Cert x) = numbered_item (codes "cert") x
recipe_head (r.Nonce line step) = word (codes "nonce") ∷ name step ∷ []
recipe_head (r.Field line step version i) =
    word (codes "field") ∷ name step ∷ dot ∷ number version ∷ dot ∷ number i ∷ []
recipe_head (r.Pair line first second) = open_word (codes "pair")
recipe_head (r.Pk line key) = open_word (codes "pk")
recipe_head (r.Vk line key) = open_word (codes "vk")
recipe_head (r.Penc line key message) = open_word (codes "penc")
recipe_head (r.Aead line key message ad) = open_word (codes "aead")
recipe_head (r.Sign line key message) = open_word (codes "sign")
recipe_head (r.Mac line key message) = open_word (codes "mac")
recipe_head (r.Kdf line key context input) = open_word (codes "kdf")
recipe_head (r.Hash line message) = open_word (codes "hash")
recipe_head (r.Fst line value) = open_word (codes "fst")
recipe_head (r.Snd line value) = open_word (codes "snd")
recipe_head (r.Pdec line value key) = open_word (codes "pdec")
recipe_head (r.Adec line value key) = open_word (codes "adec")
recipe_head (r.Ad line value) = open_word (codes "ad")
recipe_head (r.Body line value) = open_word (codes "body")
