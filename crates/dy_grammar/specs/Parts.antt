-- The parts of a protocol file, and what each of them stands for.
use Rattle.std.specs.Prelude.{ℕ, Bool, List, Option}
use Rattle.dy_syntax.specs.Names as names
use Rattle.dy_syntax.specs.Names.{Id, Quote, KindText, UseText, AtomText}
use Rattle.dy_syntax.specs.Labels.{LabelText}
use Rattle.dy_syntax.specs.Expressions.{Expr}
use Rattle.dy_syntax.specs.Declarations.{FieldType, Field, Row, Param, Partner}
use Rattle.dy_syntax.specs.Statements.{Pattern, OnPart, Statement}
use Rattle.dy_syntax.specs.Recipes.{Numbered, RecipeText}
use Rattle.dy_syntax.specs.Plans.{OnStep, Action, Step, Round, Plan}
use Rattle.dy_syntax.specs.Files.{Decl, File}

-- Parts that stand alone or in lists. Expressions, labels and recipes have the level at which they stand.
pub data Item : Type 0 where
  AnId ANm AKind AUse AnAtom : Item
  AFieldType AField ARow AParam APartner APattern : Item
  ALabel AStatement ADecl ARound AStep AnAction : Item
  AnInner AnExpr ARecipe : (level : ℕ) → Item

abbrev pub ItemValue : Item → Type 0
ItemValue AnId = Id
ItemValue ANm = names.Nm
ItemValue AKind = KindText × ℕ
ItemValue AUse = UseText
ItemValue AnAtom = AtomText
ItemValue AFieldType = FieldType × ℕ
ItemValue AField = Field
ItemValue ARow = Row
ItemValue AParam = Param
ItemValue APartner = Partner
ItemValue APattern = Pattern
ItemValue ALabel = LabelText
ItemValue AStatement = Statement
ItemValue ADecl = Decl
ItemValue ARound = Round
ItemValue AStep = Step
ItemValue AnAction = Action
ItemValue (AnInner level) = LabelText
ItemValue (AnExpr level) = Expr
ItemValue (ARecipe level) = RecipeText

-- what ends a list
pub data Closing : Type 0 where
  Parenthesis Semicolon : Closing

-- the words that begin a list of events
pub data Listing : Type 0 where
  Requires After Knows : Listing

-- An item, lists of items up to what ends them, and parts that end with the token after what may be left out.
pub data Part : Type 0 where
  AFile Decls : Part
  TableEnd LastingOpen OnArgs RecvOpen StartEnd MsgEnd : Part
  One : (x : Item) → Part
  ManyTo : (x : Item) → Part
  Commas : (x : Item) → Part
  MoreTo : (end : Closing) (x : Item) → Part
  ListEnd : (word : Listing) (x : Item) → Part
  MaybeListed : (x : Item) → Part

abbrev pub PartValue : Part → Type 0
PartValue AFile = File
PartValue Decls = List Decl × Plan
PartValue TableEnd = List Row
PartValue LastingOpen = Bool
PartValue OnArgs = Option OnPart
PartValue RecvOpen = Option Id
PartValue StartEnd = Option OnStep × Option Numbered
PartValue MsgEnd = Option Numbered
PartValue (One x) = ItemValue x
PartValue (ManyTo x) = List (ItemValue x)
PartValue (Commas x) = List (ItemValue x)
PartValue (MoreTo end x) = List (ItemValue x)
PartValue (ListEnd word x) = List (ItemValue x)
PartValue (MaybeListed x) = Option (List (ItemValue x))
