-- Recipes of an attacker as plain data. A line that stands first is that of the first word.
use Rattle.std.specs.Prelude.{ℕ, List, [], ◌∷◌}
use Rattle.dy_syntax.specs.Names.{Id, Quote}

-- what a step has of an earlier one, by number: `msg s.1` or `cert s.1`
pub record Numbered : Type 0 where
  pub line : ℕ
  pub step : Id
  pub number : ℕ

-- RecipeText: how an attacker makes a value. Recipes: some in a row.
mutual
  pub data RecipeText : Type 0 where
    Lit : (quote : Quote) → RecipeText
    Tuple : (tag : Quote) (args : Recipes) → RecipeText
    Name : (line : ℕ) (principal : Id) → RecipeText
    Msg : (message : Numbered) → RecipeText
    Cert : (cert : Numbered) → RecipeText
    Nonce : (line : ℕ) (step : Id) → RecipeText
    Field : (line : ℕ) (step : Id) (version number : ℕ) → RecipeText
    Pair : (line : ℕ) (first second : RecipeText) → RecipeText
    Pk : (line : ℕ) (key : RecipeText) → RecipeText
    Vk : (line : ℕ) (key : RecipeText) → RecipeText
    Penc : (line : ℕ) (key message : RecipeText) → RecipeText
    Aead : (line : ℕ) (key message ad : RecipeText) → RecipeText
    Sign : (line : ℕ) (key message : RecipeText) → RecipeText
    Mac : (line : ℕ) (key message : RecipeText) → RecipeText
    Kdf : (line : ℕ) (key : RecipeText) (context : Quote) (input : RecipeText) → RecipeText
    Hash : (line : ℕ) (message : RecipeText) → RecipeText
    Fst : (line : ℕ) (value : RecipeText) → RecipeText
    Snd : (line : ℕ) (value : RecipeText) → RecipeText
    Pdec : (line : ℕ) (value key : RecipeText) → RecipeText
    Adec : (line : ℕ) (value key : RecipeText) → RecipeText
    Ad : (line : ℕ) (value : RecipeText) → RecipeText
    Body : (line : ℕ) (value : RecipeText) → RecipeText

  pub data Recipes : Type 0 where
    Nil : Recipes
    Cons : (first : RecipeText) (rest : Recipes) → Recipes

-- as a list
abbrev pub list_of : Recipes → List RecipeText
list_of Nil = []
list_of (Cons first rest) = first ∷ list_of rest

-- these recipes in a row
abbrev pub row_of : List RecipeText → Recipes
row_of [] = Nil
row_of (first ∷ rest) = Cons first (row_of rest)
