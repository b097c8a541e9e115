-- Declarations and statements as they are written (ISO/IEC 9899:2011, 6.7 and 6.8), by the numbers of their tokens.
use Rattle.std.specs.Prelude.{ℕ, Bool, List, [], ◌∷◌, Option}
use Rattle.c_grammar.specs.Terms.{Term}

-- what stands in square brackets behind a declared name
pub data Size : Type 0 where
  NoSize : Size
  Unsized : Size
  Sized : Term → Size

pub data Initialiser : Type 0 where
  NoValue : Initialiser
  OneValue : Term → Initialiser
  -- in braces
  ValueList : List Term → Initialiser

pub record Declarator : Type 0 where
  -- the token of the declared name
  pub name : ℕ
  pub size : Size
  pub value : Initialiser

-- the words of the type, and the names that are declared
pub record Declaration : Type 0 where
  pub constant : Bool
  pub words : List ℕ
  pub names : List Declarator

-- a label, from its first token to the one behind it
pub data Label : Type 0 where
  Named : ℕ → ℕ → Label
  Case : ℕ → ℕ → Term → Label
  Default : ℕ → ℕ → Label

-- the first part of a `for`
pub data Start : Type 0 where
  NoStart : Start
  StartValue : Term → Start
  StartNames : Declaration → Start

mutual
  pub data Item : Type 0 where
    -- a declaration, from its first token to the one behind it
    Declares : ℕ → ℕ → Declaration → Item
    -- a statement with its labels
    States : List Label → Plain → Item

  -- a statement without labels, from its first token to the one behind it
  pub data Plain : Type 0 where
    From : ℕ → ℕ → Statement → Plain

  pub data Statement : Type 0 where
    Null : Statement
    Evaluate : Term → Statement
    If : Term → Body → Statement
    IfElse : Term → Body → Body → Statement
    While : Term → Body → Statement
    DoWhile : Body → Term → Statement
    For : Start → Option Term → Option Term → Body → Statement
    Switch : Term → Body → Statement
    Block : Body → Statement
    -- the token of the label's name
    Goto : ℕ → Statement
    Break : Statement
    Continue : Statement
    Return : Option Term → Statement
    -- no statement: the syntax of a derivation has none
    Unread : Statement

  -- A list of items: that of a block, or one statement that is no block. It begins at a token, `{` for a
  -- block, and the second number is that of the token behind it.
  pub data Body : Type 0 where
    Braces : ℕ → ℕ → Items → Body
    Lone : ℕ → ℕ → Item → Body

  pub data Items : Type 0 where
    NoItem : Items
    Then : Item → Items → Items

abbrev pub items_in : Body → Items
items_in (Braces first after xs) = xs
items_in (Lone first after x) = Then x NoItem

-- ---- first tokens

abbrev pub label_first : Label → ℕ
label_first (Named first after) = first
label_first (Case first after t) = first
label_first (Default first after) = first

abbrev pub plain_first : Plain → ℕ
plain_first (From first after s) = first

-- of a statement with labels
abbrev pub first_label : List Label → ℕ
first_label [] = 0
first_label (l ∷ ls) = label_first l

abbrev pub stated_first : List Label → Plain → ℕ
stated_first [] p = plain_first p
stated_first (l ∷ ls) p = label_first l

abbrev pub item_first : Item → ℕ
item_first (Declares first after d) = first
item_first (States ls p) = stated_first ls p
