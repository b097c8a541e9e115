-- Files as they are written (ISO/IEC 9899:2011, 6.9), by the numbers of their tokens.
use Rattle.std.specs.Prelude.{ℕ, Bool, List, Option}
use Rattle.c_grammar.specs.Terms.{Term}
use Rattle.c_grammar.specs.Items.{Size, Declaration, Body}

-- the token of the name, and the value that is written
pub record Enumerator : Type 0 where
  pub name : ℕ
  pub value : Option Term

pub record Parameter : Type 0 where
  pub first : ℕ
  pub constant : Bool
  pub words : List ℕ
  pub name : Option ℕ
  pub size : Size

pub record Function : Type 0 where
  pub static : Bool
  -- the words of the result's type, or None for `void`
  pub words : Option (List ℕ)
  pub name : ℕ
  pub parameters : List Parameter
  pub body : Option Body
  -- the most tokens that count in one full expression of it
  pub counted : ℕ

pub data Form : Type 0 where
  Line : Form
  Enum : List Enumerator → Form
  -- whether it is `static`
  Globals : Bool → Declaration → Form
  Defines : Function → Form
  Unread : Form

-- what stands at file scope, from its first token to the one behind it
pub data Top : Type 0 where
  From : ℕ → ℕ → Form → Top
