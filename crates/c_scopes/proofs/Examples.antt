-- Small files, resolved by computation.
use Rattle.std.proofs.Common.{◌≡◌, ℕ, pos, false, List, [], ◌∷◌, Option, Some, None, refl, get_or}
use Rattle.std.specs.Prelude.{codes}
use Rattle.c_types.specs.declared.kinds.IntKind.TheVariants.{Int}
use Rattle.c_types.specs.declared.kinds.ArithOp.TheVariants as arith
use Rattle.c_tree.specs.declared.tree.BinaryOp.TheVariants as op
use Rattle.c_tree.specs.declared.tree.Expression.{Expression, roll-Expression}
use Rattle.c_tree.specs.declared.tree.Node as node
use Rattle.c_tree.specs.declared.tree.Node.{Node}
use Rattle.c_tree.specs.declared.tree.Place as place
use Rattle.c_tree.specs.declared.tree.Home.TheVariants as home
use Rattle.c_tree.specs.declared.tree.Item as item
use Rattle.c_tree.specs.declared.tree.Test as test
use Rattle.c_tree.specs.declared.tree.Top.TheVariants as top
use Rattle.c_grammar.specs.Terms.{Term, At, Constant, Variable, Binary, Suffix, Call, NoTerm}
use Rattle.c_grammar.specs.Terms as terms
use Rattle.c_grammar.specs.Items.{NoSize, NoValue, OneValue, Declaration, Named, Case, Default, Declares, States, From, Null, Evaluate, While, Switch, Goto, Break, Return, Braces, Items, Item, Then, NoItem}
use Rattle.c_grammar.specs.Tops as tops
use Rattle.c_grammar.specs.Tops.{Top, Globals, Defines}
use Rattle.c_kinds.specs.Scopes.{fault}
use Rattle.c_scopes.specs.Files.{File, file_faults, tops_of, start}
use Rattle.c_scopes.specs.FunctionNames.{bodies_of}
use Rattle.c_scopes.specs.Resolving.{violation_of}

abbrev word_in : List (List ℕ) → ℕ → List ℕ
word_in words at = get_or words at []

abbrev file : List (List ℕ) → List Top → File
file words xs = record { word = word_in words; notes = λ anchor. []; bodies = bodies_of (word_in words) xs; flat = λ items. None }

list : List Item → Items
list [] = NoItem
list (x ∷ xs) = Then x (list xs)

-- ---- int f(void) { goto no; } int g(void) { return y; }

abbrev words-1 : List (List ℕ)
words-1 =
    codes "int" ∷ codes "f" ∷ codes "(" ∷ codes "void" ∷ codes ")" ∷ codes "{" ∷ codes "goto" ∷ codes "no" ∷ codes ";" ∷ codes "}"
    ∷ codes "int" ∷ codes "g" ∷ codes "(" ∷ codes "void" ∷ codes ")" ∷ codes "{" ∷ codes "return" ∷ codes "y" ∷ codes ";" ∷ codes "}" ∷ []

abbrev tops-1 : List Top
tops-1 =
    tops.From 0 10 (Defines (record {
      static = false;
      words = Some (0 ∷ []);
      name = 1;
      parameters = [];
      body = Some (Braces 5 10 (Then (States [] (From 6 9 (Goto 7))) NoItem));
      counted = 0;
    }))
    ∷ tops.From 10 20 (Defines (record {
      static = false;
      words = Some (10 ∷ []);
      name = 11;
      parameters = [];
      body = Some (Braces 15 20 (Then (States [] (From 16 19 (Return (Some (At 17 (Variable 17)))))) NoItem));
      counted = 0;
    }))
    ∷ []

-- the unknown label is named first
one : violation_of (file words-1 tops-1) tops-1 ≡ Some (record { at = 7; reason = 33 })
one = refl

all : file_faults (file words-1 tops-1) tops-1 start [] ≡ fault 17 20 (fault 7 33 [])
all = refl

-- ---- int x; int main(void) { int n; goto mid; while (n < 2) { int x = 5; mid: n = n + x; } return x; }

abbrev words-2 : List (List ℕ)
words-2 =
    codes "int" ∷ codes "x" ∷ codes ";"
    ∷ codes "int" ∷ codes "main" ∷ codes "(" ∷ codes "void" ∷ codes ")" ∷ codes "{"
    ∷ codes "int" ∷ codes "n" ∷ codes ";" ∷ codes "goto" ∷ codes "mid" ∷ codes ";"
    ∷ codes "while" ∷ codes "(" ∷ codes "n" ∷ codes "<" ∷ codes "2" ∷ codes ")" ∷ codes "{"
    ∷ codes "int" ∷ codes "x" ∷ codes "=" ∷ codes "5" ∷ codes ";"
    ∷ codes "mid" ∷ codes ":" ∷ codes "n" ∷ codes "=" ∷ codes "n" ∷ codes "+" ∷ codes "x" ∷ codes ";" ∷ codes "}"
    ∷ codes "return" ∷ codes "x" ∷ codes ";" ∷ codes "}" ∷ []

abbrev variable-at : ℕ → Term
variable-at at = At at (Variable at)

abbrev constant-at : ℕ → Term
constant-at at = At at (Constant at)

abbrev an-int : ℕ → ℕ → Option ℕ → Declaration
an-int type name value = record {
  constant = false;
  words = type ∷ [];
  names = record { name = name; size = NoSize; value = elim value [ Some at ↦ OneValue (constant-at at) | None ↦ NoValue ] } ∷ [];
}

abbrev body-2 : Items
body-2 =
    Then (Declares 9 12 (an-int 9 10 None))
    (Then (States [] (From 12 15 (Goto 13)))
    (Then (States [] (From 15 36 (While (At 17 (Binary 18 (variable-at 17) (constant-at 19))) (Braces 21 36
    (Then (Declares 22 27 (an-int 22 23 (Some 25)))
    (Then (States (Named 27 29 ∷ []) (From 29 35
    (Evaluate (At 29 (terms.Assign 30 (variable-at 29) (At 31 (Binary 32 (variable-at 31) (variable-at 33)))))))) NoItem))))))
    (Then (States [] (From 36 39 (Return (Some (variable-at 37))))) NoItem)))

abbrev tops-2 : List Top
tops-2 =
    tops.From 0 3 (Globals false (an-int 0 1 None))
    ∷ tops.From 3 40 (Defines (record { static = false; words = Some (3 ∷ []); name = 4; parameters = []; body = Some (Braces 8 40 body-2); counted = 1 }))
    ∷ []

abbrev number : Node → Expression
number n = roll-Expression (record { kind = Some Int; node = n })

abbrev slot : ℕ → Expression
slot k = number (node.Read (place.Var (home.Slot k)))

none : file_faults (file words-2 tops-2) tops-2 start [] ≡ []
none = refl

-- the inner x is slot 1, and the last x is that of the file
tree : tops_of (file words-2 tops-2) tops-2 start ≡
    top.Global (record { slot = record { name = codes "x"; kind = Int; cells = None; constant = false }; init = None; file_only = false })
    ∷ top.Function (record {
      name = codes "main";
      result = Some Int;
      file_only = false;
      params = 0;
      slots = record { name = codes "n"; kind = Int; cells = None; constant = false } ∷ record {
        name = codes "x";
        kind = Int;
        cells = None;
        constant = false;
      } ∷ [];
      labels = codes "mid" ∷ [];
      body = Some (item.Local 0 None ∷ item.Goto 0
          ∷ item.While (test.Source (number (node.Binary op.Less (slot 0) (number (node.Number (pos 2))))))
          (item.Local 1 (Some (number (node.Number (pos 5)) ∷ [])) ∷ item.Mark 0
          ∷ item.Evaluate (number (node.Assign (place.Var (home.Slot 0)) (number (node.Binary (op.Arith arith.Add) (slot 0) (slot 1))))) ∷ [])
          ∷ item.Return (Some (number (node.Read (place.Var (home.Global (codes "x")))))) ∷ []);
      flat = false;
    }) ∷ []
tree = refl
