-- Words for small programs, each as a tree.
use Rattle.std.specs.Prelude.{ℕ, ℤ, pos, Bool, false, cond, List, [], ◌∷◌, codes, Option, Some, None}
use Rattle.std.specs.Str.{bytes_eq}
use Rattle.c_types.specs.declared.kinds.IntKind.{IntKind}
use Rattle.c_types.specs.declared.kinds.IntKind.TheVariants.{Int}
use Rattle.c_tree.specs.declared.tree.Home.TheVariants as H
use Rattle.c_tree.specs.declared.tree.Slot.{Slot}
use Rattle.c_tree.specs.ExpressionTrees.{ExpressionTree, NodeTree, Typed, Var, Number, Character, Read, Call, arguments}
use Rattle.c_tree.specs.Trees.{Tree, Forest, SectionTree, Evaluate}
use Rattle.jump_meaning.specs.Values.{Variable, Holds}
use Rattle.jump_meaning.specs.Code.{FunctionTree, Code, undeclared}

-- an expression of kind int, of no kind, an int constant
abbrev pub int : NodeTree → ExpressionTree
int n = Typed (Some Int) n

abbrev pub void : NodeTree → ExpressionTree
void n = Typed None n

abbrev pub number : ℕ → ExpressionTree
number n = int (Number (pos n))

-- the int in a slot
abbrev pub read : ℕ → ExpressionTree
read x = int (Read (Var (H.Slot x)))

-- `putchar` of a character constant
abbrev pub writes : ℕ → Tree
writes b = Evaluate (int (Call (codes "putchar") (arguments (int (Character b) ∷ []))))

-- a section of a switch: its cases, whether it has the default, its list, whether it ends
abbrev pub section : List ExpressionTree → Bool → Forest → Bool → SectionTree
section cases default a ends = record { cases = cases; default = default; list = a; ends = ends }

-- a slot that is a number
abbrev pub slot : IntKind → Slot
slot k = record { name = []; kind = k; cells = None; constant = false }

-- an array, an array parameter where n is 0
abbrev pub array : IntKind → ℕ → Slot
array k n = record { name = []; kind = k; cells = Some n; constant = false }

-- a function or a prototype, among others
abbrev pub Declaration : Type 0
Declaration = (List ℕ → FunctionTree) → List ℕ → FunctionTree

abbrev pub defines : List ℕ → Option IntKind → ℕ → List Slot → Forest → Declaration
defines f k n ss a others m = cond (bytes_eq m f) (record { result = k; params = n; slots = ss; body = Some a }) (others m)

abbrev pub declares : List ℕ → Option IntKind → List Slot → Declaration
declares f k ss others m = cond (bytes_eq m f) (record { result = k; params = 0; slots = ss; body = None }) (others m)

-- the functions of a program
abbrev pub functions_of : List Declaration → List ℕ → FunctionTree
functions_of [] m = undeclared
functions_of (d ∷ ds) m = d (functions_of ds) m

-- a variable of file scope that is a number
abbrev pub number_variable : IntKind → ℤ → Variable
number_variable k n = Holds k None (λ i. n)

-- the program of these functions, without variables of file scope
abbrev pub program : List Declaration → Code
program ds = record { functions = functions_of ds; globals = λ m. number_variable Int (pos 0); cells = 0 }

-- the program with one variable more
abbrev pub with_global : List ℕ → Variable → Code → Code
with_global m v p = record p { globals = λ n. cond (bytes_eq n m) v (p.globals n) }
