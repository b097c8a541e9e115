-- Worked functions, by computation, whatever their expressions are.
use Rattle.std.specs.Fmt.{digits}
use Rattle.std.proofs.Common.{ℕ, pos, true, false, List, [], ◌∷◌, Some, None, codes, ◌≡◌, refl}
use Rattle.c_types.specs.declared.kinds.IntKind.TheVariants.{Int, UInt}
use Rattle.c_types.specs.Numbers.{converted}
use Rattle.c_types.specs.Words.{known_functions}
use Rattle.c_copies.specs.Names.{with_names}
use Rattle.c_tree.specs.declared.tree.Function.{Function}
use Rattle.c_tree.specs.declared.tree.Slot.{Slot}
use Rattle.c_tree.specs.ExpressionTrees.{ExpressionTree, NodeTree, Typed, Number}
use Rattle.c_tree.specs.Numerals.{constant}
use Rattle.c_tree.specs.TestTrees.{Source, Selects}
use Rattle.c_tree.specs.Trees.{Tree, Forest, Nil, Then, NoSection, Section, Evaluate, Return, If, While, Do, Switch, Block, Local, Break, Continue, Goto, Mark, Arrival}
use Rattle.c_tree.specs.Changed.{one}
use Rattle.flat_laws.specs.Pieces.{assign_number, is_number}
use Rattle.lower_laws.specs.Straight.{jump_if}
use Rattle.lower_laws.specs.Lowered.{lowered_body, gotos}
use Rattle.lower_laws.specs.Lowering.{constructs, variables_beside, label_codes, label_names, lowered_names}

abbrev list : List Tree → Forest
list [] = Nil
list (x ∷ xs) = Then x (list xs)

abbrev int_slot : List ℕ → Slot
int_slot n = record { name = n; kind = Int; cells = None; constant = false }

abbrev const_slot : List ℕ → Slot
const_slot n = record { name = n; kind = Int; cells = None; constant = true }

-- a function without parameters that has these variables and labels
abbrev function : List Slot → List (List ℕ) → Function
function slots labels = record {
  name = codes "main";
  result = Some Int;
  file_only = false;
  params = 0;
  slots = slots;
  labels = labels;
  body = None;
  flat = false;
}

abbrev known : List (List ℕ) → List (List ℕ)
known ns = with_names (with_names [] ns) known_functions

-- `int main(void) { int i = 0; while (i < 3) { putchar('a' + i); i++; } return 0; }`
abbrev counting : (first test put next result : ExpressionTree) → Forest
counting first test put next result = list (Local 0 (Some (first ∷ [])) ∷ While (Source test) (list (Evaluate put ∷ Evaluate next ∷ [])) ∷ Return
    (Some result) ∷ [])

-- its body becomes `int i; i = 0; low_1: ; if (i < 3) { goto low_2; } goto low_3; low_2: ; putchar('a' + i); i++; goto low_1; low_3: ; return 0;`
counted : (first test put next result : ExpressionTree)
    → lowered_body constant 0 (int_slot (codes "i") ∷ []) (counting first test put next result)
    ≡ list (
    Local 0 None
    ∷ Evaluate (assign_number Int 0 first)
    ∷ Mark 0
    ∷ jump_if (Source test) 1
    ∷ Goto 2
    ∷ Mark 1
    ∷ Evaluate put
    ∷ Evaluate next
    ∷ Goto 0
    ∷ Mark 2
    ∷ Return (Some result)
    ∷ []
    )
counted first test put next result = refl

-- with these names, and 3 gotos
counted_names : (first test put next result : ExpressionTree)
    → lowered_names (known (codes "i" ∷ codes "main" ∷ [])) (known (codes "main" ∷ [])) (function (int_slot (codes "i") ∷ []) [])
    (counting first test put next result)
    ≡ record { slots = int_slot (codes "i") ∷ []; labels = codes "low_1" ∷ codes "low_2" ∷ codes "low_3" ∷ [] }
unfolding digits
counted_names first test put next result = refl

counted_gotos : (first test put next result : ExpressionTree) → gotos
    (lowered_body constant 0 (int_slot (codes "i") ∷ []) (counting first test put next result)) ≡ 3
counted_gotos first test put next result = refl

-- `int low_1; { const int x = e; } if (a) goto l; do { switch (n) { case 0: x; break; } l: ; } while (t);` where the file has an x
abbrev mixed : (e a t x : ExpressionTree) (node : NodeTree) → Forest
mixed e a t x node = list (
    Local 0 None
    ∷ Block (one (Local 1 (Some (e ∷ []))))
    ∷ If (Source a) (one (Goto 0)) Nil
    ∷ Do (list (
    Switch (Selects (Typed (Some UInt) node)) (Section (Typed (Some Int) (Number (pos 0)) ∷ []) false (one (Evaluate x)) true NoSection)
    ∷ Mark 0
    ∷ []
    )) (Source t)
    ∷ []
    )

-- an `if` is no loop or switch; the block variable and the variable of switch 2 are declared in front
mixed_body : (e a t x : ExpressionTree) (node : NodeTree)
    → lowered_body constant 0 (int_slot (codes "low_1") ∷ const_slot (codes "x") ∷ []) (mixed e a t x node)
    ≡ list (
    Local 0 None
    ∷ Local 1 None
    ∷ Local 2 None
    ∷ Evaluate (assign_number Int 1 e)
    ∷ jump_if (Source a) 3
    ∷ Mark 0
    ∷ Evaluate (assign_number UInt 2 (Typed (Some UInt) node))
    ∷ jump_if (Source (is_number UInt 2 (Typed (Some UInt) (Number (pos 0))))) 1
    ∷ Goto 2
    ∷ Mark 1
    ∷ Evaluate x
    ∷ Goto 2
    ∷ Mark 2
    ∷ Mark 3
    ∷ jump_if (Source t) 0
    ∷ []
    )
unfolding converted
mixed_body e a t x node = refl

mixed_names : (e a t x : ExpressionTree) (node : NodeTree)
    → lowered_names (known (codes "l" ∷ codes "low_1" ∷ codes "main" ∷ codes "x" ∷ [])) (known (codes "main" ∷ codes "x" ∷ []))
    (function (int_slot (codes "low_1") ∷ const_slot (codes "x") ∷ []) (codes "l" ∷ [])) (mixed e a t x node)
    ≡ record {
      slots = int_slot (codes "low_1") ∷ int_slot (codes "x_2") ∷ record { name = codes "switch_2"; kind = UInt; cells = None; constant = false } ∷ [];
      labels = codes "low_1_2" ∷ codes "low_2" ∷ codes "low_3" ∷ codes "l" ∷ [];
    }
unfolding digits converted
mixed_names e a t x node = refl
