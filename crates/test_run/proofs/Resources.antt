-- A function that opens two ports and closes them, with jumps and without: both meanings show the same calls and ends.
use Rattle.std.proofs.Common.{ℕ, ◌≡◌, pos, negsuc, List, [], ◌∷◌, Some, None, refl, codes}
use Rattle.std.specs.Fmt.{digits}
use Rattle.c_types.specs.declared.kinds.ArithOp.TheVariants.{Add}
use Rattle.c_types.specs.declared.kinds.IntKind.TheVariants.{Int}
use Rattle.c_types.specs.Numbers.{converted, arith_result}
use Rattle.c_tree.specs.declared.tree.BinaryOp.TheVariants.{Arith, Less}
use Rattle.c_tree.specs.declared.tree.Home.TheVariants as H
use Rattle.c_tree.specs.declared.tree.UnaryOp.TheVariants.{Minus, Not}
use Rattle.c_tree.specs.Changed.{one}
use Rattle.c_tree.specs.ExpressionTrees.{ExpressionTree, Var, Unary, Binary, Assign, Call, arguments}
use Rattle.c_tree.specs.TestTrees.{Source}
use Rattle.c_tree.specs.Trees.{Tree, Nil, Evaluate, Return, If, Local, Goto, Mark, forest}
use Rattle.jump_meaning.specs.Behaviour.{Shown, Ended}
use Rattle.jump_meaning.specs.Code.{Code}
use Rattle.jump_meaning.specs.Runs.{jump_run}
use Rattle.jump_meaning.specs.Values.{Called}
use Rattle.struct_meaning.specs.Runs.{structural_run}
use Rattle.jump_meaning.proofs.ExampleWords.{Declaration, int, void, number, read, slot, defines, declares, program}

-- ---- the parts of both programs

abbrev ports : List Declaration → List Declaration
ports ds = declares (codes "open_port") (Some Int) (slot Int ∷ []) ∷ declares (codes "close_port") None (slot Int ∷ []) ∷ ds

abbrev less : ExpressionTree → ExpressionTree
less e = int (Binary Less e (number 0))

abbrev sets : ℕ → ExpressionTree → Tree
sets k e = Evaluate (int (Assign (Var (H.Slot k)) e))

abbrev opened : ExpressionTree → ExpressionTree
opened e = int (Call (codes "open_port") (arguments (e ∷ [])))

abbrev closes : ℕ → Tree
closes k = Evaluate (void (Call (codes "close_port") (arguments (read k ∷ []))))

abbrev isn't : ℕ → ExpressionTree
isn't k = int (Unary Not (read k))

-- ---- `int copy(int n)`: slots n, r, a, b, and without jumps goto_close_a, goto_out

abbrev copy : Code
copy =
    program
    (ports
    (defines (codes "copy") (Some Int) 1 (slot Int ∷ slot Int ∷ slot Int ∷ slot Int ∷ [])
    (forest
    (Local 1 (Some (int (Unary Minus (number 1)) ∷ []))
    ∷ Local 2 (Some (opened (read 0) ∷ []))
    ∷ Local 3 None
    ∷ If (Source (less (read 2))) (one (Goto 1)) Nil
    ∷ sets 3 (opened (int (Binary (Arith Add) (read 0) (number 1))))
    ∷ If (Source (less (read 3))) (one (Goto 0)) Nil
    ∷ sets 1 (int (Binary (Arith Add) (read 2) (read 3)))
    ∷ closes 3
    ∷ Mark 0
    ∷ closes 2
    ∷ Mark 1
    ∷ Return (Some (read 1))
    ∷ []))
    ∷ []))

abbrev restructured : Code
restructured =
    program
    (ports
    (defines (codes "copy") (Some Int) 1 (slot Int ∷ slot Int ∷ slot Int ∷ slot Int ∷ slot Int ∷ slot Int ∷ [])
    (forest
    (Local 1 None
    ∷ Local 2 None
    ∷ Local 3 None
    ∷ Local 4 (Some (number 0 ∷ []))
    ∷ Local 5 (Some (number 0 ∷ []))
    ∷ sets 1 (int (Unary Minus (number 1)))
    ∷ sets 2 (opened (read 0))
    ∷ sets 5 (less (read 2))
    ∷ If
    (Source (isn't 5))
    (forest
    (sets 3 (opened (int (Binary (Arith Add) (read 0) (number 1))))
    ∷ sets 4 (less (read 3))
    ∷ If (Source (isn't 4)) (forest (sets 1 (int (Binary (Arith Add) (read 2) (read 3))) ∷ closes 3 ∷ [])) Nil
    ∷ sets 4 (number 0)
    ∷ closes 2
    ∷ []))
    Nil
    ∷ sets 5 (number 0)
    ∷ Return (Some (read 1))
    ∷ []))
    ∷ []))

-- ---- the second port can't be opened: the first is closed

abbrev refused : Shown
refused = Ended (negsuc 0) (Called (codes "open_port") (pos 3 ∷ []) ∷ Called (codes "open_port") (pos 4 ∷ []) ∷ Called (codes "close_port") (pos 5 ∷ []) ∷ [])

copy_refused : jump_run copy (codes "copy") (pos 3 ∷ []) [] (pos 5 ∷ negsuc 0 ∷ []) 100 ≡ refused
unfolding converted arith_result digits
copy_refused = refl

restructured_refused : jump_run restructured (codes "copy") (pos 3 ∷ []) [] (pos 5 ∷ negsuc 0 ∷ []) 200 ≡ refused
unfolding converted arith_result digits
restructured_refused = refl

structural_refused : structural_run restructured (codes "copy") (pos 3 ∷ []) [] (pos 5 ∷ negsuc 0 ∷ []) 10 ≡ refused
unfolding converted arith_result digits
structural_refused = refl

-- ---- the first can't be: nothing is to be closed

abbrev none : Shown
none = Ended (negsuc 0) (Called (codes "open_port") (pos 3 ∷ []) ∷ [])

copy_none : jump_run copy (codes "copy") (pos 3 ∷ []) [] (negsuc 0 ∷ []) 100 ≡ none
unfolding converted arith_result digits
copy_none = refl

structural_none : structural_run restructured (codes "copy") (pos 3 ∷ []) [] (negsuc 0 ∷ []) 10 ≡ none
unfolding converted arith_result digits
structural_none = refl

-- ---- both can: their numbers are added, and both are closed

abbrev both : Shown
both =
    Ended (pos 12)
    (Called (codes "open_port") (pos 3 ∷ []) ∷ Called (codes "open_port") (pos 4 ∷ []) ∷ Called (codes "close_port") (pos 7 ∷ []) ∷ Called
    (codes "close_port") (pos 5 ∷ []) ∷ [])

copy_both : jump_run copy (codes "copy") (pos 3 ∷ []) [] (pos 5 ∷ pos 7 ∷ []) 100 ≡ both
unfolding converted arith_result digits
copy_both = refl

structural_both : structural_run restructured (codes "copy") (pos 3 ∷ []) [] (pos 5 ∷ pos 7 ∷ []) 10 ≡ both
unfolding converted arith_result digits
structural_both = refl
