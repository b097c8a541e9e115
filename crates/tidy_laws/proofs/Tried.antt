-- The worked texts, by computation.
use Rattle.std.proofs.Common.{ℕ, true, false, [], ◌∷◌, List, codes, Some, None, ◌≡◌, refl}
use Rattle.c_types.specs.declared.kinds.ArithOp.TheVariants.{Add, Mul}
use Rattle.c_types.specs.declared.kinds.IntKind.TheVariants.{Int}
use Rattle.c_tree.specs.declared.tree.Slot.{Slot}
use Rattle.c_tree.specs.declared.tree.UnaryOp.TheVariants.{Not, Minus}
use Rattle.c_tree.specs.declared.tree.BinaryOp.TheVariants.{Arith, Equal, AndThen, AtLeast, Less}
use Rattle.c_tree.specs.declared.tree.Home.TheVariants as H
use Rattle.c_tree.specs.ExpressionTrees.{ExpressionTree, Var, Character, Unary, Binary, Assign, Count, Call, NoArgument, arguments}
use Rattle.c_tree.specs.TestTrees.{Source}
use Rattle.c_tree.specs.Trees.{Tree, Forest, Nil, Evaluate, Return, If, While, Do, Block, Local, Break, Continue, forest}
use Rattle.c_tree.specs.Changed.{one}
use Rattle.jump_meaning.specs.Code.{FunctionTree}
use Rattle.jump_meaning.proofs.ExampleWords.{int, number, read, slot}
use Rattle.tidy_laws.specs.Changes.{are_low, changes_of, changed_fully, times_changed}

abbrev set : ℕ → ExpressionTree → Tree
set x e = Evaluate (int (Assign (Var (H.Slot x)) e))

abbrev is_off : ℕ → ExpressionTree
is_off x = int (Unary Not (read x))

abbrev guarded : ℕ → ExpressionTree → ExpressionTree
guarded x t = int (Binary AndThen (is_off x) t)

abbrev zero_declared : ℕ → Tree
zero_declared x = Local x (Some (number 0 ∷ []))

abbrev get_byte : ExpressionTree
get_byte = int (Call (codes "getchar") NoArgument)

abbrev put : ExpressionTree → Tree
put e = Evaluate (int (Call (codes "putchar") (arguments (e ∷ []))))

abbrev is_byte : ℕ → ℕ → ExpressionTree
is_byte x b = int (Binary Equal (read x) (int (Character b)))

abbrev function : List Slot → Forest → FunctionTree
function ss a = record { result = Some Int; params = 0; slots = ss; body = Some a }

-- a loop that two gotos left, restructured: slot 0 is c, slot 1 the guard
abbrev left_twice : FunctionTree
left_twice = function (slot Int ∷ slot Int ∷ []) (forest
    (Local 0 None
    ∷ zero_declared 1
    ∷ While (Source (guarded 1 (number 1))) (forest
    (set 0 get_byte
    ∷ set 1 (int (Binary Equal (read 0) (int (Unary Minus (number 1)))))
    ∷ If (Source (is_off 1)) (forest (set 1 (is_byte 0 113) ∷ If (Source (is_off 1)) (one (put (read 0))) Nil ∷ [])) Nil
    ∷ []))
    ∷ set 1 (number 0)
    ∷ Return (Some (number 0))
    ∷ []))

left_twice_changed : changed_fully left_twice ≡ function (slot Int ∷ []) (forest
    (Local 0 None
    ∷ While (Source (number 1)) (forest
    (set 0 get_byte
    ∷ If (Source (int (Binary Equal (read 0) (int (Unary Minus (number 1)))))) (one Break) Nil
    ∷ If (Source (is_byte 0 113)) (one Break) Nil
    ∷ put (read 0)
    ∷ []))
    ∷ Return (Some (number 0))
    ∷ []))
left_twice_changed = refl

left_twice_counted : times_changed 2 left_twice ≡ 1
left_twice_counted = refl

-- a turn that skips what follows a space: slot 0 is the guard, slot 1 is c
abbrev skips : FunctionTree
skips = function (slot Int ∷ slot Int ∷ []) (forest
    (zero_declared 0
    ∷ Local 1 None
    ∷ Do (forest (set 1 get_byte ∷ set 0 (is_byte 1 32) ∷ If (Source (is_off 0)) (one (put (read 1))) Nil ∷ set 0 (number 0) ∷ []))
    (Source (int (Binary AtLeast (read 1) (number 0))))
    ∷ Return (Some (number 0))
    ∷ []))

skips_changed : changed_fully skips ≡ function (slot Int ∷ []) (forest
    (Local 0 None
    ∷ Do (forest (set 0 get_byte ∷ If (Source (is_byte 0 32)) (one Continue) Nil ∷ put (read 0) ∷ [])) (Source (int (Binary AtLeast (read 0) (number 0))))
    ∷ Return (Some (number 0))
    ∷ []))
skips_changed = refl

-- a list that gives way with a declaration in it is a Block
abbrev declares : FunctionTree
declares = function (slot Int ∷ slot Int ∷ []) (forest
    (zero_declared 0
    ∷ While (Source (number 1)) (forest (set 0 (number 1) ∷ If (Source (is_off 0)) (forest (Local 1 None ∷ [])) Nil ∷ set 0 (number 0) ∷ []))
    ∷ []))

declares_changed : changed_fully declares ≡ function (slot Int ∷ [])
    (forest (While (Source (number 1)) (forest (Continue ∷ Block (one (Local 0 None)) ∷ [])) ∷ []))
declares_changed = refl

-- two loops, one in the other, that one guard leaves: slots 0 and 1 are i and j
abbrev nested : FunctionTree
nested = function (slot Int ∷ slot Int ∷ slot Int ∷ []) (forest
    (Local 0 None
    ∷ Local 1 None
    ∷ zero_declared 2
    ∷ set 0 (number 0)
    ∷ While (Source (guarded 2 (int (Binary Less (read 0) (number 3))))) (forest
    (set 1 (number 0)
    ∷ While (Source (guarded 2 (int (Binary Less (read 1) (number 3))))) (forest
    (If (Source (int (Binary Equal (int (Binary (Arith Add) (read 0) (read 1))) (number 2)))) (forest (put (int (Character 33)) ∷ set 2 (number 1) ∷ [])) Nil
    ∷ If (Source (is_off 2)) (one (Evaluate (int (Count (Var (H.Slot 1)) true true)))) Nil
    ∷ []))
    ∷ If (Source (is_off 2)) (one (Evaluate (int (Count (Var (H.Slot 0)) true true)))) Nil
    ∷ []))
    ∷ set 2 (number 0)
    ∷ Return (Some (int (Binary (Arith Add) (int (Binary (Arith Mul) (read 0) (number 10))) (read 1))))
    ∷ []))

nested_stays : changes_of nested ≡ []
nested_stays = refl

-- a guard with a further mention stays
mentioned_stays : changes_of (function (slot Int ∷ [])
    (forest (zero_declared 0 ∷ While (Source (guarded 0 (number 1))) (one (set 0 (number 1))) ∷ set 0 (number 0) ∷ put (read 0) ∷ []))) ≡ []
mentioned_stays = refl

-- how deep a set may stand
low_at_limit : are_low 0 399 (one (set 0 (read 1))) ≡ true
low_at_limit = refl

deep_past_limit : are_low 0 400 (one (set 0 (read 1))) ≡ false
deep_past_limit = refl

one_past_limit : are_low 0 400 (one (set 0 (number 1))) ≡ true
one_past_limit = refl
