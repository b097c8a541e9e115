-- The plain form tried on worked bodies, by computation.
use Rattle.std.proofs.Common.{◌≡◌, ℕ, pos, negsuc, true, false, [], ◌∷◌, Some, None, refl}
use Rattle.std.specs.Prelude.{codes}
use Rattle.c_types.specs.declared.kinds.ArithOp.TheVariants.{Sub}
use Rattle.c_types.specs.declared.kinds.IntKind.TheVariants.{Int}
use Rattle.c_tree.specs.declared.tree.UnaryOp.TheVariants.{Minus, Not}
use Rattle.c_tree.specs.declared.tree.BinaryOp.TheVariants.{Arith, AtLeast, Equal, Unequal, OrElse}
use Rattle.c_tree.specs.declared.tree.Home.TheVariants as H
use Rattle.c_tree.specs.ExpressionTrees.{ExpressionTree, Var, Unary, Binary, Conditional, Assign, Count, Call, NoArgument}
use Rattle.c_tree.specs.TestTrees.{Source, On, Off, OrOn, Selects, Pick}
use Rattle.c_tree.specs.Trees.{Tree, Forest, Nil, NoSection, Section, Evaluate, Return, If, Do, Switch, Break, Arm, Land, forest}
use Rattle.jump_meaning.proofs.ExampleWords.{int, number, read, writes}
use Rattle.c_tree.specs.Numerals.{constant}
use Rattle.plain_laws.specs.GuardSlots.{plain_list}
use Rattle.plain_laws.specs.Tidied.{tidy}
use Rattle.plain_laws.specs.Plain.{slot_among}

abbrev set : ℕ → ExpressionTree → Tree
set x e = Evaluate (int (Assign (Var (H.Slot x)) e))

abbrev off : ℕ → ExpressionTree
off x = int (Unary Not (read x))

-- a loop by hand, at the end of its moves: slot 0 is i, label 0 is loop, label 1 is done
abbrev pub loop_moved : Forest
loop_moved =
    forest
    (set 0 (number 0)
    ∷ Do
    (forest
    (Land 0
    ∷ Arm 1 (Some (int (Binary AtLeast (read 0) (number 3))))
    ∷ If (Off 1) (forest (writes 97 ∷ Evaluate (int (Count (Var (H.Slot 0)) true true)) ∷ Arm 0 None ∷ [])) Nil
    ∷ []))
    (On 0)
    ∷ Land 1
    ∷ Return (Some (number 0))
    ∷ [])

abbrev loop_plain : Forest
loop_plain =
    forest
    (set 0 (number 0)
    ∷ Do
    (forest
    (set 1 (number 0)
    ∷ set 2 (int (Binary AtLeast (read 0) (number 3)))
    ∷ If (Source (off 2)) (forest (writes 97 ∷ Evaluate (int (Count (Var (H.Slot 0)) true true)) ∷ set 1 (number 1) ∷ [])) Nil
    ∷ []))
    (Source (read 1))
    ∷ set 2 (number 0)
    ∷ Return (Some (number 0))
    ∷ [])

loop_tried : tidy (plain_list (slot_among 1 (0 ∷ 1 ∷ [])) loop_moved) ≡ loop_plain
loop_tried = refl

-- from section to section: slot 0 is x, label 0 is two
abbrev got_j : ExpressionTree
got_j = int (Binary Equal (int (Call (codes "getchar") NoArgument)) (number 106))

abbrev switch_moved : Forest
switch_moved =
    forest
    (Do
    (forest
    (Switch (Pick 0 (pos 3) (Selects (read 0)))
    (Section (number 1 ∷ []) false (forest (Arm 0 (Some got_j) ∷ If (Off 0) (forest (writes 97 ∷ [])) Nil ∷ [])) false
    (Section (number 2 ∷ []) false (forest (If (Off 0) (forest (writes 98 ∷ [])) Nil ∷ [])) false
    (Section (number 3 ∷ []) false (forest (If (OrOn 0 (Off 0)) (forest (If (Off 0) (forest (writes 99 ∷ [])) Nil ∷ Land 0 ∷ writes 100 ∷ [])) Nil ∷ [])) true
    (Section [] true (forest (writes 101 ∷ [])) false NoSection))))
    ∷ []))
    (On 0)
    ∷ Return (Some (number 0))
    ∷ [])

abbrev switch_plain : Forest
switch_plain =
    forest
    (Do
    (forest
    (Switch (Selects (int (Conditional (read 1) (number 3) (read 0))))
    (Section (number 1 ∷ []) false (forest (set 1 got_j ∷ If (Source (off 1)) (forest (writes 97 ∷ [])) Nil ∷ [])) false
    (Section (number 2 ∷ []) false (forest (If (Source (off 1)) (forest (writes 98 ∷ [])) Nil ∷ [])) false
    (Section (number 3 ∷ []) false (forest (If (Source (int (Binary OrElse (read 1) (off 1))))
    (forest (If (Source (off 1)) (forest (writes 99 ∷ [])) Nil ∷ set 1 (number 0) ∷ writes 100 ∷ [])) Nil ∷ [])) true
    (Section [] true (forest (writes 101 ∷ [])) false NoSection))))
    ∷ []))
    (Source (read 1))
    ∷ Return (Some (number 0))
    ∷ [])

switch_tried : tidy (plain_list (slot_among 1 (0 ∷ [])) switch_moved) ≡ switch_plain
switch_tried = refl

-- `if (n) goto L` for a number n: it is compared with 0
number_tried : plain_list (slot_among 1 (0 ∷ [])) (forest (Arm 0 (Some (read 0)) ∷ [])) ≡ forest (set 1 (int (Binary Unequal (read 0) (number 0))) ∷ [])
number_tried = refl

-- of three labels the second has no guard left
slots_tried : slot_among 4 (0 ∷ 2 ∷ []) 2 ≡ 5
slots_tried = refl

-- `case 1: case 2: x; break; case 3: break; case 4: default: ;` as the moves may leave it
sections_tried : tidy (forest (Switch (Selects (read 0)) (Section (number 1 ∷ []) false Nil false
    (Section (number 2 ∷ []) false (forest (writes 97 ∷ Break ∷ [])) false (Section (number 3 ∷ []) false (forest (Break ∷ [])) false
    (Section (number 4 ∷ []) false Nil false (Section [] true Nil false NoSection))))) ∷ []))
    ≡ forest (Switch (Selects (read 0)) (Section (number 1 ∷ number 2 ∷ []) false (forest (writes 97 ∷ [])) true
    (Section (number 3 ∷ []) false Nil true (Section (number 4 ∷ []) true Nil false NoSection))) ∷ [])
sections_tried = refl

-- negative numbers as constants
minus_tried : constant Int (negsuc 4) ≡ int (Unary Minus (number 5))
minus_tried = refl

least_tried : constant Int (negsuc 2147483647) ≡ int (Binary (Arith Sub) (int (Unary Minus (number 2147483647))) (number 1))
least_tried = refl
