-- Kinds agree in a worked body.
use Rattle.std.proofs.Common.{pos, true, List, [], ◌∷◌, Some, arith}
use Rattle.std.proofs.lemmas.Int.{ints}
use Rattle.std.specs.Prelude.{codes}
use Rattle.c_types.specs.declared.kinds.IntKind.TheVariants.{Int}
use Rattle.c_types.specs.Numbers.{IsInRange, converted}
use Rattle.c_tree.specs.declared.tree.Slot.{Slot}
use Rattle.c_tree.specs.declared.tree.BinaryOp.TheVariants.{AtLeast}
use Rattle.c_tree.specs.declared.tree.Home.TheVariants as H
use Rattle.c_tree.specs.ExpressionTrees.{Var, Character, Assign, Binary, Call, NoArgument, arguments}
use Rattle.c_tree.specs.Everywhere.{Everywhere}
use Rattle.jump_meaning.specs.Code.{Code}
use Rattle.jump_meaning.proofs.ExampleWords.{int, number, read, slot, program}
use Rattle.plain_laws.specs.Kinded.{Kinded, k_number, k_character, k_read, k_binary, k_assign, k_count, k_call, KindedPlace, k_var, k_argument, k_none, KindedItem}
use Rattle.plain_laws.proofs.Tried.{loop_moved}

-- a program without prototypes: `putchar` is a function of the library
abbrev alone : Code
alone = program []

abbrev one_int : List Slot
one_int = slot Int ∷ []

i_var : KindedPlace alone one_int (Var (H.Slot 0))
i_var = k_var (H.Slot 0) (grind (arith))

i_read : Kinded alone one_int (read 0)
i_read = k_read (Var (H.Slot 0)) i_var

zero_k : Kinded alone one_int (number 0)
zero_k = k_number (Some Int) (pos 0) (record { from_least = grind (arith, ints); to_greatest = grind (arith, ints) })

three_k : Kinded alone one_int (number 3)
three_k = k_number (Some Int) (pos 3) (record { from_least = grind (arith, ints); to_greatest = grind (arith, ints) })

letter_k : Kinded alone one_int (int (Character 97))
unfolding converted
letter_k =
    let r : IsInRange Int (pos 97) = record { from_least = grind (arith, ints); to_greatest = grind (arith, ints) } in
    k_character (Some Int) 97 r

set_k : Kinded alone one_int (int (Assign (Var (H.Slot 0)) (number 0)))
set_k = k_assign (Var (H.Slot 0)) (number 0) i_var zero_k

writes_k : Kinded alone one_int (int (Call (codes "putchar") (arguments (int (Character 97) ∷ []))))
writes_k = k_call (codes "putchar") (arguments (int (Character 97) ∷ [])) (k_argument [] (int (Character 97)) NoArgument letter_k (k_none []))

least_k : Kinded alone one_int (int (Binary AtLeast (read 0) (number 3)))
least_k = k_binary AtLeast (read 0) (number 3) i_read three_k

loop_kinded : Everywhere (KindedItem alone one_int) loop_moved
loop_kinded = (
  set_k,
  (
    (tt, (tt, ((least_k, tt), ((tt, (writes_k, (k_count (Var (H.Slot 0)) true true i_var, (tt, tt))), tt), tt)))),
    (tt, (zero_k, tt)),
  ),
)
