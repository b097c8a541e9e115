-- Definitions tried on small values, by computation.
use Rattle.std.proofs.Common.{◌≡◌, ℕ, [], ◌∷◌, true, false, pos, negsuc, Some, None, refl}
use Rattle.c_types.specs.declared.kinds.ArithOp.TheVariants.{Add, Div, Shl}
use Rattle.c_types.specs.declared.kinds.IntKind.TheVariants.{Int, UInt}
use Rattle.c_types.specs.Numbers.{converted, arith_result}
use Rattle.c_tree.specs.declared.tree.BinaryOp.TheVariants.{Arith, Less, AndThen, OrElse}
use Rattle.c_tree.specs.declared.tree.UnaryOp.TheVariants.{Minus, Flip}
use Rattle.c_tree.specs.ExpressionTrees.{ExpressionTree, NodeTree, Typed, Number, Character, Unary, Cast, Binary, Conditional, Call, NoArgument}
use Rattle.c_tree.specs.TestTrees.{Source, Selects}
use Rattle.c_tree.specs.Trees.{Forest, Nil, Then, Evaluate, Return, If, While, Switch, NoSection, Section, Break, Continue, Arm, Leap, Land}
use Rattle.c_tree.specs.Labels.{jumps}
use Rattle.c_tree.specs.Exits.{breaks, continues}
use Rattle.c_tree.specs.Constants.{constant_value}
use Rattle.c_tree.specs.Cases.{case_numbers}
use Rattle.c_tree.specs.WellMade.{IsWellMade}

abbrev int : NodeTree → ExpressionTree
int n = Typed (Some Int) n

abbrev number : ℕ → ExpressionTree
number n = int (Number (pos n))

abbrev bad : ExpressionTree
bad = int (Binary (Arith Div) (number 1) (number 0))

-- 1 + 2
sum_value : constant_value (int (Binary (Arith Add) (number 1) (number 2))) ≡ Some (pos 3)
unfolding converted arith_result
sum_value = refl

-- 1 / 0
quotient_value : constant_value bad ≡ None
unfolding converted arith_result
quotient_value = refl

-- 0 && 1 / 0, 2 || 1 / 0, 1 && 5
and_value : constant_value (int (Binary AndThen (number 0) bad)) ≡ Some (pos 0)
unfolding converted arith_result
and_value = refl

or_value : constant_value (int (Binary OrElse (number 2) bad)) ≡ Some (pos 1)
unfolding converted arith_result
or_value = refl

both_value : constant_value (int (Binary AndThen (number 1) (number 5))) ≡ Some (pos 1)
unfolding converted arith_result
both_value = refl

-- 1 ? -2 : 1 / 0
conditional_value : constant_value (int (Conditional (number 1) (int (Unary Minus (number 2))) bad)) ≡ Some (negsuc 1)
unfolding converted arith_result
conditional_value = refl

-- 1 << 31, ~0, '\310', (unsigned)-1, -1 < 1U
shift_value : constant_value (int (Binary (Arith Shl) (number 1) (number 31))) ≡ None
unfolding converted arith_result
shift_value = refl

flip_value : constant_value (int (Unary Flip (number 0))) ≡ Some (negsuc 0)
unfolding converted arith_result
flip_value = refl

character_value : constant_value (int (Character 200)) ≡ Some (negsuc 55)
unfolding converted
character_value = refl

cast_value : constant_value (Typed (Some UInt) (Cast (int (Unary Minus (number 1))))) ≡ Some (pos 4294967295)
unfolding converted arith_result
cast_value = refl

less_value : constant_value (int (Binary Less (int (Unary Minus (number 1))) (Typed (Some UInt) (Number (pos 1))))) ≡ Some (pos 0)
unfolding converted arith_result
less_value = refl

-- while (1) { break; } switch (1) { case 3: break; continue; case 4: } if (1) { break; } else { break; }
abbrev exits : Forest
exits =
    Then (While (Source (number 1)) (Then Break Nil))
    (Then (Switch (Selects (number 1)) (Section (number 3 ∷ []) false (Then Break (Then Continue Nil)) false
    (Section (number 4 ∷ []) false Nil true NoSection)))
    (Then (If (Source (number 1)) (Then Break Nil) (Then Break Nil)) Nil))

breaks_out : breaks exits ≡ 2
breaks_out = refl

continues_out : continues exits ≡ 1
continues_out = refl

numbers_of_cases : case_numbers Int (Section (number 3 ∷ []) false Nil false (Section (number 4 ∷ number 5 ∷ []) true Nil true NoSection)) ≡ Some
    (pos 3) ∷ Some (pos 4) ∷ Some (pos 5) ∷ []
unfolding converted
numbers_of_cases = refl

-- a loop made of gotos: 0: if (f()) goto 1; f(); goto 0; 1: return 0;
abbrev call : ExpressionTree
call = int (Call [] NoArgument)

abbrev loop : Forest
loop = Then (Land 0) (Then (Arm 1 (Some call))
    (Then (Leap 1) (Then (Evaluate call) (Then (Arm 0 None) (Then (Leap 0) (Then (Land 1) (Then (Return (Some (number 0))) Nil)))))))

jumps_there : jumps loop ≡ 4
jumps_there = refl

loop_made : IsWellMade loop
loop_made = record {
  converted = (tt, (tt, (tt, (tt, (tt, (tt, (tt, (tt, tt))))))));
  landed = (tt, (refl, (refl, (tt, (refl, (refl, (tt, (tt, tt))))))));
  selectors = (tt, (tt, (tt, (tt, (tt, (tt, (tt, (tt, tt))))))));
  entries = (tt, (tt, (tt, (tt, (tt, (tt, (tt, (tt, tt))))))));
  cases = (tt, (tt, (tt, (tt, (tt, (tt, (tt, (tt, tt))))))));
  picks = (tt, (tt, (tt, (tt, (tt, (tt, (tt, (tt, tt))))))));
  loops = (tt, (tt, (tt, (tt, (tt, (tt, (tt, (tt, tt))))))));
  bound = refl;
  exits = (tt, (tt, (tt, (tt, (tt, (tt, (tt, (tt, tt))))))));
  tests = (tt, (tt, (tt, (tt, (tt, (tt, (tt, (tt, tt))))))));
}
