-- The premises of the laws can be met: a declaration with an initialiser, and a loop with an `if` and a `continue`.
use Rattle.std.proofs.Common.{ℕ, zero, suc, ◌+◌, ◌≤◌, pos, false, cond, eqb, List, [], ◌∷◌, Some, None, refl, sym, arith, true≢false}
use Rattle.c_types.specs.declared.kinds.IntKind.TheVariants.{Int}
use Rattle.c_tree.specs.declared.tree.Slot.{Slot}
use Rattle.c_tree.specs.ExpressionTrees.{ExpressionTree, Typed, Number}
use Rattle.c_tree.specs.TestTrees.{Source}
use Rattle.c_tree.specs.Trees.{Forest, forest, Nil, Evaluate, Return, If, While, Local, Continue}
use Rattle.c_tree.specs.Changed.{one}
use Rattle.c_tree.specs.Numerals.{constant}
use Rattle.jump_meaning.specs.Code.{FunctionTree}
use Rattle.flat_laws.specs.Pieces.{Stays}
use Rattle.flat_laws.specs.Placed.{IsOnce}
use Rattle.flat_laws.specs.Loose.{Setting, NoArrival}
use Rattle.flat_laws.proofs.Spelled.{spelled_numbers}
use Rattle.flat_laws.specs.Parts.{Here}
use Rattle.flat_laws.specs.FlatForm.{marks, first_here}
use Rattle.lower_laws.specs.Lowered.{Layout, lowered, coded, placed, lowered_body}
use Rattle.lower_laws.specs.Source.{IsSourceBody}
use Rattle.lower_laws.specs.Functions.{IsLowered}

abbrev e : ExpressionTree
e = Typed (Some Int) (Number (pos 1))

abbrev slots : List Slot
slots = record { name = []; kind = Int; cells = None; constant = false } ∷ []

abbrev body : Forest
body = forest (Local 0 (Some (e ∷ [])) ∷ While (Source e) (forest (If (Source e) (one Continue) Nil ∷ Evaluate e ∷ [])) ∷ Return (Some e) ∷ [])

abbrev here : Here
here = first_here 1

abbrev layout : Layout
layout = placed (marks (lowered (coded constant slots body) here Stays Stays NoArrival body)) (coded constant slots body)

abbrev setting : Setting
setting = record {
  labels = λ l. cond (layout.plan.live l) (Some (layout.plan.source l)) None;
  params = 0;
  old = slots;
  new = slots;
  number = constant;
  numbers = spelled_numbers;
}

abbrev before : FunctionTree
before = record { result = Some Int; params = 0; slots = slots; body = Some body }

abbrev after : FunctionTree
after = record { result = Some Int; params = 0; slots = slots; body = Some (lowered_body constant 0 slots body) }

source : IsSourceBody layout setting here body
source = record {
  labels = λ l. refl;
  slots = λ x h. refl;
  number = refl;
  items = (((omega arith, omega arith), tt, (tt, tt)), ((tt, ((tt, (tt, tt), tt), (tt, tt))), (tt, tt)));
  variables = (tt, ((((tt, tt), tt), (tt, tt)), (tt, tt)));
  bound = refl;
}

first_once : IsOnce body
first_once l = omega arith

-- at most one of five numbers is l
bits : (l : ℕ) → cond (eqb l 0) 1 0 + (cond (eqb l 1) 1 0 + (cond (eqb l 2) 1 0 + (cond (eqb l 3) 1 0 + cond (eqb l 4) 1 0))) ≤ 1
bits zero = omega arith
bits (suc zero) = omega arith
bits (suc (suc zero)) = omega arith
bits (suc (suc (suc zero))) = omega arith
bits (suc (suc (suc (suc zero)))) = omega arith
bits (suc (suc (suc (suc (suc l))))) = grind arith

once : IsOnce (lowered_body constant 0 slots body)
once l = let h = bits l in omega (arith, h)

is_lowered : IsLowered before after
is_lowered = record {
  layout = layout;
  setting = setting;
  here = here;
  first = 0;
  count = 1;
  defined = refl;
  new_defined = refl;
  source = source;
  unbroken = refl;
  uncontinued = refl;
  body = refl;
  named = λ l h. absurd (true≢false (sym h));
  once = first_once;
  new_once = once;
  result = refl;
  params = refl;
  slots = (refl, refl, tt);
  same_params = refl;
  same_old = refl;
  same_new = refl;
}
