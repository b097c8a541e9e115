-- The premises of the laws can be met: a loop with a label inside, and a `continue` and a `break` that become gotos.
use Rattle.std.proofs.Common.{ℕ, pos, Bool, true, false, cond, eqb, List, [], ◌∷◌, Some, None, inl, inr, ◌≡◌, refl, sym, ◌∙◌, subst, arith, true≢false, eqb-true}
use Rattle.c_types.specs.declared.kinds.IntKind.TheVariants.{Int}
use Rattle.c_tree.specs.declared.tree.Slot.{Slot}
use Rattle.c_tree.specs.ExpressionTrees.{ExpressionTree, Typed, Number}
use Rattle.c_tree.specs.TestTrees.{Source}
use Rattle.c_tree.specs.Trees.{Forest, forest, Nil, Evaluate, Return, If, For, Local, Break, Continue, Goto, Mark}
use Rattle.c_tree.specs.Changed.{one}
use Rattle.jump_meaning.specs.Code.{FunctionTree}
use Rattle.flat_laws.specs.Pieces.{Stays}
use Rattle.flat_laws.specs.Placed.{Has, IsOnce}
use Rattle.c_tree.specs.Numerals.{constant}
use Rattle.flat_laws.specs.Loose.{Setting, NoArrival, IsLooser}
use Rattle.flat_laws.proofs.Spelled.{spelled_numbers}
use Rattle.c_tree.specs.Everywhere.{total}
use Rattle.flat_laws.specs.Parts.{Here, gotos_to, is_some_number}
use Rattle.flat_laws.specs.FlatForm.{Plan, flat, marks, coded, numbered, first_here, flat_body}
use Rattle.flat_laws.specs.Source.{HasOwnLabels, mark_bit}
use Rattle.flat_laws.specs.FlatLaws.{IsSourceBody}
use Rattle.flat_laws.proofs.Counts.{one_if}
use Rattle.flat_laws.proofs.Once.{flat_once}
use Rattle.flat_laws.proofs.Flattened.{of_functions}
use Rattle.flat_laws.proofs.FlatWellMadeInstance.{below_one, no_mark}

abbrev e : ExpressionTree
e = Typed (Some Int) (Number (pos 1))

abbrev slots : List Slot
slots = record { name = []; kind = Int; cells = None; constant = false } ∷ []

abbrev body : Forest
body = forest (
    Local 0 None
    ∷ For (one (Evaluate e)) (Some e) (Some e)
    (forest (Mark 0 ∷ If (Source e) (one Continue) Nil ∷ If (Source e) (one Break) Nil ∷ If (Source e) (one (Goto 0)) Nil ∷ []))
    ∷ Return (Some e)
    ∷ []
    )

abbrev here : Here
here = first_here 1

abbrev plan : Plan
plan = numbered (marks (flat (coded constant slots 1 body) here Stays Stays NoArrival body)) (coded constant slots 1 body)

abbrev setting : Setting
setting = record {
  labels = λ l. cond (plan.live l) (Some (plan.source l)) None;
  params = 0;
  old = slots;
  new = slots;
  number = constant;
  numbers = spelled_numbers;
}

abbrev before : FunctionTree
before = record { result = Some Int; params = 0; slots = slots; body = Some body }

abbrev after : FunctionTree
after = record { result = Some Int; params = 0; slots = slots; body = Some (flat_body constant slots 1 body) }

one_goto : (l : ℕ) → total (gotos_to l) body ≡ one_if (eqb l 0)
one_goto l = omega arith

one_mark : (l : ℕ) → total (mark_bit l) body ≡ one_if (eqb l 0)
one_mark l = omega arith

is_zero : (l : ℕ) (b : Bool) → eqb l 0 ≡ b → is_some_number (one_if b) ≡ true → l ≡ 0
is_zero l true q h = eqb-true l 0 q
is_zero l false q h = absurd (true≢false (sym h))

named : (l : ℕ) → plan.live l ≡ true → Has l body
named l h = inr (inl (inl (is_zero l (eqb l 0) refl (subst (λ n. is_some_number n ≡ true) (one_goto l) h))))

source : IsSourceBody plan setting here body
source = record {
  labels = λ l. refl;
  slots = λ x h. refl;
  number = refl;
  items = (tt, (((tt, tt, refl), (tt, tt), (tt, ((tt, (tt, tt), tt), ((tt, (tt, tt), tt), ((tt, (refl, tt), tt), tt))))), (tt, tt)));
  variables = (tt, (((tt, tt), (tt, (((tt, tt), tt), (((tt, tt), tt), (((tt, tt), tt), tt))))), (tt, tt)));
  bound = refl;
}

own : HasOwnLabels 1 body
own = record {
  once = λ l. let e = one_mark l in let h = below_one (eqb l 0) in omega (arith, e, h);
  all = λ l h. one_mark l ∙ no_mark l (eqb l 0) h refl;
  cases = (tt, ((tt, (tt, tt), (tt, ((tt, (tt, tt), tt), ((tt, (tt, tt), tt), ((tt, (tt, tt), tt), tt))))), (tt, tt)));
}

first_once : IsOnce body
first_once l = let h = below_one (eqb l 0) in omega (arith, h)

looser : IsLooser before after
looser = of_functions plan setting here before after
    (record {
      defined = refl;
      new_defined = refl;
      source = source;
      body = refl;
      named = named;
      result = refl;
      params = refl;
      slots = (refl, refl, tt);
      same_params = refl;
      same_old = refl;
      same_new = refl;
    })
    first_once (flat_once constant slots 1 body own)
