-- The premises of the laws can be met: a jumpy loop with a `break` that becomes a goto, and a switch that stays.
use Rattle.std.proofs.Common.{ℕ, ◌≤◌, ◌<◌, pos, Bool, true, false, eqb, List, [], ◌∷◌, Some, IsSome, inl, ◌≡◌, refl, sym, ◌∙◌, subst, arith, true≢false, eqb-true}
use Rattle.std.proofs.lemmas.List.Elements.{All-from_recursion}
use Rattle.c_types.specs.declared.kinds.IntKind.TheVariants.{Int}
use Rattle.c_tree.specs.declared.tree.Slot.{Slot}
use Rattle.c_tree.specs.Constants.{IsConstant, constant_value}
use Rattle.c_tree.specs.Everywhere.{total}
use Rattle.c_tree.specs.ExpressionTrees.{ExpressionTree, Typed, Number}
use Rattle.c_tree.specs.TestTrees.{Source, Selects}
use Rattle.c_tree.specs.Trees.{Tree, Forest, Nil, Then, Sections, NoSection, Section, Evaluate, Return, If, Do, Switch, Break, Goto, Mark}
use Rattle.c_tree.specs.WellMade.{IsWellMade}
use Rattle.c_tree.specs.Changed.{one}
use Rattle.c_tree.specs.Conversions.{convert}
use Rattle.c_tree.specs.Numerals.{constant}
use Rattle.flat_laws.specs.Parts.{gotos_to, is_some_number}
use Rattle.flat_laws.specs.FlatForm.{flat_body}
use Rattle.flat_laws.specs.Source.{mark_bit, HasOwnLabels}
use Rattle.flat_laws.proofs.Counts.{one_if}
use Rattle.flat_laws.specs.FlatMade.{HasGoodCases}
use Rattle.flat_laws.specs.FlatWellMadeLaws.{IsGoodSource, label_count}
use Rattle.flat_laws.proofs.WellMade.{of_conversions}

abbrev list : List Tree → Forest
list [] = Nil
list (x ∷ xs) = Then x (list xs)

abbrev e : ExpressionTree
e = Typed (Some Int) (Number (pos 1))

abbrev arms : Sections
arms = Section (e ∷ []) true (list (Evaluate e ∷ Break ∷ [])) false NoSection

abbrev body : Forest
body = list (Mark 0 ∷ Do (list (Switch (Selects e) arms ∷ If (Source e) (one (Goto 0)) Nil ∷ If (Source e) (one Break) Nil ∷ [])) (Source e) ∷ Return
    (Some e) ∷ [])

abbrev slots : List Slot
slots = []

good : HasGoodCases (Selects e) arms
good = record {
  kind = refl;
  entered = (inl (omega arith), tt);
  default = omega arith;
  cases = record {
    constant = All-from_recursion IsConstant (e ∷ []) (tt, tt);
    untrapped = All-from_recursion (λ x. IsSome (constant_value x)) (e ∷ []) (refl, tt);
    distinct = λ i j d h k. absurd (omega (arith, h, k));
    few = omega arith;
  };
}

pub below_one : (b : Bool) → one_if b ≤ 1
below_one true = omega arith
below_one false = omega arith

one_goto : (l : ℕ) → total (gotos_to l) body ≡ one_if (eqb l 0)
one_goto l = omega arith

one_mark : (l : ℕ) → total (mark_bit l) body ≡ one_if (eqb l 0)
one_mark l = omega arith

pub no_mark : (l : ℕ) (b : Bool) → 1 ≤ l → eqb l 0 ≡ b → one_if b ≡ 0
no_mark l true h q = let e = eqb-true l 0 q in absurd (omega (arith, h, e))
no_mark l false h q = refl

some_one : (b : Bool) → is_some_number (one_if b) ≡ true → 0 < one_if b
some_one true h = omega arith
some_one false h = absurd (true≢false (sym h))

own : HasOwnLabels 1 body
own = record {
  once = λ l. let e = one_mark l in let h = below_one (eqb l 0) in omega (arith, e, h);
  all = λ l h. one_mark l ∙ no_mark l (eqb l 0) h refl;
  cases = (tt, ((tt, ((tt, ((tt, (tt, tt)), tt)), ((tt, (tt, tt), tt), ((tt, (tt, tt), tt), tt)))), (tt, tt)));
}

source : IsGoodSource 1 body
source = record {
  items = (tt, ((tt, (((tt, good), ((tt, (tt, tt)), tt)), ((tt, (tt, tt), tt), ((tt, (tt, tt), tt), tt)))), (tt, tt)));
  own = own;
  stand = λ l h. let i = some_one (eqb l 0) (subst (λ n. is_some_number n ≡ true) (one_goto l) h) in let e = one_mark l in omega (arith, i, e);
  cases = refl;
  bound = refl;
}

well_made : IsWellMade (convert (flat_body constant slots 1 body))
well_made = of_conversions constant slots 1 body source

-- it has two labels: the source's and that behind the loop
two_labels : label_count slots 1 body ≡ 2
two_labels = refl
