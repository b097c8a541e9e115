-- A body in which guards are variables, and sections have their plain form, has facts of its expressions, where the body
-- has them and the expressions that guards become have them.
use Rattle.std.proofs.Common.{ℕ, pos, Bool, true, false, not, ◌&&◌, cond, List, ◌++◌, Option, Some, None, ◌≡◌, refl, sym, ap, subst, ◌∙◌, append_assoc}
use Rattle.std.specs.Prelude.{IfSome}
use Rattle.std.specs.List.{AllByRecursion}
use Rattle.c_types.specs.declared.kinds.IntKind.TheVariants.{Int}
use Rattle.c_tree.specs.declared.tree.Home.TheVariants as Home
use Rattle.c_tree.specs.declared.tree.BinaryOp.TheVariants.{AndThen, OrElse}
use Rattle.c_tree.specs.Cases.{selector_source, all_cases, ArePicks}
use Rattle.c_tree.specs.ExpressionTrees.{ExpressionTree, Typed, Var, Binary, Assign}
use Rattle.c_tree.specs.Numerals.{number}
use Rattle.c_tree.specs.TestTrees.{TestTree, Source, On, Off, AndOff, OrOn, SelectorTree}
use Rattle.c_tree.specs.Trees.{Tree, Forest, Nil, Then, Sections, NoSection, Section, Evaluate, Return, If, While, Do, For, Switch, Block, Local, Break, Continue, Goto, Mark, Arm, Leap, Land, Arrival, Note}
use Rattle.c_tree.specs.Labels.{TestLabels, SelectorLabels}
use Rattle.c_tree.specs.Everywhere.{Everywhere}
use Rattle.jump_meaning.specs.Step.{switch_kind}
use Rattle.plain_laws.specs.GuardSlots.{guard, guard_off, truth, plain_test, plain_selector, armed, plain_list, plain_item, plain_sections}
use Rattle.plain_laws.specs.Slotted.{ArmLabels, PicksFit}
use Rattle.plain_laws.specs.Tidied.{last_break, without_last, give, tidy, tidy_item, tidy_sections}
use Rattle.plain_laws.proofs.PlainRange.{tidy_everywhere, plain_everywhere}
use Rattle.c_resolved_defs.specs.Within.{TestExpression}
use Rattle.whole_laws.proofs.Facts.{ItemHas}

-- ---- cases stay, in their order

pub plain_cases : (slot : ℕ → ℕ) (c : Sections) → all_cases (plain_sections slot c) ≡ all_cases c
plain_cases slot NoSection = refl
plain_cases slot (Section cases default a ends c) = ap (λ es. cases ++ es) (plain_cases slot c)

give_cases : (cases : List ExpressionTree) (default : Bool) (a : Forest) (ends : Bool) (c : Sections) →
    all_cases (give cases default a ends c) ≡ cases ++ all_cases c
give_cases cases default Nil false NoSection = refl
give_cases cases default Nil false (Section cases' default' b ends c) = append_assoc cases cases' (all_cases c)
give_cases cases default Nil true c = refl
give_cases cases default (Then x a) ends c = refl

put_cases : (b : Bool) (cases : List ExpressionTree) (default : Bool) (a : Forest) (ends : Bool) (c : Sections)
    → all_cases (cond b (give cases default (without_last a) true c) (give cases default a ends c)) ≡ cases ++ all_cases c
put_cases true cases default a ends c = give_cases cases default (without_last a) true c
put_cases false cases default a ends c = give_cases cases default a ends c

pub tidy_cases : (c : Sections) → all_cases (tidy_sections c) ≡ all_cases c
tidy_cases NoSection = refl
tidy_cases (Section cases default a ends c) = put_cases (not ends && last_break (tidy a)) cases default (tidy a) ends (tidy_sections c) ∙
    ap (λ es. cases ++ es) (tidy_cases c)

-- ---- guards

module _ (V O C : ExpressionTree → Type 0) (R : Option ExpressionTree → Type 0) (N : List ℕ → Type 0) where
  abbrev H : Tree → Type 0
  H x = ItemHas V O C R N x

  -- what is asked of the expressions that the guards of these labels become
  pub record GuardFacts (slot : ℕ → ℕ) (Left : ℕ → Type 0) : Type 0 where
    pub on : (l : ℕ) → Left l → V (guard (slot l))
    pub off : (l : ℕ) → Left l → V (guard_off (slot l))
    pub and : (l : ℕ) (e : ExpressionTree) → Left l → V e → V (Typed (Some Int) (Binary AndThen (guard_off (slot l)) e))
    pub or : (l : ℕ) (e : ExpressionTree) → Left l → V e → V (Typed (Some Int) (Binary OrElse (guard (slot l)) e))
    pub picks : (s : SelectorTree) → V (selector_source s) → SelectorLabels Left s → ArePicks (switch_kind s) s → V (plain_selector slot s)
    pub truths : (e : ExpressionTree) → V e → V (truth e)
    pub sets : (l : ℕ) (e : ExpressionTree) → Left l → V e → O (Typed (Some Int) (Assign (Var (Home.Slot (slot l))) e))
    pub one : V (number Int (pos 1))
    pub zero : V (number Int (pos 0))

  module _ (slot : ℕ → ℕ) (Left : ℕ → Type 0) (g : GuardFacts slot Left) where
    test_plain : (t : TestTree) → TestExpression V t → TestLabels Left t → V (plain_test slot t)
    test_plain (Source e) h l = h
    test_plain (On m) h l = g.on m l
    test_plain (Off m) h l = g.off m l
    test_plain (AndOff m t) h l = g.and m (plain_test slot t) l.0 (test_plain t h l.1)
    test_plain (OrOn m t) h l = g.or m (plain_test slot t) l.0 (test_plain t h l.1)

    armed_plain : (e : Option ExpressionTree) → IfSome e V → V (armed e)
    armed_plain None h = g.one
    armed_plain (Some e) h = g.truths e h

    abbrev Guarded : Tree → Type 0
    Guarded x = H x × (ArmLabels Left x × PicksFit x)

    item_plain : (x : Tree) → Guarded x → H (plain_item slot x)
    item_plain (If t a b) h = test_plain t h.0 h.1.0
    item_plain (While t a) h = test_plain t h.0 h.1.0
    item_plain (Do a t) h = test_plain t h.0 h.1.0
    item_plain (For first t u a) h = h.0
    item_plain (Switch s c) h = (g.picks s h.0.0 h.1.0 h.1.1, subst (AllByRecursion C) (sym (plain_cases slot c)) h.0.1)
    item_plain (Block a) h = tt
    item_plain (Arm l e) h = g.sets l (armed e) h.1.0 (armed_plain e h.0)
    item_plain (Land l) h = g.sets l (number Int (pos 0)) h.1.0 g.zero
    item_plain (Evaluate e) h = h.0
    item_plain (Return e) h = h.0
    item_plain (Local x es) h = h.0
    item_plain Break h = tt
    item_plain Continue h = tt
    item_plain (Goto l) h = tt
    item_plain (Mark l) h = tt
    item_plain (Leap l) h = tt
    item_plain (Arrival e) h = tt
    item_plain (Note bs) h = h.0

    pub facts_plain : (a : Forest) → Everywhere Guarded a → Everywhere H (plain_list slot a)
    facts_plain a h = plain_everywhere slot Guarded H item_plain a h

  -- ---- sections

  item_tidy : (x : Tree) → H x → H (tidy_item x)
  item_tidy (Switch s c) h = (h.0, subst (AllByRecursion C) (sym (tidy_cases c)) h.1)
  item_tidy (If t a b) h = h
  item_tidy (While t a) h = h
  item_tidy (Do a t) h = h
  item_tidy (For first t u a) h = h
  item_tidy (Block a) h = tt
  item_tidy (Evaluate e) h = h
  item_tidy (Return e) h = h
  item_tidy (Local x es) h = h
  item_tidy Break h = tt
  item_tidy Continue h = tt
  item_tidy (Goto l) h = tt
  item_tidy (Mark l) h = tt
  item_tidy (Arm l e) h = h
  item_tidy (Leap l) h = tt
  item_tidy (Land l) h = tt
  item_tidy (Arrival e) h = tt
  item_tidy (Note bs) h = h

  pub facts_tidy : (a : Forest) → Everywhere H a → Everywhere H (tidy a)
  facts_tidy a h = tidy_everywhere H item_tidy a h
