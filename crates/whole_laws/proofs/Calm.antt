-- A source function without jumps has no goto and no nested case label.
use Rattle.std.proofs.Common.{◌≡◌, ℕ, ◌+◌, arith, Bool, true, false, cond, not, ◌||◌, List, [], ◌∷◌, Some, None, refl}
use Rattle.c_tree.specs.declared.tree.Function.{Function}
use Rattle.c_tree.specs.ExpressionTrees.{ExpressionTree}
use Rattle.c_tree.specs.TestTrees.{TestTree, Source, SelectorTree, Selects, Pick}
use Rattle.c_tree.specs.Trees.{Tree, Forest, Nil, Then, Sections, NoSection, Section, Evaluate, Return, If, While, Do, For, Switch, Block, Local, Break, Continue, Goto, Mark, Arm, Leap, Land, Arrival, Note}
use Rattle.c_tree.specs.Everywhere.{total, total_of, total_in, Everywhere, EverywhereOf, EverywhereIn}
use Rattle.c_tree.specs.InRange.{body_of}
use Rattle.flat_laws.specs.Loose.{Setting, AreIn}
use Rattle.c_tree.specs.TextItems.{is_empty}
use Rattle.flat_laws.specs.Parts.{arrivals, arrivals_in, is_scattered, jumps_of, has_jumps}
use Rattle.flat_laws.specs.Source.{InTest, InSelector, IsSourceItem}
use Rattle.flat_laws.specs.Unlabelled.{IsCalmItem}
use Rattle.flat_laws.proofs.Hopless.{some_number}
use Rattle.flat_laws.proofs.LooserItems.{empty_left, empty_right}
use Rattle.whole_laws.specs.Rewritten.{setting, without_labels}
use Rattle.whole_laws.proofs.Source.{IsSourceFunction}

-- ---- without jumps

not_one : (b : Bool) (n : ℕ) → cond b 1 0 + n ≡ 0 → b ≡ false
not_one true n h = absurd (omega (arith, h))
not_one false n h = refl

first_false : (b c : Bool) → (not b || c) ≡ false → b ≡ true
first_false true c h = refl
first_false false c h = cc

second_false : (b c : Bool) → (not b || c) ≡ false → c ≡ false
second_false true c h = h
second_false false c h = cc

module _ (f : Function) (live : ℕ → Bool) where
  abbrev F : Setting
  F = setting f f

  abbrev W : Setting
  W = without_labels f f

  test_in : (t : TestTree) → InTest F t → InTest W t
  test_in (Source e) h = h
  test_in _ h = h

  selector_in : (t : SelectorTree) → InSelector F t → InSelector W t
  selector_in (Selects e) h = h
  selector_in (Pick l n t) h = h

  all_in : (es : List ExpressionTree) → AreIn F es → AreIn W es
  all_in [] h = tt
  all_in (e ∷ es) h = (h.0, all_in es h.1)

  mutual
    calm : (a : Forest) → Everywhere (IsSourceItem F live) a → total jumps_of a ≡ 0 → is_empty (arrivals a) ≡ true → Everywhere (IsCalmItem W) a
    calm Nil h j r = tt
    calm (Then x a) h j r = (
      calm_of x h.0 (omega (arith, j)) (empty_left (arrivals_in x) (arrivals a) r),
      calm a h.1 (omega (arith, j)) (empty_right (arrivals_in x) (arrivals a) r),
    )

    calm_of : (x : Tree) → EverywhereOf (IsSourceItem F live) x → total_of jumps_of x ≡ 0 → is_empty (arrivals_in x) ≡ true → EverywhereOf (IsCalmItem W) x
    calm_of (If t a b) h j r = (
      test_in t h.0,
      calm a h.1 (omega (arith, j)) (empty_left (arrivals a) (arrivals b) r),
      calm b h.2 (omega (arith, j)) (empty_right (arrivals a) (arrivals b) r),
    )
    calm_of (While t a) h j r = (test_in t h.0, calm a h.1 (omega (arith, j)) r)
    calm_of (Do a t) h j r = (test_in t h.0, calm a h.1 (omega (arith, j)) r)
    calm_of (For first t u a) h j r = (h.0, calm first h.1 (omega (arith, j)) h.0.2, calm a h.2 (omega (arith, j)) r)
    calm_of (Switch t c) h j r = (selector_in t h.0, calm_in c h.1 (omega (arith, j)) (not_one (is_scattered c) (total_in jumps_of c) j))
    calm_of (Block a) h j r = (tt, calm a h.1 (omega (arith, j)) r)
    calm_of (Goto l) h j r = absurd (omega (arith, j))
    calm_of (Arrival e) h j r = cc
    calm_of (Local x None) h j r = tt
    calm_of (Local x (Some es)) h j r = (h.0, h.1, all_in es h.2)
    calm_of (Evaluate e) h j r = h
    calm_of (Return e) h j r = h
    calm_of Break h j r = tt
    calm_of Continue h j r = tt
    calm_of (Mark l) h j r = tt
    calm_of (Arm l e) h j r = h
    calm_of (Leap l) h j r = h
    calm_of (Land l) h j r = h
    calm_of (Note bs) h j r = tt

    calm_in : (c : Sections) → EverywhereIn (IsSourceItem F live) c → total_in jumps_of c ≡ 0 → is_scattered c ≡ false → EverywhereIn (IsCalmItem W) c
    calm_in NoSection h j r = tt
    calm_in (Section cases default a ends c) h j r = (
      calm a h.0 (omega (arith, j)) (first_false (is_empty (arrivals a)) (is_scattered c) r),
      calm_in c h.1 (omega (arith, j)) (second_false (is_empty (arrivals a)) (is_scattered c) r),
    )

pub source_calm : (f : Function) → IsSourceFunction f → has_jumps (body_of f) ≡ false → Everywhere (IsCalmItem (without_labels f f)) (body_of f)
source_calm f s free = calm f _ (body_of f) s.items (some_number (total jumps_of (body_of f)) free) s.good.cases
