-- A body that is spelled is spelled without its labels, and where its sections get their plain form; and it nests no deeper.
use Rattle.std.proofs.Common.{◌≡◌, ℕ, ◌+◌, ◌≤◌, Bool, true, false, not, ◌&&◌, cond, List, [], ◌∷◌, ◌++◌, slice_get, refl, sym, ap, subst, arith}
use Rattle.std.specs.Prelude.{max}
use Rattle.c_tree.specs.declared.tree.Slot.{Slot}
use Rattle.c_tree.specs.declared.tree.Function.{Function}
use Rattle.c_tree.specs.ExpressionTrees.{ExpressionTree}
use Rattle.c_tree.specs.TestTrees.{TestTree}
use Rattle.c_tree.specs.Trees.{Tree, Forest, Nil, Then, Sections, NoSection, Section, Evaluate, Return, If, While, Do, For, Switch, Block, Local, Break, Continue, Goto, Mark, Arm, Leap, Land, Arrival, Note, join}
use Rattle.c_tree.specs.Everywhere.{Everywhere, EverywhereOf, EverywhereIn}
use Rattle.flat_laws.specs.Unlabelled.{unlabelled, unlabelled_item, unlabelled_among}
use Rattle.plain_laws.specs.Tidied.{last_break, without_last, give, tidy, tidy_item, tidy_sections}
use Rattle.whole_laws.proofs.Unlabelled.{IsPlainItem}
use Rattle.c_resolved_defs.specs.PrintableStatements.{FullPrints, OptionPrints, ListPrints, SlotPrints, TestPrints, SelectorPrints, FurtherPrint, StartPrints, depth, depth_of, depth_in}
use Rattle.c_resolved_defs.specs.Spelling.{ItemIsSpelled, AreSpelled, SectionsAreSpelled}

-- ---- first parts stay

further_left : (ss : List Slot) (a : Forest) → FurtherPrint ss a → unlabelled a ≡ a
further_left ss Nil h = refl
further_left ss (Then (Local k o) a) h = ap (Then (Local k o)) (further_left ss a h.1)
further_left ss (Then _ a) h = absurd h

start_left : (ss : List Slot) (a : Forest) → StartPrints ss a → unlabelled a ≡ a
start_left ss Nil h = refl
start_left ss (Then (Evaluate e) Nil) h = refl
start_left ss (Then (Local k o) a) h = ap (Then (Local k o)) (further_left ss a h.1)
start_left ss _ h = absurd h

further_tidy : (ss : List Slot) (a : Forest) → FurtherPrint ss a → tidy a ≡ a
further_tidy ss Nil h = refl
further_tidy ss (Then (Local k o) a) h = ap (Then (Local k o)) (further_tidy ss a h.1)
further_tidy ss (Then _ a) h = absurd h

start_tidy : (ss : List Slot) (a : Forest) → StartPrints ss a → tidy a ≡ a
start_tidy ss Nil h = refl
start_tidy ss (Then (Evaluate e) Nil) h = refl
start_tidy ss (Then (Local k o) a) h = ap (Then (Local k o)) (further_tidy ss a h.1)
start_tidy ss _ h = absurd h

-- ---- names and constants

list_join : (ss : List Slot) (n : ℕ) (xs ys : List ExpressionTree) → ListPrints ss n xs → ListPrints ss n ys → ListPrints ss n (xs ++ ys)
list_join ss n [] ys h i = i
list_join ss n (x ∷ xs) ys h i = (h.0, list_join ss n xs ys h.1 i)

module _ (f : Function) where
  spelled_join : (a b : Forest) → AreSpelled f a → AreSpelled f b → AreSpelled f (join a b)
  spelled_join Nil b h i = i
  spelled_join (Then x a) b h i = (h.0, spelled_join a b h.1 i)

  mutual
    spelled_left : (a : Forest) → AreSpelled f a → AreSpelled f (unlabelled a)
    spelled_left Nil h = tt
    spelled_left (Then x a) h = spelled_join (unlabelled_item x) (unlabelled a) (item_left x h.0) (spelled_left a h.1)

    item_left : (x : Tree) → ItemIsSpelled f x → AreSpelled f (unlabelled_item x)
    item_left (If t a b) h = ((h.0, spelled_left a h.1, spelled_left b h.2), tt)
    item_left (While t a) h = ((h.0, spelled_left a h.1), tt)
    item_left (Do a t) h = ((spelled_left a h.0, h.1), tt)
    item_left (For first t u a) h = ((subst (StartPrints f.slots) (sym (start_left f.slots first h.0)) h.0, h.1, h.2, spelled_left a h.3), tt)
    item_left (Switch s c) h = ((h.0, sections_left c h.1), tt)
    item_left (Block a) h = (spelled_left a h, tt)
    item_left (Mark l) h = tt
    item_left _ h = (h, tt)

    sections_left : (c : Sections) → SectionsAreSpelled f c → SectionsAreSpelled f (unlabelled_among c)
    sections_left NoSection h = tt
    sections_left (Section cases default a ends c) h = (h.0, spelled_left a h.1, sections_left c h.2)

  spelled_before : (a : Forest) → AreSpelled f a → AreSpelled f (without_last a)
  spelled_before Nil h = tt
  spelled_before (Then x Nil) h = tt
  spelled_before (Then x (Then y a)) h = (h.0, spelled_before (Then y a) h.1)

  give_spelled : (cases : List ExpressionTree) (default : Bool) (a : Forest) (ends : Bool) (c : Sections) → ListPrints f.slots 3 cases →
      AreSpelled f a → SectionsAreSpelled f c → SectionsAreSpelled f (give cases default a ends c)
  give_spelled cases default Nil false NoSection k h g = (k, h, g)
  give_spelled cases default Nil false (Section cases' default' b ends c) k h g = (list_join f.slots 3 cases cases' k g.0, g.1, g.2)
  give_spelled cases default Nil true c k h g = (k, h, g)
  give_spelled cases default (Then x a) ends c k h g = (k, h, g)

  put_spelled : (b : Bool) (cases : List ExpressionTree) (default : Bool) (a : Forest) (ends : Bool) (c : Sections) → ListPrints f.slots 3 cases →
      AreSpelled f a → SectionsAreSpelled f c
      → SectionsAreSpelled f (cond b (give cases default (without_last a) true c) (give cases default a ends c))
  put_spelled true cases default a ends c k h g = give_spelled cases default (without_last a) true c k (spelled_before a h) g
  put_spelled false cases default a ends c k h g = give_spelled cases default a ends c k h g

  mutual
    spelled_tidy : (a : Forest) → AreSpelled f a → AreSpelled f (tidy a)
    spelled_tidy Nil h = tt
    spelled_tidy (Then x a) h = (item_tidy x h.0, spelled_tidy a h.1)

    item_tidy : (x : Tree) → ItemIsSpelled f x → ItemIsSpelled f (tidy_item x)
    item_tidy (If t a b) h = (h.0, spelled_tidy a h.1, spelled_tidy b h.2)
    item_tidy (While t a) h = (h.0, spelled_tidy a h.1)
    item_tidy (Do a t) h = (spelled_tidy a h.0, h.1)
    item_tidy (For first t u a) h = (subst (StartPrints f.slots) (sym (start_tidy f.slots first h.0)) h.0, h.1, h.2, spelled_tidy a h.3)
    item_tidy (Switch s c) h = (h.0, sections_tidy c h.1)
    item_tidy (Block a) h = spelled_tidy a h
    item_tidy _ h = h

    sections_tidy : (c : Sections) → SectionsAreSpelled f c → SectionsAreSpelled f (tidy_sections c)
    sections_tidy NoSection h = tt
    sections_tidy (Section cases default a ends c) h = put_spelled (not ends && last_break (tidy a)) cases default (tidy a) ends (tidy_sections c) h.0
        (spelled_tidy a h.1) (sections_tidy c h.2)

-- a list without jumps is spelled alike in each function with these slots
module _ (f h : Function) (e : h.slots ≡ f.slots) where
  over : (P : List Slot → Type 0) → P f.slots → P h.slots
  over P i = subst P (sym e) i

  mutual
    spelled_over : (a : Forest) → Everywhere IsPlainItem a → AreSpelled f a → AreSpelled h a
    spelled_over Nil p k = tt
    spelled_over (Then x a) p k = (item_over x p.0 k.0, spelled_over a p.1 k.1)

    item_over : (x : Tree) → EverywhereOf IsPlainItem x → ItemIsSpelled f x → ItemIsSpelled h x
    item_over (If t a b) p k = (over (λ ss. TestPrints ss t) k.0, spelled_over a p.1 k.1, spelled_over b p.2 k.2)
    item_over (While t a) p k = (over (λ ss. TestPrints ss t) k.0, spelled_over a p.1 k.1)
    item_over (Do a t) p k = (spelled_over a p.1 k.0, over (λ ss. TestPrints ss t) k.1)
    item_over (For first t u a) p k = (
      over (λ ss. StartPrints ss first) k.0,
      over (λ ss. OptionPrints ss t) k.1,
      over (λ ss. OptionPrints ss u) k.2,
      spelled_over a p.2 k.3,
    )
    item_over (Switch s c) p k = (over (λ ss. SelectorPrints ss s) k.0, sections_over c p.1 k.1)
    item_over (Block a) p k = spelled_over a p.1 k
    item_over (Evaluate x) p k = over (λ ss. FullPrints ss 1 x) k
    item_over (Return x) p k = over (λ ss. OptionPrints ss x) k
    item_over (Local j o) p k = over (λ ss. SlotPrints ss (slice_get ss j) o) k
    item_over Break p k = tt
    item_over Continue p k = tt
    item_over (Goto l) p k = absurd p
    item_over (Mark l) p k = absurd p
    item_over (Arm l x) p k = absurd p
    item_over (Leap l) p k = absurd p
    item_over (Land l) p k = absurd p
    item_over (Arrival x) p k = absurd p
    item_over (Note bs) p k = k

    sections_over : (c : Sections) → EverywhereIn IsPlainItem c → SectionsAreSpelled f c → SectionsAreSpelled h c
    sections_over NoSection p k = tt
    sections_over (Section cases default a ends c) p k = (over (λ ss. ListPrints ss 3 cases) k.0, spelled_over a p.0 k.1, sections_over c p.1 k.2)

pub spelled_unmoved : (f h : Function) → h.slots ≡ f.slots → (a : Forest) → Everywhere IsPlainItem (tidy (unlabelled a)) → AreSpelled f a →
    AreSpelled h (tidy (unlabelled a))
spelled_unmoved f h e a p k = spelled_over f h e (tidy (unlabelled a)) p (spelled_tidy f (unlabelled a) (spelled_left f a k))

-- ---- nesting

pub depth_if : (t : TestTree) (a b : Forest) → depth_of (If t a b) ≡ max (depth a) (depth b) + 1
depth_if t a Nil = omega arith
depth_if t a (Then x b) = refl

pub depth_join : (a b : Forest) → depth (join a b) ≡ max (depth a) (depth b)
depth_join Nil b = omega arith
depth_join (Then x a) b = let e = depth_join a b in omega (arith, e)

mutual
  depth_left : (a : Forest) → depth (unlabelled a) ≤ depth a
  depth_left Nil = omega arith
  depth_left (Then x a) = let e = depth_join (unlabelled_item x) (unlabelled a) in let i = depth_left_of x in let j = depth_left a in omega (arith, e, i, j)

  depth_left_of : (x : Tree) → depth (unlabelled_item x) ≤ depth_of x
  depth_left_of (If t a b) = let i = depth_left a in let j = depth_left b in let p = depth_if t (unlabelled a) (unlabelled b) in let q =
      depth_if t a
      b in omega (arith, i, j, p, q)
  depth_left_of (While t a) = let i = depth_left a in omega (arith, i)
  depth_left_of (Do a t) = let i = depth_left a in omega (arith, i)
  depth_left_of (For first t u a) = let i = depth_left a in omega (arith, i)
  depth_left_of (Switch s c) = let i = depth_left_in c in omega (arith, i)
  depth_left_of (Block a) = let i = depth_left a in omega (arith, i)
  depth_left_of x = omega arith

  depth_left_in : (c : Sections) → depth_in (unlabelled_among c) ≤ depth_in c
  depth_left_in NoSection = omega arith
  depth_left_in (Section cases default a ends c) = let i = depth_left a in let j = depth_left_in c in omega (arith, i, j)

depth_before : (a : Forest) → depth (without_last a) ≤ depth a
depth_before Nil = omega arith
depth_before (Then x Nil) = omega arith
depth_before (Then x (Then y a)) = let i = depth_before (Then y a) in omega (arith, i)

depth_give : (cases : List ExpressionTree) (default : Bool) (a : Forest) (ends : Bool) (c : Sections) →
    depth_in (give cases default a ends c) ≤ max (depth a) (depth_in c)
depth_give cases default Nil false NoSection = omega arith
depth_give cases default Nil false (Section cases' default' b ends c) = omega arith
depth_give cases default Nil true c = omega arith
depth_give cases default (Then x a) ends c = omega arith

depth_put : (b : Bool) (cases : List ExpressionTree) (default : Bool) (a : Forest) (ends : Bool) (c : Sections) →
    depth_in (cond b (give cases default (without_last a) true c) (give cases default a ends c)) ≤ max (depth a) (depth_in c)
depth_put true cases default a ends c = let i = depth_give cases default (without_last a) true c in let j = depth_before a in omega (arith, i, j)
depth_put false cases default a ends c = depth_give cases default a ends c

mutual
  pub depth_tidy : (a : Forest) → depth (tidy a) ≤ depth a
  depth_tidy Nil = omega arith
  depth_tidy (Then x a) = let i = depth_tidy_of x in let j = depth_tidy a in omega (arith, i, j)

  depth_tidy_of : (x : Tree) → depth_of (tidy_item x) ≤ depth_of x
  depth_tidy_of (If t a b) = let i = depth_tidy a in let j = depth_tidy b in let p = depth_if t (tidy a) (tidy b) in let q = depth_if t a b in
      omega (arith, i, j, p, q)
  depth_tidy_of (While t a) = let i = depth_tidy a in omega (arith, i)
  depth_tidy_of (Do a t) = let i = depth_tidy a in omega (arith, i)
  depth_tidy_of (For first t u a) = let i = depth_tidy a in omega (arith, i)
  depth_tidy_of (Switch s c) = let i = depth_tidy_in c in omega (arith, i)
  depth_tidy_of (Block a) = let i = depth_tidy a in omega (arith, i)
  depth_tidy_of x = omega arith

  depth_tidy_in : (c : Sections) → depth_in (tidy_sections c) ≤ depth_in c
  depth_tidy_in NoSection = omega arith
  depth_tidy_in (Section cases default a ends c) =
      let p = depth_put (not ends && last_break (tidy a)) cases default (tidy a) ends (tidy_sections c) in
      let i = depth_tidy a in
      let j = depth_tidy_in c in omega (arith, p, i, j)

pub depth_unmoved : (a : Forest) → depth (tidy (unlabelled a)) ≤ depth a
depth_unmoved a = let i = depth_tidy (unlabelled a) in let j = depth_left a in omega (arith, i, j)
