-- Facts of the items of a list without guards that go, from facts of the items of the list.
use Rattle.std.proofs.Common.{ℕ, ◌≤◌, Bool, true, false, cond, Option, Some, None, ◌≡◌, refl, arith}
use Rattle.c_tree.specs.ExpressionTrees.{ExpressionTree}
use Rattle.c_tree.specs.TestTrees.{TestTree, SelectorTree}
use Rattle.c_tree.specs.Trees.{Tree, Forest, Nil, Then, Sections, NoSection, Section, Evaluate, Return, If, While, Do, For, Switch, Block, Local, Break, Continue, Goto, Mark, Arm, Leap, Land, Arrival, Note}
use Rattle.c_tree.specs.Everywhere.{total, total_of, total_in, Everywhere, EverywhereOf, EverywhereIn}
use Rattle.c_tree.specs.Changed.{one}
use Rattle.c_tree.specs.Exits.{breaks, breaks_of, breaks_in, continues, continues_of, continues_in}
use Rattle.c_tree.proofs.KeptLemmas.{everywhere_join, total-join}
use Rattle.c_tree.proofs.ExitsKept.{breaks-join, continues-join}
use Rattle.move_laws.specs.Drops.{dropped, dropped_item, dropped_sections}

-- an item that holds no others and is no Arm and no Land: it stays as it is
abbrev pub IsOther : Tree → Type 0
IsOther (If t a b) = ⊥
IsOther (While t a) = ⊥
IsOther (Do a t) = ⊥
IsOther (For first t u a) = ⊥
IsOther (Switch s c) = ⊥
IsOther (Block a) = ⊥
IsOther (Arm l e) = ⊥
IsOther (Land l) = ⊥
IsOther _ = Unit {0}

-- Q holds of what an item for which P holds becomes
pub record Becomes (d : ℕ → Bool) (P Q : Tree → Type 0) : Type 0 where
  pub arm : (l : ℕ) (e : Option ExpressionTree) → d l ≡ false → P (Arm l e) → Q (Arm l e)
  pub arm_if : (l : ℕ) (e : ExpressionTree) → d l ≡ true → P (Arm l (Some e)) → Q (Evaluate e)
  pub land : (l : ℕ) → d l ≡ false → P (Land l) → Q (Land l)
  pub ifs : (t : TestTree) (a b : Forest) → P (If t a b) → Q (If t (dropped d a) (dropped d b))
  pub whiles : (t : TestTree) (a : Forest) → P (While t a) → Q (While t (dropped d a))
  pub dos : (t : TestTree) (a : Forest) → P (Do a t) → Q (Do (dropped d a) t)
  pub fors : (first : Forest) (t u : Option ExpressionTree) (a : Forest) → P (For first t u a) → Q (For (dropped d first) t u (dropped d a))
  pub switches : (s : SelectorTree) (c : Sections) → P (Switch s c) → Q (Switch s (dropped_sections d c))
  pub blocks : (a : Forest) → P (Block a) → Q (Block (dropped d a))
  pub others : (x : Tree) → IsOther x → P x → Q x

module _ (d : ℕ → Bool) (P Q : Tree → Type 0) (k : Becomes d P Q) where
  arm_becomes : (l : ℕ) (b : Bool) → d l ≡ b → P (Arm l None) → Everywhere Q (cond b Nil (one (Arm l None)))
  arm_becomes l true e h = tt
  arm_becomes l false e h = (k.arm l None e h, tt)

  arm_if_becomes : (l : ℕ) (x : ExpressionTree) (b : Bool) → d l ≡ b → P (Arm l (Some x)) → Everywhere Q (cond b (one (Evaluate x)) (one (Arm l (Some x))))
  arm_if_becomes l x true e h = (k.arm_if l x e h, tt)
  arm_if_becomes l x false e h = (k.arm l (Some x) e h, tt)

  land_becomes : (l : ℕ) (b : Bool) → d l ≡ b → P (Land l) → Everywhere Q (cond b Nil (one (Land l)))
  land_becomes l true e h = tt
  land_becomes l false e h = (k.land l e h, tt)

  mutual
    pub becomes : (a : Forest) → Everywhere P a → Everywhere Q (dropped d a)
    becomes Nil h = tt
    becomes (Then x a) h = everywhere_join Q (dropped_item d x) (dropped d a) (becomes_of x h.0) (becomes a h.1)

    becomes_of : (x : Tree) → EverywhereOf P x → Everywhere Q (dropped_item d x)
    becomes_of (If t a b) h = ((k.ifs t a b h.0, becomes a h.1, becomes b h.2), tt)
    becomes_of (While t a) h = ((k.whiles t a h.0, becomes a h.1), tt)
    becomes_of (Do a t) h = ((k.dos t a h.0, becomes a h.1), tt)
    becomes_of (For first t u a) h = ((k.fors first t u a h.0, becomes first h.1, becomes a h.2), tt)
    becomes_of (Switch s c) h = ((k.switches s c h.0, becomes_in c h.1), tt)
    becomes_of (Block a) h = ((k.blocks a h.0, becomes a h.1), tt)
    becomes_of (Arm l None) h = arm_becomes l (d l) refl h
    becomes_of (Arm l (Some e)) h = arm_if_becomes l e (d l) refl h
    becomes_of (Land l) h = land_becomes l (d l) refl h
    becomes_of (Evaluate e) h = (k.others (Evaluate e) tt h, tt)
    becomes_of (Return e) h = (k.others (Return e) tt h, tt)
    becomes_of (Local x es) h = (k.others (Local x es) tt h, tt)
    becomes_of Break h = (k.others Break tt h, tt)
    becomes_of Continue h = (k.others Continue tt h, tt)
    becomes_of (Goto l) h = (k.others (Goto l) tt h, tt)
    becomes_of (Mark l) h = (k.others (Mark l) tt h, tt)
    becomes_of (Leap l) h = (k.others (Leap l) tt h, tt)
    becomes_of (Arrival e) h = (k.others (Arrival e) tt h, tt)
    becomes_of (Note bs) h = (k.others (Note bs) tt h, tt)

    becomes_in : (c : Sections) → EverywhereIn P c → EverywhereIn Q (dropped_sections d c)
    becomes_in NoSection h = tt
    becomes_in (Section cases default a ends c) h = (becomes a h.0, becomes_in c h.1)

-- ---- exits stay

module _ (d : ℕ → Bool) where
  arm_breaks : (l : ℕ) (b : Bool) → breaks (cond b Nil (one (Arm l None))) ≡ 0
  arm_breaks l true = refl
  arm_breaks l false = refl

  arm_if_breaks : (l : ℕ) (e : ExpressionTree) (b : Bool) → breaks (cond b (one (Evaluate e)) (one (Arm l (Some e)))) ≡ 0
  arm_if_breaks l e true = refl
  arm_if_breaks l e false = refl

  land_breaks : (l : ℕ) (b : Bool) → breaks (cond b Nil (one (Land l))) ≡ 0
  land_breaks l true = refl
  land_breaks l false = refl

  mutual
    pub drop_breaks : (a : Forest) → breaks (dropped d a) ≡ breaks a
    drop_breaks Nil = refl
    drop_breaks (Then x a) = let i = breaks-join (dropped_item d x) (dropped d a) in let p = drop_breaks_of x in let q = drop_breaks a in omega (arith, i, p, q)

    drop_breaks_of : (x : Tree) → breaks (dropped_item d x) ≡ breaks_of x
    drop_breaks_of (If t a b) = let p = drop_breaks a in let q = drop_breaks b in omega (arith, p, q)
    drop_breaks_of (For first t u a) = let p = drop_breaks first in omega (arith, p)
    drop_breaks_of (Block a) = let p = drop_breaks a in omega (arith, p)
    drop_breaks_of (Arm l None) = arm_breaks l (d l)
    drop_breaks_of (Arm l (Some e)) = arm_if_breaks l e (d l)
    drop_breaks_of (Land l) = land_breaks l (d l)
    drop_breaks_of _ = refl

  pub drop_breaks_in : (c : Sections) → breaks_in (dropped_sections d c) ≡ breaks_in c
  drop_breaks_in NoSection = refl
  drop_breaks_in (Section cases default a ends c) = let p = drop_breaks a in let q = drop_breaks_in c in omega (arith, p, q)

  arm_continues : (l : ℕ) (b : Bool) → continues (cond b Nil (one (Arm l None))) ≡ 0
  arm_continues l true = refl
  arm_continues l false = refl

  arm_if_continues : (l : ℕ) (e : ExpressionTree) (b : Bool) → continues (cond b (one (Evaluate e)) (one (Arm l (Some e)))) ≡ 0
  arm_if_continues l e true = refl
  arm_if_continues l e false = refl

  land_continues : (l : ℕ) (b : Bool) → continues (cond b Nil (one (Land l))) ≡ 0
  land_continues l true = refl
  land_continues l false = refl

  mutual
    pub drop_continues : (a : Forest) → continues (dropped d a) ≡ continues a
    drop_continues Nil = refl
    drop_continues (Then x a) = let i = continues-join (dropped_item d x) (dropped d a) in let p = drop_continues_of x in let q = drop_continues a in
        omega (arith, i, p, q)

    drop_continues_of : (x : Tree) → continues (dropped_item d x) ≡ continues_of x
    drop_continues_of (If t a b) = let p = drop_continues a in let q = drop_continues b in omega (arith, p, q)
    drop_continues_of (For first t u a) = let p = drop_continues first in omega (arith, p)
    drop_continues_of (Switch s c) = let p = drop_continues_in c in omega (arith, p)
    drop_continues_of (Block a) = let p = drop_continues a in omega (arith, p)
    drop_continues_of (Arm l None) = arm_continues l (d l)
    drop_continues_of (Arm l (Some e)) = arm_if_continues l e (d l)
    drop_continues_of (Land l) = land_continues l (d l)
    drop_continues_of _ = refl

    drop_continues_in : (c : Sections) → continues_in (dropped_sections d c) ≡ continues_in c
    drop_continues_in NoSection = refl
    drop_continues_in (Section cases default a ends c) = let p = drop_continues a in let q = drop_continues_in c in omega (arith, p, q)

  -- ---- sums that count no construct

  -- a number that is 0 of constructs, of Arms and of statements
  pub record CountsJumps (f : Tree → ℕ) : Type 0 where
    pub ifs : (t : TestTree) (a b : Forest) → f (If t a b) ≡ 0
    pub whiles : (t : TestTree) (a : Forest) → f (While t a) ≡ 0
    pub dos : (t : TestTree) (a : Forest) → f (Do a t) ≡ 0
    pub fors : (first : Forest) (t u : Option ExpressionTree) (a : Forest) → f (For first t u a) ≡ 0
    pub switches : (s : SelectorTree) (c : Sections) → f (Switch s c) ≡ 0
    pub blocks : (a : Forest) → f (Block a) ≡ 0
    pub arms : (l : ℕ) (e : Option ExpressionTree) → f (Arm l e) ≡ 0
    pub evaluates : (e : ExpressionTree) → f (Evaluate e) ≡ 0

  module _ (f : Tree → ℕ) (k : CountsJumps f) where
    arm_total : (l : ℕ) (b : Bool) → total f (cond b Nil (one (Arm l None))) ≡ 0
    arm_total l true = refl
    arm_total l false = let p = k.arms l None in omega (arith, p)

    arm_if_total : (l : ℕ) (e : ExpressionTree) (b : Bool) → total f (cond b (one (Evaluate e)) (one (Arm l (Some e)))) ≡ 0
    arm_if_total l e true = let p = k.evaluates e in omega (arith, p)
    arm_if_total l e false = let p = k.arms l (Some e) in omega (arith, p)

    land_less : (l : ℕ) (b : Bool) → total f (cond b Nil (one (Land l))) ≤ f (Land l)
    land_less l true = omega arith
    land_less l false = omega arith

    -- it becomes no more
    mutual
      pub drop_less : (a : Forest) → total f (dropped d a) ≤ total f a
      drop_less Nil = omega arith
      drop_less (Then x a) = let i = total-join f (dropped_item d x) (dropped d a) in let p = drop_less_of x in let q = drop_less a in omega (arith, i, p, q)

      drop_less_of : (x : Tree) → total f (dropped_item d x) ≤ total_of f x
      drop_less_of (If t a b) = let h = k.ifs t (dropped d a) (dropped d b) in let p = drop_less a in let q = drop_less b in omega (arith, h, p, q)
      drop_less_of (While t a) = let h = k.whiles t (dropped d a) in let p = drop_less a in omega (arith, h, p)
      drop_less_of (Do a t) = let h = k.dos t (dropped d a) in let p = drop_less a in omega (arith, h, p)
      drop_less_of (For first t u a) = let h = k.fors (dropped d first) t u (dropped d a) in let p = drop_less first in let q = drop_less a in
          omega (arith, h, p, q)
      drop_less_of (Switch s c) = let h = k.switches s (dropped_sections d c) in let p = drop_less_in c in omega (arith, h, p)
      drop_less_of (Block a) = let h = k.blocks (dropped d a) in let p = drop_less a in omega (arith, h, p)
      drop_less_of (Arm l None) = let h = arm_total l (d l) in omega (arith, h)
      drop_less_of (Arm l (Some e)) = let h = arm_if_total l e (d l) in omega (arith, h)
      drop_less_of (Land l) = land_less l (d l)
      drop_less_of _ = omega arith

      pub drop_less_in : (c : Sections) → total_in f (dropped_sections d c) ≤ total_in f c
      drop_less_in NoSection = omega arith
      drop_less_in (Section cases default a ends c) = let p = drop_less a in let q = drop_less_in c in omega (arith, p, q)

    -- and no less, where no Land that goes counts
    module _ (kept : (l : ℕ) → d l ≡ true → f (Land l) ≡ 0) where
      land_same : (l : ℕ) (b : Bool) → d l ≡ b → f (Land l) ≤ total f (cond b Nil (one (Land l)))
      land_same l true e = let h = kept l e in omega (arith, h)
      land_same l false e = omega arith

      mutual
        pub drop_more : (a : Forest) → total f a ≤ total f (dropped d a)
        drop_more Nil = omega arith
        drop_more (Then x a) = let i = total-join f (dropped_item d x) (dropped d a) in let p = drop_more_of x in let q = drop_more a in omega (arith, i, p, q)

        drop_more_of : (x : Tree) → total_of f x ≤ total f (dropped_item d x)
        drop_more_of (If t a b) = let h = k.ifs t a b in let p = drop_more a in let q = drop_more b in omega (arith, h, p, q)
        drop_more_of (While t a) = let h = k.whiles t a in let p = drop_more a in omega (arith, h, p)
        drop_more_of (Do a t) = let h = k.dos t a in let p = drop_more a in omega (arith, h, p)
        drop_more_of (For first t u a) = let h = k.fors first t u a in let p = drop_more first in let q = drop_more a in omega (arith, h, p, q)
        drop_more_of (Switch s c) = let h = k.switches s c in let p = drop_more_in c in omega (arith, h, p)
        drop_more_of (Block a) = let h = k.blocks a in let p = drop_more a in omega (arith, h, p)
        drop_more_of (Arm l None) = let h = k.arms l None in omega (arith, h)
        drop_more_of (Arm l (Some e)) = let h = k.arms l (Some e) in omega (arith, h)
        drop_more_of (Land l) = land_same l (d l) refl
        drop_more_of _ = omega arith

        drop_more_in : (c : Sections) → total_in f c ≤ total_in f (dropped_sections d c)
        drop_more_in NoSection = omega arith
        drop_more_in (Section cases default a ends c) = let p = drop_more a in let q = drop_more_in c in omega (arith, p, q)
