-- The labels of the source that stay stand in the body on its way to a flat list; and each label stands there at most once where it does in the list.
use Rattle.std.proofs.Common.{ℕ, ◌+◌, ◌≤◌, ◌⊎◌, inl, inr, eqb, Bool, true, false, cond, [], Option, Some, None, ◌≡◌, refl, sym, ◌∙◌, ap, arith}
use Rattle.c_tree.specs.TestTrees.{TestTree, Source}
use Rattle.c_tree.specs.Changed.{one}
use Rattle.c_tree.specs.Trees.{Tree, Forest, Nil, Then, Sections, NoSection, Section, If, While, Do, For, Switch, Block, Goto, Mark, join}
use Rattle.jump_meaning.specs.Step.{switch_kind}
use Rattle.flat_laws.specs.Pieces.{Aim, Becomes, mark_of, third_items, Names, tests_among, case_marks}
use Rattle.flat_laws.specs.Placed.{Has, HasIn, HasAmong, places, places_of, IsOnce}
use Rattle.flat_laws.specs.Loose.{Arrivals, NoArrival, Arrives}
use Rattle.flat_laws.specs.Parts.{Here}
use Rattle.flat_laws.specs.FlatForm.{names_of, scatter_aim, otherwise_label, end_goto, mark_if, place_in}
use Rattle.lower_laws.specs.Straight.{while_items, StraightItem, st_evaluate, st_return, st_note, st_goto, st_mark, st_jump_if, st_if, st_do, st_ever, Straight, sl_nil, sl_end, sl_then, sl_declares, sl_while}
use Rattle.lower_laws.specs.Lowered.{Layout, past, past_item, inside, is_bare, only_goto, jump_of, break_aim, for_aim, continue_aim}
use Rattle.lower_laws.specs.Opened.{opened_if, opened_for, opened, opened_item, opened_among}
use Rattle.flat_laws.proofs.LooserItems.{false_true}
use Rattle.flat_laws.proofs.Counts.{places_join}
use Rattle.lower_laws.proofs.Standing.{has_left, has_right, both_of}

module _ (p : Layout) (m : ℕ) (live : p.plan.live m ≡ true) where
  bare_mark : (y z : Bool) → cond y false z ≡ true → (y ≡ false) × (z ≡ true)
  bare_mark true z e = false_true e
  bare_mark false z e = (refl, e)

  only_mark : (y : Bool) (o : Option ℕ) (j : ℕ) → cond y None o ≡ Some j → (y ≡ false) × (o ≡ Some j)
  only_mark true o j e = cc
  only_mark false o j e = (refl, e)

  only_bare : (y : Bool) (k j : ℕ) → cond y (Some k) None ≡ Some j → y ≡ true
  only_bare true k j e = refl
  only_bare false k j e = cc

  is_not : {X : Type 0} (k : ℕ) → m ≡ k → p.plan.live k ≡ false → X
  is_not k e f = false_true (sym f ∙ ap p.plan.live (sym e) ∙ live)

  no_bare : {X : Type 0} (xs : Forest) → is_bare p.plan.live xs ≡ true → Has m xs → X
  no_bare Nil e n = absurd n
  no_bare (Then (Mark k) xs) e (inl n) = is_not k n (bare_mark (p.plan.live k) (is_bare p.plan.live xs) e).0
  no_bare (Then (Mark k) xs) e (inr n) = no_bare xs (bare_mark (p.plan.live k) (is_bare p.plan.live xs) e).1 n
  no_bare (Then x xs) e n = false_true e

  no_only : {X : Type 0} (j : ℕ) (xs : Forest) → only_goto p.plan.live xs ≡ Some j → Has m xs → X
  no_only j Nil e n = absurd n
  no_only j (Then (Mark k) xs) e (inl n) = is_not k n (only_mark (p.plan.live k) (only_goto p.plan.live xs) j e).0
  no_only j (Then (Mark k) xs) e (inr n) = no_only j xs (only_mark (p.plan.live k) (only_goto p.plan.live xs) j e).1 n
  no_only j (Then (Goto k) xs) e (inl n) = absurd n
  no_only j (Then (Goto k) xs) e (inr n) = no_bare xs (only_bare (is_bare p.plan.live xs) k j e) n
  no_only j (Then x xs) e n = cc

  abbrev g : ℕ
  g = p.plan.source m

  if_has : (t : TestTree) (x y x' y' : Forest) (o : Option ℕ) → jump_of p.plan.live x y ≡ o → (Has m x → Has g x') → (Has m y → Has g y') →
      Has m x ⊎ Has m y → Has g (one (opened_if p t o x' y'))
  if_has t x y x' y' None e f h (inl n) = inl (inl (f n))
  if_has t x y x' y' None e f h (inr n) = inl (inr (h n))
  if_has t x y x' y' (Some j) e f h (inl n) = no_only j x (both_of (is_bare p.plan.live y) (only_goto p.plan.live x) j e).1 n
  if_has t x y x' y' (Some j) e f h (inr n) = no_bare y (both_of (is_bare p.plan.live y) (only_goto p.plan.live x) j e).0 n

  mark_has : (y : Bool) (k : ℕ) → p.plan.live k ≡ y → m ≡ k → Has g (mark_if y (p.plan.source k))
  mark_has true k q e = inl (ap p.plan.source e)
  mark_has false k q e = is_not k e q

  mutual
    pub stays : (xs : Forest) (h : Here) (b c : Aim) (r : Arrivals) → Has m xs → Has g (opened p h b c r xs)
    stays Nil h b c r n = absurd n
    stays (Then x xs) h b c r (inl n) = has_left g (opened_item p h b c r x) (opened p (past_item x h) b c r xs) (stays_in x h b c r n)
    stays (Then x xs) h b c r (inr n) = has_right g (opened_item p h b c r x) (opened p (past_item x h) b c r xs) (stays xs (past_item x h) b c r n)

    stays_in : (x : Tree) (h : Here) (b c : Aim) (r : Arrivals) → HasIn m x → Has g (opened_item p h b c r x)
    stays_in (If t x y) h b c r n =
        if_has t x y (opened p (inside (If t x y) h) b c r x) (opened p (past x (inside (If t x y) h)) b c r y) (jump_of p.plan.live x y) refl
        (λ k. stays x (inside (If t x y) h) b c r k) (λ k. stays y (past x (inside (If t x y) h)) b c r k) n
    stays_in (While t a) h b c r n =
        let e = Becomes (p.plan.break_label h.construct) in let k = p.head_label h.construct in
        inl (has_left g (opened p (inside (While t a) h) e (Becomes k) r a) (one (Mark k)) (stays a (inside (While t a) h) e (Becomes k) r n))
    stays_in (Do a t) h b c r n =
        inl (has_left g (opened p (inside (Do a t) h) (break_aim p h a) (continue_aim p h a) r a) (mark_of (continue_aim p h a))
        (stays a (inside (Do a t) h) (break_aim p h a) (continue_aim p h a) r n))
    stays_in (For f t u a) h b c r n =
        let h' = inside (For f t u a) h in
        let list = opened p (past f h') (for_aim p h t a) (continue_aim p h a) r a in
        has_right g (opened p h' b c NoArrival f) (opened_for t u list (for_aim p h t a) (continue_aim p h a))
        (inl (has_left g list (join (mark_of (continue_aim p h a)) (third_items u)) (stays a (past f h') (for_aim p h t a) (continue_aim p h a) r n)))
    stays_in (Block a) h b c r n = stays a h b c r n
    stays_in (Switch t d) h b c r n =
        let k = switch_kind t in
        let names = names_of p.plan h k d in
        let ys = opened_among p (inside (Switch t d) h) (scatter_aim p.plan h d) c names d in
        inr (has_right g (tests_among p.plan.number k h.variable names d) (Then (Goto (otherwise_label p.plan h d)) ys)
        (inr (stays_among d (inside (Switch t d) h) (scatter_aim p.plan h d) c names n)))
    stays_in (Mark k) h b c r n = mark_has (p.plan.live k) k refl n
    stays_in _ h b c r n = absurd n

    stays_among : (d : Sections) (h : Here) (b c : Aim) (names : Names) → HasAmong m d → Has g (opened_among p h b c names d)
    stays_among NoSection h b c names n = absurd n
    stays_among (Section cases default a ends d) h b c names (inl n) =
        let xs = opened p h b c (Arrives names) a in
        let more = join (end_goto ends b) (opened_among p (past a h) b c names d) in
        has_right g (case_marks names cases default) (join xs more) (has_left g xs more (stays a h b c (Arrives names) n))
    stays_among (Section cases default a ends d) h b c names (inr n) =
        let xs = opened p h b c (Arrives names) a in
        let es = end_goto ends b in
        let ds = opened_among p (past a h) b c names d in
        has_right g (case_marks names cases default) (join xs (join es ds))
        (has_right g xs (join es ds) (has_right g es ds (stays_among d (past a h) b c names n)))

-- ---- labels that stand once

module _ (A : Forest) (l : ℕ) where
  abbrev R : Option ℕ → Forest → Forest → Type 0
  R o xs ys = Straight A (place_in []) o xs ys

  -- the label in front of a loop
  abbrev extra : Option ℕ → ℕ
  extra None = 0
  extra (Some h) = cond (eqb l h) 1 0

  mutual
    fewer : {o : Option ℕ} {xs ys : Forest} → R o xs ys → places l xs ≤ places l ys + extra o
    fewer sl_nil = omega arith
    fewer (sl_end m) = omega arith
    fewer {o = o} (sl_then {x = x} {ys = ys} {xs = xs} {xs' = xs'} fi fa) =
        let i = fewer_item fi in let j = fewer fa in let k = places_join l ys xs' in omega (arith, i, j, k)
    fewer (sl_declares x fa) = let j = fewer fa in omega (arith, j)
    fewer {o = o} (sl_while t h b e {a = a} {a' = a'} {xs = xs} {xs' = xs'} fa fs) =
        let i = fewer fa in let j = fewer fs in
        let k = places_join l (while_items (Source t) h b e a') xs' in let n = places_join l a' (Then (Goto h) (one (Mark e))) in omega (arith, i, j, k, n)

    fewer_item : {x : Tree} {ys : Forest} → StraightItem A (place_in []) x ys → places_of l x ≤ places l ys
    fewer_item (st_evaluate e) = omega arith
    fewer_item (st_return e) = omega arith
    fewer_item (st_note bs) = omega arith
    fewer_item (st_goto m n) = omega arith
    fewer_item (st_mark m) = omega arith
    fewer_item (st_jump_if t m n) = omega arith
    fewer_item (st_if t m e {a = a} {a' = a'} {b = b} {b' = b'} fa fb) =
        let i = fewer fa in let j = fewer fb in
        let k = places_join l b' (Then (Goto e) (Then (Mark m) (join a' (one (Mark e))))) in let n = places_join l a' (one (Mark e)) in
        omega (arith, i, j, k, n)
    fewer_item (st_do t b {a = a} {a' = a'} fa) = let i = fewer fa in let k = places_join l a' (one (If (Source t) (one (Goto b)) Nil)) in omega (arith, i, k)
    fewer_item (st_ever h {a = a} {a' = a'} fa) = let i = fewer fa in let k = places_join l a' (one (Goto h)) in omega (arith, i, k)

pub once_before : (A xs ys : Forest) → Straight A (place_in []) None xs ys → IsOnce ys → IsOnce xs
once_before A xs ys f o l = let h = fewer A l f in let k = o l in omega (arith, h, k)
