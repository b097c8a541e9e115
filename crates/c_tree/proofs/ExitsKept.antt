-- The rules keep what `break` and `continue` are bound to.
use Rattle.std.proofs.Common.{◌≡◌, ℕ, ◌+◌, ◌<◌, Bool, true, false, cond, refl, arith}
use Rattle.c_tree.specs.TestTrees.{AndOff, OrOn, Pick}
use Rattle.c_tree.specs.Trees.{Tree, Forest, Nil, Then, Sections, NoSection, Section, If, While, Do, Switch, Leap, Land, join}
use Rattle.c_tree.specs.Everywhere.{total_in, Everywhere, EverywhereOf, EverywhereIn}
use Rattle.c_tree.specs.Labels.{jump_of}
use Rattle.c_tree.specs.Exits.{breaks, breaks_of, breaks_in, continues, continues_of, continues_in}
use Rattle.c_tree.specs.Changed.{one, Changed, ChangedSections, here, within, in_then, in_else, in_while, in_do, in_for, in_switch, in_block, in_section, in_later}
use Rattle.c_tree.specs.Moves as M
use Rattle.c_tree.specs.Moves.{Moved, guarded, later_guarded, SectionsLeft, left_here, left_later, SectionsEntered, entered_here, entered_later}
use Rattle.c_tree.specs.WellMade.{BindsNoExit}
use Rattle.c_tree.proofs.KeptLemmas.{lands-jumps, left_jumps, sections_left_jumps, changed_jumps, sections_jumps, everywhere_front, everywhere_back, everywhere_join}

pub breaks-join : (a b : Forest) → breaks (join a b) ≡ breaks a + breaks b
breaks-join Nil b = omega arith
breaks-join (Then x a) b = let h = breaks-join a b in omega arith

pub continues-join : (a b : Forest) → continues (join a b) ≡ continues a + continues b
continues-join Nil b = omega arith
continues-join (Then x a) b = let h = continues-join a b in omega arith

pub breaks-guarded : (l : ℕ) (a : Forest) → breaks (guarded l a) ≡ breaks a
breaks-guarded l Nil = refl
breaks-guarded l (Then x a) = omega arith

pub continues-guarded : (l : ℕ) (a : Forest) → continues (guarded l a) ≡ continues a
continues-guarded l Nil = refl
continues-guarded l (Then x a) = omega arith

breaks-later : (l : ℕ) (c : Sections) → breaks_in (later_guarded l c) ≡ breaks_in c
breaks-later l NoSection = refl
breaks-later l (Section cases default a true c) = let h = breaks-guarded l a in omega arith
breaks-later l (Section cases default a false c) = let h = breaks-guarded l a in let k = breaks-later l c in omega arith

continues-later : (l : ℕ) (c : Sections) → continues_in (later_guarded l c) ≡ continues_in c
continues-later l NoSection = refl
continues-later l (Section cases default a true c) = let h = continues-guarded l a in omega arith
continues-later l (Section cases default a false c) = let h = continues-guarded l a in let k = continues-later l c in omega arith

-- the list that a Leap leaves

pub breaks-left : (l : ℕ) (a b : Forest) → breaks (join a (guarded l b)) ≡ breaks (join a (Then (Leap l) b))
breaks-left l a b = let p = breaks-join a (guarded l b) in let q = breaks-join a (Then (Leap l) b) in let r = breaks-guarded l b in omega arith

pub continues-left : (l : ℕ) (a b : Forest) → continues (join a (guarded l b)) ≡ continues (join a (Then (Leap l) b))
continues-left l a b = let p = continues-join a (guarded l b) in let q = continues-join a (Then (Leap l) b) in let r = continues-guarded l b in omega arith

breaks-chosen : (l : ℕ) (ends : Bool) (c : Sections) → breaks_in (cond ends c (later_guarded l c)) ≡ breaks_in c
breaks-chosen l true c = refl
breaks-chosen l false c = breaks-later l c

continues-chosen : (l : ℕ) (ends : Bool) (c : Sections) → continues_in (cond ends c (later_guarded l c)) ≡ continues_in c
continues-chosen l true c = refl
continues-chosen l false c = continues-later l c

breaks-sections_left : (l : ℕ) {c d : Sections} → SectionsLeft l c d → breaks_in d ≡ breaks_in c
breaks-sections_left l (left_here cases default ends a b c) = let p = breaks-left l a b in let q = breaks-chosen l ends c in omega arith
breaks-sections_left l (left_later cases default ends a r) = let p = breaks-sections_left l r in omega arith

continues-sections_left : (l : ℕ) {c d : Sections} → SectionsLeft l c d → continues_in d ≡ continues_in c
continues-sections_left l (left_here cases default ends a b c) = let p = continues-left l a b in let q = continues-chosen l ends c in omega arith
continues-sections_left l (left_later cases default ends a r) = let p = continues-sections_left l r in omega arith

breaks-entered : (l k : ℕ) {c d : Sections} → SectionsEntered l k c d → breaks_in d ≡ breaks_in c
breaks-entered l _ (entered_here cases default ends a c z) = omega arith
breaks-entered l _ (entered_later cases default ends a r) = let p = breaks-entered l _ r in omega arith

pub continues-entered : (l k : ℕ) {c d : Sections} → SectionsEntered l k c d → continues_in d ≡ continues_in c
continues-entered l _ (entered_here cases default ends a c z) = omega arith
continues-entered l _ (entered_later cases default ends a r) = let p = continues-entered l _ r in omega arith

entered_jumps : (l k : ℕ) {c d : Sections} → SectionsEntered l k c d → 0 < total_in jump_of c
entered_jumps l _ (entered_here cases default ends a c z) = let p = lands-jumps l a in omega arith
entered_jumps l _ (entered_later cases default ends a r) = let p = entered_jumps l _ r in omega arith

abbrev Bound : Forest → Type 0
Bound xs = Everywhere BindsNoExit xs

abbrev BoundIn : Sections → Type 0
BoundIn c = EverywhereIn BindsNoExit c

front : (a b : Forest) → Bound (join a b) → Bound a
front a b h = everywhere_front BindsNoExit a b h

back : (a b : Forest) → Bound (join a b) → Bound b
back a b h = everywhere_back BindsNoExit a b h

both : (a b : Forest) → Bound a → Bound b → Bound (join a b)
both a b p q = everywhere_join BindsNoExit a b p q

guarded_bound : (l : ℕ) (a : Forest) → Bound a → Bound (guarded l a)
guarded_bound l Nil h = tt
guarded_bound l (Then x a) h = ((tt, h, tt), tt)

later_bound : (l : ℕ) (c : Sections) → BoundIn c → BoundIn (later_guarded l c)
later_bound l NoSection h = tt
later_bound l (Section cases default a true c) h = (guarded_bound l a h.0, h.1)
later_bound l (Section cases default a false c) h = (guarded_bound l a h.0, later_bound l c h.1)

chosen_bound : (l : ℕ) (ends : Bool) (c : Sections) → BoundIn c → BoundIn (cond ends c (later_guarded l c))
chosen_bound l true c h = h
chosen_bound l false c h = later_bound l c h

left_bound : (l : ℕ) (a b : Forest) → Bound (join a (Then (Leap l) b)) → Bound (join a (guarded l b))
left_bound l a b h = both a (guarded l b) (front a (Then (Leap l) b) h) (guarded_bound l b (back a (Then (Leap l) b) h).1)

sections_left_bound : (l : ℕ) {c d : Sections} → SectionsLeft l c d → BoundIn c → BoundIn d
sections_left_bound l (left_here cases default ends a b c) h = (left_bound l a b h.0, chosen_bound l ends c h.1)
sections_left_bound l (left_later cases default ends a r) h = (h.0, sections_left_bound l r h.1)

entered_bound : (l k : ℕ) {c d : Sections} → SectionsEntered l k c d → BoundIn c → BoundIn d
entered_bound l _ (entered_here cases default ends a c z) h = ((tt, h.0), h.1)
entered_bound l _ (entered_later cases default ends a r) h = (h.0, entered_bound l _ r h.1)

-- what a change keeps, where no exit of the list is bound to what is around it
pub record KeepsExits (xs ys : Forest) : Type 0 where
  pub out : breaks ys + continues ys ≡ 0
  pub inside : Everywhere BindsNoExit ys

record KeepsExitsIn (c d : Sections) : Type 0 where
  breaks : breaks_in d ≡ 0
  continues : continues_in d ≡ 0
  inside : EverywhereIn BindsNoExit d

entering : (l : ℕ) (t : Forest) (x y : Tree) → breaks_of y ≡ breaks_of x → continues_of y ≡ continues_of x →
    (EverywhereOf BindsNoExit x → EverywhereOf BindsNoExit y)
    → breaks (Then (Leap l) (join t (one x))) + continues (Then (Leap l) (join t (one x))) ≡ 0 → Bound (Then (Leap l) (join t (one x))) →
    KeepsExits (Then (Leap l) (join t (one x))) (join (guarded l t) (one y))
entering l t x y e f go o h = record {
  out =
      let a = breaks-join t (one x) in let b = continues-join t (one x) in let c = breaks-join (guarded l t) (one y) in let d =
      continues-join
      (guarded l t) (one y) in
      let p = breaks-guarded l t in let q = continues-guarded l t in omega arith;
  inside = both (guarded l t) (one y) (guarded_bound l t (front t (one x) h.1)) (go (back t (one x) h.1).0, tt);
}

moved_exits : {xs ys : Forest} → Moved xs ys → breaks xs + continues xs ≡ 0 → Bound xs → KeepsExits xs ys
moved_exits (M.join_after l t) o h = entering l t (Land l) (Land l) refl refl (λ e. e) o h
moved_exits (M.join_before l t) o h = record {
  out = refl;
  inside = (((λ z. let p = breaks-join t (one (Leap l)) in let q = continues-join t (one (Leap l)) in omega arith), (tt, front t (one (Leap l)) h.1)), tt);
}
moved_exits (M.lifted l x t w) o h = record {
  out = refl;
  inside = (
    (
      (λ z. let p = breaks-join t (one (Leap l)) in let q = continues-join t (one (Leap l)) in omega arith),
      (tt, (h.0, front t (one (Leap l)) h.1)),
    ),
    tt,
  );
}
moved_exits (M.out_then l t a b c) o h = record {
  out = let p = breaks-left l a b in let q = continues-left l a b in omega arith;
  inside = ((tt, left_bound l a b h.0.1, h.0.2), (tt, tt));
}
moved_exits (M.out_else l t a b c) o h = record {
  out = let p = breaks-left l a b in let q = continues-left l a b in omega arith;
  inside = ((tt, h.0.1, left_bound l a b h.0.2), (tt, tt));
}
moved_exits (M.out_while l t a b) o h = record {
  out = refl;
  inside = (
    (
      (λ z. let p = breaks-left l a b in let q = continues-left l a b in let r = h.0.0 (left_jumps l a b) in omega arith),
      left_bound l a b h.0.1,
    ),
    (tt, tt),
  );
}
moved_exits (M.out_do l t a b) o h = record {
  out = refl;
  inside = (
    (
      (λ z. let p = breaks-left l a b in let q = continues-left l a b in let r = h.0.0 (left_jumps l a b) in omega arith),
      left_bound l a b h.0.1,
    ),
    (tt, tt),
  );
}
moved_exits (M.out_switch l s r) o h = record {
  out = let p = continues-sections_left l r in omega arith;
  inside = (((λ z. let p = breaks-sections_left l r in let q = h.0.0 (sections_left_jumps l r) in omega arith), sections_left_bound l r h.0.1), (tt, tt));
}
moved_exits (M.in_then l t u a b w) o h = entering l t (If u a b) (If (OrOn l u) (Then (Leap l) a) b) (omega arith) (omega arith)
    (λ e. (tt, (tt, e.1), e.2)) o h
moved_exits (M.in_else l t u a b w) o h = entering l t (If u a b) (If (AndOff l u) a (Then (Leap l) b)) (omega arith) (omega arith)
    (λ e. (tt, e.1, (tt, e.2))) o h
moved_exits (M.in_while l t u a w) o h =
    entering l t (While u a) (While (OrOn l u) (Then (Leap l) a)) refl refl
    (λ e. ((λ z. let r = e.0 (let q = lands-jumps l a in omega arith) in omega arith), (tt, e.1))) o h
moved_exits (M.in_do l t u a w) o h =
    entering l t (Do a u) (Do (Then (Leap l) a) u) refl refl (λ e. ((λ z. let r = e.0 (let q = lands-jumps l a in omega arith) in omega arith), (tt, e.1))) o h
moved_exits (M.in_switch l t s k n {c = c} {d = d} r p) o h =
    entering l t (Switch s c) (Switch (Pick l n s) d) refl (continues-entered l k r)
    (λ e. ((λ z. let q = e.0 (entered_jumps l k r) in let v = breaks-entered l k r in omega arith), entered_bound l k r e.1)) o h

mutual
  pub changed_exits : {xs ys : Forest} → Changed Moved xs ys → breaks xs + continues xs ≡ 0 → Bound xs → KeepsExits xs ys
  changed_exits (here r) o h = moved_exits r o h
  changed_exits (within a b {xs = xs} {ys = ys} c) o h =
      let e = back a (join xs b) h in
      let p = breaks-join a (join xs b) in let q = breaks-join xs b in let v = continues-join a (join xs b) in let w = continues-join xs b in
      let k = changed_exits c (omega arith) (front xs b e) in
      record {
        out = let i = k.out in let p' = breaks-join a (join ys b) in let q' = breaks-join ys b in let v' = continues-join a (join ys b) in let w' =
            continues-join
            ys b in omega arith;
        inside = both a (join ys b) (front a (join xs b) h) (both ys b k.inside (back xs b e));
      }
  changed_exits (in_then t b c) o h = let k = changed_exits c (omega arith) h.0.1 in
      record { out = let i = k.out in omega arith; inside = ((tt, k.inside, h.0.2), tt) }
  changed_exits (in_else t a c) o h = let k = changed_exits c (omega arith) h.0.2 in
      record { out = let i = k.out in omega arith; inside = ((tt, h.0.1, k.inside), tt) }
  changed_exits (in_while t c) o h = let k = changed_exits c (h.0.0 (changed_jumps c)) h.0.1 in record { out = refl; inside = (((λ z. k.out), k.inside), tt) }
  changed_exits (in_do t c) o h = let k = changed_exits c (h.0.0 (changed_jumps c)) h.0.1 in record { out = refl; inside = (((λ z. k.out), k.inside), tt) }
  changed_exits (in_for f t u c) o h =
      let k = changed_exits c (h.0.0 (let j = changed_jumps c in omega arith)) h.0.2 in
      record { out = omega arith; inside = (((λ z. k.out), h.0.1, k.inside), tt) }
  changed_exits (in_switch s c) o h =
      let k = sections_exits c (h.0.0 (sections_jumps c)) (omega arith) h.0.1 in
      record { out = let i = k.continues in omega arith; inside = (((λ z. k.breaks), k.inside), tt) }
  changed_exits (in_block c) o h = let k = changed_exits c (omega arith) h.0.1 in record { out = let i = k.out in omega arith; inside = ((tt, k.inside), tt) }

  sections_exits : {c d : Sections} → ChangedSections Moved c d → breaks_in c ≡ 0 → continues_in c ≡ 0 → BoundIn c → KeepsExitsIn c d
  sections_exits (in_section cases default ends c r) b o h =
      let k = changed_exits r (omega arith) h.0 in
      record { breaks = let i = k.out in omega arith; continues = let i = k.out in omega arith; inside = (k.inside, h.1) }
  sections_exits (in_later cases default ends a r) b o h =
      let k = sections_exits r (omega arith) (omega arith) h.1 in
      record { breaks = let i = k.breaks in omega arith; continues = let i = k.continues in omega arith; inside = (h.0, k.inside) }
