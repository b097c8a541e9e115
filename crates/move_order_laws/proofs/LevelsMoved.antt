-- A rule puts no Land more than one level deeper.
use Rattle.std.proofs.Common.{◌≡◌, ℕ, ◌+◌, ◌≤◌, Bool, true, false, cond, refl, arith}
use Rattle.c_tree.specs.Trees.{Tree, Forest, Nil, Then, Sections, NoSection, Section, If, While, Do, Switch, Leap, Land, join}
use Rattle.c_tree.specs.TestTrees.{AndOff, OrOn, Pick}
use Rattle.c_tree.specs.Everywhere.{total_in}
use Rattle.c_tree.specs.Labels.{land_of, lands, lands_of, lands_inside}
use Rattle.c_tree.specs.Changed.{one, Changed, ChangedSections, here, within, in_then, in_else, in_while, in_do, in_for, in_switch, in_block, in_section, in_later}
use Rattle.c_tree.specs.Moves as M
use Rattle.c_tree.specs.Moves.{Moved, guarded, later_guarded, SectionsLeft, left_here, left_later, SectionsEntered, entered_here, entered_later}
use Rattle.c_tree.proofs.KeptLemmas.{total-join}
use Rattle.c_tree.proofs.WellMoved.{changed_lands, lands-entered}
use Rattle.move_order_laws.specs.Levels.{levels, levels_of}

-- the second list has as many Lands of the label, and each is at most one level deeper; c Lands more are let
pub record NoDeeper (l c : ℕ) (xs ys : Forest) : Type 0 where
  pub lands_same : lands l ys ≡ lands l xs
  pub deeper : levels l ys ≤ levels l xs + c

levels-join : (l : ℕ) (a b : Forest) → levels l (join a b) ≡ levels l a + levels l b
levels-join l a b = total-join (lands_inside l) a b

lands-join : (l : ℕ) (a b : Forest) → lands l (join a b) ≡ lands l a + lands l b
lands-join l a b = total-join (land_of l) a b

levels-guarded : (l m : ℕ) (a : Forest) → levels l (guarded m a) ≡ levels l a + lands l a
levels-guarded l m Nil = refl
levels-guarded l m (Then x a) = omega arith

levels-later : (l m : ℕ) (c : Sections) → total_in (lands_inside l) (later_guarded m c) ≤ total_in (lands_inside l) c + total_in (land_of l) c
levels-later l m NoSection = omega arith
levels-later l m (Section cases default a true c) = let h = levels-guarded l m a in omega arith
levels-later l m (Section cases default a false c) = let h = levels-guarded l m a in let k = levels-later l m c in omega arith

levels-chosen : (l m : ℕ) (ends : Bool) (c : Sections) → total_in (lands_inside l) (cond ends c (later_guarded m c)) ≤ total_in (lands_inside l)
    c + total_in (land_of l) c
levels-chosen l m true c = omega arith
levels-chosen l m false c = levels-later l m c

levels-left : (l m : ℕ) (a b : Forest) → levels l (join a (guarded m b)) ≤ levels l (join a (Then (Leap m) b)) + lands l (join a (Then (Leap m) b))
levels-left l m a b =
    let p = levels-join l a (guarded m b) in
    let q = levels-join l a (Then (Leap m) b) in
    let r = lands-join l a (Then (Leap m) b) in
    let s = levels-guarded l m b in
    omega arith

levels-sections_left : (l m : ℕ) {c d : Sections} → SectionsLeft m c d → total_in (lands_inside l) d ≤ total_in (lands_inside l) c + total_in (land_of l) c
levels-sections_left l m (left_here cases default ends a b c) = let p = levels-left l m a b in let q = levels-chosen l m ends c in omega arith
levels-sections_left l m (left_later cases default ends a r) = let p = levels-sections_left l m r in omega arith

levels-entered : (l m k : ℕ) {c d : Sections} → SectionsEntered m k c d → total_in (lands_inside l) d ≡ total_in (lands_inside l) c
levels-entered l m _ (entered_here cases default ends a c z) = omega arith
levels-entered l m _ (entered_later cases default ends a r) = let p = levels-entered l m _ r in omega arith

entering : (l m : ℕ) (t : Forest) (x y : Tree) → levels_of l y ≤ levels_of l x + lands_of l x →
    levels l (join (guarded m t) (one y)) ≤ levels l (Then (Leap m) (join t (one x))) + lands l (Then (Leap m) (join t (one x)))
entering l m t x y e =
    let p = levels-join l t (one x) in
    let q = levels-join l (guarded m t) (one y) in
    let r = levels-guarded l m t in
    let s = lands-join l t (one x) in
    omega arith

moved_levels : (l : ℕ) {xs ys : Forest} → Moved xs ys → levels l ys ≤ levels l xs + lands l xs
moved_levels l (M.join_after m t) = entering l m t (Land m) (Land m) (omega arith)
moved_levels l (M.join_before m t) = let p = levels-join l t (one (Leap m)) in let q = lands-join l t (one (Leap m)) in omega arith
moved_levels l (M.lifted m x t h) = let p = levels-join l t (one (Leap m)) in let q = lands-join l t (one (Leap m)) in omega arith
moved_levels l (M.out_then m t a b c) = let p = levels-left l m a b in let q = changed_lands l (here (M.out_then m t a b c)) in omega arith
moved_levels l (M.out_else m t a b c) = let p = levels-left l m a b in let q = changed_lands l (here (M.out_else m t a b c)) in omega arith
moved_levels l (M.out_while m t a b) = let p = levels-left l m a b in let q = changed_lands l (here (M.out_while m t a b)) in omega arith
moved_levels l (M.out_do m t a b) = let p = levels-left l m a b in let q = changed_lands l (here (M.out_do m t a b)) in omega arith
moved_levels l (M.out_switch m s r) = let p = levels-sections_left l m r in let q = changed_lands l (here (M.out_switch m s r)) in omega arith
moved_levels l (M.in_then m t u a b h) = entering l m t (If u a b) (If (OrOn m u) (Then (Leap m) a) b) (omega arith)
moved_levels l (M.in_else m t u a b h) = entering l m t (If u a b) (If (AndOff m u) a (Then (Leap m) b)) (omega arith)
moved_levels l (M.in_while m t u a h) = entering l m t (While u a) (While (OrOn m u) (Then (Leap m) a)) (omega arith)
moved_levels l (M.in_do m t u a h) = entering l m t (Do a u) (Do (Then (Leap m) a) u) (omega arith)
moved_levels l (M.in_switch m t s k n {c = c} {d = d} r p) = entering l m t (Switch s c) (Switch (Pick m n s) d)
    (let q = levels-entered l m k r in let z = lands-entered l m k r in omega arith)

mutual
  pub changed_levels : (l : ℕ) {xs ys : Forest} → Changed Moved xs ys → levels l ys ≤ levels l xs + lands l xs
  changed_levels l (here r) = moved_levels l r
  changed_levels l (within a b {xs = xs} {ys = ys} c) =
      let h = changed_levels l c in
      let p = levels-join l a (join xs b) in let q = levels-join l xs b in let p' = levels-join l a (join ys b) in let q' = levels-join l ys b in
      let r = lands-join l a (join xs b) in let s = lands-join l xs b in omega arith
  changed_levels l (in_then t b c) = let h = changed_levels l c in let k = changed_lands l c in omega arith
  changed_levels l (in_else t a c) = let h = changed_levels l c in let k = changed_lands l c in omega arith
  changed_levels l (in_while t c) = let h = changed_levels l c in let k = changed_lands l c in omega arith
  changed_levels l (in_do t c) = let h = changed_levels l c in let k = changed_lands l c in omega arith
  changed_levels l (in_for f t u c) = let h = changed_levels l c in let k = changed_lands l c in omega arith
  changed_levels l (in_switch s c) = let h = sections_levels l c in let k = changed_lands l (in_switch s c) in omega arith
  changed_levels l (in_block c) = let h = changed_levels l c in let k = changed_lands l c in omega arith

  sections_levels : (l : ℕ) {c d : Sections} → ChangedSections Moved c d → total_in (lands_inside l) d ≤ total_in (lands_inside l) c + total_in (land_of l) c
  sections_levels l (in_section cases default ends c r) = let h = changed_levels l r in omega arith
  sections_levels l (in_later cases default ends a r) = let h = sections_levels l r in omega arith

-- the change of a part
module _ (l c : ℕ) where
  mutual
    pub no_deeper : {xs ys : Forest} → Changed (NoDeeper l c) xs ys → NoDeeper l c xs ys
    no_deeper (here r) = r
    no_deeper (within a b {xs = xs} {ys = ys} r) =
        let h = no_deeper r in
        let p = levels-join l a (join xs b) in let q = levels-join l xs b in let p' = levels-join l a (join ys b) in let q' = levels-join l ys b in
        let u = lands-join l a (join xs b) in let v = lands-join l xs b in let u' = lands-join l a (join ys b) in let v' = lands-join l ys b in
        record { lands_same = omega arith; deeper = omega arith }
    no_deeper (in_then t b r) = let h = no_deeper r in record { lands_same = omega arith; deeper = omega arith }
    no_deeper (in_else t a r) = let h = no_deeper r in record { lands_same = omega arith; deeper = omega arith }
    no_deeper (in_while t r) = let h = no_deeper r in record { lands_same = omega arith; deeper = omega arith }
    no_deeper (in_do t r) = let h = no_deeper r in record { lands_same = omega arith; deeper = omega arith }
    no_deeper (in_for f t u r) = let h = no_deeper r in record { lands_same = omega arith; deeper = omega arith }
    no_deeper (in_switch s r) = let h = no_deeper_in r in record { lands_same = omega arith; deeper = omega arith }
    no_deeper (in_block r) = let h = no_deeper r in record { lands_same = omega arith; deeper = omega arith }

    no_deeper_in : {a b : Sections} → ChangedSections (NoDeeper l c) a b →
        (total_in (land_of l) b ≡ total_in (land_of l) a) × (total_in (lands_inside l) b ≤ total_in (lands_inside l) a + c)
    no_deeper_in (in_section cases default ends d r) = let h = no_deeper r in (omega arith, omega arith)
    no_deeper_in (in_later cases default ends a r) = let h = no_deeper_in r in (omega arith, omega arith)
