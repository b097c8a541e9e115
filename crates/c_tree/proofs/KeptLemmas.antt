-- The rules keep the facts of a well made body that speak of one item.
use Rattle.std.proofs.Common.{◌≡◌, ℕ, ◌+◌, ◌≤◌, ◌<◌, ℤ, ◌==◌, Bool, true, false, cond, List, ◌++◌, Option, refl, ap, arith}
use Rattle.c_tree.specs.declared.tree.Branch.TheVariants as B
use Rattle.c_tree.specs.ExpressionTrees.{ExpressionTree}
use Rattle.c_tree.specs.TestTrees.{TestTree, On, Off, AndOff, OrOn, SelectorTree, Pick}
use Rattle.c_tree.specs.Trees.{Tree, Forest, Nil, Then, Sections, NoSection, Section, If, While, Do, For, Switch, Block, Leap, Land, join}
use Rattle.c_tree.specs.Everywhere.{total, total_of, total_in, Everywhere, EverywhereOf, EverywhereIn}
use Rattle.c_tree.specs.Labels.{land_of, lands, jump_of, jumps}
use Rattle.c_tree.specs.Cases.{all_cases, defaults, AllEntered, SelectsBranch}
use Rattle.c_tree.specs.Changed.{one, Changed, ChangedSections, here, within, in_then, in_else, in_while, in_do, in_for, in_switch, in_block, in_section, in_later}
use Rattle.c_tree.specs.Moves as M
use Rattle.c_tree.specs.Moves.{Moved, guarded, later_guarded, SectionsLeft, left_here, left_later, SectionsEntered, entered_here, entered_later}

-- sums over lists

pub total-join : (f : Tree → ℕ) (a b : Forest) → total f (join a b) ≡ total f a + total f b
total-join f Nil b = omega arith
total-join f (Then x a) b = let h = total-join f a b in omega arith

pub at_most_one : (b : Bool) → cond b 1 0 ≤ 1
at_most_one true = omega arith
at_most_one false = omega arith

mutual
  pub lands-jumps : (l : ℕ) (xs : Forest) → lands l xs ≤ jumps xs
  lands-jumps l Nil = omega arith
  lands-jumps l (Then x xs) = let p = lands-jumps_of l x in let q = lands-jumps l xs in omega arith

  lands-jumps_of : (l : ℕ) (x : Tree) → total_of (land_of l) x ≤ total_of jump_of x
  lands-jumps_of l (If t a b) = let p = lands-jumps l a in let q = lands-jumps l b in omega arith
  lands-jumps_of l (While t a) = let p = lands-jumps l a in omega arith
  lands-jumps_of l (Do a t) = let p = lands-jumps l a in omega arith
  lands-jumps_of l (For f t u a) = let p = lands-jumps l f in let q = lands-jumps l a in omega arith
  lands-jumps_of l (Switch s c) = let p = lands-jumps_in l c in omega arith
  lands-jumps_of l (Block a) = let p = lands-jumps l a in omega arith
  lands-jumps_of l (Land m) = at_most_one (m == l)
  lands-jumps_of l _ = omega arith

  lands-jumps_in : (l : ℕ) (c : Sections) → total_in (land_of l) c ≤ total_in jump_of c
  lands-jumps_in l NoSection = omega arith
  lands-jumps_in l (Section cases default a ends c) = let p = lands-jumps l a in let q = lands-jumps_in l c in omega arith

-- sections with the same cases and defaults
pub record SameEntries (c d : Sections) : Type 0 where
  pub cases : all_cases c ≡ all_cases d
  pub default : defaults c ≡ defaults d
  pub entered : AllEntered c → AllEntered d

pub same_entries : (c : Sections) → SameEntries c c
same_entries c = record { cases = refl; default = refl; entered = λ h. h }

same_next : (cases : List ExpressionTree) (default ends : Bool) (a b : Forest) (c d : Sections) → SameEntries c d →
    SameEntries (Section cases default a ends c) (Section cases default b ends d)
same_next cases default ends a b c d h = record {
  cases = ap (λ l. cases ++ l) h.cases;
  default = ap (λ n. cond default 1 0 + n) h.default;
  entered =
      λ e. (e.0, h.entered e.1);
}

later_same : (l : ℕ) (c : Sections) → SameEntries c (later_guarded l c)
later_same l NoSection = same_entries NoSection
later_same l (Section cases default a true c) = same_next cases default true a (guarded l a) c c (same_entries c)
later_same l (Section cases default a false c) = same_next cases default false a (guarded l a) c (later_guarded l c) (later_same l c)

left_same : (l : ℕ) {c d : Sections} → SectionsLeft l c d → SameEntries c d
left_same l (left_here cases default true a b c) = same_next cases default true _ _ c c (same_entries c)
left_same l (left_here cases default false a b c) = same_next cases default false _ _ c (later_guarded l c) (later_same l c)
left_same l (left_later cases default ends a r) = same_next cases default ends a a _ _ (left_same l r)

entered_same : (l k : ℕ) {c d : Sections} → SectionsEntered l k c d → SameEntries c d
entered_same l _ (entered_here cases default ends a c h) = same_next cases default ends a (Then (Leap l) a) c c (same_entries c)
entered_same l _ (entered_later cases default ends a r) = same_next cases default ends a a _ _ (entered_same l _ r)

pub changed_same : {R : Forest → Forest → Type 0} {c d : Sections} → ChangedSections R c d → SameEntries c d
changed_same (in_section cases default ends c r) = same_next cases default ends _ _ c c (same_entries c)
changed_same (in_later cases default ends a r) = same_next cases default ends a a _ _ (changed_same r)

-- a Leap or a Land stands in a list that a rule changes

pub left_jumps : (l : ℕ) (a b : Forest) → 0 < jumps (join a (Then (Leap l) b))
left_jumps l a b = let h = total-join jump_of a (Then (Leap l) b) in omega arith

pub sections_left_jumps : (l : ℕ) {c d : Sections} → SectionsLeft l c d → 0 < total_in jump_of c
sections_left_jumps l (left_here cases default ends a b c) = let h = left_jumps l a b in omega arith
sections_left_jumps l (left_later cases default ends a r) = let h = sections_left_jumps l r in omega arith

moved_jumps : {xs ys : Forest} → Moved xs ys → 0 < jumps xs
moved_jumps (M.join_after l t) = omega arith
moved_jumps (M.join_before l t) = omega arith
moved_jumps (M.lifted l x t h) = let q = total-join jump_of t (one (Leap l)) in omega arith
moved_jumps (M.out_then l t a b c) = let h = left_jumps l a b in omega arith
moved_jumps (M.out_else l t a b c) = let h = left_jumps l a b in omega arith
moved_jumps (M.out_while l t a b) = let h = left_jumps l a b in omega arith
moved_jumps (M.out_do l t a b) = let h = left_jumps l a b in omega arith
moved_jumps (M.out_switch l s r) = let h = sections_left_jumps l r in omega arith
moved_jumps (M.in_then l t u a b h) = omega arith
moved_jumps (M.in_else l t u a b h) = omega arith
moved_jumps (M.in_while l t u a h) = omega arith
moved_jumps (M.in_do l t u a h) = omega arith
moved_jumps (M.in_switch l t s k n r p) = omega arith

mutual
  pub changed_jumps : {xs ys : Forest} → Changed Moved xs ys → 0 < jumps xs
  changed_jumps (here r) = moved_jumps r
  changed_jumps (within a b {xs = xs} c) = let h = changed_jumps c in let p = total-join jump_of a (join xs b) in let q = total-join jump_of xs b in omega arith
  changed_jumps (in_then t b c) = let h = changed_jumps c in omega arith
  changed_jumps (in_else t a c) = let h = changed_jumps c in omega arith
  changed_jumps (in_while t c) = let h = changed_jumps c in omega arith
  changed_jumps (in_do t c) = let h = changed_jumps c in omega arith
  changed_jumps (in_for f t u c) = let h = changed_jumps c in omega arith
  changed_jumps (in_switch s c) = let h = sections_jumps c in omega arith
  changed_jumps (in_block c) = let h = changed_jumps c in omega arith

  pub sections_jumps : {c d : Sections} → ChangedSections Moved c d → 0 < total_in jump_of c
  sections_jumps (in_section cases default ends c r) = let h = changed_jumps r in omega arith
  sections_jumps (in_later cases default ends a r) = let h = sections_jumps r in omega arith

-- a fact of one item that each rule keeps
pub record IsKept (P : Tree → Type 0) : Type 0 where
  pub made_if : (m : ℕ) (a : Forest) → P (Leap m) → P (If (Off m) a Nil)
  pub made_do : (m : ℕ) (a : Forest) → P (Leap m) → P (Do a (On m))
  pub then : (t : TestTree) (a b c : Forest) → P (If t a b) → P (If t c b)
  pub else : (t : TestTree) (a b c : Forest) → 0 < jumps b → P (If t a b) → P (If t a c)
  pub whiles : (t : TestTree) (a b : Forest) → P (While t a) → P (While t b)
  pub dos : (t : TestTree) (a b : Forest) → P (Do a t) → P (Do b t)
  pub fors : (f a b : Forest) (t u : Option ExpressionTree) → 0 < jumps a → P (For f t u a) → P (For f t u b)
  pub switches : (s : SelectorTree) (c d : Sections) → SameEntries c d → P (Switch s c) → P (Switch s d)
  pub blocks : (a b : Forest) → P (Block a) → P (Block b)
  pub or_if : (m : ℕ) (t : TestTree) (a b : Forest) → P (Leap m) → P (If t a b) → P (If (OrOn m t) a b)
  pub and_if : (m : ℕ) (t : TestTree) (a b : Forest) → P (Leap m) → P (If t a b) → P (If (AndOff m t) a b)
  pub or_while : (m : ℕ) (t : TestTree) (a : Forest) → P (Leap m) → P (While t a) → P (While (OrOn m t) a)
  pub and_while : (m : ℕ) (t : TestTree) (a : Forest) → P (Leap m) → P (While t a) → P (While (AndOff m t) a)
  pub and_do : (m : ℕ) (t : TestTree) (a : Forest) → P (Leap m) → P (Do a t) → P (Do a (AndOff m t))
  pub picks : (m k : ℕ) (n : ℤ) (s : SelectorTree) (c : Sections) → P (Leap m) → SelectsBranch (B.Section k) n (Switch s c) → P (Switch s c) →
      P (Switch (Pick m n s) c)

module _ (P : Tree → Type 0) where
  pub everywhere_front : (a b : Forest) → Everywhere P (join a b) → Everywhere P a
  everywhere_front Nil b h = tt
  everywhere_front (Then x a) b h = (h.0, everywhere_front a b h.1)

  pub everywhere_back : (a b : Forest) → Everywhere P (join a b) → Everywhere P b
  everywhere_back Nil b h = h
  everywhere_back (Then x a) b h = everywhere_back a b h.1

  pub everywhere_join : (a b : Forest) → Everywhere P a → Everywhere P b → Everywhere P (join a b)
  everywhere_join Nil b p q = q
  everywhere_join (Then x a) b p q = (p.0, everywhere_join a b p.1 q)

module _ (P : Tree → Type 0) (kept : IsKept P) where
  front : (a b : Forest) → Everywhere P (join a b) → Everywhere P a
  front a b h = everywhere_front P a b h

  back : (a b : Forest) → Everywhere P (join a b) → Everywhere P b
  back a b h = everywhere_back P a b h

  both : (a b : Forest) → Everywhere P a → Everywhere P b → Everywhere P (join a b)
  both a b p q = everywhere_join P a b p q

  guarded_kept : (l : ℕ) (a : Forest) → P (Leap l) → Everywhere P a → Everywhere P (guarded l a)
  guarded_kept l Nil p h = tt
  guarded_kept l (Then x a) p h = ((kept.made_if l (Then x a) p, h, tt), tt)

  later_kept : (l : ℕ) (c : Sections) → P (Leap l) → EverywhereIn P c → EverywhereIn P (later_guarded l c)
  later_kept l NoSection p h = tt
  later_kept l (Section cases default a true c) p h = (guarded_kept l a p h.0, h.1)
  later_kept l (Section cases default a false c) p h = (guarded_kept l a p h.0, later_kept l c p h.1)

  chosen_kept : (l : ℕ) (ends : Bool) (c : Sections) → P (Leap l) → EverywhereIn P c → EverywhereIn P (cond ends c (later_guarded l c))
  chosen_kept l true c p h = h
  chosen_kept l false c p h = later_kept l c p h

  leap_of : (l : ℕ) (a b : Forest) → Everywhere P (join a (Then (Leap l) b)) → P (Leap l)
  leap_of l a b h = (back a (Then (Leap l) b) h).0

  left_kept : (l : ℕ) (a b : Forest) → Everywhere P (join a (Then (Leap l) b)) → Everywhere P (join a (guarded l b))
  left_kept l a b h = both a (guarded l b) (front a (Then (Leap l) b) h) (guarded_kept l b (leap_of l a b h) (back a (Then (Leap l) b) h).1)

  sections_left_kept : (l : ℕ) {c d : Sections} → SectionsLeft l c d → EverywhereIn P c → EverywhereIn P d × P (Leap l)
  sections_left_kept l (left_here cases default ends a b c) h = ((left_kept l a b h.0, chosen_kept l ends c (leap_of l a b h.0) h.1), leap_of l a b h.0)
  sections_left_kept l (left_later cases default ends a r) h = let q = sections_left_kept l r h.1 in ((h.0, q.0), q.1)

  sections_entered_kept : (l k : ℕ) {c d : Sections} → SectionsEntered l k c d → P (Leap l) → EverywhereIn P c → EverywhereIn P d
  sections_entered_kept l _ (entered_here cases default ends a c z) p h = ((p, h.0), h.1)
  sections_entered_kept l _ (entered_later cases default ends a r) p h = (h.0, sections_entered_kept l _ r p h.1)

  entering : (l : ℕ) (t : Forest) (x y : Tree) → (P (Leap l) → EverywhereOf P x → EverywhereOf P y) → Everywhere P (Then (Leap l) (join t (one x))) →
      Everywhere P (join (guarded l t) (one y))
  entering l t x y go h = both (guarded l t) (one y) (guarded_kept l t h.0 (front t (one x) h.1)) (go h.0 (back t (one x) h.1).0, tt)

  moved_kept : {xs ys : Forest} → Moved xs ys → Everywhere P xs → Everywhere P ys
  moved_kept (M.join_after l t) h = entering l t (Land l) (Land l) (λ p e. e) h
  moved_kept (M.join_before l t) h = ((kept.made_do l (Then (Land l) t) (back t (one (Leap l)) h.1).0, (h.0, front t (one (Leap l)) h.1)), tt)
  moved_kept (M.lifted l x t z) h =
      let p = (back t (one (Leap l)) h.1).0 in
      ((kept.made_do l (Then (Leap l) (Then x t)) p, (p, (h.0, front t (one (Leap l)) h.1))), tt)
  moved_kept (M.out_then l t a b c) h =
      let e = h.0 in
      ((kept.then t (join a (Then (Leap l) b)) c (join a (guarded l b)) e.0, left_kept l a b e.1, e.2), (leap_of l a b e.1, tt))
  moved_kept (M.out_else l t a b c) h =
      let e = h.0 in
      ((kept.else t c (join a (Then (Leap l) b)) (join a (guarded l b)) (left_jumps l a b) e.0, e.1, left_kept l a b e.2), (leap_of l a b e.2, tt))
  moved_kept (M.out_while l t a b) h =
      let e = h.0 in
      let p = leap_of l a b e.1 in
      ((kept.and_while l t (join a (guarded l b)) p (kept.whiles t (join a (Then (Leap l) b)) (join a (guarded l b)) e.0), left_kept l a b e.1), (p, tt))
  moved_kept (M.out_do l t a b) h =
      let e = h.0 in
      let p = leap_of l a b e.1 in
      ((kept.and_do l t (join a (guarded l b)) p (kept.dos t (join a (Then (Leap l) b)) (join a (guarded l b)) e.0), left_kept l a b e.1), (p, tt))
  moved_kept (M.out_switch l s r) h =
      let e = h.0 in
      let q = sections_left_kept l r e.1 in
      ((kept.switches s _ _ (left_same l r) e.0, q.0), (q.1, tt))
  moved_kept (M.in_then l t u a b z) h =
      entering l t (If u a b) (If (OrOn l u) (Then (Leap l) a) b)
      (λ p e. (kept.or_if l u (Then (Leap l) a) b p (kept.then u a b (Then (Leap l) a) e.0), (p, e.1), e.2)) h
  moved_kept (M.in_else l t u a b z) h =
      entering l t (If u a b) (If (AndOff l u) a (Then (Leap l) b))
      (λ p e. (kept.and_if l u a (Then (Leap l) b) p (kept.else u a b (Then (Leap l) b) (let q = lands-jumps l b in omega arith) e.0), e.1, (p, e.2))) h
  moved_kept (M.in_while l t u a z) h =
      entering l t (While u a) (While (OrOn l u) (Then (Leap l) a))
      (λ p e. (kept.or_while l u (Then (Leap l) a) p (kept.whiles u a (Then (Leap l) a) e.0), (p, e.1))) h
  moved_kept (M.in_do l t u a z) h = entering l t (Do a u) (Do (Then (Leap l) a) u) (λ p e. (kept.dos u a (Then (Leap l) a) e.0, (p, e.1))) h
  moved_kept (M.in_switch l t s k n {c = c} {d = d} r q) h =
      entering l t (Switch s c) (Switch (Pick l n s) d)
      (λ p e. (kept.switches (Pick l n s) c d (entered_same l k r) (kept.picks l k n s c p q e.0), sections_entered_kept l k r p e.1)) h

  mutual
    pub changed_kept : {xs ys : Forest} → Changed Moved xs ys → Everywhere P xs → Everywhere P ys
    changed_kept (here r) h = moved_kept r h
    changed_kept (within a b {xs = xs} {ys = ys} c) h =
        let e = back a (join xs b) h in
        both a (join ys b) (front a (join xs b) h) (both ys b (changed_kept c (front xs b e)) (back xs b e))
    changed_kept (in_then t b {xs = xs} {ys = ys} c) h = ((kept.then t xs b ys h.0.0, changed_kept c h.0.1, h.0.2), tt)
    changed_kept (in_else t a {xs = xs} {ys = ys} c) h = ((kept.else t a xs ys (changed_jumps c) h.0.0, h.0.1, changed_kept c h.0.2), tt)
    changed_kept (in_while t {xs = xs} {ys = ys} c) h = ((kept.whiles t xs ys h.0.0, changed_kept c h.0.1), tt)
    changed_kept (in_do t {xs = xs} {ys = ys} c) h = ((kept.dos t xs ys h.0.0, changed_kept c h.0.1), tt)
    changed_kept (in_for f t u {xs = xs} {ys = ys} c) h = ((kept.fors f xs ys t u (changed_jumps c) h.0.0, h.0.1, changed_kept c h.0.2), tt)
    changed_kept (in_switch s {c = c} {d = d} r) h = ((kept.switches s c d (changed_same r) h.0.0, sections_kept r h.0.1), tt)
    changed_kept (in_block {xs = xs} {ys = ys} c) h = ((kept.blocks xs ys h.0.0, changed_kept c h.0.1), tt)

    sections_kept : {c d : Sections} → ChangedSections Moved c d → EverywhereIn P c → EverywhereIn P d
    sections_kept (in_section cases default ends c r) h = (changed_kept r h.0, h.1)
    sections_kept (in_later cases default ends a r) h = (h.0, sections_kept r h.1)
