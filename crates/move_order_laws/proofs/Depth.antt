-- No simplification and no conversion makes a body deeper.
use Rattle.std.proofs.Common.{◌≡◌, ℕ, ◌+◌, ◌*◌, ◌≤◌, Bool, true, false, cond, List, Option, Some, None, refl, ap, arith}
use Rattle.std.specs.Prelude.{max}
use Rattle.std.specs.Option.{option_map_or}
use Rattle.c_tree.specs.declared.tree.Item.{Item}
use Rattle.c_tree.specs.TestTrees.{TestTree, Source}
use Rattle.c_tree.specs.Trees.{Tree, Forest, Nil, Then, Sections, NoSection, Section, Evaluate, If, While, Do, For, Switch, Block, Goto, Arm, Leap, Land, join, trees_of}
use Rattle.c_tree.specs.Everywhere.{total_of, total_in}
use Rattle.c_tree.specs.Changed.{one, Changed, ChangedSections, here, within, in_then, in_else, in_while, in_do, in_for, in_switch, in_block, in_section, in_later}
use Rattle.c_tree.specs.WellMade.{IsWellMade}
use Rattle.c_tree.proofs.KeptLemmas.{total-join}
use Rattle.move_laws.specs.Simplifications.{Simplified, empty_if, shorter_if, shorter_while, shorter_do, shorter_switch, neighbours, nested}
use Rattle.move_laws.specs.Drops.{dropped, dropped_item, dropped_sections}
use Rattle.c_tree.specs.Conversions.{jump_tree, source_tree, conditional_goto, convert, convert_item, convert_sections}
use Rattle.move_order_laws.specs.declared.kept.Kept.{Kept}
use Rattle.move_order_laws.specs.Leaps.{leap_of, leaps}
use Rattle.move_order_laws.specs.Nesting.{nesting, nesting_of, nesting_in}
use Rattle.move_order_laws.specs.Derivations.{Derives}
use Rattle.move_order_laws.proofs.Around.{nesting_some, nesting-join}
use Rattle.move_order_laws.proofs.SomeDerivation.{nesting_laws}
use Rattle.move_order_laws.specs.MoveBodyLaws.{goto_of, gotos, DepthLaws}

simpler : {xs ys : Forest} → Simplified xs ys → nesting ys ≤ nesting xs
simpler (empty_if t m) = omega arith
simpler (shorter_if a b s) = omega arith
simpler (shorter_while a s) = omega arith
simpler (shorter_do a s) = omega arith
simpler (shorter_switch c s) = omega arith
simpler (neighbours m a b r) = let h = nesting-join a b in omega arith
simpler (nested t u a o m) = omega arith

mutual
  changed : {xs ys : Forest} → Changed Simplified xs ys → nesting ys ≤ nesting xs
  changed (here r) = simpler r
  changed (within a b {xs = xs} {ys = ys} c) =
      let h = changed c in
      let p = nesting-join a (join xs b) in let q = nesting-join xs b in let p' = nesting-join a (join ys b) in let q' = nesting-join ys b in omega arith
  changed (in_then t b c) = let h = changed c in omega arith
  changed (in_else t a c) = let h = changed c in omega arith
  changed (in_while t c) = let h = changed c in omega arith
  changed (in_do t c) = let h = changed c in omega arith
  changed (in_for f t u c) = let h = changed c in omega arith
  changed (in_switch s c) = let h = changed_sections c in omega arith
  changed (in_block c) = let h = changed c in omega arith

  changed_sections : {c d : Sections} → ChangedSections Simplified c d → nesting_in d ≤ nesting_in c
  changed_sections (in_section cases default ends c r) = let h = changed r in omega arith
  changed_sections (in_later cases default ends a r) = let h = changed_sections r in omega arith

pub cond_depth : (b : Bool) (x y : Forest) (n : ℕ) → nesting x ≤ n → nesting y ≤ n → nesting (cond b x y) ≤ n
cond_depth true x y n p q = p
cond_depth false x y n p q = q

mutual
  dropped_depth : (d : ℕ → Bool) (a : Forest) → nesting (dropped d a) ≤ nesting a
  dropped_depth d Nil = omega arith
  dropped_depth d (Then x a) =
      let p = dropped_item_depth d x in let q = dropped_depth d a in let r = nesting-join (dropped_item d x) (dropped d a) in let s =
      nesting_some a in
      omega arith

  -- an item by itself
  dropped_item_depth : (d : ℕ → Bool) (x : Tree) → nesting (dropped_item d x) ≤ 1 + nesting_of x
  dropped_item_depth d (If t a b) = let p = dropped_depth d a in let q = dropped_depth d b in let s = nesting_some a in omega arith
  dropped_item_depth d (While t a) = let p = dropped_depth d a in omega arith
  dropped_item_depth d (Do a t) = let p = dropped_depth d a in omega arith
  dropped_item_depth d (For f t u a) = let p = dropped_depth d a in omega arith
  dropped_item_depth d (Switch s c) = let p = dropped_sections_depth d c in omega arith
  dropped_item_depth d (Block a) = let p = dropped_depth d a in omega arith
  dropped_item_depth d (Arm l None) = cond_depth (d l) Nil (one (Arm l None)) 1 (omega arith) (omega arith)
  dropped_item_depth d (Arm l (Some e)) = cond_depth (d l) (one (Evaluate e)) (one (Arm l (Some e))) 1 (omega arith) (omega arith)
  dropped_item_depth d (Land l) = cond_depth (d l) Nil (one (Land l)) 1 (omega arith) (omega arith)
  dropped_item_depth d _ = omega arith

  dropped_sections_depth : (d : ℕ → Bool) (c : Sections) → nesting_in (dropped_sections d c) ≤ nesting_in c
  dropped_sections_depth d NoSection = omega arith
  dropped_sections_depth d (Section cases default a ends c) = let p = dropped_depth d a in let q = dropped_sections_depth d c in omega arith

if_depth : (o : Option ℕ) (t : TestTree) (a b : Forest) (n : ℕ) → nesting (one (If t (convert a) (convert b))) ≤ n → 1 ≤ n →
    nesting (option_map_or (λ l. jump_tree l (source_tree t)) o (one (If t (convert a) (convert b)))) ≤ n
if_depth None t a b n h k = h
if_depth (Some l) t a b n h k = omega arith

mutual
  converted_depth : (a : Forest) → nesting (convert a) ≤ nesting a
  converted_depth Nil = omega arith
  converted_depth (Then x a) =
      let p = converted_item_depth x in let q = converted_depth a in let r = nesting-join (convert_item x) (convert a) in let s = nesting_some a in omega arith

  converted_item_depth : (x : Tree) → nesting (convert_item x) ≤ 1 + nesting_of x
  converted_item_depth (If t a b) =
      let p = converted_depth a in let q = converted_depth b in let s = nesting_some a in
      if_depth (conditional_goto t a b) t a b (1 + max (nesting a) (nesting b)) (omega arith) (omega arith)
  converted_item_depth (While t a) = let p = converted_depth a in omega arith
  converted_item_depth (Do a t) = let p = converted_depth a in omega arith
  converted_item_depth (For f t u a) = let p = converted_depth a in omega arith
  converted_item_depth (Switch s c) = let p = converted_sections_depth c in omega arith
  converted_item_depth (Block a) = let p = converted_depth a in omega arith
  converted_item_depth _ = omega arith

  converted_sections_depth : (c : Sections) → nesting_in (convert_sections c) ≤ nesting_in c
  converted_sections_depth NoSection = omega arith
  converted_sections_depth (Section cases default a ends c) = let p = converted_depth a in let q = converted_sections_depth c in omega arith

-- one Leap for each goto

goto_alone : (t : TestTree) (a b : Forest) (l : ℕ) → conditional_goto t a b ≡ Some l → (gotos a + gotos b ≡ 1) × (leaps a + leaps b ≡ 0)
goto_alone (Source e) (Then (Goto m) Nil) Nil l h = (refl, refl)
goto_alone (Source e) Nil Nil l h = cc
goto_alone (Source e) (Then (Goto m) (Then x a)) Nil l h = cc
goto_alone (Source e) (Then _ a) Nil l h = cc
goto_alone (Source e) a (Then y b) l h = cc
goto_alone _ a b l h = cc

if_leaps : (o : Option ℕ) (t : TestTree) (a b : Forest) → conditional_goto t a b ≡ o → leaps (convert a) ≡ gotos a + leaps a →
    leaps (convert b) ≡ gotos b + leaps b
    → leaps (option_map_or (λ l. jump_tree l (source_tree t)) o (one (If t (convert a) (convert b)))) ≡ gotos a + gotos b + leaps a + leaps b
if_leaps None t a b e p q = omega arith
if_leaps (Some l) t a b e p q = let h = goto_alone t a b l e in let x = h.0 in let y = h.1 in omega arith

mutual
  converted_leaps : (a : Forest) → leaps (convert a) ≡ gotos a + leaps a
  converted_leaps Nil = refl
  converted_leaps (Then x a) = let p = converted_item_leaps x in let q = converted_leaps a in let r =
      total-join leap_of (convert_item x) (convert a) in
      omega arith

  converted_item_leaps : (x : Tree) → leaps (convert_item x) ≡ total_of goto_of x + total_of leap_of x
  converted_item_leaps (If t a b) = let h = if_leaps (conditional_goto t a b) t a b refl (converted_leaps a) (converted_leaps b) in omega (arith, h)
  converted_item_leaps (While t a) = let p = converted_leaps a in omega arith
  converted_item_leaps (Do a t) = let p = converted_leaps a in omega arith
  converted_item_leaps (For f t u a) = let p = converted_leaps a in let q = converted_leaps f in omega arith
  converted_item_leaps (Switch s c) = let p = converted_sections_leaps c in omega arith
  converted_item_leaps (Block a) = let p = converted_leaps a in omega arith
  converted_item_leaps (Goto l) = refl
  converted_item_leaps (Leap l) = refl
  converted_item_leaps _ = refl

  converted_sections_leaps : (c : Sections) → total_in leap_of (convert_sections c) ≡ total_in goto_of c + total_in leap_of c
  converted_sections_leaps NoSection = refl
  converted_sections_leaps (Section cases default a ends c) = let p = converted_leaps a in let q = converted_sections_leaps c in omega arith

whole : (flat : Forest) (body : List Item) (ms : List Kept) (new : List Item) → trees_of body ≡ convert flat → leaps flat ≡ 0 →
    IsWellMade (trees_of body) → Derives body ms new
    → nesting (trees_of new) ≤ nesting flat + 3 * gotos flat
whole flat body ms new e z w d =
    let h = nesting_laws.derived body ms new w d in
    let n = ap nesting e in
    let l = ap leaps e in
    let p = converted_depth flat in
    let q = converted_leaps flat in
    omega (arith, h, n, l, p, q, z)

pub depth_laws : DepthLaws
depth_laws = record { simplified = λ xs ys c. changed c; dropped = dropped_depth; converted = converted_depth; jumps = converted_leaps; whole = whole }
