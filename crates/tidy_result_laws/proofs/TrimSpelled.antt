-- A body that is spelled stays so where it is changed.
use Rattle.std.proofs.Common.{ℕ, Bool, true, false, List, Option, arith}
use Rattle.c_types.specs.declared.kinds.IntKind.{IntKind}
use Rattle.c_tree.specs.declared.tree.Slot.{Slot}
use Rattle.c_tree.specs.declared.tree.Function.{Function}
use Rattle.c_tree.specs.declared.tree.Home.TheVariants as H
use Rattle.c_tree.specs.declared.tree.BinaryOp.TheVariants.{AndThen}
use Rattle.c_tree.specs.ExpressionTrees.{ExpressionTree, Typed, Var, Binary, Assign}
use Rattle.c_tree.specs.TestTrees.{TestTree}
use Rattle.c_tree.specs.Trees.{Tree, Forest, Nil, Then, Sections, join}
use Rattle.c_resolved_defs.specs.PrintableExpressions.{level_of}
use Rattle.c_resolved_defs.specs.PrintableStatements.{FullPrints, TestPrints}
use Rattle.c_resolved_defs.specs.Spelling.{ItemIsSpelled, AreSpelled, SectionsAreSpelled}
use Rattle.tidy_laws.specs.Settles.{jump_by}
use Rattle.whole_laws.proofs.Wrappers.{bracket_most}
use Rattle.tidy_result_laws.proofs.Trims.{NewTest, same_test, second_half, Trim, t_nil, t_then, t_given, t_left, t_left_if, t_reset, TrimItem, i_same, i_if, i_while, i_do, i_for, i_switch, i_block, i_checked, TrimSections, s_none, s_more}

-- ---- counted tokens

module _ (ss : List Slot) (g : ℕ) where
  set_prints : (k : Option IntKind) (e : ExpressionTree) → FullPrints ss 1 (Typed k (Assign (Var (H.Slot g)) e)) → FullPrints ss 1 e
  set_prints k e h =
      let p = h.prints in
      let f = h.few in
      let b = bracket_most (level_of e) 1 in record { prints = p.1; few = omega (arith, f, b) }

  half_prints : (k : Option IntKind) (e t : ExpressionTree) → FullPrints ss 1 (Typed k (Binary AndThen e t)) → FullPrints ss 1 t
  half_prints k e t h =
      let p = h.prints in
      let f = h.few in
      let b = bracket_most (level_of t) 1 in record { prints = p.1; few = omega (arith, f, b) }

  test_prints : {t s : TestTree} → NewTest g t s → TestPrints ss t → TestPrints ss s
  test_prints (same_test t) h = h
  test_prints (second_half k e t) h = half_prints k e t h

module _ (f : Function) (g : ℕ) where
  spelled_join : (a b : Forest) → AreSpelled f a → AreSpelled f b → AreSpelled f (join a b)
  spelled_join Nil b h i = i
  spelled_join (Then x a) b h i = (h.0, spelled_join a b h.1 i)

  jump_spelled : (leave : Bool) → ItemIsSpelled f (jump_by leave)
  jump_spelled true = tt
  jump_spelled false = tt

  mutual
    pub trim_spelled : {b : Bool} {n : ℕ} {a c : Forest} → Trim g b n a c → AreSpelled f a → AreSpelled f c
    trim_spelled t_nil h = tt
    trim_spelled (t_then i r) h = (item_spelled i h.0, trim_spelled r h.1)
    trim_spelled (t_given e {c = c} {ys = ys} i q r) h = spelled_join c ys (trim_spelled i h.0.1) (trim_spelled r h.1)
    trim_spelled (t_left leave k e q r) h = (jump_spelled leave, trim_spelled r h.1)
    trim_spelled (t_left_if leave k e q l r) h = ((set_prints f.slots g k e h.0, (jump_spelled leave, tt), tt), trim_spelled r h.1)
    trim_spelled (t_reset r) h = trim_spelled r h.1

    item_spelled : {b : Bool} {n : ℕ} {x y : Tree} → TrimItem g b n x y → ItemIsSpelled f x → ItemIsSpelled f y
    item_spelled (i_same x) h = h
    item_spelled (i_if t i r) h = (h.0, trim_spelled i h.1, trim_spelled r h.2)
    item_spelled (i_while t i) h = (test_prints f.slots g t h.0, trim_spelled i h.1)
    item_spelled (i_do t i) h = (trim_spelled i h.0, test_prints f.slots g t h.1)
    item_spelled (i_for first t u i) h = (h.0, h.1, h.2, trim_spelled i h.3)
    item_spelled (i_switch s i) h = (h.0, sections_spelled i h.1)
    item_spelled (i_block i) h = trim_spelled i h
    item_spelled (i_checked e i) h = trim_spelled i h.1

    sections_spelled : {n : ℕ} {c d : Sections} → TrimSections g n c d → SectionsAreSpelled f c → SectionsAreSpelled f d
    sections_spelled s_none h = tt
    sections_spelled (s_more cases default ends i r) h = (h.0, trim_spelled i h.1, sections_spelled r h.2)
