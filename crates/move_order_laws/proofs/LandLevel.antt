-- Where a label has one Land, the sum of its levels is the level of that Land.
use Rattle.std.proofs.Common.{◌≡◌, ℕ, suc, ◌<◌, List, [], ◌∷◌, Some, option_and_then, length, take, drop, slice_get, refl, ap, ◌∙◌, arith}
use Rattle.std.specs.Prelude.{cond}
use Rattle.std.proofs.lemmas.Bool.{eq-eqb}
use Rattle.c_tree.specs.declared.tree.Item.{Item, Land}
use Rattle.c_tree.specs.declared.tree.Step.{Step}
use Rattle.c_tree.specs.Paths.{item_at}
use Rattle.c_tree.specs.Trees.{Tree, Forest, Nil, Then, Sections, NoSection, Section, If, While, Do, For, Switch, Block, trees_of, tree_of}
use Rattle.c_tree.specs.Everywhere.{total_in}
use Rattle.c_tree.specs.Labels.{land_of, lands, lands_of, lands_inside}
use Rattle.c_tree.proofs.PathLemmas.{stepped}
use Rattle.c_tree.proofs.TreeLaws.{tree-Land}
use Rattle.c_tree.proofs.RuleChanges.{stands}
use Rattle.move_order_laws.specs.Levels.{levels, levels_of}
use Rattle.move_order_laws.proofs.ListTotals.{total-split, list_total, other_lists}

mutual
  levels_none : (l : ℕ) (xs : Forest) → lands l xs ≡ 0 → levels l xs ≡ 0
  levels_none l Nil e = refl
  levels_none l (Then x xs) e =
      let p = levels_none_of l x (omega arith) in
      let q = levels_none l xs (omega arith) in
      omega arith

  levels_none_of : (l : ℕ) (x : Tree) → lands_of l x ≡ 0 → levels_of l x ≡ 0
  levels_none_of l (If t a b) e = let p = levels_none l a (omega arith) in let q = levels_none l b (omega arith) in omega arith
  levels_none_of l (While t a) e = let p = levels_none l a (omega arith) in omega arith
  levels_none_of l (Do a t) e = let p = levels_none l a (omega arith) in omega arith
  levels_none_of l (For f t u a) e = let p = levels_none l f (omega arith) in let q = levels_none l a (omega arith) in omega arith
  levels_none_of l (Switch s c) e = let p = levels_none_in l c (omega arith) in omega arith
  levels_none_of l (Block a) e = let p = levels_none l a (omega arith) in omega arith
  levels_none_of l _ e = refl

  levels_none_in : (l : ℕ) (c : Sections) → total_in (land_of l) c ≡ 0 → total_in (lands_inside l) c ≡ 0
  levels_none_in l NoSection e = refl
  levels_none_in l (Section cases default a ends c) e = let p = levels_none l a (omega arith) in let q = levels_none_in l c (omega arith) in omega arith

pub lands-Land : (l : ℕ) → lands_of l (tree_of (Land l)) ≡ 1
lands-Land l = ap (lands_of l) (tree-Land l) ∙ ap (λ b. cond {A = ℕ} b 1 0) (eq-eqb l l refl)

-- a Land at a path counts
pub land_some : (l : ℕ) (xs : List Item) (ss : List Step) (i : ℕ) → item_at xs ss i ≡ Some (Land l) → 0 < lands l (trees_of xs)
land_some l xs ss i e =
    let s = stands xs ss i (Land l) e in
    let p = list_total (land_of l) xs ss s.list s.list_is in
    let q = total-split (land_of l) s.list i (Land l) s.item_is in
    let r = lands-Land l in
    omega (arith, p, q, r)

pub land_level : (l : ℕ) (xs : List Item) (ss : List Step) (i : ℕ) → item_at xs ss i ≡ Some (Land l) → lands l (trees_of xs) ≡ 1 →
    levels l (trees_of xs) ≡ length ss
land_level l xs [] i e one =
    let q = total-split (land_of l) xs i (Land l) e in
    let r = lands-Land l in
    let s = total-split (lands_inside l) xs i (Land l) e in
    let a = levels_none l (trees_of (take i xs)) (omega (arith, q, r, one)) in
    let b = levels_none l (trees_of (drop (suc i) xs)) (omega (arith, q, r, one)) in
    let c : levels_of l (tree_of (Land l)) ≡ 0 = ap (levels_of l) (tree-Land l) in
    omega (arith, s, a, b, c)
land_level l xs (z ∷ ss) i e one =
    let p = stands xs (z ∷ ss) i (Land l) e in
    let t = stepped xs z ss p.list p.list_is in
    let there : item_at t.inner ss i ≡ Some (Land l) = ap (λ o. option_and_then (λ a. slice_get a i) o) t.rest ∙ p.item_is in
    let some = land_some l t.inner ss i there in
    let q = total-split (land_of l) xs z.item t.item t.item_is in
    let s = total-split (lands_inside l) xs z.item t.item t.item_is in
    let o = other_lists z.branch t.item t.inner t.inner_is in
    let u = o.sum (land_of l) in
    let v = o.sum (lands_inside l) in
    let w = o.inside l in
    let h = land_level l t.inner ss i there (omega (arith, some, q, u, one)) in
    let a = levels_none l (trees_of (take z.item xs)) (omega (arith, some, q, u, one)) in
    let b = levels_none l (trees_of (drop (suc z.item) xs)) (omega (arith, some, q, u, one)) in
    let c = levels_none l o.others (omega (arith, some, q, u, one)) in
    omega (arith, some, q, s, u, v, w, h, a, b, c, one)
