-- Changes in a row in an item of the outermost list, told of the items.
use Rattle.std.proofs.Common.{ℕ, suc, ◌+◌, ◌-◌, ◌<◌, ◌≤◌, arith, Bool, true, false, cond, List, [], ◌∷◌, length, take, drop, get_or, slice_get, slice_set, Some, None, ◌≡◌, refl, sym, ap, subst, ◌∙◌}
use Rattle.c_tree.specs.declared.tree.Item.{Item}
use Rattle.c_tree.specs.declared.tree.Function.{Function}
use Rattle.c_tree.specs.Trees.{Forest, Nil, Then, trees_of, join}
use Rattle.c_tree.specs.Views.{tree_at}
use Rattle.c_tree.proofs.TreeLaws.{trees-none}
use Rattle.c_tree.proofs.Views.{trees-first, trees-at}
use Rattle.jump_meaning.specs.Code.{FunctionTree, function_tree}
use Rattle.tidy_laws.specs.Changes.{undeclared, is_declaration}
use Rattle.tidy_laws.specs.Gone.{left}
use Rattle.tidy_loops.specs.Slots.{Tells, count_in}
use Rattle.break_recovery.specs.Next.{next_at}
use Rattle.break_recovery.specs.Places.{behind, AreQuiet}
use Rattle.break_recovery.specs.Underway.{Underway}
use Rattle.break_recovery.specs.Ways.{first_item, IsWayIn, IsWayAt, IsAhead}
use Rattle.break_recovery.specs.Ends.{with_body, WentOnBy}
use Rattle.break_recovery.specs.InARow.{without}
use Rattle.break_recovery.specs.Fronts.{holds_none, DeclaresNone, DeclaresFirst, all_undeclared, all_marked}
use Rattle.break_recovery.proofs.Steps.{set_trees, entry_is}
use Rattle.break_recovery.specs.Within.{AreApart}
use Rattle.break_recovery.proofs.Within.{apart_told, apart_there}
use Rattle.break_recovery.proofs.Outermost.{behind_is}
use Rattle.break_recovery.proofs.WaysSearched.{asked_before}
use Rattle.break_recovery.proofs.RowsWithin.{RowOfItem, long, behind_long, long_take, split_at, Held, asked_none}
use Rattle.break_recovery.proofs.FrontLaws.{IsDone, plain_none, rest_made, first_before, first_joined, undeclared_join}

-- ---- how long lists are

long_trees : (xs : List Item) → long (trees_of xs) ≡ length xs
long_trees [] = ap long trees-none
long_trees (x ∷ xs) = ap long (trees-first x xs) ∙ ap suc (long_trees xs)

long_join : (a b : Forest) → long (join a b) ≡ long a + long b
long_join Nil b = omega arith
long_join (Then x xs) b = let e = long_join xs b in omega (arith, e)

no_longer : (g : ℕ) (a : Forest) → long (undeclared g a) ≤ long a
no_longer g Nil = omega arith
no_longer g (Then x xs) = by (is_declaration g x) (no_longer g xs)
  where
    by : (b : Bool) → long (undeclared g xs) ≤ long xs → long (cond b xs (Then x (undeclared g xs))) ≤ suc (long xs)
    by true i = omega arith
    by false i = omega (arith, i)

none_longer : (gs : List ℕ) (a : Forest) → long (all_undeclared gs a) ≤ long a
none_longer [] a = omega arith
none_longer (g ∷ gs) a = let i = none_longer gs (undeclared g a) in let j = no_longer g a in omega (arith, i, j)

all_joined : (gs : List ℕ) (p r : Forest) → DeclaresNone r → all_undeclared gs (join p r) ≡ join (all_undeclared gs p) r
all_joined [] p r n = refl
all_joined (g ∷ gs) p r n = ap (all_undeclared gs) (undeclared_join g p r (n g)) ∙ all_joined gs (undeclared g p) r n

pub first_there : (xs : List Item) (k : ℕ) (x : Item) → k < length xs → slice_get xs k ≡ Some x → first_item (behind k (trees_of xs)) ≡ tree_at x
first_there xs k x h e = ap first_item (sym (behind_is k xs) ∙ trees-at xs k x h (entry_is xs k x e))

-- what holds no list there allows no change
pub plain_there : (f : FunctionTree) (n : ℕ) (xs : List Item) (k : ℕ) (x : Item) → k < length xs → x ≡ get_or xs k x → holds_none (tree_at x) ≡ true →
    next_at f n (behind k (trees_of xs)) ≡ None
plain_there f n xs k x h e p =
    ap (next_at f n) (sym (behind_is k xs) ∙ trees-at xs k x h e) ∙ plain_none f n (tree_at x) (trees_of (drop (k + 1) xs)) p

-- ---- what was made

pub none_went : (gone : List Bool) (counts : List ℕ) (f : Function) → WentOnBy 0 gone counts f gone counts f
none_went gone counts f = (refl, λ n start u. (subst (λ k. Underway k start gone counts (function_tree f)) (by n) u, omega arith))
  where
    by : (n : ℕ) → n ≡ n + 0
    by n = omega arith

module _ (counts after gs v w : List ℕ) (k : ℕ) (xs zs : List Item) (x y : Item) (h : k < length xs) (e : slice_get xs k ≡ Some x)
    (q : RowOfItem 2 counts after gs v w (tree_at x) (tree_at y)) (z : trees_of zs ≡ all_undeclared gs (trees_of (slice_set xs k y)))
    (ahead : (f : FunctionTree) → Tells counts f → AreQuiet f 2 k (trees_of xs) × IsWayAt true f 2 v (behind k (trees_of xs)))
    (plain : holds_none (tree_at x) ≡ false) (o : v ≡ [] → ⊥) (d : DeclaresFirst (trees_of xs)) (apart : AreApart (count_in counts) (trees_of xs)) where
  abbrev p : Forest
  p = trees_of (take k xs)

  abbrev r : Forest
  r = trees_of (drop (k + 1) xs)

  whole : trees_of xs ≡ join p (Then (tree_at x) r)
  whole = split_at xs k x h e

  at_end : long p ≡ k
  at_end = long_take xs k h

  front : DeclaresFirst p × DeclaresNone (Then (tree_at x) r)
  front = first_before p r (tree_at x) plain (subst DeclaresFirst whole d)

  held : (f : FunctionTree) → Tells counts f → IsWayIn true f 2 v (tree_at x) × Held 1 p r f (tree_at x)
  held f t =
      let a = ahead f t in
      let b : IsWayAt true f 2 v (Then (tree_at x) r) =
      subst (IsWayAt true f 2 v) (ap (behind k) whole ∙ ap (λ k. behind k (join p (Then (tree_at x) r))) (sym at_end) ∙
      behind_long p (Then (tree_at x) r)) a.1 in (
        b.1,
        (
          subst (λ k. AreQuiet f 2 k (join p (Then (tree_at x) r))) (sym at_end) (subst (AreQuiet f 2 k) whole a.0),
          asked_before true f 2 v (Then (tree_at x) r) refl o b,
          apart_told counts f (tree_at x) r t (apart_there (count_in counts) xs k x h (entry_is xs k x e) apart),
        ),
      )

  done : (n : ℕ) (start : FunctionTree) (gone : List Bool) (f : FunctionTree) → f.body ≡ Some (trees_of xs) → Underway n start gone counts f →
      IsDone gs start n gone counts f p r (tree_at y)
  done n start gone f b u =
      rest_made gs n start gone counts f p r (tree_at x) (tree_at y) (b ∙ ap Some whole) u front.0 front.1 (λ g t. (held g t).1)
      (q.1 f u.told (λ g t. (held g t).0)).0

  now : DeclaresNone (Then (tree_at y) r) → trees_of zs ≡ join (all_undeclared gs p) (Then (tree_at y) r)
  now n = z ∙ ap (all_undeclared gs) (set_trees xs k y h) ∙ all_joined gs p (Then (tree_at y) r) n

  pub rest_went : (gone gone_then : List Bool) (f : Function) → gone_then ≡ all_marked gone gs →
      WentOnBy (length gs) gone counts (with_body f xs) gone_then after (with_body f zs)
  rest_went gone gone_then f m = (
    refl,
    λ n start u.
        let i = done n start gone (function_tree (with_body f xs)) refl u in (
          subst (λ a. Underway (n + length gs) start a after (function_tree (with_body f zs))) (sym m)
              (subst (λ c. Underway (n + length gs) start (all_marked gone gs) c (function_tree (with_body f zs))) (sym q.0)
              (subst (λ b. Underway (n + length gs) start (all_marked gone gs) (without counts gs) (record (function_tree (with_body f xs)) { body = Some b }))
              (sym (now i.none)) i.underway)),
          ap (λ a. length gs + length (left a f.slots)) m ∙ i.fewer,
        ),
  )

  pub rest_starts : (n : ℕ) (start : FunctionTree) (gone : List Bool) (f : FunctionTree) (from : ℕ) → f.body ≡ Some (trees_of xs) →
      Underway n start gone counts f → from ≡ k - (length xs - length zs) →
      ((i : FunctionTree) → Tells after i → IsAhead true i 2 from from w (trees_of zs)) × DeclaresFirst (trees_of zs)
  rest_starts n start gone f from b u m = (
    λ i t.
        let l = s.held i (subst (λ c. Tells c i) q.0 t) in
        subst (IsAhead true i 2 from from w) (sym a)
        (subst (λ j. IsAhead true i 2 j j w (join c (Then (tree_at y) r))) (sym place) (
          λ j g z. l.0 j g,
          subst (IsWayAt true i 2 w) (sym (behind_long c (Then (tree_at y) r)))
              (asked_none i 2 w (Then (tree_at y) r) l.1, (q.1 f u.told (λ g t. (held g t).0)).1 i t),
        )),
    subst DeclaresFirst (sym a) (first_joined c (Then (tree_at y) r) s.front s.none),
  )
    where
      s : IsDone gs start n gone counts f p r (tree_at y)
      s = done n start gone f b u

      c : Forest
      c = all_undeclared gs p

      a : trees_of zs ≡ join c (Then (tree_at y) r)
      a = now s.none

      place : from ≡ long c
      place =
          let i = none_longer gs p in
          let l = sym (long_trees zs) ∙ ap long a ∙ long_join c (Then (tree_at y) r) in
          let g = sym (long_trees xs) ∙ ap long whole ∙ long_join p (Then (tree_at x) r) in
          omega (arith, m, i, l, g, at_end)
