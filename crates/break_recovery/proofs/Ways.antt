-- Ways of lists of items, and how the search goes on with them.
use mathlib.Core.Path.{ap₂}
use Rattle.std.proofs.Common.{ℕ, zero, suc, ◌+◌, ◌<◌, ◌⊎◌, inl, inr, arith, Bool, true, List, [], ◌∷◌, ◌++◌, length, take, drop, get_or, slice_set, reverse, option_map, Option, Some, None, is_some, ◌≡◌, refl, sym, ap, subst, ◌∙◌}
use Rattle.std.proofs.lemmas.List.{reverse-append}
use Rattle.c_tree.specs.declared.tree.Item.{Item, If, While, Do, For, Switch, Block}
use Rattle.c_tree.specs.declared.tree.Expression.{Expression}
use Rattle.c_tree.specs.declared.tree.Test.{Test}
use Rattle.c_tree.specs.declared.tree.Selector.{Selector}
use Rattle.c_tree.specs.declared.tree.Section as Real
use Rattle.c_tree.specs.ExpressionTrees.{expression_tree}
use Rattle.c_tree.specs.TestTrees.{test_tree, selector_tree}
use Rattle.c_tree.specs.Trees.{Forest, Then, trees_of, sections_of, join}
use Rattle.c_tree.specs.Views.{tree_at}
use Rattle.c_tree.proofs.Views.{trees-first, trees-at, at-If, at-While, at-Do, at-For, at-Switch, at-Block, section-first}
use Rattle.jump_meaning.specs.Code.{FunctionTree}
use Rattle.tidy_loops.specs.Slots.{counts_of}
use Rattle.break_recovery.specs.Next.{or_else, put, next_list, next_at, next_either, changed_to}
use Rattle.break_recovery.specs.Places.{behind, replaced, removed_at, AreQuiet, IsFoundAt, Fewer}
use Rattle.break_recovery.specs.Ways.{IsStep, IsWayIn, IsWayAt, IsWay, IsWayOf, KeepsWay, IsBefore, AreQuietSections, list_there, IsWayThrough}
use Rattle.c_tree.specs.Paths.{list_of}
use Rattle.break_recovery.proofs.NothingBefore.{found_next}
use Rattle.break_recovery.proofs.WaysSearched.{in_if_way, if_way, in_while_way, while_way, in_do_way, do_way, in_for_way, for_way, in_block_way, block_way, step_in_list, found_way, second_way, no_way, in_switch_way, switch_way, quiet_sections_still}
use Rattle.break_recovery.proofs.Outermost.{behind_is, at_place, one_found}
use Rattle.break_recovery.proofs.Steps.{put_changed}

-- ---- steps

pub way_told : (v w : List ℕ) (k : ℕ) → v ≡ w ++ k ∷ [] → reverse v ≡ k ∷ reverse w
way_told v w k e = ap reverse e ∙ reverse-append w (k ∷ [])

pub front_step : (v w : List ℕ) (k : ℕ) → v ≡ w ++ k ∷ [] → IsStep (reverse v) k (reverse w)
front_step v w k e = inl (way_told v w k e)

pub no_step : (v w : List ℕ) → v ≡ [] → w ≡ [] → IsStep (reverse v) 0 (reverse w)
no_step v w e r = inr (ap reverse e, (refl, ap reverse r))

pub no_way_of_list : (sure : Bool) (f : FunctionTree) (n : ℕ) (w : List ℕ) (a : Forest) → w ≡ [] → IsWay sure f n (reverse w) a
no_way_of_list sure f n w a e = subst (λ w. IsWay sure f n w a) (sym (ap reverse e)) tt

-- ---- lists

pub list_stepped : (sure : Bool) (f : FunctionTree) (n k : ℕ) (v w : List ℕ) (xs : List Item) → IsStep v k w → IsWay sure f n v (trees_of xs) →
    AreQuiet f (suc n) k (trees_of xs) × IsWayAt sure f (suc n) w (trees_of (drop k xs))
list_stepped sure f n k v w xs s q =
    let r = step_in_list sure f n k v w (trees_of xs) s q in
    (r.0, subst (IsWayAt sure f (suc n) w) (sym (behind_is k xs)) r.1)

pub premise_at : (sure : Bool) (f : FunctionTree) (n m i : ℕ) (xs ys : List Item) (w : List ℕ) → m ≡ suc n → ys ≡ xs →
    IsWayAt sure f (suc n) w (trees_of (drop i xs)) → IsWayAt sure f m w (trees_of (drop i ys))
premise_at sure f n m i xs ys w e q p = subst (λ j. IsWayAt sure f j w (trees_of (drop i ys))) (sym e)
    (subst (λ zs. IsWayAt sure f (suc n) w (trees_of (drop i zs))) (sym q) p)

pub at_told : (f : FunctionTree) (n m i : ℕ) (xs ys : List Item) (s : Option ℕ) (b : Forest) → m ≡ suc n → ys ≡ xs
    → changed_to s b ≡ put (join (trees_of (take i ys))) (next_at f m (trees_of (drop i ys))) →
    changed_to s b ≡ put (λ c. replaced i c (trees_of xs)) (next_at f (suc n) (behind i (trees_of xs)))
at_told f n m i xs ys s b e q k = k ∙ ap₂ (λ j zs. put (join (trees_of (take i zs))) (next_at f j (trees_of (drop i zs)))) e q ∙ at_place xs i f (suc n)

pub list_found : (f : FunctionTree) (n i : ℕ) (a b : Forest) (s : Option ℕ) → is_some s ≡ true →
    changed_to s b ≡ put (λ c. replaced i c a) (next_at f (suc n) (behind i a)) → AreQuiet f (suc n) i a → changed_to s b ≡ next_list f n a
list_found f n i a b None h k q = cc
list_found f n i a b (Some g) h k q = by (one_found f (suc n) i a b (Some g) g k refl q)
  where
    by : IsFoundAt f (suc n) (Some (g, i)) a b → Some (g, b) ≡ next_list f n a
    by (q, c, e, r) = ap (λ z. Some (g, z)) r ∙ sym (found_next f n i a g c q e)

pub list_way : (sure : Bool) (f h : FunctionTree) → Fewer (counts_of f) (counts_of h) →
    (n m g i : ℕ) (xs ys : List Item) (s : Option ℕ) (v w : List ℕ) → m ≡ suc n → s ≡ Some g
    → changed_to s (trees_of ys) ≡ put (λ c. replaced i c (trees_of xs)) (next_at f (suc n) (behind i (trees_of xs))) → AreQuiet f (suc n) i (trees_of xs)
    → v ≡ w ++ i ∷ [] → IsWayAt sure h m (reverse w) (trees_of (drop i ys)) → IsWay sure h n (reverse v) (trees_of ys)
list_way sure f h l n m g i xs ys s v w e r k q o p =
    subst (λ u. IsWay sure h n u (trees_of ys)) (sym (way_told v w i o))
    (found_way sure f h l n g i (trees_of xs) (trees_of ys) (reverse w) (one_found f (suc n) i (trees_of xs) (trees_of ys) s g k r q)
    (subst (IsWayAt sure h (suc n) (reverse w)) (behind_is i ys) (subst (λ j. IsWayAt sure h j (reverse w) (trees_of (drop i ys))) e p)))

-- ---- an item of a list

pub item_in : (sure : Bool) (f : FunctionTree) (n i : ℕ) (w : List ℕ) (xs ys : List Item) (x : Item) → i < length ys → x ≡ get_or ys i x → ys ≡ xs →
    IsWayAt sure f n w (trees_of (drop i xs)) → IsWayIn sure f n w (tree_at x)
item_in sure f n i w xs ys x h e q p = (subst (IsWayAt sure f n w) (trees-at ys i x h e) (subst (λ zs. IsWayAt sure f n w (trees_of (drop i zs))) (sym q) p)).1

pub dropped_set : (xs : List Item) (i : ℕ) (y : Item) → i < length xs → trees_of (drop i (slice_set xs i y)) ≡ Then (tree_at y) (trees_of (drop (i + 1) xs))
dropped_set [] i y h = absurd (omega (arith, h))
dropped_set (x ∷ xs) zero y h = trees-first y xs
dropped_set (x ∷ xs) (suc i) y h =
    let j : suc i + 1 ≡ suc (i + 1) = omega arith in
    dropped_set xs i y (omega (arith, h)) ∙ sym (ap (λ m. Then (tree_at y) (trees_of (drop m (x ∷ xs)))) j)

-- ---- two lists

pub second_alone : (f : FunctionTree) (n : ℕ) (a b w : Forest) (s : Option ℕ) → next_list f n a ≡ None → changed_to s w ≡ next_list f n b →
    changed_to s (a, w) ≡ next_either f n a b
second_alone f n a b w s e k = sym (put_changed (λ c. (a, c)) s w) ∙ ap (put (λ c. (a, c))) k ∙
    ap (λ o. or_else (put (λ c. (c, b)) o) (put (λ c. (a, c)) (next_list f n b))) (sym e)

pub first_out : (sure : Bool) (f : FunctionTree) (n : ℕ) (v w : List ℕ) (a b : Forest) → v ≡ w ++ 0 ∷ [] → IsWay sure f n (reverse w) a →
    IsWayOf sure f n (reverse v) a b
first_out sure f n v w a b e p = subst (λ u. IsWayOf sure f n u a b) (sym (way_told v w 0 e)) p

pub second_out : (sure : Bool) (f h : FunctionTree) → Fewer (counts_of f) (counts_of h) → (n : ℕ) (v : List ℕ) (a b : Forest) →
    next_list f n a ≡ None → (w : List ℕ) × (v ≡ 1 ∷ w) × IsWay sure h n w b → IsWayOf sure h n v a b
second_out sure f h l n v a b e (w, k, p) = subst (λ u. IsWayOf sure h n u a b) (sym k) (second_way sure f h l n a b w e p)

-- nothing was found
pub nothing_made : (s : Option ℕ) (b : Forest) (o : Option (ℕ × Forest)) → s ≡ None → changed_to s b ≡ o → o ≡ None
nothing_made s b o e k = sym k ∙ ap (λ s. changed_to s b) e

-- ---- the outermost list

pub place_in : (sure : Bool) (f : FunctionTree) (n i : ℕ) (xs ys : List Item) (w : List ℕ) → ys ≡ xs → IsWayAt sure f n w (behind i (trees_of xs)) →
    IsWayAt sure f n w (behind i (trees_of ys))
place_in sure f n i xs ys w q p = subst (λ zs. IsWayAt sure f n w (behind i (trees_of zs))) (sym q) p

pub place_told : (f : FunctionTree) (n i : ℕ) (xs ys : List Item) (s : Option ℕ) (b : Forest) → ys ≡ xs
    → changed_to s b ≡ put (λ c. replaced i c (trees_of ys)) (next_at f n (behind i (trees_of ys))) →
    changed_to s b ≡ put (λ c. replaced i c (trees_of xs)) (next_at f n (behind i (trees_of xs)))
place_told f n i xs ys s b q k = k ∙ ap (λ zs. put (λ c. replaced i c (trees_of zs)) (next_at f n (behind i (trees_of zs)))) q

abbrev place_of : Option (ℕ × ℕ) → ℕ
place_of None = 0
place_of (Some x) = x.1

pub pair_is : (g k : ℕ) (x : ℕ × ℕ) → Some (g, k) ≡ Some x → k ≡ x.1
pair_is g k x e = ap place_of e

abbrev slot_of_pair : Option (ℕ × ℕ) → ℕ
slot_of_pair None = 0
slot_of_pair (Some x) = x.0

pub pair_slot : (g k : ℕ) (x : ℕ × ℕ) → Some (g, k) ≡ Some x → g ≡ x.0
pair_slot g k x e = ap slot_of_pair e

pub way_goes_on : (sure : Bool) (f : FunctionTree) (n : ℕ) (v w : List ℕ) (k : ℕ) (gone : Option ℕ) (from : ℕ) (b d : Forest) →
    d ≡ removed_at gone b → KeepsWay k gone from
    → (w ≡ []) ⊎ (IsBefore gone k × (w ≡ v)) → IsWayAt sure f n (reverse v) (behind k b) → IsWayAt sure f n (reverse w) (behind from d)
way_goes_on sure f n v w k o from b d e h (inl r) p = no_way sure f n (reverse w) (behind from d) (ap reverse r)
way_goes_on sure f n v w k o from b d e h (inr (q, r)) p =
    subst (λ z. IsWayAt sure f n (reverse w) (behind from z)) (sym e)
    (h q sure f n (reverse w) b (subst (λ u. IsWayAt sure f n (reverse u) (behind k b)) (sym r) p))

-- ---- sections

pub more_quiet_sections : (f : FunctionTree) (n i : ℕ) (cs : List Real.Section) (s : Real.Section) → i < length cs → s ≡ get_or cs i s →
    next_list f n (trees_of (list_of s)) ≡ None
    → AreQuietSections f n i (sections_of cs) → AreQuietSections f n (i + 1) (sections_of cs)
more_quiet_sections f n i [] s h e k q = absurd (omega (arith, h))
more_quiet_sections f n zero (x ∷ xs) s h e k q = subst (AreQuietSections f n 1) (sym (section-first x xs))
    (ap (λ z. next_list f n (trees_of (list_of z))) (sym e) ∙ k, tt)
more_quiet_sections f n (suc i) (x ∷ xs) s h e k q =
    let p : (next_list f n (trees_of (list_of x)) ≡ None) × AreQuietSections f n i (sections_of xs) =
    subst (AreQuietSections f n (suc i)) (section-first x xs) q in
    let j : suc (i + 1) ≡ suc i + 1 = omega arith in
    subst (λ m. AreQuietSections f n m (sections_of (x ∷ xs))) j
    (subst (AreQuietSections f n (suc (i + 1))) (sym (section-first x xs)) (p.0, more_quiet_sections f n i xs s (omega (arith, h)) e k p.1))

pub list_there_is : (i : ℕ) (cs : List Real.Section) (s : Real.Section) → i < length cs → s ≡ get_or cs i s →
    list_there i (sections_of cs) ≡ trees_of (list_of s)
list_there_is i [] s h e = absurd (omega (arith, h))
list_there_is zero (x ∷ xs) s h e = ap (list_there zero) (section-first x xs) ∙ ap (λ z. trees_of (list_of z)) (sym e)
list_there_is (suc i) (x ∷ xs) s h e = ap (list_there (suc i)) (section-first x xs) ∙ list_there_is i xs s (omega (arith, h)) e

list_there_set : (i : ℕ) (cs : List Real.Section) (t : Real.Section) → i < length cs → list_there i (sections_of (slice_set cs i t)) ≡ trees_of (list_of t)
list_there_set i [] t h = absurd (omega (arith, h))
list_there_set zero (x ∷ xs) t h = ap (list_there zero) (section-first t xs)
list_there_set (suc i) (x ∷ xs) t h = ap (list_there (suc i)) (section-first x (slice_set xs i t)) ∙ list_there_set i xs t (omega (arith, h))

quiet_set : (f : FunctionTree) (n i : ℕ) (cs : List Real.Section) (t : Real.Section) → AreQuietSections f n i (sections_of cs) →
    AreQuietSections f n i (sections_of (slice_set cs i t))
quiet_set f n zero cs t q = tt
quiet_set f n (suc i) [] t q = q
quiet_set f n (suc i) (x ∷ xs) t q =
    let p : (next_list f n (trees_of (list_of x)) ≡ None) × AreQuietSections f n i (sections_of xs) =
    subst (AreQuietSections f n (suc i)) (section-first x xs) q in
    subst (AreQuietSections f n (suc i)) (sym (section-first x (slice_set xs i t))) (p.0, quiet_set f n i xs t p.1)

pub section_way : (sure : Bool) (f h : FunctionTree) → Fewer (counts_of f) (counts_of h) →
    (n i : ℕ) (cs : List Real.Section) (t : Real.Section) (v w : List ℕ) → i < length cs → AreQuietSections f n i (sections_of cs)
    → v ≡ w ++ i ∷ [] → IsWay sure h n (reverse w) (trees_of (list_of t)) → IsWayThrough sure h n (reverse v) (sections_of (slice_set cs i t))
section_way sure f h l n i cs t v w b q o p =
    subst (λ u. IsWayThrough sure h n u (sections_of (slice_set cs i t))) (sym (way_told v w i o))
    (quiet_set h n i cs t (quiet_sections_still f h l n i (sections_of cs) q), subst (IsWay sure h n (reverse w)) (sym (list_there_set i cs t b)) p)

-- ---- the forms of an item

module _ (sure : Bool) (f : FunctionTree) (n : ℕ) (w : List ℕ) where
  pub if_in : (x : Item) (t : Test) (a b : List Item) → x ≡ If t a b → IsWayIn sure f n w (tree_at x) → IsWayOf sure f n w (trees_of a) (trees_of b)
  if_in x t a b e q = in_if_way sure f n w (test_tree t) (trees_of a) (trees_of b) (subst (IsWayIn sure f n w) (ap tree_at e ∙ at-If t a b) q)

  pub if_out : (t : Test) (a b : List Item) → IsWayOf sure f n w (trees_of a) (trees_of b) → IsWayIn sure f n w (tree_at (If t a b))
  if_out t a b q = subst (IsWayIn sure f n w) (sym (at-If t a b)) (if_way sure f n w (test_tree t) (trees_of a) (trees_of b) q)

  pub while_in : (x : Item) (t : Test) (a : List Item) → x ≡ While t a → IsWayIn sure f n w (tree_at x) → IsWay sure f n w (trees_of a)
  while_in x t a e q = in_while_way sure f n w (test_tree t) (trees_of a) (subst (IsWayIn sure f n w) (ap tree_at e ∙ at-While t a) q)

  pub while_out : (t : Test) (a : List Item) → IsWay sure f n w (trees_of a) → IsWayIn sure f n w (tree_at (While t a))
  while_out t a q = subst (IsWayIn sure f n w) (sym (at-While t a)) (while_way sure f n w (test_tree t) (trees_of a) q)

  pub do_in : (x : Item) (t : Test) (a : List Item) → x ≡ Do a t → IsWayIn sure f n w (tree_at x) → IsWay sure f n w (trees_of a)
  do_in x t a e q = in_do_way sure f n w (trees_of a) (test_tree t) (subst (IsWayIn sure f n w) (ap tree_at e ∙ at-Do a t) q)

  pub do_out : (t : Test) (a : List Item) → IsWay sure f n w (trees_of a) → IsWayIn sure f n w (tree_at (Do a t))
  do_out t a q = subst (IsWayIn sure f n w) (sym (at-Do a t)) (do_way sure f n w (trees_of a) (test_tree t) q)

  pub for_in : (x : Item) (a : List Item) (t u : Option Expression) (b : List Item) → x ≡ For a t u b → IsWayIn sure f n w (tree_at x) →
      IsWayOf sure f n w (trees_of a) (trees_of b)
  for_in x a t u b e q =
      in_for_way sure f n w (trees_of a) (option_map expression_tree t) (option_map expression_tree u) (trees_of b)
      (subst (IsWayIn sure f n w) (ap tree_at e ∙ at-For a t u b) q)

  pub for_out : (a : List Item) (t u : Option Expression) (b : List Item) → IsWayOf sure f n w (trees_of a) (trees_of b) →
      IsWayIn sure f n w (tree_at (For a t u b))
  for_out a t u b q = subst (IsWayIn sure f n w) (sym (at-For a t u b))
      (for_way sure f n w (trees_of a) (option_map expression_tree t) (option_map expression_tree u) (trees_of b) q)

  pub block_in : (x : Item) (a : List Item) → x ≡ Block a → IsWayIn sure f n w (tree_at x) → IsWay sure f n w (trees_of a)
  block_in x a e q = in_block_way sure f n w (trees_of a) (subst (IsWayIn sure f n w) (ap tree_at e ∙ at-Block a) q)

  pub block_out : (a : List Item) → IsWay sure f n w (trees_of a) → IsWayIn sure f n w (tree_at (Block a))
  block_out a q = subst (IsWayIn sure f n w) (sym (at-Block a)) (block_way sure f n w (trees_of a) q)

pub switch_in : (sure : Bool) (f : FunctionTree) (n : ℕ) (w : List ℕ) (x : Item) (s : Selector) (c : List Real.Section) → x ≡ Switch s c →
    IsWayIn sure f n w (tree_at x) → IsWayThrough sure f n w (sections_of c)
switch_in sure f n w x s c e q = in_switch_way sure f n w (selector_tree s) (sections_of c) (subst (IsWayIn sure f n w) (ap tree_at e ∙ at-Switch s c) q)

pub switch_out : (sure : Bool) (f : FunctionTree) (n : ℕ) (w : List ℕ) (s : Selector) (c : List Real.Section) →
    IsWayThrough sure f n w (sections_of c) → IsWayIn sure f n w (tree_at (Switch s c))
switch_out sure f n w s c q = subst (IsWayIn sure f n w) (sym (at-Switch s c)) (switch_way sure f n w (selector_tree s) (sections_of c) q)
