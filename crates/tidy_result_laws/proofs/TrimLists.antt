-- Each change of a body is one that the relation has.
use Rattle.std.proofs.Common.{ℕ, suc, Bool, true, false, cond, List, Option, Some, None, option_map, slice_get, ◌≡◌, refl, sym, ap, ◌∙◌, subst}
use Rattle.c_tree.specs.declared.tree.Slot.{Slot}
use Rattle.c_tree.specs.declared.tree.BinaryOp.TheVariants.{AndThen}
use Rattle.c_tree.specs.ExpressionTrees.{Typed, Binary}
use Rattle.c_tree.specs.TestTrees.{TestTree, Source}
use Rattle.c_tree.specs.Trees.{Tree, Forest, Nil, Then, Sections, NoSection, Section, Evaluate, If, While, Do, For, Switch, Block, Local, Break, Continue}
use Rattle.c_tree.specs.Everywhere.{Everywhere, EverywhereOf, EverywhereIn}
use Rattle.c_tree.proofs.MoveLemmas.{some_same}
use Rattle.c_resolved_defs.specs.Form.{AreAlike, IsFirstPart}
use Rattle.c_resolved_laws.proofs.Ranged.{the_some}
use Rattle.tidy_laws.specs.Tails.{reset}
use Rattle.tidy_laws.specs.Changes.{tailed, are_low, second_test, before_reset, with_breaks, broken_loop, after_reset, both_there, with_continues, continued_loop, around, changed_here, changed_lists, changed_items, changed_sections, is_reset}
use Rattle.tidy_laws.proofs.Lists.{Each, each_both, each_around, each_for}
use Rattle.tidy_laws.proofs.ChangedLists.{reset_is, before_is, Guarded, second_is, none_some}
use Rattle.tidy_result_laws.proofs.Trims.{NewTest, same_test, second_half, Trim, t_then, t_reset, TrimItem, i_same, i_if, i_while, i_do, i_for, i_switch, i_block, TrimSections, s_more, trim_same, sections_same, tail_trim, reset_behind}

-- the first part of a `for` is nothing, one expression, or declarations of variables that are there
abbrev pub HasFirst : List Slot → Tree → Type 0
HasFirst ss (For first t u a) = IsFirstPart ss first
HasFirst ss _ = Unit {0}

-- ---- a loop that is left by `break`

new_test : (g : ℕ) (t s : TestTree) → Guarded g t s → NewTest g t s
new_test g t s h = subst (λ z. NewTest g z s) (sym h.whole) (subst (NewTest g (Source (Typed h.kind (Binary AndThen h.first h.second)))) (sym h.rest)
    (second_half h.kind h.first h.second))

module _ (g n : ℕ) where
  broken_trim : (b : Bool) (x y : Tree) → broken_loop g (suc n) x ≡ Some y → TrimItem g b n x y
  broken_trim b (While t a) y e = at (second_test g t) refl e
    where
      low : (s : TestTree) → second_test g t ≡ Some s → (z : Bool) → are_low g (suc n) a ≡ z →
          cond z (Some (While s (tailed g Break a))) None ≡ Some y → TrimItem g b n (While t a) y
      low s q true l i = subst (TrimItem g b n (While t a)) (some_same i) (i_while (new_test g t s (second_is g t s q)) (tail_trim g true a l))
      low s q false l i = absurd (none_some i)

      at : (o : Option TestTree) → second_test g t ≡ o → with_breaks g (suc n) While o a ≡ Some y → TrimItem g b n (While t a) y
      at (Some s) q i = low s q (are_low g (suc n) a) refl i
      at None q i = absurd (none_some i)
  broken_trim b (Do a t) y e = at (second_test g t) refl e
    where
      low : (s : TestTree) → second_test g t ≡ Some s → (z : Bool) → are_low g (suc n) a ≡ z → cond z (Some (Do (tailed g Break a) s)) None ≡ Some y →
          TrimItem g b n (Do a t) y
      low s q true l i = subst (TrimItem g b n (Do a t)) (some_same i) (i_do (new_test g t s (second_is g t s q)) (tail_trim g true a l))
      low s q false l i = absurd (none_some i)

      at : (o : Option TestTree) → second_test g t ≡ o → with_breaks g (suc n) (λ t a. Do a t) o a ≡ Some y → TrimItem g b n (Do a t) y
      at (Some s) q i = low s q (are_low g (suc n) a) refl i
      at None q i = absurd (none_some i)
  broken_trim b x y e = absurd (none_some e)

  after_is : (a b : Forest) → after_reset g a ≡ Some b → a ≡ Then (reset g) b
  after_is Nil b e = absurd (none_some e)
  after_is (Then x xs) b e = at (is_reset g x) refl e
    where
      at : (y : Bool) → is_reset g x ≡ y → cond y (Some xs) None ≡ Some b → Then x xs ≡ Then (reset g) b
      at true q i = ap (λ x. Then x xs) (reset_is g x q) ∙ ap (Then (reset g)) (some_same i)
      at false q i = absurd (none_some i)

  pub broken_lists : (b : Bool) (x : Tree) (xs c : Forest) → both_there (broken_loop g (suc n) x) (after_reset g xs) ≡ Some c → Trim g b n (Then x xs) c
  broken_lists b x xs c e = at (broken_loop g (suc n) x) (after_reset g xs) refl refl e
    where
      at : (o : Option Tree) (r : Option Forest) → broken_loop g (suc n) x ≡ o → after_reset g xs ≡ r → both_there o r ≡ Some c → Trim g b n (Then x xs) c
      at (Some y) (Some ys) q r i = subst (Trim g b n (Then x xs)) (some_same i)
          (t_then (broken_trim b x y q) (subst (λ z. Trim g b n z ys) (sym (after_is xs ys r)) (t_reset (trim_same g ys))))
      at None r q s i = absurd (none_some i)
      at (Some y) None q s i = absurd (none_some i)

  -- ---- a loop that is left by `continue`

  body_trim : (a c : Forest) → before_reset g a ≡ Some c → are_low g (suc n) c ≡ true → Trim g true (suc n) a (tailed g Continue c)
  body_trim a c e l = subst (λ z. Trim g true (suc n) z (tailed g Continue c)) (sym (before_is g a c e)) (reset_behind g (tail_trim g false c l))

  loop_trim : (b : Bool) (a : Forest) (loop : Forest → Tree) (y : Tree) →
      ((c : Forest) → Trim g true (suc n) a c → TrimItem g b n (loop a) (loop c)) → with_continues g (suc n) loop (before_reset g a) ≡ Some y →
      TrimItem g b n (loop a) y
  loop_trim b a loop y h e = at (before_reset g a) refl e
    where
      low : (c : Forest) → before_reset g a ≡ Some c → (z : Bool) → are_low g (suc n) c ≡ z →
          cond z (Some (loop (tailed g Continue c))) None ≡ Some y → TrimItem g b n (loop a) y
      low c q true l i = subst (TrimItem g b n (loop a)) (some_same i) (h (tailed g Continue c) (body_trim a c q l))
      low c q false l i = absurd (none_some i)

      at : (o : Option Forest) → before_reset g a ≡ o → with_continues g (suc n) loop o ≡ Some y → TrimItem g b n (loop a) y
      at (Some c) q i = low c q (are_low g (suc n) c) refl i
      at None q i = absurd (none_some i)

  continued_trim : (b : Bool) (x y : Tree) → continued_loop g (suc n) x ≡ Some y → TrimItem g b n x y
  continued_trim b (While t a) y e = loop_trim b a (While t) y (λ c k. i_while (same_test t) k) e
  continued_trim b (Do a t) y e = loop_trim b a (λ a. Do a t) y (λ c k. i_do (same_test t) k) e
  continued_trim b (For f t u a) y e = loop_trim b a (For f t u) y (λ c k. i_for f t u k) e
  continued_trim b x y e = absurd (none_some e)

  pub continued_lists : (b : Bool) (x : Tree) (xs c : Forest) → option_map (λ y. Then y xs) (continued_loop g (suc n) x) ≡ Some c → Trim g b n (Then x xs) c
  continued_lists b x xs c e = at (continued_loop g (suc n) x) refl e
    where
      at : (o : Option Tree) → continued_loop g (suc n) x ≡ o → option_map (λ y. Then y xs) o ≡ Some c → Trim g b n (Then x xs) c
      at (Some y) q i = subst (Trim g b n (Then x xs)) (some_same i) (t_then (continued_trim b x y q) (trim_same g xs))
      at None q i = absurd (none_some i)

-- ---- all changes

module _ (ss : List Slot) (start count : ℕ) where
  abbrev pub OfList : ℕ → Forest → ℕ × Forest → Type 0
  OfList n a c = (b : Bool) → Trim c.0 b n a c.1

  abbrev OfItem : ℕ → Tree → ℕ × Tree → Type 0
  OfItem n x c = (b : Bool) → TrimItem c.0 b n x c.1

  abbrev OfSections : ℕ → Sections → ℕ × Sections → Type 0
  OfSections n s c = TrimSections c.0 n s c.1

  -- a first part of a `for` has no loops
  module _ (P : ℕ × Forest → Type 0) where
    nothing_here : (n : ℕ) (x : Tree) (xs : Forest) → ((g : ℕ) → broken_loop g (suc n) x ≡ None) → ((g : ℕ) → continued_loop g (suc n) x ≡ None) →
        Each P (changed_here start count n x xs)
    nothing_here n x xs h k =
        each_both P _ _
        (each_for P (λ g. both_there (broken_loop g (suc n) x) (after_reset g xs)) start count
        (λ g c l m e. absurd (none_some (sym (ap (λ o. both_there o (after_reset g xs)) (h g)) ∙ e))))
        (each_for P (λ g. option_map (λ y. Then y xs) (continued_loop g (suc n) x)) start count
        (λ g c l m e. absurd (none_some (sym (ap (λ o. option_map (λ y. Then y xs) o) (k g)) ∙ e))))

  around_nothing : (P : ℕ × Forest → Type 0) (x : Tree) (xs : Forest) (n : ℕ) →
      ((P : ℕ × Forest → Type 0) → Each P (changed_lists start count n xs)) → Each P (around (Then x) (changed_lists start count n xs))
  around_nothing P x xs n h = each_around (λ c. P (c.0, Then x c.1)) P (Then x) (changed_lists start count n xs) (λ c k. k) (h (λ c. P (c.0, Then x c.1)))

  alike_nothing : (s : Slot) (a : Forest) (n : ℕ) → AreAlike ss s a → (P : ℕ × Forest → Type 0) → Each P (changed_lists start count n a)
  alike_nothing s Nil n h P = tt
  alike_nothing s (Then (Local k es) xs) n h P =
      each_both P (changed_here start count n (Local k es) xs) _ (nothing_here P n (Local k es) xs (λ g. refl) (λ g. refl))
      (around_nothing P (Local k es) xs n (alike_nothing s xs n h.1))
  alike_nothing s (Then _ xs) n h P = absurd h

  first_nothing : (a : Forest) (n : ℕ) → IsFirstPart ss a → (P : ℕ × Forest → Type 0) → Each P (changed_lists start count n a)
  first_nothing Nil n h P = tt
  first_nothing (Then (Evaluate e) Nil) n h P = each_both P (changed_here start count n (Evaluate e) Nil)
      _ (nothing_here P n (Evaluate e) Nil (λ g. refl) (λ g. refl)) tt
  first_nothing (Then (Local k es) xs) n h P =
      let s = the_some _ (slice_get ss k) h in
      each_both P (changed_here start count n (Local k es) xs) _ (nothing_here P n (Local k es) xs (λ g. refl) (λ g. refl))
      (around_nothing P (Local k es) xs n (alike_nothing s.0 xs n s.2))
  first_nothing _ n h P = absurd h

  here_trims : (n : ℕ) (x : Tree) (xs : Forest) → Each (OfList n (Then x xs)) (changed_here start count n x xs)
  here_trims n x xs =
      each_both (OfList n (Then x xs)) _ _
      (each_for (OfList n (Then x xs)) (λ g. both_there (broken_loop g (suc n) x) (after_reset g xs)) start count (λ g c l m e b. broken_lists g n b x xs c e))
      (each_for (OfList n (Then x xs)) (λ g. option_map (λ y. Then y xs) (continued_loop g (suc n) x)) start count
      (λ g c l m e b. continued_lists g n b x xs c e))

  mutual
    pub lists_trim : (a : Forest) → Everywhere (HasFirst ss) a → (n : ℕ) → Each (OfList n a) (changed_lists start count n a)
    lists_trim Nil h n = tt
    lists_trim (Then x xs) h n =
        each_both (OfList n (Then x xs)) (changed_here start count n x xs) _ (here_trims n x xs)
        (each_both (OfList n (Then x xs)) (around (λ y. Then y xs) (changed_items start count (suc n) x)) _
        (each_around (OfItem n x) (OfList n (Then x xs)) (λ y. Then y xs) (changed_items start count (suc n) x)
        (λ c k b. t_then (k b) (trim_same c.0 xs)) (items_trim x h.0 n))
        (each_around (OfList n xs) (OfList n (Then x xs)) (Then x) (changed_lists start count n xs) (λ c k b. t_then (i_same x) (k b)) (lists_trim xs h.1 n)))

    items_trim : (x : Tree) → EverywhereOf (HasFirst ss) x → (n : ℕ) → Each (OfItem n x) (changed_items start count (suc n) x)
    items_trim (If t a d) h n =
        each_both (OfItem n (If t a d)) (around (λ c. If t c d) (changed_lists start count (suc n) a)) _
        (each_around (OfList (suc n) a) (OfItem n (If t a d)) (λ c. If t c d) (changed_lists start count (suc n) a)
        (λ c k b. i_if t (k b) (trim_same c.0 d)) (lists_trim a h.1 (suc n)))
        (each_around (OfList (suc n) d) (OfItem n (If t a d)) (If t a) (changed_lists start count (suc n) d) (λ c k b. i_if t (trim_same c.0 a) (k b))
        (lists_trim d h.2 (suc n)))
    items_trim (While t a) h n = each_around (OfList (suc n) a) (OfItem n (While t a)) (While t) (changed_lists start count (suc n) a)
        (λ c k b. i_while (same_test t) (k true)) (lists_trim a h.1 (suc n))
    items_trim (Do a t) h n = each_around (OfList (suc n) a) (OfItem n (Do a t)) (λ c. Do c t) (changed_lists start count (suc n) a)
        (λ c k b. i_do (same_test t) (k true)) (lists_trim a h.1 (suc n))
    items_trim (For f t u a) h n =
        each_both (OfItem n (For f t u a)) (around (λ c. For c t u a) (changed_lists start count (suc n) f)) _
        (each_around (λ c. OfItem n (For f t u a) (c.0, For c.1 t u a)) (OfItem n (For f t u a)) (λ c. For c t u a)
        (changed_lists start count (suc n) f) (λ c k. k) (first_nothing f (suc n) h.0 (λ c. OfItem n (For f t u a) (c.0, For c.1 t u a))))
        (each_around (OfList (suc n) a) (OfItem n (For f t u a)) (For f t u) (changed_lists start count (suc n) a) (λ c k b. i_for f t u (k true))
        (lists_trim a h.2 (suc n)))
    items_trim (Switch s d) h n = each_around (OfSections (suc n) d) (OfItem n (Switch s d)) (Switch s) (changed_sections start count (suc n) d)
        (λ c k b. i_switch s k) (sections_trim d h.1 (suc n))
    items_trim (Block a) h n = each_around (OfList (suc n) a) (OfItem n (Block a)) Block (changed_lists start count (suc n) a)
        (λ c k b. i_block (k b)) (lists_trim a h.1 (suc n))
    items_trim _ h n = tt

    sections_trim : (s : Sections) → EverywhereIn (HasFirst ss) s → (n : ℕ) → Each (OfSections n s) (changed_sections start count n s)
    sections_trim NoSection h n = tt
    sections_trim (Section cases default a ends s) h n =
        each_both (OfSections n (Section cases default a ends s)) (around (λ b. Section cases default b ends s) (changed_lists start count n a)) _
        (each_around (OfList n a) (OfSections n (Section cases default a ends s)) (λ b. Section cases default b ends s)
        (changed_lists start count n a) (λ c k. s_more cases default ends (k false) (sections_same c.0 s)) (lists_trim a h.0 n))
        (each_around (OfSections n s) (OfSections n (Section cases default a ends s)) (Section cases default a ends)
        (changed_sections start count n s) (λ c k. s_more cases default ends (trim_same c.0 a) k) (sections_trim s h.1 n))
