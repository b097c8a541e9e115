-- A change of a loop leaves the checks of each other slot that it doesn't turn.
use Rattle.std.proofs.Common.{ℕ, ◌+◌, ◌⊎◌, inl, inr, Bool, true, false, not, cond, ◌&&◌, eqb, eqb-true, is_some, Option, Some, None, ◌≡◌, refl, sym, ap, ◌∙◌, arith}
use Rattle.std.proofs.lemmas.Bool.{and_cases, or_parts, not-false}
use Rattle.c_tree.specs.declared.tree.Home.TheVariants as H
use Rattle.c_tree.specs.ExpressionTrees.{ExpressionTree, Typed, Var, Assign}
use Rattle.c_tree.specs.TestTrees.{TestTree, Source}
use Rattle.c_tree.specs.Trees.{Tree, Forest, Nil, Then, Sections, NoSection, Section, Evaluate, If, While, Do, For, Switch, Block, join}
use Rattle.c_tree.specs.Changed.{one}
use Rattle.tidy_laws.specs.Tails.{is_off, is_end}
use Rattle.tidy_laws.specs.Mentions.{lacks, list_lacks}
use Rattle.tidy_laws.specs.Changes.{is_narrow_expression, set_value, is_number, has_local, checks, unchecked, set_or, inner, inner_item, inner_sections, tailed, tailed_item}
use Rattle.tidy_slots.specs.Counts.{one_if}
use Rattle.tidy_loops.specs.Views.{off_slot, is_it}
use Rattle.tidy_loops.proofs.FormLaws.{off_it}
use Rattle.tidy_loops.specs.Exits.{checks_in, checks_of, checks_within}
use Rattle.tidy_loops.specs.Slots.{last_reset, but_last}
use Rattle.break_recovery.specs.declared.steady.Turned.{Turned}
use Rattle.break_recovery.specs.Steady.{no_slot, any_slot, one_of, is_turned, has_else, turned, item_turned, sections_turned}
use Rattle.break_recovery.proofs.Steadily.{both_parts, both_false}
use Rattle.break_recovery.proofs.Lacking.{inner_lacking, tailed_lacking}

-- ---- what is no `!h` is no check of h

no_off : (h : ℕ) (s : Option ℕ) → is_some s ≡ false → is_it h s ≡ false
no_off h None e = refl
no_off h (Some x) e = cc

not_off : (h : ℕ) (e : ExpressionTree) → is_some (off_slot e) ≡ false → is_off h e ≡ false
not_off h e i = off_it h e ∙ no_off h (off_slot e) i

unturned_slot : (h : ℕ) (s : Option ℕ) → is_turned h (one_of s) ≡ false → is_it h s ≡ false
unturned_slot h None e = refl
unturned_slot h (Some x) e = (or_parts (eqb x h) false e).0

module _ (h : ℕ) where
  checks_join : (a b : Forest) → checks_in h (join a b) ≡ checks_in h a + checks_in h b
  checks_join Nil b = omega arith
  checks_join (Then x xs) b = let p = checks_join xs b in omega (arith, p)

  given_checks : (a : Forest) (b : Bool) → checks_in h (cond b (one (Block a)) a) ≡ checks_in h a
  given_checks a true = omega arith
  given_checks a false = refl

  source_checks : (e : ExpressionTree) (b : Forest) → is_off h e ≡ false → checks h (Source e) b ≡ false
  source_checks e Nil i = i
  source_checks e (Then x xs) i = refl

  -- an `if` stays a check, or none, where its else-list stays, or stays empty, or its test is no `!x`
  kept_check : (t : TestTree) (b w : Forest) → (b ≡ Nil → w ≡ Nil) → (has_else t b ≡ false) ⊎ (w ≡ b) → checks h t w ≡ checks h t b
  kept_check t b w k (inr e) = ap (checks h t) e
  kept_check t Nil w k (inl i) = ap (checks h t) (k refl)
  kept_check (Source e) (Then x xs) w k (inl i) = source_checks e w (not_off h e i)
  kept_check _ (Then x xs) w k (inl i) = refl

module _ (g h : ℕ) (other : eqb g h ≡ false) where
  not_it : (s : Option ℕ) → is_it g s ≡ true → is_it h s ≡ false
  not_it None e = refl
  not_it (Some x) e = ap (λ z. eqb z h) (eqb-true x g e) ∙ other

  check_other : (t : TestTree) (b : Forest) → checks g t b ≡ true → (checks h t b ≡ false) × (b ≡ Nil)
  check_other (Source e) Nil i = (off_it h e ∙ not_it (off_slot e) (sym (off_it g e) ∙ i), refl)
  check_other (Source e) (Then x xs) i = cc
  check_other _ b i = cc

  if_checks : (t : TestTree) (a b v w : Forest) (c : Bool) → checks g t b ≡ c → (b ≡ Nil → w ≡ Nil) → (has_else t b ≡ false) ⊎ (w ≡ b) →
      checks_in h v ≡ checks_in h a → checks_in h w ≡ checks_in h b
      → checks_in h (unchecked c t v w) ≡ checks_of h (If t a b)
  if_checks t a b v w true i k n p q =
      let r = check_other t b i in
      let u = given_checks h v (has_local v) in
      let m = ap one_if r.0 in
      let s = ap (checks_in h) r.1 in
      omega (arith, p, u, m, s)
  if_checks t a b v w false i k n p q =
      let m = ap one_if (kept_check h t b w k n) in
      omega (arith, m, p, q)

  kept_any : (c : Bool) (b : Turned) → is_turned h (cond c any_slot b) ≡ false → (c ≡ false) × (is_turned h b ≡ false)
  kept_any true b e = cc
  kept_any false b e = (refl, e)

  -- in an `if` that tests `!x`, and turns not every slot, an else-list lacks the slot, so it stays
  if_turned : (t : TestTree) (a b w : Forest) → (list_lacks g b ≡ true → w ≡ b) → is_turned h (item_turned g (If t a b)) ≡ false →
      ((has_else t b ≡ false) ⊎ (w ≡ b)) × ((is_turned h (turned g a) ≡ false) × (is_turned h (turned g b) ≡ false))
  if_turned t a b w k e =
      let s = both_parts h (turned g a) (cond (has_else t b && not (list_lacks g b)) any_slot (turned g b)) e in
      let p = kept_any (has_else t b && not (list_lacks g b)) (turned g b) s.1 in
      (kept (and_cases (has_else t b) (not (list_lacks g b)) p.0), (s.0, p.1))
    where
      kept : ((has_else t b ≡ false) ⊎ (not (list_lacks g b) ≡ false)) → (has_else t b ≡ false) ⊎ (w ≡ b)
      kept (inl i) = inl i
      kept (inr i) = inr (k (not-false (list_lacks g b) i))

  inner_none : (b : Forest) → b ≡ Nil → inner g b ≡ Nil
  inner_none b e = ap (inner g) e

  mutual
    inner_checks : (a : Forest) → is_turned h (turned g a) ≡ false → checks_in h (inner g a) ≡ checks_in h a
    inner_checks Nil e = refl
    inner_checks (Then x xs) e =
        let p = inner_item_checks x (both_parts h (item_turned g x) (turned g xs) e).0 in
        let q = inner_checks xs (both_parts h (item_turned g x) (turned g xs) e).1 in
        let r = checks_join h (inner_item g x) (inner g xs) in
        omega (arith, p, q, r)

    inner_item_checks : (x : Tree) → is_turned h (item_turned g x) ≡ false → checks_in h (inner_item g x) ≡ checks_of h x
    inner_item_checks (If t a b) e =
        let s = if_turned t a b (inner g b) (inner_lacking g b) e in
        if_checks t a b (inner g a) (inner g b) (checks g t b) refl (inner_none b) s.0 (inner_checks a s.1.0) (inner_checks b s.1.1)
    inner_item_checks (While t a) e = let p = inner_checks a e in omega (arith, p)
    inner_item_checks (Do a t) e = let p = inner_checks a e in omega (arith, p)
    inner_item_checks (For f t u a) e = let p = inner_checks a e in omega (arith, p)
    inner_item_checks (Switch s c) e = let p = inner_sections_checks c e in omega (arith, p)
    inner_item_checks (Block a) e = let p = inner_checks a e in omega (arith, p)
    inner_item_checks x e = omega arith

    inner_sections_checks : (c : Sections) → is_turned h (sections_turned g c) ≡ false → checks_within h (inner_sections g c) ≡ checks_within h c
    inner_sections_checks NoSection e = refl
    inner_sections_checks (Section cases default a ends c) e =
        let p = inner_checks a (both_parts h (turned g a) (sections_turned g c) e).0 in
        let q = inner_sections_checks c (both_parts h (turned g a) (sections_turned g c) e).1 in
        omega (arith, p, q)

  -- ---- sets

  leaving_checks : (l : Tree) (v : ExpressionTree) (b : Bool) → checks_of h l ≡ 0 → is_off h v ≡ false →
      checks_of h (cond b l (If (Source v) (one l) Nil)) ≡ 0
  leaving_checks l v true k i = k
  leaving_checks l v false k i = let m = ap one_if i in omega (arith, m, k)

  set_at : (l : Tree) → checks_of h l ≡ 0 → (e v : ExpressionTree) (a b : Bool) → is_turned h (cond a (one_of (off_slot v)) no_slot) ≡ false →
      checks_in h (one (set_or l e (cond (a && b) (Some v) None))) ≡ 0
  set_at l k e v true true i =
      let p = leaving_checks l v (is_number 1 v) k (off_it h v ∙ unturned_slot h (off_slot v) i) in
      omega (arith, p)
  set_at l k e v true false i = omega arith
  set_at l k e v false b i = omega arith

  set_checks : (l : Tree) → checks_of h l ≡ 0 → (e : ExpressionTree) → is_turned h (item_turned g (Evaluate e)) ≡ false →
      checks_in h (one (set_or l e (set_value g e))) ≡ 0
  set_checks l k (Typed t (Assign (Var (H.Slot x)) v)) i = set_at l k (Typed t (Assign (Var (H.Slot x)) v)) v (eqb x g) (is_narrow_expression v && lacks g v) i
  set_checks l k e i = omega arith

  chosen_checks : (n : ℕ) (b : Bool) (v w : Forest) → checks_in h v ≡ n → checks_in h w ≡ n → checks_in h (cond b v w) ≡ n
  chosen_checks n true v w p q = p
  chosen_checks n false v w p q = q

  module _ (l : Tree) (k : checks_of h l ≡ 0) where
    tailed_none : (b : Forest) → b ≡ Nil → tailed g l b ≡ Nil
    tailed_none b e = ap (tailed g l) e

    mutual
      pub tailed_checks : (a : Forest) → is_turned h (turned g a) ≡ false → checks_in h (tailed g l a) ≡ checks_in h a
      tailed_checks Nil e = refl
      tailed_checks (Then x xs) e =
          let s = (both_parts h (item_turned g x) (turned g xs) e).0 in
          let p = chosen_checks (checks_of h x) (is_end g xs) (tailed_item g l x) (inner_item g x) (tailed_item_checks x s) (inner_item_checks x s) in
          let q = tailed_checks xs (both_parts h (item_turned g x) (turned g xs) e).1 in
          let r = checks_join h (cond (is_end g xs) (tailed_item g l x) (inner_item g x)) (tailed g l xs) in
          omega (arith, p, q, r)

      tailed_item_checks : (x : Tree) → is_turned h (item_turned g x) ≡ false → checks_in h (tailed_item g l x) ≡ checks_of h x
      tailed_item_checks (Evaluate e) i = set_checks l k e i
      tailed_item_checks (If t a b) e =
          let s = if_turned t a b (tailed g l b) (tailed_lacking g l b) e in
          if_checks t a b (tailed g l a) (tailed g l b) (checks g t b) refl (tailed_none b) s.0 (tailed_checks a s.1.0) (tailed_checks b s.1.1)
      tailed_item_checks x e = inner_item_checks x e

-- ---- without the last item

pub turned_front : (g h : ℕ) (a : Forest) → is_turned h (turned g a) ≡ false → is_turned h (turned g (but_last a)) ≡ false
turned_front g h Nil e = refl
turned_front g h (Then x Nil) e = refl
turned_front g h (Then x (Then y ys)) e =
    let p = both_parts h (item_turned g x) (turned g (Then y ys)) e in
    both_false h (item_turned g x) (turned g (but_last (Then y ys))) p.0 (turned_front g h (Then y ys) p.1)

reset_checks : (h g : ℕ) (x : Tree) → last_reset (Then x Nil) ≡ Some g → checks_of h x ≡ 0
reset_checks h g (Evaluate e) i = refl
reset_checks h g _ i = cc

-- a last `g = 0;` is no check
pub front_checks : (h g : ℕ) (a : Forest) → last_reset a ≡ Some g → checks_in h (but_last a) ≡ checks_in h a
front_checks h g Nil e = refl
front_checks h g (Then x Nil) e = let p = reset_checks h g x e in omega (arith, p)
front_checks h g (Then x (Then y ys)) e = let p = front_checks h g (Then y ys) e in omega (arith, p)
