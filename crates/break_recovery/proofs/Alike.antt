-- Lists and items that show the same of all slots that count but one, or name them otherwise than in exits, and that nothing
-- round them allows more.
use mathlib.Core.Path.{ap₂}
use Rattle.std.proofs.Common.{ℕ, suc, ◌+◌, ◌<◌, ◌≤◌, ◌⊎◌, inl, inr, Bool, true, false, cond, ◌&&◌, eqb, eqb-true, List, Option, Some, None, is_some, ◌≡◌, refl, sym, ap, subst, ◌∙◌, arith}
use Rattle.std.proofs.lemmas.Bool.{ne_eqb}
use Rattle.c_tree.specs.declared.tree.Home.TheVariants as H
use Rattle.c_tree.specs.ExpressionTrees.{ExpressionTree, Typed, Var, Assign}
use Rattle.c_tree.specs.TestTrees.{TestTree, SelectorTree, Source}
use Rattle.c_tree.specs.Trees.{Tree, Forest, Nil, Then, Sections, Section, Evaluate, If, While, Do, For, Switch, Block, Break, Continue}
use Rattle.jump_meaning.specs.Code.{FunctionTree}
use Rattle.plain_laws.proofs.PlainShown.{first_true}
use Rattle.tidy_laws.specs.Tails.{is_check, is_end}
use Rattle.tidy_laws.specs.Mentions.{lacks}
use Rattle.tidy_laws.specs.Changes.{is_narrow_expression, set_value, low_set, checks, are_low, is_low, is_number, tailed}
use Rattle.tidy_slots.specs.Counts.{one_if, test_count, list_count, item_count, sections_count}
use Rattle.tidy_loops.specs.Views.{is_it, is_int_kind}
use Rattle.tidy_loops.specs.Exits.{checks_in, checks_of, checks_within, exits_in, exits_of}
use Rattle.tidy_loops.proofs.FormLaws.{check_if}
use Rattle.tidy_loops.specs.Slots.{Tells, count_in, counts_of, reset_in, reset_slot, first_reset, last_reset, but_last, but_first, stop_slot, allowed, breaks, continues, break_slot, continue_slot, broken, continued}
use Rattle.break_recovery.specs.Next.{of_slot, next_here}
use Rattle.break_recovery.specs.Places.{Fewer}
use Rattle.tidy_loops.proofs.ExitCounts.{check_most, checks_in_most, checks_of_most, checks_within_most, exits_in_most, exits_of_most}
use Rattle.tidy_loops.proofs.Outside.{stop_one, last_one, outside_test, outside_reset}
use Rattle.break_recovery.specs.Steady.{turned, item_turned, is_turned, HasItems, ShowsAlike, ItemShowsAlike, NamesOtherwise, NeedsOtherwise, IsKept, ItemIsKept, AreAlike, AreAlikeOf, SectionsKept, AreSectionsAlike, AsksAlike, IsAlike}
use Rattle.break_recovery.proofs.Less.{broken_less, continued_less}
use Rattle.break_recovery.proofs.Within.{is_less, is_some_slot}
use Rattle.break_recovery.proofs.Stays.{first_none, second_none, both_none, unslot, slot_none, refused, and_false, counted_none, continue_still}
use Rattle.break_recovery.proofs.SteadyChanges.{tailed_checks, turned_front, front_checks}
use Rattle.break_recovery.proofs.ExitsTold.{allowed_so}

pub or_more : {P Q R : Type 0} → P ⊎ Q → (Q → R) → P ⊎ R
or_more (inl p) f = inl p
or_more (inr q) f = inr (f q)

none_some : {A P : Type 0} (x : A) → None ≡ Some x → P
none_some x e = absurd (by e)
  where
    by : None ≡ Some x → ⊥
    by e = cc

-- ---- a mention that is no exit

module _ (h : ℕ) where
  mutual
    checks_at_most : (a : Forest) → checks_in h a ≤ exits_in h a
    checks_at_most Nil = omega arith
    checks_at_most (Then x xs) = by (is_end h xs) (item_checks_at_most x) (checks_at_most xs)
      where
        by : (b : Bool) → checks_of h x ≤ exits_of h x → checks_in h xs ≤ exits_in h xs →
            checks_of h x + checks_in h xs ≤ cond b (exits_of h x) (checks_of h x) + exits_in h xs
        by true p q = omega (arith, p, q)
        by false p q = omega (arith, q)

    item_checks_at_most : (x : Tree) → checks_of h x ≤ exits_of h x
    item_checks_at_most (If t a b) = let p = checks_at_most a in let q = checks_at_most b in omega (arith, p, q)
    item_checks_at_most _ = omega arith

  place_most : (b : Bool) (x : Tree) → cond b (exits_of h x) (checks_of h x) ≤ item_count h x
  place_most true x = exits_of_most h x
  place_most false x = checks_of_most h x

  place_less : (b : Bool) (x : Tree) → exits_of h x < item_count h x → cond b (exits_of h x) (checks_of h x) < item_count h x
  place_less true x s = s
  place_less false x s = let c = item_checks_at_most x in omega (arith, c, s)

  pub otherwise_behind : (x : Tree) (a : Forest) → NamesOtherwise h a → NamesOtherwise h (Then x a)
  otherwise_behind x a s = let m = place_most (is_end h a) x in omega (arith, m, s)

  pub otherwise_first : (x : Tree) (a : Forest) → exits_of h x < item_count h x → NamesOtherwise h (Then x a)
  otherwise_first x a s = let m = place_less (is_end h a) x s in let r = exits_in_most h a in omega (arith, m, r)

  -- a list that isn't at a tail
  pub checks_otherwise : (a : Forest) → NamesOtherwise h a → checks_in h a < list_count h a
  checks_otherwise a s = let c = checks_at_most a in omega (arith, c, s)

-- ---- what a list shows of one slot

module _ (h : ℕ) where
  end_more : (x : Tree) (a : Forest) → HasItems a → is_end h (Then x a) ≡ false
  end_more x Nil k = absurd k
  end_more x (Then y ys) k = refl

  shows_behind : (x : Tree) (a b : Forest) → HasItems a × HasItems b → ShowsAlike h a b → ShowsAlike h (Then x a) (Then x b)
  shows_behind x a b i s = record {
    checks = ap (λ n. checks_of h x + n) s.checks;
    exits = ap₂ (λ e n. cond e (exits_of h x) (checks_of h x) + n) s.ending s.exits;
    low = λ n. ap (λ z. is_low h n x && z) (s.low n);
    ending = end_more x b i.1 ∙ sym (end_more x a i.0);
  }

  kept_behind : (x : Tree) (a b : Forest) → IsKept h a b → IsKept h (Then x a) (Then x b)
  kept_behind x a b s = record { less = let l = s.less in omega (arith, l); some = (tt, tt); shows = by s.shows }
    where
      by : ShowsAlike h a b ⊎ NamesOtherwise h b → ShowsAlike h (Then x a) (Then x b) ⊎ NamesOtherwise h (Then x b)
      by (inl p) = inl (shows_behind x a b s.some p)
      by (inr p) = inr (otherwise_behind h x b p)

  shows_first : (x y : Tree) (xs : Forest) → ItemShowsAlike h x y → ShowsAlike h (Then x xs) (Then y xs)
  shows_first x y xs s = record {
    checks = ap (λ n. n + checks_in h xs) s.checks;
    exits = ap₂ (λ m n. cond (is_end h xs) m n + exits_in h xs) s.exits s.checks;
    low = λ n. ap (λ z. z && are_low h n xs) (s.low n);
    ending = by xs;
  }
    where
      by : (zs : Forest) → is_end h (Then y zs) ≡ is_end h (Then x zs)
      by Nil = s.check
      by (Then z zs) = refl

  kept_first : (x y : Tree) (xs : Forest) → ItemIsKept h x y → IsKept h (Then x xs) (Then y xs)
  kept_first x y xs s = record { less = let l = s.less in omega (arith, l); some = (tt, tt); shows = by s.shows }
    where
      by : ItemShowsAlike h x y ⊎ (exits_of h y < item_count h y) → ShowsAlike h (Then x xs) (Then y xs) ⊎ NamesOtherwise h (Then y xs)
      by (inl p) = inl (shows_first x y xs p)
      by (inr p) = inr (otherwise_first h y xs p)

  -- where the items behind name the slot otherwise
  kept_before : (x y : Tree) (xs : Forest) → item_count h y ≤ item_count h x → ItemShowsAlike h x y ⊎ NamesOtherwise h xs →
      IsKept h (Then x xs) (Then y xs)
  kept_before x y xs l s = record { less = omega (arith, l); some = (tt, tt); shows = by s }
    where
      by : ItemShowsAlike h x y ⊎ NamesOtherwise h xs → ShowsAlike h (Then x xs) (Then y xs) ⊎ NamesOtherwise h (Then y xs)
      by (inl p) = inl (shows_first x y xs p)
      by (inr p) = inr (otherwise_behind h y xs p)

last_more : (x : Tree) (a : Forest) → HasItems a → last_reset (Then x a) ≡ last_reset a
last_more x Nil k = absurd k
last_more x (Then y ys) k = refl

pub front_more : (x : Tree) (a : Forest) → HasItems a → but_last (Then x a) ≡ Then x (but_last a)
front_more x Nil k = absurd k
front_more x (Then y ys) k = refl

-- ---- lists

-- without a last `h = 0;` of the second list too
abbrev pub IsKeptAll : ℕ → Forest → Forest → Type 0
IsKeptAll h a b = IsKept h a b × (last_reset b ≡ Some h → (last_reset a ≡ Some h) × IsKept h (but_last a) (but_last b))

pub alike_behind : (counts : List ℕ) (g : ℕ) (x : Tree) (a b : Forest) → AreAlike counts g a b → AreAlike counts g (Then x a) (Then x b)
alike_behind counts g x a b q h e = or_more (q h e) by
  where
    by : IsKeptAll h a b → IsKeptAll h (Then x a) (Then x b)
    by (s, k) = (
      kept_behind h x a b s,
      λ i.
          let r = k (sym (last_more x b s.some.1) ∙ i) in (
            last_more x a s.some.0 ∙ r.0,
            subst (λ z. IsKept h z (but_last (Then x b))) (sym (front_more x a s.some.0))
                (subst (IsKept h (Then x (but_last a))) (sym (front_more x b s.some.1)) (kept_behind h x (but_last a) (but_last b) r.1)),
          ),
    )

-- lists that differ in their first items
alike_from : (counts : List ℕ) (g : ℕ) (x y : Tree) (xs : Forest) →
    ((h : ℕ) → eqb g h ≡ false →
    (count_in counts h ≡ 0) ⊎ (IsKept h (Then x xs) (Then y xs) × IsKept h (Then x (but_last xs)) (Then y (but_last xs)))) → reset_slot y ≡ None →
    AreAlike counts g (Then x xs) (Then y xs)
alike_from counts g x y xs s n h e = or_more (s h e) (λ k. (k.0, by xs k.1))
  where
    by : (zs : Forest) → IsKept h (Then x (but_last zs)) (Then y (but_last zs)) → last_reset (Then y zs) ≡ Some h →
        (last_reset (Then x zs) ≡ Some h) × IsKept h (but_last (Then x zs)) (but_last (Then y zs))
    by Nil k i = none_some h (sym n ∙ i)
    by (Then z zs) k i = (i, k)

pub alike_first : (counts : List ℕ) (g : ℕ) (x y : Tree) (xs : Forest) →
    ((h : ℕ) → eqb g h ≡ false → (count_in counts h ≡ 0) ⊎ ItemIsKept h x y) → reset_slot y ≡ None →
    AreAlike counts g (Then x xs) (Then y xs)
alike_first counts g x y xs s n = alike_from counts g x y xs (λ h e. or_more (s h e) (λ k. (kept_first h x y xs k, kept_first h x y (but_last xs) k))) n

either_kept : {P Q R : Type 0} → P ⊎ (Q × R) → (P ⊎ Q) × (P ⊎ R)
either_kept (inl p) = (inl p, inl p)
either_kept (inr q) = (inr q.0, inr q.1)

alike_before : (counts : List ℕ) (g : ℕ) (x y : Tree) (xs : Forest) → ((h : ℕ) → eqb g h ≡ false → item_count h y ≤ item_count h x) →
    ((h : ℕ) → eqb g h ≡ false → (count_in counts h ≡ 0) ⊎ (ItemShowsAlike h x y ⊎ NeedsOtherwise h xs)) → reset_slot y ≡ None →
    AreAlike counts g (Then x xs) (Then y xs)
alike_before counts g x y xs l s n =
    alike_from counts g x y xs
    (λ h e. or_more (s h e)
    (λ k.
    let p = either_kept k in
    (kept_before h x y xs (l h e) p.0, kept_before h x y (but_last xs) (l h e) p.1))) n

-- ---- a loop, and the `g = 0;` behind it

-- an item that is no set and no `if`
record IsPlain (h : ℕ) (x : Tree) : Type 0 where
  exits : exits_of h x ≡ checks_of h x
  low : (n : ℕ) → is_low h n x ≡ true
  check : is_check h x ≡ false

plain_alike : (h : ℕ) (x y : Tree) → IsPlain h x → IsPlain h y → checks_of h y ≡ checks_of h x → ItemShowsAlike h x y
plain_alike h x y p q e = record {
  checks = e;
  exits = q.exits ∙ e ∙ sym p.exits;
  low = λ n. q.low n ∙ sym (p.low n);
  check = q.check ∙ sym p.check;
}

-- what is `g = 0;` shows nothing of another slot
record ShowsNone (h : ℕ) (x : Tree) : Type 0 where
  checks : checks_of h x ≡ 0
  exits : exits_of h x ≡ 0
  low : (n : ℕ) → is_low h n x ≡ true

it_is : (b : Bool) (x g : ℕ) → cond b (Some x) None ≡ Some g → x ≡ g
it_is true x g e = cc
it_is false x g e = cc

reset_value : (g h : ℕ) → eqb g h ≡ false → (e : ExpressionTree) → reset_in e ≡ Some g → set_value h e ≡ None
reset_value g h o (Typed k (Assign (Var (H.Slot x)) v)) i =
    ap (λ z. cond (z && (is_narrow_expression v && lacks h v)) (Some v) None) (ap (λ z. eqb z h) (it_is (is_int_kind k && is_number 0 v) x g i) ∙ o)
reset_value g h o _ i = refl

reset_shows : (g h : ℕ) → eqb g h ≡ false → (x : Tree) → reset_slot x ≡ Some g → ShowsNone h x
reset_shows g h o (Evaluate e) i = record {
  checks = refl;
  exits = ap (λ v. one_if (is_some v)) (reset_value g h o e i);
  low = λ n. ap (low_set n) (reset_value g h o e i);
}
reset_shows g h o _ i = cc

both_ways : (b : Bool) (m n k : ℕ) → m ≡ k → n ≡ k → cond b m n ≡ k
both_ways true m n k p q = p
both_ways false m n k p q = q

module _ (h : ℕ) (x y z : Tree) (p : IsPlain h x) (q : IsPlain h y) (r : ShowsNone h z) (l : item_count h y ≤ item_count h x) where
  shows_taken : (xs : Forest) → checks_of h y ≡ checks_of h x → ShowsAlike h (Then x (Then z xs)) (Then y xs)
  shows_taken xs e = record {
    checks = let k = r.checks in omega (arith, e, k);
    exits =
        let a = both_ways (is_end h xs) (exits_of h y) (checks_of h y) (checks_of h y) q.exits refl in
        let b = both_ways (is_end h (Then z xs)) (exits_of h x) (checks_of h x) (checks_of h x) p.exits refl in
        let c = both_ways (is_end h xs) (exits_of h z) (checks_of h z) 0 r.exits r.checks in
        omega (arith, e, a, b, c);
    low = λ n. ap (λ b. b && are_low h n xs) (q.low n) ∙ sym (ap₂ (λ b c. b && (c && are_low h n xs)) (p.low n) (r.low n));
    ending = by xs;
  }
    where
      by : (zs : Forest) → is_end h (Then y zs) ≡ is_end h (Then x (Then z zs))
      by Nil = q.check
      by (Then w ws) = refl

  kept_taken : (xs : Forest) → (checks_of h y ≡ checks_of h x) ⊎ NamesOtherwise h xs → IsKept h (Then x (Then z xs)) (Then y xs)
  kept_taken xs s = record { less = omega (arith, l); some = (tt, tt); shows = by s }
    where
      by : (checks_of h y ≡ checks_of h x) ⊎ NamesOtherwise h xs → ShowsAlike h (Then x (Then z xs)) (Then y xs) ⊎ NamesOtherwise h (Then y xs)
      by (inl e) = inl (shows_taken xs e)
      by (inr k) = inr (otherwise_behind h y xs k)

alike_taken : (counts : List ℕ) (g : ℕ) (x y z : Tree) (xs : Forest) → ((h : ℕ) → IsPlain h x) → ((h : ℕ) → IsPlain h y) → reset_slot z ≡ Some g →
    reset_slot y ≡ None
    → ((h : ℕ) → eqb g h ≡ false → item_count h y ≤ item_count h x)
    → ((h : ℕ) → eqb g h ≡ false → (count_in counts h ≡ 0) ⊎ ((checks_of h y ≡ checks_of h x) ⊎ NeedsOtherwise h xs)) →
    AreAlike counts g (Then x (Then z xs)) (Then y xs)
alike_taken counts g x y z xs p q i n l s h e = or_more (s h e) (λ o. let k = either_kept o in (kept xs k.0, by xs k.1))
  where
    kept : (zs : Forest) → (checks_of h y ≡ checks_of h x) ⊎ NamesOtherwise h zs → IsKept h (Then x (Then z zs)) (Then y zs)
    kept = kept_taken h x y z (p h) (q h) (reset_shows g h e z i) (l h e)

    by : (zs : Forest) → (checks_of h y ≡ checks_of h x) ⊎ NamesOtherwise h (but_last zs) → last_reset (Then y zs) ≡ Some h →
        (last_reset (Then x (Then z zs)) ≡ Some h) × IsKept h (but_last (Then x (Then z zs))) (but_last (Then y zs))
    by Nil m o = none_some h (sym n ∙ o)
    by (Then w ws) m o = (o, kept (but_last (Then w ws)) m)

-- ---- the change at a loop

while_plain : (t : TestTree) (a : Forest) (h : ℕ) → IsPlain h (While t a)
while_plain t a h = record { exits = refl; low = λ n. refl; check = refl }

do_plain : (a : Forest) (t : TestTree) (h : ℕ) → IsPlain h (Do a t)
do_plain a t h = record { exits = refl; low = λ n. refl; check = refl }

for_plain : (b : Forest) (t u : Option ExpressionTree) (a : Forest) (h : ℕ) → IsPlain h (For b t u a)
for_plain b t u a h = record { exits = refl; low = λ n. refl; check = refl }

either_left : {P Q R : Type 0} → (P → Q) → P ⊎ R → Q ⊎ R
either_left f (inl p) = inl (f p)
either_left f (inr r) = inr r

-- the slot doesn't count, no check of it is made or taken, or the items behind name it otherwise
abbrev pub IsLeftAlone : List ℕ → ℕ → ℕ → Tree → Forest → Type 0
IsLeftAlone counts g h x xs = (count_in counts h ≡ 0) ⊎ ((is_turned h (item_turned g x) ≡ false) ⊎ NeedsOtherwise h xs)

-- by `break`
module _ (counts : List ℕ) (c : ℕ → ℕ) (n g : ℕ) where
  before_taken : (x y : Tree) (a xs : Forest) (s : Option ℕ) → allowed (breaks c n a xs) s ≡ Some g → ((h : ℕ) → IsPlain h x) →
      ((h : ℕ) → IsPlain h y) → reset_slot y ≡ None → ((h : ℕ) → eqb g h ≡ false → item_count h y ≤ item_count h x)
      → ((h : ℕ) → eqb g h ≡ false → (count_in counts h ≡ 0) ⊎ ((checks_of h y ≡ checks_of h x) ⊎ NeedsOtherwise h (but_first xs))) →
      AreAlike counts g (Then x xs) (Then y (but_first xs))
  before_taken x y a Nil s i p q r l k = absurd (no (allowed_so (breaks c n a Nil) s g i).1)
    where
      no : breaks c n a Nil g ≡ true → ⊥
      no e = cc
  before_taken x y a (Then z zs) s i p q r l k =
      alike_taken counts g x y z zs p q (is_some_slot g (reset_slot z) (first_true (is_it g (reset_slot z)) (are_low g n a && eqb (c g) (3 + exits_in g a))
      (allowed_so (breaks c n a (Then z zs)) s g i).1)) r l k

  pub broken_alike : (x : Tree) (xs : Forest) → break_slot c n x xs ≡ Some g → ((h : ℕ) → eqb g h ≡ false → IsLeftAlone counts g h x (but_first xs)) →
      AreAlike counts g (Then x xs) (Then (broken g x) (but_first xs))
  broken_alike (While t a) xs i s =
      before_taken (While t a) (broken g (While t a)) a xs (stop_slot t) i (while_plain t a)
      (λ h. record { exits = refl; low = λ n. refl; check = refl }) refl (λ h e. broken_less g h e (While t a))
      (λ h e. or_more (s h e) (either_left (tailed_checks g h e Break refl a)))
  broken_alike (Do a t) xs i s =
      before_taken (Do a t) (broken g (Do a t)) a xs (stop_slot t) i (do_plain a t) (λ h. record { exits = refl; low = λ n. refl; check = refl }) refl
      (λ h e. broken_less g h e (Do a t)) (λ h e. or_more (s h e) (either_left (tailed_checks g h e Break refl a)))
  broken_alike _ xs i s = none_some g i

  -- by `continue`
  kept_front : (a : Forest) → allowed (continues c n (but_last a)) (last_reset a) ≡ Some g → (h : ℕ) → eqb g h ≡ false →
      is_turned h (turned g a) ≡ false → checks_in h (tailed g Continue (but_last a)) ≡ checks_in h a
  kept_front a i h e u = tailed_checks g h e Continue refl (but_last a) (turned_front g h a u) ∙
      front_checks h g a (allowed_so (continues c n (but_last a)) (last_reset a) g i).0

  front_kept : (x y : Tree) (a : Forest) → ((h : ℕ) → IsPlain h x) → ((h : ℕ) → IsPlain h y) → ((h : ℕ) → checks_of h x ≡ checks_in h a) →
      ((h : ℕ) → checks_of h y ≡ checks_in h (tailed g Continue (but_last a))) → allowed (continues c n (but_last a)) (last_reset a) ≡ Some g → (xs : Forest) →
      ((h : ℕ) → eqb g h ≡ false → (count_in counts h ≡ 0) ⊎ ((is_turned h (turned g a) ≡ false) ⊎ NeedsOtherwise h xs)) → (h : ℕ) → eqb g h ≡ false →
      (count_in counts h ≡ 0) ⊎ (ItemShowsAlike h x y ⊎ NeedsOtherwise h xs)
  front_kept x y a p q k m i xs s h e = or_more (s h e) (either_left (λ u. plain_alike h x y (p h) (q h) (m h ∙ kept_front a i h e u ∙ sym (k h))))

  pub continued_alike : (x : Tree) (xs : Forest) → continue_slot c n x ≡ Some g → ((h : ℕ) → eqb g h ≡ false → IsLeftAlone counts g h x xs) →
      AreAlike counts g (Then x xs) (Then (continued g x) xs)
  continued_alike (While t a) xs i s =
      let b = tailed g Continue (but_last a) in
      alike_before counts g (While t a) (While t b) xs (λ h e. continued_less g h e (While t a))
      (front_kept (While t a) (While t b) a (while_plain t a) (while_plain t b) (λ h. refl) (λ h. refl) i xs s) refl
  continued_alike (Do a t) xs i s =
      let b = tailed g Continue (but_last a) in
      alike_before counts g (Do a t) (Do b t) xs (λ h e. continued_less g h e (Do a t))
      (front_kept (Do a t) (Do b t) a (do_plain a t) (do_plain b t) (λ h. refl) (λ h. refl) i xs s) refl
  continued_alike (For f t u a) xs i s =
      let b = tailed g Continue (but_last a) in
      alike_before counts g (For f t u a) (For f t u b) xs (λ h e. continued_less g h e (For f t u a))
      (front_kept (For f t u a) (For f t u b) a (for_plain f t u a) (for_plain f t u b) (λ h. refl) (λ h. refl) i xs s) refl
  continued_alike _ xs i s = none_some g i

-- ---- what a loop asks

asked_none : (f : FunctionTree) (n : ℕ) (x : Tree) (xs : Forest) → next_here f n (Then x xs) ≡ None →
    (break_slot (counts_of f) n x xs ≡ None) × (continue_slot (counts_of f) n x ≡ None)
asked_none f n x xs e =
    let b = break_slot (counts_of f) n x xs in
    let c = continue_slot (counts_of f) n x in
    let F = λ (g : ℕ). Then (broken g x) (but_first xs) in
    let G = λ (g : ℕ). Then (continued g x) xs in
    (unslot F b (first_none (of_slot F b) (of_slot G c) e), unslot G c (second_none (of_slot F b) (of_slot G c) e))

none_asked : (f : FunctionTree) (n : ℕ) (x : Tree) (xs : Forest) → (break_slot (counts_of f) n x xs ≡ None) ×
    (continue_slot (counts_of f) n x ≡ None) → next_here f n (Then x xs) ≡ None
none_asked f n x xs (p, q) =
    let b = break_slot (counts_of f) n x xs in
    let c = continue_slot (counts_of f) n x in
    let F = λ (g : ℕ). Then (broken g x) (but_first xs) in
    let G = λ (g : ℕ). Then (continued g x) xs in
    both_none (of_slot F b) (of_slot G c) (slot_none F b p) (slot_none G c q)

-- a slot that doesn't count never does
pub still_none : (counts : List ℕ) (f h : FunctionTree) → Tells counts f → Fewer (counts_of f) (counts_of h) → (k : ℕ) → count_in counts k ≡ 0 →
    counts_of h k ≡ 0
still_none counts f h t l k e = by (l k)
  where
    by : (counts_of h k ≡ counts_of f k) ⊎ (counts_of h k ≡ 0) → counts_of h k ≡ 0
    by (inl i) = i ∙ sym (t k) ∙ e
    by (inr i) = i

module _ (counts : List ℕ) (g : ℕ) (a b : Forest) (q : AreAlike counts g a b) (c d : ℕ → ℕ) (l : Fewer c d) (z : d g ≡ 0)
    (v : (h : ℕ) → count_in counts h ≡ 0 → d h ≡ 0) where
  no_breaks : (n : ℕ) (xs : Forest) (h : ℕ) → d h ≡ 0 → breaks d n b xs h ≡ false
  no_breaks n xs h k =
      ap (λ m. is_it h (first_reset xs) && (are_low h n b && m)) (counted_none (d h) 3 (exits_in h b) k (omega arith))
      ∙ ap (λ m. is_it h (first_reset xs) && m) (and_false (are_low h n b)) ∙ and_false (is_it h (first_reset xs))

  no_continues : (n : ℕ) (h : ℕ) (w : Forest) → d h ≡ 0 → continues d n w h ≡ false
  no_continues n h w k = ap (λ m. are_low h n w && m) (counted_none (d h) 2 (exits_in h w) k (omega arith)) ∙ and_false (are_low h n w)

  zero_too : (h : ℕ) → eqb g h ≡ true → d h ≡ 0
  zero_too h e = sym (ap d (eqb-true g h e)) ∙ z

  -- a slot that is counted more often than that
  no_more : (m k : ℕ) (x y : Bool) → (m ≡ k → ⊥) → (x && (y && eqb m k)) ≡ false
  no_more m k x y e = ap (λ w. x && (y && w)) (ne_eqb m k e) ∙ ap (λ w. x && w) (and_false y) ∙ and_false x

  breaks_held : (n : ℕ) (xs : Forest) (t : TestTree) (h : ℕ) → stop_slot t ≡ Some h → IsKept h a b → NamesOtherwise h b → d h ≡ c h →
      (c h ≡ 0) ⊎ (test_count h t + list_count h a + one_if (is_it h (first_reset xs)) < c h) → breaks d n b xs h ≡ false
  breaks_held n xs t h i s u k w = by (is_it h (first_reset xs)) refl
    where
      held : (c h ≡ 0) ⊎ (list_count h a + 3 ≤ c h) → breaks d n b xs h ≡ false
      held (inl e) = no_breaks n xs h (k ∙ e)
      held (inr m) = let l = s.less in no_more (d h) (3 + exits_in h b) (is_it h (first_reset xs)) (are_low h n b) (λ e. omega (arith, e, k, m, l, u))

      by : (o : Bool) → is_it h (first_reset xs) ≡ o → breaks d n b xs h ≡ false
      by true e = held (outside_test (c h) (test_count h t) (list_count h a) (is_it h (first_reset xs)) w (stop_one h t i) e)
      by false e = ap (λ m. m && (are_low h n b && eqb (d h) (3 + exits_in h b))) e

  breaks_same : (n : ℕ) (xs : Forest) (h : ℕ) → ShowsAlike h a b → d h ≡ c h → breaks c n a xs h ≡ false → breaks d n b xs h ≡ false
  breaks_same n xs h s k e =
      ap₂ (λ m o. is_it h (first_reset xs) && (m && eqb (d h) (3 + o))) (s.low n) s.exits
      ∙ ap (λ m. is_it h (first_reset xs) && (are_low h n a && eqb m (3 + exits_in h a))) k ∙ e

  break_asked : (n : ℕ) (xs : Forest) (t : TestTree) → ((h : ℕ) → (c h ≡ 0) ⊎ (test_count h t + list_count h a + one_if (is_it h (first_reset xs)) < c h)) →
      allowed (breaks c n a xs) (stop_slot t) ≡ None → allowed (breaks d n b xs) (stop_slot t) ≡ None
  break_asked n xs t w e = by (stop_slot t) refl
    where
      none : (h : ℕ) → stop_slot t ≡ Some h → IsKept h a b → (d h ≡ c h) ⊎ (d h ≡ 0) → breaks d n b xs h ≡ false
      none h i s (inl k) = shown s.shows
        where
          shown : ShowsAlike h a b ⊎ NamesOtherwise h b → breaks d n b xs h ≡ false
          shown (inl r) = breaks_same n xs h r k (refused (breaks c n a xs h) h (sym (ap (allowed (breaks c n a xs)) i) ∙ e))
          shown (inr u) = breaks_held n xs t h i s u k (w h)
      none h i s (inr k) = no_breaks n xs h k

      other : (h : ℕ) → stop_slot t ≡ Some h → (o : Bool) → eqb g h ≡ o → breaks d n b xs h ≡ false
      other h i true o = no_breaks n xs h (zero_too h o)
      other h i false o = counted (q h o)
        where
          counted : (count_in counts h ≡ 0) ⊎ IsKeptAll h a b → breaks d n b xs h ≡ false
          counted (inl k) = no_breaks n xs h (v h k)
          counted (inr k) = none h i k.0 (l h)

      by : (s : Option ℕ) → stop_slot t ≡ s → allowed (breaks d n b xs) (stop_slot t) ≡ None
      by None i = ap (allowed (breaks d n b xs)) i
      by (Some h) i = ap (allowed (breaks d n b xs)) i ∙ ap (λ m. cond m (Some h) None) (other h i (eqb g h) refl)

  continues_held : (n h : ℕ) → last_reset a ≡ Some h → IsKept h (but_last a) (but_last b) → NamesOtherwise h (but_last b) → d h ≡ c h →
      (c h ≡ 0) ⊎ (list_count h a < c h) → continues d n (but_last b) h ≡ false
  continues_held n h i s u k w = by (outside_reset (c h) (list_count h a) (list_count h (but_last a)) w (last_one h a i))
    where
      by : (c h ≡ 0) ⊎ (list_count h (but_last a) + 2 ≤ c h) → continues d n (but_last b) h ≡ false
      by (inl e) = no_continues n h (but_last b) (k ∙ e)
      by (inr m) = let l = s.less in no_more (d h) (2 + exits_in h (but_last b)) true (are_low h n (but_last b)) (λ e. omega (arith, e, k, m, l, u))

  continues_same : (n h : ℕ) → ShowsAlike h (but_last a) (but_last b) → d h ≡ c h → continues c n (but_last a) h ≡ false →
      continues d n (but_last b) h ≡ false
  continues_same n h s k e = ap₂ (λ m o. m && eqb (d h) (2 + o)) (s.low n) s.exits ∙
      ap (λ m. are_low h n (but_last a) && eqb m (2 + exits_in h (but_last a))) k ∙ e

  continue_asked : (n : ℕ) → ((h : ℕ) → (c h ≡ 0) ⊎ (list_count h a < c h)) → allowed (continues c n (but_last a)) (last_reset a) ≡ None →
      allowed (continues d n (but_last b)) (last_reset b) ≡ None
  continue_asked n w e = by (last_reset b) refl
    where
      none : (h : ℕ) → last_reset a ≡ Some h → IsKept h (but_last a) (but_last b) → (d h ≡ c h) ⊎ (d h ≡ 0) → continues d n (but_last b) h ≡ false
      none h i s (inl k) = shown s.shows
        where
          shown : ShowsAlike h (but_last a) (but_last b) ⊎ NamesOtherwise h (but_last b) → continues d n (but_last b) h ≡ false
          shown (inl r) = continues_same n h r k (refused (continues c n (but_last a) h) h (sym (ap (allowed (continues c n (but_last a))) i) ∙ e))
          shown (inr u) = continues_held n h i s u k (w h)
      none h i s (inr k) = no_continues n h (but_last b) k

      other : (h : ℕ) → last_reset b ≡ Some h → (o : Bool) → eqb g h ≡ o → continues d n (but_last b) h ≡ false
      other h i true o = no_continues n h (but_last b) (zero_too h o)
      other h i false o = counted (q h o)
        where
          counted : (count_in counts h ≡ 0) ⊎ IsKeptAll h a b → continues d n (but_last b) h ≡ false
          counted (inl k) = no_continues n h (but_last b) (v h k)
          counted (inr k) = let r = k.1 i in none h r.0 r.1 (l h)

      by : (s : Option ℕ) → last_reset b ≡ s → allowed (continues d n (but_last b)) (last_reset b) ≡ None
      by None i = ap (allowed (continues d n (but_last b))) i
      by (Some h) i = ap (allowed (continues d n (but_last b))) i ∙ ap (λ m. cond m (Some h) None) (other h i (eqb g h) refl)

while_asks : (counts : List ℕ) (g : ℕ) (t : TestTree) (a b : Forest) → AreAlike counts g a b → AsksAlike counts g (While t a) (While t b)
while_asks counts g t a b q f h v l z n xs w e =
    let r = asked_none f n (While t a) xs e in
    none_asked h n (While t b) xs (
      break_asked counts g a b q (counts_of f) (counts_of h) l z (still_none counts f h v l) n xs t (λ k. w k refl) r.0,
      continue_asked counts g a b q (counts_of f) (counts_of h) l z (still_none counts f h v l) n
          (λ k. is_less (counts_of f k) _ _ (omega arith) (w k refl)) r.1,
    )

do_asks : (counts : List ℕ) (g : ℕ) (t : TestTree) (a b : Forest) → AreAlike counts g a b → AsksAlike counts g (Do a t) (Do b t)
do_asks counts g t a b q f h v l z n xs w e =
    let r = asked_none f n (Do a t) xs e in
    none_asked h n (Do b t) xs (
      break_asked counts g a b q (counts_of f) (counts_of h) l z (still_none counts f h v l) n xs t
          (λ k. is_less (counts_of f k) _ _ (omega arith) (w k refl)) r.0,
      continue_asked counts g a b q (counts_of f) (counts_of h) l z (still_none counts f h v l) n
          (λ k. is_less (counts_of f k) _ _ (omega arith) (w k refl)) r.1,
    )

for_asks : (counts : List ℕ) (g : ℕ) (t u : Option ExpressionTree) (a b c d : Forest) → AreAlikeOf counts g a b c d →
    AsksAlike counts g (For a t u b) (For c t u d)
for_asks counts g t u a b c d (inl (q, k)) f h v l z n xs w e =
    subst (λ w. next_here h n (Then (For c t u w) xs) ≡ None) (sym k)
    (none_asked h n (For c t u b) xs (refl, continue_still (counts_of f) (counts_of h) l n (For a t u b) (asked_none f n (For a t u b) xs e).1))
for_asks counts g t u a b c d (inr (k, q)) f h v l z n xs w e =
    none_asked h n (For c t u d) xs (
      refl,
      continue_asked counts g b d q (counts_of f) (counts_of h) l z (still_none counts f h v l) n (λ k. is_less (counts_of f k) _ _ (omega arith) (w k refl))
          (asked_none f n (For a t u b) xs e).1,
    )

-- ---- items

-- an item whose checks are those of a list in it
kept_plain : (h : ℕ) (x y : Tree) (a b : Forest) (m : ℕ) → IsPlain h x → IsPlain h y → checks_of h x ≡ checks_in h a → checks_of h y ≡ checks_in h b →
    item_count h x ≡ m + list_count h a → item_count h y ≡ m + list_count h b → IsKept h a b → ItemIsKept h x y
kept_plain h x y a b m p q c d i j s = record { less = let l = s.less in omega (arith, i, j, l); shows = by s.shows }
  where
    by : ShowsAlike h a b ⊎ NamesOtherwise h b → ItemShowsAlike h x y ⊎ (exits_of h y < item_count h y)
    by (inl t) = inl (plain_alike h x y p q (d ∙ t.checks ∙ sym c))
    by (inr u) = let k = checks_otherwise h b u in let e = q.exits in inr (omega (arith, j, k, e, d))

pub while_alike : (counts : List ℕ) (g : ℕ) (t : TestTree) (a b : Forest) → AreAlike counts g a b → IsAlike counts g (While t a) (While t b)
while_alike counts g t a b q = record {
  shows = λ h e. or_more (q h e) (λ k. kept_plain h (While t a) (While t b) a b (test_count h t) (while_plain t a h)
      (while_plain t b h) refl refl refl refl k.0);
  asks = while_asks counts g t a b q;
  none = refl;
}

pub do_alike : (counts : List ℕ) (g : ℕ) (t : TestTree) (a b : Forest) → AreAlike counts g a b → IsAlike counts g (Do a t) (Do b t)
do_alike counts g t a b q = record {
  shows = λ h e. or_more (q h e) (λ k. kept_plain h (Do a t) (Do b t) a b (test_count h t) (do_plain a t h) (do_plain b t h) refl refl (omega arith)
      (omega arith) k.0);
  asks = do_asks counts g t a b q;
  none = refl;
}

pub for_alike : (counts : List ℕ) (g : ℕ) (t u : Option ExpressionTree) (a b c d : Forest) → AreAlikeOf counts g a b c d →
    IsAlike counts g (For a t u b) (For c t u d)
for_alike counts g t u a b c d q = record { shows = by q; asks = for_asks counts g t u a b c d q; none = refl }
  where
    first : (h : ℕ) → d ≡ b → IsKeptAll h a c → ItemIsKept h (For a t u b) (For c t u d)
    first h k p = record {
      less = let l = p.0.less in let m = ap (list_count h) k in omega (arith, l, m);
      shows = inl (plain_alike h (For a t u b) (For c t u d) (for_plain a t u b h) (for_plain c t u d h) (ap (checks_in h) k));
    }

    second : (h : ℕ) → c ≡ a → IsKeptAll h b d → ItemIsKept h (For a t u b) (For c t u d)
    second h k p =
        let m = ap (list_count h) k in
        kept_plain h (For a t u b) (For c t u d) b d (item_count h (For a t u Nil)) (for_plain a t u b h) (for_plain c t u d h) refl refl (omega arith)
        (omega (arith, m)) p.0

    by : AreAlikeOf counts g a b c d → (h : ℕ) → eqb g h ≡ false → (count_in counts h ≡ 0) ⊎ ItemIsKept h (For a t u b) (For c t u d)
    by (inl (p, k)) h e = or_more (p h e) (first h k)
    by (inr (k, p)) h e = or_more (p h e) (second h k)

block_plain : (a : Forest) (h : ℕ) → IsPlain h (Block a)
block_plain a h = record { exits = refl; low = λ n. refl; check = refl }

pub block_alike : (counts : List ℕ) (g : ℕ) (a b : Forest) → AreAlike counts g a b → IsAlike counts g (Block a) (Block b)
block_alike counts g a b q = record {
  shows = λ h e. or_more (q h e) (λ k. kept_plain h (Block a) (Block b) a b 0 (block_plain a h) (block_plain b h) refl refl (omega arith) (omega arith) k.0);
  asks = λ f h v l z n xs w e. refl;
  none = refl;
}

pub switch_alike : (counts : List ℕ) (g : ℕ) (s : SelectorTree) (c d : Sections) → AreSectionsAlike counts g c d → IsAlike counts g (Switch s c) (Switch s d)
switch_alike counts g s c d q = record {
  shows = λ h e. or_more (q h e) (kept h);
  asks = λ f h v l z n xs w e. refl;
  none = refl;
}
  where
    by : (h : ℕ) → (checks_within h d ≡ checks_within h c) ⊎ (checks_within h d < sections_count h d) →
        ItemShowsAlike h (Switch s c) (Switch s d) ⊎ (exits_of h (Switch s d) < item_count h (Switch s d))
    by h (inl k) = inl (record { checks = k; exits = k; low = λ n. refl; check = refl })
    by h (inr k) = inr (omega (arith, k))

    kept : (h : ℕ) → SectionsKept h c d → ItemIsKept h (Switch s c) (Switch s d)
    kept h k = record { less = let l = k.less in omega (arith, l); shows = by h k.shows }

-- an else-list that has items makes no check
no_check : (h : ℕ) (t : TestTree) (b : Forest) → HasItems b → checks h t b ≡ false
no_check h t Nil k = absurd k
no_check h (Source e) (Then x xs) k = refl
no_check h _ (Then x xs) k = refl

if_shows : (h : ℕ) (t : TestTree) (a b c d : Forest) → checks h t d ≡ checks h t b → checks_in h c ≡ checks_in h a → checks_in h d ≡ checks_in h b →
    exits_in h c ≡ exits_in h a → exits_in h d ≡ exits_in h b
    → ((n : ℕ) → are_low h n c ≡ are_low h n a) → ((n : ℕ) → are_low h n d ≡ are_low h n b) → ItemShowsAlike h (If t a b) (If t c d)
if_shows h t a b c d i p q r s u v = record {
  checks = let k = ap one_if i in omega (arith, k, p, q);
  exits = let k = ap one_if i in omega (arith, k, r, s);
  low = λ n. ap₂ (λ x y. x && y) (u (suc n)) (v (suc n));
  check = check_if h t c d ∙ i ∙ sym (check_if h t a b);
}

pub if_alike : (counts : List ℕ) (g : ℕ) (t : TestTree) (a b c d : Forest) → AreAlikeOf counts g a b c d → IsAlike counts g (If t a b) (If t c d)
if_alike counts g t a b c d q = record { shows = by q; asks = λ f h v l z n xs w e. refl; none = refl }
  where
    first : (h : ℕ) → d ≡ b → ShowsAlike h a c ⊎ NamesOtherwise h c → ItemShowsAlike h (If t a b) (If t c d) ⊎ (exits_of h (If t c d) < item_count h (If t c d))
    first h k (inl s) =
        inl (if_shows h t a b c d (ap (checks h t) k) s.checks (ap (checks_in h) k) s.exits (ap (exits_in h) k) s.low (λ n. ap (are_low h n) k))
    first h k (inr s) = let m = check_most h t d in let o = exits_in_most h d in inr (omega (arith, s, m, o))

    second : (h : ℕ) → c ≡ a → HasItems b × HasItems d → ShowsAlike h b d ⊎ NamesOtherwise h d →
        ItemShowsAlike h (If t a b) (If t c d) ⊎ (exits_of h (If t c d) < item_count h (If t c d))
    second h k i (inl s) =
        inl (if_shows h t a b c d (no_check h t d i.1 ∙ sym (no_check h t b i.0)) (ap (checks_in h) k) s.checks (ap (exits_in h) k) s.exits
        (λ n. ap (are_low h n) k) s.low)
    second h k i (inr s) = let m = check_most h t d in let o = exits_in_most h c in inr (omega (arith, s, m, o))

    kept : (h : ℕ) → d ≡ b → IsKeptAll h a c → ItemIsKept h (If t a b) (If t c d)
    kept h k p = record { less = let l = p.0.less in let m = ap (list_count h) k in omega (arith, l, m); shows = first h k p.0.shows }

    kept_then : (h : ℕ) → c ≡ a → IsKeptAll h b d → ItemIsKept h (If t a b) (If t c d)
    kept_then h k p = record { less = let l = p.0.less in let m = ap (list_count h) k in omega (arith, l, m); shows = second h k p.0.some p.0.shows }

    by : AreAlikeOf counts g a b c d → (h : ℕ) → eqb g h ≡ false → (count_in counts h ≡ 0) ⊎ ItemIsKept h (If t a b) (If t c d)
    by (inl (p, k)) h e = or_more (p h e) (kept h k)
    by (inr (k, p)) h e = or_more (p h e) (kept_then h k)

-- ---- sections

-- the first of them, or those behind it
pub first_kept : (h : ℕ) (v w : List ExpressionTree) (d e m n : Bool) (a b : Forest) (c : Sections) → IsKept h a b →
    SectionsKept h (Section v d a m c) (Section w e b n c)
first_kept h v w d e m n a b c s = record { less = let l = s.less in omega (arith, l); shows = by s.shows }
  where
    by : ShowsAlike h a b ⊎ NamesOtherwise h b → (checks_in h b + checks_within h c ≡ checks_in h a + checks_within h c) ⊎
        (checks_in h b + checks_within h c < list_count h b + sections_count h c)
    by (inl k) = let i = k.checks in inl (omega (arith, i))
    by (inr k) = let i = checks_otherwise h b k in let m = checks_within_most h c in inr (omega (arith, i, m))

pub later_kept : (h : ℕ) (cases : List ExpressionTree) (default ends : Bool) (a : Forest) (c d : Sections) → SectionsKept h c d →
    SectionsKept h (Section cases default a ends c) (Section cases default a ends d)
later_kept h cases default ends a c d s = record { less = let l = s.less in omega (arith, l); shows = by s.shows }
  where
    by : (checks_within h d ≡ checks_within h c) ⊎ (checks_within h d < sections_count h d) →
        (checks_in h a + checks_within h d ≡ checks_in h a + checks_within h c) ⊎ (checks_in h a + checks_within h d < list_count h a + sections_count h d)
    by (inl k) = inl (omega (arith, k))
    by (inr k) = let m = checks_in_most h a in inr (omega (arith, k, m))
