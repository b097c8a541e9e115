-- Where no change applies none applies once some slots count no more.
use mathlib.Core.Path.{ap₂}
use Rattle.std.proofs.Common.{ℕ, suc, ◌+◌, ◌<◌, ◌⊎◌, inl, inr, Bool, true, false, cond, ◌&&◌, eqb, Option, Some, None, ◌≡◌, refl, sym, ap, ◌∙◌, arith}
use Rattle.std.proofs.lemmas.Bool.{ne_eqb}
use Rattle.c_tree.specs.Trees.{Tree, Forest, Nil, Then, Sections, NoSection, Section, If, While, Do, For, Switch, Block}
use Rattle.jump_meaning.specs.Code.{FunctionTree}
use Rattle.tidy_laws.specs.Changes.{are_low}
use Rattle.tidy_loops.specs.Views.{is_it}
use Rattle.tidy_loops.specs.Exits.{exits_in}
use Rattle.tidy_loops.specs.Slots.{counts_of, first_reset, last_reset, but_last, but_first, stop_slot, allowed, breaks, continues, break_slot, continue_slot, broken, continued}
use Rattle.break_recovery.specs.Next.{or_else, put, of_slot, next_list, next_item, next_sections, next_here, next_at}
use Rattle.break_recovery.specs.Places.{Fewer}
use Rattle.break_recovery.proofs.NextLaws.{more, in_if, in_while, in_do, in_for, in_switch, in_block, more_sections}

-- ---- nothing is in either, and nothing in both

apart : {A : Type 0} (x : A) → Some x ≡ None → ⊥
apart x e = cc

pub some_none : {A P : Type 0} (x : A) → Some x ≡ None → P
some_none x e = absurd (apart x e)

pub first_none : {A : Type 0} (a b : Option A) → or_else a b ≡ None → a ≡ None
first_none None b e = refl
first_none (Some x) b e = e

pub second_none : {A : Type 0} (a b : Option A) → or_else a b ≡ None → b ≡ None
second_none None b e = e
second_none (Some x) b e = some_none x e

pub both_none : {A : Type 0} (a b : Option A) → a ≡ None → b ≡ None → or_else a b ≡ None
both_none a b p q = ap (λ z. or_else z b) p ∙ q

unput : {A B : Type 0} (F : A → B) (o : Option (ℕ × A)) → put F o ≡ None → o ≡ None
unput F None e = refl
unput F (Some c) e = some_none (c.0, F c.1) e

put_none : {A B : Type 0} (F : A → B) (o : Option (ℕ × A)) → o ≡ None → put F o ≡ None
put_none F o e = ap (put F) e

pub unslot : {A : Type 0} (make : ℕ → A) (s : Option ℕ) → of_slot make s ≡ None → s ≡ None
unslot make None e = refl
unslot make (Some g) e = some_none (g, make g) e

pub slot_none : {A : Type 0} (make : ℕ → A) (s : Option ℕ) → s ≡ None → of_slot make s ≡ None
slot_none make s e = ap (of_slot make) e

-- ---- which slots are allowed

pub refused : (b : Bool) (g : ℕ) → cond b (Some g) None ≡ None → b ≡ false
refused true g e = some_none g e
refused false g e = refl

pub allowed_still : (p q : ℕ → Bool) → ((g : ℕ) → p g ≡ false → q g ≡ false) → (s : Option ℕ) → allowed p s ≡ None → allowed q s ≡ None
allowed_still p q h None e = refl
allowed_still p q h (Some g) e = ap (λ b. cond b (Some g) None) (h g (refused (p g) g e))

pub and_false : (a : Bool) → (a && false) ≡ false
and_false true = refl
and_false false = refl

pub counted_none : (m k e : ℕ) → m ≡ 0 → 0 < k → eqb m (k + e) ≡ false
counted_none m k e h p = ne_eqb m (k + e) (λ i. omega (arith, h, p, i))

module _ (c d : ℕ → ℕ) (l : Fewer c d) where
  breaks_still : (n : ℕ) (a xs ys : Forest) → first_reset xs ≡ first_reset ys → (g : ℕ) → breaks c n a xs g ≡ false → breaks d n a ys g ≡ false
  breaks_still n a xs ys r g e = by (l g)
    where
      by : (d g ≡ c g) ⊎ (d g ≡ 0) → breaks d n a ys g ≡ false
      by (inl k) = ap₂ (λ o m. is_it g o && (are_low g n a && eqb m (3 + exits_in g a))) (sym r) k ∙ e
      by (inr k) =
          ap (λ b. is_it g (first_reset ys) && (are_low g n a && b)) (counted_none (d g) 3 (exits_in g a) k (omega arith))
          ∙ ap (λ b. is_it g (first_reset ys) && b) (and_false (are_low g n a)) ∙ and_false (is_it g (first_reset ys))

  continues_still : (n : ℕ) (a : Forest) (g : ℕ) → continues c n a g ≡ false → continues d n a g ≡ false
  continues_still n a g e = by (l g)
    where
      by : (d g ≡ c g) ⊎ (d g ≡ 0) → continues d n a g ≡ false
      by (inl k) = ap (λ m. are_low g n a && eqb m (2 + exits_in g a)) k ∙ e
      by (inr k) = ap (λ b. are_low g n a && b) (counted_none (d g) 2 (exits_in g a) k (omega arith)) ∙ and_false (are_low g n a)

  break_still : (n : ℕ) (x : Tree) (xs ys : Forest) → first_reset xs ≡ first_reset ys → break_slot c n x xs ≡ None → break_slot d n x ys ≡ None
  break_still n (While t a) xs ys r e = allowed_still (breaks c n a xs) (breaks d n a ys) (breaks_still n a xs ys r) (stop_slot t) e
  break_still n (Do a t) xs ys r e = allowed_still (breaks c n a xs) (breaks d n a ys) (breaks_still n a xs ys r) (stop_slot t) e
  break_still n _ xs ys r e = refl

  pub continue_still : (n : ℕ) (x : Tree) → continue_slot c n x ≡ None → continue_slot d n x ≡ None
  continue_still n (While t a) e = allowed_still (continues c n (but_last a)) (continues d n (but_last a)) (continues_still n (but_last a)) (last_reset a) e
  continue_still n (Do a t) e = allowed_still (continues c n (but_last a)) (continues d n (but_last a)) (continues_still n (but_last a)) (last_reset a) e
  continue_still n (For f t u a) e = allowed_still (continues c n (but_last a)) (continues d n (but_last a)) (continues_still n (but_last a)) (last_reset a) e
  continue_still n _ e = refl

-- ---- in a part of a body

module _ (f h : FunctionTree) (l : Fewer (counts_of f) (counts_of h)) where
  here_still : (n : ℕ) (x : Tree) (xs ys : Forest) → first_reset xs ≡ first_reset ys → next_here f n (Then x xs) ≡ None → next_here h n (Then x ys) ≡ None
  here_still n x xs ys r e =
      let b = break_slot (counts_of f) n x xs in
      let c = continue_slot (counts_of f) n x in
      let F = λ (g : ℕ). Then (broken g x) (but_first xs) in
      let G = λ (g : ℕ). Then (continued g x) xs in
      let p = unslot F b (first_none (of_slot F b) (of_slot G c) e) in
      let q = unslot G c (second_none (of_slot F b) (of_slot G c) e) in
      both_none (of_slot (λ g. Then (broken g x) (but_first ys)) (break_slot (counts_of h) n x ys))
      (of_slot (λ g. Then (continued g x) ys) (continue_slot (counts_of h) n x))
      (slot_none (λ g. Then (broken g x) (but_first ys)) (break_slot (counts_of h) n x ys) (break_still (counts_of f) (counts_of h) l n x xs ys r p))
      (slot_none (λ g. Then (continued g x) ys) (continue_slot (counts_of h) n x) (continue_still (counts_of f) (counts_of h) l n x q))

  -- one of two lists
  either_still : {A : Type 0} (P Q : Forest → A) (a b : Option (ℕ × Forest)) (c d : Option (ℕ × Forest)) → (a ≡ None → c ≡ None) → (b ≡ None → d ≡ None)
      → or_else (put P a) (put Q b) ≡ None → or_else (put P c) (put Q d) ≡ None
  either_still P Q a b c d i j e =
      both_none (put P c) (put Q d) (put_none P c (i (unput P a (first_none (put P a) (put Q b) e))))
      (put_none Q d (j (unput Q b (second_none (put P a) (put Q b) e))))

  -- at an item, of which the one behind it resets the same
  at_step : (x : Tree) (n : ℕ) (xs ys : Forest) → first_reset xs ≡ first_reset ys → (next_item f n x ≡ None → next_item h n x ≡ None) →
      next_at f n (Then x xs) ≡ None → next_at h n (Then x ys) ≡ None
  at_step x n xs ys r i e =
      let A = next_here f n (Then x xs) in
      let F = λ (y : Tree). Then y xs in
      let G = λ (y : Tree). Then y ys in
      both_none (next_here h n (Then x ys)) (put G (next_item h n x))
      (here_still n x xs ys r (first_none A (put F (next_item f n x)) e))
      (put_none G (next_item h n x) (i (unput F (next_item f n x) (second_none A (put F (next_item f n x)) e))))

  mutual
    pub list_still : (a : Forest) (n : ℕ) → next_list f n a ≡ None → next_list h n a ≡ None
    list_still Nil n e = refl
    list_still (Then x xs) n e =
        let A = next_at f (suc n) (Then x xs) in
        let B = put (Then x) (next_list f n xs) in
        let k = sym (more f n x xs) ∙ e in
        more h n x xs
        ∙ both_none (next_at h (suc n) (Then x xs)) (put (Then x) (next_list h n xs))
        (at_step x (suc n) xs xs refl (item_still x (suc n)) (first_none A B k))
        (put_none (Then x) (next_list h n xs) (list_still xs n (unput (Then x) (next_list f n xs) (second_none A B k))))

    pub item_still : (x : Tree) (n : ℕ) → next_item f n x ≡ None → next_item h n x ≡ None
    item_still (If t a b) n e =
        in_if h n t a b
        ∙ either_still (λ c. If t c b) (If t a) (next_list f n a) (next_list f n b) (next_list h n a) (next_list h n b) (list_still a n)
        (list_still b n) (sym (in_if f n t a b) ∙ e)
    item_still (While t a) n e = in_while h n t a ∙ put_none (While t) (next_list h n a)
        (list_still a n (unput (While t) (next_list f n a) (sym (in_while f n t a) ∙ e)))
    item_still (Do a t) n e =
        let F = λ (c : Forest). Do c t in
        in_do h n a t ∙ put_none F (next_list h n a) (list_still a n (unput F (next_list f n a) (sym (in_do f n a t) ∙ e)))
    item_still (For b t u a) n e =
        in_for h n b t u a
        ∙ either_still (λ c. For c t u a) (For b t u) (next_list f n b) (next_list f n a) (next_list h n b) (next_list h n a) (list_still b n)
        (list_still a n) (sym (in_for f n b t u a) ∙ e)
    item_still (Switch v c) n e = in_switch h n v c ∙ put_none (Switch v) (next_sections h n c)
        (sections_still c n (unput (Switch v) (next_sections f n c) (sym (in_switch f n v c) ∙ e)))
    item_still (Block a) n e = in_block h n a ∙ put_none Block (next_list h n a) (list_still a n (unput Block (next_list f n a) (sym (in_block f n a) ∙ e)))
    item_still x n e = refl

    pub sections_still : (c : Sections) (n : ℕ) → next_sections f n c ≡ None → next_sections h n c ≡ None
    sections_still NoSection n e = refl
    sections_still (Section cases default a ends c) n e =
        let P = λ (b : Forest). Section cases default b ends c in
        let Q = Section cases default a ends in
        let p = put P (next_list f n a) in
        let q = put Q (next_sections f n c) in
        let k = sym (more_sections f n cases default a ends c) ∙ e in
        more_sections h n cases default a ends c
        ∙ both_none (put P (next_list h n a)) (put Q (next_sections h n c))
        (put_none P (next_list h n a) (list_still a n (unput P (next_list f n a) (first_none p q k))))
        (put_none Q (next_sections h n c) (sections_still c n (unput Q (next_sections f n c) (second_none p q k))))

  pub at_still : (x : Tree) (n : ℕ) (xs ys : Forest) → first_reset xs ≡ first_reset ys → next_at f n (Then x xs) ≡ None → next_at h n (Then x ys) ≡ None
  at_still x n xs ys r e = at_step x n xs ys r (item_still x n) e
