-- Where no change before a place has become possible.
use Rattle.std.proofs.Common.{ℕ, zero, suc, ◌<◌, ◌⊎◌, inl, inr, Option, Some, None, ◌≡◌, refl, sym, ap, subst, ◌∙◌, arith}
use Rattle.c_tree.specs.Trees.{Tree, Forest, Nil, Then, Evaluate, If, While, Do, For, Switch, Block}
use Rattle.jump_meaning.specs.Code.{FunctionTree}
use Rattle.tidy_loops.specs.Slots.{counts_of, reset_slot, first_reset, but_first, break_slot, continue_slot, broken, continued}
use Rattle.break_recovery.specs.Next.{or_else, put, of_slot, next_list, next_item, next_sections, next_here, next_at}
use Rattle.break_recovery.specs.Places.{behind, replaced, removed, removed_at, AreQuiet, AreQuietBut, Fewer, GoesOn}
use Rattle.break_recovery.proofs.NextLaws.{more, in_if, in_while, in_do, in_for, in_switch, in_block}
use Rattle.break_recovery.proofs.Stays.{at_still}

apart : {A : Type 0} (x : A) → None ≡ Some x → ⊥
apart x e = cc

pub none_some : {A P : Type 0} (x : A) → None ≡ Some x → P
none_some x e = absurd (apart x e)

-- ---- what a change makes is no `g = 0;`

abbrev Holds : {A : Type 0} → (A → Type 0) → Option (ℕ × A) → Type 0
Holds P None = Unit {0}
Holds P (Some c) = P c.1

holds_or : {A : Type 0} (P : A → Type 0) (a b : Option (ℕ × A)) → Holds P a → Holds P b → Holds P (or_else a b)
holds_or P None b p q = q
holds_or P (Some c) b p q = p

holds_put : {A B : Type 0} (P : B → Type 0) (F : A → B) → ((x : A) → P (F x)) → (o : Option (ℕ × A)) → Holds P (put F o)
holds_put P F h None = tt
holds_put P F h (Some c) = h c.1

holds_slot : {A : Type 0} (P : A → Type 0) (make : ℕ → A) → ((g : ℕ) → P (make g)) → (s : Option ℕ) → Holds P (of_slot make s)
holds_slot P make h None = tt
holds_slot P make h (Some g) = h g

held : {A : Type 0} (P : A → Type 0) (o : Option (ℕ × A)) (g : ℕ) (c : A) → o ≡ Some (g, c) → Holds P o → P c
held P o g c e h = subst (Holds P) e h

abbrev NoReset : Tree → Type 0
NoReset x = reset_slot x ≡ None

abbrev NoneFirst : Forest → Type 0
NoneFirst a = first_reset a ≡ None

module _ (f : FunctionTree) (n : ℕ) where
  item_no_reset : (x : Tree) → Holds NoReset (next_item f n x)
  item_no_reset (If t a b) =
      subst (Holds NoReset) (sym (in_if f n t a b))
      (holds_or NoReset (put (λ c. If t c b) (next_list f n a)) (put (If t a) (next_list f n b))
      (holds_put NoReset (λ c. If t c b) (λ c. refl) (next_list f n a)) (holds_put NoReset (If t a) (λ c. refl) (next_list f n b)))
  item_no_reset (While t a) = subst (Holds NoReset) (sym (in_while f n t a)) (holds_put NoReset (While t) (λ c. refl) (next_list f n a))
  item_no_reset (Do a t) = subst (Holds NoReset) (sym (in_do f n a t)) (holds_put NoReset (λ c. Do c t) (λ c. refl) (next_list f n a))
  item_no_reset (For b t u a) =
      subst (Holds NoReset) (sym (in_for f n b t u a))
      (holds_or NoReset (put (λ c. For c t u a) (next_list f n b)) (put (For b t u) (next_list f n a))
      (holds_put NoReset (λ c. For c t u a) (λ c. refl) (next_list f n b)) (holds_put NoReset (For b t u) (λ c. refl) (next_list f n a)))
  item_no_reset (Switch v c) = subst (Holds NoReset) (sym (in_switch f n v c)) (holds_put NoReset (Switch v) (λ c. refl) (next_sections f n c))
  item_no_reset (Block a) = subst (Holds NoReset) (sym (in_block f n a)) (holds_put NoReset Block (λ c. refl) (next_list f n a))
  item_no_reset x = tt

  here_none_first : (x : Tree) (xs : Forest) → Holds NoneFirst (next_here f n (Then x xs))
  here_none_first (While t a) xs =
      let x = While t a in
      holds_or NoneFirst (of_slot (λ g. Then (broken g x) (but_first xs)) (break_slot (counts_of f) n x xs))
      (of_slot (λ g. Then (continued g x) xs) (continue_slot (counts_of f) n x))
      (holds_slot NoneFirst (λ g. Then (broken g x) (but_first xs)) (λ g. refl) (break_slot (counts_of f) n x xs))
      (holds_slot NoneFirst (λ g. Then (continued g x) xs) (λ g. refl) (continue_slot (counts_of f) n x))
  here_none_first (Do a t) xs =
      let x = Do a t in
      holds_or NoneFirst (of_slot (λ g. Then (broken g x) (but_first xs)) (break_slot (counts_of f) n x xs))
      (of_slot (λ g. Then (continued g x) xs) (continue_slot (counts_of f) n x))
      (holds_slot NoneFirst (λ g. Then (broken g x) (but_first xs)) (λ g. refl) (break_slot (counts_of f) n x xs))
      (holds_slot NoneFirst (λ g. Then (continued g x) xs) (λ g. refl) (continue_slot (counts_of f) n x))
  here_none_first (For b t u a) xs =
      let x = For b t u a in
      holds_slot NoneFirst (λ g. Then (continued g x) xs) (λ g. refl) (continue_slot (counts_of f) n x)
  here_none_first x xs = tt

  at_none_first : (a : Forest) → Holds NoneFirst (next_at f n a)
  at_none_first Nil = tt
  at_none_first (Then x xs) =
      holds_or NoneFirst (next_here f n (Then x xs)) (put (λ y. Then y xs) (next_item f n x)) (here_none_first x xs) (by (next_item f n x) (item_no_reset x))
    where
      by : (o : Option (ℕ × Tree)) → Holds NoReset o → Holds NoneFirst (put (λ y. Then y xs) o)
      by None h = tt
      by (Some c) h = h

  -- nor does one apply at a `g = 0;`
  found_none_first : (a : Forest) (g : ℕ) (c : Forest) → next_at f n a ≡ Some (g, c) → first_reset a ≡ None
  found_none_first Nil g c e = refl
  found_none_first (Then (Evaluate v) xs) g c e = none_some (g, c) e
  found_none_first (Then x xs) g c e = refl

  same_first : (a : Forest) (g : ℕ) (c : Forest) → next_at f n a ≡ Some (g, c) → first_reset a ≡ first_reset c
  same_first a g c e = found_none_first a g c e ∙ sym (held NoneFirst (next_at f n a) g c e (at_none_first a))

  first_replaced : (k : ℕ) (a : Forest) (g : ℕ) (c : Forest) → next_at f n (behind k a) ≡ Some (g, c) → first_reset a ≡ first_reset (replaced k c a)
  first_replaced zero a g c e = same_first a g c e
  first_replaced (suc k) Nil g c e = none_some (g, c) e
  first_replaced (suc k) (Then x xs) g c e = refl

-- ---- before the place of a change

module _ (f h : FunctionTree) (l : Fewer (counts_of f) (counts_of h)) (n : ℕ) where
  pub quiet_replaced : (j k : ℕ) (a : Forest) (g : ℕ) (c : Forest) → next_at f n (behind k a) ≡ Some (g, c) → j < k →
      next_at f n (behind j a) ≡ None → next_at h n (behind j (replaced k c a)) ≡ None
  quiet_replaced j zero a g c e i q = absurd (omega (arith, i))
  quiet_replaced j (suc k) Nil g c e i q = none_some (g, c) e
  quiet_replaced zero (suc k) (Then x xs) g c e i q = at_still f h l x n xs (replaced k c xs) (first_replaced f n k xs g c e) q
  quiet_replaced (suc j) (suc k) (Then x xs) g c e i q = quiet_replaced j k xs g c e (omega (arith, i)) q

no_fewer : (c : ℕ → ℕ) → Fewer c c
no_fewer c g = inl refl

first_removed : (d : ℕ) (a : Forest) → first_reset a ≡ first_reset (removed (suc d) a)
first_removed d Nil = refl
first_removed d (Then x xs) = refl

none_behind : (j : ℕ) → behind j Nil ≡ Nil
none_behind zero = refl
none_behind (suc j) = refl

-- before the item in front of one that goes
quiet_before : (f : FunctionTree) (n j d : ℕ) (a : Forest) → suc j < d → next_at f n (behind j a) ≡ None → next_at f n (behind j (removed d a)) ≡ None
quiet_before f n j d Nil i q = q
quiet_before f n j zero (Then x xs) i q = absurd (omega (arith, i))
quiet_before f n zero (suc zero) (Then x xs) i q = absurd (omega (arith, i))
quiet_before f n zero (suc (suc d)) (Then x xs) i q = at_still f f (no_fewer (counts_of f)) x n xs (removed (suc d) xs) (first_removed d xs) q
quiet_before f n (suc j) (suc d) (Then x xs) i q = quiet_before f n j d xs (omega (arith, i)) q

-- behind it
pub moved_up : (j d : ℕ) (a : Forest) → d < suc j → behind j (removed d a) ≡ behind (suc j) a
moved_up j d Nil i = none_behind j
moved_up j zero (Then x xs) i = refl
moved_up zero (suc d) (Then x xs) i = absurd (omega (arith, i))
moved_up (suc j) (suc d) (Then x xs) i = moved_up j d xs (omega (arith, i))

-- ---- where the search goes on

pub goes_on_at : (f h : FunctionTree) → Fewer (counts_of f) (counts_of h) →
    (n k : ℕ) (a : Forest) (g : ℕ) (c : Forest) (gone : Option ℕ) (doubt from : ℕ) → next_at f n (behind k a) ≡ Some (g, c) → AreQuiet f n k a
    → GoesOn k gone doubt from → AreQuietBut h n doubt from (removed_at gone (replaced k c a))
goes_on_at f h l n k a g c None doubt from e q o j i p = let m = o j i in quiet_replaced f h l n j k a g c e m (q j m)
goes_on_at f h l n k a g c (Some d) doubt from e q o j i p = by (o j i p)
  where
    by : ((suc j < d) × (j < k)) ⊎ ((d < suc j) × (suc j < k)) → next_at h n (behind j (removed d (replaced k c a))) ≡ None
    by (inl (r, m)) = quiet_before h n j d (replaced k c a) r (quiet_replaced f h l n j k a g c e m (q j m))
    by (inr (r, m)) = ap (next_at h n) (moved_up j d (replaced k c a) r) ∙ quiet_replaced f h l n (suc j) k a g c e m (q (suc j) m)

-- ---- the next change of the whole list

pub found_next : (f : FunctionTree) (n k : ℕ) (a : Forest) (g : ℕ) (c : Forest) → AreQuiet f (suc n) k a →
    next_at f (suc n) (behind k a) ≡ Some (g, c) → next_list f n a ≡ Some (g, replaced k c a)
found_next f n zero Nil g c q e = none_some (g, c) e
found_next f n (suc k) Nil g c q e = none_some (g, c) e
found_next f n zero (Then x xs) g c q e = more f n x xs ∙ ap (λ o. or_else o (put (Then x) (next_list f n xs))) e
found_next f n (suc k) (Then x xs) g c q e =
    more f n x xs ∙ ap (λ o. or_else o (put (Then x) (next_list f n xs))) (q zero (omega arith))
    ∙ ap (put (Then x)) (found_next f n k xs g c (λ j i. q (suc j) (omega (arith, i))) e)

pub none_next : (f : FunctionTree) (n : ℕ) (a : Forest) → ((j : ℕ) → next_at f (suc n) (behind j a) ≡ None) → next_list f n a ≡ None
none_next f n Nil q = refl
none_next f n (Then x xs) q =
    more f n x xs ∙ ap (λ o. or_else o (put (Then x) (next_list f n xs))) (q zero) ∙ ap (put (Then x)) (none_next f n xs (λ j. q (suc j)))
