-- Two machines whose states stay related show the same, in both directions at once.
use Rattle.std.proofs.Common.{ℕ, zero, suc, ◌+◌, ◌≤◌, ◌<◌, ◌⊎◌, inl, inr, ◌≡◌, sym, subst, arith}
use Rattle.jump_meaning.specs.Behaviour.{Shown, Covers, AreSameRuns}
use Rattle.jump_meaning.specs.Runs.{iterate}
use Rattle.jump_meaning.proofs.Covering.{iterate_add, later_covers}

-- after some steps of the left, at least one, and some of the right, each from a state with Safe, they are
-- related again; none of the right only where the weight of the left falls
pub record Joint {A B : Type 0} (next : A → A) (next' : B → B) (R : A → B → Type 0) (Safe : B → Type 0) (weight : A → ℕ) (c : A) (d : B) : Type 0 where
  pub more : ℕ
  pub steps : ℕ
  pub related : R (iterate next more (next c)) (iterate next' steps d)
  pub pays : (1 ≤ steps) ⊎ (weight (iterate next more (next c)) < weight c)
  pub safe : (i : ℕ) → i < steps → Safe (iterate next' i d)

-- i lies past a, by less than b
record Past (a b i : ℕ) : Type 0 where
  pub by : ℕ
  pub is : i ≡ a + by
  pub below : by < b

split : (a b i : ℕ) → i < a + b → (i < a) ⊎ Past a b i
split zero b i h = inr (record { by = i; is = omega arith; below = omega (arith, h) })
split (suc a) b zero h = inl (omega arith)
split (suc a) b (suc i) h = elim (split a b i (omega (arith, h))) as (λ _. (suc i < suc a) ⊎ Past (suc a) b (suc i)) [
  | inl p ↦ inl (omega (arith, p))
  | inr p ↦ inr (let e = p.is in record { by = p.by; is = omega (arith, e); below = p.below })
]

-- Ok holds of all states of the left run, and Safe is shown of those of the right
module _ {A B : Type 0} (next : A → A) (next' : B → B) (sh : A → Shown) (sh' : B → Shown)
    (R : A → B → Type 0) (Ok : A → Type 0) (Safe : B → Type 0) (weight : A → ℕ)
    (joint : (c : A) (d : B) → R c d → ((n : ℕ) → Ok (iterate next n c)) → Joint next next' R Safe weight c d)
    (alike : (c : A) (d : B) → R c d → sh c ≡ sh' d)
    (keeps : (c : A) → Covers (sh c) (sh (next c))) (keeps' : (d : B) → Covers (sh' d) (sh' (next' d))) where
  -- related again after at least N steps of each
  record Both (N : ℕ) (c : A) (d : B) : Type 0 where
    pub left : ℕ
    pub right : ℕ
    pub left_far : N ≤ left
    pub right_far : N ≤ right
    pub related : R (iterate next left c) (iterate next' right d)
    pub safe : (i : ℕ) → i < right → Safe (iterate next' i d)

  safe_on : (m n : ℕ) (d : B) → ((i : ℕ) → i < m → Safe (iterate next' i d)) → ((i : ℕ) → i < n → Safe (iterate next' i (iterate next' m d))) →
      (i : ℕ) → i < m + n → Safe (iterate next' i d)
  safe_on m n d p q i h = elim (split m n i h) as (λ _. Safe (iterate next' i d)) [
    | inl x ↦ p i x
    | inr x ↦ subst (λ z. Safe (iterate next' z d)) (sym x.is) (subst Safe (sym (iterate_add next' m x.by d)) (q x.by x.below))
  ]

  -- Ok of a run holds of the run from a later state
  ok_on : (m : ℕ) (c : A) → ((n : ℕ) → Ok (iterate next n c)) → (n : ℕ) → Ok (iterate next n (iterate next m c))
  ok_on m c ok n = subst Ok (iterate_add next m n c) (ok (m + n))

  one : (w : ℕ) (c : A) (d : B) → weight c < w → R c d → ((n : ℕ) → Ok (iterate next n c)) → Both 1 c d
  one zero c d h r ok = absurd (omega (arith, h))
  one (suc w) c d h r ok =
      let j = joint c d r ok in
      elim j.pays as (λ _. Both 1 c d) [
        | inl p ↦ record { left = suc j.more; right = j.steps; left_far = omega arith; right_far = p; related = j.related; safe = j.safe }
        | inr p ↦
            (let b = one w (iterate next j.more (next c)) (iterate next' j.steps d) (omega (arith, h, p)) j.related (ok_on (suc j.more) c ok) in
            record {
              left = suc j.more + b.left;
              right = j.steps + b.right;
              left_far = omega arith;
              right_far = (let q = b.right_far in omega (arith, q));
              related = subst (λ y. R y (iterate next' (j.steps + b.right) d)) (sym (iterate_add next (suc j.more) b.left c))
                  (subst (λ z. R (iterate next b.left (iterate next j.more (next c))) z) (sym (iterate_add next' j.steps b.right d)) b.related);
              safe = safe_on j.steps b.right d j.safe b.safe;
            })
      ]

  many : (N : ℕ) (c : A) (d : B) → R c d → ((n : ℕ) → Ok (iterate next n c)) → Both N c d
  many zero c d r ok = record { left = 0; right = 0; left_far = omega arith; right_far = omega arith; related = r; safe = λ i h. absurd (omega (arith, h)) }
  many (suc N) c d r ok =
      let a = one (suc (weight c)) c d (omega arith) r ok in
      let b = many N (iterate next a.left c) (iterate next' a.right d) a.related (ok_on a.left c ok) in
      record {
        left = a.left + b.left;
        right = a.right + b.right;
        left_far = (let p = a.left_far in let q = b.left_far in omega (arith, p, q));
        right_far = (let p = a.right_far in let q = b.right_far in omega (arith, p, q));
        related = subst (λ y. R y (iterate next' (a.right + b.right) d)) (sym (iterate_add next a.left b.left c))
            (subst (λ z. R (iterate next b.left (iterate next a.left c)) z) (sym (iterate_add next' a.right b.right d)) b.related);
        safe = safe_on a.right b.right d a.safe b.safe;
      }

  -- the two runs behave the same
  pub same : (c : A) (d : B) → R c d → ((n : ℕ) → Ok (iterate next n c)) → AreSameRuns (λ n. sh (iterate next n c)) (λ n. sh' (iterate next' n d))
  same c d r ok = record {
    forth = λ n. let b = many n c d r ok in (
      b.right,
      subst (λ x. Covers (sh (iterate next n c)) x) (alike (iterate next b.left c) (iterate next' b.right d) b.related)
          (later_covers next sh keeps n b.left c b.left_far),
    );
    back = λ n. let b = many n c d r ok in (
      b.left,
      subst (λ x. Covers (sh' (iterate next' n d)) x) (sym (alike (iterate next b.left c) (iterate next' b.right d) b.related))
          (later_covers next' sh' keeps' n b.right d b.right_far),
    );
  }

  -- each state of the right run has Safe
  pub all_safe : (c : A) (d : B) → R c d → ((n : ℕ) → Ok (iterate next n c)) → (n : ℕ) → Safe (iterate next' n d)
  all_safe c d r ok n = let b = many (suc n) c d r ok in let h = b.right_far in b.safe n (omega (arith, h))
