-- What is shown later covers what is shown before; same behaviour is an equivalence.
use Rattle.std.proofs.Common.{ℕ, zero, suc, ◌+◌, ◌-◌, ◌≤◌, [], ◌≡◌, refl, sym, ◌∙◌, ap, subst, arith, append-nil}
use Rattle.jump_meaning.specs.Behaviour.{Shown, Ended, Trapped, More, events_of, Covers, Covered, AreSameRuns}
use Rattle.jump_meaning.specs.Runs.{iterate}
use Rattle.jump_meaning.specs.Laws.{IsEquivalence}
use Rattle.jump_meaning.proofs.Growth.{Grows, grows_refl, grows_trans}

pub iterate_add : {A : Type 0} (f : A → A) (m n : ℕ) (c : A) → iterate f (m + n) c ≡ iterate f n (iterate f m c)
iterate_add f zero n c = let e : zero + n ≡ n = omega arith in ap (λ k. iterate f k c) e
iterate_add f (suc m) n c = let e : suc m + n ≡ suc (m + n) = omega arith in ap (λ k. iterate f k c) e ∙ iterate_add f m n (f c)

pub covers_refl : (c : Shown) → Covers c c
covers_refl (Ended n es) = refl
covers_refl (Trapped t es) = refl
covers_refl (More es) = grows_refl es

covered_events : (c d : Shown) → Covers c d → Grows (events_of c) (events_of d)
covered_events (Ended n es) d h = ([], ap events_of h ∙ sym (append-nil es))
covered_events (Trapped t es) d h = ([], ap events_of h ∙ sym (append-nil es))
covered_events (More es) d h = h

pub covers_trans : (c d e : Shown) → Covers c d → Covers d e → Covers c e
covers_trans (Ended n es) d e h k = subst (λ z. Covers z e) h k
covers_trans (Trapped t es) d e h k = subst (λ z. Covers z e) h k
covers_trans (More es) d e h k = grows_trans es (events_of d) (events_of e) h (covered_events d e k)

-- a machine of which each step shows what was shown before it, and maybe more
module _ {A : Type 0} (next : A → A) (sh : A → Shown) (keeps : (c : A) → Covers (sh c) (sh (next c))) where
  iterate_covers : (n : ℕ) (c : A) → Covers (sh c) (sh (iterate next n c))
  iterate_covers zero c = covers_refl (sh c)
  iterate_covers (suc n) c = covers_trans (sh c) (sh (next c)) (sh (iterate next n (next c))) (keeps c) (iterate_covers n (next c))

  pub later_covers : (m n : ℕ) (c : A) → m ≤ n → Covers (sh (iterate next m c)) (sh (iterate next n c))
  later_covers m n c h =
      let e : m + (n - m) ≡ n = omega (arith, h) in
      subst (λ d. Covers (sh (iterate next m c)) (sh d)) (sym (iterate_add next m (n - m) c) ∙ ap (λ k. iterate next k c) e)
      (iterate_covers (n - m) (iterate next m c))

-- ---- same runs

pub same_runs_refl : (R : ℕ → Shown) → AreSameRuns R R
same_runs_refl R = record { forth = λ n. (n, covers_refl (R n)); back = λ n. (n, covers_refl (R n)) }

pub same_runs_sym : (R S : ℕ → Shown) → AreSameRuns R S → AreSameRuns S R
same_runs_sym R S h = record { forth = h.back; back = h.forth }

covered_trans : (R S T : ℕ → Shown) → Covered R S → Covered S T → Covered R T
covered_trans R S T h k n = ((k (h n).0).0, covers_trans (R n) (S (h n).0) (T (k (h n).0).0) (h n).1 (k (h n).0).1)

pub same_runs_trans : (R S T : ℕ → Shown) → AreSameRuns R S → AreSameRuns S T → AreSameRuns R T
same_runs_trans R S T h k = record { forth = covered_trans R S T h.forth k.forth; back = covered_trans T S R k.back h.back }

pub same_runs_equivalence : IsEquivalence AreSameRuns
same_runs_equivalence = record { reflexive = same_runs_refl; symmetric = same_runs_sym; transitive = same_runs_trans }
