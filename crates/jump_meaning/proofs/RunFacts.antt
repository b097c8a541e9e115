-- The laws of runs of programs.
use Rattle.std.proofs.Common.{ℕ, zero, suc, ◌+◌, ◌≤◌, ◌<◌, ◌⊎◌, inl, inr, List, ◌≡◌, refl, sym, ◌∙◌, subst, arith}
use Rattle.jump_meaning.specs.Code.{Code}
use Rattle.jump_meaning.specs.Values.{Event}
use Rattle.jump_meaning.specs.Behaviour.{Ended, Trapped, More, Shown, Covers}
use Rattle.jump_meaning.specs.Step.{State, At, HasEnded, HasTrapped, step}
use Rattle.jump_meaning.specs.Runs.{run, shows, IsOver, TakesSteps, jump_run, SameBehaviour}
use Rattle.jump_meaning.specs.Laws.{SamenessLaws, RunLaws}
use Rattle.jump_meaning.proofs.Growth.{step_covers}
use Rattle.jump_meaning.proofs.Covering.{iterate_add, later_covers, same_runs_refl, same_runs_sym, same_runs_trans, same_runs_equivalence}

pub run_add : (p : Code) (m n : ℕ) (c : State) → run p (m + n) c ≡ run p n (run p m c)
run_add p m n c = iterate_add (step p) m n c

pub run_stays : (p : Code) (n : ℕ) (c : State) → IsOver (shows c) → run p n c ≡ c
run_stays p zero c h = refl
run_stays p (suc n) (At f g k v cs w) h = absurd h
run_stays p (suc n) (HasEnded m es) h = run_stays p n (HasEnded m es) h
run_stays p (suc n) (HasTrapped t es) h = run_stays p n (HasTrapped t es) h

pub run_grows : (p : Code) (m n : ℕ) (c : State) → m ≤ n → Covers (shows (run p m c)) (shows (run p n c))
run_grows p m n c h = later_covers (step p) shows (step_covers p) m n c h

order : (m n : ℕ) → (m < n) ⊎ ((n < m) ⊎ (m ≡ n))
order m n = grind arith

pub steps_alone : (R : ℕ → Shown) (m n : ℕ) → TakesSteps R m → TakesSteps R n → m ≡ n
steps_alone R m n h k = elim (order m n) as (λ _. m ≡ n) [
  | inl a ↦ absurd (k.before m a h.over)
  | inr b ↦ elim b as (λ _. m ≡ n) [
    | inl a ↦ absurd (h.before n a k.over)
    | inr e ↦ e
  ]
]

-- a run that goes on is over at no earlier time
over_covered : (c d : Shown) (es : List Event) → Covers c d → d ≡ More es → IsOver c → ⊥
over_covered (Ended n fs) d es h e o = subst IsOver (sym h ∙ e) tt
over_covered (Trapped t fs) d es h e o = subst IsOver (sym h ∙ e) tt
over_covered (More fs) d es h e o = o

pub steps_of : (p : Code) (c : State) (n : ℕ) (es : List Event) → shows (run p n c) ≡ More es → IsOver (shows (run p (suc n) c)) →
    TakesSteps (λ m. shows (run p m c)) (suc n)
steps_of p c n es e o = record {
  over = o;
  before = λ m h k. over_covered (shows (run p m c)) (shows (run p n c)) es (run_grows p m n c (omega (arith, h))) e k;
}

pub run_laws : RunLaws
run_laws = record { sums = run_add; stays = run_stays; grows = run_grows; alone = steps_alone; counted = steps_of }

-- ---- same behaviour

pub same_refl : (p : Code) → SameBehaviour p p
same_refl p = record {
  entries = λ m a. ((λ h. h), (λ h. h));
  runs = λ m a h i s. same_runs_refl (jump_run p m a i s);
}

pub same_sym : (p q : Code) → SameBehaviour p q → SameBehaviour q p
same_sym p q h = record {
  entries = λ m a. ((h.entries m a).1, (h.entries m a).0);
  runs = λ m a e i s. same_runs_sym (jump_run p m a i s) (jump_run q m a i s) (h.runs m a ((h.entries m a).1 e) i s);
}

pub same_trans : (p q r : Code) → SameBehaviour p q → SameBehaviour q r → SameBehaviour p r
same_trans p q r h k = record {
  entries = λ m a. ((λ e. (k.entries m a).0 ((h.entries m a).0 e)), (λ e. (h.entries m a).1 ((k.entries m a).1 e)));
  runs = λ m a e i s. same_runs_trans (jump_run p m a i s) (jump_run q m a i s) (jump_run r m a i s) (h.runs m a e i s) (k.runs m a ((h.entries m a).0 e) i s);
}

pub sameness_laws : SamenessLaws
sameness_laws = record {
  of_runs = same_runs_equivalence;
  of_programs = record { reflexive = same_refl; symmetric = same_sym; transitive = same_trans };
}
