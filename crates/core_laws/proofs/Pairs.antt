-- Whole runs of a program and of its core, side by side.
use Rattle.std.proofs.Common.{ℕ, zero, suc, ◌+◌, ◌≤◌, ◌<◌, ◌≡◌, refl, ap, ◌∙◌, arith, subst}
use Rattle.jump_meaning.specs.Code.{Code}
use Rattle.jump_meaning.specs.Step.{State, At, HasEnded, HasTrapped}
use Rattle.jump_meaning.specs.Runs.{run}
use Rattle.jump_meaning.proofs.RunFacts.{run_add}
use Rattle.core_laws.specs.Core.{core_code}
use Rattle.core_laws.proofs.Reach.{Reach, stay, more, reach_on, Calm, Good, calmly}
use Rattle.core_laws.proofs.Lawful.{Lawful}
use Rattle.core_laws.proofs.Match.{core_state, SafeAt, Match, matched, last, Sure}

pub count : {p : Code} {Ok : State → Type 0} {c d : State} → Reach p Ok c d → ℕ
count stay = 0
count (more ok r) = suc (count r)

pub count_on : {p : Code} {Ok : State → Type 0} {c d e : State} (r : Reach p Ok c d) (q : Reach p Ok d e) → count (reach_on r q) ≡ count r + count q
unfolding count reach_on
count_on stay q = omega arith
count_on (more ok r) q = let h = count_on r q in omega arith

-- where it ends
pub ends : {p : Code} {Ok : State → Type 0} {c d : State} (r : Reach p Ok c d) → run p (count r) c ≡ d
unfolding count
ends stay = refl
ends (more ok r) = ends r

-- Ok holds of each state before its end
pub each : {p : Code} {Ok : State → Type 0} {c d : State} (r : Reach p Ok c d) (i : ℕ) → i < count r → Ok (run p i c)
unfolding count
each stay i h = absurd (omega arith)
each (more ok r) zero h = ok
each (more ok r) (suc i) h = each r i (omega arith)

-- what holds of all states of a run holds of those from a later one on
pub later_all : {p : Code} {Ok : State → Type 0} (F : State → Type 0) {c d : State} → Reach p Ok c d → ((i : ℕ) → F (run p i c)) → (i : ℕ) → F (run p i d)
later_all {p = p} F {c = c} r h i = subst F (run_add p (count r) i c ∙ ap (run p i) (ends r)) (h (count r + i))

-- both runs, N steps on or more
pub record Pair (p : Code) (N : ℕ) (c ck : State) : Type 0 where
  pub upto : State
  pub real : Reach p (Good p) c upto
  pub core_way : Reach (core_code p) SafeAt ck (core_state upto)
  pub calm : Calm upto
  pub real_far : N ≤ count real
  pub core_far : N ≤ count core_way

module _ (p : Code) (Inv : State → Type 0) (law : Lawful p Inv) (H : State → Type 0) (sure : Sure p H) where
  match_at : (c : State) → Calm c → Inv c → H c → Match p c (core_state c)
  match_at (At f g k v cs w) (a, cf) i h = matched p Inv law H sure f cs cf w k g v a i h
  match_at (HasEnded n es) a i h = last p (HasEnded n es) (HasEnded n es) (calmly tt) tt refl tt
  match_at (HasTrapped t es) a i h = last p (HasTrapped t es) (HasTrapped t es) (calmly tt) tt refl tt

  kept : {c d : State} → Reach p (Good p) c d → Inv c → Inv d
  kept stay i = i
  kept (more {c = c} g r) i = kept r (law.next c i)

  pub pairs : (N : ℕ) (c : State) → Calm c → Inv c → H c → Pair p N c (core_state c)
  unfolding count
  pairs zero c a i h = record { upto = c; real = stay; core_way = stay; calm = a; real_far = omega arith; core_far = omega arith }
  pairs (suc N) c a i h =
      let m = match_at c a i h in
      let r : Reach p (Good p) c m.upto = more m.good m.real in
      let q : Reach (core_code p) SafeAt (core_state c) (core_state m.upto) = more m.safe m.core_way in
      let b = pairs N m.upto m.calm (kept r i) (sure.later c m.upto r q h) in
      record {
        upto = b.upto;
        real = reach_on r b.real;
        core_way = reach_on q b.core_way;
        calm = b.calm;
        real_far = let e = count_on r b.real in let f = b.real_far in omega arith;
        core_far = let e = count_on q b.core_way in let f = b.core_far in omega arith;
      }
