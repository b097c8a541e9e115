-- What a run shows after a number of steps, and when two runs behave the same (5.1.2.3).
use Rattle.std.specs.Prelude.{ℕ, ℤ, List, ◌++◌, ◌≡◌}
use Rattle.c_types.specs.declared.trap.Trap.{Trap}
use Rattle.jump_meaning.specs.Values.{Event}

-- how a run stands, and its events so far: it ended with a number, it met a trap, or there is more to come
pub data Shown : Type 0 where
  Ended : ℤ → List Event → Shown
  Trapped : Trap → List Event → Shown
  More : List Event → Shown

-- the events so far, in the order in which they came
abbrev pub events_of : Shown → List Event
events_of (Ended n es) = es
events_of (Trapped t es) = es
events_of (More es) = es

-- d shows what c shows: the same end with the same events, or these events and maybe more
abbrev pub Covers : Shown → Shown → Type 0
Covers (Ended n es) d = d ≡ Ended n es
Covers (Trapped t es) d = d ≡ Trapped t es
Covers (More es) d = (more : List Event) × (events_of d ≡ es ++ more)

-- whatever the first run shows at some time, the second shows at some time
abbrev pub Covered : (ℕ → Shown) → (ℕ → Shown) → Type 0
Covered R S = (n : ℕ) → (m : ℕ) × Covers (R n) (S m)

-- two runs behave the same
pub record AreSameRuns (R S : ℕ → Shown) : Type 0 where
  pub forth : Covered R S
  pub back : Covered S R
