-- The outermost places of a list, and where a change can apply.
use Rattle.std.specs.Prelude.{ℕ, zero, suc, ◌<◌, ◌≡◌, ◌⊎◌, Option, Some, None}
use Rattle.c_tree.specs.Trees.{Forest, Nil, Then}
use Rattle.jump_meaning.specs.Code.{FunctionTree}
use Rattle.break_recovery.specs.Next.{next_at}

-- a list from this place on
abbrev pub behind : ℕ → Forest → Forest
behind zero a = a
behind (suc k) Nil = Nil
behind (suc k) (Then x xs) = behind k xs

-- with another list from this place on
abbrev pub replaced : ℕ → Forest → Forest → Forest
replaced zero b a = b
replaced (suc k) b Nil = b
replaced (suc k) b (Then x xs) = Then x (replaced k b xs)

-- without the item at this place
abbrev pub removed : ℕ → Forest → Forest
removed k Nil = Nil
removed zero (Then x xs) = xs
removed (suc k) (Then x xs) = Then x (removed k xs)

-- without that at the place, if there is one
abbrev pub removed_at : Option ℕ → Forest → Forest
removed_at None a = a
removed_at (Some k) a = removed k a

-- no change applies at the first so many items of a list, whose lists stand at this level
abbrev pub AreQuiet : FunctionTree → ℕ → ℕ → Forest → Type 0
AreQuiet f n k a = (j : ℕ) → j < k → next_at f n (behind j a) ≡ None

-- nor but for one of them
abbrev pub AreQuietBut : FunctionTree → ℕ → ℕ → ℕ → Forest → Type 0
AreQuietBut f n doubt k a = (j : ℕ) → j < k → (j ≡ doubt → ⊥) → next_at f n (behind j a) ≡ None

-- the first change of a list, by its slot and its place, makes the other list of it; or none applies
abbrev pub IsFoundAt : FunctionTree → ℕ → Option (ℕ × ℕ) → Forest → Forest → Type 0
IsFoundAt f n None a b = (j : ℕ) → next_at f n (behind j a) ≡ None
IsFoundAt f n (Some (g, k)) a b = AreQuiet f n k a × (c : Forest) × (next_at f n (behind k a) ≡ Some (g, c)) × (b ≡ replaced k c a)

-- the counts stay, but for those that become 0
abbrev pub Fewer : (ℕ → ℕ) → (ℕ → ℕ) → Type 0
Fewer c d = (g : ℕ) → (d g ≡ c g) ⊎ (d g ≡ 0)

-- where the search goes on after a change at this place, with the declaration gone from that one: one place that is in
-- doubt, and all from another on
abbrev pub GoesOn : ℕ → Option ℕ → ℕ → ℕ → Type 0
GoesOn k None doubt from = (j : ℕ) → j < from → j < k
GoesOn k (Some d) doubt from = (j : ℕ) → j < from → (j ≡ doubt → ⊥) → ((suc j < d) × (j < k)) ⊎ ((d < suc j) × (suc j < k))
