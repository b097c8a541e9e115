-- Words that are too many for any command.
use Rattle.std.proofs.Common.{◌≡◌, ℕ, ◌≤◌, List, [], ◌∷◌, map, length, Option, None, refl, arith}
use Rattle.cmd_words.specs.Command.{Command, command_of}

pub too_many : {A : Type 0} (f : A → List ℕ) (ws : List A) → 6 ≤ length ws → None ≡ command_of (map f ws)
too_many f [] h = absurd (omega arith)
too_many f (a ∷ []) h = absurd (omega arith)
too_many f (a ∷ b ∷ []) h = absurd (omega arith)
too_many f (a ∷ b ∷ c ∷ []) h = absurd (omega arith)
too_many f (a ∷ b ∷ c ∷ d ∷ []) h = absurd (omega arith)
too_many f (a ∷ b ∷ c ∷ d ∷ e ∷ []) h = absurd (omega arith)
too_many f (a ∷ b ∷ c ∷ d ∷ e ∷ g ∷ rest) h = refl
