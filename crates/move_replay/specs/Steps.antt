-- Where a list of moves stops.
use Rattle.std.specs.Prelude.{◌≡◌, ◌<◌, ℕ, true, List, Option, Some, None, slice_get, take, length, All}
use Rattle.c_tree.specs.declared.tree.Top.{Top}
use Rattle.c_tree.specs.declared.tree.Top.TheVariants as T
use Rattle.report_moves.specs.declared.moves.Move.{Move}
use Rattle.restructure_laws.specs.Lawful.{IsMovedBy, IsOther, IsLawful, Moves}
use Rattle.restructure_laws.specs.Replayed.{IsTopLeapless}

-- it is a flat function of the name
abbrev pub IsFlatOf : List ℕ → Top → Type 0
IsFlatOf name (T.Function f) = (f.flat ≡ true) × (f.name ≡ name)
IsFlatOf name _ = ⊥

-- the first is a function, and the second is it after the move
abbrev pub IsTopMoved : Move → Top → Top → Type 0
IsTopMoved m (T.Function f) (T.Function g) = IsMovedBy m f g
IsTopMoved m _ _ = ⊥

-- the first flat function of the name stands at this place
pub record IsPlaceOf (name : List ℕ) (ts : List Top) (i : ℕ) : Type 0 where
  pub top : Top
  pub within : i < length ts
  pub there : slice_get ts i ≡ Some top
  pub flat : IsFlatOf name top
  pub before : All (IsOther name) (take i ts)

-- in the function at the place, if there is one, no Leap is left
abbrev pub IsLeaplessAt : Option ℕ → List Top → Type 0
IsLeaplessAt None ts = Unit {0}
IsLeaplessAt (Some i) ts = (t : Top) → slice_get ts i ≡ Some t → IsTopLeapless t

-- the first n moves are lawful, and the next one isn't, where they have led
pub record StopsAt (n : ℕ) (ms : List Move) (ts : List Top) : Type 0 where
  pub move : Move
  pub reached : List Top
  pub moved : Moves ts (take n ms) reached
  pub next : slice_get ms n ≡ Some move
  pub unlawful : ¬ (IsLawful move reached)
