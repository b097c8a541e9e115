-- The lists that were entered, by the tokens whose places they give.
use Rattle.std.specs.Prelude.{◌≡◌, ◌<◌, ◌≤◌, ◌&&◌, ℕ, Bool, nat_le, nat_lt, cond, All, List, [], ◌∷◌}
use Rattle.c_statements.specs.declared.anchors.Anchor.{Anchor}
use Rattle.c_comments.specs.NodeViews.{tops_in}
use Rattle.c_comments.specs.Notes.{place_in}
use Rattle.c_comments.specs.Steps.{rest_place, Behind}
use Rattle.c_comments.specs.declared.frames.Frame.{Frame}
use Rattle.c_comments.specs.declared.frames.Walk.{Walk}

-- a frame gives the places of its tokens
abbrev pub Speaks : (ℕ → List ℕ) → (ℕ → Anchor) → Frame → Type 0
Speaks word place f = (t : ℕ) → f.from ≤ t → t < f.to → rest_place word f.rest t ≡ place t

abbrev pub holds : ℕ → Frame → Bool
holds t f = nat_le f.from t && nat_lt t f.to

-- from the first frame on that gives the place of token t
abbrev pub holding : ℕ → List Frame → List Frame
holding t [] = []
holding t (f ∷ fs) = cond (holds t f) (f ∷ fs) (holding t fs)

-- a walk gives the places of tokens
abbrev pub IsWalk : (ℕ → List ℕ) → (ℕ → Anchor) → Walk → Type 0
IsWalk word place w = Behind (place_in (tops_in word w.tops.now)) place w.from × All (Speaks word place) w.frames
