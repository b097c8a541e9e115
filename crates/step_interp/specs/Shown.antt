-- The bytes that a run shows.
use Rattle.std.specs.Prelude.{ℕ, List, [], ◌∷◌}
use Rattle.jump_meaning.specs.Values.{Event, Byte, Called}

-- the bytes of events, in order
abbrev pub bytes_in : List Event → List ℕ
bytes_in [] = []
bytes_in (Byte b ∷ es) = b ∷ bytes_in es
bytes_in (Called m ns ∷ es) = bytes_in es
