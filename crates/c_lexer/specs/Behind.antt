-- Those of a list, each told with those in front of it, in text order.
use Rattle.std.specs.Prelude.{List, [], ◌∷◌}

-- what f gives for each of these, with those in front of it
abbrev pub each_behind : {A B : Type 0} → (List A → A → B) → List A → List B
each_behind f [] = []
each_behind f (x ∷ xs) = f [] x ∷ each_behind (λ before. f (x ∷ before)) xs
