-- Programs that are equal but for the body of one function, and what such a change keeps.
use Rattle.std.specs.Prelude.{◌≡◌, List, ◌∷◌, Some}
use Rattle.c_tree.specs.declared.tree.Item.{Item}
use Rattle.c_tree.specs.declared.tree.Function.{Function}
use Rattle.c_tree.specs.declared.tree.Top.{Top}
use Rattle.c_tree.specs.declared.tree.Top.TheVariants as T
use Rattle.c_tree.specs.declared.tree.Program.{Program}
use Rattle.c_tree.specs.Trees.{trees_of}
use Rattle.c_tree.specs.Changed.{Changed}
use Rattle.c_tree.specs.Moves.{Moved}
use Rattle.c_tree.specs.WellMade.{IsWellMade}
use Rattle.jump_meaning.specs.Runs.{BehaveTheSame}
use Rattle.jump_meaning.specs.Steady.{IsSteady}

-- the function with another body
abbrev pub with_body : Function → List Item → Function
with_body f a = record f { body = Some a }

-- R holds of the body of one function and of its body in the second program; all else is equal
pub data OneBodyChanged (R : List Item → List Item → Type 0) : List Top → List Top → Type 0 where
  this_function : (f : Function) (a b : List Item) (ts : List Top) → f.body ≡ Some a → R a b →
      OneBodyChanged R (T.Function f ∷ ts) (T.Function (with_body f b) ∷ ts)
  later_function : (t : Top) {ts us : List Top} → OneBodyChanged R ts us → OneBodyChanged R (t ∷ ts) (t ∷ us)

-- one of the four rules makes the second body of the first, which is well made
pub record MovesWell (a b : List Item) : Type 0 where
  pub made : IsWellMade (trees_of a)
  pub moved : Changed Moved (trees_of a) (trees_of b)

-- a is the old list and b the new one
abbrev pub IsExchange : List Item → List Item → List Item → List Item → Type 0
IsExchange old new a b = (a ≡ old) × (b ≡ new)

-- where a steady program has the old list as a body, it is steady with the new one in its place, and behaves the same
pub record KeepsBehaviour (old new : List Item) : Type 0 where
  pub programs : (p q : Program) → OneBodyChanged (IsExchange old new) p.tops q.tops → IsSteady p → IsSteady q × BehaveTheSame p q
