-- Programs that are equal but for one function, and what it is to keep the behaviour of each.
use Rattle.std.specs.Prelude.{◌≡◌, true, List, ◌∷◌}
use Rattle.c_tree.specs.declared.tree.Function.{Function}
use Rattle.c_tree.specs.declared.tree.Top.{Top}
use Rattle.c_tree.specs.declared.tree.Top.TheVariants as T
use Rattle.c_tree.specs.declared.tree.Program.{Program}
use Rattle.c_tree.specs.InRange.{body_of}
use Rattle.c_tree.specs.WellMade.{IsWellMade}
use Rattle.guard_vars.specs.Conversion.{converted}
use Rattle.jump_meaning.specs.Runs.{BehaveTheSame}
use Rattle.jump_meaning.specs.Steady.{IsSteady}

-- g stands in the place of f; all else is equal
pub data OneFunctionExchanged (f g : Function) : List Top → List Top → Type 0 where
  this_function : (ts : List Top) → OneFunctionExchanged f g (T.Function f ∷ ts) (T.Function g ∷ ts)
  later_function : (t : Top) {ts us : List Top} → OneFunctionExchanged f g ts us → OneFunctionExchanged f g (t ∷ ts) (t ∷ us)

-- where a steady program has the function f, it is steady with g in its place, and behaves the same
pub record KeepsBehaviour (f g : Function) : Type 0 where
  pub programs : (p q : Program) → OneFunctionExchanged f g p.tops q.tops → IsSteady p → IsSteady q × BehaveTheSame p q

-- where a function is flat, its conversion is well made
abbrev pub IsConvertible : Function → Type 0
IsConvertible g = g.flat ≡ true → IsWellMade (body_of (converted g))
