-- How many guards a plain form declares.
use Rattle.std.specs.Prelude.{◌+◌, ◌≤◌, cond, List, [], ◌∷◌, length}
use Rattle.c_tree.specs.declared.tree.Function.{Function}
use Rattle.c_tree.specs.declared.tree.Top.{Top}
use Rattle.c_tree.specs.declared.tree.Top.TheVariants as T

-- the second function has at most one variable more for each label of the first if that is flat, and else none more
abbrev pub AreFewGuards : Function → Function → Type 0
AreFewGuards f g = length g.slots ≤ length f.slots + cond f.flat (length f.labels) 0

-- at file scope, a function has at most so many variables more
abbrev pub AreFewInTop : Top → Top → Type 0
AreFewInTop (T.Function f) (T.Function g) = AreFewGuards f g
AreFewInTop _ _ = Unit {0}

-- of all that stands there, one by one
abbrev pub AreFewInTops : List Top → List Top → Type 0
AreFewInTops [] [] = Unit {0}
AreFewInTops (t ∷ ts) (u ∷ us) = AreFewInTop t u × AreFewInTops ts us
AreFewInTops _ _ = ⊥
