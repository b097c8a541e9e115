-- Which functions of a name are looked for.
use Rattle.std.specs.Prelude.{Bool, true, false, is_some}
use Rattle.c_tree.specs.declared.tree.Function.{Function}

-- those with a body, or all
abbrev pub wanted : Bool → Function → Bool
wanted true f = is_some f.body
wanted false f = true
