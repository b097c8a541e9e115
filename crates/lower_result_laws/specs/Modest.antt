-- Programs that lowering keeps within the limits of a text.
use Rattle.std.specs.Prelude.{ℕ, ◌≤◌, IfSome}
use Rattle.c_tree.specs.declared.tree.Program.{Program}
use Rattle.c_tree.specs.declared.tree.Top.{Top}
use Rattle.c_tree.specs.declared.tree.Top.TheVariants as T
use Rattle.c_tree.specs.Cases.{selector_source}
use Rattle.c_tree.specs.Everywhere.{Everywhere}
use Rattle.c_tree.specs.InRange.{body_of}
use Rattle.c_tree.specs.Trees.{Tree, Switch, Local}
use Rattle.c_resolved_defs.specs.Within.{Each}
use Rattle.c_resolved_defs.specs.PrintableExpressions.{counted, counted_at}

-- the most counted tokens of an initialiser or a selector, two less than those of a full expression
abbrev pub modest : ℕ
modest = 398

-- the initialisers of a declaration, and the selector of a switch
abbrev pub IsModestItem : Tree → Type 0
IsModestItem (Local x es) = IfSome es (Each (λ e. counted_at 2 e ≤ modest))
IsModestItem (Switch s c) = counted (selector_source s) ≤ modest
IsModestItem _ = Unit {0}

abbrev pub IsModestTop : Top → Type 0
IsModestTop (T.Function f) = Everywhere IsModestItem (body_of f)
IsModestTop _ = Unit {0}

-- each initialiser of a variable of a function and each selector leaves room for two tokens
abbrev pub IsModest : Program → Type 0
IsModest p = Each IsModestTop p.tops
