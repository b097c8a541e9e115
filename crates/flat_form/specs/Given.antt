-- What the items of a body give of the one or the other that is counted.
use Rattle.std.specs.Prelude.{ℕ, ◌+◌, Bool, List, [], ◌∷◌, cond, Option, is_some}
use Rattle.c_tree.specs.Trees.{Tree}
use Rattle.c_resolved_laws.specs.Counts.{gotos_in, labels_in}
use Rattle.flat_form.specs.declared.made.Counted.{Counted}
use Rattle.flat_form.specs.declared.made.Counted.TheVariants.{Gotos, Labels}

-- how many are there
abbrev pub some_in : {X : Type 0} → List (Option X) → ℕ
some_in [] = 0
some_in (x ∷ xs) = cond (is_some x) 1 0 + some_in xs

-- what an item gives, apart from what stands in it
abbrev pub given : Counted → (ℕ → Bool) → Bool → Tree → ℕ
given Gotos named in_jumpy x = gotos_in named in_jumpy x
given Labels named in_jumpy x = labels_in named in_jumpy x
