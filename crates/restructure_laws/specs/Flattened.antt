-- What the tops of a program are flattened to.
use Rattle.std.specs.Prelude.{ℕ, ◌≤◌, List, [], ◌∷◌, length}
use Rattle.c_tree.specs.declared.tree.Function.{Function}
use Rattle.c_tree.specs.declared.tree.Top.{Top}
use Rattle.c_tree.specs.declared.tree.Top.TheVariants as T
use Rattle.flat_form.specs.Flattened.{IsFlattened}
use Rattle.whole_laws.specs.Rewritten.{IsNoFunction}

-- the most entries of a list that is held in memory
abbrev pub most_held : ℕ
most_held = 4294967295

-- what stands at file scope, before and after: a function is flattened with these names, of the program and of its file
-- scope, and its variables are held in memory; all else is the same
pub data FlattenedTop (names file : List (List ℕ)) : Top → Top → Type 0 where
  fd_function : {f g : Function} → IsFlattened names file f g → length g.slots ≤ most_held → FlattenedTop names file (T.Function f) (T.Function g)
  fd_other : (t : Top) → IsNoFunction t → FlattenedTop names file t t

-- all of it, in file order
pub data FlattenedTops (names file : List (List ℕ)) : List Top → List Top → Type 0 where
  fd_none : FlattenedTops names file [] []
  fd_more : {t u : Top} {ts us : List Top} → FlattenedTop names file t u → FlattenedTops names file ts us → FlattenedTops names file (t ∷ ts) (u ∷ us)
