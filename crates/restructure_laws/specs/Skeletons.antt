-- What a rewriting keeps of the functions of a source.
use Rattle.std.specs.Prelude.{◌≡◌, true, false, List, [], length, Some, None}
use Rattle.c_tree.specs.declared.tree.Item.{Item}
use Rattle.c_tree.specs.declared.tree.Function.{Function}
use Rattle.c_tree.specs.declared.tree.Top.{Top}
use Rattle.c_tree.specs.declared.tree.Top.TheVariants as T
use Rattle.c_tree.specs.InRange.{body_of}
use Rattle.c_tree.specs.Numerals.{constant}
use Rattle.c_tree.specs.Trees.{Forest, trees_of}
use Rattle.flat_laws.specs.Parts.{has_jumps}
use Rattle.flat_laws.specs.FlatForm.{flat_body}
use Rattle.flat_laws.specs.Unlabelled.{unlabelled}
use Rattle.plain_laws.specs.Tidied.{tidy}
use Rattle.move_order_laws.specs.Skeletons.{skeleton}
use Rattle.whole_laws.specs.Rewritten.{IsNoFunction}

-- the flat form of the body of a function with jumps
abbrev pub flat_form : Function → Forest
flat_form f = flat_body constant f.slots (length f.labels) (body_of f)

-- r is f but for its labels, and for the sections of its switches: one without end whose last item is `break` has its end in
-- that place, and one with an empty list and no end, other than the last, gives its cases and its default to the next
pub record IsWithoutLabels (f r : Function) : Type 0 where
  pub body : List Item
  pub trees : trees_of body ≡ tidy (unlabelled (body_of f))
  pub whole : r ≡ record f { labels = []; body = Some body }

-- what stands at one place of the source, after all moves and simplifications, and in the result
pub data IsKept : Top → Top → Top → Type 0 where
  -- a function with jumps has the skeleton of its flat form: each statement and each test of it stands once, in its order and
  -- in its own constructs
  keeps_skeleton : {f m r : Function} → has_jumps (body_of f) ≡ true → skeleton (body_of m) ≡ skeleton (flat_form f) →
      IsKept (T.Function f) (T.Function m) (T.Function r)
  -- one without jumps loses its labels
  loses_labels : {f m r : Function} → has_jumps (body_of f) ≡ false → IsWithoutLabels f r → IsKept (T.Function f) (T.Function m) (T.Function r)
  -- a prototype stays, and so does what is no function
  stays_declared : (f : Function) → f.body ≡ None → IsKept (T.Function f) (T.Function f) (T.Function f)
  stays : (t : Top) → IsNoFunction t → IsKept t t t
