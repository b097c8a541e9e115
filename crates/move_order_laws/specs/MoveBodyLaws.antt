-- What `derived_laws` and `depth_laws` state: behaviour and nesting along the derivation of a body.
use Rattle.std.specs.Prelude.{◌≡◌, ℕ, ◌+◌, ◌*◌, ◌≤◌, Bool, List}
use Rattle.c_tree.specs.declared.tree.Item.{Item}
use Rattle.c_tree.specs.Trees.{Tree, Forest, Goto, trees_of}
use Rattle.c_tree.specs.Everywhere.{total}
use Rattle.c_tree.specs.Changed.{Changed}
use Rattle.c_tree.specs.WellMade.{IsWellMade}
use Rattle.move_laws.specs.Bodies.{KeepsBehaviour}
use Rattle.move_laws.specs.Simplifications.{Simplified}
use Rattle.move_laws.specs.Drops.{dropped}
use Rattle.c_tree.specs.Conversions.{convert}
use Rattle.move_order_laws.specs.declared.kept.Kept.{Kept}
use Rattle.move_order_laws.specs.Leaps.{leaps}
use Rattle.move_order_laws.specs.Nesting.{nesting}
use Rattle.move_order_laws.specs.Derivations.{Derives}

-- 1 for a goto
abbrev pub goto_of : Tree → ℕ
goto_of (Goto l) = 1
goto_of _ = 0

-- how many gotos stand in a list, at any depth
abbrev pub gotos : Forest → ℕ
gotos xs = total goto_of xs

-- a derivation keeps behaviour
pub record DerivedLaws : Type 0 where
  -- a steady program stays steady and behaves the same where all moves are made in one of its bodies
  pub behaviour : (body : List Item) (ms : List Kept) (new : List Item) → IsWellMade (trees_of body) → Derives body ms new → KeepsBehaviour body new

-- how deep the lists of a body come to stand in one another: in each step, and in all
pub record DepthLaws : Type 0 where
  -- no simplification of made tests makes them stand deeper
  pub simplified : (xs ys : Forest) → Changed Simplified xs ys → nesting ys ≤ nesting xs
  -- nor does the removal of guards
  pub dropped : (d : ℕ → Bool) (xs : Forest) → nesting (dropped d xs) ≤ nesting xs
  -- nor does the conversion
  pub converted : (xs : Forest) → nesting (convert xs) ≤ nesting xs
  -- the conversion makes one Leap of each goto
  pub jumps : (xs : Forest) → leaps (convert xs) ≡ gotos xs + leaps xs
  -- so from a flat form to the end of its moves there are at most three levels more for each goto
  pub whole : (flat : Forest) (body : List Item) (ms : List Kept) (new : List Item) → trees_of body ≡ convert flat → leaps flat ≡ 0 →
      IsWellMade (trees_of body) → Derives body ms new
      → nesting (trees_of new) ≤ nesting flat + 3 * gotos flat
