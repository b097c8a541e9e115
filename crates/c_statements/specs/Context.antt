-- What is known at a place of a function's body.
use Rattle.std.specs.Prelude.{ℕ, Bool, true, false, cond, ◌==◌, List, [], ◌∷◌, ◌++◌, Option, Some, None, is_some, length, map}
use Rattle.c_types.specs.declared.kinds.IntKind.{IntKind}
use Rattle.c_tree.specs.declared.tree.Slot.{Slot}
use Rattle.c_tree.specs.declared.tree.Item.{Item}
use Rattle.c_tree.specs.declared.tree.Item as item
use Rattle.c_kinds.specs.Scopes.{Env, Scope, Names, found}
pub use Rattle.c_statements.specs.declared.anchors.Anchor.{Anchor}
pub use Rattle.c_statements.specs.declared.anchors.Anchor.TheVariants.{Before, AtEnd, AtSection, Last}

-- ---- places of Notes

abbrev pub same_place : Anchor → Anchor → Bool
same_place (Before a) (Before b) = a == b
same_place (AtEnd a) (AtEnd b) = a == b
same_place (AtSection a) (AtSection b) = a == b
same_place Last Last = true
same_place _ _ = false

-- with one comment more, behind those of its place
abbrev pub with_note : Anchor → List ℕ → (Anchor → List (List ℕ)) → Anchor → List (List ℕ)
with_note place bytes notes anchor = cond (same_place place anchor) (notes anchor ++ bytes ∷ []) (notes anchor)

-- ---- the whole function

pub record Context : Type 0 where
  -- the words of the tokens
  pub word : ℕ → List ℕ
  -- the comments of a place, in order
  pub notes : Anchor → List (List ℕ)
  -- the function's labels, with their numbers in text order
  pub labels : Names ℕ
  pub result : Option IntKind

abbrev pub notes_at : Context → Anchor → List Item
notes_at ctx anchor = map item.Note (ctx.notes anchor)

abbrev pub has_label : Names ℕ → List ℕ → Bool
has_label labels name = is_some (found name labels)

-- the number of a label, and behind all of them that of one that the function doesn't have
abbrev pub number_in : Names ℕ → List ℕ → ℕ
number_in labels name = elim (found name labels) [ Some n ↦ n | None ↦ length labels ]

-- ---- a place in it

-- the scopes around it, and the slots that are declared before it
pub record Walk : Type 0 where
  pub scopes : List Scope
  pub slots : List Slot

abbrev pub env_in : (ℕ → List ℕ) → Walk → Env
env_in word w = record { word = word; scopes = w.scopes }

abbrev pub env_at : Context → Walk → Env
env_at ctx w = env_in ctx.word w

-- into a scope of its own, and out of it: the slots stay
abbrev pub enter : Walk → Walk
enter w = record { scopes = [] ∷ w.scopes; slots = w.slots }

abbrev pub leave : Walk → Walk → Walk
leave outer inner = record { scopes = outer.scopes; slots = inner.slots }

-- the constructs around it
pub record Around : Type 0 where
  pub loop : Bool
  pub switch : Bool

abbrev pub no_construct : Around
no_construct = record { loop = false; switch = false }

abbrev pub in_loop : Around → Around
in_loop around = record { loop = true; switch = around.switch }

abbrev pub in_switch : Around → Around
in_switch around = record { loop = around.loop; switch = true }
