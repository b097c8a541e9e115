-- What `notes_laws` states.
use Rattle.std.specs.Prelude.{◌≡◌, ℕ, ℤ, List}
use Rattle.c_types.specs.declared.kinds.IntKind.{IntKind}
use Rattle.c_tree.specs.declared.tree.Function.{Function}
use Rattle.c_tree.specs.declared.tree.Program.{Program}
use Rattle.c_tree.specs.declared.tree.Slot.{Slot}
use Rattle.c_tree.specs.ExpressionTrees.{ExpressionTree}
use Rattle.c_tree.specs.InRange.{body_of}
use Rattle.c_tree.specs.Trees.{Forest}
use Rattle.flat_laws.specs.FlatForm.{flat_body}
use Rattle.flat_laws.specs.Unlabelled.{unlabelled}
use Rattle.move_order_laws.specs.Skeletons.{skeleton}
use Rattle.plain_laws.specs.Plain.{plain_function, plain_with}
use Rattle.report_moves.specs.declared.moves.Move.{Move}
use Rattle.c_resolved_defs.specs.Limits.{FlatCounts}
use Rattle.c_resolved_defs.specs.Resolved.{IsResolvedWith}
use Rattle.whole_laws.specs.Rewritten.{IsRewritten}
use Rattle.whole_laws.specs.Notes.{notes, notes_of}

pub record NotesLaws : Type 0 where
  -- the flat form of any list has its Notes, in their order, and so has a list without its labels
  pub flat : (number : IntKind → ℤ → ExpressionTree) (slots : List Slot) (labels : ℕ) (xs : Forest) → notes (flat_body number slots labels xs) ≡ notes xs
  pub unlabelled : (xs : Forest) → notes (unlabelled xs) ≡ notes xs
  -- the skeleton of a list has them too: so conversions, moves and simplifications, which keep the skeleton, keep them
  pub skeleton : (xs : Forest) → notes (skeleton xs) ≡ notes xs
  -- and so has the plain form of any function
  pub plain : (names : List (List ℕ)) (f : Function) → notes (body_of (plain_function names f)) ≡ notes (body_of f)
  -- so the plain form of what a resolved program is rewritten to has the Notes of the program
  pub program : (counts : FlatCounts) (names : Function → List (List ℕ)) (p q : Program) (ms : List Move) → IsResolvedWith counts p →
      IsRewritten p q ms → notes_of (plain_with names q) ≡ notes_of p
