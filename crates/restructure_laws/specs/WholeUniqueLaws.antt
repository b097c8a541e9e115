-- What `one_rewriting_laws` states.
use Rattle.std.specs.Prelude.{◌≡◌, ℕ, List}
use Rattle.c_tree.specs.declared.tree.Item.{Item}
use Rattle.c_tree.specs.declared.tree.Top.{Top}
use Rattle.c_tree.specs.declared.tree.Program.{Program}
use Rattle.c_tree.specs.Trees.{trees_of}
use Rattle.guard_simplify.specs.declared.choice.Choice.{Choice}
use Rattle.guard_simplify.specs.Application.{Reaches, IsSimple}
use Rattle.report_moves.specs.declared.moves.Move.{Move}
use Rattle.c_resolved_laws.specs.Counts.{IsResolved}
use Rattle.restructure_laws.specs.Flattened.{FlattenedTops}
use Rattle.restructure_laws.specs.WholeNamesLaws.{IsRewrittenWithNames}

pub record OneRewritingLaws : Type 0 where
  -- lists of items with the same trees are the same
  pub items : (xs ys : List Item) → trees_of xs ≡ trees_of ys → xs ≡ ys
  -- with given names, what a program is flattened to is one
  pub flat : (names file : List (List ℕ)) (ts us vs : List Top) → FlattenedTops names file ts us → FlattenedTops names file ts vs → us ≡ vs
  -- a body is simplified to one body, by one list of simplifications
  pub simple : (old a b : List Item) (cs ds : List Choice) → Reaches old cs a → Reaches old ds b → IsSimple a → IsSimple b → (cs ≡ ds) × (a ≡ b)
  -- so a resolved program is rewritten to one program, by one list of moves
  pub rewritten : (p q r : Program) (ms ns : List Move) → IsResolved p → IsRewrittenWithNames p q ms → IsRewrittenWithNames p r ns → (q ≡ r) × (ms ≡ ns)
