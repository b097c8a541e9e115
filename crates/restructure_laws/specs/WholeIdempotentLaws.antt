-- What `settled_program_laws` states.
use Rattle.std.specs.Prelude.{◌≡◌, ℕ, true, List, []}
use Rattle.c_tree.specs.declared.tree.Function.{Function}
use Rattle.c_tree.specs.declared.tree.Program.{Program}
use Rattle.c_tree.specs.Jumps.{is_plain_program}
use Rattle.plain_laws.specs.Plain.{plain_with}
use Rattle.c_resolved_laws.specs.Counts.{IsResolved}
use Rattle.report_moves.specs.declared.moves.Move.{Move}
use Rattle.restructure_laws.specs.WholeNamesLaws.{IsRewrittenWithNames}

pub record SettledLaws : Type 0 where
  -- a resolved program is its own plain form: its functions have no guards, and its sections have their ends
  pub plain : (names : Function → List (List ℕ)) (p : Program) → IsResolved p → plain_with names p ≡ p
  -- without jumps it is rewritten to itself alone, by no moves
  pub rewritten : (p q : Program) (ms : List Move) → IsResolved p → is_plain_program p ≡ true → IsRewrittenWithNames p q ms → (q ≡ p) × (ms ≡ [])
