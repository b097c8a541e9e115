-- What `plain_form_is_resolved` states.
use Rattle.std.specs.Prelude.{ℕ, ◌≡◌, true, List, All}
use Rattle.c_tree.specs.declared.tree.Function.{Function}
use Rattle.c_tree.specs.declared.tree.Top.{Top}
use Rattle.c_tree.specs.declared.tree.Top.TheVariants as T
use Rattle.c_tree.specs.declared.tree.Program.{Program}
use Rattle.plain_laws.specs.Plain.{plain_function, plain_with}
use Rattle.c_resolved_laws.specs.Counts.{IsResolved}
use Rattle.report_moves.specs.declared.moves.Move.{Move}
use Rattle.whole_laws.specs.Rewritten.{IsRewritten}
use Rattle.whole_laws.specs.WholeLaws.{IsTopNamed}
use Rattle.whole_laws.specs.Names.{HasOwnNames}

-- in the plain form of a flat function each variable has a name of its own, in the file with these tops
abbrev pub IsTopOwn : List Top → (Function → List (List ℕ)) → Top → Type 0
IsTopOwn ts names (T.Function g) = g.flat ≡ true → HasOwnNames ts (plain_function (names g) g)
IsTopOwn ts names _ = Unit {0}

-- the plain form of what a resolved program is rewritten to is resolved
abbrev pub PlainFormIsResolved : Type 0
PlainFormIsResolved =
    (names : Function → List (List ℕ)) (p q : Program) (ms : List Move) → IsResolved p → IsRewritten p q ms → All (IsTopNamed names) q.tops →
    All (IsTopOwn p.tops names) q.tops → IsResolved (plain_with names q)
