-- What `skeletons_kept`, `guards_few`, `jumps_within_levels` and `sizes_bounded` state.
use Rattle.std.specs.Prelude.{ℕ, List, All}
use Rattle.c_tree.specs.declared.tree.Function.{Function}
use Rattle.c_tree.specs.declared.tree.Program.{Program}
use Rattle.c_resolved_defs.specs.Limits.{FlatCounts}
use Rattle.c_resolved_defs.specs.Resolved.{IsResolvedWith}
use Rattle.plain_laws.specs.Plain.{plain_with}
use Rattle.c_resolved_laws.specs.Counts.{IsResolved}
use Rattle.report_moves.specs.declared.moves.Move.{Move}
use Rattle.whole_laws.specs.Rewritten.{IsRewritten}
use Rattle.whole_laws.specs.WholeLaws.{IsTopNamed}
use Rattle.restructure_laws.specs.EachPlace.{AtEachPlace, AtEachPair}
use Rattle.restructure_laws.specs.Skeletons.{IsKept}
use Rattle.restructure_laws.specs.Guards.{HasFewGuards}
use Rattle.restructure_laws.specs.Sizes.{IsWithinSizes}
use Rattle.restructure_laws.specs.Jumps.{TopsMovedWithin}

-- what a resolved program is rewritten to has the skeletons of the flat forms, and its plain form all else as it was
abbrev pub SkeletonsAreKept : Type 0
SkeletonsAreKept = (counts : FlatCounts) (names : Function → List (List ℕ)) (p q : Program) (ms : List Move) → IsResolvedWith counts p →
    IsRewritten p q ms → AtEachPlace IsKept p.tops q.tops (plain_with names q).tops

-- its plain form has few guards
abbrev pub GuardsAreFew : Type 0
GuardsAreFew =
    (counts : FlatCounts) (names : Function → List (List ℕ)) (p q : Program) (ms : List Move) → IsResolvedWith counts p → IsRewritten p q ms →
    All (IsTopNamed names) q.tops
    → AtEachPlace HasFewGuards p.tops q.tops (plain_with names q).tops

-- the moves of each jump are few, and no list stands much deeper after them; all moves start at the flat forms
abbrev pub JumpsAreWithinLevels : Type 0
JumpsAreWithinLevels = (counts : FlatCounts) (p q : Program) (ms : List Move) → IsResolvedWith counts p → (w : IsRewritten p q ms) →
    TopsMovedWithin w.flat.tops q.tops ms

-- the plain form is not much larger than the source
abbrev pub SizesAreBounded : Type 0
SizesAreBounded =
    (names : Function → List (List ℕ)) (p q : Program) (ms : List Move) → IsResolved p → IsRewritten p q ms → All (IsTopNamed names) q.tops →
    AtEachPair IsWithinSizes p.tops (plain_with names q).tops
