-- What a restructured program keeps of its source, and its bounds.
use Rattle.std.proofs.Common.{ℕ, List, All, sym, subst}
use Rattle.std.proofs.lemmas.List.Elements.{All-from_recursion}
use Rattle.c_copies.specs.Names.{names, file_names}
use Rattle.c_tree.specs.declared.tree.Function.{Function}
use Rattle.c_tree.specs.declared.tree.Program.{Program}
use Rattle.guard_vars.specs.GuardNames.{guard_names}
use Rattle.report_moves.specs.declared.moves.Move.{Move}
use Rattle.restructure_laws.proofs.NamedTops.{named_program_laws}
use Rattle.whole_laws.proofs.NamedForm.{tops_named}
use Rattle.c_resolved_laws.specs.Counts.{flat_counts, IsResolved}
use Rattle.restructure_laws.specs.EachPlace.{AtEachPlace, AtEachPair}
use Rattle.restructure_laws.specs.Skeletons.{IsKept}
use Rattle.restructure_laws.specs.Guards.{HasFewGuards}
use Rattle.restructure_laws.specs.Sizes.{IsWithinSizes}
use Rattle.restructure_laws.proofs.Kept.{skeletons_are_kept}
use Rattle.restructure_laws.proofs.FewGuards.{guards_are_few}
use Rattle.restructure_laws.proofs.Levels.{jumps_are_within_levels}
use Rattle.restructure_laws.proofs.Sizes.{sizes_are_bounded}
use Rattle.whole_laws.specs.WholeLaws.{IsTopNamed}
use Rattle.whole_laws.specs.Rewritten.{IsRewritten}
use Rattle.move_driver.specs.declared.counts.Counts.{Counts}
use Rattle.move_driver.specs.Restructured.{IsRestructured}
use Rattle.move_driver.specs.Kept.{KeepsSkeletons, DeclaresFewGuards, IsMovedWithinLevels, StaysWithinSizes}

abbrev given : Program → Function → List (List ℕ)
given p = guard_names (names p)

abbrev rewritten : (p q : Program) (ms : List Move) (counts : Counts) → IsResolved p → (w : IsRestructured p q ms counts) → IsRewritten p w.moved ms
rewritten p q ms counts r w = record {
  flat = w.rewritten.flat;
  flattened = named_program_laws.flat (names p) (file_names p) flat_counts p w.rewritten.flat.tops r w.rewritten.flattened;
  moved = w.rewritten.moved;
}

named : (p q : Program) → All (IsTopNamed (given p)) q.tops
named p q = All-from_recursion (IsTopNamed (given p)) q.tops (tops_named p q.tops)

pub skeletons : (p q : Program) (ms : List Move) → IsResolved p → KeepsSkeletons p q ms
skeletons p q ms r = λ counts w. subst (λ (z : Program). AtEachPlace IsKept p.tops w.moved.tops z.tops) (sym w.result)
    (skeletons_are_kept flat_counts (given p) p w.moved ms r (rewritten p q ms counts r w))

pub guards : (p q : Program) (ms : List Move) → IsResolved p → DeclaresFewGuards p q ms
guards p q ms r = λ counts w. subst (λ (z : Program). AtEachPlace HasFewGuards p.tops w.moved.tops z.tops) (sym w.result)
    (guards_are_few flat_counts (given p) p w.moved ms r (rewritten p q ms counts r w) (named p w.moved))

pub levels : (p q : Program) (ms : List Move) → IsResolved p → IsMovedWithinLevels p q ms
levels p q ms r = λ counts w. jumps_are_within_levels flat_counts p w.moved ms r (rewritten p q ms counts r w)

pub sizes : (p q : Program) (ms : List Move) (counts : Counts) → IsResolved p → IsRestructured p q ms counts → StaysWithinSizes p q
sizes p q ms counts r w = subst (λ (z : Program). AtEachPair IsWithinSizes p.tops z.tops) (sym w.result)
    (sizes_are_bounded (given p) p w.moved ms r (rewritten p q ms counts r w) (named p w.moved))
