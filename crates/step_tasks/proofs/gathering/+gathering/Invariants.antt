use Rattle.std.proofs.Common.{drop}
use Rattle.c_tree.specs.Trees.{trees_of, sections_of}
use Rattle.jump_meaning.specs.Search.{ToLabel, seek, seek_sections}
use Rattle.step_tasks.proofs.LabelLemmas.{LeavesBefore}
use Rattle.step_tasks.proofs.gathering.+gathering.Given as goal

abbrev pub invariant-gather-loop-at : goal.invariant-gather-loop-at
invariant-gather-loop-at l = LeavesBefore l.below (λ k m. seek (ToLabel m) (trees_of l.list) k)
    (λ k m. seek (ToLabel m) (trees_of (drop l.at l.list)) k) l.initial.labels l.labels

abbrev pub invariant-gather_sections-loop-at : goal.invariant-gather_sections-loop-at
invariant-gather_sections-loop-at l = LeavesBefore l.below (λ k m. seek_sections (ToLabel m) (sections_of l.sections) k)
    (λ k m. seek_sections (ToLabel m) (sections_of (drop l.at l.sections)) k) l.initial.labels l.labels
