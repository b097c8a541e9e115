-- The tasks of the sections of a switch.
use Rattle.std.proofs.Common.{List, ◌∷◌, ◌≡◌, ap, ◌∙◌}
use Rattle.c_tree.specs.declared.tree.Section as Real
use Rattle.c_tree.specs.Trees.{trees_of, sections_of}
use Rattle.c_tree.proofs.TreeLaws.{sections-more, section-parts}
use Rattle.jump_meaning.specs.Tasks.{Task, items, end_of, tail_tasks}

-- the items of the first section, its end, and the later sections
pub opened : (c : Real.Section) (cs : List Real.Section) (k : List Task) →
    let o = Real.out-Section c in tail_tasks (sections_of (c ∷ cs)) k ≡ items (trees_of o.list) (end_of o.ends (tail_tasks (sections_of cs) k))
opened c cs k =
    ap (λ s. tail_tasks s k) (sections-more c cs)
    ∙ ap (λ s. items s.list (end_of s.ends (tail_tasks (sections_of cs) k))) (section-parts c)
