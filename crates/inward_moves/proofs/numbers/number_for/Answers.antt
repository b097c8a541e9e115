use Rattle.std.proofs.Common.{ap, subst, ◌∙◌}
use Rattle.c_tree.specs.Trees.{tree_of}
use Rattle.c_tree.specs.WellMade.{HasSelectorKind, HasCases}
use Rattle.c_tree.proofs.TreeLaws.{tree-Switch}
use Rattle.inward_moves.proofs.WayLemmas.{other_branch, other_item}
use Rattle.inward_moves.proofs.numbers.number_for.Goals as goal

pub switch_number-requires-clause-kind : goal.switch_number-requires-clause-kind
switch_number-requires-clause-kind c = subst HasSelectorKind (ap tree_of c.in-Switch.is ∙ tree-Switch c.in-Switch.selector c.in-Switch.sections) c.requires.kind

pub switch_number-requires-clause-cases : goal.switch_number-requires-clause-cases
switch_number-requires-clause-cases c = rw c.as_slice.ensures.value
    (subst HasCases (ap tree_of c.in-Switch.is ∙ tree-Switch c.in-Switch.selector c.in-Switch.sections) c.requires.cases)

pub returns-in-Switch : goal.returns-in-Switch
returns-in-Switch c =
    let k = c.in-Section.k in
    let item = ap tree_of c.in-Switch.is ∙ tree-Switch c.in-Switch.selector c.in-Switch.sections in
    rw (c.in-Section.is, item, ← c.as_slice.ensures.value) c.switch_number.ensures

pub returns-in_default-item : goal.returns-in_default-item
returns-in_default-item c = rw c.in-Section.is (other_item c.in-Section.k _ c.args.item.now c.in_default-item.not-Switch)

pub returns-in_default : goal.returns-in_default
returns-in_default c = other_branch c.args.branch _ c.args.item.now c.in_default.not-Section
