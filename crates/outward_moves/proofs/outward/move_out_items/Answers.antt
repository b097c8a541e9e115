use Rattle.std.proofs.Common.{slice_get, ap, ◌∙◌}
use Rattle.c_tree.specs.Outward.{moved_out, HasBranch}
use Rattle.c_tree.proofs.RuleChanges.{held_some}
use Rattle.outward_moves.proofs.OutLemmas.{moved_out-is}
use Rattle.outward_moves.proofs.outward.move_out_items.Goals as goal

pub returns-clause-ok : goal.returns-clause-ok
returns-clause-ok c =
    let a = c.args in
    let old = a.items.now.items in
    let now = c.reserve_exact.new.self.items in
    let x = held_some (HasBranch a.branch) (slice_get old a.at) c.requires.branch in
    let same = c.in_ok-reserve_exact.ensures.items in
    c.insert_at.ensures.items
    ∙ moved_out-is a.label a.at a.branch a.leap now c.leave_at.new.items.items x.0 (ap (λ xs. slice_get xs a.at) same ∙ x.1) c.in_ok-leave_at.ensures.ok
    ∙ ap (moved_out a.label a.at a.branch a.leap) same
