use Rattle.std.proofs.Common.{sym, ◌∙◌}
use Rattle.move_bodies.proofs.SamePaths.{same_by, same_after}
use Rattle.move_bodies.proofs.lawful.same_path.Goals as goal

pub returns-then-p-q : goal.returns-then-p-q
returns-then-p-q c = (
  λ h. same_by c.args.p.now c.args.q.now c.if-p-q.true (sym c.relation.ensures.value ∙ c.comes_after.ensures.0 h),
  λ e. c.comes_after.ensures.1 (c.relation.ensures.value ∙ same_after c.args.p.now c.args.q.now e),
)
