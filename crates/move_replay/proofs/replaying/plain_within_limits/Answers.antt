use Rattle.std.proofs.Common.{sym, subst, ◌∙◌, true≢false}
use Rattle.print_limits.specs.Limits.{IsWithinLimits}
use Rattle.move_replay.proofs.replaying.plain_within_limits.Goals as goal

pub returns-then-is_within_limits-clause-ok : goal.returns-then-is_within_limits-clause-ok
returns-then-is_within_limits-clause-ok c = record {
  result = c.in_ok-plain.ensures.value;
  within = c.is_within_limits.ensures.0 c.if-is_within_limits.true;
  counted = c.count-counts.ensures c.args.program c.in_ok-before.ensures;
}

pub returns-clause-deep : goal.returns-clause-deep
returns-clause-deep c =
    λ refusal e w. true≢false (sym (c.is_within_limits.ensures.1 (subst IsWithinLimits (sym c.in_ok-plain.ensures.value) w)) ∙ c.if-is_within_limits.false)
