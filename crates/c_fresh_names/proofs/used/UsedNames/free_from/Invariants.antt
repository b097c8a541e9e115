use Rattle.std.proofs.Common.{◌≡◌, ◌≤◌, ◌-◌, length}
use Rattle.c_copies.specs.Names.{with_names}
use Rattle.c_fresh_names.specs.Fresh.{first_free}
use Rattle.c_fresh_names.specs.Runs.{AreUsedFrom}
use Rattle.c_fresh_names.proofs.used.UsedNames.free_from.Given as goal

abbrev pub invariant-loop-number : goal.invariant-loop-number
invariant-loop-number l =
    let us = with_names l.self.file l.self.own in
    record {
      first : 2 ≤ l.number;
      within : l.number ≤ l.most;
      used : AreUsedFrom us l.base 2 l.number;
      value : first_free us l.base l.number (l.most - l.number) ≡ first_free us l.base 2 (length us);
    }

abbrev pub decreases-loop-number : goal.decreases-loop-number
decreases-loop-number l = l.most - l.number
