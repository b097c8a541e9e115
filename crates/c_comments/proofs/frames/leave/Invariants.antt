use Rattle.std.proofs.Common.{◌≡◌, length}
use Rattle.c_comments.specs.Frames.{holding}
use Rattle.c_comments.proofs.frames.leave.Given as goal

abbrev pub invariant-loop-frame : goal.invariant-loop-frame
invariant-loop-frame l = holding l.fn.token l.frames ≡ holding l.fn.token l.fn.frames

abbrev pub decreases-loop-frame : goal.decreases-loop-frame
decreases-loop-frame l = length l.frames
