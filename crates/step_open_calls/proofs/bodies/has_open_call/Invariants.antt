use Rattle.std.proofs.Common.{◌≡◌, drop, map}
use Rattle.step_open_calls.specs.Calls.{any_of, is_open, top_calls}
use Rattle.step_open_calls.proofs.bodies.has_open_call.Given as goal

abbrev pub invariant-loop-top : goal.invariant-loop-top
invariant-loop-top l = any_of (map (top_calls (is_open l.program)) l.program.tops) ≡ any_of
    (map (top_calls (is_open l.program)) (drop l.top-index l.program.tops))
