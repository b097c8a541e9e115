use Rattle.std.proofs.Common.{◌≡◌, ◌≤◌, ◌<◌, ℕ, All}
use Rattle.c_grammar.specs.Views.{words_of}
use Rattle.c_statements.specs.declared.anchors.Anchor.{Anchor}
use Rattle.c_comments.specs.Frames.{Speaks}
use Rattle.c_comments.specs.Steps.{rest_place, rest_weight}
use Rattle.c_comments.proofs.frames.descend.Given as goal

abbrev pub invariant-loop-place : goal.invariant-loop-place
invariant-loop-place l =
    let word = words_of l.words in
    record {
      from : l.frame.from ≤ l.fn.token;
      to : l.fn.token < l.frame.to;
      here : rest_place word l.frame.rest l.fn.token ≡ rest_place word l.fn.start.rest l.fn.token;
      frames : (place : ℕ → Anchor) → Speaks word place l.fn.start → All (Speaks word place) l.fn.frames →
          Speaks word place l.frame × All (Speaks word place) l.frames;
    }

abbrev pub decreases-loop-place : goal.decreases-loop-place
decreases-loop-place l = rest_weight l.frame.rest
