use Rattle.std.proofs.Common.{◌≤◌, ◌-◌, drop, length}
use Rattle.c_grammar.specs.Views.{words_of}
use Rattle.c_comments.specs.NodeViews.{tops_in}
use Rattle.c_comments.specs.Notes.{place_in}
use Rattle.c_comments.specs.Steps.{Behind}
use Rattle.c_comments.proofs.files.pass_tops.Given as goal

abbrev pub invariant-loop-i : goal.invariant-loop-i
invariant-loop-i l = record {
  within : l.i ≤ length l.tops;
  rest : Behind (place_in (tops_in (words_of l.words) (drop l.i l.tops))) (place_in (tops_in (words_of l.words) l.tops)) l.fn.token;
}

abbrev pub decreases-loop-i : goal.decreases-loop-i
decreases-loop-i l = length l.tops - l.i
