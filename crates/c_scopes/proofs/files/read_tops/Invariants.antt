use Rattle.std.proofs.Common.{◌≡◌, ◌++◌, length}
use Rattle.c_grammar.specs.Views.{words_of}
use Rattle.c_scopes.specs.Files.{tops_of, file_faults}
use Rattle.c_scopes.specs.FileViews.{file_of, state_of}
use Rattle.c_comments.specs.NodeViews.{tops_in}
use Rattle.c_scopes.proofs.files.read_tops.Given as goal

abbrev pub invariant-loop-x : goal.invariant-loop-x
invariant-loop-x g l =
    let file = file_of (g.C.FlatCounter.flat l.counter) l.file in
    let word = words_of l.file.outside.words in
    record {
      tops : l.out ++ tops_of file (tops_in word l.left) (state_of l.state l.before) ≡ tops_of file (tops_in word l.fn.nodes)
          (state_of l.initial.state l.initial.before);
      faults : file_faults file (tops_in word l.left) (state_of l.state l.before) l.state.faults ≡ file_faults file (tops_in word l.fn.nodes)
          (state_of l.initial.state l.initial.before) l.initial.state.faults;
    }

abbrev pub decreases-loop-x : goal.decreases-loop-x
decreases-loop-x g l = length l.left
