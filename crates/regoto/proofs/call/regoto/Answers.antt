use Rattle.regoto.proofs.call.regoto.Goals as goal

pub returns-clause-unknown : goal.returns-clause-unknown
returns-clause-unknown g c = λ e. let done = rw e at c.carry_out.ensures.answers in done

pub returns-clause-restructure : goal.returns-clause-restructure
returns-clause-restructure g c = λ from to report e. let done = rw e at c.carry_out.ensures.answers in (done.0, done.1)

pub returns-clause-complete : goal.returns-clause-complete
returns-clause-complete g c = λ from to report e. let done = rw e at c.carry_out.ensures.answers in done.2

pub returns-clause-wanted : goal.returns-clause-wanted
returns-clause-wanted g c = λ from to report e. let done = rw e at c.carry_out.ensures.answers in done.3

pub returns-clause-replay : goal.returns-clause-replay
returns-clause-replay g c = λ from report to e. let done = rw e at c.carry_out.ensures.answers in (done.0, done.1)

pub returns-clause-complete_replay : goal.returns-clause-complete_replay
returns-clause-complete_replay g c = λ from report to e. let done = rw e at c.carry_out.ensures.answers in done.2

pub returns-clause-tidy : goal.returns-clause-tidy
returns-clause-tidy g c = λ from to e. let done = rw e at c.carry_out.ensures.answers in (done.0, done.1)

pub returns-clause-complete_tidy : goal.returns-clause-complete_tidy
returns-clause-complete_tidy g c = λ from to e. let done = rw e at c.carry_out.ensures.answers in done.2

pub returns-clause-lower : goal.returns-clause-lower
returns-clause-lower g c = λ from to e. let done = rw e at c.carry_out.ensures.answers in (done.0, done.1)

pub returns-clause-complete_lower : goal.returns-clause-complete_lower
returns-clause-complete_lower g c = λ from to e. let done = rw e at c.carry_out.ensures.answers in done.2

pub returns-clause-help : goal.returns-clause-help
returns-clause-help g c = λ e. let done = rw e at c.carry_out.ensures.answers in done

pub returns-clause-show : goal.returns-clause-show
returns-clause-show g c = λ from e. let done = rw e at c.carry_out.ensures.answers in (done.0.0, done.0.1, done.1)

pub returns-clause-complete_show : goal.returns-clause-complete_show
returns-clause-complete_show g c = λ from e. let done = rw e at c.carry_out.ensures.answers in done.2

pub returns-clause-moves : goal.returns-clause-moves
returns-clause-moves g c = λ from e. let done = rw e at c.carry_out.ensures.answers in (done.0.0, done.0.1, done.1)

pub returns-clause-complete_moves : goal.returns-clause-complete_moves
returns-clause-complete_moves g c = λ from e. let done = rw e at c.carry_out.ensures.answers in done.2

pub returns-clause-run : goal.returns-clause-run
returns-clause-run g c = λ from steps e. let done = rw e at c.carry_out.ensures.answers in (done.0.0, done.0.1, done.1)

pub returns-clause-complete_run : goal.returns-clause-complete_run
returns-clause-complete_run g c = λ from steps e. let done = rw e at c.carry_out.ensures.answers in done.2

pub returns-clause-demo : goal.returns-clause-demo
returns-clause-demo g c = λ count e. let done = rw e at c.carry_out.ensures.answers in (done.0, done.1)

pub returns-clause-complete_demo : goal.returns-clause-complete_demo
returns-clause-complete_demo g c = λ count e. let done = rw e at c.carry_out.ensures.answers in done.2
