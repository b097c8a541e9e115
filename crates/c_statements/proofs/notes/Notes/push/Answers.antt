use Rattle.std.proofs.Common.{refl}
use Rattle.std.proofs.lemmas.Result.{on_ok_weaker}
use Rattle.c_statements.proofs.NoteLemmas.{one_more_before, one_more_at_end, one_more_at_section}
use Rattle.c_statements.proofs.notes.Notes.push.Goals as goal

pub returns-in-Before : goal.returns-in-Before
returns-in-Before c = rw c.in-Before.is (on_ok_weaker c.push.result
    (λ e. one_more_before c.args.self.now (record c.args.self.now { before = c.push.new.self }) c.in-Before.token c.args.bytes.now e refl refl refl)
    c.push.ensures)

pub returns-in-AtEnd : goal.returns-in-AtEnd
returns-in-AtEnd c =
    rw c.in-AtEnd.is (on_ok_weaker c.push-in-AtEnd.result (λ e. one_more_at_end c.args.self.now
    (record c.args.self.now { at_end = c.push-in-AtEnd.new.self }) c.in-AtEnd.token c.args.bytes.now refl e refl refl) c.push-in-AtEnd.ensures)

pub returns-in-AtSection : goal.returns-in-AtSection
returns-in-AtSection c =
    rw c.in-AtSection.is
    (on_ok_weaker c.push-in-AtSection.result
    (λ e. one_more_at_section c.args.self.now (record c.args.self.now { at_section = c.push-in-AtSection.new.self }) c.in-AtSection.token
    c.args.bytes.now refl refl e refl) c.push-in-AtSection.ensures)
