use Rattle.std.proofs.Common.{slice_set, sym, ap, ◌∙◌, subst}
use Rattle.std.proofs.lemmas.Result.{on_ok_weaker, on_err_weaker}
use Rattle.std.specs.Int.{w128}
use Rattle.std.proofs.lemmas.Int.{to_z-of_z}
use Rattle.c_tree.proofs.PathLemmas.{set_same}
use Rattle.jump_meaning.specs.World.{with_number}
use Rattle.step_memory.specs.Rooms.{BecomesAt}
use Rattle.step_memory.proofs.StoreLemmas.{Changes, change_file, change_slot}
use Rattle.step_memory.proofs.store.Store.set.Goals as goal

pub returns-in-File-clause-ok : goal.returns-in-File-clause-ok
returns-in-File-clause-ok c =
    on_ok_weaker c.set_in.result
    (λ b0. let b = subst (λ z. BecomesAt (with_number c.args.at z) c.in-File.place c.args.self.now.file c.set_in.new.rooms)
    (to_z-of_z w128 c.args.value c.ranges.value) b0 in
    subst (λ o. Changes (with_number c.args.at c.args.value) o c.args.self.now (record c.args.self.now { file = c.set_in.new.rooms }))
    (sym c.in-File.is) (change_file c.args.self.now c.in-File.place (with_number c.args.at c.args.value) c.set_in.new.rooms b))
    c.set_in.ensures.ok

pub returns-else-call-len-clause-ok : goal.returns-else-call-len-clause-ok
returns-else-call-len-clause-ok c =
    on_ok_weaker c.set.result
    (λ b0. let b = subst (λ z. BecomesAt (with_number c.args.at z) c.in-Call.slot c.at_mut.result.now c.set.new.self)
    (to_z-of_z w128 c.args.value c.ranges.value) b0 in
    subst (λ o. Changes (with_number c.args.at c.args.value) o c.args.self.now
    (record c.args.self.now { calls = slice_set c.args.self.now.calls c.in-Call.call c.set.new.self })) (sym c.in-Call.is)
    (change_slot c.args.self.now c.in-Call.call c.in-Call.slot (with_number c.args.at c.args.value) c.at_mut.result.now c.set.new.self
    c.at_mut.ensures.value b))
    c.set.ensures.ok

pub returns-else-call-len-clause-err : goal.returns-else-call-len-clause-err
returns-else-call-len-clause-err c =
    on_err_weaker c.set.result
    (λ e. ap (λ rs. record c.args.self.now { calls = slice_set c.args.self.now.calls c.in-Call.call rs }) e ∙
    ap (λ cs. record c.args.self.now { calls = cs }) (set_same c.args.self.now.calls c.in-Call.call c.at_mut.result.now c.at_mut.ensures.value))
    c.set.ensures.err
