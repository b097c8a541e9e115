use Rattle.std.proofs.Common.{slice_set, sym, ap, ◌∙◌, subst}
use Rattle.std.proofs.lemmas.Result.{on_ok_weaker, on_err_weaker}
use Rattle.c_tree.proofs.PathLemmas.{set_same}
use Rattle.jump_meaning.specs.World.{with_zeros}
use Rattle.step_memory.proofs.StoreLemmas.{Changes, change_file, change_slot, clears_in}
use Rattle.step_memory.proofs.store.Store.clear.Goals as goal

pub returns-in-File-clause-ok : goal.returns-in-File-clause-ok
returns-in-File-clause-ok c =
    on_ok_weaker c.clear_in.result
    (λ b. clears_in c.args.self.now _ c.args.slot c.args.from c.in_ok-owner.owner c.in_ok-owner.ensures
    (subst (λ o. Changes (with_zeros c.args.from) o c.args.self.now (record c.args.self.now { file = c.clear_in.new.rooms })) (sym c.in-File.is)
    (change_file c.args.self.now c.in-File.place (with_zeros c.args.from) c.clear_in.new.rooms b)))
    c.clear_in.ensures.ok

pub returns-else-call-len-clause-ok : goal.returns-else-call-len-clause-ok
returns-else-call-len-clause-ok c =
    on_ok_weaker c.clear.result
    (λ b. clears_in c.args.self.now _ c.args.slot c.args.from c.in_ok-owner.owner c.in_ok-owner.ensures
    (subst (λ o. Changes (with_zeros c.args.from) o c.args.self.now
    (record c.args.self.now { calls = slice_set c.args.self.now.calls c.in-Call.call c.clear.new.self })) (sym c.in-Call.is)
    (change_slot c.args.self.now c.in-Call.call c.in-Call.slot (with_zeros c.args.from) c.at_mut.result.now c.clear.new.self c.at_mut.ensures.value b)))
    c.clear.ensures.ok

pub returns-else-call-len-clause-err : goal.returns-else-call-len-clause-err
returns-else-call-len-clause-err c =
    on_err_weaker c.clear.result
    (λ e. ap (λ rs. record c.args.self.now { calls = slice_set c.args.self.now.calls c.in-Call.call rs }) e ∙
    ap (λ cs. record c.args.self.now { calls = cs }) (set_same c.args.self.now.calls c.in-Call.call c.at_mut.result.now c.at_mut.ensures.value))
    c.clear.ensures.err
