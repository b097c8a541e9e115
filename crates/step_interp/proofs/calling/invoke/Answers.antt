use Rattle.std.proofs.Common.{◌≡◌, codes, false, is_some, refl, ap, ◌∙◌}
use Rattle.std.proofs.lemmas.Result.{IfOk-weaker}
use Rattle.jump_meaning.specs.Calls.{arguments_taken, without_last}
use Rattle.jump_meaning.specs.Code.{FunctionTree, code_of, function_named, function_tree, undeclared}
use Rattle.jump_meaning.specs.Known.{call_without_body}
use Rattle.step_memory.specs.Stores.{names_of}
use Rattle.step_memory.specs.Values.{values_of}
use Rattle.step_tasks.specs.Controls.{guards_of}
use Rattle.step_tasks.specs.Tasks.{tasks_of}
use Rattle.step_tasks.specs.Labels.{AreLabelsOf}
use Rattle.step_interp.specs.Machines.{IsFunctionOf, frames_of}
use Rattle.step_interp.specs.Calls.{SettlesQuietly, Called, CallsFunction, IsGetchar, settled}
use Rattle.step_interp.proofs.InvokeLemmas.{with_function}
use Rattle.step_interp.proofs.SettledLemmas.{quietly_weaker}
use Rattle.step_interp.proofs.calling.invoke.Goals as goal

pub returns-in-Some-clause-ok : goal.returns-in-Some-clause-ok
returns-in-Some-clause-ok c =
    let old = c.args.machine.now in
    let mid = record old { spare_values = c.replace-spare.new.dest; call = record old.call { values = c.take_arguments.new.values } } in
    let ns = names_of old.store in
    let n = c.args.name.now in
    let f = c.in-Some.routine.now.function.now in
    let vs = values_of ns old.call.values in
    let new = c.call_function.new.machine in
    IfOk-weaker c.call_function.result (λ next. IsFunctionOf old.program.now f → AreLabelsOf f c.in-Some.routine.now.labels →
    CallsFunction f c.in_ok-arguments.arguments mid next new) (λ next. Called n c.args.count old next new)
    (λ next k w h. let r = c.in-Some.ensures old.program.now h.linked in
    with_function (code_of old.program.now) f.name n (function_tree f) (arguments_taken c.args.count vs) (values_of ns c.in_ok-arguments.arguments)
    (values_of ns c.take_arguments.new.values) (without_last c.args.count vs)
    old.call.function.now.name (guards_of old.call.guards) (tasks_of old.call.tasks) (frames_of ns old.waiting) w next new
    r.1.named r.0 (c.in_ok-arguments.ensures.taken ns) (c.in_ok-arguments.ensures.left ns)
    (k (ap (λ m. function_named m old.program.now.tops) r.1.named ∙ r.0) r.1.labels w
    (record { holds = h.holds; cells = h.cells; answers = h.answers; linked = h.linked; called = h.called; waiting = h.waiting })))
    c.call_function.ensures.ok

pub returns-in-None-clause-ok : goal.returns-in-None-clause-ok
returns-in-None-clause-ok c =
    let old = c.args.machine.now in
    let mid = record old { spare_values = c.replace-spare.new.dest; call = record old.call { values = c.take_arguments.new.values } } in
    let ns = names_of old.store in
    let n = c.args.name.now in
    let vs = values_of ns old.call.values in
    let given = values_of ns c.in_ok-arguments.arguments in
    let new = c.call_without_body.new.machine in
    IfOk-weaker c.call_without_body.result
    (λ next. (f : FunctionTree) → false ≡ is_some f.result → SettlesQuietly (n ≡ codes "getchar") (call_without_body n f given) mid next new)
    (λ next. Called n c.args.count old next new)
    (λ next k w h. with_function (code_of old.program.now) n n undeclared (arguments_taken c.args.count vs) given
    (values_of ns c.take_arguments.new.values) (without_last c.args.count vs)
    old.call.function.now.name (guards_of old.call.guards) (tasks_of old.call.tasks) (frames_of ns old.waiting) w next new
    refl (c.in-None.ensures old.program.now h.linked) (c.in_ok-arguments.ensures.taken ns) (c.in_ok-arguments.ensures.left ns)
    (quietly_weaker (n ≡ codes "getchar") (IsGetchar n undeclared) (settled mid (call_without_body n undeclared given w)) w next new (λ e. (e, refl))
    (k undeclared refl w (record { holds = h.holds; cells = h.cells; answers = h.answers; linked = h.linked; called = h.called; waiting = h.waiting }))))
    c.call_without_body.ensures.ok
