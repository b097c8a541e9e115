use Rattle.std.proofs.Common.{◌∷◌, ◌≡◌, codes, is_some, sym, subst}
use Rattle.std.proofs.lemmas.Result.{IfOk-weaker}
use Rattle.c_tree.specs.Trees.{trees_of}
use Rattle.jump_meaning.specs.Code.{FunctionTree, function_tree}
use Rattle.jump_meaning.specs.Known.{call_without_body}
use Rattle.jump_meaning.specs.Step.{begin_call}
use Rattle.jump_meaning.specs.World.{World, push}
use Rattle.step_memory.specs.Stores.{names_of}
use Rattle.step_memory.specs.Values.{values_of}
use Rattle.step_tasks.specs.Controls.{body_of, guards_of}
use Rattle.step_tasks.specs.Tasks.{tasks_of}
use Rattle.step_tasks.specs.Labels.{AreLabelsOf}
use Rattle.step_interp.specs.Machines.{HasWorld, IsFunctionOf, frames_of}
use Rattle.step_interp.specs.Moves.{Reaches}
use Rattle.step_interp.specs.Calls.{QuietlyReaches, SettlesQuietly, CallsFunction, IsGetchar, invoked, settled}
use Rattle.step_interp.proofs.InvokeLemmas.{with_body, no_body, is_none}
use Rattle.step_interp.proofs.SettledLemmas.{at_once, reaches_weaker, quietly_weaker}
use Rattle.step_interp.proofs.calling.call_function.Goals as goal

pub returns-then-is_some-clause-ok : goal.returns-then-is_some-clause-ok
returns-then-is_some-clause-ok c =
    let old = c.args.machine.now in
    let f = c.args.function.now in
    let h = function_tree f in
    let vs = values_of (names_of old.store) c.args.arguments in
    let new = c.enter.new.self in
    let R = IsGetchar f.name h in
    IfOk-weaker c.enter.result
    (λ next. IsFunctionOf old.program.now f → AreLabelsOf f c.args.labels.now → (w : World) → HasWorld old w
    → Reaches ⊥ (begin_call f.name (body_of f) (push h vs w) (frames_of (names_of old.store) (old.call ∷ old.waiting)) w) w next new)
    (λ next. IsFunctionOf old.program.now f → AreLabelsOf f c.args.labels.now → CallsFunction f c.args.arguments old next new)
    (λ next k p a w i. at_once R (invoked old f.name h vs w) w next new
    (subst (λ s. Reaches R s w next new)
    (with_body f.body trees_of h f.name vs old.call.function.now.name (guards_of old.call.guards) (tasks_of old.call.tasks)
    (values_of (names_of old.store) old.call.values) (frames_of (names_of old.store) old.waiting) w (sym c.if-is_some.ensures))
    (reaches_weaker ⊥ R (begin_call f.name (body_of f) (push h vs w) (frames_of (names_of old.store) (old.call ∷ old.waiting)) w) w next new
    (λ b. absurd b) (k p a w i))))
    c.enter.ensures.ok

pub returns-clause-ok : goal.returns-clause-ok
returns-clause-ok c =
    let old = c.args.machine.now in
    let f = c.args.function.now in
    let h = function_tree f in
    let vs = values_of (names_of old.store) c.args.arguments in
    let new = c.call_without_body.new.machine in
    IfOk-weaker c.call_without_body.result
    (λ next. (g : FunctionTree) → c.is_some-2.result ≡ is_some g.result →
    SettlesQuietly (f.name ≡ codes "getchar") (call_without_body f.name g vs) old next new)
    (λ next. IsFunctionOf old.program.now f → AreLabelsOf f c.args.labels.now → CallsFunction f c.args.arguments old next new)
    (λ next k p a w i. subst (λ s. QuietlyReaches (IsGetchar f.name h) s w next new)
    (no_body f.body trees_of h f.name vs old.call.function.now.name (guards_of old.call.guards) (tasks_of old.call.tasks)
    (values_of (names_of old.store) old.call.values) (frames_of (names_of old.store) old.waiting) w (sym c.if-is_some.ensures))
    (quietly_weaker (f.name ≡ codes "getchar") (IsGetchar f.name h) (settled old (call_without_body f.name h vs w)) w next new
    (λ e. (e, is_none f.body trees_of (sym c.if-is_some.ensures))) (k h c.is_some-2.ensures w i)))
    c.call_without_body.ensures.ok
