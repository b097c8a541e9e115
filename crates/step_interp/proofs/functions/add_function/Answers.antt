use Rattle.std.proofs.Common.{Some, cond, refl, ap, sym, ◌∙◌}
use Rattle.std.specs.Str.{bytes_eq}
use Rattle.std.proofs.lemmas.Map.Text.{btree_map_updates_str}
use Rattle.step_interp.specs.declared.functions.Functions.{Functions}
use Rattle.step_interp.specs.declared.functions.Routine.{Routine}
use Rattle.step_interp.specs.Functions.{routine_at}
use Rattle.step_interp.proofs.FunctionLemmas.{kept, put}
use Rattle.step_interp.proofs.functions.add_function.Goals as goal

pub returns-then-keeps : goal.returns-then-keeps
returns-then-keeps c tops left h = kept tops left c.args.function.now c.args.functions.now (sym c.keeps.ensures ∙ c.if-keeps.true) h

pub returns : goal.returns
returns c tops left h =
    let g = c.args.function.now in
    let x = c.args.functions.now in
    let r : Routine = record { function = c.args.function; labels = c.in_ok-labels.labels } in
    let y : Functions = record { routines = c.insert.new.self } in
    put tops left g r x y refl (record { named = refl; labels = c.in_ok-labels.ensures }) (sym c.keeps.ensures ∙ c.if-keeps.false)
    (λ m. btree_map_updates_str c.as_str.result.now x.routines c.insert.new.self (Some r) c.in_ok-insert.ensures.updates m ∙
    ap (λ n. cond (bytes_eq n m) (Some r) (routine_at x m)) c.as_str.ensures)
    h
