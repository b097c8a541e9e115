use Rattle.std.proofs.Common.{[], Some, rules, arith, sym, ap, ◌∙◌, unwrap_or}
use Rattle.std.proofs.lemmas.Result.{on_ok_weaker, on_err_weaker}
use Rattle.c_tree.specs.declared.tree.Item.{Leap}
use Rattle.c_tree.specs.Paths.{put_at}
use Rattle.c_tree.specs.Lift.{lifted}
use Rattle.c_tree.proofs.RuleChanges.{stands}
use Rattle.move_list_edits.proofs.PutLemmas.{still_there, put_changed, put_unchanged}
use Rattle.goto_lifting.proofs.LiftLemmas.{leap_within}
use Rattle.goto_lifting.proofs.lifting.lift_in.Goals as goal

pub replace_at-list-requires : goal.replace_at-list-requires
replace_at-list-requires c =
    let there = stands c.args.body.now c.args.steps.now c.args.leap (Leap c.args.found.label) c.requires.leap in
    rw there.list_is (search rules)

pub lift_items-done-requires : goal.lift_items-done-requires
lift_items-done-requires c =
    let f = c.args.found in
    let items = c.into_vec-items.result in
    let within = leap_within f.label c.args.leap f.place c.args.steps.now c.args.body.now items.items c.requires
    (c.replace_at-list.ensures.taken ∙ ap Some (sym c.into_vec-items.ensures.items)) in
    record { order = c.requires.earlier; in_bounds = omega (arith, items.ok.0); bound = c.into_vec-items.ensures.bound }

pub replace_at-empty-requires : goal.replace_at-empty-requires
replace_at-empty-requires c =
    let there = still_there c.args.body.now c.replace_at-list.new.list c.args.steps.now c.replace_at-list.result c.new.result
    c.replace_at-list.ensures.taken c.replace_at-list.ensures.put in
    rw there (search rules)

pub returns-clause-ok : goal.returns-clause-ok
returns-clause-ok c =
    let body = c.args.body.now in
    let steps = c.args.steps.now in
    let f = c.args.found in
    let e = put_changed body c.replace_at-list.new.list c.replace_at-empty.new.list steps c.replace_at-list.result c.new.result c.from_vec.result
    c.replace_at-list.ensures.taken c.replace_at-list.ensures.put c.replace_at-empty.ensures.put in
    on_ok_weaker _ (λ h. e ∙ ap (put_at body steps) (c.from_vec.ensures ∙ h
    ∙ ap (lifted f.label c.args.leap f.place) (c.into_vec-items.ensures.items ∙ sym (ap (λ o. unwrap_or o []) c.replace_at-list.ensures.taken))))
    c.lift_items-done.ensures.ok

pub returns-clause-err : goal.returns-clause-err
returns-clause-err c =
    on_err_weaker _ (λ h. put_unchanged c.args.body.now c.replace_at-list.new.list c.replace_at-empty.new.list c.args.steps.now
    c.replace_at-list.result c.new.result c.from_vec.result
    c.replace_at-list.ensures.taken c.replace_at-list.ensures.put c.replace_at-empty.ensures.put (c.from_vec.ensures ∙ h ∙ c.into_vec-items.ensures.items))
    c.lift_items-done.ensures.err
