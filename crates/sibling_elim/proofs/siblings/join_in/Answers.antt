use Rattle.std.proofs.Common.{[], Some, rules, arith, sym, ap, ◌∙◌, unwrap_or}
use Rattle.std.proofs.lemmas.Result.{on_ok_weaker, on_err_weaker}
use Rattle.c_tree.specs.declared.tree.Item.{Leap}
use Rattle.c_tree.specs.Paths.{put_at}
use Rattle.c_tree.specs.Join.{joined}
use Rattle.c_tree.proofs.RuleChanges.{stands}
use Rattle.move_list_edits.proofs.PutLemmas.{still_there, put_changed, put_unchanged}
use Rattle.sibling_elim.proofs.PairLemmas.{taken}
use Rattle.sibling_elim.proofs.siblings.join_in.Goals as goal

pub replace_at-list-requires : goal.replace_at-list-requires
replace_at-list-requires c =
    let there = stands c.args.body.now c.args.steps.now c.args.leap (Leap c.args.pair.label) c.requires.leap in
    rw there.list_is (search rules)

pub join_items-done-requires : goal.join_items-done-requires
join_items-done-requires c =
    let p = c.args.pair in
    let items = c.into_vec-items.result in
    let in_list = taken p.label c.args.leap p.land c.args.steps.now c.args.body.now items.items c.requires
    (c.replace_at-list.ensures.taken ∙ ap Some (sym c.into_vec-items.ensures.items)) in
    record { leap_in = omega (arith, items.ok.0); land_in = omega (arith, items.ok.0); differ = in_list.differ; bound = c.into_vec-items.ensures.bound }

pub replace_at-empty-requires : goal.replace_at-empty-requires
replace_at-empty-requires c =
    let there = still_there c.args.body.now c.replace_at-list.new.list c.args.steps.now c.replace_at-list.result c.new.result
    c.replace_at-list.ensures.taken c.replace_at-list.ensures.put in
    rw there (search rules)

pub returns-clause-ok : goal.returns-clause-ok
returns-clause-ok c =
    let body = c.args.body.now in
    let steps = c.args.steps.now in
    let list = c.replace_at-list.result in
    let e = put_changed body c.replace_at-list.new.list c.replace_at-empty.new.list steps list c.new.result c.from_vec.result
    c.replace_at-list.ensures.taken c.replace_at-list.ensures.put c.replace_at-empty.ensures.put in
    on_ok_weaker _ (λ h. e ∙ ap (put_at body steps) (c.from_vec.ensures ∙ h
    ∙ ap (joined c.args.pair.label c.args.leap c.args.pair.land)
    (c.into_vec-items.ensures.items ∙ sym (ap (λ o. unwrap_or o []) c.replace_at-list.ensures.taken))))
    c.join_items-done.ensures.ok

pub returns-clause-err : goal.returns-clause-err
returns-clause-err c =
    on_err_weaker _ (λ h. put_unchanged c.args.body.now c.replace_at-list.new.list c.replace_at-empty.new.list c.args.steps.now
    c.replace_at-list.result c.new.result c.from_vec.result
    c.replace_at-list.ensures.taken c.replace_at-list.ensures.put c.replace_at-empty.ensures.put (c.from_vec.ensures ∙ h ∙ c.into_vec-items.ensures.items))
    c.join_items-done.ensures.err
