use Rattle.std.proofs.Common.{[], Some, rules, sym, ap, ◌∙◌, unwrap_or}
use Rattle.std.proofs.lemmas.Result.{on_ok_weaker, on_err_weaker}
use Rattle.c_tree.specs.Paths.{put_at}
use Rattle.c_tree.specs.Outward.{moved_out}
use Rattle.move_list_edits.proofs.PutLemmas.{still_there, put_changed, put_unchanged}
use Rattle.outward_moves.proofs.OutLemmas.{leap_in_construct}
use Rattle.outward_moves.proofs.outward.move_out_in.Goals as goal

pub move_out_items-done-requires-clause-in_bounds : goal.move_out_items-done-requires-clause-in_bounds
move_out_items-done-requires-clause-in_bounds c =
    leap_in_construct c.args.label c.args.outer.now c.args.last c.args.leap c.args.body.now c.into_vec-items.result.items c.requires
    (c.replace_at-list.ensures.taken ∙ ap Some (sym c.into_vec-items.ensures.items))

pub replace_at-empty-requires : goal.replace_at-empty-requires
replace_at-empty-requires c =
    let there = still_there c.args.body.now c.replace_at-list.new.list c.args.outer.now c.replace_at-list.result c.new.result
    c.replace_at-list.ensures.taken c.replace_at-list.ensures.put in
    rw there (search rules)

pub returns-clause-ok : goal.returns-clause-ok
returns-clause-ok c =
    let body = c.args.body.now in
    let outer = c.args.outer.now in
    let last = c.args.last in
    let e = put_changed body c.replace_at-list.new.list c.replace_at-empty.new.list outer c.replace_at-list.result c.new.result c.from_vec.result
    c.replace_at-list.ensures.taken c.replace_at-list.ensures.put c.replace_at-empty.ensures.put in
    on_ok_weaker _ (λ h. e ∙ ap (put_at body outer) (c.from_vec.ensures ∙ h
    ∙ ap (moved_out c.args.label last.item last.branch c.args.leap)
    (c.into_vec-items.ensures.items ∙ sym (ap (λ o. unwrap_or o []) c.replace_at-list.ensures.taken))))
    c.move_out_items-done.ensures.ok

pub returns-clause-err : goal.returns-clause-err
returns-clause-err c =
    on_err_weaker _ (λ h. put_unchanged c.args.body.now c.replace_at-list.new.list c.replace_at-empty.new.list c.args.outer.now
    c.replace_at-list.result c.new.result c.from_vec.result
    c.replace_at-list.ensures.taken c.replace_at-list.ensures.put c.replace_at-empty.ensures.put (c.from_vec.ensures ∙ h ∙ c.into_vec-items.ensures.items))
    c.move_out_items-done.ensures.err
