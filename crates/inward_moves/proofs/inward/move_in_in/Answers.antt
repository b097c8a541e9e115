use Rattle.std.proofs.Common.{[], Some, rules, sym, ap, ◌∙◌, unwrap_or}
use Rattle.std.proofs.lemmas.Result.{on_ok_weaker}
use Rattle.c_tree.specs.Paths.{put_at}
use Rattle.c_tree.specs.Inward.{moved_in}
use Rattle.move_list_edits.proofs.PutLemmas.{still_there, put_changed}
use Rattle.inward_moves.proofs.SpotLemmas.{list_of_item}
use Rattle.inward_moves.proofs.inward.move_in_in.Goals as goal

pub move_in_items-done-requires-clause-list : goal.move_in_items-done-requires-clause-list
move_in_items-done-requires-clause-list c =
    let w = c.args.way in
    list_of_item w.label w.number c.args.leap w.place w.branch c.args.steps.now c.args.body.now c.into_vec-items.result.items c.requires
    (c.replace_at-list.ensures.taken ∙ ap Some (sym c.into_vec-items.ensures.items))

pub replace_at-empty-requires : goal.replace_at-empty-requires
replace_at-empty-requires c =
    let there = still_there c.args.body.now c.replace_at-list.new.list c.args.steps.now c.replace_at-list.result c.new.result
    c.replace_at-list.ensures.taken c.replace_at-list.ensures.put in
    rw there (search rules)

pub returns-clause-ok : goal.returns-clause-ok
returns-clause-ok c =
    let body = c.args.body.now in
    let steps = c.args.steps.now in
    let w = c.args.way in
    let e = put_changed body c.replace_at-list.new.list c.replace_at-empty.new.list steps c.replace_at-list.result c.new.result c.from_vec.result
    c.replace_at-list.ensures.taken c.replace_at-list.ensures.put c.replace_at-empty.ensures.put in
    on_ok_weaker _ (λ h. e ∙ ap (put_at body steps) (c.from_vec.ensures ∙ h
    ∙ ap (moved_in w.label w.number c.args.leap w.place w.branch)
    (c.into_vec-items.ensures.items ∙ sym (ap (λ o. unwrap_or o []) c.replace_at-list.ensures.taken))))
    c.move_in_items-done.ensures.ok
