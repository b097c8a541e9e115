use Rattle.std.proofs.Common.{rules, sym, ap, ◌∙◌}
use Rattle.std.proofs.lemmas.Result.{on_ok_weaker}
use Rattle.c_tree.specs.Paths.{list_at, put_at}
use Rattle.move_list_edits.proofs.PutLemmas.{still_there, put_changed}
use Rattle.guard_edits.proofs.Chosen.{may_edit, within_list, list_there}
use Rattle.guard_edits.proofs.apply.edit_at.Goals as goal

pub replace_at-list-requires : goal.replace_at-list-requires
replace_at-list-requires c = rw c.as_slice-steps.ensures.value (list_there c.args.body.now c.args.choice.now c.requires.applies)

pub edit-done-requires-clause-within : goal.edit-done-requires-clause-within
edit-done-requires-clause-within c =
    within_list c.args.body.now c.replace_at-list.result c.args.choice.now c.requires.applies
    (ap (list_at c.args.body.now) (sym c.as_slice-steps.ensures.value) ∙ c.replace_at-list.ensures.taken)

pub replace_at-empty-requires : goal.replace_at-empty-requires
replace_at-empty-requires c =
    let there = still_there c.args.body.now c.replace_at-list.new.list c.as_slice-steps.result.now c.replace_at-list.result c.new.result
    c.replace_at-list.ensures.taken c.replace_at-list.ensures.put in
    rw there (search rules)

pub edit-done-requires-clause-may : goal.edit-done-requires-clause-may
edit-done-requires-clause-may c = may_edit c.args.body.now c.replace_at-list.result c.args.choice.now c.requires.applies c.requires.not_guard
    (ap (list_at c.args.body.now) (sym c.as_slice-steps.ensures.value) ∙ c.replace_at-list.ensures.taken)

pub returns-clause-ok : goal.returns-clause-ok
returns-clause-ok c =
    let body = c.args.body.now in
    let same = c.as_slice-steps.ensures.value in
    let other = c.edit-done.new.list in
    on_ok_weaker c.edit-done.result (λ h. record {
      list = c.replace_at-list.result;
      other = other;
      list_is = ap (list_at body) (sym same) ∙ c.replace_at-list.ensures.taken;
      put = put_changed body c.replace_at-list.new.list c.replace_at-empty.new.list c.as_slice-steps.result.now c.replace_at-list.result c.new.result other
          c.replace_at-list.ensures.taken c.replace_at-list.ensures.put c.replace_at-empty.ensures.put ∙ ap (λ s. put_at body s other) same;
      trees = h;
    }) c.edit-done.ensures.ok
