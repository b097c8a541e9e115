use Rattle.std.proofs.Common.{slice_get, ap, subst, ◌∙◌}
use Rattle.std.proofs.lemmas.Option.{slice_get_within}
use Rattle.c_tree.specs.Join.{Holds}
use Rattle.c_tree.specs.Outward.{HasBranch}
use Rattle.inward_moves.proofs.SpotLemmas.{spot-is, item_there, item_read, moved_in-is}
use Rattle.inward_moves.proofs.inward.move_in_items.Goals as goal

pub enter_at-requires-clause-branch : goal.enter_at-requires-clause-branch
enter_at-requires-clause-branch c =
    let w = c.args.way in
    let i = c.args.leap in
    let old = c.args.items.now.items in
    let x = c.index.result.now in
    let e = item_read old w.place x (HasBranch w.branch) c.requires.branch c.index.ensures in
    let spot = c.place_after-after.ensures ∙ spot-is w.label i w.place old c.requires.order (slice_get_within old w.place x e) in
    let there = ap (λ a. slice_get a c.place_after-after.result) c.in_ok-guard_between.ensures.ok ∙
    item_there w.label i w.place old x c.requires.order e c.place_after-after.result spot in
    rw there (subst (Holds (HasBranch w.branch)) e c.requires.branch)

pub enter_at-requires-clause-room : goal.enter_at-requires-clause-room
enter_at-requires-clause-room c =
    let w = c.args.way in
    let i = c.args.leap in
    let old = c.args.items.now.items in
    let x = c.index.result.now in
    let e = item_read old w.place x (HasBranch w.branch) c.requires.branch c.index.ensures in
    let spot = c.place_after-after.ensures ∙ spot-is w.label i w.place old c.requires.order (slice_get_within old w.place x e) in
    let there = ap (λ a. slice_get a c.place_after-after.result) c.in_ok-guard_between.ensures.ok ∙
    item_there w.label i w.place old x c.requires.order e c.place_after-after.result spot in
    rw there c.in_ok-spare.ensures.room

pub enter_at-requires-clause-bound : goal.enter_at-requires-clause-bound
enter_at-requires-clause-bound c =
    let w = c.args.way in
    let i = c.args.leap in
    let old = c.args.items.now.items in
    let x = c.index.result.now in
    let e = item_read old w.place x (HasBranch w.branch) c.requires.branch c.index.ensures in
    let spot = c.place_after-after.ensures ∙ spot-is w.label i w.place old c.requires.order (slice_get_within old w.place x e) in
    let there = ap (λ a. slice_get a c.place_after-after.result) c.in_ok-guard_between.ensures.ok ∙
    item_there w.label i w.place old x c.requires.order e c.place_after-after.result spot in
    rw there c.in_ok-spare.ensures.bound

pub returns-clause-ok : goal.returns-clause-ok
returns-clause-ok c =
    let w = c.args.way in
    let i = c.args.leap in
    let old = c.args.items.now.items in
    let x = c.index.result.now in
    let e = item_read old w.place x (HasBranch w.branch) c.requires.branch c.index.ensures in
    let spot = c.place_after-after.ensures ∙ spot-is w.label i w.place old c.requires.order (slice_get_within old w.place x e) in
    moved_in-is w.label i w.place old x c.requires.order e w.number w.branch c.place_after-after.result c.guard_between.new.items.items
    c.enter_at.new.items.items
    spot c.in_ok-guard_between.ensures.ok c.enter_at.ensures.items
