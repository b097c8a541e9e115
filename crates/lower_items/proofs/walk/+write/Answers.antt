use Rattle.std.proofs.Common.{length, option_map, sym, ap, ◌∙◌, subst}
use Rattle.std.proofs.lemmas.Result.{on_ok_weaker, IfOk-weaker}
use Rattle.std.specs.Vec.Iter.{into_iter_items}
use Rattle.c_tree.specs.ExpressionTrees.{expression_tree}
use Rattle.c_tree.specs.TestTrees.{test_tree, selector_tree}
use Rattle.c_tree.specs.Trees as Plain
use Rattle.c_tree.specs.Trees.{trees_of, sections_of, expression_trees, join}
use Rattle.c_tree.specs.declared.tree.Section.{out-Section}
use Rattle.c_tree.proofs.TreeLaws.{trees-none}
use Rattle.flat_laws.specs.Pieces.{Stays, mark_of, case_marks}
use Rattle.flat_laws.specs.Loose.{NoArrival, Arrives}
use Rattle.flat_laws.specs.Parts.{switch_labels, cases_among}
use Rattle.flat_laws.specs.FlatForm.{end_goto}
use Rattle.jump_meaning.specs.Step.{switch_kind}
use Rattle.flat_questions.specs.Reading.{is_flagged}
use Rattle.lower_laws.specs.Lowered.{jump_of, past, past_item, inside, lowered, lowered_item, lowered_among}
use Rattle.c_tree.specs.Views.{tree_at}
use Rattle.c_tree.proofs.Views.{at-If, at-While, at-Do, at-For, at-Switch, at-Block}
use Rattle.flat_items.specs.Plans.{here_of, aim_of, arrivals_if}
use Rattle.lower_items.specs.Plans.{layout_of, entered_at, arrivals_of, case_names}
use Rattle.lower_items.specs.Loops.{Frame, frame_of, framed}
use Rattle.lower_items.specs.Choices.{AreCases, breaks_of, choice_form}
use Rattle.lower_items.specs.Forms.{past_among}
use Rattle.lower_items.specs.Pieces.{pieces_of, written}
use Rattle.lower_items.proofs.Steps.{still, past_If, past_While, past_Do, past_For, past_Block, past_Switch, place_step, place_end, walk_step, walk_end, place_step_in, place_end_in, parts_step, parts_end, past_jump}
use Rattle.lower_items.proofs.Shapes.{bound_is, then_joined, both_lists, both_joined, parts_joined, while_is, do_is, for_item, if_is, jump_is, switch_is}
use Rattle.lower_items.proofs.Arms.{simple_item}
use Rattle.lower_items.proofs.Hanging.{behind}
use Rattle.lower_items.proofs.Moving.{emptied}
use Rattle.lower_items.proofs.walk.+write.Goals as goal

pub write_list-loop-item-preserved : goal.write_list-loop-item-preserved
write_list-loop-item-preserved t c =
    let q = c.args.plan.now in
    let p = layout_of q in
    let h = here_of c.args.here in
    let b = aim_of c.args.scope.breaks in
    let d = aim_of c.args.scope.continues in
    let r = arrivals_of c.args.cases.now in
    let xs = into_iter_items c.next.new.self in
    let x = c.in-Some.item in
    let k = here_of c.loop-item.here in
    let steps = c.in-Some.ensures.steps.0 in
    record {
      place = place_step x xs k _ _ c.in_ok-here.ensures.place (sym (ap (λ z. past (trees_of z) k) steps) ∙ c.loop-item.invariant.place);
      items = walk_step p b d r x xs k _ (written c.loop-item.out) (written c.write_item.new.out) _ c.in_ok-here.ensures.place c.in_ok-here.ensures.items
          (sym (ap (λ z. join (written c.loop-item.out) (lowered p k b d r (trees_of z))) steps) ∙ c.loop-item.invariant.items);
    }

pub write_list-returns-clause-place : goal.write_list-returns-clause-place
write_list-returns-clause-place t c =
    let q = c.args.plan.now in
    let p = layout_of q in
    let h = here_of c.args.here in
    let k = here_of c.loop-item.here in
    place_end k _ (sym (ap (λ z. past (trees_of z) k) (emptied c.loop-item.item-iterator c.in-None.ensures.steps.0)) ∙ c.loop-item.invariant.place)

pub write_list-returns-clause-items : goal.write_list-returns-clause-items
write_list-returns-clause-items t c =
    let q = c.args.plan.now in
    let p = layout_of q in
    let h = here_of c.args.here in
    let b = aim_of c.args.scope.breaks in
    let d = aim_of c.args.scope.continues in
    let r = arrivals_of c.args.cases.now in
    let k = here_of c.loop-item.here in
    let o = written c.loop-item.out in
    walk_end p b d r k o _ (sym (ap (λ z. join o (lowered p k b d r (trees_of z))) (emptied c.loop-item.item-iterator c.in-None.ensures.steps.0)) ∙
    c.loop-item.invariant.items)

pub write_then-returns-clause-place : goal.write_then-returns-clause-place
write_then-returns-clause-place t c =
    c.in_ok-after.ensures.place

pub write_then-returns-clause-items : goal.write_then-returns-clause-items
write_then-returns-clause-items t c =
    let p = layout_of c.args.plan.now in
    let b = aim_of c.args.scope.breaks in
    let d = aim_of c.args.scope.continues in
    let r = arrivals_of c.args.cases.now in
    let n = c.args.opened.labels in
    then_joined (written c.args.out.now) (lowered p (here_of c.args.opened.start) b d r (trees_of c.args.a)) (Plain.Goto n.behind) (Plain.Mark n.list)
    (Plain.Mark n.behind) _ _ _
    c.in_ok-start_then.ensures c.in_ok-after.ensures.items (behind (pieces_of c.write_list.new.out.pieces) _ _ _ c.in_ok-add_label.ensures)

pub write_loop-returns-clause-place : goal.write_loop-returns-clause-place
write_loop-returns-clause-place t c =
    c.in_ok-after.ensures.place

pub write_loop-returns-clause-items : goal.write_loop-returns-clause-items
write_loop-returns-clause-items t c =
    let p = layout_of c.args.plan.now in
    let h = here_of c.args.here in
    let r = arrivals_of c.args.cases.now in
    let out = c.args.out.now in
    let f = frame_of c.args.made in
    parts_joined (written out) f.opening (lowered p h f.breaks f.continues r (trees_of c.args.a))
    (join (mark_of f.next) (join f.closing (mark_of f.breaks))) _ _ _
    (behind (pieces_of out.pieces) _ _ _ c.in_ok-add_all.ensures) c.in_ok-after.ensures.items
    (behind (pieces_of c.write_list.new.out.pieces) _ _ _ c.in_ok-close_loop.ensures)

pub write_while-returns-clause-place : goal.write_while-returns-clause-place
write_while-returns-clause-place t c =
    let q = c.args.plan.now in
    let p = layout_of q in
    let h = here_of c.args.here in
    let a = trees_of c.args.a in
    let t' = test_tree c.args.test in
    IfOk-weaker c.write_loop.result _ _ (λ it f. f ∙ ap (past a) c.in_ok-made.ensures.start ∙ past_While t' a h) c.write_loop.ensures.place

pub write_while-returns-clause-items : goal.write_while-returns-clause-items
write_while-returns-clause-items t c =
    let q = c.args.plan.now in
    let p = layout_of q in
    let h = here_of c.args.here in
    let r = arrivals_of c.args.cases.now in
    let out = written c.args.out.now in
    let a = trees_of c.args.a in
    let t' = test_tree c.args.test in
    let w = frame_of c.in_ok-made.made in
    on_ok_weaker c.write_loop.result (λ f. f ∙ ap (λ k. join out (framed w (lowered p k w.breaks w.continues r a))) c.in_ok-made.ensures.start
    ∙ ap (λ (x : Frame). join out (framed x (lowered p (entered_at h 0 0) x.breaks x.continues r a))) c.in_ok-made.ensures.frame ∙
    ap (join out) (while_is q h Stays Stays r t' a)) c.write_loop.ensures.items

pub write_do-returns-clause-place : goal.write_do-returns-clause-place
write_do-returns-clause-place t c =
    let q = c.args.plan.now in
    let p = layout_of q in
    let h = here_of c.args.here in
    let a = trees_of c.args.a in
    let t' = test_tree c.args.test in
    IfOk-weaker c.write_loop.result _ _ (λ it f. f ∙ ap (past a) c.in_ok-made.ensures.start ∙ past_Do t' a h) c.write_loop.ensures.place

pub write_do-returns-clause-items : goal.write_do-returns-clause-items
write_do-returns-clause-items t c =
    let q = c.args.plan.now in
    let p = layout_of q in
    let h = here_of c.args.here in
    let r = arrivals_of c.args.cases.now in
    let out = written c.args.out.now in
    let a = trees_of c.args.a in
    let t' = test_tree c.args.test in
    let w = frame_of c.in_ok-made.made in
    on_ok_weaker c.write_loop.result (λ f. f ∙ ap (λ k. join out (framed w (lowered p k w.breaks w.continues r a))) c.in_ok-made.ensures.start
    ∙ ap (λ (x : Frame). join out (framed x (lowered p (entered_at h 0 0) x.breaks x.continues r a))) c.in_ok-made.ensures.frame ∙
    ap (join out) (do_is q h Stays Stays r t' a)) c.write_loop.ensures.items

pub write_switch-returns-clause-place : goal.write_switch-returns-clause-place
write_switch-returns-clause-place t c =
    let q = c.args.plan.now in
    let p = layout_of q in
    let h = here_of c.args.here in
    let e = sections_of c.args.sections in
    let s = selector_tree c.args.selector in
    let d = aim_of c.args.continues in
    let v = ap sections_of c.as_slice.ensures.value in
    let start = c.in_ok-chosen.ensures.start ∙ ap (λ z. entered_at h (length (cases_among (switch_labels z))) 1) v in
    IfOk-weaker c.write_sections.result _ _ (λ it f. f ∙ ap (past_among e) start ∙ past_Switch s e h) c.write_sections.ensures.place

pub write_switch-returns-clause-items : goal.write_switch-returns-clause-items
write_switch-returns-clause-items t c =
    let q = c.args.plan.now in
    let p = layout_of q in
    let h = here_of c.args.here in
    let out = written c.args.out.now in
    let e = sections_of c.args.sections in
    let s = selector_tree c.args.selector in
    let d = aim_of c.args.continues in
    let v = ap sections_of c.as_slice.ensures.value in
    let start = c.in_ok-chosen.ensures.start ∙ ap (λ z. entered_at h (length (cases_among (switch_labels z))) 1) v in
    let cs = c.in_ok-chosen.chosen.cases in
    let cases = subst (λ z. AreCases cs (switch_kind s) z h) v c.in_ok-chosen.ensures.cases in
    let ps = pieces_of c.args.out.now.pieces in
    let o = join ps (trees_of c.add_choice.new.out) in
    let b = c.in_ok-chosen.ensures.breaks ∙ ap (λ z. breaks_of z h.construct) v in
    on_ok_weaker c.write_sections.result (λ f. switch_is q h Stays d NoArrival s e cs out o _ cases
    (behind ps _ _ _ (c.in_ok-chosen.ensures.items ∙ ap (λ z. join (trees_of c.args.out.now.last) (choice_form s z h)) v))
    (f ∙ ap (λ k. join o (lowered_among p k (aim_of c.in_ok-chosen.chosen.breaks) d (case_names cs) e)) start
    ∙ ap (λ z. join o (lowered_among p (inside (Plain.Switch s e) h) z d (case_names cs) e)) b)) c.write_sections.ensures.items

pub write_sections-loop-section-preserved : goal.write_sections-loop-section-preserved
write_sections-loop-section-preserved t c =
    let q = c.args.plan.now in
    let p = layout_of q in
    let h = here_of c.args.here in
    let b = aim_of c.args.scope.breaks in
    let d = aim_of c.args.scope.continues in
    let xs = into_iter_items c.next.new.self in
    let x = c.in-Some.section in
    let k = here_of c.loop-section.here in
    let ns = case_names c.args.cases.now in
    let o = written c.loop-section.out in
    let steps = c.in-Some.ensures.steps.0 in
    record {
      place = place_step_in x xs k _ _ c.in_ok-here.ensures.place (sym (ap (λ z. past_among (sections_of z) k) steps) ∙ c.loop-section.invariant.place);
      items = parts_step p b d ns x xs k _ o (written c.write_section.new.out) _ c.in_ok-here.ensures.place c.in_ok-here.ensures.items
          (sym (ap (λ z. join o (lowered_among p k b d ns (sections_of z))) steps) ∙ c.loop-section.invariant.items);
    }

pub write_sections-returns-clause-place : goal.write_sections-returns-clause-place
write_sections-returns-clause-place t c =
    let q = c.args.plan.now in
    let p = layout_of q in
    let h = here_of c.args.here in
    let k = here_of c.loop-section.here in
    place_end_in k _ (sym (ap (λ z. past_among (sections_of z) k) (emptied c.loop-section.section-iterator c.in-None.ensures.steps.0)) ∙
    c.loop-section.invariant.place)

pub write_sections-returns-clause-items : goal.write_sections-returns-clause-items
write_sections-returns-clause-items t c =
    let q = c.args.plan.now in
    let p = layout_of q in
    let h = here_of c.args.here in
    let b = aim_of c.args.scope.breaks in
    let d = aim_of c.args.scope.continues in
    let k = here_of c.loop-section.here in
    let ns = case_names c.args.cases.now in
    let o = written c.loop-section.out in
    behind (pieces_of c.loop-section.out.pieces) _ _ _ c.in_ok-add_mark.ensures ∙
    parts_end p b d ns k o _ (sym (ap (λ z. join o (lowered_among p k b d ns (sections_of z)))
    (emptied c.loop-section.section-iterator c.in-None.ensures.steps.0)) ∙ c.loop-section.invariant.items)

pub write_section-returns-clause-place : goal.write_section-returns-clause-place
write_section-returns-clause-place t c =
    c.in_ok-after.ensures.place

pub write_section-returns-clause-items : goal.write_section-returns-clause-items
write_section-returns-clause-items t c =
    let p = layout_of c.args.plan.now in
    let h = here_of c.args.here in
    let b = aim_of c.args.scope.breaks in
    let d = aim_of c.args.scope.continues in
    let out = c.args.out.now in
    let ns = case_names c.args.cases.now in
    let x = out-Section c.args.section in
    parts_joined (written out) (case_marks ns (expression_trees x.cases) x.default) (lowered p h b d (Arrives ns) (trees_of x.list)) (end_goto x.ends b) _ _ _
    (behind (pieces_of out.pieces) _ _ _ (c.in_ok-add_case_marks.ensures ∙
    ap (λ z. join (trees_of out.last) (case_marks ns (expression_trees z) x.default)) c.as_slice.ensures.value))
    (bound_is p h b d ns (trees_of x.list) _ _ _ c.requires c.in_ok-after.ensures.items)
    (behind (pieces_of c.write_list.new.out.pieces) _ _ _ c.in_ok-add_end.ensures)

pub write_item-returns-in-While-clause-place : goal.write_item-returns-in-While-clause-place
write_item-returns-in-While-clause-place t c =
    let q = c.args.plan.now in
    let p = layout_of q in
    let h = here_of c.args.here in
    let e = ap tree_at c.in-While.is ∙ at-While c.in-While.test c.in-While.a in
    IfOk-weaker c.write_while.result _ _ (λ it f. f ∙ sym (ap (λ y. past_item y h) e)) c.write_while.ensures.place

pub write_item-returns-in-While-clause-items : goal.write_item-returns-in-While-clause-items
write_item-returns-in-While-clause-items t c =
    let q = c.args.plan.now in
    let p = layout_of q in
    let h = here_of c.args.here in
    let b = aim_of c.args.scope.breaks in
    let d = aim_of c.args.scope.continues in
    let r = arrivals_of c.args.cases.now in
    let out = written c.args.out.now in
    let e = ap tree_at c.in-While.is ∙ at-While c.in-While.test c.in-While.a in
    on_ok_weaker c.write_while.result (λ f. f ∙ sym (ap (λ y. join out (lowered_item p h b d r y)) e)) c.write_while.ensures.items

pub write_item-returns-in-Do-clause-place : goal.write_item-returns-in-Do-clause-place
write_item-returns-in-Do-clause-place t c =
    let q = c.args.plan.now in
    let p = layout_of q in
    let h = here_of c.args.here in
    let e = ap tree_at c.in-Do.is ∙ at-Do c.in-Do.a c.in-Do.test in
    IfOk-weaker c.write_do.result _ _ (λ it f. f ∙ sym (ap (λ y. past_item y h) e)) c.write_do.ensures.place

pub write_item-returns-in-Do-clause-items : goal.write_item-returns-in-Do-clause-items
write_item-returns-in-Do-clause-items t c =
    let q = c.args.plan.now in
    let p = layout_of q in
    let h = here_of c.args.here in
    let b = aim_of c.args.scope.breaks in
    let d = aim_of c.args.scope.continues in
    let r = arrivals_of c.args.cases.now in
    let out = written c.args.out.now in
    let e = ap tree_at c.in-Do.is ∙ at-Do c.in-Do.a c.in-Do.test in
    on_ok_weaker c.write_do.result (λ f. f ∙ sym (ap (λ y. join out (lowered_item p h b d r y)) e)) c.write_do.ensures.items

pub write_item-returns-in-Switch-clause-place : goal.write_item-returns-in-Switch-clause-place
write_item-returns-in-Switch-clause-place t c =
    let q = c.args.plan.now in
    let p = layout_of q in
    let h = here_of c.args.here in
    let e = ap tree_at c.in-Switch.is ∙ at-Switch c.in-Switch.selector c.in-Switch.sections in
    IfOk-weaker c.write_switch.result _ _ (λ it f. f ∙ sym (ap (λ y. past_item y h) e)) c.write_switch.ensures.place

pub write_item-returns-in-Switch-clause-items : goal.write_item-returns-in-Switch-clause-items
write_item-returns-in-Switch-clause-items t c =
    let q = c.args.plan.now in
    let p = layout_of q in
    let h = here_of c.args.here in
    let b = aim_of c.args.scope.breaks in
    let d = aim_of c.args.scope.continues in
    let r = arrivals_of c.args.cases.now in
    let out = written c.args.out.now in
    let e = ap tree_at c.in-Switch.is ∙ at-Switch c.in-Switch.selector c.in-Switch.sections in
    on_ok_weaker c.write_switch.result (λ f. f ∙ sym (ap (λ y. join out (lowered_item p h b d r y)) e)) c.write_switch.ensures.items

pub write_item-returns-in-Block-clause-place : goal.write_item-returns-in-Block-clause-place
write_item-returns-in-Block-clause-place t c =
    let q = c.args.plan.now in
    let p = layout_of q in
    let h = here_of c.args.here in
    let e = ap tree_at c.in-Block.is ∙ at-Block c.in-Block.a in
    IfOk-weaker c.write_list-in-Block.result _ _ (λ it f. f ∙ past_Block (trees_of c.in-Block.a) h ∙ sym (ap (λ y. past_item y h) e))
    c.write_list-in-Block.ensures.place

pub write_item-returns-in-Block-clause-items : goal.write_item-returns-in-Block-clause-items
write_item-returns-in-Block-clause-items t c =
    let q = c.args.plan.now in
    let p = layout_of q in
    let h = here_of c.args.here in
    let b = aim_of c.args.scope.breaks in
    let d = aim_of c.args.scope.continues in
    let r = arrivals_of c.args.cases.now in
    let out = written c.args.out.now in
    let e = ap tree_at c.in-Block.is ∙ at-Block c.in-Block.a in
    on_ok_weaker c.write_list-in-Block.result (λ f. f ∙ sym (ap (λ y. join out (lowered_item p h b d r y)) e)) c.write_list-in-Block.ensures.items

pub write_item-returns-in-Some-clause-place : goal.write_item-returns-in-Some-clause-place
write_item-returns-in-Some-clause-place t c =
    let q = c.args.plan.now in
    let p = layout_of q in
    let h = here_of c.args.here in
    let is = ap tree_at c.in-If.is ∙ at-If c.in-If.test c.in-If.a c.in-If.b in
    let a = trees_of c.in-If.a in
    let e = trees_of c.in-If.b in
    let t' = test_tree c.in-If.test in
    let jump = sym (c.jump_of.ensures ∙ ap (λ z. jump_of (is_flagged z) a e) c.as_slice.ensures.value) in
    IfOk-weaker c.write_jump.result _ _ (λ it f. f ∙ past_jump p.plan.live t' a e c.in-Some.label h (jump ∙ c.in-Some.is) ∙
    sym (ap (λ y. past_item y h) is)) c.write_jump.ensures.place

pub write_item-returns-in-Some-clause-items : goal.write_item-returns-in-Some-clause-items
write_item-returns-in-Some-clause-items t c =
    let q = c.args.plan.now in
    let p = layout_of q in
    let h = here_of c.args.here in
    let b = aim_of c.args.scope.breaks in
    let d = aim_of c.args.scope.continues in
    let r = arrivals_of c.args.cases.now in
    let out = written c.args.out.now in
    let is = ap tree_at c.in-If.is ∙ at-If c.in-If.test c.in-If.a c.in-If.b in
    let a = trees_of c.in-If.a in
    let e = trees_of c.in-If.b in
    let t' = test_tree c.in-If.test in
    let jump = sym (c.jump_of.ensures ∙ ap (λ z. jump_of (is_flagged z) a e) c.as_slice.ensures.value) in
    on_ok_weaker c.write_jump.result (λ f. behind (pieces_of c.args.out.now.pieces) _ _ _ f ∙
    ap (join out) (jump_is q h b d r t' a e c.in-Some.label (jump ∙ c.in-Some.is)) ∙ sym (ap (λ y. join out (lowered_item p h b d r y)) is))
    c.write_jump.ensures.items

pub write_item-returns-then-is_empty-clause-place : goal.write_item-returns-then-is_empty-clause-place
write_item-returns-then-is_empty-clause-place t c =
    let h = here_of c.args.here in
    let is = ap tree_at c.in-If.is ∙ at-If c.in-If.test c.in-If.a c.in-If.b in
    let a = trees_of c.in-If.a in
    let e = trees_of c.in-If.b in
    let t' = test_tree c.in-If.test in
    let none = ap trees_of (c.is_empty.ensures.0 c.if-is_empty.true) ∙ trees-none in
    let k = past a (entered_at h 0 0) in
    IfOk-weaker c.write_then.result _ _ (λ it f. f ∙ ap (past a) c.in_ok-opened-in-None.ensures.start ∙ sym (still k) ∙
    sym (ap (λ z. past z k) none) ∙ past_If t' a e h ∙ sym (ap (λ y. past_item y h) is)) c.write_then.ensures.place

pub write_item-returns-then-is_empty-clause-items : goal.write_item-returns-then-is_empty-clause-items
write_item-returns-then-is_empty-clause-items t c =
    let q = c.args.plan.now in
    let p = layout_of q in
    let h = here_of c.args.here in
    let b = aim_of c.args.scope.breaks in
    let d = aim_of c.args.scope.continues in
    let r = arrivals_of c.args.cases.now in
    let out = written c.args.out.now in
    let is = ap tree_at c.in-If.is ∙ at-If c.in-If.test c.in-If.a c.in-If.b in
    let a = trees_of c.in-If.a in
    let e = trees_of c.in-If.b in
    let t' = test_tree c.in-If.test in
    let jump = sym (c.jump_of.ensures ∙ ap (λ z. jump_of (is_flagged z) a e) c.as_slice.ensures.value) in
    let opened = c.in_ok-opened-in-None.ensures in
    let ps = pieces_of c.args.out.now.pieces in
    let o = join ps (trees_of c.add_test.new.out) in
    let s = here_of c.in_ok-opened-in-None.opened.start in
    let none = ap trees_of (c.is_empty.ensures.0 c.if-is_empty.true) ∙ trees-none in
    on_ok_weaker c.write_then.result (λ f. if_is q h b d r t' a e out o _ s _ (jump ∙ c.in-None.is) (behind ps _ _ _ opened.items) opened.start opened.labels
    (f ∙ sym (ap (λ z. join o (both_lists p c.in_ok-opened-in-None.opened.labels s b d r a z)) none)) ∙
    sym (ap (λ y. join out (lowered_item p h b d r y)) is)) c.write_then.ensures.items

pub write_item-returns-in_ok-add_then-in-None-clause-place : goal.write_item-returns-in_ok-add_then-in-None-clause-place
write_item-returns-in_ok-add_then-in-None-clause-place t c =
    let h = here_of c.args.here in
    let is = ap tree_at c.in-If.is ∙ at-If c.in-If.test c.in-If.a c.in-If.b in
    let a = trees_of c.in-If.a in
    let e = trees_of c.in-If.b in
    let t' = test_tree c.in-If.test in
    c.in_ok-after-in-None.ensures.place ∙ ap (past e) (c.in_ok-behind-in-None.ensures.place ∙ ap (past a) c.in_ok-opened-in-None.ensures.start) ∙
    past_If t' a e h ∙ sym (ap (λ y. past_item y h) is)

pub write_item-returns-in_ok-add_then-in-None-clause-items : goal.write_item-returns-in_ok-add_then-in-None-clause-items
write_item-returns-in_ok-add_then-in-None-clause-items t c =
    let q = c.args.plan.now in
    let p = layout_of q in
    let h = here_of c.args.here in
    let b = aim_of c.args.scope.breaks in
    let d = aim_of c.args.scope.continues in
    let r = arrivals_of c.args.cases.now in
    let out = written c.args.out.now in
    let is = ap tree_at c.in-If.is ∙ at-If c.in-If.test c.in-If.a c.in-If.b in
    let a = trees_of c.in-If.a in
    let e = trees_of c.in-If.b in
    let t' = test_tree c.in-If.test in
    let jump = sym (c.jump_of.ensures ∙ ap (λ z. jump_of (is_flagged z) a e) c.as_slice.ensures.value) in
    let opened = c.in_ok-opened-in-None.ensures in
    let ps = pieces_of c.args.out.now.pieces in
    let o = join ps (trees_of c.add_test.new.out) in
    let s = here_of c.in_ok-opened-in-None.opened.start in
    if_is q h b d r t' a e out o _ s _ (jump ∙ c.in-None.is) (behind ps _ _ _ opened.items) opened.start opened.labels
    (both_joined p c.in_ok-opened-in-None.opened.labels s _ b d r a e _ _ o _ _
    c.in_ok-behind-in-None.ensures.place c.nothing-then.ensures c.in_ok-behind-in-None.ensures.items c.in_ok-after-in-None.ensures.items
    c.in_ok-add_then-in-None.ensures)
    ∙ sym (ap (λ y. join out (lowered_item p h b d r y)) is)

pub write_item-returns-in_ok-start-in-For-clause-place : goal.write_item-returns-in_ok-start-in-For-clause-place
write_item-returns-in_ok-start-in-For-clause-place t c =
    let h = here_of c.args.here in
    let is = ap tree_at c.in-For.is ∙ at-For c.in-For.first c.in-For.test c.in-For.third c.in-For.a in
    let a = trees_of c.in-For.a in
    let fs = trees_of c.in-For.first in
    let t' = option_map expression_tree c.in-For.test in
    let u = option_map expression_tree c.in-For.third in
    let start = c.in_ok-start-in-For.ensures.place ∙ ap (past fs) c.in_ok-made-in-For.ensures.start in
    IfOk-weaker c.write_loop.result _ _ (λ it f. f ∙ ap (past a) start ∙ past_For fs t' u a h ∙ sym (ap (λ y. past_item y h) is)) c.write_loop.ensures.place

pub write_item-returns-in_ok-start-in-For-clause-items : goal.write_item-returns-in_ok-start-in-For-clause-items
write_item-returns-in_ok-start-in-For-clause-items t c =
    let q = c.args.plan.now in
    let p = layout_of q in
    let h = here_of c.args.here in
    let b = aim_of c.args.scope.breaks in
    let d = aim_of c.args.scope.continues in
    let r = arrivals_of c.args.cases.now in
    let out = written c.args.out.now in
    let is = ap tree_at c.in-For.is ∙ at-For c.in-For.first c.in-For.test c.in-For.third c.in-For.a in
    let a = trees_of c.in-For.a in
    let fs = trees_of c.in-For.first in
    let t' = option_map expression_tree c.in-For.test in
    let u = option_map expression_tree c.in-For.third in
    let s = here_of c.in_ok-made-in-For.made.start in
    let none = c.no_cases-none.result in
    let first = c.in_ok-start-in-For.ensures.items ∙ ap (λ z. join out (lowered p s b d (arrivals_if z (case_names none)) fs)) c.no_cases-none.ensures in
    on_ok_weaker c.write_loop.result (λ f. for_item q h b d r fs t' u a out (written c.write_list-in-For.new.out) _ s
    _ (frame_of c.in_ok-made-in-For.made) c.in_ok-made-in-For.ensures.start c.in_ok-start-in-For.ensures.place c.in_ok-made-in-For.ensures.frame first f
    ∙ sym (ap (λ y. join out (lowered_item p h b d r y)) is)) c.write_loop.ensures.items

pub write_item-returns-in_default : goal.write_item-returns-in_default
write_item-returns-in_default t c =
    let p = layout_of c.args.plan.now in
    let h = here_of c.args.here in
    let out = written c.args.out.now in
    let b = aim_of c.args.scope.breaks in
    let d = aim_of c.args.scope.continues in
    let r = arrivals_of c.args.cases.now in
    let it = simple_item p h b d r c.args.item c.in_default.not-If c.in_default.not-While c.in_default.not-Do c.in_default.not-For
    c.in_default.not-Switch c.in_default.not-Block in
    record {
      place = IfOk-weaker c.write_simple.result _ _ (λ _ f. ap here_of f ∙ it.still) c.write_simple.ensures.place;
      items = on_ok_weaker c.write_simple.result (λ f. behind (pieces_of c.args.out.now.pieces) _ _ _ f ∙ ap (join out) it.stays) c.write_simple.ensures.items;
    }
