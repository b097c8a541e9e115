use Rattle.std.proofs.Common.{cond, map, length, true, option_map, refl, sym, ap, ◌∙◌}
use Rattle.std.proofs.lemmas.Result.{on_ok_weaker, IfOk-weaker}
use Rattle.c_tree.specs.Cases.{case_number, selector_source}
use Rattle.c_tree.specs.Changed.{one}
use Rattle.c_tree.specs.ExpressionTrees.{expression_tree}
use Rattle.c_tree.specs.TestTrees.{test_tree, selector_tree}
use Rattle.c_tree.specs.Trees as Plain
use Rattle.c_tree.specs.Trees.{Tree, Forest, Nil, Then, Sections, NoSection, trees_of, sections_of, expression_trees, join}
use Rattle.c_tree.proofs.TreeLaws.{trees-none}
use Rattle.flat_laws.specs.Pieces.{mark_of, case_marks, assign_number}
use Rattle.c_tree.specs.Views.{tree_at}
use Rattle.c_tree.proofs.Views.{at-If, at-While, at-Do, at-For, at-Switch, at-Block, at-Goto, at-Mark, at-Break, at-Continue, at-Local, at-Arrival}
use Rattle.flat_items.proofs.walk.+write.Goals as goal
use Rattle.flat_laws.specs.Parts.{past, past_item, ending, is_scattered, holds_jump, kept_breaks, ends_then}
use Rattle.c_tree.specs.Exits.{breaks, continues}
use Rattle.c_tree.specs.declared.tree.Section.{out-Section}
use Rattle.flat_laws.specs.FlatForm.{aim, flat, flat_item, flat_sections, spread, flat_loop, flat_for, if_breaks, end_goto}
use Rattle.flat_laws.specs.Loose.{NoArrival}
use Rattle.flat_questions.specs.Reading.{is_flagged, ending_as}
use Rattle.flat_items.specs.Forms.{entered_of, past_among, kept_form, scattered_form, section_form, with_parts, but_last, loop_breaks}
use Rattle.flat_items.specs.Pieces.{behind}
use Rattle.flat_items.specs.Plans.{plan_of, here_of, aim_of, arrivals_of, arrivals_if, case_names}
use Rattle.c_tree.proofs.TreeLaws.{sections-none}
use Rattle.flat_items.proofs.Joining.{joined}
use Rattle.flat_items.proofs.Steps.{same_here, still, past_If, past_While, past_Do, past_For, past_Block, place_step, place_end, walk_step, walk_end, place_step_in, place_end_in, sections_step, sections_end, spread_step, spread_end}
use Rattle.flat_items.proofs.LastItems.{cut_is}
use Rattle.flat_items.proofs.Arms.{same_item, past_kept, switch_item, inside_scattered, scattered_is, cases_are, local_is}
use Rattle.flat_items.proofs.Steps.{past_Switch}
use Rattle.flat_laws.specs.Parts.{switch_labels, cases_among}
use Rattle.flat_laws.specs.FlatForm.{otherwise_label, scatter_aim}
use Rattle.jump_meaning.specs.Step.{switch_kind}
use Rattle.flat_items.specs.Pieces.{number_tests}
use Rattle.flat_items.specs.Plans.{number_label}
use Rattle.flat_items.specs.Forms.{for_form}

pub write_list-returns-clause-place : goal.write_list-returns-clause-place
write_list-returns-clause-place t c =
    let p = plan_of c.args.plan.now in
    let h = here_of c.args.here in
    c.in_ok-here.ensures.place ∙ ap (λ z. past (trees_of z) h) c.as_slice.ensures.value

pub write_list-returns-clause-items : goal.write_list-returns-clause-items
write_list-returns-clause-items t c =
    let p = plan_of c.args.plan.now in
    let h = here_of c.args.here in
    let b = aim_of c.args.scope.breaks in
    let d = aim_of c.args.scope.continues in
    let r = arrivals_of c.args.plan.now c.args.cases.now in
    let y = flat p h b d r (trees_of c.as_slice.result.now) in
    c.in_ok-here.ensures.items ∙ ap (λ z. join (trees_of z) y) c.new-items.ensures ∙ ap (λ z. join z y) trees-none ∙
    ap (λ z. flat p h b d r (trees_of z)) c.as_slice.ensures.value

pub write_items-loop-i-preserved : goal.write_items-loop-i-preserved
write_items-loop-i-preserved t c =
    let p = plan_of c.args.plan.now in
    let h = here_of c.args.here in
    let out = trees_of c.args.out.now in
    let b = aim_of c.args.scope.breaks in
    let d = aim_of c.args.scope.continues in
    let r = arrivals_of c.args.plan.now c.args.cases.now in
    let xs = c.args.items.now in
    let i = c.loop-i.i in
    let x = c.index-items-i.result in
    let g = here_of c.loop-i.here in
    record {
      place = place_step xs i x c.loop-i-test.true c.index-items-i.is g _ _ c.in_ok-here.ensures.place c.loop-i.invariant.place;
      items = walk_step p b d r xs i x c.loop-i-test.true c.index-items-i.is g _ (trees_of c.loop-i.out) (trees_of c.write_item.new.out)
          _ c.in_ok-here.ensures.place c.in_ok-here.ensures.items c.loop-i.invariant.items;
    }

pub write_items-returns-clause-place : goal.write_items-returns-clause-place
write_items-returns-clause-place t c =
    place_end c.args.items.now c.loop-i.i c.loop-i-test.false (here_of c.loop-i.here) _ c.loop-i.invariant.place

pub write_items-returns-clause-items : goal.write_items-returns-clause-items
write_items-returns-clause-items t c =
    let p = plan_of c.args.plan.now in
    let h = here_of c.args.here in
    let out = trees_of c.args.out.now in
    let b = aim_of c.args.scope.breaks in
    let d = aim_of c.args.scope.continues in
    let r = arrivals_of c.args.plan.now c.args.cases.now in
    walk_end p b d r c.args.items.now c.loop-i.i c.loop-i-test.false (here_of c.loop-i.here) (trees_of c.loop-i.out) _ c.loop-i.invariant.items

pub write_while-returns-clause-place : goal.write_while-returns-clause-place
write_while-returns-clause-place t c =
    let p = plan_of c.args.plan.now in
    let h = here_of c.args.here in
    let a = trees_of c.args.a.now in
    let t' = test_tree c.args.test.now in
    let entered = same_here c.in_ok-start.ensures.construct c.in_ok-start.ensures.case c.in_ok-start.ensures.variable in
    c.in_ok-body.ensures.place ∙ ap (past a) entered ∙ past_While t' a h

pub write_while-returns-clause-items : goal.write_while-returns-clause-items
write_while-returns-clause-items t c =
    let p = plan_of c.args.plan.now in
    let h = here_of c.args.here in
    let out = trees_of c.args.out.now in
    let r = arrivals_of c.args.plan.now c.args.cases.now in
    let a = trees_of c.args.a.now in
    let t' = test_tree c.args.test.now in
    let entered = same_here c.in_ok-start.ensures.construct c.in_ok-start.ensures.case c.in_ok-start.ensures.variable in
    let k = c.args.here.construct in
    let bs = aim_of c.in_ok-scope.scope.breaks in
    let cs = aim_of c.in_ok-scope.scope.continues in
    let e = c.in_ok-scope.ensures.breaks ∙ ap (λ y. aim y (breaks a) (p.break_label k)) c.is_jumpy.ensures in
    let f = c.in_ok-scope.ensures.continues ∙ ap (λ y. aim y (continues a) (p.continue_label k)) c.is_jumpy.ensures in
    let g = entered_of h in
    c.in_ok-add_while.ensures ∙ ap (λ x. join out (flat_loop (λ y. Plain.While t' y) x bs cs))
    (c.in_ok-body.ensures.items ∙ ap (λ z. flat p z bs cs r a) entered)
    ∙ ap (λ z. join out (flat_loop (λ y. Plain.While t' y) (flat p g z cs r a) z cs)) e
    ∙ ap (λ z. join out (flat_loop (λ y. Plain.While t' y) (flat p g (loop_breaks p k a) z r a) (loop_breaks p k a) z)) f

pub write_do-returns-clause-place : goal.write_do-returns-clause-place
write_do-returns-clause-place t c =
    let p = plan_of c.args.plan.now in
    let h = here_of c.args.here in
    let a = trees_of c.args.a.now in
    let t' = test_tree c.args.test.now in
    let entered = same_here c.in_ok-start.ensures.construct c.in_ok-start.ensures.case c.in_ok-start.ensures.variable in
    c.in_ok-body.ensures.place ∙ ap (past a) entered ∙ past_Do t' a h

pub write_do-returns-clause-items : goal.write_do-returns-clause-items
write_do-returns-clause-items t c =
    let p = plan_of c.args.plan.now in
    let h = here_of c.args.here in
    let out = trees_of c.args.out.now in
    let r = arrivals_of c.args.plan.now c.args.cases.now in
    let a = trees_of c.args.a.now in
    let t' = test_tree c.args.test.now in
    let entered = same_here c.in_ok-start.ensures.construct c.in_ok-start.ensures.case c.in_ok-start.ensures.variable in
    let k = c.args.here.construct in
    let bs = aim_of c.in_ok-scope.scope.breaks in
    let cs = aim_of c.in_ok-scope.scope.continues in
    let e = c.in_ok-scope.ensures.breaks ∙ ap (λ y. aim y (breaks a) (p.break_label k)) c.is_jumpy.ensures in
    let f = c.in_ok-scope.ensures.continues ∙ ap (λ y. aim y (continues a) (p.continue_label k)) c.is_jumpy.ensures in
    let g = entered_of h in
    c.in_ok-add_do.ensures ∙ ap (λ x. join out (flat_loop (λ y. Plain.Do y t') x bs cs)) (c.in_ok-body.ensures.items ∙ ap (λ z. flat p z bs cs r a) entered)
    ∙ ap (λ z. join out (flat_loop (λ y. Plain.Do y t') (flat p g z cs r a) z cs)) e
    ∙ ap (λ z. join out (flat_loop (λ y. Plain.Do y t') (flat p g (loop_breaks p k a) z r a) (loop_breaks p k a) z)) f

pub write_first-returns-clause-place : goal.write_first-returns-clause-place
write_first-returns-clause-place t c =
    let p = plan_of c.args.plan.now in
    let h = here_of c.args.here in
    let a = trees_of c.args.first.now in
    let entered = same_here c.in_ok-start.ensures.construct c.in_ok-start.ensures.case c.in_ok-start.ensures.variable in
    IfOk-weaker c.write_items.result _ _ (λ it e. e ∙ ap (λ z. past (trees_of z) (here_of c.in_ok-start.start)) c.as_slice.ensures.value ∙
    ap (past a) entered) c.write_items.ensures.place

pub write_first-returns-clause-items : goal.write_first-returns-clause-items
write_first-returns-clause-items t c =
    let p = plan_of c.args.plan.now in
    let h = here_of c.args.here in
    let out = trees_of c.args.out.now in
    let b = aim_of c.args.scope.breaks in
    let d = aim_of c.args.scope.continues in
    let a = trees_of c.args.first.now in
    let entered = same_here c.in_ok-start.ensures.construct c.in_ok-start.ensures.case c.in_ok-start.ensures.variable in
    let r = arrivals_of c.args.plan.now c.no_cases-none.result in
    on_ok_weaker c.write_items.result (λ e. e ∙ ap (λ z. join out (flat p (here_of c.in_ok-start.start) b d r (trees_of z))) c.as_slice.ensures.value
    ∙ ap (λ g. join out (flat p g b d r a)) entered ∙
    ap (λ y. join out (flat p (entered_of h) b d (arrivals_if y (case_names c.args.plan.now c.no_cases-none.result)) a)) c.no_cases-none.ensures)
    c.write_items.ensures.items

pub write_for-returns-clause-place : goal.write_for-returns-clause-place
write_for-returns-clause-place t c =
    c.in_ok-body.ensures.place

pub write_for-returns-clause-items : goal.write_for-returns-clause-items
write_for-returns-clause-items t c =
    let p = plan_of c.args.plan.now in
    let h = here_of c.args.here in
    let out = trees_of c.args.out.now in
    let r = arrivals_of c.args.plan.now c.args.cases.now in
    let a = trees_of c.args.a.now in
    let t' = option_map expression_tree c.args.test.now in
    let u = option_map expression_tree c.args.third.now in
    let k = c.args.construct in
    let bs = aim_of c.in_ok-scope.scope.breaks in
    let cs = aim_of c.in_ok-scope.scope.continues in
    let j = holds_jump p.live a in
    let e = c.in_ok-scope.ensures.breaks ∙ ap (λ y. aim y (breaks a) (p.break_label k)) c.is_jumpy-jumpy.ensures in
    let f = c.in_ok-scope.ensures.continues ∙ ap (λ y. aim y (continues a) (p.continue_label k)) c.is_jumpy-jumpy.ensures in
    c.in_ok-add_for.ensures ∙ ap (λ y. join out (flat_for y t' u (trees_of c.in_ok-body.body.items) bs cs)) c.is_jumpy-jumpy.ensures
    ∙ ap (λ x. join out (flat_for j t' u x bs cs)) c.in_ok-body.ensures.items
    ∙ ap (λ z. join out (flat_for j t' u (flat p h z cs r a) z cs)) e
    ∙ ap (λ z. join out (flat_for j t' u (flat p h (loop_breaks p k a) z r a) (loop_breaks p k a) z)) f

pub write_kept-returns-clause-place : goal.write_kept-returns-clause-place
write_kept-returns-clause-place t c =
    let p = plan_of c.args.plan.now in
    let h = here_of c.args.here in
    let e = sections_of c.args.sections.now in
    let entered = same_here c.in_ok-start.ensures.construct c.in_ok-start.ensures.case c.in_ok-start.ensures.variable in
    c.in_ok-made.ensures.place ∙ ap (λ z. past_among (sections_of z) (here_of c.in_ok-start.start)) c.as_slice-parts.ensures.value ∙ ap (past_among e) entered

pub write_kept-returns-clause-items : goal.write_kept-returns-clause-items
write_kept-returns-clause-items t c =
    let p = plan_of c.args.plan.now in
    let h = here_of c.args.here in
    let out = trees_of c.args.out.now in
    let e = sections_of c.args.sections.now in
    let s = selector_tree c.args.selector.now in
    let d = aim_of c.args.continues in
    let k = c.args.here.construct in
    let entered = same_here c.in_ok-start.ensures.construct c.in_ok-start.ensures.case c.in_ok-start.ensures.variable in
    let j = c.is_jumpy_switch-jumpy.result in
    let bs = aim_of c.in_ok-breaks.breaks in
    let same = ap sections_of c.as_slice-parts.ensures.value in
    let f = c.in_ok-breaks.ensures ∙ ap (λ z. aim j (kept_breaks p.live z) (p.break_label k)) same in
    let jumpy = c.is_jumpy_switch-jumpy.ensures in
    c.in_ok-add_switch.ensures ∙ ap (λ z. join out (Then (Plain.Switch s z) (mark_of bs)))
    (c.in_ok-made.ensures.sections ∙ ap (λ z. flat_sections p (here_of c.in_ok-start.start) j bs d z) same ∙ ap (λ g. flat_sections p g j bs d e) entered)
    ∙ ap (λ z. join out (Then (Plain.Switch s (flat_sections p (entered_of h) j z d e)) (mark_of z))) f
    ∙ ap (λ y. join out (Then (Plain.Switch s (flat_sections p (entered_of h) y (aim y (kept_breaks p.live e) (p.break_label k)) d e))
    (mark_of (aim y (kept_breaks p.live e) (p.break_label k))))) jumpy

pub write_sections-loop-i-init : goal.write_sections-loop-i-init
write_sections-loop-i-init t c =
    let p = plan_of c.args.plan.now in
    let h = here_of c.args.here in
    let b = aim_of c.args.scope.breaks in
    let d = aim_of c.args.scope.continues in
    let e = sections_of c.args.sections.now in
    let y = flat_sections p h c.args.jumpy b d e in
    record { place = refl; sections = ap (λ z. behind (sections_of z) y) c.new-out.ensures ∙ ap (λ z. behind z y) sections-none }

pub write_sections-loop-i-preserved : goal.write_sections-loop-i-preserved
write_sections-loop-i-preserved t c =
    let p = plan_of c.args.plan.now in
    let h = here_of c.args.here in
    let b = aim_of c.args.scope.breaks in
    let d = aim_of c.args.scope.continues in
    let xs = c.args.sections.now in
    let i = c.loop-i.i in
    let x = c.index-sections-i.result in
    let g = here_of c.loop-i.here in
    record {
      place = place_step_in xs i x c.loop-i-test.true c.index-sections-i.is g _ _ c.in_ok-here.ensures.place c.loop-i.invariant.place;
      sections = sections_step p c.args.jumpy b d xs i x c.loop-i-test.true c.index-sections-i.is g _ (sections_of c.loop-i.out)
          (sections_of c.write_section.new.out) _ c.in_ok-here.ensures.place c.in_ok-here.ensures.sections c.loop-i.invariant.sections;
    }

pub write_sections-returns-clause-place : goal.write_sections-returns-clause-place
write_sections-returns-clause-place t c =
    place_end_in c.args.sections.now c.loop-i.i c.loop-i-test.false (here_of c.loop-i.here) _ c.loop-i.invariant.place

pub write_sections-returns-clause-sections : goal.write_sections-returns-clause-sections
write_sections-returns-clause-sections t c =
    let p = plan_of c.args.plan.now in
    let h = here_of c.args.here in
    let b = aim_of c.args.scope.breaks in
    let d = aim_of c.args.scope.continues in
    sections_end p c.args.jumpy b d c.args.sections.now c.loop-i.i c.loop-i-test.false (here_of c.loop-i.here) (sections_of c.loop-i.out)
    _ c.loop-i.invariant.sections

pub write_section-returns-clause-place : goal.write_section-returns-clause-place
write_section-returns-clause-place t c =
    c.in_ok-made.ensures.place

pub write_section-returns-clause-sections : goal.write_section-returns-clause-sections
write_section-returns-clause-sections t c =
    let p = plan_of c.args.plan.now in
    let h = here_of c.args.here in
    let b = aim_of c.args.scope.breaks in
    let d = aim_of c.args.scope.continues in
    let o = out-Section c.args.section.now in
    let a = trees_of o.list in
    let whole = flat p h b d NoArrival a in
    let before = sections_of c.args.out.now in
    let e = c.ends_by-ending.ensures ∙ ap (λ z. ending (is_flagged z) a) c.as_slice.ensures.value in
    let made = c.in_ok-made.ensures.items ∙ ap (λ y. flat p h b d (arrivals_if y (case_names c.args.plan.now c.no_cases-none.result)) a)
    c.no_cases-none.ensures in
    let list = c.without_break-list.ensures ∙ ap (λ z. if_breaks (ending_as c.ends_by-ending.result) (but_last z) z) made
    ∙ ap (λ z. if_breaks z (but_last whole) whole) e ∙ cut_is p h b d a (ending p.live a) refl in
    c.in_ok-add_section.ensures ∙ ap (λ z. behind before (with_parts c.args.section.now z c.ends_then-ends.result)) list
    ∙ ap (λ y. behind before (with_parts c.args.section.now (section_form p h b d a) y)) (c.ends_then-ends.ensures ∙ ap (ends_then c.args.jumpy o.ends) e)

pub write_scattered-returns-clause-place : goal.write_scattered-returns-clause-place
write_scattered-returns-clause-place t c =
    let p = plan_of c.args.plan.now in
    let h = here_of c.args.here in
    let e = sections_of c.args.sections.now in
    let s = selector_tree c.args.selector.now in
    let v = ap sections_of c.as_slice-parts.ensures.value in
    let count = c.len-count.ensures.value ∙ ap length
    (c.in_ok-cases.ensures.numbers ∙ ap (λ z. map (case_number (switch_kind s)) (cases_among (switch_labels z))) v) in
    let entered = inside_scattered s e h c.len-count.result (here_of c.in_ok-start.start) c.requires count c.in_ok-start.ensures.construct
    c.in_ok-start.ensures.case c.in_ok-start.ensures.variable in
    IfOk-weaker c.write_spread.result _ _ (λ it f. f ∙ ap (λ z. past_among z (here_of c.in_ok-start.start)) v ∙ ap (past_among e) entered ∙
    past_Switch s e h) c.write_spread.ensures.place

pub write_scattered-returns-clause-items : goal.write_scattered-returns-clause-items
write_scattered-returns-clause-items t c =
    let p = plan_of c.args.plan.now in
    let h = here_of c.args.here in
    let out = trees_of c.args.out.now in
    let e = sections_of c.args.sections.now in
    let s = selector_tree c.args.selector.now in
    let d = aim_of c.args.continues in
    let cs = c.in_ok-cases.cases in
    let v = ap sections_of c.as_slice-parts.ensures.value in
    let numbers = c.in_ok-cases.ensures.numbers ∙ ap (λ z. map (case_number (switch_kind s)) (cases_among (switch_labels z))) v in
    let same = cases_are cs s e h c.in_ok-cases.ensures.bound c.in_ok-cases.ensures.kind c.in_ok-cases.ensures.first c.in_ok-cases.ensures.construct numbers in
    let count = c.len-count.ensures.value ∙ ap length numbers in
    let entered = inside_scattered s e h c.len-count.result (here_of c.in_ok-start.start) c.requires count c.in_ok-start.ensures.construct
    c.in_ok-start.ensures.case c.in_ok-start.ensures.variable in
    on_ok_weaker c.write_spread.result (λ f. scattered_is c.args.plan.now cs s e h (here_of c.in_ok-start.start) (aim_of c.in_ok-breaks.breaks) d out
    (trees_of c.add_choice.new.out) _ same
    (c.in_ok-add_choice.ensures ∙ ap (λ z. join out (Then (Plain.Evaluate (assign_number cs.kind c.args.here.variable (selector_source s)))
    (join (number_tests cs.kind c.args.here.variable (number_label c.args.plan.now cs) cs.numbers) (one (Plain.Goto (otherwise_label p h z)))))) v)
    (f ∙ ap (λ z. join (trees_of c.add_choice.new.out) (spread p (here_of c.in_ok-start.start) (aim_of c.in_ok-breaks.breaks) d
    (case_names c.args.plan.now cs) z)) v)
    entered (c.in_ok-breaks.ensures ∙ ap (scatter_aim p h) v)) c.write_spread.ensures.items

pub write_spread-loop-i-preserved : goal.write_spread-loop-i-preserved
write_spread-loop-i-preserved t c =
    let p = plan_of c.args.plan.now in
    let h = here_of c.args.here in
    let out = trees_of c.args.out.now in
    let b = aim_of c.args.scope.breaks in
    let d = aim_of c.args.scope.continues in
    let xs = c.args.sections.now in
    let i = c.loop-i.i in
    let x = c.index-sections-i.result in
    let g = here_of c.loop-i.here in
    record {
      place = place_step_in xs i x c.loop-i-test.true c.index-sections-i.is g _ _ c.in_ok-here.ensures.place c.loop-i.invariant.place;
      items = spread_step p b d (case_names c.args.plan.now c.args.cases.now) xs i x c.loop-i-test.true c.index-sections-i.is g
          _ (trees_of c.loop-i.out) (trees_of c.write_part.new.out) _ c.in_ok-here.ensures.place c.in_ok-here.ensures.items c.loop-i.invariant.items;
    }

pub write_spread-returns-clause-place : goal.write_spread-returns-clause-place
write_spread-returns-clause-place t c =
    place_end_in c.args.sections.now c.loop-i.i c.loop-i-test.false (here_of c.loop-i.here) _ c.loop-i.invariant.place

pub write_spread-returns-clause-items : goal.write_spread-returns-clause-items
write_spread-returns-clause-items t c =
    let p = plan_of c.args.plan.now in
    let h = here_of c.args.here in
    let out = trees_of c.args.out.now in
    let b = aim_of c.args.scope.breaks in
    let d = aim_of c.args.scope.continues in
    c.in_ok-add_mark.ensures ∙ spread_end p b d (case_names c.args.plan.now c.args.cases.now) c.args.sections.now c.loop-i.i c.loop-i-test.false
    (here_of c.loop-i.here) (trees_of c.loop-i.out) _ c.loop-i.invariant.items

pub write_part-returns-clause-place : goal.write_part-returns-clause-place
write_part-returns-clause-place t c =
    let p = plan_of c.args.plan.now in
    let h = here_of c.args.here in
    c.in_ok-here.ensures.place ∙ ap (λ z. past (trees_of z) h) c.as_slice-list.ensures.value

pub write_part-returns-clause-items : goal.write_part-returns-clause-items
write_part-returns-clause-items t c =
    let p = plan_of c.args.plan.now in
    let h = here_of c.args.here in
    let out = trees_of c.args.out.now in
    let b = aim_of c.args.scope.breaks in
    let d = aim_of c.args.scope.continues in
    let o = out-Section c.args.section.now in
    let names = case_names c.args.plan.now c.args.cases.now in
    let m = case_marks names (expression_trees o.cases) o.default in
    let end = end_goto o.ends b in
    let y = flat p h b d (arrivals_if true names) (trees_of o.list) in
    let first = c.in_ok-add_case_marks.ensures ∙ ap (λ z. join out (case_marks names (expression_trees z) o.default)) c.as_slice-given.ensures.value in
    let second = c.in_ok-here.ensures.items ∙ ap (λ z. join (trees_of c.add_case_marks.new.out)
    (flat p h b d (arrivals_of c.args.plan.now c.args.cases.now) (trees_of z))) c.as_slice-list.ensures.value
    ∙ ap (λ z. join (trees_of c.add_case_marks.new.out) (flat p h b d (arrivals_if z names) (trees_of o.list))) c.requires in
    c.in_ok-add_end.ensures ∙ ap (λ z. join z end) (second ∙ ap (λ z. join z y) first) ∙ joined (join out m) y end ∙ joined out m (join y end)

pub write_switch-returns-then-is_scattered-clause-items : goal.write_switch-returns-then-is_scattered-clause-items
write_switch-returns-then-is_scattered-clause-items t c =
    let p = plan_of c.args.plan.now in
    let h = here_of c.args.here in
    let out = trees_of c.args.out.now in
    let s = selector_tree c.args.selector.now in
    let e = sections_of c.args.sections.now in
    let d = aim_of c.args.continues in
    let q = ap (λ z. is_scattered (sections_of z)) (sym c.as_slice.ensures.value) ∙ sym c.is_scattered.ensures ∙ c.if-is_scattered.true in
    on_ok_weaker c.write_scattered.result (λ f. f ∙ sym (ap (λ y. join out (cond y (scattered_form p h d s e) (kept_form p h d s e))) q))
    c.write_scattered.ensures.items

pub write_switch-returns-else-is_scattered-clause-items : goal.write_switch-returns-else-is_scattered-clause-items
write_switch-returns-else-is_scattered-clause-items t c =
    let p = plan_of c.args.plan.now in
    let h = here_of c.args.here in
    let out = trees_of c.args.out.now in
    let s = selector_tree c.args.selector.now in
    let e = sections_of c.args.sections.now in
    let d = aim_of c.args.continues in
    let q = ap (λ z. is_scattered (sections_of z)) (sym c.as_slice.ensures.value) ∙ sym c.is_scattered.ensures ∙ c.if-is_scattered.false in
    on_ok_weaker c.write_kept.result (λ f. f ∙ sym (ap (λ y. join out (cond y (scattered_form p h d s e) (kept_form p h d s e))) q)) c.write_kept.ensures.items

pub write_switch-returns-else-is_scattered-clause-place : goal.write_switch-returns-else-is_scattered-clause-place
write_switch-returns-else-is_scattered-clause-place t c =
    let p = plan_of c.args.plan.now in
    let h = here_of c.args.here in
    let s = selector_tree c.args.selector.now in
    let e = sections_of c.args.sections.now in
    let q = ap (λ z. is_scattered (sections_of z)) (sym c.as_slice.ensures.value) ∙ sym c.is_scattered.ensures ∙ c.if-is_scattered.false in
    IfOk-weaker c.write_kept.result _ _ (λ it f. f ∙ past_kept s e h q) c.write_kept.ensures.place

pub write_item-returns-in-While-clause-place : goal.write_item-returns-in-While-clause-place
write_item-returns-in-While-clause-place t c =
    let p = plan_of c.args.plan.now in
    let h = here_of c.args.here in
    let e = ap tree_at c.in-While.is ∙ at-While c.in-While.test c.in-While.a in
    IfOk-weaker c.write_while.result _ _ (λ it f. f ∙ sym (ap (λ y. past_item y h) e)) c.write_while.ensures.place

pub write_item-returns-in-While-clause-items : goal.write_item-returns-in-While-clause-items
write_item-returns-in-While-clause-items t c =
    let p = plan_of c.args.plan.now in
    let h = here_of c.args.here in
    let out = trees_of c.args.out.now in
    let b = aim_of c.args.scope.breaks in
    let d = aim_of c.args.scope.continues in
    let r = arrivals_of c.args.plan.now c.args.cases.now in
    let e = ap tree_at c.in-While.is ∙ at-While c.in-While.test c.in-While.a in
    on_ok_weaker c.write_while.result (λ f. f ∙ sym (ap (λ y. join out (flat_item p h b d r y)) e)) c.write_while.ensures.items

pub write_item-returns-in-Do-clause-place : goal.write_item-returns-in-Do-clause-place
write_item-returns-in-Do-clause-place t c =
    let p = plan_of c.args.plan.now in
    let h = here_of c.args.here in
    let e = ap tree_at c.in-Do.is ∙ at-Do c.in-Do.a c.in-Do.test in
    IfOk-weaker c.write_do.result _ _ (λ it f. f ∙ sym (ap (λ y. past_item y h) e)) c.write_do.ensures.place

pub write_item-returns-in-Do-clause-items : goal.write_item-returns-in-Do-clause-items
write_item-returns-in-Do-clause-items t c =
    let p = plan_of c.args.plan.now in
    let h = here_of c.args.here in
    let out = trees_of c.args.out.now in
    let b = aim_of c.args.scope.breaks in
    let d = aim_of c.args.scope.continues in
    let r = arrivals_of c.args.plan.now c.args.cases.now in
    let e = ap tree_at c.in-Do.is ∙ at-Do c.in-Do.a c.in-Do.test in
    on_ok_weaker c.write_do.result (λ f. f ∙ sym (ap (λ y. join out (flat_item p h b d r y)) e)) c.write_do.ensures.items

pub write_item-returns-in-Switch-clause-place : goal.write_item-returns-in-Switch-clause-place
write_item-returns-in-Switch-clause-place t c =
    let p = plan_of c.args.plan.now in
    let h = here_of c.args.here in
    let e = ap tree_at c.in-Switch.is ∙ at-Switch c.in-Switch.selector c.in-Switch.sections in
    IfOk-weaker c.write_switch.result _ _ (λ it f. f ∙ sym (ap (λ y. past_item y h) e)) c.write_switch.ensures.place

pub write_item-returns-in-Switch-clause-items : goal.write_item-returns-in-Switch-clause-items
write_item-returns-in-Switch-clause-items t c =
    let p = plan_of c.args.plan.now in
    let h = here_of c.args.here in
    let out = trees_of c.args.out.now in
    let b = aim_of c.args.scope.breaks in
    let d = aim_of c.args.scope.continues in
    let r = arrivals_of c.args.plan.now c.args.cases.now in
    let e = ap tree_at c.in-Switch.is ∙ at-Switch c.in-Switch.selector c.in-Switch.sections in
    on_ok_weaker c.write_switch.result (λ f. f ∙ ap (join out)
    (switch_item p h b d r (selector_tree c.in-Switch.selector) (sections_of c.in-Switch.sections)) ∙
    sym (ap (λ y. join out (flat_item p h b d r y)) e)) c.write_switch.ensures.items

pub write_item-returns-in-Block-clause-place : goal.write_item-returns-in-Block-clause-place
write_item-returns-in-Block-clause-place t c =
    let p = plan_of c.args.plan.now in
    let h = here_of c.args.here in
    let e = ap tree_at c.in-Block.is ∙ at-Block c.in-Block.a in
    IfOk-weaker c.write_items.result _ _ (λ it f. f ∙ ap (λ z. past (trees_of z) h) c.as_slice.ensures.value ∙ past_Block (trees_of c.in-Block.a) h ∙
    sym (ap (λ y. past_item y h) e)) c.write_items.ensures.place

pub write_item-returns-in-Block-clause-items : goal.write_item-returns-in-Block-clause-items
write_item-returns-in-Block-clause-items t c =
    let p = plan_of c.args.plan.now in
    let h = here_of c.args.here in
    let out = trees_of c.args.out.now in
    let b = aim_of c.args.scope.breaks in
    let d = aim_of c.args.scope.continues in
    let r = arrivals_of c.args.plan.now c.args.cases.now in
    let e = ap tree_at c.in-Block.is ∙ at-Block c.in-Block.a in
    on_ok_weaker c.write_items.result (λ f. f ∙ ap (λ z. join out (flat p h b d r (trees_of z))) c.as_slice.ensures.value ∙
    sym (ap (λ y. join out (flat_item p h b d r y)) e)) c.write_items.ensures.items

pub write_item-returns-in-Local-clause-place : goal.write_item-returns-in-Local-clause-place
write_item-returns-in-Local-clause-place t c =
    let p = plan_of c.args.plan.now in
    let h = here_of c.args.here in
    let e = ap tree_at c.in-Local.is ∙ at-Local c.in-Local.slot c.in-Local.given in
    IfOk-weaker c.write_local.result _ _ (λ it f. ap here_of f ∙ sym (still h) ∙ sym (ap (λ y. past_item y h) e)) c.write_local.ensures.place

pub write_item-returns-in-Local-clause-items : goal.write_item-returns-in-Local-clause-items
write_item-returns-in-Local-clause-items t c =
    let p = plan_of c.args.plan.now in
    let h = here_of c.args.here in
    let out = trees_of c.args.out.now in
    let b = aim_of c.args.scope.breaks in
    let d = aim_of c.args.scope.continues in
    let r = arrivals_of c.args.plan.now c.args.cases.now in
    let e = ap tree_at c.in-Local.is ∙ at-Local c.in-Local.slot c.in-Local.given in
    on_ok_weaker c.write_local.result (λ f. f ∙ ap (join out) (local_is p h b d r c.in-Local.slot (option_map expression_trees c.in-Local.given)) ∙
    sym (ap (λ y. join out (flat_item p h b d r y)) e)) c.write_local.ensures.items

pub write_item-returns-in-Break-clause-place : goal.write_item-returns-in-Break-clause-place
write_item-returns-in-Break-clause-place t c =
    let p = plan_of c.args.plan.now in
    let h = here_of c.args.here in
    let e = ap tree_at c.in-Break.is ∙ at-Break in
    IfOk-weaker c.write_exit.result _ _ (λ it f. ap here_of f ∙ sym (still h) ∙ sym (ap (λ y. past_item y h) e)) c.write_exit.ensures.place

pub write_item-returns-in-Break-clause-items : goal.write_item-returns-in-Break-clause-items
write_item-returns-in-Break-clause-items t c =
    let p = plan_of c.args.plan.now in
    let h = here_of c.args.here in
    let out = trees_of c.args.out.now in
    let b = aim_of c.args.scope.breaks in
    let d = aim_of c.args.scope.continues in
    let r = arrivals_of c.args.plan.now c.args.cases.now in
    let e = ap tree_at c.in-Break.is ∙ at-Break in
    on_ok_weaker c.write_exit.result (λ f. f ∙ sym (ap (λ y. join out (flat_item p h b d r y)) e)) c.write_exit.ensures.items

pub write_item-returns-in-Continue-clause-place : goal.write_item-returns-in-Continue-clause-place
write_item-returns-in-Continue-clause-place t c =
    let p = plan_of c.args.plan.now in
    let h = here_of c.args.here in
    let e = ap tree_at c.in-Continue.is ∙ at-Continue in
    IfOk-weaker c.write_exit-in-Continue.result _ _ (λ it f. ap here_of f ∙ sym (still h) ∙ sym (ap (λ y. past_item y h) e))
    c.write_exit-in-Continue.ensures.place

pub write_item-returns-in-Continue-clause-items : goal.write_item-returns-in-Continue-clause-items
write_item-returns-in-Continue-clause-items t c =
    let p = plan_of c.args.plan.now in
    let h = here_of c.args.here in
    let out = trees_of c.args.out.now in
    let b = aim_of c.args.scope.breaks in
    let d = aim_of c.args.scope.continues in
    let r = arrivals_of c.args.plan.now c.args.cases.now in
    let e = ap tree_at c.in-Continue.is ∙ at-Continue in
    on_ok_weaker c.write_exit-in-Continue.result (λ f. f ∙ sym (ap (λ y. join out (flat_item p h b d r y)) e)) c.write_exit-in-Continue.ensures.items

pub write_item-returns-in-Goto-clause-place : goal.write_item-returns-in-Goto-clause-place
write_item-returns-in-Goto-clause-place t c =
    let p = plan_of c.args.plan.now in
    let h = here_of c.args.here in
    let e = ap tree_at c.in-Goto.is ∙ at-Goto c.in-Goto.label in
    IfOk-weaker c.write_goto.result _ _ (λ it f. ap here_of f ∙ sym (still h) ∙ sym (ap (λ y. past_item y h) e)) c.write_goto.ensures.place

pub write_item-returns-in-Goto-clause-items : goal.write_item-returns-in-Goto-clause-items
write_item-returns-in-Goto-clause-items t c =
    let p = plan_of c.args.plan.now in
    let h = here_of c.args.here in
    let out = trees_of c.args.out.now in
    let b = aim_of c.args.scope.breaks in
    let d = aim_of c.args.scope.continues in
    let r = arrivals_of c.args.plan.now c.args.cases.now in
    let e = ap tree_at c.in-Goto.is ∙ at-Goto c.in-Goto.label in
    on_ok_weaker c.write_goto.result (λ f. f ∙ sym (ap (λ y. join out (flat_item p h b d r y)) e)) c.write_goto.ensures.items

pub write_item-returns-in-Mark-clause-place : goal.write_item-returns-in-Mark-clause-place
write_item-returns-in-Mark-clause-place t c =
    let p = plan_of c.args.plan.now in
    let h = here_of c.args.here in
    let e = ap tree_at c.in-Mark.is ∙ at-Mark c.in-Mark.label in
    IfOk-weaker c.write_label.result _ _ (λ it f. ap here_of f ∙ sym (still h) ∙ sym (ap (λ y. past_item y h) e)) c.write_label.ensures.place

pub write_item-returns-in-Mark-clause-items : goal.write_item-returns-in-Mark-clause-items
write_item-returns-in-Mark-clause-items t c =
    let p = plan_of c.args.plan.now in
    let h = here_of c.args.here in
    let out = trees_of c.args.out.now in
    let b = aim_of c.args.scope.breaks in
    let d = aim_of c.args.scope.continues in
    let r = arrivals_of c.args.plan.now c.args.cases.now in
    let e = ap tree_at c.in-Mark.is ∙ at-Mark c.in-Mark.label in
    on_ok_weaker c.write_label.result (λ f. f ∙ sym (ap (λ y. join out (flat_item p h b d r y)) e)) c.write_label.ensures.items

pub write_item-returns-in-Arrival-clause-place : goal.write_item-returns-in-Arrival-clause-place
write_item-returns-in-Arrival-clause-place t c =
    let p = plan_of c.args.plan.now in
    let h = here_of c.args.here in
    let e = ap tree_at c.in-Arrival.is ∙ at-Arrival c.in-Arrival.case in
    IfOk-weaker c.write_arrival.result _ _ (λ it f. ap here_of f ∙ sym (still h) ∙ sym (ap (λ y. past_item y h) e)) c.write_arrival.ensures.place

pub write_item-returns-in-Arrival-clause-items : goal.write_item-returns-in-Arrival-clause-items
write_item-returns-in-Arrival-clause-items t c =
    let p = plan_of c.args.plan.now in
    let h = here_of c.args.here in
    let out = trees_of c.args.out.now in
    let b = aim_of c.args.scope.breaks in
    let d = aim_of c.args.scope.continues in
    let r = arrivals_of c.args.plan.now c.args.cases.now in
    let e = ap tree_at c.in-Arrival.is ∙ at-Arrival c.in-Arrival.case in
    on_ok_weaker c.write_arrival.result (λ f. f ∙ sym (ap (λ y. join out (flat_item p h b d r y)) e)) c.write_arrival.ensures.items

pub write_item-returns-in_default : goal.write_item-returns-in_default
write_item-returns-in_default t c =
    let p = plan_of c.args.plan.now in
    let h = here_of c.args.here in
    let out = trees_of c.args.out.now in
    let b = aim_of c.args.scope.breaks in
    let d = aim_of c.args.scope.continues in
    let r = arrivals_of c.args.plan.now c.args.cases.now in
    let same =
    same_item p h b d r c.args.item.now c.in_default.not-If c.in_default.not-While c.in_default.not-Do c.in_default.not-For c.in_default.not-Switch
    c.in_default.not-Block
    c.in_default.not-Local c.in_default.not-Break c.in_default.not-Continue c.in_default.not-Goto c.in_default.not-Mark c.in_default.not-Arrival in
    record {
      place = IfOk-weaker c.write_same.result _ _ (λ it f. ap here_of f ∙ sym same.still) c.write_same.ensures.place;
      items = on_ok_weaker c.write_same.result (λ f. f ∙ ap (join out) (sym same.stays)) c.write_same.ensures.items;
    }

pub write_item-returns-in_ok-after-in-For-clause-place : goal.write_item-returns-in_ok-after-in-For-clause-place
write_item-returns-in_ok-after-in-For-clause-place t c =
    let p = plan_of c.args.plan.now in
    let h = here_of c.args.here in
    let e = ap tree_at c.in-For.is ∙ at-For c.in-For.first c.in-For.test c.in-For.third c.in-For.a in
    let a = trees_of c.in-For.a in
    let f = trees_of c.in-For.first in
    let t' = option_map expression_tree c.in-For.test in
    let u = option_map expression_tree c.in-For.third in
    IfOk-weaker c.write_for.result _ _ (λ it q. q ∙ ap (past a) c.in_ok-after-in-For.ensures.place ∙ past_For f t' u a h ∙
    sym (ap (λ y. past_item y h) e)) c.write_for.ensures.place

pub write_item-returns-in_ok-after-in-For-clause-items : goal.write_item-returns-in_ok-after-in-For-clause-items
write_item-returns-in_ok-after-in-For-clause-items t c =
    let p = plan_of c.args.plan.now in
    let h = here_of c.args.here in
    let out = trees_of c.args.out.now in
    let b = aim_of c.args.scope.breaks in
    let d = aim_of c.args.scope.continues in
    let r = arrivals_of c.args.plan.now c.args.cases.now in
    let e = ap tree_at c.in-For.is ∙ at-For c.in-For.first c.in-For.test c.in-For.third c.in-For.a in
    let a = trees_of c.in-For.a in
    let f = trees_of c.in-For.first in
    let t' = option_map expression_tree c.in-For.test in
    let u = option_map expression_tree c.in-For.third in
    let k = c.args.here.construct in
    let g = here_of c.in_ok-after-in-For.after in
    let y = flat p (entered_of h) b d NoArrival f in
    on_ok_weaker c.write_for.result (λ q. q ∙ ap (λ z. join z (for_form p k g r t' u a)) c.in_ok-after-in-For.ensures.items ∙
    joined out y (for_form p k g r t' u a)
    ∙ ap (λ w. join out (join y (for_form p k w r t' u a))) c.in_ok-after-in-For.ensures.place ∙ sym (ap (λ y. join out (flat_item p h b d r y)) e))
    c.write_for.ensures.items

pub write_item-returns-in_ok-second-in-If-clause-place : goal.write_item-returns-in_ok-second-in-If-clause-place
write_item-returns-in_ok-second-in-If-clause-place t c =
    let p = plan_of c.args.plan.now in
    let h = here_of c.args.here in
    let e = ap tree_at c.in-If.is ∙ at-If c.in-If.test c.in-If.a c.in-If.b in
    let t' = test_tree c.in-If.test in
    let a = trees_of c.in-If.a in
    let f = trees_of c.in-If.b in
    IfOk-weaker c.join_if.result _ _ (λ it q. ap here_of q ∙ c.in_ok-second-in-If.ensures.place ∙ ap (past f) c.in_ok-first-in-If.ensures.place ∙
    past_If t' a f h ∙ sym (ap (λ y. past_item y h) e)) c.join_if.ensures.place

pub write_item-returns-in_ok-second-in-If-clause-items : goal.write_item-returns-in_ok-second-in-If-clause-items
write_item-returns-in_ok-second-in-If-clause-items t c =
    let p = plan_of c.args.plan.now in
    let h = here_of c.args.here in
    let out = trees_of c.args.out.now in
    let b = aim_of c.args.scope.breaks in
    let d = aim_of c.args.scope.continues in
    let r = arrivals_of c.args.plan.now c.args.cases.now in
    let e = ap tree_at c.in-If.is ∙ at-If c.in-If.test c.in-If.a c.in-If.b in
    let t' = test_tree c.in-If.test in
    let a = trees_of c.in-If.a in
    let f = trees_of c.in-If.b in
    on_ok_weaker c.join_if.result (λ q. q ∙ ap (λ z. join out (one (Plain.If t' z (trees_of c.in_ok-second-in-If.second.items))))
    c.in_ok-first-in-If.ensures.items
    ∙ ap (λ z. join out (one (Plain.If t' (flat p h b d r a) z)))
    (c.in_ok-second-in-If.ensures.items ∙ ap (λ g. flat p g b d r f) c.in_ok-first-in-If.ensures.place)
    ∙ sym (ap (λ y. join out (flat_item p h b d r y)) e)) c.join_if.ensures.items
