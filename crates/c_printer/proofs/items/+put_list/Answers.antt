use Rattle.std.proofs.Common.{◌≡◌, ◌+◌, drop, map, subst}
use Rattle.c_tree.specs.TextItems.{printed, printed_section, sections_text}
use Rattle.c_tree.specs.TextPieces.{nothing}
use Rattle.c_printer.specs.Writing.{StandsBefore}
use Rattle.c_printer.proofs.Nodes.{then, reads}
use Rattle.c_printer.proofs.ItemTexts.{evaluate_lines, return_lines, if_lines, while_lines, do_lines, for_lines, switch_lines, block_lines, local_lines, goto_lines, mark_lines, arm_lines, leap_lines, land_lines, arrival_lines, else_lone, else_apart, sections_one}
use Rattle.c_printer.proofs.items.+put_list.Goals as goal

pub put_lines-returns-in-Evaluate : goal.put_lines-returns-in-Evaluate
put_lines-returns-in-Evaluate g t c =
    reads _ _ _ _ (evaluate_lines c.args.function.now c.args.item.now c.args.depth _ c.in-Evaluate.is)
    c.put_evaluation.ensures

pub put_lines-returns-in-Return : goal.put_lines-returns-in-Return
put_lines-returns-in-Return g t c =
    reads _ _ _ _ (return_lines c.args.function.now c.args.item.now c.args.depth _ c.in-Return.is)
    c.put_return.ensures

pub put_lines-returns-in-If : goal.put_lines-returns-in-If
put_lines-returns-in-If g t c =
    reads _ _ _ _ (if_lines c.args.function.now c.args.item.now c.args.depth _ _ _ _ _ c.in-If.is c.as_slice.ensures.value c.as_slice-in-If.ensures.value)
    (then _ _ _ _ _ c.put_tested.ensures
    (then _ _ _ _ _ c.put_braced.ensures
    c.put_else.ensures))

pub put_lines-returns-in-While : goal.put_lines-returns-in-While
put_lines-returns-in-While g t c =
    reads _ _ _ _ (while_lines c.args.function.now c.args.item.now c.args.depth _ _ _ c.in-While.is c.as_slice-in-While.ensures.value)
    (then _ _ _ _ _ c.put_tested-in-While.ensures
    c.put_block.ensures)

pub put_lines-returns-in-Do : goal.put_lines-returns-in-Do
put_lines-returns-in-Do g t c =
    reads _ _ _ _ (do_lines c.args.function.now c.args.item.now c.args.depth _ _ _ c.in-Do.is c.as_slice-in-Do.ensures.value)
    (then _ _ _ _ _ c.put_keyword.ensures
    (then _ _ _ _ _ c.put_braced-in-Do.ensures
    c.put_repeat.ensures))

pub put_lines-returns-in-For : goal.put_lines-returns-in-For
put_lines-returns-in-For g t c =
    reads _ _ _ _ (for_lines c.args.function.now c.args.item.now c.args.depth _ _ _ _ _ _ c.in-For.is c.as_slice-in-For.ensures.value
    c.as_slice-in-For-2.ensures.value)
    (then _ _ _ _ _ c.put_for.ensures
    c.put_block-in-For.ensures)

pub put_lines-returns-in-Switch : goal.put_lines-returns-in-Switch
put_lines-returns-in-Switch g t c =
    reads _ _ _ _ (switch_lines c.args.function.now c.args.item.now c.args.depth _ _ _ c.in-Switch.is c.as_slice-in-Switch.ensures.value)
    (then _ _ _ _ _ c.put_switch.ensures
    (then _ _ _ _ _ c.put_sections.ensures
    c.put_close_line.ensures))

pub put_lines-returns-in-Block : goal.put_lines-returns-in-Block
put_lines-returns-in-Block g t c =
    reads _ _ _ _ (block_lines c.args.function.now c.args.item.now c.args.depth _ _ c.in-Block.is c.as_slice-in-Block.ensures.value)
    c.put_block-in-Block.ensures

pub put_lines-returns-in-Local : goal.put_lines-returns-in-Local
put_lines-returns-in-Local g t c =
    reads _ _ _ _ (local_lines c.args.function.now c.args.item.now c.args.depth _ _ c.in-Local.is)
    c.put_local_line.ensures

pub put_lines-returns-in-Mark : goal.put_lines-returns-in-Mark
put_lines-returns-in-Mark g t c =
    reads _ _ _ _ (mark_lines c.args.function.now c.args.item.now c.args.depth _ c.in-Mark.is)
    c.put_mark.ensures

pub put_else-returns-then-is_lone_if : goal.put_else-returns-then-is_lone_if
put_else-returns-then-is_lone_if g t c =
    reads _ _ _ _ (else_lone c.args.function.now _ _ _ _ c.index-items-0.is (c.is_lone_if.ensures c.args.function.now) c.if-is_lone_if.true)
    (then _ _ _ _ _ c.put_space.ensures
    (then _ _ _ _ _ c.put_keyword.ensures
    c.put_lines.ensures))

pub put_else-returns-else-is_lone_if : goal.put_else-returns-else-is_lone_if
put_else-returns-else-is_lone_if g t c =
    reads _ _ _ _ (else_apart c.args.function.now _ _ _ _ c.is_empty.ensures c.if-is_empty.false (c.is_lone_if.ensures c.args.function.now)
    c.if-is_lone_if.false)
    (then _ _ _ _ _ c.put_space.ensures
    (then _ _ _ _ _ c.put_keyword.ensures
    c.put_block.ensures))

pub put_sections-loop-i-preserved : goal.put_sections-loop-i-preserved
put_sections-loop-i-preserved g t c start whole rest h =
    c.put_section.ensures start whole (sections_text (map (printed_section c.args.function.now) (drop (c.loop-i.i + 1) c.args.sections.now)) c.args.depth rest)
    (subst (λ ps. StandsBefore start whole (g.W.Output.progress c.loop-i.out) ps)
    (sections_one c.args.function.now c.args.sections.now c.loop-i.i c.index-sections-i.result c.args.depth rest c.loop-i-test.true c.index-sections-i.is)
    (c.loop-i.invariant start whole rest h))

pub put_lines-returns-in-Goto : goal.put_lines-returns-in-Goto
put_lines-returns-in-Goto g t c =
    reads _ _ _ _ (goto_lines c.args.function.now c.args.item.now c.args.depth _ c.in-Goto.is)
    c.put_goto.ensures

-- Arm, Leap, Land and Arrival: these four goals have no names of their own, so each answer serves any of them
pub put_lines-returns : goal.put_lines-returns
put_lines-returns g t c =
    let e : nothing ≡ (printed c.args.function.now c.args.item.now).lines c.args.depth =
    search (
      arm_lines c.args.function.now c.args.item.now c.args.depth,
      leap_lines c.args.function.now c.args.item.now c.args.depth,
      land_lines c.args.function.now c.args.item.now c.args.depth,
      arrival_lines c.args.function.now c.args.item.now c.args.depth,
    ) in
    reads _ _ _ _ e (λ start whole rest h. h)

pub put_lines-returns-2 : goal.put_lines-returns-2
put_lines-returns-2 g t c =
    let e : nothing ≡ (printed c.args.function.now c.args.item.now).lines c.args.depth =
    search (
      arm_lines c.args.function.now c.args.item.now c.args.depth,
      leap_lines c.args.function.now c.args.item.now c.args.depth,
      land_lines c.args.function.now c.args.item.now c.args.depth,
      arrival_lines c.args.function.now c.args.item.now c.args.depth,
    ) in
    reads _ _ _ _ e (λ start whole rest h. h)

pub put_lines-returns-3 : goal.put_lines-returns-3
put_lines-returns-3 g t c =
    let e : nothing ≡ (printed c.args.function.now c.args.item.now).lines c.args.depth =
    search (
      arm_lines c.args.function.now c.args.item.now c.args.depth,
      leap_lines c.args.function.now c.args.item.now c.args.depth,
      land_lines c.args.function.now c.args.item.now c.args.depth,
      arrival_lines c.args.function.now c.args.item.now c.args.depth,
    ) in
    reads _ _ _ _ e (λ start whole rest h. h)

pub put_lines-returns-4 : goal.put_lines-returns-4
put_lines-returns-4 g t c =
    let e : nothing ≡ (printed c.args.function.now c.args.item.now).lines c.args.depth =
    search (
      arm_lines c.args.function.now c.args.item.now c.args.depth,
      leap_lines c.args.function.now c.args.item.now c.args.depth,
      land_lines c.args.function.now c.args.item.now c.args.depth,
      arrival_lines c.args.function.now c.args.item.now c.args.depth,
    ) in
    reads _ _ _ _ e (λ start whole rest h. h)
