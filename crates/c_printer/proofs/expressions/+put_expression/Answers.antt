use Rattle.std.proofs.Common.{sym, ◌∙◌, rules}
use Rattle.c_tree.specs.TextPieces.{number}
use Rattle.c_printer.specs.Writing.{Prints}
use Rattle.c_printer.proofs.Nodes.{then, reads, expression_of, number_text, character_text, read_text, unary_text, cast_text, binary_text, conditional_text, assign_text, update_text, count_text, comma_text, call_text}
use Rattle.c_printer.proofs.expressions.+put_expression.Goals as goal

pub put_expression-returns : goal.put_expression-returns
put_expression-returns g t c =
    reads _ _ _ _ (sym (c.is_bracketed-bracketed.ensures c.args.slots.now c.args.e.now.kind) ∙ expression_of c.args.slots.now c.args.e.now c.args.need)
    (then _ _ _ _ _ c.put_bracket.ensures
    (then _ _ _ _ _ c.put_node.ensures
    c.put_bracket-2.ensures))

pub put_node-returns-in-Number : goal.put_node-returns-in-Number
put_node-returns-in-Number g t c =
    let printed : Prints (g.W.Output.progress c.args.out.now) (g.W.Output.progress c.put_number.new.out) (number c.args.kind c.in-Number.n) =
    search (rules, c.put_number.ensures) in
    reads _ _ _ _ (number_text _ _ _ _ c.in-Number.is) printed

pub put_node-returns-in-Character : goal.put_node-returns-in-Character
put_node-returns-in-Character g t c =
    reads _ _ _ _ (character_text _ _ _ _ c.in-Character.is)
    c.put_character.ensures

pub put_node-returns-in-Read : goal.put_node-returns-in-Read
put_node-returns-in-Read g t c =
    reads _ _ _ _ (read_text _ _ _ _ c.in-Read.is)
    c.put_place.ensures

pub put_node-returns-in-Unary : goal.put_node-returns-in-Unary
put_node-returns-in-Unary g t c =
    reads _ _ _ _ (unary_text _ _ _ _ _ _ c.in-Unary.is c.get.ensures)
    c.put_unary.ensures

pub put_node-returns-in-Cast : goal.put_node-returns-in-Cast
put_node-returns-in-Cast g t c =
    reads _ _ _ _ (cast_text _ _ _ _ _ c.in-Cast.is c.get-in-Cast.ensures)
    c.put_cast.ensures

pub put_node-returns-in-Binary : goal.put_node-returns-in-Binary
put_node-returns-in-Binary g t c =
    reads _ _ _ _ (binary_text _ _ _ _ _ _ _ _ _ _ c.in-Binary.is c.get-in-Binary.ensures c.get-in-Binary-2.ensures c.binary_level-level.ensures.value
    c.binary_spelling.ensures)
    (then _ _ _ _ _ c.put_left.ensures
    c.put_expression.ensures)

pub put_node-returns-in-Conditional : goal.put_node-returns-in-Conditional
put_node-returns-in-Conditional g t c =
    reads _ _ _ _ (conditional_text _ _ _ _ _ _ _ _ _ c.in-Conditional.is c.get-in-Conditional.ensures c.get-in-Conditional-2.ensures
    c.get-in-Conditional-3.ensures)
    (then _ _ _ _ _ c.put_left-in-Conditional.ensures
    (then _ _ _ _ _ c.put_left-in-Conditional-2.ensures
    c.put_expression-in-Conditional.ensures))

pub put_node-returns-in-Assign : goal.put_node-returns-in-Assign
put_node-returns-in-Assign g t c =
    reads _ _ _ _ (assign_text _ _ _ _ _ _ c.in-Assign.is c.get-in-Assign.ensures)
    (then _ _ _ _ _ c.put_target.ensures
    c.put_expression-in-Assign.ensures)

pub put_node-returns-in-Update : goal.put_node-returns-in-Update
put_node-returns-in-Update g t c =
    reads _ _ _ _ (update_text _ _ _ _ _ _ _ _ c.in-Update.is c.get-in-Update.ensures c.update_spelling.ensures)
    (then _ _ _ _ _ c.put_target-in-Update.ensures
    c.put_expression-in-Update.ensures)

pub put_node-returns-in-Count : goal.put_node-returns-in-Count
put_node-returns-in-Count g t c =
    reads _ _ _ _ (count_text _ _ _ _ _ _ c.in-Count.is)
    c.put_count.ensures

pub put_node-returns-in-Comma : goal.put_node-returns-in-Comma
put_node-returns-in-Comma g t c =
    reads _ _ _ _ (comma_text _ _ _ _ _ _ _ c.in-Comma.is c.get-in-Comma.ensures c.get-in-Comma-2.ensures)
    (then _ _ _ _ _ c.put_expression-in-Comma.ensures
    (then _ _ _ _ _ c.put_comma.ensures
    c.put_expression-in-Comma-2.ensures))

pub put_node-returns-in-Call : goal.put_node-returns-in-Call
put_node-returns-in-Call g t c =
    reads _ _ _ _ (call_text _ _ _ _ _ _ _ c.in-Call.is c.as_str-in-Call.ensures c.as_slice-in-Call.ensures.value)
    c.put_call.ensures
