use Rattle.std.proofs.Common.{rules, map, refl, ap, ◌∙◌, arith}
use Rattle.c_tree.specs.ExpressionTrees.{expression_tree, node_tree}
use Rattle.tidy_laws.specs.Renamed.{renamed, renamed_node}
use Rattle.tidy_slots.specs.Numbers.{number}
use Rattle.tidy_slots.proofs.RemovalLaws.{Same, each_same, lent, whole, in-Var, in-Cell, in-Number, in-Character, in-EnumName, in-Text, in-Array, in-Read, in-Unary, in-Cast, in-Binary, in-Conditional, in-Assign, in-Update, in-Count, in-Comma, in-Call}
use Rattle.tidy_slots.proofs.LoopLaws.{refilled_same, all_done}
use Rattle.tidy_slots.proofs.renumber_expressions.+renumbering.Goals as goal

pub renumbered_node-returns-in-Array : goal.renumbered_node-returns-in-Array
renumbered_node-returns-in-Array t c =
    let g = number c.args.numbers.now in
    in-Array g c.args.node c.in-Array.home _ c.in-Array.is c.renumbered_home.ensures

pub renumbered_node-returns-in-Read : goal.renumbered_node-returns-in-Read
renumbered_node-returns-in-Read t c =
    let g = number c.args.numbers.now in
    in-Read g c.args.node c.in-Read.place _ c.in-Read.is c.renumbered_place.ensures

pub renumbered_node-returns-in-Unary : goal.renumbered_node-returns-in-Unary
renumbered_node-returns-in-Unary t c =
    let g = number c.args.numbers.now in
    in-Unary g c.args.node c.in-Unary.op c.in-Unary.a c.renumber_expression.new.e c.in-Unary.is
    (lent g c.in-Unary.a c.get_mut.result.now c.renumber_expression.new.e c.get_mut.ensures.value c.renumber_expression.ensures)

pub renumbered_node-returns-in-Cast : goal.renumbered_node-returns-in-Cast
renumbered_node-returns-in-Cast t c =
    let g = number c.args.numbers.now in
    in-Cast g c.args.node c.in-Cast.a c.renumber_expression-in-Cast.new.e c.in-Cast.is
    (lent g c.in-Cast.a c.get_mut-in-Cast.result.now c.renumber_expression-in-Cast.new.e c.get_mut-in-Cast.ensures.value
    c.renumber_expression-in-Cast.ensures)

pub renumbered_node-returns-in-Binary : goal.renumbered_node-returns-in-Binary
renumbered_node-returns-in-Binary t c =
    let g = number c.args.numbers.now in
    in-Binary g c.args.node c.in-Binary.op c.in-Binary.a c.in-Binary.b c.renumber_expression-in-Binary.new.e c.renumber_expression-in-Binary-2.new.e
    c.in-Binary.is
    (lent g c.in-Binary.a c.get_mut-in-Binary.result.now c.renumber_expression-in-Binary.new.e c.get_mut-in-Binary.ensures.value
    c.renumber_expression-in-Binary.ensures)
    (lent g c.in-Binary.b c.get_mut-in-Binary-2.result.now c.renumber_expression-in-Binary-2.new.e c.get_mut-in-Binary-2.ensures.value
    c.renumber_expression-in-Binary-2.ensures)

pub renumbered_node-returns-in-Comma : goal.renumbered_node-returns-in-Comma
renumbered_node-returns-in-Comma t c =
    let g = number c.args.numbers.now in
    in-Comma g c.args.node c.in-Comma.a c.in-Comma.b c.renumber_expression-in-Comma.new.e c.renumber_expression-in-Comma-2.new.e c.in-Comma.is
    (lent g c.in-Comma.a c.get_mut-in-Comma.result.now c.renumber_expression-in-Comma.new.e c.get_mut-in-Comma.ensures.value
    c.renumber_expression-in-Comma.ensures)
    (lent g c.in-Comma.b c.get_mut-in-Comma-2.result.now c.renumber_expression-in-Comma-2.new.e c.get_mut-in-Comma-2.ensures.value
    c.renumber_expression-in-Comma-2.ensures)

pub renumbered_node-returns-in-Conditional : goal.renumbered_node-returns-in-Conditional
renumbered_node-returns-in-Conditional t c =
    let g = number c.args.numbers.now in
    in-Conditional g c.args.node c.in-Conditional.a c.in-Conditional.b c.in-Conditional.c c.renumber_expression-in-Conditional.new.e
    c.renumber_expression-in-Conditional-2.new.e c.renumber_expression-in-Conditional-3.new.e c.in-Conditional.is
    (lent g c.in-Conditional.a c.get_mut-in-Conditional.result.now c.renumber_expression-in-Conditional.new.e c.get_mut-in-Conditional.ensures.value
    c.renumber_expression-in-Conditional.ensures)
    (lent g c.in-Conditional.b c.get_mut-in-Conditional-2.result.now c.renumber_expression-in-Conditional-2.new.e
    c.get_mut-in-Conditional-2.ensures.value c.renumber_expression-in-Conditional-2.ensures)
    (lent g c.in-Conditional.c c.get_mut-in-Conditional-3.result.now c.renumber_expression-in-Conditional-3.new.e
    c.get_mut-in-Conditional-3.ensures.value c.renumber_expression-in-Conditional-3.ensures)

pub renumbered_node-returns-in-Assign : goal.renumbered_node-returns-in-Assign
renumbered_node-returns-in-Assign t c =
    let g = number c.args.numbers.now in
    in-Assign g c.args.node c.in-Assign.place c.renumbered_place-in-Assign.result c.in-Assign.a c.renumber_expression-in-Assign.new.e c.in-Assign.is
    c.renumbered_place-in-Assign.ensures
    (lent g c.in-Assign.a c.get_mut-in-Assign.result.now c.renumber_expression-in-Assign.new.e c.get_mut-in-Assign.ensures.value
    c.renumber_expression-in-Assign.ensures)

pub renumbered_node-returns-in-Update : goal.renumbered_node-returns-in-Update
renumbered_node-returns-in-Update t c =
    let g = number c.args.numbers.now in
    in-Update g c.args.node c.in-Update.op c.in-Update.place c.renumbered_place-in-Update.result c.in-Update.a c.renumber_expression-in-Update.new.e
    c.in-Update.is c.renumbered_place-in-Update.ensures
    (lent g c.in-Update.a c.get_mut-in-Update.result.now c.renumber_expression-in-Update.new.e c.get_mut-in-Update.ensures.value
    c.renumber_expression-in-Update.ensures)

pub renumbered_node-returns-in-Count : goal.renumbered_node-returns-in-Count
renumbered_node-returns-in-Count t c =
    let g = number c.args.numbers.now in
    in-Count g c.args.node c.in-Count.place _ c.in-Count.up c.in-Count.after c.in-Count.is c.renumbered_place-in-Count.ensures

pub renumbered_node-returns-in-Call : goal.renumbered_node-returns-in-Call
renumbered_node-returns-in-Call t c =
    let g = number c.args.numbers.now in
    in-Call g c.args.node c.in-Call.name c.in-Call.name c.in-Call.args _ c.in-Call.is refl
    (ap (map expression_tree) (refilled_same c.in-Call.args c.as_mut_slice.result.now c.renumber_each.new.items c.as_mut_slice.ensures.value
    c.renumber_each.ensures.as_long)
    ∙ c.renumber_each.ensures.made ∙ ap (λ z. map (renamed g) (map expression_tree z)) c.as_mut_slice.ensures.value)

pub renumbered_node-returns-in-Number : goal.renumbered_node-returns-in-Number
renumbered_node-returns-in-Number t c =
    let g = number c.args.numbers.now in
    in-Number g c.args.node c.in-Number.n _ c.in-Number.is (search rules)

pub renumbered_node-returns-in-Character : goal.renumbered_node-returns-in-Character
renumbered_node-returns-in-Character t c =
    let g = number c.args.numbers.now in
    in-Character g c.args.node c.in-Character.c c.in-Character.is

pub renumbered_node-returns-in-EnumName : goal.renumbered_node-returns-in-EnumName
renumbered_node-returns-in-EnumName t c =
    let g = number c.args.numbers.now in
    in-EnumName g c.args.node c.in-EnumName.name c.in-EnumName.name c.in-EnumName.n _ c.in-EnumName.is refl (search rules)

pub renumbered_node-returns-in-Text : goal.renumbered_node-returns-in-Text
renumbered_node-returns-in-Text t c =
    let g = number c.args.numbers.now in
    in-Text g c.args.node c.in-Text.text c.in-Text.text c.in-Text.is refl

pub renumbered_place-returns-in-Var : goal.renumbered_place-returns-in-Var
renumbered_place-returns-in-Var t c = in-Var (number c.args.numbers.now) c.args.place c.in-Var.home _ c.in-Var.is c.renumbered_home.ensures

pub renumbered_place-returns-in-Cell : goal.renumbered_place-returns-in-Cell
renumbered_place-returns-in-Cell t c =
    let g = number c.args.numbers.now in
    in-Cell g c.args.place c.in-Cell.home _ c.in-Cell.at c.renumber_expression.new.e c.in-Cell.is c.renumbered_home-in-Cell.ensures
    (lent g c.in-Cell.at c.get_mut.result.now c.renumber_expression.new.e c.get_mut.ensures.value c.renumber_expression.ensures)

pub renumber_expression-returns : goal.renumber_expression-returns
renumber_expression-returns t c =
    ap expression_tree c.replace-old.ensures.after
    ∙ whole (number c.args.numbers.now) c.args.e.now _ c.renumbered_node-node.result refl
    (c.renumbered_node-node.ensures ∙ ap (λ n. renamed_node (number c.args.numbers.now) (node_tree n)) c.replace-taken.ensures.value)

pub renumber_each-returns-clause-made : goal.renumber_each-returns-clause-made
renumber_each-returns-clause-made t c =
    let g = number c.args.numbers.now in
    each_same g c.args.items.now c.loop-i.items c.loop-i.invariant.1.0
    (all_done (Same g) c.loop-i.i c.args.items.now c.loop-i.items (omega (arith, c.loop-i-test.false, c.loop-i.invariant.1.0)) c.loop-i.invariant.1)
