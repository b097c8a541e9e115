use Rattle.c_tree.specs.declared.tree.Node.{Number, Character, EnumName, Text, Array, Read, Unary, Cast, Binary, Conditional, Assign, Update, Count, Comma, Call}
use Rattle.c_tree.specs.declared.tree.Place.{Var, Cell}
use Rattle.c_tree.proofs.ExpressionLaws.{place-Var, place-Cell, node-Number, node-Character, node-EnumName, node-Text, node-Array, node-Read, node-Unary, node-Cast, node-Binary, node-Conditional, node-Assign, node-Update, node-Count, node-Comma, node-Call}
use Rattle.tidy_slots.proofs.AddedLemmas.{none_added, then_added, by_node, none_node, by_parts, by_place, got, seen, each_got, begun, went_on, all_added, arguments_at, arguments_end}
use Rattle.tidy_slots.proofs.count_expressions.+counting.Goals as goal

pub count_expression-returns : goal.count_expression-returns
count_expression-returns t c = by_parts c.count_node.result c.args.counts.now c.count_node.new.counts c.args.e.now c.count_node.ensures

pub count_node-returns-in-Array : goal.count_node-returns-in-Array
count_node-returns-in-Array t c =
    by_node c.count_home.result c.args.counts.now c.count_home.new.counts c.args.node.now (Array c.in-Array.home) _ c.in-Array.is (node-Array c.in-Array.home)
    (c.count_home.ensures)

pub count_node-returns-in-Read : goal.count_node-returns-in-Read
count_node-returns-in-Read t c =
    by_node c.count_place.result c.args.counts.now c.count_place.new.counts c.args.node.now (Read c.in-Read.place) _ c.in-Read.is (node-Read c.in-Read.place)
    (c.count_place.ensures)

pub count_node-returns-in-Unary : goal.count_node-returns-in-Unary
count_node-returns-in-Unary t c =
    by_node c.count_expression.result c.args.counts.now c.count_expression.new.counts c.args.node.now (Unary c.in-Unary.field-0 c.in-Unary.a)
    _ c.in-Unary.is (node-Unary c.in-Unary.field-0 c.in-Unary.a)
    (got c.count_expression.result _ _ c.get.result.now c.in-Unary.a c.get.ensures c.count_expression.ensures)

pub count_node-returns-in-Cast : goal.count_node-returns-in-Cast
count_node-returns-in-Cast t c =
    by_node c.count_expression-in-Cast.result c.args.counts.now c.count_expression-in-Cast.new.counts c.args.node.now (Cast c.in-Cast.a)
    _ c.in-Cast.is (node-Cast c.in-Cast.a)
    (got c.count_expression-in-Cast.result _ _ c.get-in-Cast.result.now c.in-Cast.a c.get-in-Cast.ensures c.count_expression-in-Cast.ensures)

pub count_node-returns-in_ok-count_expression-in-Binary : goal.count_node-returns-in_ok-count_expression-in-Binary
count_node-returns-in_ok-count_expression-in-Binary t c =
    by_node c.count_expression-in-Binary-2.result c.args.counts.now c.count_expression-in-Binary-2.new.counts c.args.node.now
    (Binary c.in-Binary.field-0 c.in-Binary.a c.in-Binary.b) _ c.in-Binary.is (node-Binary c.in-Binary.field-0 c.in-Binary.a c.in-Binary.b)
    (then_added _ _ c.count_expression-in-Binary-2.result (seen _ _ c.get-in-Binary.result.now c.in-Binary.a c.get-in-Binary.ensures
    c.in_ok-count_expression-in-Binary.ensures) (got c.count_expression-in-Binary-2.result _ _ c.get-in-Binary-2.result.now c.in-Binary.b
    c.get-in-Binary-2.ensures c.count_expression-in-Binary-2.ensures))

pub count_node-returns-in_ok-count_expression-in-Comma : goal.count_node-returns-in_ok-count_expression-in-Comma
count_node-returns-in_ok-count_expression-in-Comma t c =
    by_node c.count_expression-in-Comma-2.result c.args.counts.now c.count_expression-in-Comma-2.new.counts c.args.node.now
    (Comma c.in-Comma.a c.in-Comma.b) _ c.in-Comma.is (node-Comma c.in-Comma.a c.in-Comma.b)
    (then_added _ _ c.count_expression-in-Comma-2.result (seen _ _ c.get-in-Comma.result.now c.in-Comma.a c.get-in-Comma.ensures
    c.in_ok-count_expression-in-Comma.ensures) (got c.count_expression-in-Comma-2.result _ _ c.get-in-Comma-2.result.now c.in-Comma.b
    c.get-in-Comma-2.ensures c.count_expression-in-Comma-2.ensures))

pub count_node-returns-in_ok-count_expression-in-Conditional-2 : goal.count_node-returns-in_ok-count_expression-in-Conditional-2
count_node-returns-in_ok-count_expression-in-Conditional-2 t c =
    by_node c.count_expression-in-Conditional-3.result c.args.counts.now c.count_expression-in-Conditional-3.new.counts c.args.node.now
    (Conditional c.in-Conditional.a c.in-Conditional.b c.in-Conditional.c) _ c.in-Conditional.is
    (node-Conditional c.in-Conditional.a c.in-Conditional.b c.in-Conditional.c)
    (then_added _ _ c.count_expression-in-Conditional-3.result
    (seen _ _ c.get-in-Conditional.result.now c.in-Conditional.a c.get-in-Conditional.ensures c.in_ok-count_expression-in-Conditional.ensures)
    (then_added _ _ c.count_expression-in-Conditional-3.result
    (seen _ _ c.get-in-Conditional-2.result.now c.in-Conditional.b c.get-in-Conditional-2.ensures
    c.in_ok-count_expression-in-Conditional-2.ensures) (got c.count_expression-in-Conditional-3.result _ _ c.get-in-Conditional-3.result.now
    c.in-Conditional.c c.get-in-Conditional-3.ensures c.count_expression-in-Conditional-3.ensures)))

pub count_node-returns-in_ok-count_place-in-Assign : goal.count_node-returns-in_ok-count_place-in-Assign
count_node-returns-in_ok-count_place-in-Assign t c =
    by_node c.count_expression-in-Assign.result c.args.counts.now c.count_expression-in-Assign.new.counts c.args.node.now
    (Assign c.in-Assign.place c.in-Assign.a) _ c.in-Assign.is (node-Assign c.in-Assign.place c.in-Assign.a)
    (then_added _ _ c.count_expression-in-Assign.result c.in_ok-count_place-in-Assign.ensures
    (got c.count_expression-in-Assign.result _ _ c.get-in-Assign.result.now c.in-Assign.a c.get-in-Assign.ensures c.count_expression-in-Assign.ensures))

pub count_node-returns-in_ok-count_place-in-Update : goal.count_node-returns-in_ok-count_place-in-Update
count_node-returns-in_ok-count_place-in-Update t c =
    by_node c.count_expression-in-Update.result c.args.counts.now c.count_expression-in-Update.new.counts c.args.node.now
    (Update c.in-Update.field-0 c.in-Update.place c.in-Update.a) _ c.in-Update.is (node-Update c.in-Update.field-0 c.in-Update.place c.in-Update.a)
    (then_added _ _ c.count_expression-in-Update.result c.in_ok-count_place-in-Update.ensures
    (got c.count_expression-in-Update.result _ _ c.get-in-Update.result.now c.in-Update.a c.get-in-Update.ensures c.count_expression-in-Update.ensures))

pub count_node-returns-in-Count : goal.count_node-returns-in-Count
count_node-returns-in-Count t c =
    by_node c.count_place-in-Count.result c.args.counts.now c.count_place-in-Count.new.counts c.args.node.now
    (Count c.in-Count.place c.in-Count.field-1 c.in-Count.field-2) _ c.in-Count.is (node-Count c.in-Count.place c.in-Count.field-1 c.in-Count.field-2)
    (c.count_place-in-Count.ensures)

pub count_node-returns-in-Call : goal.count_node-returns-in-Call
count_node-returns-in-Call t c =
    by_node c.count_arguments.result c.args.counts.now c.count_arguments.new.counts c.args.node.now (Call c.in-Call.field-0 c.in-Call.xs)
    _ c.in-Call.is (node-Call c.in-Call.field-0 c.in-Call.xs)
    (each_got c.count_arguments.result _ _ c.as_slice.result.now c.in-Call.xs c.as_slice.ensures.value c.count_arguments.ensures)

pub count_node-returns-in-Number : goal.count_node-returns-in-Number
count_node-returns-in-Number t c = none_node c.args.counts.now c.args.node.now (Number c.in-Number.field-0) _ c.in-Number.is
    (node-Number c.in-Number.field-0) (none_added c.args.counts.now)

pub count_node-returns-in-Character : goal.count_node-returns-in-Character
count_node-returns-in-Character t c = none_node c.args.counts.now c.args.node.now (Character c.in-Character.field-0) _ c.in-Character.is
    (node-Character c.in-Character.field-0) (none_added c.args.counts.now)

pub count_node-returns-in-EnumName : goal.count_node-returns-in-EnumName
count_node-returns-in-EnumName t c = none_node c.args.counts.now c.args.node.now (EnumName c.in-EnumName.field-0 c.in-EnumName.field-1)
    _ c.in-EnumName.is (node-EnumName c.in-EnumName.field-0 c.in-EnumName.field-1) (none_added c.args.counts.now)

pub count_node-returns-in-Text : goal.count_node-returns-in-Text
count_node-returns-in-Text t c = none_node c.args.counts.now c.args.node.now (Text c.in-Text.field-0) _ c.in-Text.is (node-Text c.in-Text.field-0)
    (none_added c.args.counts.now)

pub count_place-returns-in-Var : goal.count_place-returns-in-Var
count_place-returns-in-Var t c = by_place c.count_home.result c.args.counts.now c.count_home.new.counts c.args.place.now (Var c.in-Var.home)
    _ c.in-Var.is (place-Var c.in-Var.home) c.count_home.ensures

pub count_place-returns-in_ok-count_home-in-Cell : goal.count_place-returns-in_ok-count_home-in-Cell
count_place-returns-in_ok-count_home-in-Cell t c =
    by_place c.count_expression.result c.args.counts.now c.count_expression.new.counts c.args.place.now (Cell c.in-Cell.home c.in-Cell.a)
    _ c.in-Cell.is (place-Cell c.in-Cell.home c.in-Cell.a)
    (then_added _ _ c.count_expression.result c.in_ok-count_home-in-Cell.ensures
    (got c.count_expression.result _ _ c.get.result.now c.in-Cell.a c.get.ensures c.count_expression.ensures))

pub count_arguments-loop-i-init : goal.count_arguments-loop-i-init
count_arguments-loop-i-init t c = begun c.args.counts.now _

pub count_arguments-loop-i-preserved : goal.count_arguments-loop-i-preserved
count_arguments-loop-i-preserved t c =
    went_on c.args.counts.now _ c.loop-i.counts c.count_expression.new.counts
    _ _ _ (arguments_at c.args.items.now c.loop-i.i c.index-items-i.result c.loop-i-test.true c.index-items-i.is) c.in_ok-count_expression.ensures
    c.loop-i.invariant

pub count_arguments-returns : goal.count_arguments-returns
count_arguments-returns t c = all_added c.args.counts.now _ c.loop-i.counts _ (arguments_end c.args.items.now c.loop-i.i c.loop-i-test.false) c.loop-i.invariant
