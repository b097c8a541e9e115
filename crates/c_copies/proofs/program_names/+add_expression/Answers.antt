use Rattle.std.proofs.Common.{◌≡◌, ◌++◌, ap, ◌∙◌}
use Rattle.c_copies.specs.Names.{expression_names, node_names, place_names}
use Rattle.c_copies.proofs.NameLemmas.{then_names, after_names, names_step, node_names-Binary, node_names-Conditional, node_names-Assign, node_names-Update, node_names-Comma}
use Rattle.c_copies.proofs.program_names.+add_expression.Goals as goal

pub add_expressions-loop-i-preserved : goal.add_expressions-loop-i-preserved
add_expressions-loop-i-preserved t c =
    names_step expression_names c.loop-i.set c.add_expression.new.set _ c.args.items.now c.loop-i.i c.index-items-i.result
    c.loop-i-test.true c.index-items-i.is c.in_ok-add_expression.ensures c.loop-i.invariant

pub add_node-returns-in_ok-add_expression-in-Binary : goal.add_node-returns-in_ok-add_expression-in-Binary
add_node-returns-in_ok-add_expression-in-Binary t c =
    let e = ap node_names c.in-Binary.is ∙ node_names-Binary c.in-Binary.field-0 c.in-Binary.a c.in-Binary.b in
    let f : node_names c.args.node.now ≡ expression_names c.get-in-Binary.result.now ++ expression_names c.get-in-Binary-2.result.now =
    cc (e, c.get-in-Binary.ensures, c.get-in-Binary-2.ensures) in
    after_names c.add_expression-in-Binary-2.result c.args.set.now c.add_expression-in-Binary.new.set c.add_expression-in-Binary-2.new.set
    (expression_names c.get-in-Binary.result.now) (expression_names c.get-in-Binary-2.result.now) (node_names c.args.node.now)
    c.in_ok-add_expression-in-Binary.ensures f c.add_expression-in-Binary-2.ensures

pub add_node-returns-in_ok-add_expression-in-Comma : goal.add_node-returns-in_ok-add_expression-in-Comma
add_node-returns-in_ok-add_expression-in-Comma t c =
    let e = ap node_names c.in-Comma.is ∙ node_names-Comma c.in-Comma.a c.in-Comma.b in
    let f : node_names c.args.node.now ≡ expression_names c.get-in-Comma.result.now ++ expression_names c.get-in-Comma-2.result.now =
    cc (e, c.get-in-Comma.ensures, c.get-in-Comma-2.ensures) in
    after_names c.add_expression-in-Comma-2.result c.args.set.now c.add_expression-in-Comma.new.set c.add_expression-in-Comma-2.new.set
    (expression_names c.get-in-Comma.result.now) (expression_names c.get-in-Comma-2.result.now) (node_names c.args.node.now)
    c.in_ok-add_expression-in-Comma.ensures f c.add_expression-in-Comma-2.ensures

pub add_node-returns-in_ok-add_place-in-Assign : goal.add_node-returns-in_ok-add_place-in-Assign
add_node-returns-in_ok-add_place-in-Assign t c =
    let e = ap node_names c.in-Assign.is ∙ node_names-Assign c.in-Assign.place c.in-Assign.a in
    let f : node_names c.args.node.now ≡ place_names c.in-Assign.place ++ expression_names c.get-in-Assign.result.now = cc (e, c.get-in-Assign.ensures) in
    after_names c.add_expression-in-Assign.result c.args.set.now c.add_place-in-Assign.new.set c.add_expression-in-Assign.new.set
    (place_names c.in-Assign.place) (expression_names c.get-in-Assign.result.now) (node_names c.args.node.now)
    c.in_ok-add_place-in-Assign.ensures f c.add_expression-in-Assign.ensures

pub add_node-returns-in_ok-add_place-in-Update : goal.add_node-returns-in_ok-add_place-in-Update
add_node-returns-in_ok-add_place-in-Update t c =
    let e = ap node_names c.in-Update.is ∙ node_names-Update c.in-Update.field-0 c.in-Update.place c.in-Update.a in
    let f : node_names c.args.node.now ≡ place_names c.in-Update.place ++ expression_names c.get-in-Update.result.now = cc (e, c.get-in-Update.ensures) in
    after_names c.add_expression-in-Update.result c.args.set.now c.add_place-in-Update.new.set c.add_expression-in-Update.new.set
    (place_names c.in-Update.place) (expression_names c.get-in-Update.result.now) (node_names c.args.node.now)
    c.in_ok-add_place-in-Update.ensures f c.add_expression-in-Update.ensures

pub add_node-returns-in_ok-add_expression-in-Conditional-2 : goal.add_node-returns-in_ok-add_expression-in-Conditional-2
add_node-returns-in_ok-add_expression-in-Conditional-2 t c =
    let e = ap node_names c.in-Conditional.is ∙ node_names-Conditional c.in-Conditional.a c.in-Conditional.b c.in-Conditional.c in
    let f : node_names c.args.node.now ≡ expression_names c.get-in-Conditional.result.now ++ expression_names c.get-in-Conditional-2.result.now ++
    expression_names c.get-in-Conditional-3.result.now =
    cc (e, c.get-in-Conditional.ensures, c.get-in-Conditional-2.ensures, c.get-in-Conditional-3.ensures) in
    after_names c.add_expression-in-Conditional-3.result c.args.set.now c.add_expression-in-Conditional-2.new.set c.add_expression-in-Conditional-3.new.set
    (expression_names c.get-in-Conditional.result.now ++ expression_names c.get-in-Conditional-2.result.now)
    (expression_names c.get-in-Conditional-3.result.now) (node_names c.args.node.now)
    (then_names c.args.set.now c.add_expression-in-Conditional.new.set c.add_expression-in-Conditional-2.new.set
    (expression_names c.get-in-Conditional.result.now) (expression_names c.get-in-Conditional-2.result.now)
    c.in_ok-add_expression-in-Conditional.ensures c.in_ok-add_expression-in-Conditional-2.ensures)
    f c.add_expression-in-Conditional-3.ensures
