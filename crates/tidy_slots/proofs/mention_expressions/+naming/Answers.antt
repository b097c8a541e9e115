use Rattle.std.proofs.Common.{refl, rules, not, ◌&&◌, ap, sym, ◌∙◌}
use Rattle.c_tree.specs.ExpressionTrees.{expression_tree, place_tree}
use Rattle.c_tree.proofs.ExpressionLaws.{expression-parts}
use Rattle.tidy_laws.specs.Mentions.{home_lacks, lacks, place_lacks}
use Rattle.tidy_slots.proofs.NamingLaws.{any_named, either_lacks, either_named, found_named, passed_named, none_named, in-Var, in-Cell, in-Number, in-Character, in-EnumName, in-Text, in-Array, in-Read, in-Unary, in-Cast, in-Binary, in-Conditional, in-Assign, in-Update, in-Count, in-Comma, in-Call}
use Rattle.tidy_slots.proofs.mention_expressions.+naming.Goals as goal

pub names-returns : goal.names-returns
names-returns t c = c.node_names.ensures ∙ sym (ap (λ x. not (lacks c.args.slot x)) (expression-parts c.args.e.now))

pub node_names-returns-in-Array : goal.node_names-returns-in-Array
node_names-returns-in-Array t c = rw (in-Array c.args.slot c.args.node.now c.in-Array.home c.in-Array.is) (search rules)

pub node_names-returns-in-Read : goal.node_names-returns-in-Read
node_names-returns-in-Read t c = rw (in-Read c.args.slot c.args.node.now c.in-Read.place c.in-Read.is) (search rules)

pub node_names-returns-in-Unary : goal.node_names-returns-in-Unary
node_names-returns-in-Unary t c = rw (in-Unary c.args.slot c.args.node.now c.in-Unary.field-0 c.in-Unary.a c.in-Unary.is) (search rules)

pub node_names-returns-in-Cast : goal.node_names-returns-in-Cast
node_names-returns-in-Cast t c = rw (in-Cast c.args.slot c.args.node.now c.in-Cast.a c.in-Cast.is) (search rules)

pub node_names-returns-in-Binary : goal.node_names-returns-in-Binary
node_names-returns-in-Binary t c = rw (in-Binary c.args.slot c.args.node.now c.in-Binary.field-0 c.in-Binary.a c.in-Binary.b c.in-Binary.is)
    (either_named c.names-a.result c.names-b.result (lacks c.args.slot (expression_tree c.in-Binary.a))
    (lacks c.args.slot (expression_tree c.in-Binary.b)) (search rules) (search rules))

pub node_names-returns-in-Conditional : goal.node_names-returns-in-Conditional
node_names-returns-in-Conditional t c = rw (in-Conditional c.args.slot c.args.node.now c.in-Conditional.a c.in-Conditional.b c.in-Conditional.c
    c.in-Conditional.is)
    (either_named c.names-a-in-Conditional.result _ (lacks c.args.slot (expression_tree c.in-Conditional.a))
    (lacks c.args.slot (expression_tree c.in-Conditional.b) && lacks c.args.slot (expression_tree c.in-Conditional.c)) (search rules)
    (either_named c.names-b-in-Conditional.result c.names-c.result (lacks c.args.slot (expression_tree c.in-Conditional.b))
    (lacks c.args.slot (expression_tree c.in-Conditional.c)) (search rules) (search rules)))

pub node_names-returns-in-Assign : goal.node_names-returns-in-Assign
node_names-returns-in-Assign t c = rw (in-Assign c.args.slot c.args.node.now c.in-Assign.place c.in-Assign.a c.in-Assign.is)
    (either_named c.place_names-place.result c.names-a-in-Assign.result (place_lacks c.args.slot (place_tree c.in-Assign.place))
    (lacks c.args.slot (expression_tree c.in-Assign.a)) (search rules) (search rules))

pub node_names-returns-in-Update : goal.node_names-returns-in-Update
node_names-returns-in-Update t c = rw (in-Update c.args.slot c.args.node.now c.in-Update.field-0 c.in-Update.place c.in-Update.a c.in-Update.is)
    (either_named c.place_names-place-in-Update.result c.names-a-in-Update.result (place_lacks c.args.slot (place_tree c.in-Update.place))
    (lacks c.args.slot (expression_tree c.in-Update.a)) (search rules) (search rules))

pub node_names-returns-in-Count : goal.node_names-returns-in-Count
node_names-returns-in-Count t c = rw (in-Count c.args.slot c.args.node.now c.in-Count.place c.in-Count.field-1 c.in-Count.field-2 c.in-Count.is) (search rules)

pub node_names-returns-in-Comma : goal.node_names-returns-in-Comma
node_names-returns-in-Comma t c = rw (in-Comma c.args.slot c.args.node.now c.in-Comma.a c.in-Comma.b c.in-Comma.is)
    (either_named c.names-a-in-Comma.result c.names-b-in-Comma.result (lacks c.args.slot (expression_tree c.in-Comma.a))
    (lacks c.args.slot (expression_tree c.in-Comma.b)) (search rules) (search rules))

pub node_names-returns-in-Call : goal.node_names-returns-in-Call
node_names-returns-in-Call t c = rw (in-Call c.args.slot c.args.node.now c.in-Call.field-0 c.in-Call.xs c.in-Call.is) (search rules)

pub node_names-returns-in-Number : goal.node_names-returns-in-Number
node_names-returns-in-Number t c = rw (in-Number c.args.slot c.args.node.now c.in-Number.field-0 c.in-Number.is) (search rules)

pub node_names-returns-in-Character : goal.node_names-returns-in-Character
node_names-returns-in-Character t c = rw (in-Character c.args.slot c.args.node.now c.in-Character.field-0 c.in-Character.is) (search rules)

pub node_names-returns-in-EnumName : goal.node_names-returns-in-EnumName
node_names-returns-in-EnumName t c = rw (in-EnumName c.args.slot c.args.node.now c.in-EnumName.field-0 c.in-EnumName.field-1 c.in-EnumName.is) (search rules)

pub node_names-returns-in-Text : goal.node_names-returns-in-Text
node_names-returns-in-Text t c = rw (in-Text c.args.slot c.args.node.now c.in-Text.field-0 c.in-Text.is) (search rules)

pub place_names-returns-in-Var : goal.place_names-returns-in-Var
place_names-returns-in-Var t c = rw (in-Var c.args.slot c.args.place.now c.in-Var.home c.in-Var.is) (search rules)

pub place_names-returns-in-Cell : goal.place_names-returns-in-Cell
place_names-returns-in-Cell t c = rw (in-Cell c.args.slot c.args.place.now c.in-Cell.home c.in-Cell.a c.in-Cell.is)
    (either_named c.home_names-home.result c.names-a.result (home_lacks c.args.slot c.in-Cell.home) (lacks c.args.slot (expression_tree c.in-Cell.a))
    (search rules) (search rules))

pub any_names-returns-then-names : goal.any_names-returns-then-names
any_names-returns-then-names t c = found_named (λ x. not (lacks c.args.slot (expression_tree x))) (any_named c.args.slot)
    (λ x xs. either_lacks (lacks c.args.slot (expression_tree x)) _) c.args.items.now c.loop-i.i c.index-items-i.result c.loop-i-test.true
    c.index-items-i.is c.loop-i.invariant c.names.result c.names.ensures c.if-names.true

pub any_names-loop-i-preserved : goal.any_names-loop-i-preserved
any_names-loop-i-preserved t c = passed_named (λ x. not (lacks c.args.slot (expression_tree x))) (any_named c.args.slot)
    (λ x xs. either_lacks (lacks c.args.slot (expression_tree x)) _) c.args.items.now c.loop-i.i c.index-items-i.result c.loop-i-test.true
    c.index-items-i.is c.loop-i.invariant c.names.result c.names.ensures c.if-names.false

pub any_names-returns : goal.any_names-returns
any_names-returns t c = none_named (λ x. not (lacks c.args.slot (expression_tree x))) (any_named c.args.slot)
    (λ x xs. either_lacks (lacks c.args.slot (expression_tree x)) _) refl c.args.items.now c.loop-i.i c.loop-i-test.false c.loop-i.invariant
