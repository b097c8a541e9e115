use Rattle.std.proofs.Common.{refl, not}
use Rattle.c_tree.specs.ExpressionTrees.{expression_tree}
use Rattle.tidy_laws.specs.Mentions.{lacks}
use Rattle.tidy_slots.proofs.NamingLaws.{some_named, either_lacks, found_named, passed_named, none_named}
use Rattle.tidy_slots.proofs.mention_items.all_names.Goals as goal

pub returns-then-names : goal.returns-then-names
returns-then-names c = found_named (λ x. not (lacks c.args.slot (expression_tree x))) (some_named c.args.slot)
    (λ x xs. either_lacks (lacks c.args.slot (expression_tree x)) _) c.args.items.now c.loop-i.i c.index-items-i.result c.loop-i-test.true
    c.index-items-i.is c.loop-i.invariant c.names.result c.names.ensures c.if-names.true

pub loop-i-preserved : goal.loop-i-preserved
loop-i-preserved c = passed_named (λ x. not (lacks c.args.slot (expression_tree x))) (some_named c.args.slot)
    (λ x xs. either_lacks (lacks c.args.slot (expression_tree x)) _) c.args.items.now c.loop-i.i c.index-items-i.result c.loop-i-test.true
    c.index-items-i.is c.loop-i.invariant c.names.result c.names.ensures c.if-names.false

pub returns : goal.returns
returns c = none_named (λ x. not (lacks c.args.slot (expression_tree x))) (some_named c.args.slot)
    (λ x xs. either_lacks (lacks c.args.slot (expression_tree x)) _) refl c.args.items.now c.loop-i.i c.loop-i-test.false c.loop-i.invariant
