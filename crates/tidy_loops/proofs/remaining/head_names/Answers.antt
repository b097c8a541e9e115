use Rattle.std.proofs.Common.{option_map, true, ap, ◌&&◌, ◌∙◌, sym, not}
use Rattle.std.proofs.Math.Bool.{and-true}
use Rattle.c_tree.specs.ExpressionTrees.{expression_tree}
use Rattle.c_tree.specs.Trees.{trees_of}
use Rattle.tidy_laws.specs.Mentions.{list_lacks, option_lacks}
use Rattle.tidy_slots.proofs.NamingLaws.{either_named}
use Rattle.tidy_loops.proofs.remaining.head_names.Goals as goal

pub returns : goal.returns
returns c =
    let g = c.args.slot in
    let a = list_lacks g (trees_of c.args.first.now) in
    let t = option_lacks g (option_map expression_tree c.args.test.now) in
    let u = option_lacks g (option_map expression_tree c.args.third.now) in
    either_named _ _ a (t && (u && true)) c.list_names-first.ensures
    (either_named _ _ t (u && true) c.part_names-test.ensures (c.part_names-third.ensures ∙ ap not (sym (and-true u))))
