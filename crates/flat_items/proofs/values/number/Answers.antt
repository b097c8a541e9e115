use Rattle.std.proofs.Common.{ap, ◌∙◌}
use Rattle.std.proofs.lemmas.Result.{IfOk-weaker}
use Rattle.c_tree.specs.ExpressionTrees.{expression_tree}
use Rattle.c_tree.specs.Numerals.{number}
use Rattle.std.proofs.lemmas.Int.{to_z-of_z}
use mir.Syntax.{w128}
use Rattle.flat_items.proofs.Spelling.{typed-Number}
use Rattle.flat_items.proofs.values.number.Goals as goal

pub returns : goal.returns
returns c = IfOk-weaker c.new.result _ _ (λ it h. ap expression_tree h ∙ typed-Number c.args.kind _ ∙
    ap (number c.args.kind) (to_z-of_z w128 c.args.value c.ranges.value)) c.new.ensures
