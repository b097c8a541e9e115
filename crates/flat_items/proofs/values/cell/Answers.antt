use Rattle.std.proofs.Common.{pos, refl, ap, ◌∙◌, arith}
use Rattle.c_types.specs.declared.kinds.IntKind.TheVariants.{Int}
use Rattle.c_tree.specs.ExpressionTrees.{expression_tree}
use Rattle.c_tree.specs.Numerals.{number}
use Rattle.c_tree.specs.Trees as Plain
use Rattle.std.proofs.lemmas.Int.{ints}
use Rattle.c_tree.proofs.Views.{at-Evaluate}
use Rattle.flat_items.proofs.Spelling.{typed-Cell}
use Rattle.flat_items.proofs.values.cell.Goals as goal

pub returns : goal.returns
returns c = at-Evaluate _ ∙ ap Plain.Evaluate (typed-Cell c.args.kind c.args.slot c.in_ok-at.at c.args.value (number Int (pos c.args.at))
    (expression_tree c.args.value) (c.in_ok-at.ensures ∙ ap (number Int) (omega (arith, ints))) refl)
