use Rattle.std.proofs.Common.{subst}
use Rattle.std.proofs.lemmas.Option.{IfSome_then}
use Rattle.c_tree.specs.ExpressionTrees.{expression_tree}
use Rattle.step_ahead.specs.Taken.{IsComputed}
use Rattle.step_ahead.proofs.ReadLemmas.{is_variable, is_cell}
use Rattle.step_ahead.proofs.computing.found.Goals as goal

pub returns-in-Var : goal.returns-in-Var
returns-in-Var c = IfSome_then c.variable.result c.variable.ensures (λ r i. is_variable c.args.store.now c.args.place.now c.in-Var.home r c.in-Var.is i)

pub returns-in-Some : goal.returns-in-Some
returns-in-Some c =
    let at = subst (λ y. IsComputed c.args.store.now (expression_tree y) c.in-Some.at) c.get.ensures c.in-Some.ensures.ok in
    IfSome_then c.cell.result (c.cell.ensures c.in-Some.ensures.fits (expression_tree c.in-Cell.index) at)
    (λ r i. is_cell c.args.store.now c.args.place.now c.in-Cell.home c.in-Cell.index r c.in-Cell.is i)
