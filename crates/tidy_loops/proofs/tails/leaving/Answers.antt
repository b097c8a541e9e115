use Rattle.std.proofs.Common.{◌++◌, ◌∷◌, [], cond, sym, ap, ◌∙◌}
use Rattle.c_tree.specs.ExpressionTrees.{expression_tree}
use Rattle.c_tree.specs.TestTrees.{Source}
use Rattle.c_tree.specs.Trees.{If, Nil}
use Rattle.c_tree.specs.Changed.{one}
use Rattle.tidy_laws.specs.Changes.{is_number}
use Rattle.tidy_loops.specs.Exits.{jump_of}
use Rattle.tidy_loops.proofs.FormLaws.{expression_same}
use Rattle.tidy_loops.proofs.Made.{left_if}
use Rattle.tidy_loops.proofs.tails.leaving.Goals as goal

pub returns-then-is_number : goal.returns-then-is_number
returns-then-is_number c =
    let v = expression_tree c.args.value.now in
    let n = ap (is_number 1) (expression_same c.args.value.now) ∙ sym c.is_number.ensures ∙ c.if-is_number.true in
    c.jump.ensures ∙ sym (ap (λ b. cond b (jump_of c.args.exit) (If (Source v) (one (jump_of c.args.exit)) Nil)) n)

pub returns : goal.returns
returns c =
    let l = jump_of c.args.exit in
    let v = expression_tree c.args.value.now in
    let n = ap (is_number 1) (expression_same c.args.value.now) ∙ sym c.is_number.ensures ∙ c.if-is_number.false in
    left_if l c.args.value.now c.in_ok-value.value c.jump-2.result c.push.new.self c.new.result c.in_ok-value.ensures c.jump-2.ensures
    (c.in_ok-push.ensures.ok ∙ ap (λ z. z ++ c.jump-2.result ∷ []) c.new-list.ensures) c.new.ensures
    ∙ sym (ap (λ b. cond b l (If (Source v) (one l) Nil)) n)
