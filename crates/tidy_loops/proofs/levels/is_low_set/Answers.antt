use Rattle.std.proofs.Common.{◌≡◌, None, Some, ◌||◌, leb, sym, ap, ◌∙◌}
use Rattle.c_tree.specs.ExpressionTrees.{expression_tree}
use Rattle.tidy_laws.specs.Changes.{set_value, low_set, is_number}
use Rattle.tidy_loops.proofs.FormLaws.{expression_same}
use Rattle.tidy_loops.proofs.levels.is_low_set.Goals as goal

pub returns-in-None : goal.returns-in-None
returns-in-None c =
    let e : None ≡ set_value c.args.slot (expression_tree c.args.e.now) = c.in-None.ensures ∙ ap (set_value c.args.slot) (sym (expression_same c.args.e.now)) in
    ap (low_set c.args.level) e

pub returns-then-is_number : goal.returns-then-is_number
returns-then-is_number c =
    let v = expression_tree c.in-Some.value.now in
    let e : Some v ≡ set_value c.args.slot (expression_tree c.args.e.now) =
    c.in-Some.ensures ∙ ap (set_value c.args.slot) (sym (expression_same c.args.e.now)) in
    let n = ap (is_number 1) (expression_same c.in-Some.value.now) ∙ sym c.is_number.ensures in
    c.if-is_number.true ∙ sym (ap (λ b. b || leb c.args.level 399) (n ∙ c.if-is_number.true)) ∙ ap (low_set c.args.level) e

pub returns-else-is_number : goal.returns-else-is_number
returns-else-is_number c =
    let v = expression_tree c.in-Some.value.now in
    let e : Some v ≡ set_value c.args.slot (expression_tree c.args.e.now) =
    c.in-Some.ensures ∙ ap (set_value c.args.slot) (sym (expression_same c.args.e.now)) in
    let n = ap (is_number 1) (expression_same c.in-Some.value.now) ∙ sym c.is_number.ensures in
    sym (ap (λ b. b || leb c.args.level 399) (n ∙ c.if-is_number.false)) ∙ ap (low_set c.args.level) e
