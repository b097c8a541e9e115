-- What stands in the place of some kinds of items and of sections.
use Rattle.std.specs.Prelude.{ℕ, ◌+◌, List, Option, Some, None}
use Rattle.c_tree.specs.Changed.{one}
use Rattle.c_tree.specs.Everywhere.{total_in}
use Rattle.c_tree.specs.ExpressionTrees.{ExpressionTree}
use Rattle.c_tree.specs.Trees.{Tree, Forest, Nil, Then, Sections, Local, Break, Continue, Goto, Mark, Arrival, expression_trees, trees_of, join}
use Rattle.c_tree.specs.declared.tree.Section as Real
use Rattle.flat_laws.specs.Pieces.{Aim, Names, case_marks}
use Rattle.flat_laws.specs.Loose.{Arrivals, Arrives}
use Rattle.flat_laws.specs.Parts.{Here}
use Rattle.flat_laws.specs.FlatForm.{end_goto, exit, mark_if, arrival, initialised}
use Rattle.lower_items.specs.declared.plans.Labels.{Labels}
use Rattle.lower_laws.specs.Lowered.{Layout, constructs_of, cases_of, variables_of, lowered}

-- the numbers of what comes behind sections
abbrev pub past_among : Sections → Here → Here
past_among d h = record {
  construct = h.construct + total_in constructs_of d;
  case = h.case + total_in cases_of d;
  variable = h.variable + total_in variables_of d;
}

-- behind the else-list of an `if` with these labels
abbrev pub then_part : Labels → Forest → Forest
then_part n a = Then (Goto n.behind) (Then (Mark n.list) (join a (one (Mark n.behind))))

-- the list of a section of a switch, behind its labels
abbrev pub part_form : Layout → Here → Aim → Aim → Names → Real.Section → Forest
part_form p h b c names x =
    let o = Real.out-Section x in
    join (case_marks names (expression_trees o.cases) o.default) (join (lowered p h b c (Arrives names) (trees_of o.list)) (end_goto o.ends b))

abbrev pub local_form : Layout → ℕ → Option (List ExpressionTree) → Forest
local_form p x None = Nil
local_form p x (Some es) = initialised p.plan x es

-- what stands in the place of an item that holds no list
abbrev pub simple_form : Layout → Aim → Aim → Arrivals → Tree → Forest
simple_form p b c r (Local x es) = local_form p x es
simple_form p b c r Break = exit b Break
simple_form p b c r Continue = exit c Continue
simple_form p b c r (Goto l) = one (Goto (p.plan.source l))
simple_form p b c r (Mark l) = mark_if (p.plan.live l) (p.plan.source l)
simple_form p b c r (Arrival e) = arrival r e
simple_form p b c r x = one x
