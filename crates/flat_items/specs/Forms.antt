-- What stands in the place of each kind of item and section, as the cases of the definition.
use Rattle.std.specs.Prelude.{ℕ, suc, ◌+◌, Bool, List, Option, Some, None}
use Rattle.c_tree.specs.Everywhere.{total_in}
use Rattle.c_tree.specs.Exits.{breaks, continues}
use Rattle.c_tree.specs.ExpressionTrees.{ExpressionTree}
use Rattle.c_tree.specs.TestTrees.{TestTree, SelectorTree}
use Rattle.c_tree.specs.Trees.{Forest, Nil, Then, Sections, NoSection, Section, While, Do, Switch, expression_trees, trees_of, join}
use Rattle.c_tree.specs.declared.tree.Section as Real
use Rattle.jump_meaning.specs.Step.{switch_kind}
use Rattle.flat_laws.specs.Pieces.{Aim, Names, mark_of, case_marks}
use Rattle.flat_laws.specs.Loose.{Arrivals, NoArrival, Arrives}
use Rattle.flat_laws.specs.Parts.{Here, holds_jump, kept_breaks, ending, ends_then, constructs_of, cases_of, variables_of, inside}
use Rattle.flat_laws.specs.FlatForm.{Plan, aim, is_jumpy_switch, scatter_aim, names_of, dissolved, initialised, if_breaks, end_goto, flat_loop, flat_for, flat, flat_last, flat_sections, spread}

-- inside a construct that has no case labels and variables of its own
abbrev pub entered_of : Here → Here
entered_of h = record { construct = suc h.construct; case = h.case + 0; variable = h.variable + 0 }

-- the numbers of what comes behind sections
abbrev pub past_among : Sections → Here → Here
past_among d h = record {
  construct = h.construct + total_in constructs_of d;
  case = h.case + total_in cases_of d;
  variable = h.variable + total_in variables_of d;
}

-- what the exits of a loop become
abbrev pub loop_breaks : Plan → ℕ → Forest → Aim
loop_breaks p k a = aim (holds_jump p.live a) (breaks a) (p.break_label k)

abbrev pub loop_continues : Plan → ℕ → Forest → Aim
loop_continues p k a = aim (holds_jump p.live a) (continues a) (p.continue_label k)

-- the flat form of the body of loop k
abbrev pub loop_body : Plan → ℕ → Here → Arrivals → Forest → Forest
loop_body p k h r a = flat p h (loop_breaks p k a) (loop_continues p k a) r a

abbrev pub while_form : Plan → Here → Arrivals → TestTree → Forest → Forest
while_form p h r t a = flat_loop (λ x. While t x) (loop_body p h.construct (entered_of h) r a) (loop_breaks p h.construct a) (loop_continues p h.construct a)

abbrev pub do_form : Plan → Here → Arrivals → TestTree → Forest → Forest
do_form p h r t a = flat_loop (λ x. Do x t) (loop_body p h.construct (entered_of h) r a) (loop_breaks p h.construct a) (loop_continues p h.construct a)

-- a `for`, the loop k, without its first part
abbrev pub for_form : Plan → ℕ → Here → Arrivals → Option ExpressionTree → Option ExpressionTree → Forest → Forest
for_form p k h r t u a = flat_for (holds_jump p.live a) t u (loop_body p k h r a) (loop_breaks p k a) (loop_continues p k a)

-- what a `break` of a switch that stays becomes
abbrev pub switch_breaks : Plan → ℕ → Aim → Sections → Aim
switch_breaks p k c d = aim (is_jumpy_switch p c d) (kept_breaks p.live d) (p.break_label k)

abbrev pub kept_form : Plan → Here → Aim → SelectorTree → Sections → Forest
kept_form p h c s d = Then (Switch s (flat_sections p (entered_of h) (is_jumpy_switch p c d) (switch_breaks p h.construct c d) c d))
    (mark_of (switch_breaks p h.construct c d))

abbrev pub scattered_form : Plan → Here → Aim → SelectorTree → Sections → Forest
scattered_form p h c s d = dissolved p h s d (spread p (inside (Switch s d) h) (scatter_aim p h d) c (names_of p h (switch_kind s) d) d)

-- a list without its last item
abbrev pub but_last : Forest → Forest
but_last Nil = Nil
but_last (Then x Nil) = Nil
but_last (Then x (Then y ys)) = Then x (but_last (Then y ys))

-- the list of a section of a switch that stays
abbrev pub section_form : Plan → Here → Aim → Aim → Forest → Forest
section_form p h b c a = if_breaks (ending p.live a) (flat_last p h b c NoArrival a) (flat p h b c NoArrival a)

-- a section alone, with another list and end
abbrev pub with_parts : Real.Section → Forest → Bool → Sections
with_parts x a ends = let o = Real.out-Section x in Section (expression_trees o.cases) o.default a ends NoSection

-- the section before others
abbrev pub section_before : Plan → Here → Bool → Aim → Aim → Real.Section → Sections → Sections
section_before p h jumpy b c x d =
    let o = Real.out-Section x in
    Section (expression_trees o.cases) o.default (section_form p h b c (trees_of o.list)) (ends_then jumpy o.ends (ending p.live (trees_of o.list))) d

-- the list of a section of a scattered switch, behind its labels
abbrev pub part_form : Plan → Here → Aim → Aim → Names → Real.Section → Forest
part_form p h b c names x =
    let o = Real.out-Section x in
    join (case_marks names (expression_trees o.cases) o.default) (join (flat p h b c (Arrives names) (trees_of o.list)) (end_goto o.ends b))

abbrev pub local_form : Plan → ℕ → Option (List ExpressionTree) → Forest
local_form p x None = Nil
local_form p x (Some es) = initialised p x es
