use Rattle.std.proofs.Common.{◌≡◌, ◌+◌, ◌-◌, ◌*◌, ◌++◌, drop, None}
use Rattle.c_bodies.specs.Steps.{sections_behind, section_faults}
use Rattle.c_bodies.specs.Views.{around_of, context_of, walk_of}
use Rattle.c_grammar.specs.Weights.{weight, weights}
use Rattle.c_grammar.specs.Views.{words_of}
use Rattle.c_statements.specs.Cases.{list_entries}
use Rattle.c_statements.specs.Context.{notes_at}
use Rattle.c_statements.specs.Nodes.{items_of}
use Rattle.c_statements.specs.Sections.{front}
use Rattle.c_statements.specs.Statements.{behind_items, list_items, sections_from, outside_items}
use Rattle.c_statements.specs.Violations.{list_faults, outside_faults}
use Rattle.c_statements.specs.declared.anchors.Anchor.TheVariants.{AtEnd}
use Rattle.c_bodies.proofs.Insides.{inside}
use Rattle.c_bodies.proofs.walk.+walk.Given as goal

abbrev pub decreases-add_item : goal.decreases-add_item
decreases-add_item l = 9 * weight l.x.now

abbrev pub decreases-add_plain : goal.decreases-add_plain
decreases-add_plain l = 9 * weight l.x.now

abbrev pub decreases-add_statement : goal.decreases-add_statement
decreases-add_statement l = 9 * inside l.layer + 8

abbrev pub decreases-add_if : goal.decreases-add_if
decreases-add_if l = 9 * weight l.b.now + 5

abbrev pub decreases-add_choice : goal.decreases-add_choice
decreases-add_choice l = 9 * weight l.b.now + 9 * (weight l.c.now - weight l.b.now) + 6

abbrev pub decreases-bodies : goal.decreases-bodies
decreases-bodies l = 9 * weight l.b.now + 9 * (weight l.c.now - weight l.b.now) + 5

abbrev pub decreases-add_while : goal.decreases-add_while
decreases-add_while l = 9 * weight l.b.now + 5

abbrev pub decreases-add_do : goal.decreases-add_do
decreases-add_do l = 9 * weight l.b.now + 5

abbrev pub decreases-add_for : goal.decreases-add_for
decreases-add_for l = 9 * weight l.b.now + 5

abbrev pub decreases-add_block : goal.decreases-add_block
decreases-add_block l = 9 * weights l.nodes.now + 4

abbrev pub decreases-body : goal.decreases-body
decreases-body l = 9 * weight l.x.now + 4

abbrev pub decreases-braces : goal.decreases-braces
decreases-braces l = 9 * weights l.nodes.now + 3

abbrev pub decreases-lone : goal.decreases-lone
decreases-lone l = 9 * weight l.x.now + 1

abbrev pub decreases-add_node : goal.decreases-add_node
decreases-add_node l = 9 * weight l.x.now + 1

abbrev pub decreases-add_list : goal.decreases-add_list
decreases-add_list l = 9 * weights l.nodes.now + 2

abbrev pub decreases-add_switch : goal.decreases-add_switch
decreases-add_switch l = 9 * weight l.b.now + 7

abbrev pub decreases-switch_of : goal.decreases-switch_of
decreases-switch_of l = 9 * weight l.b.now + 6

abbrev pub decreases-switch_body : goal.decreases-switch_body
decreases-switch_body l = 9 * weight l.x.now + 5

abbrev pub decreases-switch_braces : goal.decreases-switch_braces
decreases-switch_braces l = 9 * weights l.nodes.now + 5

abbrev pub decreases-switch_lone : goal.decreases-switch_lone
decreases-switch_lone l = 9 * weight l.x.now + 3

abbrev pub decreases-sections_of : goal.decreases-sections_of
decreases-sections_of l = 9 * weights l.nodes.now + 4

abbrev pub decreases-section_node : goal.decreases-section_node
decreases-section_node l = 9 * weight l.x.now + 3

abbrev pub decreases-section_item : goal.decreases-section_item
decreases-section_item l = 9 * weight l.x.now + 2

abbrev pub decreases-section : goal.decreases-section
decreases-section l = 9 * weight l.plain.now + 1

abbrev pub decreases-extend : goal.decreases-extend
decreases-extend l = 9 * weight l.x.now + 1

abbrev pub decreases-pass_over : goal.decreases-pass_over
decreases-pass_over l = 9 * weight l.x.now + 1

abbrev pub invariant-add_list-loop-x : goal.invariant-add_list-loop-x
invariant-add_list-loop-x l = record {
  behind : behind_items (context_of l.ctx) (items_of (words_of l.ctx.words) (drop l.x-index l.nodes)) (walk_of l.state) ≡ behind_items
      (context_of l.ctx) (items_of (words_of l.ctx.words) l.nodes) (walk_of l.initial.state);
  items : l.out ++ list_items (context_of l.ctx) (items_of (words_of l.ctx.words) (drop l.x-index l.nodes)) (walk_of l.state) ≡ l.initial.out ++
      list_items (context_of l.ctx) (items_of (words_of l.ctx.words) l.nodes) (walk_of l.initial.state);
  cases : list_entries (context_of l.ctx) (items_of (words_of l.ctx.words) (drop l.x-index l.nodes)) (walk_of l.state) l.state.cases ≡ list_entries
      (context_of l.ctx) (items_of (words_of l.ctx.words) l.nodes) (walk_of l.initial.state) l.initial.state.cases;
  faults : list_faults (context_of l.ctx) (around_of l.around) (items_of (words_of l.ctx.words) (drop l.x-index l.nodes)) (walk_of l.state)
      l.state.faults ≡ list_faults (context_of l.ctx) (around_of l.around) (items_of (words_of l.ctx.words) l.nodes) (walk_of l.initial.state)
      l.initial.state.faults;
}

abbrev pub invariant-sections_of-loop-x : goal.invariant-sections_of-loop-x
invariant-sections_of-loop-x l = record {
  behind : behind_items (context_of l.ctx) (items_of (words_of l.ctx.words) (drop l.x-index l.nodes)) (walk_of l.state) ≡ behind_items
      (context_of l.ctx) (items_of (words_of l.ctx.words) l.nodes) (walk_of l.initial.state);
  sections : l.read.done ++ sections_behind (context_of l.ctx) l.read.current (items_of (words_of l.ctx.words) (drop l.x-index l.nodes))
      (notes_at (context_of l.ctx) (AtEnd l.first)) (walk_of l.state)
      ≡ front (outside_items (context_of l.ctx) (items_of (words_of l.ctx.words) l.nodes) (walk_of l.initial.state)) ++
      sections_from (context_of l.ctx) None (items_of (words_of l.ctx.words) l.nodes) (notes_at (context_of l.ctx) (AtEnd l.first))
      (walk_of l.initial.state);
  cases : list_entries (context_of l.ctx) (items_of (words_of l.ctx.words) (drop l.x-index l.nodes)) (walk_of l.state) l.state.cases ≡ list_entries
      (context_of l.ctx) (items_of (words_of l.ctx.words) l.nodes) (walk_of l.initial.state) l.initial.state.cases;
  faults : section_faults (context_of l.ctx) (around_of l.around) l.read.current.begun (items_of (words_of l.ctx.words) (drop l.x-index l.nodes))
      (walk_of l.state) l.state.faults
      ≡ outside_faults (context_of l.ctx) (around_of l.around) (items_of (words_of l.ctx.words) l.nodes) (walk_of l.initial.state) l.initial.state.faults;
}
