use Rattle.std.proofs.Common.{◌∙◌, ◌+◌, ◌++◌, ◌∷◌, [], None, false, append_assoc, ap, sym, drop, arith}
use Rattle.std.proofs.lemmas.Result.{on_ok_weaker, IfOk-weaker}
use Rattle.c_tree.specs.SectionLabels.{labels_passed}
use Rattle.c_bodies.specs.Steps.{sections_behind, section_item_faults, section_faults}
use Rattle.c_bodies.specs.Views.{around_of, context_of, walk_of, left}
use Rattle.c_bodies.proofs.Constructs.{if_items, while_items, for_items, switch_items}
use Rattle.c_bodies.proofs.Insides.{inside_below}
use Rattle.c_bodies.proofs.Scopes.{left_for}
use Rattle.c_bodies.proofs.SwitchSteps.{whatever, after, both, all_three, all_five, states_faults, section_states, choice_items, nodes_at, token_node, item_node, behind_step, lone_step, faults_step, lone_faults}
use Rattle.c_grammar.specs.ItemViews.{item_of, plain_of, body_of, labels_of, item_form, start_form}
use Rattle.c_grammar.specs.Parts.{term_of}
use Rattle.c_grammar.specs.Views.{words_of}
use Rattle.c_statements.specs.declared.anchors.Anchor.TheVariants.{AtEnd}
use Rattle.c_statements.specs.Cases.{item_entries, plain_entries, body_entries, list_entries, switch_faults}
use Rattle.c_statements.specs.Context.{env_at, enter, in_loop, in_switch, notes_at}
use Rattle.c_statements.specs.Labels.{labels_items}
use Rattle.c_statements.specs.Nodes.{items_of}
use Rattle.c_statements.specs.Sections.{front}
use Rattle.c_statements.specs.Statements.{behind_item, behind_items, behind_body, item_items, plain_items, list_items, body_items, switch_sections, sections_from, outside_items}
use Rattle.c_statements.specs.Violations.{item_faults, body_faults, list_faults, outside_faults, switch_body_faults}
use Rattle.c_bodies.proofs.walk.+walk.Goals as goal

pub add_plain-add_statement-requires : goal.add_plain-add_statement-requires
add_plain-add_statement-requires t c = let e = inside_below c.args.x.now c.statement_layer-layer.result c.statement_layer-layer.ensures.smaller in
    omega (arith, e, c.decreases)

pub add_statement-returns-in-If-clause-walk : goal.add_statement-returns-in-If-clause-walk
add_statement-returns-in-If-clause-walk t c = rw c.in-If.is c.add_if.ensures.walk

pub add_statement-returns-in-If-clause-out : goal.add_statement-returns-in-If-clause-out
add_statement-returns-in-If-clause-out t c = rw c.in-If.is c.add_if.ensures.out

pub add_statement-returns-in-If-clause-cases : goal.add_statement-returns-in-If-clause-cases
add_statement-returns-in-If-clause-cases t c = rw c.in-If.is c.add_if.ensures.cases

pub add_statement-returns-in-If-clause-faults : goal.add_statement-returns-in-If-clause-faults
add_statement-returns-in-If-clause-faults t c = rw c.in-If.is c.add_if.ensures.faults

pub add_statement-returns-in-IfElse-clause-walk : goal.add_statement-returns-in-IfElse-clause-walk
add_statement-returns-in-IfElse-clause-walk t c = rw c.in-IfElse.is c.add_choice.ensures.walk

pub add_statement-returns-in-IfElse-clause-out : goal.add_statement-returns-in-IfElse-clause-out
add_statement-returns-in-IfElse-clause-out t c = rw c.in-IfElse.is c.add_choice.ensures.out

pub add_statement-returns-in-IfElse-clause-cases : goal.add_statement-returns-in-IfElse-clause-cases
add_statement-returns-in-IfElse-clause-cases t c = rw c.in-IfElse.is c.add_choice.ensures.cases

pub add_statement-returns-in-IfElse-clause-faults : goal.add_statement-returns-in-IfElse-clause-faults
add_statement-returns-in-IfElse-clause-faults t c = rw c.in-IfElse.is c.add_choice.ensures.faults

pub add_statement-returns-in-While-clause-walk : goal.add_statement-returns-in-While-clause-walk
add_statement-returns-in-While-clause-walk t c = rw c.in-While.is c.add_while.ensures.walk

pub add_statement-returns-in-While-clause-out : goal.add_statement-returns-in-While-clause-out
add_statement-returns-in-While-clause-out t c = rw c.in-While.is c.add_while.ensures.out

pub add_statement-returns-in-While-clause-cases : goal.add_statement-returns-in-While-clause-cases
add_statement-returns-in-While-clause-cases t c = rw c.in-While.is c.add_while.ensures.cases

pub add_statement-returns-in-While-clause-faults : goal.add_statement-returns-in-While-clause-faults
add_statement-returns-in-While-clause-faults t c = rw c.in-While.is c.add_while.ensures.faults

pub add_statement-returns-in-DoWhile-clause-out : goal.add_statement-returns-in-DoWhile-clause-out
add_statement-returns-in-DoWhile-clause-out t c = rw c.in-DoWhile.is c.add_do.ensures.out

pub add_statement-returns-in-DoWhile-clause-faults : goal.add_statement-returns-in-DoWhile-clause-faults
add_statement-returns-in-DoWhile-clause-faults t c = rw c.in-DoWhile.is c.add_do.ensures.faults

pub add_statement-returns-in-For-clause-walk : goal.add_statement-returns-in-For-clause-walk
add_statement-returns-in-For-clause-walk t c = rw c.in-For.is c.add_for.ensures.walk

pub add_statement-returns-in-For-clause-out : goal.add_statement-returns-in-For-clause-out
add_statement-returns-in-For-clause-out t c = rw c.in-For.is c.add_for.ensures.out

pub add_statement-returns-in-For-clause-cases : goal.add_statement-returns-in-For-clause-cases
add_statement-returns-in-For-clause-cases t c = rw c.in-For.is c.add_for.ensures.cases

pub add_statement-returns-in-For-clause-faults : goal.add_statement-returns-in-For-clause-faults
add_statement-returns-in-For-clause-faults t c = rw c.in-For.is c.add_for.ensures.faults

pub add_statement-returns-in-Switch-clause-walk : goal.add_statement-returns-in-Switch-clause-walk
add_statement-returns-in-Switch-clause-walk t c = rw c.in-Switch.is c.add_switch.ensures.walk

pub add_statement-returns-in-Switch-clause-out : goal.add_statement-returns-in-Switch-clause-out
add_statement-returns-in-Switch-clause-out t c = rw c.in-Switch.is c.add_switch.ensures.out

pub add_statement-returns-in-Switch-clause-faults : goal.add_statement-returns-in-Switch-clause-faults
add_statement-returns-in-Switch-clause-faults t c = rw c.in-Switch.is c.add_switch.ensures.faults

pub add_statement-returns-in-Block-clause-walk : goal.add_statement-returns-in-Block-clause-walk
add_statement-returns-in-Block-clause-walk t c = rw c.in-Block.is c.add_block.ensures.walk

pub add_statement-returns-in-Block-clause-out : goal.add_statement-returns-in-Block-clause-out
add_statement-returns-in-Block-clause-out t c = rw c.in-Block.is c.add_block.ensures.out

pub add_statement-returns-in-Block-clause-cases : goal.add_statement-returns-in-Block-clause-cases
add_statement-returns-in-Block-clause-cases t c = rw c.in-Block.is c.add_block.ensures.cases

pub add_statement-returns-in-Block-clause-faults : goal.add_statement-returns-in-Block-clause-faults
add_statement-returns-in-Block-clause-faults t c = rw c.in-Block.is c.add_block.ensures.faults

pub add_if-returns-in-Ok-clause-out : goal.add_if-returns-in-Ok-clause-out
add_if-returns-in-Ok-clause-out t c =
    after c.push_if.result c.push_if.ensures (λ h. if_items (context_of c.args.ctx.now) (term_of (words_of c.args.ctx.now.words) c.args.t.now)
    (body_of (words_of c.args.ctx.now.words) c.args.b.now) (walk_of c.args.state.now) _ c.args.out.now _ _ _ _ h c.in_ok-e.ensures.value
    c.in-Ok.ensures.value c.new.ensures c.in_ok-e.ensures.walk)

pub add_if-returns-in-Ok-clause-cases : goal.add_if-returns-in-Ok-clause-cases
add_if-returns-in-Ok-clause-cases t c =
    whatever c.push_if.result (c.in-Ok.ensures.cases ∙ (λ i. body_entries (context_of c.args.ctx.now)
    (body_of (words_of c.args.ctx.now.words) c.args.b.now) (c.in_ok-e.ensures.walk i) (c.in_ok-e.ensures.cases i)))

pub add_if-returns-in-Ok-clause-faults : goal.add_if-returns-in-Ok-clause-faults
add_if-returns-in-Ok-clause-faults t c =
    whatever c.push_if.result (c.in-Ok.ensures.faults ∙ (λ i. body_faults (context_of c.args.ctx.now) (around_of c.args.around)
    (body_of (words_of c.args.ctx.now.words) c.args.b.now) (c.in_ok-e.ensures.walk i) (c.in_ok-e.ensures.faults i)))

pub add_while-returns-in-Ok-clause-out : goal.add_while-returns-in-Ok-clause-out
add_while-returns-in-Ok-clause-out t c =
    after c.push_while.result c.push_while.ensures (λ h. while_items (context_of c.args.ctx.now)
    (term_of (words_of c.args.ctx.now.words) c.args.t.now) (body_of (words_of c.args.ctx.now.words) c.args.b.now) (walk_of c.args.state.now)
    _ c.args.out.now _ _ _ h c.in_ok-e.ensures.value c.in-Ok.ensures.value c.in_ok-e.ensures.walk)

pub add_while-returns-in-Ok-clause-cases : goal.add_while-returns-in-Ok-clause-cases
add_while-returns-in-Ok-clause-cases t c =
    whatever c.push_while.result (c.in-Ok.ensures.cases ∙ (λ i. body_entries (context_of c.args.ctx.now)
    (body_of (words_of c.args.ctx.now.words) c.args.b.now) (c.in_ok-e.ensures.walk i) (c.in_ok-e.ensures.cases i)))

pub add_while-returns-in-Ok-clause-faults : goal.add_while-returns-in-Ok-clause-faults
add_while-returns-in-Ok-clause-faults t c =
    whatever c.push_while.result (c.in-Ok.ensures.faults ∙ (λ i. body_faults (context_of c.args.ctx.now) (in_loop (around_of c.args.around))
    (body_of (words_of c.args.ctx.now.words) c.args.b.now) (c.in_ok-e.ensures.walk i) (c.in_ok-e.ensures.faults i)))

pub add_choice-returns-in-Ok-clause-out : goal.add_choice-returns-in-Ok-clause-out
add_choice-returns-in-Ok-clause-out t c =
    after c.push_choice.result c.push_choice.ensures (λ h. choice_items (context_of c.args.ctx.now)
    (term_of (words_of c.args.ctx.now.words) c.args.t.now) (body_of (words_of c.args.ctx.now.words) c.args.b.now)
    (body_of (words_of c.args.ctx.now.words) c.args.c.now) (walk_of c.args.state.now) (walk_of c.used.new.state) c.args.out.now
    c.push_choice.new.out c.in-Ok.lists.then c.in-Ok.lists.other c.in_ok-e.e h c.in_ok-e.ensures.value c.in-Ok.ensures.then c.in-Ok.ensures.other
    c.in_ok-e.ensures.walk)

pub add_choice-returns-in-Ok-clause-cases : goal.add_choice-returns-in-Ok-clause-cases
add_choice-returns-in-Ok-clause-cases t c =
    whatever c.push_choice.result (c.in-Ok.ensures.cases ∙ (λ i. body_entries (context_of c.args.ctx.now)
    (body_of (words_of c.args.ctx.now.words) c.args.c.now)
    (behind_body (context_of c.args.ctx.now) (body_of (words_of c.args.ctx.now.words) c.args.b.now) (c.in_ok-e.ensures.walk i))
    (body_entries (context_of c.args.ctx.now) (body_of (words_of c.args.ctx.now.words) c.args.b.now) (c.in_ok-e.ensures.walk i)
    (c.in_ok-e.ensures.cases i))))

pub add_choice-returns-in-Ok-clause-faults : goal.add_choice-returns-in-Ok-clause-faults
add_choice-returns-in-Ok-clause-faults t c =
    whatever c.push_choice.result (c.in-Ok.ensures.faults ∙ (λ i. body_faults (context_of c.args.ctx.now) (around_of c.args.around)
    (body_of (words_of c.args.ctx.now.words) c.args.c.now)
    (behind_body (context_of c.args.ctx.now) (body_of (words_of c.args.ctx.now.words) c.args.b.now) (c.in_ok-e.ensures.walk i))
    (body_faults (context_of c.args.ctx.now) (around_of c.args.around) (body_of (words_of c.args.ctx.now.words) c.args.b.now)
    (c.in_ok-e.ensures.walk i) (c.in_ok-e.ensures.faults i))))

pub bodies-returns-clause-walk : goal.bodies-returns-clause-walk
bodies-returns-clause-walk t c =
    c.in_ok-other.ensures.walk ∙ ap (behind_body (context_of c.args.ctx.now) (body_of (words_of c.args.ctx.now.words) c.args.c.now)) c.in_ok-then.ensures.walk

pub bodies-returns-clause-cases : goal.bodies-returns-clause-cases
bodies-returns-clause-cases t c =
    c.in_ok-other.ensures.cases ∙ (λ i. body_entries (context_of c.args.ctx.now) (body_of (words_of c.args.ctx.now.words) c.args.c.now)
    (c.in_ok-then.ensures.walk i) (c.in_ok-then.ensures.cases i))

pub bodies-returns-clause-faults : goal.bodies-returns-clause-faults
bodies-returns-clause-faults t c =
    c.in_ok-other.ensures.faults ∙ (λ i. body_faults (context_of c.args.ctx.now) (around_of c.args.around)
    (body_of (words_of c.args.ctx.now.words) c.args.c.now) (c.in_ok-then.ensures.walk i) (c.in_ok-then.ensures.faults i))

pub add_for-returns-in-Ok-clause-walk : goal.add_for-returns-in-Ok-clause-walk
add_for-returns-in-Ok-clause-walk t c =
    whatever c.push_for.result (c.leave.ensures.walk ∙ ap left
    (c.in-Ok.ensures.walk ∙ ap (behind_body (context_of c.args.ctx.now) (body_of (words_of c.args.ctx.now.words) c.args.b.now))
    c.in_ok-heads.ensures.walk) ∙ left_for (context_of c.args.ctx.now) (start_form (words_of c.args.ctx.now.words) c.args.start)
    (body_of (words_of c.args.ctx.now.words) c.args.b.now) (walk_of c.args.state.now))

pub add_for-returns-in-Ok-clause-out : goal.add_for-returns-in-Ok-clause-out
add_for-returns-in-Ok-clause-out t c =
    after c.push_for.result c.push_for.ensures (λ h. for_items (context_of c.args.ctx.now) (start_form (words_of c.args.ctx.now.words) c.args.start)
    _ _ (body_of (words_of c.args.ctx.now.words) c.args.b.now) (walk_of c.args.state.now) _ c.args.out.now _ _ _ _ _ h c.in_ok-heads.ensures.start
    c.in_ok-heads.ensures.test c.in_ok-heads.ensures.third c.in-Ok.ensures.value c.in_ok-heads.ensures.walk)

pub add_for-returns-in-Ok-clause-cases : goal.add_for-returns-in-Ok-clause-cases
add_for-returns-in-Ok-clause-cases t c =
    whatever c.push_for.result (c.leave.ensures.cases ∙ c.in-Ok.ensures.cases ∙
    (λ i. body_entries (context_of c.args.ctx.now) (body_of (words_of c.args.ctx.now.words) c.args.b.now) (c.in_ok-heads.ensures.walk i)
    (c.in_ok-heads.ensures.cases i)))

pub add_for-returns-in-Ok-clause-faults : goal.add_for-returns-in-Ok-clause-faults
add_for-returns-in-Ok-clause-faults t c =
    whatever c.push_for.result (c.leave.ensures.faults ∙ c.in-Ok.ensures.faults ∙
    (λ i. body_faults (context_of c.args.ctx.now) (in_loop (around_of c.args.around)) (body_of (words_of c.args.ctx.now.words) c.args.b.now)
    (c.in_ok-heads.ensures.walk i) (c.in_ok-heads.ensures.faults i)))

pub add_item-returns-in_ok-add_labels-in-States-clause-out : goal.add_item-returns-in_ok-add_labels-in-States-clause-out
add_item-returns-in_ok-add_labels-in-States-clause-out t c =
    on_ok_weaker c.add_plain.result (λ h. h ∙ (λ i. c.in_ok-add_labels-in-States.ensures.out i ++ plain_items (context_of c.args.ctx.now)
    (plain_of (words_of c.args.ctx.now.words) c.in-States.plain.now) (c.in_ok-add_labels-in-States.ensures.walk i)) ∙
    append_assoc c.args.out.now (labels_items (context_of c.args.ctx.now) (env_at (context_of c.args.ctx.now) (walk_of c.args.state.now))
    (labels_of (words_of c.args.ctx.now.words) c.in-States.labels.now))
    (plain_items (context_of c.args.ctx.now) (plain_of (words_of c.args.ctx.now.words) c.in-States.plain.now) (walk_of c.args.state.now)) ∙
    sym (ap (λ y. c.args.out.now ++ item_items (context_of c.args.ctx.now) y (walk_of c.args.state.now))
    (c.item_layer.ensures.form ∙ ap (item_form (words_of c.args.ctx.now.words)) c.in-States.is))) c.add_plain.ensures.out

pub add_item-returns-in_ok-add_labels-in-States-clause-cases : goal.add_item-returns-in_ok-add_labels-in-States-clause-cases
add_item-returns-in_ok-add_labels-in-States-clause-cases t c =
    on_ok_weaker c.add_plain.result (λ h. h ∙ (λ i. plain_entries (context_of c.args.ctx.now)
    (plain_of (words_of c.args.ctx.now.words) c.in-States.plain.now) (c.in_ok-add_labels-in-States.ensures.walk i)
    (c.in_ok-add_labels-in-States.ensures.cases i)) ∙ sym
    (ap (λ y. item_entries (context_of c.args.ctx.now) y (walk_of c.args.state.now) c.args.state.now.cases)
    (c.item_layer.ensures.form ∙ ap (item_form (words_of c.args.ctx.now.words)) c.in-States.is))) c.add_plain.ensures.cases

pub add_item-returns-in_ok-add_labels-in-States-clause-faults : goal.add_item-returns-in_ok-add_labels-in-States-clause-faults
add_item-returns-in_ok-add_labels-in-States-clause-faults t c =
    after c.add_plain.result c.add_plain.ensures.faults (λ h. states_faults (context_of c.args.ctx.now) (around_of c.args.around)
    (item_of (words_of c.args.ctx.now.words) c.args.x.now) (labels_of (words_of c.args.ctx.now.words) c.in-States.labels.now)
    (plain_of (words_of c.args.ctx.now.words) c.in-States.plain.now) (walk_of c.args.state.now) (walk_of c.add_labels.new.state)
    c.args.state.now.faults c.add_labels.new.state.faults c.add_plain.new.state.faults
    (c.item_layer.ensures.form ∙ ap (item_form (words_of c.args.ctx.now.words)) c.in-States.is) h c.in_ok-add_labels-in-States.ensures.walk
    c.in_ok-add_labels-in-States.ensures.faults)

pub braces-returns-clause-value : goal.braces-returns-clause-value
braces-returns-clause-value t c =
    c.in_ok-add_notes.ensures ∙ ap (λ l. l ++ notes_at (context_of c.args.ctx.now) (AtEnd c.args.first))
    (c.in_ok-add_list.ensures.out ∙ (λ i. c.new-out.ensures i ++ list_items (context_of c.args.ctx.now)
    (items_of (words_of c.args.ctx.now.words) c.args.nodes.now) (c.in_ok-enter.ensures.walk i)))

pub braces-returns-clause-cases : goal.braces-returns-clause-cases
braces-returns-clause-cases t c =
    c.leave.ensures.cases ∙ c.in_ok-add_list.ensures.cases ∙
    (λ i. list_entries (context_of c.args.ctx.now) (items_of (words_of c.args.ctx.now.words) c.args.nodes.now) (c.in_ok-enter.ensures.walk i)
    (c.in_ok-enter.ensures.cases i))

pub braces-returns-clause-faults : goal.braces-returns-clause-faults
braces-returns-clause-faults t c =
    c.leave.ensures.faults ∙ c.in_ok-add_list.ensures.faults ∙
    (λ i. list_faults (context_of c.args.ctx.now) (around_of c.args.around) (items_of (words_of c.args.ctx.now.words) c.args.nodes.now)
    (c.in_ok-enter.ensures.walk i) (c.in_ok-enter.ensures.faults i))

pub lone-returns-clause-cases : goal.lone-returns-clause-cases
lone-returns-clause-cases t c =
    c.leave.ensures.cases ∙ c.in_ok-add_item.ensures.cases ∙
    (λ i. item_entries (context_of c.args.ctx.now) (item_of (words_of c.args.ctx.now.words) c.args.x.now) (c.in_ok-enter.ensures.walk i)
    (c.in_ok-enter.ensures.cases i))

pub lone-returns-clause-faults : goal.lone-returns-clause-faults
lone-returns-clause-faults t c =
    c.leave.ensures.faults ∙ c.in_ok-add_item.ensures.faults ∙
    (λ i. item_faults (context_of c.args.ctx.now) (around_of c.args.around) (item_of (words_of c.args.ctx.now.words) c.args.x.now)
    (c.in_ok-enter.ensures.walk i) (c.in_ok-enter.ensures.faults i))

pub add_list-loop-x-preserved : goal.add_list-loop-x-preserved
add_list-loop-x-preserved t c =
    record {
      behind = c.in_ok-add_node.ensures.walk (items_of (words_of c.args.ctx.now.words) (drop (c.loop-x.x-index + 1) c.args.nodes.now)) ∙
          sym (ap (λ l. behind_items (context_of c.args.ctx.now) l (walk_of c.loop-x.state))
          (nodes_at (words_of c.args.ctx.now.words) c.args.nodes.now c.loop-x.x-index c.x-item.result c.loop-x-test.true c.x-item.is)) ∙
          c.loop-x.invariant.behind;
      items = c.in_ok-add_node.ensures.out
          (items_of (words_of c.args.ctx.now.words) (drop (c.loop-x.x-index + 1) c.args.nodes.now)) ∙
          sym (ap (λ l. c.loop-x.out ++ list_items (context_of c.args.ctx.now) l (walk_of c.loop-x.state))
          (nodes_at (words_of c.args.ctx.now.words) c.args.nodes.now c.loop-x.x-index c.x-item.result c.loop-x-test.true c.x-item.is)) ∙
          c.loop-x.invariant.items;
      cases = c.in_ok-add_node.ensures.cases
          (items_of (words_of c.args.ctx.now.words) (drop (c.loop-x.x-index + 1) c.args.nodes.now)) ∙
          sym (ap (λ l. list_entries (context_of c.args.ctx.now) l (walk_of c.loop-x.state) c.loop-x.state.cases)
          (nodes_at (words_of c.args.ctx.now.words) c.args.nodes.now c.loop-x.x-index c.x-item.result c.loop-x-test.true c.x-item.is)) ∙
          c.loop-x.invariant.cases;
      faults = c.in_ok-add_node.ensures.faults
          (items_of (words_of c.args.ctx.now.words) (drop (c.loop-x.x-index + 1) c.args.nodes.now)) ∙
          sym (ap (λ l. list_faults (context_of c.args.ctx.now) (around_of c.args.around) l (walk_of c.loop-x.state) c.loop-x.state.faults)
          (nodes_at (words_of c.args.ctx.now.words) c.args.nodes.now c.loop-x.x-index c.x-item.result c.loop-x-test.true c.x-item.is)) ∙
          c.loop-x.invariant.faults;
    }

pub sections_of-loop-x-preserved : goal.sections_of-loop-x-preserved
sections_of-loop-x-preserved t c =
    record {
      behind = c.in_ok-section_node.ensures.walk (items_of (words_of c.args.ctx.now.words) (drop (c.loop-x.x-index + 1) c.args.nodes.now)) ∙
          sym (ap (λ l. behind_items (context_of c.args.ctx.now) l (walk_of c.loop-x.state))
          (nodes_at (words_of c.args.ctx.now.words) c.args.nodes.now c.loop-x.x-index c.x-item.result c.loop-x-test.true c.x-item.is)) ∙
          c.loop-x.invariant.behind;
      sections = c.in_ok-section_node.ensures.sections
          (items_of (words_of c.args.ctx.now.words) (drop (c.loop-x.x-index + 1) c.args.nodes.now))
          (notes_at (context_of c.args.ctx.now) (AtEnd c.args.first)) ∙ sym
          (ap (λ l. c.loop-x.read.done ++ sections_behind (context_of c.args.ctx.now) c.loop-x.read.current l
          (notes_at (context_of c.args.ctx.now) (AtEnd c.args.first)) (walk_of c.loop-x.state))
          (nodes_at (words_of c.args.ctx.now.words) c.args.nodes.now c.loop-x.x-index c.x-item.result c.loop-x-test.true c.x-item.is)) ∙
          c.loop-x.invariant.sections;
      cases = c.in_ok-section_node.ensures.cases
          (items_of (words_of c.args.ctx.now.words) (drop (c.loop-x.x-index + 1) c.args.nodes.now)) ∙
          sym (ap (λ l. list_entries (context_of c.args.ctx.now) l (walk_of c.loop-x.state) c.loop-x.state.cases)
          (nodes_at (words_of c.args.ctx.now.words) c.args.nodes.now c.loop-x.x-index c.x-item.result c.loop-x-test.true c.x-item.is)) ∙
          c.loop-x.invariant.cases;
      faults = c.in_ok-section_node.ensures.faults
          (items_of (words_of c.args.ctx.now.words) (drop (c.loop-x.x-index + 1) c.args.nodes.now)) ∙
          sym (ap (λ l. section_faults (context_of c.args.ctx.now) (around_of c.args.around) c.loop-x.read.current.begun l (walk_of c.loop-x.state)
          c.loop-x.state.faults) (nodes_at (words_of c.args.ctx.now.words) c.args.nodes.now c.loop-x.x-index c.x-item.result c.loop-x-test.true
          c.x-item.is)) ∙ c.loop-x.invariant.faults;
    }

pub add_node-returns-then-is_token-clause-walk : goal.add_node-returns-then-is_token-clause-walk
add_node-returns-then-is_token-clause-walk t c =
    λ xs. sym (ap (λ l. behind_items (context_of c.args.ctx.now) l (walk_of c.args.state.now))
    (token_node (words_of c.args.ctx.now.words) c.args.x.now xs (sym c.is_token.ensures ∙ c.if-is_token.true)))

pub add_node-returns-then-is_token-clause-out : goal.add_node-returns-then-is_token-clause-out
add_node-returns-then-is_token-clause-out t c =
    λ xs. sym (ap (λ l. c.args.out.now ++ list_items (context_of c.args.ctx.now) l (walk_of c.args.state.now))
    (token_node (words_of c.args.ctx.now.words) c.args.x.now xs (sym c.is_token.ensures ∙ c.if-is_token.true)))

pub add_node-returns-then-is_token-clause-cases : goal.add_node-returns-then-is_token-clause-cases
add_node-returns-then-is_token-clause-cases t c =
    λ xs. sym (ap (λ l. list_entries (context_of c.args.ctx.now) l (walk_of c.args.state.now) c.args.state.now.cases)
    (token_node (words_of c.args.ctx.now.words) c.args.x.now xs (sym c.is_token.ensures ∙ c.if-is_token.true)))

pub add_node-returns-then-is_token-clause-faults : goal.add_node-returns-then-is_token-clause-faults
add_node-returns-then-is_token-clause-faults t c =
    λ xs. sym (ap (λ l. list_faults (context_of c.args.ctx.now) (around_of c.args.around) l (walk_of c.args.state.now) c.args.state.now.faults)
    (token_node (words_of c.args.ctx.now.words) c.args.x.now xs (sym c.is_token.ensures ∙ c.if-is_token.true)))

pub add_node-returns-clause-walk : goal.add_node-returns-clause-walk
add_node-returns-clause-walk t c =
    on_ok_weaker c.add_item.result (λ h xs. ap (behind_items (context_of c.args.ctx.now) xs) h ∙
    sym (ap (λ l. behind_items (context_of c.args.ctx.now) l (walk_of c.args.state.now))
    (item_node (words_of c.args.ctx.now.words) c.args.x.now xs (sym c.is_token.ensures ∙ c.if-is_token.false)))) c.add_item.ensures.walk

pub add_node-returns-clause-out : goal.add_node-returns-clause-out
add_node-returns-clause-out t c =
    both c.add_item.result (λ h g xs. (λ i. h i ++ list_items (context_of c.args.ctx.now) xs (g i)) ∙
    append_assoc c.args.out.now (item_items (context_of c.args.ctx.now) (item_of (words_of c.args.ctx.now.words) c.args.x.now)
    (walk_of c.args.state.now)) (list_items (context_of c.args.ctx.now) xs
    (behind_item (context_of c.args.ctx.now) (item_of (words_of c.args.ctx.now.words) c.args.x.now) (walk_of c.args.state.now))) ∙
    sym (ap (λ l. c.args.out.now ++ list_items (context_of c.args.ctx.now) l (walk_of c.args.state.now))
    (item_node (words_of c.args.ctx.now.words) c.args.x.now xs (sym c.is_token.ensures ∙ c.if-is_token.false)))) c.add_item.ensures.out
    c.add_item.ensures.walk

pub add_node-returns-clause-cases : goal.add_node-returns-clause-cases
add_node-returns-clause-cases t c =
    both c.add_item.result (λ h g xs. (λ i. list_entries (context_of c.args.ctx.now) xs (g i) (h i)) ∙
    sym (ap (λ l. list_entries (context_of c.args.ctx.now) l (walk_of c.args.state.now) c.args.state.now.cases)
    (item_node (words_of c.args.ctx.now.words) c.args.x.now xs (sym c.is_token.ensures ∙ c.if-is_token.false)))) c.add_item.ensures.cases
    c.add_item.ensures.walk

pub add_node-returns-clause-faults : goal.add_node-returns-clause-faults
add_node-returns-clause-faults t c =
    both c.add_item.result (λ h g xs. (λ i. list_faults (context_of c.args.ctx.now) (around_of c.args.around) xs (g i) (h i)) ∙
    sym (ap (λ l. list_faults (context_of c.args.ctx.now) (around_of c.args.around) l (walk_of c.args.state.now) c.args.state.now.faults)
    (item_node (words_of c.args.ctx.now.words) c.args.x.now xs (sym c.is_token.ensures ∙ c.if-is_token.false)))) c.add_item.ensures.faults
    c.add_item.ensures.walk

pub section_node-returns-then-is_token-clause-walk : goal.section_node-returns-then-is_token-clause-walk
section_node-returns-then-is_token-clause-walk t c =
    λ xs. sym (ap (λ l. behind_items (context_of c.args.ctx.now) l (walk_of c.args.state.now))
    (token_node (words_of c.args.ctx.now.words) c.args.x.now xs (sym c.is_token.ensures ∙ c.if-is_token.true)))

pub section_node-returns-then-is_token-clause-sections : goal.section_node-returns-then-is_token-clause-sections
section_node-returns-then-is_token-clause-sections t c =
    λ xs notes. sym (ap (λ l. c.args.read.now.done ++ sections_behind (context_of c.args.ctx.now) c.args.read.now.current l notes
    (walk_of c.args.state.now)) (token_node (words_of c.args.ctx.now.words) c.args.x.now xs (sym c.is_token.ensures ∙ c.if-is_token.true)))

pub section_node-returns-then-is_token-clause-cases : goal.section_node-returns-then-is_token-clause-cases
section_node-returns-then-is_token-clause-cases t c =
    λ xs. sym (ap (λ l. list_entries (context_of c.args.ctx.now) l (walk_of c.args.state.now) c.args.state.now.cases)
    (token_node (words_of c.args.ctx.now.words) c.args.x.now xs (sym c.is_token.ensures ∙ c.if-is_token.true)))

pub section_node-returns-then-is_token-clause-faults : goal.section_node-returns-then-is_token-clause-faults
section_node-returns-then-is_token-clause-faults t c =
    λ xs. sym (ap (λ l. section_faults (context_of c.args.ctx.now) (around_of c.args.around) c.args.read.now.current.begun l
    (walk_of c.args.state.now) c.args.state.now.faults) (token_node (words_of c.args.ctx.now.words) c.args.x.now xs
    (sym c.is_token.ensures ∙ c.if-is_token.true)))

pub section_node-returns-clause-walk : goal.section_node-returns-clause-walk
section_node-returns-clause-walk t c =
    on_ok_weaker c.section_item.result (λ h xs. ap (behind_items (context_of c.args.ctx.now) xs) h ∙
    sym (ap (λ l. behind_items (context_of c.args.ctx.now) l (walk_of c.args.state.now))
    (item_node (words_of c.args.ctx.now.words) c.args.x.now xs (sym c.is_token.ensures ∙ c.if-is_token.false)))) c.section_item.ensures.walk

pub section_node-returns-clause-sections : goal.section_node-returns-clause-sections
section_node-returns-clause-sections t c =
    all_five c.section_item.result (λ d k b o g xs notes. behind_step (context_of c.args.ctx.now) c.args.read.now.current
    c.section_item.new.read.current (item_of (words_of c.args.ctx.now.words) c.args.x.now) xs notes (walk_of c.section_item.new.state)
    (walk_of c.args.state.now) c.args.read.now.done c.section_item.new.read.done d k b o g ∙
    sym (ap (λ l. c.args.read.now.done ++ sections_behind (context_of c.args.ctx.now) c.args.read.now.current l notes (walk_of c.args.state.now))
    (item_node (words_of c.args.ctx.now.words) c.args.x.now xs (sym c.is_token.ensures ∙ c.if-is_token.false)))) c.section_item.ensures.done
    c.section_item.ensures.current c.section_item.ensures.begun c.section_item.ensures.outside c.section_item.ensures.walk

pub section_node-returns-clause-cases : goal.section_node-returns-clause-cases
section_node-returns-clause-cases t c =
    both c.section_item.result (λ h g xs. (λ i. list_entries (context_of c.args.ctx.now) xs (g i) (h i)) ∙
    sym (ap (λ l. list_entries (context_of c.args.ctx.now) l (walk_of c.args.state.now) c.args.state.now.cases)
    (item_node (words_of c.args.ctx.now.words) c.args.x.now xs (sym c.is_token.ensures ∙ c.if-is_token.false)))) c.section_item.ensures.cases
    c.section_item.ensures.walk

pub section_node-returns-clause-faults : goal.section_node-returns-clause-faults
section_node-returns-clause-faults t c =
    all_three c.section_item.result (λ h b g xs. (λ i. section_faults (context_of c.args.ctx.now) (around_of c.args.around) (b i) xs (g i) (h i)) ∙
    sym (faults_step (context_of c.args.ctx.now) (around_of c.args.around) c.args.read.now.current.begun
    (item_of (words_of c.args.ctx.now.words) c.args.x.now) xs (walk_of c.args.state.now) c.args.state.now.faults) ∙
    sym (ap (λ l. section_faults (context_of c.args.ctx.now) (around_of c.args.around) c.args.read.now.current.begun l (walk_of c.args.state.now)
    c.args.state.now.faults) (item_node (words_of c.args.ctx.now.words) c.args.x.now xs (sym c.is_token.ensures ∙ c.if-is_token.false))))
    c.section_item.ensures.faults c.section_item.ensures.begun c.section_item.ensures.walk

pub section-returns-clause-faults : goal.section-returns-clause-faults
section-returns-clause-faults t c =
    after c.add_plain.result c.add_plain.ensures.faults (λ h. section_states (context_of c.args.ctx.now) (around_of c.args.around)
    c.args.read.now.current.begun (labels_of (words_of c.args.ctx.now.words) c.args.labels.now)
    (plain_of (words_of c.args.ctx.now.words) c.args.plain.now) (walk_of c.args.state.now) (walk_of c.begin.new.state) c.args.state.now.faults
    c.begin.new.state.faults c.add_plain.new.state.faults c.requires h c.in_ok-begin.ensures.walk c.in_ok-begin.ensures.faults)

pub add_switch-returns-in-Ok-clause-walk : goal.add_switch-returns-in-Ok-clause-walk
add_switch-returns-in-Ok-clause-walk t c =
    whatever c.push_switch.result (c.in-Ok.ensures.walk ∙ ap (behind_body (context_of c.args.ctx.now)
    (body_of (words_of c.args.ctx.now.words) c.args.b.now)) c.in_ok-selected.ensures.walk)

pub add_switch-returns-in-Ok-clause-out : goal.add_switch-returns-in-Ok-clause-out
add_switch-returns-in-Ok-clause-out t c =
    after c.push_switch.result c.push_switch.ensures (λ h. switch_items (context_of c.args.ctx.now)
    (term_of (words_of c.args.ctx.now.words) c.args.t.now) (body_of (words_of c.args.ctx.now.words) c.args.b.now) (walk_of c.args.state.now)
    _ c.args.out.now _ _ _ h c.in_ok-selected.ensures.value c.in-Ok.ensures.value c.in_ok-selected.ensures.walk)

pub add_switch-returns-in-Ok-clause-faults : goal.add_switch-returns-in-Ok-clause-faults
add_switch-returns-in-Ok-clause-faults t c =
    whatever c.push_switch.result (c.in-Ok.ensures.faults ∙ (λ i. switch_faults (c.in_ok-selected.ensures.kind i)
    (body_entries (context_of c.args.ctx.now) (body_of (words_of c.args.ctx.now.words) c.args.b.now) (c.in_ok-selected.ensures.walk i) [])
    (switch_body_faults (context_of c.args.ctx.now) (in_switch (around_of c.args.around)) (body_of (words_of c.args.ctx.now.words) c.args.b.now)
    (c.in_ok-selected.ensures.walk i) (c.in_ok-selected.ensures.faults i))))

pub switch_of-returns-clause-walk : goal.switch_of-returns-clause-walk
switch_of-returns-clause-walk t c =
    whatever c.labels_passed.result (c.put_cases.ensures.walk ∙ c.in_ok-report_switch.ensures.walk ∙ c.in_ok-ss.ensures.walk ∙
    ap (behind_body (context_of c.args.ctx.now) (body_of (words_of c.args.ctx.now.words) c.args.b.now)) c.take_cases-outer.ensures.walk)

pub switch_of-returns-clause-value : goal.switch_of-returns-clause-value
switch_of-returns-clause-value t c =
    IfOk-weaker c.labels_passed.result _ _ (λ ss h. h ∙ ap labels_passed
    (c.in_ok-ss.ensures.value ∙ ap (switch_sections (context_of c.args.ctx.now) (body_of (words_of c.args.ctx.now.words) c.args.b.now))
    c.take_cases-outer.ensures.walk)) c.labels_passed.ensures

pub switch_of-returns-clause-faults : goal.switch_of-returns-clause-faults
switch_of-returns-clause-faults t c =
    whatever c.labels_passed.result (c.put_cases.ensures.faults ∙ c.in_ok-report_switch.ensures.faults ∙
    (λ i. switch_faults c.args.kind ((c.in_ok-ss.ensures.cases ∙
    (λ j. body_entries (context_of c.args.ctx.now) (body_of (words_of c.args.ctx.now.words) c.args.b.now) (c.take_cases-outer.ensures.walk j)
    (c.take_cases-outer.ensures.cases j))) i)
    ((c.in_ok-ss.ensures.faults ∙ (λ j. switch_body_faults (context_of c.args.ctx.now) (around_of c.args.around)
    (body_of (words_of c.args.ctx.now.words) c.args.b.now) (c.take_cases-outer.ensures.walk j) (c.take_cases-outer.ensures.faults j))) i)))

pub switch_braces-returns-clause-value : goal.switch_braces-returns-clause-value
switch_braces-returns-clause-value t c =
    c.in_ok-read.ensures.value ∙ ap (λ w. front (outside_items (context_of c.args.ctx.now) (items_of (words_of c.args.ctx.now.words) c.args.nodes.now)
    w) ++ sections_from (context_of c.args.ctx.now) None (items_of (words_of c.args.ctx.now.words) c.args.nodes.now)
    (notes_at (context_of c.args.ctx.now) (AtEnd c.args.first)) w) c.in_ok-enter.ensures.walk

pub switch_braces-returns-clause-cases : goal.switch_braces-returns-clause-cases
switch_braces-returns-clause-cases t c =
    c.leave.ensures.cases ∙ c.in_ok-read.ensures.cases ∙ (λ i. list_entries (context_of c.args.ctx.now)
    (items_of (words_of c.args.ctx.now.words) c.args.nodes.now) (c.in_ok-enter.ensures.walk i) (c.in_ok-enter.ensures.cases i))

pub switch_braces-returns-clause-faults : goal.switch_braces-returns-clause-faults
switch_braces-returns-clause-faults t c =
    c.leave.ensures.faults ∙ c.in_ok-read.ensures.faults ∙ (λ i. outside_faults (context_of c.args.ctx.now) (around_of c.args.around)
    (items_of (words_of c.args.ctx.now.words) c.args.nodes.now) (c.in_ok-enter.ensures.walk i) (c.in_ok-enter.ensures.faults i))

pub switch_lone-returns-clause-value : goal.switch_lone-returns-clause-value
switch_lone-returns-clause-value t c =
    IfOk-weaker c.finish.result _ _ (λ ss h. lone_step (context_of c.args.ctx.now) (item_of (words_of c.args.ctx.now.words) c.args.x.now)
    (notes_at (context_of c.args.ctx.now) (AtEnd c.args.first)) (walk_of c.enter.new.state) (enter (walk_of c.args.state.now))
    c.no_sections-read.result.current c.section_item.new.read.current c.no_sections-read.result.done c.section_item.new.read.done ss
    c.in_ok-enter.ensures.walk c.no_sections-read.ensures.done c.no_sections-read.ensures.current c.in_ok-section_item.ensures.done
    c.in_ok-section_item.ensures.current c.in_ok-section_item.ensures.outside h) c.finish.ensures

pub switch_lone-returns-clause-cases : goal.switch_lone-returns-clause-cases
switch_lone-returns-clause-cases t c =
    whatever c.finish.result (c.leave.ensures.cases ∙ c.in_ok-section_item.ensures.cases ∙
    (λ i. item_entries (context_of c.args.ctx.now) (item_of (words_of c.args.ctx.now.words) c.args.x.now) (c.in_ok-enter.ensures.walk i)
    (c.in_ok-enter.ensures.cases i)))

pub switch_lone-returns-clause-faults : goal.switch_lone-returns-clause-faults
switch_lone-returns-clause-faults t c =
    whatever c.finish.result (c.leave.ensures.faults ∙ c.in_ok-section_item.ensures.faults ∙
    (λ i. section_item_faults (context_of c.args.ctx.now) (around_of c.args.around) (c.no_sections-read.ensures.current i).begun
    (item_of (words_of c.args.ctx.now.words) c.args.x.now) (c.in_ok-enter.ensures.walk i) (c.in_ok-enter.ensures.faults i)) ∙
    sym (lone_faults (context_of c.args.ctx.now) (around_of c.args.around) (item_of (words_of c.args.ctx.now.words) c.args.x.now)
    (enter (walk_of c.args.state.now)) c.args.state.now.faults))
