-- What each form with several parts calls.
use Rattle.std.proofs.Common.{◌≡◌, ℕ, Bool, ◌||◌, List, Option, sym, ap, ◌∙◌}
use Rattle.c_types.specs.declared.kinds.ArithOp.{ArithOp}
use Rattle.c_tree.specs.declared.tree.BinaryOp.{BinaryOp}
use Rattle.c_tree.specs.declared.tree.Expression.{Expression}
use Rattle.c_tree.specs.declared.tree.Place.{Place}
use Rattle.c_tree.specs.declared.tree.Node.{Binary, Conditional, Assign, Update, Comma, Call, fold-roll-Node}
use Rattle.c_tree.specs.declared.tree.Node.TheVariants.{rolls-Binary, rolls-Conditional, rolls-Assign, rolls-Update, rolls-Comma, rolls-Call}
use Rattle.c_tree.specs.declared.tree.Node.TheOpen as N
use Rattle.c_tree.specs.declared.tree.Test.{Test}
use Rattle.c_tree.specs.declared.tree.Selector.{Selector}
use Rattle.c_tree.specs.declared.tree.Item.{Item, If, While, Do, For, Switch, fold-roll-Item}
use Rattle.c_tree.specs.declared.tree.Item.TheVariants.{rolls-If, rolls-While, rolls-Do, rolls-For, rolls-Switch}
use Rattle.c_tree.specs.declared.tree.Item.TheOpen as O
use Rattle.c_tree.specs.declared.tree.Section.{Section, out-Section, fold_out-Section}
use Rattle.step_open_calls.specs.Calls.{node_step, place_step, expression_step, expression_calls, expressions_call, node_calls, place_calls, option_calls, test_calls, selector_calls, item_step, section_step, item_calls, section_calls, items_call, sections_call}

module _ (p : List ℕ → Bool) where
  pub node_calls_binary : (op : BinaryOp) (a b : Expression) → node_calls p (Binary op a b) ≡ (expression_calls p a || expression_calls p b)
  node_calls_binary op a b = ap (node_calls p) (sym (rolls-Binary op a b)) ∙
      fold-roll-Node Bool Bool Bool (node_step p) place_step expression_step (N.Binary op a b)

  pub node_calls_conditional : (a b c : Expression) → node_calls p
      (Conditional a b c) ≡ (expression_calls p a || (expression_calls p b || expression_calls p c))
  node_calls_conditional a b c = ap (node_calls p) (sym (rolls-Conditional a b c)) ∙
      fold-roll-Node Bool Bool Bool (node_step p) place_step expression_step (N.Conditional a b c)

  pub node_calls_assign : (at : Place) (a : Expression) → node_calls p (Assign at a) ≡ (place_calls p at || expression_calls p a)
  node_calls_assign at a = ap (node_calls p) (sym (rolls-Assign at a)) ∙ fold-roll-Node Bool Bool Bool (node_step p) place_step expression_step (N.Assign at a)

  pub node_calls_update : (op : ArithOp) (at : Place) (a : Expression) → node_calls p (Update op at a) ≡ (place_calls p at || expression_calls p a)
  node_calls_update op at a = ap (node_calls p) (sym (rolls-Update op at a)) ∙
      fold-roll-Node Bool Bool Bool (node_step p) place_step expression_step (N.Update op at a)

  pub node_calls_comma : (a b : Expression) → node_calls p (Comma a b) ≡ (expression_calls p a || expression_calls p b)
  node_calls_comma a b = ap (node_calls p) (sym (rolls-Comma a b)) ∙ fold-roll-Node Bool Bool Bool (node_step p) place_step expression_step (N.Comma a b)

  pub node_calls_call : (f : List ℕ) (es : List Expression) → node_calls p (Call f es) ≡ (p f || expressions_call p es)
  node_calls_call f es = ap (node_calls p) (sym (rolls-Call f es)) ∙ fold-roll-Node Bool Bool Bool (node_step p) place_step expression_step (N.Call f es)

  pub item_calls_if : (t : Test) (a b : List Item) → item_calls p (If t a b) ≡ (test_calls p t || (items_call p a || items_call p b))
  item_calls_if t a b = ap (item_calls p) (sym (rolls-If t a b)) ∙ fold-roll-Item Bool Bool (item_step p) (section_step p) (O.If t a b)

  pub item_calls_while : (t : Test) (a : List Item) → item_calls p (While t a) ≡ (test_calls p t || items_call p a)
  item_calls_while t a = ap (item_calls p) (sym (rolls-While t a)) ∙ fold-roll-Item Bool Bool (item_step p) (section_step p) (O.While t a)

  pub item_calls_do : (a : List Item) (t : Test) → item_calls p (Do a t) ≡ (test_calls p t || items_call p a)
  item_calls_do a t = ap (item_calls p) (sym (rolls-Do a t)) ∙ fold-roll-Item Bool Bool (item_step p) (section_step p) (O.Do a t)

  pub item_calls_for : (f : List Item) (t u : Option Expression) (a : List Item) →
      item_calls p (For f t u a) ≡ (items_call p f || (option_calls p t || (option_calls p u || items_call p a)))
  item_calls_for f t u a = ap (item_calls p) (sym (rolls-For f t u a)) ∙ fold-roll-Item Bool Bool (item_step p) (section_step p) (O.For f t u a)

  pub item_calls_switch : (s : Selector) (cs : List Section) → item_calls p (Switch s cs) ≡ (selector_calls p s || sections_call p cs)
  item_calls_switch s cs = ap (item_calls p) (sym (rolls-Switch s cs)) ∙ fold-roll-Item Bool Bool (item_step p) (section_step p) (O.Switch s cs)

  pub section_calls_is : (c : Section) → section_calls p c ≡ (expressions_call p (out-Section c).cases || items_call p (out-Section c).list)
  section_calls_is c = fold_out-Section Bool Bool (item_step p) (section_step p) c
