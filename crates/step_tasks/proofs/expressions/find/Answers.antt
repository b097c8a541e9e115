use Rattle.std.proofs.Common.{[], ◌∷◌, ap, ◌∙◌, rules}
use Rattle.std.proofs.lemmas.Result.{on_ok_weaker}
use Rattle.c_tree.specs.ExpressionTrees.{expression_tree, place_tree}
use Rattle.jump_meaning.specs.Values as Meant
use Rattle.jump_meaning.specs.Effects.{Does, Computes, Finds, Indexes}
use Rattle.step_memory.specs.Stores.{names_of}
use Rattle.step_memory.specs.Values.{owner_of, values_of}
use Rattle.step_tasks.proofs.DoneLemmas.{leaves, grows}
use Rattle.step_tasks.proofs.NodeEffects.{var_effect, cell_effect}
use Rattle.step_tasks.proofs.expressions.find.Goals as goal

pub returns-in_ok-reached-in-Var : goal.returns-in_ok-reached-in-Var
returns-in_ok-reached-in-Var c = record {
  ok = on_ok_weaker c.leave_cell.result (λ p. leaves c.args.store.now (Finds (place_tree c.args.place.now)) c.args.tasks.now c.args.values.now
      c.leave_cell.new.values
      (Meant.Designates (owner_of (names_of c.args.store.now) c.in_ok-reached-in-Var.field-0) 0)
      (λ w h. var_effect c.args.place.now c.in-Var.home _ w c.in-Var.is ∙
      ap (λ o. Does [] (Meant.Designates o 0 ∷ values_of (names_of c.args.store.now) c.args.values.now) w) (c.in_ok-reached-in-Var.ensures w h))
      (p (names_of c.args.store.now))) c.leave_cell.ensures.ok;
}

pub returns-in-Cell : goal.returns-in-Cell
returns-in-Cell c = record {
  ok = on_ok_weaker c.add_two.result (λ p. grows c.args.store.now (Finds (place_tree c.args.place.now)) c.args.tasks.now c.add_two.new.tasks c.args.values.now
      (Computes (expression_tree c.in-Cell.index) ∷ Indexes c.in-Cell.home ∷ [])
      (λ v w. cell_effect c.args.place.now c.in-Cell.home c.in-Cell.index v w c.in-Cell.is) (search (rules, p))) c.add_two.ensures.ok;
}
