use Rattle.std.proofs.Common.{pos, [], ◌∷◌, ap, ◌∙◌, rules}
use Rattle.std.proofs.lemmas.Result.{on_ok_weaker}
use Rattle.c_types.specs.Numbers.{converted}
use Rattle.c_types.specs.declared.kinds.IntKind.TheVariants.{Char}
use Rattle.c_tree.specs.declared.tree.BinaryOp.TheVariants.{Arith}
use Rattle.c_tree.specs.declared.tree.Expression.{out-Expression}
use Rattle.c_tree.specs.ExpressionTrees.{expression_tree, place_tree}
use Rattle.c_tree.specs.Trees.{expression_trees}
use Rattle.jump_meaning.specs.Values as Meant
use Rattle.jump_meaning.specs.Effects.{Does, Computes, Finds, Drops, Loads, Fetches, Stores, Counts, Decides, AppliesUnary, AppliesBinary, binary_tasks, cast_tasks}
use Rattle.jump_meaning.specs.Tasks.{Works}
use Rattle.step_tasks.specs.Effects.{call_tasks}
use Rattle.step_memory.specs.Stores.{names_of}
use Rattle.step_memory.specs.Values.{owner_of, values_of}
use Rattle.step_tasks.specs.Tasks.{decide_of, tasks_of}
use Rattle.step_tasks.proofs.DoneLemmas.{leaves, grows}
use Rattle.step_tasks.proofs.NodeEffects.{number_effect, character_effect, name_effect, text_effect, array_effect, read_effect, unary_effect, cast_effect, binary_effect, conditional_effect, decides, assign_effect, update_effect, count_effect, comma_effect, call_effect}
use Rattle.step_tasks.proofs.expressions.compute.Goals as goal

pub returns-in-Number : goal.returns-in-Number
returns-in-Number c = record {
  ok = on_ok_weaker c.leave_constant.result (λ p. leaves c.args.store.now (Computes (expression_tree c.args.e.now)) c.args.tasks.now c.args.values.now
      c.leave_constant.new.values
      (Meant.Integer c.in-Number.number) (λ w h. number_effect c.args.e.now c.in-Number.number _ w c.in-Number.is) (p (names_of c.args.store.now)))
      c.leave_constant.ensures.ok;
}

pub returns-in-Character : goal.returns-in-Character
returns-in-Character c = record {
  ok = on_ok_weaker c.leave_character.result (λ p. leaves c.args.store.now (Computes (expression_tree c.args.e.now)) c.args.tasks.now
      c.args.values.now c.leave_character.new.values
      (Meant.Integer (converted Char (pos c.in-Character.byte))) (λ w h. character_effect c.args.e.now c.in-Character.byte _ w c.in-Character.is)
      (p (names_of c.args.store.now))) c.leave_character.ensures.ok;
}

pub returns-in-EnumName : goal.returns-in-EnumName
returns-in-EnumName c = record {
  ok = on_ok_weaker c.leave_constant-in-EnumName.result (λ p. leaves c.args.store.now (Computes (expression_tree c.args.e.now)) c.args.tasks.now
      c.args.values.now c.leave_constant-in-EnumName.new.values
      (Meant.Integer c.in-EnumName.number) (λ w h. name_effect c.args.e.now c.in-EnumName.field-0 c.in-EnumName.number _ w c.in-EnumName.is)
      (p (names_of c.args.store.now))) c.leave_constant-in-EnumName.ensures.ok;
}

pub returns-in-Text : goal.returns-in-Text
returns-in-Text c = record {
  ok = on_ok_weaker c.leave_format.result (λ p. leaves c.args.store.now (Computes (expression_tree c.args.e.now)) c.args.tasks.now c.args.values.now
      c.leave_format.new.values
      (Meant.Format c.in-Text.bytes) (λ w h. text_effect c.args.e.now c.in-Text.bytes _ w c.in-Text.is) (p (names_of c.args.store.now)))
      c.leave_format.ensures.ok;
}

pub returns-in_ok-reached-in-Array : goal.returns-in_ok-reached-in-Array
returns-in_ok-reached-in-Array c = record {
  ok = on_ok_weaker c.leave_array.result (λ p. leaves c.args.store.now (Computes (expression_tree c.args.e.now)) c.args.tasks.now c.args.values.now
      c.leave_array.new.values
      (Meant.Lends (owner_of (names_of c.args.store.now) c.in_ok-reached-in-Array.field-0))
      (λ w h. array_effect c.args.e.now c.in-Array.home _ w c.in-Array.is ∙
      ap (λ o. Does [] (Meant.Lends o ∷ values_of (names_of c.args.store.now) c.args.values.now) w) (c.in_ok-reached-in-Array.ensures w h))
      (p (names_of c.args.store.now))) c.leave_array.ensures.ok;
}

pub returns-in-Read : goal.returns-in-Read
returns-in-Read c = record {
  ok = on_ok_weaker c.add_two.result (λ p. grows c.args.store.now (Computes (expression_tree c.args.e.now)) c.args.tasks.now c.add_two.new.tasks
      c.args.values.now
      (Finds (place_tree c.in-Read.place) ∷ Loads ∷ []) (λ v w. read_effect c.args.e.now c.in-Read.place v w c.in-Read.is) (p)) c.add_two.ensures.ok;
}

pub returns-in-Unary : goal.returns-in-Unary
returns-in-Unary c = record {
  ok = on_ok_weaker c.add_two-in-Unary.result (λ p. grows c.args.store.now (Computes (expression_tree c.args.e.now)) c.args.tasks.now
      c.add_two-in-Unary.new.tasks c.args.values.now
      (Computes (expression_tree c.in-Unary.a) ∷ AppliesUnary c.in-Unary.op (out-Expression c.in-Unary.a).kind ∷ [])
      (λ v w. unary_effect c.args.e.now c.in-Unary.op c.in-Unary.a v w c.in-Unary.is) (search (rules, p))) c.add_two-in-Unary.ensures.ok;
}

pub returns-in-Cast : goal.returns-in-Cast
returns-in-Cast c = record {
  ok = on_ok_weaker c.add_cast.result (λ p. grows c.args.store.now (Computes (expression_tree c.args.e.now)) c.args.tasks.now c.add_cast.new.tasks
      c.args.values.now
      (Computes (expression_tree c.in-Cast.a) ∷ cast_tasks (out-Expression c.args.e.now).kind)
      (λ v w. cast_effect c.args.e.now c.in-Cast.a v w c.in-Cast.is) (search (rules, p))) c.add_cast.ensures.ok;
}

pub returns-in-Binary : goal.returns-in-Binary
returns-in-Binary c = record {
  ok = on_ok_weaker c.add_binary.result (λ p. grows c.args.store.now (Computes (expression_tree c.args.e.now)) c.args.tasks.now c.add_binary.new.tasks
      c.args.values.now
      (binary_tasks c.in-Binary.op (expression_tree c.in-Binary.a) (expression_tree c.in-Binary.b))
      (λ v w. binary_effect c.args.e.now c.in-Binary.op c.in-Binary.a c.in-Binary.b v w c.in-Binary.is) (search (rules, p))) c.add_binary.ensures.ok;
}

pub returns-in-Conditional : goal.returns-in-Conditional
returns-in-Conditional c = record {
  ok = on_ok_weaker c.add_two-in-Conditional.result (λ p. grows c.args.store.now (Computes (expression_tree c.args.e.now)) c.args.tasks.now
      c.add_two-in-Conditional.new.tasks c.args.values.now
      (Computes (expression_tree c.in-Conditional.a) ∷ Decides (expression_tree c.in-Conditional.field-1) (expression_tree c.in-Conditional.field-2)
      (out-Expression c.args.e.now).kind ∷ []) (λ v w. conditional_effect c.args.e.now c.in-Conditional.a c.in-Conditional.field-1
      c.in-Conditional.field-2 v w c.in-Conditional.is)
      (rw (← decides c.args.e.now c.in-Conditional.a c.in-Conditional.field-1 c.in-Conditional.field-2 c.in-Conditional.is)
      (p ∙ ap (λ a. Works (Computes (expression_tree a)) ∷ Works (decide_of (expression_tree c.args.e.now)) ∷ tasks_of c.args.tasks.now)
      c.get-in-Conditional.ensures))) c.add_two-in-Conditional.ensures.ok;
}

pub returns-in-Assign : goal.returns-in-Assign
returns-in-Assign c = record {
  ok = on_ok_weaker c.add_three.result (λ p. grows c.args.store.now (Computes (expression_tree c.args.e.now)) c.args.tasks.now c.add_three.new.tasks
      c.args.values.now
      (Finds (place_tree c.in-Assign.place) ∷ Computes (expression_tree c.in-Assign.value) ∷ Stores ∷ [])
      (λ v w. assign_effect c.args.e.now c.in-Assign.place c.in-Assign.value v w c.in-Assign.is) (search (rules, p))) c.add_three.ensures.ok;
}

pub returns-in-Update : goal.returns-in-Update
returns-in-Update c = record {
  ok = on_ok_weaker c.add_update.result (λ p. grows c.args.store.now (Computes (expression_tree c.args.e.now)) c.args.tasks.now c.add_update.new.tasks
      c.args.values.now
      (Finds (place_tree c.in-Update.place) ∷ Fetches ∷ Computes (expression_tree c.in-Update.value) ∷ AppliesBinary (Arith c.in-Update.op)
      (out-Expression c.args.e.now).kind (out-Expression c.in-Update.value).kind ∷ Stores ∷ [])
      (λ v w. update_effect c.args.e.now c.in-Update.op c.in-Update.place c.in-Update.value v w c.in-Update.is) (search (rules, p)))
      c.add_update.ensures.ok;
}

pub returns-in-Count : goal.returns-in-Count
returns-in-Count c = record {
  ok = on_ok_weaker c.add_two-in-Count.result (λ p. grows c.args.store.now (Computes (expression_tree c.args.e.now)) c.args.tasks.now
      c.add_two-in-Count.new.tasks c.args.values.now
      (Finds (place_tree c.in-Count.place) ∷ Counts c.in-Count.up c.in-Count.after ∷ [])
      (λ v w. count_effect c.args.e.now c.in-Count.place c.in-Count.up c.in-Count.after v w c.in-Count.is) (search (rules, p)))
      c.add_two-in-Count.ensures.ok;
}

pub returns-in-Comma : goal.returns-in-Comma
returns-in-Comma c = record {
  ok = on_ok_weaker c.add_comma.result (λ p. grows c.args.store.now (Computes (expression_tree c.args.e.now)) c.args.tasks.now c.add_comma.new.tasks
      c.args.values.now
      (Computes (expression_tree c.in-Comma.a) ∷ Drops ∷ Computes (expression_tree c.in-Comma.b) ∷ [])
      (λ v w. comma_effect c.args.e.now c.in-Comma.a c.in-Comma.b v w c.in-Comma.is) (search (rules, p))) c.add_comma.ensures.ok;
}

pub returns-in-Call : goal.returns-in-Call
returns-in-Call c = record {
  ok = on_ok_weaker c.add_call.result (λ p. grows c.args.store.now (Computes (expression_tree c.args.e.now)) c.args.tasks.now c.add_call.new.tasks
      c.args.values.now
      (call_tasks c.in-Call.name (expression_trees c.in-Call.arguments))
      (λ v w. call_effect c.args.e.now c.in-Call.name c.in-Call.arguments v w c.in-Call.is) (p)) c.add_call.ensures.ok;
}
