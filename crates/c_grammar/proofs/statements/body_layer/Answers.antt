use Rattle.std.proofs.Common.{sym, ◌∙◌, arith}
use Rattle.c_grammar.specs.Views.{words_of}
use Rattle.c_grammar.proofs.Items.{labelled-body, plain-body, other-body}
use Rattle.c_grammar.proofs.statements.body_layer.Goals as goal

pub returns-then-has_label-clause-form : goal.returns-then-has_label-clause-form
returns-then-has_label-clause-form c =
    rw (← c.first.ensures, ← c.after.ensures) (labelled-body (words_of c.args.words.now) c.args.x.now c.in-States.labels.now c.in-States.plain.now
    c.in-States.ensures.form (sym c.has_label.ensures ∙ c.if-has_label.true))

pub returns-in_default-statement_layer : goal.returns-in_default-statement_layer
returns-in_default-statement_layer c = record {
  form = rw (← c.first.ensures, ← c.after.ensures) (plain-body (words_of c.args.words.now) c.args.x.now c.in-States.labels.now c.in-States.plain.now
      c.statement_layer.result c.in-States.ensures.form
      (sym c.has_label.ensures ∙ c.if-has_label.false) c.statement_layer.ensures.form c.in_default-statement_layer.not-Block);
  smaller = omega arith;
}

pub returns-in_default : goal.returns-in_default
returns-in_default c = record {
  form = rw (← c.first.ensures, ← c.after.ensures) (other-body (words_of c.args.words.now) c.args.x.now c.item_layer.result c.item_layer.ensures.form
      c.in_default.not-States);
  smaller = omega arith;
}
