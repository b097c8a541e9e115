-- What walks over expressions find.
use Rattle.c_violation_laws.specs.ExpressionLaws.{ExpressionLaws}
use Rattle.c_violation_laws.proofs.Bound.{bound_of, bound_back, unbound_of, unbound_back}
use Rattle.c_violation_laws.proofs.Expressions.{value, dropped, constant, argument}

pub expression_laws : ExpressionLaws
expression_laws = record {
  bound = λ name b ss. (bound_of name b ss, bound_back name b ss);
  unbound = λ name ss. (unbound_of name ss, unbound_back name ss);
  value = value;
  dropped = dropped;
  constant = constant;
  argument = argument;
}
