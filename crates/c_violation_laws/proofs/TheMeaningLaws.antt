-- The laws of this crate.
use Rattle.c_violation_laws.specs.MeaningLaws.{MeaningLaws}
use Rattle.c_violation_laws.proofs.Lookups.{bound_is, is_bound, unbound_is}
use Rattle.c_violation_laws.proofs.Constants.{constant_is, is_constant}
use Rattle.c_violation_laws.proofs.Formats.{format_is, is_format}
use Rattle.c_violation_laws.proofs.Meanings.{typed_is, is_typed, target_is, is_target, wrong_not}
use Rattle.c_violation_laws.proofs.Typings.{typed_typing, sole_typing}
use Rattle.c_violation_laws.proofs.Bound.{unbound_back}

pub meaning_laws : MeaningLaws
meaning_laws = record {
  bound = λ name ss b. (bound_is name ss b, is_bound name ss b);
  unbound = λ name ss. (unbound_is name ss, unbound_back name ss);
  format = λ bytes ws. (format_is bytes ws, is_format bytes ws);
  means = λ env t x. (typed_is env t x, is_typed env t x);
  constant = λ env t e n. (constant_is env t e n, is_constant env t e n);
  right = wrong_not;
  target = λ env t y. (target_is env t y, is_target env t y);
  typing = typed_typing;
  sole = sole_typing;
}
