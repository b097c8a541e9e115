use Rattle.std.proofs.Common.{◌+◌, ◌*◌, refl, ap, ◌∙◌}
use Rattle.flat_laws.specs.FlatForm.{place_of}
use Rattle.lower_items.proofs.cases.choice_of.Goals as goal

pub returns-clause-cases : goal.returns-clause-cases
returns-clause-cases c = record {
  bound = refl;
  kind = refl;
  default = ap (λ z. z.default) c.in_ok-labels.ensures.labels;
  numbers = c.in_ok-numbers.ensures;
  labels = λ n. ap (λ p. 7 * (c.args.here.case + p) + 4) (c.in_ok-places.ensures n ∙ ap (place_of n) (c.as_slice.ensures.value ∙ c.in_ok-numbers.ensures));
}
