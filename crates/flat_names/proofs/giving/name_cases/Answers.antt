use Rattle.std.proofs.Common.{◌≡◌, ◌+◌, ◌-◌, refl, sym, ap, ◌∙◌, arith}
use Rattle.flat_names.specs.FlatNames.{name_cases}
use Rattle.flat_names.proofs.Steps.{cases_step, cases_end}
use Rattle.flat_names.specs.Gathered.{given_of}
use Rattle.flat_names.proofs.giving.name_cases.Goals as goal

pub loop-i-init : goal.loop-i-init
loop-i-init c = let e : c.args.count - 0 ≡ c.args.count = omega arith in
    record { file = refl; value = ap (λ m. name_cases c.args.k 1 m (given_of c.args.used.now c.args.given.now)) e }

pub loop-i-preserved : goal.loop-i-preserved
loop-i-preserved c =
    let k = c.args.k in
    let i = c.loop-i.i in
    let g = given_of c.loop-i.used c.loop-i.given in
    record {
      file = c.name_case.ensures.file ∙ c.loop-i.invariant.file;
      value = ap (name_cases k (i + 1 + 1) (c.args.count - (i + 1))) c.in_ok-name_case.ensures.value ∙
          sym (cases_step k i c.args.count g c.loop-i-test.true) ∙ c.loop-i.invariant.value;
    }

pub returns-clause-value : goal.returns-clause-value
returns-clause-value c = sym (cases_end c.args.k c.loop-i.i c.args.count (given_of c.loop-i.used c.loop-i.given) c.loop-i-test.false) ∙ c.loop-i.invariant.value
