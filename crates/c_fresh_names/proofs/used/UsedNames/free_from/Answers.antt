use Rattle.std.proofs.Common.{◌-◌, ◌≤◌, ◌<◌, length, ap, ◌∙◌, arith}
use Rattle.c_copies.specs.Names.{has_name, with_names}
use Rattle.c_fresh_names.specs.Fresh.{first_free}
use Rattle.c_fresh_names.specs.Runs.{AreUsedFrom}
use Rattle.c_fresh_names.proofs.FreshLemmas.{first_free_last}
use Rattle.c_fresh_names.proofs.NameSets.{found_same, found_unused}
use Rattle.c_fresh_names.proofs.RunLemmas.{fewer_from, joined_from, passed}
use Rattle.c_fresh_names.proofs.used.UsedNames.free_from.Goals as goal

pub loop-number-init : goal.loop-number-init
loop-number-init c =
    let us = with_names c.args.self.now.file c.args.self.now.own in
    let base = c.args.base.now in
    let most = c.in_ok-most.most in
    let n = c.min-number.result in
    let enough = c.in_ok-most.ensures.enough in
    let first : 2 ≤ n = omega (arith, c.min-number.ensures, c.requires.first, enough) in
    let within : n ≤ most = omega (arith, c.min-number.ensures) in
    let less : n ≤ c.args.start = omega (arith, c.min-number.ensures) in
    let used = fewer_from us base 2 n c.args.start less c.requires.used in
    record {
      first = first;
      within = within;
      used = used;
      value = passed us base _ most 2 n first within used (found_same us base (most - 2) (omega (arith, enough))
          (omega (arith, enough, c.in_ok-most.ensures.bound)));
    }

pub returns-clause-unused : goal.returns-clause-unused
returns-clause-unused c =
    let us = with_names c.args.self.now.file c.args.self.now.own in
    let last = first_free_last us c.args.base.now (first_free us c.args.base.now 2 (length us)) c.loop-number.number c.in_ok-most.most
    c.loop-number.invariant.within c.loop-number-test.false c.loop-number.invariant.value in
    ap (has_name us) (c.in_ok-numbered.ensures ∙ last) ∙ found_unused us c.args.base.now
    (omega (arith, c.in_ok-most.ensures.enough, c.in_ok-most.ensures.bound))

pub loop-number-preserved : goal.loop-number-preserved
loop-number-preserved c =
    let us = with_names c.args.self.now.file c.args.self.now.own in
    let base = c.args.base.now in
    let n = c.loop-number.number in
    let next = c.in-Some.next in
    let i = c.loop-number.invariant in
    let further : n < next = c.in-Some.ensures.further in
    let within : next ≤ c.in_ok-most.most = c.in-Some.ensures.within in
    let used : AreUsedFrom us base n next = c.in-Some.ensures.used in
    let start : 2 ≤ n = i.first in
    record {
      first = omega (arith, start, further);
      within = within;
      used = joined_from us base 2 n next i.used used;
      value = passed us base _ c.in_ok-most.most n next (omega (arith, further)) within used i.value;
    }
