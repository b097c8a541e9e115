use Rattle.std.proofs.Common.{rules, ℕ, List, refl, sym, ap, subst, ◌∙◌}
use Rattle.c_copies.specs.Names.{has_name, with_name, with_names}
use Rattle.guard_vars.specs.GuardNames.{AreNew}
use Rattle.guard_vars.proofs.LoopLemmas.{guards_step}
use Rattle.guard_vars.proofs.GuardNames.{used_after, used_step, new_step}
use Rattle.guard_vars.proofs.names.named_guards.Goals as goal

pub loop-i-init : goal.loop-i-init
loop-i-init c =
    let used = with_names c.args.used.now.file c.args.used.now.own in
    record {
      file = refl;
      value = search rules;
      same = λ q. ap (λ (o : List (List ℕ)). has_name (used_after used o) q) (sym c.new-out.ensures);
      new_names = subst (AreNew used) (sym c.new-out.ensures) tt;
    }

pub loop-i-preserved : goal.loop-i-preserved
loop-i-preserved c =
    let used = with_names c.loop-i.used.file c.loop-i.used.own in
    let more = with_names c.add.new.self.file c.add.new.self.own in
    let added = c.in_ok-add.ensures.ok ∙ ap (with_name used) c.as_str.ensures in
    let pushed = c.in_ok-push.ensures.ok in
    record {
      file = c.add.ensures.file ∙ c.loop-i.invariant.file;
      value =
          guards_step used more c.loop-i.out c.push.new.self _ c.args.labels.now c.loop-i.i c.index-labels-i.result c.in_ok-name.name
          c.loop-i-test.true c.index-labels-i.is c.in_ok-name.ensures.value added pushed c.loop-i.invariant.value;
      same = used_step _ used more c.loop-i.out c.push.new.self c.in_ok-name.name added pushed c.loop-i.invariant.same;
      new_names = new_step _ used c.loop-i.out c.push.new.self c.in_ok-name.name c.in_ok-name.ensures.unused pushed c.loop-i.invariant.same
          c.loop-i.invariant.new_names;
    }
