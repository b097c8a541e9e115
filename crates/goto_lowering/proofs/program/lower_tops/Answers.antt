use Rattle.std.proofs.Common.{◌≡◌, ℕ, List, [], sym, ap, ◌∙◌, subst}
use Rattle.std.specs.Vec.Iter.{into_iter_items}
use Rattle.flat_names.specs.Gathered.{AreGathered}
use Rattle.lower_laws.specs.Lowering.{tops_gotos}
use Rattle.lower_items.proofs.Moving.{emptied}
use Rattle.goto_lowering.proofs.Tops.{Awaits, awaits_next, awaits_end}
use Rattle.goto_lowering.proofs.program.lower_tops.Goals as goal

pub loop-top-preserved : goal.loop-top-preserved
loop-top-preserved c =
    let at = c.loop-top in
    record {
      used = c.add_top.ensures.used ∙ at.invariant.used;
      taken = c.add_top.ensures.taken ∙ at.invariant.taken;
      tops = λ all file g. awaits_next all file c.args.tops at.out.tops _ c.in-Some.top (into_iter_items c.next.new.self)
          (c.in_ok-add_top.ensures.tops all file (record { used = at.invariant.used ∙ g.used; taken = at.invariant.taken ∙ g.taken }))
          (subst (Awaits all file c.args.tops at.out.tops) c.in-Some.ensures.steps.0 (at.invariant.tops all file g));
      gotos = c.in_ok-add_top.ensures.gotos at.invariant.gotos;
    }

pub returns-clause-tops : goal.returns-clause-tops
returns-clause-tops c = λ all file g. awaits_end all file c.args.tops c.loop-top.out.tops
    (subst (Awaits all file c.args.tops c.loop-top.out.tops) (emptied c.loop-top.top-iterator c.in-None.ensures.steps.0) (c.loop-top.invariant.tops all file g))
