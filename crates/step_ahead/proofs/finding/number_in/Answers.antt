use Rattle.std.proofs.Common.{sym, subst, arith}
use Rattle.std.specs.Int.{w128}
use Rattle.std.proofs.lemmas.Int.{to_z-of_z}
use Rattle.c_tree.specs.ExpressionTrees.{Typed, Read}
use Rattle.jump_meaning.specs.Effects.{Computes}
use Rattle.jump_meaning.specs.Values.{Integer}
use Rattle.step_ahead.specs.Taken.{Leaves}
use Rattle.step_ahead.proofs.ReadLemmas.{reads_place}
use Rattle.step_ahead.proofs.finding.number_in.Goals as goal

pub returns-in-Some-clause-ok : goal.returns-in-Some-clause-ok
returns-in-Some-clause-ok c p k l =
    subst (λ z. Leaves c.args.store.now (Computes (Typed k (Read p))) (Integer z) c.in-Some.steps) (sym (to_z-of_z w128 c.in-Ok.number c.in-Ok.ensures.fits))
    (reads_place c.args.store.now p k c.args.found.owner c.args.found.at c.in-Ok.number c.args.found.steps c.in-Some.steps l c.in-Ok.ensures.ok
    (omega (arith, c.in-Some.ensures)))
