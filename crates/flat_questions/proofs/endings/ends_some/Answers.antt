use Rattle.std.proofs.Common.{refl}
use Rattle.c_tree.specs.Trees.{Sections}
use Rattle.flat_laws.specs.Parts.{ends_some}
use Rattle.flat_questions.specs.Reading.{ends_in}
use Rattle.c_tree.proofs.Searches.{found_in, passed_in, missed_in}
use Rattle.flat_questions.proofs.endings.ends_some.Goals as goal

pub returns-then-has_end : goal.returns-then-has_end
returns-then-has_end c = found_in (λ (d : Sections). ends_some d) (ends_in) (λ s d. refl) c.args.sections.now c.loop-i.i c.index-sections-i.result
    c.loop-i-test.true c.index-sections-i.is c.loop-i.invariant c.has_end.result c.has_end.ensures c.if-has_end.true

pub loop-i-preserved : goal.loop-i-preserved
loop-i-preserved c = passed_in (λ (d : Sections). ends_some d) (ends_in) (λ s d. refl) c.args.sections.now c.loop-i.i c.index-sections-i.result
    c.loop-i-test.true c.index-sections-i.is c.loop-i.invariant c.has_end.result c.has_end.ensures c.if-has_end.false

pub returns : goal.returns
returns c = missed_in (λ (d : Sections). ends_some d) refl c.args.sections.now c.loop-i.i c.loop-i-test.false c.loop-i.invariant
