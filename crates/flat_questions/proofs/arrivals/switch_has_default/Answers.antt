use Rattle.std.proofs.Common.{refl}
use Rattle.c_tree.specs.Trees.{Sections}
use Rattle.flat_laws.specs.Parts.{switch_labels, has_default}
use Rattle.flat_questions.specs.Reading.{default_in}
use Rattle.c_tree.proofs.Searches.{found_in, passed_in, missed_in}
use Rattle.flat_questions.proofs.Steps.{default_more}
use Rattle.flat_questions.proofs.arrivals.switch_has_default.Goals as goal

pub returns-then-section_has_default : goal.returns-then-section_has_default
returns-then-section_has_default c = found_in (λ (d : Sections). has_default (switch_labels d)) (default_in) (default_more) c.args.sections.now
    c.loop-i.i c.index-sections-i.result c.loop-i-test.true c.index-sections-i.is c.loop-i.invariant c.section_has_default.result
    c.section_has_default.ensures c.if-section_has_default.true

pub loop-i-preserved : goal.loop-i-preserved
loop-i-preserved c = passed_in (λ (d : Sections). has_default (switch_labels d)) (default_in) (default_more) c.args.sections.now c.loop-i.i
    c.index-sections-i.result c.loop-i-test.true c.index-sections-i.is c.loop-i.invariant c.section_has_default.result c.section_has_default.ensures
    c.if-section_has_default.false

pub returns : goal.returns
returns c = missed_in (λ (d : Sections). has_default (switch_labels d)) refl c.args.sections.now c.loop-i.i c.loop-i-test.false c.loop-i.invariant
