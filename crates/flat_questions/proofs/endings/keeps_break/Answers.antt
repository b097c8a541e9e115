use Rattle.std.proofs.Common.{refl, sym, ap, ◌∙◌}
use Rattle.c_tree.specs.Exits.{breaks}
use Rattle.c_tree.specs.Paths.{list_of}
use Rattle.c_tree.specs.declared.tree.Section.{Section}
use Rattle.c_tree.specs.Trees.{Sections, trees_of}
use Rattle.flat_laws.specs.Parts.{is_some_number, kept_breaks, section_list, ending}
use Rattle.flat_questions.specs.Reading.{is_flagged}
use Rattle.c_tree.proofs.Searches.{found_in, passed_in, missed_in}
use Rattle.flat_questions.proofs.Steps.{some_sum}
use Rattle.flat_questions.proofs.endings.keeps_break.Goals as goal

pub returns-then-section_keeps_break : goal.returns-then-section_keeps_break
returns-then-section_keeps_break c = found_in (λ (d : Sections). is_some_number (kept_breaks (is_flagged c.args.named.now) d))
    (λ (s : Section). is_some_number (breaks (section_list (is_flagged c.args.named.now) (trees_of (list_of s))
    (ending (is_flagged c.args.named.now) (trees_of (list_of s))))))
    (λ s d. some_sum (breaks (section_list (is_flagged c.args.named.now) (trees_of (list_of s))
    (ending (is_flagged c.args.named.now) (trees_of (list_of s))))) (kept_breaks (is_flagged c.args.named.now) d)) c.args.sections.now c.loop-i.i
    c.index-sections-i.result c.loop-i-test.true c.index-sections-i.is c.loop-i.invariant c.section_keeps_break.result
    (c.section_keeps_break.ensures ∙ ap (λ (s : Section). is_some_number
    (breaks (section_list (is_flagged c.args.named.now) (trees_of (list_of s)) (ending (is_flagged c.args.named.now) (trees_of (list_of s))))))
    (sym c.index-sections-i.is)) c.if-section_keeps_break.true

pub loop-i-preserved : goal.loop-i-preserved
loop-i-preserved c = passed_in (λ (d : Sections). is_some_number (kept_breaks (is_flagged c.args.named.now) d))
    (λ (s : Section). is_some_number (breaks (section_list (is_flagged c.args.named.now) (trees_of (list_of s))
    (ending (is_flagged c.args.named.now) (trees_of (list_of s))))))
    (λ s d. some_sum (breaks (section_list (is_flagged c.args.named.now) (trees_of (list_of s))
    (ending (is_flagged c.args.named.now) (trees_of (list_of s))))) (kept_breaks (is_flagged c.args.named.now) d)) c.args.sections.now c.loop-i.i
    c.index-sections-i.result c.loop-i-test.true c.index-sections-i.is c.loop-i.invariant c.section_keeps_break.result
    (c.section_keeps_break.ensures ∙ ap (λ (s : Section). is_some_number
    (breaks (section_list (is_flagged c.args.named.now) (trees_of (list_of s)) (ending (is_flagged c.args.named.now) (trees_of (list_of s))))))
    (sym c.index-sections-i.is)) c.if-section_keeps_break.false

pub returns : goal.returns
returns c = missed_in (λ (d : Sections). is_some_number (kept_breaks (is_flagged c.args.named.now) d)) refl c.args.sections.now c.loop-i.i
    c.loop-i-test.false c.loop-i.invariant
