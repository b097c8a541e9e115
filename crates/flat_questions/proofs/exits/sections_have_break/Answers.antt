use Rattle.std.proofs.Common.{refl, sym, ap, ◌∙◌}
use Rattle.c_tree.specs.Exits.{breaks, breaks_in}
use Rattle.c_tree.specs.Paths.{list_of}
use Rattle.c_tree.specs.declared.tree.Section.{Section}
use Rattle.c_tree.specs.Trees.{Sections, trees_of}
use Rattle.flat_laws.specs.Parts.{is_some_number}
use Rattle.c_tree.proofs.Searches.{found_in, passed_in, missed_in}
use Rattle.flat_questions.proofs.Steps.{some_sum}
use Rattle.flat_questions.proofs.exits.sections_have_break.Goals as goal

pub returns-then-has_break : goal.returns-then-has_break
returns-then-has_break c = found_in (λ (d : Sections). is_some_number (breaks_in d)) (λ (s : Section). is_some_number (breaks (trees_of (list_of s))))
    (λ s d. some_sum (breaks (trees_of (list_of s))) (breaks_in d)) c.args.sections.now c.loop-i.i c.index-sections-i.result c.loop-i-test.true
    c.index-sections-i.is c.loop-i.invariant c.has_break.result
    (c.has_break.ensures ∙ ap (λ (s : Section). is_some_number (breaks (trees_of (list_of s)))) (sym c.index-sections-i.is)) c.if-has_break.true

pub loop-i-preserved : goal.loop-i-preserved
loop-i-preserved c = passed_in (λ (d : Sections). is_some_number (breaks_in d)) (λ (s : Section). is_some_number (breaks (trees_of (list_of s))))
    (λ s d. some_sum (breaks (trees_of (list_of s))) (breaks_in d)) c.args.sections.now c.loop-i.i c.index-sections-i.result c.loop-i-test.true
    c.index-sections-i.is c.loop-i.invariant c.has_break.result
    (c.has_break.ensures ∙ ap (λ (s : Section). is_some_number (breaks (trees_of (list_of s)))) (sym c.index-sections-i.is)) c.if-has_break.false

pub returns : goal.returns
returns c = missed_in (λ (d : Sections). is_some_number (breaks_in d)) refl c.args.sections.now c.loop-i.i c.loop-i-test.false c.loop-i.invariant
