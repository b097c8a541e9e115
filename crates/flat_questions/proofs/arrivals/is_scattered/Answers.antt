use Rattle.std.proofs.Common.{not, refl, sym, ap, ◌∙◌}
use Rattle.c_tree.specs.Paths.{list_of}
use Rattle.c_tree.specs.TextItems.{is_empty}
use Rattle.c_tree.specs.declared.tree.Section.{Section}
use Rattle.c_tree.specs.Trees.{Sections, trees_of}
use Rattle.flat_laws.specs.Parts.{arrivals, is_scattered}
use Rattle.c_tree.proofs.Searches.{found_in, passed_in, missed_in}
use Rattle.flat_questions.proofs.arrivals.is_scattered.Goals as goal

pub returns-then-has_arrival : goal.returns-then-has_arrival
returns-then-has_arrival c = found_in (λ (d : Sections). is_scattered d) (λ (s : Section). not (is_empty (arrivals (trees_of (list_of s)))))
    (λ s d. refl) c.args.sections.now c.loop-i.i c.index-sections-i.result c.loop-i-test.true c.index-sections-i.is c.loop-i.invariant
    c.has_arrival.result (c.has_arrival.ensures ∙ ap (λ (s : Section). not (is_empty (arrivals (trees_of (list_of s))))) (sym c.index-sections-i.is))
    c.if-has_arrival.true

pub loop-i-preserved : goal.loop-i-preserved
loop-i-preserved c = passed_in (λ (d : Sections). is_scattered d) (λ (s : Section). not (is_empty (arrivals (trees_of (list_of s))))) (λ s d. refl)
    c.args.sections.now c.loop-i.i c.index-sections-i.result c.loop-i-test.true c.index-sections-i.is c.loop-i.invariant c.has_arrival.result
    (c.has_arrival.ensures ∙ ap (λ (s : Section). not (is_empty (arrivals (trees_of (list_of s))))) (sym c.index-sections-i.is)) c.if-has_arrival.false

pub returns : goal.returns
returns c = missed_in (λ (d : Sections). is_scattered d) refl c.args.sections.now c.loop-i.i c.loop-i-test.false c.loop-i.invariant
