use Rattle.std.proofs.Common.{rules}
use Rattle.std.proofs.lemmas.Iterator.Adapters.{YieldsList-from_vec}
use Rattle.std.proofs.lemmas.Iterator.Consumers.{YieldsList-end}
use Rattle.c_tree.proofs.SectionLaws.{passed_end}
use Rattle.c_tree.proofs.sections.labels_passed.Goals as goal

pub returns : goal.returns
returns c =
    let seen = YieldsList-end (YieldsList-from_vec {s = c.into_iter-section-iterator.result} c.args.sections (search rules) (search rules))
    c.loop-section.yielded c.loop-section.section-iterator c.loop-section.yielded_by c.next.result c.next.new.self c.in-None.is c.next.ensures.steps in
    passed_end c.loop-section.out c.loop-section.yielded c.args.sections seen.0 c.loop-section.invariant
