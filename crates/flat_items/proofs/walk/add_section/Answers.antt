use Rattle.std.proofs.Common.{ap, ◌∙◌}
use Rattle.std.proofs.lemmas.Result.{on_ok_weaker}
use Rattle.c_tree.specs.Trees as Plain
use Rattle.c_tree.specs.Trees.{Tree, Forest, Nil, Then, Sections, NoSection, trees_of, sections_of, expression_trees, join}
use Rattle.flat_items.proofs.walk.add_section.Goals as goal
use Rattle.c_tree.specs.declared.tree.Section.{out-Section}
use Rattle.flat_items.specs.Pieces.{behind}
use Rattle.flat_items.proofs.Joining.{sections-push}
use Rattle.flat_items.proofs.Arms.{section_made}

pub returns : goal.returns
returns c =
    let o = out-Section c.args.section.now in
    let es = c.in_ok-cases.ensures ∙ c.as_slice.ensures.value in
    on_ok_weaker c.push.result (λ e. ap sections_of e ∙ sections-push c.args.out.now _ ∙
    ap (behind (sections_of c.args.out.now)) (section_made c.in_ok-cases.cases o.default c.args.list c.args.ends NoSection ∙
    ap (λ z. Plain.Section (expression_trees z) o.default (trees_of c.args.list) c.args.ends NoSection) es)) c.push.ensures.ok
