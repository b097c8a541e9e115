use Rattle.std.proofs.Common.{◌*◌, sym, ap, ◌∙◌}
use Rattle.c_tree.specs.Trees.{trees_of, join}
use Rattle.c_tree.proofs.TreeLaws.{join-nil}
use Rattle.flat_laws.specs.FlatForm.{mark_if}
use Rattle.flat_questions.specs.Reading.{is_flagged}
use Rattle.lower_items.proofs.simple.add_source.Goals as goal

pub returns-else-is_flagged : goal.returns-else-is_flagged
returns-else-is_flagged c =
    let q = ap (λ z. is_flagged z c.args.label) (sym c.as_slice.ensures.value) ∙ sym c.is_flagged.ensures ∙ c.if-is_flagged.false in
    sym (ap (λ y. join (trees_of c.args.out.now) (mark_if y (7 * c.args.label))) q ∙ join-nil (trees_of c.args.out.now))
