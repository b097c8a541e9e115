use Rattle.std.proofs.Common.{◌+◌, sym, ap, ◌∙◌, arith}
use Rattle.c_tree.specs.Exits.{breaks}
use Rattle.c_tree.specs.Paths.{list_of}
use Rattle.c_tree.specs.declared.tree.Section.{Section}
use Rattle.c_tree.specs.Trees.{trees_of}
use Rattle.c_tree.proofs.Views.{sections-at, sections-end}
use Rattle.flat_laws.specs.Parts.{kept_breaks, section_list, ending}
use Rattle.flat_questions.specs.Reading.{is_flagged}
use Rattle.flat_form.proofs.gotos.add_kept_in.Goals as goal

pub loop-i-preserved : goal.loop-i-preserved
loop-i-preserved c =
    let named = is_flagged c.args.named.now in
    let s = c.index-sections-i.result in
    let m = ap (kept_breaks named) (sections-at c.args.sections.now c.loop-i.i s c.loop-i-test.true c.index-sections-i.is) in
    let kept = λ (z : Section). breaks (section_list named (trees_of (list_of z)) (ending named (trees_of (list_of z)))) in
    let n = c.in_ok-add_kept.ensures ∙ ap (λ z. c.loop-i.count + kept z) (sym c.index-sections-i.is) in
    let i = c.loop-i.invariant in
    omega arith

pub returns : goal.returns
returns c =
    let m = ap (kept_breaks (is_flagged c.args.named.now)) (sections-end c.args.sections.now c.loop-i.i c.loop-i-test.false) in
    let i = c.loop-i.invariant in
    omega arith
