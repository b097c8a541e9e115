use Rattle.std.proofs.Common.{arith, sym, ◌∙◌}
use Rattle.c_grammar.specs.ItemViews.{item_of, labels_of, plain_of}
use Rattle.c_grammar.specs.Views.{words_of}
use Rattle.c_comments.proofs.StepPlaces.{at_section, at_null, at_member}
use Rattle.c_comments.proofs.statements.member_step.Goals as goal

pub returns-then-has_case-clause-leads : goal.returns-then-has_case-clause-leads
returns-then-has_case-clause-leads c =
    let word = words_of c.args.words.now in
    let ls = labels_of word c.in-States.labels.now in
    let p = plain_of word c.in-States.plain.now in (
      omega (arith, c.ranges.token.fits),
      λ s l u. at_section c.args.begun c.args.switch (item_of word c.args.x.now) ls p c.case_place-section.result c.first_label.result s
          c.in-States.ensures.form
          (sym c.has_case.ensures ∙ c.if-has_case.true) c.case_place-section.ensures c.first_label.ensures,
    )

pub returns-then-is_no_element-clause-leads : goal.returns-then-is_no_element-clause-leads
returns-then-is_no_element-clause-leads c =
    let word = words_of c.args.words.now in
    at_null c.args.begun c.args.switch (item_of word c.args.x.now) (labels_of word c.in-States.labels.now) (plain_of word c.in-States.plain.now)
    c.args.token c.in-States.ensures.form
    (sym c.has_case.ensures ∙ c.if-has_case.false) (sym c.is_no_element.ensures ∙ c.if-is_no_element.true)

pub returns-else-is_no_element-clause-leads : goal.returns-else-is_no_element-clause-leads
returns-else-is_no_element-clause-leads c =
    let word = words_of c.args.words.now in (
      omega (arith, c.ranges.token.fits),
      λ s l u. at_member c.args.begun c.args.switch (item_of word c.args.x.now) (labels_of word c.in-States.labels.now)
          (plain_of word c.in-States.plain.now) s c.in-States.ensures.form
          (sym c.has_case.ensures ∙ c.if-has_case.false) (sym c.is_no_element.ensures ∙ c.if-is_no_element.false),
    )
