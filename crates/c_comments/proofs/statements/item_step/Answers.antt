use Rattle.std.proofs.Common.{arith}
use Rattle.c_grammar.specs.ItemViews.{item_of, labels_of, plain_of}
use Rattle.c_grammar.specs.Views.{words_of}
use Rattle.c_comments.proofs.StepPlaces.{at_labels}
use Rattle.c_comments.proofs.statements.item_step.Goals as goal

pub returns-in-States-clause-leads : goal.returns-in-States-clause-leads
returns-in-States-clause-leads c =
    let word = words_of c.args.words.now in (
      omega (arith, c.ranges.token.fits),
      λ s l u. at_labels (item_of word c.args.x.now) (labels_of word c.in-States.labels.now)
          (plain_of word c.in-States.plain.now) s c.in-States.ensures.form,
    )
