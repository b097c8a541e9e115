use Rattle.std.proofs.Common.{◌∙◌}
use Rattle.c_grammar.specs.TopViews.{function_form}
use Rattle.c_grammar.specs.Views.{words_of}
use Rattle.c_statements.specs.Functions.{function_faults}
use Rattle.c_statements.specs.NoteViews.{notes_of}
use Rattle.c_scopes.proofs.files.add_function.Goals as goal

pub returns-clause-faults : goal.returns-clause-faults
returns-clause-faults g c =
    let word = words_of c.args.file.now.outside.words in
    let declared = c.in_ok-declare.ensures in
    c.in_ok-function.ensures.faults
    ∙ (λ i. function_faults (g.C.FlatCounter.flat c.args.counter.now) word (notes_of c.args.file.now.outside.notes.now) (function_form word c.args.f)
    (declared.scopes i) (declared.faults i))
