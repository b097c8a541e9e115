use Rattle.std.proofs.Common.{◌≡◌, ◌++◌, ap, sym, ◌∙◌}
use Rattle.c_grammar.specs.TopViews.{top_form}
use Rattle.c_grammar.specs.Views.{words_of}
use Rattle.c_scopes.specs.Files.{behind_form, form_tops, form_faults}
use Rattle.c_scopes.specs.FileViews.{file_of, state_of}
use Rattle.c_scopes.proofs.files.add_form.Goals as goal

pub returns-in_ok-add_variables-in-Globals-clause-state : goal.returns-in_ok-add_variables-in-Globals-clause-state
returns-in_ok-add_variables-in-Globals-clause-state g c =
    let file = file_of (g.C.FlatCounter.flat c.args.counter.now) c.args.file.now in
    let word = words_of c.args.file.now.outside.words in
    let s = state_of c.args.state.now c.args.before.now in
    (λ i. record { scopes = c.in_ok-add_variables-in-Globals.ensures.scopes i; bodies = c.args.before.now }) ∙
    ap (λ t. behind_form file (top_form word t) s) (sym c.in-Globals.is)

pub returns-in_ok-add_variables-in-Globals-clause-out : goal.returns-in_ok-add_variables-in-Globals-clause-out
returns-in_ok-add_variables-in-Globals-clause-out g c =
    let file = file_of (g.C.FlatCounter.flat c.args.counter.now) c.args.file.now in
    let word = words_of c.args.file.now.outside.words in
    let s = state_of c.args.state.now c.args.before.now in
    c.in_ok-add_variables-in-Globals.ensures.out ∙ ap (λ t. c.args.out.now ++ form_tops file c.args.first (top_form word t) s) (sym c.in-Globals.is)

pub returns-in_ok-add_variables-in-Globals-clause-faults : goal.returns-in_ok-add_variables-in-Globals-clause-faults
returns-in_ok-add_variables-in-Globals-clause-faults g c =
    let file = file_of (g.C.FlatCounter.flat c.args.counter.now) c.args.file.now in
    let word = words_of c.args.file.now.outside.words in
    let s = state_of c.args.state.now c.args.before.now in
    c.in_ok-add_variables-in-Globals.ensures.faults ∙ ap (λ t. form_faults file (top_form word t) s c.args.state.now.faults) (sym c.in-Globals.is)
