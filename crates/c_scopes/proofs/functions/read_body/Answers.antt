use Rattle.std.proofs.Common.{◌≡◌, ap, ◌∙◌}
use Rattle.c_bodies.specs.Views.{walk_of}
use Rattle.c_grammar.specs.TopViews.{function_form}
use Rattle.c_grammar.specs.Views.{words_of}
use Rattle.c_statements.specs.Functions.{context, body_faults, tangle_fault}
use Rattle.c_statements.specs.NoteViews.{notes_of}
use Rattle.c_scopes.specs.BlockViews.{block_form}
use Rattle.c_scopes.proofs.functions.read_body.Goals as goal

pub returns-clause-faults : goal.returns-clause-faults
unfolding walk_of
returns-clause-faults g c =
    let word = words_of c.args.outside.now.words in
    let block = block_form word c.args.body in
    let form = function_form word c.args.f in
    let ctx = context word (notes_of c.args.outside.now.notes.now) form block in
    let faults = c.in_ok-items.ensures.faults ∙ ap (body_faults ctx block (walk_of c.args.state.now)) c.in_ok-labels.ensures.faults in
    c.in_ok-report_tangle.ensures ∙ (λ i. tangle_fault (g.C.FlatCounter.flat c.args.counter.now) word form block (c.in_ok-items.ensures.items i) (faults i))
