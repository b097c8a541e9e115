use Rattle.std.proofs.Common.{◌≡◌, [], ap, sym, ◌∙◌}
use Rattle.c_grammar.specs.Parts.{file_of}
use Rattle.c_grammar.specs.Views.{words_of}
use Rattle.c_scopes.specs.FileViews as views
use Rattle.c_scopes.specs.Files.{file_faults, start, tops_of}
use Rattle.c_scopes.specs.FunctionNames.{bodies_of}
use Rattle.c_comments.specs.NodeViews.{tops_in}
use Rattle.c_comments.specs.Notes.{notes_of}
use Rattle.c_scopes.proofs.resolving.read_file.Goals as goal

pub returns-clause-tops : goal.returns-clause-tops
returns-clause-tops g c =
    let words = c.args.words.now in
    let word = words_of words in
    let flat = g.C.FlatCounter.flat c.args.counter.now in
    let whole = file_of word c.args.syntax in
    let nodes : tops_in word c.into_tops-nodes.result ≡ whole = sym c.into_tops-nodes.ensures in
    let seen : tops_in word c.as_slice-whole.result.now ≡ whole = ap (tops_in word) c.as_slice-whole.ensures.value ∙ nodes in
    let notes = c.in_ok-notes.ensures ∙ ap (notes_of words.text.now words.tokens.now c.args.comments.now) seen in
    let bodies = c.in_ok-bodies.ensures ∙ ap (bodies_of word) seen in
    c.in_ok-read.ensures.tops ∙ (λ i. tops_of (record { word = word; notes = notes i; bodies = bodies i; flat = flat }) (nodes i) start)

pub returns-clause-faults : goal.returns-clause-faults
returns-clause-faults g c =
    let words = c.args.words.now in
    let word = words_of words in
    let flat = g.C.FlatCounter.flat c.args.counter.now in
    let whole = file_of word c.args.syntax in
    let nodes : tops_in word c.into_tops-nodes.result ≡ whole = sym c.into_tops-nodes.ensures in
    let seen : tops_in word c.as_slice-whole.result.now ≡ whole = ap (tops_in word) c.as_slice-whole.ensures.value ∙ nodes in
    let notes = c.in_ok-notes.ensures ∙ ap (notes_of words.text.now words.tokens.now c.args.comments.now) seen in
    let bodies = c.in_ok-bodies.ensures ∙ ap (bodies_of word) seen in
    c.in_ok-read.ensures.faults ∙ (λ i. file_faults (record { word = word; notes = notes i; bodies = bodies i; flat = flat }) (nodes i) start [])
