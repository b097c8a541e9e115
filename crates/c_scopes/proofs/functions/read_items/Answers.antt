use Rattle.std.proofs.Common.{◌≡◌, subst, OnOk}
use Rattle.c_bodies.specs.Views.{walk_of}
use Rattle.c_grammar.specs.TopViews.{function_form}
use Rattle.c_grammar.specs.Views.{words_of}
use Rattle.c_statements.specs.Context.{Context}
use Rattle.c_statements.specs.Functions.{context, behind_body, body_faults}
use Rattle.c_statements.specs.NoteViews.{notes_of}
use Rattle.c_scopes.specs.BlockViews.{block_form}
use Rattle.c_scopes.proofs.functions.read_items.Goals as goal

pub returns-clause-walk : goal.returns-clause-walk
returns-clause-walk c =
    let word = words_of c.args.outside.now.words in
    let block = block_form word c.args.body in
    let same : record {
      word = word;
      notes = notes_of c.args.outside.now.notes.now;
      labels = c.args.numbers.now;
      result = c.result_kind.result;
    } ≡ context word (notes_of c.args.outside.now.notes.now) (function_form word c.args.f) block
    = λ i. record { word = word; notes = notes_of c.args.outside.now.notes.now; labels = c.requires i; result = c.result_kind.ensures i } in
    subst (λ ctx. OnOk c.read_block.result (walk_of c.read_block.new.state ≡ behind_body ctx block (walk_of c.args.state.now))) same c.read_block.ensures.walk

pub returns-clause-faults : goal.returns-clause-faults
returns-clause-faults c =
    let word = words_of c.args.outside.now.words in
    let block = block_form word c.args.body in
    let same : record {
      word = word;
      notes = notes_of c.args.outside.now.notes.now;
      labels = c.args.numbers.now;
      result = c.result_kind.result;
    } ≡ context word (notes_of c.args.outside.now.notes.now) (function_form word c.args.f) block
    = λ i. record { word = word; notes = notes_of c.args.outside.now.notes.now; labels = c.requires i; result = c.result_kind.ensures i } in
    subst (λ ctx. OnOk c.read_block.result (c.read_block.new.state.faults ≡ body_faults ctx block (walk_of c.args.state.now) c.args.state.now.faults))
    same c.read_block.ensures.faults
