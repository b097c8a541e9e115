use Rattle.std.proofs.Common.{◌≡◌, drop, length, false, ap, ◌∙◌}
use Rattle.c_bodies.specs.Views.{walk_of}
use Rattle.c_grammar.specs.TopViews.{function_form}
use Rattle.c_grammar.specs.Views.{words_of}
use Rattle.c_statements.specs.Functions.{bind_parameters, inside, behind_within, items_within}
use Rattle.c_statements.specs.NoteViews.{notes_of}
use Rattle.c_scopes.specs.NodeViews.{parameters_of}
use Rattle.c_scopes.proofs.Kept.{function_kept, function_params}
use Rattle.c_scopes.proofs.functions.read_function.Goals as goal

pub returns-clause-scopes : goal.returns-clause-scopes
unfolding walk_of
returns-clause-scopes g c =
    let word = words_of c.args.outside.now.words in
    let notes = notes_of c.args.outside.now.notes.now in
    let form = function_form word c.args.f in
    let entry = c.in_ok-enter_function.ensures in
    let bound : walk_of c.read_parameters.new.state ≡ inside word form c.args.state.now.known.scopes
    = c.in_ok-read_parameters.ensures.walk
    ∙ (λ i. bind_parameters (words_of (entry.words i)) (parameters_of (words_of (entry.words i)) c.args.f.parameters.now) (entry.walk i)) in
    c.leave_function-slots.ensures.scopes
    ∙ ap (λ w. drop 1 w.scopes) (c.in_ok-labels.ensures.walk ∙ ap (behind_within word notes form form.body) bound)
    ∙ function_kept word notes form c.args.state.now.known.scopes

pub returns-clause-value : goal.returns-clause-value
unfolding walk_of
returns-clause-value g c =
    let word = words_of c.args.outside.now.words in
    let notes = notes_of c.args.outside.now.notes.now in
    let form = function_form word c.args.f in
    let entry = c.in_ok-enter_function.ensures in
    let bound : walk_of c.read_parameters.new.state ≡ inside word form c.args.state.now.known.scopes
    = c.in_ok-read_parameters.ensures.walk
    ∙ (λ i. bind_parameters (words_of (entry.words i)) (parameters_of (words_of (entry.words i)) c.args.f.parameters.now) (entry.walk i)) in
    let name = c.in_ok-name.ensures ∙ c.get.ensures in
    let params = c.len-params.ensures.value ∙ ap (λ w. length w.slots) bound ∙ function_params word form c.args.state.now.known.scopes in
    let slots = c.leave_function-slots.ensures.slots ∙ ap (λ w. w.slots) (c.in_ok-labels.ensures.walk ∙ ap (behind_within word notes form form.body) bound) in
    let body = c.in_ok-labels.ensures.items ∙ ap (items_within word notes form form.body) bound in
    λ i. record {
      name = name i;
      result = c.result_kind.ensures i;
      file_only = c.args.f.is_static;
      params = params i;
      slots = slots i;
      labels = c.in_ok-labels.ensures.labels i;
      body = body i;
      flat = false;
    }
