use Rattle.std.proofs.Common.{◌≡◌, ◌+◌, get_or, drop, ap, sym, ◌∙◌, arith}
use Rattle.std.proofs.lemmas.List.{drop_all}
use Rattle.c_lexer.specs.declared.token.Span.{Span}
use Rattle.c_grammar.specs.Views.{words_of}
use Rattle.c_statements.specs.Context.{with_note}
use Rattle.c_statements.specs.NoteViews.{notes_of}
use Rattle.c_comments.specs.NodeViews.{tops_in}
use Rattle.c_comments.specs.Notes.{next_token, comment_bytes, comment_place, place_in}
use Rattle.c_comments.proofs.NoteLists.{placed, placed_next, placed_notes, no_token}
use Rattle.c_comments.proofs.notes.place_notes.Goals as goal

pub loop-comment-init : goal.loop-comment-init
loop-comment-init c =
    let file = tops_in (words_of c.args.words.now) c.args.nodes.now in
    let tokens = c.args.words.now.tokens.now in
    let text = c.args.words.now.text.now in
    record {
      within = omega arith;
      walk = c.new-walk.ensures (words_of c.args.words.now);
      reached = sym (no_token tokens);
      notes = ap (placed (comment_place tokens file) (comment_bytes text) c.args.comments.now) c.new-notes.ensures;
    }

pub loop-comment-preserved : goal.loop-comment-preserved
loop-comment-preserved c =
    let file = tops_in (words_of c.args.words.now) c.args.nodes.now in
    let tokens = c.args.words.now.tokens.now in
    let text = c.args.words.now.text.now in
    let place = comment_place tokens file in
    let bytes = comment_bytes text in
    let i = c.loop-comment.comment-index in
    let d : Span = record { start = 0; end = 0 } in
    let comment = get_or c.args.comments.now i d in
    let reached = c.reach-next.ensures in
    let put : notes_of c.add_comment.new.notes ≡ with_note (place comment) (bytes comment) (notes_of c.loop-comment.notes)
    = c.in_ok-add_comment.ensures.notes
    ∙ (λ j. with_note (place_in file (reached.at j)) (bytes comment) (notes_of c.loop-comment.notes)) in
    record {
      within = reached.within;
      walk = c.in_ok-add_comment.ensures.walk;
      reached = reached.at ∙ ap (next_token tokens) (sym reached.start);
      notes =
          ap (placed place bytes (drop (i + 1) c.args.comments.now)) put
          ∙ sym (placed_next place bytes c.args.comments.now i d (notes_of c.loop-comment.notes) c.loop-comment-test.true)
          ∙ c.loop-comment.invariant.notes;
    }

pub returns : goal.returns
returns c =
    let file = tops_in (words_of c.args.words.now) c.args.nodes.now in
    let tokens = c.args.words.now.tokens.now in
    let text = c.args.words.now.text.now in
    let i = c.loop-comment.comment-index in
    ap (λ l. placed (comment_place tokens file) (comment_bytes text) l (notes_of c.loop-comment.notes))
    (sym (drop_all i c.args.comments.now c.loop-comment-test.false))
    ∙ c.loop-comment.invariant.notes
    ∙ placed_notes text tokens c.args.comments.now file
