use Rattle.std.proofs.Common.{◌≡◌, ◌≤◌, [], drop, length}
use Rattle.c_grammar.specs.Views.{words_of}
use Rattle.c_statements.specs.NoteViews.{notes_of}
use Rattle.c_comments.specs.Frames.{IsWalk}
use Rattle.c_comments.specs.NodeViews.{tops_in}
use Rattle.c_comments.specs.Notes.{next_token, comment_bytes, comment_place, place_in}
use Rattle.c_comments.proofs.NoteLists.{placed}
use Rattle.c_comments.proofs.notes.place_notes.Given as goal

abbrev pub invariant-loop-comment : goal.invariant-loop-comment
invariant-loop-comment l =
    let file = tops_in (words_of l.words) l.nodes in
    let tokens = l.words.tokens.now in
    let text = l.words.text.now in
    record {
      within : l.reached.at ≤ length tokens;
      walk : IsWalk (words_of l.words) (place_in file) l.walk;
      reached : l.reached.at ≡ next_token tokens l.reached.start;
      notes : placed (comment_place tokens file) (comment_bytes text) (drop l.comment-index l.comments) (notes_of l.notes) ≡ placed
          (comment_place tokens file) (comment_bytes text) l.comments (λ a. []);
    }
