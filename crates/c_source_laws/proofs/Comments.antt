-- The comments of a text are comments.
use Rattle.std.proofs.Common.{ℕ, Bool, true, false, cond, List, [], ◌∷◌, ◌++◌, map, refl, sym, subst, inl, inr}
use Rattle.std.specs.Prelude.{filter}
use Rattle.c_lexer.specs.declared.token.Span.{Span}
use Rattle.c_lexer.specs.Pieces.{Piece, text, behind, comment_of, tokens_of, comments_of, Fits, Longest, Spells}
use Rattle.c_lexer.specs.PieceSteps.{all_of, first_behind, Good}
use Rattle.c_lexer.specs.Pieces as l
use Rattle.c_lexer.proofs.PieceLemmas.{Stands}
use Rattle.c_lexer.proofs.PieceWalks.{spells_walked, comments_are}
use Rattle.c_statements.specs.declared.anchors.Anchor.{Anchor}
use Rattle.c_grammar.specs.Tops.{Top}
use Rattle.c_comments.specs.Notes.{notes_of, place_in, next_token}
use Rattle.c_statements.specs.Context.{same_place}
use Rattle.c_resolved_defs.specs.Verbatims.{IsComment}
use Rattle.c_resolved_defs.specs.Within.{Each}
use Rattle.print_laws.specs.Reread.{comment_bytes, comment_at}
use Rattle.print_laws.proofs.Tokens.{comments_here, next}
use Rattle.c_source_laws.proofs.Lines.{one_line}

-- ---- comments

piece_comments : (first : Bool) (p : Piece) (r : List ℕ) → Fits first p → Longest p r → Each IsComment (comment_bytes p)
piece_comments first (l.Line w) r f m = ((refl, inl (refl, one_line w r m)), tt)
piece_comments first (l.Block w) r f m = ((refl, inr (refl, f)), tt)
piece_comments first _ r f m = tt

of_map : (t : List ℕ) (xs ys : List Span) → Each IsComment (map (comment_at t) xs) → Each IsComment (map (comment_at t) ys) →
    Each IsComment (map (comment_at t) (xs ++ ys))
of_map t [] ys g h = h
of_map t (x ∷ xs) ys g h = (g.0, of_map t xs ys (g.1) h)

spans_from : (t : List ℕ) (first : Bool) (ps : List Piece) (at : ℕ) → Good first ps [] → Stands t at (text ps []) →
    Each IsComment (map (comment_at t) (all_of comment_of ps at))
spans_from t first [] at g s = tt
spans_from t first (p ∷ ps) at g s =
    of_map t (comment_of p at) (all_of comment_of ps (behind p at))
    (subst (λ xs. Each IsComment xs) (sym (comments_here t p at (text ps []) s)) (piece_comments first p (text ps []) (g.0) (g.1)))
    (spans_from t (first_behind first p) ps (behind p at) (g.2) (next t p at (text ps []) s))

by_test : (t : List ℕ) (x : Span) (ys : List Span) (b : Bool) → IsComment (comment_at t x) → Each IsComment (map (comment_at t) ys) →
    Each IsComment (map (comment_at t) (cond b (x ∷ ys) ys))
by_test t x ys true g h = (g, h)
by_test t x ys false g h = h

kept : (t : List ℕ) (f : Span → Bool) (xs : List Span) → Each IsComment (map (comment_at t) xs) → Each IsComment (map (comment_at t) (filter f xs))
kept t f [] h = tt
kept t f (x ∷ xs) h = by_test t x (filter f xs) (f x) (h.0) (kept t f xs (h.1))

pub comments : (pieces : List Piece) (t : List ℕ) → Spells pieces t → (xs : List Top) (a : Anchor) →
    Each IsComment (notes_of t (tokens_of pieces) (comments_of pieces) xs a)
comments pieces t s xs a =
    kept t (λ x. same_place (place_in xs (next_token (tokens_of pieces) x.start)) a) (comments_of pieces)
    (subst (λ xs. Each IsComment (map (comment_at t) xs)) (sym (comments_are pieces))
    (spans_from t true pieces 0 (spells_walked pieces t s) ([], s.spells, refl)))
