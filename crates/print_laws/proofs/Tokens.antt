-- The tokens and comments of pieces, by their bytes in the text.
use Rattle.std.proofs.Common.{◌≡◌, ◌+◌, ℕ, List, [], ◌∷◌, ◌++◌, length, map, refl, ap, sym, subst, ◌∙◌, arith, append_assoc, Bool, true, false, cond, ◌==◌}
use Rattle.std.specs.Prelude.{slice_range}
use Rattle.std.proofs.lemmas.List.{append-nil, map-append}
use Rattle.c_lexer.specs.declared.token.Token.{Token}
use Rattle.c_lexer.specs.declared.token.TokenKind.TheVariants as k
use Rattle.c_lexer.specs.Marks.{mark_text}
use Rattle.c_lexer.specs.Pieces.{Piece, text, spelled, behind, bare, onto_bare, word_kind, token_of, comment_of, tokens_of, comments_of, Spells}
use Rattle.c_lexer.specs.PieceSteps.{all_of}
use Rattle.c_lexer.specs.Pieces as l
use Rattle.c_lexer.proofs.PieceLemmas.{past_is, ends_is, Stands, slice_is, stands_behind, stands_along, spelled_split}
use Rattle.c_lexer.proofs.PieceWalks.{tokens_are}
use Rattle.c_grammar.specs.TokenClasses.{class_of, classes_of}
use Rattle.print_laws.specs.Reread.{spelling, spelling_of, spellings, comment_bytes, class_of_spelling, read_at, comment_at}

-- these bytes stand there, up to this place
slice_to : (t : List ℕ) (at : ℕ) (w r : List ℕ) (end : ℕ) → Stands t at (w ++ r) → end ≡ at + length w → slice_range t at end ≡ w
slice_to t at w r end h e = ap (slice_range t at) (e ∙ sym (past_is w at)) ∙ slice_is t at w r h

-- a piece's bytes stand where it begins
slice_piece : (t : List ℕ) (p : Piece) (at : ℕ) (r : List ℕ) → Stands t at (spelled p r) → slice_range t at (behind p at) ≡ spelled p []
slice_piece t p at r h = slice_to t at (spelled p []) r (behind p at) (stands_along t at _ _ (spelled_split p r) h) refl

-- a line is itself without carriage returns at its end, and these
pub bare_front : (w : List ℕ) → (r : List ℕ) × (w ≡ bare w ++ r)
bare_front [] = ([], refl)
bare_front (b ∷ w) = by_bare (bare w) (bare_front w)
  where
    by_return : (x : Bool) → (r : List ℕ) → w ≡ r → (r : List ℕ) × (b ∷ w ≡ cond x [] (b ∷ []) ++ r)
    by_return true r e = (b ∷ w, refl)
    by_return false r e = (r, ap (λ l. b ∷ l) e)

    by_bare : (v : List ℕ) → (r : List ℕ) × (w ≡ v ++ r) → (r : List ℕ) × (b ∷ w ≡ onto_bare b v ++ r)
    by_bare [] (r, e) = by_return (b == 13) r e
    by_bare (d ∷ v) (r, e) = (r, ap (λ l. b ∷ l) e)

-- ---- tokens

-- what a piece gives is read in the text
tokens_here : (t : List ℕ) (p : Piece) (at : ℕ) (r : List ℕ) → Stands t at (spelled p r) → map (read_at t) (token_of p at) ≡ spelling_of p
tokens_here t (l.Space b) at r h = refl
tokens_here t (l.Line w) at r h = refl
tokens_here t (l.Block w) at r h = refl
tokens_here t (l.Word w) at r h = ap (λ v. spelling (word_kind w) v ∷ []) (slice_piece t (l.Word w) at r h ∙ append-nil w)
tokens_here t (l.Number w) at r h = ap (λ v. spelling k.Number v ∷ []) (slice_piece t (l.Number w) at r h ∙ append-nil w)
tokens_here t (l.Char c) at r h = ap (λ v. spelling k.Char v ∷ []) (slice_piece t (l.Char c) at r h)
tokens_here t (l.Text cs) at r h = ap (λ v. spelling k.Text v ∷ []) (slice_piece t (l.Text cs) at r h)
tokens_here t (l.Sign m) at r h = ap (λ v. spelling k.Mark v ∷ []) (slice_piece t (l.Sign m) at r h ∙ append-nil (mark_text m))
tokens_here t (l.Directive w) at r h =
    let f = bare_front w in
    ap (λ v. spelling k.Directive v ∷ [])
    (slice_to t at (35 ∷ bare w) (f.0 ++ r) (at + 1 + length (bare w))
    (stands_along t at _ _ (ap (λ v. 35 ∷ v ++ r) f.1 ∙ ap (λ v. 35 ∷ v) (append_assoc (bare w) f.0 r)) h) (omega arith))

pub comments_here : (t : List ℕ) (p : Piece) (at : ℕ) (r : List ℕ) → Stands t at (spelled p r) → map (comment_at t) (comment_of p at) ≡ comment_bytes p
comments_here t (l.Space b) at r h = refl
comments_here t (l.Word w) at r h = refl
comments_here t (l.Number w) at r h = refl
comments_here t (l.Char c) at r h = refl
comments_here t (l.Text cs) at r h = refl
comments_here t (l.Sign m) at r h = refl
comments_here t (l.Directive w) at r h = refl
comments_here t (l.Line w) at r h =
    let f = bare_front w in
    ap (λ v. v ∷ [])
    (slice_to t at (47 ∷ 47 ∷ bare w) (f.0 ++ r) (at + 1 + 1 + length (bare w))
    (stands_along t at _ _ (ap (λ v. 47 ∷ 47 ∷ v ++ r) f.1 ∙ ap (λ v. 47 ∷ 47 ∷ v) (append_assoc (bare w) f.0 r)) h) (omega arith))
comments_here t (l.Block w) at r h = ap (λ v. v ∷ []) (slice_piece t (l.Block w) at r h ∙ ap (λ v. 47 ∷ 42 ∷ v) (append-nil w))

pub next : (t : List ℕ) (p : Piece) (at : ℕ) (r : List ℕ) → Stands t at (spelled p r) → Stands t (behind p at) r
next t p at r h = subst (λ n. Stands t n r) (ends_is p at) (stands_behind t p at r h)

pub tokens_from : (t : List ℕ) (ps : List Piece) (at : ℕ) → Stands t at (text ps []) → map (read_at t) (all_of token_of ps at) ≡ spellings ps
tokens_from t [] at h = refl
tokens_from t (p ∷ ps) at h =
    map-append (read_at t) (token_of p at) (all_of token_of ps (behind p at))
    ∙ (λ i. tokens_here t p at (text ps []) h i ++ tokens_from t ps (behind p at) (next t p at (text ps []) h) i)

-- the tokens of pieces are those that they spell, in order
pub tokens_read : (t : List ℕ) (ps : List Piece) → t ≡ text ps [] → map (read_at t) (tokens_of ps) ≡ spellings ps
tokens_read t ps e = ap (map (read_at t)) (tokens_are ps) ∙ tokens_from t ps 0 ([], e, refl)

-- and their classes
pub classes_read : (t : List ℕ) (tokens : List Token) → classes_of t tokens ≡ map class_of_spelling (map (read_at t) tokens)
classes_read t [] = refl
classes_read t (token ∷ tokens) = ap (λ l. class_of t token ∷ l) (classes_read t tokens)
