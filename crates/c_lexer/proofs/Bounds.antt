-- Tokens and comments lie in the text, each with a byte at least.
use Rattle.std.proofs.Common.{◌≡◌, ◌≤◌, ◌<◌, ◌+◌, ℕ, Bool, List, [], ◌∷◌, ◌++◌, length, cond, ◌==◌, true, false, Result, Ok, Err, ap, ◌∙◌, subst, arith, length-append}
use Rattle.std.specs.Prelude.{All, IfOk}
use Rattle.std.proofs.lemmas.List.Elements.{All-nil, All-cons, All-append, All-same}
use Rattle.c_types.specs.declared.refusal.ReadStop.{ReadStop}
use Rattle.c_types.specs.declared.refusal.Refusal.{Refusal}
use Rattle.c_types.specs.Stop.{Gives}
use Rattle.c_lexer.specs.declared.token.Token.{Token}
use Rattle.c_lexer.specs.declared.token.TokenKind.{TokenKind}
use Rattle.c_lexer.specs.declared.token.TokenKind.TheVariants as k
use Rattle.c_lexer.specs.declared.token.Span.{Span}
use Rattle.c_lexer.specs.declared.token.Scanned.{Scanned}
use Rattle.c_lexer.specs.Pieces.{Piece, Space, Word, Number, Char, Text, Sign, Directive, Line, Block, text, Fits, behind, onto_bare, bare, word_kind, token, span, token_of, comment_of, scanned_of, IsWithin}
use Rattle.c_lexer.specs.PieceSteps.{Good, first_behind, all_of}
use Rattle.c_lexer.specs.Answers.{scanning, IsReading}
use Rattle.c_lexer.proofs.PieceWalks.{spells_walked, tokens_are, comments_are, length_on}
use Rattle.c_lexer.proofs.Later.{has_byte}
use Rattle.c_lexer.proofs.Theorem.{scan_reading}

one_bare : (c : Bool) (b : ℕ) → length (cond c [] (b ∷ [])) ≤ 1
one_bare true b = omega arith
one_bare false b = omega arith

onto_length : (b : ℕ) (v : List ℕ) → length (onto_bare b v) ≤ length v + 1
onto_length b [] = one_bare (b == 13) b
onto_length b (c ∷ v) = omega arith

bare_length : (w : List ℕ) → length (bare w) ≤ length w
bare_length [] = omega arith
bare_length (b ∷ w) = let h = bare_length w in let m = onto_length b (bare w) in omega arith

line_length : (w : List ℕ) → length (bare w) ≤ length (w ++ [])
line_length w = let h = bare_length w in let m = length-append w [] in omega arith

-- what a piece gives lies in it

token_one : (kind : TokenKind) (at end total : ℕ) → at < end → end ≤ total → All (λ (x : Token). (x.start < x.end) × (x.end ≤ total)) (token kind at end ∷ [])
token_one kind at end total h m = All-cons (λ (x : Token). (x.start < x.end) × (x.end ≤ total)) (token kind at end) [] (h, m)
    (All-nil (λ (x : Token). (x.start < x.end) × (x.end ≤ total)))

token_none : (total : ℕ) → All (λ (x : Token). (x.start < x.end) × (x.end ≤ total)) []
token_none total = All-nil (λ (x : Token). (x.start < x.end) × (x.end ≤ total))

further : (at n : ℕ) → 1 ≤ n → at < at + n
further at n h = omega arith

tokens_inside : (first : Bool) (p : Piece) (at total : ℕ) → Fits first p → behind p at ≤ total →
    All (λ (x : Token). (x.start < x.end) × (x.end ≤ total)) (token_of p at)
tokens_inside first (Space b) at total f h = token_none total
tokens_inside first (Word w) at total f h = token_one (word_kind w) at (behind (Word w) at) total (further at _ (has_byte first (Word w) f)) h
tokens_inside first (Number w) at total f h = token_one k.Number at (behind (Number w) at) total (further at _ (has_byte first (Number w) f)) h
tokens_inside first (Char c) at total f h = token_one k.Char at (behind (Char c) at) total (further at _ (has_byte first (Char c) f)) h
tokens_inside first (Text cs) at total f h = token_one k.Text at (behind (Text cs) at) total (further at _ (has_byte first (Text cs) f)) h
tokens_inside first (Sign m) at total f h = token_one k.Mark at (behind (Sign m) at) total (further at _ (has_byte first (Sign m) f)) h
tokens_inside first (Directive w) at total f h = let l = line_length w in token_one k.Directive at (at + 1 + length (bare w)) total (omega arith) (omega arith)
tokens_inside first _ at total f h = token_none total

comment_one : (at end total : ℕ) → at < end → end ≤ total → All (λ (x : Span). (x.start < x.end) × (x.end ≤ total)) (span at end ∷ [])
comment_one at end total h m = All-cons (λ (x : Span). (x.start < x.end) × (x.end ≤ total)) (span at end) [] (h, m)
    (All-nil (λ (x : Span). (x.start < x.end) × (x.end ≤ total)))

comments_inside : (first : Bool) (p : Piece) (at total : ℕ) → Fits first p → behind p at ≤ total →
    All (λ (x : Span). (x.start < x.end) × (x.end ≤ total)) (comment_of p at)
comments_inside first (Line w) at total f h = let l = line_length w in comment_one at (at + 1 + 1 + length (bare w)) total (omega arith) (omega arith)
comments_inside first (Block w) at total f h = comment_one at (behind (Block w) at) total (further at _ (has_byte first (Block w) f)) h
comments_inside first _ at total f h = All-nil (λ (x : Span). (x.start < x.end) × (x.end ≤ total))

all_inside : {X : Type 0} (start end : X → ℕ) (f : Piece → ℕ → List X)
    → ((first : Bool) (p : Piece) (at total : ℕ) → Fits first p → behind p at ≤ total → All (λ (x : X). (start x < end x) × (end x ≤ total)) (f p at))
    → (first : Bool) (ps : List Piece) (at total : ℕ) → Good first ps [] → at + length (text ps []) ≤ total →
    All (λ (x : X). (start x < end x) × (end x ≤ total)) (all_of f ps at)
all_inside {X} start end f inside first [] at total g h = All-nil (λ (x : X). (start x < end x) × (end x ≤ total))
all_inside {X} start end f inside first (p ∷ ps) at total g h =
    let e = length_on p (text ps []) in
    All-append (λ (x : X). (start x < end x) × (end x ≤ total)) (f p at) (all_of f ps (behind p at)) (inside first p at total g.0 (omega arith))
    (all_inside start end f inside (first_behind first p) ps (behind p at) total g.2 (omega arith))

same_length : (t u : List ℕ) → t ≡ u → 0 + length u ≤ length t
same_length t u e = let h = ap length e in omega arith

tokens_within : (t : List ℕ) (found : Scanned) → IsReading scanned_of t (Ok found) → All (λ (x : Token). IsWithin t x.start x.end) found.tokens
tokens_within t found (ps, s, e) =
    All-same (λ (x : Token). IsWithin t x.start x.end) found.tokens (all_of token_of ps 0) (ap (λ (x : Scanned). x.tokens) e ∙ tokens_are ps)
    (all_inside (λ (x : Token). x.start) (λ (x : Token). x.end) token_of tokens_inside true ps 0 (length t) (spells_walked ps t s)
    (same_length t (text ps []) s.spells))

comments_within : (t : List ℕ) (found : Scanned) → IsReading scanned_of t (Ok found) → All (λ (x : Span). IsWithin t x.start x.end) found.comments
comments_within t found (ps, s, e) =
    All-same (λ (x : Span). IsWithin t x.start x.end) found.comments (all_of comment_of ps 0) (ap (λ (x : Scanned). x.comments) e ∙ comments_are ps)
    (all_inside (λ (x : Span). x.start) (λ (x : Span). x.end) comment_of comments_inside true ps 0 (length t) (spells_walked ps t s)
    (same_length t (text ps []) s.spells))

pub tokens_bound : (t : List ℕ) (r : Result Scanned ReadStop) → Gives (λ (x : Scanned). x) r (scanning t) →
    IfOk r (λ found. All (λ (x : Token). IsWithin t x.start x.end) found.tokens)
tokens_bound t (Ok found) h = tokens_within t found (subst (λ (x : Result Scanned Refusal). IsReading scanned_of t x) h (scan_reading t))
tokens_bound t (Err stop) h = tt

pub comments_bound : (t : List ℕ) (r : Result Scanned ReadStop) → Gives (λ (x : Scanned). x) r (scanning t) →
    IfOk r (λ found. All (λ (x : Span). IsWithin t x.start x.end) found.comments)
comments_bound t (Ok found) h = comments_within t found (subst (λ (x : Result Scanned Refusal). IsReading scanned_of t x) h (scan_reading t))
comments_bound t (Err stop) h = tt
