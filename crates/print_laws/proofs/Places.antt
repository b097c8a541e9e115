-- Where comments stand among the tokens: the tokens behind a comment begin at its end or later.
use Rattle.std.proofs.Common.{◌≡◌, ◌<◌, ◌≤◌, ◌+◌, ℕ, Bool, true, cond, List, [], ◌∷◌, ◌++◌, length, map, refl, ap, sym, ◌∙◌, arith, append_assoc, length-append}
use Rattle.std.proofs.lemmas.Bool.{le-leb, lt-leb}
use Rattle.std.proofs.lemmas.List.{map-append}
use Rattle.c_lexer.specs.declared.token.Token.{Token}
use Rattle.c_lexer.specs.declared.token.Span.{Span}
use Rattle.c_lexer.specs.Pieces.{Piece, Fits, text, spelled, behind, bare, token_of, comment_of, tokens_of, comments_of, Spells}
use Rattle.c_lexer.specs.PieceSteps.{Good, all_of}
use Rattle.c_lexer.specs.Pieces as l
use Rattle.c_lexer.proofs.Later.{has_byte}
use Rattle.c_lexer.proofs.PieceLemmas.{Stands}
use Rattle.c_lexer.proofs.PieceWalks.{spells_walked, tokens_are, comments_are}
use Rattle.c_grammar.specs.declared.class.Class.{Class}
use Rattle.c_grammar.specs.declared.class.Class.TheVariants as c
use Rattle.c_grammar.specs.TokenClasses.{classes_of}
use Rattle.print_laws.specs.Reread.{placed_comments, placed_at, tokens_behind, spellings, class_of_spelling, comment_bytes, comment_at}
use Rattle.print_laws.proofs.Tokens.{bare_front, tokens_from, comments_here, next, classes_read}

-- each of them begins in front of this place
abbrev AllBefore : ℕ → List Token → Type 0
AllBefore at [] = Unit {0}
AllBefore at (t ∷ ts) = (t.start < at) × AllBefore at ts

before_later : (at to : ℕ) (ts : List Token) → at ≤ to → AllBefore at ts → AllBefore to ts
before_later at to [] h k = tt
before_later at to (t ∷ ts) h k = let s = k.0 in (omega (arith, h, s), before_later at to ts h k.1)

before_both : (at : ℕ) (ts us : List Token) → AllBefore at ts → AllBefore at us → AllBefore at (ts ++ us)
before_both at [] us h k = k
before_both at (t ∷ ts) us h k = (h.0, before_both at ts us h.1 k)

-- none of them begins at a later place
none_behind : (at place : ℕ) (ts us : List Token) → at ≤ place → AllBefore at ts → tokens_behind place (ts ++ us) ≡ tokens_behind place us
none_behind at place [] us h k = refl
none_behind at place (t ∷ ts) us h k =
    let s = k.0 in
    ap (λ b. cond b (t ∷ tokens_behind place (ts ++ us)) (tokens_behind place (ts ++ us))) (lt-leb place t.start (omega (arith, h, s))) ∙
    none_behind at place ts us h k.1

-- a piece's token begins where the piece does
all_here : (p : Piece) (at place : ℕ) (us : List Token) → place ≤ at → tokens_behind place us ≡ us →
    tokens_behind place (token_of p at ++ us) ≡ token_of p at ++ us
all_here p at place us h e = by_piece p
  where
    kept : (t : Token) → t.start ≡ at → tokens_behind place (t ∷ us) ≡ t ∷ us
    kept t s = ap (λ b. cond b (t ∷ tokens_behind place us) (tokens_behind place us)) (le-leb place t.start (omega (arith, h, s))) ∙ ap (λ l. t ∷ l) e

    by_piece : (p : Piece) → tokens_behind place (token_of p at ++ us) ≡ token_of p at ++ us
    by_piece (l.Space b) = e
    by_piece (l.Line w) = e
    by_piece (l.Block w) = e
    by_piece _ = kept _ refl

all_behind : (ps : List Piece) (at place : ℕ) → place ≤ at → tokens_behind place (all_of token_of ps at) ≡ all_of token_of ps at
all_behind [] at place h = refl
all_behind (p ∷ ps) at place h = all_here p at place (all_of token_of ps (behind p at)) h (all_behind ps (behind p at) place (omega (arith, h)))

begins_here : (first : Bool) (p : Piece) (at : ℕ) → Fits first p → AllBefore (behind p at) (token_of p at)
begins_here first p at f = let b = has_byte first p f in by_piece p (omega (arith, b))
  where
    by_piece : (p : Piece) → at < behind p at → AllBefore (behind p at) (token_of p at)
    by_piece (l.Space b) h = tt
    by_piece (l.Line w) h = tt
    by_piece (l.Block w) h = tt
    by_piece (l.Word w) h = (h, tt)
    by_piece (l.Number w) h = (h, tt)
    by_piece (l.Char ch) h = (h, tt)
    by_piece (l.Text cs) h = (h, tt)
    by_piece (l.Sign m) h = (h, tt)
    by_piece (l.Directive w) h = (h, tt)

bare_short : (w : List ℕ) → length (bare w) ≤ length w
bare_short w = let f = bare_front w in let e = ap length f.1 in let a = length-append (bare w) f.0 in omega (arith, e, a)

head_is : (a b : List ℕ) → a ∷ [] ≡ b ∷ [] → a ≡ b
head_is a b e = cc

-- the classes of tokens, and the end behind them
abbrev ended_classes : List ℕ → List Token → List Class
ended_classes t tokens = classes_of t tokens ++ c.End ∷ []

placed_here : (t : List ℕ) (p : Piece) (at : ℕ) (r : List ℕ) → Stands t at (spelled p r) → (tokens : List Token) (cs : List Class)
    → ((end : ℕ) → at ≤ end → end ≤ behind p at → token_of p at ≡ [] → ended_classes t (tokens_behind end tokens) ≡ cs) →
    placed_at t tokens (comment_of p at) ≡ map (λ w. (cs, w)) (comment_bytes p)
placed_here t (l.Space b) at r h tokens cs f = refl
placed_here t (l.Word w) at r h tokens cs f = refl
placed_here t (l.Number w) at r h tokens cs f = refl
placed_here t (l.Char ch) at r h tokens cs f = refl
placed_here t (l.Text w) at r h tokens cs f = refl
placed_here t (l.Sign m) at r h tokens cs f = refl
placed_here t (l.Directive w) at r h tokens cs f = refl
placed_here t (l.Line w) at r h tokens cs f =
    let s = bare_short w in
    let n = length-append w [] in
    let e = f (at + 1 + 1 + length (bare w)) (omega arith) (omega (arith, s, n)) refl in
    let b = head_is _ _ (comments_here t (l.Line w) at r h) in
    (λ i. (e i, b i) ∷ [])
placed_here t (l.Block w) at r h tokens cs f =
    let e = f (behind (l.Block w) at) (omega arith) (omega arith) refl in
    let b = head_is _ _ (comments_here t (l.Block w) at r h) in
    (λ i. (e i, b i) ∷ [])

placed_both : (t : List ℕ) (tokens : List Token) (a b : List Span) → placed_at t tokens (a ++ b) ≡ placed_at t tokens a ++ placed_at t tokens b
placed_both t tokens a b = map-append (λ (s : Span). (ended_classes t (tokens_behind s.end tokens), comment_at t s)) a b

same_tokens : (t : List ℕ) (x y z : List Token) (a : List Span) → placed_at t (x ++ (y ++ z)) a ≡ placed_at t ((x ++ y) ++ z) a
same_tokens t x y z a = ap (λ ts. placed_at t ts a) (sym (append_assoc x y z))

-- the classes of what stands behind a comment
behind_comment : (t : List ℕ) (p : Piece) (ps : List Piece) (front : List Token) (at end : ℕ) → Stands t (behind p at) (text ps []) →
    AllBefore at front → at ≤ end → end ≤ behind p at → token_of p at ≡ []
    → ended_classes t (tokens_behind end (front ++ (token_of p at ++ all_of token_of ps (behind p at)))) ≡ map class_of_spelling (spellings ps) ++ c.End ∷ []
behind_comment t p ps front at end h k low high none =
    let rest = all_of token_of ps (behind p at) in
    ap (ended_classes t) (none_behind at end front (token_of p at ++ rest) low k ∙ ap (λ ts. tokens_behind end (ts ++ rest)) none ∙
    all_behind ps (behind p at) end high)
    ∙ ap (λ cs. cs ++ c.End ∷ []) (classes_read t rest ∙ ap (map class_of_spelling) (tokens_from t ps (behind p at) h))

places : (t : List ℕ) (ps : List Piece) (first : Bool) (front : List Token) (at : ℕ) → Good first ps [] → Stands t at (text ps []) → AllBefore at front
    → placed_at t (front ++ all_of token_of ps at) (all_of comment_of ps at) ≡ placed_comments ps
places t [] first front at g h k = refl
places t (p ∷ ps) first front at g h k =
    let rest = all_of token_of ps (behind p at) in
    let stands = next t p at (text ps []) h in
    let here = placed_here t p at (text ps []) h (front ++ (token_of p at ++ rest)) (map class_of_spelling (spellings ps) ++ c.End ∷ [])
    (λ end low high none. behind_comment t p ps front at end stands k low high none) in
    let before = before_both (behind p at) front (token_of p at) (before_later at (behind p at) front (omega arith) k) (begins_here first p at g.0) in
    let later = places t ps _ (front ++ token_of p at) (behind p at) g.2 stands before in
    placed_both t (front ++ (token_of p at ++ rest)) (comment_of p at) (all_of comment_of ps (behind p at))
    ∙ (λ i. here i ++ same_tokens t front (token_of p at) rest (all_of comment_of ps (behind p at)) i)
    ∙ ap (λ r. map (λ w. (map class_of_spelling (spellings ps) ++ c.End ∷ [], w)) (comment_bytes p) ++ r) later

-- the comments of a text stand among its tokens as among its pieces
pub comments_placed : (t : List ℕ) (ps : List Piece) → Spells ps t → placed_at t (tokens_of ps) (comments_of ps) ≡ placed_comments ps
comments_placed t ps s = (λ i. placed_at t (tokens_are ps i) (comments_are ps i)) ∙ places t ps true [] 0 (spells_walked ps t s) ([], s.spells, refl) tt
