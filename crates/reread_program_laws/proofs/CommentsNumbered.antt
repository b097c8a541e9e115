-- The token behind a comment of a text, by its number.
use Rattle.std.proofs.Common.{◌≡◌, ◌<◌, ◌≤◌, ◌+◌, ℕ, suc, Bool, true, false, cond, List, [], ◌∷◌, ◌++◌, length, map, filter, refl, ap, sym, subst, ◌∙◌, arith, append_assoc, length-append}
use Rattle.std.proofs.lemmas.List.{length-map}
use Rattle.std.proofs.lemmas.Bool.{le-leb, lt-leb, lt-ltb, le-ltb}
use Rattle.c_lexer.specs.declared.token.Token.{Token}
use Rattle.c_lexer.specs.declared.token.Span.{Span}
use Rattle.c_lexer.specs.Pieces.{Piece, behind, bare, token_of, comment_of, tokens_of, comments_of, Spells}
use Rattle.c_lexer.specs.PieceSteps.{Good, all_of}
use Rattle.c_lexer.specs.Pieces as l
use Rattle.c_lexer.proofs.Later.{has_byte}
use Rattle.c_lexer.proofs.PieceWalks.{spells_walked, tokens_are, comments_are}
use Rattle.c_grammar.specs.declared.class.Class.TheVariants as c
use Rattle.c_grammar.specs.TokenClasses.{classes_of}
use Rattle.c_grammar.specs.Tops.{Top}
use Rattle.c_statements.specs.declared.anchors.Anchor.{Anchor}
use Rattle.c_statements.specs.Context.{same_place}
use Rattle.c_comments.specs.Notes.{place_in, next_token, comment_bytes, comment_place, notes_of}
use Rattle.c_resolved_defs.specs.Within.{Each}
use Rattle.print_laws.specs.Reread.{placed_at, tokens_behind}
use Rattle.print_laws.proofs.Tokens.{bare_front}
use Rattle.reread_program_laws.proofs.Chosen.{chosen, number, placed_by}

-- ---- tokens in front of a comment, and tokens behind it

abbrev AllBefore : ℕ → List Token → Type 0
AllBefore at ts = Each (λ (t : Token). t.start < at) ts

abbrev AllFrom : ℕ → List Token → Type 0
AllFrom at ts = Each (λ (t : Token). at ≤ t.start) ts

before_later : (at to : ℕ) (ts : List Token) → at ≤ to → AllBefore at ts → AllBefore to ts
before_later at to [] h k = tt
before_later at to (t ∷ ts) h k = let s = k.0 in (omega (arith, h, s), before_later at to ts h k.1)

both : (P : Token → Type 0) (ts us : List Token) → Each P ts → Each P us → Each P (ts ++ us)
both P [] us h k = k
both P (t ∷ ts) us h k = (h.0, both P ts us h.1 k)

token_from : (p : Piece) (at place : ℕ) → place ≤ at → AllFrom place (token_of p at)
token_from (l.Space b) at place h = tt
token_from (l.Line w) at place h = tt
token_from (l.Block w) at place h = tt
token_from _ at place h = (h, tt)

all_from : (ps : List Piece) (at place : ℕ) → place ≤ at → AllFrom place (all_of token_of ps at)
all_from [] at place h = tt
all_from (p ∷ ps) at place h = both (λ t. place ≤ t.start) (token_of p at) (all_of token_of ps (behind p at)) (token_from p at place h)
    (all_from ps (behind p at) place (omega (arith, h)))

token_before : (p : Piece) (at : ℕ) → at < behind p at → AllBefore (behind p at) (token_of p at)
token_before (l.Space b) at h = tt
token_before (l.Line w) at h = tt
token_before (l.Block w) at h = tt
token_before _ at h = (h, tt)

none_next : (ts : List Token) (place : ℕ) → AllFrom place ts → next_token ts place ≡ 0
none_next [] place h = refl
none_next (t ∷ ts) place h = ap (λ b. cond b (suc (next_token ts place)) 0) (le-ltb t.start place (h.0))

all_behind : (ts : List Token) (place : ℕ) → AllFrom place ts → tokens_behind place ts ≡ ts
all_behind [] place h = refl
all_behind (t ∷ ts) place h = ap (λ b. cond b (t ∷ tokens_behind place ts) (tokens_behind place ts)) (le-leb place t.start (h.0)) ∙
    ap (λ l. t ∷ l) (all_behind ts place h.1)

front_next : (ts us : List Token) (place : ℕ) → AllBefore place ts → next_token (ts ++ us) place ≡ length ts + next_token us place
front_next [] us place h = omega arith
front_next (t ∷ ts) us place h =
    let e = front_next ts us place h.1 in ap (λ b. cond b (suc (next_token (ts ++ us) place)) 0) (lt-ltb t.start place (h.0)) ∙ omega (arith, e)

front_behind : (ts us : List Token) (place : ℕ) → AllBefore place ts → tokens_behind place (ts ++ us) ≡ tokens_behind place us
front_behind [] us place h = refl
front_behind (t ∷ ts) us place h = ap (λ b. cond b (t ∷ tokens_behind place (ts ++ us)) (tokens_behind place (ts ++ us)))
    (lt-leb place t.start (h.0)) ∙ front_behind ts us place h.1

-- the tokens in front of a comment and those behind it are all
abbrev pub IsNumbered : List Token → Span → Type 0
IsNumbered ts s = next_token ts s.start + length (tokens_behind s.end ts) ≡ length ts

split : (front rest : List Token) (start end : ℕ) → AllBefore start front → start ≤ end → AllFrom end rest →
    IsNumbered (front ++ rest) (record { start = start; end = end })
split front rest start end b h f =
    let later : AllFrom start rest = from_before rest f in
    let x = front_next front rest start b in
    let y = none_next rest start later in
    let z = ap length (front_behind front rest end (before_later start end front h b) ∙ all_behind rest end f) in
    let w = length-append front rest in
    omega (arith, x, y, z, w)
  where
    from_before : (ts : List Token) → AllFrom end ts → AllFrom start ts
    from_before [] k = tt
    from_before (t ∷ ts) k = let u = k.0 in (omega (arith, h, u), from_before ts k.1)

bare_short : (w : List ℕ) → length (bare w) ≤ length w
bare_short w = let f = bare_front w in let e = ap length f.1 in let a = length-append (bare w) f.0 in omega (arith, e, a)

comment_here : (p : Piece) (ps : List Piece) (front : List Token) (at : ℕ) → AllBefore at front →
    Each (IsNumbered (front ++ (token_of p at ++ all_of token_of ps (behind p at)))) (comment_of p at)
comment_here (l.Line w) ps front at b =
    let end = at + 1 + 1 + length (bare w) in
    let s = bare_short w in
    let n = length-append w [] in
    (split front (all_of token_of ps (behind (l.Line w) at)) at end b (omega arith) (all_from ps (behind (l.Line w) at) end (omega (arith, s, n))), tt)
comment_here (l.Block w) ps front at b = (
  split front (all_of token_of ps (behind (l.Block w) at)) at (behind (l.Block w) at) b (omega arith)
      (all_from ps (behind (l.Block w) at) (behind (l.Block w) at) (omega arith)),
  tt,
)
comment_here (l.Space d) ps front at b = tt
comment_here _ ps front at b = tt

spans_both : (P : Span → Type 0) (xs ys : List Span) → Each P xs → Each P ys → Each P (xs ++ ys)
spans_both P [] ys h k = k
spans_both P (x ∷ xs) ys h k = (h.0, spans_both P xs ys h.1 k)

numbered : (ps : List Piece) (first : Bool) (front : List Token) (at : ℕ) → Good first ps [] → AllBefore at front →
    Each (IsNumbered (front ++ all_of token_of ps at)) (all_of comment_of ps at)
numbered [] first front at g b = tt
numbered (p ∷ ps) first front at g b =
    let rest = all_of token_of ps (behind p at) in
    let byte = has_byte first p (g.0) in
    let more : at < behind p at = omega (arith, byte) in
    let before = both (λ t. t.start < behind p at) front (token_of p at) (before_later at (behind p at) front (omega arith) b) (token_before p at more) in
    spans_both (IsNumbered (front ++ (token_of p at ++ rest))) (comment_of p at) (all_of comment_of ps (behind p at)) (comment_here p ps front at b)
    (subst (λ ts. Each (IsNumbered ts) (all_of comment_of ps (behind p at))) (append_assoc front (token_of p at) rest)
    (numbered ps _ (front ++ token_of p at) (behind p at) (g.2) before))

pub comments_numbered : (ps : List Piece) (t : List ℕ) → Spells ps t → Each (IsNumbered (tokens_of ps)) (comments_of ps)
comments_numbered ps t s =
    subst (λ ts. Each (IsNumbered ts) (comments_of ps)) (sym (tokens_are ps))
    (subst (λ cs. Each (IsNumbered (all_of token_of ps 0)) cs) (sym (comments_are ps)) (numbered ps true [] 0 (spells_walked ps t s) tt))

-- ---- the comments of a place

-- those of a text at one place, by the tokens behind them
pub notes_chosen : (text : List ℕ) (tokens : List Token) (file : List Top) (count : ℕ) (a : Anchor) (comments : List Span) →
    count ≡ length tokens + 1 → Each (IsNumbered tokens) comments
    → notes_of text tokens comments file a ≡ chosen a (placed_by (place_in file) count (placed_at text tokens comments))
notes_chosen text tokens file count a [] e h = refl
notes_chosen text tokens file count a (s ∷ ss) e h =
    let behind = tokens_behind s.end tokens in
    let ended = classes_of text behind ++ c.End ∷ [] in
    let x = h.0 in
    let y = length-append (classes_of text behind) (c.End ∷ []) in
    let z : length (classes_of text behind) ≡ length behind = length-map behind _ in
    let n : next_token tokens s.start ≡ number count ended = omega (arith, e, x, y, z) in
    by (same_place (comment_place tokens file s) a) (notes_chosen text tokens file count a ss e h.1) ∙
    ap (λ k. cond (same_place (place_in file k) a) (comment_bytes text s ∷ chosen a (placed_by (place_in file) count (placed_at text tokens ss)))
    (chosen a (placed_by (place_in file) count (placed_at text tokens ss)))) n
  where
    by : (b : Bool) → notes_of text tokens ss file a ≡ chosen a (placed_by (place_in file) count (placed_at text tokens ss))
        → map (comment_bytes text) (cond b (s ∷ filter (λ d. same_place (comment_place tokens file d) a) ss)
        (filter (λ d. same_place (comment_place tokens file d) a) ss))
        ≡ cond b (comment_bytes text s ∷ chosen a (placed_by (place_in file) count (placed_at text tokens ss)))
        (chosen a (placed_by (place_in file) count (placed_at text tokens ss)))
    by true e = ap (λ l. comment_bytes text s ∷ l) e
    by false e = e
