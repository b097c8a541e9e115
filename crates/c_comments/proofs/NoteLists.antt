-- Comments and the tokens that follow them.
use Rattle.std.proofs.Common.{◌≡◌, ◌<◌, ◌≤◌, ◌+◌, ℕ, suc, Bool, true, false, cond, nat_lt, List, [], ◌∷◌, ◌++◌, length, get_or, map, filter, drop, refl, ap, sym, ◌∙◌, arith, append_assoc, add-one, drop-cons}
use Rattle.std.proofs.lemmas.Bool.{ltb-true, lt-ltb}
use Rattle.std.proofs.lemmas.List.{append-nil, drop_all}
use Rattle.c_lexer.specs.declared.token.Token.{Token}
use Rattle.c_lexer.specs.declared.token.Span.{Span}
use Rattle.c_grammar.specs.Tops.{Top}
use Rattle.c_statements.specs.declared.anchors.Anchor.{Anchor}
use Rattle.c_statements.specs.Context.{same_place, with_note}
use Rattle.c_comments.specs.Notes.{next_token, comment_bytes, comment_place, notes_of}

-- ---- tokens

pub token-next : (ts : List Token) (i : ℕ) (d : Token) (start : ℕ) → i < length ts → (get_or ts i d).start < start
    → next_token (drop i ts) start ≡ suc (next_token (drop (i + 1) ts) start)
token-next ts i d start h b = rw (add-one, drop-cons ts i d, lt-ltb (get_or ts i d).start start b) refl

pub token-stop : (ts : List Token) (i : ℕ) (d : Token) (start : ℕ) → i < length ts → start ≤ (get_or ts i d).start → next_token (drop i ts) start ≡ 0
token-stop ts i d start h b = rw (drop-cons ts i d) (by (nat_lt (get_or ts i d).start start) refl)
  where
    by : (b : Bool) → nat_lt (get_or ts i d).start start ≡ b → cond (nat_lt (get_or ts i d).start start) (suc (next_token (drop (suc i) ts) start)) 0 ≡ 0
    by true e = absurd (omega (arith, ltb-true (get_or ts i d).start start e))
    by false e = ap (λ r. cond r (suc (next_token (drop (suc i) ts) start)) 0) e

pub token-end : (ts : List Token) (i : ℕ) (start : ℕ) → length ts ≤ i → next_token (drop i ts) start ≡ 0
token-end ts i start h = ap (λ l. next_token l start) (drop_all i ts h)

-- tokens that begin before an offset begin before a later one
later-at : (b : Bool) (t : Token) (ts : List Token) (p s : ℕ) → nat_lt t.start p ≡ b → p ≤ s
    → next_token ts s ≡ next_token ts p + next_token (drop (next_token ts p) ts) s
    → next_token (t ∷ ts) s ≡ next_token (t ∷ ts) p + next_token (drop (next_token (t ∷ ts) p) (t ∷ ts)) s
later-at true t ts p s e h r = rw (e, lt-ltb t.start s (omega (arith, ltb-true t.start p e))) (ap suc r ∙ omega arith)
later-at false t ts p s e h r = rw e (omega arith)

pub later_token : (ts : List Token) (p s : ℕ) → p ≤ s → next_token ts s ≡ next_token ts p + next_token (drop (next_token ts p) ts) s
later_token [] p s h = refl
later_token (t ∷ ts) p s h = later-at (nat_lt t.start p) t ts p s refl h (later_token ts p s h)

pub no_token : (ts : List Token) → next_token ts 0 ≡ 0
no_token [] = refl
no_token (t ∷ ts) = token-stop (t ∷ ts) 0 t 0 (omega arith) (omega arith)

-- ---- comments

-- comments put to their places one by one
abbrev pub placed : (Span → Anchor) → (Span → List ℕ) → List Span → (Anchor → List (List ℕ)) → Anchor → List (List ℕ)
placed place bytes [] notes = notes
placed place bytes (c ∷ cs) notes = placed place bytes cs (with_note (place c) (bytes c) notes)

behind-note : (b : Bool) (xs ys : List (List ℕ)) (x : List ℕ) → cond b (xs ++ x ∷ []) xs ++ ys ≡ xs ++ cond b (x ∷ ys) ys
behind-note true xs ys x = append_assoc xs (x ∷ []) ys
behind-note false xs ys x = refl

map-cond : (bytes : Span → List ℕ) (b : Bool) (c : Span) (cs : List Span) → cond b (bytes c ∷ map bytes cs) (map bytes cs) ≡ map bytes (cond b (c ∷ cs) cs)
map-cond bytes true c cs = refl
map-cond bytes false c cs = refl

placed-at : (place : Span → Anchor) (bytes : Span → List ℕ) (cs : List Span) (notes : Anchor → List (List ℕ)) (a : Anchor)
    → placed place bytes cs notes a ≡ notes a ++ map bytes (filter (λ c. same_place (place c) a) cs)
placed-at place bytes [] notes a = sym (append-nil (notes a))
placed-at place bytes (c ∷ cs) notes a =
    placed-at place bytes cs (with_note (place c) (bytes c) notes) a
    ∙ behind-note (same_place (place c) a) (notes a) (map bytes (filter (λ c. same_place (place c) a) cs)) (bytes c)
    ∙ ap (λ l. notes a ++ l) (map-cond bytes (same_place (place c) a) c (filter (λ c. same_place (place c) a) cs))

pub placed_notes : (text : List ℕ) (tokens : List Token) (comments : List Span) (file : List Top)
    → placed (comment_place tokens file) (comment_bytes text) comments (λ a. []) ≡ notes_of text tokens comments file
placed_notes text tokens comments file = λ i a. placed-at (comment_place tokens file) (comment_bytes text) comments (λ a. []) a i

pub placed_next : (place : Span → Anchor) (bytes : Span → List ℕ) (cs : List Span) (i : ℕ) (d : Span) (notes : Anchor → List (List ℕ)) → i < length cs
    → placed place bytes (drop i cs) notes ≡ placed place bytes (drop (i + 1) cs) (with_note (place (get_or cs i d)) (bytes (get_or cs i d)) notes)
placed_next place bytes cs i d notes h = rw (add-one, drop-cons cs i d) refl

pub ruleset tokens = (token-next, token-stop, token-end)

pub ruleset later = (later_token)

pub ruleset placing = (placed_next, placed_notes, no_token)
