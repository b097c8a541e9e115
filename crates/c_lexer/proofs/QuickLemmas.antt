-- Whole pieces, and bytes that stay, are read at once.
use Rattle.std.proofs.Common.{◌≡◌, ◌≤◌, ◌<◌, ◌+◌, ℕ, Bool, true, false, ◌&&◌, ◌==◌, zero, suc, List, [], ◌∷◌, ◌++◌, drop, length, get_or, Option, Some, None, refl, ap, sym, subst, ◌∙◌, arith, append_assoc, length-append}
use Rattle.std.specs.Prelude.{slice_range}
use Rattle.std.specs.List.{list_all, prefix_len}
use Rattle.std.proofs.lemmas.List.{drop_at, drop_more}
use Rattle.c_types.specs.Words.{is_letter, is_word_byte}
use Rattle.c_lexer.specs.declared.token.Token.{Token}
use Rattle.c_lexer.specs.declared.token.Span.{Span}
use Rattle.c_lexer.specs.declared.token.Scanned.{Scanned}
use Rattle.c_lexer.specs.declared.state.State.{State}
use Rattle.c_lexer.specs.declared.state.State.TheVariants.{Between}
use Rattle.c_lexer.specs.declared.state.Ended.{Ended}
use Rattle.c_lexer.specs.declared.state.Ended.TheVariants as ended
use Rattle.c_lexer.specs.declared.state.Taken.{Taken}
use Rattle.c_lexer.specs.Bytes.{NotFirst}
use Rattle.c_lexer.specs.declared.mark.Mark.{Mark}
use Rattle.c_lexer.specs.declared.mark.Mark.TheVariants.{Slash, OpenBracket, CloseBracket, OpenParenthesis, CloseParenthesis, OpenBrace, CloseBrace, Tilde, Question, Colon, Semicolon, Comma}
use Rattle.c_lexer.specs.declared.token.TokenKind.TheVariants as k
use Rattle.c_lexer.specs.Marks.{mark_text}
use Rattle.c_lexer.specs.MarkSteps.{mark_at, longer, is_dot, is_alone, is_alone_mark}
use Rattle.c_lexer.specs.Pieces.{Word, Sign, Longest, token, word_kind}
use Rattle.c_lexer.proofs.MarkLemmas.{mark_first, longest_mark, no_dots, mark_last}
use Rattle.c_lexer.specs.Machine.{run, go_on, stays, begins_word, begins_mark, behind_stays, found, mark, word_from, add_ended}
use Rattle.c_lexer.proofs.PieceLemmas.{past, past_is, Stands, slice_is}
use Rattle.c_lexer.proofs.Reading.{add_all, scan, read, kept}
use Rattle.c_lexer.proofs.ScanLemmas.{stays_is}
use Rattle.c_lexer.proofs.Theorem.{only_tokens, only_comments, both, record_of, selected, same_parts, keep, select_run}

-- ---- what was read, as a list again

abbrev of_tokens : List Token → List Ended
of_tokens [] = []
of_tokens (x ∷ xs) = ended.Token x ∷ of_tokens xs

abbrev of_comments : List Span → List Ended
of_comments [] = []
of_comments (x ∷ xs) = ended.Comment x ∷ of_comments xs

tokens_alone : (cs : List Span) → only_tokens (of_comments cs) ≡ []
tokens_alone [] = refl
tokens_alone (c ∷ cs) = tokens_alone cs

tokens_back : (ts : List Token) (cs : List Span) → only_tokens (of_tokens ts ++ of_comments cs) ≡ ts
tokens_back [] cs = tokens_alone cs
tokens_back (x ∷ ts) cs = ap (λ (l : List Token). x ∷ l) (tokens_back ts cs)

comments_alone : (cs : List Span) → only_comments (of_comments cs) ≡ cs
comments_alone [] = refl
comments_alone (c ∷ cs) = ap (λ (l : List Span). c ∷ l) (comments_alone cs)

comments_back : (ts : List Token) (cs : List Span) → only_comments (of_tokens ts ++ of_comments cs) ≡ cs
comments_back [] cs = comments_alone cs
comments_back (x ∷ ts) cs = comments_back ts cs

abbrev as_list : Scanned → List Ended
as_list out = of_tokens out.tokens ++ of_comments out.comments

back : (out : Scanned) → both (as_list out) ≡ out
back out = same_parts _ _ _ _ (tokens_back out.tokens out.comments) (comments_back out.tokens out.comments)

-- what holds of all that is read holds of the tokens and the comments
transfer : (t : List ℕ) (s z : State) (at place : ℕ) (e : Ended) (u v : List ℕ) → ((out : List Ended) → scan t s at out u ≡ scan t z place (add_all e out) v)
    → (out : Scanned) → run add_ended t s at out u ≡ run add_ended t z place (add_ended e out) v
transfer t s z at place e u v h out =
    ap (λ (x : Scanned). run add_ended t s at x u) (sym (back out)) ∙ select_run u t s at (as_list out) ∙ ap selected (h (as_list out)) ∙
    sym (select_run v t z place (add_all e (as_list out)))
    ∙ ap (λ (x : Scanned). run add_ended t z place x v) (sym (keep e (as_list out)) ∙ ap (add_ended e) (back out))

-- ---- the front of a list of which this holds

pub record Fronted (f : ℕ → Bool) (v : List ℕ) : Type 0 where
  pub front : List ℕ
  pub rest : List ℕ
  pub bytes : v ≡ front ++ rest
  pub all : list_all f front ≡ true
  pub ends : NotFirst f rest
  pub count : length front ≡ prefix_len f v

span_of : (f : ℕ → Bool) (v : List ℕ) → Fronted f v
span_of f [] = record { front = []; rest = []; bytes = refl; all = refl; ends = tt; count = refl }
span_of f (b ∷ v) = go (f b) refl (span_of f v)
  where
    go : (c : Bool) → f b ≡ c → Fronted f v → Fronted f (b ∷ v)
    go true e k = let x = k.count in let y = k.all in record {
      front = b ∷ k.front;
      rest = k.rest;
      bytes = ap (λ (l : List ℕ). b ∷ l) k.bytes;
      all =
          rw (e, y);
      ends = k.ends;
      count = rw e (let z : length (b ∷ k.front) ≡ 1 + prefix_len f v = omega arith in z);
    }
    go false e k = record { front = []; rest = b ∷ v; bytes = refl; all = refl; ends = e; count = rw e }

-- ---- where a text goes on

stands_at : (t : List ℕ) (i : ℕ) → i ≤ length t → Stands t i (drop i t)
stands_at t zero h = ([], refl, refl)
stands_at [] (suc n) h = absurd (omega arith)
stands_at (b ∷ t) (suc n) h = let x = stands_at t n (let y : n ≤ length t = omega arith in y) in
    (b ∷ x.0, ap (λ (l : List ℕ). b ∷ l) x.1, (let z = x.2 in let w : length (b ∷ x.0) ≡ suc n = omega arith in w))

behind_it : (t : List ℕ) (i n : ℕ) (w r : List ℕ) → Stands t i (w ++ r) → n ≡ i + length w → drop n t ≡ r
behind_it t i n w r (u, e, l) h =
    ap (drop n) (e ∙ sym (append_assoc u w r)) ∙ drop_at (u ++ w) r n (let x = length-append u w in let y : length (u ++ w) ≡ n = omega arith in y)

-- ---- a word

pub word_read : (t : List ℕ) (s : State) (i : ℕ) (out : Scanned) → i < length t → begins_word s (get_or t i 0) ≡ true
    → run add_ended t s i out (drop i t) ≡ run add_ended t (Between false) (word_from t i).end
    (record { tokens = out.tokens ++ word_from t i ∷ []; comments = out.comments }) (drop (word_from t i).end t)
word_read t (Between first) i out h letter =
    let k = span_of is_word_byte (drop (i + 1) t) in
    let b = get_or t i 0 in
    let w = b ∷ k.front in
    let here : drop i t ≡ w ++ k.rest = drop_more t i 0 h ∙ ap (λ (l : List ℕ). b ∷ l) k.bytes in
    let stands : Stands t i (w ++ k.rest) = subst (Stands t i) here (stands_at t i (let y : i ≤ length t = omega arith in y)) in
    let end : past i w ≡ (word_from t i).end = (let x = past_is w i in let y = k.count in omega arith) in
    let slice : slice_range t i (word_from t i).end ≡ w = ap (slice_range t i) (sym end) ∙ slice_is t i w k.rest stands in
    let whole : is_letter b && list_all is_word_byte k.front ≡ true = both_are _ _ letter k.all in
    ap (run add_ended t (Between first) i out) here
    ∙ transfer t (Between first) (Between false) i (past i w) (kept (Word w) i) (w ++ k.rest) k.rest
    (λ more. read t first (Word w) whole k.rest k.ends i more stands) out
    ∙ ap (λ (v : List ℕ). run add_ended t (Between false) (past i w)
    (record { tokens = out.tokens ++ token (word_kind v) i (past i w) ∷ []; comments = out.comments }) k.rest) (sym slice)
    ∙ ap (λ (n : ℕ). run add_ended t (Between false) n
    (record { tokens = out.tokens ++ token (word_kind (slice_range t i (word_from t i).end)) i n ∷ []; comments = out.comments }) k.rest) end
    ∙ ap (run add_ended t (Between false) (word_from t i).end (record { tokens = out.tokens ++ word_from t i ∷ []; comments = out.comments }))
    (sym (behind_it t i (word_from t i).end w k.rest stands (let x = past_is w i in omega arith)))
  where
    both_are : (a c : Bool) → a ≡ true → c ≡ true → (a && c) ≡ true
    both_are a c e f = rw (e, f)
word_read t _ i out h letter = absurd cc

-- ---- a mark with which no byte goes on

none_after : (m : Mark) (c : ℕ) → is_alone m ≡ true → longer m c ≡ None
none_after OpenBracket c h = refl
none_after CloseBracket c h = refl
none_after OpenParenthesis c h = refl
none_after CloseParenthesis c h = refl
none_after OpenBrace c h = refl
none_after CloseBrace c h = refl
none_after Tilde c h = refl
none_after Question c h = refl
none_after Colon c h = refl
none_after Semicolon c h = refl
none_after Comma c h = refl
none_after _ c h = absurd cc

no_dot : (m : Mark) (c : ℕ) → is_alone m ≡ true → (is_dot m && c == 46) ≡ false
no_dot OpenBracket c h = refl
no_dot CloseBracket c h = refl
no_dot OpenParenthesis c h = refl
no_dot CloseParenthesis c h = refl
no_dot OpenBrace c h = refl
no_dot CloseBrace c h = refl
no_dot Tilde c h = refl
no_dot Question c h = refl
no_dot Colon c h = refl
no_dot Semicolon c h = refl
no_dot Comma c h = refl
no_dot _ c h = absurd cc

longest_alone : (m : Mark) (r : List ℕ) → is_alone m ≡ true → Longest (Sign m) r
longest_alone m [] h = (mark_last m, (λ q. tt))
longest_alone m (c ∷ r) h = (
  longest_mark m c r (none_after m c h) (no_dots m c r (no_dot m c h)),
  (λ q. absurd (let y : is_alone Slash ≡ true = subst (λ (n : Mark). is_alone n ≡ true) q h in cc)),
)

pub mark_read : (t : List ℕ) (s : State) (i : ℕ) (out : Scanned) → i < length t → begins_mark s (get_or t i 0) ≡ true
    → run add_ended t s i out (drop i t) ≡ run add_ended t (Between false) (i + 1) (record_of (out.tokens ++ mark i (i + 1) ∷ []) out.comments) (drop (i + 1) t)
mark_read t (Between first) i out h alone = go (mark_at b) refl alone
  where
    b : ℕ
    b = get_or t i 0

    r : List ℕ
    r = drop (i + 1) t

    go : (o : Option Mark) → mark_at b ≡ o → is_alone_mark o ≡ true
        → run add_ended t (Between first) i out (drop i t) ≡ run add_ended t (Between false) (i + 1)
        (record_of (out.tokens ++ mark i (i + 1) ∷ []) out.comments) (drop (i + 1) t)
    go None e a = absurd cc
    go (Some m) e a =
        let here : drop i t ≡ b ∷ r = drop_more t i 0 h in
        let spelling : mark_text m ≡ b ∷ [] = mark_first b m e in
        let stands : Stands t i (b ∷ r) = subst (Stands t i) here (stands_at t i (let y : i ≤ length t = omega arith in y)) in
        ap (run add_ended t (Between first) i out) here
        ∙ transfer t (Between first) (Between false) i (i + 1) (found k.Mark i (i + 1)) (b ∷ r) r
        (λ more. subst (λ (w : List ℕ). scan t (Between first) i more (w ++ r) ≡ scan t (Between false) (past i w)
        (add_all (found k.Mark i (past i w)) more) r) spelling
        (read t first (Sign m) tt r (longest_alone m r a) i more (subst (λ (w : List ℕ). Stands t i (w ++ r)) (sym spelling) stands))) out
mark_read t _ i out h alone = absurd cc

-- ---- bytes that stay

stays_all : (t : List ℕ) (s : State) (w r : List ℕ) (at : ℕ) (out : Scanned) → list_all (stays s) w ≡ true →
    run add_ended t s at out (w ++ r) ≡ run add_ended t s (past at w) out r
stays_all t s [] r at out h = refl
stays_all t s (b ∷ w) r at out h = go (stays s b) refl h (λ k. stays_all t s w r (at + 1) out k)
  where
    go : (c : Bool) → stays s b ≡ c → (c && list_all (stays s) w) ≡ true →
        (list_all (stays s) w ≡ true → run add_ended t s (at + 1) out (w ++ r) ≡ run add_ended t s (past (at + 1) w) out r)
        → run add_ended t s at out (b ∷ w ++ r) ≡ run add_ended t s (past (at + 1) w) out r
    go true e k f = ap (λ (n : Taken). go_on add_ended n out (λ z (more : Scanned). run add_ended t z (at + 1) more (w ++ r))) (stays_is t s b at e) ∙ f k
    go false e k f = absurd cc

pub stays_read : (t : List ℕ) (s : State) (i n : ℕ) (out : Scanned) → i < length t → stays s (get_or t i 0) ≡ true → n ≡ behind_stays t s i
    → run add_ended t s i out (drop i t) ≡ run add_ended t s n out (drop n t)
stays_read t s i n out h e place =
    let k = span_of (stays s) (drop (i + 1) t) in
    let b = get_or t i 0 in
    let w = b ∷ k.front in
    let here : drop i t ≡ w ++ k.rest = drop_more t i 0 h ∙ ap (λ (l : List ℕ). b ∷ l) k.bytes in
    let stands : Stands t i (w ++ k.rest) = subst (Stands t i) here (stands_at t i (let y : i ≤ length t = omega arith in y)) in
    let end : past i w ≡ n = (let x = past_is w i in let y = k.count in omega arith) in
    ap (run add_ended t s i out) here ∙ stays_all t s w k.rest i out (both_are _ _ e k.all)
    ∙ ap (λ (m : ℕ). run add_ended t s m out k.rest) end ∙ ap (run add_ended t s n out)
    (sym (behind_it t i n w k.rest stands (let x = past_is w i in omega arith)))
  where
    both_are : (a c : Bool) → a ≡ true → c ≡ true → (a && c) ≡ true
    both_are a c e f = rw (e, f)

-- ---- what the loop keeps

pub word_kept : (t : List ℕ) (s : State) (i : ℕ) (out : Scanned) (x : Token) (xs : List Token) → i < length t → begins_word s (get_or t i 0) ≡ true →
    x ≡ word_from t i → xs ≡ out.tokens ++ x ∷ []
    → run add_ended t s i out (drop i t) ≡ run add_ended t (Between false) x.end (record_of xs out.comments) (drop x.end t)
word_kept t s i out x xs h letter e f =
    word_read t s i out h letter ∙ ap (λ (y : Token). run add_ended t (Between false) y.end (record_of (out.tokens ++ y ∷ []) out.comments)
    (drop y.end t)) (sym e)
    ∙ ap (λ (l : List Token). run add_ended t (Between false) x.end (record_of l out.comments) (drop x.end t)) (sym f)

pub mark_kept : (t : List ℕ) (s : State) (i : ℕ) (out : Scanned) (x : Token) (xs : List Token) → i < length t → begins_mark s (get_or t i 0) ≡ true →
    x ≡ mark i (i + 1) → xs ≡ out.tokens ++ x ∷ []
    → run add_ended t s i out (drop i t) ≡ run add_ended t (Between false) (i + 1) (record_of xs out.comments) (drop (i + 1) t)
mark_kept t s i out x xs h alone e f =
    mark_read t s i out h alone ∙ ap (λ (l : List Token). run add_ended t (Between false) (i + 1) (record_of l out.comments) (drop (i + 1) t))
    (ap (λ (y : Token). out.tokens ++ y ∷ []) (sym e) ∙ sym f)

pub later : (m i n : ℕ) → m ≤ i → i < n → m ≤ n
later m i n h k = omega arith

pub next : (i n : ℕ) → i < n → i + 1 ≤ n
next i n h = omega arith
