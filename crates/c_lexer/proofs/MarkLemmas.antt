-- How marks grow by a byte.
use Rattle.std.proofs.Common.{◌≡◌, ◌<◌, ◌≤◌, ℕ, Bool, true, false, ◌&&◌, ◌==◌, cond, List, [], ◌∷◌, ◌++◌, length, Option, Some, None, refl, arith, ap, sym, ◌∙◌, append_assoc, length-append}
use Rattle.std.proofs.lemmas.Bool.{eqb-true}
use Rattle.std.proofs.lemmas.List.{append-nil}
use Rattle.c_lexer.specs.declared.mark.Mark.{Mark}
use Rattle.c_lexer.specs.declared.mark.Mark.TheVariants.{OpenBracket, CloseBracket, OpenParenthesis, CloseParenthesis, OpenBrace, CloseBrace, Dot, Arrow, PlusPlus, MinusMinus, Ampersand, Star, Plus, Minus, Tilde, Exclamation, Slash, Percent, ShiftLeft, ShiftRight, Less, Greater, LessEquals, GreaterEquals, EqualsEquals, ExclamationEquals, Caret, Bar, AmpersandAmpersand, BarBar, Question, Colon, Semicolon, Ellipsis, Equals, StarEquals, SlashEquals, PercentEquals, PlusEquals, MinusEquals, ShiftLeftEquals, ShiftRightEquals, AmpersandEquals, CaretEquals, BarEquals, Comma}
use Rattle.c_lexer.specs.Marks.{mark_text}
use Rattle.c_lexer.specs.MarkSteps.{mark_at, longer, is_dot, grown, grown_mark}
use Rattle.c_lexer.specs.Pieces.{Begins}

one_more : (b d : ℕ) (p : Mark) (o : Option Mark) (n : Mark) (w : List ℕ) → mark_text p ≡ w ++ d ∷ [] → ((o ≡ Some n) → mark_text n ≡ w ++ b ∷ []) →
    cond (b == d) (Some p) o ≡ Some n → mark_text n ≡ w ++ b ∷ []
one_more b d p o n w e f h = go (b == d) refl h
  where
    go : (c : Bool) → (b == d) ≡ c → cond c (Some p) o ≡ Some n → mark_text n ≡ w ++ b ∷ []
    go true q g = let x : p ≡ n = cc in let y : b ≡ d = eqb-true b d q in ap mark_text (sym x) ∙ e ∙ ap (λ (i : ℕ). w ++ i ∷ []) (sym y)
    go false q g = f g

-- a longer mark is the mark with that byte behind it
pub longer_text : (m n : Mark) (b : ℕ) → longer m b ≡ Some n → mark_text n ≡ mark_text m ++ b ∷ []
longer_text Ampersand n b h = one_more b 38 AmpersandAmpersand _ n (mark_text Ampersand) refl
    (one_more b 61 AmpersandEquals _ n (mark_text Ampersand) refl (λ g. absurd cc)) h
longer_text Star n b h = one_more b 61 StarEquals _ n (mark_text Star) refl (λ g. absurd cc) h
longer_text Plus n b h = one_more b 43 PlusPlus _ n (mark_text Plus) refl (one_more b 61 PlusEquals _ n (mark_text Plus) refl (λ g. absurd cc)) h
longer_text Minus n b h = one_more b 62 Arrow _ n (mark_text Minus) refl
    (one_more b 45 MinusMinus _ n (mark_text Minus) refl (one_more b 61 MinusEquals _ n (mark_text Minus) refl (λ g. absurd cc))) h
longer_text Exclamation n b h = one_more b 61 ExclamationEquals _ n (mark_text Exclamation) refl (λ g. absurd cc) h
longer_text Slash n b h = one_more b 61 SlashEquals _ n (mark_text Slash) refl (λ g. absurd cc) h
longer_text Percent n b h = one_more b 61 PercentEquals _ n (mark_text Percent) refl (λ g. absurd cc) h
longer_text ShiftLeft n b h = one_more b 61 ShiftLeftEquals _ n (mark_text ShiftLeft) refl (λ g. absurd cc) h
longer_text ShiftRight n b h = one_more b 61 ShiftRightEquals _ n (mark_text ShiftRight) refl (λ g. absurd cc) h
longer_text Less n b h = one_more b 60 ShiftLeft _ n (mark_text Less) refl (one_more b 61 LessEquals _ n (mark_text Less) refl (λ g. absurd cc)) h
longer_text Greater n b h = one_more b 62 ShiftRight _ n (mark_text Greater) refl (one_more b 61 GreaterEquals _ n (mark_text Greater) refl (λ g. absurd cc)) h
longer_text Caret n b h = one_more b 61 CaretEquals _ n (mark_text Caret) refl (λ g. absurd cc) h
longer_text Bar n b h = one_more b 124 BarBar _ n (mark_text Bar) refl (one_more b 61 BarEquals _ n (mark_text Bar) refl (λ g. absurd cc)) h
longer_text Equals n b h = one_more b 61 EqualsEquals _ n (mark_text Equals) refl (λ g. absurd cc) h
longer_text _ n b h = absurd cc

-- a mark of one byte
pub mark_first : (b : ℕ) (m : Mark) → mark_at b ≡ Some m → mark_text m ≡ b ∷ []
mark_first b m h =
    one_more b 91 OpenBracket _ m [] refl
    (one_more b 93 CloseBracket _ m [] refl
    (one_more b 40 OpenParenthesis _ m [] refl (one_more b 41 CloseParenthesis _ m [] refl
    (one_more b 123 OpenBrace _ m [] refl
    (one_more b 125 CloseBrace _ m [] refl
    (one_more b 46 Dot _ m [] refl (one_more b 38 Ampersand _ m [] refl
    (one_more b 42 Star _ m [] refl (one_more b 43 Plus _ m [] refl
    (one_more b 45 Minus _ m [] refl
    (one_more b 126 Tilde _ m [] refl
    (one_more b 33 Exclamation _ m [] refl
    (one_more b 47 Slash _ m [] refl
    (one_more b 37 Percent _ m [] refl
    (one_more b 60 Less _ m [] refl (one_more b 62 Greater _ m [] refl
    (one_more b 94 Caret _ m [] refl
    (one_more b 124 Bar _ m [] refl (one_more b 63 Question _ m [] refl
    (one_more b 58 Colon _ m [] refl
    (one_more b 59 Semicolon _ m [] refl (one_more b 61 Equals _ m [] refl (one_more b 44 Comma _ m [] refl (λ g. absurd cc)))))))))))))))))))))))) h

pub none_longer : (m : Mark) (b : ℕ) (r : List ℕ) → ((n : Mark) → Begins (mark_text n) (mark_text m ++ b ∷ r) →
    length (mark_text n) ≤ length (mark_text m)) → longer m b ≡ None
none_longer m b r h = go (longer m b) refl
  where
    go : (o : Option Mark) → longer m b ≡ o → o ≡ None
    go None e = refl
    go (Some n) e =
        let t = longer_text m n b e in
        let k = h n (r, sym (append_assoc (mark_text m) (b ∷ []) r) ∙ ap (λ (l : List ℕ). l ++ r) (sym t)) in
        let q = ap length t ∙ length-append (mark_text m) (b ∷ []) in
        absurd (omega arith)

pub longer_newline : (m : Mark) → longer m 10 ≡ None
longer_newline Plus = refl
longer_newline _ = refl

-- no byte makes a mark of two dots, but a third dot does
abbrev pub is_ellipsis : Mark → Bool
is_ellipsis Ellipsis = true
is_ellipsis _ = false

-- each mark but `...` grows from its bytes
pub grows : (m : Mark) → is_ellipsis m ≡ false → grown_mark (mark_text m) ≡ Some m
grows OpenBracket h = refl
grows CloseBracket h = refl
grows OpenParenthesis h = refl
grows CloseParenthesis h = refl
grows OpenBrace h = refl
grows CloseBrace h = refl
grows Dot h = refl
grows Arrow h = refl
grows PlusPlus h = refl
grows MinusMinus h = refl
grows Ampersand h = refl
grows Star h = refl
grows Plus h = refl
grows Minus h = refl
grows Tilde h = refl
grows Exclamation h = refl
grows Slash h = refl
grows Percent h = refl
grows ShiftLeft h = refl
grows ShiftRight h = refl
grows Less h = refl
grows Greater h = refl
grows LessEquals h = refl
grows GreaterEquals h = refl
grows EqualsEquals h = refl
grows ExclamationEquals h = refl
grows Caret h = refl
grows Bar h = refl
grows AmpersandAmpersand h = refl
grows BarBar h = refl
grows Question h = refl
grows Colon h = refl
grows Semicolon h = refl
grows Ellipsis h = absurd cc
grows Equals h = refl
grows StarEquals h = refl
grows SlashEquals h = refl
grows PercentEquals h = refl
grows PlusEquals h = refl
grows MinusEquals h = refl
grows ShiftLeftEquals h = refl
grows ShiftRightEquals h = refl
grows AmpersandEquals h = refl
grows CaretEquals h = refl
grows BarEquals h = refl
grows Comma h = refl

grown_more : (o : Option Mark) (u v : List ℕ) → grown o (u ++ v) ≡ grown (grown o u) v
grown_more None u v = refl
grown_more (Some m) [] v = refl
grown_more (Some m) (b ∷ u) v = grown_more (longer m b) u v

grows_more : (m : Mark) (u v : List ℕ) → grown_mark u ≡ Some m → grown_mark (u ++ v) ≡ grown (Some m) v
grows_more m [] v h = absurd cc
grows_more m (b ∷ u) v h = grown_more (mark_at b) u v ∙ ap (λ (o : Option Mark). grown o v) h

split_at : (u n : List ℕ) (b : ℕ) (r q : List ℕ) → u ++ b ∷ r ≡ n ++ q → length u < length n → (w : List ℕ) × (n ≡ u ++ b ∷ w)
split_at u [] b r q e h = absurd (omega arith)
split_at [] (x ∷ n) b r q e h = let y : x ≡ b = cc in (n, ap (λ (i : ℕ). i ∷ n) y)
split_at (y ∷ u) (x ∷ n) b r q e h =
    let t : u ++ b ∷ r ≡ n ++ q = cc in
    let z : x ≡ y = cc in
    let k = split_at u n b r q t (omega arith) in
    (k.0, ap (λ (i : ℕ). i ∷ n) z ∙ ap (λ (l : List ℕ). y ∷ l) k.1)

le_or : (n m : ℕ) → (m < n → ⊥) → n ≤ m
le_or n m h = omega arith

none_some : (n : Mark) → None ≡ Some n → ⊥
none_some n h = cc

-- where the byte makes no longer mark, and no ellipsis begins, none that is longer begins there
no_longer : (m : Mark) (b : ℕ) (r : List ℕ) → is_ellipsis m ≡ false → longer m b ≡ None → (n : Mark) → is_ellipsis n ≡ false →
    Begins (mark_text n) (mark_text m ++ b ∷ r) → length (mark_text n) ≤ length (mark_text m)
no_longer m b r a h n c (q, e) = le_or (length (mark_text n)) (length (mark_text m)) (λ lt.
    let k = split_at (mark_text m) (mark_text n) b r q e lt in
    none_some n (sym (sym (grows n c) ∙ ap grown_mark k.1 ∙ grows_more m (mark_text m) (b ∷ k.0) (grows m a) ∙ ap (λ (o : Option Mark). grown o k.0) h)))

-- three dots begin here
abbrev pub dots_begin : List ℕ → Bool
dots_begin [] = false
dots_begin (a ∷ []) = false
dots_begin (a ∷ b ∷ []) = false
dots_begin (a ∷ b ∷ c ∷ _) = a == 46 && b == 46 && c == 46

dots_from : (v : List ℕ) → Begins (mark_text Ellipsis) v → dots_begin v ≡ true
dots_from v (q, e) = ap dots_begin e

-- so none begins that is longer than this mark
pub longest_mark : (m : Mark) (b : ℕ) (r : List ℕ) → longer m b ≡ None → (is_ellipsis m ≡ false → dots_begin (mark_text m ++ b ∷ r) ≡ false) →
    (n : Mark) → Begins (mark_text n) (mark_text m ++ b ∷ r) → length (mark_text n) ≤ length (mark_text m)
longest_mark m b r h d n i = other (is_ellipsis m) refl (is_ellipsis n) refl
  where
    at_most_three : (n : Mark) → length (mark_text n) ≤ 3
    at_most_three Plus = omega arith
    at_most_three _ = omega arith

    three : (m : Mark) → is_ellipsis m ≡ true → mark_text m ≡ mark_text Ellipsis
    three Ellipsis h = refl
    three _ h = absurd cc

    other : (x : Bool) → is_ellipsis m ≡ x → (y : Bool) → is_ellipsis n ≡ y → length (mark_text n) ≤ length (mark_text m)
    other true e y f = let k = at_most_three n in let l = ap length (three m e) in omega arith
    other false e true f =
        let k = dots_from (mark_text m ++ b ∷ r) (i.0, i.1 ∙ ap (λ (w : List ℕ). w ++ i.0) (three n f)) in
        absurd (let z : true ≡ false = sym k ∙ d e in cc)
    other false e false f = no_longer m b r e h n f i

-- behind a mark none begins, unless a dot follows one
pub no_dots : (m : Mark) (b : ℕ) (r : List ℕ) → (is_dot m && b == 46) ≡ false → is_ellipsis m ≡ false → dots_begin (mark_text m ++ b ∷ r) ≡ false
no_dots Dot b [] h e = refl
no_dots Dot b (c ∷ r) h e = rw h
no_dots Ellipsis b r h e = absurd cc
no_dots _ b [] h e = refl
no_dots _ b (c ∷ r) h e = refl

-- none is longer at the end of the text
pub mark_last : (m n : Mark) → Begins (mark_text n) (mark_text m ++ []) → length (mark_text n) ≤ length (mark_text m)
mark_last m n (q, e) = let x = ap length (sym (append-nil (mark_text m)) ∙ e) ∙ length-append (mark_text n) q in omega arith
