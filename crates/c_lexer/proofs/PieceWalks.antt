-- What is known along a text is what the pieces before say.
use Rattle.std.proofs.Common.{◌≡◌, ◌+◌, ℕ, Bool, true, List, [], ◌∷◌, ◌++◌, length, reverse, refl, arith, ap, sym, ◌∙◌, subst, length-append}
use Rattle.std.specs.List.{flat_map}
use Rattle.std.proofs.lemmas.List.{reverse-append}
use Rattle.c_lexer.specs.Behind.{each_behind}
use Rattle.c_lexer.specs.Pieces.{Piece, Space, Word, Number, Char, Text, Sign, Directive, Line, Block, spelled, text, Fits, Longest, is_white_back, stands_first, AreGood, Spells, behind, token_of, comment_of, each_at, tokens_of, comments_of}
use Rattle.c_lexer.specs.PieceSteps.{first_behind, first_behind_all, Good, all_of}
use Rattle.c_lexer.proofs.PieceLemmas.{spelled_split}

-- ---- what stands first on its line

-- what these pieces say of the place behind them goes on so with each piece
abbrev GoesAlong : (List Piece → Bool) → Type 0
GoesAlong first = (before : List Piece) (p : Piece) → first (before ++ p ∷ []) ≡ first_behind (first before) p

white_on : (p : Piece) (ps : List Piece) → is_white_back (p ∷ ps) ≡ first_behind (is_white_back ps) p
white_on (Space b) ps = refl
white_on (Word w) ps = refl
white_on (Number w) ps = refl
white_on (Char c) ps = refl
white_on (Text cs) ps = refl
white_on (Sign m) ps = refl
white_on (Directive w) ps = refl
white_on (Line w) ps = refl
white_on (Block w) ps = refl

stands_along : GoesAlong stands_first
stands_along before p = ap is_white_back (reverse-append before (p ∷ [])) ∙ white_on p (reverse before)

first_along : (first : List Piece → Bool) → GoesAlong first → (ps : List Piece) → first_behind_all (first []) ps ≡ first ps
first_along first h [] = refl
first_along first h (p ∷ ps) = ap (λ c. first_behind_all c ps) (sym (h [] p)) ∙ first_along (λ before. first (p ∷ before)) (λ before q. h (p ∷ before) q) ps

pub first_is : (ps : List Piece) → first_behind_all true ps ≡ stands_first ps
first_is ps = first_along stands_first stands_along ps

-- ---- good pieces

abbrev AreGoodBy : (List Piece → Bool) → List Piece → List ℕ → Type 0
AreGoodBy first pieces r = (before : List Piece) (p : Piece) (after : List Piece) → pieces ≡ before ++ p ∷ after →
    Fits (first before) p × Longest p (text after r)

good_along : (first : List Piece → Bool) → GoesAlong first → (ps : List Piece) (r : List ℕ) → AreGoodBy first ps r → Good (first []) ps r
good_along first h [] r g = tt
good_along first h (p ∷ ps) r g =
    let k = g [] p ps refl in (
      k.0,
      k.1,
      subst (λ c. Good c ps r) (h [] p)
          (good_along (λ before. first (p ∷ before)) (λ before q. h (p ∷ before) q) ps r
          (λ before q after e. g (p ∷ before) q after (ap (λ (l : List Piece). p ∷ l) e))),
    )

good_back : (first : List Piece → Bool) → GoesAlong first → (ps : List Piece) (r : List ℕ) → Good (first []) ps r → AreGoodBy first ps r
good_back first h [] r g [] p after e = absurd cc
good_back first h [] r g (x ∷ before) p after e = absurd cc
good_back first h (x ∷ ps) r g [] p after e =
    let y : x ≡ p = cc in
    let z : ps ≡ after = cc in
    (subst (Fits (first [])) y g.0, subst (λ (l : List Piece). Longest p (text l r)) z (subst (λ q. Longest q (text ps r)) y g.1))
good_back first h (x ∷ ps) r g (y ∷ before) p after e =
    let u : x ≡ y = cc in
    let v : ps ≡ before ++ p ∷ after = cc in
    let k = good_back (λ b. first (x ∷ b)) (λ b q. h (x ∷ b) q) ps r (subst (λ c. Good c ps r) (sym (h [] x)) g.2) before p after v in
    (subst (λ q. Fits (first (q ∷ before)) p) u k.0, k.1)

pub good_walked : (ps : List Piece) (r : List ℕ) → AreGood ps r → Good true ps r
good_walked ps r g = good_along stands_first stands_along ps r g

pub walked_good : (ps : List Piece) (r : List ℕ) → Good true ps r → AreGood ps r
walked_good ps r g = good_back stands_first stands_along ps r g

pub spells_walked : (ps : List Piece) (t : List ℕ) → Spells ps t → Good true ps []
spells_walked ps t s = good_walked ps [] s.good

-- ---- what they give

pub length_on : (p : Piece) (r : List ℕ) → length (spelled p r) ≡ length (spelled p []) + length r
length_on p r = ap length (spelled_split p r) ∙ length-append (spelled p []) r

all_along : {X : Type 0} (f : Piece → ℕ → List X) (g : List Piece → Piece → List X) (at : ℕ) →
    ((before : List Piece) (p : Piece) → g before p ≡ f p (at + length (text before [])))
    → (ps : List Piece) → all_of f ps at ≡ flat_map (λ xs. xs) (each_behind g ps)
all_along f g at h [] = refl
all_along {X} f g at h (p ∷ ps) =
    let here : f p at ≡ g [] p = ap (f p) (nothing at) ∙ sym (h [] p) in
    let later = all_along f (λ before q. g (p ∷ before) q) (behind p at)
    (λ before q. h (p ∷ before) q ∙ ap (f q) (on _ _ _ (length_on p (text before [])))) ps in
    ap (λ (xs : List X). xs ++ all_of f ps (behind p at)) here ∙ ap (λ (xs : List X). g [] p ++ xs) later
  where
    nothing : (n : ℕ) → n ≡ n + 0
    nothing n = omega arith

    on : (m n k : ℕ) → m ≡ n + k → at + m ≡ at + n + k
    on m n k e = omega (arith, e)

pub all_is : {X : Type 0} (f : Piece → ℕ → List X) (ps : List Piece) → all_of f ps 0 ≡ each_at f ps
all_is f ps = all_along f (λ before p. f p (length (text before []))) 0 (λ before p. ap (f p) (zero_on (length (text before [])))) ps
  where
    zero_on : (n : ℕ) → n ≡ 0 + n
    zero_on n = omega arith

pub tokens_are : (ps : List Piece) → tokens_of ps ≡ all_of token_of ps 0
tokens_are ps = sym (all_is token_of ps)

pub comments_are : (ps : List Piece) → comments_of ps ≡ all_of comment_of ps 0
comments_are ps = sym (all_is comment_of ps)
