-- The parts of a node, by its syntax.
use Rattle.std.proofs.Common.{◌≡◌, ◌<◌, ◌≤◌, true, ℕ, zero, suc, List, [], ◌∷◌, length, get_or, map, take, drop, length-drop, ◌-◌, ◌+◌, ◌||◌, refl, ap, ◌∙◌, arith}
use Rattle.std.proofs.lemmas.List.{length-map, drop-map}
use Rattle.c_grammar.specs.declared.syntax.Production.{Production}
use Rattle.c_grammar.specs.declared.syntax.Production.TheVariants as p
use Rattle.c_grammar.specs.declared.syntax.Syntax.{Syntax, out-Syntax, fold_out-Syntax}
use Rattle.c_grammar.specs.Parts.{Part, part_of, part_layer, content, form_in, form_by, at, first_at, token_at, is_token, words_of_type, bracket_form, terms_in}
use Rattle.c_grammar.specs.Terms.{Call}
use Rattle.c_grammar.specs.Words.{has_word}
use Rattle.std.specs.List.{list_any}
use Rattle.std.specs.Str.{bytes_eq}
use Rattle.c_grammar.specs.declared.layer.Layer.{Layer}
use Rattle.c_grammar.specs.declared.layer.Layer.TheVariants as L
use Rattle.c_grammar.specs.Weighed.{open_weight}
use Rattle.c_grammar.specs.Weights.{weight, weights}
use Rattle.c_grammar.specs.Views.{AreSmaller}

-- what a syntax writes, by its production and what its parts write
pub open_part : (word : ℕ → List ℕ) (x : Syntax) → part_of word x ≡ part_layer word
    (record { rule = (out-Syntax x).rule; first = (out-Syntax x).first; after = (out-Syntax x).after; parts = map (part_of word) (out-Syntax x).parts })
unfolding part_of
open_part word x = fold_out-Syntax Part (part_layer word) x

pub part-rule : (word : ℕ → List ℕ) (x : Syntax) → (part_of word x).rule ≡ (out-Syntax x).rule
part-rule word x = ap (λ (q : Part). q.rule) (open_part word x)

pub part-first : (word : ℕ → List ℕ) (x : Syntax) → (part_of word x).first ≡ (out-Syntax x).first
part-first word x = ap (λ (q : Part). q.first) (open_part word x)

pub part-after : (word : ℕ → List ℕ) (x : Syntax) → (part_of word x).after ≡ (out-Syntax x).after
part-after word x = ap (λ (q : Part). q.after) (open_part word x)

-- a part of a node writes what its syntax writes
pub at-map : (word : ℕ → List ℕ) (xs : List Syntax) (i : ℕ) (d : Syntax) → i < length xs → at (map (part_of word) xs) i ≡ part_of word (get_or xs i d)
at-map word [] i d h = absurd (omega arith)
at-map word (x ∷ xs) zero d h = refl
at-map word (x ∷ xs) (suc i) d h = at-map word xs i d (omega arith)

pub form-content : (word : ℕ → List ℕ) (rule : Production) (first after : ℕ) (ps : List Part) → form_in (content word rule first after ps) ≡ form_by rule ps
form-content word p.Token first after ps = refl
form-content word _ first after ps = refl

-- the form of an expression, by its production and the parts of its node
pub open_form : (word : ℕ → List ℕ) (x : Syntax) → form_in (part_of word x).content ≡ form_by (out-Syntax x).rule (map (part_of word) (out-Syntax x).parts)
open_form word x = ap (λ (q : Part). form_in q.content) (open_part word x) ∙
    form-content word (out-Syntax x).rule (out-Syntax x).first (out-Syntax x).after (map (part_of word) (out-Syntax x).parts)

pub first-map : (word : ℕ → List ℕ) (xs : List Syntax) (i : ℕ) (d : Syntax) → i < length xs →
    first_at (map (part_of word) xs) i ≡ (out-Syntax (get_or xs i d)).first
first-map word xs i d h = ap (λ (q : Part). q.first) (at-map word xs i d h) ∙ part-first word (get_or xs i d)

pub token-map : (word : ℕ → List ℕ) (xs : List Syntax) (i : ℕ) (d : Syntax) → i < length xs →
    token_at (map (part_of word) xs) i ≡ is_token (out-Syntax (get_or xs i d)).rule
token-map word xs i d h = ap (λ (q : Part). is_token q.rule) (at-map word xs i d h) ∙ ap is_token (part-rule word (get_or xs i d))

-- the first tokens of parts
pub firsts-map : (word : ℕ → List ℕ) (xs : List Syntax) → map (λ (q : Part). q.first) (map (part_of word) xs) ≡ map (λ x. (out-Syntax x).first) xs
firsts-map word [] = refl
firsts-map word (x ∷ xs) = λ i. part-first word x i ∷ firsts-map word xs i

pub take-whole : (n : ℕ) (xs : List Syntax) → length xs ≤ n → take n xs ≡ xs
take-whole zero [] h = refl
take-whole zero (x ∷ xs) h = absurd (omega arith)
take-whole (suc n) [] h = refl
take-whole (suc n) (x ∷ xs) h = ap (λ l. x ∷ l) (take-whole n xs (omega arith))

-- a call
pub brackets : (word : ℕ → List ℕ) (xs : List Syntax) (d e : Syntax) → 3 ≤ length xs → is_token (out-Syntax (get_or xs 1 e)).rule ≡ true
    → bracket_form (map (part_of word) xs) ≡ Call (out-Syntax (get_or xs 0 d)).first (terms_in (map (part_of word) (take (length xs - 2) (drop 2 xs))))
brackets word xs d e h t =
    let whole : take (length xs - 2) (drop 2 xs) ≡ drop 2 xs = take-whole (length xs - 2) (drop 2 xs) (rw length-drop (omega arith)) in
    rw (whole, token-map word xs 1 e (omega arith), t, first-map word xs 0 d (omega arith), drop-map (part_of word) 2 xs) refl

-- ---- weights

weights-cons : (x : Syntax) (xs : List Syntax) → weights (x ∷ xs) ≡ weight x + weights xs
weights-cons x xs = refl

pub weight-at : (xs : List Syntax) (i : ℕ) (d : Syntax) → i < length xs → weight (get_or xs i d) ≤ weights xs
weight-at [] i d h = absurd (omega arith)
weight-at (x ∷ xs) zero d h = rw (weights-cons x xs) (omega arith)
weight-at (x ∷ xs) (suc i) d h = let e : weight (get_or xs i d) ≤ weights xs = weight-at xs i d (omega arith) in rw (weights-cons x xs) (omega (arith, e))

pub weights-take : (n : ℕ) (xs : List Syntax) → weights (take n xs) ≤ weights xs
weights-take zero xs = omega arith
weights-take (suc n) [] = omega arith
weights-take (suc n) (x ∷ xs) = let e : weights (take n xs) ≤ weights xs = weights-take n xs in
    rw (weights-cons x (take n xs), weights-cons x xs) (omega (arith, e))

pub weights-drop : (n : ℕ) (xs : List Syntax) → weights (drop n xs) ≤ weights xs
weights-drop zero xs = omega arith
weights-drop (suc n) [] = omega arith
weights-drop (suc n) (x ∷ xs) = let e : weights (drop n xs) ≤ weights xs = weights-drop n xs in rw (weights-cons x xs) (omega (arith, e))

pub weights-rest : (m n : ℕ) (xs : List Syntax) → weights (take m (drop n xs)) ≤ weights xs
weights-rest m n xs = let e = weights-take m (drop n xs) in let f = weights-drop n xs in omega (arith, e, f)

pub smaller-more : (m n : ℕ) (x : Layer) → AreSmaller m x → m ≤ n → AreSmaller n x
smaller-more m n (L.Constant at) h e = tt
smaller-more m n (L.Variable at) h e = tt
smaller-more m n (L.Cell at i) h e = omega (arith, h)
smaller-more m n (L.Prefix k a) h e = omega (arith, h)
smaller-more m n (L.Suffix k a) h e = omega (arith, h)
smaller-more m n (L.CastTo k a) h e = omega (arith, h)
smaller-more m n (L.CastVoid a) h e = omega (arith, h)
smaller-more m n (L.Binary k a b) h e = (omega (arith, h.0), omega (arith, h.1))
smaller-more m n (L.Choice a b c) h e = (omega (arith, h.0), omega (arith, h.1), omega (arith, h.2))
smaller-more m n (L.Assign k t a) h e = (omega (arith, h.0), omega (arith, h.1))
smaller-more m n (L.Commas a bs) h e = (omega (arith, h.0), omega (arith, h.1))
smaller-more m n (L.Call at xs) h e = omega (arith, h)
smaller-more m n _ h e = tt

-- the form of a part is the form of its node
pub smaller-at : (xs : List Syntax) (i : ℕ) (d : Syntax) (x : Layer) → i < length xs → AreSmaller (weight (get_or xs i d)) x → AreSmaller (weights xs + 1) x
smaller-at xs i d x h s = let e = weight-at xs i d h in smaller-more (weight (get_or xs i d)) (weights xs + 1) x s (omega (arith, e))

pub opened-smaller : (x : Syntax) (y : Layer) → AreSmaller (weights (out-Syntax x).parts + 1) y → AreSmaller (weight x) y
opened-smaller x y s = let e = open_weight x in smaller-more (weights (out-Syntax x).parts + 1) (weight x) y s (omega (arith, e))

pub ruleset layers = (at-map, first-map, token-map, firsts-map, drop-map, length-map, weight-at, weights-rest, smaller-at)

pub ruleset opened = (open_form, opened-smaller)

pub ruleset firsts = (part-first, part-rule)

-- ---- the words of a type

pub words_in : (word : ℕ → List ℕ) (x : Syntax) → (part_of word x).firsts ≡ words_of_type (out-Syntax x).rule
    (map (λ y. (out-Syntax y).first) (out-Syntax x).parts)
words_in word x = ap (λ (q : Part). q.firsts) (open_part word x) ∙ ap (words_of_type (out-Syntax x).rule) (firsts-map word (out-Syntax x).parts)

pub no_words : (rule : Production) (words : List ℕ) → (rule ≡ p.NumberType → ⊥) → words_of_type rule words ≡ []
no_words p.NumberType words h = absurd (h refl)
no_words _ words h = refl

pub has_words : (word : ℕ → List ℕ) (xs : List Syntax) (w : List ℕ) → has_word word (map (λ x. (out-Syntax x).first) xs) w ≡ list_any
    (λ x. bytes_eq (word (out-Syntax x).first) w) xs
has_words word [] w = refl
has_words word (x ∷ xs) w = λ i. bytes_eq (word (out-Syntax x).first) w || has_words word xs w i
