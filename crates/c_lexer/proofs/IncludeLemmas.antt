-- What the code finds of a line behind its `#` is whether it is a directive.
use Rattle.std.proofs.Common.{◌≡◌, ◌≤◌, ℕ, zero, suc, Bool, true, false, cond, not, ◌&&◌, ◌||◌, ◌==◌, List, [], ◌∷◌, length, Option, Some, None, refl, ap, sym, ◌∙◌, subst, arith}
use Rattle.std.specs.Prelude.{is_some, codes, Decides}
use Rattle.std.specs.Option.{option_map_or}
use Rattle.std.proofs.lemmas.Bool.{eqb-true, or_parts}
use Rattle.c_lexer.specs.Includes.{begins_with, behind_comment, has_open, is_quote, begins_comment, Leaves, nothing, line, quote, unended, comment, other, behind_header, ClosesComments, named, nameless}
use Rattle.c_lexer.specs.IncludeSteps.{leaves_open, is_directive}
use Rattle.c_lexer.specs.Pieces.{is_include, IsDirective}
use Rattle.c_lexer.proofs.OpenComments.{from_quote, past_comment, past_it, quote_here, shorter, rest, leaves_rest}
use Rattle.c_lexer.proofs.Truths.{both_true}

-- ---- what is left

abbrev chosen : Bool → Bool → Bool → ℕ → ℕ → List ℕ → List ℕ
chosen x y q b c u = cond x [] (cond y (cond (is_some (behind_comment u)) (past_comment u) (b ∷ c ∷ u)) (cond q (b ∷ c ∷ u) (from_quote (c ∷ u))))

passed : (b : ℕ) (w : List ℕ) → begins_comment (b ∷ w) ≡ false → is_quote b ≡ false → from_quote (b ∷ w) ≡ from_quote w
passed b [] h q = ap (λ x. cond x (b ∷ []) []) q
passed b (c ∷ u) h q =
    let n = or_parts (begins_with (codes "//") (b ∷ c ∷ u)) (begins_with (codes "/*") (b ∷ c ∷ u)) h in
    (λ i. chosen (n.0 i) (n.1 i) (q i) b c u)

no_slash : (b : ℕ) → is_quote b ≡ true → (47 == b) ≡ false
no_slash b q = go (47 == b) refl
  where
    go : (x : Bool) → (47 == b) ≡ x → (47 == b) ≡ false
    go true e = absurd (let y : is_quote 47 ≡ true = ap is_quote (eqb-true 47 b e) ∙ q in cc)
    go false e = e

left_is : {w v : List ℕ} → Leaves w v → from_quote w ≡ v
left_is nothing = refl
left_is (line w) = refl
left_is (quote b w q) = quote_here b w (no_slash b q) q
left_is (unended w e) = ap (λ o. cond (is_some o) (past_comment w) (47 ∷ 42 ∷ w)) e
left_is (comment w behind v e l) = ap (λ o. cond (is_some o) (past_comment w) (47 ∷ 42 ∷ w)) e ∙ past_it w behind e ∙ left_is l
left_is (other b w v h q l) = passed b w h q ∙ left_is l

-- ---- something is left of all bytes

both_bytes : (a d b c : ℕ) → (a == b && (d == c && true)) ≡ true → (a ≡ b) × (d ≡ c)
both_bytes a d b c h =
    let k = both_true (a == b) (d == c && true) h in
    (eqb-true a b (k.0), eqb-true d c (both_true (d == c) true (k.1)).0)

block_leaves : (u : List ℕ) → ((v : List ℕ) → length v ≤ length u → Leaves v (from_quote v)) → Leaves (47 ∷ 42 ∷ u) (from_quote (47 ∷ 42 ∷ u))
block_leaves u f = go (behind_comment u) refl
  where
    go : (o : Option (List ℕ)) → behind_comment u ≡ o → Leaves (47 ∷ 42 ∷ u) (cond (is_some o) (past_comment u) (47 ∷ 42 ∷ u))
    go None e = unended u e
    go (Some r) e = subst (Leaves (47 ∷ 42 ∷ u)) (sym (past_it u r e)) (comment u r (from_quote r) e (f r (shorter u r e)))

abbrev LeavesAny : ℕ → Type 0
LeavesAny n = (v : List ℕ) → length v ≤ n → Leaves v (from_quote v)

one_leaves : (b : ℕ) (x : Bool) → is_quote b ≡ x → begins_comment (b ∷ []) ≡ false → Leaves (b ∷ []) (cond x (b ∷ []) [])
one_leaves b true q h = quote b [] q
one_leaves b false q h = other b [] [] h q nothing

no_second : (b : ℕ) → begins_comment (b ∷ []) ≡ false
no_second b = go (47 == b)
  where
    go : (x : Bool) → ((x && false) || (x && false)) ≡ false
    go true = refl
    go false = refl

two_leave : (n b c : ℕ) (u : List ℕ) → LeavesAny n → suc (length u) ≤ n → (x y q : Bool)
    → begins_with (codes "//") (b ∷ c ∷ u) ≡ x → begins_with (codes "/*") (b ∷ c ∷ u) ≡ y → is_quote b ≡ q
    → Leaves (b ∷ c ∷ u) (chosen x y q b c u)
two_leave n b c u f h true y q e g k =
    let s = both_bytes 47 47 b c e in
    subst (λ (i : ℕ). Leaves (i ∷ c ∷ u) []) (s.0) (subst (λ (i : ℕ). Leaves (47 ∷ i ∷ u) []) (s.1) (line u))
two_leave n b c u f h false true q e g k =
    let s = both_bytes 47 42 b c g in
    subst (λ (i : ℕ). Leaves (i ∷ c ∷ u) (chosen false true q i c u)) (s.0)
    (subst (λ (i : ℕ). Leaves (47 ∷ i ∷ u) (chosen false true q 47 i u)) (s.1) (block_leaves u (λ v i. f v (omega arith))))
two_leave n b c u f h false false true e g k = quote b (c ∷ u) k
two_leave n b c u f h false false false e g k = other b (c ∷ u) (from_quote (c ∷ u)) (λ i. e i || g i) k (f (c ∷ u) (omega arith))

leaves_any : (n : ℕ) → LeavesAny n
leaves_any n [] h = nothing
leaves_any zero (b ∷ w) h = absurd (omega arith)
leaves_any (suc n) (b ∷ []) h = one_leaves b (is_quote b) refl (no_second b)
leaves_any (suc n) (b ∷ c ∷ u) h = two_leave n b c u (leaves_any n) (omega arith) _ _ _ refl refl refl

pub leaves : (w : List ℕ) → Leaves w (from_quote w)
leaves w = leaves_any (length w) w (omega arith)

-- ---- whole lines

pub closed_rest : {w : List ℕ} → ClosesComments w → rest false (from_quote w) ≡ false
closed_rest (named w name behind left l h k c) =
    ap (rest false) (left_is l) ∙ ap (λ (o : Option (List ℕ)). has_open (option_map_or from_quote o name)) h ∙ ap has_open (left_is k) ∙ c
closed_rest (nameless w left l h c) = ap (rest false) (left_is l) ∙ ap (λ (o : Option (List ℕ)). has_open (option_map_or from_quote o left)) h ∙ c

pub rest_closed : (w : List ℕ) → rest false (from_quote w) ≡ false → ClosesComments w
rest_closed w = go (behind_header (from_quote w)) refl
  where
    go : (o : Option (List ℕ)) → behind_header (from_quote w) ≡ o → has_open (option_map_or from_quote o (from_quote w)) ≡ false → ClosesComments w
    go None e h = nameless w (from_quote w) (leaves w) e h
    go (Some r) e h = named w (from_quote w) r (from_quote r) (leaves w) e (leaves r) h

pub directive_decided : (w : List ℕ) → Decides (is_directive w) (IsDirective w)
directive_decided w = (into (is_include w) refl (leaves_open w) refl, out)
  where
    into : (x : Bool) → is_include w ≡ x → (y : Bool) → leaves_open w ≡ y → (x && not y) ≡ true → IsDirective w
    into true e true g h = cc
    into true e false g h = (e, rest_closed w (sym (leaves_rest w) ∙ g))
    into false e y g h = cc

    out : IsDirective w → is_directive w ≡ true
    out (i, c) = (λ j. i j && not ((leaves_rest w ∙ closed_rest c) j))
