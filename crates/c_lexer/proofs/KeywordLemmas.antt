-- Only the keywords that begin with a word's first byte can be that word.
use Rattle.std.proofs.Common.{◌≡◌, ℕ, Bool, true, false, ◌&&◌, ◌||◌, ◌==◌, cond, List, [], ◌∷◌, refl, ap, sym, ◌∙◌, subst, arith, Some}
use Rattle.std.specs.Prelude.{codes, slice_get}
use Rattle.std.specs.Str.{bytes_eq}
use Rattle.std.proofs.lemmas.Bool.{eqb-true}
use Rattle.std.proofs.lemmas.Bool.Decides.{nat_tests}
use Rattle.c_types.specs.Words.{is_keyword}
use Rattle.c_lexer.specs.Keywords.{is_marked, is_early}

any1 : (x0 : Bool) → x0 ≡ (x0 || false)
any1 true = refl
any1 false = refl

any2 : (x0 x1 : Bool) → (x0 || (x1)) ≡ (x0 || (x1 || false))
any2 x0 x1 = ap (λ (y : Bool). x0 || y) (any1 x1)

any3 : (x0 x1 x2 : Bool) → (x0 || (x1 || (x2))) ≡ (x0 || (x1 || (x2 || false)))
any3 x0 x1 x2 = ap (λ (y : Bool). x0 || y) (any2 x1 x2)

any4 : (x0 x1 x2 x3 : Bool) → (x0 || (x1 || (x2 || (x3)))) ≡ (x0 || (x1 || (x2 || (x3 || false))))
any4 x0 x1 x2 x3 = ap (λ (y : Bool). x0 || y) (any3 x1 x2 x3)

any5 : (x0 x1 x2 x3 x4 : Bool) → (x0 || (x1 || (x2 || (x3 || (x4))))) ≡ (x0 || (x1 || (x2 || (x3 || (x4 || false)))))
any5 x0 x1 x2 x3 x4 = ap (λ (y : Bool). x0 || y) (any4 x1 x2 x3 x4)

any6 : (x0 x1 x2 x3 x4 x5 : Bool) → (x0 || (x1 || (x2 || (x3 || (x4 || (x5)))))) ≡ (x0 || (x1 || (x2 || (x3 || (x4 || (x5 || false))))))
any6 x0 x1 x2 x3 x4 x5 = ap (λ (y : Bool). x0 || y) (any5 x1 x2 x3 x4 x5)

any7 : (x0 x1 x2 x3 x4 x5 x6 : Bool) → (x0 || (x1 || (x2 || (x3 || (x4 || (x5 || (x6))))))) ≡ (x0 || (x1 || (x2 || (x3 || (x4 || (x5 || (x6 || false)))))))
any7 x0 x1 x2 x3 x4 x5 x6 = ap (λ (y : Bool). x0 || y) (any6 x1 x2 x3 x4 x5 x6)

any8 : (x0 x1 x2 x3 x4 x5 x6 x7 : Bool) → (x0 || (x1 || (x2 || (x3 || (x4 || (x5 || (x6 || (x7)))))))) ≡ (x0 ||
    (x1 || (x2 || (x3 || (x4 || (x5 || (x6 || (x7 || false))))))))
any8 x0 x1 x2 x3 x4 x5 x6 x7 = ap (λ (y : Bool). x0 || y) (any7 x1 x2 x3 x4 x5 x6 x7)

any9 : (x0 x1 x2 x3 x4 x5 x6 x7 x8 : Bool) → (x0 || (x1 || (x2 || (x3 || (x4 || (x5 || (x6 || (x7 || (x8))))))))) ≡ (x0 ||
    (x1 || (x2 || (x3 || (x4 || (x5 || (x6 || (x7 || (x8 || false)))))))))
any9 x0 x1 x2 x3 x4 x5 x6 x7 x8 = ap (λ (y : Bool). x0 || y) (any8 x1 x2 x3 x4 x5 x6 x7 x8)

any10 : (x0 x1 x2 x3 x4 x5 x6 x7 x8 x9 : Bool) → (x0 || (x1 || (x2 || (x3 || (x4 || (x5 || (x6 || (x7 || (x8 || (x9)))))))))) ≡ (x0 ||
    (x1 || (x2 || (x3 || (x4 || (x5 || (x6 || (x7 || (x8 || (x9 || false))))))))))
any10 x0 x1 x2 x3 x4 x5 x6 x7 x8 x9 = ap (λ (y : Bool). x0 || y) (any9 x1 x2 x3 x4 x5 x6 x7 x8 x9)

either : (c x y z : Bool) → (c ≡ true → x ≡ z) → (c ≡ false → y ≡ z) → cond c x y ≡ z
either true x y z h k = h refl
either false x y z h k = k refl

both : (c x z : Bool) → (c ≡ true → x ≡ z) → (c ≡ false → false ≡ z) → (c && x) ≡ z
both true x z h k = h refl
both false x z h k = k refl

there : (b n : ℕ) (P : ℕ → Type 0) → (b == n) ≡ true → P n → P b
there b n P e h = subst P (sym (eqb-true b n e)) h

flip : (b n : ℕ) → (b == n) ≡ false → (n == b) ≡ false
flip b n h = grind (arith, nat_tests)

by_first : (b : ℕ) (v : List ℕ) → is_early b (b ∷ v) ≡ is_keyword (b ∷ v)
by_first b v =
    (either (b == 97) _ _ _ (λ e. there b 97 (λ i. (bytes_eq (codes "auto") (i ∷ v)) ≡ is_keyword (i ∷ v)) e (any1 (bytes_eq (codes "auto") (97 ∷ v))))
    (λ n0. (either (b == 98) _ _ _ (λ e. there b 98 (λ i. (bytes_eq (codes "break") (i ∷ v)) ≡ is_keyword (i ∷ v)) e (any1 (bytes_eq (codes "break") (98 ∷ v))))
    (λ n1. (either (b == 99) _ _ _ (λ e. there b 99
    (λ i. (bytes_eq (codes "case") (i ∷ v) ||
    (bytes_eq (codes "char") (i ∷ v) || (bytes_eq (codes "const") (i ∷ v) || bytes_eq (codes "continue") (i ∷ v)))) ≡ is_keyword (i ∷ v)) e
    (any4 (bytes_eq (codes "case") (99 ∷ v)) (bytes_eq (codes "char") (99 ∷ v)) (bytes_eq (codes "const") (99 ∷ v)) (bytes_eq (codes "continue") (99 ∷ v))))
    (λ n2. (either (b == 100) _ _ _ (λ e. there b 100
    (λ i. (bytes_eq (codes "default") (i ∷ v) || (bytes_eq (codes "do") (i ∷ v) || bytes_eq (codes "double") (i ∷ v))) ≡ is_keyword (i ∷ v)) e
    (any3 (bytes_eq (codes "default") (100 ∷ v)) (bytes_eq (codes "do") (100 ∷ v)) (bytes_eq (codes "double") (100 ∷ v))))
    (λ n3. (either (b == 101) _ _ _ (λ e. there b 101
    (λ i. (bytes_eq (codes "else") (i ∷ v) || (bytes_eq (codes "enum") (i ∷ v) || bytes_eq (codes "extern") (i ∷ v))) ≡ is_keyword (i ∷ v)) e
    (any3 (bytes_eq (codes "else") (101 ∷ v)) (bytes_eq (codes "enum") (101 ∷ v)) (bytes_eq (codes "extern") (101 ∷ v))))
    (λ n4. (either (b == 102) _ _ _ (λ e. there b 102 (λ i. (bytes_eq (codes "float") (i ∷ v) || bytes_eq (codes "for") (i ∷ v)) ≡ is_keyword (i ∷ v))
    e (any2 (bytes_eq (codes "float") (102 ∷ v)) (bytes_eq (codes "for") (102 ∷ v))))
    (λ n5. (either (b == 103) _ _ _ (λ e. there b 103 (λ i. (bytes_eq (codes "goto") (i ∷ v)) ≡ is_keyword (i ∷ v)) e
    (any1 (bytes_eq (codes "goto") (103 ∷ v))))
    (λ n6. (either (b == 105) _ _ _ (λ e. there b 105
    (λ i. (bytes_eq (codes "if") (i ∷ v) || (bytes_eq (codes "inline") (i ∷ v) || bytes_eq (codes "int") (i ∷ v))) ≡ is_keyword (i ∷ v)) e
    (any3 (bytes_eq (codes "if") (105 ∷ v)) (bytes_eq (codes "inline") (105 ∷ v)) (bytes_eq (codes "int") (105 ∷ v))))
    (λ n7. (either (b == 108) _ _ _ (λ e. there b 108 (λ i. (bytes_eq (codes "long") (i ∷ v)) ≡ is_keyword (i ∷ v)) e
    (any1 (bytes_eq (codes "long") (108 ∷ v))))
    (λ n8. (either (b == 114) _ _ _ (λ e. there b 114
    (λ i. (bytes_eq (codes "register") (i ∷ v) || (bytes_eq (codes "restrict") (i ∷ v) || bytes_eq (codes "return") (i ∷ v))) ≡ is_keyword
    (i ∷ v)) e (any3 (bytes_eq (codes "register") (114 ∷ v)) (bytes_eq (codes "restrict") (114 ∷ v)) (bytes_eq (codes "return") (114 ∷ v))))
    (λ n9. (either (b == 115) _ _ _ (λ e. there b 115
    (λ i. (bytes_eq (codes "short") (i ∷ v) ||
    (bytes_eq (codes "signed") (i ∷ v) ||
    (bytes_eq (codes "sizeof") (i ∷ v) ||
    (bytes_eq (codes "static") (i ∷ v) || (bytes_eq (codes "struct") (i ∷ v) || bytes_eq (codes "switch") (i ∷ v)))))) ≡ is_keyword (i ∷ v)) e
    (any6 (bytes_eq (codes "short") (115 ∷ v)) (bytes_eq (codes "signed") (115 ∷ v)) (bytes_eq (codes "sizeof") (115 ∷ v))
    (bytes_eq (codes "static") (115 ∷ v)) (bytes_eq (codes "struct") (115 ∷ v)) (bytes_eq (codes "switch") (115 ∷ v))))
    (λ n10. (either (b == 116) _ _ _ (λ e. there b 116 (λ i. (bytes_eq (codes "typedef") (i ∷ v)) ≡ is_keyword (i ∷ v)) e
    (any1 (bytes_eq (codes "typedef") (116 ∷ v))))
    (λ n11. (either (b == 117) _ _ _ (λ e. there b 117 (λ i. (bytes_eq (codes "union") (i ∷ v) || bytes_eq (codes "unsigned") (i ∷ v)) ≡ is_keyword
    (i ∷ v)) e (any2 (bytes_eq (codes "union") (117 ∷ v)) (bytes_eq (codes "unsigned") (117 ∷ v))))
    (λ n12. (either (b == 118) _ _ _ (λ e. there b 118 (λ i. (bytes_eq (codes "void") (i ∷ v) || bytes_eq (codes "volatile") (i ∷ v)) ≡ is_keyword
    (i ∷ v)) e (any2 (bytes_eq (codes "void") (118 ∷ v)) (bytes_eq (codes "volatile") (118 ∷ v))))
    (λ n13. (either (b == 119) _ _ _ (λ e. there b 119 (λ i. (bytes_eq (codes "while") (i ∷ v)) ≡ is_keyword (i ∷ v)) e
    (any1 (bytes_eq (codes "while") (119 ∷ v))))
    (λ n14. both (b == 95) _ _ (λ e. there b 95 (λ i. is_marked (i ∷ v) ≡ is_keyword (i ∷ v)) e
    (any10 (bytes_eq (codes "_Alignas") (95 ∷ v)) (bytes_eq (codes "_Alignof") (95 ∷ v)) (bytes_eq (codes "_Atomic") (95 ∷ v))
    (bytes_eq (codes "_Bool") (95 ∷ v)) (bytes_eq (codes "_Complex") (95 ∷ v)) (bytes_eq (codes "_Generic") (95 ∷ v))
    (bytes_eq (codes "_Imaginary") (95 ∷ v)) (bytes_eq (codes "_Noreturn") (95 ∷ v)) (bytes_eq (codes "_Static_assert") (95 ∷ v))
    (bytes_eq (codes "_Thread_local") (95 ∷ v))))
    (λ n15. let m0 = flip b 97 n0 in let m1 = flip b 98 n1 in let m2 = flip b 99 n2 in let m3 = flip b 100 n3 in let m4 = flip b 101 n4 in
    let m5 = flip b 102 n5 in let m6 = flip b 103 n6 in let m7 = flip b 105 n7 in let m8 = flip b 108 n8 in let m9 = flip b 114 n9 in let m10 =
    flip b
    115 n10 in let m11 = flip b 116 n11 in let m12 = flip b 117 n12 in let m13 = flip b 118 n13 in let m14 = flip b 119 n14 in let m15 =
    flip b 95
    n15 in rw (m0, m1, m2, m3, m4, m5, m6, m7, m8, m9, m10, m11, m12, m13, m14, m15))))))))))))))))))))))))))))))))

pub by_first_of : (w : List ℕ) (b : ℕ) → Some b ≡ slice_get w 0 → is_early b w ≡ is_keyword w
by_first_of [] b e = absurd cc
by_first_of (d ∷ v) b e = let x : b ≡ d = cc in ap (λ (i : ℕ). is_early i (d ∷ v)) x ∙ by_first d v
