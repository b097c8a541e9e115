-- The operands among the parts of a node, from an index on.
use Rattle.std.proofs.Common.{◌≡◌, ◌<◌, ◌+◌, ℕ, suc, List, ◌∷◌, true, false, cond, length, get_or, map, drop, refl, ap, append_assoc, add-one, drop-cons}
use Rattle.c_grammar.specs.declared.syntax.Syntax.{Syntax, out-Syntax}
use Rattle.c_grammar.specs.Parts.{part_of, term_of, terms_in, is_token}
use Rattle.c_grammar.specs.Terms.{Then}
use Rattle.c_grammar.proofs.Layers.{part-rule, weight-at}

terms-cons : (word : ℕ → List ℕ) (x : Syntax) (xs : List Syntax)
    → terms_in (map (part_of word) (x ∷ xs)) ≡ cond (is_token (out-Syntax x).rule) (terms_in (map (part_of word) xs))
    (Then (term_of word x) (terms_in (map (part_of word) xs)))
terms-cons word x xs = ap (λ r. cond (is_token r) (terms_in (map (part_of word) xs)) (Then (term_of word x) (terms_in (map (part_of word) xs))))
    (part-rule word x)

-- a token is no operand
pub terms-token : (word : ℕ → List ℕ) (xs : List Syntax) (i : ℕ) (d : Syntax) → i < length xs → is_token (out-Syntax (get_or xs i d)).rule ≡ true
    → terms_in (map (part_of word) (drop i xs)) ≡ terms_in (map (part_of word) (drop (i + 1) xs))
terms-token word xs i d h t = rw (add-one, drop-cons xs i d, terms-cons word (get_or xs i d) (drop (suc i) xs), t) refl

pub terms-operand : (word : ℕ → List ℕ) (xs : List Syntax) (i : ℕ) (d : Syntax) → i < length xs → is_token (out-Syntax (get_or xs i d)).rule ≡ false
    → terms_in (map (part_of word) (drop i xs)) ≡ Then (term_of word (get_or xs i d)) (terms_in (map (part_of word) (drop (i + 1) xs)))
terms-operand word xs i d h t = rw (add-one, drop-cons xs i d, terms-cons word (get_or xs i d) (drop (suc i) xs), t) refl

pub ruleset operands = (terms-token, terms-operand, weight-at)

pub ruleset arguments = (terms-token, terms-operand, weight-at, append_assoc)
