-- The offsets of tokens.
use Rattle.std.proofs.Common.{◌≡◌, ◌<◌, ◌≤◌, ℕ, zero, suc, List, [], ◌∷◌, length, get_or, refl, arith, All}
use Rattle.std.proofs.lemmas.List.Elements.{All-head, All-tail}
use Rattle.c_lexer.specs.declared.token.Token.{Token}
use Rattle.c_lexer.specs.Pieces.{IsWithin}
use Rattle.c_grammar.specs.TokenClasses.{offset_of}

pub offset-at : (text : List ℕ) (tokens : List Token) (i : ℕ) (d : Token) → i < length tokens → offset_of text tokens i ≡ (get_or tokens i d).start
offset-at text [] i d h = absurd (omega arith)
offset-at text (t ∷ ts) zero d h = refl
offset-at text (t ∷ ts) (suc i) d h = offset-at text ts i d (omega arith)

pub offset-end : (text : List ℕ) (tokens : List Token) (i : ℕ) → length tokens ≤ i → offset_of text tokens i ≡ length text
offset-end text [] i h = refl
offset-end text (t ∷ ts) zero h = absurd (omega arith)
offset-end text (t ∷ ts) (suc i) h = offset-end text ts i (omega arith)

pub offset-within : (text : List ℕ) (tokens : List Token) (i : ℕ) → All (λ t. IsWithin text t.start t.end) tokens → offset_of text tokens i ≤ length text
offset-within text [] i a = omega arith
offset-within text (t ∷ ts) zero a = let h : IsWithin text t.start t.end = All-head (λ t. IsWithin text t.start t.end) t ts a in omega (arith, h.0, h.1)
offset-within text (t ∷ ts) (suc i) a = offset-within text ts i (All-tail (λ t. IsWithin text t.start t.end) t ts a)

pub ruleset offsets = (offset-at, offset-end, offset-within)
