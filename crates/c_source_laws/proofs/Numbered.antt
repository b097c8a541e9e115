-- What is known of each piece of a text is known of its tokens by their numbers.
use Rattle.std.proofs.Common.{◌≡◌, ◌+◌, ℕ, zero, suc, Bool, true, List, [], ◌∷◌, ◌++◌, map, length, Some, slice_get, refl, ap, sym, subst, ◌∙◌, arith}
use Rattle.std.specs.Prelude.{Ok, slice_range, All}
use Rattle.std.proofs.lemmas.Bool.{le-leb}
use Rattle.std.proofs.lemmas.List.Elements.{All-head, All-tail}
use Rattle.c_lexer.specs.declared.token.Token.{Token}
use Rattle.c_lexer.specs.Pieces.{Piece, text, tokens_of, scanned_of, Fits, Longest, Spells, IsWithin}
use Rattle.c_lexer.specs.PieceSteps.{first_behind, Good}
use Rattle.c_lexer.proofs.Bounds.{tokens_bound}
use Rattle.c_lexer.proofs.PieceWalks.{spells_walked}
use Rattle.c_lexer.proofs.Theorem.{scan_read_back}
use Rattle.c_grammar.specs.declared.class.Class.{Class}
use Rattle.c_grammar.specs.declared.class.Class.TheVariants as c
use Rattle.c_grammar.specs.TokenClasses.{class_of, classes_of}
use Rattle.c_grammar.specs.Words.{bytes_of, word_of}
use Rattle.c_resolved_defs.specs.Within.{Each}
use Rattle.print_laws.specs.Reread.{Spelling, spelling_of, spellings, read_at}
use Rattle.print_laws.proofs.Tokens.{tokens_read}

-- ---- of each piece, in front of these bytes

module _ (P : Spelling → Type 0) (here : (first : Bool) (p : Piece) (r : List ℕ) → Fits first p → Longest p r → Each P (spelling_of p)) where
  both : (xs ys : List Spelling) → Each P xs → Each P ys → Each P (xs ++ ys)
  both [] ys g h = h
  both (x ∷ xs) ys g h = (g.0, both xs ys (g.1) h)

  each : (first : Bool) (ps : List Piece) → Good first ps [] → Each P (spellings ps)
  each first [] g = tt
  each first (p ∷ ps) g = both (spelling_of p) (spellings ps) (here first p (text ps []) (g.0) (g.1)) (each (first_behind first p) ps (g.2))

  unmapped : (t : List ℕ) (xs : List Token) → Each P (map (read_at t) xs) → Each (λ x. P (read_at t x)) xs
  unmapped t [] h = tt
  unmapped t (x ∷ xs) h = (h.0, unmapped t xs (h.1))

  pub each_token : (pieces : List Piece) (t : List ℕ) → Spells pieces t → Each (λ x. P (read_at t x)) (tokens_of pieces)
  each_token pieces t s = unmapped t (tokens_of pieces) (subst (λ xs. Each P xs) (sym (tokens_read t pieces (s.spells)))
      (each true pieces (spells_walked pieces t s)))

-- ---- by their numbers

-- words that are known by their classes stand from this number on
abbrev pub Along : (Class → List ℕ → Type 0) → (ℕ → List ℕ) → ℕ → List Class → Type 0
Along P word at [] = Unit {0}
Along P word at (class ∷ rest) = P class (word at) × Along P word (at + 1) rest

module _ (P : Class → List ℕ → Type 0) (end : P c.End []) where
  in_bounds : (t : List ℕ) (x : Token) → IsWithin t x.start x.end → bytes_of t (Some x) ≡ slice_range t x.start x.end
  in_bounds t x m = rw (le-leb x.start x.end (let a = m.0 in omega (arith, a)), le-leb x.end (length t) (m.1)) refl

  stand : (t : List ℕ) (word : ℕ → List ℕ) (tokens : List Token) (at : ℕ) → ((i j : ℕ) → j ≡ at + i → word j ≡ bytes_of t (slice_get tokens i))
      → Each (λ x. P (class_of t x) (slice_range t x.start x.end)) tokens → All (λ (x : Token). IsWithin t x.start x.end) tokens →
      Along P word at (classes_of t tokens ++ c.End ∷ [])
  stand t word [] at h f m = (subst (P c.End) (sym (h zero at (omega arith))) end, tt)
  stand t word (x ∷ xs) at h f m =
      let e = h zero at (omega arith) ∙ in_bounds t x (All-head (λ (y : Token). IsWithin t y.start y.end) x xs m) in (
        subst (P (class_of t x)) (sym e) (f.0),
        stand t word xs (at + 1) (λ i j d. h (suc i) j (omega (arith, d))) (f.1)
            (All-tail (λ (y : Token). IsWithin t y.start y.end) x xs m),
      )

  by_number : (t : List ℕ) (tokens : List Token) (i j : ℕ) → j ≡ 0 + i → word_of t tokens j ≡ bytes_of t (slice_get tokens i)
  by_number t tokens i j e = let d : j ≡ i = omega (arith, e) in ap (word_of t tokens) d

  pub along : (pieces : List Piece) (t : List ℕ) → Spells pieces t → Each (λ x. P (class_of t x) (slice_range t x.start x.end)) (tokens_of pieces)
      → Along P (word_of t (tokens_of pieces)) 0 (classes_of t (tokens_of pieces) ++ c.End ∷ [])
  along pieces t s f =
      let tokens = tokens_of pieces in stand t (word_of t tokens) tokens 0 (by_number t tokens) f
      (tokens_bound t (Ok (scanned_of pieces)) (scan_read_back t pieces s))
