-- The tokens of a text stand by their numbers.
use Rattle.std.proofs.Common.{◌≡◌, ◌≤◌, ◌+◌, ℕ, Bool, true, false, List, [], ◌∷◌, ◌++◌, length, Some, None, refl, arith, length-append}
use Rattle.std.proofs.lemmas.List.{length-map}
use Rattle.c_types.specs.Words.{is_word, is_keyword}
use Rattle.c_lexer.specs.declared.token.TokenKind.{TokenKind}
use Rattle.c_lexer.specs.declared.token.TokenKind.TheVariants as k
use Rattle.c_lexer.specs.Marks.{mark_text}
use Rattle.c_lexer.specs.Pieces.{Piece, spelled, bare, word_kind, tokens_of, Fits, Spells}
use Rattle.c_lexer.specs.Pieces as l
use Rattle.c_grammar.specs.declared.class.Class.{Class}
use Rattle.c_grammar.specs.declared.class.Class.TheVariants as c
use Rattle.c_grammar.specs.TokenClasses.{class_of, class_of_bytes, classes_of}
use Rattle.c_grammar.specs.Words.{word_of}
use Rattle.c_resolved_defs.specs.Within.{Each}
use Rattle.print_laws.specs.Reread.{Spelling, spelling_of}
use Rattle.c_source_laws.specs.Classed.{IsFound, IsClassed, Stand}
use Rattle.c_source_laws.proofs.Numbered.{each_token, Along, along}

-- ---- what the lexer finds of each

abbrev IsClassedHere : Spelling → Type 0
IsClassedHere s = IsClassed (class_of_bytes s.kind s.bytes) s.bytes

classed : (k : TokenKind) (w : List ℕ) → IsFound k w → IsClassed (class_of_bytes k w) w
classed k w h = record { kind = Some k; there = h; classed = refl }

of_word : (w : List ℕ) → is_word w ≡ true → (b : Bool) → is_keyword w ≡ b → IsFound (word_kind w) w
of_word w h true e = rw e tt
of_word w h false e = rw e (h, e)

found : (first : Bool) (p : Piece) → Fits first p → Each IsClassedHere (spelling_of p)
found first (l.Word w) f = (classed (word_kind w) w (of_word w f (is_keyword w) refl), tt)
found first (l.Sign m) f = (classed k.Mark (mark_text m) (m, refl), tt)
found first (l.Number w) f = (classed k.Number w tt, tt)
found first (l.Char x) f = (classed k.Char (spelled (l.Char x) []) tt, tt)
found first (l.Text xs) f = (classed k.Text (spelled (l.Text xs) []) tt, tt)
found first (l.Directive w) f = (classed k.Directive (35 ∷ bare w) tt, tt)
found first _ f = tt

-- ---- by their numbers

along_stand : (word : ℕ → List ℕ) (r : List Class) (at : ℕ) → Along IsClassed word at r → at + length r ≤ 4294967296 → Stand word at r
along_stand word [] at s n = omega (arith, n)
along_stand word (k ∷ r) at s n = (s.0, along_stand word r (at + 1) (s.1) (omega (arith, n)))

pub words : (pieces : List Piece) (t : List ℕ) → Spells pieces t → length (tokens_of pieces) ≤ 4294967295 →
    Stand (word_of t (tokens_of pieces)) 0 (classes_of t (tokens_of pieces) ++ c.End ∷ [])
words pieces t s n =
    let tokens = tokens_of pieces in
    let d = length-append (classes_of t tokens) (c.End ∷ []) in
    let e = length-map tokens (class_of t) in
    along_stand (word_of t tokens) (classes_of t tokens ++ c.End ∷ []) 0
    (along IsClassed (record { kind = None; there = tt; classed = refl }) pieces t s (each_token IsClassedHere (λ first p r f m. found first p f) pieces t s))
    (omega (arith, d, e, n))
