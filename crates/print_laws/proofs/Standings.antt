-- From one printed piece to the next: a token has the next number, white space has none.
use Rattle.std.proofs.Common.{◌≡◌, ◌+◌, ◌*◌, ℕ, zero, suc, ℤ, Bool, true, false, List, [], ◌∷◌, drop, Option, Some, refl, ap, ◌∙◌, arith}
use Rattle.std.specs.Prelude.{slice_get}
use Rattle.c_types.specs.declared.kinds.IntKind.{IntKind}
use Rattle.c_lexer.specs.declared.token.TokenKind.TheVariants as k
use Rattle.c_lexer.specs.Marks.{mark_text}
use Rattle.c_lexer.specs.Pieces.{word_kind}
use Rattle.c_lexer.specs.Pieces as l
use Rattle.c_tree.specs.TextPieces.{Piece, space, newline, indentation, word, punctuator, number, character, only_if}
use Rattle.c_tree.specs.Text.{pieces_of}
use Rattle.c_tree.specs.declared.tree.Program.{Program}
use Rattle.print_laws.specs.Reread.{Spelling, spelling, mark_in, character_in, number_text, spellings, reread_all}
use Rattle.print_laws.specs.Standing.{Stands}
use Rattle.print_laws.specs.PrintSyntaxLaws.{printed_pieces}
use Rattle.print_laws.proofs.StatementReads.{spaces_tell}

-- the token with this number, and the tokens behind it
record IsNext (tokens : List Spelling) (at : ℕ) (s : Spelling) (rest : List Spelling) : Type 0 where
  here : slice_get tokens at ≡ Some s
  behind : drop (at + 1) tokens ≡ rest

next_is : (tokens : List Spelling) (at : ℕ) (s : Spelling) (rest : List Spelling) → drop at tokens ≡ s ∷ rest → IsNext tokens at s rest
next_is [] zero s rest e = cc
next_is [] (suc at) s rest e = cc
next_is (x ∷ tokens) zero s rest e = record { here = head x tokens s rest e; behind = tail x tokens s rest e }
  where
    head : (x : Spelling) (l : List Spelling) (s : Spelling) (r : List Spelling) → x ∷ l ≡ s ∷ r → Some x ≡ Some s
    head x l s r e = cc

    tail : (x : Spelling) (l : List Spelling) (s : Spelling) (r : List Spelling) → x ∷ l ≡ s ∷ r → l ≡ r
    tail x l s r e = cc
next_is (x ∷ tokens) (suc at) s rest e =
    let n = next_is tokens at s rest e in
    let one : suc at + 1 ≡ suc (at + 1) = omega arith in
    record { here = n.here; behind = ap (λ k. drop k (x ∷ tokens)) one ∙ n.behind }

-- this token stands there, and behind it these pieces
pub record Next (tokens : List Spelling) (at : ℕ) (s : Spelling) (ps : List Piece) : Type 0 where
  pub here : slice_get tokens at ≡ Some s
  pub behind : Stands tokens (at + 1) ps

pub next : (tokens : List Spelling) (at : ℕ) (s : Spelling) (ps : List Piece) → drop at tokens ≡ s ∷ spellings (reread_all ps) → Next tokens at s ps
next tokens at s ps e = let n = next_is tokens at s (spellings (reread_all ps)) e in record { here = n.here; behind = n.behind }

-- the first token of a program has the number 0
pub first_stands : (p : Program) → Stands (spellings (printed_pieces p)) 0 (pieces_of p)
first_stands p = refl

module _ (tokens : List Spelling) (at : ℕ) (ps : List Piece) where
  pub at_word : (w : List ℕ) → Stands tokens at (word w ps) → Next tokens at (spelling (word_kind w) w) ps
  at_word w e = next tokens at _ ps e

  pub at_punctuator : (w : List ℕ) → Stands tokens at (punctuator w ps) → Next tokens at (spelling k.Mark (mark_text (mark_in w))) ps
  at_punctuator w e = next tokens at _ ps e

  pub at_number : (kind : Option IntKind) (n : ℤ) → Stands tokens at (number kind n ps) → Next tokens at (spelling k.Number (number_text kind n)) ps
  at_number kind n e = next tokens at _ ps e

  pub at_character : (b : ℕ) → Stands tokens at (character b ps) → Next tokens at (spelling k.Char (l.spelled (l.Char (character_in 39 b)) [])) ps
  at_character b e = next tokens at _ ps e

  pub past_space : Stands tokens at (space ps) → Stands tokens at ps
  past_space e = e

  pub past_newline : Stands tokens at (newline ps) → Stands tokens at ps
  past_newline e = e

  pub past_indentation : (depth : ℕ) → Stands tokens at (indentation depth ps) → Stands tokens at ps
  past_indentation depth e = e ∙ spaces_tell (4 * depth) (reread_all ps)

  pub past_gap : (b : Bool) → Stands tokens at (only_if b space ps) → Stands tokens at ps
  past_gap true e = e
  past_gap false e = e
