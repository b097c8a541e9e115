-- Characters and texts as they are printed are decoded to their bytes.
use Rattle.std.proofs.Common.{◌≡◌, ◌≤◌, ◌==◌, ℕ, Bool, true, nat_le, List, [], ◌∷◌, map, refl, ap, ◌∙◌, arith}
use Rattle.std.proofs.lemmas.Bool.{eqb-true, leb-true}
use Rattle.std.specs.List.{list_all}
use Rattle.c_grammar.specs.Words.{value, character}
use Rattle.c_grammar.specs.DecodingSteps.{decoded}
use Rattle.c_grammar.proofs.DecodedSteps.{written_decoded}
use Rattle.c_grammar.proofs.Elements.{element_of, text_writes}
use Rattle.c_lexer.specs.Pieces as l
use Rattle.c_resolved_defs.specs.PrintableExpressions.{AreBytes}
use Rattle.print_laws.specs.Reread.{character_in}
use Rattle.print_laws.proofs.Neighbours.{first_of_and}
use Rattle.print_laws.proofs.Relexed.{below, all_below, second_of_and, text_characters}

-- ---- character constants

abbrev reads_byte : ℕ → Bool
reads_byte b = character (l.spelled (l.Char (character_in 39 b)) []) == b

bytes_read : list_all reads_byte (below 256) ≡ true
bytes_read = refl

-- a printed character constant is its byte
pub character_is : (b : ℕ) → b ≤ 255 → character (l.spelled (l.Char (character_in 39 b)) []) ≡ b
character_is b h = eqb-true _ b (all_below reads_byte 256 bytes_read b (omega (arith, h)))

-- ---- texts

abbrev is_valued : ℕ → Bool
is_valued b = value (element_of (character_in 34 b)) == b

all_valued : list_all is_valued (below 256) ≡ true
all_valued = refl

values : (bs : List ℕ) → AreBytes bs → map value (map element_of (map (character_in 34) bs)) ≡ bs
values [] h = refl
values (b ∷ bs) h =
    let n = leb-true b 255 (first_of_and (nat_le b 255) _ h) in
    let e = eqb-true _ b (all_below is_valued 256 all_valued b (omega (arith, n))) in
    ap (λ x. x ∷ map value (map element_of (map (character_in 34) bs))) e ∙ ap (λ w. b ∷ w) (values bs (second_of_and (nat_le b 255) _ h))

-- a printed text is its bytes
pub text_is : (bs : List ℕ) → AreBytes bs → decoded (l.spelled (l.Text (map (character_in 34) bs)) []) ≡ bs
text_is bs h = written_decoded (text_writes (map (character_in 34) bs) (text_characters bs (34 ∷ []) h)) ∙ values bs h
