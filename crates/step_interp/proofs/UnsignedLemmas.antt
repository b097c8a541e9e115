-- Numbers of unsigned kinds as natural numbers.
use Rattle.std.proofs.Common.{◌≡◌, ℤ, pos, negsuc, ◌∙◌, arith}
use Rattle.std.specs.Prelude.{unsigned_abs}
use Rattle.std.proofs.lemmas.Int.{ints}
use Rattle.c_types.specs.declared.kinds.IntKind.TheVariants.{UChar, UInt}
use Rattle.c_types.specs.Numbers.{IsInRange, residue, converted}
use Rattle.c_types.proofs.Residues.{converted-in_range, residue-converted}

char_is : (z : ℤ) → IsInRange UChar z → unsigned_abs z ≡ residue UChar z
char_is (pos n) h = grind (arith, ints)
char_is (negsuc n) h = grind (arith, ints)

word_is : (z : ℤ) → IsInRange UInt z → unsigned_abs z ≡ residue UInt z
word_is (pos n) h = grind (arith, ints)
word_is (negsuc n) h = grind (arith, ints)

pub as_char : (z : ℤ) → unsigned_abs (converted UChar z) ≡ residue UChar z
as_char z = char_is (converted UChar z) (converted-in_range UChar z) ∙ residue-converted UChar z

pub as_word : (z : ℤ) → unsigned_abs (converted UInt z) ≡ residue UInt z
as_word z = word_is (converted UInt z) (converted-in_range UInt z) ∙ residue-converted UInt z
