-- Words that are numbers.
use Rattle.std.proofs.Common.{◌≡◌, ℕ, ◌<◌, ◌≤◌, true, List, [], ◌∷◌, length, Result, refl, ap, ◌∙◌, arith, rules}
use Rattle.std.specs.Result.{result_ok}
use Rattle.std.specs.Str.{all_ascii_digits}
use Rattle.std.specs.Str.Parse.{digits_value, ParsesUnsigned}
use Rattle.std.proofs.lemmas.Str.Parse.{IsNumeralModel, numerals_by_value, tells_all_ascii_digits, parse_gives, digits_value_short}
use Rattle.cmd_words.specs.Numbers.{spells_number, number_of}

model : IsNumeralModel (λ ds. all_ascii_digits ds ≡ true) (digits_value 10)
model = numerals_by_value _ tells_all_ascii_digits

digits : (bs : List ℕ) → spells_number bs ≡ true → (all_ascii_digits bs ≡ true) × (0 < length bs) × (length bs ≤ 18)
digits [] h = cc
digits (d ∷ ds) h = search rules

-- what is parsed from a word that is a number
pub parsed : {E : Type 0} (bs : List ℕ) (r : Result ℕ E) → spells_number bs ≡ true → ParsesUnsigned 64 10 bs r → result_ok r ≡ number_of bs
parsed bs r h p =
    let known = digits bs h in
    let short : length bs ≤ 18 = known.2 in
    let value = parse_gives model 64 bs r p known.0 (omega (arith, known.1)) (omega (arith, digits_value_short model bs 18 known.0 (omega arith))) in
    ap result_ok value ∙ rw h refl
