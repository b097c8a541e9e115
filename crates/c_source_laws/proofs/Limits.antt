-- What the limits count of a derivation: by the events of its tokens, the last of them first, and by what it spells.
use Rattle.std.proofs.Common.{◌≡◌, ◌≤◌, ◌+◌, ◌-◌, ℕ, Bool, true, false, cond, nat_lt, max, List, [], ◌∷◌, ◌++◌, Option, Some, None, refl, ap, sym, subst, ◌∙◌, arith}
use Rattle.c_grammar.specs.Events.{Event, count_of, number_of, earlier}
use Rattle.c_grammar.specs.Events as ev
use Rattle.c_grammar.specs.Counts.{function_events, file_events}
use Rattle.c_grammar.specs.Files.{Function, Top}
use Rattle.c_grammar.specs.Derives as old
use Rattle.c_reading_defs.specs.Symbols.{Symbol, Counted, Uncounted, Outside, OpensLevel, EndsLevel, most_counted, IsOver}
use Rattle.c_source_laws.proofs.FileSymbols.{function_symbols, file_symbols}
use Rattle.c_source_laws.proofs.Spelt.{events, AreNested}
use Rattle.c_source_laws.proofs.StatementsSpelt.{function_spelt, file_spelt}
use Rattle.c_source_laws.proofs.WalkedLimits.{walked_over, walked_most, walked_most_is, walked_first, IsFirst}

-- ---- the most tokens that count in one full expression

abbrev pub peak : List Event → ℕ
peak [] = 0
peak (e ∷ q) = max (count_of (e ∷ q)) (peak q)

count_low : (q : List Event) → count_of q ≤ peak q
count_low [] = omega arith
count_low (e ∷ q) = omega arith

peak_of : (level : ℕ) (xs : List Symbol) (q : List Event) → peak (events level xs q) ≡ max (peak q) (walked_most (count_of q) xs)
peak_of level [] q = omega arith
peak_of level (Counted k ∷ xs) q = let h = peak_of level xs (ev.Counted ∷ q) in omega (arith, h)
peak_of level (Uncounted k ∷ xs) q = let h = peak_of level xs (ev.Uncounted ∷ q) in let l = count_low q in omega (arith, h, l)
peak_of level (Outside k ∷ xs) q = let h = peak_of level xs (ev.Outside ∷ q) in omega (arith, h)
peak_of level (OpensLevel ∷ xs) q = let h = peak_of (level + 1) xs (ev.Opened (level + 1) ∷ q) in let l = count_low q in omega (arith, h, l)
peak_of level (EndsLevel ∷ xs) q = peak_of (level - 1) xs q

all_of : (xs : List Symbol) → xs ++ [] ≡ xs
all_of [] = refl
all_of (x ∷ xs) = ap (λ l. x ∷ l) (all_of xs)

pub function_peak : (x : Function) → peak (function_events x []) ≡ most_counted (function_symbols x)
function_peak x =
    let e : events 0 (function_symbols x) [] ≡ function_events x [] = ap (λ l. events 0 l []) (sym (all_of (function_symbols x))) ∙
    (function_spelt x).counts [] [] in
    let h = peak_of 0 (function_symbols x) [] in
    let g = ap peak e in
    let m = walked_most_is (function_symbols x) in
    omega (arith, g, h, m)

-- ---- the first token over a limit

earlier_none : (o : Option ℕ) → o ≡ earlier o None
earlier_none None = refl
earlier_none (Some n) = refl

passed : (o p : Option ℕ) → earlier (earlier o None) p ≡ earlier o p
passed None p = refl
passed (Some n) p = refl

stopped : (o p : Option ℕ) (b : Bool) (n : ℕ) → earlier (earlier o (cond b (Some n) None)) p ≡ earlier o (cond b (Some n) p)
stopped None p true n = refl
stopped None p false n = refl
stopped (Some m) p b n = refl

over_of : (level : ℕ) (xs : List Symbol) (q : List Event)
    → ev.first_over (events level xs q) ≡ earlier (ev.first_over q) (walked_over (number_of q) (count_of q) level xs)
over_of level [] q = earlier_none (ev.first_over q)
over_of level (Counted k ∷ xs) q = over_of level xs (ev.Counted ∷ q) ∙ stopped (ev.first_over q) _ (nat_lt 400 (count_of q + 1)) (number_of q)
over_of level (Uncounted k ∷ xs) q = over_of level xs (ev.Uncounted ∷ q) ∙ passed (ev.first_over q) _
over_of level (Outside k ∷ xs) q = over_of level xs (ev.Outside ∷ q) ∙ passed (ev.first_over q) _
over_of level (OpensLevel ∷ xs) q = over_of (level + 1) xs (ev.Opened (level + 1) ∷ q) ∙ stopped (ev.first_over q) _ (nat_lt 400 (level + 1)) (number_of q)
over_of level (EndsLevel ∷ xs) q = over_of (level - 1) xs q

-- what the grammar finds in a file is the first of its tokens that is over a limit
pub file_first : (xs : List Top) → IsFirst (old.first_too_many xs) (IsOver (file_symbols xs))
file_first xs =
    let e : events 0 (file_symbols xs) [] ≡ file_events xs [] = ap (λ l. events 0 l []) (sym (all_of (file_symbols xs))) ∙ (file_spelt xs).counts [] [] in
    let nested = subst (AreNested 0) (all_of (file_symbols xs)) ((file_spelt xs).nests [] tt) in
    subst (λ o. IsFirst o (IsOver (file_symbols xs))) (sym (over_of 0 (file_symbols xs) []) ∙ ap ev.first_over e) (walked_first (file_symbols xs) nested)
