-- The examples without jumps run, by computation: with how much fuel each is over, and that with less there is more to
-- come. Their ends are those of the runs by steps.
use Rattle.std.proofs.Common.{ℕ, suc, ◌≡◌, List, [], ◌∷◌, pos, refl, codes}
use Rattle.std.specs.Fmt.{digits}
use Rattle.c_types.specs.declared.trap.Trap.{Trap}
use Rattle.c_types.specs.Numbers.{converted, arith_result}
use Rattle.jump_meaning.specs.Values.{Event, Byte, Called}
use Rattle.jump_meaning.specs.Behaviour.{Shown, Ended, Trapped, More}
use Rattle.jump_meaning.proofs.Examples.{empty, falls, circuits, bad_index, late_zero, updates, missing, prints, asks, judges, quits, overflows, lends, counts, echoes, aborts, recursive, too_deep, too_large}
use Rattle.struct_meaning.specs.Runs.{structural_run}

-- with fuel n there is more to come, and one more of it ends the run
abbrev IsOverAfter : (ℕ → Shown) → ℕ → List Event → Shown → Type 0
IsOverAfter R n before end = (R n ≡ More before) × (R (suc n) ≡ end)

empty_run : structural_run empty (codes "main") [] [] [] 0 ≡ Ended (pos 0) []
unfolding converted arith_result digits
empty_run = refl

circuits_run : structural_run circuits (codes "main") [] [] [] 0 ≡ Ended (pos 2) []
unfolding converted arith_result digits
circuits_run = refl

bad_index_run : structural_run bad_index (codes "main") [] [] [] 0 ≡ Trapped Trap.Index []
unfolding converted arith_result digits
bad_index_run = refl

late_zero_run : structural_run late_zero (codes "main") [] [] [] 0 ≡ Trapped Trap.ZeroDivisor []
unfolding converted arith_result digits
late_zero_run = refl

too_large_run : structural_run too_large (codes "main") [] [] [] 0 ≡ Trapped Trap.Cells []
too_large_run = refl

falls_run : IsOverAfter (structural_run falls (codes "main") [] [] []) 0 [] (Ended (pos 0) (Byte 50 ∷ Byte 51 ∷ []))
unfolding converted arith_result digits
falls_run = (refl, refl)

updates_run : structural_run updates (codes "main") [] [] [] 0 ≡ Ended (pos 9) []
unfolding converted arith_result digits
updates_run = refl

missing_run : IsOverAfter (structural_run missing (codes "main") [] [] []) 0 [] (Trapped Trap.NoValue (Byte 100 ∷ []))
unfolding converted arith_result digits
missing_run = (refl, refl)

prints_run : IsOverAfter (structural_run prints (codes "main") [] [] []) 0 []
    (Ended (pos 8) (Byte 45 ∷ Byte 53 ∷ Byte 58 ∷ Byte 102 ∷ Byte 102 ∷ Byte 32 ∷ Byte 65 ∷ Byte 37 ∷ []))
unfolding converted arith_result digits
prints_run = (refl, refl)

asks_run : IsOverAfter (structural_run asks (codes "main") [] [] (pos 4294967300 ∷ [])) 0 []
    (Trapped Trap.NoAnswer (Called (codes "p") (pos 3 ∷ pos 44 ∷ []) ∷ Called (codes "p") (pos 4 ∷ pos 0 ∷ []) ∷ []))
unfolding converted arith_result digits
asks_run = (refl, refl)

judges_run : IsOverAfter (structural_run judges (codes "main") [] [] (pos 4294967296 ∷ [])) 0 [] (Ended (pos 2) (Called (codes "p") [] ∷ []))
unfolding converted arith_result digits
judges_run = (refl, refl)

quits_run : IsOverAfter (structural_run quits (codes "main") [] [] []) 1 (Byte 113 ∷ []) (Ended (pos 7) (Byte 113 ∷ []))
unfolding converted arith_result digits
quits_run = (refl, refl)

overflows_run : IsOverAfter (structural_run overflows (codes "main") [] [] []) 0 [] (Trapped Trap.Overflow (Byte 97 ∷ []))
unfolding converted arith_result digits
overflows_run = (refl, refl)

lends_run : IsOverAfter (structural_run lends (codes "main") [] [] []) 0 [] (Ended (pos 44) [])
unfolding converted arith_result digits
lends_run = (refl, refl)

counts_run : IsOverAfter (structural_run counts (codes "main") [] [] []) 2 [] (Ended (pos 13) [])
unfolding converted arith_result digits
counts_run = (refl, refl)

echoes_run : IsOverAfter (structural_run echoes (codes "main") [] (97 ∷ 113 ∷ []) []) 1 (Byte 97 ∷ []) (Ended (pos 113) (Byte 97 ∷ []))
unfolding converted arith_result digits
echoes_run = (refl, refl)

aborts_run : IsOverAfter (structural_run aborts (codes "main") [] [] []) 0 [] (Trapped Trap.Abort (Byte 97 ∷ []))
unfolding converted arith_result digits
aborts_run = (refl, refl)

recursive_run : IsOverAfter (structural_run recursive (codes "main") [] [] []) 3 [] (Ended (pos 6) [])
unfolding converted arith_result digits
recursive_run = (refl, refl)

too_deep_run : IsOverAfter (structural_run too_deep (codes "main") [] [] []) 9999 [] (Trapped Trap.Calls [])
unfolding converted arith_result digits
too_deep_run = (refl, refl)
