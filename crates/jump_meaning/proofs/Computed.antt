-- The examples run, by computation: what each run shows at its end, how many steps it takes, and that it
-- goes on before.
use Rattle.std.proofs.Common.{ℕ, suc, ◌≡◌, List, [], ◌∷◌, pos, refl, codes}
use Rattle.std.specs.Fmt.{digits}
use Rattle.c_types.specs.declared.trap.Trap.{Trap}
use Rattle.c_types.specs.Numbers.{converted, arith_result}
use Rattle.jump_meaning.specs.Values.{Event, Byte, Called}
use Rattle.jump_meaning.specs.Behaviour.{Shown, Ended, Trapped, More}
use Rattle.jump_meaning.specs.Runs.{start, jump_run, TakesSteps}
use Rattle.jump_meaning.proofs.RunFacts.{steps_of}
use Rattle.jump_meaning.proofs.Examples.{empty, forever, repeats, into_block, into_loop, falls, nested_case, circuits, bad_index, late_zero, updates, missing, prints, asks, judges, quits, overflows, lends, counts, echoes, aborts, recursive, too_deep, armed, left_loop, lifted, picked, too_large}

-- after n steps there is more to come, and the next step ends the run
abbrev IsOverAfter : (ℕ → Shown) → ℕ → List Event → Shown → Type 0
IsOverAfter R n before end = (R n ≡ More before) × (R (suc n) ≡ end)

empty_run : IsOverAfter (jump_run empty (codes "main") [] [] []) 0 [] (Ended (pos 0) [])
unfolding converted arith_result digits
empty_run = (refl, refl)

forever_goes_on : jump_run forever (codes "main") [] [] [] 1000 ≡ More []
forever_goes_on = refl

repeats_goes_on : jump_run repeats (codes "main") [] [] [] 1000 ≡ More []
unfolding converted
repeats_goes_on = refl

into_block_run : IsOverAfter (jump_run into_block (codes "main") [] [] []) 9 (Byte 105 ∷ []) (Ended (pos 3) (Byte 105 ∷ []))
unfolding converted arith_result digits
into_block_run = (refl, refl)

into_loop_run : IsOverAfter (jump_run into_loop (codes "main") [] [] []) 45 (Byte 97 ∷ []) (Ended (pos 2) (Byte 97 ∷ []))
unfolding converted arith_result digits
into_loop_run = (refl, refl)

falls_run : IsOverAfter (jump_run falls (codes "main") [] [] []) 18 (Byte 50 ∷ Byte 51 ∷ []) (Ended (pos 0) (Byte 50 ∷ Byte 51 ∷ []))
unfolding converted arith_result digits
falls_run = (refl, refl)

nested_case_run : IsOverAfter (jump_run nested_case (codes "f") (pos 4 ∷ []) [] []) 52 (Byte 97 ∷ []) (Ended (pos 2) (Byte 97 ∷ []))
unfolding converted arith_result digits
nested_case_run = (refl, refl)

circuits_run : IsOverAfter (jump_run circuits (codes "main") [] [] []) 16 [] (Ended (pos 2) [])
unfolding converted arith_result digits
circuits_run = (refl, refl)

bad_index_run : IsOverAfter (jump_run bad_index (codes "main") [] [] []) 5 [] (Trapped Trap.Index [])
unfolding converted arith_result digits
bad_index_run = (refl, refl)

late_zero_run : IsOverAfter (jump_run late_zero (codes "main") [] [] []) 17 [] (Trapped Trap.ZeroDivisor [])
unfolding converted arith_result digits
late_zero_run = (refl, refl)

updates_run : IsOverAfter (jump_run updates (codes "main") [] [] []) 20 [] (Ended (pos 9) [])
unfolding converted arith_result digits
updates_run = (refl, refl)

missing_run : IsOverAfter (jump_run missing (codes "main") [] [] []) 21 (Byte 100 ∷ []) (Trapped Trap.NoValue (Byte 100 ∷ []))
unfolding converted arith_result digits
missing_run = (refl, refl)

prints_run : IsOverAfter (jump_run prints (codes "main") [] [] []) 9
    (Byte 45 ∷ Byte 53 ∷ Byte 58 ∷ Byte 102 ∷ Byte 102 ∷ Byte 32 ∷ Byte 65 ∷ Byte 37 ∷ [])
    (Ended (pos 8) (Byte 45 ∷ Byte 53 ∷ Byte 58 ∷ Byte 102 ∷ Byte 102 ∷ Byte 32 ∷ Byte 65 ∷ Byte 37 ∷ []))
unfolding converted arith_result digits
prints_run = (refl, refl)

asks_run : IsOverAfter (jump_run asks (codes "main") [] [] (pos 4294967300 ∷ [])) 16 (Called (codes "p") (pos 3 ∷ pos 44 ∷ []) ∷ [])
    (Trapped Trap.NoAnswer (Called (codes "p") (pos 3 ∷ pos 44 ∷ []) ∷ Called (codes "p") (pos 4 ∷ pos 0 ∷ []) ∷ []))
unfolding converted arith_result digits
asks_run = (refl, refl)

judges_run : IsOverAfter (jump_run judges (codes "main") [] [] (pos 4294967296 ∷ [])) 7 (Called (codes "p") [] ∷ [])
    (Ended (pos 2) (Called (codes "p") [] ∷ []))
unfolding converted arith_result digits
judges_run = (refl, refl)

quits_run : IsOverAfter (jump_run quits (codes "main") [] [] []) 18 (Byte 113 ∷ []) (Ended (pos 7) (Byte 113 ∷ []))
unfolding converted arith_result digits
quits_run = (refl, refl)

overflows_run : IsOverAfter (jump_run overflows (codes "main") [] [] []) 16 (Byte 97 ∷ []) (Trapped Trap.Overflow (Byte 97 ∷ []))
unfolding converted arith_result digits
overflows_run = (refl, refl)

lends_run : IsOverAfter (jump_run lends (codes "main") [] [] []) 24 [] (Ended (pos 44) [])
unfolding converted arith_result digits
lends_run = (refl, refl)

counts_run : IsOverAfter (jump_run counts (codes "main") [] [] []) 105 [] (Ended (pos 13) [])
unfolding converted arith_result digits
counts_run = (refl, refl)

echoes_run : IsOverAfter (jump_run echoes (codes "main") [] (97 ∷ 113 ∷ []) []) 58 (Byte 97 ∷ []) (Ended (pos 113) (Byte 97 ∷ []))
unfolding converted arith_result digits
echoes_run = (refl, refl)

aborts_run : IsOverAfter (jump_run aborts (codes "main") [] [] []) 19 (Byte 97 ∷ []) (Trapped Trap.Abort (Byte 97 ∷ []))
unfolding converted arith_result digits
aborts_run = (refl, refl)

recursive_run : IsOverAfter (jump_run recursive (codes "main") [] [] []) 76 [] (Ended (pos 6) [])
unfolding converted arith_result digits
recursive_run = (refl, refl)

too_deep_run : IsOverAfter (jump_run too_deep (codes "main") [] [] []) 29999 [] (Trapped Trap.Calls [])
unfolding converted arith_result digits
too_deep_run = (refl, refl)

armed_run : IsOverAfter (jump_run armed (codes "f") (pos 1 ∷ []) [] []) 11 [] (Ended (pos 1) [])
unfolding converted arith_result digits
armed_run = (refl, refl)

left_loop_run : IsOverAfter (jump_run left_loop (codes "main") [] [] []) 63 [] (Ended (pos 1) [])
unfolding converted arith_result digits
left_loop_run = (refl, refl)

lifted_run : IsOverAfter (jump_run lifted (codes "main") [] [] []) 99 (Byte 97 ∷ Byte 98 ∷ Byte 97 ∷ Byte 98 ∷ [])
    (Ended (pos 0) (Byte 97 ∷ Byte 98 ∷ Byte 97 ∷ Byte 98 ∷ []))
unfolding converted arith_result digits
lifted_run = (refl, refl)

picked_run : IsOverAfter (jump_run picked (codes "f") (pos 5 ∷ []) [] []) 23 (Byte 100 ∷ []) (Ended (pos 0) (Byte 100 ∷ []))
unfolding converted arith_result digits
picked_run = (refl, refl)

-- it stands at the trap of too many cells, with no step made
too_large_start : jump_run too_large (codes "main") [] [] [] 0 ≡ Trapped Trap.Cells []
too_large_start = refl

-- the shortest run takes exactly one step
empty_steps : TakesSteps (jump_run empty (codes "main") [] [] []) 1
empty_steps = steps_of empty (start empty (codes "main") [] [] []) 0 [] refl tt
