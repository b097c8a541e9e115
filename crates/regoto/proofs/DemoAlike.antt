-- Runs that behave the same end alike.
use Rattle.std.proofs.Common.{◌≡◌, ℕ, ◌≤◌, ◌⊎◌, [], codes, inl, inr, refl, sym, subst, ◌∙◌, arith}
use Rattle.c_tree.specs.declared.tree.Program.{Program}
use Rattle.jump_meaning.specs.Behaviour.{Shown, Ended, Trapped, More, Covers, AreSameRuns}
use Rattle.jump_meaning.specs.Code.{Code, code_of}
use Rattle.jump_meaning.specs.Runs.{run, shows, start, IsOver, IsEntry, BehaveTheSame}
use Rattle.jump_meaning.specs.Step.{State}
use Rattle.jump_meaning.proofs.RunFacts.{run_grows}
use Rattle.regoto.specs.DemoRuns.{most_steps, left_at}

-- the number of the code
pub steps_are : 100000000 ≡ most_steps
unfolding most_steps
steps_are = refl

either : (m n : ℕ) → (m ≤ n) ⊎ (n ≤ m)
either m n = grind arith

covers_over : (s d : Shown) → IsOver s → Covers s d → d ≡ s
covers_over (Ended z es) d o h = h
covers_over (Trapped t es) d o h = h
covers_over (More es) d o h = absurd o

-- what a run that is over shows, it shows at each time at which it is over
pub shown_once : (c : Code) (a : State) (m n : ℕ) → IsOver (shows (run c m a)) → IsOver (shows (run c n a)) → shows (run c n a) ≡ shows (run c m a)
shown_once c a m n over again = elim (either m n) as (λ _. shows (run c n a) ≡ shows (run c m a)) [
  | inl le ↦ covers_over _ _ over (run_grows c m n a le)
  | inr le ↦ sym (covers_over _ _ again (run_grows c n m a le))
]

alike : (c d : Code) (a b : State) (n : ℕ) → AreSameRuns (λ k. shows (run c k a)) (λ k. shows (run d k b)) → IsOver (shows (run c n a)) →
    IsOver (shows (run d n b))
    → shows (run d n b) ≡ shows (run c n a)
alike c d a b n h over again =
    let f = h.forth n in
    let there : shows (run d f.0 b) ≡ shows (run c n a) = covers_over _ _ over f.1 in
    shown_once d b f.0 n (subst IsOver (sym there) over) again ∙ there

-- two programs that behave the same end alike, where both end
pub end_alike : (p q : Program) → BehaveTheSame p q → IsEntry (code_of p) (codes "main") [] → IsOver (left_at p) → IsOver (left_at q) → left_at q ≡ left_at p
end_alike p q h e over again =
    alike (code_of p) (code_of q) (start (code_of p) (codes "main") [] [] []) (start (code_of q) (codes "main") [] [] []) most_steps
    (h.codes.runs (codes "main") [] e [] []) over again
