-- A run on a source with nothing in it, towards a sink that counts.
use Rattle.std.proofs.Common.{◌≡◌, ℕ, ℤ, ◌+◌, List, [], length, Option, Some, codes, inl, inr, refl, sym, ap, subst, ◌∙◌, arith}
use Rattle.std.specs.Prelude.{min}
use Rattle.c_tree.specs.declared.tree.Program.{Program}
use Rattle.jump_meaning.specs.Behaviour.{Covers}
use Rattle.jump_meaning.specs.Behaviour as B
use Rattle.jump_meaning.specs.Code.{code_of}
use Rattle.jump_meaning.specs.Runs.{jump_run}
use Rattle.jump_meaning.proofs.RunFacts.{run_grows}
use Rattle.rg_ports.specs.Count.{Rose}
use Rattle.rg_ports.specs.Written.{Written, Counted}
use Rattle.regoto.specs.Runnable.{main_entry}
use Rattle.step_interp.specs.Shown.{bytes_in}
use Rattle.step_interp.specs.declared.entry.Entry.{Entry}
use Rattle.step_interp.specs.declared.runs.RunAnswer.{RunAnswer}
use Rattle.step_interp.specs.declared.runs.RunAnswer.TheVariants as answer
use Rattle.step_interp.specs.Answers.{AnswersOver, Agrees, AgreesOver, IsOverAt, beginning, after, events_in}
use Rattle.regoto.specs.DemoRuns.{most_steps, left_at, IsEnd}

-- a count that stays at 0 didn't rise
pub still : Rose 0 0 → ⊥
still h = elim h [ inl up ↦ omega arith | inr last ↦ omega arith ]

count_of : (m n : ℕ) → Counted m ≡ Counted (min (0 + n) 18446744073709551615) → m ≡ min n 18446744073709551615
count_of m n e = let same : m ≡ min (0 + n) 18446744073709551615 = cc in omega (arith, same)

module _ (p : Program) (e : Entry) (budget : ℕ) (entry : e ≡ main_entry) (steps : budget ≡ most_steps) where
  -- how it was left is what is answered
  pub agreed : (a : RunAnswer) → AgreesOver p e budget a (Some []) → Agrees a (left_at p)
  agreed a h =
      let main = subst (λ x. AgreesOver p x budget a (Some [])) entry h in
      subst (λ n. Agrees a (jump_run (code_of p) (codes "main") [] [] [] n)) steps (main [] refl)

  over : (value : ℤ) (n : ℕ) (left : Option (List ℕ)) (told written : Written) → AnswersOver p e budget (answer.Ended value n) (Some []) left told written
      → IsOverAt (beginning p main_entry [] told) (B.Ended value) most_steps n written left
  over value n left told written h =
      let main = subst (λ x. AnswersOver p x budget (answer.Ended value n) (Some []) left told written) entry h in
      subst (λ b. IsOverAt (beginning p main_entry [] told) (B.Ended value) b n written left) steps (main [] refl)

  -- the value and the bytes of a run that ended
  pub ended : (value v : ℤ) (n bytes before now : ℕ) (left : Option (List ℕ)) → v ≡ value → before ≡ 0 → bytes ≡ now
      → AnswersOver p e budget (answer.Ended value n) (Some []) left (Counted before) (Counted now) → IsEnd (left_at p) (record { value = v; bytes = bytes })
  ended value v n bytes before now left same none count h =
      let from : AnswersOver p e budget (answer.Ended value n) (Some []) left (Counted 0) (Counted now) =
      subst (λ k. AnswersOver p e budget (answer.Ended value n) (Some []) left (Counted k) (Counted now)) none h in
      let o = over value n left (Counted 0) (Counted now) from in
      let first = (beginning p main_entry [] (Counted 0)).first in
      let es = events_in (after (beginning p main_entry [] (Counted 0)) n) in
      let at : left_at p ≡ B.Ended value es = subst (λ s. Covers s (left_at p)) o.ends (run_grows (code_of p) n most_steps first o.within) in
      record {
        events = es;
        ended = at ∙ ap (λ z. B.Ended z es) (sym same);
        bytes = count ∙ count_of now (length (bytes_in es)) o.stands.output;
      }
