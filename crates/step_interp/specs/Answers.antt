-- What `run` answers, against the run of the jump meaning.
use Rattle.std.specs.Prelude.{ℕ, zero, suc, ◌<◌, ◌≤◌, ◌≡◌, List, [], ◌++◌, length, take, Option, Some}
use Rattle.c_tree.specs.declared.tree.Program.{Program}
use Rattle.rg_ports.specs.Written.{Written, more}
use Rattle.jump_meaning.specs.Values.{Event}
use Rattle.jump_meaning.specs.Code.{Code, code_of}
use Rattle.jump_meaning.specs.Behaviour as B
use Rattle.jump_meaning.specs.Behaviour.{events_of}
use Rattle.jump_meaning.specs.Step.{State, At, step}
use Rattle.jump_meaning.specs.Runs.{run, shows, start, jump_run, TakesSteps}
use Rattle.step_interp.specs.declared.entry.Entry.{Entry}
use Rattle.step_interp.specs.declared.runs.RunAnswer.{RunAnswer}
use Rattle.step_interp.specs.declared.runs.RunAnswer.TheVariants.{Ended, Trapped, Spent, ReadFault, WriteFault, Memory}
use Rattle.step_interp.specs.Shown.{bytes_in}
use Rattle.step_interp.specs.Steps.{IsReading}

-- the events so far in a state
abbrev pub events_in : State → List Event
events_in c = events_of (shows c)

-- the bytes that a run has written in a state
abbrev pub output_of : State → List ℕ
output_of c = bytes_in (events_in c)

-- the input that is left in a state, where `before` was left: a state that is over reads nothing
abbrev pub left_in : State → List ℕ → List ℕ
left_in (At f g k v cs w) before = w.input
left_in _ before = before

-- the input that is left after n steps
abbrev pub input_after : Code → ℕ → State → List ℕ → List ℕ
input_after P zero c before = left_in c before
input_after P (suc n) c before = input_after P n (step P c) (left_in c before)

-- a run of a program from a state, on an input, towards a sink that told this
pub record Beginning : Type 0 where
  pub code : Code
  pub first : State
  pub input : List ℕ
  pub told : Written

-- the state after n steps
abbrev pub after : Beginning → ℕ → State
after r n = run r.code n r.first

-- after n steps: the sink was given the output so far, and the source has the input that is left
pub record StandsAt (r : Beginning) (n : ℕ) (written : Written) (left : Option (List ℕ)) : Type 0 where
  pub output : written ≡ more r.told (output_of (after r n))
  pub input : left ≡ Some (input_after r.code n r.first r.input)

-- the run ended, or met a trap, after n steps and not before
pub record IsOverAt (r : Beginning) (s : List Event → B.Shown) (budget n : ℕ) (written : Written) (left : Option (List ℕ)) : Type 0 where
  pub within : n ≤ budget
  pub steps : TakesSteps (λ m. shows (after r m)) n
  pub ends : shows (after r n) ≡ s (events_in (after r n))
  pub stands : StandsAt r n written left

-- the run goes on after n steps
pub record GoesOnAt (r : Beginning) (n : ℕ) : Type 0 where
  pub events : List Event
  pub goes : shows (after r n) ≡ B.More events

pub record IsSpentAt (r : Beginning) (budget : ℕ) (written : Written) (left : Option (List ℕ)) : Type 0 where
  pub goes : GoesOnAt r budget
  pub stands : StandsAt r budget written left

pub record IsStoppedAt (r : Beginning) (budget n : ℕ) (written : Written) (left : Option (List ℕ)) : Type 0 where
  pub within : n ≤ budget
  pub stands : StandsAt r n written left

-- the step after n steps is a call of `getchar`, whose read failed
pub record CannotReadAt (r : Beginning) (budget n : ℕ) (written : Written) (left : Option (List ℕ)) : Type 0 where
  pub within : n < budget
  pub goes : GoesOnAt r n
  pub reading : IsReading r.code (after r n)
  pub stands : StandsAt r n written left

-- the step after n steps has bytes, of which a proper prefix was written too
pub record CannotWriteAt (r : Beginning) (budget n : ℕ) (written : Written) (left : Option (List ℕ)) : Type 0 where
  pub within : n < budget
  pub goes : GoesOnAt r n
  pub bytes : List ℕ
  pub next : output_of (after r (suc n)) ≡ output_of (after r n) ++ bytes
  pub count : ℕ
  pub short : count < length bytes
  pub output : written ≡ more r.told (output_of (after r n) ++ take count bytes)
  pub input : left ≡ Some (input_after r.code n r.first r.input)

-- answer by answer
abbrev pub Answers : Beginning → ℕ → RunAnswer → Written → Option (List ℕ) → Type 0
Answers r budget (Ended z n) written left = IsOverAt r (B.Ended z) budget n written left
Answers r budget (Trapped t n) written left = IsOverAt r (B.Trapped t) budget n written left
Answers r budget Spent written left = IsSpentAt r budget written left
Answers r budget ReadFault written left = (n : ℕ) × CannotReadAt r budget n written left
Answers r budget WriteFault written left = (n : ℕ) × CannotWriteAt r budget n written left
Answers r budget Memory written left = (n : ℕ) × IsStoppedAt r budget n written left

-- the run of an entry of a program, with no answers
abbrev pub beginning : Program → Entry → List ℕ → Written → Beginning
beginning p e input told = record {
  code = code_of p;
  first = start (code_of p) e.function e.arguments input [];
  input = input;
  told = told;
}

-- over a source that tells its bytes
abbrev pub AnswersOver : Program → Entry → ℕ → RunAnswer → Option (List ℕ) → Option (List ℕ) → Written → Written → Type 0
AnswersOver p e budget answer rest left told written = (input : List ℕ) → rest ≡ Some input → Answers (beginning p e input told) budget answer written left

-- ---- completeness

-- the answer is what the run shows once all steps are made; want of memory is free
abbrev pub Agrees : RunAnswer → B.Shown → Type 0
Agrees (Ended z n) s = (es : List Event) × (s ≡ B.Ended z es)
Agrees (Trapped t n) s = (es : List Event) × (s ≡ B.Trapped t es)
Agrees Spent s = (es : List Event) × (s ≡ B.More es)
Agrees Memory s = Unit {0}
Agrees _ s = ⊥

-- the answer is what the run shows over a source that tells its bytes
abbrev pub AgreesOver : Program → Entry → ℕ → RunAnswer → Option (List ℕ) → Type 0
AgreesOver p e budget answer rest = (input : List ℕ) → rest ≡ Some input → Agrees answer (jump_run (code_of p) e.function e.arguments input [] budget)
