-- The runs of a program and of what it is restructured to.
use Rattle.std.proofs.Common.{◌≡◌, ℕ, ℤ, List, [], codes, inl, inr, refl, sym, ap, subst, ◌∙◌}
use Rattle.c_types.specs.declared.trap.Trap.{Trap}
use Rattle.c_tree.specs.declared.tree.Program.{Program}
use Rattle.demo_gen.specs.DemoText.{demo_text}
use Rattle.jump_meaning.specs.Behaviour.{Shown, Ended, Trapped}
use Rattle.jump_meaning.specs.Code.{code_of}
use Rattle.jump_meaning.specs.Runs.{IsEntry, IsOver, BehaveTheSame}
use Rattle.jump_meaning.specs.Values.{Event}
use Rattle.c_resolved_laws.specs.Counts.{IsResolved}
use Rattle.regoto.specs.Runnable.{IsRunnable}
use Rattle.c_text.specs.Reading.{IsProgramOf}
use Rattle.regoto.proofs.RunMains.{enters}
use Rattle.move_driver.specs.Text.{Output, IsTextRestructured, IsOnlyOutput}
use Rattle.regoto.specs.declared.alone.End.{End}
use Rattle.regoto.specs.declared.alone.Stop.{Stop}
use Rattle.regoto.specs.declared.alone.Stop.TheVariants as stop
use Rattle.regoto.specs.DemoRuns.{left_at, IsEnd, IsStop}
use Rattle.regoto.specs.Demos.{Demo, IsShown, StopsAt}
use Rattle.regoto.proofs.DemoSame.{same}
use Rattle.regoto.proofs.DemoAlike.{end_alike}

-- the text of n functions has program p, it is restructured to this, and that has program q
pub record Both (n : ℕ) (p q : Program) (made : Output) : Type 0 where
  pub reads : IsProgramOf (demo_text n) p
  pub runnable : IsRunnable p
  pub restructured : IsTextRestructured (demo_text n) made
  pub only : IsOnlyOutput (demo_text n) made
  pub reads_result : IsProgramOf made.text q
  pub behave : BehaveTheSame p q
  pub entry : IsEntry (code_of p) (codes "main") []

-- of the text at hand, and of the slice that was read again
pub both : (n : ℕ) (t u : List ℕ) (p q : Program) (made : Output) → t ≡ demo_text n → u ≡ made.text → IsProgramOf t p → IsResolved p → IsRunnable p
    → IsTextRestructured t made → IsOnlyOutput t made → IsProgramOf u q → Both n p q made
both n t u p q made text slice reads resolved can w only again =
    let read = subst (λ x. IsProgramOf x p) text reads in
    let written = subst (λ x. IsTextRestructured x made) text w in
    let result = subst (λ x. IsProgramOf x q) slice again in
    record {
      reads = read;
      runnable = can;
      restructured = written;
      only = subst (λ x. IsOnlyOutput x made) text only;
      reads_result = result;
      behave = same (demo_text n) made p q resolved read written result;
      entry = enters p resolved can.main;
    }

over_of : (s : Shown) (end : End) → IsEnd s end → IsOver s
over_of s end h = subst IsOver (sym h.ended) tt

-- no run ends where another of the same behaviour meets a trap
apart : (s s' : Shown) (v : ℤ) (es fs : List Event) (trap : Trap) → s' ≡ s → s ≡ Ended v es → s' ≡ Trapped trap fs → ⊥
apart s s' v es fs trap e f g = let both : Ended v es ≡ Trapped trap fs = sym f ∙ sym e ∙ g in cc

module _ (n : ℕ) (p q : Program) (made : Output) (b : Both n p q made) where
  abbrev the_demo : Demo n
  the_demo = record {
    program = p;
    reads = b.reads;
    runnable = b.runnable;
    output = made;
    restructured = b.restructured;
    only = b.only;
    result = q;
    reads_result = b.reads_result;
  }

  -- the second run may begin
  pub result_enters : IsEntry (code_of q) (codes "main") []
  result_enters = (b.behave.codes.entries (codes "main") []).0 b.entry

  -- the first run stopped
  pub source_stops : (s : Stop) → IsStop (left_at p) s → StopsAt n s
  source_stops (stop.Trapped trap) h = record { demo = the_demo; source = h }
  source_stops stop.Spent h = record { demo = the_demo; goes = inl h }
  source_stops stop.Memory h = tt

  module _ (end : End) (ended : IsEnd (left_at p) end) where
    alike : IsOver (left_at q) → left_at q ≡ left_at p
    alike over = end_alike p q b.behave b.entry (over_of (left_at p) end ended) over

    -- the first run ended, and the second stopped: it met no trap
    pub result_stops : (s : Stop) → IsStop (left_at q) s → StopsAt n s
    result_stops (stop.Trapped trap) h =
        absurd (apart (left_at p) (left_at q) end.value ended.events h.0 trap (alike (subst IsOver (sym h.1) tt)) ended.ended h.1)
    result_stops stop.Spent h = record { demo = the_demo; goes = inr ((end.value, ended.events, ended.ended), h) }
    result_stops stop.Memory h = tt

    -- both ended, so alike
    pub both_end : (other : End) (value : ℤ) → value ≡ end.value → IsEnd (left_at q) other → IsShown n (record {
      functions = n;
      jumps = made.counts.jumps;
      moves = made.counts.moves;
      guards = made.counts.guards;
      bytes = end.bytes;
      value = value;
    })
    both_end other value same_value h =
        let first : left_at p ≡ Ended value ended.events = ended.ended ∙ ap (λ z. Ended z ended.events) (sym same_value) in
        record {
          demo = the_demo;
          events = ended.events;
          source = first;
          result = alike (over_of (left_at q) other h) ∙ first;
          functions = refl;
          jumps = refl;
          moves = refl;
          guards = refl;
          bytes = ended.bytes;
        }
