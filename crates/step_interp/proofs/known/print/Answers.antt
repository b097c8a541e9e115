use Rattle.std.proofs.Common.{pos, map, ◌++◌, subst}
use Rattle.c_types.specs.declared.kinds.IntKind.TheVariants.{Int}
use Rattle.c_types.specs.Numbers.{converted}
use Rattle.jump_meaning.specs.Known.{write_bytes}
use Rattle.jump_meaning.specs.Values.{Byte}
use Rattle.step_memory.specs.Stores.{names_of}
use Rattle.step_interp.specs.Machines.{IsGiven}
use Rattle.step_interp.specs.Moves.{StandsFor}
use Rattle.step_interp.specs.Calls.{settled}
use Rattle.step_interp.proofs.SettledLemmas.{wrote_bytes}
use Rattle.step_interp.proofs.known.print.Goals as goal

pub returns-clause-ok : goal.returns-clause-ok
returns-clause-ok c w h =
    let old = c.args.machine.now in
    subst (λ bs. StandsFor (settled old (write_bytes bs w)) c.give_count.new.machine w.input (w.events ++ map Byte c.in_ok-text.text))
    (c.in_ok-text.ensures (names_of old.store))
    (wrote_bytes old c.give_count.new.machine c.in_ok-text.text w
    (subst (λ n. IsGiven (converted Int (pos n)) old c.give_count.new.machine) c.len.ensures.value c.in_ok-give_count.ensures.ok) h)
