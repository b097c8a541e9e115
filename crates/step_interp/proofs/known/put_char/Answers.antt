use Rattle.std.proofs.Common.{[], ◌∷◌, ◌++◌, subst}
use Rattle.jump_meaning.specs.Known.{write_byte}
use Rattle.jump_meaning.specs.Values.{Byte}
use Rattle.step_memory.specs.Stores.{names_of}
use Rattle.step_interp.specs.Moves.{StandsFor}
use Rattle.step_interp.specs.Calls.{settled}
use Rattle.step_interp.proofs.SettledLemmas.{wrote_byte}
use Rattle.step_interp.proofs.known.put_char.Goals as goal

pub returns-clause-ok : goal.returns-clause-ok
returns-clause-ok c w h =
    let old = c.args.machine.now in
    subst (λ b. StandsFor (settled old (write_byte b w)) c.give_byte.new.machine w.input (w.events ++ Byte c.first_byte-byte.result ∷ []))
    (c.first_byte-byte.ensures (names_of old.store))
    (wrote_byte old c.give_byte.new.machine c.first_byte-byte.result w c.in_ok-give_byte.ensures.ok h)
