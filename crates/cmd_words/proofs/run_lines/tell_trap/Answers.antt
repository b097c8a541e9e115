use Rattle.cmd_words.proofs.Told.{tells_of}
use Rattle.cmd_words.proofs.run_lines.tell_trap.Goals as goal

pub returns : goal.returns
returns g c = tells_of _ _ _ _ _ c.write_trap-whole.result (rw (c.number.ensures, c.text.ensures) at c.write_trap-whole.ensures)
