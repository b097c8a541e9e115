use Rattle.cmd_words.proofs.run_lines.write_spent.Goals as goal

pub returns : goal.returns
returns g c = rw c.format.ensures.text at c.write_pieces.ensures
