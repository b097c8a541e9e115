use Rattle.std.proofs.Common.{◌∙◌, sym, ap, refl}
use Rattle.step_memory.specs.Stores.{names_of}
use Rattle.step_memory.specs.Values.{values_of}
use Rattle.step_interp.proofs.SettledLemmas.{declared_gives, declared_traps}
use Rattle.step_interp.proofs.known.without_answer.Goals as goal

pub returns-clause-ok : goal.returns-clause-ok
returns-clause-ok c m f vs e w h =
    let old = c.args.machine.now in
    declared_gives m f vs old (record old { call = record old.call { values = c.push.new.self } }) w (sym e ∙ c.if-gives.false)
    (ap (values_of (names_of old.store)) c.in_ok-push.ensures.ok) refl h

pub returns-then-gives-clause-ok : goal.returns-then-gives-clause-ok
returns-then-gives-clause-ok c m f vs e w h =
    declared_traps m f vs c.args.machine.now w (sym e ∙ c.if-gives.true) h
