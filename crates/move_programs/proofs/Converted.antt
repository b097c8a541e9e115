-- What the conversion of a function keeps.
use Rattle.std.proofs.Common.{◌≡◌, true, sym, subst}
use Rattle.c_tree.specs.declared.tree.Function.{Function}
use Rattle.guard_vars.specs.Conversion.{converted}
use Rattle.move_order_laws.specs.Exchanged.{KeepsBehaviour, IsConvertible}
use Rattle.move_order_laws.proofs.ProgramsConverted.{conversion_laws}

pub kept : (f g : Function) → g ≡ converted f → f.flat ≡ true → IsConvertible f → KeepsBehaviour f g
kept f g e flat c = subst (KeepsBehaviour f) (sym e) (conversion_laws.exchanged f flat c)
