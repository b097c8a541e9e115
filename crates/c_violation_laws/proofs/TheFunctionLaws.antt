-- The walk over a function finds the rules that are broken in it.
use Rattle.c_violation_laws.proofs.Scopes.{alike}
use Rattle.c_violation_laws.specs.FunctionLaws.{FunctionLaws}
use Rattle.std.proofs.Common.{◌+◌, subst, sym, arith}
use Rattle.c_reading_defs.specs.Symbols.{token_behind}
use Rattle.c_violation_laws.proofs.Scopes.{AreMaps}
use Rattle.c_violation_laws.proofs.Known.{Sees}
use Rattle.c_violation_laws.proofs.Ordered.{function as function_ordered}
use Rattle.c_violation_laws.proofs.Numbered.{function_apart}
use Rattle.c_violation_laws.proofs.FunctionFaults.{function}

pub function_laws : FunctionLaws
function_laws flat word notes at symbols f derives known scopes same =
    let order = function_ordered at symbols f derives in
    let sees : Sees known scopes (f.name + 1) (token_behind at symbols) =
    λ token g l. subst (λ z. AreMaps known z) (sym (same token (omega (arith, g)) l)) (alike known) in
    function word flat notes f (function_apart at symbols f derives) known scopes (f.name + 1) (token_behind at symbols) sees order.1.1
