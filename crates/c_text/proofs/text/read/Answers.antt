use Rattle.c_text.proofs.Readings.{program_back_of}
use Rattle.c_text.proofs.Readings.{refused_back}
use Rattle.c_text.proofs.Resolved.{are_bytes, resolved_of}
use Rattle.c_text.proofs.text.read.Goals as goal

pub returns-clause-resolved : goal.returns-clause-resolved
returns-clause-resolved c = resolved_of c.args.text.now c.read.result (are_bytes c.args.text.now c.type_inv.text) c.read.ensures.value c.read.ensures.few

pub returns-clause-fault_back : goal.returns-clause-fault_back
returns-clause-fault_back c = refused_back c.args.text.now

pub returns-clause-program_back : goal.returns-clause-program_back
returns-clause-program_back c = program_back_of c.args.text.now c.read.result c.read.ensures.value
