use Rattle.c_lexer.proofs.Theorem.{comments_fault_back}
use Rattle.c_lexer.proofs.read.comments.Goals as goal

pub returns-in_err-scanned-clause-fault_back : goal.returns-in_err-scanned-clause-fault_back
returns-in_err-scanned-clause-fault_back c = comments_fault_back c.args.text.now

pub returns-clause-fault_back : goal.returns-clause-fault_back
returns-clause-fault_back c = comments_fault_back c.args.text.now
