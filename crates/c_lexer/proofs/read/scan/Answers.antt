use Rattle.c_lexer.proofs.Bounds.{tokens_bound, comments_bound}
use Rattle.c_lexer.proofs.Theorem.{scan_reading, scan_read_back, scan_fault_back}
use Rattle.c_lexer.proofs.read.scan.Goals as goal

pub returns-clause-pieces : goal.returns-clause-pieces
returns-clause-pieces c = scan_reading c.args.text.now

pub returns-clause-read_back : goal.returns-clause-read_back
returns-clause-read_back c = scan_read_back c.args.text.now

pub returns-clause-tokens_within : goal.returns-clause-tokens_within
returns-clause-tokens_within c = tokens_bound c.args.text.now c.scan_pieces.result c.scan_pieces.ensures

pub returns-clause-comments_within : goal.returns-clause-comments_within
returns-clause-comments_within c = comments_bound c.args.text.now c.scan_pieces.result c.scan_pieces.ensures

pub returns-clause-fault_back : goal.returns-clause-fault_back
returns-clause-fault_back c = scan_fault_back c.args.text.now
