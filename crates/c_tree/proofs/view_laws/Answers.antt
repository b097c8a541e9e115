use Rattle.c_tree.proofs.Views as V
use Rattle.c_tree.proofs.view_laws.Goals as goal

pub returns : goal.returns
returns c = V.view_laws
