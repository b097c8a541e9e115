-- What holds of a result holds with a weaker fact too.
use Rattle.std.proofs.Common.{Result, Ok, Err, IfOk}

pub if_ok_more : {A E : Type 0} (r : Result A E) (P Q : A → Type 0) → ((x : A) → P x → Q x) → IfOk r P → IfOk r Q
if_ok_more (Ok x) P Q h p = h x p
if_ok_more (Err e) P Q h p = p
