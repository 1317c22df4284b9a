-- What holds of each good result holds of a result, want of memory aside.
use Rattle.std.proofs.Common.{Result, Ok, Err, IfOk}

pub if_ok : {X E : Type 0} (P Q : X → Type 0) → ((x : X) → P x → Q x) → (r : Result X E) → IfOk r P → IfOk r Q
if_ok P Q step (Ok x) p = step x p
if_ok P Q step (Err e) p = tt
