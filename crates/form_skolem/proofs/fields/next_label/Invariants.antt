use Rattle.std.proofs.Common.{ℕ, ◌≤◌, ◌<◌, ◌++◌, ◌∷◌}
use Rattle.std.specs.Prelude.{decimal, Contains}
use Rattle.form_skolem.specs.Opened.{labels}
use Rattle.form_skolem.proofs.fields.next_label.Given as goal

abbrev pub invariant-loop-number : goal.invariant-loop-number
invariant-loop-number l = (m : ℕ) → 2 ≤ m → m < l.number → Contains (labels l.sigs l.fields) (l.first ++ 36 ∷ decimal m)
