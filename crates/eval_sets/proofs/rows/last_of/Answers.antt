use Rattle.std.proofs.Common.{◌≡◌, ◌++◌, ◌∷◌, [], ℕ, List, length, ◌-◌, get_or, arith, refl, subst}
use Rattle.eval_sets.proofs.RowLaw.{last_answer}
use Rattle.eval_sets.proofs.rows.last_of.Goals as goal

pub returns : goal.returns
returns c =
    let n = c.numbers-numbers.result.now in
    let x = get_or n (length n - 1) 0 in
    subst (λ (t : List ℕ). (r : List ℕ) × (t ≡ r ++ x ∷ [])) c.numbers-numbers.ensures.same (last_answer n (length n) x 0 refl (omega arith) refl)
