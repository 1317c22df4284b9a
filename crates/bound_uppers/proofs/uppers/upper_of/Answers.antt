use Rattle.std.proofs.Common.{◌≡◌, ◌∷◌, [], ℕ, List, subst}
use Rattle.core_tuples.specs.Sets.{HasJust}
use Rattle.bound_uppers.specs.AtomSets.{InRows}
use Rattle.bound_uppers.proofs.Sketching.{by_atom, by_rows}
use Rattle.bound_uppers.proofs.uppers.upper_of.Goals as goal

pub returns-in_ok-set-in-Some : goal.returns-in_ok-set-in-Some
returns-in_ok-set-in-Some c =
    let made = subst (λ (rows : List (List ℕ)). HasJust c.in_ok-set-in-Some.set 1 (λ t. InRows c.args.sets.now rows t × (t ≡ c.in-Some.atom ∷ []))) c.deref.ensures.value c.in_ok-set-in-Some.ensures in
    by_atom c.args.sets.now c.args.sketch.now c.in-Some.atom c.in_ok-set-in-Some.set c.requires.right c.in-Some.is made

pub returns-in_ok-set-in-None : goal.returns-in_ok-set-in-None
returns-in_ok-set-in-None c =
    let made = subst (λ (rows : List (List ℕ)). HasJust c.in_ok-set-in-None.set c.args.sketch.now.arity (InRows c.args.sets.now rows)) c.deref-in-None.ensures.value c.in_ok-set-in-None.ensures in
    by_rows c.args.sets.now c.args.sketch.now c.in_ok-set-in-None.set c.in-None.is made
