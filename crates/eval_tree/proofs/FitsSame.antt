-- A set that is the same has the multiplicities of a bound's arrows as well.
use Rattle.std.specs.Prelude.{ℕ, ◌++◌}
use Rattle.core_tree.specs.Trees.{Term, sig, field, name, univ, iden, empty, int, combine, product, unary, prime, choose_term, comprehension, number, count, arithmetic, sum_over, let_term, call_term}
use Rattle.core_meaning.specs.World.{World}
use Rattle.core_meaning.specs.Operators.{Tuples}
use Rattle.core_meaning.specs.Meaning.{Names, Bodies, Fits}
use Rattle.core_window.proofs.SameLemmas.{multiplicity_same}
use Rattle.core_window.specs.Repeats.{SameTuples}

pub fits_to : (w : World) (B : Bodies) (e : Term) (names : Names) (i : ℕ) (E D : Tuples) → SameTuples E D → Fits w B e names i E → Fits w B e names i D
fits_to w B (product a m n b) names i E D same (f, g) = (
  (λ s in'. let (x, y) = f s in' in ((multiplicity_same n (λ u. E (s ++ u)) (λ u. D (s ++ u)) (λ u. same (s ++ u))).0 x, fits_to w B b names i (λ u. E (s ++ u)) (λ u. D (s ++ u)) (λ u. same (s ++ u)) y)),
  (λ u in'. let (x, y) = g u in' in ((multiplicity_same m (λ s. E (s ++ u)) (λ s. D (s ++ u)) (λ s. same (s ++ u))).0 x, fits_to w B a names i (λ s. E (s ++ u)) (λ s. D (s ++ u)) (λ s. same (s ++ u)) y)),
)
fits_to w B (sig s) names i E D same h = tt
fits_to w B (field f) names i E D same h = tt
fits_to w B (name x) names i E D same h = tt
fits_to w B univ names i E D same h = tt
fits_to w B iden names i E D same h = tt
fits_to w B empty names i E D same h = tt
fits_to w B int names i E D same h = tt
fits_to w B (combine op a b) names i E D same h = tt
fits_to w B (unary op a) names i E D same h = tt
fits_to w B (prime a) names i E D same h = tt
fits_to w B (choose_term f a b) names i E D same h = tt
fits_to w B (comprehension vs f) names i E D same h = tt
fits_to w B (number n place) names i E D same h = tt
fits_to w B (count a) names i E D same h = tt
fits_to w B (arithmetic op a b) names i E D same h = tt
fits_to w B (sum_over vs a) names i E D same h = tt
fits_to w B (let_term x a b) names i E D same h = tt
fits_to w B (call_term body es) names i E D same h = tt
