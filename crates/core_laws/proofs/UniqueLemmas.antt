-- Lemmas for the law that a set has one number of tuples, and stands for one integer.
use Rattle.std.specs.Prelude.{◌≡◌, List, [], ◌∷◌, ℤ, pos}
use Rattle.std.proofs.Common.{sym, ap, ◌∙◌}
use Rattle.core_meaning.specs.Integers.{wrap}
use Rattle.core_meaning.specs.World.{World, integer_of, IsInteger}
use Rattle.core_meaning.specs.Operators.{Tuples, IsListOf, IsCount, IsNumber}
use Rattle.core_laws.proofs.ListedLemmas.{once, SameMembers, same_length, same_sum}

listed_same : {X : Type 0} (In : X → Type 0) (xs ys : List X) → IsListOf In xs → IsListOf In ys → SameMembers xs ys
listed_same In xs ys a b z = ((λ c. (b.all_and_only z).1 ((a.all_and_only z).0 c)), (λ c. (a.all_and_only z).1 ((b.all_and_only z).0 c)))

pub count_once : (w : World) (A : Tuples) (n m : ℤ) → IsCount w A n → IsCount w A m → n ≡ m
count_once w A n m (ts, a, e) (us, b, f) =
    e ∙ ap (λ k. wrap w.bits (pos k)) (same_length ts us (once ts a.distinct) (once us b.distinct) (listed_same A ts us a b)) ∙ sym f

pub number_once : (w : World) (A : Tuples) (n m : ℤ) → IsNumber w A n → IsNumber w A m → n ≡ m
number_once w A n m (xs, a, e) (ys, b, f) =
    e ∙ ap (λ s. wrap w.bits s) (same_sum (integer_of w) xs ys (once xs a.distinct) (once ys b.distinct) (listed_same (λ x. IsInteger w x × A (x ∷ [])) xs ys a b)) ∙ sym f
