-- Tests of membership, and what a merge of two sets keeps.
use Rattle.std.specs.Prelude.{ℕ, ◌-◌, ◌==◌, ◌&&◌, Bool, true, false, List, [], ◌∷◌, ◌++◌, length, take, drop, slice_index}
use Rattle.std.specs.declared.cmp.Ordering.{Ordering}
use Rattle.std.specs.declared.cmp.Ordering.TheVariants.{Less, Equal, Greater}
use Rattle.std.specs.List.{list_any}
use Rattle.core_tuples.specs.Sets.{tuple_cmp, is_same}
use Rattle.core_tuples.specs.declared.merge.Kept.{Kept}

-- whether the tuple is in the list
abbrev pub has : List (List ℕ) → List ℕ → Bool
has ts t = list_any (λ y. is_same y t) ts

-- whether a tuple is kept that is or isn't in the first set, and is or isn't in the second
abbrev pub keeps : Kept → Bool → Bool → Bool
keeps kept true true = kept.both
keeps kept true false = kept.first
keeps kept false true = kept.second
keeps kept false false = false

-- which of two lists has the lower first tuple; an empty one counts as above all tuples
abbrev pub heads : List (List ℕ) → List (List ℕ) → Ordering
heads [] [] = Equal
heads [] (y ∷ ys) = Greater
heads (x ∷ xs) [] = Less
heads (x ∷ xs) (y ∷ ys) = tuple_cmp x y

-- a tuple's last number, and the numbers before it
abbrev pub last_of : List ℕ → ℕ
last_of t = slice_index t (length t - 1)

abbrev pub front_of : List ℕ → List ℕ
front_of t = take (length t - 1) t

-- whether a tuple and one that begins with its last number make a tuple that passes the test
abbrev pub any_joined : (List ℕ → Bool) → List (List ℕ) → List (List ℕ) → Bool
any_joined p xs ys = list_any (λ s. list_any (λ u. (slice_index u 0 == last_of s) && p (front_of s ++ drop 1 u)) ys) xs

-- whether a tuple followed by another makes a tuple that passes the test
abbrev pub any_paired : (List ℕ → Bool) → List (List ℕ) → List (List ℕ) → Bool
any_paired p xs ys = list_any (λ s. list_any (λ u. p (s ++ u)) ys) xs
