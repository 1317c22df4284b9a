-- Comparisons of integers.
use Rattle.std.specs.Prelude.{◌≡◌, ◌<ℤ◌, ◌≤ℤ◌, ℤ}
use Rattle.core_tree.specs.declared.operators.Comparison.{Comparison}
use Rattle.core_tree.specs.declared.operators.Comparison.TheVariants.{Equal, Less, AtMost, Greater, AtLeast}

-- two integers compare as an operator asks
abbrev pub CompareOf : Comparison → ℤ → ℤ → Type 0
CompareOf Equal x y = x ≡ y
CompareOf Less x y = x <ℤ y
CompareOf AtMost x y = x ≤ℤ y
CompareOf Greater x y = y <ℤ x
CompareOf AtLeast x y = y ≤ℤ x
