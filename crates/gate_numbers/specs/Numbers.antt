-- Comparisons of integers, and integers that depend on a value.
use Rattle.std.specs.Prelude.{◌≡◌, Bool, ℤ, pos, ◌<ℤ◌, if◌then◌else◌}
use Rattle.core_tree.specs.declared.operators.Comparison.{Comparison}
use Rattle.core_tree.specs.declared.operators.Comparison.TheVariants.{Equal, Less, AtMost, Greater, AtLeast}

-- two integers compare so
abbrev pub AreSo : Comparison → ℤ → ℤ → Type 0
AreSo Equal a b = a ≡ b
AreSo Less a b = a <ℤ b
AreSo AtMost a b = ¬ (b <ℤ a)
AreSo Greater a b = b <ℤ a
AreSo AtLeast a b = ¬ (a <ℤ b)

-- the integer where the value is true, else 0
abbrev pub where_true : Bool → ℤ → ℤ
where_true b z = if b then z else pos 0
