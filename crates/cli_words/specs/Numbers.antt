-- Decimals among the words: which texts they are, and which number each is.
use Rattle.std.specs.Prelude.{ℕ, ◌^◌, ◌&&◌, Bool, cond, List, Option, Some, None, length, nat_lt}
use Rattle.std.specs.List.{list_all}
use Rattle.std.specs.Char.{digit_value}
use Rattle.std.specs.Str.Parse.{digits_value, without_leading_plus}

-- one digit or more, and nothing else
abbrev pub is_numeral : List ℕ → Bool
is_numeral digits = nat_lt 0 (length digits) && list_all (λ d. nat_lt (digit_value d) 10) digits

-- the number of a decimal below 2 to the power of `bits`; a plus may stand before it
abbrev pub number_in : ℕ → List ℕ → Option ℕ
number_in bits text =
    let digits = without_leading_plus text in
    cond (is_numeral digits && nat_lt (digits_value 10 digits) (2 ^ bits)) (Some (digits_value 10 digits)) None
