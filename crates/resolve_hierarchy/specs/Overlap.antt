-- When the types of two sigs have members that meet, as tables say it.
use Rattle.std.specs.Prelude.{ℕ, Bool, List, [], Option, Some, None, slice_get}
use Rattle.std.specs.List.{list_any}
use Rattle.std.specs.Option.{is_some}
use Rattle.resolve_types.specs.Types.{Lines, meet_of}
use Rattle.resolve_types.specs.declared.member.Member.{Member}

abbrev pub meets_one : Lines → Member → Member → Bool
meets_one lines m n = is_some (meet_of lines m n)

abbrev listed : Option (List Member) → List Member
listed None = []
listed (Some members) = members

abbrev pub members_at : List (List Member) → ℕ → List Member
members_at members sig = listed (slice_get members sig)

abbrev pub overlap_of : Lines → List (List Member) → ℕ → ℕ → Bool
overlap_of lines members a b = list_any (λ m. list_any (meets_one lines m) (members_at members b)) (members_at members a)
