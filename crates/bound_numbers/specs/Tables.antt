-- Tables of sigs as lists, and what the sigs that extend one sig have together.
use Rattle.std.specs.Prelude.{◌≡◌, ℕ, ◌+◌, ◌<◌, ◌==◌, Bool, true, nat_lt, if◌then◌else◌, List, length, get_or, set, Some, slice_get}
use Rattle.core_tree.specs.declared.model.Sig.{Sig}
use Rattle.core_tree.specs.declared.model.SigKind.{SigKind}
use Rattle.core_tree.specs.declared.model.SigKind.TheVariants.{Top, Extends, Subset}
use Rattle.core_tree.specs.declared.model.ScopeEntry.{ScopeEntry}
use Rattle.core_meaning.specs.declared.scopes.SigScope.{SigScope}
use Rattle.bound_definitions.specs.declared.known.Known.{Known}
use Rattle.bound_definitions.specs.Numbers.{Table, unknown, known_as, or_else, together, number_where, own_of, placed, scope_of, children, sum_of, exact_sum, AreSums, AreNumbers}
use Rattle.bound_numbers.specs.declared.families.Family.{Family}

-- the table that a list gives; nothing is known beyond the list
abbrev pub table_of : List Known → Table
table_of list s = get_or list s unknown

abbrev pub no_family : Family
no_family = record { count = 0; sum = known_as 0 true; sure = 0 }

abbrev pub family_at : List Family → ℕ → Family
family_at list s = get_or list s no_family

-- what sigs have together
abbrev pub family_of : Table → List ℕ → Family
family_of table sigs = record { count = length sigs; sum = sum_of table sigs; sure = exact_sum table sigs }

-- a family and one sig more
abbrev pub with_child : Known → Family → Family
with_child child f = record { count = f.count + 1; sum = together child f.sum; sure = number_where child.exact child.number + f.sure }

-- the families with a sig more in that of the sig of a number, where there is one
abbrev pub added_at : List Family → ℕ → Known → List Family
added_at list s child = if nat_lt s (length list) then set list s (with_child child (get_or list s no_family)) else list

-- the families with a sig more of this kind
abbrev pub added_by : List Family → SigKind → Known → List Family
added_by list Top child = list
added_by list (Extends p) child = added_at list p child
added_by list (Subset ps) child = list

-- the family of each sig that a list has
abbrev pub AreFamilies : List Sig → Table → List Family → Type 0
AreFamilies sigs table families = (s : ℕ) → s < length families → family_at families s ≡ family_of table (children sigs s)

abbrev pub of_family : Bool → Family → Known
of_family is_abstract f = if f.count == 0 then unknown else (if is_abstract then f.sum else unknown)

-- the number of a sig by its own word, by the list of the command, or by its family
abbrev pub summed : Sig → Known → Family → Known
summed d listed f = or_else (own_of d listed f.count) (of_family d.is_abstract f)

abbrev pub AreTestedSums : List Sig → List Known → List Family → List Known → Type 0
AreTestedSums sigs listed families sums =
    (s : ℕ) (d : Sig) → slice_get sigs s ≡ Some d → table_of sums s ≡ summed d (table_of listed s) (family_at families s)

abbrev pub of_parent : Table → SigKind → Known
of_parent table Top = unknown
of_parent table (Extends p) = table p
of_parent table (Subset ps) = unknown

-- the number of a sig: the one that it has so far, or that of its place
abbrev pub number_by : SigKind → ℕ → Family → Known → Known → Known
number_by kind overall f sum parent = or_else sum (placed overall f.sure parent kind)

abbrev pub AreTestedNumbers : List Sig → ℕ → List Family → List Known → Table → Type 0
AreTestedNumbers sigs overall families sums numbers =
    (s : ℕ) (d : Sig) → slice_get sigs s ≡ Some d → numbers s ≡ number_by d.kind overall (family_at families s) (table_of sums s) (of_parent numbers d.kind)

-- what scopes say of each sig
abbrev pub AreScopesOf : List Sig → Table → List SigScope → Type 0
AreScopesOf sigs numbers list = (s : ℕ) (d : Sig) → slice_get sigs s ≡ Some d → slice_get list s ≡ Some (scope_of d (numbers s))

-- the numbers that the rules give
pub record AreNumbered (sigs : List Sig) (entries : List ScopeEntry) (list : List SigScope) : Type 0 where
  pub sums : Table
  pub numbers : Table
  pub are_sums : AreSums sigs entries sums
  pub are_numbers : AreNumbers sigs entries sums numbers
  pub each : AreScopesOf sigs numbers list
