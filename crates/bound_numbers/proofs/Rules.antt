-- Tables that were tested by lists are those of the rules.
use Rattle.std.proofs.Common.{◌≡◌, ℕ, ◌+◌, ◌<◌, ◌==◌, Bool, false, if◌then◌else◌, List, [], ◌∷◌, ◌++◌, length, Some, slice_get, refl, ap, ◌∙◌, arith}
use Rattle.std.proofs.lemmas.Bool.{ne_eqb}
use Rattle.std.proofs.lemmas.Option.{slice_get_within}
use Rattle.core_tree.specs.declared.model.Sig.{Sig}
use Rattle.core_tree.specs.declared.model.SigKind.{SigKind}
use Rattle.core_tree.specs.declared.model.SigKind.TheVariants.{Top, Extends, Subset}
use Rattle.core_tree.specs.declared.model.ScopeEntry.{ScopeEntry}
use Rattle.core_meaning.specs.declared.scopes.SigScope.{SigScope}
use Rattle.bound_definitions.specs.declared.known.Known.{Known}
use Rattle.bound_definitions.specs.Numbers.{Table, unknown, sum_of, or_else, own_of, placed, of_children, children, listed_for, overall_in, exact_sum, by_place, scope_of, AreSums, AreNumbers}
use Rattle.bound_numbers.specs.declared.families.Family.{Family}
use Rattle.bound_numbers.specs.Listed.{AreListed}
use Rattle.bound_numbers.specs.Tables.{table_of, family_at, family_of, of_family, of_parent, summed, number_by, AreFamilies, AreTestedSums, AreTestedNumbers}
use Rattle.bound_numbers.proofs.Places.{front_more, here_at, get_kept, get_new}

family_children : (d : Sig) (table : Table) (l : List ℕ) → of_family d.is_abstract (family_of table l) ≡ of_children d table l
family_children d table [] = refl
family_children d table (c ∷ cs) =
    let e : (length (c ∷ cs) == 0) ≡ false = ne_eqb (length (c ∷ cs)) 0 (λ h. absurd (omega (arith, h))) in
    ap (λ (b : Bool). if b then unknown else (if d.is_abstract then sum_of table (c ∷ cs) else unknown)) e

place_parent : (table : Table) (sigs : List Sig) (entries : List ScopeEntry) (sums : Table) (s : ℕ) (k : SigKind) → placed (overall_in entries) (exact_sum sums (children sigs s)) (of_parent table k) k ≡ by_place sigs entries sums table s k
place_parent table sigs entries sums s Top = refl
place_parent table sigs entries sums s (Extends p) = refl
place_parent table sigs entries sums s (Subset ps) = refl

pub sums_are : (sigs : List Sig) (entries : List ScopeEntry) (listed : List Known) (families : List Family) (sums : List Known) → length listed ≡ length sigs → length families ≡ length sigs → AreListed entries listed → AreFamilies sigs (table_of sums) families → AreTestedSums sigs listed families sums → AreSums sigs entries (table_of sums)
sums_are sigs entries listed families sums long wide is_listed is_family tested s d at =
    let within = slice_get_within sigs s d at in
    tested s d at ∙ ap (λ (k : Known). summed d k (family_at families s)) (is_listed s (omega (arith, within, long))) ∙ ap (λ (f : Family). summed d (listed_for entries s) f) (is_family s (omega (arith, within, wide)))
    ∙ ap (λ (k : Known). or_else (own_of d (listed_for entries s) (length (children sigs s))) k) (family_children d (table_of sums) (children sigs s))

pub numbers_are : (sigs : List Sig) (entries : List ScopeEntry) (overall : ℕ) (families : List Family) (sums : List Known) (numbers : Table) → length families ≡ length sigs → overall ≡ overall_in entries → AreFamilies sigs (table_of sums) families → AreTestedNumbers sigs overall families sums numbers → AreNumbers sigs entries (table_of sums) numbers
numbers_are sigs entries overall families sums numbers wide is is_family tested s d at =
    let within = slice_get_within sigs s d at in
    tested s d at ∙ ap (λ (n : ℕ). number_by d.kind n (family_at families s) (table_of sums s) (of_parent numbers d.kind)) is ∙ ap (λ (f : Family). number_by d.kind (overall_in entries) f (table_of sums s) (of_parent numbers d.kind)) (is_family s (omega (arith, within, wide)))
    ∙ ap (or_else (table_of sums s)) (place_parent numbers sigs entries (table_of sums) s d.kind)

-- one scope more
pub scopes_more : (sigs : List Sig) (numbers : Table) (n : ℕ) (d : Sig) (known : Known) (scope : SigScope) (old new : List SigScope) → slice_get sigs n ≡ Some d → known ≡ numbers n → scope ≡ scope_of d known → length old ≡ n → new ≡ old ++ scope ∷ [] → ((k : ℕ) (x : Sig) → k < n → slice_get sigs k ≡ Some x → slice_get old k ≡ Some (scope_of x (numbers k))) → (k : ℕ) (x : Sig) → k < n + 1 → slice_get sigs k ≡ Some x → slice_get new k ≡ Some (scope_of x (numbers k))
scopes_more sigs numbers n d known scope old new item value is count e before =
    let last : slice_get new n ≡ Some (scope_of d (numbers n)) = get_new old new scope n e count ∙ ap Some (is ∙ ap (scope_of d) value) in
    front_more (λ k (x : Sig). slice_get new k ≡ Some (scope_of x (numbers k))) sigs n (λ k x lt at. get_kept old new scope (scope_of x (numbers k)) k e (before k x lt at))
    (here_at (λ (x : Sig). slice_get new n ≡ Some (scope_of x (numbers n))) sigs n d item last)
