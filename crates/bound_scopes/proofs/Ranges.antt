-- Numbers in their ranges, and atoms that are few enough.
use Rattle.std.proofs.Common.{◌≡◌, ℕ, zero, suc, ◌+◌, ◌-◌, ◌<◌, ◌≤◌, nat_lt, ℤ, pos, negsuc, ◌≤ℤ◌, ◌<ℤ◌, Bool, true, false, not, ◌||◌, List, [], ◌∷◌, ◌++◌, map, sum, take, length, get_or, Option, Some, None, Contains, refl, sym, ap, ◌∙◌, subst, arith}
use Rattle.std.specs.Int.RustNames.{unsigned_abs}
use Rattle.std.proofs.lemmas.Bool.{false≢true, lt-ltb, le-ltb, ltb-true, ltb-false}
use Rattle.std.proofs.lemmas.Int.{ints}
use Rattle.std.proofs.lemmas.List.{take_more, map-append}
use Rattle.std.proofs.lemmas.List.Sums.{sum_by-cons, sum_by_push}
use Rattle.base_types.specs.declared.fault.Fault.{Fault}
use Rattle.base_types.specs.declared.fault.Fault.TheVariants.{Refused}
use Rattle.base_types.specs.declared.place.Rule.{Rule}
use Rattle.base_types.specs.declared.place.Position.{Position}
use Rattle.core_tree.specs.declared.model.Origin.{Origin}
use Rattle.core_tree.specs.declared.model.ScopeEntry.{ScopeEntry}
use Rattle.core_meaning.specs.declared.scopes.SigScope.{SigScope}
use Rattle.core_meaning.specs.Kept.{atoms_of_sig, atom_count}
use Rattle.bound_definitions.specs.Places.{place_if}
use Rattle.bound_definitions.specs.Rules.{in_root, outside, too_many_atoms}
use Rattle.bound_definitions.specs.Trees.{distance}
use Rattle.bound_definitions.proofs.Firsts.{whole}
use Rattle.bound_numbers.specs.Listed.{numbered_of, outside_of}
use Rattle.bound_scopes.specs.Limits.{IsAt, IsFaultOf}
use Rattle.bound_scopes.proofs.Answering.{one_first}

-- how far a number is from 0 and from -1
pub far_above : (z : ℤ) (m : ℕ) → pos 0 ≤ℤ z → m ≡ unsigned_abs z → m ≡ distance z
far_above (pos n) m le e = e
far_above (negsuc n) m le e = absurd (omega (arith, ints))

pub far_below : (z : ℤ) (m : ℕ) → z <ℤ pos 0 → m ≡ unsigned_abs z → m - 1 ≡ distance z
far_below (pos n) m lt e = absurd (omega (arith, ints))
far_below (negsuc n) m lt e = omega arith

-- the same of an entry and of its number with its place
pub outside_same : (limit : ℕ) (o : Option ScopeEntry) → outside limit o ≡ outside_of limit (numbered_of o)
outside_same limit None = refl
outside_same limit (Some e) = refl

not_true : (b : Bool) → not b ≡ true → b ≡ false
not_true true e = sym e
not_true false e = refl

not_false : (b : Bool) → not b ≡ false → b ≡ true
not_false true e = refl
not_false false e = sym e

or_left : (a b : Bool) → (a || b) ≡ false → a ≡ false
or_left true b e = e
or_left false b e = refl

or_right : (a b : Bool) → (a || b) ≡ false → b ≡ false
or_right true b e = absurd (false≢true (sym e))
or_right false b e = e

pub at_least : (n limit : ℕ) → (nat_lt n 1 || nat_lt limit n) ≡ false → 1 ≤ n
at_least n limit e = ltb-false n 1 (or_left (nat_lt n 1) (nat_lt limit n) e)

pub at_most : (n limit : ℕ) → (nat_lt n 1 || nat_lt limit n) ≡ false → n ≤ limit
at_most n limit e = ltb-false limit n (or_right (nat_lt n 1) (nat_lt limit n) e)

-- a refusal at the only place
pub one_refused : (rule : Rule) (places : List Origin) (e : Fault) → (at : Origin) × (places ≡ at ∷ []) × (e ≡ Refused (record { rule = rule; place = at.place })) → IsFaultOf (IsAt rule (Contains places)) e
one_refused rule places e (at, one, is) = subst (IsFaultOf (IsAt rule (Contains places))) (sym is) (at, one_first places at one, refl)

-- how many atoms the first sigs have
atoms_cons : (x : SigScope) (xs : List SigScope) → atom_count (x ∷ xs) ≡ atoms_of_sig x + atom_count xs
atoms_cons x xs = sum_by-cons (λ (n : ℕ). n) (atoms_of_sig x) (map atoms_of_sig xs)

atoms_push : (xs : List SigScope) (x : SigScope) → atom_count (xs ++ x ∷ []) ≡ atom_count xs + atoms_of_sig x
atoms_push xs x = ap sum (map-append atoms_of_sig xs (x ∷ [])) ∙ sum_by_push (λ (n : ℕ). n) (map atoms_of_sig xs) (atoms_of_sig x)

no_atoms : (n : ℕ) → 0 ≤ n
no_atoms n = omega arith

part_of_atoms : (xs : List SigScope) (i : ℕ) → atom_count (take i xs) ≤ atom_count xs
part_of_atoms [] zero = no_atoms 0
part_of_atoms [] (suc i) = no_atoms 0
part_of_atoms (x ∷ xs) zero = no_atoms (atom_count (x ∷ xs))
part_of_atoms (x ∷ xs) (suc i) =
    let le : atom_count (take i xs) ≤ atom_count xs = part_of_atoms xs i in
    subst (λ (n : ℕ). n ≤ atom_count (x ∷ xs)) (sym (atoms_cons x (take i xs))) (subst (λ (n : ℕ). atoms_of_sig x + atom_count (take i xs) ≤ n) (sym (atoms_cons x xs)) (omega (arith, le)))

one_more_sig : (xs : List SigScope) (i : ℕ) (x : SigScope) → i < length xs → x ≡ get_or xs i x → atom_count (take (i + 1) xs) ≡ atom_count (take i xs) + atoms_of_sig x
one_more_sig xs i x lt item = ap atom_count (take_more xs i x lt) ∙ atoms_push (take i xs) (get_or xs i x) ∙ ap (λ (z : SigScope). atom_count (take i xs) + atoms_of_sig z) (sym item)

pub over_room : (xs : List SigScope) (i : ℕ) (x : SigScope) (limit room number : ℕ) → i < length xs → x ≡ get_or xs i x → room + atom_count (take i xs) ≡ limit → number ≡ atoms_of_sig x → room < number → false ≡ not (nat_lt limit (atom_count xs))
over_room xs i x limit room number lt item is at over =
    let e : atom_count (take (i + 1) xs) ≡ atom_count (take i xs) + atoms_of_sig x = one_more_sig xs i x lt item in
    let le : atom_count (take (i + 1) xs) ≤ atom_count xs = part_of_atoms xs (i + 1) in
    let more : limit < atom_count xs = omega (arith, e, le, is, at, over) in
    ap not (sym (lt-ltb limit (atom_count xs) more))

pub less_room : (xs : List SigScope) (i : ℕ) (x : SigScope) (limit room number : ℕ) → i < length xs → x ≡ get_or xs i x → room + atom_count (take i xs) ≡ limit → number ≡ atoms_of_sig x → number ≤ room → (room - number) + atom_count (take (i + 1) xs) ≡ limit
less_room xs i x limit room number lt item is at le =
    let e : atom_count (take (i + 1) xs) ≡ atom_count (take i xs) + atoms_of_sig x = one_more_sig xs i x lt item in
    omega (arith, e, is, at, le)

pub within_room : (xs : List SigScope) (i limit room : ℕ) → length xs ≤ i → room + atom_count (take i xs) ≡ limit → true ≡ not (nat_lt limit (atom_count xs))
within_room xs i limit room far is =
    let all : take i xs ≡ xs = whole xs i far in
    let same : room + atom_count xs ≡ limit = ap (λ (l : List SigScope). room + atom_count l) (sym all) ∙ is in
    let le : atom_count xs ≤ limit = omega (arith, same) in
    ap not (sym (le-ltb limit (atom_count xs) le))

-- atoms and integers together
pub few_together : (atoms integers : ℕ) → integers ≤ 4096 → not (nat_lt (16384 - integers) atoms) ≡ true → atoms + integers ≤ 16384
few_together atoms integers small e = let le : atoms ≤ 16384 - integers = ltb-false (16384 - integers) atoms (not_true (nat_lt (16384 - integers) atoms) e) in omega (arith, le, small)

pub many_together : (atoms integers : ℕ) → integers ≤ 4096 → not (nat_lt (16384 - integers) atoms) ≡ false → 16384 < atoms + integers
many_together atoms integers small e = let lt : 16384 - integers < atoms = ltb-true (16384 - integers) atoms (not_false (nat_lt (16384 - integers) atoms) e) in omega (arith, lt, small)

pub no_place : (universe : ℕ) (keyword : Position) → universe ≤ 16384 → too_many_atoms universe keyword ≡ []
no_place universe keyword le = ap (λ (b : Bool). place_if b (in_root keyword)) (le-ltb 16384 universe le)

pub one_place : (universe : ℕ) (keyword : Position) → 16384 < universe → too_many_atoms universe keyword ≡ in_root keyword ∷ []
one_place universe keyword lt = ap (λ (b : Bool). place_if b (in_root keyword)) (lt-ltb 16384 universe lt)
