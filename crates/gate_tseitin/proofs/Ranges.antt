-- Literals of nodes, and which variables they name.
use Rattle.std.proofs.Common.{◌≡◌, ℕ, zero, suc, ◌<◌, ◌≤◌, Bool, true, false, cond, List, length, map, get_or, take, refl, sym, ap, ◌∙◌, subst, arith, All, ℤ, pos, neg_ℤ}
use Rattle.std.specs.Prelude.{nat_abs}
use Rattle.std.proofs.lemmas.List.{take_all}
use Rattle.std.proofs.lemmas.List.Elements.{All-map}
use Rattle.gate_trait.specs.declared.node.Node.{Node}
use Rattle.gate_trait.specs.NodeWords.{number_of, is_negated}
use Rattle.sat_dimacs.specs.Literal.{IsWithin}
use Rattle.gate_tseitin.specs.Named.{literal_of}

abs_case : (b : Bool) (m : ℕ) → nat_abs (cond b (neg_ℤ (pos m)) (pos m)) ≡ m
abs_case true zero = refl
abs_case true (suc m) = refl
abs_case false m = refl

-- the literals of nodes that are there name variables that are there
pub literals_within : (names : List ℕ) (count most : ℕ) (nodes : List Node) → All (λ n. n ≤ count) names → count ≤ most → All (λ n. number_of n < length names) nodes → IsWithin most (map (literal_of names) nodes)
literals_within names count most nodes within room there =
    All-map (λ (z : ℤ). nat_abs z ≤ most) (literal_of names) nodes (λ k d lt.
    let n = get_or nodes k d in
    let at : number_of n < length names = there k d lt in
    let is = abs_case (is_negated n) (get_or names (number_of n) 0) in
    let small : get_or names (number_of n) 0 ≤ count = within (number_of n) 0 at in
    omega (arith, is, small, room))

pub clause_within : (names : List ℕ) (count most : ℕ) (nodes : List Node) (clause : List ℤ) (i : ℕ) → clause ≡ map (literal_of names) (take i nodes) → length nodes ≤ i → All (λ n. n ≤ count) names → count ≤ most → All (λ n. number_of n < length names) nodes → IsWithin most clause
clause_within names count most nodes clause i is whole within room there =
    subst (λ (c : List ℤ). IsWithin most c) (sym (is ∙ ap (λ (ns : List Node). map (literal_of names) ns) (take_all i nodes whole)))
    (literals_within names count most nodes within room there)
