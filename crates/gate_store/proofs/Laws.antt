-- What a circuit's first gate and its `and` gates show, and truth values put together.
use Rattle.std.proofs.Common.{◌≡◌, ℕ, Bool, true, false, not, ◌&&◌, ◌||◌, cond, List, get_or, Some, refl, sym, ap, ◌∙◌, subst, arith}
use Rattle.std.specs.List.{slice_get}
use Rattle.std.proofs.lemmas.Option.{slice_get_within}
use Rattle.std.proofs.lemmas.Bool.{false≢true}
use Rattle.gate_trait.specs.declared.node.Node.{Node}
use Rattle.gate_trait.specs.declared.gate.Gate.{Gate}
use Rattle.gate_trait.specs.declared.gate.Gate.TheVariants.{Constant, And}
use Rattle.gate_trait.specs.NodeWords.{number_of, is_negated}
use Rattle.gate_trait.specs.Built.{xor, Computes}
use Rattle.gate_trait.specs.Circuit.{IsLayered, BelongsTo, value_in, values}
use Rattle.gate_trait.proofs.GateLaw.{gate_law, computes_at}

pub node_same : (a b : Node) → a.code ≡ b.code → a ≡ b
node_same a b h = ap (λ (k : ℕ). let n : Node = record { code = k } in n) h

-- nodes of one code have one value
pub same_value : (gates : List Gate) (a b : Node) → a.code ≡ b.code → (x : ℕ → Bool) → value_in gates x a ≡ true → value_in gates x b ≡ true
same_value gates a b h x is = subst (λ (n : Node). value_in gates x n ≡ true) (node_same a b h) is

-- the first gate is true
pub first_value : (gates : List Gate) → IsLayered gates → slice_get gates 0 ≡ Some (Constant true) → (x : ℕ → Bool) → get_or (values gates x) 0 false ≡ true
first_value gates layered first x = gate_law gates x 0 (Constant true) layered first

pub constant_value : (gates : List Gate) → IsLayered gates → slice_get gates 0 ≡ Some (Constant true) → (n : Node) (b : Bool) → number_of n ≡ 0 → xor (is_negated n) true ≡ b → (x : ℕ → Bool) → value_in gates x n ≡ b
constant_value gates layered first n b zero_number is x =
    ap (λ (k : ℕ). xor (is_negated n) (get_or (values gates x) k false)) zero_number
    ∙ ap (λ (v : Bool). xor (is_negated n) v) (first_value gates layered first x)
    ∙ is

-- a node of the first gate has a constant value
pub computes_first : (gates : List Gate) → IsLayered gates → slice_get gates 0 ≡ Some (Constant true) → (n : Node) (b : Bool) → number_of n ≡ 0 → xor (is_negated n) true ≡ b → Computes BelongsTo value_in gates n (λ x. b)
computes_first gates layered first n b zero_number is = record {
  there = omega (arith, zero_number, slice_get_within gates 0 (Constant true) first);
  gives = constant_value gates layered first n b zero_number is;
}

-- the node of code 1 is false, and that of code 0 is true
pub never_true : (gates : List Gate) → IsLayered gates → slice_get gates 0 ≡ Some (Constant true) → (n : Node) → n.code ≡ 1 → (x : ℕ → Bool) → value_in gates x n ≡ true → {A : Type 0} → A
never_true gates layered first n is x h {A} =
    let one : Node = record { code = 1 } in
    absurd (false≢true (sym (constant_value gates layered first one false refl refl x) ∙ ap (λ (m : Node). value_in gates x m) (sym (node_same n one is)) ∙ h))

pub always_true : (gates : List Gate) → IsLayered gates → slice_get gates 0 ≡ Some (Constant true) → (n : Node) → n.code ≡ 0 → (x : ℕ → Bool) → value_in gates x n ≡ true
always_true gates layered first n is x =
    let none : Node = record { code = 0 } in
    ap (λ (m : Node). value_in gates x m) (node_same n none is) ∙ constant_value gates layered first none true refl refl x

both_true : (p q : Bool) → p && q ≡ true → (p ≡ true) × (q ≡ true)
both_true true q h = (refl, h)
both_true false q h = absurd (false≢true h)

-- the parts of an `and` that is true
pub parts_true : (gates : List Gate) → IsLayered gates → (whole a b : Node) → slice_get gates (number_of whole) ≡ Some (And a b) → is_negated whole ≡ false → (x : ℕ → Bool) → value_in gates x whole ≡ true → (value_in gates x a ≡ true) × (value_in gates x b ≡ true)
parts_true gates layered whole a b at positive x h =
    both_true (value_in gates x a) (value_in gates x b)
    (sym ((computes_at gates (And a b) (number_of whole) whole layered at refl positive).gives x) ∙ h)

-- ---- truth values

de_morgan : (a b : Bool) → not (not a && not b) ≡ a || b
de_morgan true b = refl
de_morgan false true = refl
de_morgan false false = refl

pub either_value : (a b na nb neither n : Bool) → na ≡ not a → nb ≡ not b → neither ≡ na && nb → n ≡ not neither → n ≡ a || b
either_value a b na nb neither n ea eb en e = let d = de_morgan a b in cc

choice_signs : (c a b : Bool) → not (cond c (not a) (not b)) ≡ cond c a b
choice_signs true true b = refl
choice_signs true false b = refl
choice_signs false a true = refl
choice_signs false a false = refl

pub choice_value : (c a b na nb chosen n : Bool) → na ≡ not a → nb ≡ not b → chosen ≡ cond c na nb → n ≡ not chosen → n ≡ cond c a b
choice_value c a b na nb chosen n ea eb en e = let d = choice_signs c a b in cc
