-- The clauses of a circuit that encodes a target say what the target asks.
use Rattle.std.proofs.Common.{◌≡◌, ◌↔◌, ℕ, zero, suc, ◌+◌, ◌≤◌, ℤ, Bool, true, List, [], ◌∷◌, ◌++◌, map, length, Some, slice_get, refl, sym, ap, ◌∙◌, subst, arith}
use Rattle.std.proofs.lemmas.List.{length-map}
use Rattle.std.proofs.lemmas.List.Sums.{AllPass-from_list_all, list_all-from_AllPass}
use Rattle.gate_trait.specs.declared.node.Node.{Node}
use Rattle.gate_trait.specs.declared.gate.Gate.{Gate}
use Rattle.gate_trait.specs.Circuit.{value_in}
use Rattle.core_tree.specs.declared.tree.Formula.{Formula}
use Rattle.core_meaning.specs.declared.target.Target.{Target}
use Rattle.core_meaning.specs.Sequence.{LassoValue}
use Rattle.core_meaning.specs.Kept.{KeepsNumbers, atom_count}
use Rattle.sat_dimacs.specs.declared.cnf.Cnf.{Cnf}
use Rattle.sat_dimacs.specs.Literal.{literal_value, clause_value, Satisfies}
use Rattle.gate_tseitin.specs.Named.{satisfied, input_count}
use Rattle.gate_tseitin.specs.Written.{Agree, IsWritten}
use Rattle.bound_uppers.specs.declared.places.Layout.{Layout}
use Rattle.bound_uppers.specs.declared.table.Bounds.{Bounds}
use Rattle.bound_uppers.specs.Table.{IsTable, IsLaidOut}
use Rattle.bound_uppers.specs.Candidates.{HasSets, IsCandidate}
use Rattle.bound_naming.specs.declared.neighbours.TheConstants.{NAMED_PAIRS}
use Rattle.bound_naming.specs.declared.pairs.Pair.{Pair}
use Rattle.bound_naming.specs.Naming.{favours_all, AreAllPairs, IsCanonical}
use Rattle.bound_naming.specs.Decided.{NamingIsDecided}
use Rattle.bmc_leaves.specs.Table.{Decodes}
use Rattle.bmc_encoder.specs.Encodes.{IsEncoded}
use Rattle.answer_search.specs.Circuit.{IsCircuit}
use Rattle.answer_search.specs.Clauses.{unit, IsTrueIn, HoldsFirst, SayTarget}
use Rattle.answer_search.proofs.NamedLaw.{decoded_tells}
use Rattle.answer_search.proofs.OnceLaw.{stand_once}
use Rattle.answer_search.proofs.StandsLaw.{TableLaws, candidate_stands}

-- a list with one more than some number has a first
parted_at : {X : Type 0} (xs : List X) (n : ℕ) → length xs ≡ n + 1 → (x : X) × (ys : List X) × (xs ≡ x ∷ ys) × (length ys ≡ n)
parted_at [] n e = absurd (omega (arith, e))
parted_at (x ∷ ys) n e = (x, ys, refl, omega (arith, e))

-- what stands at a place is made of what stood there
unmapped : {X Y : Type 0} (f : X → Y) (xs : List X) (k : ℕ) (y : Y) → slice_get (map f xs) k ≡ Some y → (x : X) × (slice_get xs k ≡ Some x) × (f x ≡ y)
unmapped f [] k y e = absurd cc
unmapped f (x ∷ xs) zero y e = let is : f x ≡ y = cc in (x, refl, is)
unmapped f (x ∷ xs) (suc k) y e = unmapped f xs k y e

-- the units of literals
twice : (g : Node → ℤ) (nodes : List Node) → map (λ (n : Node). g n ∷ []) nodes ≡ map unit (map g nodes)
twice g [] = refl
twice g (n ∷ nodes) = ap (λ (rest : List (List ℤ)). (g n ∷ []) ∷ rest) (twice g nodes)

-- The clauses are those of a circuit of the target, whose inputs are the variables of the table.
module _ (target : Target) (bounds : Bounds) (table : Layout) (gates : List Gate) (sure name first : Node) (others : List Node) (cnf : Cnf) (w : IsWritten gates sure (name ∷ first ∷ others) cnf.variables cnf.clauses) (room : table.variables ≡ input_count gates) (laid : IsLaidOut bounds table) (all : List (List Pair)) (paired : IsTable bounds → AreAllPairs bounds (atom_count target.scopes.numbers) NAMED_PAIRS all) (favoured : (x : ℕ → Bool) → value_in gates x name ≡ favours_all x all) (count : length others ≡ length target.formulas) (encoded : IsEncoded bounds target.scopes target.formulas table (value_in gates) sure (first ∷ others)) (sets : HasSets bounds) (decided : NamingIsDecided) (laws : TableLaws) where
  defined : (v : ℕ → Bool) → Satisfies v w.definitions → satisfied v w.definitions ≡ true
  defined v s = list_all-from_AllPass (clause_value v) w.definitions s

  -- the literal of a root has its value
  valued : (v : ℕ → Bool) → Satisfies v w.definitions → (k : ℕ) (root : Node) → slice_get (name ∷ first ∷ others) k ≡ Some root → literal_value v (w.literal root) ≡ value_in gates v root
  valued v s k root e = w.valued v (defined v s) k root e

  stands : (v : ℕ → Bool) → IsTable bounds → Satisfies v w.definitions → (lasso : LassoValue) × IsCandidate bounds lasso × Decodes bounds table v lasso
  stands v is s =
      let (other, found) = (encoded.lassos v).0 (w.surely v (defined v s)) in
      candidate_stands laws bounds table is (laid is) sets v other found

  some : (lasso : LassoValue) → IsTable bounds → IsCandidate bounds lasso → (v : ℕ → Bool) × Satisfies v w.definitions × Decodes bounds table v lasso
  some lasso is candidate =
      let (x, decodes) = laws.told bounds table lasso is (laid is) candidate in
      let (v, agree, true_in) = w.extended x ((encoded.lassos x).1 (lasso, decodes)) in
      let same : Agree table.variables v x = λ m above low. agree m above (subst (λ (n : ℕ). m ≤ n) room low) in
      (v, AllPass-from_list_all (clause_value v) w.definitions true_in, laws.alike bounds table v x lasso is (laid is) same decodes)

  only : (lasso : LassoValue) (v u : ℕ → Bool) → IsTable bounds → Satisfies v w.definitions → Satisfies u w.definitions → Decodes bounds table v lasso → Decodes bounds table u lasso → Agree cnf.variables v u
  only lasso v u is s t first_stands second_stands =
      let same : Agree table.variables v u = stand_once bounds table is (laid is) sets v u lasso first_stands second_stands in
      w.unique v u (defined v s) (defined u t) (λ m above low. same m above (subst (λ (n : ℕ). m ≤ n) (sym room) low))

  named : (v : ℕ → Bool) (lasso : LassoValue) → IsTable bounds → Satisfies v w.definitions → Decodes bounds table v lasso → IsTrueIn v (w.literal name) ↔ IsCanonical bounds all lasso
  named v lasso is s decodes =
      let same = valued v s zero name refl ∙ favoured v in
      let both = decided bounds (atom_count target.scopes.numbers) NAMED_PAIRS all v lasso (paired is) (decoded_tells bounds table (laid is) sets v lasso decodes) in
      (λ on. both.0 (sym same ∙ on), λ canonical. same ∙ both.1 canonical)

  keeps : (v : ℕ → Bool) (lasso : LassoValue) → Satisfies v w.definitions → Decodes bounds table v lasso → IsTrueIn v (w.literal first) ↔ KeepsNumbers target.scopes lasso
  keeps v lasso s decodes =
      let same = valued v s (suc zero) first refl in
      let both = encoded.numbers first refl v lasso decodes in
      (λ on. both.0 (sym same ∙ on), λ kept. same ∙ both.1 kept)

  holds : (v : ℕ → Bool) (lasso : LassoValue) → Satisfies v w.definitions → Decodes bounds table v lasso → (k : ℕ) (f : Formula) (literal : ℤ) → slice_get target.formulas k ≡ Some f → slice_get (map w.literal others) k ≡ Some literal → IsTrueIn v literal ↔ HoldsFirst target.scopes lasso f
  holds v lasso s decodes k f literal at_f at =
      let (node, at_node, is) = unmapped w.literal others k literal at in
      let same : literal_value v literal ≡ value_in gates v node = ap (literal_value v) (sym is) ∙ valued v s (suc (suc k)) node at_node in
      let step : suc k ≡ k + 1 = omega arith in
      let at_root : slice_get (first ∷ others) (k + 1) ≡ Some node = subst (λ (m : ℕ). slice_get (first ∷ others) m ≡ Some node) step at_node in
      let both = encoded.holds k f node at_f at_root v lasso decodes in
      (λ on. both.0 (sym same ∙ on), λ held. same ∙ both.1 held)

  say_at : SayTarget target bounds cnf
  say_at = record {
    table = table;
    all = all;
    laid = laid;
    paired = paired;
    defining = w.definitions;
    name = w.literal name;
    numbers = w.literal first;
    each = map w.literal others;
    divided = w.divided ∙ ap (λ (units : List (List ℤ)). w.definitions ++ units) (twice w.literal (name ∷ first ∷ others));
    one_each = length-map others w.literal ∙ count;
    some = some;
    only = only;
    stands = stands;
    named = named;
    keeps = keeps;
    holds = holds;
  }

pub say_target : (target : Target) (bounds : Bounds) (table : Layout) (gates : List Gate) (sure : Node) (roots : List Node) (cnf : Cnf) → IsWritten gates sure roots cnf.variables cnf.clauses → table.variables ≡ input_count gates → IsLaidOut bounds table
    → IsCircuit target bounds table (value_in gates) sure roots → HasSets bounds → NamingIsDecided → TableLaws → SayTarget target bounds cnf
say_target target bounds table gates sure roots cnf written room laid circuit sets decided laws =
    let (first, others, parted, count) = parted_at circuit.rest (length target.formulas) circuit.count in
    let whole : roots ≡ circuit.name ∷ first ∷ others = circuit.roots_are ∙ ap (λ (nodes : List Node). circuit.name ∷ nodes) parted in
    let w = subst (λ (nodes : List Node). IsWritten gates sure nodes cnf.variables cnf.clauses) whole written in
    let encoded = subst (λ (nodes : List Node). IsEncoded bounds target.scopes target.formulas table (value_in gates) sure nodes) parted circuit.encoded in
    say_at target bounds table gates sure circuit.name first others cnf w room laid circuit.all (λ is. circuit.paired is (laid is)) circuit.named count encoded sets decided laws
