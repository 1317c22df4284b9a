-- Rows of operators, and negations of negations.
use Rattle.std.proofs.Common.{◌≡◌, ◌↔◌, ◌≤◌, ◌<◌, ◌+◌, ◌-◌, ℕ, zero, suc, Bool, true, false, IsTrue, List, [], ◌∷◌, ◌++◌, length, drop, slice_get, Some, refl, sym, ap, ◌∙◌, subst, arith}
use Rattle.gate_trait.specs.declared.node.Node.{Node}
use Rattle.gate_trait.specs.Built.{Keeps}
use Rattle.core_tree.specs.declared.operators.RelationOp.{RelationOp}
use Rattle.core_tree.specs.Trees.{Term, Claim, term_of, combine, negation}
use Rattle.gate_sets.specs.declared.operators.SetOperator.TheVariants.{Combine}
use Rattle.gate_matrix.specs.Matrices.{MatrixEntries}
use Rattle.bmc_stack.specs.declared.store.Store.{Store}
use Rattle.bmc_stack.specs.Stored.{AreStored}
use Rattle.bmc_stack.specs.Sets.{AreMade}
use Rattle.bmc_leaves.specs.Shown.{Reading, IsRight}
use Rattle.bmc_leaves.proofs.RightLaws.{combine_right}
use Rattle.bmc_walk.specs.declared.walk.Known.{Known}
use Rattle.bmc_walk.specs.declared.walk.Ground.{Ground}
use Rattle.bmc_walk.specs.declared.levels.Operand.{Operand}
use Rattle.bmc_places.specs.Stores.{Extends}
use Rattle.bmc_walk.specs.Levels.{row_over, doubly_negated}
use Rattle.bmc_walk.specs.Walked.{read_in, HasSets, HasRow, AddsOperand}
use Rattle.bmc_walk.proofs.WalkLaws.{max_left, max_right, ground_kept, are_kept}
use Rattle.bmc_walk.proofs.EveryLaws.{drop_all, drop_front}

row_push : (first : Term) (xs : List Operand) (x : Operand) → row_over first (xs ++ x ∷ []) ≡ row_over (combine x.op first (term_of x.expr.now)) xs
row_push first [] x = refl
row_push first (y ∷ xs) x = ap (λ (e : Term). combine y.op e (term_of y.expr.now)) (row_push first xs x)

-- one operator more is taken from the left
pub row_turn : (first left whole : Term) (xs ys : List Operand) (x : Operand) → ys ≡ xs ++ x ∷ [] → first ≡ combine x.op left (term_of x.expr.now) → row_over first xs ≡ whole → row_over left ys ≡ whole
row_turn first left whole xs ys x pushed is so = ap (λ (l : List Operand). row_over left l) pushed ∙ row_push left xs x ∙ ap (λ (e : Term). row_over e xs) (sym is) ∙ so

-- the sets are those of a row of operators, of which so many from the right are left to be done
abbrev pub HasRest : Ground → Known → ((ℕ → Bool) → Node → Bool) → ((ℕ → Bool) → Node → Bool) → List MatrixEntries → List MatrixEntries → Term → List Operand → ℕ → List ℕ → Type 0
HasRest ground known old new before after whole operands left numbers = (e : Term) × (row_over e operands ≡ whole) × HasSets ground known old new before after (row_over e (drop left operands)) numbers

pub row_none : (ground : Ground) (known : Known) (old new : (ℕ → Bool) → Node → Bool) (before after : List MatrixEntries) (e whole : Term) (operands all : List Operand) (numbers : List ℕ) → operands ≡ all → row_over e all ≡ whole → HasSets ground known old new before after e numbers → HasRest ground known old new before after whole operands (length operands - 0) numbers
row_none ground known old new before after e whole operands all numbers same is has =
    let none = drop_all operands (length operands - 0) (omega arith) in
    (e, ap (λ (os : List Operand). row_over e os) same ∙ is, subst (λ (os : List Operand). HasSets ground known old new before after (row_over e os) numbers) (sym none) has)

pub row_all : (ground : Ground) (known : Known) (old new : (ℕ → Bool) → Node → Bool) (before after : List MatrixEntries) (whole : Term) (operands : List Operand) (turn : ℕ) (numbers : List ℕ) → length operands ≤ turn → HasRest ground known old new before after whole operands (length operands - turn) numbers → HasSets ground known old new before after whole numbers
row_all ground known old new before after whole operands turn numbers high so =
    let (e, is, has) = so in
    let none : length operands - turn ≡ 0 = omega (arith, high) in
    subst (λ (t : Term). HasSets ground known old new before after t numbers) is
    (subst (λ (k : ℕ). HasSets ground known old new before after (row_over e (drop k operands)) numbers) none has)

module _ {S : Type 0} (belongs : S → Node → Type 0) (value : S → (ℕ → Bool) → Node → Bool) (ground : Ground) (known : Known) where
  pub operand_law : (g h i : S) (a b c : Store) (op : RelationOp) (f : Term) (first second made : List ℕ) → Keeps belongs value g h → AreStored (belongs g) a → Extends a b → HasSets ground known (value g) (value h) a.matrices.items b.matrices.items f second → AreMade (Combine op) (value h) (value i) b.matrices.items c.matrices.items first second made
      → AddsOperand ground known (value g) (value i) a.matrices.items c.matrices.items op f first made
  operand_law g h i a b c op f first second made keeps stored extends right sets = record {
    right = λ n is le e left.
        let r = read_in ground known n in
        combine_right r (value h) (value i) b.matrices.items c.matrices.items op e f first second made (are_kept belongs value ground known g h keeps a b stored extends r e first left) (right.right n is le) sets;
  }

  pub row_more : (first now later : S) (a b c : Store) (whole : Term) (operands : List Operand) (turn : ℕ) (numbers new : List ℕ) (x : Operand) → Keeps belongs value first now → AreStored (belongs first) a → Extends a b → turn < length operands → slice_get operands (length operands - 1 - turn) ≡ Some x
      → HasRest ground known (value first) (value now) a.matrices.items b.matrices.items whole operands (length operands - turn) numbers → AddsOperand ground known (value now) (value later) b.matrices.items c.matrices.items x.op (term_of x.expr.now) numbers new
      → HasRest ground known (value first) (value later) a.matrices.items c.matrices.items whole operands (length operands - (turn + 1)) new
  row_more first now later a b c whole operands turn numbers new x keeps stored extends lt at so adds =
      let (e, same, has) = so in
      let k = length operands - 1 - turn in
      let here : length operands - (turn + 1) ≡ k = omega arith in
      let next : suc k ≡ length operands - turn = omega (arith, lt) in
      let split : drop (length operands - (turn + 1)) operands ≡ x ∷ drop (length operands - turn) operands = ap (λ (j : ℕ). drop j operands) here ∙ drop_front operands k x at ∙ ap (λ (j : ℕ). x ∷ drop j operands) next in
      let more : HasSets ground known (value first) (value later) a.matrices.items c.matrices.items (row_over e (x ∷ drop (length operands - turn) operands)) new = record {
        right = λ n is le.
            adds.right n (ground_kept belongs value ground known first now keeps a b stored extends n is) (max_right _ _ n le) (row_over e (drop (length operands - turn) operands)) (has.right n is (max_left _ _ n le));
      } in
      (e, same, subst (λ (os : List Operand). HasSets ground known (value first) (value later) a.matrices.items c.matrices.items (row_over e os) new) (sym split) more)

-- pairs of negations
pub double_turn : (n : ℕ) (f : Claim) → doubly_negated n (negation (negation f)) ≡ doubly_negated (suc n) f
double_turn zero f = refl
double_turn (suc n) f = ap (λ (c : Claim). negation (negation c)) (double_turn n f)

pub doubles_more : (formula inner f : Claim) → (n : ℕ) × (formula ≡ doubly_negated n inner) → inner ≡ negation (negation f) → (n : ℕ) × (formula ≡ doubly_negated n f)
doubles_more formula inner f so is = (suc so.0, so.1 ∙ ap (λ (c : Claim). doubly_negated so.0 c) is ∙ double_turn so.0 f)

twice_means : {P : Type 0} (v : Bool) → IsTrue v ↔ P → IsTrue v ↔ (¬ (¬ P))
twice_means true h = ((λ t never. never (h.0 t)), (λ twice. refl))
twice_means false h = ((λ t never. never (h.0 t)), (λ twice. absurd (twice (λ p. let clash : false ≡ true = h.1 p in absurd cc))))

double_right : (r : Reading) (value : (ℕ → Bool) → Node → Bool) (f : Claim) (row : List Node) → IsRight r value f row → IsRight r value (negation (negation f)) row
double_right r value f row right = record {
  inside = right.inside;
  holds = λ loop k s place x lasso shows at. twice_means _ (right.holds loop k s place x lasso shows at);
}

pub doubles_right : (ground : Ground) (known : Known) (old new : (ℕ → Bool) → Node → Bool) (before : List MatrixEntries) (f : Claim) (row : List Node) (n : ℕ) → HasRow ground known old new before f row → HasRow ground known old new before (doubly_negated n f) row
doubles_right ground known old new before f row zero has = has
doubles_right ground known old new before f row (suc n) has = (let inner = doubles_right ground known old new before f row n has in record {
  right = λ h is le. double_right (read_in ground known h) new (doubly_negated n f) row (inner.right h is le);
})

pub formula_right : (ground : Ground) (known : Known) (old new : (ℕ → Bool) → Node → Bool) (before : List MatrixEntries) (formula inner : Claim) (row : List Node) → (n : ℕ) × (formula ≡ doubly_negated n inner) → HasRow ground known old new before inner row → HasRow ground known old new before formula row
formula_right ground known old new before formula inner row same has = subst (λ (c : Claim). HasRow ground known old new before c row) (sym same.1) (doubles_right ground known old new before inner row same.0 has)
