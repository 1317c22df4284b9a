-- Integers that operators give, and comparisons.
use Rattle.std.proofs.Common.{◌≡◌, ◌↔◌, ◌≤◌, ◌<◌, ◌+◌, ℕ, Bool, true, List, [], ◌∷◌, ◌++◌, length, length-append, Some, slice_get, sym, ap, ◌∙◌, subst, arith, inl, inr, ℤ}
use Rattle.std.proofs.lemmas.Bool.{cases_lt}
use Rattle.std.proofs.lemmas.Option.{slice_get_within, get_or_from_slice_get}
use Rattle.gate_trait.specs.declared.node.Node.{Node}
use Rattle.gate_trait.specs.Built.{Keeps, AllIn}
use Rattle.core_tree.specs.declared.operators.Comparison.{Comparison}
use Rattle.core_meaning.specs.Integers.{wrap, result_of}
use Rattle.core_meaning.specs.Operators.{IsCount, IsNumber}
use Rattle.gate_integers.specs.Numbers.{signed}
use Rattle.gate_integers.proofs.SumLemmas.{number_kept}
use Rattle.gate_matrix.proofs.FoundLemmas.{truth_kept}
use Rattle.gate_operators.specs.Sets.{MeansSet, set_of}
use Rattle.core_tuples.specs.declared.universe.Universe.{Universe}
use Rattle.gate_arithmetic.specs.Singles.{atom_for}
use Rattle.gate_numbers.specs.Numbers.{AreSo}
use Rattle.gate_integers.specs.Numbers.{from_bits as bits_of}
use Rattle.gate_sets.specs.Belonging.{AllLists}
use Rattle.gate_temporal.specs.Rows.{row_value}
use Rattle.bmc_windows.specs.Pairing.{ArePairs, IsMoved}
use Rattle.bmc_windows.proofs.PushLemmas.{push_kept, push_at}
use Rattle.bmc_leaves.proofs.RowLaws.{row_kept, push_before, push_last as push_last_value}
use Rattle.bmc_stack.specs.declared.store.Store.{Store}
use Rattle.bmc_stack.specs.Stored.{AreStored}
use Rattle.bmc_stack.proofs.PlaceLaws.{matrix_belongs}
use Rattle.std.proofs.Math.Path.{fun_ext}
use Rattle.bmc_places.specs.declared.numbers.IntegerOperator.{IntegerOperator}
use Rattle.bmc_places.specs.declared.numbers.IntegerOperator.TheVariants.{Count, Total, Of, AsSet}
use Rattle.bmc_places.specs.Numbers.{MakesInteger, AreIntegers, ComparesAt, AreCompared}
use Rattle.bmc_places.specs.Stores.{Extends}

-- what is made of the first pairs
abbrev pub MadeTo : IntegerOperator → Universe → ((ℕ → Bool) → Node → Bool) → ((ℕ → Bool) → Node → Bool) → Store → Store → List (ℕ × ℕ) → List ℕ → ℕ → Type 0
MadeTo op u old new a b pairs numbers count = (j : ℕ) (pair : ℕ × ℕ) → j < count → slice_get pairs j ≡ Some pair → (k : ℕ) × (slice_get numbers j ≡ Some k) × MakesInteger op u old new a b pair k

-- ---- integers stay what they are

pub int_belongs : (P : Node → Type 0) (integers : List (List Node)) (k : ℕ) (b : List Node) → AllLists P integers → slice_get integers k ≡ Some b → AllIn P b
int_belongs P integers k b all at = subst (λ (r : List Node). AllIn P r) (get_or_from_slice_get integers k b b at) (all k b (slice_get_within integers k b at))

module _ {S : Type 0} (belongs : S → Node → Type 0) (value : S → (ℕ → Bool) → Node → Bool) where
  pub signed_kept : (g h : S) → Keeps belongs value g h → (b : List Node) → AllIn (belongs g) b → (x : ℕ → Bool) → signed (value h x) b ≡ signed (value g x) b
  signed_kept g h keeps b all x = ap (λ (n : ℕ). bits_of (length b) n) (number_kept belongs value g h keeps b all x)

  pub makes_kept : (op : IntegerOperator) (u : Universe) (first g h : S) (a b d : Store) (pair : ℕ × ℕ) (k : ℕ) → Keeps belongs value g h → AreStored (belongs g) b → Extends b d → MakesInteger op u (value first) (value g) a b pair k → MakesInteger op u (value first) (value h) a d pair k
  makes_kept Count u first g h a b d pair k keeps stored extends makes = λ p at.
      let (s, stands, long, is) = makes p at in
      (s, extends.integers k s stands, long, λ x w e. subst (λ (z : ℤ). IsCount w (set_of (value first x) p) z) (sym (signed_kept g h keeps s (int_belongs (belongs g) b.integers.items k s stored.integers stands) x)) (is x w e))
  makes_kept Total u first g h a b d pair k keeps stored extends makes = λ p at.
      let (s, stands, long, is) = makes p at in
      (s, extends.integers k s stands, long, λ x w e f. subst (λ (z : ℤ). IsNumber w (set_of (value first x) p) z) (sym (signed_kept g h keeps s (int_belongs (belongs g) b.integers.items k s stored.integers stands) x)) (is x w e f))
  makes_kept AsSet u first g h a b d pair k keeps stored extends makes = λ s at.
      let (m, stands, means) = makes s at in
      (m, extends.matrices k m stands, λ x t. (let e = truth_kept belongs value g h keeps m (matrix_belongs (belongs g) b.matrices.items k m stored.matrices stands) x t in ((λ y. (means x t).0 (sym e ∙ y)), (λ y. e ∙ (means x t).1 y))))
  makes_kept (Of op) u first g h a b d pair k keeps stored extends makes = λ p q at_p at_q.
      let (s, stands, long, is) = makes p q at_p at_q in
      (s, extends.integers k s stands, long, λ x. signed_kept g h keeps s (int_belongs (belongs g) b.integers.items k s stored.integers stands) x ∙ is x)

  pub makes_from : (op : IntegerOperator) (u : Universe) (first g h : S) (a b d : Store) (pair : ℕ × ℕ) (k : ℕ) → Keeps belongs value first g → AreStored (belongs first) a → Extends a b → MakesInteger op u (value g) (value h) b d pair k → MakesInteger op u (value first) (value h) a d pair k
  makes_from Count u first g h a b d pair k keeps stored extends makes = λ p at.
      let (s, stands, long, is) = makes p (extends.matrices pair.0 p at) in
      (s, stands, long, λ x w e. subst (λ (X : List ℕ → Bool). IsCount w (λ t. X t ≡ true) (signed (value h x) s)) (fun_ext (truth_kept belongs value first g keeps p (matrix_belongs (belongs first) a.matrices.items pair.0 p stored.matrices at) x)) (is x w e))
  makes_from Total u first g h a b d pair k keeps stored extends makes = λ p at.
      let (s, stands, long, is) = makes p (extends.matrices pair.0 p at) in
      (s, stands, long, λ x w e f. subst (λ (X : List ℕ → Bool). IsNumber w (λ t. X t ≡ true) (signed (value h x) s)) (fun_ext (truth_kept belongs value first g keeps p (matrix_belongs (belongs first) a.matrices.items pair.0 p stored.matrices at) x)) (is x w e f))
  makes_from AsSet u first g h a b d pair k keeps stored extends makes = λ s at.
      let (m, stands, means) = makes s (extends.integers pair.0 s at) in
      (m, stands, λ x. subst (λ (z : ℤ). MeansSet (value h x) m (λ t. t ≡ atom_for u z ∷ [])) (signed_kept first g keeps s (int_belongs (belongs first) a.integers.items pair.0 s stored.integers at) x) (means x))
  makes_from (Of op) u first g h a b d pair k keeps stored extends makes = λ p q at_p at_q.
      let (s, stands, long, is) = makes p q (extends.integers pair.0 p at_p) (extends.integers pair.1 q at_q) in
      let one = signed_kept first g keeps p (int_belongs (belongs first) a.integers.items pair.0 p stored.integers at_p) in
      let two = signed_kept first g keeps q (int_belongs (belongs first) a.integers.items pair.1 q stored.integers at_q) in
      (s, stands, long, λ x. is x ∙ ap (λ (z : ℤ). wrap (length p) (result_of op z (signed (value g x) q))) (one x) ∙ ap (λ (z : ℤ). wrap (length p) (result_of op (signed (value first x) p) z)) (two x))

  pub made_more : (op : IntegerOperator) (u : Universe) (first now later : S) (a b d : Store) (pairs : List (ℕ × ℕ)) (numbers more : List ℕ) (place n : ℕ) (pair : ℕ × ℕ) → Keeps belongs value first now → Keeps belongs value now later → AreStored (belongs first) a → AreStored (belongs now) b → Extends a b → Extends b d → length numbers ≡ place → slice_get pairs place ≡ Some pair
      → MadeTo op u (value first) (value now) a b pairs numbers place → MakesInteger op u (value now) (value later) b d pair n → more ≡ numbers ++ n ∷ [] → MadeTo op u (value first) (value later) a d pairs more (place + 1)
  made_more op u first now later a b d pairs numbers more place n pair keeps more_keeps stored stored_b extends extends_b long at made makes is j q lt here = elim (cases_lt j place) [
    | inl less ↦ (let (k, there, old) = made j q less here in (k, ap (λ (ns : List ℕ). slice_get ns j) is ∙ push_kept numbers n j k there, makes_kept op u first now later a b d q k more_keeps stored_b extends_b old))
    | inr ge ↦ (let same : place ≡ j = omega (arith, lt, ge) in
        let which : pair ≡ q = (let e : slice_get pairs place ≡ Some q = ap (λ (i : ℕ). slice_get pairs i) same ∙ here in let f : Some pair ≡ Some q = sym at ∙ e in cc) in
        (n, ap (λ (ns : List ℕ). slice_get ns j) is ∙ push_at numbers n j (sym same ∙ sym long), subst (λ (r : ℕ × ℕ). MakesInteger op u (value first) (value later) a d r n) which (makes_from op u first now later a b d pair n keeps stored extends makes)))
  ]

-- what is made of all pairs, at the places where they meet
pub made_at : (op : IntegerOperator) (u : Universe) (old new : (ℕ → Bool) → Node → Bool) (a b : Store) (first second : List ℕ) (pairs : List (ℕ × ℕ)) (which numbers row : List ℕ) → ArePairs pairs which first second → ((j : ℕ) (pair : ℕ × ℕ) → slice_get pairs j ≡ Some pair → (k : ℕ) × (slice_get numbers j ≡ Some k) × MakesInteger op u old new a b pair k) → IsMoved numbers which row → AreIntegers op u old new a b first second row
made_at op u old new a b first second pairs which numbers row are made moved i m n at_m at_n =
    let (k, at_k, pair_at_k) = are i m n at_m at_n in
    let (o, at_o, makes) = made k (m, n) pair_at_k in
    (o, moved i k o at_k at_o, makes)

pub made_all : (op : IntegerOperator) (u : Universe) (old new : (ℕ → Bool) → Node → Bool) (a b : Store) (pairs : List (ℕ × ℕ)) (numbers : List ℕ) (place : ℕ) → length pairs ≤ place → MadeTo op u old new a b pairs numbers place → (j : ℕ) (pair : ℕ × ℕ) → slice_get pairs j ≡ Some pair → (k : ℕ) × (slice_get numbers j ≡ Some k) × MakesInteger op u old new a b pair k
made_all op u old new a b pairs numbers place high to j pair at = (let lt = slice_get_within pairs j pair at in to j pair (omega (arith, lt, high)) at)

-- ---- rows of comparisons

-- the first places
pub record ComparedTo (op : Comparison) (old new : (ℕ → Bool) → Node → Bool) (integers : List (List Node)) (first second : List ℕ) (place : ℕ) (row : List Node) : Type 0 where
  pub long : length row ≡ place
  pub says : (i m o : ℕ) (p q : List Node) → i < place → slice_get first i ≡ Some m → slice_get second i ≡ Some o → slice_get integers m ≡ Some p → slice_get integers o ≡ Some q
      → (x : ℕ → Bool) → (row_value (new x) row i ≡ true) ↔ AreSo op (signed (old x) p) (signed (old x) q)

module _ {S : Type 0} (belongs : S → Node → Type 0) (value : S → (ℕ → Bool) → Node → Bool) where
  pub compared_more : (op : Comparison) (f g h : S) (integers : List (List Node)) (first second : List ℕ) (place : ℕ) (row more : List Node) (n : Node) → Keeps belongs value f g → Keeps belongs value g h → AllLists (belongs f) integers → AllIn (belongs g) row → more ≡ row ++ n ∷ []
      → ComparesAt op (value g) (value h) integers first second place n → ComparedTo op (value f) (value g) integers first second place row → ComparedTo op (value f) (value h) integers first second (place + 1) more
  compared_more op f g h integers first second place row more n keeps more_keeps all in_row is compares to = record {
    long = ap (λ (s : List Node). length s) is ∙ length-append row (n ∷ []) ∙ ap (λ (k : ℕ). k + 1) to.long;
    says = λ i m o p q lt at_m at_o at_p at_q x. subst (λ (ns : List Node). (row_value (value h x) ns i ≡ true) ↔ AreSo op (signed (value f x) p) (signed (value f x) q)) (sym is) (elim (cases_lt i place) [
      | inl less ↦ (let old = to.says i m o p q less at_m at_o at_p at_q x in
          let e = push_before (value h x) row n i (let l = to.long in omega (arith, less, l)) ∙ row_kept belongs value g h more_keeps row in_row x i in
          ((λ y. old.0 (sym e ∙ y)), (λ y. e ∙ old.1 y)))
      | inr ge ↦ (let same : place ≡ i = omega (arith, lt, ge) in
          let new = compares m o p q (ap (λ (j : ℕ). slice_get first j) same ∙ at_m) (ap (λ (j : ℕ). slice_get second j) same ∙ at_o) at_p at_q x in
          let e = push_last_value (value h x) row n i (sym same ∙ sym to.long) in
          let one = signed_kept belongs value f g keeps p (int_belongs (belongs f) integers m p all at_p) x in
          let two = signed_kept belongs value f g keeps q (int_belongs (belongs f) integers o q all at_q) x in
          let so = subst (λ (z : ℤ). (value h x n ≡ true) ↔ AreSo op (signed (value f x) p) z) two (subst (λ (z : ℤ). (value h x n ≡ true) ↔ AreSo op z (signed (value g x) q)) one new) in
          ((λ y. so.0 (sym e ∙ y)), (λ y. e ∙ so.1 y)))
    ]);
  }

pub compared_all : (op : Comparison) (old new : (ℕ → Bool) → Node → Bool) (integers : List (List Node)) (first second : List ℕ) (count : ℕ) (row : List Node) → ComparedTo op old new integers first second count row → AreCompared op old new integers first second count row
compared_all op old new integers first second count row to = record { long = to.long; says = to.says }
