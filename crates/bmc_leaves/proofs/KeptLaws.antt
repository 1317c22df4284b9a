-- What is right stays right while the circuit grows and sets are added.
use Rattle.std.proofs.Common.{◌≡◌, ◌⊎◌, ◌+◌, ℕ, zero, suc, Bool, List, [], ◌∷◌, ◌++◌, length, All, Some, slice_get, refl, sym, ap, ◌∙◌, subst, arith, inl, inr, Vec, Global}
use Rattle.std.proofs.lemmas.Option.{slice_get_within, get_or_from_slice_get}
use Rattle.gate_trait.specs.declared.node.Node.{Node}
use Rattle.gate_trait.specs.Built.{Keeps, AllIn}
use Rattle.core_tree.specs.Trees.{Term, Claim}
use Rattle.core_meaning.specs.Sequence.{LassoValue}
use Rattle.core_meaning.specs.Operators.{Tuples}
use Rattle.gate_matrix.specs.Matrices.{MatrixEntries, AllBelong}
use Rattle.gate_matrix.proofs.FoundLemmas.{truth_kept}
use Rattle.gate_sets.specs.Belonging.{AllMatrices}
use Rattle.bmc_windows.proofs.PushLemmas.{push_kept, push_cases}
use Rattle.bmc_stack.specs.declared.store.Store.{Store}
use Rattle.bmc_stack.specs.Rows.{Grows, IsAdded, AreBeside}
use Rattle.bmc_stack.specs.Stored.{AreStored}
use Rattle.bmc_leaves.specs.Shown.{Reading, IsRight, HaveTuples, AreRight, Leaf, IsLeafAt, AreOf, AreKept, Stay}
use Rattle.bmc_leaves.proofs.RowLaws.{row_kept}
use Rattle.bmc_leaves.proofs.RightLaws.{true_same}

pub all_front : {X : Type 0} (P : X → Type 0) (xs : List X) (y : X) → All P (xs ++ y ∷ []) → All P xs
all_front P [] y all k d lt = absurd (omega arith)
all_front P (x ∷ xs) y all zero d lt = all zero d (omega arith)
all_front P (x ∷ xs) y all (suc k) d lt = all_front P xs y (λ j e l. all (suc j) e (omega arith)) k d (omega arith)

pub all_last : {X : Type 0} (P : X → Type 0) (xs : List X) (y : X) → All P (xs ++ y ∷ []) → P y
all_last P [] y all = all zero y (omega arith)
all_last P (x ∷ xs) y all = all_last P xs y (λ j e l. all (suc j) e (omega arith))

pub matrix_belongs : (P : Node → Type 0) (ms : List MatrixEntries) (k : ℕ) (m : MatrixEntries) → AllMatrices P ms → slice_get ms k ≡ Some m → AllBelong P m.entries
matrix_belongs P ms k m all at = subst (λ (n : MatrixEntries). AllBelong P n.entries) (get_or_from_slice_get ms k m m at) (all k m (slice_get_within ms k m at))

module _ {S : Type 0} (belongs : S → Node → Type 0) (value : S → (ℕ → Bool) → Node → Bool) (r : Reading) (g h : S) (keeps : Keeps belongs value g h) where
  pub right_kept : (f : Claim) (row : List Node) → AllIn (belongs g) row → IsRight r (value g) f row → IsRight r (value h) f row
  right_kept f row all right = record {
    inside = right.inside;
    holds = λ loop k s place x lasso shows at. true_same _ _ (row_kept belongs value g h keeps row all x (s.start + k)) (right.holds loop k s place x lasso shows at);
  }

  pub tuples_kept : (before after : List MatrixEntries) (has : LassoValue → ℕ → Tuples) (numbers : List ℕ) → AllMatrices (belongs g) before → Stay before after → HaveTuples r (value g) before has numbers → HaveTuples r (value h) after has numbers
  tuples_kept before after has numbers all stay have = λ loop k s place.
      let (m, (number, at, stands), means) = have loop k s place in (
        m,
        (number, at, stay number m stands),
        λ x lasso shows loops t.
            let e = truth_kept belongs value g h keeps m (matrix_belongs (belongs g) before number m all stands) x t in
            let is = means x lasso shows loops t in
            ((λ q. is.0 (sym e ∙ q)), (λ q. e ∙ is.1 q)),
      )

  -- the same of sets that were there first, and are there still
  first_tuples : (first now : List MatrixEntries) (has : LassoValue → ℕ → Tuples) (numbers : List ℕ) → AllMatrices (belongs g) now → Stay first now → HaveTuples r (value g) first has numbers → HaveTuples r (value h) first has numbers
  first_tuples first now has numbers all stay have = λ loop k s place.
      let (m, (number, at, stands), means) = have loop k s place in (
        m,
        (number, at, stands),
        λ x lasso shows loops t.
            let e = truth_kept belongs value g h keeps m (matrix_belongs (belongs g) now number m all (stay number m stands)) x t in
            let is = means x lasso shows loops t in
            ((λ q. is.0 (sym e ∙ q)), (λ q. e ∙ is.1 q)),
      )

  pub first_kept : (first now : List MatrixEntries) (kept : List (Vec ℕ Global)) → AllMatrices (belongs g) now → Stay first now → AreKept r (value g) first kept → AreKept r (value h) first kept
  first_kept first now kept all stay are leaf n numbers lt at = elim (are leaf n numbers lt at) [
    | inl none ↦ inl none
    | inr of ↦ inr (record { sets = first_tuples first now _ numbers.items all stay of.sets })
  ]

  pub kept_kept : (before after : List MatrixEntries) (kept : List (Vec ℕ Global)) → AllMatrices (belongs g) before → Stay before after → AreKept r (value g) before kept → AreKept r (value h) after kept
  kept_kept before after kept all stay are leaf n numbers lt at = elim (are leaf n numbers lt at) [
    | inl none ↦ inl none
    | inr of ↦ inr (record { sets = tuples_kept before after _ numbers.items all stay of.sets })
  ]

-- an expression's sets beside a row that is put on the stack
pub again_right : {S : Type 0} (belongs : S → Node → Type 0) (value : S → (ℕ → Bool) → Node → Bool) (r : Reading) (g h : S) → Keeps belongs value g h → (before after : Store) (e : Term) (numbers : List ℕ) → AreStored (belongs g) before → AreBeside before after → AreRight r (value g) before.matrices.items e numbers → AreRight r (value h) after.matrices.items e numbers
again_right belongs value r g h keeps before after e numbers stored beside right = record {
  sets = tuples_kept belongs value r g h keeps before.matrices.items after.matrices.items _ numbers stored.matrices (λ k m at. ap (λ (ms : List MatrixEntries). slice_get ms k) beside.matrices ∙ at) right.sets;
}

-- one kept value more
pub kept_more : {S : Type 0} (belongs : S → Node → Type 0) (value : S → (ℕ → Bool) → Node → Bool) (r : Reading) (g h : S) → Keeps belongs value g h → (before after : List MatrixEntries) (kept new : List (Vec ℕ Global)) (v : Vec ℕ Global) (number : ℕ) → AllMatrices (belongs g) before → Stay before after → length kept ≡ number → new ≡ kept ++ v ∷ [] → AreKept r (value g) before kept → ((leaf : Leaf) → IsLeafAt r.bounds.relations leaf number → (v.items ≡ []) ⊎ AreOf r (value h) after leaf v.items) → AreKept r (value h) after new
kept_more belongs value r g h keeps before after kept new v number all stay long is old here leaf n numbers lt at = elim (push_cases kept v n numbers (ap (λ (vs : List (Vec ℕ Global)). slice_get vs n) (sym is) ∙ at)) [
  | inl there ↦ kept_kept belongs value r g h keeps before after kept all stay old leaf n numbers lt there
  | inr last ↦ (let same : n ≡ number = last.0 ∙ long in
      let said = here leaf (subst (λ (k : ℕ). IsLeafAt r.bounds.relations leaf k) same lt) in
      subst (λ (w : Vec ℕ Global). (w.items ≡ []) ⊎ AreOf r (value h) after leaf w.items) last.1 said)
]

pub grows_refl : (s : Store) → Grows s s
grows_refl s = record { rows = refl; matrices = λ k m at. at; integers = λ k b at. at }

pub grows_trans : (a b c : Store) → Grows a b → Grows b c → Grows a c
grows_trans a b c first second = record {
  rows = second.rows ∙ first.rows;
  matrices = λ k m at. second.matrices k m (first.matrices k m at);
  integers = λ k n at. second.integers k n (first.integers k n at);
}

pub added_grows : (a b : Store) (m : MatrixEntries) → IsAdded a b m → Grows a b
added_grows a b m added = record {
  rows = added.rows;
  matrices = λ k n at. ap (λ (ms : List MatrixEntries). slice_get ms k) added.matrices ∙ push_kept a.matrices.items m k n at;
  integers = λ k n at. ap (λ (ns : List (List Node)). slice_get ns k) added.integers ∙ at;
}

pub two_tops : {X : Type 0} (rest : List X) (f g : X) → (rest ++ f ∷ []) ++ g ∷ [] ≡ rest ++ f ∷ g ∷ []
two_tops [] f g = refl
two_tops (r ∷ rest) f g = ap (λ rs. r ∷ rs) (two_tops rest f g)
