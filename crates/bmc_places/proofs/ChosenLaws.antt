-- Sets that are chosen place by place.
use Rattle.std.proofs.Common.{◌≡◌, ◌↔◌, ◌⊎◌, ◌<◌, ◌≤◌, ◌+◌, ℕ, zero, suc, Bool, true, IsTrue, List, [], ◌∷◌, ◌++◌, length, get_or, slice_get, Some, refl, sym, ap, ◌∙◌, subst, arith, inl, inr}
use Rattle.std.proofs.lemmas.Bool.{cases_lt, cases_Bool, false≢true}
use Rattle.std.proofs.lemmas.Option.{slice_get_within, slice_get-get_or}
use Rattle.gate_trait.specs.declared.node.Node.{Node}
use Rattle.gate_trait.specs.Built.{Keeps, AllIn}
use Rattle.gate_trait.proofs.KeptLemmas.{all_get}
use Rattle.core_tree.specs.Trees.{Term, Claim, choose_term}
use Rattle.core_meaning.specs.Kept.{world_of}
use Rattle.core_meaning.specs.Operators.{Tuples}
use Rattle.core_meaning.specs.Meaning.{InTerm, Holds}
use Rattle.core_meaning.specs.Called.{no_bodies}
use Rattle.core_window.proofs.SameLemmas.{same_trans}
use Rattle.gate_matrix.specs.Matrices.{MatrixEntries, truth}
use Rattle.gate_matrix.proofs.FoundLemmas.{truth_kept}
use Rattle.gate_operators.specs.Sets.{MeansSet, set_of}
use Rattle.gate_sets.specs.Belonging.{AllMatrices}
use Rattle.gate_sets.specs.Sets.{chosen_tuples}
use Rattle.gate_temporal.specs.Rows.{row_value}
use Rattle.bmc_windows.proofs.PushLemmas.{push_kept, push_at}
use Rattle.bmc_stack.proofs.PlaceLaws.{matrix_belongs}
use Rattle.bmc_leaves.specs.Shown.{names_of, Reading, IsRight, AreRight}
use Rattle.bmc_places.specs.Chosen.{ChoosesAt, ChoosesThere, ChosenAt, AreChosen, AreAlike, AddsChosen}

pub node_there : (row : List Node) (i : ℕ) → i < length row → (n : Node) × (slice_get row i ≡ Some n)
node_there [] i lt = absurd (omega arith)
node_there (n ∷ row) zero lt = (n, refl)
node_there (n ∷ row) (suc i) lt = node_there row i (omega arith)

pub value_there : (value : Node → Bool) (row : List Node) (i : ℕ) (n : Node) → slice_get row i ≡ Some n → row_value value row i ≡ value n
value_there value [] i n at = absurd cc
value_there value (m ∷ row) zero n at = (let same : m ≡ n = cc in ap value same)
value_there value (m ∷ row) (suc i) n at = value_there value row i n at

-- the sets of the first places
abbrev pub ChosenTo : ((ℕ → Bool) → Node → Bool) → ((ℕ → Bool) → Node → Bool) → List MatrixEntries → List MatrixEntries → List Node → List ℕ → List ℕ → List ℕ → ℕ → Type 0
ChosenTo old new before after row a b numbers count = (i : ℕ) → i < count → ChosenAt old new before after row a b numbers i

-- what is chosen where values are the same
same_chosen : (c d : Bool) (A B E F : List ℕ → Bool) (w : Node → Bool) (m : MatrixEntries) → c ≡ d → ((t : List ℕ) → A t ≡ E t) → ((t : List ℕ) → B t ≡ F t) → MeansSet w m (chosen_tuples c (λ t. A t ≡ true) (λ t. B t ≡ true)) → MeansSet w m (chosen_tuples d (λ t. E t ≡ true) (λ t. F t ≡ true))
same_chosen c d A B E F w m e f g means = λ t. (
  (λ q. elim ((means t).0 q) [ inl p ↦ inl (sym e ∙ p.0, sym (f t) ∙ p.1) | inr p ↦ inr (sym e ∙ p.0, sym (g t) ∙ p.1) ]),
  (λ q. (means t).1 (elim q [ inl p ↦ inl (e ∙ p.0, f t ∙ p.1) | inr p ↦ inr (e ∙ p.0, g t ∙ p.1) ])),
)

module _ {S : Type 0} (belongs : S → Node → Type 0) (value : S → (ℕ → Bool) → Node → Bool) (first g h : S) (begun : Keeps belongs value first g) (keeps : Keeps belongs value g h)
    (before now later : List MatrixEntries) (all_before : AllMatrices (belongs first) before) (all_now : AllMatrices (belongs g) now) (row : List Node) (all_row : AllIn (belongs first) row) (a b : List ℕ)
    (stay : (k : ℕ) (m : MatrixEntries) → slice_get before k ≡ Some m → slice_get now k ≡ Some m) (grows : (k : ℕ) (m : MatrixEntries) → slice_get now k ≡ Some m → slice_get later k ≡ Some m) where
  -- an earlier place
  chosen_before : (numbers more : List ℕ) (k i : ℕ) → more ≡ numbers ++ k ∷ [] → ChosenAt (value first) (value g) before now row a b numbers i → ChosenAt (value first) (value h) before later row a b more i
  chosen_before numbers more k i is chosen n p q at at_p at_q =
      let (m, (j, here, stands), means) = chosen n p q at at_p at_q in (
        m,
        (j, ap (λ (ns : List ℕ). slice_get ns i) is ∙ push_kept numbers k i j here, grows j m stands),
        λ x t. (let e = truth_kept belongs value g h keeps m (matrix_belongs (belongs g) now j m all_now stands) x t in ((λ y. (means x t).0 (sym e ∙ y)), (λ y. e ∙ (means x t).1 y))),
      )

  -- a place that is like an earlier one
  chosen_alike : (numbers more : List ℕ) (k i j : ℕ) → more ≡ numbers ++ k ∷ [] → i ≡ length numbers → ((n : ℕ) → slice_get numbers j ≡ Some n → k ≡ n) → AreAlike row a b j i → ChosenAt (value first) (value g) before now row a b numbers j → ChosenAt (value first) (value h) before later row a b more i
  chosen_alike numbers more k i j is last found alike chosen n p q at at_p at_q =
      let (m, (o, here, stands), means) = chosen n p q (alike.node ∙ at) (at_p.0, alike.first ∙ at_p.1, at_p.2) (at_q.0, alike.second ∙ at_q.1, at_q.2) in
      let same = found o here in (
        m,
        (o, ap (λ (ns : List ℕ). slice_get ns i) is ∙ push_at numbers k i last ∙ ap Some same, grows o m stands),
        λ x t. (let e = truth_kept belongs value g h keeps m (matrix_belongs (belongs g) now o m all_now stands) x t in ((λ y. (means x t).0 (sym e ∙ y)), (λ y. e ∙ (means x t).1 y))),
      )

  -- a place at which a new set is chosen
  chosen_new : (numbers more : List ℕ) (k i : ℕ) → more ≡ numbers ++ k ∷ [] → i ≡ length numbers → ChoosesThere (value g) (value h) now later row a b i k → ChosenAt (value first) (value h) before later row a b more i
  chosen_new numbers more k i is last chooses n p q at at_p at_q =
      let (m, stands, means) = chooses n p q at (at_p.0, at_p.1, stay at_p.0 p at_p.2) (at_q.0, at_q.1, stay at_q.0 q at_q.2) in (
        m,
        (k, ap (λ (ns : List ℕ). slice_get ns i) is ∙ push_at numbers k i last, stands),
        λ x. same_chosen (value g x n) (value first x n) (truth (value g x) p) (truth (value g x) q) (truth (value first x) p) (truth (value first x) q) (value h x) m
            (begun.values n (all_get (belongs first) row i n all_row at) x)
            (truth_kept belongs value first g begun p (matrix_belongs (belongs first) before at_p.0 p all_before at_p.2) x)
            (truth_kept belongs value first g begun q (matrix_belongs (belongs first) before at_q.0 q all_before at_q.2) x)
            (means x),
      )

  pub chosen_more : (numbers more : List ℕ) (place : ℕ) → length numbers ≡ place → ChosenTo (value first) (value g) before now row a b numbers place → AddsChosen (value g) (value h) now later row a b place numbers more → ChosenTo (value first) (value h) before later row a b more (place + 1)
  chosen_more numbers more place long to (k, is, adds) i lt = elim (cases_lt i place) [
    | inl less ↦ chosen_before numbers more k i is (to i less)
    | inr ge ↦ (let same : place ≡ i = omega (arith, lt, ge) in
        subst (λ (at : ℕ). ChosenAt (value first) (value h) before later row a b more at) same (elim adds [
          | inl alike ↦ chosen_alike numbers more k place alike.0 is (sym long) alike.2 alike.3 (to alike.0 alike.1)
          | inr new ↦ chosen_new numbers more k place is (sym long) new
        ]))
  ]

-- behind the last place there is no node
pub chosen_all : (old new : (ℕ → Bool) → Node → Bool) (before after : List MatrixEntries) (row : List Node) (a b numbers : List ℕ) (count : ℕ) → length row ≤ count → ChosenTo old new before after row a b numbers count → AreChosen old new before after row a b numbers
chosen_all old new before after row a b numbers count none to i n p q at = (let lt = slice_get_within row i n at in to i (omega (arith, lt, none)) n p q at)

-- ---- what is chosen is right

chosen_same : (c : Bool) (P : Type 0) (A B E F : Tuples) → IsTrue c ↔ P → ((t : List ℕ) → A t ↔ E t) → ((t : List ℕ) → B t ↔ F t) → (t : List ℕ) → chosen_tuples c A B t ↔ ((P × E t) ⊎ ((¬ P) × F t))
chosen_same c P A B E F is first second t = (
  (λ h. elim h [
    | inl p ↦ inl (is.0 p.0, (first t).0 p.1)
    | inr p ↦ inr ((λ y. false≢true (sym p.0 ∙ is.1 y)), (second t).0 p.1)
  ]),
  (λ h. elim h [
    | inl p ↦ inl (is.1 p.0, (first t).1 p.1)
    | inr p ↦ elim (cases_Bool c) [
      | inl so ↦ absurd (p.0 (is.0 so))
      | inr not_so ↦ inr (not_so, (second t).1 p.1)
    ]
  ]),
)

pub choose_right : (r : Reading) (old new : (ℕ → Bool) → Node → Bool) (before after : List MatrixEntries) (f : Claim) (a b : Term) (row : List Node) (first second numbers : List ℕ) → IsRight r old f row → AreRight r old before a first → AreRight r old before b second → AreChosen old new before after row first second numbers → AreRight r new after (choose_term f a b) numbers
choose_right r old new before after f a b row first second numbers test left right chosen = record {
  sets = λ loop k s place.
      let (p, at_p, means_p) = left.sets loop k s place in
      let (q, at_q, means_q) = right.sets loop k s place in
      let (n, at) = node_there row (s.start + k) (test.inside loop k s place) in
      let (m, there, means) = chosen (s.start + k) n p q at at_p at_q in (
        m,
        there,
        λ x lasso shows at_loop t.
            let w = world_of r.scopes lasso in
            let is = test.holds loop k s place x lasso shows at_loop in
            let e = value_there (old x) row (s.start + k) n at in
            let says : IsTrue (old x n) ↔ Holds w no_bodies f (names_of r.atoms) k = ((λ y. is.0 (e ∙ y)), (λ y. sym e ∙ is.1 y)) in
            same_trans (means x t) (chosen_same (old x n) (Holds w no_bodies f (names_of r.atoms) k) (set_of (old x) p) (set_of (old x) q) (InTerm w no_bodies a (names_of r.atoms) k) (InTerm w no_bodies b (names_of r.atoms) k) says (means_p x lasso shows at_loop) (means_q x lasso shows at_loop) t),
      );
}

-- ---- places that are alike

pub chosen_none : (old new : (ℕ → Bool) → Node → Bool) (before after : List MatrixEntries) (row : List Node) (a b numbers : List ℕ) → ChosenTo old new before after row a b numbers 0
chosen_none old new before after row a b numbers i lt = absurd (omega (arith, lt))

pub same_places : (row : List ℕ) (i j d : ℕ) → i < length row → j < length row → get_or row i d ≡ get_or row j d → slice_get row i ≡ slice_get row j
same_places row i j d lt_i lt_j e = slice_get-get_or row i d lt_i ∙ ap Some e ∙ sym (slice_get-get_or row j d lt_j)

abbrev node_of : ℕ → Node
node_of code = record { code = code }

pub node_same : (m n : Node) → m.code ≡ n.code → m ≡ n
node_same m n e = ap node_of e

pub there_law : (old new : (ℕ → Bool) → Node → Bool) (before after : List MatrixEntries) (row : List Node) (a b : List ℕ) (i : ℕ) (node : Node) (x y k : ℕ) → ChoosesAt old new before after node x y k → ((n : Node) → slice_get row i ≡ Some n → node ≡ n) → ((m : ℕ) → slice_get a i ≡ Some m → x ≡ m) → ((m : ℕ) → slice_get b i ≡ Some m → y ≡ m) → ChoosesThere old new before after row a b i k
there_law old new before after row a b i node x y k chooses same same_a same_b n p q at at_p at_q =
    let one = ap (λ (m : ℕ). slice_get before m) (same_a at_p.0 at_p.1) ∙ at_p.2 in
    let two = ap (λ (m : ℕ). slice_get before m) (same_b at_q.0 at_q.1) ∙ at_q.2 in
    let (m, stands, means) = chooses p q one two in
    (m, stands, λ v. subst (λ (z : Node). MeansSet (new v) m (chosen_tuples (old v z) (set_of (old v) p) (set_of (old v) q))) (same n at) (means v))
