-- The sets at the next places, where one goes back to the chosen loop.
use Rattle.std.proofs.Common.{◌≡◌, ◌<◌, ◌≤◌, ◌+◌, ℕ, Bool, true, false, List, [], ◌∷◌, ◌++◌, length, get_or, slice_get, Some, refl, sym, ap, ◌∙◌, subst, arith, inl, inr}
use Rattle.std.proofs.lemmas.Bool.{cases_lt, cases_Bool}
use Rattle.std.proofs.lemmas.Option.{slice_get_within, get_or_from_slice_get}
use Rattle.gate_trait.specs.declared.node.Node.{Node}
use Rattle.gate_trait.specs.Built.{Keeps, AllIn}
use Rattle.gate_trait.proofs.KeptLemmas.{all_get}
use Rattle.core_window.proofs.SameLemmas.{same_trans}
use Rattle.gate_matrix.specs.Matrices.{MatrixEntries, truth}
use Rattle.gate_matrix.proofs.FoundLemmas.{truth_kept}
use Rattle.gate_operators.specs.Sets.{MeansSet, set_of}
use Rattle.gate_sets.specs.Belonging.{AllMatrices}
use Rattle.gate_sets.specs.Sets.{chosen_tuples}
use Rattle.gate_temporal.specs.Rows.{row_value, IsOnly}
use Rattle.bmc_windows.specs.declared.frame.Stretch.{Stretch}
use Rattle.bmc_windows.specs.declared.frame.Frame.{Frame}
use Rattle.bmc_windows.specs.Pairing.{IsMoved}
use Rattle.bmc_windows.proofs.PushLemmas.{push_kept, push_at}
use Rattle.bmc_stack.specs.Sets.{StandsAt}
use Rattle.bmc_stack.proofs.PlaceLaws.{matrix_belongs}
use Rattle.bmc_places.specs.Rounds.{IsSetAtLoop, IsNumberNext, AreNumbersNext, AreNextSets}
use Rattle.bmc_places.proofs.ChosenLaws.{value_there}

-- ---- one choice

same_set : (value : Node → Bool) (m p : MatrixEntries) → m ≡ p → MeansSet value m (set_of value p)
same_set value m p is = λ t. ((λ q. ap (λ (n : MatrixEntries). truth value n t) (sym is) ∙ q), (λ q. ap (λ (n : MatrixEntries). truth value n t) is ∙ q))

chosen_first : (c : Bool) (A B : List ℕ → Bool) (w : Node → Bool) (m : MatrixEntries) → c ≡ true → MeansSet w m (chosen_tuples c (λ t. A t ≡ true) (λ t. B t ≡ true)) → MeansSet w m (λ t. A t ≡ true)
chosen_first true A B w m is means = λ t. ((λ q. elim ((means t).0 q) [ inl p ↦ p.1 | inr p ↦ absurd (let clash : true ≡ false = p.0 in cc) ]), (λ q. (means t).1 (inl (refl, q))))
chosen_first false A B w m is means = absurd cc

chosen_second : (c : Bool) (A B : List ℕ → Bool) (w : Node → Bool) (m : MatrixEntries) → c ≡ false → MeansSet w m (chosen_tuples c (λ t. A t ≡ true) (λ t. B t ≡ true)) → MeansSet w m (λ t. B t ≡ true)
chosen_second true A B w m is means = absurd cc
chosen_second false A B w m is means = λ t. ((λ q. elim ((means t).0 q) [ inl p ↦ absurd (let clash : false ≡ true = p.0 in cc) | inr p ↦ p.1 ]), (λ q. (means t).1 (inr (refl, q))))

-- the set of a number that is read at a place
pub set_here : (value : Node → Bool) (ms : List MatrixEntries) (row : List ℕ) (place number : ℕ) (p q d : MatrixEntries) → ((n : ℕ) → slice_get row place ≡ Some n → number ≡ n) → q ≡ get_or ms number d → StandsAt ms row place p → q ≡ p
set_here value ms row place number p q d found is stands = is ∙ ap (λ (j : ℕ). get_or ms j d) (found stands.0 stands.1) ∙ get_or_from_slice_get ms stands.0 p d stands.2

pub here_law : (old new : Node → Bool) (ms : List MatrixEntries) (row : List ℕ) (place number : ℕ) (node : Node) (p q d other m : MatrixEntries) → ((n : ℕ) → slice_get row place ≡ Some n → number ≡ n) → q ≡ get_or ms number d → MeansSet new m (chosen_tuples (old node) (set_of old q) (set_of old other)) → old node ≡ true → StandsAt ms row place p → MeansSet new m (set_of old p)
here_law old new ms row place number node p q d other m found is means said stands t = same_trans (chosen_first (old node) (truth old q) (truth old other) new m said means t) (same_set old q p (set_here old ms row place number p q d found is stands) t)

pub other_law : (old new : Node → Bool) (node : Node) (q other m : MatrixEntries) → MeansSet new m (chosen_tuples (old node) (set_of old q) (set_of old other)) → old node ≡ false → MeansSet new m (set_of old other)
other_law old new node q other m means denied = chosen_second (old node) (truth old q) (truth old other) new m denied means

-- ---- one choice behind the other

-- the set is right where the loop is one of the first
abbrev pub SetTo : ((ℕ → Bool) → Node → Bool) → ((ℕ → Bool) → Node → Bool) → List MatrixEntries → Frame → List Node → List ℕ → ℕ → MatrixEntries → Type 0
SetTo old new matrices frame choices row count m = (x : ℕ → Bool) (l : ℕ) (s : Stretch) (p : MatrixEntries) → l < count → IsOnly (old x) choices l → slice_get frame.windows.items l ≡ Some s → StandsAt matrices row s.back p → MeansSet (new x) m (set_of (old x) p)

window_same : (ws : List Stretch) (j l : ℕ) (w s : Stretch) → j ≡ l → slice_get ws j ≡ Some w → slice_get ws l ≡ Some s → w ≡ s
window_same ws j l w s same at_w at_s =
    let both : Some w ≡ Some s = sym at_w ∙ ap (λ (i : ℕ). slice_get ws i) same ∙ at_s in
    cc

stands_there : (ms : List MatrixEntries) (row : List ℕ) (w s : Stretch) (p : MatrixEntries) → w ≡ s → StandsAt ms row s.back p → StandsAt ms row w.back p
stands_there ms row w s p same stands = (stands.0, ap (λ (v : Stretch). slice_get row v.back) same ∙ stands.1, stands.2)

pub set_first : (value : (ℕ → Bool) → Node → Bool) (ms : List MatrixEntries) (frame : Frame) (choices : List Node) (row : List ℕ) (w : Stretch) (number : ℕ) (m d : MatrixEntries) → slice_get frame.windows.items 0 ≡ Some w → ((n : ℕ) → slice_get row w.back ≡ Some n → number ≡ n) → m ≡ get_or ms number d → SetTo value value ms frame choices row 1 m
set_first value ms frame choices row w number m d at found is x l s p lt only here stands =
    let same : 0 ≡ l = omega (arith, lt) in
    same_set (value x) m p (set_here (value x) ms row w.back number p m d found is (stands_there ms row w s p (window_same frame.windows.items 0 l w s same at here) stands))

module _ {S : Type 0} (belongs : S → Node → Type 0) (value : S → (ℕ → Bool) → Node → Bool) where
  pub set_more : (first g h : S) → Keeps belongs value first g → (ms : List MatrixEntries) → AllMatrices (belongs first) ms → (frame : Frame) (choices : List Node) → AllIn (belongs first) choices → (row : List ℕ) (turn : ℕ) (w : Stretch) (node : Node) (m next : MatrixEntries)
      → slice_get frame.windows.items turn ≡ Some w → slice_get choices turn ≡ Some node → SetTo (value first) (value g) ms frame choices row turn m
      → ((x : ℕ → Bool) (p : MatrixEntries) → value g x node ≡ true → StandsAt ms row w.back p → MeansSet (value h x) next (set_of (value g x) p))
      → ((x : ℕ → Bool) → value g x node ≡ false → MeansSet (value h x) next (set_of (value g x) m))
      → SetTo (value first) (value h) ms frame choices row (turn + 1) next
  set_more first g h begun ms all frame choices all_in row turn w node m next at_w at_node before here other x l s p lt only at_l stands =
      let same_node : value g x node ≡ value first x node = begun.values node (all_get (belongs first) choices turn node all_in at_node) x in
      let row_is : row_value (value first x) choices turn ≡ value first x node = value_there (value first x) choices turn node at_node in
      let inside : turn < length choices = slice_get_within choices turn node at_node in
      elim (cases_lt l turn) [
        | inl less ↦
            let denied : value g x node ≡ false = elim (cases_Bool (value g x node)) [
              | inl said ↦ (let same : turn ≡ l = only.others turn inside (row_is ∙ sym same_node ∙ said) in absurd (omega (arith, less, same)))
              | inr denied ↦ denied
            ] in
            λ t. same_trans (other x denied t) (before x l s p less only at_l stands t)
        | inr ge ↦
            let same : turn ≡ l = omega (arith, lt, ge) in
            let said : value g x node ≡ true = same_node ∙ sym row_is ∙ ap (λ (j : ℕ). row_value (value first x) choices j) same ∙ only.here in
            let there = stands_there ms row w s p (window_same frame.windows.items turn l w s same at_w at_l) stands in
            λ t. (let e = truth_kept belongs value first g begun p (matrix_belongs (belongs first) ms stands.0 p all stands.2) x t in
            same_trans (here x p said there t) ((λ q. sym e ∙ q), (λ q. e ∙ q)))
      ]

  -- where the sets are numbered anew
  pub turned_sets : (g h : S) → Keeps belongs value g h → (before after : List MatrixEntries) → AllMatrices (belongs g) before → ((k : ℕ) (m : MatrixEntries) → slice_get before k ≡ Some m → slice_get after k ≡ Some m)
      → (frame : Frame) (choices : List Node) (row new : List ℕ) (number : ℕ) (back : MatrixEntries) → slice_get after number ≡ Some back → AreNumbersNext row frame.next.items number new → IsSetAtLoop (value g) (value h) before frame choices row back
      → AreNextSets (value g) (value h) before after frame choices row new
  turned_sets g h keeps before after all grows frame choices row new number back at_back numbers set s i j p at next stands =
      let (k, at_k, is_k) = numbers i j at in
      let (behind, given) = is_k j at in
      let front = λ (so : j ≡ i + 1). (let same = behind so stands.0 stands.1 in ap (λ (n : ℕ). slice_get after n) same ∙ grows stands.0 p stands.2) in
      let turned = λ (never : ¬ (j ≡ i + 1)). ap (λ (n : ℕ). slice_get after n) (given never) ∙ at_back in
      let kept = λ (x : ℕ → Bool) (t : List ℕ). truth_kept belongs value g h keeps p (matrix_belongs (belongs g) before stands.0 p all stands.2) x t in
      elim (cases_lt j (i + 1)) [
        | inl less ↦ (let never : ¬ (j ≡ i + 1) = λ so. omega (arith, less, so) in elim next [
          | inl so ↦ absurd (never so)
          | inr goes ↦ (back, (k, at_k, turned never), λ x chosen. set x s p chosen (subst (λ (b : ℕ). StandsAt before row b p) goes stands))
        ])
        | inr ge ↦ elim (cases_lt (i + 1) j) [
          | inl more ↦ (let never : ¬ (j ≡ i + 1) = λ so. omega (arith, more, so) in elim next [
            | inl so ↦ absurd (never so)
            | inr goes ↦ (back, (k, at_k, turned never), λ x chosen. set x s p chosen (subst (λ (b : ℕ). StandsAt before row b p) goes stands))
          ])
          | inr le ↦ (let so : j ≡ i + 1 = omega (arith, ge, le) in (p, (k, at_k, front so), λ x chosen t. ((λ q. sym (kept x t) ∙ q), (λ q. kept x t ∙ q))))
        ]
      ]

pub set_all : (old new : (ℕ → Bool) → Node → Bool) (ms : List MatrixEntries) (frame : Frame) (choices : List Node) (row : List ℕ) (turn : ℕ) (m : MatrixEntries) → length choices ≤ turn → SetTo old new ms frame choices row turn m → IsSetAtLoop old new ms frame choices row m
set_all old new ms frame choices row turn m le to x s p chosen stands = (let lt = chosen.1.inside in to x chosen.0 s p (omega (arith, lt, le)) chosen.1 chosen.2 stands)

-- where the same set stands wherever one goes back, nothing is built
pub static_sets : (value : (ℕ → Bool) → Node → Bool) (ms : List MatrixEntries) (frame : Frame) (choices : List Node) (row new : List ℕ) → IsMoved row frame.next.items new → AreNextSets value value ms ms frame choices row new
static_sets value ms frame choices row new moved s i j p at next stands = (p, (stands.0, moved i j stands.0 at stands.1, stands.2), λ x chosen t. ((λ q. q), (λ q. q)))

-- ---- numbers at the next places

pub number_none : (row next : List ℕ) (given i : ℕ) → length next ≤ i → IsNumberNext row next given i given
number_none row next given i none j at = (let lt = slice_get_within next i j at in absurd (omega (arith, lt, none)))

pub number_behind : (row next : List ℕ) (given i there k : ℕ) → slice_get next i ≡ Some there → there ≡ i + 1 → ((n : ℕ) → slice_get row there ≡ Some n → k ≡ n) → IsNumberNext row next given i k
number_behind row next given i there k is so found j at =
    let both : Some there ≡ Some j = sym is ∙ at in
    let same : there ≡ j = cc in
    ((λ to n at_n. found n (ap (λ (m : ℕ). slice_get row m) same ∙ at_n)), (λ never. absurd (never (sym same ∙ so))))

pub number_given : (row next : List ℕ) (given i there : ℕ) → slice_get next i ≡ Some there → ¬ (there ≡ i + 1) → IsNumberNext row next given i given
number_given row next given i there is never j at =
    let both : Some there ≡ Some j = sym is ∙ at in
    let same : there ≡ j = cc in
    ((λ so n at_n. absurd (never (same ∙ so))), (λ so. refl))

abbrev pub NumbersTo : List ℕ → List ℕ → ℕ → List ℕ → ℕ → Type 0
NumbersTo row next given numbers count = (i j : ℕ) → i < count → slice_get next i ≡ Some j → (number : ℕ) × (slice_get numbers i ≡ Some number) × IsNumberNext row next given i number

pub numbers_more : (row next : List ℕ) (given : ℕ) (numbers more : List ℕ) (k place : ℕ) → more ≡ numbers ++ k ∷ [] → length numbers ≡ place → NumbersTo row next given numbers place → IsNumberNext row next given place k → NumbersTo row next given more (place + 1)
numbers_more row next given numbers more k place is long to here i j lt at = elim (cases_lt i place) [
  | inl less ↦ (let (number, found, are) = to i j less at in (number, ap (λ (ns : List ℕ). slice_get ns i) is ∙ push_kept numbers k i number found, are))
  | inr ge ↦ (let same : i ≡ length numbers = omega (arith, lt, ge, long) in
      let same_place : place ≡ i = omega (arith, lt, ge) in
      (k, ap (λ (ns : List ℕ). slice_get ns i) is ∙ push_at numbers k i same, subst (λ (n : ℕ). IsNumberNext row next given n k) same_place here))
]

pub numbers_all : (row next : List ℕ) (given : ℕ) (numbers : List ℕ) (place : ℕ) → length next ≤ place → NumbersTo row next given numbers place → AreNumbersNext row next given numbers
numbers_all row next given numbers place le to i j at = (let lt = slice_get_within next i j at in to i j (omega (arith, lt, le)) at)
