-- Sets at all places.
use Rattle.std.proofs.Common.{◌≡◌, ◌↔◌, ◌⊎◌, ◌<◌, ◌≤◌, ◌+◌, ℕ, Bool, true, List, [], ◌∷◌, ◌++◌, length, get_or, slice_get, Some, All, refl, sym, ap, ◌∙◌, subst, arith, inl, inr, length-append}
use Rattle.std.proofs.Math.Path.{fun_ext}
use Rattle.std.proofs.lemmas.Bool.{cases_lt}
use Rattle.std.proofs.lemmas.Option.{slice_get_within, get_or_from_slice_get, slice_get-get_or}
use Rattle.gate_trait.specs.declared.node.Node.{Node}
use Rattle.gate_trait.specs.Built.{Keeps, AllIn}
use Rattle.gate_trait.proofs.KeptLemmas.{all_get}
use Rattle.gate_matrix.specs.Matrices.{MatrixEntries, AllBelong, truth}
use Rattle.gate_matrix.proofs.FoundLemmas.{truth_kept}
use Rattle.gate_operators.specs.Sets.{MeansSet, set_of}
use Rattle.gate_sets.specs.Belonging.{AllMatrices, AllLists}
use Rattle.gate_sets.specs.declared.operators.SetOperator.{SetOperator}
use Rattle.gate_sets.specs.declared.questions.Question.{Question}
use Rattle.gate_sets.specs.Sets.{tuples_made, IsAnswered}
use Rattle.gate_temporal.specs.Rows.{row_value}
use Rattle.bmc_windows.specs.Pairing.{ArePairs, IsMoved}
use Rattle.bmc_windows.proofs.PushLemmas.{push_kept, push_at}
use Rattle.bmc_stack.specs.declared.numbers.Operator.{Operator}
use Rattle.bmc_stack.specs.declared.numbers.Operator.TheVariants.{OfSets}
use Rattle.bmc_stack.specs.declared.numbers.TestOperator.{TestOperator}
use Rattle.bmc_stack.specs.declared.numbers.TestOperator.TheVariants.{OfSets as AskSets}
use Rattle.bmc_stack.specs.Rows.{IsSpread}
use Rattle.bmc_stack.specs.Sets.{StandsAt, AreMade, AreAnswered}
use Rattle.bmc_stack.specs.Steps.{MakesSet, AnswersSets, AllMade, AllAnswered}
use Rattle.bmc_stack.proofs.RowLaws.{value_at}

pub matrix_belongs : (P : Node → Type 0) (ms : List MatrixEntries) (k : ℕ) (m : MatrixEntries) → AllMatrices P ms → slice_get ms k ≡ Some m → AllBelong P m.entries
matrix_belongs P ms k m all at = subst (λ (n : MatrixEntries). AllBelong P n.entries) (get_or_from_slice_get ms k m m at) (all k m (slice_get_within ms k m at))

pub last_belongs : (P : Node → Type 0) (rest : List (List Node)) (f : List Node) → AllLists P (rest ++ f ∷ []) → AllIn P f
last_belongs P rest f all =
    let at : slice_get (rest ++ f ∷ []) (length rest) ≡ Some f = push_at rest f (length rest) refl in
    subst (λ (r : List Node). AllIn P r) (get_or_from_slice_get (rest ++ f ∷ []) (length rest) f f at) (all (length rest) f (slice_get_within (rest ++ f ∷ []) (length rest) f at))

-- the truth of two matrices, in other words
made_as : (op : SetOperator) (w : Node → Bool) (m : MatrixEntries) (A B C D : List ℕ → Bool) → A ≡ C → B ≡ D → MeansSet w m (tuples_made op (λ t. A t ≡ true) (λ t. B t ≡ true)) → MeansSet w m (tuples_made op (λ t. C t ≡ true) (λ t. D t ≡ true))
made_as op w m A B C D e f h =
    subst (λ (Y : List ℕ → Bool). MeansSet w m (tuples_made op (λ t. C t ≡ true) (λ t. Y t ≡ true))) f
    (subst (λ (X : List ℕ → Bool). MeansSet w m (tuples_made op (λ t. X t ≡ true) (λ t. B t ≡ true))) e h)

asked_as : (q : Question) (b : Bool) (A B C D : List ℕ → Bool) → A ≡ C → B ≡ D → (b ≡ true) ↔ IsAnswered q (λ t. A t ≡ true) (λ t. B t ≡ true) → (b ≡ true) ↔ IsAnswered q (λ t. C t ≡ true) (λ t. D t ≡ true)
asked_as q b A B C D e f h =
    subst (λ (Y : List ℕ → Bool). (b ≡ true) ↔ IsAnswered q (λ t. C t ≡ true) (λ t. Y t ≡ true)) f
    (subst (λ (X : List ℕ → Bool). (b ≡ true) ↔ IsAnswered q (λ t. X t ≡ true) (λ t. B t ≡ true)) e h)

means_kept : (w v : Node → Bool) (m : MatrixEntries) (T : List ℕ → Type 0) → ((t : List ℕ) → truth w m t ≡ truth v m t) → MeansSet v m T → MeansSet w m T
means_kept w v m T e h = λ t. ((λ q. (h t).0 (sym (e t) ∙ q)), (λ q. e t ∙ (h t).1 q))

module _ {S : Type 0} (belongs : S → Node → Type 0) (value : S → (ℕ → Bool) → Node → Bool) where
  -- a set that was made stays what it was, in a circuit and among sets that have grown
  pub makes_kept : (op : Operator) (first g h : S) (before now later : List MatrixEntries) (pair : ℕ × ℕ) (k : ℕ) → Keeps belongs value g h → AllMatrices (belongs g) now → ((j : ℕ) (m : MatrixEntries) → slice_get now j ≡ Some m → slice_get later j ≡ Some m) → MakesSet op (value first) (value g) before now pair k → MakesSet op (value first) (value h) before later pair k
  makes_kept op first g h before now later pair k keeps all grows makes = λ of p q is at_p at_q.
      let r = makes of p q is at_p at_q in
      (r.0, grows k r.0 r.1, λ x. means_kept (value h x) (value g x) r.0 (tuples_made of (set_of (value first x) p) (set_of (value first x) q)) (truth_kept belongs value g h keeps r.0 (matrix_belongs (belongs g) now k r.0 all r.1) x) (r.2 x))

  -- a set is made of sets that were there from the beginning
  pub makes_from : (op : Operator) (first g h : S) (before now later : List MatrixEntries) (pair : ℕ × ℕ) (k : ℕ) → Keeps belongs value first g → AllMatrices (belongs first) before → ((j : ℕ) (m : MatrixEntries) → slice_get before j ≡ Some m → slice_get now j ≡ Some m) → MakesSet op (value g) (value h) now later pair k → MakesSet op (value first) (value h) before later pair k
  makes_from op first g h before now later pair k keeps all grows makes = λ of p q is at_p at_q.
      let r = makes of p q is (grows pair.0 p at_p) (grows pair.1 q at_q) in (
        r.0,
        r.1,
        λ x. made_as of (value h x) r.0 (truth (value g x) p) (truth (value g x) q) (truth (value first x) p) (truth (value first x) q)
            (fun_ext (truth_kept belongs value first g keeps p (matrix_belongs (belongs first) before pair.0 p all at_p) x))
            (fun_ext (truth_kept belongs value first g keeps q (matrix_belongs (belongs first) before pair.1 q all at_q) x))
            (r.2 x),
      )

  -- the same of answers
  pub answers_kept : (question : TestOperator) (first g h : S) (matrices : List MatrixEntries) (pair : ℕ × ℕ) (n : Node) → Keeps belongs value g h → belongs g n → AnswersSets question (value first) (value g) matrices pair n → AnswersSets question (value first) (value h) matrices pair n
  answers_kept question first g h matrices pair n keeps here says = λ of p q is at_p at_q x.
      let r = says of p q is at_p at_q x in
      let same = keeps.values n here x in
      ((λ e. r.0 (sym same ∙ e)), (λ a. same ∙ r.1 a))

  pub answers_from : (question : TestOperator) (first g h : S) (matrices : List MatrixEntries) (pair : ℕ × ℕ) (n : Node) → Keeps belongs value first g → AllMatrices (belongs first) matrices → AnswersSets question (value g) (value h) matrices pair n → AnswersSets question (value first) (value h) matrices pair n
  answers_from question first g h matrices pair n keeps all says = λ of p q is at_p at_q x.
      asked_as of (value h x n) (truth (value g x) p) (truth (value g x) q) (truth (value first x) p) (truth (value first x) q)
      (fun_ext (truth_kept belongs value first g keeps p (matrix_belongs (belongs first) matrices pair.0 p all at_p) x))
      (fun_ext (truth_kept belongs value first g keeps q (matrix_belongs (belongs first) matrices pair.1 q all at_q) x))
      (says of p q is at_p at_q x)

-- the pair that is found at a place
pub pair_found : (pairs : List (ℕ × ℕ)) (i : ℕ) (p : ℕ × ℕ) → i < length pairs → ((m n : ℕ) → slice_get pairs i ≡ Some (m, n) → p ≡ (m, n)) → p ≡ get_or pairs i p
pair_found pairs i p lt found = (let q = get_or pairs i p in found q.0 q.1 (slice_get-get_or pairs i p lt))

-- the sets of the first pairs
abbrev pub MadeTo : Operator → ((ℕ → Bool) → Node → Bool) → ((ℕ → Bool) → Node → Bool) → List MatrixEntries → List MatrixEntries → List (ℕ × ℕ) → List ℕ → ℕ → Type 0
MadeTo op old new before after pairs numbers i =
    (j : ℕ) (pair : ℕ × ℕ) → j < i → slice_get pairs j ≡ Some pair → (k : ℕ) × (slice_get numbers j ≡ Some k) × MakesSet op old new before after pair k

pub made_none : (op : Operator) (old new : (ℕ → Bool) → Node → Bool) (before after : List MatrixEntries) (pairs : List (ℕ × ℕ)) → MadeTo op old new before after pairs [] 0
made_none op old new before after pairs = λ j pair lt. absurd (omega arith)

pub made_all : (op : Operator) (old new : (ℕ → Bool) → Node → Bool) (before after : List MatrixEntries) (pairs : List (ℕ × ℕ)) (numbers : List ℕ) (i : ℕ) → length pairs ≤ i → MadeTo op old new before after pairs numbers i → AllMade op old new before after pairs numbers
made_all op old new before after pairs numbers i over h = λ j pair at. (let inside = slice_get_within pairs j pair at in h j pair (omega (arith, inside, over)) at)

pub made_more : {S : Type 0} (belongs : S → Node → Type 0) (value : S → (ℕ → Bool) → Node → Bool) (op : Operator) (first g h : S) (before now later : List MatrixEntries) (pairs : List (ℕ × ℕ)) (numbers new : List ℕ) (i k : ℕ) (pair : ℕ × ℕ) → Keeps belongs value first g → Keeps belongs value g h → AllMatrices (belongs first) before → AllMatrices (belongs g) now → ((j : ℕ) (m : MatrixEntries) → slice_get before j ≡ Some m → slice_get now j ≡ Some m) → ((j : ℕ) (m : MatrixEntries) → slice_get now j ≡ Some m → slice_get later j ≡ Some m) → length numbers ≡ i → pair ≡ get_or pairs i pair → MadeTo op (value first) (value g) before now pairs numbers i → MakesSet op (value g) (value h) now later pair k → new ≡ numbers ++ k ∷ [] → MadeTo op (value first) (value h) before later pairs new (i + 1)
made_more belongs value op first g h before now later pairs numbers new i k pair keeps more all_first all_now grows grow long here made makes is =
    subst (λ (s : List ℕ). MadeTo op (value first) (value h) before later pairs s (i + 1)) (sym is) (λ j other lt at. elim (cases_lt j i) [
      | inl less ↦ (let r = made j other less at in
          (r.0, push_kept numbers k j r.0 r.1, makes_kept belongs value op first g h before now later other r.0 more all_now grow r.2))
      | inr ge ↦ (let same : j ≡ i = omega (arith, lt, ge) in
          let one : pair ≡ other = here ∙ ap (λ (q : ℕ). get_or pairs q pair) (sym same) ∙ get_or_from_slice_get pairs j other pair at in
          (k, push_at numbers k j (same ∙ sym long), subst (λ (p : ℕ × ℕ). MakesSet op (value first) (value h) before later p k) one (makes_from belongs value op first g h before now later pair k keeps all_first grows makes)))
    ])

-- what is made at all places
pub made_at : (of : SetOperator) (op : Operator) (old new : (ℕ → Bool) → Node → Bool) (before after : List MatrixEntries) (a b : List ℕ) (pairs : List (ℕ × ℕ)) (which numbers row : List ℕ) → op ≡ OfSets of → ArePairs pairs which a b → AllMade op old new before after pairs numbers → IsMoved numbers which row → AreMade of old new before after a b row
made_at of op old new before after a b pairs which numbers row is are made moved = λ i p q left right.
    let r = are i left.0 right.0 left.1 right.1 in
    let s = made r.0 (left.0, right.0) r.2 in
    let t = s.2 of p q is left.2 right.2 in
    (t.0, (s.0, moved i r.0 s.0 r.1 s.1, t.1), t.2)

pub answered_at : (of : Question) (question : TestOperator) (old new : (ℕ → Bool) → Node → Bool) (matrices : List MatrixEntries) (a b : List ℕ) (pairs : List (ℕ × ℕ)) (which : List ℕ) (f row : List Node) → question ≡ AskSets of → ArePairs pairs which a b → AllAnswered question old new matrices pairs f → IsSpread new f which row → AreAnswered of old new matrices a b row
answered_at of question old new matrices a b pairs which f row is are says spread = λ i p q left right.
    let r = are i left.0 right.0 left.1 right.1 in
    let s = says r.0 (left.0, right.0) r.2 in
    let inside = slice_get_within which i r.0 r.1 in
    let long = spread.long in (
      omega (arith, inside, long),
      λ x.
          let t = s.2 of p q is left.2 right.2 x in
          let same = spread.values x i r.0 r.1 ∙ value_at (new x) f r.0 s.0 s.1 in
          ((λ e. t.0 (sym same ∙ e)), (λ h. same ∙ t.1 h)),
    )

-- the answers for the first pairs
pub record AnsweredTo (question : TestOperator) (old new : (ℕ → Bool) → Node → Bool) (matrices : List MatrixEntries) (pairs : List (ℕ × ℕ)) (i : ℕ) (f : List Node) : Type 0 where
  pub long : length f ≡ i
  pub each : (j : ℕ) (pair : ℕ × ℕ) → j < i → slice_get pairs j ≡ Some pair → (n : Node) × (slice_get f j ≡ Some n) × AnswersSets question old new matrices pair n

pub answered_none : (question : TestOperator) (old new : (ℕ → Bool) → Node → Bool) (matrices : List MatrixEntries) (pairs : List (ℕ × ℕ)) → AnsweredTo question old new matrices pairs 0 []
answered_none question old new matrices pairs = record { long = refl; each = λ j pair lt. absurd (omega arith) }

pub answered_all : (question : TestOperator) (old new : (ℕ → Bool) → Node → Bool) (matrices : List MatrixEntries) (pairs : List (ℕ × ℕ)) (i : ℕ) (f : List Node) → length pairs ≤ i → AnsweredTo question old new matrices pairs i f → AllAnswered question old new matrices pairs f
answered_all question old new matrices pairs i f over h = λ j pair at. (let inside = slice_get_within pairs j pair at in h.each j pair (omega (arith, inside, over)) at)

pub answered_more : {S : Type 0} (belongs : S → Node → Type 0) (value : S → (ℕ → Bool) → Node → Bool) (question : TestOperator) (first g h : S) (matrices : List MatrixEntries) (pairs : List (ℕ × ℕ)) (f new : List Node) (n : Node) (i : ℕ) (pair : ℕ × ℕ) → Keeps belongs value first g → Keeps belongs value g h → AllMatrices (belongs first) matrices → AllIn (belongs g) f → pair ≡ get_or pairs i pair → AnsweredTo question (value first) (value g) matrices pairs i f → AnswersSets question (value g) (value h) matrices pair n → new ≡ f ++ n ∷ [] → AnsweredTo question (value first) (value h) matrices pairs (i + 1) new
answered_more belongs value question first g h matrices pairs f new n i pair keeps more all f_all here done says is =
    subst (λ (s : List Node). AnsweredTo question (value first) (value h) matrices pairs (i + 1) s) (sym is) (record {
      long = length-append f (n ∷ []) ∙ ap (λ (k : ℕ). k + 1) done.long;
      each = λ j other lt at. elim (cases_lt j i) [
        | inl less ↦ (let r = done.each j other less at in
            (r.0, push_kept f n j r.0 r.1, answers_kept belongs value question first g h matrices other r.0 more (all_get (belongs g) f j r.0 f_all r.1) r.2))
        | inr ge ↦ (let same : j ≡ i = omega (arith, lt, ge) in
            let one : pair ≡ other = here ∙ ap (λ (q : ℕ). get_or pairs q pair) (sym same) ∙ get_or_from_slice_get pairs j other pair at in
            (n, push_at f n j (same ∙ sym done.long), subst (λ (p : ℕ × ℕ). AnswersSets question (value first) (value h) matrices p n) one (answers_from belongs value question first g h matrices pair n keeps all says)))
      ];
    })
