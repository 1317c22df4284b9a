-- What goes with a tuple of one end of an arrow.
use Rattle.std.proofs.Common.{◌≡◌, ◌↔◌, ◌≤◌, ◌<◌, ◌+◌, ◌-◌, ◌&&◌, ◌||◌, ℕ, Bool, true, false, List, [], ◌∷◌, ◌++◌, All, take, drop, length, length-append, slice_get, Some as SomeOf, refl, sym, ap, ◌∙◌, subst, arith, inl, inr}
use Rattle.std.proofs.Math.Seq.{take-append_seam, drop-append_seam}
use Rattle.std.proofs.lemmas.Bool.{cases_lt, false≢true}
use Rattle.std.proofs.lemmas.List.{take-append-drop, take_more}
use Rattle.std.proofs.lemmas.List.Elements.{All-nil, All-cons, All-append}
use Rattle.std.proofs.lemmas.Option.{slice_get_within, get_or_from_slice_get}
use Rattle.gate_trait.specs.declared.node.Node.{Node}
use Rattle.gate_trait.specs.Built.{Keeps, AllIn}
use Rattle.core_tree.specs.declared.operators.Multiplicity.TheVariants.{Set, One, Lone, Some}
use Rattle.core_window.proofs.SameLemmas.{same_trans, multiplicity_same}
use Rattle.core_tuples.specs.Sets.{is_same}
use Rattle.core_tuples.specs.Index.{IsNumber}
use Rattle.core_tuples.proofs.OrderedLemmas.{same_exact, same_itself}
use Rattle.gate_matrix.specs.declared.entry.Entry.{Entry}
use Rattle.gate_matrix.specs.Matrices.{MatrixEntries, IsMatrix, AllBelong, truth, has}
use Rattle.gate_matrix.proofs.FoundLemmas.{truth_kept, has_truth}
use Rattle.gate_operators.specs.Sets.{set_of}
use Rattle.gate_sets.specs.Belonging.{AllMatrices}
use Rattle.gate_sets.specs.declared.questions.Question.TheVariants.{Some as AsksSome, Lone as AsksLone}
use Rattle.bmc_windows.specs.Pairing.{ArePairs, IsMoved}
use Rattle.bmc_windows.proofs.PushLemmas.{push_kept, push_at}
use Rattle.bmc_stack.specs.declared.store.Store.{Store}
use Rattle.bmc_stack.specs.Stored.{AreStored}
use Rattle.bmc_stack.specs.Rows.{IsConstant, AreBoth}
use Rattle.bmc_stack.specs.Sets.{StandsAt, AreAnswered}
use Rattle.bmc_stack.proofs.PlaceLaws.{matrix_belongs}
use Rattle.bmc_leaves.proofs.RightLaws.{both_means, true_same}
use Rattle.bmc_leaves.proofs.RowLaws.{row_kept}
use Rattle.bmc_places.specs.Stores.{Extends}
use Rattle.bmc_places.specs.Rests.{joined, AddsRest, RestsAt, AreRests, HasWord}
use Rattle.bmc_places.proofs.GatherLaws.{has_push}
use Rattle.bmc_places.proofs.ListLaws.{take_all}

-- ---- a tuple that begins or ends with numbers

pub behind_some : (all numbers front back rest : List ℕ) (n : ℕ) → front ≡ take n all → back ≡ drop n all → is_same front numbers ≡ true → rest ≡ back → all ≡ numbers ++ rest
behind_some all numbers front back rest n is_front is_back same is_rest =
    sym (take-append-drop n all) ∙ ap (λ (t : List ℕ). t ++ drop n all) (sym is_front ∙ same_exact front numbers same) ∙ ap (λ (t : List ℕ). numbers ++ t) (sym (is_rest ∙ is_back))

pub behind_none : (all numbers front u : List ℕ) (n : ℕ) → n ≡ length numbers → front ≡ take n all → is_same front numbers ≡ false → ¬ (all ≡ numbers ++ u)
behind_none all numbers front u n long is_front other e =
    let cut : front ≡ numbers = is_front ∙ ap (λ (t : List ℕ). take n t) e ∙ ap (λ (k : ℕ). take k (numbers ++ u)) long ∙ take-append_seam numbers u in
    false≢true (sym other ∙ ap (λ (t : List ℕ). is_same t numbers) cut ∙ same_itself numbers)

pub before_some : (all numbers front back rest : List ℕ) (n : ℕ) → front ≡ take n all → back ≡ drop n all → is_same back numbers ≡ true → rest ≡ front → all ≡ rest ++ numbers
before_some all numbers front back rest n is_front is_back same is_rest =
    sym (take-append-drop n all) ∙ ap (λ (t : List ℕ). t ++ drop n all) (sym (is_rest ∙ is_front)) ∙ ap (λ (t : List ℕ). rest ++ t) (sym is_back ∙ same_exact back numbers same)

pub before_none : (all numbers back u : List ℕ) (n : ℕ) → n ≡ length all - length numbers → back ≡ drop n all → is_same back numbers ≡ false → ¬ (all ≡ u ++ numbers)
before_none all numbers back u n long is_back other e =
    let whole : length all ≡ length u + length numbers = ap (λ (t : List ℕ). length t) e ∙ length-append u numbers in
    let here : n ≡ length u = omega (arith, long, whole) in
    let cut : back ≡ numbers = is_back ∙ ap (λ (t : List ℕ). drop n t) e ∙ ap (λ (k : ℕ). drop k (u ++ numbers)) here ∙ drop-append_seam u numbers in
    false≢true (sym other ∙ ap (λ (t : List ℕ). is_same t numbers) cut ∙ same_itself numbers)

pub short_behind : (all numbers u : List ℕ) → length all < length numbers → ¬ (all ≡ numbers ++ u)
short_behind all numbers u lt e = (let whole : length all ≡ length numbers + length u = ap (λ (t : List ℕ). length t) e ∙ length-append numbers u in omega (arith, lt, whole))

pub short_before : (all numbers u : List ℕ) → length all < length numbers → ¬ (all ≡ u ++ numbers)
short_before all numbers u lt e = (let whole : length all ≡ length u + length numbers = ap (λ (t : List ℕ). length t) e ∙ length-append u numbers in omega (arith, lt, whole))

-- ---- what goes with a tuple of one end

front_same : (s u v : List ℕ) → s ++ u ≡ s ++ v → u ≡ v
front_same [] u v e = e
front_same (x ∷ s) u v e = (let t : s ++ u ≡ s ++ v = cc in front_same s u v t)

back_same : (s u v : List ℕ) → u ++ s ≡ v ++ s → u ≡ v
back_same s [] [] e = refl
back_same s [] (y ∷ v) e = absurd (let l : length s ≡ length ((y ∷ v) ++ s) = ap (λ (t : List ℕ). length t) e in let m = length-append v s in omega (arith, l, m))
back_same s (x ∷ u) [] e = absurd (let l : length ((x ∷ u) ++ s) ≡ length s = ap (λ (t : List ℕ). length t) e in let m = length-append u s in omega (arith, l, m))
back_same s (x ∷ u) (y ∷ v) e = (let h : x ≡ y = cc in let t : u ++ s ≡ v ++ s = cc in ap (λ (n : ℕ). n ∷ u) h ∙ ap (λ (w : List ℕ). y ∷ w) (back_same s u v t))

pub joined_same : (at_start : Bool) (s u v : List ℕ) → joined at_start s u ≡ joined at_start s v → u ≡ v
joined_same true s u v e = front_same s u v e
joined_same false s u v e = back_same s u v e

same_bool : (a b : Bool) → (a ≡ true → b ≡ true) → (b ≡ true → a ≡ true) → a ≡ b
same_bool true true to from = refl
same_bool true false to from = sym (to refl)
same_bool false true to from = from refl
same_bool false false to from = refl

same_when : (a b c d : List ℕ) → (a ≡ b → c ≡ d) → (c ≡ d → a ≡ b) → is_same a b ≡ is_same c d
same_when a b c d to from = same_bool (is_same a b) (is_same c d)
    (λ y. ap (λ (t : List ℕ). is_same t d) (to (same_exact a b y)) ∙ same_itself d)
    (λ y. ap (λ (t : List ℕ). is_same t b) (from (same_exact c d y)) ∙ same_itself b)

not_true : (b : Bool) → (b ≡ true → ⊥) → b ≡ false
not_true true never = absurd (never refl)
not_true false never = refl

or_none : (b c d : Bool) → c ≡ false → b || (c && d) ≡ b
or_none true c d e = refl
or_none false false d e = refl
or_none false true d e = absurd (false≢true (sym e))

all_at : {X : Type 0} (P : X → Type 0) (xs : List X) (i : ℕ) (x : X) → slice_get xs i ≡ SomeOf x → All P xs → P x
all_at {X = X} P xs i x at all = subst (λ (y : X). P y) (get_or_from_slice_get xs i x x at) (all i x (slice_get_within xs i x at))

-- the entries that are left of the first so many
pub record RestTo (belongs : Node → Type 0) (value : (ℕ → Bool) → Node → Bool) (all : List Entry) (s : List ℕ) (at_start : Bool) (columns place : ℕ) (entries : List Entry) : Type 0 where
  pub belong : AllBelong belongs entries
  pub columns_are : All (λ (e : Entry). length e.tuple ≡ columns) entries
  pub numbers : All (λ (e : Entry). All IsNumber e.tuple) entries
  pub means : (x : ℕ → Bool) (u : List ℕ) → has (value x) entries u ≡ has (value x) (take place all) (joined at_start s u)

pub rest_none : (belongs : Node → Type 0) (value : (ℕ → Bool) → Node → Bool) (all : List Entry) (s : List ℕ) (at_start : Bool) (columns : ℕ) (entries : List Entry) → entries ≡ [] → RestTo belongs value all s at_start columns 0 entries
rest_none belongs value all s at_start columns entries none = subst (λ (es : List Entry). RestTo belongs value all s at_start columns 0 es) (sym none) (record {
  belong = All-nil (λ (e : Entry). belongs e.node);
  columns_are = All-nil (λ (e : Entry). length e.tuple ≡ columns);
  numbers = All-nil (λ (e : Entry). All IsNumber e.tuple);
  means = λ x u. refl;
})

pub rest_more : (belongs : Node → Type 0) (value : (ℕ → Bool) → Node → Bool) (all : List Entry) (s : List ℕ) (at_start : Bool) (columns place : ℕ) (entries more : List Entry) (e : Entry) → AllBelong belongs all → slice_get all place ≡ SomeOf e → AddsRest e s at_start columns entries more
    → RestTo belongs value all s at_start columns place entries → RestTo belongs value all s at_start columns (place + 1) more
rest_more belongs value all s at_start columns place entries more e in_all at adds to =
    let longer : take (place + 1) all ≡ take place all ++ e ∷ [] = (take_more all place e (slice_get_within all place e at) ∙ ap (λ (d : Entry). take place all ++ d ∷ []) (get_or_from_slice_get all place e e at)) in
    let pushed = λ (x : ℕ → Bool) (u : List ℕ). ap (λ (es : List Entry). has (value x) es (joined at_start s u)) longer ∙ has_push (value x) (take place all) e (joined at_start s u) in
    elim adds [
      | inl (same, never) ↦ subst (λ (es : List Entry). RestTo belongs value all s at_start columns (place + 1) es) (sym same) (record {
        belong = to.belong;
        columns_are = to.columns_are;
        numbers = to.numbers;
        means = λ x u. to.means x u ∙ sym (pushed x u ∙ or_none (has (value x) (take place all) (joined at_start s u)) (is_same e.tuple (joined at_start s u)) (value x e.node) (not_true (is_same e.tuple (joined at_start s u)) (λ y. never u (same_exact e.tuple (joined at_start s u) y))));
      })
      | inr (d, is, joins, node, long, few) ↦ subst (λ (es : List Entry). RestTo belongs value all s at_start columns (place + 1) es) (sym is) (record {
        belong = All-append (λ (b : Entry). belongs b.node) entries (d ∷ []) to.belong (All-cons (λ (b : Entry). belongs b.node) d [] (subst (λ (n : Node). belongs n) (sym node) (all_at (λ (b : Entry). belongs b.node) all place e at in_all)) (All-nil (λ (b : Entry). belongs b.node)));
        columns_are = All-append (λ (b : Entry). length b.tuple ≡ columns) entries (d ∷ []) to.columns_are (All-cons (λ (b : Entry). length b.tuple ≡ columns) d [] long (All-nil (λ (b : Entry). length b.tuple ≡ columns)));
        numbers = All-append (λ (b : Entry). All IsNumber b.tuple) entries (d ∷ []) to.numbers (All-cons (λ (b : Entry). All IsNumber b.tuple) d [] few (All-nil (λ (b : Entry). All IsNumber b.tuple)));
        means = λ x u.
            let alike : is_same d.tuple u ≡ is_same e.tuple (joined at_start s u) = same_when d.tuple u e.tuple (joined at_start s u) (λ y. joins ∙ ap (λ (v : List ℕ). joined at_start s v) y) (λ y. joined_same at_start s d.tuple u (sym joins ∙ y)) in
            has_push (value x) entries d u ∙ ap (λ (b : Bool). b || (is_same d.tuple u && value x d.node)) (to.means x u) ∙ ap (λ (b : Bool). has (value x) (take place all) (joined at_start s u) || (b && value x d.node)) alike ∙ ap (λ (n : Node). has (value x) (take place all) (joined at_start s u) || (is_same e.tuple (joined at_start s u) && value x n)) node ∙ sym (pushed x u);
      })
    ]

-- what is left of all entries
pub rest_all : (old new : (ℕ → Bool) → Node → Bool) (m p : MatrixEntries) (s : List ℕ) (at_start : Bool) (all : List Entry) (place : ℕ) (entries : List Entry) → all ≡ m.entries → length all ≤ place → ((x : ℕ → Bool) (u : List ℕ) → truth (new x) p u ≡ has (old x) entries u) → ((x : ℕ → Bool) (u : List ℕ) → has (old x) entries u ≡ has (old x) (take place all) (joined at_start s u)) → IsMatrix m
    → (x : ℕ → Bool) (u : List ℕ) → (truth (new x) p u ≡ true) ↔ (truth (old x) m (joined at_start s u) ≡ true)
rest_all old new m p s at_start all place entries whole high same means matrix x u =
    let t = joined at_start s u in
    let e = same x u ∙ means x u ∙ ap (λ (es : List Entry). has (old x) es t) (take_all all place high ∙ whole) ∙ has_truth (old x) m.entries t matrix.sorted in
    ((λ y. sym e ∙ y), (λ y. e ∙ y))

-- ---- the sets of rests at places

-- what is made of the first sets
abbrev pub RestsTo : Bool → List ℕ → ((ℕ → Bool) → Node → Bool) → ((ℕ → Bool) → Node → Bool) → List MatrixEntries → List MatrixEntries → List (ℕ × ℕ) → List ℕ → ℕ → Type 0
RestsTo at_start s old new before after pairs numbers many = (j : ℕ) (pair : ℕ × ℕ) → j < many → slice_get pairs j ≡ SomeOf pair → (k : ℕ) × (slice_get numbers j ≡ SomeOf k) × RestsAt at_start s old new before after pair.0 k

module _ {S : Type 0} (belongs : S → Node → Type 0) (value : S → (ℕ → Bool) → Node → Bool) where
  rests_kept : (at_start : Bool) (s : List ℕ) (first g h : S) (a b d : List MatrixEntries) (n k : ℕ) → Keeps belongs value g h → AllMatrices (belongs g) b → ((i : ℕ) (m : MatrixEntries) → slice_get b i ≡ SomeOf m → slice_get d i ≡ SomeOf m) → RestsAt at_start s (value first) (value g) a b n k → RestsAt at_start s (value first) (value h) a d n k
  rests_kept at_start s first g h a b d n k keeps stored grows rests = λ m at.
      let (p, stands, means) = rests m at in
      (p, grows k p stands, λ x u. (let e = truth_kept belongs value g h keeps p (matrix_belongs (belongs g) b k p stored stands) x u in ((λ y. (means x u).0 (sym e ∙ y)), (λ y. e ∙ (means x u).1 y))))

  rests_from : (at_start : Bool) (s : List ℕ) (first g h : S) (a b d : List MatrixEntries) (n k : ℕ) → Keeps belongs value first g → AllMatrices (belongs first) a → ((i : ℕ) (m : MatrixEntries) → slice_get a i ≡ SomeOf m → slice_get b i ≡ SomeOf m) → RestsAt at_start s (value g) (value h) b d n k → RestsAt at_start s (value first) (value h) a d n k
  rests_from at_start s first g h a b d n k keeps stored grows rests = λ m at.
      let (p, stands, means) = rests m (grows n m at) in
      (p, stands, λ x u. (let e = truth_kept belongs value first g keeps m (matrix_belongs (belongs first) a n m stored at) x (joined at_start s u) in ((λ y. sym e ∙ (means x u).0 y), (λ y. (means x u).1 (e ∙ y)))))

  pub rests_more : (at_start : Bool) (s : List ℕ) (first now later : S) (a b d : Store) (pairs : List (ℕ × ℕ)) (numbers more : List ℕ) (place n : ℕ) (pair : ℕ × ℕ) → Keeps belongs value first now → Keeps belongs value now later → AreStored (belongs first) a → AreStored (belongs now) b → Extends a b → Extends b d → length numbers ≡ place → slice_get pairs place ≡ SomeOf pair
      → RestsTo at_start s (value first) (value now) a.matrices.items b.matrices.items pairs numbers place → RestsAt at_start s (value now) (value later) b.matrices.items d.matrices.items pair.0 n → more ≡ numbers ++ n ∷ [] → RestsTo at_start s (value first) (value later) a.matrices.items d.matrices.items pairs more (place + 1)
  rests_more at_start s first now later a b d pairs numbers more place n pair keeps more_keeps stored stored_b extends extends_b long at made rests is j q lt here = elim (cases_lt j place) [
    | inl less ↦ (let (k, there, old) = made j q less here in (k, ap (λ (ns : List ℕ). slice_get ns j) is ∙ push_kept numbers n j k there, rests_kept at_start s first now later a.matrices.items b.matrices.items d.matrices.items q.0 k more_keeps stored_b.matrices extends_b.matrices old))
    | inr ge ↦ (let same : place ≡ j = omega (arith, lt, ge) in
        let which : pair ≡ q = (let e : slice_get pairs place ≡ SomeOf q = ap (λ (i : ℕ). slice_get pairs i) same ∙ here in let f : SomeOf pair ≡ SomeOf q = sym at ∙ e in cc) in
        (n, ap (λ (ns : List ℕ). slice_get ns j) is ∙ push_at numbers n j (sym same ∙ sym long), subst (λ (r : ℕ × ℕ). RestsAt at_start s (value first) (value later) a.matrices.items d.matrices.items r.0 n) which (rests_from at_start s first now later a.matrices.items b.matrices.items d.matrices.items pair.0 n keeps stored.matrices extends.matrices rests)))
  ]

pub rests_all : (at_start : Bool) (s : List ℕ) (old new : (ℕ → Bool) → Node → Bool) (a b : List MatrixEntries) (pairs : List (ℕ × ℕ)) (numbers : List ℕ) (place : ℕ) → length pairs ≤ place → RestsTo at_start s old new a b pairs numbers place → (j : ℕ) (pair : ℕ × ℕ) → slice_get pairs j ≡ SomeOf pair → (k : ℕ) × (slice_get numbers j ≡ SomeOf k) × RestsAt at_start s old new a b pair.0 k
rests_all at_start s old new a b pairs numbers place high to j pair at = (let lt = slice_get_within pairs j pair at in to j pair (omega (arith, lt, high)) at)

pub rests_are : (at_start : Bool) (s : List ℕ) (old new : (ℕ → Bool) → Node → Bool) (a b : List MatrixEntries) (set : List ℕ) (pairs : List (ℕ × ℕ)) (which numbers row : List ℕ) → ArePairs pairs which set set → ((j : ℕ) (pair : ℕ × ℕ) → slice_get pairs j ≡ SomeOf pair → (k : ℕ) × (slice_get numbers j ≡ SomeOf k) × RestsAt at_start s old new a b pair.0 k) → IsMoved numbers which row → AreRests at_start s old new a b set row
rests_are at_start s old new a b set pairs which numbers row are made moved i m (n, at, stands) =
    let (k, at_k, pair_at_k) = are i n n at at in
    let (o, at_o, rests) = made k (n, n) pair_at_k in
    let (p, stands_p, means) = rests m stands in
    (p, (o, moved i k o at_k at_o, stands_p), means)

-- ---- multiplicities

pub word_set : (old new : (ℕ → Bool) → Node → Bool) (matrices : List MatrixEntries) (set : List ℕ) (many : ℕ) (row : List Node) → many ≡ length set → IsConstant new many true row → HasWord Set old new matrices set row
word_set old new matrices set many row is const i m (k, at, stands) = (
  (let l = slice_get_within set i k at in let n = const.long in omega (arith, l, n, is)),
  λ x. ((λ y. tt), (λ y. const.values x i (let l = slice_get_within set i k at in omega (arith, l, is)))),
)

pub word_some : (old new : (ℕ → Bool) → Node → Bool) (matrices : List MatrixEntries) (set : List ℕ) (row : List Node) → AreAnswered AsksSome old new matrices set set row → HasWord Some old new matrices set row
word_some old new matrices set row answered i m stands = answered i m m stands stands

pub word_lone : (old new : (ℕ → Bool) → Node → Bool) (matrices : List MatrixEntries) (set : List ℕ) (row : List Node) → AreAnswered AsksLone old new matrices set set row → HasWord Lone old new matrices set row
word_lone old new matrices set row answered i m stands = answered i m m stands stands

-- a set of the store, later
module _ {S : Type 0} (belongs : S → Node → Type 0) (value : S → (ℕ → Bool) → Node → Bool) where
  pub set_kept : (g h : S) → Keeps belongs value g h → (matrices : List MatrixEntries) (set : List ℕ) (p : ℕ) (m : MatrixEntries) → StandsAt matrices set p m → AllMatrices (belongs g) matrices → (x : ℕ → Bool) (t : List ℕ) → set_of (value h x) m t ↔ set_of (value g x) m t
  set_kept g h keeps matrices set p m (k, at, stands) all x t = (let e = truth_kept belongs value g h keeps m (matrix_belongs (belongs g) matrices k m all stands) x t in ((λ y. sym e ∙ y), (λ y. e ∙ y)))

module _ {S : Type 0} (belongs : S → Node → Type 0) (value : S → (ℕ → Bool) → Node → Bool) where
  -- g before, h after the first row, i after the second, j after both
  pub word_one : (g h i j : S) (matrices : List MatrixEntries) (set : List ℕ) (some lone row : List Node) → Keeps belongs value g h → Keeps belongs value h i → AllMatrices (belongs g) matrices → AllIn (belongs h) some
      → HasWord Some (value g) (value h) matrices set some → HasWord Lone (value h) (value i) matrices set lone → AreBoth (value i) (value j) some lone row → HasWord One (value g) (value j) matrices set row
  word_one g h i j matrices set some lone row keeps more_keeps all in_some has_some has_lone both p m stands =
      let (lt, says_some) = has_some p m stands in
      let (lt', says_lone) = has_lone p m stands in (
        (let l = both.long in omega (arith, l, lt)),
        λ x.
            let some_now = true_same _ _ (row_kept belongs value h i more_keeps some in_some x p) (says_some x) in
            let lone_now = same_trans (says_lone x) (multiplicity_same Lone (set_of (value h x) m) (set_of (value g x) m) (λ t. set_kept belongs value g h keeps matrices set p m stands all x t)) in
            both_means _ _ _ (both.values x p lt) some_now lone_now,
      )
