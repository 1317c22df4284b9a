-- The nodes of reached gates, where some `and`s have no variable, and what the variables say of all gates.
use Rattle.std.proofs.Common.{◌≡◌, ◌≢◌, ℕ, zero, suc, ◌+◌, ◌<◌, ◌≤◌, Bool, true, false, cond, not, ◌&&◌, ◌||◌, List, [], ◌∷◌, ◌++◌, length, get_or, Some, refl, sym, ◌∙◌, ap, subst, arith, inl, inr, All}
use Rattle.std.specs.List.{slice_get}
use Rattle.std.proofs.lemmas.Bool.{cases_Bool, false≢true}
use Rattle.std.proofs.lemmas.Option.{slice_get_within}
use Rattle.std.proofs.lemmas.List.Elements.{All-nil, All-head, All-tail, All-push, All-pop}
use Rattle.std.proofs.lemmas.List.Folds.{list_all-append}
use Rattle.gate_trait.specs.declared.node.Node.{Node}
use Rattle.gate_trait.specs.declared.gate.Gate.{Gate}
use Rattle.gate_trait.specs.declared.gate.Gate.TheVariants.{Constant, Input, And, Or, Xor, Choose}
use Rattle.gate_trait.specs.NodeWords.{number_of, is_negated}
use Rattle.gate_trait.specs.Built.{xor}
use Rattle.gate_trait.specs.Circuit.{value_among, gate_value, values, IsAbove, IsLayered}
use Rattle.gate_trait.proofs.GateLaw.{gate_law}
use Rattle.gate_tseitin.specs.Named.{marked, named_values, alike, defined, defined_where}
use Rattle.gate_tseitin.specs.Reached.{HasMark, PartsMarked, Grows, AreReached}
use Rattle.gate_tseitin.specs.Folded.{count_in, use_count, IsInside, MayFold, AreKept}
use Rattle.gate_tseitin.specs.Shown.{AreComputed, IsShown, IsOperand, PartsKept, AreLinked, all_nodes, value_over, defined_over}
use Rattle.gate_tseitin.proofs.Definitions.{get_here}
use Rattle.gate_tseitin.proofs.Asked.{there_if}

-- ---- the nodes of reached gates

module _ (gates : List Gate) (sure : Node) (roots : List Node) (marks kept : List Bool) (reach : AreReached gates sure roots marks) (keep : AreKept gates sure roots marks kept) where
  -- a node of a reached gate is kept, if it isn't an operand of an `and`
  part_kept : (k : ℕ) (g : Gate) (n : Node) → slice_get gates k ≡ Some g → marked marks k ≡ true → HasMark marks n → (IsInside (number_of n) g → number_of n ≢ number_of n) → HasMark kept n
  part_kept k g n at mark has outside = elim (cases_Bool (marked kept (number_of n))) [
    | inl hit ↦ hit
    | inr none ↦ absurd (outside ((keep.others (number_of n) has none).inside k g at mark) refl)
  ]

  part_operand : (k : ℕ) (g : Gate) (n : Node) → slice_get gates k ≡ Some g → marked marks k ≡ true → HasMark marks n → (IsInside (number_of n) g → number_of n ≡ number_of n → is_negated n ≡ false) → IsOperand marks kept n
  part_operand k g n at mark has inside = elim (cases_Bool (marked kept (number_of n))) [
    | inl hit ↦ inl hit
    | inr none ↦ inr (has, inside ((keep.others (number_of n) has none).inside k g at mark) refl)
  ]

  parts_kept : (k : ℕ) (g : Gate) → slice_get gates k ≡ Some g → marked marks k ≡ true → PartsMarked marks g → PartsKept marks kept g
  parts_kept k (Constant b) at mark h = tt
  parts_kept k (Input w) at mark h = tt
  parts_kept k (And a b) at mark h = (part_operand k (And a b) a at mark h.0 (λ i. i.0), part_operand k (And a b) b at mark h.1 (λ i. i.1))
  parts_kept k (Or a b) at mark h = (part_kept k (Or a b) a at mark h.0 (λ i. i.0), part_kept k (Or a b) b at mark h.1 (λ i. i.1))
  parts_kept k (Xor a b) at mark h = (part_kept k (Xor a b) a at mark h.0 (λ i. i.0), part_kept k (Xor a b) b at mark h.1 (λ i. i.1))
  parts_kept k (Choose c a b) at mark h = (part_kept k (Choose c a b) c at mark h.0 (λ i. i.0), part_kept k (Choose c a b) a at mark h.1 (λ i. i.1), part_kept k (Choose c a b) b at mark h.2 (λ i. i.2))

  pub linked : AreLinked gates marks kept
  linked = record {
    marks_each = reach.each;
    kept_each = keep.each;
    reached = keep.reached;
    parts = λ k g at mark. parts_kept k g at mark (reach.closed k g at mark);
  }

  pub sure_kept : HasMark kept sure
  sure_kept = elim (cases_Bool (marked kept (number_of sure))) [
    | inl hit ↦ hit
    | inr none ↦ absurd ((keep.others (number_of sure) reach.surely none).apart refl)
  ]

  pub roots_kept : All (HasMark kept) roots
  roots_kept k d lt = elim (cases_Bool (marked kept (number_of (get_or roots k d)))) [
    | inl hit ↦ hit
    | inr none ↦ absurd ((keep.others (number_of (get_or roots k d)) (reach.rooted k d lt) none).aside k d lt refl)
  ]

-- more marks, more uses
uses_less : (marks others : List Bool) (k : ℕ) → Grows marks others → (j : ℕ) (gates : List Gate) → use_count marks k j gates ≤ use_count others k j gates
uses_less marks others k grows j [] = omega arith
uses_less marks others k grows j (g ∷ gates) = omega (arith, by_marks (marked marks j) (marked others j) (grows j), uses_less marks others k grows (j + 1) gates)
  where
    by_marks : (b c : Bool) → (b ≡ true → c ≡ true) → cond b (count_in k g) 0 ≤ cond c (count_in k g) 0
    by_marks true true h = omega arith
    by_marks true false h = absurd (false≢true (h refl))
    by_marks false c h = omega arith

fold_less : (gates : List Gate) (sure : Node) (roots : List Node) (marks others : List Bool) (k : ℕ) → Grows marks others → MayFold gates sure roots others k → MayFold gates sure roots marks k
fold_less gates sure roots marks others k grows m = record {
  conjunction = m.conjunction;
  once = omega (arith, m.once, uses_less marks others k grows 0 gates);
  inside = λ i g at mark. m.inside i g at (grows i mark);
  apart = m.apart;
  aside = m.aside;
}

-- where other marks reach no less, no fewer are kept
pub kept_least : (gates : List Gate) (sure : Node) (roots : List Node) (marks kept others fewer : List Bool) → AreKept gates sure roots marks kept → ((k : ℕ) → MayFold gates sure roots marks k → marked kept k ≡ false) → Grows marks others → AreKept gates sure roots others fewer → Grows kept fewer
kept_least gates sure roots marks kept others fewer keep least grows other k has = elim (cases_Bool (marked fewer k)) [
  | inl hit ↦ hit
  | inr none ↦ absurd (false≢true (sym (least k (fold_less gates sure roots marks others k grows (other.others k (grows k (keep.reached k has)) none))) ∙ has))
]

-- the same, of marks that are equal
pub kept_same : (gates : List Gate) (sure : Node) (roots : List Node) (marks kept others those : List Bool) → marks ≡ others → kept ≡ those → AreKept gates sure roots marks kept → AreKept gates sure roots others those
kept_same gates sure roots marks kept others those e f h = subst (λ (ms : List Bool). AreKept gates sure roots ms those) e (subst (λ (ks : List Bool). AreKept gates sure roots marks ks) f h)

-- ---- leaves

-- an operand's gate is there
pub operand_there : (gates : List Gate) (marks kept : List Bool) (n : Node) → AreLinked gates marks kept → IsOperand marks kept n → number_of n < length gates
operand_there gates marks kept n l (inl has) = omega (arith, there_if kept (number_of n) has, l.kept_each)
operand_there gates marks kept n l (inr has) = omega (arith, there_if marks (number_of n) has.0, l.marks_each)

-- one that has no variable is reached, and not negated
pub operand_open : (marks kept : List Bool) (n : Node) → IsOperand marks kept n → marked kept (number_of n) ≡ false → HasMark marks n × (is_negated n ≡ false)
operand_open marks kept n (inl has) none = absurd (false≢true (sym none ∙ has))
operand_open marks kept n (inr has) none = has

-- its operands are such
pub operands_of : (gates : List Gate) (marks kept : List Bool) (n a b : Node) → AreLinked gates marks kept → IsOperand marks kept n → marked kept (number_of n) ≡ false → slice_get gates (number_of n) ≡ Some (And a b) → IsOperand marks kept a × IsOperand marks kept b
operands_of gates marks kept n a b l is none at = l.parts (number_of n) (And a b) at (operand_open marks kept n is none).0

-- and it has the value of their conjunction
pub operand_value : (gates : List Gate) (marks kept : List Bool) (n a b : Node) (v : ℕ → Bool) (vs : List Bool) → IsOperand marks kept n → marked kept (number_of n) ≡ false → slice_get gates (number_of n) ≡ Some (And a b) → AreComputed gates kept v vs → value_among vs n ≡ value_among vs a && value_among vs b
operand_value gates marks kept n a b v vs is none at computed =
    ap (λ (t : Bool). xor t (get_or vs (number_of n) false)) (operand_open marks kept n is none).1
    ∙ computed (number_of n) (And a b) at none

-- a node more at the end of a list
pub nodes_more : (vs : List Bool) (old new : List Node) (n : Node) → new ≡ old ++ n ∷ [] → all_nodes vs new ≡ all_nodes vs old && value_among vs n
nodes_more vs old new n is = ap (λ (ns : List Node). all_nodes vs ns) is ∙ list_all-append (value_among vs) old (n ∷ []) ∙ ap (λ (b : Bool). all_nodes vs old && b) (and_true (value_among vs n))
  where
    and_true : (b : Bool) → b && true ≡ b
    and_true true = refl
    and_true false = refl

-- a leaf is taken
pub leaf_taken : (l w n new : Bool) → new ≡ l && n → new && w ≡ l && (w && n)
leaf_taken l w n new is = ap (λ (b : Bool). b && w) is ∙ by_cases l w n
  where
    by_cases : (l w n : Bool) → (l && n) && w ≡ l && (w && n)
    by_cases false w n = refl
    by_cases true true true = refl
    by_cases true true false = refl
    by_cases true false true = refl
    by_cases true false false = refl

-- an operand is opened
pub node_opened : (l w n a b mid new : Bool) → mid ≡ w && b → new ≡ mid && a → n ≡ a && b → l && new ≡ l && (w && n)
node_opened l w n a b mid new first second is = ap (λ (t : Bool). l && t) (second ∙ ap (λ (t : Bool). t && a) first ∙ by_cases w a b ∙ ap (λ (t : Bool). w && t) (sym is))
  where
    by_cases : (w a b : Bool) → (w && b) && a ≡ w && (a && b)
    by_cases false a b = refl
    by_cases true true true = refl
    by_cases true true false = refl
    by_cases true false true = refl
    by_cases true false false = refl

-- at first two operands wait
pub first_two : (vs : List Bool) (a b : Node) (none one two : List Node) → none ≡ [] → one ≡ none ++ b ∷ [] → two ≡ one ++ a ∷ [] → all_nodes vs two ≡ value_among vs a && value_among vs b
first_two vs a b none one two h i j = nodes_more vs one two a j ∙ ap (λ (t : Bool). t && value_among vs a) (nodes_more vs none one b i ∙ ap (λ (ns : List Node). all_nodes vs ns && value_among vs b) h) ∙ by_cases (value_among vs a) (value_among vs b)
  where
    by_cases : (a b : Bool) → (true && b) && a ≡ a && b
    by_cases true true = refl
    by_cases true false = refl
    by_cases false true = refl
    by_cases false false = refl

-- ---- definitions over leaves

nodes_same : (us vs kept : List Bool) (nodes : List Node) → ((k : ℕ) → marked kept k ≡ true → get_or us k false ≡ get_or vs k false) → All (HasMark kept) nodes → all_nodes us nodes ≡ all_nodes vs nodes
nodes_same us vs kept [] same all = refl
nodes_same us vs kept (n ∷ nodes) same all =
    let here : value_among us n ≡ value_among vs n = ap (λ (b : Bool). xor (is_negated n) b) (same (number_of n) (All-head (HasMark kept) n nodes all)) in
    let rest = nodes_same us vs kept nodes same (All-tail (HasMark kept) n nodes all) in
    cc

over_same : (us vs marks kept : List Bool) (v : ℕ → Bool) (leaves : List Node) (g : Gate) → ((k : ℕ) → marked kept k ≡ true → get_or us k false ≡ get_or vs k false) → All (HasMark kept) leaves → PartsKept marks kept g → value_over us v leaves g ≡ value_over vs v leaves g
over_same us vs marks kept v leaves (Constant b) same all h = refl
over_same us vs marks kept v leaves (Input w) same all h = refl
over_same us vs marks kept v leaves (And a b) same all h = nodes_same us vs kept leaves same all
over_same us vs marks kept v leaves (Or a b) same all h =
    let e = same (number_of a) h.0 in
    let f = same (number_of b) h.1 in
    cc
over_same us vs marks kept v leaves (Xor a b) same all h =
    let e = same (number_of a) h.0 in
    let f = same (number_of b) h.1 in
    cc
over_same us vs marks kept v leaves (Choose c a b) same all h =
    let e = same (number_of c) h.0 in
    let f = same (number_of a) h.1 in
    let g = same (number_of b) h.2 in
    cc

-- what is said of a kept gate over its leaves is what is said of it by its value
pub kept_defined : (gates : List Gate) (marks kept : List Bool) (names : List ℕ) (v : ℕ → Bool) (vs : List Bool) (leaves : List Node) (k : ℕ) (g : Gate) → IsShown gates kept names v vs → marked kept k ≡ true → All (HasMark kept) leaves → PartsKept marks kept g → value_over vs v leaves g ≡ gate_value vs v g → defined_over (named_values v names) v leaves k g ≡ defined_where vs v kept k g
kept_defined gates marks kept names v vs leaves k g shown has all parts over =
    let us = named_values v names in
    let here : get_or us k false ≡ get_or vs k false = sym (shown.named k has) in
    let computes : value_over us v leaves g ≡ gate_value vs v g = over_same us vs marks kept v leaves g (λ j mark. sym (shown.named j mark)) all parts ∙ over in
    ap (λ (b : Bool). alike b (value_over us v leaves g)) here
    ∙ ap (λ (b : Bool). alike (get_or vs k false) b) computes
    ∙ ap (λ (b : Bool). not b || defined vs v k g) (sym has)

-- nothing is said of another gate
pub other_defined : (vs kept : List Bool) (v : ℕ → Bool) (k : ℕ) (g : Gate) (b : Bool) → marked kept k ≡ false → b ≡ b && defined_where vs v kept k g
other_defined vs kept v k g b none = sym (and_true b) ∙ ap (λ (m : Bool). b && (not m || defined vs v k g)) (sym none)
  where
    and_true : (b : Bool) → b && true ≡ b
    and_true true = refl
    and_true false = refl

pub marks_there : (marks : List Bool) (nodes : List Node) (m : ℕ) → length marks ≡ m → All (HasMark marks) nodes → All (λ n. number_of n < m) nodes
marks_there marks nodes m long all k d lt = omega (arith, there_if marks (number_of (get_or nodes k d)) (all k d lt), long)

-- ---- what the variables say of the gates

pub named_get : (v : ℕ → Bool) (names : List ℕ) (k : ℕ) → k < length names → get_or (named_values v names) k false ≡ v (get_or names k 0)
named_get v [] k lt = absurd (omega arith)
named_get v (m ∷ names) zero lt = refl
named_get v (m ∷ names) (suc k) lt = named_get v names k (omega arith)

-- the gates as the variables show them: one that is kept is an input, its variable, and another is what it is
abbrev shown_gate : List Bool → List ℕ → ℕ → Gate → Gate
shown_gate kept names k g = cond (marked kept k) (Input (get_or names k 0)) g

abbrev shown_from : List Bool → List ℕ → ℕ → List Gate → List Gate
shown_from kept names k [] = []
shown_from kept names k (g ∷ gates) = shown_gate kept names k g ∷ shown_from kept names (k + 1) gates

abbrev pub shown_values : List Bool → List ℕ → List Gate → (ℕ → Bool) → List Bool
shown_values kept names gates v = values (shown_from kept names 0 gates) v

shown_long : (kept : List Bool) (names : List ℕ) (j : ℕ) (gates : List Gate) → length (shown_from kept names j gates) ≡ length gates
shown_long kept names j [] = refl
shown_long kept names j (g ∷ gates) = ap suc (shown_long kept names (j + 1) gates)

shown_at : (kept : List Bool) (names : List ℕ) (j : ℕ) (gates : List Gate) (k : ℕ) (g : Gate) → slice_get gates k ≡ Some g → slice_get (shown_from kept names j gates) k ≡ Some (shown_gate kept names (j + k) g)
shown_at kept names j [] k g at = absurd (cc)
shown_at kept names j (f ∷ gates) zero g at =
    let e : f ≡ g = cc in
    let z : j ≡ j + 0 = omega arith in
    ap (λ (i : ℕ). Some (shown_gate kept names i f)) z ∙ ap (λ (q : Gate). Some (shown_gate kept names (j + 0) q)) e
shown_at kept names j (f ∷ gates) (suc k) g at =
    let p : (j + 1) + k ≡ j + suc k = omega arith in
    shown_at kept names (j + 1) gates k g at ∙ ap (λ (i : ℕ). Some (shown_gate kept names i g)) p

shown_above : (kept : List Bool) (names : List ℕ) (k : ℕ) (g : Gate) → IsAbove k g → IsAbove k (shown_gate kept names k g)
shown_above kept names k g above = by_mark (marked kept k)
  where
    by_mark : (b : Bool) → IsAbove k (cond b (Input (get_or names k 0)) g)
    by_mark true = tt
    by_mark false = above

module _ (gates : List Gate) (kept : List Bool) (names : List ℕ) (v : ℕ → Bool) (layered : IsLayered gates) (kept_each : length kept ≡ length gates) (names_each : length names ≡ length gates) where
  shown_here : (k : ℕ) (g : Gate) → slice_get gates k ≡ Some g → slice_get (shown_from kept names 0 gates) k ≡ Some (shown_gate kept names k g)
  shown_here k g at = let z : 0 + k ≡ k = omega arith in shown_at kept names 0 gates k g at ∙ ap (λ (i : ℕ). Some (shown_gate kept names i g)) z

  shown_layered : IsLayered (shown_from kept names 0 gates)
  shown_layered k f at =
      let lt : k < length gates = omega (arith, slice_get_within (shown_from kept names 0 gates) k f at, shown_long kept names 0 gates) in
      let g = get_here gates k lt in
      let here = shown_here k g.0 g.1 in
      let same : shown_gate kept names k g.0 ≡ f = cc in
      subst (λ (q : Gate). IsAbove k q) same (shown_above kept names k g.0 (layered k g.0 g.1))

  shown_value : (k : ℕ) (g : Gate) → slice_get gates k ≡ Some g → get_or (shown_values kept names gates v) k false ≡ gate_value (shown_values kept names gates v) v (shown_gate kept names k g)
  shown_value k g at = gate_law (shown_from kept names 0 gates) v k (shown_gate kept names k g) shown_layered (shown_here k g at)

  pub is_shown : IsShown gates kept names v (shown_values kept names gates v)
  is_shown = record {
    named = λ k has. (let lt : k < length names = omega (arith, there_if kept k has, kept_each, names_each) in
        let g = get_here gates k (omega (arith, lt, names_each)) in
        shown_value k g.0 g.1
        ∙ ap (λ (b : Bool). gate_value (shown_values kept names gates v) v (cond b (Input (get_or names k 0)) g.0)) has
        ∙ sym (named_get v names k lt));
    computed = λ k g at none. shown_value k g at ∙ ap (λ (b : Bool). gate_value (shown_values kept names gates v) v (cond b (Input (get_or names k 0)) g)) none;
  }

-- ---- the walk over the operands of an `and`

pub over_and : (vs : List Bool) (v : ℕ → Bool) (leaves : List Node) (g : Gate) (a b : Node) → g ≡ And a b → all_nodes vs leaves ≡ value_among vs a && value_among vs b → value_over vs v leaves g ≡ gate_value vs v g
over_and vs v leaves g a b is h = ap (λ (f : Gate). value_over vs v leaves f) is ∙ h ∙ sym (ap (λ (f : Gate). gate_value vs v f) is)

pub begun : (marks kept : List Bool) (a b : Node) (none one two leaves : List Node) → none ≡ [] → one ≡ none ++ b ∷ [] → two ≡ one ++ a ∷ [] → leaves ≡ [] → IsOperand marks kept a → IsOperand marks kept b → All (IsOperand marks kept) two × All (HasMark kept) leaves
begun marks kept a b none one two leaves h i j e first second =
    let empty : All (IsOperand marks kept) none = subst (λ (ns : List Node). All (IsOperand marks kept) ns) (sym h) (All-nil (IsOperand marks kept)) in
    let more : All (IsOperand marks kept) one = subst (λ (ns : List Node). All (IsOperand marks kept) ns) (sym i) (All-push (IsOperand marks kept) none b empty second) in
    let all : All (IsOperand marks kept) two = subst (λ (ns : List Node). All (IsOperand marks kept) ns) (sym j) (All-push (IsOperand marks kept) one a more first) in
    let none_yet : All (HasMark kept) leaves = subst (λ (ns : List Node). All (HasMark kept) ns) (sym e) (All-nil (HasMark kept)) in
    (all, none_yet)

pub begun_value : (vs : List Bool) (a b : Node) (none one two leaves : List Node) → none ≡ [] → one ≡ none ++ b ∷ [] → two ≡ one ++ a ∷ [] → leaves ≡ [] → all_nodes vs leaves && all_nodes vs two ≡ value_among vs a && value_among vs b
begun_value vs a b none one two leaves h i j e = ap (λ (ns : List Node). all_nodes vs ns && all_nodes vs two) e ∙ first_two vs a b none one two h i j

-- the last one is taken
pub popped : (P : Node → Type 0) (old new : List Node) (n : Node) → old ≡ new ++ n ∷ [] → All P old → All P new × P n
popped P old new n is all = All-pop P old new (Some n) is all

pub taken_value : (vs : List Bool) (old new last leaves next : List Node) (n : Node) (all : Bool) → old ≡ new ++ n ∷ [] → all_nodes vs next && all_nodes vs last ≡ all_nodes vs leaves && (all_nodes vs new && value_among vs n) → all_nodes vs leaves && all_nodes vs old ≡ all → all_nodes vs next && all_nodes vs last ≡ all
taken_value vs old new last leaves next n all is opened before = opened ∙ ap (λ (b : Bool). all_nodes vs leaves && b) (sym (nodes_more vs new old n is)) ∙ before

-- where none waits, the leaves are all
pub none_waits : (vs : List Bool) (waiting leaves : List Node) (all : Bool) → waiting ≡ [] → all_nodes vs leaves && all_nodes vs waiting ≡ all → all_nodes vs leaves ≡ all
none_waits vs waiting leaves all is h = sym (and_true (all_nodes vs leaves)) ∙ ap (λ (ns : List Node). all_nodes vs leaves && all_nodes vs ns) (sym is) ∙ h
  where
    and_true : (b : Bool) → b && true ≡ b
    and_true true = refl
    and_true false = refl
