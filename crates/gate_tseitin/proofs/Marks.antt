-- Marks: what is marked stays marked, and what a gate reads is marked after it.
use Rattle.std.proofs.Common.{◌≡◌, ℕ, zero, suc, ◌+◌, ◌<◌, ◌≤◌, Bool, true, false, cond, List, [], length, get_or, set, take, replicate, Some, refl, sym, ◌∙◌, ap, subst, arith, inl, inr, All}
use Rattle.std.specs.List.{slice_get}
use Rattle.std.proofs.lemmas.Bool.{cases_eq, false≢true}
use Rattle.std.proofs.lemmas.List.{get_or-set_same, get_or-set_other, length-set, take_more, get_or_past}
use Rattle.std.proofs.lemmas.List.Elements.{All-push}
use Rattle.gate_trait.specs.declared.node.Node.{Node}
use Rattle.gate_trait.specs.declared.gate.Gate.{Gate}
use Rattle.gate_trait.specs.declared.gate.Gate.TheVariants.{Constant, Input, And, Or, Xor, Choose}
use Rattle.gate_trait.specs.NodeWords.{number_of}
use Rattle.gate_trait.specs.Circuit.{gate_value, IsAbove}
use Rattle.gate_tseitin.specs.Named.{marked}
use Rattle.gate_tseitin.specs.Reached.{HasMark, PartsMarked, IsClosed, Grows, with_mark, with_parts}

pub with_mark_here : (marks : List Bool) (n : Node) → number_of n < length marks → HasMark (with_mark marks n) n
with_mark_here marks n lt = get_or-set_same marks (number_of n) true false lt

pub with_mark_grows : (marks : List Bool) (n : Node) → number_of n < length marks → Grows marks (with_mark marks n)
with_mark_grows marks n lt k h = elim (cases_eq k (number_of n)) [
  | inl e ↦ subst (λ (j : ℕ). get_or (set marks (number_of n) true) j false ≡ true) (sym e) (get_or-set_same marks (number_of n) true false lt)
  | inr apart ↦ get_or-set_other marks (number_of n) k true false apart ∙ h
]

with_mark_other : (marks : List Bool) (n : Node) (m k : ℕ) → number_of n < m → m ≤ k → marked (with_mark marks n) k ≡ marked marks k
with_mark_other marks n m k below high = get_or-set_other marks (number_of n) k true false (λ (e : k ≡ number_of n). absurd (omega arith))

with_mark_long : (marks : List Bool) (n : Node) → length (with_mark marks n) ≡ length marks
with_mark_long marks n = length-set marks (number_of n) true

two_grow : (marks : List Bool) (a b : Node) → number_of a < length marks → number_of b < length marks → Grows marks (with_mark (with_mark marks a) b)
two_grow marks a b la lb k h = with_mark_grows (with_mark marks a) b (omega (arith, with_mark_long marks a, lb)) k (with_mark_grows marks a la k h)

two_here : (marks : List Bool) (a b : Node) → number_of a < length marks → number_of b < length marks → HasMark (with_mark (with_mark marks a) b) a × HasMark (with_mark (with_mark marks a) b) b
two_here marks a b la lb =
    let long : number_of b < length (with_mark marks a) = omega (arith, with_mark_long marks a, lb) in
    (with_mark_grows (with_mark marks a) b long (number_of a) (with_mark_here marks a la), with_mark_here (with_mark marks a) b long)

two_other : (marks : List Bool) (a b : Node) (m k : ℕ) → number_of a < m → number_of b < m → m ≤ k → marked (with_mark (with_mark marks a) b) k ≡ marked marks k
two_other marks a b m k la lb high = with_mark_other (with_mark marks a) b m k lb high ∙ with_mark_other marks a m k la high

parts_grow : (marks : List Bool) (g : Gate) → IsAbove (length marks) g → Grows marks (with_parts marks g)
parts_grow marks (Constant b) above k h = h
parts_grow marks (Input w) above k h = h
parts_grow marks (And a b) above k h = two_grow marks a b above.0 above.1 k h
parts_grow marks (Or a b) above k h = two_grow marks a b above.0 above.1 k h
parts_grow marks (Xor a b) above k h = two_grow marks a b above.0 above.1 k h
parts_grow marks (Choose c a b) above k h =
    let long = with_mark_long marks c in
    two_grow (with_mark marks c) a b (omega (arith, long, above.1)) (omega (arith, long, above.2)) k (with_mark_grows marks c above.0 k h)

parts_here : (marks : List Bool) (g : Gate) → IsAbove (length marks) g → PartsMarked (with_parts marks g) g
parts_here marks (Constant b) above = tt
parts_here marks (Input w) above = tt
parts_here marks (And a b) above = two_here marks a b above.0 above.1
parts_here marks (Or a b) above = two_here marks a b above.0 above.1
parts_here marks (Xor a b) above = two_here marks a b above.0 above.1
parts_here marks (Choose c a b) above =
    let long = with_mark_long marks c in
    let la : number_of a < length (with_mark marks c) = omega (arith, long, above.1) in
    let lb : number_of b < length (with_mark marks c) = omega (arith, long, above.2) in
    let h = two_here (with_mark marks c) a b la lb in
    (two_grow (with_mark marks c) a b la lb (number_of c) (with_mark_here marks c above.0), h.0, h.1)

parts_other : (marks : List Bool) (g : Gate) (m k : ℕ) → IsAbove m g → m ≤ k → marked (with_parts marks g) k ≡ marked marks k
parts_other marks (Constant b) m k above high = refl
parts_other marks (Input w) m k above high = refl
parts_other marks (And a b) m k above high = two_other marks a b m k above.0 above.1 high
parts_other marks (Or a b) m k above high = two_other marks a b m k above.0 above.1 high
parts_other marks (Xor a b) m k above high = two_other marks a b m k above.0 above.1 high
parts_other marks (Choose c a b) m k above high = two_other (with_mark marks c) a b m k above.1 above.2 high ∙ with_mark_other marks c m k above.0 high

parts_kept : (old new : List Bool) (g : Gate) → Grows old new → PartsMarked old g → PartsMarked new g
parts_kept old new (Constant b) grows h = tt
parts_kept old new (Input w) grows h = tt
parts_kept old new (And a b) grows h = (grows (number_of a) h.0, grows (number_of b) h.1)
parts_kept old new (Or a b) grows h = (grows (number_of a) h.0, grows (number_of b) h.1)
parts_kept old new (Xor a b) grows h = (grows (number_of a) h.0, grows (number_of b) h.1)
parts_kept old new (Choose c a b) grows h = (grows (number_of c) h.0, grows (number_of a) h.1, grows (number_of b) h.2)

-- a gate names nodes below any number that is higher
pub above_more : (m n : ℕ) (g : Gate) → m ≤ n → IsAbove m g → IsAbove n g
above_more m n (Constant b) le h = tt
above_more m n (Input w) le h = tt
above_more m n (And a b) le h = (omega (arith, h.0), omega (arith, h.1))
above_more m n (Or a b) le h = (omega (arith, h.0), omega (arith, h.1))
above_more m n (Xor a b) le h = (omega (arith, h.0), omega (arith, h.1))
above_more m n (Choose c a b) le h = (omega (arith, h.0), omega (arith, h.1), omega (arith, h.2))

-- ---- one step down

pub step_grows : (old new : List Bool) (n : ℕ) (g : Gate) → IsAbove (length old) g → new ≡ cond (marked old n) (with_parts old g) old → Grows old new
step_grows old new n g above is k h = subst (λ (ms : List Bool). marked ms k ≡ true) (sym is) (by_mark (marked old n))
  where
    by_mark : (b : Bool) → marked (cond b (with_parts old g) old) k ≡ true
    by_mark true = parts_grow old g above k h
    by_mark false = h

step_other : (old new : List Bool) (n : ℕ) (g : Gate) → IsAbove n g → new ≡ cond (marked old n) (with_parts old g) old → (k : ℕ) → n ≤ k → marked new k ≡ marked old k
step_other old new n g above is k high = ap (λ (ms : List Bool). marked ms k) is ∙ by_mark (marked old n)
  where
    by_mark : (b : Bool) → marked (cond b (with_parts old g) old) k ≡ marked old k
    by_mark true = parts_other old g n k above high
    by_mark false = refl

step_here : (old new : List Bool) (n : ℕ) (g : Gate) → IsAbove (length old) g → new ≡ cond (marked old n) (with_parts old g) old → marked old n ≡ true → PartsMarked new g
step_here old new n g above is has =
    subst (λ (ms : List Bool). PartsMarked ms g) (sym (is ∙ ap (λ (b : Bool). cond b (with_parts old g) old) has)) (parts_here old g above)

-- from number n on, the nodes of each marked gate are marked
abbrev pub ClosedFrom : ℕ → List Bool → List Gate → Type 0
ClosedFrom n marks gates = (k : ℕ) (g : Gate) → n ≤ k → slice_get gates k ≡ Some g → marked marks k ≡ true → PartsMarked marks g

pub step_closed : (gates : List Gate) (old new : List Bool) (n m : ℕ) (g : Gate) → m ≡ n + 1 → IsAbove n g → IsAbove (length old) g → slice_get gates n ≡ Some g → new ≡ cond (marked old n) (with_parts old g) old → ClosedFrom m old gates → ClosedFrom n new gates
step_closed gates old new n m g next above there at is closed k f high here has =
    let before : marked old k ≡ true = sym (step_other old new n g above is k high) ∙ has in
    elim (cases_eq k n) [
      | inl e ↦ (let same : g ≡ f = let a : slice_get gates k ≡ Some g = ap (λ (j : ℕ). slice_get gates j) e ∙ at in cc in
          let mark : marked old n ≡ true = ap (λ (j : ℕ). marked old j) (sym e) ∙ before in
          subst (λ (q : Gate). PartsMarked new q) same (step_here old new n g there is mark))
      | inr apart ↦ parts_kept old new f (step_grows old new n g there is) (closed k f (omega arith) here before)
    ]

-- ---- values of marked gates

-- a gate that is marked reads only the values of marked gates below
pub gate_value-marked : (us vs marks : List Bool) (x : ℕ → Bool) (m : ℕ) → ((k : ℕ) → k < m → marked marks k ≡ true → get_or us k false ≡ get_or vs k false) → (g : Gate) → IsAbove m g → PartsMarked marks g → gate_value us x g ≡ gate_value vs x g
gate_value-marked us vs marks x m same (Constant b) above h = refl
gate_value-marked us vs marks x m same (Input v) above h = refl
gate_value-marked us vs marks x m same (And a b) above h =
    let e = same (number_of a) above.0 h.0 in
    let f = same (number_of b) above.1 h.1 in
    cc
gate_value-marked us vs marks x m same (Or a b) above h =
    let e = same (number_of a) above.0 h.0 in
    let f = same (number_of b) above.1 h.1 in
    cc
gate_value-marked us vs marks x m same (Xor a b) above h =
    let e = same (number_of a) above.0 h.0 in
    let f = same (number_of b) above.1 h.1 in
    cc
gate_value-marked us vs marks x m same (Choose c a b) above h =
    let e = same (number_of a) above.1 h.1 in
    let f = same (number_of b) above.2 h.2 in
    let g = same (number_of c) above.0 h.0 in
    cc

-- ---- a list of nodes that are marked

-- one more node of a list is marked
pub all_more : (first old new : List Bool) (nodes : List Node) (i : ℕ) (d : Node) → i < length nodes → number_of (get_or nodes i d) < length old → new ≡ with_mark old (get_or nodes i d) → Grows first old → All (HasMark old) (take i nodes) → Grows first new × All (HasMark new) (take (i + 1) nodes)
all_more first old new nodes i d lt there is grows before =
    let n = get_or nodes i d in
    let more : Grows old new = subst (λ (ms : List Bool). Grows old ms) (sym is) (with_mark_grows old n there) in
    let here : HasMark new n = subst (λ (ms : List Bool). HasMark ms n) (sym is) (with_mark_here old n there) in (
      (λ k h. more k (grows k h)),
      subst (λ (ns : List Node). All (HasMark new) ns) (sym (take_more nodes i d lt))
          (All-push (HasMark new) (take i nodes) n (λ k e l. more (number_of (get_or (take i nodes) k e)) (before k e l)) here),
    )

pub all_kept : (old new : List Bool) (nodes : List Node) → Grows old new → All (HasMark old) nodes → All (HasMark new) nodes
all_kept old new nodes grows all k d lt = grows (number_of (get_or nodes k d)) (all k d lt)

-- ---- no more marks than others have

with_mark_least : (marks other : List Bool) (n : Node) → HasMark other n → Grows marks other → Grows (with_mark marks n) other
with_mark_least marks other n has grows k h = elim (cases_eq k (number_of n)) [
  | inl e ↦ subst (λ (j : ℕ). marked other j ≡ true) (sym e) has
  | inr apart ↦ grows k (sym (get_or-set_other marks (number_of n) k true false apart) ∙ h)
]

two_least : (marks other : List Bool) (a b : Node) → HasMark other a → HasMark other b → Grows marks other → Grows (with_mark (with_mark marks a) b) other
two_least marks other a b ha hb grows = with_mark_least (with_mark marks a) other b hb (with_mark_least marks other a ha grows)

parts_least : (marks other : List Bool) (g : Gate) → PartsMarked other g → Grows marks other → Grows (with_parts marks g) other
parts_least marks other (Constant b) h grows = grows
parts_least marks other (Input w) h grows = grows
parts_least marks other (And a b) h grows = two_least marks other a b h.0 h.1 grows
parts_least marks other (Or a b) h grows = two_least marks other a b h.0 h.1 grows
parts_least marks other (Xor a b) h grows = two_least marks other a b h.0 h.1 grows
parts_least marks other (Choose c a b) h grows = two_least (with_mark marks c) other a b h.1 h.2 (with_mark_least marks other c h.0 grows)

pub step_least : (gates : List Gate) (old new other : List Bool) (n : ℕ) (g : Gate) → slice_get gates n ≡ Some g → new ≡ cond (marked old n) (with_parts old g) old → IsClosed other gates → Grows old other → Grows new other
step_least gates old new other n g at is closed grows = subst (λ (ms : List Bool). Grows ms other) (sym is) (by_mark (marked old n) refl)
  where
    by_mark : (b : Bool) → marked old n ≡ b → Grows (cond b (with_parts old g) old) other
    by_mark true has = parts_least old other g (closed n g at (grows n has)) grows
    by_mark false has = grows

pub one_least : (old new other : List Bool) (nodes : List Node) (i : ℕ) (d : Node) → i < length nodes → new ≡ with_mark old (get_or nodes i d) → All (HasMark other) nodes → Grows old other → Grows new other
one_least old new other nodes i d lt is all grows =
    subst (λ (ms : List Bool). Grows ms other) (sym is) (with_mark_least old other (get_or nodes i d) (all i d lt) grows)

pub sure_least : (old new other : List Bool) (n : Node) → new ≡ with_mark old n → HasMark other n → Grows old other → Grows new other
sure_least old new other n is has grows = subst (λ (ms : List Bool). Grows ms other) (sym is) (with_mark_least old other n has grows)

-- where nothing is marked, nothing is lost
pub none_marked : (n : ℕ) (other : List Bool) → Grows (replicate n false) other
none_marked n other k h = absurd (false≢true (sym (none n k) ∙ h))
  where
    none : (n k : ℕ) → get_or (replicate n false) k false ≡ false
    none zero k = get_or_past [] k false (omega arith)
    none (suc n) zero = refl
    none (suc n) (suc k) = none n k
