-- What the nodes of reached gates ask of a gate.
use Rattle.std.proofs.Common.{◌≡◌, ◌≢◌, ℕ, zero, suc, ◌+◌, ◌<◌, ◌≤◌, min, Bool, true, false, cond, not, ◌&&◌, List, [], ◌∷◌, ◌++◌, length, drop, get_or, set, replicate, Some, refl, sym, ◌∙◌, ap, subst, arith, inl, inr, All}
use Rattle.std.specs.List.{slice_get}
use Rattle.std.proofs.lemmas.Bool.{cases_eq, cases_lt, eq-eqb, ne_eqb, true≢false, false≢true, lt-ltb, le-ltb}
use Rattle.std.proofs.lemmas.List.{get_or-set_same, get_or-set_other, get_or_past, drop_all, drop_more, get_or_append_left, get_or_push}
use Rattle.std.proofs.lemmas.List.Elements.{All-nil, All-cons, All-head, All-tail}
use Rattle.gate_trait.specs.declared.node.Node.{Node}
use Rattle.gate_trait.specs.declared.gate.Gate.{Gate}
use Rattle.gate_trait.specs.declared.gate.Gate.TheVariants.{Constant, Input, And, Or, Xor, Choose}
use Rattle.gate_trait.specs.NodeWords.{number_of, is_negated}
use Rattle.gate_tseitin.specs.Named.{marked}
use Rattle.gate_tseitin.specs.Folded.{one_of, count_in, use_count, IsInside, MayFold, AreKept}
use Rattle.gate_tseitin.specs.Shares.{share, inner, share_in, share_where, shares, node_shares, all_shares, Asks, stays}
use Rattle.gate_tseitin.proofs.Definitions.{drop_here, get_here}

-- ---- what one node asks

share_here : (k : ℕ) (n : Node) (much : ℕ) → number_of n ≡ k → share k n much ≡ much
share_here k n much e = ap (λ (b : Bool). cond b much 0) (eq-eqb (number_of n) k e)

share_apart : (k : ℕ) (n : Node) (much : ℕ) → number_of n ≢ k → share k n much ≡ 0
share_apart k n much e = ap (λ (b : Bool). cond b much 0) (ne_eqb (number_of n) k e)

one_here : (k : ℕ) (n : Node) → number_of n ≡ k → one_of k n ≡ 1
one_here k n e = ap (λ (b : Bool). cond b 1 0) (eq-eqb (number_of n) k e)

one_apart : (k : ℕ) (n : Node) → number_of n ≢ k → one_of k n ≡ 0
one_apart k n e = ap (λ (b : Bool). cond b 1 0) (ne_eqb (number_of n) k e)

-- after one node has asked
pub ask_law : (old new : List ℕ) (n : Node) (much sum : ℕ) → number_of n < length old → new ≡ set old (number_of n) sum → min sum 2 ≡ min (get_or old (number_of n) 0 + much) 2 → (k : ℕ) → Asks old new k (share k n much)
ask_law old new n much sum lt is adds k = elim (cases_eq (number_of n) k) [
  | inl e ↦ (let here : get_or new k 0 ≡ sum = ap (λ (xs : List ℕ). get_or xs k 0) is ∙ ap (λ (j : ℕ). get_or (set old (number_of n) sum) j 0) (sym e) ∙ get_or-set_same old (number_of n) sum 0 lt in
      let before : get_or old k 0 ≡ get_or old (number_of n) 0 = ap (λ (j : ℕ). get_or old j 0) (sym e) in
      let asks = share_here k n much e in
      omega (arith, here, before, asks, adds))
  | inr apart ↦ (let here : get_or new k 0 ≡ get_or old k 0 = ap (λ (xs : List ℕ). get_or xs k 0) is ∙ get_or-set_other old (number_of n) k sum 0 (λ (e : k ≡ number_of n). apart (sym e)) in
      let asks = share_apart k n much apart in
      omega (arith, here, asks))
]

-- one asks and then another does
pub ask_both : (old mid new : List ℕ) (k a b : ℕ) → Asks old mid k a → Asks mid new k b → Asks old new k (a + b)
ask_both old mid new k a b h i = omega (arith, h, i)

-- nothing is asked
pub ask_none : (old : List ℕ) (k : ℕ) → Asks old old k 0
ask_none old k = omega arith

-- ---- steps of the loops

pub gates_step : (old now new : List ℕ) (marks : List Bool) (gates : List Gate) (j : ℕ) (g : Gate) (has : Bool) (all : ℕ) (k : ℕ) → slice_get gates j ≡ Some g → has ≡ marked marks j → Asks now new k (share_where has k g) → min (get_or now k 0 + shares marks k j (drop j gates)) 2 ≡ min (get_or old k 0 + all) 2 → min (get_or new k 0 + shares marks k (j + 1) (drop (j + 1) gates)) 2 ≡ min (get_or old k 0 + all) 2
gates_step old now new marks gates j g has all k at mark asks before =
    let here : shares marks k j (drop j gates) ≡ share_where (marked marks j) k g + shares marks k (j + 1) (drop (j + 1) gates) = ap (λ (gs : List Gate). shares marks k j gs) (drop_here gates j g at) in
    let same : share_where has k g ≡ share_where (marked marks j) k g = ap (λ (b : Bool). share_where b k g) mark in
    omega (arith, here, same, asks, before)

pub gates_end : (old now : List ℕ) (marks : List Bool) (gates : List Gate) (j all k : ℕ) → length gates ≤ j → min (get_or now k 0 + shares marks k j (drop j gates)) 2 ≡ min (get_or old k 0 + all) 2 → Asks old now k all
gates_end old now marks gates j all k over h =
    let none : shares marks k j (drop j gates) ≡ 0 = ap (λ (gs : List Gate). shares marks k j gs) (drop_all j gates over) in
    omega (arith, none, h)

pub nodes_step : (old now new : List ℕ) (nodes : List Node) (i all k : ℕ) (d : Node) → i < length nodes → Asks now new k (share k (get_or nodes i d) 2) → min (get_or now k 0 + node_shares k (drop i nodes)) 2 ≡ min (get_or old k 0 + all) 2 → min (get_or new k 0 + node_shares k (drop (i + 1) nodes)) 2 ≡ min (get_or old k 0 + all) 2
nodes_step old now new nodes i all k d lt asks before =
    let here : node_shares k (drop i nodes) ≡ share k (get_or nodes i d) 2 + node_shares k (drop (i + 1) nodes) = ap (λ (ns : List Node). node_shares k ns) (drop_more nodes i d lt) in
    omega (arith, here, asks, before)

pub nodes_end : (old now : List ℕ) (nodes : List Node) (i all k : ℕ) → length nodes ≤ i → min (get_or now k 0 + node_shares k (drop i nodes)) 2 ≡ min (get_or old k 0 + all) 2 → Asks old now k all
nodes_end old now nodes i all k over h =
    let none : node_shares k (drop i nodes) ≡ 0 = ap (λ (ns : List Node). node_shares k ns) (drop_all i nodes over) in
    omega (arith, none, h)

-- where nothing was asked before
pub asked_first : (old new : List ℕ) (n k all : ℕ) → old ≡ replicate n zero → Asks old new k all → min (get_or new k 0) 2 ≡ min all 2
asked_first old new n k all is h =
    let none : get_or old k 0 ≡ 0 = ap (λ (xs : List ℕ). get_or xs k 0) is ∙ zeros n k in
    omega (arith, none, h)
  where
    zeros : (n k : ℕ) → get_or (replicate n zero) k 0 ≡ 0
    zeros zero k = get_or_past [] k 0 (omega arith)
    zeros (suc n) zero = refl
    zeros (suc n) (suc k) = zeros n k

-- ---- what little is asked says

-- no node of a gate that asks 2 of each is of gate k
none_of : (k : ℕ) (n : Node) → share k n 2 ≤ 1 → number_of n ≢ k
none_of k n le e = absurd (omega (arith, share_here k n 2 e, le))

-- an operand that asks 1 isn't negated
inside_of : (k : ℕ) (n : Node) → share k n (inner n) ≤ 1 → number_of n ≡ k → is_negated n ≡ false
inside_of k n le e = by_sign (is_negated n) refl
  where
    by_sign : (b : Bool) → is_negated n ≡ b → b ≡ false
    by_sign false h = refl
    by_sign true h =
        let two : inner n ≡ 2 = ap (λ (b : Bool). cond b 2 1) h in
        absurd (omega (arith, share_here k n (inner n) e, two, le))

gate_inside : (k : ℕ) (g : Gate) → share_in k g ≤ 1 → IsInside k g
gate_inside k (Constant b) h = tt
gate_inside k (Input w) h = tt
gate_inside k (And a b) h = (λ e. inside_of k a (omega (arith, h)) e, λ e. inside_of k b (omega (arith, h)) e)
gate_inside k (Or a b) h = (none_of k a (omega (arith, h)), none_of k b (omega (arith, h)))
gate_inside k (Xor a b) h = (none_of k a (omega (arith, h)), none_of k b (omega (arith, h)))
gate_inside k (Choose c a b) h = (none_of k c (omega (arith, h)), none_of k a (omega (arith, h)), none_of k b (omega (arith, h)))

-- a node counts no more than it asks
one_least : (k : ℕ) (n : Node) (much : ℕ) → 1 ≤ much → one_of k n ≤ share k n much
one_least k n much le = elim (cases_eq (number_of n) k) [
  | inl e ↦ omega (arith, share_here k n much e, one_here k n e, le)
  | inr apart ↦ omega (arith, one_apart k n apart)
]

inner_least : (n : Node) → 1 ≤ inner n
inner_least n = by_sign (is_negated n)
  where
    by_sign : (b : Bool) → 1 ≤ cond b 2 1
    by_sign true = omega arith
    by_sign false = omega arith

count_least : (k : ℕ) (g : Gate) → count_in k g ≤ share_in k g
count_least k (Constant b) = omega arith
count_least k (Input w) = omega arith
count_least k (And a b) = omega (arith, one_least k a (inner a) (inner_least a), one_least k b (inner b) (inner_least b))
count_least k (Or a b) = omega (arith, one_least k a 2 (omega arith), one_least k b 2 (omega arith))
count_least k (Xor a b) = omega (arith, one_least k a 2 (omega arith), one_least k b 2 (omega arith))
count_least k (Choose c a b) = omega (arith, one_least k c 2 (omega arith), one_least k a 2 (omega arith), one_least k b 2 (omega arith))

uses_least : (marks : List Bool) (k j : ℕ) (gates : List Gate) → use_count marks k j gates ≤ shares marks k j gates
uses_least marks k j [] = omega arith
uses_least marks k j (g ∷ gates) = omega (arith, by_mark (marked marks j), uses_least marks k (j + 1) gates)
  where
    by_mark : (b : Bool) → cond b (count_in k g) 0 ≤ share_where b k g
    by_mark true = count_least k g
    by_mark false = omega arith

-- a marked gate asks no more than all do
share_at : (marks : List Bool) (k j : ℕ) (gates : List Gate) (i : ℕ) (g : Gate) → slice_get gates i ≡ Some g → marked marks (j + i) ≡ true → share_in k g ≤ shares marks k j gates
share_at marks k j [] i g at mark = absurd (cc)
share_at marks k j (f ∷ gates) zero g at mark =
    let e : f ≡ g = cc in
    let z : j ≡ j + 0 = omega arith in
    let has : marked marks j ≡ true = ap (λ (n : ℕ). marked marks n) z ∙ mark in
    let here : share_where (marked marks j) k f ≡ share_in k g = ap (λ (b : Bool). share_where b k f) has ∙ ap (λ (q : Gate). share_in k q) e in
    omega (arith, here)
share_at marks k j (f ∷ gates) (suc i) g at mark =
    let p : (j + 1) + i ≡ j + suc i = omega arith in
    omega (arith, share_at marks k (j + 1) gates i g at (ap (λ (n : ℕ). marked marks n) p ∙ mark))

nodes_aside : (k : ℕ) (nodes : List Node) → node_shares k nodes ≤ 1 → All (λ n. number_of n ≢ k) nodes
nodes_aside k [] h = All-nil (λ (n : Node). number_of n ≢ k)
nodes_aside k (n ∷ nodes) h = All-cons (λ (n : Node). number_of n ≢ k) n nodes (none_of k n (omega (arith, h))) (nodes_aside k nodes (omega (arith, h)))

-- an `and` of which little is asked may be folded
may_fold : (gates : List Gate) (sure : Node) (roots : List Node) (marks : List Bool) (k : ℕ) (a b : Node) → slice_get gates k ≡ Some (And a b) → all_shares gates sure roots marks k ≤ 1 → MayFold gates sure roots marks k
may_fold gates sure roots marks k a b at few = record {
  conjunction = (a, b, at);
  once = omega (arith, uses_least marks k 0 gates, few);
  inside = λ i g here mark. (let z : 0 + i ≡ i = omega arith in
      gate_inside k g (omega (arith, share_at marks k 0 gates i g here (ap (λ (n : ℕ). marked marks n) z ∙ mark), few)));
  apart = none_of k sure (omega (arith, few));
  aside = nodes_aside k roots (omega (arith, few));
}

-- ---- and little is asked of what may be folded

inner_most : (k : ℕ) (n : Node) → (number_of n ≡ k → is_negated n ≡ false) → share k n (inner n) ≤ one_of k n
inner_most k n h = elim (cases_eq (number_of n) k) [
  | inl e ↦ (let one : inner n ≡ 1 = ap (λ (b : Bool). cond b 2 1) (h e) in omega (arith, share_here k n (inner n) e, one_here k n e, one))
  | inr apart ↦ omega (arith, share_apart k n (inner n) apart)
]

gate_most : (k : ℕ) (g : Gate) → IsInside k g → share_in k g ≤ count_in k g
gate_most k (Constant b) h = omega arith
gate_most k (Input w) h = omega arith
gate_most k (And a b) h = omega (arith, inner_most k a h.0, inner_most k b h.1)
gate_most k (Or a b) h = omega (arith, share_apart k a 2 h.0, share_apart k b 2 h.1)
gate_most k (Xor a b) h = omega (arith, share_apart k a 2 h.0, share_apart k b 2 h.1)
gate_most k (Choose c a b) h = omega (arith, share_apart k c 2 h.0, share_apart k a 2 h.1, share_apart k b 2 h.2)

shares_most : (marks : List Bool) (k j : ℕ) (gates : List Gate) → ((i : ℕ) (g : Gate) → slice_get gates i ≡ Some g → marked marks (j + i) ≡ true → IsInside k g) → shares marks k j gates ≤ use_count marks k j gates
shares_most marks k j [] h = omega arith
shares_most marks k j (g ∷ gates) h = omega (arith, by_mark (marked marks j) refl, shares_most marks k (j + 1) gates (λ i f at mark. let p : j + suc i ≡ (j + 1) + i = omega arith in h (suc i) f at (ap (λ (n : ℕ). marked marks n) p ∙ mark)))
  where
    by_mark : (b : Bool) → marked marks j ≡ b → share_where b k g ≤ cond b (count_in k g) 0
    by_mark true has = let z : j + 0 ≡ j = omega arith in gate_most k g (h zero g refl (ap (λ (n : ℕ). marked marks n) z ∙ has))
    by_mark false has = omega arith

aside_none : (k : ℕ) (nodes : List Node) → All (λ n. number_of n ≢ k) nodes → node_shares k nodes ≡ 0
aside_none k [] h = refl
aside_none k (n ∷ nodes) h = omega (arith, share_apart k n 2 (All-head (λ (n : Node). number_of n ≢ k) n nodes h), aside_none k nodes (All-tail (λ (n : Node). number_of n ≢ k) n nodes h))

little_asked : (gates : List Gate) (sure : Node) (roots : List Node) (marks : List Bool) (k : ℕ) → MayFold gates sure roots marks k → all_shares gates sure roots marks k ≤ 1
little_asked gates sure roots marks k m =
    let most = shares_most marks k 0 gates (λ i g at mark. m.inside i g at (let z : i ≡ 0 + i = omega arith in ap (λ (n : ℕ). marked marks n) z ∙ mark)) in
    omega (arith, most, m.once, share_apart k sure 2 m.apart, aside_none k roots m.aside)

-- ---- what is kept

stays_marked : (g : Gate) (asked : ℕ) (has : Bool) → stays g asked has ≡ true → has ≡ true
stays_marked g asked true h = refl
stays_marked g asked false h = h

goes : (g : Gate) (asked : ℕ) (has : Bool) → has ≡ true → stays g asked has ≡ false → (a : Node) × (b : Node) × (g ≡ And a b) × (asked < 2)
goes g asked false h e = absurd (false≢true h)
goes (Constant b) asked true h e = absurd (true≢false e)
goes (Input w) asked true h e = absurd (true≢false e)
goes (Or a b) asked true h e = absurd (true≢false e)
goes (Xor a b) asked true h e = absurd (true≢false e)
goes (Choose c a b) asked true h e = absurd (true≢false e)
goes (And a b) asked true h e = (
  a,
  b,
  refl,
  elim (cases_lt asked 2) [
    | inl lt ↦ lt
    | inr ge ↦ absurd (true≢false (ap (λ (t : Bool). not t) (sym (le-ltb asked 2 ge)) ∙ e))
  ],
)

stays_not : (a b : Node) (asked : ℕ) (has : Bool) → asked < 2 → stays (And a b) asked has ≡ false
stays_not a b asked has lt = ap (λ (t : Bool). has && not t) (lt-ltb asked 2 lt) ∙ and_false has
  where
    and_false : (b : Bool) → b && false ≡ false
    and_false true = refl
    and_false false = refl

-- the marks so far are of gates that stay
abbrev pub StaySoFar : List Gate → List ℕ → List Bool → List Bool → Type 0
StaySoFar gates asked marks kept = (k : ℕ) (g : Gate) → k < length kept → slice_get gates k ≡ Some g → marked kept k ≡ stays g (get_or asked k 0) (marked marks k)

pub stay_step : (gates : List Gate) (asked : List ℕ) (marks old new : List Bool) (j : ℕ) (g : Gate) (much : ℕ) (has is : Bool) → length old ≡ j → slice_get gates j ≡ Some g → much ≡ get_or asked j 0 → has ≡ marked marks j → is ≡ stays g much has → new ≡ old ++ is ∷ [] → StaySoFar gates asked marks old → StaySoFar gates asked marks new
stay_step gates asked marks old new j g much has is long at asks mark says pushed before k f lt here = elim (cases_lt k j) [
  | inl less ↦ ap (λ (bs : List Bool). get_or bs k false) pushed ∙ get_or_append_left old (is ∷ []) false k (omega (arith, long, less)) ∙ before k f (omega (arith, long, less)) here
  | inr ge ↦ (let total = ap (λ (bs : List Bool). length bs) pushed in
      let e : k ≡ j = omega (arith, lt, total, length_more old is, long, ge) in
      let there : slice_get gates k ≡ Some g = ap (λ (n : ℕ). slice_get gates n) e ∙ at in
      let same : g ≡ f = cc in
      ap (λ (bs : List Bool). get_or bs k false) pushed ∙ get_or_push old is false k (long ∙ sym e)
      ∙ says ∙ ap (λ (n : ℕ). stays g n has) (asks ∙ ap (λ (n : ℕ). get_or asked n 0) (sym e))
      ∙ ap (λ (b : Bool). stays g (get_or asked k 0) b) (mark ∙ ap (λ (n : ℕ). marked marks n) (sym e))
      ∙ ap (λ (q : Gate). stays q (get_or asked k 0) (marked marks k)) same)
]
  where
    length_more : (bs : List Bool) (b : Bool) → length (bs ++ b ∷ []) ≡ length bs + 1
    length_more [] b = refl
    length_more (c ∷ bs) b = omega (arith, length_more bs b)

pub there_if : (marks : List Bool) (k : ℕ) → marked marks k ≡ true → k < length marks
there_if [] k h = absurd (false≢true h)
there_if (b ∷ marks) zero h = omega arith
there_if (b ∷ marks) (suc k) h = omega (arith, there_if marks k h)

module _ (gates : List Gate) (sure : Node) (roots : List Node) (marks kept : List Bool) (asked : List ℕ) (marks_each : length marks ≡ length gates) (kept_each : length kept ≡ length gates) (counted : (k : ℕ) → min (get_or asked k 0) 2 ≡ min (all_shares gates sure roots marks k) 2) (stay : StaySoFar gates asked marks kept) where
  pub kept_are : AreKept gates sure roots marks kept
  kept_are = record {
    each = kept_each;
    reached = λ k h. (let lt = there_if kept k h in
        let f = get_here gates k (omega (arith, lt, kept_each)) in
        stays_marked f.0 (get_or asked k 0) (marked marks k) (sym (stay k f.0 lt f.1) ∙ h));
    others = λ k mark none. (let lt : k < length gates = omega (arith, there_if marks k mark, marks_each) in
        let f = get_here gates k lt in
        let gone = goes f.0 (get_or asked k 0) (marked marks k) mark (sym (stay k f.0 (omega (arith, lt, kept_each)) f.1) ∙ none) in
        let at : slice_get gates k ≡ Some (And gone.0 gone.1) = subst (λ (g : Gate). slice_get gates k ≡ Some g) gone.2 f.1 in
        may_fold gates sure roots marks k gone.0 gone.1 at (omega (arith, counted k, gone.3)));
  }

  pub kept_fewest : (k : ℕ) → MayFold gates sure roots marks k → marked kept k ≡ false
  kept_fewest k m = elim (cases_lt k (length kept)) [
    | inl lt ↦ (let there = m.conjunction in
        stay k (And there.0 there.1) lt there.2 ∙ stays_not there.0 there.1 (get_or asked k 0) (marked marks k) (omega (arith, counted k, little_asked gates sure roots marks k m)))
    | inr over ↦ get_or_past kept k false over
  ]
