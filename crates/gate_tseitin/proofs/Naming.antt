-- The variables of the gates.
use Rattle.std.proofs.Common.{◌≡◌, ℕ, zero, suc, ◌+◌, ◌-◌, ◌<◌, ◌≤◌, ◌^◌, Bool, true, false, List, [], ◌∷◌, ◌++◌, length, drop, get_or, Option, Some, None, refl, sym, ◌∙◌, ap, subst, arith, All, append_assoc}
use Rattle.std.specs.List.{slice_get}
use Rattle.std.specs.Option.{is_some}
use Rattle.std.specs.Prelude.{is_none, IfNone, IfSome}
use Rattle.std.proofs.lemmas.Bool.{false≢true}
use Rattle.std.proofs.lemmas.List.{append-nil, drop_all}
use Rattle.gate_trait.specs.declared.gate.Gate.{Gate}
use Rattle.gate_trait.specs.declared.node.Node.{Node}
use Rattle.gate_trait.specs.NodeWords.{number_of}
use Rattle.gate_trait.specs.declared.gate.Gate.TheVariants.{Constant, Input, And, Or, Xor, Choose}
use Rattle.gate_tseitin.specs.Named.{input_of, others, input_count, marked, owns, own_count, variable_count, name_at, names_from, IsName, IsNamed}
use Rattle.gate_tseitin.specs.Reached.{Grows}
use Rattle.gate_tseitin.specs.Written.{AreNumbered}
use Rattle.gate_tseitin.proofs.Definitions.{drop_here, get_here}

-- one more gate is counted
pub count_step : (gates : List Gate) (k : ℕ) (g : Gate) (c : ℕ) → slice_get gates k ≡ Some g → c + input_count (drop k gates) ≡ input_count gates → (c + (1 - others (input_of g))) + input_count (drop (k + 1) gates) ≡ input_count gates
count_step gates k g c at h =
    let e = ap input_count (drop_here gates k g at) in
    omega (arith, e, h)

-- one more gate is named
pub name_step : (marks : List Bool) (gates : List Gate) (k : ℕ) (g : Gate) (names new all : List ℕ) (next : ℕ) → slice_get gates k ≡ Some g → new ≡ names ++ name_at next (input_of g) (marked marks k) ∷ [] → names ++ names_from marks next k (drop k gates) ≡ all → new ++ names_from marks (next + owns (input_of g) (marked marks k)) (k + 1) (drop (k + 1) gates) ≡ all
name_step marks gates k g names new all next at is h =
    ap (λ (ns : List ℕ). ns ++ names_from marks (next + owns (input_of g) (marked marks k)) (k + 1) (drop (k + 1) gates)) is
    ∙ append_assoc names (name_at next (input_of g) (marked marks k) ∷ []) (names_from marks (next + owns (input_of g) (marked marks k)) (k + 1) (drop (k + 1) gates))
    ∙ ap (λ (gs : List Gate). names ++ names_from marks next k gs) (sym (drop_here gates k g at)) ∙ h

-- and the variables that are taken are counted
pub own_step : (marks : List Bool) (gates : List Gate) (k : ℕ) (g : Gate) (next all : ℕ) → slice_get gates k ≡ Some g → next + own_count marks k (drop k gates) ≡ all → (next + owns (input_of g) (marked marks k)) + own_count marks (k + 1) (drop (k + 1) gates) ≡ all
own_step marks gates k g next all at h =
    let e = ap (λ (gs : List Gate). own_count marks k gs) (drop_here gates k g at) in
    omega (arith, e, h)

-- the same, as the code has it: whether the gate has a mark, its variable, and how many it takes
pub name_more : (marks : List Bool) (gates : List Gate) (k : ℕ) (g : Gate) (has : Bool) (name own : ℕ) (names new all : List ℕ) (next after : ℕ) → slice_get gates k ≡ Some g → has ≡ marked marks k → name ≡ name_at next (input_of g) has → own ≡ owns (input_of g) has → new ≡ names ++ name ∷ [] → after ≡ next + own → names ++ names_from marks next k (drop k gates) ≡ all → new ++ names_from marks after (k + 1) (drop (k + 1) gates) ≡ all
name_more marks gates k g has name own names new all next after at mark named owned is then h =
    let o : own ≡ owns (input_of g) (marked marks k) = owned ∙ ap (λ (b : Bool). owns (input_of g) b) mark in
    let n : name ≡ name_at next (input_of g) (marked marks k) = named ∙ ap (λ (b : Bool). name_at next (input_of g) b) mark in
    ap (λ (m : ℕ). new ++ names_from marks m (k + 1) (drop (k + 1) gates)) (then ∙ ap (λ (m : ℕ). next + m) o)
    ∙ name_step marks gates k g names new all next at (is ∙ ap (λ (m : ℕ). names ++ m ∷ []) n) h

pub own_more : (marks : List Bool) (gates : List Gate) (k : ℕ) (g : Gate) (has : Bool) (own next after all : ℕ) → slice_get gates k ≡ Some g → has ≡ marked marks k → own ≡ owns (input_of g) has → after ≡ next + own → next + own_count marks k (drop k gates) ≡ all → after + own_count marks (k + 1) (drop (k + 1) gates) ≡ all
own_more marks gates k g has own next after all at mark owned then h =
    let o : own ≡ owns (input_of g) (marked marks k) = owned ∙ ap (λ (b : Bool). owns (input_of g) b) mark in
    ap (λ (m : ℕ). m + own_count marks (k + 1) (drop (k + 1) gates)) (then ∙ ap (λ (m : ℕ). next + m) o)
    ∙ own_step marks gates k g next all at h

-- where no gate is left, the variables so far are all
pub names_end : (marks : List Bool) (gates : List Gate) (k : ℕ) (names all : List ℕ) (next : ℕ) → length gates ≤ k → names ++ names_from marks next k (drop k gates) ≡ all → names ≡ all
names_end marks gates k names all next over h =
    sym (append-nil names) ∙ ap (λ (gs : List Gate). names ++ names_from marks next k gs) (sym (drop_all k gates over)) ∙ h

pub own_end : (marks : List Bool) (gates : List Gate) (k next all : ℕ) → length gates ≤ k → next + own_count marks k (drop k gates) ≡ all → next ≡ all
own_end marks gates k next all over h =
    let none = ap (λ (gs : List Gate). own_count marks k gs) (drop_all k gates over) in
    omega (arith, none, h)

pub length_names : (marks : List Bool) (next j : ℕ) (gates : List Gate) → length (names_from marks next j gates) ≡ length gates
length_names marks next j [] = refl
length_names marks next j (g ∷ gates) = ap suc (length_names marks (next + owns (input_of g) (marked marks j)) (j + 1) gates)

-- an input has its own variable
pub named_at : (marks : List Bool) (next j : ℕ) (gates : List Gate) (k w : ℕ) → slice_get gates k ≡ Some (Input w) → get_or (names_from marks next j gates) k 0 ≡ w
named_at marks next j [] k w h = absurd (cc)
named_at marks next j (g ∷ gates) zero w h = let e : g ≡ Input w = cc in ap (λ (f : Gate). name_at next (input_of f) (marked marks j)) e
named_at marks next j (g ∷ gates) (suc k) w h = named_at marks (next + owns (input_of g) (marked marks j)) (j + 1) gates k w h

pub is_named : (gates : List Gate) (names : List ℕ) → ((k w : ℕ) → slice_get gates k ≡ Some (Input w) → get_or names k 0 ≡ w) → (k : ℕ) (g : Gate) → slice_get gates k ≡ Some g → IsNamed names k g
is_named gates names h k (Constant b) at = tt
is_named gates names h k (Input w) at = h k w at
is_named gates names h k (And a b) at = tt
is_named gates names h k (Or a b) at = tt
is_named gates names h k (Xor a b) at = tt
is_named gates names h k (Choose c a b) at = tt

mark_first : (marks : List Bool) (j : ℕ) (b : Bool) → marked marks (j + 0) ≡ b → marked marks j ≡ b
mark_first marks j b h = let p : j ≡ j + 0 = omega arith in ap (λ (i : ℕ). marked marks i) p ∙ h

pub mark_next : (marks : List Bool) (j k : ℕ) (b : Bool) → marked marks (j + suc k) ≡ b → marked marks ((j + 1) + k) ≡ b
mark_next marks j k b h = let p : (j + 1) + k ≡ j + suc k = omega arith in ap (λ (i : ℕ). marked marks i) p ∙ h

-- the others that are marked have numbers from `next` on, as many as there are
pub own_at : (marks : List Bool) (next j : ℕ) (gates : List Gate) (k : ℕ) (g : Gate) → slice_get gates k ≡ Some g → input_of g ≡ None → marked marks (j + k) ≡ true → (next ≤ get_or (names_from marks next j gates) k 0) × (get_or (names_from marks next j gates) k 0 < next + own_count marks j gates)
own_at marks next j [] k g h none mark = absurd (cc)
own_at marks next j (f ∷ gates) zero g h none mark =
    let e : f ≡ g = cc in
    let i : input_of f ≡ None = ap input_of e ∙ none in
    let m = mark_first marks j true mark in
    let name : name_at next (input_of f) (marked marks j) ≡ next = ap (λ (o : Option ℕ). name_at next o (marked marks j)) i ∙ ap (λ (b : Bool). name_at next None b) m in
    let own : owns (input_of f) (marked marks j) ≡ 1 = ap (λ (o : Option ℕ). owns o (marked marks j)) i ∙ ap (λ (b : Bool). owns None b) m in
    (omega (arith, name), omega (arith, name, own))
own_at marks next j (f ∷ gates) (suc k) g h none mark =
    let r = own_at marks (next + owns (input_of f) (marked marks j)) (j + 1) gates k g h none (mark_next marks j k true mark) in
    (omega (arith, r.0), omega (arith, r.1))

-- and one without a mark has variable 1
rest_at : (marks : List Bool) (next j : ℕ) (gates : List Gate) (k : ℕ) (g : Gate) → slice_get gates k ≡ Some g → input_of g ≡ None → marked marks (j + k) ≡ false → get_or (names_from marks next j gates) k 0 ≡ 1
rest_at marks next j [] k g h none mark = absurd (cc)
rest_at marks next j (f ∷ gates) zero g h none mark =
    let e : f ≡ g = cc in
    let i : input_of f ≡ None = ap input_of e ∙ none in
    ap (λ (o : Option ℕ). name_at next o (marked marks j)) i ∙ ap (λ (b : Bool). name_at next None b) (mark_first marks j false mark)
rest_at marks next j (f ∷ gates) (suc k) g h none mark =
    rest_at marks (next + owns (input_of f) (marked marks j)) (j + 1) gates k g h none (mark_next marks j k false mark)

-- a gate is an input or takes a variable, and not both
pub count_all : (marks : List Bool) (j : ℕ) (gates : List Gate) → input_count gates + own_count marks j gates ≤ length gates
count_all marks j [] = omega arith
count_all marks j (g ∷ gates) = omega (arith, count_all marks (j + 1) gates, most (input_of g) (marked marks j))
  where
    most : (o : Option ℕ) (b : Bool) → (1 - others o) + owns o b ≤ 1
    most (Some w) b = omega arith
    most None true = omega arith
    most None false = omega arith

-- more marks, more variables
pub count_grows : (marks other : List Bool) (gates : List Gate) → Grows marks other → variable_count marks gates ≤ variable_count other gates
count_grows marks other gates grows = omega (arith, own_grows 0 gates)
  where
    owns_grow : (o : Option ℕ) (b c : Bool) → (b ≡ true → c ≡ true) → owns o b ≤ owns o c
    owns_grow (Some w) b c h = omega arith
    owns_grow None false true h = omega arith
    owns_grow None false false h = omega arith
    owns_grow None true true h = omega arith
    owns_grow None true false h = absurd (false≢true (h refl))

    own_grows : (j : ℕ) (gates : List Gate) → own_count marks j gates ≤ own_count other j gates
    own_grows j [] = omega arith
    own_grows j (g ∷ gates) = omega (arith, own_grows (j + 1) gates, owns_grow (input_of g) (marked marks j) (marked other j) (grows j))

pub input_is : (g : Gate) (w : ℕ) → input_of g ≡ Some w → g ≡ Input w
input_is (Constant b) w h = absurd (cc)
input_is (Input u) w h = let e : u ≡ w = cc in ap Input e
input_is (And a b) w h = absurd (cc)
input_is (Or a b) w h = absurd (cc)
input_is (Xor a b) w h = absurd (cc)
input_is (Choose c a b) w h = absurd (cc)

get_same : (xs : List ℕ) (k d : ℕ) → k < length xs → get_or xs k d ≡ get_or xs k 0
get_same [] k d lt = absurd (omega arith)
get_same (x ∷ xs) zero d lt = refl
get_same (x ∷ xs) (suc k) d lt = get_same xs k d (omega arith)

pub some_others : (o : Option ℕ) → is_some o ≡ true → others o ≡ 0
some_others None h = absurd (false≢true h)
some_others (Some w) h = refl

pub none_others : (o : Option ℕ) → is_some o ≡ false → others o ≡ 1
none_others None h = refl
none_others (Some w) h = absurd (false≢true (sym h))

pub one_there : (n : Node) (m : ℕ) → number_of n < m → All (λ d. number_of d < m) (n ∷ [])
one_there n m h zero d lt = h
one_there n m h (suc k) d lt = absurd (omega arith)

pub all_there : (roots : List Node) (m j : ℕ) → m ≡ j → All (λ d. number_of d < j) roots → All (λ d. number_of d < m) roots
all_there roots m j e all = subst (λ (k : ℕ). All (λ (d : Node). number_of d < k) roots) (sym e) all

module _ (marks : List Bool) (gates : List Gate) (names : List ℕ) (e : names ≡ names_from marks (input_count gates + 1) 0 gates) where
  pub names_each : length names ≡ length gates
  names_each = ap (λ (xs : List ℕ). length xs) e ∙ length_names marks (input_count gates + 1) 0 gates

  pub names_named : (k : ℕ) (g : Gate) → slice_get gates k ≡ Some g → IsNamed names k g
  names_named = is_named gates names (λ k w at. ap (λ (xs : List ℕ). get_or xs k 0) e ∙ named_at marks (input_count gates + 1) 0 gates k w at)

  mark_zero : (k : ℕ) (b : Bool) → marked marks k ≡ b → marked marks (0 + k) ≡ b
  mark_zero k b h = let z : 0 + k ≡ k = omega arith in ap (λ (j : ℕ). marked marks j) z ∙ h

  module _ (i : AreNumbered gates) where
    -- the variable of a gate that is an input or marked is from 1 to their count
    pub name_within : (k : ℕ) (g : Gate) → slice_get gates k ≡ Some g → marked marks k ≡ true → (0 < get_or names k 0) × (get_or names k 0 ≤ variable_count marks gates)
    name_within k g at mark = by_input (input_of g) refl
      where
        by_input : (o : Option ℕ) → input_of g ≡ o → (0 < get_or names k 0) × (get_or names k 0 ≤ variable_count marks gates)
        by_input None none =
            let r = own_at marks (input_count gates + 1) 0 gates k g at none (mark_zero k true mark) in
            let n : get_or names k 0 ≡ get_or (names_from marks (input_count gates + 1) 0 gates) k 0 = ap (λ (xs : List ℕ). get_or xs k 0) e in
            (omega (arith, r.0, n), omega (arith, r.1, n))
        by_input (Some w) some =
            let there : slice_get gates k ≡ Some (Input w) = at ∙ ap (λ (f : Gate). Some f) (input_is g w some) in
            let n : get_or names k 0 ≡ w = ap (λ (xs : List ℕ). get_or xs k 0) e ∙ named_at marks (input_count gates + 1) 0 gates k w there in
            let r = i.within k w there in
            (omega (arith, r.0, n), omega (arith, r.1, n))

    -- and where one gate is marked, so is that of any gate
    any_within : (s : ℕ) → s < length gates → marked marks s ≡ true → (k : ℕ) (g : Gate) → slice_get gates k ≡ Some g → (0 < get_or names k 0) × (get_or names k 0 ≤ variable_count marks gates)
    any_within s lt mark k g at = by_input (input_of g) (marked marks k) refl refl
      where
        by_input : (o : Option ℕ) (b : Bool) → input_of g ≡ o → marked marks k ≡ b → (0 < get_or names k 0) × (get_or names k 0 ≤ variable_count marks gates)
        by_input o true is has = name_within k g at has
        by_input None false none has =
            let f = get_here gates s lt in
            let w = name_within s f.0 f.1 mark in
            let n : get_or names k 0 ≡ 1 = ap (λ (xs : List ℕ). get_or xs k 0) e ∙ rest_at marks (input_count gates + 1) 0 gates k g at none (mark_zero k false has) in
            (omega (arith, n), omega (arith, n, w.0, w.1))
        by_input (Some u) false some has =
            let there : slice_get gates k ≡ Some (Input u) = at ∙ ap (λ (f : Gate). Some f) (input_is g u some) in
            let n : get_or names k 0 ≡ u = ap (λ (xs : List ℕ). get_or xs k 0) e ∙ named_at marks (input_count gates + 1) 0 gates k u there in
            let r = i.within k u there in
            (omega (arith, r.0, n), omega (arith, r.1, n))

    pub all_names : (s : ℕ) → s < length gates → marked marks s ≡ true → length gates < 2 ^ 63 → All IsName names
    all_names s there mark few k d lt =
        let f = get_here gates k (omega (arith, names_each)) in
        let w = any_within s there mark k f.0 f.1 in
        let same = get_same names k d lt in
        (omega (arith, w.0, same), omega (arith, w.1, same, few, count_all marks 0 gates))

    -- each variable is at most their count
    pub names_within : (s : ℕ) → s < length gates → marked marks s ≡ true → All (λ n. n ≤ variable_count marks gates) names
    names_within s there mark k d lt =
        let f = get_here gates k (omega (arith, names_each)) in
        let w = any_within s there mark k f.0 f.1 in
        let same = get_same names k d lt in
        omega (arith, w.1, same)

-- what is said of an answer that is None, and of one that isn't
pub none_case : {P : Type 0} (o : Option ℕ) → is_none o ≡ true → IfNone o P → P
none_case None h p = p
none_case (Some k) h p = absurd (false≢true h)

pub some_case : (o : Option ℕ) (P : ℕ → Type 0) → is_none o ≡ false → IfSome o P → (k : ℕ) × P k
some_case None P h p = absurd (false≢true (sym h))
some_case (Some k) P h p = (k, p)
