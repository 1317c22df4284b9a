-- The clauses that define the gates say what the circuit says.
use Rattle.std.proofs.Common.{◌≡◌, ℕ, zero, suc, ◌+◌, ◌<◌, ◌≤◌, Bool, true, false, ◌&&◌, ◌||◌, cond, eqb, leb, List, [], ◌∷◌, ◌++◌, length, drop, map, get_or, get_or-drop, Option, Some, None, refl, sym, ◌∙◌, ap, subst, arith, inl, inr, All, pos, neg_ℤ, ℤ}
use Rattle.std.specs.List.{slice_get}
use Rattle.std.proofs.lemmas.Bool.{cases_lt, cases_eq, cases_Bool}
use Rattle.std.proofs.lemmas.Bool.Decides.{nat_tests}
use Rattle.std.proofs.lemmas.Option.{slice_get_within, get_or_from_slice_get}
use Rattle.gate_trait.specs.declared.node.Node.{Node}
use Rattle.gate_trait.specs.declared.gate.Gate.{Gate}
use Rattle.gate_trait.specs.declared.gate.Gate.TheVariants.{Constant, Input, And, Or, Xor, Choose}
use Rattle.gate_trait.specs.Built.{xor}
use Rattle.gate_trait.specs.NodeWords.{number_of, is_negated}
use Rattle.gate_trait.specs.Circuit.{value_among, gate_value, values_after, values, value_in, BelongsTo, IsLayered}
use Rattle.gate_trait.proofs.GateLaw.{gate_law}
use Rattle.sat_dimacs.specs.Literal.{literal_value}
use Rattle.gate_tseitin.specs.Named.{satisfied, named_values, any_node, marked, defined, defined_where, all_defined, input_of, input_count, owns, own_count, variable_count, name_at, names_from, literal_of}
use Rattle.gate_tseitin.specs.Reached.{HasMark, IsClosed}
use Rattle.gate_tseitin.specs.Shown.{IsShown, AreLinked}
use Rattle.gate_tseitin.specs.Written.{AreNumbered, Agree, IsWritten}
use Rattle.gate_tseitin.proofs.Marks.{gate_value-marked}
use Rattle.gate_tseitin.proofs.Definitions.{get_here, computed_values, defined_values, all_from_each, where_so, alike_same, both}
use Rattle.gate_tseitin.proofs.Linking.{named_get, shown_values, is_shown}
use Rattle.gate_tseitin.proofs.Naming.{length_names, named_at, mark_next, own_at, name_within, input_is}

same_gate : (vs : List Bool) (v w : ℕ → Bool) (g : Gate) → ((u : ℕ) → g ≡ Input u → v u ≡ w u) → gate_value vs v g ≡ gate_value vs w g
same_gate vs v w (Constant b) h = refl
same_gate vs v w (Input u) h = h u refl
same_gate vs v w (And a b) h = refl
same_gate vs v w (Or a b) h = refl
same_gate vs v w (Xor a b) h = refl
same_gate vs v w (Choose c a b) h = refl

-- assignments that agree on the inputs give the gates the same values
values_agree : (vs : List Bool) (v w : ℕ → Bool) (gates : List Gate) → ((k u : ℕ) → slice_get gates k ≡ Some (Input u) → v u ≡ w u) → values_after vs v gates ≡ values_after vs w gates
values_agree vs v w [] h = refl
values_agree vs v w (g ∷ gates) h =
    ap (λ (b : Bool). values_after (vs ++ b ∷ []) v gates) (same_gate vs v w g (λ u e. h zero u (ap (λ (f : Gate). Some f) e)))
    ∙ values_agree (vs ++ gate_value vs w g ∷ []) v w gates (λ k u at. h (suc k) u at)

-- a number is the variable of a marked gate
abbrev IsOwned : List Bool → ℕ → ℕ → List Gate → ℕ → Type 0
IsOwned marks next j gates m = (k : ℕ) × (k < length gates) × (marked marks (j + k) ≡ true) × (get_or (names_from marks next j gates) k 0 ≡ m)

owned_later : (marks : List Bool) (next j : ℕ) (g : Gate) (gates : List Gate) (m : ℕ) → IsOwned marks (next + owns (input_of g) (marked marks j)) (j + 1) gates m → IsOwned marks next j (g ∷ gates) m
owned_later marks next j g gates m r =
    let p : j + suc r.0 ≡ (j + 1) + r.0 = omega arith in
    (suc r.0, omega (arith, r.1), ap (λ (i : ℕ). marked marks i) p ∙ r.2, r.3)

owned_here : (marks : List Bool) (next j : ℕ) (g : Gate) (gates : List Gate) (m : ℕ) → name_at next (input_of g) (marked marks j) ≡ m → marked marks j ≡ true → IsOwned marks next j (g ∷ gates) m
owned_here marks next j g gates m is has =
    let z : j + 0 ≡ j = omega arith in
    (zero, omega arith, ap (λ (i : ℕ). marked marks i) z ∙ has, is)

-- each number that is no input's is one
own_covered : (marks : List Bool) (next j : ℕ) (gates : List Gate) (m : ℕ) → next ≤ m → m < next + own_count marks j gates → IsOwned marks next j gates m
own_covered marks next j [] m low high = absurd (omega arith)
own_covered marks next j (g ∷ gates) m low high = by_case (input_of g) (marked marks j) refl refl (λ h. own_covered marks (next + owns (input_of g) (marked marks j)) (j + 1) gates m h)
  where
    by_case : (o : Option ℕ) (b : Bool) → input_of g ≡ o → marked marks j ≡ b → (next + owns (input_of g) (marked marks j) ≤ m → m < (next + owns (input_of g) (marked marks j)) + own_count marks (j + 1) gates → IsOwned marks (next + owns (input_of g) (marked marks j)) (j + 1) gates m) → IsOwned marks next j (g ∷ gates) m
    by_case (Some w) b is has rec =
        let own : owns (input_of g) (marked marks j) ≡ 0 = ap (λ (o : Option ℕ). owns o (marked marks j)) is in
        owned_later marks next j g gates m (rec (omega (arith, own, low)) (omega (arith, high)))
    by_case None false is has rec =
        let own : owns (input_of g) (marked marks j) ≡ 0 = ap (λ (o : Option ℕ). owns o (marked marks j)) is ∙ ap (λ (b : Bool). owns None b) has in
        owned_later marks next j g gates m (rec (omega (arith, own, low)) (omega (arith, high)))
    by_case None true is has rec = elim (cases_eq next m) [
      | inl e ↦ owned_here marks next j g gates m (ap (λ (o : Option ℕ). name_at next o (marked marks j)) is ∙ ap (λ (b : Bool). name_at next None b) has ∙ e) has
      | inr apart ↦ (let own : owns (input_of g) (marked marks j) ≡ 1 = ap (λ (o : Option ℕ). owns o (marked marks j)) is ∙ ap (λ (b : Bool). owns None b) has in
          owned_later marks next j g gates m (rec (omega (arith, own, low, apart)) (omega (arith, high))))
    ]

-- whether a gate takes a variable that no input has
is_own : Option ℕ → Bool → Bool
is_own (Some w) is_marked = false
is_own None is_marked = is_marked

-- what the variables of the marked gates other than inputs are to be
other_value : List Bool → ℕ → ℕ → List Gate → List Bool → ℕ → Bool
other_value marks next j [] bs m = false
other_value marks next j (g ∷ gates) bs m = cond (eqb m next && is_own (input_of g) (marked marks j)) (get_or bs 0 false) (other_value marks (next + owns (input_of g) (marked marks j)) (j + 1) gates (drop 1 bs) m)

other_is : (marks : List Bool) (next j : ℕ) (gates : List Gate) (bs : List Bool) (k : ℕ) (g : Gate) → slice_get gates k ≡ Some g → input_of g ≡ None → marked marks (j + k) ≡ true → other_value marks next j gates bs (get_or (names_from marks next j gates) k 0) ≡ get_or bs k false
unfolding other_value is_own
other_is marks next j [] bs k g at none mark = absurd (cc)
other_is marks next j (f ∷ gates) bs zero g at none mark =
    let e : f ≡ g = cc in
    let i : input_of f ≡ None = ap input_of e ∙ none in
    let z : j ≡ j + 0 = omega arith in
    let m : marked marks j ≡ true = ap (λ (n : ℕ). marked marks n) z ∙ mark in
    let rest = other_value marks (next + owns (input_of f) (marked marks j)) (j + 1) gates (drop 1 bs) (name_at next (input_of f) (marked marks j)) in
    let same : eqb next next ≡ true = grind (arith, nat_tests) in
    ap (λ (p : Option ℕ). cond (eqb (name_at next p (marked marks j)) next && is_own p (marked marks j)) (get_or bs 0 false) rest) i
    ∙ ap (λ (b : Bool). cond (eqb (name_at next None b) next && b) (get_or bs 0 false) rest) m
    ∙ ap (λ (b : Bool). cond (b && true) (get_or bs 0 false) rest) same
other_is marks next j (f ∷ gates) bs (suc k) g at none mark =
    let after = next + owns (input_of f) (marked marks j) in
    let m = get_or (names_from marks after (j + 1) gates) k 0 in
    let has = mark_next marks j k true mark in
    let least = (own_at marks after (j + 1) gates k g at none has).0 in
    let apart : eqb m next && is_own (input_of f) (marked marks j) ≡ false = not_here m next (input_of f) (marked marks j) least in
    ap (λ (b : Bool). cond b (get_or bs 0 false) (other_value marks after (j + 1) gates (drop 1 bs) m)) apart
    ∙ other_is marks after (j + 1) gates (drop 1 bs) k g at none has
    ∙ get_or-drop 1 bs k false
    ∙ (let one : 1 + k ≡ suc k = omega arith in ap (λ (i : ℕ). get_or bs i false) one)
  where
    and_false : (b : Bool) → b && false ≡ false
    and_false true = refl
    and_false false = refl

    not_here : (m next : ℕ) (o : Option ℕ) (b : Bool) → next + owns o b ≤ m → eqb m next && is_own o b ≡ false
    not_here m next None true low = let e : eqb m next ≡ false = grind (arith, nat_tests) in ap (λ (b : Bool). b && true) e
    not_here m next None false low = and_false (eqb m next)
    not_here m next (Some w) b low = and_false (eqb m next)

-- the assignment of all variables that an assignment of the inputs makes
full : List Bool → List Gate → (ℕ → Bool) → ℕ → Bool
full marks gates x m = cond (leb m (input_count gates)) (x m) (other_value marks (input_count gates + 1) 0 gates (values gates x) m)

full_agrees : (marks : List Bool) (gates : List Gate) (x : ℕ → Bool) → Agree (input_count gates) (full marks gates x) x
unfolding full
full_agrees marks gates x m above within = let e : leb m (input_count gates) ≡ true = grind (arith, nat_tests) in
    ap (λ (b : Bool). cond b (x m) (other_value marks (input_count gates + 1) 0 gates (values gates x) m)) e

literal_case : (v : ℕ → Bool) (b : Bool) (m : ℕ) → 0 < m → literal_value v (cond b (neg_ℤ (pos m)) (pos m)) ≡ xor b (v m)
literal_case v b zero h = absurd (omega arith)
literal_case v true (suc m) h = refl
literal_case v false (suc m) h = refl

or_false : (b : Bool) → b || false ≡ b
or_false true = refl
or_false false = refl

module _ (marks kept : List Bool) (gates : List Gate) (names : List ℕ) (e : names ≡ names_from kept (input_count gates + 1) 0 gates) (i : AreNumbered gates) (layered : IsLayered gates) (closed : IsClosed marks gates) (link : AreLinked gates marks kept) where
  long : length names ≡ length gates
  long = ap (λ (xs : List ℕ). length xs) e ∙ length_names kept (input_count gates + 1) 0 gates

  -- what an assignment of the variables says of the gates
  shown : (v : ℕ → Bool) → IsShown gates kept names v (shown_values kept names gates v)
  shown v = is_shown gates kept names v layered link.kept_each long

  -- the full assignment gives each kept gate's variable the gate's value
  full_is : (x : ℕ → Bool) (k : ℕ) (g : Gate) → slice_get gates k ≡ Some g → marked kept k ≡ true → full kept gates x (get_or names k 0) ≡ get_or (values gates x) k false
  unfolding full
  full_is x k g at mark = by_input (input_of g) refl
    where
      by_input : (o : Option ℕ) → input_of g ≡ o → full kept gates x (get_or names k 0) ≡ get_or (values gates x) k false
      by_input (Some w) is =
          let there : slice_get gates k ≡ Some (Input w) = at ∙ ap (λ (f : Gate). Some f) (input_is g w is) in
          let name : get_or names k 0 ≡ w = ap (λ (xs : List ℕ). get_or xs k 0) e ∙ named_at kept (input_count gates + 1) 0 gates k w there in
          let small = i.within k w there in
          ap (λ (m : ℕ). full kept gates x m) name ∙ full_agrees kept gates x w small.0 small.1 ∙ sym (gate_law gates x k (Input w) layered there)
      by_input None is =
          let name : get_or names k 0 ≡ get_or (names_from kept (input_count gates + 1) 0 gates) k 0 = ap (λ (xs : List ℕ). get_or xs k 0) e in
          let m = get_or (names_from kept (input_count gates + 1) 0 gates) k 0 in
          let z : 0 + k ≡ k = omega arith in
          let has : marked kept (0 + k) ≡ true = ap (λ (j : ℕ). marked kept j) z ∙ mark in
          let least = (own_at kept (input_count gates + 1) 0 gates k g at is has).0 in
          let t : leb m (input_count gates) ≡ false = grind (arith, nat_tests) in
          ap (λ (j : ℕ). full kept gates x j) name
          ∙ ap (λ (b : Bool). cond b (x m) (other_value kept (input_count gates + 1) 0 gates (values gates x) m)) t
          ∙ other_is kept (input_count gates + 1) 0 gates (values gates x) k g at is has

  full_values : (x : ℕ → Bool) → values gates (full kept gates x) ≡ values gates x
  full_values x = values_agree [] (full kept gates x) x gates (λ k u at. let w = i.within k u at in full_agrees kept gates x u w.0 w.1)

  -- so it says of each reached gate the gate's value
  full_says : (v x : ℕ → Bool) → v ≡ full kept gates x → (k : ℕ) → k < length gates → marked marks k ≡ true → get_or (shown_values kept names gates v) k false ≡ get_or (values gates v) k false
  full_says v x is = computed_values (shown_values kept names gates v) v marks gates layered closed (λ k g at mark.
      elim (cases_Bool (marked kept k)) [
        | inl has ↦ (let lt : k < length names = omega (arith, slice_get_within gates k g at, long) in
            inr ((shown v).named k has ∙ named_get v names k lt ∙ ap (λ (w : ℕ → Bool). w (get_or names k 0)) is ∙ full_is x k g at has
            ∙ ap (λ (vs : List Bool). get_or vs k false) (sym (full_values x)) ∙ ap (λ (w : ℕ → Bool). get_or (values gates w) k false) (sym is)))
        | inr none ↦ inl ((shown v).computed k g at none)
      ])

  full_defined : (v x : ℕ → Bool) → v ≡ full kept gates x → all_defined (shown_values kept names gates v) v kept 0 gates ≡ true
  full_defined v x is = all_from_each (shown_values kept names gates v) v kept 0 gates (λ k g at.
      let z : 0 + k ≡ k = omega arith in
      let lt : k < length gates = slice_get_within gates k g at in
      let vs = shown_values kept names gates v in
      ap (λ (j : ℕ). defined_where vs v kept j g) z
      ∙ where_so (marked kept k) (defined vs v k g) (λ has.
      let mark = link.reached k has in
      alike_same (get_or vs k false) (gate_value vs v g)
      (full_says v x is k lt mark ∙ gate_law gates v k g layered at
      ∙ sym (gate_value-marked vs (values gates v) marks v k (λ j below has. full_says v x is j (omega arith) has) g (layered k g at) (closed k g at mark)))))

  -- what the variables say of a kept node is the node's value
  node_value : (v : ℕ → Bool) → all_defined (shown_values kept names gates v) v kept 0 gates ≡ true → (n : Node) → BelongsTo gates n → HasMark kept n → value_among (named_values v names) n ≡ value_in gates v n
  node_value v all n there mark = ap (λ (b : Bool). xor (is_negated n) b)
      (sym ((shown v).named (number_of n) mark)
      ∙ defined_values (shown_values kept names gates v) v marks kept gates layered closed (shown v).computed all (number_of n) there (link.reached (number_of n) mark))

  literal_means : (v : ℕ → Bool) → all_defined (shown_values kept names gates v) v kept 0 gates ≡ true → (n : Node) → BelongsTo gates n → HasMark kept n → literal_value v (literal_of names n) ≡ value_in gates v n
  literal_means v all n there mark =
      let f = get_here gates (number_of n) there in
      literal_case v (is_negated n) (get_or names (number_of n) 0) (name_within kept gates names e i (number_of n) f.0 f.1 mark).0
      ∙ ap (λ (b : Bool). xor (is_negated n) b) (sym (named_get v names (number_of n) (omega (arith, long, there))))
      ∙ node_value v all n there mark

  -- a kept gate's variable has the gate's value
  variable_is : (v : ℕ → Bool) → all_defined (shown_values kept names gates v) v kept 0 gates ≡ true → (k m : ℕ) → k < length gates → marked kept k ≡ true → get_or names k 0 ≡ m → v m ≡ get_or (values gates v) k false
  variable_is v all k m lt mark name =
      let within : k < length names = omega (arith, long, lt) in
      ap v (sym name) ∙ sym (named_get v names k within) ∙ sym ((shown v).named k mark)
      ∙ defined_values (shown_values kept names gates v) v marks kept gates layered closed (shown v).computed all k lt (link.reached k mark)

  unique_at : (v w : ℕ → Bool) → all_defined (shown_values kept names gates v) v kept 0 gates ≡ true → all_defined (shown_values kept names gates w) w kept 0 gates ≡ true → Agree (input_count gates) v w → Agree (variable_count kept gates) v w
  unique_at v w all_v all_w agree m above within = elim (cases_lt (input_count gates) m) [
    | inl other ↦ (let c = own_covered kept (input_count gates + 1) 0 gates m (omega arith) (omega arith) in
        let k = c.0 in
        let z : k ≡ 0 + k = omega arith in
        let mark : marked kept k ≡ true = ap (λ (j : ℕ). marked kept j) z ∙ c.2 in
        let name : get_or names k 0 ≡ m = ap (λ (xs : List ℕ). get_or xs k 0) e ∙ c.3 in
        variable_is v all_v k m c.1 mark name
        ∙ ap (λ (vs : List Bool). get_or vs k false) (values_agree [] v w gates (λ j u at. let s = i.within j u at in agree u s.0 s.1))
        ∙ sym (variable_is w all_w k m c.1 mark name))
    | inr input ↦ agree m above (omega arith)
  ]

  module _ (sure : Node) (roots : List Node) (definitions clauses : List (List ℤ)) (divided : clauses ≡ definitions ++ map (λ root. literal_of names root ∷ []) roots) (says : (v : ℕ → Bool) (vs : List Bool) → IsShown gates kept names v vs → satisfied v definitions ≡ (all_defined vs v kept 0 gates && any_node (named_values v names) (sure ∷ []))) (sure_there : BelongsTo gates sure) (roots_there : All (λ n. BelongsTo gates n) roots) (surely : HasMark kept sure) (rooted : All (HasMark kept) roots) where
    parts : (v : ℕ → Bool) → satisfied v definitions ≡ true → (all_defined (shown_values kept names gates v) v kept 0 gates ≡ true) × (value_in gates v sure ≡ true)
    parts v h =
        let b = both (all_defined (shown_values kept names gates v) v kept 0 gates) (any_node (named_values v names) (sure ∷ [])) (sym (says v (shown_values kept names gates v) (shown v)) ∙ h) in
        (b.0, sym (node_value v b.0 sure sure_there surely) ∙ sym (or_false (value_among (named_values v names) sure)) ∙ b.1)

    whole : (x : ℕ → Bool) → value_in gates x sure ≡ true → satisfied (full kept gates x) definitions ≡ true
    whole x h =
        let v = full kept gates x in
        says v (shown_values kept names gates v) (shown v)
        ∙ ap (λ (b : Bool). b && any_node (named_values v names) (sure ∷ [])) (full_defined v x refl)
        ∙ or_false (value_among (named_values v names) sure)
        ∙ node_value v (full_defined v x refl) sure sure_there surely
        ∙ ap (λ (vs : List Bool). value_among vs sure) (full_values x)
        ∙ h

    root_means : (v : ℕ → Bool) → satisfied v definitions ≡ true → (k : ℕ) (root : Node) → slice_get roots k ≡ Some root → literal_value v (literal_of names root) ≡ value_in gates v root
    root_means v h k root at =
        let same = get_or_from_slice_get roots k root root at in
        let lt = slice_get_within roots k root at in
        literal_means v (parts v h).0 root
        (subst (λ (n : Node). BelongsTo gates n) same (roots_there k root lt))
        (subst (λ (n : Node). HasMark kept n) same (rooted k root lt))

    pub written : (variables : ℕ) → variables ≡ variable_count kept gates → IsWritten gates sure roots variables clauses
    written variables counted = subst (λ (c : ℕ). IsWritten gates sure roots c clauses) (sym counted) (record {
      definitions = definitions;
      literal = literal_of names;
      divided = divided;
      extended = λ x h. (full kept gates x, full_agrees kept gates x, whole x h);
      unique = λ v w hv hw agree. unique_at v w (parts v hv).0 (parts w hw).0 agree;
      surely = λ v h. (parts v h).1;
      valued = root_means;
    })

-- what the calls in turn have added
pub says_all : (empty all here now one : Bool) → empty ≡ true → now ≡ empty && all → one ≡ now && here → one ≡ all && here
says_all empty all here now one e f g = g ∙ ap (λ (b : Bool). b && here) (f ∙ ap (λ (b : Bool). b && all) e)
