-- Variables that are defined by the gates have the gates' values.
use Rattle.std.proofs.Common.{◌≡◌, ◌⊎◌, ℕ, zero, suc, ◌+◌, ◌<◌, ◌≤◌, Bool, true, false, ◌&&◌, ◌||◌, not, List, [], ◌∷◌, length, drop, get_or, Some, refl, sym, ◌∙◌, ap, arith, inl, inr}
use Rattle.std.specs.List.{slice_get}
use Rattle.std.proofs.lemmas.Bool.{cases_lt, cases_Bool, false≢true}
use Rattle.std.proofs.lemmas.List.{drop_all}
use Rattle.gate_trait.specs.declared.gate.Gate.{Gate}
use Rattle.gate_trait.specs.Circuit.{gate_value, values, IsLayered}
use Rattle.gate_trait.proofs.GateLaw.{gate_law}
use Rattle.gate_tseitin.specs.Named.{alike, marked, defined, defined_where, all_defined}
use Rattle.gate_tseitin.specs.Reached.{IsClosed}
use Rattle.gate_tseitin.specs.Shown.{AreComputed}
use Rattle.gate_tseitin.proofs.Marks.{gate_value-marked}

pub drop_here : {X : Type 0} (xs : List X) (k : ℕ) (x : X) → slice_get xs k ≡ Some x → drop k xs ≡ x ∷ drop (k + 1) xs
drop_here [] k x h = absurd (cc)
drop_here (y ∷ xs) zero x h = let e : y ≡ x = cc in ap (λ (z : _). z ∷ xs) e
drop_here (y ∷ xs) (suc k) x h =
    let e : suc k + 1 ≡ suc (k + 1) = omega arith in
    drop_here xs k x h ∙ ap (λ (n : ℕ). x ∷ drop n (y ∷ xs)) (sym e)

and_assoc : (a b c : Bool) → (a && b) && c ≡ a && (b && c)
and_assoc true b c = refl
and_assoc false b c = refl

-- one more gate is defined
pub define_step : (vs : List Bool) (v : ℕ → Bool) (marks : List Bool) (gates : List Gate) (k : ℕ) (g : Gate) (now before all : Bool) → slice_get gates k ≡ Some g → now ≡ before && defined_where vs v marks k g → before && all_defined vs v marks k (drop k gates) ≡ all → now && all_defined vs v marks (k + 1) (drop (k + 1) gates) ≡ all
define_step vs v marks gates k g now before all at new old =
    ap (λ (b : Bool). b && all_defined vs v marks (k + 1) (drop (k + 1) gates)) new
    ∙ and_assoc before (defined_where vs v marks k g) (all_defined vs v marks (k + 1) (drop (k + 1) gates))
    ∙ ap (λ (gs : List Gate). before && all_defined vs v marks k gs) (sym (drop_here gates k g at))
    ∙ old

-- where no gate is left, all are defined
pub define_end : (vs : List Bool) (v : ℕ → Bool) (marks : List Bool) (gates : List Gate) (k : ℕ) (now all : Bool) → length gates ≤ k → now && all_defined vs v marks k (drop k gates) ≡ all → now ≡ all
define_end vs v marks gates k now all over h =
    sym (and_true now) ∙ ap (λ (gs : List Gate). now && all_defined vs v marks k gs) (sym (drop_all k gates over)) ∙ h
  where
    and_true : (b : Bool) → b && true ≡ b
    and_true true = refl
    and_true false = refl

-- what is said where there is a mark
pub where_said : (b d : Bool) → not b || d ≡ true → b ≡ true → d ≡ true
where_said true d h has = h
where_said false d h has = absurd (false≢true has)

pub where_so : (b d : Bool) → (b ≡ true → d ≡ true) → not b || d ≡ true
where_so true d h = h refl
where_so false d h = refl

pub both : (p q : Bool) → p && q ≡ true → (p ≡ true) × (q ≡ true)
both true q h = (refl, h)
both false q h = absurd (false≢true h)

pub alike_exact : (a b : Bool) → alike a b ≡ true → a ≡ b
alike_exact true true h = refl
alike_exact true false h = absurd (false≢true h)
alike_exact false true h = absurd (false≢true h)
alike_exact false false h = refl

pub alike_same : (a b : Bool) → a ≡ b → alike a b ≡ true
alike_same true true h = refl
alike_same true false h = absurd (false≢true (sym h))
alike_same false true h = absurd (false≢true h)
alike_same false false h = refl

-- what each of the gates from number k on says
pub defined_at : (vs : List Bool) (v : ℕ → Bool) (marks : List Bool) (k : ℕ) (gates : List Gate) → all_defined vs v marks k gates ≡ true → (i : ℕ) (g : Gate) → slice_get gates i ≡ Some g → defined_where vs v marks (k + i) g ≡ true
defined_at vs v marks k [] h i g at = absurd (cc)
defined_at vs v marks k (f ∷ gates) h zero g at =
    let b = both (defined_where vs v marks k f) (all_defined vs v marks (k + 1) gates) h in
    let e : f ≡ g = cc in
    let p : k + 0 ≡ k = omega arith in
    ap (λ (j : ℕ). defined_where vs v marks j g) p ∙ ap (λ (x : Gate). defined_where vs v marks k x) (sym e) ∙ b.0
defined_at vs v marks k (f ∷ gates) h (suc i) g at =
    let b = both (defined_where vs v marks k f) (all_defined vs v marks (k + 1) gates) h in
    let p : k + suc i ≡ (k + 1) + i = omega arith in
    ap (λ (j : ℕ). defined_where vs v marks j g) p ∙ defined_at vs v marks (k + 1) gates b.1 i g at

-- and where each says it, all do
pub all_from_each : (vs : List Bool) (v : ℕ → Bool) (marks : List Bool) (k : ℕ) (gates : List Gate) → ((i : ℕ) (g : Gate) → slice_get gates i ≡ Some g → defined_where vs v marks (k + i) g ≡ true) → all_defined vs v marks k gates ≡ true
all_from_each vs v marks k [] h = refl
all_from_each vs v marks k (f ∷ gates) h =
    let p : k + 0 ≡ k = omega arith in
    let here : defined_where vs v marks k f ≡ true = ap (λ (j : ℕ). defined_where vs v marks j f) (sym p) ∙ h zero f refl in
    let rest = all_from_each vs v marks (k + 1) gates (λ i g at. let q : (k + 1) + i ≡ k + suc i = omega arith in ap (λ (j : ℕ). defined_where vs v marks j g) q ∙ h (suc i) g at) in
    ap (λ (b : Bool). b && all_defined vs v marks (k + 1) gates) here ∙ rest

pub get_here : {X : Type 0} (xs : List X) (k : ℕ) → k < length xs → (x : X) × (slice_get xs k ≡ Some x)
get_here [] k lt = absurd (omega arith)
get_here (x ∷ xs) zero lt = (x, refl)
get_here (x ∷ xs) (suc k) lt = get_here xs k (omega arith)

-- values that the marked gates compute are the gates' values, up to each number
values_below : (vs : List Bool) (v : ℕ → Bool) (marks : List Bool) (gates : List Gate) → IsLayered gates → IsClosed marks gates → ((k : ℕ) (g : Gate) → slice_get gates k ≡ Some g → marked marks k ≡ true → (get_or vs k false ≡ gate_value vs v g) ⊎ (get_or vs k false ≡ get_or (values gates v) k false)) → (m : ℕ) → m ≤ length gates → (k : ℕ) → k < m → marked marks k ≡ true → get_or vs k false ≡ get_or (values gates v) k false
values_below vs v marks gates layered closed each zero most k lt mark = absurd (omega arith)
values_below vs v marks gates layered closed each (suc m) most k lt mark =
    let below = values_below vs v marks gates layered closed each m (omega arith) in
    elim (cases_lt k m) [
      | inl less ↦ below k less mark
      | inr at ↦ (let e : k ≡ m = omega arith in
          let found = get_here gates m (omega arith) in
          let g = found.0 in
          let has : marked marks m ≡ true = ap (λ (n : ℕ). marked marks n) (sym e) ∙ mark in
          let here : get_or vs m false ≡ get_or (values gates v) m false = elim (each m g found.1 has) [
            | inl says ↦ says ∙ gate_value-marked vs (values gates v) marks v m below g (layered m g found.1) (closed m g found.1 has) ∙ sym (gate_law gates v m g layered found.1)
            | inr same ↦ same
          ] in
          ap (λ (n : ℕ). get_or vs n false) e ∙ here ∙ ap (λ (n : ℕ). get_or (values gates v) n false) (sym e))
    ]

-- where each marked gate has the value that it computes, or the gate's value, all have the gates' values
pub computed_values : (vs : List Bool) (v : ℕ → Bool) (marks : List Bool) (gates : List Gate) → IsLayered gates → IsClosed marks gates → ((k : ℕ) (g : Gate) → slice_get gates k ≡ Some g → marked marks k ≡ true → (get_or vs k false ≡ gate_value vs v g) ⊎ (get_or vs k false ≡ get_or (values gates v) k false)) → (k : ℕ) → k < length gates → marked marks k ≡ true → get_or vs k false ≡ get_or (values gates v) k false
computed_values vs v marks gates layered closed each k lt mark = values_below vs v marks gates layered closed each (length gates) (omega arith) k lt mark

-- so where the kept gates are defined, and each other has the value that it computes
pub defined_values : (vs : List Bool) (v : ℕ → Bool) (marks kept : List Bool) (gates : List Gate) → IsLayered gates → IsClosed marks gates → AreComputed gates kept v vs → all_defined vs v kept 0 gates ≡ true → (k : ℕ) → k < length gates → marked marks k ≡ true → get_or vs k false ≡ get_or (values gates v) k false
defined_values vs v marks kept gates layered closed computed all = computed_values vs v marks gates layered closed (λ k g at mark.
    elim (cases_Bool (marked kept k)) [
      | inl has ↦ (let z : 0 + k ≡ k = omega arith in
          inl (alike_exact (get_or vs k false) (gate_value vs v g)
          (where_said (marked kept k) (defined vs v k g) (ap (λ (n : ℕ). defined_where vs v kept n g) (sym z) ∙ defined_at vs v kept 0 gates all k g at) has)))
      | inr none ↦ inl (computed k g at none)
    ])
