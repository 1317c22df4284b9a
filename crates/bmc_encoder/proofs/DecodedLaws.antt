-- Each assignment that chooses one loop stands for a lasso.
use Rattle.std.proofs.Common.{◌≡◌, ◌↔◌, ◌⊎◌, ◌<◌, ◌+◌, ℕ, zero, suc, Bool, true, cond, List, [], ◌∷◌, ◌++◌, length, get_or, Contains, Some, slice_get, refl, sym, ap, ◌∙◌, subst, arith, inl, inr, length-append}
use Rattle.std.proofs.lemmas.Bool.{cases_lt, cases_Bool, false≢true}
use Rattle.core_tuples.specs.Sets.{TupleList}
use Rattle.core_meaning.specs.Sequence.{LassoValue}
use Rattle.bound_uppers.specs.declared.places.Cells.{Cells}
use Rattle.bound_uppers.specs.declared.places.Layout.{Layout}
use Rattle.bound_uppers.specs.declared.table.Bound.{Bound}
use Rattle.bound_uppers.specs.declared.table.Bounds.{Bounds}
use Rattle.bmc_windows.proofs.PushLemmas.{push_kept, push_at}
use Rattle.bmc_leaves.specs.Loops.{IsLoopOf}
use Rattle.bmc_leaves.specs.Table.{first_at, Decodes}

-- the tuples whose variables are true
abbrev chosen : (ℕ → Bool) → ℕ → List (List ℕ) → List (List ℕ)
chosen x first [] = []
chosen x first (t ∷ ts) = cond (x first) (t ∷ chosen x (suc first) ts) (chosen x (suc first) ts)

abbrev IsChosen : (ℕ → Bool) → ℕ → List (List ℕ) → List ℕ → Type 0
IsChosen x first ts t = (j : ℕ) × (slice_get ts j ≡ Some t) × (x (first + j) ≡ true)

here : {X : Type 0} (x y : X) (xs : List X) → x ≡ y → Contains (x ∷ xs) y
here x y xs e = (zero, omega arith, e)

there : {X : Type 0} (x y : X) (xs : List X) → Contains xs y → Contains (x ∷ xs) y
there x y xs c = (suc c.0, omega (arith, c.1), c.2)

which_at : {X : Type 0} (x y : X) (xs : List X) (k : ℕ) → k < length (x ∷ xs) → get_or (x ∷ xs) k y ≡ y → (x ≡ y) ⊎ Contains xs y
which_at x y xs zero lt e = inl e
which_at x y xs (suc k) lt e = inr (k, omega arith, e)

which : {X : Type 0} (x y : X) (xs : List X) → Contains (x ∷ xs) y → (x ≡ y) ⊎ Contains xs y
which x y xs c = which_at x y xs c.0 c.1 c.2

none_at : (t : List ℕ) (j : ℕ) → slice_get [] j ≡ Some t → ⊥
none_at t j at = cc

later : (x : ℕ → Bool) (first : ℕ) (s : List ℕ) (ts : List (List ℕ)) (t : List ℕ) → IsChosen x (suc first) ts t → IsChosen x first (s ∷ ts) t
later x first s ts t r = (suc r.0, r.1, (let e : first + suc r.0 ≡ suc first + r.0 = omega arith in ap x e ∙ r.2))

where_chosen : (x : ℕ → Bool) (first : ℕ) (s : List ℕ) (ts : List (List ℕ)) (t : List ℕ) (j : ℕ) → slice_get (s ∷ ts) j ≡ Some t → x (first + j) ≡ true → ((s ≡ t) × (x first ≡ true)) ⊎ IsChosen x (suc first) ts t
where_chosen x first s ts t zero at is = let same : s ≡ t = cc in let e : first ≡ first + 0 = omega arith in inl (same, ap x e ∙ is)
where_chosen x first s ts t (suc k) at is = let e : suc first + k ≡ first + suc k = omega arith in inr (k, at, ap x e ∙ is)

chosen_has : (x : ℕ → Bool) (first : ℕ) (ts : List (List ℕ)) (t : List ℕ) → Contains (chosen x first ts) t ↔ IsChosen x first ts t
chosen_has x first [] t = ((λ c. absurd (omega (arith, c.1))), (λ h. absurd (none_at t h.0 h.1)))
chosen_has x first (s ∷ ts) t =
    let rest = chosen_has x (suc first) ts t in
    elim (cases_Bool (x first)) [
      | inl h ↦ (
        (λ c. elim (which s t (chosen x (suc first) ts) (subst (λ (b : Bool). Contains (cond b (s ∷ chosen x (suc first) ts) (chosen x (suc first) ts)) t) h c)) [
          | inl same ↦ (zero, ap Some same, (let e : first + 0 ≡ first = omega arith in ap x e ∙ h))
          | inr more ↦ later x first s ts t (rest.0 more)
        ]),
        (λ q. subst (λ (b : Bool). Contains (cond b (s ∷ chosen x (suc first) ts) (chosen x (suc first) ts)) t) (sym h) (elim (where_chosen x first s ts t q.0 q.1 q.2) [
          | inl now ↦ here s t (chosen x (suc first) ts) now.0
          | inr more ↦ there s t (chosen x (suc first) ts) (rest.1 more)
        ])),
      )
      | inr h ↦ (
        (λ c. later x first s ts t (rest.0 (subst (λ (b : Bool). Contains (cond b (s ∷ chosen x (suc first) ts) (chosen x (suc first) ts)) t) h c))),
        (λ q. subst (λ (b : Bool). Contains (cond b (s ∷ chosen x (suc first) ts) (chosen x (suc first) ts)) t) (sym h) (elim (where_chosen x first s ts t q.0 q.1 q.2) [
          | inl now ↦ absurd (false≢true (sym h ∙ now.1))
          | inr more ↦ rest.1 more
        ])),
      )
    ]

-- the sets of a state
abbrev set_at : (ℕ → Bool) → ℕ → Bound → Cells → TupleList
set_at x k b c = record { arity = b.upper.arity; tuples = chosen x (first_at b.fixed c k) b.upper.tuples }

abbrev state_at : (ℕ → Bool) → ℕ → List Bound → List Cells → List TupleList
state_at x k [] cs = []
state_at x k (b ∷ bs) [] = []
state_at x k (b ∷ bs) (c ∷ cs) = set_at x k b c ∷ state_at x k bs cs

state_has : (x : ℕ → Bool) (k : ℕ) (bs : List Bound) (cs : List Cells) (r : ℕ) (b : Bound) (c : Cells) → slice_get bs r ≡ Some b → slice_get cs r ≡ Some c → slice_get (state_at x k bs cs) r ≡ Some (set_at x k b c)
state_has x k [] cs r b c at found = absurd (cc)
state_has x k (d ∷ bs) [] r b c at found = absurd (cc)
state_has x k (d ∷ bs) (e ∷ cs) zero b c at found =
    let first : d ≡ b = cc in
    let second : e ≡ c = cc in
    ap (λ (q : Bound). Some (set_at x k q e)) first ∙ ap (λ (q : Cells). Some (set_at x k b q)) second
state_has x k (d ∷ bs) (e ∷ cs) (suc r) b c at found = state_has x k bs cs r b c at found

-- the first states
abbrev states_to : (ℕ → Bool) → List Bound → List Cells → ℕ → List (List TupleList)
states_to x bs cs zero = []
states_to x bs cs (suc n) = states_to x bs cs n ++ state_at x n bs cs ∷ []

states_long : (x : ℕ → Bool) (bs : List Bound) (cs : List Cells) (n : ℕ) → length (states_to x bs cs n) ≡ n
states_long x bs cs zero = refl
states_long x bs cs (suc n) = length-append (states_to x bs cs n) (state_at x n bs cs ∷ []) ∙ (let e = states_long x bs cs n in omega (arith, e))

states_has : (x : ℕ → Bool) (bs : List Bound) (cs : List Cells) (n k : ℕ) → k < n → slice_get (states_to x bs cs n) k ≡ Some (state_at x k bs cs)
states_has x bs cs zero k lt = absurd (omega (arith, lt))
states_has x bs cs (suc n) k lt = elim (cases_lt k n) [
  | inl less ↦ push_kept (states_to x bs cs n) (state_at x n bs cs) k (state_at x k bs cs) (states_has x bs cs n k less)
  | inr ge ↦ (let same : k ≡ n = omega (arith, lt, ge) in
      push_at (states_to x bs cs n) (state_at x n bs cs) k (same ∙ sym (states_long x bs cs n)) ∙ ap (λ (j : ℕ). Some (state_at x j bs cs)) (sym same))
]

pub decoded : (bounds : Bounds) (table : Layout) (x : ℕ → Bool) (l : ℕ) → IsLoopOf bounds.states table.loops x l → (lasso : LassoValue) × Decodes bounds table x lasso
decoded bounds table x l loop =
    let bs = bounds.relations in
    let cs = table.relations.items in
    let all = states_to x bs cs bounds.states in (
      record { states = all; loop_start = l },
      record {
        states = states_long x bs cs bounds.states;
        loop = loop;
        relations = λ r k bound cells at found lt t.
            let has = chosen_has x (first_at bound.fixed cells k) bound.upper.tuples t in
            let there = states_has x bs cs bounds.states k lt in
            let inside = state_has x k bs cs r bound cells at found in (
              (λ (sets, set, is, holds, c).
                  let one : sets ≡ state_at x k bs cs = (let e : Some sets ≡ Some (state_at x k bs cs) = sym is ∙ there in cc) in
                  let two : set ≡ set_at x k bound cells = (let e : Some set ≡ Some (set_at x k bound cells) = sym holds ∙ ap (λ (s : List TupleList). slice_get s r) one ∙ inside in cc) in
                  has.0 (subst (λ (s : TupleList). Contains s.tuples t) two c)),
              (λ h. (state_at x k bs cs, set_at x k bound cells, there, inside, has.1 h)),
            );
      },
    )
