-- The tuples that sets may have.
use Rattle.std.proofs.Common.{◌≡◌, ◌⊎◌, ◌<◌, ◌≤◌, ◌+◌, ◌*◌, ℕ, zero, suc, Bool, List, [], ◌∷◌, ◌++◌, length, get_or, slice_get, Some, Contains, refl, sym, ap, ◌∙◌, subst, arith, inl, inr, length-append}
use Rattle.std.proofs.lemmas.Bool.{cases_lt}
use Rattle.std.proofs.lemmas.Option.{slice_get_within, get_or_from_slice_get, slice_get-get_or}
use Rattle.std.proofs.lemmas.List.Elements.{Contains-append_left, Contains-append_right}
use Rattle.gate_trait.specs.declared.node.Node.{Node}
use Rattle.gate_matrix.specs.Matrices.{MatrixEntries, truth, tuples_of}
use Rattle.gate_temporal.specs.Rows.{row_value}
use Rattle.bmc_windows.specs.Pairing.{ArePairs}
use Rattle.bmc_windows.proofs.PushLemmas.{push_kept, push_at}
use Rattle.bmc_stack.specs.Sets.{StandsAt}
use Rattle.bmc_stack.specs.Members.{SaysMember, SaysRow, SayMembers, HasMembers, AddsTuples}
use Rattle.bmc_stack.proofs.RowLaws.{value_at, value_append_before, value_append_after}

pub adds_from : (matrices : List MatrixEntries) (number : ℕ) (m : MatrixEntries) (old new : List (List ℕ)) → slice_get matrices number ≡ Some m → new ≡ old ++ tuples_of m.entries → AddsTuples matrices number old new
adds_from matrices number m old new at is = subst (λ (ts : List (List ℕ)). AddsTuples matrices number old ts) (sym is) (record {
  kept = λ t c. Contains-append_left old (tuples_of m.entries) t c;
  added = λ k here t c.
      let one : Some m ≡ Some k = sym at ∙ here in
      let same : m ≡ k = cc in
      Contains-append_right old (tuples_of m.entries) t (subst (λ (j : MatrixEntries). Contains (tuples_of j.entries) t) (sym same) c);
})

pub adds_nothing : (matrices : List MatrixEntries) (number : ℕ) (old : List (List ℕ)) → length matrices ≤ number → AddsTuples matrices number old old
adds_nothing matrices number old past = record {
  kept = λ t c. c;
  added = λ m at t c. (let inside = slice_get_within matrices number m at in absurd (omega (arith, inside, past)));
}

-- the pair that is found at a place
pub pair_here : (pairs : List (ℕ × ℕ)) (i : ℕ) (p : ℕ × ℕ) → i < length pairs → ((m n : ℕ) → slice_get pairs i ≡ Some (m, n) → p ≡ (m, n)) → slice_get pairs i ≡ Some p
pair_here pairs i p lt found =
    let q = get_or pairs i p in
    let at = slice_get-get_or pairs i p lt in
    at ∙ ap Some (sym (found q.0 q.1 at))

-- the tuples of the sets of the first pairs
pub record MembersTo (matrices : List MatrixEntries) (pairs : List (ℕ × ℕ)) (i : ℕ) (all : List (List ℕ)) : Type 0 where
  pub each : (j : ℕ) (pair : ℕ × ℕ) (m : MatrixEntries) → j < i → slice_get pairs j ≡ Some pair → slice_get matrices pair.0 ≡ Some m → (t : List ℕ) → Contains (tuples_of m.entries) t → Contains all t

pub members_none : (matrices : List MatrixEntries) (pairs : List (ℕ × ℕ)) → MembersTo matrices pairs 0 []
members_none matrices pairs = record { each = λ j pair m lt. absurd (omega arith) }

pub members_more : (matrices : List MatrixEntries) (pairs : List (ℕ × ℕ)) (i number same : ℕ) (old new : List (List ℕ)) → slice_get pairs i ≡ Some (number, same) → MembersTo matrices pairs i old → AddsTuples matrices number old new → MembersTo matrices pairs (i + 1) new
members_more matrices pairs i number same old new here h more = record {
  each = λ j pair m lt at there t c. elim (cases_lt j i) [
    | inl less ↦ more.kept t (h.each j pair m less at there t c)
    | inr ge ↦ (let equal : j ≡ i = omega (arith, lt, ge) in
        let one : Some (number, same) ≡ Some pair = sym here ∙ ap (λ (k : ℕ). slice_get pairs k) (sym equal) ∙ at in
        let first : number ≡ pair.0 = (let e : (number, same) ≡ pair = cc in ap (λ (p : ℕ × ℕ). p.0) e) in
        more.added m (ap (λ (k : ℕ). slice_get matrices k) first ∙ there) t c)
  ];
}

pub members_all : (matrices : List MatrixEntries) (pairs : List (ℕ × ℕ)) (which row : List ℕ) (i : ℕ) (all made : List (List ℕ)) → length pairs ≤ i → ArePairs pairs which row row → MembersTo matrices pairs i all → ((t : List ℕ) → Contains all t → Contains made t) → HasMembers matrices row made
members_all matrices pairs which row i all made over are h more = λ j m stands t c.
    let r = are j stands.0 stands.0 stands.1 stands.1 in
    let inside = slice_get_within pairs r.0 (stands.0, stands.0) r.2 in
    more t (h.each r.0 (stands.0, stands.0) m (omega (arith, inside, over)) r.2 stands.2 t c)

-- ---- nodes

pub record SaysTo (value : (ℕ → Bool) → Node → Bool) (matrices : List MatrixEntries) (row : List ℕ) (t : List ℕ) (i : ℕ) (more : List Node) : Type 0 where
  pub long : length more ≡ i
  pub values : (j number : ℕ) → j < i → slice_get row j ≡ Some number → (n : Node) × (slice_get more j ≡ Some n) × SaysMember value matrices number t n

pub says_none : (value : (ℕ → Bool) → Node → Bool) (matrices : List MatrixEntries) (row : List ℕ) (t : List ℕ) → SaysTo value matrices row t 0 []
says_none value matrices row t = record { long = refl; values = λ j number lt. absurd (omega arith) }

pub says_more : (value : (ℕ → Bool) → Node → Bool) (matrices : List MatrixEntries) (row : List ℕ) (t : List ℕ) (i number : ℕ) (more : List Node) (n : Node) → SaysTo value matrices row t i more → number ≡ get_or row i number → SaysMember value matrices number t n → SaysTo value matrices row t (i + 1) (more ++ n ∷ [])
says_more value matrices row t i number more n h here says = record {
  long = length-append more (n ∷ []) ∙ ap (λ (k : ℕ). k + 1) h.long;
  values = λ j other lt at. elim (cases_lt j i) [
    | inl less ↦ (let r = h.values j other less at in (r.0, push_kept more n j r.0 r.1, r.2))
    | inr ge ↦ (let same : j ≡ i = omega (arith, lt, ge) in
        let one : number ≡ other = here ∙ ap (λ (k : ℕ). get_or row k number) (sym same) ∙ get_or_from_slice_get row j other number at in
        (n, push_at more n j (same ∙ sym h.long), subst (λ (k : ℕ). SaysMember value matrices k t n) one says))
  ];
}

pub says_all : (value : (ℕ → Bool) → Node → Bool) (matrices : List MatrixEntries) (row : List ℕ) (t : List ℕ) (i : ℕ) (more : List Node) → length row ≤ i → i ≤ length row → SaysTo value matrices row t i more → SaysRow value matrices row t more
says_all value matrices row t i more over under h = record {
  long = (let e = h.long in omega (arith, e, over, under));
  values = λ j number at. (let inside = slice_get_within row j number at in h.values j number (omega (arith, inside, over)) at);
}

pub record TuplesTo (value : (ℕ → Bool) → Node → Bool) (matrices : List MatrixEntries) (row : List ℕ) (tuples : List (List ℕ)) (k : ℕ) (nodes : List Node) : Type 0 where
  pub long : length nodes ≡ k * length row
  pub values : (n : ℕ) (t : List ℕ) (i : ℕ) (m : MatrixEntries) → n < k → slice_get tuples n ≡ Some t → StandsAt matrices row i m → (x : ℕ → Bool) → row_value (value x) nodes (n * length row + i) ≡ truth (value x) m t

pub tuples_none : (value : (ℕ → Bool) → Node → Bool) (matrices : List MatrixEntries) (row : List ℕ) (tuples : List (List ℕ)) → TuplesTo value matrices row tuples 0 []
tuples_none value matrices row tuples = record { long = omega arith; values = λ n t i m lt. absurd (omega arith) }

row_before : (n k c i : ℕ) → n < k → i < c → n * c + i < k * c
row_before n (suc k) c i lt under = elim (cases_lt n k) [
  | inl less ↦ (let r = row_before n k c i less under in omega (arith, r))
  | inr ge ↦ (let same : n ≡ k = omega (arith, lt, ge) in let e = ap (λ (j : ℕ). j * c) same in omega (arith, e, under))
]
row_before n zero c i lt under = absurd (omega arith)

pub tuples_more : (value : (ℕ → Bool) → Node → Bool) (matrices : List MatrixEntries) (row : List ℕ) (tuples : List (List ℕ)) (k : ℕ) (t : List ℕ) (nodes more new : List Node) → TuplesTo value matrices row tuples k nodes → t ≡ get_or tuples k t → SaysRow value matrices row t more → new ≡ nodes ++ more → TuplesTo value matrices row tuples (k + 1) new
tuples_more value matrices row tuples k t nodes more new h here says is = subst (λ (ns : List Node). TuplesTo value matrices row tuples (k + 1) ns) (sym is) (record {
  long = length-append nodes more ∙ (let a = h.long in let b = says.long in omega (arith, a, b));
  values = λ n s i m lt at stands x.
      let inside : i < length row = slice_get_within row i stands.0 stands.1 in
      elim (cases_lt n k) [
        | inl less ↦ (let low : n * length row + i < length nodes = (let r = row_before n k (length row) i less inside in let a = h.long in omega (arith, r, a)) in
            value_append_before (value x) nodes more (n * length row + i) low ∙ h.values n s i m less at stands x)
        | inr ge ↦ (let same : n ≡ k = omega (arith, lt, ge) in
            let one : t ≡ s = here ∙ ap (λ (j : ℕ). get_or tuples j t) (sym same) ∙ get_or_from_slice_get tuples n s t at in
            let place : n * length row + i ≡ length nodes + i = ap (λ (j : ℕ). j * length row + i) same ∙ ap (λ (j : ℕ). j + i) (sym h.long) in
            let r = says.values i stands.0 stands.1 in
            ap (λ (j : ℕ). row_value (value x) (nodes ++ more) j) place ∙ value_append_after (value x) nodes more i ∙ value_at (value x) more i r.0 r.1 ∙ r.2 m stands.2 x ∙ ap (λ (u : List ℕ). truth (value x) m u) one)
      ];
})

pub tuples_all : (value : (ℕ → Bool) → Node → Bool) (matrices : List MatrixEntries) (row : List ℕ) (tuples : List (List ℕ)) (k : ℕ) (nodes : List Node) → length tuples ≤ k → k ≤ length tuples → TuplesTo value matrices row tuples k nodes → SayMembers value matrices row tuples nodes
tuples_all value matrices row tuples k nodes over under h = record {
  long = h.long ∙ ap (λ (j : ℕ). j * length row) (let e : k ≡ length tuples = omega (arith, over, under) in e);
  values = λ n t i m at stands x. (let inside = slice_get_within tuples n t at in h.values n t i m (omega (arith, inside, over)) at stands x);
}
