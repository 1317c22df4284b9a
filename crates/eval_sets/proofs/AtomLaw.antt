-- The members of a set of one column, as a list.
use Rattle.std.proofs.Common.{◌≡◌, ◌≢◌, ℕ, ◌+◌, ◌<◌, ◌≤◌, List, [], ◌∷◌, ◌++◌, map, length, take, get_or, Contains, sym, ap, ◌∙◌, subst, arith, take_all}
use Rattle.std.proofs.lemmas.List.{take_more, map-append, get_or-map, length-map}
use Rattle.std.proofs.lemmas.List.Elements.{Contains-get_or}
use Rattle.core_meaning.specs.Operators.{IsListOf}
use Rattle.core_tuples.specs.Sets.{TupleList, In, IsTupleSet}
use Rattle.eval_sets.proofs.Members.{has_columns, one_number}
use Rattle.eval_sets.proofs.SizeLaw.{places_differ}

abbrev pub first_number : List ℕ → ℕ
first_number t = get_or t 0 0

-- the columns of a tuple at a place
pub place_columns : (set : TupleList) (ts : List (List ℕ)) (k : ℕ) (s : List ℕ) → IsTupleSet set → ts ≡ set.tuples → k < length ts → s ≡ get_or ts k s → length s ≡ set.arity
place_columns set ts k s is all lt at =
    has_columns set s is (subst (λ (ys : List (List ℕ)). Contains ys s) all (subst (λ (v : List ℕ). Contains ts v) (sym at) (Contains-get_or ts k s lt)))

pub firsts_more : (ts : List (List ℕ)) (k : ℕ) (s : List ℕ) (x : ℕ) (old new : List ℕ) → k < length ts → s ≡ get_or ts k s → old ≡ map first_number (take k ts) → x ≡ first_number s → new ≡ old ++ x ∷ [] → new ≡ map first_number (take (k + 1) ts)
firsts_more ts k s x old new lt at e f h =
    let more : take (k + 1) ts ≡ take k ts ++ s ∷ [] = take_more ts k s lt ∙ ap (λ y. take k ts ++ y ∷ []) (sym at) in
    h
    ∙ ap (λ (xs : List ℕ). xs ++ x ∷ []) e
    ∙ ap (λ (n : ℕ). map first_number (take k ts) ++ n ∷ []) f
    ∙ sym (map-append first_number (take k ts) (s ∷ []))
    ∙ ap (map first_number) (sym more)

module _ (set : TupleList) (is : IsTupleSet set) (one : set.arity ≡ 1) where
  single : (k : ℕ) (d : List ℕ) → k < length set.tuples → get_or set.tuples k d ≡ first_number (get_or set.tuples k d) ∷ []
  single k d lt = one_number (get_or set.tuples k d) (has_columns set (get_or set.tuples k d) is (Contains-get_or set.tuples k d lt) ∙ one)

  differ : (i j x : ℕ) → i < j → j < length (map first_number set.tuples) → get_or (map first_number set.tuples) i x ≢ get_or (map first_number set.tuples) j x
  differ i j x lt high e =
      let in' : j < length set.tuples = omega (arith, length-map set.tuples first_number) in
      let at_i = get_or-map first_number set.tuples i [] x (omega arith) in
      let at_j = get_or-map first_number set.tuples j [] x in' in
      let same : first_number (get_or set.tuples i []) ≡ first_number (get_or set.tuples j []) = sym at_i ∙ e ∙ at_j in
      places_differ set is i j [] lt in' (single i [] (omega arith) ∙ ap (λ (n : ℕ). n ∷ []) same ∙ sym (single j [] in'))

  to : (x : ℕ) → Contains (map first_number set.tuples) x → In (x ∷ []) set
  to x (k, lt, e) =
      let in' : k < length set.tuples = omega (arith, length-map set.tuples first_number) in
      let at : first_number (get_or set.tuples k []) ≡ x = sym (get_or-map first_number set.tuples k [] x in') ∙ e in
      subst (λ (v : List ℕ). In v set) (single k [] in' ∙ ap (λ (n : ℕ). n ∷ []) at) (Contains-get_or set.tuples k [] in')

  from : (x : ℕ) → In (x ∷ []) set → Contains (map first_number set.tuples) x
  from x (k, lt, e) =
      let in' : k < length (map first_number set.tuples) = omega (arith, length-map set.tuples first_number) in
      (k, in', get_or-map first_number set.tuples k (x ∷ []) x lt ∙ ap first_number e)

  pub firsts_listed : (ts : List (List ℕ)) (k : ℕ) (xs : List ℕ) → length ts ≤ k → ts ≡ set.tuples → xs ≡ map first_number (take k ts) → IsListOf (λ x. In (x ∷ []) set) xs
  firsts_listed ts k xs over all e =
      let whole : xs ≡ map first_number set.tuples = e ∙ ap (map first_number) (take_all k ts over ∙ all) in
      subst (λ (ys : List ℕ). IsListOf (λ x. In (x ∷ []) set) ys) (sym whole) (record {
        distinct = differ;
        all_and_only = λ x. (to x, from x);
      })
