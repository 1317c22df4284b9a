-- How many tuples a set has, and what tests of sets ask.
use Rattle.std.proofs.Common.{◌≡◌, ◌≢◌, ◌↔◌, ℕ, zero, suc, ◌<◌, ◌≤◌, List, [], length, Contains, AllPairs, inl, inr, sym, ◌∙◌, subst, arith, get_or}
use Rattle.std.specs.declared.cmp.Ordering.TheVariants.{Less}
use Rattle.std.proofs.lemmas.Bool.{cases_lt}
use Rattle.std.proofs.lemmas.List.{get_or_default}
use Rattle.std.proofs.lemmas.List.Elements.{Contains-get_or}
use Rattle.std.proofs.lemmas.Map.Keys.{Less-from_sorted}
use Rattle.core_tree.specs.declared.operators.Quantity.{Quantity}
use Rattle.core_tree.specs.declared.operators.Quantity.TheVariants.{Some as SomeOf, No as NoneOf, One as OneOf, Lone as LoneOf}
use Rattle.core_tree.specs.declared.operators.Multiplicity.{Multiplicity}
use Rattle.core_tree.specs.declared.operators.Multiplicity.TheVariants.{Set, One, Lone, Some}
use Rattle.core_meaning.specs.Operators.{HasSome, IsLone, HasQuantity, HasMultiplicity}
use Rattle.core_tuples.specs.Sets.{TupleList, In, IsTupleSet, tuple_cmp}
use Rattle.core_tuples.proofs.OrderLemmas.{not_below_itself}
use Rattle.eval_sets.specs.Rows.{CountIs, CountMay}

-- different places have different tuples
pub places_differ : (set : TupleList) → IsTupleSet set → AllPairs (λ s t. s ≢ t) set.tuples
places_differ set is i j d lt high e =
    let less : tuple_cmp (get_or set.tuples i d) (get_or set.tuples j d) ≡ Less = Less-from_sorted tuple_cmp set.tuples i j d is.sorted lt high in
    not_below_itself (get_or set.tuples j d) (subst (λ (s : List ℕ). tuple_cmp s (get_or set.tuples j d) ≡ Less) e less)

pub some_counts : (set : TupleList) → (0 < length set.tuples) ↔ HasSome (λ t. In t set)
some_counts set = (
  (λ lt. (get_or set.tuples 0 [], Contains-get_or set.tuples 0 [] lt)),
  (λ (t, i). let (k, lt, e) = i in omega arith),
)

first_is : (ts : List (List ℕ)) (t : List ℕ) → length ts ≤ 1 → Contains ts t → t ≡ get_or ts 0 []
first_is ts t few (zero, lt, e) = sym e ∙ get_or_default ts zero t [] lt
first_is ts t few (suc k, lt, e) = absurd (omega arith)

pub lone_counts : (set : TupleList) → IsTupleSet set → (length set.tuples ≤ 1) ↔ IsLone (λ t. In t set)
lone_counts set is = (
  (λ few t u i j. first_is set.tuples t few i ∙ sym (first_is set.tuples u few j)),
  (λ lone. elim (cases_lt 1 (length set.tuples)) [
    | inl more ↦ absurd (places_differ set is 0 1 [] (omega arith) more (lone (get_or set.tuples 0 []) (get_or set.tuples 1 []) (Contains-get_or set.tuples 0 [] (omega arith)) (Contains-get_or set.tuples 1 [] more)))
    | inr few ↦ few
  ]),
)

one_counts : (set : TupleList) → IsTupleSet set → (length set.tuples ≡ 1) ↔ (HasSome (λ t. In t set) × IsLone (λ t. In t set))
one_counts set is = (
  (λ e. ((some_counts set).0 (omega arith), (lone_counts set is).0 (omega arith))),
  (λ h. let low = (some_counts set).1 h.0 in let high = (lone_counts set is).1 h.1 in omega arith),
)

none_counts : (set : TupleList) → (length set.tuples ≡ 0) ↔ (¬ HasSome (λ t. In t set))
none_counts set = (
  (λ e some. let low = (some_counts set).1 some in omega arith),
  (λ none. elim (cases_lt 0 (length set.tuples)) [ inl lt ↦ absurd (none ((some_counts set).0 lt)) | inr le ↦ omega arith ]),
)

pub quantity_counts : (q : Quantity) (set : TupleList) → IsTupleSet set → CountIs q (length set.tuples) ↔ HasQuantity q (λ t. In t set)
quantity_counts SomeOf set is = some_counts set
quantity_counts NoneOf set is = none_counts set
quantity_counts OneOf set is = one_counts set is
quantity_counts LoneOf set is = lone_counts set is

pub multiplicity_counts : (m : Multiplicity) (set : TupleList) → IsTupleSet set → CountMay m (length set.tuples) ↔ HasMultiplicity m (λ t. In t set)
multiplicity_counts Set set is = ((λ x. x), (λ x. x))
multiplicity_counts One set is = one_counts set is
multiplicity_counts Lone set is = lone_counts set is
multiplicity_counts Some set is = some_counts set

pub iff_trans : {P Q R : Type 0} → P ↔ Q → Q ↔ R → P ↔ R
iff_trans f g = ((λ x. g.0 (f.0 x)), (λ x. f.1 (g.1 x)))
