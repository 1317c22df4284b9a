-- A merge of two matrices, step by step.
use Rattle.std.proofs.Common.{◌≡◌, ◌⊎◌, ℕ, ◌+◌, ◌<◌, ◌≤◌, Bool, true, false, ◌&&◌, ◌||◌, List, [], ◌∷◌, ◌++◌, length, get_or, drop, Option, Some, None, Result, Ok, Err, IfOk, sym, ap, ◌∙◌, refl, arith, subst, inl, inr, append_assoc, length-drop}
use Rattle.std.specs.declared.cmp.Ordering.{Ordering}
use Rattle.std.specs.declared.cmp.Ordering.TheVariants.{Less, Equal, Greater}
use Rattle.std.specs.List.{AllByRecursion}
use Rattle.std.specs.List.Sorted.{IsStrictlySortedBy}
use Rattle.std.proofs.lemmas.Bool.{cases_lt}
use Rattle.std.proofs.lemmas.List.{append-nil, drop_all}
use Rattle.std.proofs.lemmas.List.Elements.{All-nil}
use Rattle.gate_trait.specs.declared.node.Node.{Node}
use Rattle.gate_trait.specs.Built.{Keeps}
use Rattle.core_tuples.specs.Sets.{tuple_cmp, is_same, IsTupleSet}
use Rattle.core_tuples.specs.Merged.{heads}
use Rattle.core_tuples.proofs.OrderLemmas.{above, same_tuple}
use Rattle.core_tuples.proofs.OrderedLemmas.{same_exact, or_false, sorted_back, head_below, below_all, set_without, set_with}
use Rattle.gate_matrix.specs.declared.entry.Entry.{Entry}
use Rattle.gate_matrix.specs.declared.merge.Rule.{Rule}
use Rattle.gate_matrix.specs.declared.merge.Rule.TheVariants.{Union, Intersection, Difference, Exclusive}
use Rattle.gate_matrix.specs.Matrices.{MatrixEntries, IsMatrix, tuples_of, truth_of, truth, has, AllBelong}
use Rattle.gate_matrix.specs.Merged.{combine, OptionComputes, entries_of}
use Rattle.gate_matrix.proofs.BasicLemmas.{open_entry, tuples_append, keeps_trans, has_kept, belong_kept, all_here, matrix_from_set, set_from_matrix}
use Rattle.gate_matrix.proofs.FoundLemmas.{no_more, has_truth}
use Rattle.gate_matrix.proofs.AddedLemmas.{and_false, has_more, belong_more}

combine_none : (rule : Rule) → combine rule false false ≡ false
combine_none Union = refl
combine_none Intersection = refl
combine_none Difference = refl
combine_none Exclusive = refl

-- what a step does at the tuple itself, and elsewhere
kept_here : (rule : Rule) (s v w a b c h : Bool) → (s ≡ true → a ≡ false) → (s ≡ true → b ≡ false) → c ≡ combine rule v w → (h || (s && c)) || combine rule a b ≡ h || combine rule ((s && v) || a) ((s && w) || b)
kept_here rule true v w a b c h na nb e =
    let ea : a ≡ false = na refl in
    let eb : b ≡ false = nb refl in
    ap (λ z. (h || c) || combine rule z b) ea
    ∙ ap (λ z. (h || c) || combine rule false z) eb
    ∙ ap (λ z. (h || c) || z) (combine_none rule)
    ∙ or_false (h || c)
    ∙ ap (λ z. h || z) (e
    ∙ sym (ap (λ z. combine rule z (w || b)) (ap (λ z. v || z) ea ∙ or_false v)
    ∙ ap (λ z. combine rule v z) (ap (λ z. w || z) eb ∙ or_false w)))
kept_here rule false v w a b c h na nb e = ap (λ z. z || combine rule a b) (or_false h)

module _ (arity : ℕ) where
  abbrev IsSet : List (List ℕ) → Type 0
  IsSet ts = IsTupleSet (record { arity = arity; tuples = ts })

  more_same : (o : Option Node) (all : List Entry) (x : List ℕ) (xs : List (List ℕ)) → IsSet (tuples_of all ++ x ∷ xs) → IsSet (tuples_of (all ++ entries_of x o) ++ xs)
  more_same None all x xs s = subst (λ (ts : List (List ℕ)). IsSet (ts ++ xs)) (ap tuples_of (sym (append-nil all))) (set_without arity (tuples_of all) x xs s)
  more_same (Some n) all x xs s = subst (λ (ts : List (List ℕ)). IsSet (ts ++ xs)) (sym (tuples_append all (record { tuple = x; node = n } ∷ []))) (subst IsSet (sym (append_assoc (tuples_of all) (x ∷ []) xs)) s)

  pub more_other : (o : Option Node) (all : List Entry) (x : List ℕ) (xs ys : List (List ℕ)) → IsSet (tuples_of all ++ x ∷ xs) → IsSet (tuples_of all ++ ys) → AllByRecursion (λ z. tuple_cmp x z ≡ Less) ys → IsSet (tuples_of (all ++ entries_of x o) ++ ys)
  more_other None all x xs ys s r below = subst (λ (ts : List (List ℕ)). IsSet (ts ++ ys)) (ap tuples_of (sym (append-nil all))) r
  more_other (Some n) all x xs ys s r below = subst (λ (ts : List (List ℕ)). IsSet (ts ++ ys)) (sym (tuples_append all (record { tuple = x; node = n } ∷ []))) (subst IsSet (sym (append_assoc (tuples_of all) (x ∷ []) ys)) (set_with arity (tuples_of all) x xs ys s r below))

-- the node that is there is the one that belongs
pub some_belongs : (P : Node → Type 0) (n m : Node) → P n → Some n ≡ Some m → P m
some_belongs P n m here is = let same : n ≡ m = cc in subst P same here

-- the entries so far, and those of both matrices that are left
pub record Merging {S : Type 0} (belongs : S → Node → Type 0) (value : S → (ℕ → Bool) → Node → Bool) (arity : ℕ) (rule : Rule) (f g : S) (a b all xs ys : List Entry) : Type 0 where
  pub keeps : Keeps belongs value f g
  pub belong : AllBelong (belongs g) all
  pub first : IsTupleSet (record { arity = arity; tuples = tuples_of all ++ tuples_of xs })
  pub second : IsTupleSet (record { arity = arity; tuples = tuples_of all ++ tuples_of ys })
  pub truth : (x : ℕ → Bool) (t : List ℕ) → has (value g x) all t || combine rule (has (value f x) xs t) (has (value f x) ys t) ≡ combine rule (has (value f x) a t) (has (value f x) b t)

module _ {S : Type 0} (belongs : S → Node → Type 0) (value : S → (ℕ → Bool) → Node → Bool) (arity : ℕ) (rule : Rule) (f g h : S) (a b all : List Entry) (kept : Keeps belongs value g h) (o : Option Node) where
  -- the truth after a step, where the tuple is x
  truth_step : (x : List ℕ) (old_first old_second new_first new_second : List Entry) (v w : (ℕ → Bool) → Bool)
      → ((y : ℕ → Bool) (t : List ℕ) → has (value f y) old_first t ≡ (is_same x t && v y) || has (value f y) new_first t)
      → ((y : ℕ → Bool) (t : List ℕ) → has (value f y) old_second t ≡ (is_same x t && w y) || has (value f y) new_second t)
      → ((y : ℕ → Bool) (t : List ℕ) → is_same x t ≡ true → has (value f y) new_first t ≡ false)
      → ((y : ℕ → Bool) (t : List ℕ) → is_same x t ≡ true → has (value f y) new_second t ≡ false)
      → ((y : ℕ → Bool) → truth_of (value h y) o ≡ combine rule (v y) (w y))
      → Merging belongs value arity rule f g a b all old_first old_second
      → (y : ℕ → Bool) (t : List ℕ) → has (value h y) (all ++ entries_of x o) t || combine rule (has (value f y) new_first t) (has (value f y) new_second t) ≡ combine rule (has (value f y) a t) (has (value f y) b t)
  truth_step x old_first old_second new_first new_second v w of os nf ns made m y t =
      ap (λ z. z || combine rule (has (value f y) new_first t) (has (value f y) new_second t)) (has_more (value h y) o all x t ∙ ap (λ z. z || (is_same x t && truth_of (value h y) o)) (has_kept belongs value g h kept all m.belong y t))
      ∙ kept_here rule (is_same x t) (v y) (w y) (has (value f y) new_first t) (has (value f y) new_second t) (truth_of (value h y) o) (has (value g y) all t) (nf y t) (ns y t) (made y)
      ∙ ap (λ z. has (value g y) all t || combine rule z ((is_same x t && w y) || has (value f y) new_second t)) (sym (of y t))
      ∙ ap (λ z. has (value g y) all t || combine rule (has (value f y) old_first t) z) (sym (os y t))
      ∙ m.truth y t

  absent : (x t : List ℕ) (c : Bool) → c ≡ (is_same x t && false) || c
  absent x t c = sym (ap (λ z. z || c) (and_false (is_same x t)))

  grown : Merging belongs value arity rule f g a b all [] [] → Keeps belongs value f h
  grown m = keeps_trans belongs value f g h m.keeps kept

  module _ (e : Entry) (there : belongs f e.node) (xs : List Entry) where
    pub first_step : (ys : List Entry) → heads (e.tuple ∷ tuples_of xs) (tuples_of ys) ≡ Less → OptionComputes belongs value h o (λ y. combine rule (value g y e.node) false) → Merging belongs value arity rule f g a b all (e ∷ xs) ys → Merging belongs value arity rule f h a b (all ++ entries_of e.tuple o) xs ys
    first_step ys less made m =
        let below : AllByRecursion (λ z. tuple_cmp e.tuple z ≡ Less) (tuples_of ys) = first_below (tuples_of ys) less (sorted_back (tuples_of all) (tuples_of ys) m.second.sorted) in
        let own : AllByRecursion (λ z. tuple_cmp e.tuple z ≡ Less) (tuples_of xs) = head_below e.tuple (tuples_of xs) (sorted_back (tuples_of all) (e.tuple ∷ tuples_of xs) m.first.sorted) in
        record {
          keeps = keeps_trans belongs value f g h m.keeps kept;
          belong = belong_more (belongs h) o all e.tuple (belong_kept belongs value g h kept all m.belong) made.there;
          first = more_same arity o all e.tuple (tuples_of xs) m.first;
          second = more_other arity o all e.tuple (tuples_of xs) (tuples_of ys) m.first m.second below;
          truth = truth_step e.tuple (e ∷ xs) ys xs ys (λ y. value f y e.node) (λ y. false)
              (λ y t. refl) (λ y t. absent e.tuple t (has (value f y) ys t))
              (λ y t s. no_more (value f y) e.tuple t xs own (same_exact e.tuple t s))
              (λ y t s. no_more (value f y) e.tuple t ys below (same_exact e.tuple t s))
              (λ y. made.gives y ∙ ap (λ z. combine rule z false) (m.keeps.values e.node there y)) m;
        }
      where
        first_below : (ys : List (List ℕ)) → heads (e.tuple ∷ tuples_of xs) ys ≡ Less → IsStrictlySortedBy tuple_cmp ys → AllByRecursion (λ z. tuple_cmp e.tuple z ≡ Less) ys
        first_below [] less s = tt
        first_below (y ∷ ys) less s = below_all e.tuple y ys less s

    pub second_step : (ys : List Entry) → heads (tuples_of ys) (e.tuple ∷ tuples_of xs) ≡ Greater → OptionComputes belongs value h o (λ y. combine rule false (value g y e.node)) → Merging belongs value arity rule f g a b all ys (e ∷ xs) → Merging belongs value arity rule f h a b (all ++ entries_of e.tuple o) ys xs
    second_step ys less made m =
        let below : AllByRecursion (λ z. tuple_cmp e.tuple z ≡ Less) (tuples_of ys) = second_below (tuples_of ys) less (sorted_back (tuples_of all) (tuples_of ys) m.first.sorted) in
        let own : AllByRecursion (λ z. tuple_cmp e.tuple z ≡ Less) (tuples_of xs) = head_below e.tuple (tuples_of xs) (sorted_back (tuples_of all) (e.tuple ∷ tuples_of xs) m.second.sorted) in
        record {
          keeps = keeps_trans belongs value f g h m.keeps kept;
          belong = belong_more (belongs h) o all e.tuple (belong_kept belongs value g h kept all m.belong) made.there;
          first = more_other arity o all e.tuple (tuples_of xs) (tuples_of ys) m.second m.first below;
          second = more_same arity o all e.tuple (tuples_of xs) m.second;
          truth = truth_step e.tuple ys (e ∷ xs) ys xs (λ y. false) (λ y. value f y e.node)
              (λ y t. absent e.tuple t (has (value f y) ys t)) (λ y t. refl)
              (λ y t s. no_more (value f y) e.tuple t ys below (same_exact e.tuple t s))
              (λ y t s. no_more (value f y) e.tuple t xs own (same_exact e.tuple t s))
              (λ y. made.gives y ∙ ap (λ z. combine rule false z) (m.keeps.values e.node there y)) m;
        }
      where
        second_below : (ys : List (List ℕ)) → heads ys (e.tuple ∷ tuples_of xs) ≡ Greater → IsStrictlySortedBy tuple_cmp ys → AllByRecursion (λ z. tuple_cmp e.tuple z ≡ Less) ys
        second_below [] less s = tt
        second_below (y ∷ ys) less s = below_all e.tuple y ys (above y e.tuple less) s

    pub both_step : (d : Entry) → belongs f d.node → (ys : List Entry) → tuple_cmp e.tuple d.tuple ≡ Equal → OptionComputes belongs value h o (λ y. combine rule (value g y e.node) (value g y d.node)) → Merging belongs value arity rule f g a b all (e ∷ xs) (d ∷ ys) → Merging belongs value arity rule f h a b (all ++ entries_of e.tuple o) xs ys
    both_step d other ys equal made m =
        let same : e.tuple ≡ d.tuple = same_tuple e.tuple d.tuple equal in
        let second : IsTupleSet (record { arity = arity; tuples = tuples_of all ++ e.tuple ∷ tuples_of ys }) = subst (λ (z : List ℕ). IsTupleSet (record { arity = arity; tuples = tuples_of all ++ z ∷ tuples_of ys })) (sym same) m.second in
        let own : AllByRecursion (λ z. tuple_cmp e.tuple z ≡ Less) (tuples_of xs) = head_below e.tuple (tuples_of xs) (sorted_back (tuples_of all) (e.tuple ∷ tuples_of xs) m.first.sorted) in
        let own' : AllByRecursion (λ z. tuple_cmp e.tuple z ≡ Less) (tuples_of ys) = head_below e.tuple (tuples_of ys) (sorted_back (tuples_of all) (e.tuple ∷ tuples_of ys) second.sorted) in
        record {
          keeps = keeps_trans belongs value f g h m.keeps kept;
          belong = belong_more (belongs h) o all e.tuple (belong_kept belongs value g h kept all m.belong) made.there;
          first = more_same arity o all e.tuple (tuples_of xs) m.first;
          second = more_same arity o all e.tuple (tuples_of ys) second;
          truth = truth_step e.tuple (e ∷ xs) (d ∷ ys) xs ys (λ y. value f y e.node) (λ y. value f y d.node)
              (λ y t. refl) (λ y t. ap (λ (z : List ℕ). (is_same z t && value f y d.node) || has (value f y) ys t) (sym same))
              (λ y t s. no_more (value f y) e.tuple t xs own (same_exact e.tuple t s))
              (λ y t s. no_more (value f y) e.tuple t ys own' (same_exact e.tuple t s))
              (λ y. made.gives y ∙ ap (λ z. combine rule z (value g y d.node)) (m.keeps.values e.node there y) ∙ ap (λ z. combine rule (value f y e.node) z) (m.keeps.values d.node other y)) m;
        }

-- the places of the lists
module _ (xs ys : List Entry) (i j : ℕ) where
  abbrev front : Ordering
  front = heads (tuples_of (drop i xs)) (tuples_of (drop j ys))

  -- where a list is at its end, only the other goes on
  pub less_within : Less ≡ front → i < length xs
  less_within e = elim (cases_lt i (length xs)) [
    | inl lt ↦ lt
    | inr le ↦ absurd (not_less (tuples_of (drop j ys)) (sym (ap (λ (zs : List Entry). heads (tuples_of zs) (tuples_of (drop j ys))) (drop_all i xs le)) ∙ sym e))
  ]
    where
      not_less : (zs : List (List ℕ)) → heads [] zs ≡ Less → ⊥
      not_less [] h = cc
      not_less (z ∷ zs) h = cc

  pub greater_within : Greater ≡ front → j < length ys
  greater_within e = elim (cases_lt j (length ys)) [
    | inl lt ↦ lt
    | inr le ↦ absurd (not_greater (tuples_of (drop i xs)) (sym (ap (λ (zs : List Entry). heads (tuples_of (drop i xs)) (tuples_of zs)) (drop_all j ys le)) ∙ sym e))
  ]
    where
      not_greater : (zs : List (List ℕ)) → heads zs [] ≡ Greater → ⊥
      not_greater [] h = cc
      not_greater (z ∷ zs) h = cc

  pub equal_within : Equal ≡ front → (i < length xs) ⊎ (j < length ys) → (i < length xs) × (j < length ys)
  equal_within e some = elim (cases_lt i (length xs)) [
    | inl lt ↦ elim (cases_lt j (length ys)) [
      | inl lt' ↦ (lt, lt')
      | inr le' ↦ absurd (no_end (drop i xs) (omega (arith, length-drop i xs)) (sym (ap (λ (zs : List Entry). heads (tuples_of (drop i xs)) (tuples_of zs)) (drop_all j ys le')) ∙ sym e))
    ]
    | inr le ↦ elim some [
      | inl lt ↦ absurd (omega arith)
      | inr lt' ↦ absurd (no_start (drop j ys) (omega (arith, length-drop j ys)) (sym (ap (λ (zs : List Entry). heads (tuples_of zs) (tuples_of (drop j ys))) (drop_all i xs le)) ∙ sym e))
    ]
  ]
    where
      no_end : (zs : List Entry) → 0 < length zs → heads (tuples_of zs) [] ≡ Equal → ⊥
      no_end [] long h = omega arith
      no_end (z ∷ zs) long h = cc

      no_start : (zs : List Entry) → 0 < length zs → heads [] (tuples_of zs) ≡ Equal → ⊥
      no_start [] long h = omega arith
      no_start (z ∷ zs) long h = cc

-- which list goes on with the lower tuple, at places of both
pub front_second : (xs ys : List Entry) (i j : ℕ) → length xs ≤ i → j < length ys → Greater ≡ heads (tuples_of (drop i xs)) (tuples_of (drop j ys))
front_second xs ys i j le lt = greater_start (drop j ys) (omega (arith, length-drop j ys)) ∙ sym (ap (λ (zs : List Entry). heads (tuples_of zs) (tuples_of (drop j ys))) (drop_all i xs le))
  where
    greater_start : (zs : List Entry) → 0 < length zs → Greater ≡ heads [] (tuples_of zs)
    greater_start [] long = absurd (omega arith)
    greater_start (z ∷ zs) long = refl

pub front_first : (xs ys : List Entry) (i j : ℕ) → i < length xs → length ys ≤ j → Less ≡ heads (tuples_of (drop i xs)) (tuples_of (drop j ys))
front_first xs ys i j lt le = less_start (drop i xs) (omega (arith, length-drop i xs)) ∙ sym (ap (λ (zs : List Entry). heads (tuples_of (drop i xs)) (tuples_of zs)) (drop_all j ys le))
  where
    less_start : (zs : List Entry) → 0 < length zs → Less ≡ heads (tuples_of zs) []
    less_start [] long = absurd (omega arith)
    less_start (z ∷ zs) long = refl

pub front_both : (xs ys : List Entry) (i j : ℕ) (e d : Entry) → i < length xs → j < length ys → e ≡ get_or xs i e → d ≡ get_or ys j d → tuple_cmp e.tuple d.tuple ≡ heads (tuples_of (drop i xs)) (tuples_of (drop j ys))
front_both xs ys i j e d lt lt' is is' =
    sym (ap (λ (zs : List Entry). heads (tuples_of zs) (tuples_of (drop j ys))) (open_entry xs i e lt is)
    ∙ ap (λ (zs : List Entry). heads (e.tuple ∷ tuples_of (drop (i + 1) xs)) (tuples_of zs)) (open_entry ys j d lt' is'))

module _ {S : Type 0} (belongs : S → Node → Type 0) (value : S → (ℕ → Bool) → Node → Bool) (arity : ℕ) (rule : Rule) (f g h : S) (a b all : List Entry) (kept : Keeps belongs value g h) (o : Option Node) (a_belong : AllBelong (belongs f) a) (b_belong : AllBelong (belongs f) b) (i j : ℕ) (m : Merging belongs value arity rule f g a b all (drop i a) (drop j b)) where
  pub first_at : (e : Entry) → Less ≡ heads (tuples_of (drop i a)) (tuples_of (drop j b)) → e ≡ get_or a i e → OptionComputes belongs value h o (λ y. combine rule (value g y e.node) false) → Merging belongs value arity rule f h a b (all ++ entries_of e.tuple o) (drop (i + 1) a) (drop j b)
  first_at e less is made =
      let lt : i < length a = less_within a b i j less in
      let opened : drop i a ≡ e ∷ drop (i + 1) a = open_entry a i e lt is in
      let there : belongs f e.node = all_here (λ (d : Entry). belongs f d.node) a i e a_belong lt is in
      first_step belongs value arity rule f g h a b all kept o e there (drop (i + 1) a) (drop j b)
      (subst (λ (zs : List Entry). heads (tuples_of zs) (tuples_of (drop j b)) ≡ Less) opened (sym less)) made
      (subst (λ (zs : List Entry). Merging belongs value arity rule f g a b all zs (drop j b)) opened m)

  pub second_at : (e : Entry) → Greater ≡ heads (tuples_of (drop i a)) (tuples_of (drop j b)) → e ≡ get_or b j e → OptionComputes belongs value h o (λ y. combine rule false (value g y e.node)) → Merging belongs value arity rule f h a b (all ++ entries_of e.tuple o) (drop i a) (drop (j + 1) b)
  second_at e less is made =
      let lt : j < length b = greater_within a b i j less in
      let opened : drop j b ≡ e ∷ drop (j + 1) b = open_entry b j e lt is in
      let there : belongs f e.node = all_here (λ (d : Entry). belongs f d.node) b j e b_belong lt is in
      second_step belongs value arity rule f g h a b all kept o e there (drop (j + 1) b) (drop i a)
      (subst (λ (zs : List Entry). heads (tuples_of (drop i a)) (tuples_of zs) ≡ Greater) opened (sym less)) made
      (subst (λ (zs : List Entry). Merging belongs value arity rule f g a b all (drop i a) zs) opened m)

  pub both_at : (e d : Entry) → Equal ≡ heads (tuples_of (drop i a)) (tuples_of (drop j b)) → (i < length a) ⊎ (j < length b) → e ≡ get_or a i e → d ≡ get_or b j d → OptionComputes belongs value h o (λ y. combine rule (value g y e.node) (value g y d.node)) → Merging belongs value arity rule f h a b (all ++ entries_of e.tuple o) (drop (i + 1) a) (drop (j + 1) b)
  both_at e d equal some is is' made =
      let within = equal_within a b i j equal some in
      let opened : drop i a ≡ e ∷ drop (i + 1) a = open_entry a i e within.0 is in
      let opened' : drop j b ≡ d ∷ drop (j + 1) b = open_entry b j d within.1 is' in
      let there : belongs f e.node = all_here (λ (c : Entry). belongs f c.node) a i e a_belong within.0 is in
      let there' : belongs f d.node = all_here (λ (c : Entry). belongs f c.node) b j d b_belong within.1 is' in
      both_step belongs value arity rule f g h a b all kept o e there (drop (i + 1) a) d there' (drop (j + 1) b)
      (front_both a b i j e d within.0 within.1 is is' ∙ sym equal) made
      (subst (λ (zs : List Entry). Merging belongs value arity rule f g a b all (e ∷ drop (i + 1) a) zs) opened' (subst (λ (zs : List Entry). Merging belongs value arity rule f g a b all zs (drop j b)) opened m))

-- nothing is merged yet
pub merging_none : {S : Type 0} (belongs : S → Node → Type 0) (value : S → (ℕ → Bool) → Node → Bool) (arity : ℕ) (rule : Rule) (f : S) (a b all : List Entry) → all ≡ [] → IsMatrix (record { arity = arity; entries = a }) → IsMatrix (record { arity = arity; entries = b }) → Merging belongs value arity rule f f a b all (drop 0 a) (drop 0 b)
merging_none belongs value arity rule f a b all none ma mb = subst (λ (es : List Entry). Merging belongs value arity rule f f a b es (drop 0 a) (drop 0 b)) (sym none) (record {
  keeps = record { belong = λ n t. t; values = λ n t x. refl };
  belong = let P : Entry → Type 0 = λ e. belongs f e.node in All-nil P;
  first = set_from_matrix arity a ma;
  second = set_from_matrix arity b mb;
  truth = λ x t. refl;
})

-- at the end of both, the entries so far are all
pub merged_matrix : {S : Type 0} (belongs : S → Node → Type 0) (value : S → (ℕ → Bool) → Node → Bool) (arity : ℕ) (rule : Rule) (f g : S) (a b all : List Entry) (i j : ℕ) → length a ≤ i → length b ≤ j → Merging belongs value arity rule f g a b all (drop i a) (drop j b) → IsMatrix (record { arity = arity; entries = all })
merged_matrix belongs value arity rule f g a b all i j le le' m =
    matrix_from_set arity all (subst (λ (ts : List (List ℕ)). IsTupleSet (record { arity = arity; tuples = ts })) (append-nil (tuples_of all)) (subst (λ (zs : List Entry). IsTupleSet (record { arity = arity; tuples = tuples_of all ++ tuples_of zs })) (drop_all i a le) m.first))

pub merged_truth : {S : Type 0} (belongs : S → Node → Type 0) (value : S → (ℕ → Bool) → Node → Bool) (arity : ℕ) (rule : Rule) (f g : S) (a b all : List Entry) (i j : ℕ) → length a ≤ i → length b ≤ j → Merging belongs value arity rule f g a b all (drop i a) (drop j b) → (x : ℕ → Bool) (t : List ℕ) → truth (value g x) (record { arity = arity; entries = all }) t ≡ combine rule (has (value f x) a t) (has (value f x) b t)
merged_truth belongs value arity rule f g a b all i j le le' m x t =
    let made = merged_matrix belongs value arity rule f g a b all i j le le' m in
    sym (has_truth (value g x) all t made.sorted)
    ∙ sym (ap (λ z. has (value g x) all t || z) (ap (λ (zs : List Entry). combine rule (has (value f x) zs t) (has (value f x) (drop j b) t)) (drop_all i a le) ∙ ap (λ (zs : List Entry). combine rule false (has (value f x) zs t)) (drop_all j b le') ∙ combine_none rule) ∙ or_false (has (value g x) all t))
    ∙ m.truth x t

-- the merge of two matrices
pub merged_made : {E : Type 0} (r : Result MatrixEntries E) (after before : (ℕ → Bool) → Node → Bool) (rule : Rule) (a b : MatrixEntries) (xs ys : List Entry) → xs ≡ a.entries → ys ≡ b.entries → IsMatrix a → IsMatrix b → IfOk r (λ m. (x : ℕ → Bool) (t : List ℕ) → truth (after x) m t ≡ combine rule (has (before x) xs t) (has (before x) ys t)) → IfOk r (λ m. (x : ℕ → Bool) (t : List ℕ) → truth (after x) m t ≡ combine rule (truth (before x) a t) (truth (before x) b t))
merged_made (Ok m) after before rule a b xs ys e f ma mb h = λ x t.
    h x t
    ∙ ap (λ z. combine rule z (has (before x) ys t)) (ap (λ (es : List Entry). has (before x) es t) e ∙ has_truth (before x) a.entries t ma.sorted)
    ∙ ap (λ z. combine rule (truth (before x) a t) z) (ap (λ (es : List Entry). has (before x) es t) f ∙ has_truth (before x) b.entries t mb.sorted)
merged_made (Err e) after before rule a b xs ys e' f ma mb h = tt

pub arity_as : {E : Type 0} (r : Result MatrixEntries E) (n k : ℕ) → n ≡ k → IfOk r (λ m. m.arity ≡ n) → IfOk r (λ m. m.arity ≡ k)
arity_as r n k e h = subst (λ (i : ℕ). IfOk r (λ m. m.arity ≡ i)) e h
