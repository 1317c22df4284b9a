-- Entries in the order of indices, run by run.
use Rattle.std.proofs.Common.{◌≡◌, ◌≢◌, ℕ, ◌+◌, ◌-◌, ◌<◌, ◌≤◌, Bool, true, false, ◌&&◌, ◌||◌, List, [], ◌∷◌, ◌++◌, length, get_or, take, drop, All, Option, Some, None, Result, Ok, Err, IfOk, sym, ap, ◌∙◌, refl, arith, subst, inl, inr, length-drop, length-take, get_or-drop, get_or-take}
use Rattle.std.specs.declared.cmp.Ordering.TheVariants.{Less, Equal}
use Rattle.std.specs.Cmp.{nat_cmp_is}
use Rattle.std.specs.List.{list_any, AllWithin}
use Rattle.std.specs.List.Sorted.{IsNonDecreasingBy}
use Rattle.std.proofs.lemmas.Bool.{cases_lt}
use Rattle.std.proofs.lemmas.List.{take-append-drop, get_or_default, drop_all, append-nil, drop-drop}
use Rattle.std.proofs.lemmas.List.Elements.{All-nil, All-cons, All-take, All-drop}
use Rattle.std.proofs.lemmas.List.Folds.{list_any-append}
use Rattle.gate_trait.specs.declared.node.Node.{Node}
use Rattle.gate_trait.specs.Built.{Keeps}
use Rattle.core_tuples.specs.Index.{IsNumber, index_of}
use Rattle.core_tuples.proofs.IndexLaw.{index_order}
use Rattle.core_tuples.proofs.OrderLemmas.{same_tuple}
use Rattle.core_tuples.specs.Sets.{tuple_cmp, is_same, IsTupleSet}
use Rattle.core_tuples.proofs.OrderedLemmas.{or_false, one_sorted, none_sorted}
use Rattle.gate_matrix.specs.declared.entry.Entry.{Entry}
use Rattle.gate_matrix.specs.Matrices.{MatrixEntries, IsMatrix, tuples_of, truth_of, truth, has, AllBelong}
use Rattle.gate_matrix.specs.Merged.{OptionComputes, entries_of}
use Rattle.gate_matrix.proofs.BasicLemmas.{head_all, tail_all, open_entry, or_joined, tuples_append, keeps_trans, has_kept, belong_kept, matrix_from_set}
use Rattle.gate_matrix.proofs.FoundLemmas.{has_truth}
use Rattle.gate_matrix.proofs.AddedLemmas.{has_more, belong_more}
use Rattle.gate_matrix.proofs.MergeLaw.{more_other}

-- the entries so far, and those that are left
pub record Collapsing {S : Type 0} (belongs : S → Node → Type 0) (value : S → (ℕ → Bool) → Node → Bool) (arity : ℕ) (f g : S) (es all : List Entry) (place : ℕ) : Type 0 where
  pub bound : place ≤ length es
  pub keeps : Keeps belongs value f g
  pub belong : AllBelong (belongs g) all
  pub set : IsTupleSet (record { arity = arity; tuples = tuples_of all })
  pub next : All (λ e. IsTupleSet (record { arity = arity; tuples = tuples_of all ++ e.tuple ∷ [] })) (drop place es)
  pub truth : (x : ℕ → Bool) (t : List ℕ) → has (value g x) all t || has (value f x) (drop place es) t ≡ has (value f x) es t

-- entries of one tuple
run_has : (value : Node → Bool) (s t : List ℕ) (run : List Entry) → All (λ e. e.tuple ≡ s) run → has value run t ≡ is_same s t && list_any (λ e. value e.node) run
run_has value s t [] all = sym (and_none (is_same s t))
  where
    and_none : (b : Bool) → b && false ≡ false
    and_none true = refl
    and_none false = refl
run_has value s t (e ∷ run) all =
    let P : Entry → Type 0 = λ (d : Entry). d.tuple ≡ s in
    ap (λ (u : List ℕ). (is_same u t && value e.node) || has value run t) (head_all P e run all)
    ∙ ap (λ z. (is_same s t && value e.node) || z) (run_has value s t run (tail_all P e run all))
    ∙ shared (is_same s t) (value e.node) (list_any (λ d. value d.node) run)
  where
    shared : (b v w : Bool) → (b && v) || (b && w) ≡ b && (v || w)
    shared true v w = refl
    shared false v w = refl

module _ {S : Type 0} (belongs : S → Node → Type 0) (value : S → (ℕ → Bool) → Node → Bool) (arity : ℕ) (es : List Entry) (columns : All (λ e. length e.tuple ≡ arity) es) (numbers : All (λ e. All IsNumber e.tuple) es) where
  pub collapsing_none : (f : S) (all : List Entry) → all ≡ [] → 1 ≤ arity → arity ≤ 9 → Collapsing belongs value arity f f es all 0
  collapsing_none f all none least most = subst (λ (ds : List Entry). Collapsing belongs value arity f f es ds 0) (sym none) (record {
    bound = omega arith;
    keeps = record { belong = λ n t. t; values = λ n t x. refl };
    belong = let P : Entry → Type 0 = λ e. belongs f e.node in All-nil P;
    set = record { least = least; most = most; columns = All-nil _; numbers = All-nil _; sorted = none_sorted };
    next = λ k d lt. record {
      least = least;
      most = most;
      columns = let P : List ℕ → Type 0 = λ t. length t ≡ arity in All-cons P (get_or es k d).tuple [] (columns k d lt) (All-nil P);
      numbers = let P : List ℕ → Type 0 = λ t. All IsNumber t in All-cons P (get_or es k d).tuple [] (numbers k d lt) (All-nil P);
      sorted = one_sorted (get_or es k d).tuple;
    };
    truth = λ x t. refl;
  })

  module _ (order : IsNonDecreasingBy (λ e. index_of e.tuple) es) (e : Entry) (place end : ℕ) (lt : place < length es) (is : e ≡ get_or es place e) (after : place + 1 ≤ end) (within : end ≤ length es) (same : AllWithin (λ d. index_of d.tuple ≡ index_of e.tuple) es (place + 1) end) (next : (d : Entry) → end < length es → index_of (get_or es end d).tuple ≢ index_of e.tuple) where
    at_place : (d : Entry) → index_of (get_or es place d).tuple ≡ index_of e.tuple
    at_place d = ap (λ (c : Entry). index_of c.tuple) (get_or_default es place d e lt ∙ sym is)

    wide : length e.tuple ≡ arity
    wide = ap (λ (c : Entry). length c.tuple) is ∙ columns place e lt

    small : All IsNumber e.tuple
    small = subst (λ (c : Entry). All IsNumber c.tuple) (sym is) (numbers place e lt)

    -- the entries of the run have the same tuple
    run_tuple : (k : ℕ) (d : Entry) → place ≤ k → k < end → (get_or es k d).tuple ≡ e.tuple
    run_tuple k d low high = elim (cases_lt place k) [
      | inl later ↦ (let equal : index_of (get_or es k d).tuple ≡ index_of e.tuple = same k d (omega arith) high in
          same_tuple (get_or es k d).tuple e.tuple
          (sym (index_order (get_or es k d).tuple e.tuple (columns k d (omega arith) ∙ sym wide) (numbers k d (omega arith)) small)
          ∙ sym (nat_cmp_is (index_of (get_or es k d).tuple) (index_of e.tuple) Equal equal)))
      | inr here ↦ (let at : k ≡ place = omega arith in
          ap (λ (n : ℕ). (get_or es n d).tuple) at ∙ ap (λ (c : Entry). c.tuple) (get_or_default es place d e lt ∙ sym is))
    ]

    -- those after it have greater ones
    less_after : (k : ℕ) (d : Entry) → end ≤ k → k < length es → tuple_cmp e.tuple (get_or es k d).tuple ≡ Less
    less_after k d low high =
        let apart = next d (omega arith) in
        let first : index_of (get_or es place d).tuple ≤ index_of (get_or es end d).tuple = order place end d (omega arith) (omega arith) in
        let second : index_of (get_or es end d).tuple ≤ index_of (get_or es k d).tuple = order end k d low high in
        let own = at_place d in
        let less : index_of e.tuple < index_of (get_or es k d).tuple = omega arith in
        sym (index_order e.tuple (get_or es k d).tuple (wide ∙ sym (columns k d high)) small (numbers k d high))
        ∙ sym (nat_cmp_is (index_of e.tuple) (index_of (get_or es k d).tuple) Less less)

    abbrev run : List Entry
    run = take (end - place) (drop place es)

    run_all : All (λ d. d.tuple ≡ e.tuple) run
    run_all k d l =
        let short : k < end - place = omega (arith, length-take (end - place) (drop place es)) in
        subst (λ (c : Entry). c.tuple ≡ e.tuple) (sym (get_or-take (end - place) (drop place es) k d short ∙ get_or-drop place es k d)) (run_tuple (place + k) d (omega arith) (omega arith))

    split : drop place es ≡ run ++ drop end es
    split =
        let sum : place + (end - place) ≡ end = omega arith in
        sym (take-append-drop (end - place) (drop place es))
        ∙ ap (λ (ds : List Entry). run ++ ds) (drop-drop (end - place) place es ∙ ap (λ (n : ℕ). drop n es) sum)

    nodes_kept : (f g : S) → Keeps belongs value f g → (ds : List Entry) → AllBelong (belongs f) ds → (y : ℕ → Bool) → list_any (λ d. value g y d.node) ds ≡ list_any (λ d. value f y d.node) ds
    nodes_kept f g keeps [] b y = refl
    nodes_kept f g keeps (d ∷ ds) b y =
        let P : Entry → Type 0 = λ (c : Entry). belongs f c.node in
        ap (λ z. z || list_any (λ c. value g y c.node) ds) (keeps.values d.node (head_all P d ds b) y)
        ∙ ap (λ z. value f y d.node || z) (nodes_kept f g keeps ds (tail_all P d ds b) y)

    set_more : (o : Option Node) (all : List Entry) → IsTupleSet (record { arity = arity; tuples = tuples_of all }) → IsTupleSet (record { arity = arity; tuples = tuples_of all ++ e.tuple ∷ [] }) → IsTupleSet (record { arity = arity; tuples = tuples_of (all ++ entries_of e.tuple o) })
    set_more None all s r = subst (λ (ds : List Entry). IsTupleSet (record { arity = arity; tuples = tuples_of ds })) (sym (append-nil all)) s
    set_more (Some n) all s r = subst (λ (ts : List (List ℕ)). IsTupleSet (record { arity = arity; tuples = ts })) (sym (tuples_append all (record { tuple = e.tuple; node = n } ∷ []))) r

    pub collapsing_step : (f g h : S) (all : List Entry) (o : Option Node) → Keeps belongs value g h → AllBelong (belongs f) es → OptionComputes belongs value h o (λ y. list_any (λ d. value g y d.node) run) → Collapsing belongs value arity f g es all place → Collapsing belongs value arity f h es (all ++ entries_of e.tuple o) end
    collapsing_step f g h all o kept b made m =
        let P : Entry → Type 0 = λ (d : Entry). IsTupleSet (record { arity = arity; tuples = tuples_of all ++ d.tuple ∷ [] }) in
        let here : P e = subst P (open_first) (m.next 0 e (omega (arith, length-drop place es))) in
        record {
          bound = within;
          keeps = keeps_trans belongs value f g h m.keeps kept;
          belong = belong_more (belongs h) o all e.tuple (belong_kept belongs value g h kept all m.belong) made.there;
          set = set_more o all m.set here;
          next = λ k d l.
              let place_k : end + k < length es = omega (arith, length-drop end es) in
              let moved : get_or (drop end es) k d ≡ get_or es (end + k) d = get_or-drop end es k d in
              let sum : place + (end - place + k) ≡ end + k = omega arith in
              let old : get_or (drop place es) (end - place + k) d ≡ get_or es (end + k) d = get_or-drop place es (end - place + k) d ∙ ap (λ (n : ℕ). get_or es n d) sum in
              let there : P (get_or es (end + k) d) = subst P old (m.next (end - place + k) d (omega (arith, length-drop place es))) in
              subst (λ (c : Entry). IsTupleSet (record { arity = arity; tuples = tuples_of (all ++ entries_of e.tuple o) ++ c.tuple ∷ [] })) (sym moved)
              (more_other arity o all e.tuple [] ((get_or es (end + k) d).tuple ∷ []) here there (less_after (end + k) d (omega arith) place_k, tt));
          truth = λ y t.
              ap (λ z. z || has (value f y) (drop end es) t) (has_more (value h y) o all e.tuple t
              ∙ ap (λ z. z || (is_same e.tuple t && truth_of (value h y) o)) (has_kept belongs value g h kept all m.belong y t)
              ∙ ap (λ z. has (value g y) all t || (is_same e.tuple t && z)) (made.gives y ∙ nodes_kept f g m.keeps run run_belong y)
              ∙ ap (λ z. has (value g y) all t || z) (sym (run_has (value f y) e.tuple t run run_all)))
              ∙ or_joined (has (value g y) all t) (has (value f y) run t) (has (value f y) (drop end es) t)
              ∙ ap (λ z. has (value g y) all t || z) (sym (ap (λ (ds : List Entry). has (value f y) ds t) split ∙ list_any-append (λ d. is_same d.tuple t && value f y d.node) run (drop end es)))
              ∙ m.truth y t;
        }
      where
        open_first : get_or (drop place es) 0 e ≡ e
        open_first = ap (λ (ds : List Entry). get_or ds 0 e) (open_entry es place e lt is)

        run_belong : AllBelong (belongs f) run
        run_belong = let Q : Entry → Type 0 = λ (d : Entry). belongs f d.node in All-take Q (end - place) (drop place es) (All-drop Q place es b)

pub collapsed_matrix : {S : Type 0} (belongs : S → Node → Type 0) (value : S → (ℕ → Bool) → Node → Bool) (arity : ℕ) (f g : S) (es all : List Entry) (place : ℕ) → Collapsing belongs value arity f g es all place → IsMatrix (record { arity = arity; entries = all })
collapsed_matrix belongs value arity f g es all place m = matrix_from_set arity all m.set

pub collapsed_truth : {S : Type 0} (belongs : S → Node → Type 0) (value : S → (ℕ → Bool) → Node → Bool) (arity : ℕ) (f g : S) (es all : List Entry) (place : ℕ) → length es ≤ place → Collapsing belongs value arity f g es all place → (x : ℕ → Bool) (t : List ℕ) → truth (value g x) (record { arity = arity; entries = all }) t ≡ has (value f x) es t
collapsed_truth belongs value arity f g es all place over m x t =
    sym (has_truth (value g x) all t m.set.sorted)
    ∙ sym (or_false (has (value g x) all t))
    ∙ ap (λ (ds : List Entry). has (value g x) all t || has (value f x) ds t) (sym (drop_all place es over))
    ∙ m.truth x t

-- the same by another test
pub truth_as : {E : Type 0} (r : Result MatrixEntries E) (after : (ℕ → Bool) → Node → Bool) (p q : (ℕ → Bool) → List ℕ → Bool) → IfOk r (λ m. (x : ℕ → Bool) (t : List ℕ) → truth (after x) m t ≡ p x t) → ((x : ℕ → Bool) (t : List ℕ) → p x t ≡ q x t) → IfOk r (λ m. (x : ℕ → Bool) (t : List ℕ) → truth (after x) m t ≡ q x t)
truth_as (Ok m) after p q h same = λ x t. h x t ∙ same x t
truth_as (Err e) after p q h same = tt
