-- The types of expressions under names that have the same rows.
use Rattle.std.proofs.Common.{◌≡◌, ℕ, zero, suc, arith, ◌+◌, ◌<◌, ◌≤◌, Bool, true, false, if◌then◌else◌, eqb, List, [], ◌∷◌, ◌++◌, map, Contains, length, get_or, take, refl, sym, ap, ◌∙◌, subst, append_assoc, append-nil}
use Rattle.std.proofs.lemmas.List.{take_more, map-append}
use Rattle.core_tree.specs.declared.model.Model.{Model}
use Rattle.core_tree.specs.declared.operators.RelationOp.{RelationOp}
use Rattle.core_tree.specs.declared.operators.UnaryRelation.{UnaryRelation}
use Rattle.core_tree.specs.declared.tree.Variable.{Variable}
use Rattle.core_tree.specs.declared.operators.Multiplicity.{Multiplicity}
use Rattle.core_tree.specs.Trees.{Term, Claim, Variables, Binder, term_of, variable_of, combine, product, unary, choose_term, let_term, no_variables, variable_list}
use Rattle.core_tree.specs.Types.{TypeRow, TypeRows, NameRows, with_rows, row_pairs, combined_rows, type_of}
use Rattle.resolve_type_check.specs.Same.{SameRows}
use Rattle.resolve_type_check.specs.Closed.{Turns}
use Rattle.resolve_type_check.specs.Names.{SameNames, variable_types, types_after, IsTypeOf, IsTypeOfVariables}
use Rattle.resolve_type_check.proofs.Flat.{into_flat, from_flat, into_map, from_map, head_in, only_in}
use Rattle.resolve_type_check.proofs.Monotone.{same_itself, same_then, same_sym, same_from, row_pairs_same, append_same, combined_same}

by_name : (b : Bool) (r s u v : TypeRows) → SameRows r s → SameRows u v → SameRows (if b then r else u) (if b then s else v)
by_name true r s u v p q = p
by_name false r s u v p q = q

pub with_same : (m n : NameRows) (x : ℕ) (r s : TypeRows) → SameNames m n → SameRows r s → SameNames (with_rows m x r) (with_rows n x s)
with_same m n x r s p q = record { at = λ y. by_name (eqb y x) r s (m y) (n y) q (p.at y) }

pub names_themselves : (m : NameRows) → SameNames m m
names_themselves m = record { at = λ x. same_itself (m x) }

into_pairs : (a b : TypeRows) (p q : TypeRow) → Contains a p → Contains b q → Contains (row_pairs a b) (p ++ q)
into_pairs a b p q h k = into_flat (λ r. map (λ s. r ++ s) b) a p (p ++ q) h (into_map (λ s. p ++ s) b q k)

from_pairs : (a b : TypeRows) (r : TypeRow) → Contains (row_pairs a b) r → (p : TypeRow) × Contains a p × (q : TypeRow) × Contains b q × (p ++ q ≡ r)
from_pairs a b r h =
    let first = from_flat (λ x. map (λ s. x ++ s) b) a r h in
    let second = from_map (λ s. first.0 ++ s) b r first.2 in
    (first.0, first.1, second.0, second.1, second.2)

left_end : (b : TypeRows) → SameRows b (row_pairs ([] ∷ []) b)
left_end b = record {
  to = λ r h. into_pairs ([] ∷ []) b [] r (head_in [] []) h;
  back = λ r h. let found = from_pairs ([] ∷ []) b r h in subst (Contains b) (ap (λ p. p ++ found.2) (only_in [] found.0 found.1) ∙ found.4) found.3;
}

right_end : (a : TypeRows) → SameRows (row_pairs a ([] ∷ [])) a
right_end a = record {
  to = λ r h. let found = from_pairs a ([] ∷ []) r h in subst (Contains a) (sym (append-nil found.0) ∙ ap (λ q. found.0 ++ q) (only_in [] found.2 found.3) ∙ found.4) found.1;
  back = λ r h. subst (Contains (row_pairs a ([] ∷ []))) (append-nil r) (into_pairs a ([] ∷ []) r [] h (head_in [] []));
}

turn : (a b c : TypeRows) → SameRows (row_pairs (row_pairs a b) c) (row_pairs a (row_pairs b c))
turn a b c = record {
  to = λ r h.
      let out = from_pairs (row_pairs a b) c r h in
      let inn = from_pairs a b out.0 out.1 in
      let e : inn.0 ++ (inn.2 ++ out.2) ≡ r = sym (append_assoc inn.0 inn.2 out.2) ∙ ap (λ p. p ++ out.2) inn.4 ∙ out.4 in
      subst (Contains (row_pairs a (row_pairs b c))) e (into_pairs a (row_pairs b c) inn.0 (inn.2 ++ out.2) inn.1 (into_pairs b c inn.2 out.2 inn.3 out.3));
  back = λ r h.
      let out = from_pairs a (row_pairs b c) r h in
      let inn = from_pairs b c out.2 out.3 in
      let e : (out.0 ++ inn.0) ++ inn.2 ≡ r = append_assoc out.0 inn.0 inn.2 ∙ ap (λ q. out.0 ++ q) inn.4 ∙ out.4 in
      subst (Contains (row_pairs (row_pairs a b) c)) e (into_pairs (row_pairs a b) c (out.0 ++ inn.0) inn.2 (into_pairs a b out.0 inn.0 out.1 inn.1) inn.3);
}

pub take_all : {X : Type 0} (l : List X) (k : ℕ) → length l ≤ k → take k l ≡ l
take_all [] zero low = refl
take_all [] (suc k) low = refl
take_all (x ∷ l) zero low = absurd (omega (arith, low))
take_all (x ∷ l) (suc k) low = ap (λ r. x ∷ r) (take_all l k (omega (arith, low)))

module _ (model : Model) where
  -- one variable more behind others
  rows_last : (vs : List Binder) (v : Binder) (n : NameRows) → SameRows (row_pairs (variable_types model (variable_list vs) n) (type_of model v.bound (types_after model (variable_list vs) n))) (variable_types model (variable_list (vs ++ v ∷ [])) n)
  rows_last [] v n =
      let rows = type_of model v.bound n in
      same_then (row_pairs ([] ∷ []) rows) rows (row_pairs rows ([] ∷ [])) (same_sym rows (row_pairs ([] ∷ []) rows) (left_end rows)) (same_sym (row_pairs rows ([] ∷ [])) rows (right_end rows))
  rows_last (w ∷ vs) v n =
      let rows = type_of model w.bound n in
      let m = with_rows n w.name rows in
      let inner = variable_types model (variable_list vs) m in
      let last = type_of model v.bound (types_after model (variable_list vs) m) in
      let all = variable_types model (variable_list (vs ++ v ∷ [])) m in
      same_then (row_pairs (row_pairs rows inner) last) (row_pairs rows (row_pairs inner last)) (row_pairs rows all) (turn rows inner last)
      (row_pairs_same rows (row_pairs inner last) rows all (same_itself rows) (rows_last vs v m))

  names_last : (vs : List Binder) (v : Binder) (n : NameRows) → with_rows (types_after model (variable_list vs) n) v.name (type_of model v.bound (types_after model (variable_list vs) n)) ≡ types_after model (variable_list (vs ++ v ∷ [])) n
  names_last [] v n = refl
  names_last (w ∷ vs) v n = names_last vs v (with_rows n w.name (type_of model w.bound n))

  abbrev binders : List Variable → ℕ → List Binder
  binders list i = map variable_of (take i list)

  binders_more : (list : List Variable) (i : ℕ) (v : Variable) → i < length list → v ≡ get_or list i v → binders list i ++ variable_of v ∷ [] ≡ binders list (i + 1)
  binders_more list i v lt e =
      sym (ap (map variable_of) (take_more list i v lt) ∙ map-append variable_of (take i list) (get_or list i v ∷ []) ∙ ap (λ x. binders list i ++ variable_of x ∷ []) (sym e))

  -- what a loop over variables keeps: the rows so far, and the names
  pub record IsSoFar (vs : Variables) (names inner : NameRows) (rows : TypeRows) : Type 0 where
    pub named : (n : NameRows) → SameNames names n → SameNames inner (types_after model vs n)
    pub typed : (n : NameRows) → SameNames names n → SameRows rows (variable_types model vs n)

  pub so_far_first : (names : NameRows) → IsSoFar no_variables names names ([] ∷ [])
  so_far_first names = record { named = λ n p. p; typed = λ n p. same_itself ([] ∷ []) }

  pub so_far_more : (list : List Variable) (i : ℕ) (v : Variable) (names inner further : NameRows) (rows bound made : TypeRows) → i < length list → v ≡ get_or list i v → IsSoFar (variable_list (binders list i)) names inner rows → IsTypeOf model (term_of v.bound) inner bound → made ≡ row_pairs rows bound → further ≡ with_rows inner v.name bound → IsSoFar (variable_list (binders list (i + 1))) names further made
  so_far_more list i v names inner further rows bound made lt e s t em ef =
      let vs = variable_list (binders list i) in
      let typed_bound = λ (n : NameRows) (p : SameNames names n). t (types_after model vs n) (s.named n p) in
      subst (λ l. IsSoFar (variable_list l) names further made) (binders_more list i v lt e) (record {
        named = λ n p.
            subst (SameNames further) (names_last (binders list i) (variable_of v) n)
            (subst (λ f. SameNames f (with_rows (types_after model vs n) v.name (type_of model (term_of v.bound) (types_after model vs n)))) (sym ef)
            (with_same inner (types_after model vs n) v.name bound (type_of model (term_of v.bound) (types_after model vs n)) (s.named n p) (typed_bound n p)));
        typed = λ n p.
            same_then made (row_pairs rows bound) (variable_types model (variable_list (binders list i ++ variable_of v ∷ [])) n) (same_from made (row_pairs rows bound) em)
            (same_then (row_pairs rows bound) (row_pairs (variable_types model vs n) (type_of model (term_of v.bound) (types_after model vs n))) (variable_types model (variable_list (binders list i ++ variable_of v ∷ [])) n)
            (row_pairs_same rows bound (variable_types model vs n) (type_of model (term_of v.bound) (types_after model vs n)) (s.typed n p) (typed_bound n p))
            (rows_last (binders list i) (variable_of v) n));
      })

  pub so_far_all : (list : List Variable) (i : ℕ) (names inner : NameRows) (rows : TypeRows) → length list ≤ i → IsSoFar (variable_list (binders list i)) names inner rows → IsTypeOfVariables model (variable_list (map variable_of list)) names rows
  so_far_all list i names inner rows le s = subst (λ l. IsTypeOfVariables model (variable_list (map variable_of l)) names rows) (take_all list i le) s.typed

  module _ (names : NameRows) where
    pub combined_typed : (op : RelationOp) (a b : Term) (r s all : TypeRows) → IsTypeOf model a names r → IsTypeOf model b names s → SameRows all (combined_rows model.sigs op r s) → IsTypeOf model (combine op a b) names all
    combined_typed op a b r s all ta tb e n p = same_then all (combined_rows model.sigs op r s) (type_of model (combine op a b) n) e (combined_same model.sigs op r s (type_of model a n) (type_of model b n) (ta n p) (tb n p))

    pub either_typed : (f : Claim) (a b : Term) (r s all : TypeRows) → IsTypeOf model a names r → IsTypeOf model b names s → SameRows all (r ++ s) → IsTypeOf model (choose_term f a b) names all
    either_typed f a b r s all ta tb e n p = same_then all (r ++ s) (type_of model (choose_term f a b) n) e (append_same r s (type_of model a n) (type_of model b n) (ta n p) (tb n p))

    pub product_typed : (k l : Multiplicity) (a b : Term) (r s all : TypeRows) → IsTypeOf model a names r → IsTypeOf model b names s → all ≡ row_pairs r s → IsTypeOf model (product a k l b) names all
    product_typed k l a b r s all ta tb e n p = same_then all (row_pairs r s) (type_of model (product a k l b) n) (same_from all (row_pairs r s) e) (row_pairs_same r s (type_of model a n) (type_of model b n) (ta n p) (tb n p))

    pub turned_typed : (op : UnaryRelation) (a : Term) (r all : TypeRows) → IsTypeOf model a names r → Turns model.sigs op r all → IsTypeOf model (unary op a) names all
    turned_typed op a r all ta t n p = t (type_of model a n) (ta n p)

    pub let_typed : (x : ℕ) (a b : Term) (r all : TypeRows) (inner : NameRows) → IsTypeOf model a names r → inner ≡ with_rows names x r → IsTypeOf model b inner all → IsTypeOf model (let_term x a b) names all
    let_typed x a b r all inner ta e tb n p = tb (with_rows n x (type_of model a n)) (subst (λ f. SameNames f (with_rows n x (type_of model a n))) (sym e) (with_same names n x r (type_of model a n) p (ta n p)))

  pub constant_typed : (e : Term) (rows all : TypeRows) (names : NameRows) → ((n : NameRows) → type_of model e n ≡ rows) → all ≡ rows → IsTypeOf model e names all
  constant_typed e rows all names is same n p = same_from all (type_of model e n) (same ∙ sym (is n))

  take_none : {X : Type 0} (l : List X) → [] ≡ take 0 l
  take_none [] = refl
  take_none (x ∷ l) = refl

  pub so_far_start : (list : List Variable) (names inner : NameRows) (rows : TypeRows) → inner ≡ names → rows ≡ [] ∷ [] → IsSoFar (variable_list (map variable_of (take 0 list))) names inner rows
  so_far_start list names inner rows en er =
      subst (λ (l : List Variable). IsSoFar (variable_list (map variable_of l)) names inner rows) (take_none list)
      (subst (λ f. IsSoFar no_variables names f rows) (sym en) (subst (λ r. IsSoFar no_variables names names r) (sym er) (so_far_first names)))
