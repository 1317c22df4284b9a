-- Whether a lasso keeps the numbers of the scopes.
use Rattle.std.proofs.Common.{◌≡◌, ◌↔◌, ◌⊎◌, ◌<◌, ◌+◌, ◌-◌, ◌*◌, ◌%◌, ℕ, zero, suc, Bool, true, false, ◌||◌, ◌&&◌, List, [], ◌∷◌, ◌++◌, length, All, Option, Some, None, IfSome, slice_get, refl, sym, ap, ◌∙◌, subst, arith, inl, inr}
use Rattle.std.specs.List.{AllByRecursion, count_by}
use Rattle.std.proofs.lemmas.Bool.{cases_lt, cond_below, false≢true}
use Rattle.std.proofs.lemmas.Option.{slice_get_within}
use Rattle.std.proofs.lemmas.List.Elements.{recursion_from_All}
use Rattle.gate_trait.specs.declared.node.Node.{Node}
use Rattle.gate_temporal.specs.Rows.{row_value}
use Rattle.core_tuples.specs.Sets.{IsTupleSet}
use Rattle.core_meaning.specs.declared.scopes.SigScope.{SigScope}
use Rattle.core_meaning.specs.Sequence.{place_of, period}
use Rattle.core_meaning.specs.World.{World}
use Rattle.core_meaning.specs.Operators.{IsListOf}
use Rattle.core_meaning.specs.Kept.{IsEverIn, IsWithin, KeepsNumber}
use Rattle.bound_uppers.specs.declared.places.Cells.{Cells}
use Rattle.bound_uppers.specs.declared.places.Layout.{Layout}
use Rattle.bound_uppers.specs.declared.table.Bound.{Bound}
use Rattle.bound_uppers.specs.declared.table.Bounds.{Bounds}
use Rattle.bmc_leaves.specs.Table.{first_at, IsEver, Decodes}
use Rattle.bmc_leaves.proofs.RowLaws.{push_last, push_before}
use Rattle.bmc_leaves.proofs.MarkLaws.{IsMarked, count_law}

or_cases : (a b : Bool) → a || b ≡ true → (a ≡ true) ⊎ (b ≡ true)
or_cases true b e = inl refl
or_cases false b e = inr e

or_first : (a b : Bool) → a ≡ true → a || b ≡ true
or_first true b e = refl
or_first false b e = absurd (false≢true e)

or_second : (a b : Bool) → b ≡ true → a || b ≡ true
or_second true b e = refl
or_second false b e = e

and_both : (a b : Bool) → a ≡ true → b ≡ true → a && b ≡ true
and_both true b e f = f
and_both false b e f = absurd (false≢true e)

and_first : (a b : Bool) → a && b ≡ true → a ≡ true
and_first true b e = refl
and_first false b e = absurd (false≢true e)

and_second : (a b : Bool) → a && b ≡ true → b ≡ true
and_second true b e = e
and_second false b e = absurd (false≢true e)

-- one state more
pub ever_more : (x : ℕ → Bool) (fixed : Bool) (cells : Cells) (states place : ℕ) (any next : Bool) → (any ≡ true) ↔ IsEver x fixed cells states place → next ≡ x (first_at fixed cells states + place) → (any || next ≡ true) ↔ IsEver x fixed cells (states + 1) place
ever_more x fixed cells states place any next h is = (
  (λ e. elim (or_cases any next e) [
    | inl old ↦ (let k = h.0 old in (k.0, omega (arith, k.1), k.2))
    | inr new ↦ (states, omega arith, sym is ∙ new)
  ]),
  (λ k. elim (cases_lt k.0 states) [
    | inl less ↦ or_first any next (h.1 (k.0, less, k.2))
    | inr ge ↦ (let same : k.0 ≡ states = omega (arith, ge, k.1) in or_second any next (is ∙ ap (λ (s : ℕ). x (first_at fixed cells s + place)) (sym same) ∙ k.2))
  ]),
)

-- a fixed relation has a tuple at some state where it has it at the first
pub ever_fixed : (x : ℕ → Bool) (cells : Cells) (states place : ℕ) → 0 < states → IsEver x true cells 1 place ↔ IsEver x true cells states place
ever_fixed x cells states place some = (
  (λ (k, lt, e). (0, some, e)),
  (λ (k, lt, e). (0, omega arith, e)),
)

module _ (bounds : Bounds) (table : Layout) (x : ℕ → Bool) (w : World) (d : Decodes bounds table x w.lasso) where
  -- an atom is in the sig at some position where its variable is true at some state
  ever_in : (r : ℕ) (bound : Bound) (cells : Cells) → slice_get bounds.relations r ≡ Some bound → slice_get table.relations.items r ≡ Some cells → (a : ℕ) → IsEverIn w r a ↔ ((j : ℕ) × (slice_get bound.upper.tuples j ≡ Some (a ∷ [])) × IsEver x bound.fixed cells bounds.states j)
  ever_in r bound cells at there a = (
    (λ (i, (state, set, here, found, has)).
        let k = place_of w.lasso i in
        let inside = slice_get_within w.lasso.states k state here in
        let states = d.states in
        let lt : k < bounds.states = omega (arith, inside, states) in
        let (j, is, e) = (d.relations r k bound cells at there lt (a ∷ [])).0 (state, set, here, found, has) in
        (j, is, (k, lt, e))),
    (λ (j, is, (k, lt, e)).
        let states = d.states in
        let inside : k < length w.lasso.states = omega (arith, lt, states) in
        let (state, set, here, found, has) = (d.relations r k bound cells at there lt (a ∷ [])).1 (j, is, e) in
        let place : place_of w.lasso k ≡ k = sym (cond_below k (length w.lasso.states) k (w.lasso.loop_start + (k - w.lasso.loop_start) % period w.lasso) inside) in
        (k, (state, set, ap (λ (p : ℕ). slice_get w.lasso.states p) place ∙ here, found, has))),
  )

  -- a sig keeps its number where as many nodes as the scope allows are true
  pub sig_law : (r : ℕ) (bound : Bound) (cells : Cells) (scope : SigScope) (number : ℕ) (v : Node → Bool) (ns : List Node) → slice_get bounds.relations r ≡ Some bound → slice_get table.relations.items r ≡ Some cells → scope.number ≡ Some number → IsTupleSet bound.upper → bound.upper.arity ≡ 1 → length ns ≡ length bound.upper.tuples → ((j : ℕ) → j < length bound.upper.tuples → (row_value v ns j ≡ true) ↔ IsEver x bound.fixed cells bounds.states j) → IsWithin scope.exact number (count_by v ns) ↔ KeepsNumber w r scope
  sig_law r bound cells scope number v ns at there has set one long each =
      let ts = bound.upper.tuples in
      let all : AllByRecursion (λ t. length t ≡ 1) ts = recursion_from_All (λ t. length t ≡ 1) ts (subst (λ (n : ℕ). All (λ t. length t ≡ n) ts) one set.columns) in
      let same : (a : ℕ) → IsMarked v ts ns a ↔ IsEverIn w r a = (λ a.
      let ever = ever_in r bound cells at there a in (
        (λ (j, is, e). ever.1 (j, is, (each j (slice_get_within ts j (a ∷ []) is)).0 e)),
        (λ i. let (j, is, k) = ever.0 i in (j, is, (each j (slice_get_within ts j (a ∷ []) is)).1 k)),
      )) in
      let law = count_law (IsEverIn w r) scope.exact number v ts ns all set.sorted long same in
      let with_number = λ (n : Option ℕ). IfSome n (λ m. (atoms : List ℕ) × IsListOf (IsEverIn w r) atoms × IsWithin scope.exact m (length atoms)) in
      ((λ h. subst with_number (sym has) (law.0 h)), (λ h. law.1 (subst with_number has h)))

  -- without a number there is nothing to keep
  pub free_law : (r : ℕ) (scope : SigScope) → scope.number ≡ None → KeepsNumber w r scope
  free_law r scope has = subst (λ (n : Option ℕ). IfSome n (λ m. (atoms : List ℕ) × IsListOf (IsEverIn w r) atoms × IsWithin scope.exact m (length atoms))) (sym has) tt

  -- one sig more
  pub numbers_more : (scopes : List SigScope) (r : ℕ) (scope : SigScope) (all kept : Bool) → slice_get scopes r ≡ Some scope → (all ≡ true) ↔ ((s : ℕ) (q : SigScope) → s < r → slice_get scopes s ≡ Some q → KeepsNumber w s q) → (kept ≡ true) ↔ KeepsNumber w r scope → (all && kept ≡ true) ↔ ((s : ℕ) (q : SigScope) → s < r + 1 → slice_get scopes s ≡ Some q → KeepsNumber w s q)
  numbers_more scopes r scope all kept at old new = (
    (λ e s q lt is. elim (cases_lt s r) [
      | inl less ↦ old.0 (and_first all kept e) s q less is
      | inr ge ↦ (let same : s ≡ r = omega (arith, lt, ge) in
          let this : scope ≡ q = (let e : Some scope ≡ Some q = sym at ∙ ap (λ (k : ℕ). slice_get scopes k) (sym same) ∙ is in cc) in
          subst (λ (p : SigScope). KeepsNumber w s p) this (subst (λ (k : ℕ). KeepsNumber w k scope) (sym same) (new.0 (and_second all kept e))))
    ]),
    (λ h. and_both all kept (old.1 (λ s q lt is. h s q (omega (arith, lt)) is)) (new.1 (h r scope (omega arith) at))),
  )

-- the variables of a fixed relation, and of the first state
pub fixed_at : (cells : Cells) (fixed : Bool) (state : ℕ) → (fixed ≡ true) ⊎ (state ≡ 0) → cells.first ≡ first_at fixed cells state
fixed_at cells true state h = refl
fixed_at cells false zero h = refl
fixed_at cells false (suc state) (inl e) = absurd (false≢true e)
fixed_at cells false (suc state) (inr e) = absurd (omega (arith, e))

-- the variables of a later state
pub later_at : (cells : Cells) (state n : ℕ) → 0 < state → n ≡ cells.next + (state - 1) * cells.stride → n ≡ first_at false cells state
later_at cells zero n some is = absurd (omega (arith, some))
later_at cells (suc state) n some is = is ∙ (let e : suc state - 1 ≡ state = omega arith in ap (λ (k : ℕ). cells.next + k * cells.stride) e)

-- one place more
pub nodes_more : (old value : Node → Bool) (x : ℕ → Bool) (fixed : Bool) (cells : Cells) (states : ℕ) (row new : List Node) (n : Node) (k : ℕ) → new ≡ row ++ n ∷ [] → length row ≡ k → ((j : ℕ) → row_value value row j ≡ row_value old row j) → ((j : ℕ) → j < k → (row_value old row j ≡ true) ↔ IsEver x fixed cells states j) → (value n ≡ true) ↔ IsEver x fixed cells states k → (j : ℕ) → j < k + 1 → (row_value value new j ≡ true) ↔ IsEver x fixed cells states j
nodes_more old value x fixed cells states row new n k is long kept before here j lt = elim (cases_lt j k) [
  | inl less ↦ (
      let same : row_value value new j ≡ row_value old row j = ap (λ (r : List Node). row_value value r j) is ∙ push_before value row n j (omega (arith, less, long)) ∙ kept j in
      let h = before j less in
      ((λ e. h.0 (sym same ∙ e)), (λ i. same ∙ h.1 i)))
  | inr ge ↦ (
      let at : j ≡ k = omega (arith, lt, ge) in
      let same : row_value value new j ≡ value n = ap (λ (r : List Node). row_value value r j) is ∙ push_last value row n j (at ∙ sym long) in
      subst (λ (i : ℕ). (row_value value new j ≡ true) ↔ IsEver x fixed cells states i) (sym at) ((λ e. here.0 (sym same ∙ e)), (λ i. same ∙ here.1 i)))
]
