-- The sets of relations at states and at places.
use Rattle.std.proofs.Common.{◌≡◌, ◌↔◌, ◌<◌, ◌+◌, ◌-◌, ◌%◌, ℕ, zero, suc, Bool, true, List, [], ◌∷◌, ◌++◌, All, length, replicate, Some, slice_get, refl, sym, ap, ◌∙◌, subst, arith, inl, inr}
use Rattle.std.proofs.lemmas.Bool.{cases_lt, cond_below, cond_above}
use Rattle.std.proofs.Math.Nat.{mod-lt}
use Rattle.std.proofs.lemmas.Option.{slice_get_within, get_or_from_slice_get}
use Rattle.gate_trait.specs.declared.node.Node.{Node}
use Rattle.gate_trait.specs.Built.{Keeps}
use Rattle.core_meaning.specs.Sequence.{LassoValue, place_of}
use Rattle.core_meaning.specs.World.{InRelation}
use Rattle.core_meaning.specs.Kept.{world_of}
use Rattle.gate_matrix.specs.Matrices.{MatrixEntries}
use Rattle.gate_matrix.proofs.FoundLemmas.{truth_kept}
use Rattle.gate_sets.specs.Belonging.{AllMatrices}
use Rattle.bound_uppers.specs.declared.places.Cells.{Cells}
use Rattle.bound_uppers.specs.declared.table.Bound.{Bound}
use Rattle.bmc_windows.specs.declared.frame.Stretch.{Stretch}
use Rattle.bmc_windows.specs.Frames.{state_shown}
use Rattle.bmc_windows.specs.Pairing.{IsMoved}
use Rattle.bmc_windows.proofs.PushLemmas.{push_kept, push_at}
use Rattle.bmc_leaves.specs.Table.{first_at, InState}
use Rattle.bmc_leaves.specs.Shown.{Reading, IsReading, HasPlace, AreOf, of_relation, Stay}
use Rattle.bmc_leaves.specs.Relations.{AddsState, AtStates, AtShown, HasOneColumn}
use Rattle.bmc_leaves.proofs.KeptLaws.{matrix_belongs}
use Rattle.bmc_leaves.proofs.PlaceLaws.{length_of, stretch_of, loop_below}

pub states_none : (value : (ℕ → Bool) → Node → Bool) (matrices : List MatrixEntries) (bound : Bound) (cells : Cells) → AtStates value matrices bound cells 0 []
states_none value matrices bound cells state lt = absurd (omega (arith, lt))

-- one state more
pub states_more : {S : Type 0} (belongs : S → Node → Type 0) (value : S → (ℕ → Bool) → Node → Bool) (g h : S) → Keeps belongs value g h → (before after : List MatrixEntries) (bound : Bound) (cells : Cells) (state : ℕ) (numbers new : List ℕ) (k : ℕ) → AllMatrices (belongs g) before → Stay before after → length numbers ≡ state → new ≡ numbers ++ k ∷ [] → AtStates (value g) before bound cells state numbers → AddsState (value h) after bound cells state k → AtStates (value h) after bound cells (state + 1) new
states_more belongs value g h keeps before after bound cells state numbers new k all stay long is old added =
    subst (λ (s : List ℕ). AtStates (value h) after bound cells (state + 1) s) (sym is) (λ j lt. elim (cases_lt j state) [
      | inl less ↦ (let (n, at, (m, there, means)) = old j less in
          (n, push_kept numbers k j n at, (m, stay n m there, λ x t. (let e = truth_kept belongs value g h keeps m (matrix_belongs (belongs g) before n m all there) x t in let u = means x t in ((λ q. u.0 (sym e ∙ q)), (λ q. e ∙ u.1 q))))))
      | inr ge ↦ (let same : j ≡ state = omega (arith, ge, lt) in
          (k, push_at numbers k j (same ∙ sym long), subst (λ (s : ℕ). AddsState (value h) after bound cells s k) (sym same) added))
    ])

-- a relation that is fixed has the variables of one state in all
fixed_same : (fixed : Bool) (cells : Cells) (state : ℕ) → fixed ≡ true → first_at fixed cells 0 ≡ first_at fixed cells state
fixed_same fixed cells state e = ap (λ (b : Bool). first_at b cells 0) e ∙ sym (ap (λ (b : Bool). first_at b cells state) e)

replicate_at : (n k i : ℕ) → i < n → slice_get (replicate n k) i ≡ Some k
replicate_at zero k i lt = absurd (omega arith)
replicate_at (suc n) k zero lt = refl
replicate_at (suc n) k (suc i) lt = replicate_at n k i (omega arith)

pub fixed_shown : (value : (ℕ → Bool) → Node → Bool) (matrices : List MatrixEntries) (bound : Bound) (cells : Cells) (states : ℕ) (shown numbers row : List ℕ) (k : ℕ) → ((n : ℕ) → slice_get numbers 0 ≡ Some n → k ≡ n) → AtStates value matrices bound cells 1 numbers → row ≡ replicate (length shown) k → bound.fixed ≡ true → AtShown value matrices bound cells states shown row
fixed_shown value matrices bound cells states shown numbers row k first at is fixed i state here lt =
    let (n, there, (m, stands, means)) = at 0 (omega arith) in
    let same = fixed_same bound.fixed cells state fixed in (
      n,
      ap (λ (s : List ℕ). slice_get s i) is ∙ replicate_at (length shown) k i (slice_get_within shown i state here) ∙ ap Some (first n there),
      (
        m,
        stands,
        λ x t. (let u = means x t in (
          (λ q. let (j, e, v) = u.0 q in (j, e, ap (λ (p : ℕ). x (p + j)) (sym same) ∙ v)),
          (λ (j, e, v). u.1 (j, e, ap (λ (p : ℕ). x (p + j)) same ∙ v)),
        )),
      ),
    )

pub moving_shown : (value : (ℕ → Bool) → Node → Bool) (matrices : List MatrixEntries) (bound : Bound) (cells : Cells) (states : ℕ) (shown numbers row : List ℕ) → AtStates value matrices bound cells states numbers → IsMoved numbers shown row → AtShown value matrices bound cells states shown row
moving_shown value matrices bound cells states shown numbers row at moved i state here lt =
    let (n, there, adds) = at state lt in
    (n, moved i state n here there, adds)

shown_is : (states loop k : ℕ) (lasso : LassoValue) → length lasso.states ≡ states → lasso.loop_start ≡ loop → state_shown states loop k ≡ place_of lasso k
shown_is states loop k lasso long at =
    ap (λ (n : ℕ). state_shown n loop k) (sym long) ∙ ap (λ (l : ℕ). state_shown (length lasso.states) l k) (sym at)

shown_within : (states loop k : ℕ) → loop < states → state_shown states loop k < states
shown_within states loop k some = elim (cases_lt k states) [
  | inl less ↦ subst (λ (n : ℕ). n < states) (cond_below k states k (loop + (k - loop) % (states - loop)) less) less
  | inr ge ↦ (let small : (k - loop) % (states - loop) < states - loop = mod-lt (k - loop) (omega (arith, some)) in
      let below : loop + (k - loop) % (states - loop) < states = omega (arith, small, some) in
      subst (λ (n : ℕ). n < states) (cond_above k states k (loop + (k - loop) % (states - loop)) _ ge refl) below)
]

state_below : (r : Reading) → IsReading r → (loop k : ℕ) (s : Stretch) → HasPlace r.frame loop s k → state_shown r.bounds.states loop k < r.bounds.states
state_below r ok loop k s place = shown_within r.bounds.states loop k (loop_below r ok loop k s place)

-- what stands at the places is the relation's
pub shown_right : (r : Reading) → IsReading r → (value : (ℕ → Bool) → Node → Bool) (matrices : List MatrixEntries) (number : ℕ) (bound : Bound) (cells : Cells) (row : List ℕ) → slice_get r.bounds.relations number ≡ Some bound → slice_get r.table.relations.items number ≡ Some cells → AtShown value matrices bound cells r.bounds.states r.frame.shown.items row → AreOf r value matrices (of_relation number) row
shown_right r ok value matrices number bound cells row at there shown = record {
  sets = λ loop k s place.
      let long = length_of r ok loop k s place in
      let lt = place.1 in
      let here = (stretch_of r ok loop k s place).shows k (omega (arith, lt, long)) in
      let (n, stands, (m, has, means)) = shown (s.start + k) (state_shown r.bounds.states loop k) here (state_below r ok loop k s place) in (
        m,
        (n, stands, has),
        λ x lasso shows loops t.
            let is = shown_is r.bounds.states loop k lasso shows.states loops in
            let law = shows.relations number (state_shown r.bounds.states loop k) bound cells at there (state_below r ok loop k s place) t in
            let u = means x t in
            let inside : InState lasso number (state_shown r.bounds.states loop k) t ↔ InRelation (world_of r.scopes lasso) number k t = (
              (λ (sets, set, a, b, c). (sets, set, ap (λ (p : ℕ). slice_get lasso.states p) (sym is) ∙ a, b, c)),
              (λ (sets, set, a, b, c). (sets, set, ap (λ (p : ℕ). slice_get lasso.states p) is ∙ a, b, c)),
            ) in
            ((λ q. inside.0 (law.1 (u.0 q))), (λ q. u.1 (law.0 (inside.1 q)))),
      );
}

-- a relation whose upper bound has one column has tuples of one number alone
pub one_column : (r : Reading) → IsReading r → (number : ℕ) (bound : Bound) (cells : Cells) → slice_get r.bounds.relations number ≡ Some bound → slice_get r.table.relations.items number ≡ Some cells → All (λ t. length t ≡ 1) bound.upper.tuples → HasOneColumn r number
one_column r ok number bound cells at there all loop k s place x lasso shows loops t (sets, set, a, b, c) =
    let is = shown_is r.bounds.states loop k lasso shows.states loops in
    let law = shows.relations number (state_shown r.bounds.states loop k) bound cells at there (state_below r ok loop k s place) t in
    let (j, e, v) = law.0 (sets, set, ap (λ (p : ℕ). slice_get lasso.states p) is ∙ a, b, c) in
    subst (λ (u : List ℕ). length u ≡ 1) (get_or_from_slice_get bound.upper.tuples j t t e) (all j t (slice_get_within bound.upper.tuples j t e))
