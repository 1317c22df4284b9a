-- The sets of `univ`, `iden` and `Int`.
use Rattle.std.proofs.Common.{◌≡◌, ◌↔◌, ◌⊎◌, ◌<◌, ◌≤◌, ◌+◌, ◌^◌, ℕ, Bool, true, false, List, [], ◌∷◌, ◌++◌, map, length, replicate, Some, slice_get, refl, sym, ap, ◌∙◌, subst, arith, inl, inr}
use Rattle.std.proofs.lemmas.Bool.{cases_lt}
use Rattle.std.proofs.lemmas.List.{length-map}
use Rattle.std.proofs.lemmas.Option.{slice_get_within}
use Rattle.gate_trait.specs.declared.node.Node.{Node}
use Rattle.gate_trait.specs.Built.{Keeps}
use Rattle.core_tree.specs.declared.operators.RelationOp.TheVariants.{Union}
use Rattle.core_meaning.specs.declared.scopes.Scopes.{Scopes}
use Rattle.core_meaning.specs.declared.scopes.SigScope.{SigScope}
use Rattle.core_meaning.specs.Sequence.{LassoValue}
use Rattle.core_meaning.specs.World.{World, InRelation, IsTop, InUniverse}
use Rattle.core_meaning.specs.Kept.{atom_count, world_of}
use Rattle.gate_matrix.specs.Matrices.{MatrixEntries}
use Rattle.gate_operators.specs.Sets.{MeansSet}
use Rattle.gate_sets.specs.Belonging.{AllMatrices}
use Rattle.gate_sets.specs.Sets.{from_to}
use Rattle.gate_sets.specs.declared.operators.SetOperator.TheVariants.{Combine, Identity}
use Rattle.bmc_stack.specs.Sets.{AreMade}
use Rattle.bmc_leaves.specs.Shown.{Reading, IsReading, HaveTuples, AreOf, of_relation, of_univ, of_iden, of_int, leaf_tuples, Stay}
use Rattle.bmc_leaves.specs.Relations.{HasOneColumn, InUniverseBelow, univ_below}
use Rattle.bmc_leaves.proofs.RightLaws.{everywhere}
use Rattle.bmc_leaves.proofs.KeptLaws.{tuples_kept}
use Rattle.bmc_leaves.proofs.MarkLaws.{first_of, single}

ints_same : (scopes : Scopes) (lasso : LassoValue) (first end : ℕ) → first ≡ atom_count scopes.numbers → end ≡ atom_count scopes.numbers + 2 ^ scopes.bits → (k : ℕ) (t : List ℕ) → from_to first end t ↔ leaf_tuples (world_of scopes lasso) of_int k t
ints_same scopes lasso first end a b k t = (
  (λ (x, low, high, is). (x, (subst (λ (n : ℕ). n ≤ x) a low, subst (λ (n : ℕ). x < n) b high), is)),
  (λ (x, within, is). (x, subst (λ (n : ℕ). n ≤ x) (sym a) within.0, subst (λ (n : ℕ). x < n) (sym b) within.1, is)),
)

pub ints_right : (r : Reading) → IsReading r → (value : (ℕ → Bool) → Node → Bool) (before after : List MatrixEntries) (m : MatrixEntries) (row : List ℕ) (first end : ℕ) → first ≡ atom_count r.scopes.numbers → end ≡ atom_count r.scopes.numbers + 2 ^ r.scopes.bits → after ≡ before ++ m ∷ [] → row ≡ replicate (length r.frame.shown.items) (length before) → ((v : ℕ → Bool) → MeansSet (value v) m (from_to first end)) → AreOf r value after of_int row
ints_right r ok value before after m row first end a b is long means = record {
  sets = everywhere r ok value before after m row (from_to first end) (λ lasso k. leaf_tuples (world_of r.scopes lasso) of_int k) is long means (λ lasso k t. ints_same r.scopes lasso first end a b k t);
}

-- ---- `univ` up to a sig

below_more : (w : World) (n k a : ℕ) → InUniverseBelow w n k a → InUniverseBelow w (n + 1) k a
below_more w n k a here = elim here [
  | inl sig ↦ inl (sig.0, (let lt = sig.1 in omega (arith, lt)), sig.2, sig.3)
  | inr int ↦ inr int
]

-- the sig of this number comes last
last_below : (w : World) (n k a : ℕ) → InUniverseBelow w (n + 1) k a → InUniverseBelow w n k a ⊎ (IsTop w n × InRelation w n k (a ∷ []))
last_below w n k a here = elim here [
  | inl sig ↦ elim (cases_lt sig.0 n) [
    | inl less ↦ inl (inl (sig.0, less, sig.2, sig.3))
    | inr ge ↦ (let same : sig.0 ≡ n = (let lt = sig.1 in omega (arith, lt, ge)) in inr (subst (λ (s : ℕ). IsTop w s) same sig.2, subst (λ (s : ℕ). InRelation w s k (a ∷ [])) same sig.3))
  ]
  | inr int ↦ inl (inr int)
]

joined : (w : World) (n k : ℕ) (t : List ℕ) → IsTop w n → (InRelation w n k t → length t ≡ 1) → (univ_below w n k t ⊎ InRelation w n k t) ↔ univ_below w (n + 1) k t
joined w n k t top one = (
  (λ e. elim e [
    | inl old ↦ (old.0, below_more w n k old.0 old.1, old.2)
    | inr here ↦ (let is = single t (one here) in (first_of t, inl (n, (let l : n < n + 1 = omega arith in l), top, subst (λ (u : List ℕ). InRelation w n k u) is here), is))
  ]),
  (λ new. elim (last_below w n k new.0 new.1) [
    | inl old ↦ inl (new.0, old, new.2)
    | inr here ↦ inr (subst (λ (u : List ℕ). InRelation w n k u) (sym new.2) here.1)
  ]),
)

-- a sig that isn't top-level leaves it as it is
passed : (w : World) (n k : ℕ) (t : List ℕ) → slice_get w.top n ≡ Some false → univ_below w n k t ↔ univ_below w (n + 1) k t
passed w n k t other = (
  (λ old. (old.0, below_more w n k old.0 old.1, old.2)),
  (λ new. elim (last_below w n k new.0 new.1) [
    | inl old ↦ (new.0, old, new.2)
    | inr here ↦ (let clash : Some false ≡ Some true = sym other ∙ here.0 in absurd cc)
  ]),
)

none_below : (w : World) (k : ℕ) (t : List ℕ) → leaf_tuples w of_int k t ↔ univ_below w 0 k t
none_below w k t = (
  (λ int. (int.0, inr int.1, int.2)),
  (λ below. elim below.1 [
    | inl sig ↦ absurd (let lt = sig.1 in omega (arith, lt))
    | inr int ↦ (below.0, int, below.2)
  ]),
)

all_below : (w : World) (n k : ℕ) (t : List ℕ) → n ≡ length w.top → univ_below w n k t ↔ leaf_tuples w of_univ k t
all_below w n k t long = (
  (λ below. (
    below.0,
    (elim below.1 [
      | inl sig ↦ inl (sig.0, sig.2, sig.3)
      | inr int ↦ inr int
    ]),
    below.2,
  )),
  (λ all. (
    all.0,
    (elim all.1 [
      | inl sig ↦ inl (sig.0, (let lt = slice_get_within w.top sig.0 true sig.1 in omega (arith, lt, long)), sig.1, sig.2)
      | inr int ↦ inr int
    ]),
    all.2,
  )),
)

-- sets that have the same tuples
same_sets : (r : Reading) (value : (ℕ → Bool) → Node → Bool) (matrices : List MatrixEntries) (row : List ℕ) (A B : LassoValue → ℕ → List ℕ → Type 0) → ((lasso : LassoValue) (k : ℕ) (t : List ℕ) → A lasso k t ↔ B lasso k t) → HaveTuples r value matrices A row → HaveTuples r value matrices B row
same_sets r value matrices row A B same have = λ loop k s place.
    let (m, stands, means) = have loop k s place in
    (m, stands, λ x lasso shows loops t. (let u = means x lasso shows loops t in let v = same lasso k t in ((λ p. v.0 (u.0 p)), (λ q. u.1 (v.1 q)))))

abbrev below : Reading → ℕ → LassoValue → ℕ → List ℕ → Type 0
below r n lasso k = univ_below (world_of r.scopes lasso) n k

pub begin_univ : (r : Reading) (value : (ℕ → Bool) → Node → Bool) (matrices : List MatrixEntries) (row : List ℕ) → AreOf r value matrices of_int row → HaveTuples r value matrices (λ lasso k. univ_below (world_of r.scopes lasso) 0 k) row
begin_univ r value matrices row of = same_sets r value matrices row (λ lasso k. leaf_tuples (world_of r.scopes lasso) of_int k) (below r 0) (λ lasso k t. none_below (world_of r.scopes lasso) k t) of.sets

pub pass_sig : (r : Reading) (value : (ℕ → Bool) → Node → Bool) (matrices : List MatrixEntries) (row : List ℕ) (n : ℕ) → slice_get (map (λ (s : SigScope). s.top) r.scopes.numbers) n ≡ Some false → HaveTuples r value matrices (λ lasso k. univ_below (world_of r.scopes lasso) n k) row → HaveTuples r value matrices (λ lasso k. univ_below (world_of r.scopes lasso) (n + 1) k) row
pass_sig r value matrices row n other have = same_sets r value matrices row (below r n) (below r (n + 1)) (λ lasso k t. passed (world_of r.scopes lasso) n k t other) have

pub end_univ : (r : Reading) (value : (ℕ → Bool) → Node → Bool) (matrices : List MatrixEntries) (row : List ℕ) (n : ℕ) → n ≡ length r.scopes.numbers → HaveTuples r value matrices (λ lasso k. univ_below (world_of r.scopes lasso) n k) row → AreOf r value matrices of_univ row
end_univ r value matrices row n long have = record {
  sets = same_sets r value matrices row (below r n) (λ lasso k. leaf_tuples (world_of r.scopes lasso) of_univ k) (λ lasso k t. all_below (world_of r.scopes lasso) n k t (long ∙ sym (length-map r.scopes.numbers (λ (s : SigScope). s.top)))) have;
}

-- the tuples of a sig are put to those before
pub join_sig : {S : Type 0} (belongs : S → Node → Type 0) (value : S → (ℕ → Bool) → Node → Bool) (r : Reading) (g mid h : S) → Keeps belongs value g mid → (before between after : List MatrixEntries) (n : ℕ) (all more row : List ℕ) → AllMatrices (belongs g) before → Stay before between
    → slice_get (map (λ (s : SigScope). s.top) r.scopes.numbers) n ≡ Some true → HasOneColumn r n → AreOf r (value mid) between (of_relation n) more → AreMade (Combine Union) (value mid) (value h) between after all more row
    → HaveTuples r (value g) before (λ lasso k. univ_below (world_of r.scopes lasso) n k) all → HaveTuples r (value h) after (λ lasso k. univ_below (world_of r.scopes lasso) (n + 1) k) row
join_sig belongs value r g mid h keeps before between after n all more row stored stay top column of made have = λ loop k s place.
    let (p, at_p, means_p) = tuples_kept belongs value r g mid keeps before between (below r n) all stored stay have loop k s place in
    let (q, at_q, means_q) = of.sets loop k s place in
    let (m, there, means) = made (s.start + k) p q at_p at_q in (
      m,
      there,
      λ x lasso shows loops t. (
          let u = means x t in
          let a = means_p x lasso shows loops t in
          let b = means_q x lasso shows loops t in
          let both = joined (world_of r.scopes lasso) n k t top (column loop k s place x lasso shows loops t) in (
            (λ e. both.0 (elim (u.0 e) [
              | inl old ↦ inl (a.0 old)
              | inr new ↦ inr (b.0 new)
            ])),
            (λ e. u.1 (elim (both.1 e) [
              | inl old ↦ inl (a.1 old)
              | inr new ↦ inr (b.1 new)
            ])),
          )),
    )

-- the pairs of everything with itself
pub pairs_right : (r : Reading) (old new : (ℕ → Bool) → Node → Bool) (before after : List MatrixEntries) (all row : List ℕ) → AreOf r old before of_univ all → AreMade Identity old new before after all all row → AreOf r new after of_iden row
pairs_right r old new before after all row of made = record {
  sets = λ loop k s place.
      let (p, at_p, means_p) = of.sets loop k s place in
      let (m, there, means) = made (s.start + k) p p at_p at_p in (
        m,
        there,
        λ x lasso shows loops t. (
            let u = means x t in (
              (λ e. let (a, here, is) = u.0 e in let one = (means_p x lasso shows loops (a ∷ [])).0 here in (a, subst (λ (b : ℕ). InUniverse (world_of r.scopes lasso) k b) (sym (ap first_of one.2)) one.1, is)),
              (λ (a, here, is). u.1 (a, (means_p x lasso shows loops (a ∷ [])).1 (a, here, refl), is)),
            )),
      );
}
