-- What sets that are read or put together have.
use Rattle.std.proofs.Common.{◌≡◌, ◌≢◌, ◌⊎◌, ◌↔◌, ℕ, List, [], ◌∷◌, refl, sym, subst, ◌∙◌, inl, inr, Result, IfOk, Bool, IsTrue}
use Rattle.core_tree.specs.declared.model.Column.{Column}
use Rattle.core_tree.specs.declared.operators.RelationOp.TheVariants.{Union, Intersection, LeftRestrict}
use Rattle.core_tree.specs.declared.operators.Multiplicity.{Multiplicity}
use Rattle.core_meaning.specs.Operators.{Tuples, combined_tuples, IsInside, HasSome, HasMultiplicity}
use Rattle.core_window.proofs.SameLemmas.{same_trans, inside_same, multiplicity_same}
use Rattle.core_tuples.specs.Sets.{TupleList, In}
use Rattle.eval_sets.specs.SetOf.{IsSetOf}
use Rattle.eval_context.specs.Settings.{SettingValue}
use Rattle.eval_steps.specs.Judged.{IsFound, set_in}
use Rattle.eval_steps.specs.declared.held.Held.{Held}
use Rattle.eval_tree.proofs.FoundLemmas.{if_ok_to, set_to}
use Rattle.eval_tree.proofs.ListLemmas.{contains_first, contains_later, contains_cases, contains_none}
use Rattle.eval_trace.specs.Asked.{InParent, InParents}
use Rattle.core_window.specs.Repeats.{SameTuples}

pub same_self : (A : Tuples) → SameTuples A A
same_self A t = ((λ x. x), (λ x. x))

-- one set inside another, by what they were found to have
pub inside_found : (x y : Held) (A B : Tuples) → IsFound x A → IsFound y B → (b : Bool) → IsTrue b ↔ IsInside (λ t. In t (set_in x)) (λ t. In t (set_in y)) → IsTrue b ↔ IsInside A B
inside_found x y A B hx hy b k = same_trans k (inside_same (λ t. In t (set_in x)) A (λ t. In t (set_in y)) B hx.just hy.just)

pub many_found : (x : Held) (A : Tuples) → IsFound x A → (set : TupleList) → set ≡ set_in x → (m : Multiplicity) (b : Bool) → IsTrue b ↔ HasMultiplicity m (λ t. In t set) → IsTrue b ↔ HasMultiplicity m A
many_found x A hx set es m b k = same_trans k (multiplicity_same m (λ t. In t set) A (subst (λ (z : TupleList). SameTuples (λ t. In t z) A) (sym es) hx.just))

-- what two sets share
pub shared : (common : Held) (A B : Tuples) → IsFound common (combined_tuples Intersection A B) → (b : Bool) → IsTrue b ↔ HasSome (λ t. In t (set_in common)) → IsTrue b ↔ ((t : List ℕ) × A t × B t)
shared common A B h b k = same_trans k ((λ (t, in'). let (p, q) = (h.just t).0 in' in (t, p, q)), (λ (t, p, q). (t, (h.just t).1 (p, q))))

-- the members of parents
module _ (s : SettingValue) (i : ℕ) where
  pub parents_none : (cs : List Column) → cs ≡ [] → (h : Held) → IsFound h (λ _. ⊥) → IsFound h (InParents s i cs)
  parents_none cs e h f = subst (λ (z : List Column). IsFound h (InParents s i z)) (sym e) (set_to (set_in h) (λ _. ⊥) (InParents s i []) (λ t. ((λ x. absurd x), (λ (c, k, m). absurd (contains_none c k)))) f)

  pub parents_more : (cs : List Column) (c : Column) (rest : List Column) → cs ≡ c ∷ rest → (x y : Held) → IsFound x (InParent s i c) → IsFound y (InParents s i rest) → (E : Type 0) (r : Result Held E) → IfOk r (λ h. IsFound h (combined_tuples Union (λ t. In t (set_in x)) (λ t. In t (set_in y)))) → IfOk r (λ h. IsFound h (InParents s i cs))
  parents_more cs c rest e x y hx hy E r k = subst (λ (z : List Column). IfOk r (λ h. IsFound h (InParents s i z))) (sym e)
      (if_ok_to _ (λ h. IsFound h (InParents s i (c ∷ rest))) (λ h f. set_to (set_in h) _ (InParents s i (c ∷ rest)) (λ t. (
        (elim [ inl p ↦ (c, contains_first c rest, (hx.just t).0 p) | inr p ↦ let (d, k, m) = (hy.just t).0 p in (d, contains_later c rest d k, m) ]),
        (λ (d, k, m). elim (contains_cases c rest d k) [
          | inl same ↦ inl ((hx.just t).1 (subst (λ (z : Column). InParent s i z t) (sym same) m))
          | inr later ↦ inr ((hy.just t).1 (d, later, m))
        ]),
      )) f) r k)

-- the tuples of a set that begin with a member of another
pub begun_found : (A B : Tuples) (atoms set begun : Held) → IsFound atoms A → IsFound set B → (b : Bool) → IsFound begun (combined_tuples LeftRestrict (λ t. In t (set_in atoms)) (λ t. In t (set_in set))) → IsTrue b ↔ IsInside (λ t. In t (set_in set)) (λ t. In t (set_in begun)) → IsTrue b ↔ IsInside B (λ t. (a : ℕ) × (u : List ℕ) × (t ≡ a ∷ u) × A (a ∷ []))
begun_found A B atoms set begun ha hs b hb k = same_trans k (
  (λ f t y. let (x, r, e, m) = ((hb.just t).0 (f t ((hs.just t).1 y))).1 in (x, r, e, (ha.just (x ∷ [])).0 m)),
  (λ f t y. let (a, u, e, m) = f t ((hs.just t).0 y) in (hb.just t).1 (y, (a, u, e, (ha.just (a ∷ [])).1 m))),
)

-- members of a family that share nothing, and what they have together
pub record AreGathered (V : ℕ → Tuples) (Done : ℕ → Type 0) (all : TupleList) : Type 0 where
  pub together : (t : List ℕ) → In t all ↔ ((b : ℕ) × Done b × V b t)
  pub apart : (b c : ℕ) → Done b → Done c → b ≢ c → (t : List ℕ) → V b t → V c t → ⊥

module _ (V : ℕ → Tuples) where
  pub gathered_none : (Done : ℕ → Type 0) (all : TupleList) → ((b : ℕ) → ¬ Done b) → IsSetOf all (λ _. ⊥) → AreGathered V Done all
  gathered_none Done all none h = record {
    together = λ t. ((λ x. absurd ((h.just t).0 x)), (λ (b, d, v). absurd (none b d)));
    apart = λ b c p q n t v u. none b p;
  }

  pub gathered_same : (Done New : ℕ → Type 0) (all : TupleList) → ((b : ℕ) → Done b ↔ New b) → AreGathered V Done all → AreGathered V New all
  gathered_same Done New all same h = record {
    together = λ t. ((λ x. let (b, d, v) = (h.together t).0 x in (b, (same b).0 d, v)), (λ (b, d, v). (h.together t).1 (b, (same b).1 d, v)));
    apart = λ b c p q n t v u. h.apart b c ((same b).1 p) ((same c).1 q) n t v u;
  }

  pub gathered_more : (Done New : ℕ → Type 0) (all one new : TupleList) (x : ℕ) → ((b : ℕ) → New b ↔ (Done b ⊎ (b ≡ x))) → AreGathered V Done all → IsSetOf one (V x) → ¬ ((t : List ℕ) × In t all × In t one) → IsSetOf new (combined_tuples Union (λ t. In t all) (λ t. In t one)) → AreGathered V New new
  gathered_more Done New all one new x more h v none u = record {
    together = λ t. (
      (λ m. elim ((u.just t).0 m) [
        | inl old ↦ let (b, d, w) = (h.together t).0 old in (b, (more b).1 (inl d), w)
        | inr here ↦ (x, (more x).1 (inr refl), (v.just t).0 here)
      ]),
      (λ (b, d, w). (u.just t).1 (elim ((more b).0 d) [
        | inl old ↦ inl ((h.together t).1 (b, old, w))
        | inr e ↦ inr ((v.just t).1 (subst (λ (z : ℕ). V z t) e w))
      ])),
    );
    apart = λ b c p q n t w z. elim ((more b).0 p) [
      | inl old ↦ elim ((more c).0 q) [
        | inl before ↦ h.apart b c old before n t w z
        | inr e ↦ none (t, (h.together t).1 (b, old, w), (v.just t).1 (subst (λ (y : ℕ). V y t) e z))
      ]
      | inr e ↦ elim ((more c).0 q) [
        | inl before ↦ none (t, (h.together t).1 (c, before, z), (v.just t).1 (subst (λ (y : ℕ). V y t) e w))
        | inr f ↦ n (e ∙ sym f)
      ]
    ];
  }

  -- two that share something
  pub gathered_fails : (Done Full : ℕ → Type 0) (all one : TupleList) (x : ℕ) → ((b : ℕ) → Done b → Full b) → Full x → ¬ Done x → AreGathered V Done all → IsSetOf one (V x) → (t : List ℕ) × In t all × In t one → ¬ ((b c : ℕ) → Full b → Full c → b ≢ c → (t : List ℕ) → V b t → V c t → ⊥)
  gathered_fails Done Full all one x done here fresh h v (t, old, new) f =
      let (b, d, w) = (h.together t).0 old in
      f b x (done b d) here (λ e. fresh (subst Done e d)) t w ((v.just t).0 new)
