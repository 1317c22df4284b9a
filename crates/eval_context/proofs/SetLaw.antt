-- The sets that are there without evaluation.
use Rattle.std.proofs.Common.{◌≡◌, ◌≢◌, ◌⊎◌, ℕ, zero, suc, ◌+◌, ◌^◌, ◌<◌, ◌≤◌, Bool, true, false, List, [], ◌∷◌, map, length, get_or, Contains, Some, slice_get, inl, inr, refl, sym, ap, ◌∙◌, subst, arith}
use Rattle.std.proofs.lemmas.Bool.{cases_lt, false≢true}
use Rattle.std.proofs.lemmas.List.Elements.{All-contains}
use Rattle.std.proofs.lemmas.Option.{slice_get_within}
use Rattle.core_tree.specs.declared.operators.RelationOp.TheVariants.{Union}
use Rattle.core_meaning.specs.declared.scopes.SigScope.{SigScope}
use Rattle.core_meaning.specs.Sequence.{place_of}
use Rattle.core_meaning.specs.World.{World, InRelation, IsTop, IsInteger, InUniverse}
use Rattle.core_meaning.specs.Operators.{combined_tuples, identity_tuples}
use Rattle.core_tuples.specs.Sets.{TupleList, In, IsTupleSet}
use Rattle.eval_sets.specs.SetOf.{IsSetOf}
use Rattle.eval_context.specs.Settings.{IsOfTop}

pub relation_is : (w : World) (n i : ℕ) (state : List TupleList) (set : TupleList) → slice_get w.lasso.states (place_of w.lasso i) ≡ Some state → slice_get state n ≡ Some set → IsSetOf set (InRelation w n i)
relation_is w n i state set e f = record { just = λ t. ((λ h. (state, set, e, f, h)), (λ (st, s, e', f', h). back t st s e' f' h)) }
  where
    back : (t : List ℕ) (st : List TupleList) (s : TupleList) → slice_get w.lasso.states (place_of w.lasso i) ≡ Some st → slice_get st n ≡ Some s → Contains s.tuples t → In t set
    back t st s e' f' h =
        let same : st ≡ state = cc in
        let again : slice_get state n ≡ Some s = subst (λ (v : List TupleList). slice_get v n ≡ Some s) same f' in
        let is : s ≡ set = cc in
        subst (λ (v : TupleList). In t v) is h

pub relation_none : (w : World) (n i : ℕ) (state : List TupleList) → slice_get w.lasso.states (place_of w.lasso i) ≡ Some state → length state ≤ n → (t : List ℕ) → ¬ InRelation w n i t
relation_none w n i state e past t (st, s, e', f', h) =
    let same : st ≡ state = cc in
    let again : slice_get state n ≡ Some s = subst (λ (v : List TupleList). slice_get v n ≡ Some s) same f' in
    let in' : n < length state = slice_get_within state n s again in
    omega arith

pub copied_is : (s set : TupleList) (P : List ℕ → Type 0) → s ≡ set → IsSetOf set P → IsSetOf s P
copied_is s set P e has = subst (λ (v : TupleList). IsSetOf v P) (sym e) has

pub nothing_is : (s : TupleList) (P : List ℕ → Type 0) → IsSetOf s (λ _. ⊥) → ((t : List ℕ) → ¬ P t) → IsSetOf s P
nothing_is s P none never = record { just = λ t. ((λ h. absurd ((none.just t).0 h)), (λ p. absurd (never t p))) }

pub as_before : (all : TupleList) (P : List ℕ → Type 0) → ((t : List ℕ) → ¬ P t) → IsSetOf all (λ t. In t all ⊎ P t)
as_before all P none = record { just = λ t. ((λ h. inl h), (elim [ inl h ↦ h | inr p ↦ absurd (none t p) ])) }

top_is : (numbers : List SigScope) (s : ℕ) (scope : SigScope) → slice_get numbers s ≡ Some scope → slice_get (map (λ (d : SigScope). d.top) numbers) s ≡ Some scope.top
top_is [] s scope e = absurd (cc)
top_is (d ∷ ds) zero scope e = let same : d ≡ scope = cc in ap (λ (v : SigScope). Some v.top) same
top_is (d ∷ ds) (suc s) scope e = top_is ds s scope e

pub not_top : (numbers : List SigScope) (s : ℕ) (scope : SigScope) → slice_get numbers s ≡ Some scope → scope.top ≡ false → ¬ (slice_get (map (λ (d : SigScope). d.top) numbers) s ≡ Some true)
not_top numbers s scope e off on =
    let is = top_is numbers s scope e in
    let clash : scope.top ≡ true = cc in
    false≢true (sym off ∙ clash)

pub is_top : (numbers : List SigScope) (s : ℕ) (scope : SigScope) → slice_get numbers s ≡ Some scope → scope.top ≡ true → slice_get (map (λ (d : SigScope). d.top) numbers) s ≡ Some true
is_top numbers s scope e on = top_is numbers s scope e ∙ ap Some on

columns_of : (set : TupleList) (t : List ℕ) → IsTupleSet set → In t set → length t ≡ set.arity
columns_of set t is h = All-contains (λ u. length u ≡ set.arity) set.tuples t is.columns h

single_of : (t : List ℕ) → length t ≡ 1 → t ≡ get_or t 0 0 ∷ []
single_of [] e = absurd (omega arith)
single_of (x ∷ []) e = refl
single_of (x ∷ y ∷ t) e = absurd (omega arith)

module _ (w : World) (i : ℕ) where
  pub no_member : (s : ℕ) (set : TupleList) → IsTupleSet set → set.arity ≢ 1 → IsSetOf set (InRelation w s i) → (t : List ℕ) → ¬ IsOfTop w i s t
  no_member s set is other has t (a, top, r, e) = other (sym (columns_of set (a ∷ []) is ((has.just (a ∷ [])).1 r)))

  pub other_as_before : (s : ℕ) (set all : TupleList) → IsTupleSet set → set.arity ≢ 1 → IsSetOf set (InRelation w s i) → IsSetOf all (λ t. In t all ⊎ IsOfTop w i s t)
  other_as_before s set all is other has = as_before all (IsOfTop w i s) (no_member s set is other has)

  pub not_as_before : (s : ℕ) (all : TupleList) → ((t : List ℕ) → ¬ InRelation w s i t) → IsSetOf all (λ t. In t all ⊎ IsOfTop w i s t)
  not_as_before s all none = as_before all (IsOfTop w i s) (λ t (a, top, r, e). none (a ∷ []) r)

  pub no_top_as_before : (numbers : List SigScope) (s : ℕ) (scope : SigScope) (all : TupleList) → w.top ≡ map (λ (d : SigScope). d.top) numbers → slice_get numbers s ≡ Some scope → scope.top ≡ false → IsSetOf all (λ t. In t all ⊎ IsOfTop w i s t)
  no_top_as_before numbers s scope all tops e off = as_before all (IsOfTop w i s) (λ t (a, top, r, f). not_top numbers s scope e off (subst (λ (v : List Bool). slice_get v s ≡ Some true) tops top))

  pub with_members : (s : ℕ) (set all new : TupleList) → IsTop w s → IsTupleSet set → set.arity ≡ 1 → IsSetOf set (InRelation w s i) → IsSetOf new (combined_tuples Union (λ t. In t all) (λ t. In t set)) → IsSetOf new (λ t. In t all ⊎ IsOfTop w i s t)
  with_members s set all new top is one has made = record {
    just = λ t. (
      (λ h. elim ((made.just t).0 h) [
        | inl old ↦ inl old
        | inr m ↦
            let e : t ≡ get_or t 0 0 ∷ [] = single_of t (columns_of set t is m ∙ one) in
            inr (get_or t 0 0, top, (has.just (get_or t 0 0 ∷ [])).0 (subst (λ (v : List ℕ). In v set) e m), e)
      ]),
      (λ h. (made.just t).1 (elim h [
        | inl old ↦ inl old
        | inr (a, k, r, e) ↦ inr (subst (λ (v : List ℕ). In v set) (sym e) ((has.just (a ∷ [])).1 r))
      ])),
    );
  }

  -- the integers, and the members of the first top-level sigs
  abbrev pub Reaches : ℕ → List ℕ → Type 0
  Reaches n t = ((a : ℕ) × IsInteger w a × (t ≡ a ∷ [])) ⊎ ((s : ℕ) × (s < n) × IsOfTop w i s t)

  pub reaches_none : (all : TupleList) → IsSetOf all (λ t. (a : ℕ) × IsInteger w a × (t ≡ a ∷ [])) → IsSetOf all (Reaches 0)
  reaches_none all has = record { just = λ t. ((λ h. inl ((has.just t).0 h)), (elim [ inl k ↦ (has.just t).1 k | inr (s, lt, r) ↦ absurd (omega arith) ])) }

  pub reaches_more : (n : ℕ) (old new : TupleList) → IsSetOf old (Reaches n) → IsSetOf new (λ t. In t old ⊎ IsOfTop w i n t) → IsSetOf new (Reaches (n + 1))
  reaches_more n old new has made = record { just = λ t. ((λ h. to t ((made.just t).0 h)), (λ r. (made.just t).1 (from t r))) }
    where
      to : (t : List ℕ) → (In t old ⊎ IsOfTop w i n t) → Reaches (n + 1) t
      to t (inl h) = elim ((has.just t).0 h) [ inl k ↦ inl k | inr (s, lt, r) ↦ inr (s, (let more : s < n + 1 = omega arith in more), r) ]
      to t (inr r) = inr (n, (let more : n < n + 1 = omega arith in more), r)

      from : (t : List ℕ) → Reaches (n + 1) t → In t old ⊎ IsOfTop w i n t
      from t (inl k) = inl ((has.just t).1 (inl k))
      from t (inr (s, lt, r)) = elim (cases_lt s n) [
        | inl below ↦ inl ((has.just t).1 (inr (s, below, r)))
        | inr at ↦ let e : s ≡ n = omega arith in inr (subst (λ (k : ℕ). IsOfTop w i k t) e r)
      ]

  pub reaches_all : (n : ℕ) (all : TupleList) → length w.top ≤ n → IsSetOf all (Reaches n) → IsSetOf all (λ t. (a : ℕ) × InUniverse w i a × (t ≡ a ∷ []))
  reaches_all n all over has = record { just = λ t. ((λ h. to t ((has.just t).0 h)), (λ u. (has.just t).1 (from t u))) }
    where
      to : (t : List ℕ) → Reaches n t → (a : ℕ) × InUniverse w i a × (t ≡ a ∷ [])
      to t (inl (a, k, e)) = (a, inr k, e)
      to t (inr (s, lt, r)) = (r.0, inl (s, r.1, r.2), r.3)

      from : (t : List ℕ) → ((a : ℕ) × InUniverse w i a × (t ≡ a ∷ [])) → Reaches n t
      from t (a, inl (s, top, r), e) = let lt : s < n = omega (arith, slice_get_within w.top s true top) in inr (s, lt, (a, top, r, e))
      from t (a, inr k, e) = inl (a, k, e)

  pub iden_is : (s all : TupleList) → IsSetOf all (λ t. (a : ℕ) × InUniverse w i a × (t ≡ a ∷ [])) → IsSetOf s (λ t. (x : ℕ) × In (x ∷ []) all × (t ≡ x ∷ x ∷ [])) → IsSetOf s (identity_tuples w i)
  iden_is s all has made = record { just = λ t. ((λ h. to t ((made.just t).0 h)), (λ (a, u, e). (made.just t).1 (a, (has.just (a ∷ [])).1 (a, u, refl), e))) }
    where
      to : (t : List ℕ) → ((x : ℕ) × In (x ∷ []) all × (t ≡ x ∷ x ∷ [])) → identity_tuples w i t
      to t (x, h, e) =
          let (a, u, f) = (has.just (x ∷ [])).0 h in
          let same : a ≡ x = cc in
          (x, subst (λ (k : ℕ). InUniverse w i k) same u, e)

pub either_is : (s a b : TupleList) (P Q : List ℕ → Type 0) → IsSetOf a P → IsSetOf b Q → IsSetOf s (combined_tuples Union (λ t. In t a) (λ t. In t b)) → IsSetOf s (λ t. P t ⊎ Q t)
either_is s a b P Q p q made = record {
  just = λ t. (
    (λ h. elim ((made.just t).0 h) [ inl k ↦ inl ((p.just t).0 k) | inr k ↦ inr ((q.just t).0 k) ]),
    (λ h. (made.just t).1 (elim h [ inl k ↦ inl ((p.just t).1 k) | inr k ↦ inr ((q.just t).1 k) ])),
  );
}

-- the first integers
abbrev pub Counts : World → ℕ → List ℕ → Type 0
Counts w n t = (a : ℕ) × (w.atoms ≤ a) × (a < w.atoms + n) × (t ≡ a ∷ [])

pub counts_none : (w : World) (all : TupleList) → all ≡ record { arity = 1; tuples = [] } → IsSetOf all (Counts w 0)
counts_none w all e = record { just = λ t. ((λ h. absurd (nothing t (subst (λ (v : TupleList). In t v) e h))), (λ (a, low, high, f). absurd (omega arith))) }
  where
    nothing : (t : List ℕ) → ¬ Contains [] t
    nothing t (k, lt, f) = omega arith

pub counts_more : (w : World) (n : ℕ) (old new : TupleList) (row : List ℕ) → IsSetOf old (Counts w n) → row ≡ (w.atoms + n) ∷ [] → IsSetOf new (λ t. In t old ⊎ (t ≡ row)) → IsSetOf new (Counts w (n + 1))
counts_more w n old new row has is made = record { just = λ t. ((λ h. to t ((made.just t).0 h)), (λ c. (made.just t).1 (from t c))) }
  where
    to : (t : List ℕ) → (In t old ⊎ (t ≡ row)) → Counts w (n + 1) t
    to t (inl h) = let (a, low, high, e) = (has.just t).0 h in (a, low, (let more : a < w.atoms + (n + 1) = omega arith in more), e)
    to t (inr e) = (w.atoms + n, (let low : w.atoms ≤ w.atoms + n = omega arith in low), (let high : w.atoms + n < w.atoms + (n + 1) = omega arith in high), e ∙ is)

    from : (t : List ℕ) → Counts w (n + 1) t → In t old ⊎ (t ≡ row)
    from t (a, low, high, e) = elim (cases_lt a (w.atoms + n)) [
      | inl below ↦ inl ((has.just t).1 (a, low, below, e))
      | inr at ↦ let same : a ≡ w.atoms + n = omega arith in inr (e ∙ ap (λ (k : ℕ). k ∷ []) same ∙ sym is)
    ]

pub counts_all : (w : World) (n : ℕ) (all : TupleList) → n ≡ 2 ^ w.bits → IsSetOf all (Counts w n) → IsSetOf all (λ t. (a : ℕ) × IsInteger w a × (t ≡ a ∷ []))
counts_all w n all same has = record {
  just = λ t. (
    (λ h. let (a, low, high, e) = (has.just t).0 h in (a, (low, subst (λ (k : ℕ). a < w.atoms + k) same high), e)),
    (λ (a, k, e). (has.just t).1 (a, k.0, subst (λ (m : ℕ). a < w.atoms + m) (sym same) k.1, e)),
  );
}
