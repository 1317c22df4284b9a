-- When a lasso keeps scopes.
use Rattle.std.proofs.Common.{◌≡◌, ◌↔◌, ℕ, zero, suc, ◌+◌, ◌<◌, ◌≤◌, Bool, true, false, IsTrue, List, [], ◌∷◌, length, take, get_or, Contains, Option, Some, None, Result, IfOk, IfSome, slice_get, inl, inr, refl, sym, ap, ◌∙◌, subst, arith, take_all}
use Rattle.std.proofs.lemmas.Bool.{cases_lt, false≢true}
use Rattle.std.proofs.lemmas.List.{take_more}
use Rattle.std.proofs.lemmas.List.Elements.{Contains-push_cases}
use Rattle.std.proofs.lemmas.Option.{slice_get_within}
use Rattle.core_tree.specs.declared.model.Model.{Model}
use Rattle.core_tree.specs.declared.model.Sig.{Sig}
use Rattle.core_tree.specs.declared.model.Field.{Field}
use Rattle.core_meaning.specs.declared.scopes.SigScope.{SigScope}
use Rattle.core_meaning.specs.declared.scopes.Scopes.{Scopes}
use Rattle.core_meaning.specs.Operators.{IsListOf}
use Rattle.core_meaning.specs.Kept.{InSigBound, IsEverIn, IsWithin, KeepsNumber, IsStatic, Keeps}
use Rattle.core_laws.proofs.ListedLemmas.{once, same_length}
use Rattle.core_tuples.specs.Sets.{TupleList, In}
use Rattle.eval_sets.specs.SetOf.{IsSetOf}
use Rattle.eval_context.specs.Settings.{SettingValue, world}
use Rattle.eval_scopes.specs.Asked.{IsEver, Allows, SigKept, SigsKept, FieldKept, FieldsKept}
use Rattle.eval_scopes.proofs.BoundLaw.{iff_trans, answer_as}

never : (P : Type 0) → (¬ P) → IsTrue false ↔ P
never P off = ((λ q. absurd (false≢true q)), (λ p. absurd (off p)))

-- ---- numbers

pub within_exact : (e b : Bool) (number count : ℕ) → e ≡ true → IsTrue b ↔ (count ≡ number) → IsTrue b ↔ IsWithin e number count
within_exact true b number count is h = h
within_exact false b number count is h = absurd (false≢true is)

pub within_most : (e b : Bool) (number count : ℕ) → e ≡ false → IsTrue b ↔ (count ≤ number) → IsTrue b ↔ IsWithin e number count
within_most true b number count is h = absurd (false≢true (sym is))
within_most false b number count is h = h

allows_at : (scope : SigScope) (o : Option ℕ) (count : ℕ) → scope.number ≡ o → IfSome o (λ n. IsWithin scope.exact n count) ↔ Allows scope count
allows_at scope o count is = (subst (λ (z : Option ℕ). IfSome z (λ n. IsWithin scope.exact n count)) (sym is), subst (λ (z : Option ℕ). IfSome z (λ n. IsWithin scope.exact n count)) is)

pub allows_all : (scope : SigScope) (count : ℕ) → scope.number ≡ None → IsTrue true ↔ Allows scope count
allows_all scope count is = ((λ q. (allows_at scope None count is).0 tt), (λ h. refl))

pub allows_some : (scope : SigScope) (count number : ℕ) (b : Bool) → scope.number ≡ Some number → IsTrue b ↔ IsWithin scope.exact number count → IsTrue b ↔ Allows scope count
allows_some scope count number b is h = iff_trans h (allows_at scope (Some number) count is)

-- ---- members

module _ (P : ℕ → Type 0) (xs : List ℕ) (k : ℕ) where
  pub each_more : k < length xs → P (get_or xs k 0) → ((a : ℕ) → Contains (take k xs) a → P a) → (a : ℕ) → Contains (take (k + 1) xs) a → P a
  each_more lt here each a m =
      elim (Contains-push_cases (take k xs) (get_or xs k 0) a (subst (λ (z : List ℕ). Contains z a) (take_more xs k 0 lt) m)) [
        | inl old ↦ each a old
        | inr e ↦ subst P e here
      ]

  pub each_all : length xs ≤ k → ((a : ℕ) → Contains (take k xs) a → P a) → (a : ℕ) → Contains xs a → P a
  each_all over each a m = each a (subst (λ (z : List ℕ). Contains z a) (sym (take_all k xs over)) m)

module _ (s : SettingValue) where
  pub bound_no : (k : ℕ) (d : Sig) (members : List ℕ) (m : ℕ) (b : Bool) → m < length members → b ≡ false → IsTrue b ↔ InSigBound s.model s.scopes k d (get_or members m 0) → IsTrue false ↔ ((a : ℕ) → Contains members a → InSigBound s.model s.scopes k d a)
  bound_no k d members m b lt off h = never _ (λ each. false≢true (sym off ∙ h.1 (each (get_or members m 0) (m, lt, at members m lt))))
    where
      at : (xs : List ℕ) (n : ℕ) → n < length xs → get_or xs n (get_or xs n 0) ≡ get_or xs n 0
      at [] n less = absurd (omega arith)
      at (x ∷ xs) zero less = refl
      at (x ∷ xs) (suc n) less = at xs n (omega arith)

  pub bound_yes : (k : ℕ) (d : Sig) (members : List ℕ) (m : ℕ) → length members ≤ m → ((a : ℕ) → Contains (take m members) a → InSigBound s.model s.scopes k d a) → IsTrue true ↔ ((a : ℕ) → Contains members a → InSigBound s.model s.scopes k d a)
  bound_yes k d members m over each = ((λ q. each_all (λ a. InSigBound s.model s.scopes k d a) members m over each), (λ h. refl))

  -- ---- sigs

  number_to : (k : ℕ) (scope : SigScope) (members : List ℕ) → IsListOf (IsEverIn (world s) k) members → Allows scope (length members) → KeepsNumber (world s) k scope
  number_to k scope members listed h = go scope.number h
    where
      go : (o : Option ℕ) → IfSome o (λ n. IsWithin scope.exact n (length members)) → IfSome o (λ n. (atoms : List ℕ) × IsListOf (IsEverIn (world s) k) atoms × IsWithin scope.exact n (length atoms))
      go None x = x
      go (Some n) x = (members, listed, x)

  number_from : (k : ℕ) (scope : SigScope) (members : List ℕ) → IsListOf (IsEverIn (world s) k) members → KeepsNumber (world s) k scope → Allows scope (length members)
  number_from k scope members listed h = go scope.number h
    where
      size : (atoms : List ℕ) → IsListOf (IsEverIn (world s) k) atoms → length atoms ≡ length members
      size atoms other = same_length atoms members (once atoms other.distinct) (once members listed.distinct) (λ z. ((λ c. (listed.all_and_only z).1 ((other.all_and_only z).0 c)), (λ c. (other.all_and_only z).1 ((listed.all_and_only z).0 c))))

      go : (o : Option ℕ) → IfSome o (λ n. (atoms : List ℕ) × IsListOf (IsEverIn (world s) k) atoms × IsWithin scope.exact n (length atoms)) → IfSome o (λ n. IsWithin scope.exact n (length members))
      go None x = x
      go (Some n) (atoms, other, x) = subst (λ (m : ℕ). IsWithin scope.exact n m) (size atoms other) x

  ever_listed : (k : ℕ) (all : TupleList) (members : List ℕ) → IsSetOf all (IsEver (world s) k) → IsListOf (λ x. In (x ∷ []) all) members → IsListOf (IsEverIn (world s) k) members
  ever_listed k all members ever listed = record {
    distinct = listed.distinct;
    all_and_only = λ x. (
      (λ c. (ever.just (x ∷ [])).0 ((listed.all_and_only x).0 c)),
      (λ e. (listed.all_and_only x).1 ((ever.just (x ∷ [])).1 e)),
    );
  }

  pub sig_moves : (k : ℕ) (d : Sig) (scope : SigScope) (b : Bool) → b ≡ false → IsTrue b ↔ (d.is_var ≡ false → IsStatic (world s) k) → IsTrue false ↔ SigKept s k d scope
  sig_moves k d scope b off h = never _ (λ kept. false≢true (sym off ∙ h.1 kept.same))

  module _ (k : ℕ) (d : Sig) (scope : SigScope) (all : TupleList) (members : List ℕ) (ever : IsSetOf all (IsEver (world s) k)) (listed : IsListOf (λ x. In (x ∷ []) all) members) where
    pub sig_many : (b : Bool) (n : ℕ) → n ≡ length members → b ≡ false → IsTrue b ↔ Allows scope n → IsTrue false ↔ SigKept s k d scope
    sig_many b n count off h = never _ (λ kept. false≢true (sym off ∙ h.1 (subst (λ (m : ℕ). Allows scope m) (sym count) (number_from k scope members (ever_listed k all members ever listed) kept.number))))

    pub sig_is : {E : Type 0} (r : Result Bool E) (b c : Bool) (n : ℕ) (ms : List ℕ) → n ≡ length members → ms ≡ members → b ≡ true → c ≡ true → IsTrue b ↔ (d.is_var ≡ false → IsStatic (world s) k) → IsTrue c ↔ Allows scope n → IfOk r (λ q. IsTrue q ↔ ((a : ℕ) → Contains ms a → InSigBound s.model s.scopes k d a)) → IfOk r (λ q. IsTrue q ↔ SigKept s k d scope)
    sig_is r b c n ms count same on fits still few h =
        let at = ever_listed k all members ever listed in
        answer_as r ((a : ℕ) → Contains members a → InSigBound s.model s.scopes k d a) (SigKept s k d scope) (
          (λ each. record {
            bounded = λ i a x. each a ((at.all_and_only a).1 (i, x));
            number = number_to k scope members at (subst (λ (m : ℕ). Allows scope m) count (few.0 fits));
            same = still.0 on;
          }),
          (λ kept a m. let (i, x) = (at.all_and_only a).0 m in kept.bounded i a x),
        )
        (subst (λ (z : List ℕ). IfOk r (λ q. IsTrue q ↔ ((a : ℕ) → Contains z a → InSigBound s.model s.scopes k d a))) same h)

  -- ---- all sigs

  pub sigs_none : SigsKept s 0
  sigs_none k d scope lt = absurd (omega arith)

  module _ (model : Model) (scopes : Scopes) (em : model ≡ s.model) (es : scopes ≡ s.scopes) (n : ℕ) (d : Sig) (scope : SigScope) (b : Bool) (at : slice_get model.sigs n ≡ Some d) (found : slice_get scopes.numbers n ≡ Some scope) (is : IsTrue b ↔ SigKept s n d scope) where
    here : slice_get s.model.sigs n ≡ Some d
    here = subst (λ (z : Model). slice_get z.sigs n ≡ Some d) em at

    entry : slice_get s.scopes.numbers n ≡ Some scope
    entry = subst (λ (z : Scopes). slice_get z.numbers n ≡ Some scope) es found

    pub sigs_more : b ≡ true → SigsKept s n → SigsKept s (n + 1)
    sigs_more on each k e c lt f g = elim (cases_lt k n) [
      | inl below ↦ each k e c below f g
      | inr over ↦
          let same : n ≡ k = omega arith in
          let sig : d ≡ e = (let f' : slice_get s.model.sigs n ≡ Some e = subst (λ (j : ℕ). slice_get s.model.sigs j ≡ Some e) (sym same) f in let h = here in cc) in
          let one : scope ≡ c = (let g' : slice_get s.scopes.numbers n ≡ Some c = subst (λ (j : ℕ). slice_get s.scopes.numbers j ≡ Some c) (sym same) g in let h = entry in cc) in
          subst (λ (j : ℕ). SigKept s j e c) same (subst (λ (z : Sig). SigKept s n z c) sig (subst (λ (z : SigScope). SigKept s n d z) one (is.0 on)))
    ]

    pub sigs_no : b ≡ false → n < length model.sigs → IsTrue false ↔ SigsKept s (length s.model.sigs)
    sigs_no off lt = never _ (λ each. false≢true (sym off ∙ is.1 (each n d scope (subst (λ (z : Model). n < length z.sigs) em lt) here entry)))

  pub sigs_all : (model : Model) (n m : ℕ) → model ≡ s.model → m ≡ length model.sigs → m ≤ n → SigsKept s n → IsTrue true ↔ SigsKept s (length s.model.sigs)
  sigs_all model n m em en over each =
      let size : m ≡ length s.model.sigs = en ∙ ap (λ (z : Model). length z.sigs) em in
      ((λ q k d scope lt. each k d scope (omega arith)), (λ h. refl))

  -- ---- fields

  pub fields_none : FieldsKept s 0
  fields_none k f lt = absurd (omega arith)

  pub field_is : (model : Model) (k n number : ℕ) (f : Field) (b : Bool) → model ≡ s.model → n ≡ length model.sigs → number ≡ n + k → IsTrue b ↔ (f.is_var ≡ false → IsStatic (world s) number) → IsTrue b ↔ FieldKept s k f
  field_is model k n number f b em en sum h =
      let size : number ≡ length s.model.sigs + k = sum ∙ ap (λ (m : ℕ). m + k) (en ∙ ap (λ (z : Model). length z.sigs) em) in
      subst (λ (m : ℕ). IsTrue b ↔ (f.is_var ≡ false → IsStatic (world s) m)) size h

  module _ (model : Model) (em : model ≡ s.model) (n : ℕ) (f : Field) (b : Bool) (at : slice_get model.fields n ≡ Some f) (is : IsTrue b ↔ FieldKept s n f) where
    place : slice_get s.model.fields n ≡ Some f
    place = subst (λ (z : Model). slice_get z.fields n ≡ Some f) em at

    pub fields_more : b ≡ true → FieldsKept s n → FieldsKept s (n + 1)
    fields_more on each k g lt e = elim (cases_lt k n) [
      | inl below ↦ each k g below e
      | inr over ↦
          let same : n ≡ k = omega arith in
          let field : f ≡ g = (let e' : slice_get s.model.fields n ≡ Some g = subst (λ (j : ℕ). slice_get s.model.fields j ≡ Some g) (sym same) e in let h = place in cc) in
          subst (λ (j : ℕ). FieldKept s j g) same (subst (λ (z : Field). FieldKept s n z) field (is.0 on))
    ]

    pub fields_no : b ≡ false → n < length model.fields → IsTrue false ↔ FieldsKept s (length s.model.fields)
    fields_no off lt = never _ (λ each. false≢true (sym off ∙ is.1 (each n f (subst (λ (z : Model). n < length z.fields) em lt) place)))

  pub fields_all : (model : Model) (n m : ℕ) → model ≡ s.model → m ≡ length model.fields → m ≤ n → FieldsKept s n → IsTrue true ↔ FieldsKept s (length s.model.fields)
  fields_all model n m em en over each =
      let size : m ≡ length s.model.fields = en ∙ ap (λ (z : Model). length z.fields) em in
      ((λ q k f lt. each k f (omega arith)), (λ h. refl))

  -- ---- all together

  keeps_to : length s.model.sigs ≡ length s.scopes.numbers → SigsKept s (length s.model.sigs) → FieldsKept s (length s.model.fields) → Keeps s.model s.scopes s.lasso
  keeps_to size sigs fields = record {
    bounded = λ k d at i a x. let (scope, g) = entry_at s.scopes.numbers k (omega (arith, size, slice_get_within s.model.sigs k d at)) in (sigs k d scope (slice_get_within s.model.sigs k d at) at g).bounded i a x;
    numbers = λ k scope g. let (d, at) = entry_at s.model.sigs k (omega (arith, size, slice_get_within s.scopes.numbers k scope g)) in (sigs k d scope (slice_get_within s.model.sigs k d at) at g).number;
    sigs = λ k d at fixed. let (scope, g) = entry_at s.scopes.numbers k (omega (arith, size, slice_get_within s.model.sigs k d at)) in (sigs k d scope (slice_get_within s.model.sigs k d at) at g).same fixed;
    fields = λ k f at fixed. fields k f (slice_get_within s.model.fields k f at) at fixed;
  }
    where
      entry_at : {X : Type 0} (xs : List X) (k : ℕ) → k < length xs → (x : X) × (slice_get xs k ≡ Some x)
      entry_at [] k lt = absurd (omega arith)
      entry_at (x ∷ xs) zero lt = (x, refl)
      entry_at (x ∷ xs) (suc k) lt = entry_at xs k (omega arith)

  keeps_sigs : Keeps s.model s.scopes s.lasso → SigsKept s (length s.model.sigs)
  keeps_sigs kept k d scope lt at g = record { bounded = λ i a x. kept.bounded k d at i a x; number = kept.numbers k scope g; same = λ fixed. kept.sigs k d at fixed }

  keeps_fields : Keeps s.model s.scopes s.lasso → FieldsKept s (length s.model.fields)
  keeps_fields kept k f lt at fixed = kept.fields k f at fixed

  module _ (b : Bool) (size : length s.model.sigs ≡ length s.scopes.numbers) (sigs : IsTrue b ↔ SigsKept s (length s.model.sigs)) where
    pub both_off : b ≡ false → IsTrue false ↔ Keeps s.model s.scopes s.lasso
    both_off off = never _ (λ kept. false≢true (sym off ∙ sigs.1 (keeps_sigs kept)))

    pub both_on : {E : Type 0} (r : Result Bool E) → b ≡ true → IfOk r (λ c. IsTrue c ↔ FieldsKept s (length s.model.fields)) → IfOk r (λ c. IsTrue c ↔ Keeps s.model s.scopes s.lasso)
    both_on r on h = answer_as r (FieldsKept s (length s.model.fields)) (Keeps s.model s.scopes s.lasso) ((λ fields. keeps_to size (sigs.0 on) fields), (λ kept. keeps_fields kept)) h
