-- Upper bounds of sigs.
use Rattle.std.proofs.Common.{◌≡◌, ◌≢◌, ◌↔◌, ℕ, zero, suc, ◌+◌, ◌-◌, ◌^◌, ◌<◌, ◌≤◌, Bool, true, false, IsTrue, if◌then◌else◌, List, [], ◌∷◌, ◌++◌, length, take, Contains, Option, Some, None, Result, Ok, Err, IfOk, slice_get, inl, inr, refl, sym, ap, ◌∙◌, subst, arith, take_all}
use Rattle.std.specs.List.{flat_map}
use Rattle.std.proofs.lemmas.Bool.{false≢true}
use Rattle.std.proofs.lemmas.List.{take_more}
use Rattle.std.proofs.lemmas.Option.{get_or_from_slice_get}
use Rattle.std.proofs.lemmas.List.Concat.{flat_map-cons}
use Rattle.std.proofs.lemmas.List.Elements.{Contains-append_left, Contains-append_right, Contains-append_cases, Contains-push_cases}
use Rattle.core_tree.specs.declared.model.Model.{Model}
use Rattle.core_tree.specs.declared.model.Sig.{Sig}
use Rattle.core_tree.specs.declared.model.SigKind.{SigKind}
use Rattle.core_tree.specs.declared.model.SigKind.TheVariants.{Top, Extends, Subset}
use Rattle.core_tree.specs.declared.model.Column.{Column}
use Rattle.core_tree.specs.declared.model.Column.TheVariants.{Sig as SigColumn, Int as IntColumn}
use Rattle.core_tree.specs.Types.{TypeRow, by_parent, by_sig, parent_rows, kind_rows, sig_rows, standing}
use Rattle.core_meaning.specs.declared.scopes.SigScope.{SigScope}
use Rattle.core_meaning.specs.declared.scopes.Scopes.{Scopes}
use Rattle.core_meaning.specs.Kept.{atom_count, first_atom, or_zero_number, top_above, IsAtomOf, InColumnBound, InRowBound, InSigBound}
use Rattle.eval_context.specs.Settings.{SettingValue, world}
use Rattle.eval_scopes.specs.Asked.{parent_in, var_parent_in, HasRow, HasRowOf, IsOwnAtom, IsOwn}

-- ---- answers

pub iff_trans : {P Q R : Type 0} → P ↔ Q → Q ↔ R → P ↔ R
iff_trans f g = ((λ x. g.0 (f.0 x)), (λ x. f.1 (g.1 x)))

pub answer_as : {E : Type 0} (r : Result Bool E) (P Q : Type 0) → P ↔ Q → IfOk r (λ b. IsTrue b ↔ P) → IfOk r (λ b. IsTrue b ↔ Q)
answer_as (Ok b) P Q same h = iff_trans h same
answer_as (Err e) P Q same h = h

never : (P : Type 0) → (¬ P) → IsTrue false ↔ P
never P off = ((λ q. absurd (false≢true q)), (λ p. absurd (off p)))

-- ---- ancestors

get_none : {X : Type 0} (xs : List X) (k : ℕ) → length xs ≤ k → slice_get xs k ≡ None
get_none [] k le = refl
get_none (x ∷ xs) zero le = absurd (omega arith)
get_none (x ∷ xs) (suc k) le = get_none xs k (omega arith)

abbrev pub parent_of : Option Sig → Option ℕ
parent_of o = by_sig None (λ d. by_parent None (λ p. Some p) d.kind) o

abbrev pub var_parent_of : Option Sig → Option ℕ
var_parent_of o = by_sig None (λ d. if d.is_var then by_parent None (λ p. Some p) d.kind else None) o

module _ (sigs : List Sig) (s : ℕ) where
  pub parent_past : length sigs ≤ s → None ≡ parent_in sigs s
  parent_past le = ap parent_of (sym (get_none sigs s le))

  pub parent_kind : (d : Sig) (k : SigKind) → slice_get sigs s ≡ Some d → d.kind ≡ k → by_parent None (λ p. Some p) k ≡ parent_in sigs s
  parent_kind d k at is = ap (λ (z : SigKind). by_parent {X = Option ℕ} None (λ p. Some p) z) (sym is) ∙ ap parent_of (sym at)

  pub var_past : length sigs ≤ s → None ≡ var_parent_in sigs s
  var_past le = ap var_parent_of (sym (get_none sigs s le))

  fixed_case : (b : Bool) (o : Option ℕ) → b ≡ false → None ≡ (if b then o else None)
  fixed_case true o e = absurd (false≢true (sym e))
  fixed_case false o e = refl

  var_case : (b : Bool) (o : Option ℕ) → b ≡ true → o ≡ (if b then o else None)
  var_case true o e = refl
  var_case false o e = absurd (false≢true e)

  pub var_fixed : (d : Sig) → slice_get sigs s ≡ Some d → d.is_var ≡ false → None ≡ var_parent_in sigs s
  var_fixed d at off = fixed_case d.is_var (by_parent None (λ p. Some p) d.kind) off ∙ ap var_parent_of (sym at)

  pub var_up : (d : Sig) (r : Option ℕ) → slice_get sigs s ≡ Some d → d.is_var ≡ true → r ≡ parent_in sigs s → r ≡ var_parent_in sigs s
  var_up d r at on is = is ∙ ap parent_of at ∙ var_case d.is_var (by_parent None (λ p. Some p) d.kind) on ∙ ap var_parent_of (sym at)

kind_some : (f : ℕ → ℕ) (s p : ℕ) (k : SigKind) → Some p ≡ by_parent None (λ q. Some q) k → f p ≡ by_parent s f k
kind_some f s p Top e = absurd cc
kind_some f s p (Extends q) e = let same : p ≡ q = cc in ap f same
kind_some f s p (Subset ps) e = absurd cc

kind_none : (f : ℕ → ℕ) (s : ℕ) (k : SigKind) → None ≡ by_parent {X = Option ℕ} None (λ q. Some q) k → s ≡ by_parent s f k
kind_none f s Top e = refl
kind_none f s (Extends q) e = absurd cc
kind_none f s (Subset ps) e = refl

module _ (sigs : List Sig) where
  top_some : (n s p : ℕ) (v : Option Sig) → Some p ≡ parent_of v → top_above sigs n p ≡ by_sig s (λ d. by_parent s (λ q. top_above sigs n q) d.kind) v
  top_some n s p None e = absurd cc
  top_some n s p (Some d) e = kind_some (λ q. top_above sigs n q) s p d.kind e

  top_none : (n s : ℕ) (v : Option Sig) → None ≡ parent_of v → s ≡ by_sig s (λ d. by_parent s (λ q. top_above sigs n q) d.kind) v
  top_none n s None e = refl
  top_none n s (Some d) e = kind_none (λ q. top_above sigs n q) s d.kind e

  pub top_zero : (n s : ℕ) → n ≡ 0 → s ≡ top_above sigs n s
  top_zero zero s e = refl
  top_zero (suc n) s e = absurd (omega arith)

  pub top_up : (n s p r : ℕ) → n ≢ 0 → Some p ≡ parent_in sigs s → r ≡ top_above sigs (n - 1) p → r ≡ top_above sigs n s
  top_up zero s p r some e is = absurd (some refl)
  top_up (suc n) s p r some e is = let less : suc n - 1 ≡ n = omega arith in is ∙ ap (λ (m : ℕ). top_above sigs m p) less ∙ top_some n s p (slice_get sigs s) e

  pub top_stays : (n s : ℕ) → None ≡ parent_in sigs s → s ≡ top_above sigs n s
  top_stays zero s e = refl
  top_stays (suc n) s e = top_none n s (slice_get sigs s) e

  stand_var : (n s p : ℕ) (b : Bool) (k : SigKind) → Some p ≡ (if b then by_parent None (λ q. Some q) k else None) → standing sigs n p ≡ (if b then by_parent s (λ q. standing sigs n q) k else s)
  stand_var n s p true k e = kind_some (λ q. standing sigs n q) s p k e
  stand_var n s p false k e = absurd cc

  rest_var : (n s : ℕ) (b : Bool) (k : SigKind) → None ≡ (if b then by_parent {X = Option ℕ} None (λ q. Some q) k else None) → s ≡ (if b then by_parent s (λ q. standing sigs n q) k else s)
  rest_var n s true k e = kind_none (λ q. standing sigs n q) s k e
  rest_var n s false k e = refl

  stand_some : (n s p : ℕ) (v : Option Sig) → Some p ≡ var_parent_of v → standing sigs n p ≡ by_sig s (λ d. if d.is_var then by_parent s (λ q. standing sigs n q) d.kind else s) v
  stand_some n s p None e = absurd cc
  stand_some n s p (Some d) e = stand_var n s p d.is_var d.kind e

  stand_none : (n s : ℕ) (v : Option Sig) → None ≡ var_parent_of v → s ≡ by_sig s (λ d. if d.is_var then by_parent s (λ q. standing sigs n q) d.kind else s) v
  stand_none n s None e = refl
  stand_none n s (Some d) e = rest_var n s d.is_var d.kind e

  pub stand_zero : (n s : ℕ) → n ≡ 0 → s ≡ standing sigs n s
  stand_zero zero s e = refl
  stand_zero (suc n) s e = absurd (omega arith)

  pub stand_up : (n s p r : ℕ) → n ≢ 0 → Some p ≡ var_parent_in sigs s → r ≡ standing sigs (n - 1) p → r ≡ standing sigs n s
  stand_up zero s p r some e is = absurd (some refl)
  stand_up (suc n) s p r some e is = let less : suc n - 1 ≡ n = omega arith in is ∙ ap (λ (m : ℕ). standing sigs m p) less ∙ stand_some n s p (slice_get sigs s) e

  pub stand_stays : (n s : ℕ) → None ≡ var_parent_in sigs s → s ≡ standing sigs n s
  stand_stays zero s e = refl
  stand_stays (suc n) s e = stand_none n s (slice_get sigs s) e

-- ---- scopes

pub first_is : (numbers all entries : List SigScope) (sig n : ℕ) → n ≡ atom_count entries → entries ≡ take sig all → all ≡ numbers → n ≡ first_atom numbers sig
first_is numbers all entries sig n e f g = e ∙ ap atom_count (f ∙ ap (take sig) g)

pub number_past : (numbers : List SigScope) (s : ℕ) → length numbers ≤ s → 0 ≡ or_zero_number (slice_get numbers s)
number_past numbers s le = ap or_zero_number (sym (get_none numbers s le))

number_at : (d : SigScope) (o : Option ℕ) → d.number ≡ o → or_zero_number (Some d) ≡ or_zero_number (Some (record d { number = o }))
number_at d o e = ap (λ (z : Option ℕ). or_zero_number (Some (record d { number = z }))) e

pub number_some : (numbers : List SigScope) (s n : ℕ) (d : SigScope) → slice_get numbers s ≡ Some d → d.number ≡ Some n → n ≡ or_zero_number (slice_get numbers s)
number_some numbers s n d at is = sym (number_at d (Some n) is) ∙ ap or_zero_number (sym at)

pub number_none : (numbers : List SigScope) (s : ℕ) (d : SigScope) → slice_get numbers s ≡ Some d → d.number ≡ None → 0 ≡ or_zero_number (slice_get numbers s)
number_none numbers s d at is = sym (number_at d None is) ∙ ap or_zero_number (sym at)

pub among_low : (first number atom : ℕ) → atom < first → IsTrue false ↔ ((first ≤ atom) × (atom < first + number))
among_low first number atom lt = never _ (λ h. let low = h.0 in omega arith)

pub among_yes : (first number atom : ℕ) → first ≤ atom → atom - first < number → IsTrue true ↔ ((first ≤ atom) × (atom < first + number))
among_yes first number atom le lt = ((λ q. (le, (let high : atom < first + number = omega arith in high))), (λ h. refl))

pub among_no : (first number atom : ℕ) → first ≤ atom → number ≤ atom - first → IsTrue false ↔ ((first ≤ atom) × (atom < first + number))
among_no first number atom le high = never _ (λ h. let lt = h.1 in omega arith)

module _ (s : SettingValue) where
  pub atom_is : (model : Model) (scopes : Scopes) (sig atom n top first number : ℕ) (b : Bool) → model ≡ s.model → scopes ≡ s.scopes → n ≡ length model.sigs → top ≡ top_above model.sigs n sig → first ≡ first_atom scopes.numbers top → number ≡ or_zero_number (slice_get scopes.numbers top) → IsTrue b ↔ ((first ≤ atom) × (atom < first + number)) → IsTrue b ↔ IsAtomOf s.model s.scopes sig atom
  atom_is model scopes sig atom n top first number b em es en et ef eo h =
      subst (λ (z : Model). IsTrue b ↔ IsAtomOf z s.scopes sig atom) em
      (subst (λ (z : Scopes). IsTrue b ↔ IsAtomOf model z sig atom) es
      (subst (λ (t : ℕ). IsTrue b ↔ ((first_atom scopes.numbers t ≤ atom) × (atom < first_atom scopes.numbers t + or_zero_number (slice_get scopes.numbers t)))) (et ∙ ap (λ (m : ℕ). top_above model.sigs m sig) en)
      (subst (λ (m : ℕ). IsTrue b ↔ ((first_atom scopes.numbers top ≤ atom) × (atom < first_atom scopes.numbers top + m))) eo
      (subst (λ (f : ℕ). IsTrue b ↔ ((f ≤ atom) × (atom < f + number))) ef h))))

  pub integer_is : (first bits count atom : ℕ) (b : Bool) → first ≡ (world s).atoms → bits ≡ (world s).bits → count ≡ 2 ^ bits → IsTrue b ↔ ((first ≤ atom) × (atom < first + count)) → IsTrue b ↔ InColumnBound s.model s.scopes IntColumn atom
  integer_is first bits count atom b ef eb ec h =
      subst (λ (m : ℕ). IsTrue b ↔ (((world s).atoms ≤ atom) × (atom < (world s).atoms + m))) (ec ∙ ap (λ (m : ℕ). 2 ^ m) eb)
      (subst (λ (f : ℕ). IsTrue b ↔ ((f ≤ atom) × (atom < f + count))) ef h)

  -- ---- rows

  pub row_one : (c : Column) (a : ℕ) → InColumnBound s.model s.scopes c a ↔ HasRow s ((c ∷ []) ∷ []) a
  row_one c a = ((λ h. (c ∷ [], (0, (let lt : 0 < length ((c ∷ []) ∷ []) = omega arith in lt), refl), (h, tt))), from)
    where
      from : HasRow s ((c ∷ []) ∷ []) a → InColumnBound s.model s.scopes c a
      from (r, (zero, lt, e), h) = (subst (λ (z : TypeRow). InRowBound s.model s.scopes z (a ∷ [])) (sym e) h).0
      from (r, (suc k, lt, e), h) = absurd (omega arith)

  pub no_row : (a : ℕ) → ¬ HasRow s [] a
  no_row a (r, (k, lt, e), h) = omega arith

  rows_left : (xs ys : List TypeRow) (a : ℕ) → HasRow s xs a → HasRow s (xs ++ ys) a
  rows_left xs ys a (r, c, h) = (r, Contains-append_left xs ys r c, h)

  rows_right : (xs ys : List TypeRow) (a : ℕ) → HasRow s ys a → HasRow s (xs ++ ys) a
  rows_right xs ys a (r, c, h) = (r, Contains-append_right xs ys r c, h)

  module _ (more a : ℕ) where
    abbrev pub rows_of : Column → List TypeRow
    rows_of c = parent_rows (λ p. sig_rows s.model.sigs more p) c

    flat_to : (cs : List Column) → HasRowOf s more cs a → HasRow s (flat_map rows_of cs) a
    flat_to [] (c, (k, lt, e), h) = absurd (omega arith)
    flat_to (d ∷ cs) (c, (zero, lt, e), h) =
        subst (λ (z : List TypeRow). HasRow s z a) (sym (flat_map-cons rows_of d cs)) (rows_left (rows_of d) (flat_map rows_of cs) a (subst (λ (z : Column). HasRow s (rows_of z) a) (sym e) h))
    flat_to (d ∷ cs) (c, (suc k, lt, e), h) =
        let inner : k < length cs = omega arith in
        subst (λ (z : List TypeRow). HasRow s z a) (sym (flat_map-cons rows_of d cs)) (rows_right (rows_of d) (flat_map rows_of cs) a (flat_to cs (c, (k, inner, e), h)))

    flat_from : (cs : List Column) → HasRow s (flat_map rows_of cs) a → HasRowOf s more cs a
    flat_from [] h = absurd (no_row a h)
    flat_from (d ∷ cs) h = part (λ x. flat_from cs x) (subst (λ (z : List TypeRow). HasRow s z a) (flat_map-cons rows_of d cs) h)
      where
        later : HasRowOf s more cs a → HasRowOf s more (d ∷ cs) a
        later (c, (k, lt, e), x) = let less : suc k < length (d ∷ cs) = omega arith in (c, (suc k, less, e), x)

        part : (HasRow s (flat_map rows_of cs) a → HasRowOf s more cs a) → HasRow s (rows_of d ++ flat_map rows_of cs) a → HasRowOf s more (d ∷ cs) a
        part again (r, c, x) = elim (Contains-append_cases (rows_of d) (flat_map rows_of cs) r c) [
          | inl here ↦ let lt : 0 < length (d ∷ cs) = omega arith in (d, (0, lt, refl), (r, here, x))
          | inr there ↦ later (again (r, there, x))
        ]

    pub flat_rows : (cs : List Column) → HasRowOf s more cs a ↔ HasRow s (flat_map rows_of cs) a
    flat_rows cs = (flat_to cs, flat_from cs)

    pub none_yet : ¬ HasRowOf s more [] a
    none_yet (c, (k, lt, e), h) = omega arith

    pub none_more : (cs : List Column) (k : ℕ) (c : Column) (b : Bool) → k < length cs → slice_get cs k ≡ Some c → b ≡ false → IsTrue b ↔ HasRow s (rows_of c) a → (¬ HasRowOf s more (take k cs) a) → ¬ HasRowOf s more (take (k + 1) cs) a
    none_more cs k c b lt at off is none (d, m, h) =
        let longer : take (k + 1) cs ≡ take k cs ++ c ∷ [] = take_more cs k c lt ∙ ap (λ (z : Column). take k cs ++ z ∷ []) (get_or_from_slice_get cs k c c at) in
        elim (Contains-push_cases (take k cs) c d (subst (λ (z : List Column). Contains z d) longer m)) [
          | inl old ↦ none (d, old, h)
          | inr e ↦ false≢true (sym off ∙ is.1 (subst (λ (z : Column). HasRow s (rows_of z) a) (sym e) h))
        ]

    pub some_yes : (cs : List Column) (k : ℕ) (c : Column) (b : Bool) → k < length cs → slice_get cs k ≡ Some c → b ≡ true → IsTrue b ↔ HasRow s (rows_of c) a → IsTrue true ↔ HasRowOf s more cs a
    some_yes cs k c b lt at on is = ((λ q. (c, (k, lt, get_or_from_slice_get cs k c c at), is.0 on)), (λ h. refl))

    pub some_no : (cs : List Column) (k : ℕ) → length cs ≤ k → (¬ HasRowOf s more (take k cs) a) → IsTrue false ↔ HasRowOf s more cs a
    some_no cs k over none = never _ (subst (λ (z : List Column). ¬ HasRowOf s more z a) (take_all k cs over) none)

  -- ---- rows of a sig

  module _ (model : Model) (em : model ≡ s.model) (k a : ℕ) where
    pub rows_zero : (n : ℕ) → n ≡ 0 → IsTrue false ↔ HasRow s (sig_rows s.model.sigs n k) a
    rows_zero zero e = never _ (no_row a)
    rows_zero (suc n) e = absurd (omega arith)

    pub rows_past : (n : ℕ) → length model.sigs ≤ k → IsTrue false ↔ HasRow s (sig_rows s.model.sigs n k) a
    rows_past zero le = never _ (no_row a)
    rows_past (suc n) le =
        let none : slice_get s.model.sigs k ≡ None = subst (λ (z : Model). slice_get z.sigs k ≡ None) em (get_none model.sigs k le) in
        never _ (λ h. no_row a (subst (λ (o : Option Sig). HasRow s (by_sig [] (λ d. kind_rows ((SigColumn (standing s.model.sigs (length s.model.sigs) k) ∷ []) ∷ []) (λ p. sig_rows s.model.sigs n p) d.kind) o) a) none h))

    abbrev pub itself : List TypeRow
    itself = (SigColumn (standing s.model.sigs (length s.model.sigs) k) ∷ []) ∷ []

    pub rows_kind : (n : ℕ) (d : Sig) (kind : SigKind) → n ≢ 0 → slice_get model.sigs k ≡ Some d → d.kind ≡ kind → kind_rows itself (λ p. sig_rows s.model.sigs (n - 1) p) kind ≡ sig_rows s.model.sigs n k
    rows_kind zero d kind some at is = absurd (some refl)
    rows_kind (suc n) d kind some at is =
        let here : slice_get s.model.sigs k ≡ Some d = subst (λ (z : Model). slice_get z.sigs k ≡ Some d) em at in
        let less : suc n - 1 ≡ n = omega arith in
        ap (λ (m : ℕ). kind_rows itself (λ p. sig_rows s.model.sigs m p) kind) less
        ∙ ap (λ (z : SigKind). kind_rows itself (λ p. sig_rows s.model.sigs n p) z) (sym is)
        ∙ ap (λ (o : Option Sig). by_sig [] (λ e. kind_rows itself (λ p. sig_rows s.model.sigs n p) e.kind) o) (sym here)

    pub itself_rows : {E : Type 0} (r : Result Bool E) (n : ℕ) (rows : List TypeRow) → rows ≡ sig_rows s.model.sigs n k → IfOk r (λ b. IsTrue b ↔ HasRow s rows a) → IfOk r (λ b. IsTrue b ↔ HasRow s (sig_rows s.model.sigs n k) a)
    itself_rows r n rows e h = subst (λ (z : List TypeRow). IfOk r (λ b. IsTrue b ↔ HasRow s z a)) e h

    pub subset_rows : {E : Type 0} (r : Result Bool E) (n : ℕ) (ps : List Column) → flat_map (parent_rows (λ p. sig_rows s.model.sigs (n - 1) p)) ps ≡ sig_rows s.model.sigs n k → IfOk r (λ b. IsTrue b ↔ HasRowOf s (n - 1) ps a) → IfOk r (λ b. IsTrue b ↔ HasRow s (sig_rows s.model.sigs n k) a)
    subset_rows r n ps e h = itself_rows r n (flat_map (rows_of (n - 1) a) ps) e (answer_as r (HasRowOf s (n - 1) ps a) (HasRow s (flat_map (rows_of (n - 1) a) ps) a) (flat_rows (n - 1) a ps) h)

  pub of_sig : {E : Type 0} (r : Result Bool E) (model : Model) (sig atom n column : ℕ) → model ≡ s.model → n ≡ length model.sigs → column ≡ standing model.sigs n sig → IfOk r (λ b. IsTrue b ↔ IsAtomOf s.model s.scopes column atom) → IfOk r (λ b. IsTrue b ↔ HasRow s ((SigColumn (standing s.model.sigs (length s.model.sigs) sig) ∷ []) ∷ []) atom)
  of_sig r model sig atom n column em en ec h =
      let same : column ≡ standing s.model.sigs (length s.model.sigs) sig = ec ∙ ap (λ (m : ℕ). standing model.sigs m sig) en ∙ ap (λ (z : Model). standing z.sigs (length z.sigs) sig) em in
      answer_as r (IsAtomOf s.model s.scopes (standing s.model.sigs (length s.model.sigs) sig) atom) (HasRow s ((SigColumn (standing s.model.sigs (length s.model.sigs) sig) ∷ []) ∷ []) atom) (row_one (SigColumn (standing s.model.sigs (length s.model.sigs) sig)) atom) (subst (λ (m : ℕ). IfOk r (λ b. IsTrue b ↔ IsAtomOf s.model s.scopes m atom)) same h)

  pub int_row : (a : ℕ) (b : Bool) → IsTrue b ↔ InColumnBound s.model s.scopes IntColumn a → IsTrue b ↔ HasRow s ((IntColumn ∷ []) ∷ []) a
  int_row a b h = iff_trans h (row_one IntColumn a)

  -- ---- literals

  pub own_top : (k a : ℕ) → IsTrue true ↔ IsOwnAtom s k Top a
  own_top k a = ((λ q p e. absurd cc), (λ h. refl))

  pub own_subset : (k a : ℕ) (ps : List Column) → IsTrue true ↔ IsOwnAtom s k (Subset ps) a
  own_subset k a ps = ((λ q p e. absurd cc), (λ h. refl))

  pub own_child : (scopes : Scopes) (k a above first : ℕ) (b : Bool) → scopes ≡ s.scopes → first ≡ first_atom scopes.numbers above → IsTrue b ↔ (a ≡ first + (k - above - 1)) → IsTrue b ↔ IsOwnAtom s k (Extends above) a
  own_child scopes k a above first b es ef h =
      let at : first ≡ first_atom s.scopes.numbers above = ef ∙ ap (λ (z : Scopes). first_atom z.numbers above) es in (
        (λ q p e.
            let same : above ≡ p = cc in
            h.0 q ∙ ap (λ (f : ℕ). f + (k - above - 1)) at ∙ ap (λ (m : ℕ). first_atom s.scopes.numbers m + (k - m - 1)) same),
        (λ own. h.1 (own above refl ∙ ap (λ (f : ℕ). f + (k - above - 1)) (sym at))),
      )

  pub own_named : (k a : ℕ) (d : Sig) → ((d.origin ≡ None) → ⊥) → IsTrue true ↔ IsOwn s k d a
  own_named k a d named = ((λ q p l. absurd (named l.0)), (λ h. refl))

  pub own_literal : {E : Type 0} (r : Result Bool E) (k a : ℕ) (d : Sig) → d.origin ≡ None → IfOk r (λ b. IsTrue b ↔ IsOwnAtom s k d.kind a) → IfOk r (λ b. IsTrue b ↔ IsOwn s k d a)
  own_literal r k a d none h = answer_as r (IsOwnAtom s k d.kind a) (IsOwn s k d a) ((λ own p l. own p l.1), (λ own p e. own p (none, e))) h

  pub bounded_no : (k a : ℕ) (d : Sig) (b : Bool) → b ≡ false → IsTrue b ↔ IsOwn s k d a → IsTrue false ↔ InSigBound s.model s.scopes k d a
  bounded_no k a d b off h = never _ (λ bound. false≢true (sym off ∙ h.1 bound.literal))

  pub bounded_is : {E : Type 0} (r : Result Bool E) (model : Model) (k a n : ℕ) (d : Sig) (b : Bool) → model ≡ s.model → n ≡ length model.sigs → b ≡ true → IsTrue b ↔ IsOwn s k d a → IfOk r (λ c. IsTrue c ↔ HasRow s (sig_rows s.model.sigs n k) a) → IfOk r (λ c. IsTrue c ↔ InSigBound s.model s.scopes k d a)
  bounded_is r model k a n d b em en on own h =
      let size : n ≡ length s.model.sigs = en ∙ ap (λ (z : Model). length z.sigs) em in
      answer_as r (HasRow s (sig_rows s.model.sigs (length s.model.sigs) k) a) (InSigBound s.model s.scopes k d a)
      ((λ x. record { typed = x; literal = own.0 on }), (λ bound. bound.typed))
      (subst (λ (m : ℕ). IfOk r (λ c. IsTrue c ↔ HasRow s (sig_rows s.model.sigs m k) a)) size h)

pub nth_low : (first after atom : ℕ) → atom < first → IsTrue false ↔ (atom ≡ first + after)
nth_low first after atom lt = never _ (λ e. omega arith)

pub nth_yes : (first after atom : ℕ) → first ≤ atom → atom - first ≡ after → IsTrue true ↔ (atom ≡ first + after)
nth_yes first after atom le e = ((λ q. omega arith), (λ h. refl))

pub nth_no : (first after atom : ℕ) → first ≤ atom → atom - first ≢ after → IsTrue false ↔ (atom ≡ first + after)
nth_no first after atom le other = never _ (λ e. other (omega arith))
