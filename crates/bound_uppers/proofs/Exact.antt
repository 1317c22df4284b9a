-- The upper bounds are those of the definition.
use Rattle.std.proofs.Common.{◌≡◌, ◌⊎◌, ◌↔◌, inl, inr, ℕ, suc, ◌+◌, ◌-◌, ◌<◌, ◌≤◌, nat_lt, Bool, true, false, if◌then◌else◌, List, [], ◌∷◌, length, get_or, slice_get, Option, Some, None, IfSome, is_some, All, Contains, refl, ap, sym, ◌∙◌, subst, arith}
use Rattle.std.proofs.lemmas.Bool.{ltb-true, ltb-false}
use Rattle.std.proofs.lemmas.List.Elements.{All-nil, All-cons, All-head, All-tail, All-contains}
use Rattle.std.proofs.lemmas.Option.{slice_get_within, get_or_from_slice_get}
use Rattle.core_tuples.specs.Sets.{TupleList, In, HasJust}
use Rattle.core_tree.specs.declared.model.Model.{Model}
use Rattle.core_tree.specs.declared.model.Origin.{Origin}
use Rattle.core_tree.specs.declared.model.Sig.{Sig}
use Rattle.core_tree.specs.declared.model.SigKind.{SigKind}
use Rattle.core_tree.specs.declared.model.SigKind.TheVariants.{Top, Extends, Subset}
use Rattle.core_tree.specs.declared.model.Field.{Field}
use Rattle.core_tree.specs.declared.model.Column.{Column}
use Rattle.core_tree.specs.declared.model.Column.TheVariants.{Sig as SigColumn, Int as IntColumn}
use Rattle.core_tree.specs.Types.{TypeRow, TypeRows, by_parent, sig_rows}
use Rattle.core_tree.specs.Columns.{or_zero}
use Rattle.core_meaning.specs.declared.scopes.SigScope.{SigScope}
use Rattle.core_meaning.specs.declared.scopes.Scopes.{Scopes}
use Rattle.core_meaning.specs.Kept.{atom_count, first_atom, universe_size, or_zero_number, IsLiteral}
use Rattle.bound_uppers.specs.declared.table.Bound.{Bound}
use Rattle.bound_uppers.specs.declared.numbers.AtomRange.{AtomRange}
use Rattle.bound_uppers.specs.declared.numbers.AtomRanges.{AtomRanges}
use Rattle.bound_uppers.specs.declared.uppers.Sketch.{Sketch}
use Rattle.bound_uppers.specs.Kinds.{kind_at, sig_kind, row_kinds_of, rows_kinds_of, HasRows, no_span, span_in, InSpan, HasSpans}
use Rattle.bound_uppers.specs.declared.given.AtomSets.{AtomSets}
use Rattle.bound_owners.specs.Owned.{HasStanding}
use Rattle.bound_uppers.specs.Given.{IsGiven, InColumnTable, InRowTable, InSigTable}
use Rattle.bound_uppers.specs.AtomSets.{set_at, InKinds, InRows, AreGiven}
use Rattle.bound_uppers.specs.Sketches.{first_in, literal_in, IsRightSketch, InSketch, IsSigSketch, IsFieldSketch, AreSketches, HasUppers}
use Rattle.bound_uppers.specs.Uppers.{InSigUpper, InFieldUpper, AreUppers}
use Rattle.bound_uppers.proofs.Spanning.{first_most, span_at_place, span_lacks, all_before}
use Rattle.bound_uppers.proofs.Sketching.{map_member, member_map}

-- ---- the numbers of a span

span_case : (limit f n a : ℕ) (b : Bool) → nat_lt n (limit - f) ≡ b → (f ≤ a) → (a < f + (if b then n else limit - f)) ↔ ((a < f + n) × (a < limit))
span_case limit f n a true e low =
    let less : n < limit - f = ltb-true n (limit - f) e in
    ((λ h. (h, omega (arith, less, h))), (λ h. h.0))
span_case limit f n a false e low =
    let far : limit - f ≤ n = ltb-false n (limit - f) e in
    ((λ h. (omega (arith, far, h), omega (arith, h, low))), (λ h. let below = h.1 in omega (arith, below, low)))

in_span : (limit f n a : ℕ) → InSpan (span_in limit f n) a ↔ (((f ≤ a) × (a < f + n)) × (a < limit))
in_span limit f n a = (
  (λ h. let g = (span_case limit f n a (nat_lt n (limit - f)) refl h.0).0 h.1 in ((h.0, g.0), g.1)),
  (λ h. (h.0.0, (span_case limit f n a (nat_lt n (limit - f)) refl h.0.0).1 (h.0.1, h.1))),
)

pub nobody : (a : ℕ) → InSpan no_span a → ⊥
nobody a h = let high = h.1 in absurd (omega (arith, high))

pub option_cases : {X : Type 0} (o : Option X) → (o ≡ None) ⊎ ((x : X) × (o ≡ Some x))
option_cases None = inl refl
option_cases (Some x) = inr (x, refl)

-- ---- the numbers of a kind

module _ (scopes : Scopes) (spans : AtomRanges) (has : HasSpans scopes spans) where
  pub sig_span : (top : ℕ) (d : AtomRange) → (s : SigScope) → slice_get scopes.numbers top ≡ Some s → get_or spans.sigs.items top d ≡ span_in (universe_size scopes) (first_atom scopes.numbers top) (or_zero s.number)
  sig_span top d s e = ap (λ (xs : List AtomRange). get_or xs top d) has.sigs ∙ span_at_place (universe_size scopes) scopes.numbers top s d e

  pub lacks_span : (top : ℕ) (d : AtomRange) → slice_get scopes.numbers top ≡ None → get_or spans.sigs.items top d ≡ d
  lacks_span top d e = ap (λ (xs : List AtomRange). get_or xs top d) has.sigs ∙ span_lacks (universe_size scopes) 0 scopes.numbers top d e

  -- so many numbers, or none where there is no such sig
  pub those : (top a : ℕ) → InSpan (get_or spans.sigs.items top no_span) a ↔ (((first_atom scopes.numbers top ≤ a) × (a < first_atom scopes.numbers top + or_zero_number (slice_get scopes.numbers top))) × (a < universe_size scopes))
  those top a = elim (option_cases (slice_get scopes.numbers top)) [
    | inl none ↦
        subst (λ (o : Option SigScope). InSpan (get_or spans.sigs.items top no_span) a ↔ (((first_atom scopes.numbers top ≤ a) × (a < first_atom scopes.numbers top + or_zero_number o)) × (a < universe_size scopes))) (sym none) (
          (λ h. absurd (nobody a (subst (λ (s : AtomRange). InSpan s a) (lacks_span top no_span none) h))),
          (λ h. let low = h.0.0 in let high = h.0.1 in absurd (omega (arith, low, high))),
        )
    | inr (s, some) ↦
        subst (λ (o : Option SigScope). InSpan (get_or spans.sigs.items top no_span) a ↔ (((first_atom scopes.numbers top ≤ a) × (a < first_atom scopes.numbers top + or_zero_number o)) × (a < universe_size scopes))) (sym some)
        (subst (λ (z : AtomRange). InSpan z a ↔ (((first_atom scopes.numbers top ≤ a) × (a < first_atom scopes.numbers top + or_zero s.number)) × (a < universe_size scopes))) (sym (sig_span top no_span s some)) (in_span (universe_size scopes) (first_atom scopes.numbers top) (or_zero s.number) a))
  ]

  pub of_integers : (a : ℕ) → InSpan spans.integers a ↔ (((atom_count scopes.numbers ≤ a) × (a < universe_size scopes)) × (a < universe_size scopes))
  of_integers a = subst (λ (s : AtomRange). InSpan s a ↔ (((atom_count scopes.numbers ≤ a) × (a < universe_size scopes)) × (a < universe_size scopes))) (sym has.integers) ((λ h. (h, h.1)), (λ h. h.0))

  fit_case : (f n : ℕ) (b : Bool) → f ≤ universe_size scopes → nat_lt n (universe_size scopes - f) ≡ b → f + (if b then n else universe_size scopes - f) ≤ 16384
  fit_case f n true le e = let most = has.most in let less : n < universe_size scopes - f = ltb-true n (universe_size scopes - f) e in omega (arith, most, le, less)
  fit_case f n false le e = let most = has.most in omega (arith, most, le)

  pub fits_sig : (k : ℕ) → (get_or spans.sigs.items k no_span).first + (get_or spans.sigs.items k no_span).count ≤ 16384
  fits_sig k = elim (option_cases (slice_get scopes.numbers k)) [
    | inl none ↦ subst (λ (s : AtomRange). s.first + s.count ≤ 16384) (sym (lacks_span k no_span none)) (omega arith)
    | inr (s, some) ↦
        let most = first_most scopes.numbers k in
        subst (λ (z : AtomRange). z.first + z.count ≤ 16384) (sym (sig_span k no_span s some)) (fit_case (first_atom scopes.numbers k) (or_zero s.number) (nat_lt (or_zero s.number) (universe_size scopes - first_atom scopes.numbers k)) (omega (arith, most)) refl)
  ]

  pub fits_integers : spans.integers.first + spans.integers.count ≤ 16384
  fits_integers = subst (λ (s : AtomRange). s.first + s.count ≤ 16384) (sym has.integers) has.most

  -- where the atoms of a literal's parent begin
  pub first_is : (p : ℕ) → first_in spans p ≡ first_atom scopes.numbers p
  first_is p = elim (option_cases (slice_get scopes.numbers p)) [
    | inl none ↦ ap (λ (s : AtomRange). s.first) (lacks_span p spans.integers none ∙ has.integers) ∙ sym (all_before scopes.numbers p none)
    | inr (s, some) ↦ ap (λ (z : AtomRange). z.first) (sig_span p spans.integers s some)
  ]

right_in : (all : List Sketch) (n : ℕ) (k : Sketch) → All IsRightSketch all → slice_get all n ≡ Some k → IsRightSketch k
right_in all n k right at = subst (λ (s : Sketch). IsRightSketch s) (get_or_from_slice_get all n k k at) (right n k (slice_get_within all n k at))

-- ---- rows of a type

module _ (model : Model) (scopes : Scopes) (spans : AtomRanges) (standing : List ℕ) (sets : AtomSets) (has : HasSpans scopes spans) (stands : HasStanding model.sigs scopes.numbers standing) (given : AreGiven model scopes sets) where
  column_is : (c : Column) (a : ℕ) → In (a ∷ []) (set_at sets (kind_at standing c)) ↔ (InColumnTable model scopes c a × (a < universe_size scopes))
  column_is IntColumn a = given.integers a
  column_is (SigColumn s) a = subst (λ (n : ℕ). In (a ∷ []) (set_at sets (sig_kind n)) ↔ (IsGiven model scopes s a × (a < universe_size scopes))) (sym (stands s)) (given.sigs s a)

  row_is : (r : TypeRow) (t : List ℕ) → InKinds sets (row_kinds_of standing r) t ↔ (InRowTable model scopes r t × All (λ a. a < universe_size scopes) t)
  row_is [] [] = ((λ h. (tt, All-nil (λ a. a < universe_size scopes))), (λ h. tt))
  row_is [] (a ∷ t) = ((λ h. absurd h), (λ h. absurd h.0))
  row_is (c ∷ r) [] = ((λ h. absurd h), (λ h. absurd h.0))
  row_is (c ∷ r) (a ∷ t) =
      let first = column_is c a in
      let rest = row_is r t in (
        (λ h. let f = first.0 h.0 in let g = rest.0 h.1 in ((f.0, g.0), All-cons (λ a. a < universe_size scopes) a t f.1 g.1)),
        (λ h. (first.1 (h.0.0, All-head (λ a. a < universe_size scopes) a t h.1), rest.1 (h.0.1, All-tail (λ a. a < universe_size scopes) a t h.1))),
      )

  rows_are : (kinds : List (List ℕ)) (rows : TypeRows) (t : List ℕ) → HasRows kinds (rows_kinds_of standing rows) → InRows sets kinds t ↔ (((r : TypeRow) × Contains rows r × InRowTable model scopes r t) × All (λ a. a < universe_size scopes) t)
  rows_are kinds rows t same = (
    (λ h.
        let f = map_member (row_kinds_of standing) rows h.0 ((same h.0).0 h.1) in
        let g = (row_is f.0 t).0 (subst (λ (ks : List ℕ). InKinds sets ks t) f.2 h.2) in
        ((f.0, f.1, g.0), g.1)),
    (λ h.
        let r = h.0.0 in
        (row_kinds_of standing r, (same (row_kinds_of standing r)).1 (member_map (row_kinds_of standing) rows r h.0.1), (row_is r t).1 (h.0.2, h.1))),
  )

  no_limit : (o : Option ℕ) (P : ℕ → Type 0) → o ≡ None → IfSome o P
  no_limit None P e = tt
  no_limit (Some a) P e = absurd cc

  -- the bound of a field
  pub field_upper : (f : Field) (k : Sketch) (set : TupleList) → IsFieldSketch standing f k → HasJust set k.arity (InSketch sets k) → HasJust set f.columns (InFieldUpper model scopes f)
  field_upper f k set its is = record {
    columns = is.columns ∙ its.columns;
    just = λ t.
        let own = rows_are k.rows.items f.rows t its.rows in (
          (λ h. own.0 ((is.just t).0 h).0),
          (λ h. (is.just t).1 (own.1 h, no_limit k.atom (λ a. t ≡ a ∷ []) its.atom)),
        );
  }

  -- ---- the atom of a literal's sig

  literal_case : (s : ℕ) (o : Option Origin) (kind : SigKind) (a : ℕ) → IfSome (if is_some o then None else by_parent {X = Option ℕ} None (λ p. Some (first_in spans p + (s - p - 1))) kind) (λ b. a ≡ b) ↔ ((p : ℕ) → (o ≡ None) × (kind ≡ Extends p) → a ≡ first_atom scopes.numbers p + (s - p - 1))
  literal_case s (Some o) kind a = ((λ h p e. absurd cc), (λ h. tt))
  literal_case s None Top a = ((λ h p e. absurd cc), (λ h. tt))
  literal_case s None (Subset ps) a = ((λ h p e. absurd cc), (λ h. tt))
  literal_case s None (Extends q) a = (
    (λ h p e.
        let is = e.1 in
        let same : q ≡ p = cc in
        h ∙ (ap (λ (n : ℕ). n + (s - q - 1)) (first_is scopes spans has q) ∙ ap (λ (n : ℕ). first_atom scopes.numbers n + (s - n - 1)) same)),
    (λ h. h q (refl, refl) ∙ ap (λ (n : ℕ). n + (s - q - 1)) (sym (first_is scopes spans has q))),
  )

  one_number : (o : Option ℕ) (a : ℕ) → IfSome o (λ b. a ∷ [] ≡ b ∷ []) ↔ IfSome o (λ b. a ≡ b)
  one_number None a = ((λ h. h), (λ h. h))
  one_number (Some b) a = ((λ h. let same : a ≡ b = cc in same), (λ h. ap (λ (n : ℕ). n ∷ []) h))

  literal_is : (s : ℕ) (d : Sig) (a : ℕ) → IfSome (literal_in spans s d) (λ b. a ∷ [] ≡ b ∷ []) ↔ ((p : ℕ) → IsLiteral model scopes d p → a ≡ first_atom scopes.numbers p + (s - p - 1))
  literal_is s d a =
      let first = one_number (literal_in spans s d) a in
      let second = literal_case s d.origin d.kind a in
      ((λ h. second.0 (first.0 h)), (λ h. first.1 (second.1 h)))

  one_column : (rows : TypeRows) (t : List ℕ) (set : TupleList) → length t ≡ 1 → (a : ℕ) × (t ≡ a ∷ [])
  one_column rows [] set e = absurd (omega (arith, e))
  one_column rows (a ∷ []) set e = (a, refl)
  one_column rows (a ∷ b ∷ t) set e = absurd (omega (arith, e))

  kinds_length : (row t : List ℕ) → InKinds sets row t → length t ≡ length row
  kinds_length [] [] h = refl
  kinds_length [] (a ∷ t) h = absurd h
  kinds_length (k ∷ ks) [] h = absurd h
  kinds_length (k ∷ ks) (a ∷ t) h = ap (λ (n : ℕ). suc n) (kinds_length ks t h.1)

  sig_of : (s : ℕ) (d : Sig) (k : Sketch) → IsSigSketch model.sigs standing spans s d k → (a : ℕ) → InSketch sets k (a ∷ []) ↔ (InSigTable model scopes s d a × (a < universe_size scopes))
  sig_of s d k its a =
      let own = rows_are k.rows.items (sig_rows model.sigs (length model.sigs) s) (a ∷ []) its.rows in
      let word = literal_is s d a in (
        (λ h.
            let f = own.0 h.0 in
            (record { typed = f.0; literal = word.0 (subst (λ (o : Option ℕ). IfSome o (λ b. a ∷ [] ≡ b ∷ [])) its.atom h.1) }, All-head (λ b. b < universe_size scopes) a [] f.1)),
        (λ h. (own.1 (h.0.typed, All-cons (λ b. b < universe_size scopes) a [] h.1 (All-nil (λ b. b < universe_size scopes))), subst (λ (o : Option ℕ). IfSome o (λ b. a ∷ [] ≡ b ∷ [])) (sym its.atom) (word.1 h.0.literal))),
      )

  -- the bound of a sig
  pub sig_upper : (s : ℕ) (d : Sig) (k : Sketch) (set : TupleList) → IsRightSketch k → IsSigSketch model.sigs standing spans s d k → HasJust set k.arity (InSketch sets k) → HasJust set 1 (InSigUpper model scopes s d)
  sig_upper s d k set right its is = record {
    columns = is.columns ∙ its.columns;
    just = λ t. (
      (λ h.
          let f = (is.just t).0 h in
          let row = f.0 in
          let long : length row.0 ≡ k.arity = All-contains (λ r. length r ≡ k.arity) k.rows.items row.0 right.rows row.1 in
          let a = one_column [] t set (kinds_length row.0 t row.2 ∙ (long ∙ its.columns)) in
          let g = (sig_of s d k its a.0).0 (subst (InSketch sets k) a.1 f) in
          (a.0, a.1, g.0, g.1)),
      (λ h. (is.just t).1 (subst (InSketch sets k) (sym h.1) ((sig_of s d k its h.0).1 (h.2, h.3)))),
    );
  }

  pub uppers_are : (all : List Sketch) (relations : List Bound) → AreSketches model standing spans all → HasUppers sets all relations → AreUppers model scopes relations
  uppers_are all relations are have = record {
    sigs = λ s d at.
        let f = are.sigs s d (slice_get_within model.sigs s d at) at in
        let g = have s f.0 f.1 in
        (g.0, g.1, sig_upper s d f.0 g.0.upper (right_in all s f.0 are.right f.1) f.2 g.2);
    fields = λ n f at few rows.
        let h = are.fields n f (slice_get_within model.fields n f at) at in
        let g = have (length model.sigs + n) h.0 h.1 in
        (g.0, g.1, field_upper f h.0 g.0.upper (h.2 few rows) g.2);
  }
