-- The rows of the top-level sigs, and those of `univ` and `iden`.
use Rattle.std.proofs.Common.{◌≡◌, ◌∙◌, inl, inr, ℕ, ◌+◌, ◌≤◌, List, [], ◌∷◌, ◌++◌, length, take, Contains, Some, slice_get, refl, sym, ap, subst, arith}
use Rattle.std.proofs.lemmas.Bool.{cases_lt}
use Rattle.std.proofs.lemmas.List.{length-map}
use Rattle.std.proofs.lemmas.List.Elements.{Contains-append_left, Contains-push, Contains-push_cases}
use Rattle.std.proofs.lemmas.Option.{slice_get_within}
use Rattle.core_tree.specs.declared.model.Sig.{Sig}
use Rattle.resolve_types.specs.Types.{Row}
use Rattle.resolve_types.specs.declared.columns.Columns.{Columns}
use Rattle.resolve_types.specs.declared.member.Member.{Member}
use Rattle.resolve_types.specs.declared.member.Member.TheVariants as member
use Rattle.resolve_hierarchy.specs.declared.sigs.Kind.{Kind}
use Rattle.resolve_hierarchy.specs.declared.sigs.Kind.TheVariants as kind
use Rattle.resolve_hierarchy.specs.Above.{Sigs}
use Rattle.resolve_rules.specs.Types.{HasType, IsIdenRow, IsOutermost, IsUnivRow}
use Rattle.resolve_told_types.specs.Kinds.{kind_in, kinds_of}
use Rattle.resolve_told_types.specs.Steps.{AreTops, AreTopsBefore, IsNextFront, own_row, pairs_of, pairs_with}
use Rattle.resolve_told_types.proofs.Lists.{flat_map_in, in_flat_map, in_map, map_in, map_there, none_there}

pub tops_none : (sigs : List Sig) (rows : List Row) → rows ≡ [] → AreTopsBefore sigs 0 rows
tops_none sigs rows empty = record {
  only = λ row here. absurd (none_there row (subst (λ (l : List Row). Contains l row) empty here));
  every = λ s lt at. absurd (omega (arith, lt));
}

tops_push : (sigs : List Sig) (n : ℕ) (old new : List Row) → slice_get (kinds_of sigs) n ≡ Some kind.Top → new ≡ old ++ own_row n ∷ [] → AreTopsBefore sigs n old → AreTopsBefore sigs (n + 1) new
tops_push sigs n old new at e before = record {
  only = λ row here. elim (Contains-push_cases old (own_row n) row (subst (λ (l : List Row). Contains l row) e here)) [
    | inl sooner ↦ before.only row sooner
    | inr last ↦ (n, at, sym last)
  ];
  every = λ s lt top. subst (λ (l : List Row). Contains l (own_row s)) (sym e) (elim (cases_lt s n) [
    | inl sooner ↦ Contains-append_left old (own_row n ∷ []) (own_row s) (before.every s sooner top)
    | inr last ↦ let same : n ≡ s = omega arith in subst (λ k. Contains (old ++ own_row n ∷ []) (own_row k)) same (Contains-push old (own_row n))
  ]);
}

tops_same : (sigs : List Sig) (n : ℕ) (d : Kind) (rows : List Row) → slice_get (kinds_of sigs) n ≡ Some d → (d ≡ kind.Top → ⊥) → AreTopsBefore sigs n rows → AreTopsBefore sigs (n + 1) rows
tops_same sigs n d rows at other before = record {
  only = before.only;
  every = λ s lt top. elim (cases_lt s n) [
    | inl sooner ↦ before.every s sooner top
    | inr last ↦
        let same : n ≡ s = omega arith in
        let here : slice_get (kinds_of sigs) s ≡ Some d = subst (λ k. slice_get (kinds_of sigs) k ≡ Some d) same at in
        let e : d ≡ kind.Top = cc in
        absurd (other e)
  ];
}

tops_by : (sigs : List Sig) (rows : List Row) (s n m : ℕ) (d : Kind) → slice_get (kinds_of sigs) s ≡ Some d → IsNextFront s d rows n m → AreTopsBefore sigs s (take n rows) → AreTopsBefore sigs (s + 1) (take m rows)
tops_by sigs rows s n m kind.Top at step before = tops_push sigs s (take n rows) (take m rows) at step before
tops_by sigs rows s n m (kind.Extends t) at step before = subst (λ k. AreTopsBefore sigs (s + 1) (take k rows)) (sym step) (tops_same sigs s (kind.Extends t) (take n rows) at (λ e. absurd (cc)) before)
tops_by sigs rows s n m (kind.Subset ms) at step before = subst (λ k. AreTopsBefore sigs (s + 1) (take k rows)) (sym step) (tops_same sigs s (kind.Subset ms) (take n rows) at (λ e. absurd (cc)) before)

-- one sig more
pub tops_more : (sigs : List Sig) (rows : List Row) (s n m : ℕ) (x : Sig) → slice_get sigs s ≡ Some x → IsNextFront s (kind_in x) rows n m → AreTopsBefore sigs s (take n rows) → AreTopsBefore sigs (s + 1) (take m rows)
tops_more sigs rows s n m x at step before = tops_by sigs rows s n m (kind_in x) (map_there kind_in sigs s x at) step before

pub tops_all : (sigs : List Sig) (n : ℕ) (rows : List Row) → length sigs ≤ n → AreTopsBefore sigs n rows → AreTops sigs rows
tops_all sigs n rows high before = record { only = before.only; every = λ s lt top. before.every s (omega arith) top }

univ_row : (sigs : List Sig) (rows : List Row) → AreTops sigs rows → (m : Member) → IsOutermost (kinds_of sigs) m → Contains (rows ++ (member.Int ∷ []) ∷ []) (m ∷ [])
univ_row sigs rows tops member.Int outer = Contains-push rows (member.Int ∷ [])
univ_row sigs rows tops (member.Sig s) top =
    let within = slice_get_within (kinds_of sigs) s kind.Top top in
    Contains-append_left rows ((member.Int ∷ []) ∷ []) (own_row s) (tops.every s (simp length-map at within) top)

-- the rows of the top-level sigs and that of `Int` are those of `univ`
pub univ_is : (sigs : List Sig) (c : Columns) (rows : List Row) → AreTops sigs rows → c.count ≡ 1 → c.rows ≡ rows ++ (member.Int ∷ []) ∷ [] → HasType 1 (IsUnivRow (kinds_of sigs)) c
univ_is sigs c rows tops columns e = record {
  columns = columns;
  rows = λ row. (
    (λ here. elim (Contains-push_cases rows (member.Int ∷ []) row (subst (λ (l : List Row). Contains l row) e here)) [
      | inl top ↦ let t = tops.only row top in (member.Sig t.0, t.1, t.2)
      | inr int ↦ (member.Int, tt, sym int)
    ]),
    (λ h. subst (λ (l : List Row). Contains l row) (sym e) (subst (λ (r : Row). Contains (rows ++ (member.Int ∷ []) ∷ []) r) (sym h.2) (univ_row sigs rows tops h.0 h.1))),
  );
}

pair_row : (a b row : Row) (m n : Member) → a ++ b ≡ row → a ≡ m ∷ [] → b ≡ n ∷ [] → row ≡ m ∷ n ∷ []
pair_row a b row m n e first second = sym e ∙ ap (λ (x : Row). x ++ b) first ∙ ap (λ (y : Row). m ∷ y) second

-- the pairs of the rows of `univ` are the rows of `iden`
pub iden_is : (sigs : Sigs) (u i : Columns) → HasType 1 (IsUnivRow sigs) u → i.count ≡ 2 → i.rows ≡ pairs_of u.rows → HasType 2 (IsIdenRow sigs) i
iden_is sigs u i univ columns e = record {
  columns = columns;
  rows = λ row. (
    (λ here.
        let a = in_flat_map (pairs_with u.rows) u.rows row (subst (λ (l : List Row). Contains l row) e here) in
        let b = in_map (λ (other : Row). a.0 ++ other) u.rows row a.2 in
        let m = (univ.rows a.0).0 a.1 in
        let n = (univ.rows b.0).0 b.1 in
        (m.0, n.0, m.1, n.1, pair_row a.0 b.0 row m.0 n.0 b.2 m.2 n.2)),
    (λ h.
        let first = (univ.rows (h.0 ∷ [])).1 (h.0, h.2, refl) in
        let second = (univ.rows (h.1 ∷ [])).1 (h.1, h.3, refl) in
        let pair = flat_map_in (pairs_with u.rows) u.rows (h.0 ∷ []) (h.0 ∷ h.1 ∷ []) first (map_in (λ (other : Row). (h.0 ∷ []) ++ other) u.rows (h.1 ∷ []) second) in
        subst (λ (l : List Row). Contains l row) (sym e) (subst (λ (r : Row). Contains (pairs_of u.rows) r) (sym h.4) pair)),
  );
}
