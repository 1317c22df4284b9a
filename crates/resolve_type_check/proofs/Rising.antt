-- One level up from `in` sigs to their parents.
use Rattle.std.proofs.Common.{◌≡◌, ◌↔◌, ℕ, suc, List, [], ◌∷◌, ◌++◌, length, Contains, flat_map, Option, Some, None, slice_get, refl, sym, ap, ◌∙◌, subst, append-nil, arith, ⊎_elim}
use Rattle.std.proofs.lemmas.List.Elements.{Contains-append_left, Contains-append_right, Contains-append_cases}
use Rattle.core_tree.specs.declared.model.Sig.{Sig}
use Rattle.core_tree.specs.declared.model.SigKind.{SigKind}
use Rattle.core_tree.specs.declared.model.SigKind.TheVariants.{Top, Extends, Subset}
use Rattle.core_tree.specs.declared.model.Column.{Column}
use Rattle.core_tree.specs.declared.model.Column.TheVariants.{Sig as SigColumn, Int as IntColumn}
use Rattle.core_tree.specs.Types.{TypeRow, TypeRows, by_sig, parent_rows, kind_rows, sig_rows}
use Rattle.resolve_type_check.specs.Same.{SameRows}
use Rattle.resolve_type_check.specs.Steps.{standing_rows}
use Rattle.resolve_type_check.specs.Levels.{int_row, sig_of, kind_here, rows_here, kind_above, sigs_above}
use Rattle.resolve_type_check.proofs.Flat.{none_in, only_in, head_in, into_flat, from_flat}
use Rattle.resolve_type_check.proofs.Monotone.{same_from, same_then}

-- what a parent gives
module _ (rows : ℕ → TypeRows) where
  column_to : (ps : List Column) (c : Column) (r : TypeRow) → Contains ps c → Contains (parent_rows rows c) r → Contains (flat_map int_row ps ++ flat_map rows (flat_map sig_of ps)) r
  column_to ps IntColumn r here h = Contains-append_left (flat_map int_row ps) (flat_map rows (flat_map sig_of ps)) r (into_flat int_row ps IntColumn r here h)
  column_to ps (SigColumn p) r here h =
      Contains-append_right (flat_map int_row ps) (flat_map rows (flat_map sig_of ps)) r
      (into_flat rows (flat_map sig_of ps) p r (into_flat sig_of ps (SigColumn p) p here (head_in p [])) h)

  int_back : (ps : List Column) (c : Column) (r : TypeRow) → Contains ps c → Contains (int_row c) r → Contains (flat_map (parent_rows rows) ps) r
  int_back ps IntColumn r here h = into_flat (parent_rows rows) ps IntColumn r here h
  int_back ps (SigColumn p) r here h = absurd (none_in r h)

  sig_back : (ps : List Column) (c : Column) (p : ℕ) (r : TypeRow) → Contains ps c → Contains (sig_of c) p → Contains (rows p) r → Contains (flat_map (parent_rows rows) ps) r
  sig_back ps IntColumn p r here is h = absurd (none_in p is)
  sig_back ps (SigColumn q) p r here is h = into_flat (parent_rows rows) ps (SigColumn q) r here (subst (λ k. Contains (rows k) r) (sym (only_in q p is)) h)

  parents_same : (ps : List Column) → SameRows (flat_map (parent_rows rows) ps) (flat_map int_row ps ++ flat_map rows (flat_map sig_of ps))
  parents_same ps = record {
    to = λ r h. let found = from_flat (parent_rows rows) ps r h in column_to ps found.0 r found.1 found.2;
    back = λ r h. ⊎_elim
        (λ k. let found = from_flat int_row ps r k in int_back ps found.0 r found.1 found.2)
        (λ k. let found = from_flat rows (flat_map sig_of ps) r k in let up = from_flat sig_of ps found.0 found.1 in sig_back ps up.0 found.0 r up.1 up.2 found.2)
        (Contains-append_cases (flat_map int_row ps) (flat_map rows (flat_map sig_of ps)) r h);
  }

  kind_same : (itself : TypeRows) (k : SigKind) → SameRows (kind_rows itself rows k) (kind_here itself k ++ flat_map rows (kind_above k))
  kind_same itself Top = same_from itself (itself ++ []) (sym (append-nil itself))
  kind_same itself (Extends p) = same_from itself (itself ++ []) (sym (append-nil itself))
  kind_same itself (Subset ps) = parents_same ps

  sig_same : (itself : TypeRows) (o : Option Sig) → SameRows (by_sig [] (λ d. kind_rows itself rows d.kind) o) (by_sig [] (λ d. kind_here itself d.kind) o ++ flat_map rows (by_sig [] (λ d. kind_above d.kind) o))
  sig_same itself None = same_from [] [] refl
  sig_same itself (Some d) = kind_same itself d.kind

module _ (sigs : List Sig) where
  one_same : (m s : ℕ) → SameRows (sig_rows sigs (suc m) s) (rows_here sigs s ++ flat_map (sig_rows sigs m) (sigs_above sigs s))
  one_same m s = sig_same (sig_rows sigs m) (standing_rows sigs s) (slice_get sigs s)

  level_same : (m : ℕ) (ws : List ℕ) → SameRows (flat_map (sig_rows sigs (suc m)) ws) (flat_map (rows_here sigs) ws ++ flat_map (sig_rows sigs m) (flat_map (sigs_above sigs) ws))
  level_same m ws = record {
    to = λ r h.
        let found = from_flat (sig_rows sigs (suc m)) ws r h in
        let s = found.0 in
        ⊎_elim
        (λ k. Contains-append_left (flat_map (rows_here sigs) ws) (flat_map (sig_rows sigs m) (flat_map (sigs_above sigs) ws)) r (into_flat (rows_here sigs) ws s r found.1 k))
        (λ k. let up = from_flat (sig_rows sigs m) (sigs_above sigs s) r k in
        Contains-append_right (flat_map (rows_here sigs) ws) (flat_map (sig_rows sigs m) (flat_map (sigs_above sigs) ws)) r
        (into_flat (sig_rows sigs m) (flat_map (sigs_above sigs) ws) up.0 r (into_flat (sigs_above sigs) ws s up.0 found.1 up.1) up.2))
        (Contains-append_cases (rows_here sigs s) (flat_map (sig_rows sigs m) (sigs_above sigs s)) r ((one_same m s).to r found.2));
    back = λ r h. ⊎_elim
        (λ k. let found = from_flat (rows_here sigs) ws r k in
        into_flat (sig_rows sigs (suc m)) ws found.0 r found.1 ((one_same m found.0).back r (Contains-append_left (rows_here sigs found.0) (flat_map (sig_rows sigs m) (sigs_above sigs found.0)) r found.2)))
        (λ k. let up = from_flat (sig_rows sigs m) (flat_map (sigs_above sigs) ws) r k in
        let found = from_flat (sigs_above sigs) ws up.0 up.1 in
        into_flat (sig_rows sigs (suc m)) ws found.0 r found.1
        ((one_same m found.0).back r (Contains-append_right (rows_here sigs found.0) (flat_map (sig_rows sigs m) (sigs_above sigs found.0)) r (into_flat (sig_rows sigs m) (sigs_above sigs found.0) up.0 r found.2 up.2))))
        (Contains-append_cases (flat_map (rows_here sigs) ws) (flat_map (sig_rows sigs m) (flat_map (sigs_above sigs) ws)) r h);
  }

  pub here_none : (s : ℕ) → slice_get sigs s ≡ None → [] ≡ rows_here sigs s
  here_none s none = sym (ap (by_sig [] (λ (d : Sig). kind_here (standing_rows sigs s) d.kind)) none)

  pub above_none : (s : ℕ) → slice_get sigs s ≡ None → [] ≡ sigs_above sigs s
  above_none s none = sym (ap (by_sig [] (λ (d : Sig). kind_above d.kind)) none)

  pub here_at : (s : ℕ) (d : Sig) → slice_get sigs s ≡ Some d → kind_here (standing_rows sigs s) d.kind ≡ rows_here sigs s
  here_at s d at = sym (ap (by_sig [] (λ (x : Sig). kind_here (standing_rows sigs s) x.kind)) at)

  pub above_at : (s : ℕ) (d : Sig) → slice_get sigs s ≡ Some d → kind_above d.kind ≡ sigs_above sigs s
  above_at s d at = sym (ap (by_sig [] (λ (x : Sig). kind_above x.kind)) at)

  -- what the rows so far and those of the sigs that wait make, with so many levels left
  abbrev pub with_waiting : ℕ → TypeRows → List ℕ → TypeRows
  with_waiting n all ws = all ++ flat_map (sig_rows sigs n) ws

  pub first_level : (all : TypeRows) (ws : List ℕ) (s n : ℕ) → all ≡ [] → ws ≡ s ∷ [] → SameRows (with_waiting n all ws) (sig_rows sigs n s)
  first_level all ws s n none one =
      let first : with_waiting n all ws ≡ with_waiting n all (s ∷ []) = ap (λ (l : List ℕ). with_waiting n all l) one in
      let bare : with_waiting n all (s ∷ []) ≡ with_waiting n [] (s ∷ []) = ap (λ (a : TypeRows). with_waiting n a (s ∷ [])) none in
      same_from (with_waiting n all ws) (sig_rows sigs n s) (first ∙ bare ∙ append-nil (sig_rows sigs n s))

  pub next_level : (n m : ℕ) (all new whole : TypeRows) (ws next left : List ℕ) → n ≡ suc m → new ≡ all ++ flat_map (rows_here sigs) ws → next ≡ flat_map (sigs_above sigs) ws → ((s : ℕ) → Contains left s ↔ Contains next s) → SameRows (with_waiting n all ws) whole → SameRows (with_waiting m new left) whole
  next_level n m all new whole ws next left is made ups same rows =
      let here = flat_map (rows_here sigs) ws in
      let above = flat_map (sigs_above sigs) ws in
      let step = level_same m ws in
      let old = subst (λ (k : ℕ). SameRows (with_waiting k all ws) whole) is rows in
      let parts : SameRows (with_waiting m new left) (all ++ (here ++ flat_map (sig_rows sigs m) above)) = record {
        to = λ r h. ⊎_elim
            (λ k. ⊎_elim
            (λ a. Contains-append_left all (here ++ flat_map (sig_rows sigs m) above) r a)
            (λ b. Contains-append_right all (here ++ flat_map (sig_rows sigs m) above) r (Contains-append_left here (flat_map (sig_rows sigs m) above) r b))
            (Contains-append_cases all here r (subst (λ (l : TypeRows). Contains l r) made k)))
            (λ k. let found = from_flat (sig_rows sigs m) left r k in
            Contains-append_right all (here ++ flat_map (sig_rows sigs m) above) r (Contains-append_right here (flat_map (sig_rows sigs m) above) r
            (into_flat (sig_rows sigs m) above found.0 r (subst (λ (l : List ℕ). Contains l found.0) ups ((same found.0).0 found.1)) found.2)))
            (Contains-append_cases new (flat_map (sig_rows sigs m) left) r h);
        back = λ r h. ⊎_elim
            (λ a. Contains-append_left new (flat_map (sig_rows sigs m) left) r (subst (λ (l : TypeRows). Contains l r) (sym made) (Contains-append_left all here r a)))
            (λ k. ⊎_elim
            (λ b. Contains-append_left new (flat_map (sig_rows sigs m) left) r (subst (λ (l : TypeRows). Contains l r) (sym made) (Contains-append_right all here r b)))
            (λ d. let found = from_flat (sig_rows sigs m) above r d in
            Contains-append_right new (flat_map (sig_rows sigs m) left) r
            (into_flat (sig_rows sigs m) left found.0 r ((same found.0).1 (subst (λ (l : List ℕ). Contains l found.0) (sym ups) found.1)) found.2))
            (Contains-append_cases here (flat_map (sig_rows sigs m) above) r k))
            (Contains-append_cases all (here ++ flat_map (sig_rows sigs m) above) r h);
      } in
      let through : SameRows (all ++ (here ++ flat_map (sig_rows sigs m) above)) (with_waiting (suc m) all ws) = record {
        to = λ r h. ⊎_elim
            (λ a. Contains-append_left all (flat_map (sig_rows sigs (suc m)) ws) r a)
            (λ k. Contains-append_right all (flat_map (sig_rows sigs (suc m)) ws) r (step.back r k))
            (Contains-append_cases all (here ++ flat_map (sig_rows sigs m) above) r h);
        back = λ r h. ⊎_elim
            (λ a. Contains-append_left all (here ++ flat_map (sig_rows sigs m) above) r a)
            (λ k. Contains-append_right all (here ++ flat_map (sig_rows sigs m) above) r (step.to r k))
            (Contains-append_cases all (flat_map (sig_rows sigs (suc m)) ws) r h);
      } in
      same_then (with_waiting m new left) (all ++ (here ++ flat_map (sig_rows sigs m) above)) whole parts (same_then (all ++ (here ++ flat_map (sig_rows sigs m) above)) (with_waiting (suc m) all ws) whole through old)

  no_rows_left : (ws : List ℕ) (r : TypeRow) → Contains (flat_map (sig_rows sigs 0) ws) r → ⊥
  no_rows_left ws r h = let found = from_flat (sig_rows sigs 0) ws r h in none_in r found.2

  no_sigs_left : (n : ℕ) (ws : List ℕ) (r : TypeRow) → length ws ≡ 0 → Contains (flat_map (sig_rows sigs n) ws) r → ⊥
  no_sigs_left n ws r e h =
      let found = from_flat (sig_rows sigs n) ws r h in
      let lt = found.1.1 in omega (arith, e, lt)

  ended_by : (n : ℕ) (all whole : TypeRows) (ws : List ℕ) → ((r : TypeRow) → Contains (flat_map (sig_rows sigs n) ws) r → ⊥) → SameRows (with_waiting n all ws) whole → SameRows all whole
  ended_by n all whole ws none rows = record {
    to = λ r h. rows.to r (Contains-append_left all (flat_map (sig_rows sigs n) ws) r h);
    back = λ r h. ⊎_elim (λ a. a) (λ k. absurd (none r k)) (Contains-append_cases all (flat_map (sig_rows sigs n) ws) r (rows.back r h));
  }

  pub last_level : (n : ℕ) (all whole : TypeRows) (ws : List ℕ) → n ≡ 0 → SameRows (with_waiting n all ws) whole → SameRows all whole
  last_level n all whole ws e rows = ended_by 0 all whole ws (no_rows_left ws) (subst (λ (k : ℕ). SameRows (with_waiting k all ws) whole) e rows)

  pub none_wait : (n : ℕ) (all whole : TypeRows) (ws : List ℕ) → length ws ≡ 0 → SameRows (with_waiting n all ws) whole → SameRows all whole
  none_wait n all whole ws e rows = ended_by n all whole ws (λ r h. no_sigs_left n ws r e h) rows
