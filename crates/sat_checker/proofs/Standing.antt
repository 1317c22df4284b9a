-- The entries of the table of clauses, as a finite map.
use Rattle.std.proofs.Common.{is_some, ◌≡◌, ℕ, cond, List, [], ◌∷◌, nat_eq, Some, None, refl, sym, ap, ◌∙◌}
use Rattle.std.specs.Ordering.{nat_cmp, eq_by_cmp}
use Rattle.std.specs.Cmp.{unsigned_tied}
use Rattle.std.proofs.lemmas.Cmp.{nat_cmp_total, eq_by_cmp_equiv}
use Rattle.std.specs.Map.{lookup}
use Rattle.std.specs.List.{list_all}
use Rattle.std.specs.FinMap as map
use Rattle.std.specs.FinMap.{nat_cmp-IsAntisymmetric}
use Rattle.std.specs.FinMap.Entries.{find}

turned_test : (k q : ℕ) → nat_eq k q ≡ eq_by_cmp nat_cmp q k
turned_test k q = sym (unsigned_tied k q) ∙ (eq_by_cmp_equiv nat_cmp_total).symm k q

module _ {X : Type 0} where
  find_is_lookup : (es : List (ℕ × X)) (q : ℕ) → find nat_cmp q es ≡ lookup (nat_eq q) es
  find_is_lookup [] q = refl
  find_is_lookup (e ∷ es) q = ap (λ b. cond b (Some e.1) (find nat_cmp q es)) (unsigned_tied q e.0) ∙ ap (cond (nat_eq q e.0) (Some e.1)) (find_is_lookup es q)

  -- the finite map finds what the table finds
  pub get_view : (es : List (ℕ × X)) (q : ℕ) → map.get (map.from_entries {R = nat_cmp} es) q ≡ lookup (nat_eq q) es
  get_view es q = map.get-from_entries nat_cmp_total es q ∙ find_is_lookup es q

  pub view_inserted : (es fs : List (ℕ × X)) (k : ℕ) (x : X) → ((q : ℕ) → lookup (nat_eq q) fs ≡ cond (nat_eq k q) (Some x) (lookup (nat_eq q) es))
      → map.from_entries {R = nat_cmp} fs ≡ map.insert (map.from_entries es) k x
  view_inserted es fs k x h =
      map.same_map nat_cmp_total nat_cmp-IsAntisymmetric _ _
      (λ q. get_view fs q ∙ h q ∙ ap (λ b. cond b (Some x) (lookup (nat_eq q) es)) (turned_test k q)
      ∙ sym (map.get-insert nat_cmp_total (map.from_entries es) k x q ∙ ap (cond (eq_by_cmp nat_cmp q k) (Some x)) (get_view es q)))

  pub view_removed : (es fs : List (ℕ × X)) (k : ℕ) → ((q : ℕ) → lookup (nat_eq q) fs ≡ cond (nat_eq k q) None (lookup (nat_eq q) es))
      → map.from_entries {R = nat_cmp} fs ≡ map.remove (map.from_entries es) k
  view_removed es fs k h =
      map.same_map nat_cmp_total nat_cmp-IsAntisymmetric _ _
      (λ q. get_view fs q ∙ h q ∙ ap (λ b. cond b None (lookup (nat_eq q) es)) (turned_test k q)
      ∙ sym (map.get-remove nat_cmp_total (map.from_entries es) k q ∙ ap (cond (eq_by_cmp nat_cmp q k) None) (get_view es q)))

  -- the numbers of clauses that stand
  pub same_stand : (es : List (ℕ × X)) (ids : List ℕ) → list_all (λ id. is_some (map.get (map.from_entries {R = nat_cmp} es) id)) ids ≡ list_all (λ id. is_some (lookup (nat_eq id) es)) ids
  same_stand es ids = ap (λ test. list_all test ids) (λ i id. is_some (get_view es id i))

  -- the finite map as a function
  pub same_get : (es : List (ℕ × X)) → map.get (map.from_entries {R = nat_cmp} es) ≡ (λ q. lookup (nat_eq q) es)
  same_get es = λ i q. get_view es q i
