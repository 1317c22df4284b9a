-- Clauses by their numbers, once one more comes or one is taken out.
use Rattle.std.proofs.Common.{ℕ, ◌+◌, ◌-◌, ◌≤◌, ◌≡◌, ℤ, Bool, true, false, cond, List, ◌++◌, length, take, drop, nat_eq, Option, Some, None, IfSome, is_some, refl, sym, ap, subst, ◌∙◌, arith}
use Rattle.std.specs.Option.{option_map}
use Rattle.std.specs.Map.{lookup}
use Rattle.std.proofs.lemmas.List.{take_all, take-append-le, drop-append-le, length-drop}
use Rattle.std.proofs.Math.Seq.{drop-append_seam}
use Rattle.std.proofs.lemmas.Map.Made.{lookup-map_values}
use Rattle.sat_checker.specs.declared.table.Span.{Span}
use Rattle.sat_checker.specs.Table.{found, literals_at, entries_of, IsWithin, AreWithin}

-- ---- literals of spans

-- behind the others
pub new_at : (xs ys : List ℤ) (span : Span) → span.first ≡ length xs → span.end ≡ length xs + length ys → literals_at (xs ++ ys) span ≡ ys
new_at xs ys span first end =
    let size : length ys ≤ span.end - span.first = omega (arith, first, end) in
    ap (λ (n : ℕ). take (span.end - span.first) (drop n (xs ++ ys))) first
    ∙ (ap (take (span.end - span.first)) (drop-append_seam xs ys) ∙ take_all (span.end - span.first) ys size)

-- among the others
pub old_at : (xs ys : List ℤ) (span : Span) → IsWithin (length xs) span → literals_at (xs ++ ys) span ≡ literals_at xs span
old_at xs ys span within =
    let start : span.first ≤ length xs = omega (arith, within.0, within.1) in
    let size : span.end - span.first ≤ length (drop span.first xs) = omega (arith, length-drop span.first xs, within.1) in
    ap (take (span.end - span.first)) (drop-append-le span.first xs ys start) ∙ take-append-le (span.end - span.first) (drop span.first xs) ys size

old_found : (xs ys : List ℤ) (o : Option Span) → IfSome o (IsWithin (length xs)) → option_map (literals_at (xs ++ ys)) o ≡ option_map (literals_at xs) o
old_found xs ys None within = refl
old_found xs ys (Some span) within = ap Some (old_at xs ys span within)

wider : (n m : ℕ) (o : Option Span) → n ≤ m → IfSome o (IsWithin n) → IfSome o (IsWithin m)
wider n m None more within = tt
wider n m (Some span) more within = (within.0, omega (arith, within.1, more))

-- ---- what is found

pub found_by : (xs : List ℤ) (es : List (ℕ × Span)) (id : ℕ) → found (entries_of xs es) id ≡ option_map (literals_at xs) (lookup (nat_eq id) es)
found_by xs es id = lookup-map_values (literals_at xs) (nat_eq id) es

pub found_none : (xs : List ℤ) (es : List (ℕ × Span)) (id : ℕ) → None ≡ lookup (nat_eq id) es → None ≡ found (entries_of xs es) id
found_none xs es id none = sym (found_by xs es id ∙ ap (option_map (literals_at xs)) (sym none))

pub found_some : (xs : List ℤ) (es : List (ℕ × Span)) (id : ℕ) (span : Span) → Some span ≡ lookup (nat_eq id) es → Some (literals_at xs span) ≡ found (entries_of xs es) id
found_some xs es id span some = sym (found_by xs es id ∙ ap (option_map (literals_at xs)) (sym some))

pub within_some : (n : ℕ) (es : List (ℕ × Span)) (id : ℕ) (span : Span) → Some span ≡ lookup (nat_eq id) es → AreWithin n es → IsWithin n span
within_some n es id span some within = subst (λ (o : Option Span). IfSome o (IsWithin n)) (sym some) (within id)

same_is_some : {X Y : Type 0} (f : X → Y) (o : Option X) → is_some o ≡ is_some (option_map f o)
same_is_some f None = refl
same_is_some f (Some x) = refl

pub has_found : (xs : List ℤ) (es : List (ℕ × Span)) (id : ℕ) → is_some (lookup (nat_eq id) es) ≡ is_some (found (entries_of xs es) id)
has_found xs es id = same_is_some (literals_at xs) (lookup (nat_eq id) es) ∙ ap is_some (sym (found_by xs es id))

-- ---- one clause more

module _ (xs ys : List ℤ) (es fs : List (ℕ × Span)) (id : ℕ) (span : Span) where
  pub put_found : ((q : ℕ) → lookup (nat_eq q) fs ≡ cond (nat_eq id q) (Some span) (lookup (nat_eq q) es)) → span.first ≡ length xs → span.end ≡ length xs + length ys → AreWithin (length xs) es
      → (q : ℕ) → found (entries_of (xs ++ ys) fs) q ≡ cond (nat_eq id q) (Some ys) (found (entries_of xs es) q)
  put_found put first end within q =
      found_by (xs ++ ys) fs q ∙ (ap (option_map (literals_at (xs ++ ys))) (put q)
      ∙ (split (nat_eq id q) ∙ ap (cond (nat_eq id q) (Some ys)) (sym (found_by xs es q))))
    where
      split : (b : Bool) → option_map (literals_at (xs ++ ys)) (cond b (Some span) (lookup (nat_eq q) es)) ≡ cond b (Some ys) (option_map (literals_at xs) (lookup (nat_eq q) es))
      split true = ap Some (new_at xs ys span first end)
      split false = old_found xs ys (lookup (nat_eq q) es) (within q)

  pub put_within : (n : ℕ) → length xs ≤ n → IsWithin n span → AreWithin (length xs) es → ((q : ℕ) → lookup (nat_eq q) fs ≡ cond (nat_eq id q) (Some span) (lookup (nat_eq q) es)) → AreWithin n fs
  put_within n more this within put q = subst (λ (o : Option Span). IfSome o (IsWithin n)) (sym (put q)) (split (nat_eq id q))
    where
      split : (b : Bool) → IfSome (cond b (Some span) (lookup (nat_eq q) es)) (IsWithin n)
      split true = this
      split false = wider (length xs) n (lookup (nat_eq q) es) more (within q)

-- ---- one clause less

module _ (xs : List ℤ) (es fs : List (ℕ × Span)) (id : ℕ) where
  pub removed_found : ((q : ℕ) → lookup (nat_eq q) fs ≡ cond (nat_eq id q) None (lookup (nat_eq q) es)) → (q : ℕ) → found (entries_of xs fs) q ≡ cond (nat_eq id q) None (found (entries_of xs es) q)
  removed_found removed q =
      found_by xs fs q ∙ (ap (option_map (literals_at xs)) (removed q)
      ∙ (split (nat_eq id q) ∙ ap (cond (nat_eq id q) None) (sym (found_by xs es q))))
    where
      split : (b : Bool) → option_map (literals_at xs) (cond b None (lookup (nat_eq q) es)) ≡ cond b None (option_map (literals_at xs) (lookup (nat_eq q) es))
      split true = refl
      split false = refl

  pub removed_within : AreWithin (length xs) es → ((q : ℕ) → lookup (nat_eq q) fs ≡ cond (nat_eq id q) None (lookup (nat_eq q) es)) → AreWithin (length xs) fs
  removed_within within removed q = subst (λ (o : Option Span). IfSome o (IsWithin (length xs))) (sym (removed q)) (split (nat_eq id q))
    where
      split : (b : Bool) → IfSome (cond b None (lookup (nat_eq q) es)) (IsWithin (length xs))
      split true = tt
      split false = within q
