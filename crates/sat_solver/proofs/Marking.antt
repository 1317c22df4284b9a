-- Marks of clauses that have entries, and what is detached by them.
use Rattle.std.proofs.Common.{ℕ, ◌+◌, ◌<◌, ◌≤◌, ◌≡◌, ◌≢◌, Bool, true, false, List, [], ◌∷◌, ◌++◌, length, get_or, replicate, sym, ap, subst, ◌∙◌, inl, inr, ◌⊎◌, ⊎_elim, arith}
use Rattle.std.proofs.lemmas.Bool.{cases_lt, cases_eq, false≢true}
use Rattle.std.proofs.lemmas.List.{length-replicate, get_or-replicate, get_or_past, get_or_append_left, get_or_push, length_push}
use Rattle.sat_trail.specs.State.{Search, IsAttached}
use Rattle.sat_dropped.specs.Entries.{Entries, HasEntry}
use Rattle.sat_solver.specs.Covered.{Drops}

none_true : (n i : ℕ) → get_or (replicate n false) i false ≡ false
none_true n i = ⊎_elim
    (λ (low : i < n). get_or-replicate n i false false low)
    (λ (up : n ≤ i). get_or_past (replicate n false) i false (omega (arith, up, length-replicate n false)))
    (cases_lt i n)

pub marked_none : (marks : List Bool) (n : ℕ) (d : Entries) → marks ≡ replicate n false → (i : ℕ) → get_or marks i false ≡ true → (n ≤ i) × HasEntry d (i + 1)
marked_none marks n d none i h = absurd (false≢true (sym (none_true n i) ∙ (sym (ap (λ (bs : List Bool). get_or bs i false) none) ∙ h)))

pub marked_more : (marks marks' : List Bool) (first place : ℕ) (is_filed : Bool) (d e : Entries) → first ≤ place → length marks ≡ place → marks' ≡ marks ++ is_filed ∷ [] → ((n : ℕ) → HasEntry d n → HasEntry e n) → (is_filed ≡ true → HasEntry e (place + 1))
    → ((i : ℕ) → get_or marks i false ≡ true → (first ≤ i) × HasEntry d (i + 1)) → (i : ℕ) → get_or marks' i false ≡ true → (first ≤ i) × HasEntry e (i + 1)
marked_more marks marks' first place is_filed d e from count pushed kept filed h i is =
    let at : get_or (marks ++ is_filed ∷ []) i false ≡ true = sym (ap (λ (bs : List Bool). get_or bs i false) pushed) ∙ is in
    ⊎_elim
    (λ (low : i < length marks).
    let old = h i (sym (get_or_append_left marks (is_filed ∷ []) false i low) ∙ at) in
    (old.0, kept (i + 1) old.1))
    (λ (up : length marks ≤ i). ⊎_elim
    (λ (last : i ≡ place).
    let yes : is_filed ≡ true = sym (get_or_push marks is_filed false i (omega (arith, last, count))) ∙ at in
    (omega (arith, from, last), subst (λ (n : ℕ). HasEntry e (n + 1)) (sym last) (filed yes)))
    (λ (other : i ≢ place).
    let past : length (marks ++ is_filed ∷ []) ≤ i = omega (arith, up, other, count, length_push marks is_filed) in
    absurd (false≢true (sym (get_or_past (marks ++ is_filed ∷ []) i false past) ∙ at)))
    (cases_eq i place))
    (cases_lt i (length marks))

pub drops_by : (s t : Search) (first : ℕ) (d : Entries) (given marks : List Bool) → given ≡ marks → ((i : ℕ) → IsAttached s i → IsAttached t i ⊎ (get_or given i false ≡ true)) → ((i : ℕ) → IsAttached t i → IsAttached s i)
    → ((i : ℕ) → get_or marks i false ≡ true → (first ≤ i) × HasEntry d (i + 1)) → Drops s t first d
drops_by s t first d given marks is attached only marked = record {
  left = λ i here. ⊎_elim
      (λ (still : IsAttached t i). inl still)
      (λ (mark : get_or given i false ≡ true). inr (marked i (sym (ap (λ (bs : List Bool). get_or bs i false) is) ∙ mark)))
      (attached i here);
  only = only;
}
