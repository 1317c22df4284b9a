-- An entry that was found is taken out.
use Rattle.std.proofs.Common.{ℕ, ◌-◌, ◌<◌, ◌≤◌, ◌≡◌, ℤ, List, length, get_or, set, Some, sym, ap, subst, ◌∙◌, inl, inr, ◌⊎◌, ⊎_elim, arith}
use Rattle.std.specs.List.{remove}
use Rattle.std.proofs.lemmas.List.{get_or_default}
use Rattle.sat_trail.specs.State.{Search, clause_at}
use Rattle.sat_dropped.specs.Part.{IsPart}
use Rattle.sat_dropped.specs.Entries.{Entries, list_at, HasEntry, AreFiled}
use Rattle.sat_dropped.proofs.Filing.{filed_removed, list_within, entry_left, entry_at}

-- the entry at a place of a list is one of a clause that is part of some literals
abbrev IsFound : Search → List ℤ → List (List ℕ) → ℕ → ℕ → Type 0
IsFound s literals numbers c k = (c < length numbers) × (k < length (list_at numbers c)) × IsPart (clause_at s (get_or (list_at numbers c) k 0 - 1)) literals

found_as : (s : Search) (literals : List ℤ) (xs numbers : List (List ℕ)) (c k : ℕ) → xs ≡ numbers → IsFound s literals xs c k → IsFound s literals numbers c k
found_as s literals xs numbers c k is h = subst (λ (zs : List (List ℕ)). IsFound s literals zs c k) is h

number_as : (o d : Entries) (c k n : ℕ) → o ≡ d → n ≡ get_or (list_at o.numbers c) k 0 → n ≡ get_or (list_at d.numbers c) k 0
number_as o d c k n is h = h ∙ ap (λ (x : Entries). get_or (list_at x.numbers c) k 0) is

pub part_taken : (s : Search) (literals : List ℤ) (o d : Entries) (xs : List (List ℕ)) (c k n : ℕ) → o ≡ d → xs ≡ o.numbers → n ≡ get_or (list_at o.numbers c) k 0 → AreFiled s d.signatures d.numbers → IsFound s literals xs c k
    → (0 < n) × (n ≤ length s.ends) × HasEntry d n × IsPart (clause_at s (n - 1)) literals
part_taken s literals o d xs c k n same is taken filed found =
    let at = number_as o d c k n same taken in
    let f = found_as s literals xs d.numbers c k (is ∙ ap (λ (x : Entries). x.numbers) same) found in
    let number = ((filed c).each k f.1).signed.number in
    (omega (arith, at, number.0), omega (arith, at, number.1), entry_at d c k n f.1 at, subst (λ (m : ℕ). IsPart (clause_at s (m - 1)) literals) (sym at) f.2)

pub filed_taken : (s : Search) (literals : List ℤ) (o d e : Entries) (xs : List (List ℕ)) (c k : ℕ) → o ≡ d → xs ≡ o.numbers → e.signatures ≡ set o.signatures c (remove (list_at o.signatures c) k) → e.numbers ≡ set o.numbers c (remove (list_at o.numbers c) k)
    → AreFiled s d.signatures d.numbers → IsFound s literals xs c k → AreFiled s e.signatures e.numbers
filed_taken s literals o d e xs c k same is signatures numbers filed found =
    let f = found_as s literals xs d.numbers c k (is ∙ ap (λ (x : Entries). x.numbers) same) found in
    let inside : k < length (list_at d.signatures c) = omega (arith, f.1, (filed c).beside) in
    filed_removed s d.signatures d.numbers e.signatures e.numbers c k (list_within d.signatures c k inside) f.0 f.1
    (signatures ∙ ap (λ (x : Entries). set x.signatures c (remove (list_at x.signatures c) k)) same) (numbers ∙ ap (λ (x : Entries). set x.numbers c (remove (list_at x.numbers c) k)) same) filed

pub others_taken : (s : Search) (literals : List ℤ) (o d e : Entries) (xs : List (List ℕ)) (c k n m : ℕ) → o ≡ d → xs ≡ o.numbers → n ≡ get_or (list_at o.numbers c) k 0 → e.numbers ≡ set o.numbers c (remove (list_at o.numbers c) k) → IsFound s literals xs c k
    → HasEntry d m → HasEntry e m ⊎ (Some n ≡ Some m)
others_taken s literals o d e xs c k n m same is taken numbers found h =
    let at = number_as o d c k n same taken in
    let f = found_as s literals xs d.numbers c k (is ∙ ap (λ (x : Entries). x.numbers) same) found in
    ⊎_elim
    (λ (still : HasEntry e m). inl still)
    (λ (gone : get_or (list_at d.numbers c) k 0 ≡ m). inr (ap Some (at ∙ gone)))
    (entry_left d e c k m f.0 f.1 (numbers ∙ ap (λ (x : Entries). set x.numbers c (remove (list_at x.numbers c) k)) same) h)

pub none_taken : (s : Search) (literals : List ℤ) (o d : Entries) (xs : List (List ℕ)) → o ≡ d → xs ≡ o.numbers → ((c k : ℕ) → k < length (list_at xs c) → IsPart (clause_at s (get_or (list_at xs c) k 0 - 1)) literals → ⊥)
    → (n : ℕ) → HasEntry d n → IsPart (clause_at s (n - 1)) literals → ⊥
none_taken s literals o d xs same is none n h part =
    let value : get_or (list_at d.numbers h.0) h.1.0 0 ≡ n = get_or_default (list_at d.numbers h.0) h.1.0 0 n h.1.1 ∙ h.1.2 in
    subst (λ (zs : List (List ℕ)). (c k : ℕ) → k < length (list_at zs c) → IsPart (clause_at s (get_or (list_at zs c) k 0 - 1)) literals → ⊥) (is ∙ ap (λ (x : Entries). x.numbers) same) none h.0 h.1.0 h.1.1
    (subst (λ (m : ℕ). IsPart (clause_at s (m - 1)) literals) (sym value) part)
