-- What a search keeps of dropped lemmas, while clauses are added, detached, and attached again.
use Rattle.std.proofs.Common.{ℕ, ◌+◌, ◌-◌, ◌<◌, ◌≤◌, ◌≡◌, ◌≢◌, ℤ, Bool, true, false, List, [], length, get_or, set, Some, sym, ap, subst, ◌∙◌, inl, inr, ◌⊎◌, ⊎_elim, arith}
use Rattle.std.specs.List.{Contains}
use Rattle.std.proofs.lemmas.Bool.{cases_lt, cases_eq}
use Rattle.std.proofs.lemmas.List.{get_or_default, get_or-set_same, get_or-set_other}
use Rattle.sat_trail.specs.Watched.{IsArena, IsTrueIn}
use Rattle.sat_trail.specs.Sound.{IsOpen}
use Rattle.sat_trail.specs.State.{Search, clause_at, Keeps, Adds, IsAttached}
use Rattle.sat_analysis.specs.Learnt.{AreFilled, IsNew}
use Rattle.sat_dropped.specs.Part.{IsPart, signature_of}
use Rattle.sat_dropped.specs.Entries.{Entries, list_at, HasEntry, IsFiled, IsListFiled, AreFiled}
use Rattle.sat_solver.specs.News.{AreFirst, IsNewBeside}
use Rattle.sat_solver.specs.Covered.{AreCovered, IsIndexed, HasNoPart, Drops}
use Rattle.sat_solver.proofs.Sharing.{same_clause}
use Rattle.sat_solver.proofs.Wholeness.{clause_has, IsSettled, attached_same, attached_more, attached_last}

back : (i : ℕ) → (i + 1) - 1 ≡ i
back i = omega arith

-- ---- entries

entry_kept : (s t : Search) (c signature n : ℕ) → length s.ends ≤ length t.ends → ((i : ℕ) → i < length s.ends → clause_at t i ≡ clause_at s i) → IsFiled s c signature n → IsFiled t c signature n
entry_kept s t c signature n more same h =
    let number = h.signed.number in
    let is : clause_at t (n - 1) ≡ clause_at s (n - 1) = same (n - 1) (omega (arith, number.0, number.1)) in
    record {
      signed = record { number = (number.0, omega (arith, number.1, more)); signature_is = h.signed.signature_is ∙ sym (ap signature_of is) };
      listed = (h.listed.0, subst (λ (xs : List ℤ). Contains xs h.listed.0) (sym is) h.listed.1, h.listed.2);
    }

filed_kept : (s t : Search) (signatures numbers : List (List ℕ)) → length s.ends ≤ length t.ends → ((i : ℕ) → i < length s.ends → clause_at t i ≡ clause_at s i) → AreFiled s signatures numbers → AreFiled t signatures numbers
filed_kept s t signatures numbers more same h c = record {
  beside = (h c).beside;
  each = λ k b. entry_kept s t c (get_or (list_at signatures c) k 0) (get_or (list_at numbers c) k 0) more same ((h c).each k b);
}

pub indexed_kept : (s t : Search) (d : Entries) → t.variables ≡ s.variables → length s.ends ≤ length t.ends → ((i : ℕ) → i < length s.ends → clause_at t i ≡ clause_at s i) → IsIndexed s d → IsIndexed t d
indexed_kept s t d variables more same h = record { variables = h.variables ∙ sym variables; filed = filed_kept s t d.signatures d.numbers more same h.filed }

-- no clause changes
pub indexed_moved : (s t : Search) (d : Entries) → t.literals ≡ s.literals → t.ends ≡ s.ends → t.variables ≡ s.variables → IsIndexed s d → IsIndexed t d
indexed_moved s t d literals ends variables h = indexed_kept s t d variables (omega (arith, ap length ends)) (λ i b. same_clause s t i literals ends) h

-- one clause more
pub indexed_added : (s u t : Search) (clause : List ℤ) (d : Entries) → u.literals ≡ s.literals → u.ends ≡ s.ends → t.variables ≡ s.variables → Adds u t clause → IsIndexed s d → IsIndexed t d
indexed_added s u t clause d literals ends variables added h =
    indexed_kept s t d variables (omega (arith, ap length ends, added.count)) (λ i b. added.others i (omega (arith, b, ap length ends)) ∙ same_clause s u i literals ends) h

-- no entry
nothing_filed : (s : Search) (c : ℕ) (xs ys : List ℕ) → xs ≡ [] → ys ≡ [] → IsListFiled s c xs ys
nothing_filed s c xs ys e f = record { beside = ap length e ∙ sym (ap length f); each = λ k b. absurd (omega (arith, b, ap length f)) }

pub indexed_none : (s : Search) (d : Entries) → d.variables ≡ s.variables → ((c : ℕ) → (list_at d.signatures c ≡ []) × (list_at d.numbers c ≡ [])) → IsIndexed s d
indexed_none s d variables none = record { variables = variables; filed = λ c. nothing_filed s c (list_at d.signatures c) (list_at d.numbers c) (none c).0 (none c).1 }

-- what an entry says of its clause
entry_of : (s : Search) (d : Entries) (n : ℕ) → IsIndexed s d → (h : HasEntry d n) → IsFiled s h.0 (get_or (list_at d.signatures h.0) h.1.0 0) n
entry_of s d n indexed h =
    let is : get_or (list_at d.numbers h.0) h.1.0 0 ≡ n = get_or_default (list_at d.numbers h.0) h.1.0 0 n h.1.1 ∙ h.1.2 in
    subst (λ (m : ℕ). IsFiled s h.0 (get_or (list_at d.signatures h.0) h.1.0 0) m) is ((indexed.filed h.0).each h.1.0 h.1.1)

entry_filled : (s : Search) (d : Entries) (n : ℕ) → IsIndexed s d → HasEntry d n → 0 < length (clause_at s (n - 1))
entry_filled s d n indexed h = let c = (entry_of s d n indexed h).listed.1 in omega (arith, c.1)

-- ---- each clause is attached or has an entry

pub covered_same : (s t : Search) (d : Entries) → t.ends ≡ s.ends → t.attached ≡ s.attached → AreCovered s d → AreCovered t d
covered_same s t d ends attached h i b = ⊎_elim
    (λ (here : IsAttached s i). inl (attached_same s t i attached here))
    (λ (entry : HasEntry d (i + 1)). inr entry)
    (h i (omega (arith, b, ap length ends)))

pub covered_added : (s t : Search) (clause : List ℤ) (d : Entries) → length s.attached ≡ length s.ends → Adds s t clause → AreCovered s d → AreCovered t d
covered_added s t clause d flags added h i b = ⊎_elim
    (λ (old : i < length s.ends). ⊎_elim
    (λ (here : IsAttached s i). inl (attached_more s t clause i flags added old here))
    (λ (entry : HasEntry d (i + 1)). inr entry)
    (h i old))
    (λ (new : length s.ends ≤ i).
    let is : length s.ends ≡ i = omega (arith, new, b, added.count) in
    inl (subst (IsAttached t) is (attached_last s t clause flags added)))
    (cases_lt i (length s.ends))

-- a clause is attached again
set_attached : (s t : Search) (m i : ℕ) → t.attached ≡ set s.attached m true → m < length s.attached → IsAttached s i → IsAttached t i
set_attached s t m i is within here = ap (λ (bs : List Bool). get_or bs i false) is ∙ ⊎_elim
    (λ (same : i ≡ m). ap (λ (j : ℕ). get_or (set s.attached m true) j false) same ∙ get_or-set_same s.attached m true false within)
    (λ (other : i ≢ m). get_or-set_other s.attached m i true false other ∙ here)
    (cases_eq i m)

now_attached : (s t : Search) (m i : ℕ) → t.attached ≡ set s.attached m true → m < length s.attached → i ≡ m → IsAttached t i
now_attached s t m i is within same =
    ap (λ (bs : List Bool). get_or bs i false) is ∙ (ap (λ (j : ℕ). get_or (set s.attached m true) j false) same ∙ get_or-set_same s.attached m true false within)

pub covered_back : (s t : Search) (d e : Entries) (number : ℕ) → length s.attached ≡ length s.ends → (0 < number) × (number ≤ length s.ends) → t.ends ≡ s.ends → t.attached ≡ set s.attached (number - 1) true
    → ((n : ℕ) → HasEntry d n → HasEntry e n ⊎ (Some number ≡ Some n)) → AreCovered s d → AreCovered t e
covered_back s t d e number flags within ends is others h i b =
    let inside : number - 1 < length s.attached = omega (arith, flags, within.0, within.1) in
    ⊎_elim
    (λ (here : IsAttached s i). inl (set_attached s t (number - 1) i is inside here))
    (λ (entry : HasEntry d (i + 1)). ⊎_elim
    (λ (still : HasEntry e (i + 1)). inr still)
    (λ (taken : Some number ≡ Some (i + 1)).
    let same : number ≡ i + 1 = cc in
    inl (now_attached s t (number - 1) i is inside (omega (arith, same))))
    (others (i + 1) entry))
    (h i (omega (arith, b, ap length ends)))

-- some clauses are detached
pub covered_fewer : (s t : Search) (d e : Entries) (first : ℕ) → t.ends ≡ s.ends → Drops s t first e → ((n : ℕ) → HasEntry d n → HasEntry e n) → AreCovered s d → AreCovered t e
covered_fewer s t d e first ends drops kept h i b = ⊎_elim
    (λ (here : IsAttached s i). ⊎_elim
    (λ (still : IsAttached t i). inl still)
    (λ (gone : (first ≤ i) × HasEntry e (i + 1)). inr gone.1)
    (drops.left i here))
    (λ (entry : HasEntry d (i + 1)). inr (kept (i + 1) entry))
    (h i (omega (arith, b, ap length ends)))

-- ---- the formula's clauses

first_kept : (s t : Search) (cs : List (List ℤ)) → length s.ends ≤ length t.ends → ((i : ℕ) → i < length s.ends → clause_at t i ≡ clause_at s i) → ((k : ℕ) → k < length cs → k < length s.ends → IsAttached s k → IsAttached t k) → AreFirst s cs → AreFirst t cs
first_kept s t cs more same attached h k b = let old = h k b in (omega (arith, old.0, more), attached k b old.0 old.1, same k old.0 ∙ old.2)

pub first_same : (s t : Search) (cs : List (List ℤ)) → t.literals ≡ s.literals → t.ends ≡ s.ends → t.attached ≡ s.attached → AreFirst s cs → AreFirst t cs
first_same s t cs literals ends attached h = first_kept s t cs (omega (arith, ap length ends)) (λ i b. same_clause s t i literals ends) (λ k b c here. attached_same s t k attached here) h

pub first_added : (s t : Search) (cs : List (List ℤ)) (clause : List ℤ) → length s.attached ≡ length s.ends → Adds s t clause → AreFirst s cs → AreFirst t cs
first_added s t cs clause flags added h = first_kept s t cs (omega (arith, added.count)) added.others (λ k b c here. attached_more s t clause k flags added c here) h

pub first_back : (s t : Search) (cs : List (List ℤ)) (number : ℕ) → length s.attached ≡ length s.ends → (0 < number) × (number ≤ length s.ends) → t.literals ≡ s.literals → t.ends ≡ s.ends → t.attached ≡ set s.attached (number - 1) true → AreFirst s cs → AreFirst t cs
first_back s t cs number flags within literals ends is h =
    first_kept s t cs (omega (arith, ap length ends)) (λ i b. same_clause s t i literals ends) (λ k b c here. set_attached s t (number - 1) k is (omega (arith, flags, within.0, within.1)) here) h

pub first_fewer : (s t : Search) (cs : List (List ℤ)) (first : ℕ) (d : Entries) → first ≡ length cs → t.literals ≡ s.literals → t.ends ≡ s.ends → Drops s t first d → AreFirst s cs → AreFirst t cs
first_fewer s t cs first d count literals ends drops h = first_kept s t cs (omega (arith, ap length ends)) (λ i b. same_clause s t i literals ends) (λ k b c here. ⊎_elim
    (λ (still : IsAttached t k). still)
    (λ (gone : (first ≤ k) × HasEntry d (k + 1)). absurd (omega (arith, gone.0, b, count)))
    (drops.left k here)) h

-- ---- what follows

-- where each attached clause is settled, no clause is empty
pub filled_settled : (s : Search) (d : Entries) → IsArena s.literals s.ends s.variables → AreCovered s d → IsIndexed s d → ((i : ℕ) → IsAttached s i → IsSettled s.literals s.ends s.assignment.trail i) → AreFilled s
filled_settled s d arena covered indexed all i b = ⊎_elim
    (λ (here : IsAttached s i). ⊎_elim
    (λ (one : IsTrueIn s.literals s.ends s.assignment.trail i). let c = clause_has s i one.0 arena b one.1 in omega (arith, c.1))
    (λ (two : IsOpen s.literals s.ends s.assignment.trail i). let c = clause_has s i two.0 arena b two.2 in omega (arith, c.1))
    (all i here))
    (λ (entry : HasEntry d (i + 1)). subst (λ (n : ℕ). 0 < length (clause_at s n)) (back i) (entry_filled s d (i + 1) indexed entry))
    (covered i b)

-- what contains no attached clause and none with an entry contains none
pub new_beside : (s : Search) (d : Entries) (literals : List ℤ) → AreCovered s d → IsNew s literals → HasNoPart s d literals → IsNewBeside s literals
new_beside s d literals covered fresh none i b part = ⊎_elim
    (λ (here : IsAttached s i). fresh i b here part)
    (λ (entry : HasEntry d (i + 1)). none (i + 1) entry (subst (λ (n : ℕ). IsPart (clause_at s n) literals) (sym (back i)) part))
    (covered i b)

-- at first all clauses are the formula's
pub covered_start : (s : Search) (d : Entries) (formula : List (List ℤ)) → Keeps s formula → AreCovered s d
covered_start s d formula keeps i b = inl (keeps.attached i (omega (arith, b, keeps.count)))

pub first_start : (s : Search) (formula : List (List ℤ)) → Keeps s formula → AreFirst s formula
first_start s formula keeps k b = (omega (arith, b, keeps.count), keeps.attached k b, keeps.each k b)
