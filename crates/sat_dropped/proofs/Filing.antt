-- Entries come to a list and leave it.
use Rattle.std.proofs.Common.{ℕ, ◌+◌, ◌-◌, ◌*◌, ◌<◌, ◌≤◌, ◌≡◌, ◌≢◌, ℤ, pos, Bool, true, false, List, [], ◌∷◌, ◌++◌, length, get_or, set, refl, sym, ap, subst, ◌∙◌, inl, inr, ◌⊎◌, ⊎_elim, arith, length-append}
use Rattle.std.specs.List.{Contains, remove, sum_by}
use Rattle.std.proofs.lemmas.Bool.{cases_lt, cases_eq}
use Rattle.std.proofs.lemmas.List.{get_or_default, get_or_append_left, get_or_push, get_or-set_same, get_or-set_other, get_or_past}
use Rattle.std.proofs.lemmas.List.Edits.{length-remove, get_or-remove_below, get_or-remove_above}
use Rattle.std.proofs.lemmas.List.Elements.{Contains-append_left, Contains-push, Contains-get_or}
use Rattle.std.proofs.lemmas.List.Sums.{sum_by-set}
use Rattle.sat_trail.specs.State.{Search, clause_at}
use Rattle.sat_dropped.specs.Part.{IsPart, slot_of, signature_of}
use Rattle.sat_dropped.specs.Entries.{Entries, list_at, HasEntry, IsFiled, IsListFiled, AreFiled}
use Rattle.sat_dropped.specs.Kept.{list_count}

at_same : (lists : List (List ℕ)) (c d : ℕ) (ns : List ℕ) → c < length lists → d ≡ c → list_at (set lists c ns) d ≡ ns
at_same lists c d ns b is = ap (λ (n : ℕ). list_at (set lists c ns) n) is ∙ get_or-set_same lists c ns [] b

at_other : (lists : List (List ℕ)) (c d : ℕ) (ns : List ℕ) → d ≢ c → list_at (set lists c ns) d ≡ list_at lists d
at_other lists c d ns other = get_or-set_other lists c d ns [] other

-- ---- entries of clauses

list_filed_at : (s : Search) (c d : ℕ) (xs ys ss ns : List ℕ) → d ≡ c → xs ≡ ss → ys ≡ ns → IsListFiled s c ss ns → IsListFiled s d xs ys
list_filed_at s c d xs ys ss ns is same_signatures same_numbers h =
    subst (λ (e : ℕ). IsListFiled s e xs ys) (sym is) (subst (λ (zs : List ℕ). IsListFiled s c zs ys) (sym same_signatures) (subst (λ (zs : List ℕ). IsListFiled s c ss zs) (sym same_numbers) h))

filed_set : (s : Search) (signatures numbers : List (List ℕ)) (c : ℕ) (ss ns : List ℕ) → c < length signatures → c < length numbers → IsListFiled s c ss ns → AreFiled s signatures numbers → AreFiled s (set signatures c ss) (set numbers c ns)
filed_set s signatures numbers c ss ns a b new h d = ⊎_elim
    (λ (is : d ≡ c). list_filed_at s c d (list_at (set signatures c ss) d) (list_at (set numbers c ns) d) ss ns is (at_same signatures c d ss a is) (at_same numbers c d ns b is) new)
    (λ (other : d ≢ c). list_filed_at s d d (list_at (set signatures c ss) d) (list_at (set numbers c ns) d) (list_at signatures d) (list_at numbers d) refl (at_other signatures c d ss other) (at_other numbers c d ns other) (h d))
    (cases_eq d c)

filed_entry : (s : Search) (c x y signature n : ℕ) → x ≡ signature → y ≡ n → IsFiled s c signature n → IsFiled s c x y
filed_entry s c x y signature n same_signature same_number h =
    subst (λ (z : ℕ). IsFiled s c z y) (sym same_signature) (subst (λ (z : ℕ). IsFiled s c signature z) (sym same_number) h)

list_pushed : (s : Search) (c : ℕ) (ss ns : List ℕ) (signature n : ℕ) → IsFiled s c signature n → IsListFiled s c ss ns → IsListFiled s c (ss ++ signature ∷ []) (ns ++ n ∷ [])
list_pushed s c ss ns signature n new h = record {
  beside = omega (arith, length-append ss (signature ∷ []), length-append ns (n ∷ []), h.beside);
  each = λ k b. ⊎_elim
      (λ (old : k < length ns). filed_entry s c (get_or (ss ++ signature ∷ []) k 0) (get_or (ns ++ n ∷ []) k 0) (get_or ss k 0) (get_or ns k 0)
      (get_or_append_left ss (signature ∷ []) 0 k (omega (arith, old, h.beside))) (get_or_append_left ns (n ∷ []) 0 k old) (h.each k old))
      (λ (up : length ns ≤ k).
      let last : length ns ≡ k = omega (arith, up, b, length-append ns (n ∷ [])) in
      filed_entry s c (get_or (ss ++ signature ∷ []) k 0) (get_or (ns ++ n ∷ []) k 0) signature n (get_or_push ss signature 0 k (omega (arith, last, h.beside))) (get_or_push ns n 0 k last) new)
      (cases_lt k (length ns));
}

list_removed : (s : Search) (c : ℕ) (ss ns : List ℕ) (at : ℕ) → at < length ns → IsListFiled s c ss ns → IsListFiled s c (remove ss at) (remove ns at)
list_removed s c ss ns at within h =
    let inside : at < length ss = omega (arith, within, h.beside) in
    record {
      beside = omega (arith, length-remove ss at inside, length-remove ns at within, h.beside);
      each = λ k b.
          let left : k + 1 < length ns = omega (arith, b, length-remove ns at within) in
          ⊎_elim
          (λ (low : k < at). filed_entry s c (get_or (remove ss at) k 0) (get_or (remove ns at) k 0) (get_or ss k 0) (get_or ns k 0)
          (get_or-remove_below ss at 0 k low inside) (get_or-remove_below ns at 0 k low within) (h.each k (omega (arith, left))))
          (λ (up : at ≤ k). filed_entry s c (get_or (remove ss at) k 0) (get_or (remove ns at) k 0) (get_or ss (k + 1) 0) (get_or ns (k + 1) 0)
          (get_or-remove_above ss at 0 k up inside) (get_or-remove_above ns at 0 k up within) (h.each (k + 1) left))
          (cases_lt k at);
    }

pub filed_pushed : (s : Search) (signatures numbers signatures' numbers' : List (List ℕ)) (c signature n : ℕ) → c < length signatures → c < length numbers → signatures' ≡ set signatures c (list_at signatures c ++ signature ∷ []) → numbers' ≡ set numbers c (list_at numbers c ++ n ∷ [])
    → IsFiled s c signature n → AreFiled s signatures numbers → AreFiled s signatures' numbers'
filed_pushed s signatures numbers signatures' numbers' c signature n a b e f new h =
    subst (λ (xs : List (List ℕ)). AreFiled s xs numbers') (sym e) (subst (λ (ys : List (List ℕ)). AreFiled s (set signatures c (list_at signatures c ++ signature ∷ [])) ys) (sym f)
    (filed_set s signatures numbers c (list_at signatures c ++ signature ∷ []) (list_at numbers c ++ n ∷ []) a b (list_pushed s c (list_at signatures c) (list_at numbers c) signature n new (h c)) h))

pub filed_removed : (s : Search) (signatures numbers signatures' numbers' : List (List ℕ)) (c at : ℕ) → c < length signatures → c < length numbers → at < length (list_at numbers c) → signatures' ≡ set signatures c (remove (list_at signatures c) at) → numbers' ≡ set numbers c (remove (list_at numbers c) at)
    → AreFiled s signatures numbers → AreFiled s signatures' numbers'
filed_removed s signatures numbers signatures' numbers' c at a b within e f h =
    subst (λ (xs : List (List ℕ)). AreFiled s xs numbers') (sym e) (subst (λ (ys : List (List ℕ)). AreFiled s (set signatures c (remove (list_at signatures c) at)) ys) (sym f)
    (filed_set s signatures numbers c (remove (list_at signatures c) at) (remove (list_at numbers c) at) a b (list_removed s c (list_at signatures c) (list_at numbers c) at within (h c)) h))

-- a list with an entry is one of the lists
pub list_within : (lists : List (List ℕ)) (c k : ℕ) → k < length (list_at lists c) → c < length lists
list_within lists c k b = ⊎_elim
    (λ (low : c < length lists). low)
    (λ (up : length lists ≤ c). absurd (omega (arith, b, ap length (get_or_past lists c [] up))))
    (cases_lt c (length lists))

-- ---- which clauses have entries

has_set : (numbers : List (List ℕ)) (c : ℕ) (ns : List ℕ) (n : ℕ) → c < length numbers → Contains ns n → (d : ℕ) × Contains (list_at (set numbers c ns) d) n
has_set numbers c ns n b h = (c, subst (λ (xs : List ℕ). Contains xs n) (sym (at_same numbers c c ns b refl)) h)

has_elsewhere : (numbers : List (List ℕ)) (c d : ℕ) (ns : List ℕ) (n : ℕ) → d ≢ c → Contains (list_at numbers d) n → (e : ℕ) × Contains (list_at (set numbers c ns) e) n
has_elsewhere numbers c d ns n other h = (d, subst (λ (xs : List ℕ). Contains xs n) (sym (at_other numbers c d ns other)) h)

pub entry_pushed : (d e : Entries) (c m n : ℕ) → c < length d.numbers → e.numbers ≡ set d.numbers c (list_at d.numbers c ++ m ∷ []) → HasEntry d n → HasEntry e n
entry_pushed d e c m n b pushed h = subst (λ (lists : List (List ℕ)). (x : ℕ) × Contains (list_at lists x) n) (sym pushed) (⊎_elim
    (λ (is : h.0 ≡ c). has_set d.numbers c (list_at d.numbers c ++ m ∷ []) n b (Contains-append_left (list_at d.numbers c) (m ∷ []) n (subst (λ (x : ℕ). Contains (list_at d.numbers x) n) is h.1)))
    (λ (other : h.0 ≢ c). has_elsewhere d.numbers c h.0 (list_at d.numbers c ++ m ∷ []) n other h.1)
    (cases_eq h.0 c))

pub entry_added : (d e : Entries) (c m : ℕ) → c < length d.numbers → e.numbers ≡ set d.numbers c (list_at d.numbers c ++ m ∷ []) → HasEntry e m
entry_added d e c m b pushed =
    subst (λ (lists : List (List ℕ)). (x : ℕ) × Contains (list_at lists x) m) (sym pushed) (has_set d.numbers c (list_at d.numbers c ++ m ∷ []) m b (Contains-push (list_at d.numbers c) m))

-- what else a list has stays where a number is taken out
left_in : (ns : List ℕ) (at n : ℕ) → at < length ns → Contains ns n → Contains (remove ns at) n ⊎ (get_or ns at 0 ≡ n)
left_in ns at n within c =
    let k = c.0 in
    let value : get_or ns k 0 ≡ n = get_or_default ns k 0 n c.1 ∙ c.2 in
    let size = length-remove ns at within in
    ⊎_elim
    (λ (low : k < at). let inside : k < length (remove ns at) = omega (arith, low, within, size) in inl (k, inside, get_or_default (remove ns at) k n 0 inside ∙ (get_or-remove_below ns at 0 k low within ∙ value)))
    (λ (up : at ≤ k). ⊎_elim
    (λ (is : k ≡ at). inr (ap (λ (j : ℕ). get_or ns j 0) (sym is) ∙ value))
    (λ (other : k ≢ at).
    let above : at ≤ k - 1 = omega (arith, up, other) in
    let back : (k - 1) + 1 ≡ k = omega (arith, up, other) in
    let inside : k - 1 < length (remove ns at) = omega (arith, c.1, size, up, other) in
    inl (k - 1, inside, get_or_default (remove ns at) (k - 1) n 0 inside ∙ (get_or-remove_above ns at 0 (k - 1) above within ∙ (ap (λ (j : ℕ). get_or ns j 0) back ∙ value))))
    (cases_eq k at))
    (cases_lt k at)

pub entry_left : (d e : Entries) (c at n : ℕ) → c < length d.numbers → at < length (list_at d.numbers c) → e.numbers ≡ set d.numbers c (remove (list_at d.numbers c) at) → HasEntry d n → HasEntry e n ⊎ (get_or (list_at d.numbers c) at 0 ≡ n)
entry_left d e c at n b within removed h = ⊎_elim
    (λ (is : h.0 ≡ c). ⊎_elim
    (λ (rest : Contains (remove (list_at d.numbers c) at) n). inl (subst (λ (lists : List (List ℕ)). (x : ℕ) × Contains (list_at lists x) n) (sym removed) (has_set d.numbers c (remove (list_at d.numbers c) at) n b rest)))
    (λ (gone : get_or (list_at d.numbers c) at 0 ≡ n). inr gone)
    (left_in (list_at d.numbers c) at n within (subst (λ (x : ℕ). Contains (list_at d.numbers x) n) is h.1)))
    (λ (other : h.0 ≢ c). inl (subst (λ (lists : List (List ℕ)). (x : ℕ) × Contains (list_at lists x) n) (sym removed) (has_elsewhere d.numbers c h.0 (remove (list_at d.numbers c) at) n other h.1)))
    (cases_eq h.0 c)

pub entry_at : (d : Entries) (c k n : ℕ) → k < length (list_at d.numbers c) → n ≡ get_or (list_at d.numbers c) k 0 → HasEntry d n
entry_at d c k n b is = (c, (k, b, get_or_default (list_at d.numbers c) k n 0 b ∙ sym is))

-- ---- an entry that is made

pub entry_made : (s : Search) (literals : List ℤ) (n c signature k : ℕ) → (0 < n) × (n ≤ length s.ends) → literals ≡ clause_at s (n - 1) → signature ≡ signature_of literals → k < length literals → c ≡ slot_of (get_or literals k (pos 0)) → IsFiled s c signature n
entry_made s literals n c signature k number is signed b at = record {
  signed = record { number = number; signature_is = signed ∙ ap signature_of is };
  listed = (get_or literals k (pos 0), subst (λ (xs : List ℤ). Contains xs (get_or literals k (pos 0))) is (Contains-get_or literals k (pos 0) b), sym at);
}

pub filed_as : (s : Search) (ss ns xs ys : List (List ℕ)) → xs ≡ ss → ys ≡ ns → AreFiled s ss ns → AreFiled s xs ys
filed_as s ss ns xs ys e f h = subst (λ (zs : List (List ℕ)). AreFiled s zs ys) (sym e) (subst (λ (zs : List (List ℕ)). AreFiled s ss zs) (sym f) h)

-- ---- how many entries there are

pub count_pushed : (numbers numbers' : List (List ℕ)) (c n : ℕ) → c < length numbers → numbers' ≡ set numbers c (list_at numbers c ++ n ∷ []) → sum_by (λ (ns : List ℕ). length ns) numbers' ≡ sum_by (λ (ns : List ℕ). length ns) numbers + 1
count_pushed numbers numbers' c n b pushed =
    let is = ap (λ (lists : List (List ℕ)). sum_by (λ (ns : List ℕ). length ns) lists) pushed in
    let sum = sum_by-set (λ (ns : List ℕ). length ns) numbers c (list_at numbers c ++ n ∷ []) [] b in
    omega (arith, is, sum, length-append (list_at numbers c) (n ∷ []))

pub count_removed : (numbers numbers' : List (List ℕ)) (c at : ℕ) → c < length numbers → at < length (list_at numbers c) → numbers' ≡ set numbers c (remove (list_at numbers c) at) → sum_by (λ (ns : List ℕ). length ns) numbers' + 1 ≡ sum_by (λ (ns : List ℕ). length ns) numbers
count_removed numbers numbers' c at b within removed =
    let is = ap (λ (lists : List (List ℕ)). sum_by (λ (ns : List ℕ). length ns) lists) removed in
    let sum = sum_by-set (λ (ns : List ℕ). length ns) numbers c (remove (list_at numbers c) at) [] b in
    omega (arith, is, sum, length-remove (list_at numbers c) at within)

-- ---- no entry is part of literals whose lists have none

pub none_part : (s : Search) (literals : List ℤ) (signatures numbers : List (List ℕ)) → AreFiled s signatures numbers
    → ((j : ℕ) → j < length literals → (k : ℕ) → k < length (list_at numbers (slot_of (get_or literals j (pos 0)))) → IsPart (clause_at s (get_or (list_at numbers (slot_of (get_or literals j (pos 0)))) k 0 - 1)) literals → ⊥)
    → (c k : ℕ) → k < length (list_at numbers c) → IsPart (clause_at s (get_or (list_at numbers c) k 0 - 1)) literals → ⊥
none_part s literals signatures numbers filed h c k b part =
    let entry = (filed c).each k b in
    let l = entry.listed in
    let at = part l.0 l.1 in
    let is : slot_of (get_or literals at.0 (pos 0)) ≡ c = ap slot_of (get_or_default literals at.0 (pos 0) l.0 at.1 ∙ at.2) ∙ l.2 in
    h at.0 at.1 k (subst (λ (x : ℕ). k < length (list_at numbers x)) (sym is) b) (subst (λ (x : ℕ). IsPart (clause_at s (get_or (list_at numbers x) k 0 - 1)) literals) (sym is) part)

-- the list of a literal has none, by what its numbers are read as
pub none_in : (s : Search) (literals : List ℤ) (numbers : List (List ℕ)) (row : List ℕ) (c slot : ℕ) → row ≡ list_at numbers c → c ≡ slot → ((k : ℕ) → k < length row → IsPart (clause_at s (get_or row k 0 - 1)) literals → ⊥)
    → (k : ℕ) → k < length (list_at numbers slot) → IsPart (clause_at s (get_or (list_at numbers slot) k 0 - 1)) literals → ⊥
none_in s literals numbers row c slot is at h =
    subst (λ (xs : List ℕ). (k : ℕ) → k < length xs → IsPart (clause_at s (get_or xs k 0 - 1)) literals → ⊥) (is ∙ ap (list_at numbers) at) h

-- ---- lists that are made when the first entry comes

pub made_room : {X : Type 0} (lists : List X) (variables : ℕ) (is_open : Bool) → length lists ≡ list_count variables is_open → is_open ≡ true → 2 * variables < length lists
made_room lists variables is_open size made = omega (arith, size ∙ ap (list_count variables) made)

pub none_made : (lists : List (List ℕ)) (variables : ℕ) (is_open : Bool) → length lists ≡ list_count variables is_open → is_open ≡ false → (c : ℕ) → list_at lists c ≡ []
none_made lists variables is_open size none c = get_or_past lists c [] (omega (arith, size ∙ ap (list_count variables) none))

pub no_entry : (d : Entries) (n : ℕ) → ((c : ℕ) → list_at d.numbers c ≡ []) → HasEntry d n → ⊥
no_entry d n none h = absurd (omega (arith, h.1.1, ap length (none h.0)))

pub filed_same : (s : Search) (signatures numbers signatures' numbers' : List (List ℕ)) → ((c : ℕ) → (list_at signatures' c ≡ list_at signatures c) × (list_at numbers' c ≡ list_at numbers c)) → AreFiled s signatures numbers → AreFiled s signatures' numbers'
filed_same s signatures numbers signatures' numbers' same h c =
    list_filed_at s c c (list_at signatures' c) (list_at numbers' c) (list_at signatures c) (list_at numbers c) refl (same c).0 (same c).1 (h c)

pub entry_same : (d e : Entries) (n : ℕ) → ((c : ℕ) → (list_at e.signatures c ≡ list_at d.signatures c) × (list_at e.numbers c ≡ list_at d.numbers c)) → HasEntry d n → HasEntry e n
entry_same d e n same h = (h.0, subst (λ (xs : List ℕ). Contains xs n) (sym (same h.0).1) h.1)
