-- Clauses by their numbers, once their literals were moved together.
use Rattle.std.proofs.Common.{ℕ, ◌+◌, ◌^◌, ◌≤◌, ◌<◌, ◌≡◌, ℤ, Bool, true, false, cond, List, [], ◌∷◌, ◌++◌, length, drop, nat_eq, Some, IfSome, refl, sym, ap, subst, ◌∙◌, arith}
use Rattle.std.specs.Map.{lookup}
use Rattle.std.specs.Map.Calls.{RetainsPairs}
use Rattle.std.proofs.lemmas.List.{append_assoc, length-append, length-take, length-drop}
use Rattle.std.proofs.lemmas.List.Elements.{All-head, All-tail}
use Rattle.sat_checker.specs.declared.table.Span.{Span}
use Rattle.sat_checker.specs.Table.{literals_at, entries_of, size_of, span_from, total, joined, laid_from, IsWithin, AreWithin, AllWithin}
use Rattle.sat_checker.proofs.Tabling.{new_at, old_at}

-- ---- sizes

length_at : (xs : List ℤ) (span : Span) → IsWithin (length xs) span → length (literals_at xs span) ≡ size_of span
length_at xs span within = omega (arith, length-take (size_of span) (drop span.first xs), length-drop span.first xs, within.0, within.1)

length_joined : (xs : List ℤ) (es : List (ℕ × Span)) → AllWithin (length xs) es → length (joined xs es) ≡ total es
length_joined xs [] within = refl
length_joined xs (e ∷ es) within =
    omega (
      arith,
      length-append (literals_at xs e.1) (joined xs es),
      length_at xs e.1 (All-head (λ (e : ℕ × Span). IsWithin (length xs) e.1) e es within),
      length_joined xs es (All-tail (λ (e : ℕ × Span). IsWithin (length xs) e.1) e es within),
    )

-- ---- what is found

same_from : (xs done all : List ℤ) (n : ℕ) (es : List (ℕ × Span)) → AllWithin (length xs) es → all ≡ done ++ joined xs es → n ≡ length done → entries_of all (laid_from n es) ≡ entries_of xs es
same_from xs done all n [] within is at = refl
same_from xs done all n (e ∷ es) within is at =
    let this : IsWithin (length xs) e.1 = All-head (λ (e : ℕ × Span). IsWithin (length xs) e.1) e es within in
    let rest : AllWithin (length xs) es = All-tail (λ (e : ℕ × Span). IsWithin (length xs) e.1) e es within in
    let ys : List ℤ = literals_at xs e.1 in
    let zs : List ℤ = joined xs es in
    let size : length ys ≡ size_of e.1 = length_at xs e.1 this in
    let span : Span = span_from n e.1 in
    let regrouped : all ≡ (done ++ ys) ++ zs = is ∙ sym (append_assoc done ys zs) in
    let front : span.end ≡ length (done ++ ys) = omega (arith, at, size, length-append done ys) in
    let end : span.end ≡ length done + length ys = omega (arith, at, size) in
    let within_front : IsWithin (length (done ++ ys)) span = (omega arith, omega (arith, front)) in
    let here : literals_at all span ≡ ys =
    ap (λ (list : List ℤ). literals_at list span) regrouped ∙ (old_at (done ++ ys) zs span within_front ∙ new_at done ys span at end) in
    ap (λ (list : List ℤ). (e.0, list) ∷ entries_of all (laid_from (n + size_of e.1) es)) here
    ∙ ap (λ (fs : List (ℕ × List ℤ)). (e.0, ys) ∷ fs) (same_from xs (done ++ ys) all (n + size_of e.1) es rest regrouped front)

same_entries : (xs : List ℤ) (es : List (ℕ × Span)) → AllWithin (length xs) es → entries_of (joined xs es) (laid_from 0 es) ≡ entries_of xs es
same_entries xs es within = same_from xs [] (joined xs es) 0 es within refl refl

-- ---- where it is

within_from : (n m : ℕ) (es : List (ℕ × Span)) (test : ℕ → Bool) → n + total es ≤ m → IfSome (lookup test (laid_from n es)) (IsWithin m)
within_from n m [] test room = tt
within_from n m (e ∷ es) test room = split (test e.0) (within_from (n + size_of e.1) m es test (omega (arith, room)))
  where
    split : (b : Bool) → IfSome (lookup test (laid_from (n + size_of e.1) es)) (IsWithin m)
        → IfSome (cond b (Some (span_from n e.1)) (lookup test (laid_from (n + size_of e.1) es))) (IsWithin m)
    split true later = (omega arith, omega (arith, room))
    split false later = later

laid_within : (m : ℕ) (es : List (ℕ × Span)) → total es ≤ m → AreWithin m (laid_from 0 es)
laid_within m es room id = within_from 0 m es (nat_eq id) (omega (arith, room))

-- ---- xs before, ys and the spans fs after

module _ (xs ys : List ℤ) (es : List (ℕ × Span)) (within : AllWithin (length xs) es) (all : ys ≡ joined xs es) where
  sized : length ys ≡ total es
  sized = ap (λ (list : List ℤ). length list) all ∙ length_joined xs es within

  pub fits_after : length ys ≤ 4294967295 → total es < 4294967296
  fits_after room = omega (arith, room, sized)

  pub same_after : (zs : List ℤ) (fs : List (ℕ × Span)) → xs ≡ zs → fs ≡ laid_from 0 es → entries_of ys fs ≡ entries_of zs es
  same_after zs fs same laid =
      ap (λ (list : List ℤ). entries_of list fs) all ∙ (ap (entries_of (joined xs es)) laid
      ∙ (same_entries xs es within ∙ ap (λ (list : List ℤ). entries_of list es) same))

  pub within_after : (fs : List (ℕ × Span)) → fs ≡ laid_from 0 es → AreWithin (length ys) fs
  within_after fs laid = subst (AreWithin (length ys)) (sym laid) (laid_within (length ys) es (omega (arith, sized)))

-- ---- the calls that lay spans out

calls_from : {F : Type 0} (T : F → ℕ → Span → Bool → Span → F → Type 0) (at : F → ℕ)
    → ((f : F) (id : ℕ) (span : Span) (b : Bool) (left : Span) (f' : F) → T f id span b left f' → at f + size_of span < 2 ^ 32 →
    (b ≡ true) × (left ≡ span_from (at f) span) × (at f' ≡ at f + size_of span))
    → (f : F) (es kept : List (ℕ × Span)) → at f + total es < 2 ^ 32 → RetainsPairs T f es kept → kept ≡ laid_from (at f) es
calls_from T at says f [] kept room ran = ran
calls_from T at says f (e ∷ es) kept room (b, left, f', rest, call, later, is) =
    let said = says f e.0 e.1 b left f' call (omega (arith, room)) in
    let more : at f' + total es < 2 ^ 32 = omega (arith, room, said.2) in
    let next : rest ≡ laid_from (at f + size_of e.1) es =
    calls_from T at says f' es rest more later ∙ ap (λ (n : ℕ). laid_from n es) said.2 in
    is ∙ (ap (λ (c : Bool). cond c ((e.0, left) ∷ rest) rest) said.0
    ∙ (ap (λ (span : Span). (e.0, span) ∷ rest) said.1
    ∙ ap (λ (fs : List (ℕ × Span)). (e.0, span_from (at f) e.1) ∷ fs) next))

pub laid_by_calls : {F : Type 0} (T : F → ℕ → Span → Bool → Span → F → Type 0) (at : F → ℕ)
    → ((f : F) (id : ℕ) (span : Span) (b : Bool) (left : Span) (f' : F) → T f id span b left f' → at f + size_of span < 2 ^ 32 →
    (b ≡ true) × (left ≡ span_from (at f) span) × (at f' ≡ at f + size_of span))
    → (f : F) (es kept : List (ℕ × Span)) → RetainsPairs T f es kept → at f ≡ 0 → total es < 2 ^ 32 → kept ≡ laid_from 0 es
laid_by_calls T at says f es kept ran start room =
    calls_from T at says f es kept (omega (arith, start, room)) ran ∙ ap (λ (n : ℕ). laid_from n es) start
