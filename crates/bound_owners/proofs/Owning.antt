-- Which sigs are constants, and which own atoms.
use Rattle.std.proofs.Common.{◌≡◌, ◌⊎◌, inl, inr, ℕ, zero, suc, ◌+◌, ◌<◌, ◌≤◌, eqb, nat_lt, Bool, true, false, not, ◌&&◌, ◌||◌, cond, if◌then◌else◌, IsTrue, List, [], ◌∷◌, ◌++◌, length, take, get_or, set, filter, slice_get, Option, Some, None, is_some, Contains, refl, ap, sym, ◌∙◌, subst, arith, length-append}
use Rattle.std.specs.List.{list_any, range_with_len}
use Rattle.std.proofs.lemmas.Bool.{cases_lt, cases_eq, eq-eqb, ne_eqb, ltb-true, ltb-false, false≢true, and_parts, and_from, and_right}
use Rattle.std.proofs.lemmas.List.Elements.{filter-append}
use Rattle.std.proofs.lemmas.List.Folds.{list_any_more}
use Rattle.std.proofs.lemmas.Grind.{get_or-set_at}
use Rattle.std.proofs.lemmas.List.{get_or_past, get_or-set_other, length-set, append-nil}
use Rattle.std.proofs.lemmas.Option.{slice_get_past, get_or_from_slice_get}
use Rattle.core_tuples.proofs.OrderLemmas.{cons_cases, cons_here, cons_later, no_members, take_all}
use Rattle.core_tree.specs.declared.model.Sig.{Sig}
use Rattle.core_tree.specs.declared.model.SigKind.{SigKind}
use Rattle.core_tree.specs.declared.model.SigKind.TheVariants.{Top, Extends, Subset}
use Rattle.core_tree.specs.Types.{by_parent, by_sig}
use Rattle.core_meaning.specs.declared.scopes.SigScope.{SigScope}
use Rattle.core_meaning.specs.Kept.{top_above}
use Rattle.bound_owners.specs.Tops.{top_at, HasTops}
use Rattle.bound_owners.specs.Own.{is_single, does_extend, is_constant, is_constant_of, top_of, constants, fits, owners, does_own, stands_as, HasOrigins}
use Rattle.bound_owners.specs.Owned.{marked, extended_at, AreExtended, AreConstants, HasLists, AreStanding, HasStanding}
use Rattle.bound_owners.proofs.Climbing.{end_at, early_at}
use Rattle.bound_owners.proofs.Ranges.{range_up}

-- ---- lists that grow at the end

-- each item is the one of a function, and one more
pushed_each : {X : Type 0} (f d : ℕ → X) (n : ℕ) (x : X) (all new : List X) → length all ≡ n → ((s : ℕ) → s < n → get_or all s (d s) ≡ f s) → x ≡ f n → new ≡ all ++ x ∷ [] → (s : ℕ) → s < n + 1 → get_or new s (d s) ≡ f s
pushed_each {X = X} f d n x all new count each is e s lt = subst (λ (xs : List X). get_or xs s (d s) ≡ f s) (sym e) (elim (cases_lt s n) [
  | inl less ↦ early_at all x s (d s) (omega (arith, count, less)) ∙ each s less
  | inr far ↦
      let same : s ≡ n = omega (arith, far, lt) in
      subst (λ (k : ℕ). get_or (all ++ x ∷ []) k (d k) ≡ f k) (sym same) (subst (λ (m : ℕ). get_or (all ++ x ∷ []) m (d n) ≡ x) count (end_at all x (d n)) ∙ is)
])

pushed_count : {X : Type 0} (n : ℕ) (x : X) (all new : List X) → length all ≡ n → new ≡ all ++ x ∷ [] → length new ≡ n + 1
pushed_count n x all new count e = ap length e ∙ (length-append all (x ∷ []) ∙ ap (λ (m : ℕ). m + 1) count)

sig_there : (sigs : List Sig) (n : ℕ) (d : Sig) → n < length sigs → d ≡ get_or sigs n d → slice_get sigs n ≡ Some d
sig_there [] n d lt e = absurd (omega arith)
sig_there (c ∷ sigs) zero d lt e = ap (λ (x : Sig). Some x) (sym e)
sig_there (c ∷ sigs) (suc n) d lt e = sig_there sigs n d (omega arith) e

-- ---- sigs that are extended

or_true : (b : Bool) → (b || true) ≡ true
or_true true = refl
or_true false = refl

or_false : (b : Bool) → (b || false) ≡ b
or_false true = refl
or_false false = refl

marked_case : (marks : List Bool) (p s : ℕ) (b : Bool) → nat_lt p (length marks) ≡ b → s < length marks → get_or (if b then set marks p true else marks) s false ≡ (get_or marks s false || eqb p s)
marked_case marks p s true e lt = elim (cases_eq p s) [
  | inl same ↦ get_or-set_at marks p s true false (sym same) (ltb-true p (length marks) e) ∙ sym (ap (λ (t : Bool). get_or marks s false || t) (eq-eqb p s same) ∙ or_true (get_or marks s false))
  | inr other ↦ get_or-set_other marks p s true false (λ f. other (sym f)) ∙ sym (ap (λ (t : Bool). get_or marks s false || t) (ne_eqb p s other) ∙ or_false (get_or marks s false))
]
marked_case marks p s false e lt =
    let far : length marks ≤ p = ltb-false p (length marks) e in
    sym (ap (λ (t : Bool). get_or marks s false || t) (ne_eqb p s (λ same. absurd (omega (arith, far, lt, same)))) ∙ or_false (get_or marks s false))

marked_at : (marks : List Bool) (p s : ℕ) → s < length marks → get_or (marked marks p) s false ≡ (get_or marks s false || eqb p s)
marked_at marks p s lt = marked_case marks p s (nat_lt p (length marks)) refl lt

mark_kind : (marks : List Bool) (kind : SigKind) (s : ℕ) → s < length marks → get_or (by_parent marks (marked marks) kind) s false ≡ (get_or marks s false || by_parent false (λ q. eqb q s) kind)
mark_kind marks Top s lt = sym (or_false (get_or marks s false))
mark_kind marks (Extends p) s lt = marked_at marks p s lt
mark_kind marks (Subset ps) s lt = sym (or_false (get_or marks s false))

kind_count : (marks : List Bool) (kind : SigKind) → length (by_parent marks (marked marks) kind) ≡ length marks
kind_count marks Top = refl
kind_count marks (Extends p) = by_test (nat_lt p (length marks))
  where
    by_test : (b : Bool) → length (if b then set marks p true else marks) ≡ length marks
    by_test true = length-set marks p true
    by_test false = refl
kind_count marks (Subset ps) = refl

none_before : (s : ℕ) (sigs : List Sig) → list_any (does_extend s) (take 0 sigs) ≡ false
none_before s [] = refl
none_before s (d ∷ sigs) = refl

pub extended_none : (sigs : List Sig) (marks : List Bool) → length marks ≡ length sigs → ((s : ℕ) → get_or marks s false ≡ false) → AreExtended sigs (take 0 sigs) marks
extended_none sigs marks count none = record { count = count; each = λ s lt. none s ∙ sym (none_before s sigs) }

pub extended_more : (sigs : List Sig) (n : ℕ) (d : Sig) (old new : List Bool) → n < length sigs → d ≡ get_or sigs n d → AreExtended sigs (take n sigs) old → new ≡ by_parent old (marked old) d.kind → AreExtended sigs (take (n + 1) sigs) new
extended_more sigs n d old new lt is was e = record {
  count = ap length e ∙ (kind_count old d.kind ∙ was.count);
  each = λ s low.
      let within : s < length old = (let count = was.count in omega (arith, low, count)) in
      let last : list_any (does_extend s) (take (n + 1) sigs) ≡ (list_any (does_extend s) (take n sigs) || does_extend s d) = list_any_more (does_extend s) sigs n d lt ∙ ap (λ (c : Sig). list_any (does_extend s) (take n sigs) || does_extend s c) (sym is) in
      ap (λ (ms : List Bool). get_or ms s false) e ∙ (mark_kind old d.kind s within ∙ (ap (λ (b : Bool). b || does_extend s d) (was.each s low) ∙ sym last));
}

pub extended_all : (sigs : List Sig) (n : ℕ) (marks : List Bool) → length sigs ≤ n → AreExtended sigs (take n sigs) marks → AreExtended sigs sigs marks
extended_all sigs n marks le are = subst (λ (ds : List Sig). AreExtended sigs ds marks) (take_all sigs n le) are

-- ---- constants

pub constants_none : (sigs : List Sig) → AreConstants sigs 0 []
constants_none sigs = record { count = refl; each = λ s lt. absurd (omega arith) }

constant_at : (sigs : List Sig) (n : ℕ) (d : Sig) (extended : List Bool) → n < length sigs → d ≡ get_or sigs n d → AreExtended sigs sigs extended → (is_single d && not (get_or extended n false)) ≡ is_constant sigs n
constant_at sigs n d extended lt is are =
    ap (λ (b : Bool). is_single d && not b) (are.each n lt)
    ∙ ap (λ (o : Option Sig). by_sig false is_single o && not (list_any (does_extend n) sigs)) (sym (sig_there sigs n d lt is))

pub constants_more : (sigs : List Sig) (n : ℕ) (d : Sig) (extended old new : List Bool) (b : Bool) → n < length sigs → d ≡ get_or sigs n d → AreExtended sigs sigs extended → b ≡ (is_single d && not (get_or extended n false)) → AreConstants sigs n old → new ≡ old ++ b ∷ [] → AreConstants sigs (n + 1) new
constants_more sigs n d extended old new b lt is are e was pushed = record {
  count = pushed_count n b old new was.count pushed;
  each = pushed_each (is_constant sigs) (λ s. false) n b old new was.count was.each (e ∙ constant_at sigs n d extended lt is are) pushed;
}

pub constants_all : (sigs : List Sig) (n : ℕ) (marks : List Bool) → length sigs ≤ n → n ≤ length sigs → AreConstants sigs n marks → AreConstants sigs (length sigs) marks
constants_all sigs n marks low high are = let same : n ≡ length sigs = omega (arith, low, high) in subst (λ (m : ℕ). AreConstants sigs m marks) same are

-- ---- the constants below each top-level sig

filter_next : (p : ℕ → Bool) (n : ℕ) → filter p (range_with_len 0 (n + 1)) ≡ filter p (range_with_len 0 n) ++ cond (p n) (n ∷ []) []
filter_next p n =
    ap (filter p) (range_up n) ∙ filter-append p (range_with_len 0 n) (n ∷ [])

pub lists_none : (sigs : List Sig) (lists : List (List ℕ)) → length lists ≡ length sigs → ((t : ℕ) → get_or lists t [] ≡ []) → HasLists sigs 0 lists
lists_none sigs lists count none = record { count = count; each = λ top lt. none top }

-- the list of a number, with one more in it where it is the one that grows
added_at : (lists : List (List ℕ)) (n s t : ℕ) → t < length lists → get_or (extended_at lists n s) t [] ≡ get_or lists t [] ++ cond (eqb n t) (s ∷ []) []
added_at lists n s t lt = by_test (cases_eq n t) (nat_lt n (length lists)) refl
  where
    longer : Bool → List (List ℕ)
    longer b = if b then set lists n (get_or lists n [] ++ s ∷ []) else lists

    same_end : (b : Bool) → eqb n t ≡ b → get_or lists t [] ++ cond b (s ∷ []) [] ≡ get_or lists t [] ++ cond (eqb n t) (s ∷ []) []
    same_end b e = ap (λ (c : Bool). get_or lists t [] ++ cond c (s ∷ []) []) (sym e)

    by_test : (n ≡ t) ⊎ (n ≡ t → ⊥) → (b : Bool) → nat_lt n (length lists) ≡ b → get_or (longer b) t [] ≡ get_or lists t [] ++ cond (eqb n t) (s ∷ []) []
    by_test (inl same) true e =
        get_or-set_at lists n t (get_or lists n [] ++ s ∷ []) [] (sym same) (ltb-true n (length lists) e)
        ∙ (ap (λ (k : ℕ). get_or lists k [] ++ s ∷ []) same ∙ same_end true (eq-eqb n t same))
    by_test (inl same) false e = let far : length lists ≤ n = ltb-false n (length lists) e in absurd (omega (arith, far, lt, same))
    by_test (inr other) true e = get_or-set_other lists n t (get_or lists n [] ++ s ∷ []) [] (λ f. other (sym f)) ∙ (sym (append-nil (get_or lists t [])) ∙ same_end false (ne_eqb n t other))
    by_test (inr other) false e = sym (append-nil (get_or lists t [])) ∙ same_end false (ne_eqb n t other)

extended_count : (lists : List (List ℕ)) (n s : ℕ) → length (extended_at lists n s) ≡ length lists
extended_count lists n s = by_test (nat_lt n (length lists))
  where
    by_test : (b : Bool) → length (if b then set lists n (get_or lists n [] ++ s ∷ []) else lists) ≡ length lists
    by_test true = length-set lists n (get_or lists n [] ++ s ∷ [])
    by_test false = refl

-- a sig that is no constant, and one that is
skipped : (lists : List (List ℕ)) (t n top : ℕ) (b : Bool) → b ≡ false → get_or lists t [] ≡ get_or lists t [] ++ cond (b && eqb top t) (n ∷ []) []
skipped lists t n top b off = sym (append-nil (get_or lists t [])) ∙ ap (λ (c : Bool). get_or lists t [] ++ cond (c && eqb top t) (n ∷ []) []) (sym off)

lists_turn : (lists : List (List ℕ)) (t n top : ℕ) (b : Bool) → t < length lists → get_or (if b then extended_at lists top n else lists) t [] ≡ get_or lists t [] ++ cond (b && eqb top t) (n ∷ []) []
lists_turn lists t n top true lt = added_at lists top n t lt
lists_turn lists t n top false lt = skipped lists t n top false refl

turn_count : (lists : List (List ℕ)) (top n : ℕ) (b : Bool) → length (if b then extended_at lists top n else lists) ≡ length lists
turn_count lists top n true = extended_count lists top n
turn_count lists top n false = refl

pub lists_more : (sigs : List Sig) (ups : List ℕ) (n number top : ℕ) (marks : List Bool) (old new : List (List ℕ)) (b : Bool) → number ≡ n → n < length sigs → HasTops sigs ups → AreConstants sigs (length sigs) marks → top ≡ top_at ups number → b ≡ get_or marks number false → HasLists sigs n old → new ≡ (if b then extended_at old top number else old) → HasLists sigs (n + 1) new
lists_more sigs ups n number top marks old new b same lt tops are up mark was e =
    let is : b ≡ is_constant sigs n = mark ∙ (ap (λ (m : ℕ). get_or marks m false) same ∙ are.each n lt) in
    let above : top ≡ top_of sigs n = up ∙ (ap (top_at ups) same ∙ tops n) in
    let grown : new ≡ (if b then extended_at old top n else old) = e ∙ ap (λ (m : ℕ). if b then extended_at old top m else old) same in
    record {
      count = ap length grown ∙ (turn_count old top n b ∙ was.count);
      each = λ t low.
          let count = was.count in
          let within : t < length old = omega (arith, low, count) in
          let test : (b && eqb top t) ≡ is_constant_of sigs t n = ap (λ (c : Bool). c && eqb top t) is ∙ ap (λ (u : ℕ). is_constant sigs n && eqb u t) above in
          ap (λ (ls : List (List ℕ)). get_or ls t []) grown
          ∙ (lists_turn old t n top b within
          ∙ (ap (λ (xs : List ℕ). xs ++ cond (b && eqb top t) (n ∷ []) []) (was.each t low)
          ∙ (ap (λ (c : Bool). filter (is_constant_of sigs t) (range_with_len 0 n) ++ cond c (n ∷ []) []) test
          ∙ sym (filter_next (is_constant_of sigs t) n))));
    }

pub lists_all : (sigs : List Sig) (n : ℕ) (lists : List (List ℕ)) → length sigs ≤ n → n ≤ length sigs → HasLists sigs n lists → HasLists sigs (length sigs) lists
lists_all sigs n lists low high are = let same : n ≡ length sigs = omega (arith, low, high) in subst (λ (m : ℕ). HasLists sigs m lists) same are

-- ---- owners

keep_first : (b : Bool) (y : ℕ) (rest : List ℕ) (x : ℕ) → b ≡ true → x ≡ y → Contains (cond b (y ∷ rest) rest) x
keep_first true y rest x on is = cons_here y rest x is
keep_first false y rest x on is = absurd (false≢true on)

keep_rest : (b : Bool) (y : ℕ) (rest : List ℕ) (x : ℕ) → Contains rest x → Contains (cond b (y ∷ rest) rest) x
keep_rest true y rest x h = cons_later y rest x h
keep_rest false y rest x h = h

in_filter : (p : ℕ → Bool) (xs : List ℕ) (x : ℕ) → Contains xs x → p x ≡ true → Contains (filter p xs) x
in_filter p [] x h on = absurd (no_members x h)
in_filter p (y ∷ xs) x h on = elim (cons_cases y xs x h) [
  | inl is ↦ keep_first (p y) y (filter p xs) x (ap p (sym is) ∙ on) is
  | inr later ↦ keep_rest (p y) y (filter p xs) x (in_filter p xs x later on)
]

kept_passes : (p : ℕ → Bool) (y : ℕ) (xs : List ℕ) (x : ℕ) → (Contains (filter p xs) x → p x ≡ true) → (b : Bool) → p y ≡ b → Contains (cond b (y ∷ filter p xs) (filter p xs)) x → p x ≡ true
kept_passes p y xs x passes true e h = elim (cons_cases y (filter p xs) x h) [ inl is ↦ ap p is ∙ e | inr later ↦ passes later ]
kept_passes p y xs x passes false e h = passes h

out_filter : (p : ℕ → Bool) (xs : List ℕ) (x : ℕ) → Contains (filter p xs) x → p x ≡ true
out_filter p [] x h = absurd (no_members x h)
out_filter p (y ∷ xs) x h = kept_passes p y xs x (λ later. out_filter p xs x later) (p y) refl h

in_range : (a n s : ℕ) → a ≤ s → s < a + n → Contains (range_with_len a n) s
in_range a zero s low high = absurd (omega (arith, low, high))
in_range a (suc n) s low high = elim (cases_eq s a) [
  | inl is ↦ cons_here a (range_with_len (a + 1) n) s is
  | inr other ↦ cons_later a (range_with_len (a + 1) n) s (in_range (a + 1) n s (omega (arith, low, other)) (omega (arith, high)))
]

there_within : (sigs : List Sig) (s : ℕ) → by_sig false is_single (slice_get sigs s) ≡ true → s < length sigs
there_within sigs s on = elim (cases_lt s (length sigs)) [
  | inl less ↦ less
  | inr far ↦ absurd (false≢true (sym (ap (λ (o : Option Sig). by_sig false is_single o) (slice_get_past sigs s far)) ∙ on))
]

pub constant_within : (sigs : List Sig) (s : ℕ) → is_constant sigs s ≡ true → s < length sigs
constant_within sigs s on = there_within sigs s (and_parts (by_sig false is_single (slice_get sigs s)) (not (list_any (does_extend s) sigs)) on).0

pub constant_listed : (sigs : List Sig) (top s : ℕ) → is_constant_of sigs top s ≡ true → Contains (constants sigs top) s
constant_listed sigs top s passes =
    let within = constant_within sigs s (and_parts (is_constant sigs s) (eqb (top_of sigs s) top) passes).0 in
    in_filter (is_constant_of sigs top) (range_with_len 0 (length sigs)) s (in_range 0 (length sigs) s (omega arith) (omega (arith, within))) passes

pub listed_constant : (sigs : List Sig) (top s : ℕ) → Contains (constants sigs top) s → is_constant_of sigs top s ≡ true
listed_constant sigs top s among = out_filter (is_constant_of sigs top) (range_with_len 0 (length sigs)) s among

pub own_listed : (sigs : List Sig) (s : ℕ) → is_constant sigs s ≡ true → Contains (constants sigs (top_of sigs s)) s
own_listed sigs s on = constant_listed sigs (top_of sigs s) s (and_from (is_constant sigs s) (eqb (top_of sigs s) (top_of sigs s)) on (eq-eqb (top_of sigs s) (top_of sigs s) refl))

some_there : (xs : List ℕ) (x : ℕ) → Contains xs x → length xs ≡ 0 → ⊥
some_there xs x h none = let lt = h.1 in absurd (omega (arith, lt, none))

pub fitting : (sigs : List Sig) (numbers : List SigScope) (top : ℕ) → fits sigs numbers top ≡ true → owners sigs numbers top ≡ constants sigs top
fitting sigs numbers top on = ap (λ (b : Bool). if b then constants sigs top else []) on

-- a constant owns an atom just where its top-level sig has owners
constant_owns : (sigs : List Sig) (numbers : List SigScope) (s : ℕ) → is_constant sigs s ≡ true → not (eqb (length (owners sigs numbers (top_of sigs s))) 0) ≡ fits sigs numbers (top_of sigs s)
constant_owns sigs numbers s on = by_test (fits sigs numbers (top_of sigs s)) refl
  where
    by_test : (b : Bool) → fits sigs numbers (top_of sigs s) ≡ b → not (eqb (length (owners sigs numbers (top_of sigs s))) 0) ≡ fits sigs numbers (top_of sigs s)
    by_test false e = ap (λ (b : Bool). not (eqb (length (if b then constants sigs (top_of sigs s) else [])) 0)) e ∙ sym e
    by_test true e =
        let are = fitting sigs numbers (top_of sigs s) e in
        ap (λ (xs : List ℕ). not (eqb (length xs) 0)) are
        ∙ (ap not (ne_eqb (length (constants sigs (top_of sigs s))) 0 (some_there (constants sigs (top_of sigs s)) s (own_listed sigs s on))) ∙ sym e)

pub owns_is : (sigs : List Sig) (numbers : List SigScope) (s : ℕ) → (is_constant sigs s && not (eqb (length (owners sigs numbers (top_of sigs s))) 0)) ≡ does_own sigs numbers s
owns_is sigs numbers s = by_test (is_constant sigs s) refl
  where
    by_test : (b : Bool) → is_constant sigs s ≡ b → (is_constant sigs s && not (eqb (length (owners sigs numbers (top_of sigs s))) 0)) ≡ (is_constant sigs s && fits sigs numbers (top_of sigs s))
    by_test false e = ap (λ (b : Bool). b && not (eqb (length (owners sigs numbers (top_of sigs s))) 0)) e ∙ sym (ap (λ (b : Bool). b && fits sigs numbers (top_of sigs s)) e)
    by_test true e = ap (λ (b : Bool). is_constant sigs s && b) (constant_owns sigs numbers s e)

-- where there are no owners no sig below owns an atom
pub none_owns : (sigs : List Sig) (numbers : List SigScope) (s : ℕ) → length (owners sigs numbers (top_of sigs s)) ≡ 0 → does_own sigs numbers s ≡ false
none_owns sigs numbers s none =
    sym (owns_is sigs numbers s)
    ∙ (ap (λ (n : ℕ). is_constant sigs s && not (eqb n 0)) none ∙ and_right (is_constant sigs s) false refl)

-- ---- as which sigs sigs stand in the table

pub standing_none : (sigs : List Sig) (numbers : List SigScope) → AreStanding sigs numbers 0 []
standing_none sigs numbers = record { count = refl; each = λ s lt. absurd (omega arith) }

pub standing_more : (sigs : List Sig) (numbers : List SigScope) (n top stands : ℕ) (found old new : List ℕ) → top ≡ top_of sigs n → found ≡ owners sigs numbers top → stands ≡ (if eqb (length found) 0 then top else n) → AreStanding sigs numbers n old → new ≡ old ++ stands ∷ [] → AreStanding sigs numbers (n + 1) new
standing_more sigs numbers n top stands found old new up own is was pushed =
    let same : stands ≡ stands_as sigs numbers n = is ∙ (ap (λ (os : List ℕ). if eqb (length os) 0 then top else n) own ∙ ap (λ (t : ℕ). if eqb (length (owners sigs numbers t)) 0 then t else n) up) in
    record {
      count = pushed_count n stands old new was.count pushed;
      each = pushed_each (stands_as sigs numbers) (λ s. s) n stands old new was.count was.each same pushed;
    }

pub top_outside : (sigs : List Sig) (n s : ℕ) → slice_get sigs s ≡ None → top_above sigs n s ≡ s
top_outside sigs zero s none = refl
top_outside sigs (suc n) s none = ap (λ (o : Option Sig). by_sig s (λ d. by_parent s (λ p. top_above sigs n p) d.kind) o) none

pub same_either : (b : Bool) (x y : ℕ) → x ≡ y → (if b then x else y) ≡ y
same_either true x y e = e
same_either false x y e = refl

pub standing_all : (sigs : List Sig) (numbers : List SigScope) (n : ℕ) (all : List ℕ) → length sigs ≤ n → n ≤ length sigs → AreStanding sigs numbers n all → HasStanding sigs numbers all
standing_all sigs numbers n all low high are s = elim (cases_lt s n) [
  | inl less ↦ are.each s less
  | inr far ↦
      let count = are.count in
      let top : top_of sigs s ≡ s = top_outside sigs (length sigs) s (slice_get_past sigs s (omega (arith, far, low))) in
      get_or_past all s s (omega (arith, count, far)) ∙ sym (same_either (eqb (length (owners sigs numbers (top_of sigs s))) 0) (top_of sigs s) s top)
]

-- ---- origins

abbrev pub OriginAt : List Sig → ℕ → Sig → Type 0
OriginAt sigs s d = (p : ℕ) (e : Sig) → d.kind ≡ Extends p → slice_get sigs p ≡ Some e → is_some d.origin ≡ is_some e.origin

-- those of the first sigs
abbrev pub HasOriginsTo : List Sig → ℕ → Type 0
HasOriginsTo sigs n = (s : ℕ) (d : Sig) → s < n → slice_get sigs s ≡ Some d → OriginAt sigs s d

pub origins_none : (sigs : List Sig) → HasOriginsTo sigs 0
origins_none sigs s d lt at = absurd (omega arith)

pub origins_more : (sigs : List Sig) (n : ℕ) (c : Sig) (b : Bool) → n < length sigs → c ≡ get_or sigs n c → b ≡ true → ((p : ℕ) (e : Sig) → c.kind ≡ Extends p → slice_get sigs p ≡ Some e → IsTrue b → is_some c.origin ≡ is_some e.origin) → HasOriginsTo sigs n → HasOriginsTo sigs (n + 1)
origins_more sigs n c b lt is on its was s d low at = elim (cases_lt s n) [
  | inl less ↦ was s d less at
  | inr far ↦
      let same : s ≡ n = omega (arith, far, low) in
      let it : c ≡ d = is ∙ get_or_from_slice_get sigs n d c (subst (λ (m : ℕ). slice_get sigs m ≡ Some d) same at) in
      subst (λ (x : Sig). OriginAt sigs s x) it (λ p e kind there. its p e kind there on)
]

pub origins_all : (sigs : List Sig) (n : ℕ) → length sigs ≤ n → HasOriginsTo sigs n → IsTrue true → HasOrigins sigs
origins_all sigs n le was on s p d e at kind there = was s d (within sigs s d at n le) at p e kind there
  where
    within : (ds : List Sig) (k : ℕ) (x : Sig) → slice_get ds k ≡ Some x → (m : ℕ) → length ds ≤ m → k < m
    within [] k x get m le = cc
    within (y ∷ ds) zero x get m le = omega (arith, le)
    within (y ∷ ds) (suc k) x get (suc m) le = let less = within ds k x get m (omega (arith, le)) in omega (arith, less)
    within (y ∷ ds) (suc k) x get zero le = absurd (omega (arith, le))
