-- Going up from sigs to their parents, level by level.
use Rattle.std.proofs.Common.{◌≡◌, ◌⊎◌, ◌↔◌, inl, inr, ℕ, suc, ◌+◌, ◌-◌, ◌<◌, ◌≤◌, List, [], ◌∷◌, ◌++◌, length, map, take, slice_get, slice_index, Option, Some, None, Contains, refl, ap, sym, ◌∙◌, subst, arith, append-nil}
use Rattle.std.specs.List.{flat_map}
use Rattle.std.proofs.lemmas.List.{take_more}
use Rattle.std.proofs.lemmas.Option.{get_or_from_slice_get}
use Rattle.std.proofs.lemmas.List.Concat.{flat_map-append}
use Rattle.std.proofs.lemmas.List.Elements.{Contains-append_cases, Contains-append_left, Contains-append_right}
use Rattle.core_tuples.proofs.OrderLemmas.{cons_cases, cons_here, no_members, take_all}
use Rattle.core_tree.specs.declared.model.Sig.{Sig}
use Rattle.core_tree.specs.declared.model.SigKind.{SigKind}
use Rattle.core_tree.specs.declared.model.SigKind.TheVariants.{Top, Extends, Subset}
use Rattle.core_tree.specs.declared.model.Column.{Column}
use Rattle.core_tree.specs.declared.model.Column.TheVariants.{Sig as SigColumn, Int as IntColumn}
use Rattle.core_tree.specs.Types.{TypeRows, parent_rows, kind_rows, by_sig, sig_rows, standing}
use Rattle.bound_uppers.specs.Kinds.{kind_at, row_kinds_of, rows_kinds_of, sig_kinds_of, HasRows}
use Rattle.bound_uppers.specs.Levels.{InLevel, HasMore, IsUp, Rises}

-- ---- lists of rows

map_joined : {X Y : Type 0} (f : X → Y) (xs ys : List X) → map f (xs ++ ys) ≡ map f xs ++ map f ys
map_joined f [] ys = refl
map_joined f (x ∷ xs) ys = ap (λ zs. f x ∷ zs) (map_joined f xs ys)

flat_joined : {X Y : Type 0} (f : X → List Y) (xs : List X) (y : X) → flat_map f (xs ++ y ∷ []) ≡ flat_map f xs ++ f y
flat_joined f xs y = flat_map-append f xs (y ∷ []) ∙ ap (λ zs. flat_map f xs ++ zs) (append-nil (f y))

-- ---- what is found, with a row or a sig more

module _ (sigs : List Sig) (ups : List ℕ) (m : ℕ) where
  with_row : (rows : List (List ℕ)) (waiting : List ℕ) (row t : List ℕ) → InLevel sigs ups m (rows ++ row ∷ []) waiting t ↔ (InLevel sigs ups m rows waiting t ⊎ Contains (row ∷ []) t)
  with_row rows waiting row t = (
    (λ h. elim h [ inl found ↦ elim (Contains-append_cases rows (row ∷ []) t found) [ inl was ↦ inl (inl was) | inr is ↦ inr is ] | inr later ↦ inl (inr later) ]),
    (λ h. elim h [ inl old ↦ elim old [ inl was ↦ inl (Contains-append_left rows (row ∷ []) t was) | inr later ↦ inr later ] | inr is ↦ inl (Contains-append_right rows (row ∷ []) t is) ]),
  )

  sig_cases : (waiting : List ℕ) (p : ℕ) (t : List ℕ) → (s : ℕ) → Contains (waiting ++ p ∷ []) s → Contains (sig_kinds_of sigs ups m s) t → ((q : ℕ) × Contains waiting q × Contains (sig_kinds_of sigs ups m q) t) ⊎ Contains (sig_kinds_of sigs ups m p) t
  sig_cases waiting p t s among has = elim (Contains-append_cases waiting (p ∷ []) s among) [
    | inl was ↦ inl (s, was, has)
    | inr is ↦ elim (cons_cases p [] s is) [ inl here ↦ inr (subst (λ (q : ℕ). Contains (sig_kinds_of sigs ups m q) t) here has) | inr none ↦ absurd (no_members s none) ]
  ]

  with_sig : (rows : List (List ℕ)) (waiting : List ℕ) (p : ℕ) (t : List ℕ) → InLevel sigs ups m rows (waiting ++ p ∷ []) t ↔ (InLevel sigs ups m rows waiting t ⊎ Contains (sig_kinds_of sigs ups m p) t)
  with_sig rows waiting p t = (
    (λ h. elim h [ inl was ↦ inl (inl was) | inr later ↦ elim (sig_cases waiting p t later.0 later.1 later.2) [ inl old ↦ inl (inr old) | inr is ↦ inr is ] ]),
    (λ h. elim h [
      | inl old ↦ elim old [ inl was ↦ inl was | inr later ↦ inr (later.0, Contains-append_left waiting (p ∷ []) later.0 later.1, later.2) ]
      | inr is ↦ inr (p, Contains-append_right waiting (p ∷ []) p (cons_here p [] p refl), is)
    ]),
  )

-- a row of the integers
pub row_more : (sigs : List Sig) (ups : List ℕ) (rows new : List (List ℕ)) (waiting : List ℕ) → new ≡ rows ++ (4294967295 ∷ []) ∷ [] → HasMore sigs ups (λ m. parent_rows (sig_rows sigs m) IntColumn) rows waiting new waiting
row_more sigs ups rows new waiting e = λ m t. subst (λ (xs : List (List ℕ)). InLevel sigs ups m xs waiting t ↔ (InLevel sigs ups m rows waiting t ⊎ Contains ((4294967295 ∷ []) ∷ []) t)) (sym e) (with_row sigs ups m rows waiting (4294967295 ∷ []) t)

-- a sig that waits
pub sig_more : (sigs : List Sig) (ups : List ℕ) (rows : List (List ℕ)) (waiting more : List ℕ) (p : ℕ) → more ≡ waiting ++ p ∷ [] → HasMore sigs ups (λ m. parent_rows (sig_rows sigs m) (SigColumn p)) rows waiting rows more
sig_more sigs ups rows waiting more p e = λ m t. subst (λ (ws : List ℕ). InLevel sigs ups m rows ws t ↔ (InLevel sigs ups m rows waiting t ⊎ Contains (sig_kinds_of sigs ups m p) t)) (sym e) (with_sig sigs ups m rows waiting p t)

-- nothing more
none_of : (sigs : List Sig) (ups : List ℕ) (rows : List (List ℕ)) (waiting : List ℕ) (m : ℕ) (t : List ℕ) → InLevel sigs ups m rows waiting t ↔ (InLevel sigs ups m rows waiting t ⊎ Contains {X = List ℕ} [] t)
none_of sigs ups rows waiting m t = ((λ h. inl h), (λ h. elim h [ inl old ↦ old | inr none ↦ absurd (no_members t none) ]))

-- first some, and then more
joined : (sigs : List Sig) (ups : List ℕ) (a b : ℕ → TypeRows) (rows new last : List (List ℕ)) (waiting more end : List ℕ) → HasMore sigs ups a rows waiting new more → HasMore sigs ups b new more last end → HasMore sigs ups (λ m. a m ++ b m) rows waiting last end
joined sigs ups a b rows new last waiting more end first second m t =
    let whole : rows_kinds_of ups (a m ++ b m) ≡ rows_kinds_of ups (a m) ++ rows_kinds_of ups (b m) = map_joined (row_kinds_of ups) (a m) (b m) in (
      (λ h. elim ((second m t).0 h) [
        | inl old ↦ elim ((first m t).0 old) [ inl was ↦ inl was | inr one ↦ inr (subst (λ (xs : List (List ℕ)). Contains xs t) (sym whole) (Contains-append_left (rows_kinds_of ups (a m)) (rows_kinds_of ups (b m)) t one)) ]
        | inr two ↦ inr (subst (λ (xs : List (List ℕ)). Contains xs t) (sym whole) (Contains-append_right (rows_kinds_of ups (a m)) (rows_kinds_of ups (b m)) t two))
      ]),
      (λ h. elim h [
        | inl was ↦ (second m t).1 (inl ((first m t).1 (inl was)))
        | inr more ↦ elim (Contains-append_cases (rows_kinds_of ups (a m)) (rows_kinds_of ups (b m)) t (subst (λ (xs : List (List ℕ)). Contains xs t) whole more)) [ inl one ↦ (second m t).1 (inl ((first m t).1 (inr one))) | inr two ↦ (second m t).1 (inr two) ]
      ]),
    )

-- the parents so far, and one more
pub none_more : (sigs : List Sig) (ups : List ℕ) (ps : List Column) (rows : List (List ℕ)) (waiting : List ℕ) → HasMore sigs ups (λ m. flat_map (parent_rows (sig_rows sigs m)) (take 0 ps)) rows waiting rows waiting
none_more sigs ups [] rows waiting = none_of sigs ups rows waiting
none_more sigs ups (p ∷ ps) rows waiting = none_of sigs ups rows waiting

pub parents_more : (sigs : List Sig) (ups : List ℕ) (ps : List Column) (k : ℕ) (p : Column) (rows new last : List (List ℕ)) (waiting more end : List ℕ) → k < length ps → slice_get ps k ≡ Some p → HasMore sigs ups (λ m. flat_map (parent_rows (sig_rows sigs m)) (take k ps)) rows waiting new more → HasMore sigs ups (λ m. parent_rows (sig_rows sigs m) p) new more last end → HasMore sigs ups (λ m. flat_map (parent_rows (sig_rows sigs m)) (take (k + 1) ps)) rows waiting last end
parents_more sigs ups ps k p rows new last waiting more end lt is first second m t =
    let longer : take (k + 1) ps ≡ take k ps ++ p ∷ [] = take_more ps k p lt ∙ ap (λ (c : Column). take k ps ++ c ∷ []) (get_or_from_slice_get ps k p p is) in
    let whole : flat_map (parent_rows (sig_rows sigs m)) (take (k + 1) ps) ≡ flat_map (parent_rows (sig_rows sigs m)) (take k ps) ++ parent_rows (sig_rows sigs m) p = ap (flat_map (parent_rows (sig_rows sigs m))) longer ∙ flat_joined (parent_rows (sig_rows sigs m)) (take k ps) p in
    let both = joined sigs ups (λ m. flat_map (parent_rows (sig_rows sigs m)) (take k ps)) (λ m. parent_rows (sig_rows sigs m) p) rows new last waiting more end first second m t in
    subst (λ (xs : TypeRows). InLevel sigs ups m last end t ↔ (InLevel sigs ups m rows waiting t ⊎ Contains (rows_kinds_of ups xs) t)) (sym whole) both

-- a sig of each kind
pub no_sig : (sigs : List Sig) (ups : List ℕ) (s : ℕ) (rows : List (List ℕ)) (waiting : List ℕ) → slice_get sigs s ≡ None → HasMore sigs ups (λ m. sig_rows sigs (suc m) s) rows waiting rows waiting
no_sig sigs ups s rows waiting e m t =
    let none : sig_rows sigs (suc m) s ≡ [] = ap (λ (o : Option Sig). by_sig [] (λ d. kind_rows ((SigColumn (standing sigs (length sigs) s) ∷ []) ∷ []) (λ p. sig_rows sigs m p) d.kind) o) e in
    subst (λ (xs : TypeRows). InLevel sigs ups m rows waiting t ↔ (InLevel sigs ups m rows waiting t ⊎ Contains (rows_kinds_of ups xs) t)) (sym none) (none_of sigs ups rows waiting m t)

by_kind : (sigs : List Sig) (s m : ℕ) (d : Sig) → slice_get sigs s ≡ Some d → sig_rows sigs (suc m) s ≡ kind_rows ((SigColumn (standing sigs (length sigs) s) ∷ []) ∷ []) (λ p. sig_rows sigs m p) d.kind
by_kind sigs s m d e = ap (λ (o : Option Sig). by_sig [] (λ c. kind_rows ((SigColumn (standing sigs (length sigs) s) ∷ []) ∷ []) (λ p. sig_rows sigs m p) c.kind) o) e

plain_rows : (itself : TypeRows) (up : ℕ → TypeRows) (kind : SigKind) → (kind ≡ Top) ⊎ ((p : ℕ) × (kind ≡ Extends p)) → kind_rows itself up kind ≡ itself
plain_rows itself up kind (inl is) = ap (kind_rows itself up) is
plain_rows itself up kind (inr (p, is)) = ap (kind_rows itself up) is

plain_by : (sigs : List Sig) (ups : List ℕ) (s : ℕ) (d : Sig) (rows new : List (List ℕ)) (waiting : List ℕ) → slice_get sigs s ≡ Some d → (d.kind ≡ Top) ⊎ ((p : ℕ) × (d.kind ≡ Extends p)) → new ≡ rows ++ (kind_at ups (SigColumn (standing sigs (length sigs) s)) ∷ []) ∷ [] → HasMore sigs ups (λ m. sig_rows sigs (suc m) s) rows waiting new waiting
plain_by sigs ups s d rows new waiting e is added m t =
    let itself : sig_rows sigs (suc m) s ≡ (SigColumn (standing sigs (length sigs) s) ∷ []) ∷ [] = by_kind sigs s m d e ∙ plain_rows ((SigColumn (standing sigs (length sigs) s) ∷ []) ∷ []) (λ p. sig_rows sigs m p) d.kind is in
    let row = kind_at ups (SigColumn (standing sigs (length sigs) s)) ∷ [] in
    let here : InLevel sigs ups m (rows ++ row ∷ []) waiting t ↔ (InLevel sigs ups m rows waiting t ⊎ Contains (rows_kinds_of ups (sig_rows sigs (suc m) s)) t) = subst (λ (xs : TypeRows). InLevel sigs ups m (rows ++ row ∷ []) waiting t ↔ (InLevel sigs ups m rows waiting t ⊎ Contains (rows_kinds_of ups xs) t)) (sym itself) (with_row sigs ups m rows waiting row t) in
    subst (λ (xs : List (List ℕ)). InLevel sigs ups m xs waiting t ↔ (InLevel sigs ups m rows waiting t ⊎ Contains (rows_kinds_of ups (sig_rows sigs (suc m) s)) t)) (sym added) here

pub top_more : (sigs : List Sig) (ups : List ℕ) (s : ℕ) (d : Sig) (rows new : List (List ℕ)) (waiting : List ℕ) → slice_get sigs s ≡ Some d → d.kind ≡ Top → new ≡ rows ++ (kind_at ups (SigColumn (standing sigs (length sigs) s)) ∷ []) ∷ [] → HasMore sigs ups (λ m. sig_rows sigs (suc m) s) rows waiting new waiting
top_more sigs ups s d rows new waiting e is added = plain_by sigs ups s d rows new waiting e (inl is) added

pub child_more : (sigs : List Sig) (ups : List ℕ) (s p : ℕ) (d : Sig) (rows new : List (List ℕ)) (waiting : List ℕ) → slice_get sigs s ≡ Some d → d.kind ≡ Extends p → new ≡ rows ++ (kind_at ups (SigColumn (standing sigs (length sigs) s)) ∷ []) ∷ [] → HasMore sigs ups (λ m. sig_rows sigs (suc m) s) rows waiting new waiting
child_more sigs ups s p d rows new waiting e is added = plain_by sigs ups s d rows new waiting e (inr (p, is)) added

pub subset_more : (sigs : List Sig) (ups : List ℕ) (s : ℕ) (d : Sig) (ps : List Column) (rows new : List (List ℕ)) (waiting more : List ℕ) → slice_get sigs s ≡ Some d → d.kind ≡ Subset ps → HasMore sigs ups (λ m. flat_map (parent_rows (sig_rows sigs m)) ps) rows waiting new more → HasMore sigs ups (λ m. sig_rows sigs (suc m) s) rows waiting new more
subset_more sigs ups s d ps rows new waiting more e is has m t =
    let whole : sig_rows sigs (suc m) s ≡ flat_map (parent_rows (sig_rows sigs m)) ps = by_kind sigs s m d e ∙ ap (kind_rows ((SigColumn (standing sigs (length sigs) s) ∷ []) ∷ []) (λ p. sig_rows sigs m p)) is in
    subst (λ (xs : TypeRows). InLevel sigs ups m new more t ↔ (InLevel sigs ups m rows waiting t ⊎ Contains (rows_kinds_of ups xs) t)) (sym whole) (has m t)

-- ---- one level up

nobody : (sigs : List Sig) (ups : List ℕ) (rows : List (List ℕ)) (m n : ℕ) (t : List ℕ) → InLevel sigs ups m rows [] t ↔ InLevel sigs ups n rows [] t
nobody sigs ups rows m n t = (
  (λ h. elim h [ inl was ↦ inl was | inr later ↦ absurd (no_members later.0 later.1) ]),
  (λ h. elim h [ inl was ↦ inl was | inr later ↦ absurd (no_members later.0 later.1) ]),
)

pub up_none : (sigs : List Sig) (ups : List ℕ) (rows : List (List ℕ)) (waiting : List ℕ) → IsUp sigs ups rows (take 0 waiting) rows []
up_none sigs ups rows [] m t = nobody sigs ups rows m (suc m) t
up_none sigs ups rows (s ∷ waiting) m t = nobody sigs ups rows m (suc m) t

pub up_more : (sigs : List Sig) (ups : List ℕ) (waiting : List ℕ) (k s : ℕ) (rows new last : List (List ℕ)) (more end : List ℕ) → k < length waiting → s ≡ slice_index waiting k → IsUp sigs ups rows (take k waiting) new more → HasMore sigs ups (λ m. sig_rows sigs (suc m) s) new more last end → IsUp sigs ups rows (take (k + 1) waiting) last end
up_more sigs ups waiting k s rows new last more end lt is up has m t =
    let longer : take (k + 1) waiting ≡ take k waiting ++ s ∷ [] = take_more waiting k 0 lt ∙ ap (λ (c : ℕ). take k waiting ++ c ∷ []) (sym is) in
    let whole : InLevel sigs ups (suc m) rows (take k waiting ++ s ∷ []) t ↔ (InLevel sigs ups (suc m) rows (take k waiting) t ⊎ Contains (sig_kinds_of sigs ups (suc m) s) t) = with_sig sigs ups (suc m) rows (take k waiting) s t in
    let both : InLevel sigs ups m last end t ↔ InLevel sigs ups (suc m) rows (take k waiting ++ s ∷ []) t = (
      (λ h. elim ((has m t).0 h) [ inl old ↦ whole.1 (inl ((up m t).0 old)) | inr here ↦ whole.1 (inr here) ]),
      (λ h. elim (whole.0 h) [ inl old ↦ (has m t).1 (inl ((up m t).1 old)) | inr here ↦ (has m t).1 (inr here) ]),
    ) in
    subst (λ (ws : List ℕ). InLevel sigs ups m last end t ↔ InLevel sigs ups (suc m) rows ws t) (sym longer) both

-- ---- all levels

one_waits : (sigs : List Sig) (ups : List ℕ) (n s : ℕ) → Rises sigs ups n s n [] (s ∷ [])
one_waits sigs ups n s t = (
  (λ h. elim h [ inl none ↦ absurd (no_members t none) | inr (q, among, has) ↦ elim (cons_cases s [] q among) [ inl is ↦ subst (λ (p : ℕ). Contains (sig_kinds_of sigs ups n p) t) is has | inr none ↦ absurd (no_members q none) ] ]),
  (λ h. inr (s, cons_here s [] s refl, h)),
)

pub begins : (sigs : List Sig) (ups : List ℕ) (n s : ℕ) (waiting : List ℕ) → waiting ≡ [] ++ s ∷ [] → Rises sigs ups n s (n - 0) [] waiting
begins sigs ups n s waiting e =
    let all : n - 0 ≡ n = omega arith in
    subst (λ (m : ℕ). Rises sigs ups n s m [] waiting) (sym all) (subst (λ (ws : List ℕ). Rises sigs ups n s n [] ws) (sym e) (one_waits sigs ups n s))

same_waiting : (sigs : List Sig) (ups : List ℕ) (m : ℕ) (rows : List (List ℕ)) (ws us : List ℕ) (t : List ℕ) → ((s : ℕ) → Contains us s ↔ Contains ws s) → InLevel sigs ups m rows us t ↔ InLevel sigs ups m rows ws t
same_waiting sigs ups m rows ws us t same = (
  (λ h. elim h [ inl was ↦ inl was | inr (s, among, has) ↦ inr (s, (same s).0 among, has) ]),
  (λ h. elim h [ inl was ↦ inl was | inr (s, among, has) ↦ inr (s, (same s).1 among, has) ]),
)

pub goes_on : (sigs : List Sig) (ups : List ℕ) (n s k : ℕ) (rows new : List (List ℕ)) (waiting next end : List ℕ) → k < n → Rises sigs ups n s (n - k) rows waiting → IsUp sigs ups rows waiting new next → ((q : ℕ) → Contains end q ↔ Contains next q) → Rises sigs ups n s (n - (k + 1)) new end
goes_on sigs ups n s k rows new waiting next end lt old up same t =
    let more : n - k ≡ suc (n - (k + 1)) = omega arith in
    let was : InLevel sigs ups (suc (n - (k + 1))) rows waiting t ↔ Contains (sig_kinds_of sigs ups n s) t = subst (λ (m : ℕ). InLevel sigs ups m rows waiting t ↔ Contains (sig_kinds_of sigs ups n s) t) more (old t) in
    let here = same_waiting sigs ups (n - (k + 1)) new next end t same in
    let step = up (n - (k + 1)) t in
    ((λ h. was.0 (step.0 (here.0 h))), (λ h. here.1 (step.1 (was.1 h))))

-- nobody waits, or one has gone up all the way
pub empty_end : (sigs : List Sig) (ups : List ℕ) (n s m : ℕ) (rows : List (List ℕ)) (waiting : List ℕ) → waiting ≡ [] → Rises sigs ups n s m rows waiting → (t : List ℕ) → Contains rows t ↔ Contains (sig_kinds_of sigs ups n s) t
empty_end sigs ups n s m rows waiting e all t =
    let those : InLevel sigs ups m rows [] t ↔ Contains (sig_kinds_of sigs ups n s) t = subst (λ (ws : List ℕ). InLevel sigs ups m rows ws t ↔ Contains (sig_kinds_of sigs ups n s) t) e (all t) in (
      (λ h. those.0 (inl h)),
      (λ h. elim (those.1 h) [ inl was ↦ was | inr (q, among, has) ↦ absurd (no_members q among) ]),
    )

pub ends : (sigs : List Sig) (ups : List ℕ) (n s k : ℕ) (rows : List (List ℕ)) (waiting : List ℕ) → n ≤ k → Rises sigs ups n s (n - k) rows waiting → (t : List ℕ) → Contains rows t ↔ Contains (sig_kinds_of sigs ups n s) t
ends sigs ups n s k rows waiting le all t =
    let none : n - k ≡ 0 = omega arith in
    let those : InLevel sigs ups 0 rows waiting t ↔ Contains (sig_kinds_of sigs ups n s) t = subst (λ (m : ℕ). InLevel sigs ups m rows waiting t ↔ Contains (sig_kinds_of sigs ups n s) t) none (all t) in (
      (λ h. those.0 (inl h)),
      (λ h. elim (those.1 h) [ inl was ↦ was | inr (q, among, has) ↦ absurd (no_members t has) ]),
    )

-- ---- at the end of a list, and of all levels

pub parents_all : (sigs : List Sig) (ups : List ℕ) (ps : List Column) (k : ℕ) (rows new : List (List ℕ)) (waiting more : List ℕ) → length ps ≤ k → HasMore sigs ups (λ m. flat_map (parent_rows (sig_rows sigs m)) (take k ps)) rows waiting new more → HasMore sigs ups (λ m. flat_map (parent_rows (sig_rows sigs m)) ps) rows waiting new more
parents_all sigs ups ps k rows new waiting more le has = subst (λ (qs : List Column). HasMore sigs ups (λ m. flat_map (parent_rows (sig_rows sigs m)) qs) rows waiting new more) (take_all ps k le) has

pub up_all : (sigs : List Sig) (ups : List ℕ) (waiting : List ℕ) (k : ℕ) (rows new : List (List ℕ)) (more : List ℕ) → length waiting ≤ k → IsUp sigs ups rows (take k waiting) new more → IsUp sigs ups rows waiting new more
up_all sigs ups waiting k rows new more le up = subst (λ (ws : List ℕ). IsUp sigs ups rows ws new more) (take_all waiting k le) up

nobody_waits : (xs : List ℕ) → length xs ≡ 0 → xs ≡ []
nobody_waits [] e = refl
nobody_waits (x ∷ xs) e = absurd (omega (arith, e))

pub empty_kept : (sigs : List Sig) (ups : List ℕ) (n s m : ℕ) (rows kept : List (List ℕ)) (waiting : List ℕ) → length waiting ≡ 0 → Rises sigs ups n s m rows waiting → HasRows kept rows → HasRows kept (sig_kinds_of sigs ups n s)
empty_kept sigs ups n s m rows kept waiting e all same t =
    let those = empty_end sigs ups n s m rows waiting (nobody_waits waiting e) all t in
    ((λ h. those.0 ((same t).0 h)), (λ h. (same t).1 (those.1 h)))

pub all_kept : (sigs : List Sig) (ups : List ℕ) (n s k : ℕ) (rows kept : List (List ℕ)) (waiting : List ℕ) → n ≤ k → Rises sigs ups n s (n - k) rows waiting → HasRows kept rows → HasRows kept (sig_kinds_of sigs ups n s)
all_kept sigs ups n s k rows kept waiting le all same t =
    let those = ends sigs ups n s k rows waiting le all t in
    ((λ h. those.0 ((same t).0 h)), (λ h. (same t).1 (those.1 h)))
