-- What contracts see of the lists after each step of a walk.
use Rattle.std.proofs.Common.{ℕ, ◌+◌, ◌<◌, ◌≤◌, ◌≡◌, ◌≢◌, List, [], ◌∷◌, ◌++◌, Bool, map, filter, length, get_or, set, take, drop, replicate, refl, sym, ap, subst, ◌∙◌, ⊎_elim, arith, length-set, length-drop}
use Rattle.std.proofs.lemmas.List.{set-set, set_comm, set_past, get_or_past, get_or-set_same, get_or-set_other, get_or-drop, take_more_set, drop-set-lt, drop-drop, drop_all, drop_more, length-replicate, length-map}
use Rattle.std.proofs.lemmas.Bool.{cases_lt}
use Rattle.sat_lists.specs.Nodes.{Lists, row_at, put_on, walking, IsWalk, AreAtRest, added, begun, settled, finished, stays, retained}

-- the lists are seen as this
abbrev pub IsSeen : List (List ℕ) → ℕ → ℕ → ℕ → ℕ → Lists → Type 0
IsSeen ls w n k e v = IsWalk ls w n k e × (walking ls w n k ≡ v)

-- at rest all nodes of the lists are seen
at_rest_here : (ls : List (List ℕ)) (w n k e : ℕ) → IsWalk ls w n k e → length ls ≤ w → record { lists = ls; loose = []; walked = w } ≡ walking ls w n k
at_rest_here ls w n k e h l =
    let none : row_at ls w ≡ [] = get_or_past ls w [] l in
    let same : set ls w (take k (row_at ls w)) ≡ ls = set_past ls w (take k (row_at ls w)) l in
    let rest : drop n (row_at ls w) ≡ [] = drop_all n (row_at ls w) (omega (arith, ap length none)) in
    rw (same, rest) refl

pub at_rest : (ls : List (List ℕ)) (w n k e : ℕ) (v : Lists) → IsSeen ls w n k e v → v.walked ≡ length v.lists → (w ≡ length ls) × (record { lists = ls; loose = []; walked = w } ≡ v)
at_rest ls w n k e v h r =
    let here : w ≡ length (set ls w (take k (row_at ls w))) = subst (λ (x : Lists). x.walked ≡ length x.lists) (sym h.1) r in
    let last : w ≡ length ls = here ∙ length-set ls w (take k (row_at ls w)) in
    (last, at_rest_here ls w n k e h.0 (omega (arith, last)) ∙ h.1)

-- where something is loose, the walk is inside a list
pub in_walk : (ls : List (List ℕ)) (w n k e : ℕ) (v : Lists) → IsSeen ls w n k e v → 0 < length v.loose → (w < length ls) × (n < length (row_at ls w)) × (n < e)
in_walk ls w n k e v h some =
    let here : 0 < length (drop n (row_at ls w)) = subst (λ (x : Lists). 0 < length x.loose) (sym h.1) some in
    let inside : n < length (row_at ls w) = omega (arith, length-drop n (row_at ls w)) in
    (⊎_elim (λ (l : w < length ls). l) (λ (past : length ls ≤ w). absurd (omega (arith, inside, ap length (get_or_past ls w [] past)))) (cases_lt w (length ls)), inside, omega (arith, inside, h.0.size))

pub before_end : (ls : List (List ℕ)) (w n k e : ℕ) → IsWalk ls w n k e → n ≢ e → (w < length ls) × (n < length (row_at ls w))
before_end ls w n k e h ne =
    let inside : n < length (row_at ls w) = omega (arith, h.within, h.size, ne) in
    (⊎_elim (λ (l : w < length ls). l) (λ (past : length ls ≤ w). absurd (omega (arith, inside, ap length (get_or_past ls w [] past)))) (cases_lt w (length ls)), inside)

pub new_seen : (ls : List (List ℕ)) (n : ℕ) → ls ≡ replicate n [] → IsSeen ls n 0 0 0 (record { lists = replicate n []; loose = []; walked = n })
new_seen ls n e =
    let size : length ls ≡ n = ap length e ∙ length-replicate {A = List ℕ} n [] in
    let past : length ls ≤ n = omega arith in
    let walk : IsWalk ls n 0 0 0 = record { behind = omega arith; within = omega arith; size = sym (ap length (get_or_past ls n [] past)) } in
    (walk, sym (at_rest_here ls n 0 0 0 walk past) ∙ ap (λ (xs : List (List ℕ)). record { lists = xs; loose = []; walked = n }) e)

pub begin_seen : (ls : List (List ℕ)) (w n k e : ℕ) (v : Lists) (c e' : ℕ) → IsSeen ls w n k e v → v.walked ≡ length v.lists → e' ≡ length (row_at ls c) → IsSeen ls c 0 0 e' (begun v c)
begin_seen ls w n k e v c e' h r size =
    let rest = at_rest ls w n k e v h r in
    subst (λ (x : Lists). IsSeen ls c 0 0 e' (begun x c)) rest.1 (record { behind = omega arith; within = omega arith; size = size }, refl)

pub first_seen : (ls : List (List ℕ)) (w n k e : ℕ) (v : Lists) (x : ℕ) → IsSeen ls w n k e v → n < length (row_at ls w) → x ≡ get_or (row_at ls w) n 0 → v.loose ≡ x ∷ drop 1 v.loose
first_seen ls w n k e v x h l is =
    let row = row_at ls w in
    let here : drop n row ≡ x ∷ drop 1 (drop n row) = drop_more row n 0 l ∙ (ap (λ (y : ℕ). y ∷ drop (n + 1) row) (sym is) ∙ ap (λ (xs : List ℕ). x ∷ xs) (sym (drop-drop 1 n row))) in
    subst (λ (y : Lists). y.loose ≡ x ∷ drop 1 y.loose) h.1 here

pub none_seen : (ls : List (List ℕ)) (w n k e : ℕ) (v : Lists) → IsSeen ls w n k e v → n ≡ e → v.loose ≡ []
none_seen ls w n k e v h is =
    subst (λ (y : Lists). y.loose ≡ []) h.1 (drop_all n (row_at ls w) (omega (arith, h.0.size, is)))

keep_here : (ls ls' : List (List ℕ)) (w n k e x : ℕ) → IsWalk ls w n k e → w < length ls → n < length (row_at ls w) → x ≡ get_or (row_at ls w) n 0 → ls' ≡ set ls w (set (row_at ls w) k x) → IsSeen ls' w (n + 1) (k + 1) e (settled (walking ls w n k) w)
keep_here ls ls' w n k e x h in_lists in_row is f =
    let row = row_at ls w in
    let row' = set row k x in
    let here : row_at (set ls w row') w ≡ row' = get_or-set_same ls w row' [] in_lists in
    let behind : k < length row = omega (arith, h.behind) in
    let stay : take (k + 1) row' ≡ take k row ++ x ∷ [] = take_more_set row k x behind in
    let rest : drop (n + 1) row' ≡ drop 1 (drop n row) = drop-set-lt (n + 1) row k x (omega (arith, h.behind)) ∙ sym (drop-drop 1 n row) in
    let head : get_or (drop n row) 0 0 ≡ x = get_or-drop n row 0 0 ∙ (ap (λ (i : ℕ). get_or row i 0) (omega arith) ∙ sym is) in
    let old : row_at (set ls w (take k row)) w ≡ take k row = get_or-set_same ls w (take k row) [] in_lists in
    let lists : set (set ls w row') w (take (k + 1) row') ≡ set (set ls w (take k row)) w (take k row ++ x ∷ []) =
    set-set ls w row' (take (k + 1) row') ∙ (ap (λ (xs : List ℕ). set ls w xs) stay ∙ sym (set-set ls w (take k row) (take k row ++ x ∷ []))) in
    rw f (
      record { behind = omega (arith, h.behind); within = omega (arith, in_row, h.size); size = h.size ∙ (sym (length-set row k x) ∙ sym (ap length here)) },
      rw (here, lists, rest, old, head) refl,
    )

pub keep_seen : (ls ls' : List (List ℕ)) (w n k e x : ℕ) (v : Lists) → IsSeen ls w n k e v → 0 < length v.loose → x ≡ get_or (row_at ls w) n 0 → ls' ≡ set ls w (set (row_at ls w) k x) → IsSeen ls' w (n + 1) (k + 1) e (settled v v.walked)
keep_seen ls ls' w n k e x v h some is f =
    let i = in_walk ls w n k e v h some in
    subst (λ (y : Lists). IsSeen ls' w (n + 1) (k + 1) e (settled y y.walked)) h.1 (keep_here ls ls' w n k e x h.0 i.0 i.1 is f)

settle_here : (ls ls' : List (List ℕ)) (w n k e x c : ℕ) → IsWalk ls w n k e → n < length (row_at ls w) → x ≡ get_or (row_at ls w) n 0 → c ≢ w → ls' ≡ put_on ls c x → IsSeen ls' w (n + 1) k e (settled (walking ls w n k) c)
settle_here ls ls' w n k e x c h in_row is ne f =
    let row = row_at ls w in
    let more = row_at ls c ++ x ∷ [] in
    let here : row_at (set ls c more) w ≡ row = get_or-set_other ls c w more [] (λ (e : w ≡ c). ne (sym e)) in
    let rest : drop (n + 1) row ≡ drop 1 (drop n row) = sym (drop-drop 1 n row) in
    let head : get_or (drop n row) 0 0 ≡ x = get_or-drop n row 0 0 ∙ (ap (λ (i : ℕ). get_or row i 0) (omega arith) ∙ sym is) in
    let old : row_at (set ls w (take k row)) c ≡ row_at ls c = get_or-set_other ls w c (take k row) [] ne in
    let lists : set (set ls c more) w (take k row) ≡ set (set ls w (take k row)) c more = set_comm ls c w more (take k row) ne in
    rw f (
      record { behind = omega (arith, h.behind); within = omega (arith, in_row, h.size); size = h.size ∙ sym (ap length here) },
      rw (here, lists, rest, old, head) refl,
    )

pub settle_seen : (ls ls' : List (List ℕ)) (w n k e x c : ℕ) (v : Lists) → IsSeen ls w n k e v → 0 < length v.loose → x ≡ get_or (row_at ls w) n 0 → c ≢ w → ls' ≡ put_on ls c x → IsSeen ls' w (n + 1) k e (settled v c)
settle_seen ls ls' w n k e x c v h some is ne f =
    let i = in_walk ls w n k e v h some in
    subst (λ (y : Lists). IsSeen ls' w (n + 1) k e (settled y c)) h.1 (settle_here ls ls' w n k e x c h.0 i.1 is ne f)

pub finish_seen : (ls ls' : List (List ℕ)) (w n k e : ℕ) (v : Lists) (m : ℕ) → IsSeen ls w n k e v → ls' ≡ set ls w (take k (row_at ls w)) → m ≡ length ls' → IsSeen ls' m 0 0 0 (finished v)
finish_seen ls ls' w n k e v m h f size =
    let past : length ls' ≤ m = omega arith in
    let walk : IsWalk ls' m 0 0 0 = record { behind = omega arith; within = omega arith; size = sym (ap length (get_or_past ls' m [] past)) } in
    let here : record { lists = ls'; loose = []; walked = m } ≡ finished (walking ls w n k) = rw (size, f) refl in
    (walk, sym (at_rest_here ls' m 0 0 0 walk past) ∙ (here ∙ ap finished h.1))

-- other lists, with no walk
pub other_seen : (ls ls' : List (List ℕ)) (w n k e : ℕ) (v : Lists) → IsSeen ls w n k e v → v.walked ≡ length v.lists → length ls' ≡ length ls → IsSeen ls' w n k e (record { lists = ls'; loose = []; walked = w })
other_seen ls ls' w n k e v h r size =
    let rest = at_rest ls w n k e v h r in
    let past : length ls ≤ w = omega (arith, rest.0) in
    let past' : length ls' ≤ w = omega (arith, rest.0, size) in
    let walk : IsWalk ls' w n k e = record { behind = h.0.behind; within = h.0.within; size = h.0.size ∙ (ap length (get_or_past ls w [] past) ∙ sym (ap length (get_or_past ls' w [] past'))) } in
    (walk, sym (at_rest_here ls' w n k e walk past'))

pub add_seen : (ls ls' : List (List ℕ)) (w n k e : ℕ) (v : Lists) (a x b y : ℕ) → IsSeen ls w n k e v → AreAtRest v → ls' ≡ put_on (put_on ls a x) b y → IsSeen ls' w n k e (added (added v a x) b y)
add_seen ls ls' w n k e v a x b y h r f =
    let rest = at_rest ls w n k e v h r.1 in
    let size : length ls' ≡ length ls = ap length f ∙ (length-set (put_on ls a x) b (row_at (put_on ls a x) b ++ y ∷ []) ∙ length-set ls a (row_at ls a ++ x ∷ [])) in
    let seen = other_seen ls ls' w n k e v h r.1 size in
    (seen.0, seen.1 ∙ (ap (λ (xs : List (List ℕ)). record { lists = xs; loose = []; walked = w }) f ∙ ap (λ (z : Lists). added (added z a x) b y) rest.1))

pub retain_seen : (ls ls' : List (List ℕ)) (w n k e : ℕ) (v : Lists) (marks : List Bool) → IsSeen ls w n k e v → AreAtRest v → ls' ≡ map (filter (stays marks)) ls → IsSeen ls' w n k e (retained marks v)
retain_seen ls ls' w n k e v marks h r f =
    let rest = at_rest ls w n k e v h r.1 in
    let size : length ls' ≡ length ls = ap length f ∙ length-map ls (filter (stays marks)) in
    let seen = other_seen ls ls' w n k e v h r.1 size in
    (seen.0, seen.1 ∙ (ap (λ (xs : List (List ℕ)). record { lists = xs; loose = []; walked = w }) f ∙ ap (retained marks) rest.1))

pub same_seen : (ls ls' : List (List ℕ)) (w n k e : ℕ) (v : Lists) → IsSeen ls w n k e v → ls' ≡ ls → IsSeen ls' w n k e v
same_seen ls ls' w n k e v h f = rw f h
