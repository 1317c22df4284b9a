-- What the lists hold once one of them has changed.
use Rattle.std.proofs.Common.{ℕ, ◌+◌, ◌<◌, ◌≤◌, ◌≡◌, Bool, List, [], ◌∷◌, ◌++◌, map, filter, length, get_or, set, take, drop, replicate, refl, sym, ap, ◌∙◌, inl, inr, arith, Result, Ok, Err, OnErr, is_err, true, Vec, Global}
use Rattle.std.proofs.lemmas.List.{map-set, map_push, get_or-map, length-map, set-get_or, set_past, get_or-set_same, set-set, take_at, replicate_more, get_or_default}
use Rattle.std.proofs.lemmas.List.Edits.{map_over_more}
use Rattle.std.proofs.lemmas.Bool.{cases_lt}
use Rattle.sat_lists.specs.Nodes.{rows, row_at, put_on}

pub rows_more : (ls ls' : List (Vec ℕ Global)) (v : Vec ℕ Global) (n : ℕ) → rows ls ≡ replicate n [] → v.items ≡ [] → ls' ≡ ls ++ v ∷ [] → rows ls' ≡ replicate (n + 1) []
rows_more ls ls' v n h e f = rw (f, map_push (λ (x : Vec ℕ Global). x.items) ls v, h, e) (replicate_more {X = List ℕ} n [])

pub rows_length : (ls : List (Vec ℕ Global)) → length (rows ls) ≡ length ls
rows_length ls = length-map ls (λ (x : Vec ℕ Global). x.items)

pub row_read : (ls : List (Vec ℕ Global)) (c : ℕ) (v : Vec ℕ Global) → c < length ls → v ≡ get_or ls c v → v.items ≡ row_at (rows ls) c
row_read ls c v l e =
    let items = λ (x : Vec ℕ Global). x.items in
    ap items e ∙ sym (get_or-map items ls c v [] l)

pub rows_set : (ls : List (Vec ℕ Global)) (c : ℕ) (w : Vec ℕ Global) (xs : List ℕ) → w.items ≡ xs → rows (set ls c w) ≡ set (rows ls) c xs
rows_set ls c w xs e = map-set (λ (x : Vec ℕ Global). x.items) ls c w ∙ ap (λ (ys : List ℕ). set (rows ls) c ys) e

-- a list that stays as it is
pub rows_same : (ls : List (Vec ℕ Global)) (c : ℕ) (v w : Vec ℕ Global) → c < length ls → v ≡ get_or ls c v → w.items ≡ v.items → rows (set ls c w) ≡ rows ls
rows_same ls c v w l e f = rows_set ls c w (row_at (rows ls) c) (f ∙ row_read ls c v l e) ∙ set-get_or (rows ls) c []

-- a list with a node more
pub rows_push : (ls : List (Vec ℕ Global)) (c k : ℕ) (v w : Vec ℕ Global) → c < length ls → v ≡ get_or ls c v → w.items ≡ v.items ++ k ∷ [] → rows (set ls c w) ≡ put_on (rows ls) c k
rows_push ls c k v w l e f = rows_set ls c w (row_at (rows ls) c ++ k ∷ []) (f ∙ ap (λ (xs : List ℕ). xs ++ k ∷ []) (row_read ls c v l e))

-- a list with another node at a place
pub rows_write : (ls : List (Vec ℕ Global)) (c p k : ℕ) (v w : Vec ℕ Global) → c < length ls → v ≡ get_or ls c v → w.items ≡ set v.items p k → rows (set ls c w) ≡ set (rows ls) c (set (row_at (rows ls) c) p k)
rows_write ls c p k v w l e f = rows_set ls c w (set (row_at (rows ls) c) p k) (f ∙ ap (λ (xs : List ℕ). set xs p k) (row_read ls c v l e))

-- a list's first nodes
pub rows_cut : (ls : List (Vec ℕ Global)) (c n : ℕ) (v w : Vec ℕ Global) → c < length ls → v ≡ get_or ls c v → w.items ≡ take n v.items → rows (set ls c w) ≡ set (rows ls) c (take n (row_at (rows ls) c))
rows_cut ls c n v w l e f = rows_set ls c w (take n (row_at (rows ls) c)) (f ∙ ap (λ (xs : List ℕ). take n xs) (row_read ls c v l e))

-- where there is no such list
pub rows_past : (ls : List (Vec ℕ Global)) (c : ℕ) (xs : List ℕ) → length ls ≤ c → rows ls ≡ set (rows ls) c xs
rows_past ls c xs l = sym (set_past (rows ls) c xs (omega (arith, rows_length ls)))

-- one list more without the nodes that leave
pub rows_retain : (p : ℕ → Bool) (first ls : List (Vec ℕ Global)) (c : ℕ) (v w : Vec ℕ Global) → c < length first → length ls ≡ length first → rows ls ≡ map (filter p) (take c (rows first)) ++ drop c (rows first) → v ≡ get_or ls c v → w.items ≡ filter p v.items → rows (set ls c w) ≡ map (filter p) (take (c + 1) (rows first)) ++ drop (c + 1) (rows first)
rows_retain p first ls c v w l size h e f =
    let inside : c < length ls = omega arith in
    let within : c < length (rows first) = omega (arith, rows_length first) in
    let read : v.items ≡ row_at (rows ls) c = row_read ls c v inside e in
    let here : v.items ≡ get_or (rows ls) c v.items = read ∙ get_or_default (rows ls) c [] v.items (omega (arith, rows_length ls)) in
    rows_set ls c w (filter p v.items) f ∙ map_over_more (filter p) (rows first) (rows ls) c v.items within h here

-- a node that was put on a list and taken off again
pub cut_back : (ls : List (List ℕ)) (c k : ℕ) → set (put_on ls c k) c (take (length (row_at ls c)) (row_at (put_on ls c k) c)) ≡ ls
cut_back ls c k = elim (cases_lt c (length ls)) [
  | inl l ↦
      let row = row_at ls c in
      let same : row_at (put_on ls c k) c ≡ row ++ k ∷ [] = get_or-set_same ls c (row ++ k ∷ []) [] l in
      let cut : take (length row) (row ++ k ∷ []) ≡ row = take_at row (k ∷ []) (length row) refl in
      rw (same, cut) (set-set ls c (row ++ k ∷ []) row ∙ set-get_or ls c [])
  | inr past ↦
      let none : put_on ls c k ≡ ls = set_past ls c (row_at ls c ++ k ∷ []) past in
      rw none (set_past ls c (take (length (row_at ls c)) (row_at ls c)) past)
]

pub on_err : {X E P : Type 0} (r : Result X E) → P → OnErr r P
on_err (Ok x) p = tt
on_err (Err e) p = p

pub from_err : {X E P : Type 0} (r : Result X E) → true ≡ is_err r → OnErr r P → P
from_err (Ok x) e h = cc
from_err (Err x) e h = h
