-- What is true of the clauses stays true once another clause is added after them.
use Rattle.std.proofs.Common.{ℕ, zero, suc, ◌+◌, ◌-◌, ◌*◌, ◌/◌, ◌<◌, ◌≤◌, ◌≡◌, ◌≢◌, ℤ, pos, neg_ℤ, Bool, true, false, List, [], ◌∷◌, ◌++◌, length, get_or, take, drop, refl, sym, ap, subst, ◌∙◌, inl, inr, ◌⊎◌, ⊎_elim, arith, length-set, length-append, length-drop}
use Rattle.std.specs.List.{Contains, All}
use Rattle.std.proofs.lemmas.List.{get_or_append_left, get_or-append-add, get_or_at, get_or_past, append_assoc, append-nil, take-append-le, take_all, drop-append-le}
use Rattle.std.proofs.lemmas.List.Elements.{Contains-append_left, Contains-push, All-take, All-drop, All-from_get_or}
use Rattle.std.proofs.lemmas.Bool.{cases_eq, cases_lt}
use Rattle.sat_trail.specs.Literal.{IsLiteral, list_of}
use Rattle.sat_lists.specs.Nodes.{Lists, list_at, row_at, put_on, AreAtRest, added}
use Rattle.sat_trail.specs.Assignment.{value_at}
use Rattle.sat_trail.specs.Watched.{start_of, InClause, IsArena, IsTrueIn, watched, IsPair, IsWatched, IsWoven, IsAlike}
use Rattle.sat_trail.specs.Sound.{Net, IsFrame, IsSound}
use Rattle.std.proofs.Math.Seq.{drop-append_seam}
use Rattle.sat_trail.specs.State.{Search, Adds}
use Rattle.sat_trail.proofs.Assigning.{Contains_take-at}
use Rattle.sat_trail.proofs.Weaving.{Contains-head, Contains-tail, Contains-cases, at_in_clause, list_of-lt, put_old, put_new, put_cases}

-- the ends with that of a clause of these literals
abbrev pub more_ends : List ℤ → List ℕ → List ℤ → List ℕ
more_ends literals ends ls = ends ++ length (literals ++ ls) ∷ []

start_more : (ends : List ℕ) (e i : ℕ) → i ≤ length ends → start_of (ends ++ e ∷ []) i ≡ start_of ends i
start_more ends e zero l = refl
start_more ends e (suc i) l = get_or_append_left ends (e ∷ []) 0 i (omega arith)

end_more : (ends : List ℕ) (e i : ℕ) → i < length ends → get_or (ends ++ e ∷ []) i 0 ≡ get_or ends i 0
end_more ends e i l = get_or_append_left ends (e ∷ []) 0 i l

pub lit_more : (literals ls : List ℤ) (p : ℕ) → p < length literals → value_at (literals ++ ls) p ≡ value_at literals p
lit_more literals ls p l = get_or_append_left literals ls (pos 0) p l

pub in_more : (ends : List ℕ) (e i p : ℕ) → i < length ends → InClause ends i p → InClause (ends ++ e ∷ []) i p
in_more ends e i p l h = (omega (arith, h.0, start_more ends e i (omega arith)), omega (arith, h.1, end_more ends e i l))

pub in_less : (ends : List ℕ) (e i p : ℕ) → i < length ends → InClause (ends ++ e ∷ []) i p → InClause ends i p
in_less ends e i p l h = (omega (arith, h.0, start_more ends e i (omega arith)), omega (arith, h.1, end_more ends e i l))

pub in_literals : (literals : List ℤ) (ends : List ℕ) (variables i p : ℕ) → IsArena literals ends variables → i < length ends → InClause ends i p → p < length literals
in_literals literals ends variables i p a l h = omega (arith, h.1, (a.ordered i l).1)

pub IsArena-more : (literals ls : List ℤ) (ends : List ℕ) (variables : ℕ) → IsArena literals ends variables → All (IsLiteral variables) ls → IsArena (literals ++ ls) (more_ends literals ends ls) variables
IsArena-more literals ls ends variables a h =
    let e = length (literals ++ ls) in
    let size = length-append literals ls in
    let count = length-append ends (e ∷ []) in
    record {
      ordered = λ i l. ⊎_elim
          (λ (old : i < length ends). let o = a.ordered i old in (omega (arith, o.0, start_more ends e i (omega arith), end_more ends e i old), omega (arith, o.1, end_more ends e i old, size)))
          (λ (new : length ends ≤ i). let is : i ≡ length ends = omega (arith, count) in
          let last : get_or (ends ++ e ∷ []) i 0 ≡ e = get_or_at ends e [] 0 i (sym is) in
          let first : start_of (ends ++ e ∷ []) i ≡ length literals = start_more ends e i (omega arith) ∙ (ap (start_of ends) is ∙ a.full) in
          (omega (arith, first, last, size), omega (arith, last)))
          (cases_lt i (length ends));
      literal = λ p l. ⊎_elim
          (λ (old : p < length literals). rw (lit_more literals ls p old) (a.literal p old))
          (λ (new : length literals ≤ p).
          let k = p - length literals in
          let at : length literals + k ≡ p = omega arith in
          let is : value_at (literals ++ ls) p ≡ value_at ls k = sym (ap (value_at (literals ++ ls)) at) ∙ get_or-append-add literals ls k (pos 0) in
          rw is (h k (pos 0) (omega (arith, size))))
          (cases_lt p (length literals));
      full = get_or_last ends e;
    }
  where
    get_or_last : (xs : List ℕ) (x : ℕ) → start_of (xs ++ x ∷ []) (length (xs ++ x ∷ [])) ≡ x
    get_or_last xs x = ap (start_of (xs ++ x ∷ [])) (length_suc xs x) ∙ get_or_at xs x [] 0 (length xs) refl
      where
        length_suc : (ys : List ℕ) (y : ℕ) → length (ys ++ y ∷ []) ≡ suc (length ys)
        length_suc ys y = omega (arith, length-append ys (y ∷ []))

pub true_more : (literals ls : List ℤ) (ends : List ℕ) (variables e i : ℕ) (trail : List ℤ) → IsArena literals ends variables → i < length ends → IsTrueIn literals ends trail i → IsTrueIn (literals ++ ls) (ends ++ e ∷ []) trail i
true_more literals ls ends variables e i trail a l h =
    (h.0, in_more ends e i h.0 l h.1, rw (lit_more literals ls h.0 (in_literals literals ends variables i h.0 a l h.1)) h.2)

alike_more : (literals ls : List ℤ) (ends : List ℕ) (variables e i : ℕ) → IsArena literals ends variables → i < length ends → IsAlike literals ends i → IsAlike (literals ++ ls) (ends ++ e ∷ []) i
alike_more literals ls ends variables e i a l h p q in_p in_q =
    let p' = in_less ends e i p l in_p in
    let q' = in_less ends e i q l in_q in
    rw (lit_more literals ls p (in_literals literals ends variables i p a l p'), lit_more literals ls q (in_literals literals ends variables i q a l q')) (h p q p' q')

at_more : (at xs : List ℕ) (k : ℕ) → k < length at → get_or (at ++ xs) k 0 ≡ get_or at k 0
at_more at xs k l = get_or_append_left at xs 0 k l

-- a pair of an old clause, before and after
pub pair_same : (literals ls : List ℤ) (ends at xs : List ℕ) (variables e i k : ℕ) → IsArena literals ends variables → i < length ends → k < length at → InClause ends i (get_or at k 0) → watched (literals ++ ls) (at ++ xs) k ≡ watched literals at k
pair_same literals ls ends at xs variables e i k a l m h =
    ap (value_at (literals ++ ls)) (at_more at xs k m) ∙ lit_more literals ls (get_or at k 0) (in_literals literals ends variables i (get_or at k 0) a l h)

pair_more : (literals ls : List ℤ) (ends at xs : List ℕ) (variables e i : ℕ) → IsArena literals ends variables → i < length ends → length at ≡ 2 * length ends → IsPair literals ends at i → IsPair (literals ++ ls) (ends ++ e ∷ []) (at ++ xs) i
pair_more literals ls ends at xs variables e i a l s h =
    let m : 2 * i < length at = omega arith in
    let n : 2 * i + 1 < length at = omega arith in
    record {
      one = rw (at_more at xs (2 * i) m) (in_more ends e i (get_or at (2 * i) 0) l h.one);
      two = rw (at_more at xs (2 * i + 1) n) (in_more ends e i (get_or at (2 * i + 1) 0) l h.two);
      different = λ same. h.different (sym (pair_same literals ls ends at xs variables e i (2 * i) a l m h.one) ∙ (same ∙ pair_same literals ls ends at xs variables e i (2 * i + 1) a l n h.two));
    }

pub pair_less : (literals ls : List ℤ) (ends at xs : List ℕ) (variables e i : ℕ) → IsArena literals ends variables → i < length ends → length at ≡ 2 * length ends → IsPair (literals ++ ls) (ends ++ e ∷ []) (at ++ xs) i → IsPair literals ends at i
pair_less literals ls ends at xs variables e i a l s h =
    let m : 2 * i < length at = omega arith in
    let n : 2 * i + 1 < length at = omega arith in
    let one : InClause ends i (get_or at (2 * i) 0) = in_less ends e i (get_or at (2 * i) 0) l (rw (at_more at xs (2 * i) m) at h.one) in
    let two : InClause ends i (get_or at (2 * i + 1) 0) = in_less ends e i (get_or at (2 * i + 1) 0) l (rw (at_more at xs (2 * i + 1) n) at h.two) in
    record {
      one = one;
      two = two;
      different = λ same. h.different (pair_same literals ls ends at xs variables e i (2 * i) a l m one ∙ (same ∙ sym (pair_same literals ls ends at xs variables e i (2 * i + 1) a l n two)));
    }

-- the nodes of the new clause watch nothing that is false among the first d true literals
abbrev pub IsFresh : List ℤ → List ℕ → List ℕ → ℕ → List ℤ → ℕ → Type 0
IsFresh literals ends at size trail d = (k : ℕ) → size ≤ k → k < length at → IsPair literals ends at (k / 2) → Contains (take d trail) (neg_ℤ (watched literals at k)) → ⊥

pub Contains_take-less : (xs : List ℤ) (n m : ℕ) (x : ℤ) → n ≤ m → Contains (take n xs) x → Contains (take m xs) x
Contains_take-less xs zero m x l h = absurd (omega (arith, h.1))
Contains_take-less xs (suc n) zero x l h = absurd (omega arith)
Contains_take-less [] (suc n) (suc m) x l h = absurd (omega (arith, h.1))
Contains_take-less (y ∷ ys) (suc n) (suc m) x l h = ⊎_elim
    (λ (e : y ≡ x). subst (Contains (y ∷ take m ys)) e (Contains-head y (take m ys)))
    (λ (r : Contains (take n ys) x). Contains-tail y (take m ys) x (Contains_take-less ys n m x (omega arith) r))
    (Contains-cases y (take n ys) x h)

watched_more : (literals ls : List ℤ) (ends at xs : List ℕ) (variables e : ℕ) (trail : List ℤ) (n d d' : ℕ) → IsArena literals ends variables → length at ≡ 2 * length ends → d' ≤ d → IsFresh (literals ++ ls) (ends ++ e ∷ []) (at ++ xs) (length at) trail d' → IsWatched literals ends at trail n d → IsWatched (literals ++ ls) (ends ++ e ∷ []) (at ++ xs) trail n d'
watched_more literals ls ends at xs variables e trail n d d' a s less fresh h k l p is_false = ⊎_elim
    (λ (old : k < length at).
    let i : k / 2 < length ends = omega arith in
    let p' = pair_less literals ls ends at xs variables e (k / 2) a i s p in
    let same = pair_same literals ls ends at xs variables e (k / 2) k a i old (at_in_clause literals ends at k p') in
    true_more literals ls ends variables e (k / 2) (take n trail) a i (h k old p' (Contains_take-less trail d' d (neg_ℤ (watched literals at k)) less (rw same at is_false))))
    (λ (new : length at ≤ k). absurd (fresh k new l p is_false))
    (cases_lt k (length at))

pub IsWoven-more : (literals ls : List ℤ) (ends at : List ℕ) (v v' : Lists) (variables e x y c₁ c₂ node : ℕ) → IsArena literals ends variables → IsWoven literals ends at v variables → v.loose ≡ [] → node ≡ length at → v' ≡ added (added v c₁ node) c₂ (node + 1) → c₁ < length v.lists → c₂ < length v.lists
    → IsPair (literals ++ ls) (ends ++ e ∷ []) (at ++ x ∷ y ∷ []) (length ends)
    → list_of (watched (literals ++ ls) (at ++ x ∷ y ∷ []) (length at)) ≡ c₁
    → list_of (watched (literals ++ ls) (at ++ x ∷ y ∷ []) (length at + 1)) ≡ c₂
    → IsWoven (literals ++ ls) (ends ++ e ∷ []) (at ++ x ∷ y ∷ []) v' variables
IsWoven-more literals ls ends at v v' variables e x y c₁ c₂ node a w none first_is f l₁ l₂ pair link₁ link₂ =
    let lits = literals ++ ls in
    let es = ends ++ e ∷ [] in
    let at' = at ++ x ∷ y ∷ [] in
    let ls₁ = put_on v.lists c₁ node in
    let size : length at' ≡ length at + 2 = omega (arith, length-append at (x ∷ y ∷ [])) in
    let first : (length at) / 2 ≡ length ends = omega (arith, w.two_each) in
    let second : (length at + 1) / 2 ≡ length ends = omega (arith, w.two_each) in
    let P : ℕ → Type 0 = λ k. (k < length at') × IsPair lits es at' (k / 2) in
    let is_first : (k : ℕ) → k ≡ node → P k = λ k is. let here : k ≡ length at = is ∙ first_is in subst P (sym here) (omega arith, rw first pair) in
    let is_second : (k : ℕ) → k ≡ node + 1 → P k = λ k is. let here : k ≡ length at + 1 = omega (arith, is, first_is) in subst P (sym here) (omega arith, rw second pair) in
    let l₂' : c₂ < length ls₁ = omega (arith, l₂, length-set v.lists c₁ (row_at v.lists c₁ ++ node ∷ [])) in
    rw f (record {
      two_each = omega (arith, size, w.two_each, length-append ends (e ∷ []));
      count = length-set ls₁ c₂ (row_at ls₁ c₂ ++ (node + 1) ∷ []) ∙ (length-set v.lists c₁ (row_at v.lists c₁ ++ node ∷ []) ∙ w.count);
      listed = λ d k l h. ⊎_elim
          (λ (new : (k ≡ node + 1) × (d ≡ c₂)). is_second k new.0)
          (λ (before : Contains (row_at ls₁ d) k). ⊎_elim
          (λ (new : (k ≡ node) × (d ≡ c₁)). is_first k new.0)
          (λ (old : Contains (row_at v.lists d) k). let its = w.listed d k l old in
          (omega (arith, its.0, size), pair_more literals ls ends at (x ∷ y ∷ []) variables e (k / 2) a (omega (arith, its.0, w.two_each)) w.two_each its.1))
          (put_cases v.lists c₁ d node k before))
          (put_cases ls₁ c₂ d (node + 1) k h);
      loose = λ k h. let gone : Contains [] k = rw none at h in absurd (omega (arith, gone.1));
      linked = λ k l p. ⊎_elim
          (λ (old : k < length at).
          let i : k / 2 < length ends = omega (arith, w.two_each) in
          let p' = pair_less literals ls ends at (x ∷ y ∷ []) variables e (k / 2) a i w.two_each p in
          let same = pair_same literals ls ends at (x ∷ y ∷ []) variables e (k / 2) k a i old (at_in_clause literals ends at k p') in
          ⊎_elim
          (λ (has : Contains (list_at v (list_of (watched literals at k))) k). inl (rw same (put_old ls₁ c₂ (list_of (watched literals at k)) (node + 1) k (put_old v.lists c₁ (list_of (watched literals at k)) node k has))))
          (λ (here : Contains v.loose k × (list_of (watched literals at k) ≡ v.walked)). let gone : Contains [] k = rw none at here.0 in absurd (omega (arith, gone.1)))
          (w.linked k old p'))
          (λ (new : length at ≤ k). ⊎_elim
          (λ (one : k ≡ length at).
          let here : list_of (watched lits at' k) ≡ c₁ = ap (λ (n : ℕ). list_of (watched lits at' n)) one ∙ link₁ in
          let is : k ≡ node = one ∙ sym first_is in
          inl (rw (here, is) (put_old ls₁ c₂ c₁ (node + 1) node (put_new v.lists c₁ node l₁))))
          (λ (not_one : k ≢ length at).
          let two : k ≡ length at + 1 = omega (arith, l, size) in
          let here : list_of (watched lits at' k) ≡ c₂ = ap (λ (n : ℕ). list_of (watched lits at' n)) two ∙ link₂ in
          let is : k ≡ node + 1 = omega (arith, two, first_is) in
          inl (rw (here, is) (put_new ls₁ c₂ (node + 1) l₂')))
          (cases_eq k (length at)))
          (cases_lt k (length at));
    })

-- the same for a clause that watches nothing, whose nodes are on no list
pub IsWoven-none : (literals ls : List ℤ) (ends at : List ℕ) (v : Lists) (variables e x y : ℕ) → IsArena literals ends variables → IsWoven literals ends at v variables → v.loose ≡ []
    → (IsPair (literals ++ ls) (ends ++ e ∷ []) (at ++ x ∷ y ∷ []) (length ends) → ⊥)
    → IsWoven (literals ++ ls) (ends ++ e ∷ []) (at ++ x ∷ y ∷ []) v variables
IsWoven-none literals ls ends at v variables e x y a w none no_pair =
    let lits = literals ++ ls in
    let es = ends ++ e ∷ [] in
    let at' = at ++ x ∷ y ∷ [] in
    let size : length at' ≡ length at + 2 = omega (arith, length-append at (x ∷ y ∷ [])) in
    record {
      two_each = omega (arith, size, w.two_each, length-append ends (e ∷ []));
      count = w.count;
      listed = λ d k l h. let its = w.listed d k l h in
          (omega (arith, its.0, size), pair_more literals ls ends at (x ∷ y ∷ []) variables e (k / 2) a (omega (arith, its.0, w.two_each)) w.two_each its.1);
      loose = λ k h. let gone : Contains [] k = rw none at h in absurd (omega (arith, gone.1));
      linked = λ k l p. ⊎_elim
          (λ (old : k < length at).
          let i : k / 2 < length ends = omega (arith, w.two_each) in
          let p' = pair_less literals ls ends at (x ∷ y ∷ []) variables e (k / 2) a i w.two_each p in
          let same = pair_same literals ls ends at (x ∷ y ∷ []) variables e (k / 2) k a i old (at_in_clause literals ends at k p') in
          ⊎_elim
          (λ (has : Contains (list_at v (list_of (watched literals at k))) k). inl (rw same has))
          (λ (here : Contains v.loose k × (list_of (watched literals at k) ≡ v.walked)). let gone : Contains [] k = rw none at here.0 in absurd (omega (arith, gone.1)))
          (w.linked k old p'))
          (λ (new : length at ≤ k).
          let here : k / 2 ≡ length ends = omega (arith, w.two_each, l, new, size) in
          absurd (no_pair (subst (IsPair lits es at') here p)))
          (cases_lt k (length at));
    }

-- a clause after the others, with what is to be propagated anew
abbrev pub joined : Net → List ℤ → ℕ → ℕ → List ℕ → Lists → List ℕ → ℕ → Net
joined m ls x y short lists dones done = record m { literals = m.literals ++ ls; ends = more_ends m.literals m.ends ls; attached = m.attached ++ true ∷ []; at = m.at ++ x ∷ y ∷ []; short = short; lists = lists; dones = dones; done = done }

frame_more : (m : Net) (ls : List ℤ) (x y : ℕ) (ss : List ℕ) (lists : Lists) (dones : List ℕ) (done n d d' s : ℕ) → IsArena m.literals m.ends m.variables → IsSound m → d' ≤ d → IsFresh (m.literals ++ ls) (more_ends m.literals m.ends ls) (m.at ++ x ∷ y ∷ []) (length m.at) m.trail d' → IsFrame m n d s → IsFrame (joined m ls x y (m.short ++ ss) lists dones done) n d' s
frame_more m ls x y ss lists dones done n d d' s a h less fresh f = record {
  within = f.within;
  done = omega (arith, f.done);
  short_done = omega (arith, f.short_done, length-append m.short ss);
  watched = watched_more m.literals ls m.ends m.at (x ∷ y ∷ []) m.variables (length (m.literals ++ ls)) m.trail n d d' a h.woven.two_each less fresh f.watched;
  shorts = λ j l.
      let in_short : j < length m.short = omega (arith, f.short_done) in
      let same = get_or_append_left m.short ss 0 j in_short in
      rw same (true_more m.literals ls m.ends m.variables (length (m.literals ++ ls)) (get_or m.short j 0) (take n m.trail) a (h.alike j in_short).0 (f.shorts j l));
}

node_one : (at : List ℕ) (x y : ℕ) → get_or (at ++ x ∷ y ∷ []) (length at) 0 ≡ x
node_one at x y = get_or_at at x (y ∷ []) 0 (length at) refl

node_two : (at : List ℕ) (x y : ℕ) → get_or (at ++ x ∷ y ∷ []) (length at + 1) 0 ≡ y
node_two at x y = rw (← append_assoc at (x ∷ []) (y ∷ [])) (get_or_at (at ++ x ∷ []) y [] 0 (length at + 1) (length-append at (x ∷ [])))

-- a clause that is attached is one
pub on_within : (xs : List Bool) (i : ℕ) → get_or xs i false ≡ true → i < length xs
on_within xs i on = ⊎_elim (λ (l : i < length xs). l) (λ (past : length xs ≤ i). let bad : false ≡ true = sym (get_or_past xs i false past) ∙ on in cc) (cases_lt i (length xs))

pub IsSound-more : (m : Net) (ls : List ℤ) (x y : ℕ) (short ss : List ℕ) (lists : Lists) (dones : List ℕ) (done : ℕ) → IsArena m.literals m.ends m.variables → IsSound m
    → IsWoven (m.literals ++ ls) (more_ends m.literals m.ends ls) (m.at ++ x ∷ y ∷ []) lists m.variables → AreAtRest lists
    → short ≡ m.short ++ ss
    → ((j : ℕ) → j < length ss → (get_or ss j 0 ≡ length m.ends) × IsAlike (m.literals ++ ls) (more_ends m.literals m.ends ls) (length m.ends) × (x ≡ y))
    → Contains short (length m.ends) ⊎ IsPair (m.literals ++ ls) (more_ends m.literals m.ends ls) (m.at ++ x ∷ y ∷ []) (length m.ends)
    → done ≤ m.done → IsFresh (m.literals ++ ls) (more_ends m.literals m.ends ls) (m.at ++ x ∷ y ∷ []) (length m.at) m.trail done
    → length dones ≡ length m.dones
    → ((f : ℕ) → f < m.top → (get_or dones f 0 ≤ get_or m.dones f 0) × IsFresh (m.literals ++ ls) (more_ends m.literals m.ends ls) (m.at ++ x ∷ y ∷ []) (length m.at) m.trail (get_or dones f 0))
    → IsSound (joined m ls x y short lists dones done)
IsSound-more m ls x y short ss lists dones done a h woven rest is new_short new less fresh size levels =
    let e = length (m.literals ++ ls) in
    let count = length-append m.ends (e ∷ []) in
    let old_more : (i : ℕ) → i < length m.ends → Contains m.short i ⊎ IsPair m.literals m.ends m.at i → Contains short i ⊎ IsPair (m.literals ++ ls) (m.ends ++ e ∷ []) (m.at ++ x ∷ y ∷ []) i = λ i l c. ⊎_elim
    (λ (s : Contains m.short i). inl (rw is (Contains-append_left m.short ss i s)))
    (λ p. inr (pair_more m.literals ls m.ends m.at (x ∷ y ∷ []) m.variables e i a l h.woven.two_each p)) c in
    rw is (record {
      woven = woven;
      at_rest = rest;
      marked = length-append m.attached (true ∷ []) ∙ (ap (λ (n : ℕ). n + 1) h.marked ∙ sym count);
      alike = λ j l. ⊎_elim
          (λ (old : j < length m.short).
          let its = h.alike j old in
          rw (get_or_append_left m.short ss 0 j old) (omega (arith, its.0, count), alike_more m.literals ls m.ends m.variables e (get_or m.short j 0) a its.0 its.1))
          (λ (later : length m.short ≤ j).
          let k = j - length m.short in
          let at : length m.short + k ≡ j = omega arith in
          let read : get_or (m.short ++ ss) j 0 ≡ get_or ss k 0 = sym (ap (λ (n : ℕ). get_or (m.short ++ ss) n 0) at) ∙ get_or-append-add m.short ss k 0 in
          let its = new_short k (omega (arith, length-append m.short ss)) in
          rw (read, its.0) (omega (arith, count), its.1))
          (cases_lt j (length m.short));
      covered = λ i l on. rw is at (⊎_elim
          (λ (old : i < length m.ends).
          let before : get_or m.attached i false ≡ true = sym (get_or_append_left m.attached (true ∷ []) false i (omega (arith, h.marked))) ∙ on in
          old_more i old (h.covered i old before))
          (λ (last : length m.ends ≤ i).
          let here : i ≡ length m.ends = omega (arith, l, count) in rw here new)
          (cases_lt i (length m.ends)));
      pairs = λ i l p. ⊎_elim
          (λ (old : i < length m.ends).
          get_or_append_left m.attached (true ∷ []) false i (omega (arith, old, h.marked)) ∙ h.pairs i old (pair_less m.literals ls m.ends m.at (x ∷ y ∷ []) m.variables e i a old h.woven.two_each p))
          (λ (last : length m.ends ≤ i). let here : i ≡ length m.attached = omega (arith, l, count, h.marked) in rw here (get_or_at m.attached true [] false (length m.attached) refl))
          (cases_lt i (length m.ends));
      shorts = λ j l. ⊎_elim
          (λ (old : j < length m.short).
          let s = get_or m.short j 0 in
          let its = h.shorts j old in
          let inside : s < length m.ends = (h.alike j old).0 in
          rw (get_or_append_left m.short ss 0 j old) (
            get_or_append_left m.attached (true ∷ []) false s (omega (arith, inside, h.marked)) ∙ its.0,
            at_more m.at (x ∷ y ∷ []) (2 * s) (omega (arith, inside, h.woven.two_each)) ∙ (its.1 ∙ sym (at_more m.at (x ∷ y ∷ []) (2 * s + 1) (omega (arith, inside, h.woven.two_each)))),
          ))
          (λ (later : length m.short ≤ j).
          let k = j - length m.short in
          let at : length m.short + k ≡ j = omega arith in
          let read : get_or (m.short ++ ss) j 0 ≡ get_or ss k 0 = sym (ap (λ (n : ℕ). get_or (m.short ++ ss) n 0) at) ∙ get_or-append-add m.short ss k 0 in
          let its = new_short k (omega (arith, length-append m.short ss)) in
          let one : 2 * length m.ends ≡ length m.at = sym h.woven.two_each in
          rw (read, its.0) (
            get_or_at m.attached true [] false (length m.ends) h.marked,
            rw (one, node_one m.at x y, node_two m.at x y) its.2,
          ))
          (cases_lt j (length m.short));
      now = frame_more m ls x y ss lists dones done (length m.trail) m.done done m.short_done a h less fresh h.now;
      opened = λ f l. let its = levels f l in frame_more m ls x y ss lists dones done (get_or m.lens f 0) (get_or m.dones f 0) (get_or dones f 0) (get_or m.short_dones f 0) a h its.0 its.1 (h.opened f l);
      rising = h.rising;
      below = h.below;
      top = h.top;
      levels = h.levels;
      room = (h.room.0, size ∙ h.room.1, h.room.2);
    })

-- a place of the new clause
last_start : (literals : List ℤ) (ends : List ℕ) (variables e : ℕ) → IsArena literals ends variables → start_of (ends ++ e ∷ []) (length ends) ≡ length literals
last_start literals ends variables e a = start_more ends e (length ends) (omega arith) ∙ a.full

last_end : (ends : List ℕ) (e : ℕ) → get_or (ends ++ e ∷ []) (length ends) 0 ≡ e
last_end ends e = get_or_at ends e [] 0 (length ends) refl

pub watched_one : (literals ls : List ℤ) (at : List ℕ) (p y : ℕ) → watched (literals ++ ls) (at ++ (length literals + p) ∷ y ∷ []) (length at) ≡ value_at ls p
watched_one literals ls at p y = ap (value_at (literals ++ ls)) (node_one at (length literals + p) y) ∙ get_or-append-add literals ls p (pos 0)

pub watched_two : (literals ls : List ℤ) (at : List ℕ) (x p : ℕ) → watched (literals ++ ls) (at ++ x ∷ (length literals + p) ∷ []) (length at + 1) ≡ value_at ls p
watched_two literals ls at x p = ap (value_at (literals ++ ls)) (node_two at x (length literals + p)) ∙ get_or-append-add literals ls p (pos 0)

pair_new : (literals ls : List ℤ) (ends at : List ℕ) (variables one two : ℕ) → IsArena literals ends variables → length at ≡ 2 * length ends → one < length ls → two < length ls → value_at ls one ≢ value_at ls two → IsPair (literals ++ ls) (more_ends literals ends ls) (at ++ (length literals + one) ∷ (length literals + two) ∷ []) (length ends)
pair_new literals ls ends at variables one two a s i j ne =
    let e = length (literals ++ ls) in
    let es = ends ++ e ∷ [] in
    let at' = at ++ (length literals + one) ∷ (length literals + two) ∷ [] in
    let size = length-append literals ls in
    let first : 2 * length ends ≡ length at = sym s in
    let second : 2 * length ends + 1 ≡ length at + 1 = omega (arith, s) in
    let start = last_start literals ends variables e a in
    let last = last_end ends e in
    record {
      one = rw (first, node_one at (length literals + one) (length literals + two)) (omega (arith, start), omega (arith, last, size));
      two = rw (second, node_two at (length literals + one) (length literals + two)) (omega (arith, start), omega (arith, last, size));
      different = λ same. ne (sym (watched_one literals ls at one (length literals + two)) ∙ (ap (watched (literals ++ ls) at') (sym first) ∙ (same ∙ (ap (watched (literals ++ ls) at') second ∙ watched_two literals ls at (length literals + one) two))));
    }

pub not_before : (trail : List ℤ) (d limit : ℕ) (l : ℤ) → d ≤ length trail → d ≤ limit → ((j : ℕ) → j < length trail → j < limit → value_at trail j ≢ neg_ℤ l) → Contains (take d trail) (neg_ℤ l) → ⊥
not_before trail d limit l h i none c =
    let at = Contains_take-at trail d (neg_ℤ l) h c in
    none at.0 (omega (arith, at.1)) (omega (arith, at.1)) at.2

fresh_long : (literals ls : List ℤ) (ends at : List ℕ) (one two : ℕ) (trail : List ℤ) (d limit : ℕ) → d ≤ length trail → d ≤ limit → ((j : ℕ) → j < length trail → j < limit → value_at trail j ≢ neg_ℤ (value_at ls one)) → ((j : ℕ) → j < length trail → j < limit → value_at trail j ≢ neg_ℤ (value_at ls two)) → IsFresh (literals ++ ls) (more_ends literals ends ls) (at ++ (length literals + one) ∷ (length literals + two) ∷ []) (length at) trail d
fresh_long literals ls ends at one two trail d limit h i none₁ none₂ k l m p c =
    let x = length literals + one in
    let y = length literals + two in
    let lits = literals ++ ls in
    let at' = at ++ x ∷ y ∷ [] in
    ⊎_elim
    (λ (is : k ≡ length at). not_before trail d limit (value_at ls one) h i none₁ (subst (λ (z : ℤ). Contains (take d trail) (neg_ℤ z)) (ap (watched lits at') is ∙ watched_one literals ls at one y) c))
    (λ (ne : k ≢ length at).
    let is : k ≡ length at + 1 = omega (arith, m, length-append at (x ∷ y ∷ [])) in
    not_before trail d limit (value_at ls two) h i none₂ (subst (λ (z : ℤ). Contains (take d trail) (neg_ℤ z)) (ap (watched lits at') is ∙ watched_two literals ls at x two) c))
    (cases_eq k (length at))

pub rest_added : (v v' : Lists) (a x b y : ℕ) → AreAtRest v → v' ≡ added (added v a x) b y → AreAtRest v'
rest_added v v' a x b y r f = rw f (r.0, r.1 ∙ sym (length-set (put_on v.lists a x) b (row_at (put_on v.lists a x) b ++ y ∷ []) ∙ length-set v.lists a (row_at v.lists a ++ x ∷ [])))

pub sound_long : (m : Net) (ls : List ℤ) (one two : ℕ) (literals' : List ℤ) (ends' : List ℕ) (attached' : List Bool) (at' dones' : List ℕ) (lists' : Lists) (variables' done' limit : ℕ) (l₁ l₂ : ℤ) (c₁ c₂ x y node : ℕ) → IsArena m.literals m.ends m.variables → IsSound m → All (IsLiteral m.variables) ls → one < length ls → two < length ls → value_at ls one ≢ value_at ls two
    → l₁ ≡ value_at ls one → l₂ ≡ value_at ls two → c₁ ≡ list_of l₁ → c₂ ≡ list_of l₂ → x ≡ length m.literals + one → y ≡ length m.literals + two
    → literals' ≡ m.literals ++ ls → ends' ≡ m.ends ++ length literals' ∷ [] → at' ≡ (m.at ++ x ∷ []) ++ y ∷ [] → node ≡ length m.at → lists' ≡ added (added m.lists c₁ node) c₂ (node + 1) → variables' ≡ m.variables → attached' ≡ m.attached ++ true ∷ []
    → done' ≤ m.done → done' ≤ limit → length dones' ≡ length m.dones → ((k : ℕ) → k < m.top → (get_or dones' k 0 ≤ get_or m.dones k 0) × (get_or dones' k 0 ≤ limit))
    → ((j : ℕ) → j < length m.trail → j < limit → value_at m.trail j ≢ neg_ℤ l₁) → ((j : ℕ) → j < length m.trail → j < limit → value_at m.trail j ≢ neg_ℤ l₂)
    → IsSound (record m { literals = literals'; ends = ends'; attached = attached'; at = at'; lists = lists'; variables = variables'; dones = dones'; done = done' })
sound_long m ls one two literals' ends' attached' at' dones' lists' variables' done' limit l₁ l₂ c₁ c₂ x y node a h all i₁ i₂ ne e₁ e₂ f₁ f₂ ex ey el ee ea en ef ev eb less low size lows none₁ none₂ =
    let f = length m.literals in
    let s = h.woven.two_each in
    let places : at' ≡ m.at ++ (f + one) ∷ (f + two) ∷ [] = ea ∙ (append_assoc m.at (x ∷ []) (y ∷ []) ∙ (ap (λ (n : ℕ). m.at ++ n ∷ y ∷ []) ex ∙ ap (λ (n : ℕ). m.at ++ (f + one) ∷ n ∷ []) ey)) in
    let ends_are : ends' ≡ more_ends m.literals m.ends ls = ee ∙ ap (λ (xs : List ℤ). m.ends ++ length xs ∷ []) el in
    let pair = pair_new m.literals ls m.ends m.at m.variables one two a s i₁ i₂ ne in
    let lit₁ = all one (pos 0) i₁ in
    let lit₂ = all two (pos 0) i₂ in
    let c₁_is : c₁ ≡ list_of (value_at ls one) = f₁ ∙ ap list_of e₁ in
    let c₂_is : c₂ ≡ list_of (value_at ls two) = f₂ ∙ ap list_of e₂ in
    let b₁ : c₁ < 2 * m.variables = omega (arith, c₁_is, list_of-lt m.variables (value_at ls one) lit₁) in
    let b₂ : c₂ < 2 * m.variables = omega (arith, c₂_is, list_of-lt m.variables (value_at ls two) lit₂) in
    let woven = IsWoven-more m.literals ls m.ends m.at m.lists lists' m.variables (length (m.literals ++ ls)) (f + one) (f + two) c₁ c₂ node a h.woven h.at_rest.0 en ef (omega (arith, h.woven.count)) (omega (arith, h.woven.count)) pair
    (ap list_of (watched_one m.literals ls m.at one (f + two)) ∙ sym c₁_is) (ap list_of (watched_two m.literals ls m.at (f + one) two) ∙ sym c₂_is) in
    let rest : AreAtRest lists' = rest_added m.lists lists' c₁ node c₂ (node + 1) h.at_rest ef in
    let away₁ : (j : ℕ) → j < length m.trail → j < limit → value_at m.trail j ≢ neg_ℤ (value_at ls one) = subst (λ (l : ℤ). (j : ℕ) → j < length m.trail → j < limit → value_at m.trail j ≢ neg_ℤ l) e₁ none₁ in
    let away₂ : (j : ℕ) → j < length m.trail → j < limit → value_at m.trail j ≢ neg_ℤ (value_at ls two) = subst (λ (l : ℤ). (j : ℕ) → j < length m.trail → j < limit → value_at m.trail j ≢ neg_ℤ l) e₂ none₂ in
    rw (places, ends_are, el, ev, eb) (IsSound-more m ls (f + one) (f + two) m.short [] lists' dones' done' a h woven rest (sym (append-nil m.short)) (λ j l. absurd (omega (arith, l))) (inr pair) less
    (fresh_long m.literals ls m.ends m.at one two m.trail done' limit (omega (arith, less, h.now.done)) low away₁ away₂) size
    (λ k l. let its = lows k (omega (arith, l, h.levels, h.room.1)) in let frame = h.opened k l in
    (its.0, fresh_long m.literals ls m.ends m.at one two m.trail (get_or dones' k 0) limit (omega (arith, its.0, frame.done, frame.within)) its.1 away₁ away₂)))

alike_new : (literals ls : List ℤ) (ends : List ℕ) (variables : ℕ) → IsArena literals ends variables → ((p q : ℕ) → p < length ls → q < length ls → value_at ls p ≡ value_at ls q) → IsAlike (literals ++ ls) (more_ends literals ends ls) (length ends)
alike_new literals ls ends variables a h p q in_p in_q =
    let e = length (literals ++ ls) in
    let f = length literals in
    let size = length-append literals ls in
    let start = last_start literals ends variables e a in
    let last = last_end ends e in
    let p_at : f + (p - f) ≡ p = omega (arith, in_p.0, start) in
    let q_at : f + (q - f) ≡ q = omega (arith, in_q.0, start) in
    let p_is : value_at (literals ++ ls) p ≡ value_at ls (p - f) = sym (ap (value_at (literals ++ ls)) p_at) ∙ get_or-append-add literals ls (p - f) (pos 0) in
    let q_is : value_at (literals ++ ls) q ≡ value_at ls (q - f) = sym (ap (value_at (literals ++ ls)) q_at) ∙ get_or-append-add literals ls (q - f) (pos 0) in
    p_is ∙ (h (p - f) (q - f) (omega (arith, in_p.0, in_p.1, start, last, size)) (omega (arith, in_q.0, in_q.1, start, last, size)) ∙ sym q_is)

pub sound_alike : (m : Net) (ls : List ℤ) (literals' : List ℤ) (ends' : List ℕ) (attached' : List Bool) (at' short' : List ℕ) (variables' x y last : ℕ) → IsArena m.literals m.ends m.variables → IsSound m → ((p q : ℕ) → p < length ls → q < length ls → value_at ls p ≡ value_at ls q)
    → literals' ≡ m.literals ++ ls → ends' ≡ m.ends ++ length literals' ∷ [] → at' ≡ (m.at ++ x ∷ []) ++ y ∷ [] → last ≡ length m.ends → short' ≡ m.short ++ last ∷ [] → variables' ≡ m.variables → attached' ≡ m.attached ++ true ∷ [] → x ≡ y
    → IsSound (record m { literals = literals'; ends = ends'; attached = attached'; at = at'; short = short'; variables = variables' })
sound_alike m ls literals' ends' attached' at' short' variables' x y last a h alike el ee ea el' es ev eb one_place =
    let s = h.woven.two_each in
    let e = length (m.literals ++ ls) in
    let places : at' ≡ m.at ++ x ∷ y ∷ [] = ea ∙ append_assoc m.at (x ∷ []) (y ∷ []) in
    let ends_are : ends' ≡ more_ends m.literals m.ends ls = ee ∙ ap (λ (xs : List ℤ). m.ends ++ length xs ∷ []) el in
    let same = alike_new m.literals ls m.ends m.variables a alike in
    let no_pair : IsPair (m.literals ++ ls) (m.ends ++ e ∷ []) (m.at ++ x ∷ y ∷ []) (length m.ends) → ⊥ = λ p. p.different (same (get_or (m.at ++ x ∷ y ∷ []) (2 * length m.ends) 0) (get_or (m.at ++ x ∷ y ∷ []) (2 * length m.ends + 1) 0) p.one p.two) in
    let woven = IsWoven-none m.literals ls m.ends m.at m.lists m.variables e x y a h.woven h.at_rest.0 no_pair in
    let fresh : (d : ℕ) → IsFresh (m.literals ++ ls) (m.ends ++ e ∷ []) (m.at ++ x ∷ y ∷ []) (length m.at) m.trail d = λ d k l n p c.
    let here : k / 2 ≡ length m.ends = omega (arith, s, l, n, length-append m.at (x ∷ y ∷ [])) in
    no_pair (subst (IsPair (m.literals ++ ls) (m.ends ++ e ∷ []) (m.at ++ x ∷ y ∷ [])) here p) in
    let short_is : short' ≡ m.short ++ length m.ends ∷ [] = es ∙ ap (λ (n : ℕ). m.short ++ n ∷ []) el' in
    rw (places, ends_are, el, ev, eb) (IsSound-more m ls x y short' (length m.ends ∷ []) m.lists m.dones m.done a h woven h.at_rest short_is
    (λ j l. let zero_is : j ≡ 0 = omega arith in (ap (λ (n : ℕ). get_or (length m.ends ∷ []) n 0) zero_is, same, one_place))
    (inl (rw short_is (Contains-push m.short (length m.ends)))) (omega arith) (fresh m.done) refl
    (λ k l. (omega arith, fresh (get_or m.dones k 0))))

-- the literals of a clause are literals
pub clause_literals : (literals : List ℤ) (ends : List ℕ) (variables i : ℕ) → IsArena literals ends variables → i < length ends → All (IsLiteral variables) (take (get_or ends i 0 - start_of ends i) (drop (start_of ends i) literals))
clause_literals literals ends variables i a l =
    let o = a.ordered i l in
    All-take (IsLiteral variables) (get_or ends i 0 - start_of ends i) (drop (start_of ends i) literals) (All-drop (IsLiteral variables) (start_of ends i) literals (All-from_get_or (IsLiteral variables) literals (pos 0) a.literal))

-- the literals of an old clause, once another one stands behind it
pub clause_old : (literals ls : List ℤ) (ends : List ℕ) (variables e i : ℕ) → IsArena literals ends variables → i < length ends
    → take (get_or (ends ++ e ∷ []) i 0 - start_of (ends ++ e ∷ []) i) (drop (start_of (ends ++ e ∷ []) i) (literals ++ ls)) ≡ take (get_or ends i 0 - start_of ends i) (drop (start_of ends i) literals)
clause_old literals ls ends variables e i a l =
    let o = a.ordered i l in
    let first : start_of ends i ≤ length literals = omega (arith, o.0, o.1) in
    let size : get_or ends i 0 - start_of ends i ≤ length (drop (start_of ends i) literals) = omega (arith, o.1, length-drop (start_of ends i) literals) in
    rw (end_more ends e i l, start_more ends e i (omega arith), drop-append-le (start_of ends i) literals ls first) (take-append-le (get_or ends i 0 - start_of ends i) (drop (start_of ends i) literals) ls size)

-- the literals of the clause behind the others
pub clause_last : (literals ls : List ℤ) (ends : List ℕ) (variables : ℕ) → IsArena literals ends variables
    → take (get_or (more_ends literals ends ls) (length ends) 0 - start_of (more_ends literals ends ls) (length ends)) (drop (start_of (more_ends literals ends ls) (length ends)) (literals ++ ls)) ≡ ls
clause_last literals ls ends variables a =
    let e = length (literals ++ ls) in
    rw (last_end ends e, last_start literals ends variables e a, drop-append_seam literals ls) (take_all (e - length literals) ls (omega (arith, length-append literals ls)))

-- what is kept once a clause is added
pub clause_added : (s t : Search) (ls : List ℤ) → IsArena s.literals s.ends s.variables → t.literals ≡ s.literals ++ ls → t.ends ≡ s.ends ++ length t.literals ∷ [] → t.attached ≡ s.attached ++ true ∷ [] → Adds s t ls × (length t.ends ≡ length s.ends + 1)
clause_added s t ls a el ee eb =
    let ends : t.ends ≡ more_ends s.literals s.ends ls = ee ∙ ap (λ (xs : List ℤ). s.ends ++ length xs ∷ []) el in
    let count : length t.ends ≡ length s.ends + 1 = ap length ends ∙ length-append s.ends (length (s.literals ++ ls) ∷ []) in (
      record {
        count = count;
        others = λ i l. rw (ends, el) (clause_old s.literals ls s.ends s.variables (length (s.literals ++ ls)) i a l);
        last = rw (ends, el) (clause_last s.literals ls s.ends s.variables a);
        attached = eb;
      },
      count,
    )

-- a clause whose literals are one literal has no two different ones to watch
pub no_pair_alike : (m : Net) (ls : List ℤ) (x y : ℕ) → IsArena m.literals m.ends m.variables → ((p q : ℕ) → p < length ls → q < length ls → value_at ls p ≡ value_at ls q) → IsPair (m.literals ++ ls) (more_ends m.literals m.ends ls) (m.at ++ x ∷ y ∷ []) (length m.ends) → ⊥
no_pair_alike m ls x y a alike p = p.different (alike_new m.literals ls m.ends m.variables a alike (get_or (m.at ++ x ∷ y ∷ []) (2 * length m.ends) 0) (get_or (m.at ++ x ∷ y ∷ []) (2 * length m.ends + 1) 0) p.one p.two)
