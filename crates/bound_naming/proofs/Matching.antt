-- Partners, tuple by tuple.
use Rattle.std.proofs.Common.{◌≡◌, ℕ, zero, suc, ◌+◌, ◌<◌, ◌≤◌, Bool, not, cond, if◌then◌else◌, List, [], ◌∷◌, ◌++◌, length, take, drop, get_or, slice_get, Option, Some, None, refl, ap, sym, ◌∙◌, arith}
use Rattle.std.specs.Prelude.{map}
use Rattle.std.proofs.lemmas.List.{append-nil, append_assoc, take_more}
use Rattle.std.proofs.lemmas.List.Elements.{filter-append}
use Rattle.core_tuples.proofs.OrderLemmas.{take_all}
use Rattle.core_renaming.specs.Composed.{exchanged}
use Rattle.bound_uppers.specs.declared.table.Bound.{Bound}
use Rattle.bound_naming.specs.declared.spots.Spot.{Spot}
use Rattle.bound_naming.specs.declared.partners.Match.{Match}
use Rattle.bound_naming.specs.Reckoned.{with_item, matches_of, moving, partner_of, partner_in, if_later, place_in}

-- ---- one of them

pub partner_is : (a b : ℕ) (s : Spot) (bs : List Bound) (bound : Bound) (t u : List ℕ) (fixed : Bool) (place : Option ℕ) (m : Option Match) → slice_get bs s.relation ≡ Some bound → slice_get bound.upper.tuples s.place ≡ Some t → u ≡ map (exchanged a b) t → fixed ≡ bound.fixed → place ≡ place_in u 0 bound.upper.tuples → m ≡ if_later s fixed place → m ≡ partner_of a b s (slice_get bs s.relation)
partner_is a b s bs bound t u fixed place m at there is same found e =
    e ∙ (ap (λ (f : Bool). if_later s f place) same
    ∙ (ap (λ (p : Option ℕ). if_later s bound.fixed p) found
    ∙ (ap (λ (x : List ℕ). if_later s bound.fixed (place_in x 0 bound.upper.tuples)) is
    ∙ (ap (λ (o : Option (List ℕ)). partner_in a b s bound o) (sym there) ∙ ap (λ (o : Option Bound). partner_of a b s o) (sym at)))))

pub partner_lacks : (a b : ℕ) (s : Spot) (bs : List Bound) → slice_get bs s.relation ≡ None → None ≡ partner_of a b s (slice_get bs s.relation)
partner_lacks a b s bs at = ap (λ (o : Option Bound). partner_of a b s o) (sym at)

pub partner_past : (a b : ℕ) (s : Spot) (bs : List Bound) (bound : Bound) → slice_get bs s.relation ≡ Some bound → slice_get bound.upper.tuples s.place ≡ None → None ≡ partner_of a b s (slice_get bs s.relation)
partner_past a b s bs bound at far = ap (λ (o : Option (List ℕ)). partner_in a b s bound o) (sym far) ∙ ap (λ (o : Option Bound). partner_of a b s o) (sym at)

-- ---- all of them

drop_none : {X : Type 0} (ts : List X) → drop 0 ts ≡ ts
drop_none [] = refl
drop_none (t ∷ ts) = refl

pub matches_none : (bs : List Bound) (a b : ℕ) (ss : List Spot) → [] ++ matches_of bs a b (drop 0 ss) ≡ matches_of bs a b ss
matches_none bs a b ss = ap (λ (xs : List Spot). matches_of bs a b xs) (drop_none ss)

opened : (ss : List Spot) (k : ℕ) (s : Spot) → k < length ss → s ≡ get_or ss k s → drop k ss ≡ s ∷ drop (suc k) ss
opened [] k s lt is = absurd (omega arith)
opened (z ∷ ss) zero s lt is = ap (λ (x : Spot). x ∷ ss) (sym is) ∙ ap (λ (xs : List Spot). s ∷ xs) (sym (drop_none ss))
opened (z ∷ ss) (suc k) s lt is = opened ss k s (omega arith) is

item_first : (xs ys : List Match) (o : Option Match) → (xs ++ with_item o []) ++ ys ≡ xs ++ with_item o ys
item_first xs ys None = append_assoc xs [] ys
item_first xs ys (Some m) = append_assoc xs (m ∷ []) ys

pub matches_more : (bs : List Bound) (a b : ℕ) (ss : List Spot) (k : ℕ) (s : Spot) (o : Option Match) (old new : List Match) → k < length ss → s ≡ get_or ss k s → o ≡ partner_of a b s (slice_get bs s.relation) → new ≡ old ++ with_item o [] → old ++ matches_of bs a b (drop k ss) ≡ matches_of bs a b ss → new ++ matches_of bs a b (drop (k + 1) ss) ≡ matches_of bs a b ss
matches_more bs a b ss k s o old new lt is found e was =
    let next : k + 1 ≡ suc k = omega arith in
    let rest : List Match = matches_of bs a b (drop (suc k) ss) in
    ap (λ (m : ℕ). new ++ matches_of bs a b (drop m ss)) next
    ∙ (ap (λ (xs : List Match). xs ++ rest) e
    ∙ (item_first old rest o
    ∙ (ap (λ (p : Option Match). old ++ with_item p rest) found
    ∙ (ap (λ (xs : List Spot). old ++ matches_of bs a b xs) (sym (opened ss k s lt is)) ∙ was))))

dropped : {X : Type 0} (ts : List X) (k : ℕ) → length ts ≤ k → drop k ts ≡ []
dropped [] zero le = refl
dropped [] (suc k) le = refl
dropped (t ∷ ts) zero le = absurd (omega arith)
dropped (t ∷ ts) (suc k) le = dropped ts k (omega (arith, le))

pub matches_all : (bs : List Bound) (a b : ℕ) (ss : List Spot) (k : ℕ) (all : List Match) → length ss ≤ k → all ++ matches_of bs a b (drop k ss) ≡ matches_of bs a b ss → all ≡ matches_of bs a b ss
matches_all bs a b ss k all le was = sym (ap (λ (xs : List Spot). all ++ matches_of bs a b xs) (dropped ss k le) ∙ append-nil all) ∙ was

-- ---- those that change

pub moving_none : (ms : List Match) → [] ≡ moving (take 0 ms)
moving_none [] = refl
moving_none (m ∷ ms) = refl

moving_end : (ms : List Match) (k : ℕ) (m : Match) → k < length ms → m ≡ get_or ms k m → moving (take (k + 1) ms) ≡ moving (take k ms) ++ cond (not m.fixed) (m ∷ []) []
moving_end ms k m lt is =
    ap moving (take_more ms k m lt ∙ ap (λ (x : Match). take k ms ++ x ∷ []) (sym is))
    ∙ filter-append (λ (z : Match). not z.fixed) (take k ms) (m ∷ [])

pub moving_more : (ms old new : List Match) (k : ℕ) (m : Match) → k < length ms → m ≡ get_or ms k m → old ≡ moving (take k ms) → new ≡ old ++ (if not m.fixed then m ∷ [] else []) → new ≡ moving (take (k + 1) ms)
moving_more ms old new k m lt is was e = e ∙ (ap (λ (xs : List Match). xs ++ cond (not m.fixed) (m ∷ []) []) was ∙ sym (moving_end ms k m lt is))

pub moving_all : (ms all : List Match) (k : ℕ) → length ms ≤ k → all ≡ moving (take k ms) → all ≡ moving ms
moving_all ms all k le was = was ∙ ap moving (take_all ms k le)
