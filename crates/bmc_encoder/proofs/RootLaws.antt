-- The root of a formula.
use Rattle.std.proofs.Common.{◌≡◌, ◌↔◌, ◌<◌, ◌≤◌, ◌+◌, ◌-◌, ℕ, nat_lt, Bool, IsTrue, List, [], ◌∷◌, ◌++◌, length, get_or, Some, slice_get, refl, sym, ap, ◌∙◌, subst, arith, inl, inr, if◌then◌else◌, length-append}
use Rattle.std.proofs.lemmas.Bool.{cases_lt, cond_below, cond_above}
use Rattle.std.proofs.lemmas.Option.{slice_get_within, slice_get-get_or, get_or_from_slice_get}
use Rattle.gate_trait.specs.declared.node.Node.{Node}
use Rattle.gate_trait.specs.Built.{Keeps, AllIn}
use Rattle.core_tree.specs.declared.tree.Formula.{Formula}
use Rattle.core_tree.specs.Trees.{Claim}
use Rattle.core_meaning.specs.declared.scopes.Scopes.{Scopes}
use Rattle.core_meaning.specs.Sequence.{LassoValue}
use Rattle.core_meaning.specs.Kept.{world_of}
use Rattle.core_meaning.specs.Meaning.{no_names, Holds}
use Rattle.core_meaning.specs.Called.{no_bodies}
use Rattle.gate_temporal.specs.Rows.{row_value, IsOnly}
use Rattle.bound_uppers.specs.declared.places.Layout.{Layout}
use Rattle.bound_uppers.specs.declared.table.Bounds.{Bounds}
use Rattle.bmc_windows.specs.declared.frame.Stretch.{Stretch}
use Rattle.bmc_windows.specs.Frames.{rounds_of}
use Rattle.bmc_windows.proofs.PushLemmas.{push_cases}
use Rattle.bmc_leaves.specs.Loops.{AreChoices}
use Rattle.bmc_leaves.specs.Table.{Decodes}
use Rattle.bmc_leaves.specs.Shown.{Reading, under, IsReading, HasPlace, IsRight}
use Rattle.bmc_encoder.specs.Firsts.{AreFirsts, SaysRoot}
use Rattle.bmc_leaves.proofs.RowLaws.{row_kept, push_last, push_before}
use Rattle.bmc_leaves.proofs.LoopLaws.{only_same}
use Rattle.bmc_leaves.proofs.PlaceLaws.{round_more}
use Rattle.bmc_leaves.proofs.RightLaws.{true_same}

-- how deep past operators nest at most, where windows have rounds for a depth
abbrev pub depth_for : ℕ → ℕ
depth_for d = if nat_lt d 8 then d else 8

pub rounds_is : (d : ℕ) → rounds_of d ≡ depth_for d + 1
rounds_is d = elim (cases_lt d 8) [
  | inl less ↦ sym (cond_below d 8 (d + 1) 9 less) ∙ ap (λ (n : ℕ). n + 1) (cond_below d 8 d 8 less)
  | inr ge ↦ sym (cond_above d 8 (d + 1) 9 _ ge refl) ∙ ap (λ (n : ℕ). n + 1) (cond_above d 8 d 8 _ ge refl)
]

pub depth_few : (d : ℕ) → depth_for d ≤ 8
depth_few d = elim (cases_lt d 8) [
  | inl less ↦ subst (λ (n : ℕ). n ≤ 8) (cond_below d 8 d 8 less) (omega (arith, less))
  | inr ge ↦ subst (λ (n : ℕ). n ≤ 8) (cond_above d 8 d 8 _ ge refl) (omega arith)
]

pub depth_reaches : (d n : ℕ) → n ≤ d → n ≤ 8 → n ≤ depth_for d
depth_reaches d n le few = elim (cases_lt d 8) [
  | inl less ↦ subst (λ (k : ℕ). n ≤ k) (cond_below d 8 d 8 less) le
  | inr ge ↦ subst (λ (k : ℕ). n ≤ k) (cond_above d 8 d 8 _ ge refl) few
]

-- ---- the first places

pub record FirstsTo (value : (ℕ → Bool) → Node → Bool) (windows : List Stretch) (all firsts : List Node) (i : ℕ) : Type 0 where
  pub long : length firsts ≡ i
  pub values : (x : ℕ → Bool) (loop : ℕ) (s : Stretch) → loop < i → slice_get windows loop ≡ Some s → row_value (value x) firsts loop ≡ row_value (value x) all s.start

pub firsts_none : (value : (ℕ → Bool) → Node → Bool) (windows : List Stretch) (all : List Node) → FirstsTo value windows all [] 0
firsts_none value windows all = record { long = refl; values = λ x loop s lt at. absurd (omega (arith, lt)) }

pub firsts_more : (value : (ℕ → Bool) → Node → Bool) (windows : List Stretch) (all firsts new : List Node) (n : Node) (i start : ℕ) → ((s : Stretch) → slice_get windows i ≡ Some s → start ≡ s.start) → FirstsTo value windows all firsts i → ((x : ℕ → Bool) → value x n ≡ row_value (value x) all start) → new ≡ firsts ++ n ∷ [] → FirstsTo value windows all new (i + 1)
firsts_more value windows all firsts new n i start here old is_n is = record {
  long = ap (λ (row : List Node). length row) is ∙ length-append firsts (n ∷ []) ∙ ap (λ (k : ℕ). k + 1) old.long;
  values = λ x loop t lt at. ap (λ (row : List Node). row_value (value x) row loop) is ∙ elim (cases_lt loop i) [
    | inl less ↦ push_before (value x) firsts n loop (let l = old.long in omega (arith, less, l)) ∙ old.values x loop t less at
    | inr ge ↦ (let same : loop ≡ i = omega (arith, ge, lt) in
        let one : start ≡ t.start = here t (ap (λ (k : ℕ). slice_get windows k) (sym same) ∙ at) in
        push_last (value x) firsts n loop (same ∙ sym old.long) ∙ is_n x ∙ ap (λ (k : ℕ). row_value (value x) all k) one)
  ];
}

pub firsts_all : (value : (ℕ → Bool) → Node → Bool) (windows : List Stretch) (all firsts : List Node) (i : ℕ) → length windows ≤ i → i ≤ length windows → FirstsTo value windows all firsts i → AreFirsts value windows all firsts
firsts_all value windows all firsts i over under h = record {
  long = h.long ∙ (omega (arith, over, under));
  values = λ x loop s at. h.values x loop s (let inside = slice_get_within windows loop s at in omega (arith, inside, over)) at;
}

-- ---- the root

no_stretch : Stretch
no_stretch = record { start = 0; end = 0; back = 0 }

pub root_says : {S : Type 0} (belongs : S → Node → Type 0) (value : S → (ℕ → Bool) → Node → Bool) (r : Reading) (first g h : S) → IsReading r → Keeps belongs value first g → (choices : List Node) → AllIn (belongs first) choices → AreChoices (value first) r.bounds.states r.table.loops choices → (f : Claim) (row : List Node) (n : Node) → IsRight (under r []) (value g) f row
    → ((x : ℕ → Bool) (loop : ℕ) (s : Stretch) → slice_get r.frame.windows.items loop ≡ Some s → IsOnly (value g x) choices loop → value h x n ≡ row_value (value g x) row s.start)
    → (x : ℕ → Bool) (lasso : LassoValue) → Decodes r.bounds r.table x lasso → IsTrue (value h x n) ↔ Holds (world_of r.scopes lasso) no_bodies f no_names 0
root_says belongs value r first g h ok keeps choices all are f row n right is x lasso d =
    let l = lasso.loop_start in
    let only_first = (are.only x l).1 d.loop in
    let only = only_same (row_value (value first x) choices) (row_value (value g x) choices) (length choices) l (λ k. sym (row_kept belongs value first g keeps choices all x k)) only_first in
    let count = ok.frame.count in
    let some = d.loop.0 in
    let inside : l < length r.frame.windows.items = omega (arith, some, count) in
    let s = get_or r.frame.windows.items l no_stretch in
    let at = slice_get-get_or r.frame.windows.items l no_stretch inside in
    let end = (ok.frame.each l s at).end in
    let round = round_more r.depth (r.bounds.states - l) in
    let place : HasPlace r.frame l s 0 = (at, omega (arith, end, round, some)) in
    let same : s.start ≡ s.start + 0 = omega arith in
    true_same _ _ (is x l s at only ∙ ap (λ (i : ℕ). row_value (value g x) row i) same) (right.holds l 0 s place x lasso d refl)

-- ---- more roots

in_row : (P : Node → Type 0) (row : List Node) (k : ℕ) (n : Node) → AllIn P row → slice_get row k ≡ Some n → P n
in_row P row k n all at = subst P (get_or_from_slice_get row k n n at) (all k n (slice_get_within row k n at))

-- a root says the same while the circuit grows
pub says_kept : {S : Type 0} (belongs : S → Node → Type 0) (value : S → (ℕ → Bool) → Node → Bool) (g h : S) → Keeps belongs value g h → (bounds : Bounds) (table : Layout) (scopes : Scopes) (f : Formula) (roots : List Node) (k : ℕ) (n : Node) → AllIn (belongs g) roots → slice_get roots k ≡ Some n → SaysRoot (value g) bounds table scopes f n → SaysRoot (value h) bounds table scopes f n
says_kept belongs value g h keeps bounds table scopes f roots k n all at says x lasso d =
    true_same _ _ (keeps.values n (in_row (belongs g) roots k n all at) x) (says x lasso d)

-- so many formulas have their roots, behind the first ones
abbrev pub SaysUpTo : ((ℕ → Bool) → Node → Bool) → Bounds → Layout → Scopes → List Formula → ℕ → ℕ → List Node → Type 0
SaysUpTo value bounds table scopes formulas initial place roots =
    (k : ℕ) (f : Formula) (n : Node) → k < place → slice_get formulas k ≡ Some f → slice_get roots (initial + k) ≡ Some n → SaysRoot value bounds table scopes f n

pub roots_none : (value : (ℕ → Bool) → Node → Bool) (bounds : Bounds) (table : Layout) (scopes : Scopes) (formulas : List Formula) (initial : ℕ) (roots : List Node) → SaysUpTo value bounds table scopes formulas initial 0 roots
roots_none value bounds table scopes formulas initial roots k f n lt at there = absurd (omega (arith, lt))

pub roots_more : {S : Type 0} (belongs : S → Node → Type 0) (value : S → (ℕ → Bool) → Node → Bool) (g h : S) → Keeps belongs value g h → (bounds : Bounds) (table : Layout) (scopes : Scopes) (formulas : List Formula) (initial place : ℕ) (roots new : List Node) (root : Node) (formula : Formula) → AllIn (belongs g) roots → length roots ≡ initial + place → new ≡ roots ++ root ∷ [] → slice_get formulas place ≡ Some formula → SaysRoot (value h) bounds table scopes formula root → SaysUpTo (value g) bounds table scopes formulas initial place roots → SaysUpTo (value h) bounds table scopes formulas initial (place + 1) new
roots_more belongs value g h keeps bounds table scopes formulas initial place roots new root formula all long is here says old k f n lt at there = elim (push_cases roots root (initial + k) n (ap (λ (row : List Node). slice_get row (initial + k)) (sym is) ∙ there)) [
  | inl before ↦ (let inside = slice_get_within roots (initial + k) n before in
      says_kept belongs value g h keeps bounds table scopes f roots (initial + k) n all before (old k f n (omega (arith, inside, long)) at before))
  | inr last ↦ (let e = last.0 in
      let same : place ≡ k = omega (arith, e, long) in
      let both : Some formula ≡ Some f = sym here ∙ ap (λ (j : ℕ). slice_get formulas j) same ∙ at in
      let one : formula ≡ f = cc in
      subst (λ (m : Node). SaysRoot (value h) bounds table scopes f m) last.1 (subst (λ (c : Formula). SaysRoot (value h) bounds table scopes c root) one says))
]
