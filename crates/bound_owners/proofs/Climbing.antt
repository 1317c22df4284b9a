-- Going up from a sig to those that it extends.
use Rattle.std.proofs.Common.{◌≡◌, ℕ, zero, suc, ◌+◌, ◌-◌, ◌<◌, ◌≤◌, Bool, true, false, if◌then◌else◌, eqb, List, length, Option, Some, None, slice_get, refl, ap, sym, ◌∙◌, subst, arith, ◌++◌, ◌∷◌, [], get_or, length-append, inl, inr}
use Rattle.std.proofs.lemmas.Bool.{cases_lt, eq-eqb, ne_eqb}
use Rattle.std.proofs.lemmas.List.{get_or_past}
use Rattle.std.proofs.lemmas.Option.{slice_get_past}
use Rattle.core_tree.specs.declared.model.Sig.{Sig}
use Rattle.core_tree.specs.declared.model.SigKind.{SigKind}
use Rattle.core_tree.specs.declared.model.SigKind.TheVariants.{Top, Extends, Subset}
use Rattle.core_tree.specs.Types.{by_parent, by_sig, standing, is_under}
use Rattle.core_meaning.specs.Kept.{top_above}
use Rattle.bound_owners.specs.Tops.{parent_at, moving_parent_at, top_at, HasTops, AreTops}

module _ (f : ℕ → ℕ) (s : ℕ) where
  parent_more : (p : ℕ) (kind : SigKind) → by_parent None (λ q. Some q) kind ≡ Some p → by_parent s f kind ≡ f p
  parent_more p Top e = cc
  parent_more p (Extends q) e = let is : q ≡ p = cc in ap f is
  parent_more p (Subset ps) e = cc

  parent_none : (kind : SigKind) → by_parent {X = Option ℕ} None (λ q. Some q) kind ≡ None → by_parent s f kind ≡ s
  parent_none Top e = refl
  parent_none (Extends q) e = cc
  parent_none (Subset ps) e = refl

  sig_more : (p : ℕ) (o : Option Sig) → by_sig None (λ d. by_parent None (λ q. Some q) d.kind) o ≡ Some p → by_sig s (λ d. by_parent s f d.kind) o ≡ f p
  sig_more p None e = cc
  sig_more p (Some d) e = parent_more p d.kind e

  sig_none : (o : Option Sig) → by_sig {X = Option ℕ} None (λ d. by_parent None (λ q. Some q) d.kind) o ≡ None → by_sig s (λ d. by_parent s f d.kind) o ≡ s
  sig_none None e = refl
  sig_none (Some d) e = parent_none d.kind e

  moving_more : (p : ℕ) (b : Bool) (kind : SigKind) → (if b then by_parent None (λ q. Some q) kind else None) ≡ Some p → (if b then by_parent s f kind else s) ≡ f p
  moving_more p true kind e = parent_more p kind e
  moving_more p false kind e = cc

  moving_none : (b : Bool) (kind : SigKind) → (if b then by_parent {X = Option ℕ} None (λ q. Some q) kind else None) ≡ None → (if b then by_parent s f kind else s) ≡ s
  moving_none true kind e = parent_none kind e
  moving_none false kind e = refl

  var_more : (p : ℕ) (o : Option Sig) → by_sig None (λ d. if d.is_var then by_parent None (λ q. Some q) d.kind else None) o ≡ Some p → by_sig s (λ d. if d.is_var then by_parent s f d.kind else s) o ≡ f p
  var_more p None e = cc
  var_more p (Some d) e = moving_more p d.is_var d.kind e

  var_none : (o : Option Sig) → by_sig {X = Option ℕ} None (λ d. if d.is_var then by_parent None (λ q. Some q) d.kind else None) o ≡ None → by_sig s (λ d. if d.is_var then by_parent s f d.kind else s) o ≡ s
  var_none None e = refl
  var_none (Some d) e = moving_none d.is_var d.kind e

-- the top-level sig above a sig is the one above its parent
top_up : (sigs : List Sig) (m s p : ℕ) → parent_at sigs s ≡ Some p → top_above sigs (suc m) s ≡ top_above sigs m p
top_up sigs m s p e = sig_more (λ q. top_above sigs m q) s p (slice_get sigs s) e

top_stays : (sigs : List Sig) (n s : ℕ) → parent_at sigs s ≡ None → top_above sigs n s ≡ s
top_stays sigs zero s e = refl
top_stays sigs (suc n) s e = sig_none (λ q. top_above sigs n q) s (slice_get sigs s) e

pub top_step : (sigs : List Sig) (n k s p r : ℕ) → k < n → top_above sigs (n - k) s ≡ r → parent_at sigs s ≡ Some p → top_above sigs (n - (k + 1)) p ≡ r
top_step sigs n k s p r lt e parent =
    let more : n - k ≡ suc (n - (k + 1)) = omega arith in
    sym (top_up sigs (n - (k + 1)) s p parent) ∙ (ap (λ (m : ℕ). top_above sigs m s) (sym more) ∙ e)

pub top_end : (sigs : List Sig) (n s r : ℕ) → top_above sigs n s ≡ r → parent_at sigs s ≡ None → s ≡ r
top_end sigs n s r e none = sym (top_stays sigs n s none) ∙ e

pub top_last : (sigs : List Sig) (n k s r : ℕ) → n ≤ k → top_above sigs (n - k) s ≡ r → s ≡ r
top_last sigs n k s r le e =
    let less : n - k ≡ 0 = omega arith in
    subst (λ (m : ℕ). top_above sigs m s ≡ r) less e

-- the sig as which a sig stands is the one for its parent, where it is `var`
standing_up : (sigs : List Sig) (m s p : ℕ) → moving_parent_at sigs s ≡ Some p → standing sigs (suc m) s ≡ standing sigs m p
standing_up sigs m s p e = var_more (λ q. standing sigs m q) s p (slice_get sigs s) e

standing_stays : (sigs : List Sig) (n s : ℕ) → moving_parent_at sigs s ≡ None → standing sigs n s ≡ s
standing_stays sigs zero s e = refl
standing_stays sigs (suc n) s e = var_none (λ q. standing sigs n q) s (slice_get sigs s) e

pub standing_step : (sigs : List Sig) (n k s p r : ℕ) → k < n → standing sigs (n - k) s ≡ r → moving_parent_at sigs s ≡ Some p → standing sigs (n - (k + 1)) p ≡ r
standing_step sigs n k s p r lt e parent =
    let more : n - k ≡ suc (n - (k + 1)) = omega arith in
    sym (standing_up sigs (n - (k + 1)) s p parent) ∙ (ap (λ (m : ℕ). standing sigs m s) (sym more) ∙ e)

pub standing_end : (sigs : List Sig) (n s r : ℕ) → standing sigs n s ≡ r → moving_parent_at sigs s ≡ None → s ≡ r
standing_end sigs n s r e none = sym (standing_stays sigs n s none) ∙ e

pub standing_last : (sigs : List Sig) (n k s r : ℕ) → n ≤ k → standing sigs (n - k) s ≡ r → s ≡ r
standing_last sigs n k s r le e =
    let less : n - k ≡ 0 = omega arith in
    subst (λ (m : ℕ). standing sigs m s ≡ r) less e

-- ---- the top-level sigs of all

pub no_tops : (sigs : List Sig) → AreTops sigs 0 []
no_tops sigs = record { count = refl; each = λ s lt. absurd (omega arith) }

pub end_at : {X : Type 0} (xs : List X) (x d : X) → get_or (xs ++ x ∷ []) (length xs) d ≡ x
end_at [] x d = refl
end_at (y ∷ xs) x d = end_at xs x d

pub early_at : {X : Type 0} (xs : List X) (x : X) (k : ℕ) (d : X) → k < length xs → get_or (xs ++ x ∷ []) k d ≡ get_or xs k d
early_at [] x k d lt = absurd (omega arith)
early_at (y ∷ xs) x zero d lt = refl
early_at (y ∷ xs) x (suc k) d lt = early_at xs x k d (omega arith)

top_here : (sigs : List Sig) (n top : ℕ) (ups : List ℕ) → length ups ≡ n → top ≡ top_above sigs (length sigs) n → top_at (ups ++ top ∷ []) n ≡ top_above sigs (length sigs) n
top_here sigs n top ups count is = subst (λ (m : ℕ). get_or (ups ++ top ∷ []) m n ≡ top) count (end_at ups top n) ∙ is

pub tops_more : (sigs : List Sig) (n top : ℕ) (ups new : List ℕ) → AreTops sigs n ups → top ≡ top_above sigs (length sigs) n → new ≡ ups ++ top ∷ [] → AreTops sigs (n + 1) new
tops_more sigs n top ups new are is e =
    let count : length new ≡ n + 1 = ap length e ∙ (length-append ups (top ∷ []) ∙ ap (λ (m : ℕ). m + 1) are.count) in
    record {
      count = count;
      each = λ s lt. subst (λ (xs : List ℕ). top_at xs s ≡ top_above sigs (length sigs) s) (sym e) (elim (cases_lt s n) [
        | inl less ↦ let own = are.count in early_at ups top s s (omega (arith, own, less)) ∙ are.each s less
        | inr far ↦ let same : s ≡ n = omega (arith, far, lt) in subst (λ (k : ℕ). top_at (ups ++ top ∷ []) k ≡ top_above sigs (length sigs) k) (sym same) (top_here sigs n top ups are.count is)
      ]);
    }

no_parent_at : (sigs : List Sig) (s : ℕ) → length sigs ≤ s → parent_at sigs s ≡ None
no_parent_at sigs s le = ap (λ (o : Option Sig). by_sig {X = Option ℕ} None (λ d. by_parent None (λ p. Some p) d.kind) o) (slice_get_past sigs s le)

pub tops_all : (sigs : List Sig) (n : ℕ) (ups : List ℕ) → length sigs ≤ n → n ≤ length sigs → AreTops sigs n ups → HasTops sigs ups
tops_all sigs n ups low high are s = elim (cases_lt s n) [
  | inl less ↦ are.each s less
  | inr far ↦ let own = are.count in get_or_past ups s s (omega (arith, own, far)) ∙ sym (top_stays sigs (length sigs) s (no_parent_at sigs s (omega (arith, far, low))))
]

-- ---- one sig under another

under_by_sig : (sigs : List Sig) (m p high : ℕ) (o : Option Sig) → by_sig None (λ d. by_parent None (λ q. Some q) d.kind) o ≡ Some p → by_sig false (λ d. by_parent false (λ q. is_under sigs m q high) d.kind) o ≡ is_under sigs m p high
under_by_sig sigs m p high None e = cc
under_by_sig sigs m p high (Some d) e = by_kind d.kind e
  where
    by_kind : (kind : SigKind) → by_parent None (λ q. Some q) kind ≡ Some p → by_parent false (λ q. is_under sigs m q high) kind ≡ is_under sigs m p high
    by_kind Top f = cc
    by_kind (Extends q) f = let is : q ≡ p = cc in ap (λ (k : ℕ). is_under sigs m k high) is
    by_kind (Subset ps) f = cc

under_by_none : (sigs : List Sig) (m high : ℕ) (o : Option Sig) → by_sig {X = Option ℕ} None (λ d. by_parent None (λ q. Some q) d.kind) o ≡ None → by_sig false (λ d. by_parent false (λ q. is_under sigs m q high) d.kind) o ≡ false
under_by_none sigs m high None e = refl
under_by_none sigs m high (Some d) e = by_kind d.kind e
  where
    by_kind : (kind : SigKind) → by_parent {X = Option ℕ} None (λ q. Some q) kind ≡ None → by_parent false (λ q. is_under sigs m q high) kind ≡ false
    by_kind Top f = refl
    by_kind (Extends q) f = cc
    by_kind (Subset ps) f = refl

under_up : (sigs : List Sig) (m low p high : ℕ) (r : Bool) → eqb low high ≡ false → is_under sigs (suc m) low high ≡ r → parent_at sigs low ≡ Some p → is_under sigs m p high ≡ r
under_up sigs m low p high r other e parent =
    sym (under_by_sig sigs m p high (slice_get sigs low) parent)
    ∙ (sym (ap (λ (b : Bool). if b then true else by_sig false (λ d. by_parent false (λ q. is_under sigs m q high) d.kind) (slice_get sigs low)) other) ∙ e)

pub under_step : (sigs : List Sig) (n k low p high : ℕ) (r : Bool) → k < n → (low ≡ high → ⊥) → is_under sigs (n - k) low high ≡ r → parent_at sigs low ≡ Some p → is_under sigs (n - (k + 1)) p high ≡ r
under_step sigs n k low p high r lt other e parent =
    let more : n - k ≡ suc (n - (k + 1)) = omega arith in
    under_up sigs (n - (k + 1)) low p high r (ne_eqb low high other) (ap (λ (m : ℕ). is_under sigs m low high) (sym more) ∙ e) parent

-- a sig is under itself, at any depth
under_same : (sigs : List Sig) (m low high : ℕ) → low ≡ high → is_under sigs m low high ≡ true
under_same sigs zero low high same = eq-eqb low high same
under_same sigs (suc m) low high same = ap (λ (b : Bool). if b then true else by_sig false (λ d. by_parent false (λ q. is_under sigs m q high) d.kind) (slice_get sigs low)) (eq-eqb low high same)

-- one without a parent is under no other
under_none : (sigs : List Sig) (m low high : ℕ) → (low ≡ high → ⊥) → parent_at sigs low ≡ None → is_under sigs m low high ≡ false
under_none sigs zero low high other none = ne_eqb low high other
under_none sigs (suc m) low high other none =
    ap (λ (b : Bool). if b then true else by_sig false (λ d. by_parent false (λ q. is_under sigs m q high) d.kind) (slice_get sigs low)) (ne_eqb low high other)
    ∙ under_by_none sigs m high (slice_get sigs low) none

pub under_here : (sigs : List Sig) (n k low high : ℕ) (r : Bool) → low ≡ high → is_under sigs (n - k) low high ≡ r → true ≡ r
under_here sigs n k low high r same e = sym (under_same sigs (n - k) low high same) ∙ e

pub under_end : (sigs : List Sig) (n k low high : ℕ) (r : Bool) → (low ≡ high → ⊥) → is_under sigs (n - k) low high ≡ r → parent_at sigs low ≡ None → false ≡ r
under_end sigs n k low high r other e none = sym (under_none sigs (n - k) low high other none) ∙ e

pub under_last : (sigs : List Sig) (n k low high : ℕ) (r b : Bool) → n ≤ k → is_under sigs (n - k) low high ≡ r → b ≡ eqb low high → b ≡ r
under_last sigs n k low high r b le e is =
    let less : n - k ≡ 0 = omega arith in
    is ∙ subst (λ (m : ℕ). is_under sigs m low high ≡ r) less e
