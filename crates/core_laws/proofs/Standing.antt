-- As which sigs sigs stand in types, and the top-level sigs above them.
use Rattle.std.proofs.Common.{◌≡◌, ◌⊎◌, inl, inr, ℕ, zero, suc, ◌+◌, ◌<◌, ◌≤◌, Bool, true, false, eqb, if◌then◌else◌, List, [], ◌∷◌, ◌++◌, length, Option, Some, slice_get, refl, sym, ap, ◌∙◌, subst, arith}
use Rattle.std.proofs.lemmas.Bool.{eq-eqb}
use Rattle.core_tree.specs.declared.model.Sig.{Sig}
use Rattle.core_tree.specs.declared.model.SigKind.{SigKind}
use Rattle.core_tree.specs.declared.model.SigKind.TheVariants.{Top, Extends, Subset}
use Rattle.core_tree.specs.declared.model.Column.{Column}
use Rattle.core_tree.specs.declared.model.Column.TheVariants.{Sig as SigColumn}
use Rattle.core_tree.specs.Types.{TypeRows, by_parent, by_sig, standing, is_under, kind_rows, sig_rows}
use Rattle.core_meaning.specs.Kept.{top_above}
use Rattle.core_laws.specs.Typed.{IsStanding}
use Rattle.core_laws.proofs.Climbs.{Climb, climb_more, one_more, IsTree, get_there, get_within, Extending, climb_parents, parent_within, few_steps}

-- a sig that isn't an `in` sig
abbrev pub IsPlainKind : SigKind → Type 0
IsPlainKind k = (k ≡ Top) ⊎ ((p : ℕ) × (k ≡ Extends p))

plain_kind : (k : SigKind) → ((ps : List Column) → k ≡ Subset ps → ⊥) → IsPlainKind k
plain_kind Top other = inl refl
plain_kind (Extends p) other = inr (p, refl)
plain_kind (Subset ps) other = absurd (other ps refl)

abbrev standing_by : List Sig → ℕ → ℕ → Bool → SigKind → ℕ
standing_by sigs n s v kind = if v then by_parent s (λ p. standing sigs n p) kind else s

standing_step : (sigs : List Sig) (n s : ℕ) (d : Sig) → slice_get sigs s ≡ Some d → standing sigs (suc n) s ≡ standing_by sigs n s d.is_var d.kind
standing_step sigs n s d e = ap (λ (o : Option Sig). by_sig s (λ (c : Sig). standing_by sigs n s c.is_var c.kind) o) e

top_step : (sigs : List Sig) (n s : ℕ) (d : Sig) → slice_get sigs s ≡ Some d → top_above sigs (suc n) s ≡ by_parent s (λ p. top_above sigs n p) d.kind
top_step sigs n s d e = ap (λ (o : Option Sig). by_sig s (λ (c : Sig). by_parent s (λ p. top_above sigs n p) c.kind) o) e

module _ (sigs : List Sig) (tree : IsTree sigs) where
  -- what a child extends is there, and is no `in` sig
  parent_there : (s p : ℕ) (d : Sig) → slice_get sigs s ≡ Some d → d.kind ≡ Extends p → (e : Sig) × (slice_get sigs p ≡ Some e) × IsPlainKind e.kind
  parent_there s p d get is =
      let step : Extending sigs s p = (d, get, is) in
      let lt = parent_within sigs tree s p (climb_parents sigs s p (p ∷ []) (step, refl)).0 in
      let (e, there) = get_there sigs p lt in
      (e, there, plain_kind e.kind (λ ps k. tree.plain s p d e ps get is there k))

  -- a sig that stands in types, with the way up to it
  abbrev pub Reached : ℕ → ℕ → Type 0
  Reached a t = (ps : List ℕ) × Climb (Extending sigs) a ps t × (d : Sig) × (slice_get sigs t ≡ Some d) × IsStanding d

  stands_by : (n a s : ℕ) (d : Sig) → (IsStanding d → Reached a s) → ((p : ℕ) → d.kind ≡ Extends p → Reached a (standing sigs n p)) → (v : Bool) → d.is_var ≡ v → IsPlainKind d.kind → Reached a (standing_by sigs n s v d.kind)
  stands_by n a s d here further false still (inl top) = here (inl top)
  stands_by n a s d here further false still (inr (p, is)) = here (inr (p, is, still))
  stands_by n a s d here further true moves (inl top) = subst (λ (k : SigKind). Reached a (by_parent s (λ p. standing sigs n p) k)) (sym top) (here (inl top))
  stands_by n a s d here further true moves (inr (p, is)) = subst (λ (k : SigKind). Reached a (by_parent s (λ q. standing sigs n q) k)) (sym is) (further p is)

  pub stands : (n a s : ℕ) (ps : List ℕ) (d : Sig) → a < length sigs → Climb (Extending sigs) a ps s → length sigs ≤ length ps + n → slice_get sigs s ≡ Some d → IsPlainKind d.kind → Reached a (standing sigs n s)
  stands zero a s ps d lt climb enough get kind =
      let few = few_steps sigs tree a s ps lt (climb_parents sigs a s ps climb) in
      absurd (omega (arith, few, enough))
  stands (suc n) a s ps d lt climb enough get kind =
      subst (Reached a) (sym (standing_step sigs n s d get)) (stands_by n a s d (λ is. (ps, climb, d, get, is)) (λ p is.
      let (e, there, plain) = parent_there s p d get is in
      let count = one_more ps p in
      stands n a p (ps ++ p ∷ []) e lt (climb_more (Extending sigs) a s p ps climb (d, get, is)) (omega (arith, count, enough)) there plain) d.is_var refl kind)

  -- the top-level sig above one, with the way up to it
  abbrev pub Topped : ℕ → ℕ → Type 0
  Topped a t = (ps : List ℕ) × Climb (Extending sigs) a ps t × (d : Sig) × (slice_get sigs t ≡ Some d) × (d.kind ≡ Top)

  tops_by : (n a s : ℕ) (d : Sig) → (d.kind ≡ Top → Topped a s) → ((p : ℕ) → d.kind ≡ Extends p → Topped a (top_above sigs n p)) → IsPlainKind d.kind → Topped a (by_parent s (λ p. top_above sigs n p) d.kind)
  tops_by n a s d here further (inl top) = subst (λ (k : SigKind). Topped a (by_parent s (λ p. top_above sigs n p) k)) (sym top) (here top)
  tops_by n a s d here further (inr (p, is)) = subst (λ (k : SigKind). Topped a (by_parent s (λ q. top_above sigs n q) k)) (sym is) (further p is)

  pub tops : (n a s : ℕ) (ps : List ℕ) (d : Sig) → a < length sigs → Climb (Extending sigs) a ps s → length sigs ≤ length ps + n → slice_get sigs s ≡ Some d → IsPlainKind d.kind → Topped a (top_above sigs n s)
  tops zero a s ps d lt climb enough get kind =
      let few = few_steps sigs tree a s ps lt (climb_parents sigs a s ps climb) in
      absurd (omega (arith, few, enough))
  tops (suc n) a s ps d lt climb enough get kind =
      subst (Topped a) (sym (top_step sigs n s d get)) (tops_by n a s d (λ top. (ps, climb, d, get, top)) (λ p is.
      let (e, there, plain) = parent_there s p d get is in
      let count = one_more ps p in
      tops n a p (ps ++ p ∷ []) e lt (climb_more (Extending sigs) a s p ps climb (d, get, is)) (omega (arith, count, enough)) there plain) kind)

  standing_kind : (d : Sig) → IsStanding d → IsPlainKind d.kind
  standing_kind d (inl top) = inl top
  standing_kind d (inr (p, is, still)) = inr (p, is)

  pub top_of : (s : ℕ) (d : Sig) → slice_get sigs s ≡ Some d → IsStanding d → Topped s (top_above sigs (length sigs) s)
  top_of s d get is = tops (length sigs) s s [] d (get_within sigs s d get) refl (omega arith) get (standing_kind d is)

  pub stands_at : (s : ℕ) (d : Sig) → slice_get sigs s ≡ Some d → IsPlainKind d.kind → Reached s (standing sigs (length sigs) s)
  stands_at s d get is = stands (length sigs) s s [] d (get_within sigs s d get) refl (omega arith) get is

-- a top-level sig is its own
pub top_itself : (sigs : List Sig) (n s : ℕ) (d : Sig) → slice_get sigs s ≡ Some d → d.kind ≡ Top → top_above sigs n s ≡ s
top_itself sigs zero s d get top = refl
top_itself sigs (suc n) s d get top = top_step sigs n s d get ∙ ap (λ (k : SigKind). by_parent s (λ p. top_above sigs n p) k) top

-- what stands in types stands as itself
pub stands_itself : (sigs : List Sig) (n s : ℕ) (d : Sig) → slice_get sigs s ≡ Some d → IsStanding d → standing sigs n s ≡ s
stands_itself sigs zero s d get is = refl
stands_itself sigs (suc n) s d get is = standing_step sigs n s d get ∙ go d.is_var refl is
  where
    go : (v : Bool) → d.is_var ≡ v → IsStanding d → standing_by sigs n s v d.kind ≡ s
    go false e (inl top) = refl
    go false e (inr other) = refl
    go true e (inl top) = ap (λ (k : SigKind). by_parent s (λ p. standing sigs n p) k) top
    go true e (inr (p, kind, still)) = absurd (true_false (sym e ∙ still))
      where
        true_false : true ≡ false → ⊥
        true_false h = cc

-- the rows of a sig that isn't an `in` sig
abbrev itself_row : List Sig → ℕ → TypeRows
itself_row sigs s = (SigColumn (standing sigs (length sigs) s) ∷ []) ∷ []

pub plain_rows : (sigs : List Sig) (n s : ℕ) (d : Sig) → slice_get sigs s ≡ Some d → IsPlainKind d.kind → sig_rows sigs (suc n) s ≡ (SigColumn (standing sigs (length sigs) s) ∷ []) ∷ []
plain_rows sigs n s d get is = ap (λ (o : Option Sig). by_sig [] (λ (c : Sig). kind_rows (itself_row sigs s) (λ p. sig_rows sigs n p) c.kind) o) get ∙ go is
  where
    go : IsPlainKind d.kind → kind_rows (itself_row sigs s) (λ p. sig_rows sigs n p) d.kind ≡ itself_row sigs s
    go (inl top) = ap (kind_rows (itself_row sigs s) (λ p. sig_rows sigs n p)) top
    go (inr (p, kind)) = ap (kind_rows (itself_row sigs s) (λ q. sig_rows sigs n q)) kind

pub subset_rows : (sigs : List Sig) (n s : ℕ) (d : Sig) (ps : List Column) → slice_get sigs s ≡ Some d → d.kind ≡ Subset ps → sig_rows sigs (suc n) s ≡ kind_rows ((SigColumn (standing sigs (length sigs) s) ∷ []) ∷ []) (λ p. sig_rows sigs n p) (Subset ps)
subset_rows sigs n s d ps get is = ap (λ (o : Option Sig). by_sig [] (λ (c : Sig). kind_rows ((SigColumn (standing sigs (length sigs) s) ∷ []) ∷ []) (λ p. sig_rows sigs n p) c.kind) o) get ∙ ap (kind_rows ((SigColumn (standing sigs (length sigs) s) ∷ []) ∷ []) (λ p. sig_rows sigs n p)) is

abbrev under_rest : List Sig → ℕ → ℕ → ℕ → Bool
under_rest sigs n a b = by_sig false (λ d. by_parent false (λ q. is_under sigs n q b) d.kind) (slice_get sigs a)

under_by : (sigs : List Sig) (n a b : ℕ) (t : Bool) → eqb a b ≡ t → under_rest sigs n a b ≡ true → (if eqb a b then true else under_rest sigs n a b) ≡ true
under_by sigs n a b true e up = ap (λ (t : Bool). if t then true else under_rest sigs n a b) e
under_by sigs n a b false e up = ap (λ (t : Bool). if t then true else under_rest sigs n a b) e ∙ up

-- a sig lies under those above it
pub lies_under : (sigs : List Sig) (n a b : ℕ) (ps : List ℕ) → Climb (Extending sigs) a ps b → length ps ≤ n → is_under sigs n a b ≡ true
lies_under sigs zero a b [] e few = eq-eqb a b e
lies_under sigs (suc n) a b [] e few = ap (λ (t : Bool). if t then true else by_sig false (λ d. by_parent false (λ p. is_under sigs n p b) d.kind) (slice_get sigs a)) (eq-eqb a b e)
lies_under sigs zero a b (p ∷ ps) climb few = absurd (omega (arith, few))
lies_under sigs (suc n) a b (p ∷ ps) ((d, get, is), climb) few = under_by sigs n a b (eqb a b) refl (
    ap (λ (o : Option Sig). by_sig false (λ (c : Sig). by_parent false (λ q. is_under sigs n q b) c.kind) o) get ∙ (ap (λ (k : SigKind). by_parent false (λ q. is_under sigs n q b) k) is ∙ lies_under sigs n p b ps climb (omega (arith, few))))
