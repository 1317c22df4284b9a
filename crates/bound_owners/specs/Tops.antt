-- The sig above a sig, and the top-level sigs of all, as they are kept.
use Rattle.std.specs.Prelude.{◌≡◌, ◌<◌, ℕ, if◌then◌else◌, List, length, Option, Some, None, slice_get, get_or}
use Rattle.core_tree.specs.declared.model.Sig.{Sig}
use Rattle.core_tree.specs.Types.{by_parent, by_sig}
use Rattle.core_meaning.specs.Kept.{top_above}

-- the sig that a sig extends, and the one that a `var` sig extends
abbrev pub parent_at : List Sig → ℕ → Option ℕ
parent_at sigs s = by_sig None (λ d. by_parent None (λ p. Some p) d.kind) (slice_get sigs s)

abbrev pub moving_parent_at : List Sig → ℕ → Option ℕ
moving_parent_at sigs s = by_sig None (λ d. if d.is_var then by_parent None (λ p. Some p) d.kind else None) (slice_get sigs s)

-- as which sig a sig stands, as it is kept for each sig of the model
abbrev pub top_at : List ℕ → ℕ → ℕ
top_at ups s = get_or ups s s

abbrev pub HasTops : List Sig → List ℕ → Type 0
HasTops sigs ups = (s : ℕ) → top_at ups s ≡ top_above sigs (length sigs) s

-- those of the first sigs
pub record AreTops (sigs : List Sig) (n : ℕ) (ups : List ℕ) : Type 0 where
  pub count : length ups ≡ n
  pub each : (s : ℕ) → s < n → top_at ups s ≡ top_above sigs (length sigs) s
