-- Where each line is right by that of the sig that its sig extends, all are right: each is longer
-- than that.
use Rattle.std.proofs.Common.{◌≡◌, ℕ, ◌<◌, true, List, [], ◌∷◌, length, get_or, Some, slice_get, refl, sym, ap, subst, arith}
use Rattle.std.proofs.lemmas.Option.{slice_get_within, slice_get-get_or}
use Rattle.core_tree.specs.declared.model.Sig.{Sig}
use Rattle.resolve_types.specs.Types.{Lines}
use Rattle.resolve_hierarchy.specs.declared.sigs.Kind.{Kind}
use Rattle.resolve_hierarchy.specs.declared.sigs.Kind.TheVariants as kind
use Rattle.resolve_hierarchy.specs.Above.{AreLines, IsLine, IsSubset, Sigs, child, is_inside, top}
use Rattle.resolve_told_types.specs.Kinds.{kind_in, kinds_of}
use Rattle.resolve_told_types.specs.Steps.{IsLineStep}
use Rattle.resolve_told_types.proofs.Lists.{map_at}

module _ (sigs : Sigs) (lines : Lines) (every : length lines ≡ length sigs)
    (steps : (s : ℕ) (d : Kind) (line : List ℕ) → slice_get sigs s ≡ Some d → slice_get lines s ≡ Some line → IsLineStep lines s d line) where
  kind_at : (s : ℕ) (line : List ℕ) → slice_get lines s ≡ Some line → (d : Kind) × (slice_get sigs s ≡ Some d)
  kind_at s line at =
      let within = slice_get_within lines s line at in
      (get_or sigs s kind.Top, slice_get-get_or sigs s kind.Top (omega arith))

  empty_by : (s : ℕ) (d : Kind) (line : List ℕ) → is_inside d ≡ true → IsLineStep lines s d line → line ≡ []
  empty_by s kind.Top line sub step = absurd (cc)
  empty_by s (kind.Extends t) line sub step = absurd (cc)
  empty_by s (kind.Subset ms) line sub step = step

  subset_line : (s : ℕ) (line : List ℕ) → IsSubset sigs s → slice_get lines s ≡ Some line → line ≡ []
  subset_line s line sub at = empty_by s sub.0 line sub.2 (steps s sub.0 line sub.1 at)

  -- a line that isn't empty is that of no subset sig
  no_subset : (s : ℕ) (line : List ℕ) → slice_get lines s ≡ Some line → 0 < length line → IsSubset sigs s → ⊥
  no_subset s line at some sub = let e = ap (λ (l : List ℕ). length l) (subset_line s line sub at) in omega arith

  line_of : (line : List ℕ) (s : ℕ) (d : Kind) → slice_get sigs s ≡ Some d → (IsSubset sigs s → ⊥) → IsLineStep lines s d line → IsLine sigs s line
  line_of line s kind.Top at plain step = subst (λ (l : List ℕ). IsLine sigs s l) (sym step) (top at refl)
  line_of [] s (kind.Extends t) at plain (rest, there, some, e) = absurd (cc)
  line_of (u ∷ line) s (kind.Extends t) at plain (rest, there, some, e) =
      let same : rest ≡ line = cc in
      let k = kind_at t rest there in
      let step = subst (λ (l : List ℕ). IsLineStep lines t k.0 l) same (steps t k.0 rest k.1 there) in
      let up = line_of line t k.0 k.1 (no_subset t rest there some) step in
      subst (λ (l : List ℕ). IsLine sigs s l) (sym e) (child at refl (subst (λ (l : List ℕ). IsLine sigs t l) (sym same) up))
  line_of line s (kind.Subset ms) at plain step = absurd (plain (kind.Subset ms, at, refl))

  are_lines : AreLines sigs lines
  are_lines = record {
    every = every;
    of_sig = λ s line plain at. let k = kind_at s line at in line_of line s k.0 k.1 plain (steps s k.0 line k.1 at);
    of_subset = subset_line;
  }

pub are_lines_of : (sigs : List Sig) (lines : Lines) → length lines ≡ length (kinds_of sigs) →
    ((s : ℕ) (x : Sig) → slice_get sigs s ≡ Some x → (line : List ℕ) → slice_get lines s ≡ Some line → IsLineStep lines s (kind_in x) line) → AreLines (kinds_of sigs) lines
are_lines_of sigs lines every steps =
    are_lines (kinds_of sigs) lines every (λ s d line at there.
    let x = map_at kind_in sigs s d at in
    subst (λ (k : Kind). IsLineStep lines s k line) x.2 (steps s x.0 x.1 line there))
