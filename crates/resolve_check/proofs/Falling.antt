-- Numbers that fall along a parent leave no sig among its own ancestors.
use Rattle.std.proofs.Common.{◌≡◌, ℕ, zero, suc, ◌+◌, ◌<◌, ◌≤◌, List, [], ◌∷◌, length, Some, slice_get, slice_index, All, Contains, refl, sym, subst, arith, inl, inr}
use Rattle.std.proofs.lemmas.Bool.{cases_lt}
use Rattle.std.proofs.lemmas.List.Elements.{All-contains}
use Rattle.std.proofs.lemmas.Option.{slice_get_within}
use Rattle.core_tree.specs.declared.model.Sig.{Sig}
use Rattle.core_tree.specs.declared.model.Column.{Column}
use Rattle.core_tree.specs.declared.model.Column.TheVariants.{Sig as SigColumn}
use Rattle.core_tree.specs.Models.{IsAncestor, parent, above, parents_of}
use Rattle.resolve_check.specs.Kept.{FallsTo, AreFalling}

of_member : (numbers : List ℕ) (s : ℕ) (cs : List Column) (c : Column) → All (FallsTo numbers s) cs → Contains cs c → FallsTo numbers s c
of_member numbers s cs c all here = All-contains (FallsTo numbers s) cs c all here

one_falls : (sigs : List Sig) (numbers : List ℕ) → AreFalling sigs numbers → (d : Sig) (s a : ℕ) → slice_get sigs s ≡ Some d → Contains (parents_of d.kind) (SigColumn a) → slice_index numbers a < slice_index numbers s
one_falls sigs numbers falls d s a at here = of_member numbers s (parents_of d.kind) (SigColumn a) (falls s d at) here

pub ancestor_falls : (sigs : List Sig) (numbers : List ℕ) → AreFalling sigs numbers → (a s : ℕ) → IsAncestor sigs a s → slice_index numbers a < slice_index numbers s
ancestor_falls sigs numbers falls a s (parent d at here) = one_falls sigs numbers falls d s a at here
ancestor_falls sigs numbers falls a s (above {p = p} d at here up) =
    let lower = ancestor_falls sigs numbers falls a p up in
    let step = one_falls sigs numbers falls d s p at here in
    omega arith

-- what holds of each place before one, and of it, holds of each place before the next
module _ {X : Type 0} (P : ℕ → X → Type 0) (l : List X) where
  pub front_more : (n : ℕ) → ((k : ℕ) (x : X) → k < n → slice_get l k ≡ Some x → P k x) → ((x : X) → slice_get l n ≡ Some x → P n x) → (k : ℕ) (x : X) → k < n + 1 → slice_get l k ≡ Some x → P k x
  front_more n before here k x lt at = elim (cases_lt k n) [
    | inl sooner ↦ before k x sooner at
    | inr last ↦ let e : n ≡ k = omega arith in subst (λ j. P j x) e (here x (subst (λ j. slice_get l j ≡ Some x) (sym e) at))
  ]

  pub front_all : (n : ℕ) → length l ≤ n → ((k : ℕ) (x : X) → k < n → slice_get l k ≡ Some x → P k x) → (k : ℕ) (x : X) → slice_get l k ≡ Some x → P k x
  front_all n high before k x at = before k x (let within = slice_get_within l k x at in omega arith) at
