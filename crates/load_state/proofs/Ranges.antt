-- A sig is there just where its number is below the count of its text.
use Rattle.std.proofs.Common.{◌≡◌, ℕ, List, Bool, false, Option, Some, None, refl}
use Rattle.std.proofs.lemmas.Option.{slice_get-map}
use Rattle.std.specs.Prelude.{map, nat_lt, slice_get}
use Rattle.std.specs.Option.{option_map, option_map_or}
use Rattle.syntax_tree.specs.Instances.{sig_count, is_sig}
use Rattle.syntax_tree.specs.declared.instance.Instance.{Instance}
use Rattle.syntax_tree.specs.declared.instance.SigRef.{SigRef}
use Rattle.syntax_tree.specs.declared.instance.Text.{Text}
use Rattle.syntax_tree.specs.declared.module.Module.{Module}

abbrev on_text : Option Text → (Module → Bool) → Bool
on_text None test = false
on_text (Some t) test = test t.tree

below_count : (n : ℕ) (text : Option Text) → option_map_or (nat_lt n) (option_map (λ (t : Text). sig_count t.tree) text) false ≡ on_text text (λ m. nat_lt n (sig_count m))
below_count n None = refl
below_count n (Some t) = refl

pub sig_is : (texts : List Text) (sigs : List ℕ) (instances : List Instance) (r : SigRef) (i : Instance) → sigs ≡ map (λ t. sig_count t.tree) texts → slice_get instances r.instance ≡ Some i → option_map_or (nat_lt r.sig) (slice_get sigs i.text) false ≡ is_sig texts instances r
sig_is texts sigs instances r i counted there =
    rw there (rw counted (rw (slice_get-map (λ (t : Text). sig_count t.tree) texts i.text) (below_count r.sig (slice_get texts i.text))))
