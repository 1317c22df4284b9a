-- All declarations together.
use Rattle.std.proofs.Common.{◌↔◌, ℕ, Bool, false, IsTrue}
use Rattle.eval_context.specs.Settings.{SettingValue}
use Rattle.eval_tree.proofs.FoundLemmas.{false_fails}
use Rattle.eval_trace.specs.Asked.{SigsAre, FieldsAre, AllAre}

module _ (s : SettingValue) (i : ℕ) where
  pub all_sigs : ¬ SigsAre s i → IsTrue false ↔ AllAre s i
  all_sigs no' = false_fails (λ h. no' h.sigs)

  pub all_fields : SigsAre s i → (b : Bool) → IsTrue b ↔ FieldsAre s i → IsTrue b ↔ AllAre s i
  all_fields sigs b k = (
    (λ t. record { sigs = sigs; fields = λ k' f n d at owner declared. k.0 t k' f at n d owner declared }),
    (λ h. k.1 (λ k' f at n d owner declared. h.fields k' f n d at owner declared)),
  )
