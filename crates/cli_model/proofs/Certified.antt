-- The answer that has the text of a certificate.
use Rattle.std.proofs.Common.{ℕ, Option, subst}
use Rattle.answer_analysis.specs.Found.{NoneWithin}
use Rattle.answer_analysis.specs.declared.ready.Prepared.{Prepared}
use Rattle.answer_certificates.specs.Certificate.{RowsOver, ShowsNone, SayOverStates, IsLeastText, IsCoreText}
use Rattle.answer_certificates.specs.declared.certificate.Certificate.{Certificate}
use Rattle.answer_certificates.specs.declared.certificate.Certificate.TheVariants.{Trace, Refuted, Unknown}
use Rattle.cli_words.specs.declared.named.Mode.TheVariants.{Least, Core}
use Rattle.cli_words.specs.declared.named.Part.{Part}
use Rattle.cli_model.specs.Model.{IsFoundIn, answer_of}
use Rattle.cli_model.specs.Ready.{IsPreparedOf}

module _ (number : ℕ) (part : Part) (budget : Option ℕ) (prepared : Prepared) (made : IsPreparedOf prepared.ready.loaded number prepared) where
  pub least_found : (found : Certificate) → IsLeastText prepared part budget found → IsFoundIn prepared.ready.loaded Least number part budget (answer_of found)
  least_found (Trace text) shows = (prepared, made, shows)
  least_found (Refuted text) (states, shows, none) =
      let within = none number made.prepared in
      (prepared, made, (subst (λ n. ShowsNone (RowsOver prepared n) (SayOverStates prepared n) n budget part text) within.0 shows, subst (NoneWithin prepared) within.0 within.1))
  least_found (Unknown text) shows = (prepared, made, shows)

  pub core_found : (found : Certificate) → IsCoreText prepared part budget found → IsFoundIn prepared.ready.loaded Core number part budget (answer_of found)
  core_found (Trace text) shows = (prepared, made, shows)
  core_found (Refuted text) shows = (prepared, made, shows)
  core_found (Unknown text) shows = (prepared, made, shows)
