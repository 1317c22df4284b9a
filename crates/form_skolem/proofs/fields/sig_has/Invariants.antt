use Rattle.std.proofs.Common.{◌≡◌, drop}
use Rattle.form_skolem.specs.Steps.{sig_has}
use Rattle.form_skolem.proofs.fields.sig_has.Given as goal

abbrev pub invariant-loop-sig : goal.invariant-loop-sig
invariant-loop-sig l = sig_has l.sigs l.label ≡ sig_has (drop l.sig-index l.sigs) l.label
