-- What is left of the facts is what the search for them may come to.
use Rattle.std.proofs.Common.{ℕ, Option, arith}
use Rattle.core_meaning.specs.declared.target.Target.{Target}
use Rattle.bound_uppers.specs.declared.table.Bounds.{Bounds}
use Rattle.answer_certificates.specs.Core.{IsCore, IsShrunk}
use Rattle.answer_certificates.proofs.Needing.{needed_kept}
use Rattle.answer_certificates.specs.declared.facts.Core.{Core}
use Rattle.answer_certificates.specs.declared.facts.Core.TheVariants.{Trace, Refuted, Unknown}

pub shrunk_core : (target : Target) (first facts : ℕ) (limits : Bounds) (budget : Option ℕ) (core : Core) → IsShrunk target first facts limits budget core → IsCore target first facts limits budget core
shrunk_core target first facts limits budget (Trace lasso) shrunk = absurd shrunk
shrunk_core target first facts limits budget (Refuted kept proof) (right, refuted, laid, dropped, out, rules, needed) =
    (right, refuted, record { dropped = dropped; left_out = out; refuted = rules }, laid, needed_kept target first facts limits kept dropped right.1 out needed)
shrunk_core target first facts limits budget (Unknown proof) (spent, laid, dropped, said, count) = (spent, record { dropped = dropped; few = omega (arith, count); said = said }, laid)
