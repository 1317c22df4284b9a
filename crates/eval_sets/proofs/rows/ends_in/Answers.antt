use Rattle.std.proofs.Common.{◌↔◌, ◌∷◌, [], IsTrue}
use Rattle.std.proofs.lemmas.Result.{IfOk-weaker}
use Rattle.core_tuples.specs.Sets.{In}
use Rattle.eval_sets.specs.Rows.{Ends}
use Rattle.eval_sets.proofs.RowLaw.{ends_answer, ends_never}
use Rattle.eval_sets.proofs.rows.ends_in.Goals as goal

pub returns-in-Some : goal.returns-in-Some
returns-in-Some c =
    IfOk-weaker c.has_single.result (λ b. IsTrue b ↔ In (c.in-Some.last ∷ []) c.args.atoms.now) (λ b. IsTrue b ↔ Ends c.args.atoms.now c.args.tuple.now) (λ b h. ends_answer c.args.atoms.now c.args.tuple.now c.in-Some.last b c.in-Some.ensures h) c.has_single.ensures

pub returns-in-None : goal.returns-in-None
returns-in-None c =
    ends_never c.args.atoms.now c.args.tuple.now c.in-None.ensures
