use Rattle.std.proofs.Common.{◌-◌, ◌≤◌, length}
use Rattle.core_tree.specs.Trees.{claim_of}
use Rattle.form_skolem.specs.Steps.{IsBack}
use Rattle.form_skolem.proofs.formula.run_formula.Given as goal

abbrev pub invariant-loop-step : goal.invariant-loop-step
invariant-loop-step l = record {
  place : l.count - l.step ≤ l.back.end;
  end : l.back.end ≤ length l.fields;
  leads : IsBack l.body l.parameters l.fields (l.count - l.step) l.back.end (claim_of l.back.formula);
}
