use Rattle.std.proofs.Common.{◌≡◌, ◌&&◌, ℕ, Bool, List, drop}
use Rattle.gate_tseitin.specs.Named.{satisfied, all_defined}
use Rattle.gate_tseitin.specs.Shown.{IsShown}
use Rattle.gate_tseitin.proofs.define.define_all.Given as goal

-- the clauses so far, and what is left to define, say what all will say
abbrev pub invariant-loop-number : goal.invariant-loop-number
invariant-loop-number l = record {
  variables : l.cnf.variables ≡ l.initial.cnf.variables;
  value : (v : ℕ → Bool) (vs : List Bool) → IsShown l.store l.kept l.names.list.items v vs → (satisfied v l.cnf.clauses && all_defined vs v l.kept l.number (drop l.number l.store)) ≡ (satisfied v l.initial.cnf.clauses && all_defined vs v l.kept 0 l.store);
}
