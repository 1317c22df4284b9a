-- What a search may come to.
use Rattle.std.specs.Prelude.{◌≡◌, ◌≤◌, ◌<◌, ◌^◌, ℕ, ℤ, List, length, Option, Some}
use Rattle.sat_lrat.specs.Step.{Refutes}
use Rattle.sat_lrat.specs.Spent as spent
use Rattle.sat_lrat.specs.declared.line.Line.{Line}
use Rattle.sat_solver.specs.News.{AreNew}
use Rattle.sat_solver.specs.Turn.{AreWithin}
use Rattle.bound_uppers.specs.Shortest.{HasFewestStates}
use Rattle.answer_search.specs.declared.found.Proof.{Proof}
use Rattle.answer_search.specs.declared.found.Found.{Found}
use Rattle.answer_search.specs.declared.found.Found.TheVariants.{Trace, Refuted, Unknown}

-- The lines are at most as many as the budget, and each lemma is new: it names no variable twice, and has all the literals of no
-- clause and of no earlier lemma.
pub record AreNewWithin (budget : Option ℕ) (clauses : List (List ℤ)) (lines : List Line) : Type 0 where
  pub few : AreWithin budget lines
  pub fresh : AreNew clauses lines

-- lines within the budget that refute clauses over so many states
abbrev pub IsRefuted : ℕ → Option ℕ → Proof → Type 0
IsRefuted states budget proof = (proof.states ≡ states) × Refutes proof.cnf.clauses proof.lines × AreNewWithin budget proof.cnf.clauses proof.lines

-- The lines have just as many lemmas as the budget, each new and none empty, and one more would pass. A budget that is spent is
-- below 3 to the power of the number of variables.
abbrev pub Spends : Option ℕ → Proof → Type 0
Spends budget proof = (budget ≡ Some (length proof.lines)) × spent.Spends proof.cnf.clauses (length proof.lines) proof.lines × (length proof.lines < 3 ^ proof.cnf.variables)

-- lemmas that spend a budget on clauses over so many states
abbrev pub IsSpent : ℕ → Option ℕ → Proof → Type 0
IsSpent states budget proof = (proof.states ≡ states) × Spends budget proof

-- A lasso of so many states; where there is none the lines refute the clauses, and only a budget that is spent leaves it open.
abbrev pub IsFound : ℕ → Option ℕ → Found → Type 0
IsFound states budget (Trace lasso) = length lasso.states ≡ states
IsFound states budget (Refuted proof) = IsRefuted states budget proof
IsFound states budget (Unknown proof) = IsSpent states budget proof

-- The same, where the lasso may have fewer states: the fewest with which its sequence can be shown.
abbrev pub IsFoundWithin : ℕ → Option ℕ → Found → Type 0
IsFoundWithin states budget (Trace lasso) = (length lasso.states ≤ states) × HasFewestStates lasso
IsFoundWithin states budget (Refuted proof) = IsRefuted states budget proof
IsFoundWithin states budget (Unknown proof) = IsSpent states budget proof
