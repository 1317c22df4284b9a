-- A test of each clause.
use Rattle.std.proofs.Common.{◌≡◌, ℕ, true, Bool, List, ℤ}
use Rattle.std.specs.List.{list_all}
use Rattle.std.proofs.lemmas.List.Sums.{AllPass-from_list_all, list_all-from_AllPass}
use Rattle.sat_dimacs.specs.Literal.{Satisfies, clause_value}

pub each_true : (v : ℕ → Bool) (clauses : List (List ℤ)) → list_all (clause_value v) clauses ≡ true → Satisfies v clauses
each_true v clauses e = AllPass-from_list_all (clause_value v) clauses e

pub all_true : (v : ℕ → Bool) (clauses : List (List ℤ)) → Satisfies v clauses → list_all (clause_value v) clauses ≡ true
all_true v clauses h = list_all-from_AllPass (clause_value v) clauses h
