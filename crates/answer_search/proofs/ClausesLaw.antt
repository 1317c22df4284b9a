-- What assignments of a target's clauses tell.
use Rattle.std.proofs.Common.{◌≡◌, ℕ, zero, suc, ◌<◌, ℤ, Bool, true, ◌&&◌, List, [], ◌∷◌, map, length, get_or, All, Some, slice_get, refl, sym, ap, ◌∙◌, subst, arith}
use Rattle.std.specs.List.{list_all}
use Rattle.std.proofs.Math.Bool.{or-false}
use Rattle.std.proofs.lemmas.Bool.{and_parts, and_from}
use Rattle.std.proofs.lemmas.List.Elements.{All-cons, All-head, All-tail}
use Rattle.std.proofs.lemmas.List.Folds.{list_all-append, list_all-map}
use Rattle.std.proofs.lemmas.List.Sums.{AllPass-from_list_all, list_all-from_AllPass}
use Rattle.std.proofs.lemmas.Option.{slice_get-get_or, slice_get_within}
use Rattle.core_meaning.specs.declared.target.Target.{Target}
use Rattle.core_meaning.specs.Sequence.{LassoValue}
use Rattle.sat_dimacs.specs.declared.cnf.Cnf.{Cnf}
use Rattle.sat_dimacs.specs.Literal.{literal_value, clause_value, Satisfies}
use Rattle.bound_uppers.specs.declared.table.Bounds.{Bounds}
use Rattle.bound_uppers.specs.Table.{IsTable}
use Rattle.bound_uppers.specs.Candidates.{IsCandidate}
use Rattle.bound_naming.specs.Naming.{IsCanonical}
use Rattle.gate_tseitin.specs.Named.{satisfied}
use Rattle.bmc_leaves.specs.Table.{Decodes}
use Rattle.answer_search.specs.Clauses.{unit, IsTrueIn, HoldsFirst, Meets, SayTarget}

-- an item at a place below the length
there : {X : Type 0} (xs : List X) (k : ℕ) → k < length xs → (x : X) × (slice_get xs k ≡ Some x)
there [] k lt = absurd (omega arith)
there (x ∷ xs) zero lt = (x, refl)
there (x ∷ xs) (suc k) lt = there xs k (omega arith)

-- what all items are, the one at a place is
of_all : {X : Type 0} (P : X → Type 0) (xs : List X) (k : ℕ) (x : X) → All P xs → slice_get xs k ≡ Some x → P x
of_all P [] k x all e = cc
of_all P (y ∷ xs) zero x all e = let is : y ≡ x = cc in subst P is (all zero y (omega arith))
of_all P (y ∷ xs) (suc k) x all e = of_all P xs k x (λ j d lt. all (suc j) d (omega arith)) e

-- the clause of one literal
abbrev unit_value : (ℕ → Bool) → ℤ → Bool
unit_value v literal = clause_value v (unit literal)

abbrev IsUnitTrue : (ℕ → Bool) → ℤ → Type 0
IsUnitTrue v literal = unit_value v literal ≡ true

one_literal : (v : ℕ → Bool) (literal : ℤ) → unit_value v literal ≡ literal_value v literal
one_literal v literal = or-false (literal_value v literal)

module _ (target : Target) (bounds : Bounds) (cnf : Cnf) (say : SayTarget target bounds cnf) where
  abbrev units : List ℤ
  units = say.name ∷ say.numbers ∷ say.each

  halves : (v : ℕ → Bool) → satisfied v cnf.clauses ≡ (satisfied v say.defining && list_all (unit_value v) units)
  halves v =
      ap (satisfied v) say.divided
      ∙ list_all-append (clause_value v) say.defining (map unit units)
      ∙ ap (λ (b : Bool). satisfied v say.defining && b) (list_all-map (clause_value v) unit units)

  -- where all clauses are true, so are the definitions and each unit
  parts : (v : ℕ → Bool) → Satisfies v cnf.clauses → Satisfies v say.defining × All (IsUnitTrue v) units
  parts v s =
      let all : satisfied v cnf.clauses ≡ true = list_all-from_AllPass (clause_value v) cnf.clauses s in
      let (defined, each) = and_parts (satisfied v say.defining) (list_all (unit_value v) units) (sym (halves v) ∙ all) in
      (AllPass-from_list_all (clause_value v) say.defining defined, AllPass-from_list_all (unit_value v) units each)

  pub stands : (v : ℕ → Bool) → IsTable bounds → Satisfies v cnf.clauses → (lasso : LassoValue) × IsCandidate bounds lasso × Decodes bounds say.table v lasso
  stands v is s = say.stands v is (parts v s).0

  -- each lasso for which it stands meets the target, and is canonical, where the bounds have a table
  pub sound : (v : ℕ → Bool) (lasso : LassoValue) → Satisfies v cnf.clauses → Decodes bounds say.table v lasso → Meets target lasso × (IsTable bounds → IsCanonical bounds say.all lasso)
  sound v lasso s decodes =
      let (defined, all) = parts v s in
      let name : IsTrueIn v say.name = sym (one_literal v say.name) ∙ All-head (IsUnitTrue v) say.name (say.numbers ∷ say.each) all in
      let rest = All-tail (IsUnitTrue v) say.name (say.numbers ∷ say.each) all in
      let numbers : IsTrueIn v say.numbers = sym (one_literal v say.numbers) ∙ All-head (IsUnitTrue v) say.numbers say.each rest in
      let each = All-tail (IsUnitTrue v) say.numbers say.each rest in (
        (
          (say.keeps v lasso defined decodes).0 numbers,
          λ k d lt.
              let (literal, at) = there say.each k (omega (arith, say.one_each, lt)) in
              let on : IsTrueIn v literal = sym (one_literal v literal) ∙ of_all (IsUnitTrue v) say.each k literal each at in
              (say.holds v lasso defined decodes k (get_or target.formulas k d) literal (slice_get-get_or target.formulas k d lt) at).0 on,
        ),
        λ is. (say.named v lasso is defined decodes).0 name,
      )

  -- where the definitions and each unit are true, so are all clauses
  whole : (v : ℕ → Bool) → Satisfies v say.defining → IsTrueIn v say.name → IsTrueIn v say.numbers → ((k : ℕ) (literal : ℤ) → slice_get say.each k ≡ Some literal → IsTrueIn v literal) → Satisfies v cnf.clauses
  whole v s name numbers each =
      let rest : All (IsUnitTrue v) say.each = λ k d lt. one_literal v (get_or say.each k d) ∙ each k (get_or say.each k d) (slice_get-get_or say.each k d lt) in
      let both = All-cons (IsUnitTrue v) say.numbers say.each (one_literal v say.numbers ∙ numbers) rest in
      let all : All (IsUnitTrue v) units = All-cons (IsUnitTrue v) say.name (say.numbers ∷ say.each) (one_literal v say.name ∙ name) both in
      let true_in = and_from (satisfied v say.defining) (list_all (unit_value v) units) (list_all-from_AllPass (clause_value v) say.defining s) (list_all-from_AllPass (unit_value v) units all) in
      AllPass-from_list_all (clause_value v) cnf.clauses (halves v ∙ true_in)

  -- a canonical lasso within the bounds which meets the target has an assignment of all clauses
  pub complete : (lasso : LassoValue) → IsTable bounds → IsCandidate bounds lasso → Meets target lasso → IsCanonical bounds say.all lasso → (v : ℕ → Bool) × Satisfies v cnf.clauses
  complete lasso is candidate meets canonical =
      let (v, defined, decodes) = say.some lasso is candidate in
      let each : (k : ℕ) (literal : ℤ) → slice_get say.each k ≡ Some literal → IsTrueIn v literal = λ k literal at.
      let lt : k < length target.formulas = omega (arith, say.one_each, slice_get_within say.each k literal at) in
      let (f, at_f) = there target.formulas k lt in
      (say.holds v lasso defined decodes k f literal at_f at).1 (of_all (HoldsFirst target.scopes lasso) target.formulas k f meets.1 at_f) in
      (v, whole v defined ((say.named v lasso is defined decodes).1 canonical) ((say.keeps v lasso defined decodes).1 meets.0) each)
