-- Of the candidates that satisfy a target one is canonical: where a pair asks for an exchange, it is made, and the table's
-- variables, read as the digits of one number of which the first is the highest, give a greater one.
use Rattle.std.proofs.Common.{◌↔◌, inl, inr, ℕ, zero, suc, ◌+◌, ◌<◌, ◌≤◌, Bool, List, map, All, Contains, subst, arith}
use Rattle.core_meaning.specs.declared.target.Target.{Target}
use Rattle.core_meaning.specs.declared.scopes.Scopes.{Scopes}
use Rattle.core_meaning.specs.Sequence.{LassoValue}
use Rattle.core_meaning.specs.Kept.{atom_count}
use Rattle.core_meaning.specs.Satisfied.{SatisfiesTarget}
use Rattle.core_renaming.specs.Renamings.{KeepsIntegers}
use Rattle.core_renaming.specs.Composed.{exchanged, exchanged_other, exchange}
use Rattle.core_renaming.specs.Targets.{TargetsKeepTruth}
use Rattle.bound_uppers.specs.declared.table.Bounds.{Bounds}
use Rattle.bound_uppers.specs.Table.{IsTable, RowsInOrder, earlier}
use Rattle.bound_uppers.specs.Candidates.{IsCandidate, InState, HasSets}
use Rattle.bound_naming.specs.declared.pairs.Pair.{Pair}
use Rattle.bound_naming.specs.Naming.{ArePairs, AreInterchangeable, AreSomePairs, DoesHold, IsCanonical}
use Rattle.bound_laws.specs.Canonical.{CandidatesHaveCanonical}
use Rattle.bound_laws.proofs.Decided.{told, told_true, told_false, told_same}
use Rattle.bound_laws.proofs.Digits.{number, numbers, number_low, number_rises}
use Rattle.bound_laws.proofs.Favouring.{Asks, SomeAsks, all_or_asks}
use Rattle.bound_laws.proofs.Holding.{does_hold}
use Rattle.bound_laws.proofs.Exchanging.{stays, rises, within}
use Rattle.bound_laws.proofs.Exchanged.{exchanged_lasso, exchanged_candidate, exchanged_moved, exchanged_shows}

among_all : {X : Type 0} (P : X → Type 0) (xs : List X) (x : X) → All P xs → Contains xs x → P x
among_all P xs x all (k, lt, e) = subst P e (all k x lt)

keeps_integers : (scopes : Scopes) (a : ℕ) → a + 1 < atom_count scopes.numbers → KeepsIntegers scopes (exchange a (a + 1))
keeps_integers scopes a low c high = exchanged_other a (a + 1) c (λ same. omega (arith, low, high, same)) (λ same. omega (arith, low, high, same))

module _ (rows : RowsInOrder) (kept : TargetsKeepTruth) (target : Target) (bounds : Bounds) (table : IsTable bounds) (sets : HasSets bounds) where
  -- the values of the table's variables
  abbrev values : LassoValue → ℕ → Bool
  values lasso v = told (DoesHold bounds lasso v) (does_hold bounds lasso v)

  -- as one number
  abbrev height : LassoValue → ℕ
  height lasso = number (values lasso) (earlier bounds.relations bounds.states)

  record IsHigher (lasso other : LassoValue) : Type 0 where
    candidate : IsCandidate bounds other
    satisfies : SatisfiesTarget target other
    higher : height lasso < height other

  module _ (lasso : LassoValue) (candidate : IsCandidate bounds lasso) (satisfies : SatisfiesTarget target lasso) where
    exchange_rises : (a most : ℕ) (pairs : List Pair) → AreInterchangeable bounds (atom_count target.scopes.numbers) a → ArePairs bounds most a (a + 1) pairs → Asks (DoesHold bounds lasso) pairs → IsHigher lasso (exchanged_lasso a (a + 1) bounds lasso)
    exchange_rises a most pairs alike are asks = record {
      candidate = again;
      satisfies = (kept target (exchange a (a + 1)) lasso other (keeps_integers target.scopes a alike.within) (exchanged_shows a (a + 1) bounds lasso candidate alike.closed target.scopes)).0 satisfies;
      higher = number_rises (values lasso) (values other) (earlier bounds.relations bounds.states) asks.pair.earlier low high
          (λ u less. let both = stays bounds (rows bounds) table a (a + 1) lasso other candidate again moved most pairs are asks u less in told_same (DoesHold bounds lasso u) (DoesHold bounds other u) (does_hold bounds lasso u) (does_hold bounds other u) both.0 both.1)
          (told_false (DoesHold bounds lasso asks.pair.earlier) (does_hold bounds lasso asks.pair.earlier) asks.earlier)
          (told_true (DoesHold bounds other asks.pair.earlier) (does_hold bounds other asks.pair.earlier) (rises bounds (rows bounds) table a (a + 1) lasso other candidate again moved most pairs are asks));
    }
      where
        other : LassoValue
        other = exchanged_lasso a (a + 1) bounds lasso

        again : IsCandidate bounds other
        again = exchanged_candidate a (a + 1) bounds lasso candidate sets

        moved : (s r : ℕ) (t : List ℕ) → s < bounds.states → InState lasso s r t ↔ InState other s r (map (exchanged a (a + 1)) t)
        moved s r t lt = exchanged_moved a (a + 1) bounds lasso candidate alike.closed s r t

        low : 1 ≤ asks.pair.earlier
        low = (within bounds (rows bounds) table a (a + 1) lasso other candidate again moved most pairs are asks).0

        high : asks.pair.earlier ≤ earlier bounds.relations bounds.states
        high = (within bounds (rows bounds) table a (a + 1) lasso other candidate again moved most pairs are asks).1

    some_higher : (most : ℕ) (all : List (List Pair)) → All (AreSomePairs bounds (atom_count target.scopes.numbers) most) all → SomeAsks (DoesHold bounds lasso) all → (other : LassoValue) × IsHigher lasso other
    some_higher most all are (pairs, among, asks) =
        let (a, alike, those) = among_all (AreSomePairs bounds (atom_count target.scopes.numbers) most) all pairs are among in
        (exchanged_lasso a (a + 1) bounds lasso, exchange_rises a most pairs alike those asks)

  abbrev HasCanonical : List (List Pair) → Type 0
  HasCanonical all = (other : LassoValue) × IsCandidate bounds other × IsCanonical bounds all other × SatisfiesTarget target other

  climb : (most : ℕ) (all : List (List Pair)) → All (AreSomePairs bounds (atom_count target.scopes.numbers) most) all → (rest : ℕ) (lasso : LassoValue) → IsCandidate bounds lasso → SatisfiesTarget target lasso → numbers (earlier bounds.relations bounds.states) ≤ height lasso + rest → HasCanonical all
  climb most all are zero lasso candidate satisfies high =
      let low = number_low (values lasso) (earlier bounds.relations bounds.states) in
      absurd (omega (arith, low, high))
  climb most all are (suc rest) lasso candidate satisfies high = elim (all_or_asks (DoesHold bounds lasso) (does_hold bounds lasso) all) [
    | inl favours ↦ (lasso, candidate, favours, satisfies)
    | inr asks ↦
        let (other, is) = some_higher lasso candidate satisfies most all are asks in
        let up = is.higher in
        climb most all are rest other is.candidate is.satisfies (omega (arith, high, up))
  ]

pub candidates_of_canonical : RowsInOrder → TargetsKeepTruth → CandidatesHaveCanonical
candidates_of_canonical rows kept target bounds most all lasso table sets are candidate satisfies =
    climb rows kept target bounds table sets most all are (numbers (earlier bounds.relations bounds.states)) lasso candidate satisfies (omega arith)
