-- What stands below the fewest states.
use Rattle.std.proofs.Common.{◌≡◌, ◌⊎◌, inl, inr, ◌<◌, ◌-◌, ℕ, List, length, Option, Some, None, sym, ap, ◌∙◌, subst, arith}
use Rattle.core_meaning.specs.declared.scopes.Scopes.{Scopes}
use Rattle.core_meaning.specs.declared.target.Target.{Target}
use Rattle.core_meaning.specs.Sequence.{LassoValue}
use Rattle.bound_uppers.specs.declared.places.Layout.{Layout}
use Rattle.bound_uppers.specs.declared.table.Bound.{Bound}
use Rattle.bound_uppers.specs.declared.table.Bounds.{Bounds}
use Rattle.bound_uppers.specs.Table.{IsLaidOut, bounds_over}
use Rattle.cli_words.specs.declared.named.Part.{Part}
use Rattle.answer_trace.specs.Text.{trace_text}
use Rattle.answer_laws.specs.Form.{IsLassoOf}
use Rattle.answer_search.specs.Clauses.{IsRuledOut}
use Rattle.answer_search.specs.Found.{IsRefuted}
use Rattle.answer_search.specs.declared.found.Found.{Found}
use Rattle.answer_search.specs.declared.found.Proof.{Proof}
use Rattle.answer_analysis.specs.Found.{IsPrepared, IsTraceOf, NoneWithin, RuledOutMeansNone}
use Rattle.answer_analysis.specs.declared.ready.Prepared.{Prepared}
use Rattle.answer_certificates.specs.Certificate.{HasFewStates, IsAboveText, RowsOver, SayOverStates, ShowsAbove, ShowsBelow, ShowsOne, StandsBelow}
use Rattle.answer_certificates.specs.Least.{IsBelow}

-- what a search shows within the bounds of some relations, it shows within those of the same ones
pub of_found : (P : Bounds → Found → Type 0) (now relations : List Bound) (states : ℕ) (found is : Found) → found ≡ is → now ≡ relations → P (bounds_over now states) found → P (bounds_over relations states) is
of_found P now relations states found is same kept shows = subst (λ (bs : List Bound). P (bounds_over bs states) is) kept (subst (P (bounds_over now states)) same shows)

pub laid_over : (now relations : List Bound) (m n : ℕ) (layout : Layout) → now ≡ relations → m ≡ n → IsLaidOut (bounds_over relations n) layout → IsLaidOut (bounds_over now m) layout
laid_over now relations m n layout kept same laid =
    subst (λ (bs : List Bound). IsLaidOut (bounds_over bs m) layout) (sym kept) (subst (λ (k : ℕ). IsLaidOut (bounds_over relations k) layout) (sym same) laid)

pub ruled_below : (target : Target) (relations : List Bound) (budget : Option ℕ) (states : ℕ) (below : Option Proof) → IsBelow target relations budget states below → 1 < states → IsRuledOut target (bounds_over relations (states - 1))
ruled_below target relations budget states None is more = let one : states ≡ 1 = is in absurd (omega (arith, one, more))
ruled_below target relations budget states (Some proof) (some, next, refuted, ruled, said) more =
    let less : proof.states ≡ states - 1 = omega (arith, next) in
    subst (λ (n : ℕ). IsRuledOut target (bounds_over relations n)) less ruled

pub below_stands : (target : Target) (relations : List Bound) (budget : Option ℕ) (states : ℕ) (below : Option Proof) → IsBelow target relations budget states below → StandsBelow relations below
below_stands target relations budget states None is = tt
below_stands target relations budget states (Some proof) (some, next, refuted, ruled, said) = (refuted.1, said.1)

-- a trace with what stands below it is one of one state, or of several above clauses that are refuted
pub trace_above : (prepared : Prepared) (budget : Option ℕ) (part : Part) (lasso : LassoValue) (below : Option Proof) (text : List ℕ) → RuledOutMeansNone
    → IsTraceOf prepared.ready lasso → IsLassoOf prepared.ready.labels lasso → HasFewStates prepared lasso
    → IsBelow prepared.target prepared.ready.bounds.relations budget (length lasso.states) below
    → ShowsBelow prepared.ready.labels prepared.ready.bounds.relations lasso below part text → ShowsOne prepared part text ⊎ ShowsAbove prepared part budget text
trace_above prepared budget part lasso None text law trace fits few one shown = inl (record { lasso = lasso; trace = trace; fits = fits; one = one; few = few; text_is = shown })
trace_above prepared budget part lasso (Some proof) text law trace fits few (some, next, refuted, ruled, said) shown =
    let less : proof.states ≡ length lasso.states - 1 = omega (arith, next) in
    inr (record {
      lasso = lasso;
      trace = trace;
      fits = fits;
      more = omega (arith, some, next);
      few = few;
      none = λ number made. subst (NoneWithin prepared) less (law number prepared proof.states made some ruled);
      cnf = proof.cnf;
      says = subst (λ (n : ℕ). SayOverStates prepared n proof.cnf) less said.0;
      shows = subst (λ (n : ℕ). IsAboveText (RowsOver prepared n) (trace_text prepared.ready.labels lasso) proof.cnf budget part text) less (shown budget refuted.2);
    })

pub none_over : (prepared : Prepared) (budget : Option ℕ) (proof : Proof) → RuledOutMeansNone → IsRefuted prepared.target.scopes.states budget proof → IsRuledOut prepared.target (bounds_over prepared.ready.bounds.relations prepared.target.scopes.states)
    → (number : ℕ) → IsPrepared number prepared → (proof.states ≡ prepared.ready.scopes.states) × NoneWithin prepared proof.states
none_over prepared budget proof law refuted ruled number made =
    let room = made.ready.scopes_are.states.0 in
    let some : 0 < prepared.target.scopes.states = omega (arith, room, ap (λ (s : Scopes). s.states) made.scoped) in (
      refuted.0 ∙ ap (λ (s : Scopes). s.states) made.scoped,
      subst (NoneWithin prepared) (sym refuted.0) (law number prepared prepared.target.scopes.states made some ruled),
    )
