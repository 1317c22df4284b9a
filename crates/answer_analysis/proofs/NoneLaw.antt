-- What is ruled out of a model that was made ready.
use Rattle.std.proofs.Common.{◌≡◌, ◌∙◌, ℕ, true, List, length, Option, Some, slice_get, refl, sym, ap, subst}
use Rattle.std.specs.Prelude.{IfSome}
use Rattle.std.proofs.lemmas.Bool.{false≢true}
use Rattle.std.proofs.lemmas.List.{length-map}
use Rattle.core_tree.specs.declared.model.Command.{Command}
use Rattle.core_tree.specs.declared.model.Model.{Model}
use Rattle.core_tree.specs.declared.model.Sig.{Sig}
use Rattle.core_tree.specs.declared.model.SigKind.{SigKind}
use Rattle.core_tree.specs.declared.model.SigKind.TheVariants.{Top, Extends, Subset}
use Rattle.core_tree.specs.Trees.{Claim, claim_of}
use Rattle.core_meaning.specs.declared.scopes.SigScope.{SigScope}
use Rattle.core_meaning.specs.declared.scopes.Scopes.{Scopes}
use Rattle.bound_scopes.specs.Limits.{AreScopes}
use Rattle.bound_scopes.specs.Numbers.{KeepsKind, IsSigScope}
use Rattle.core_laws.specs.Typed.{AreScopesOf}
use Rattle.bound_laws.specs.Placed.{ArePlaced}
use Rattle.bound_laws.specs.Satisfying.{AreBoundsOf, IsRight, SatisfyingAreCandidates}
use Rattle.core_meaning.specs.Kept.{world_of}
use Rattle.core_meaning.specs.Meaning.{no_names}
use Rattle.core_meaning.specs.Satisfied.{HoldsAt}
use Rattle.core_meaning.specs.Sequence.{LassoValue}
use Rattle.form_target.specs.Targets.{HoldsWith}
use Rattle.bound_uppers.specs.declared.table.Bounds.{Bounds}
use Rattle.bound_uppers.specs.Table.{IsTable, bounds_over}
use Rattle.answer_search.specs.Clauses.{Meets, IsRuledOut}
use Rattle.answer_analysis.specs.declared.ready.Prepared.{Prepared}
use Rattle.answer_analysis.specs.declared.ready.Ready.{Ready}
use Rattle.answer_analysis.specs.Found.{IsPrepared, IsReady, IsTraceOf, NoneWithin, NoneSatisfies, RuledOutMeansNone}

-- an item at a place of a list is one
pub same_item : {X : Type 0} (xs : List X) (k n : ℕ) (x y : X) → k ≡ n → slice_get xs k ≡ Some x → slice_get xs n ≡ Some y → x ≡ y
same_item xs k n x y same at there = let both : Some x ≡ Some y = sym at ∙ ap (slice_get xs) same ∙ there in cc

module _ (number : ℕ) (prepared : Prepared) (made : IsPrepared number prepared) (lasso : LassoValue) (trace : IsTraceOf prepared.ready lasso) where
  abbrev ready : IsReady number prepared.ready
  ready = made.ready

  -- a trace is one of the command that the target is made of
  same_command : claim_of trace.command.formula ≡ claim_of ready.command.formula
  same_command =
      ap (λ (c : Command). claim_of c.formula) (same_item prepared.ready.model.commands prepared.ready.command number trace.command ready.command ready.asked trace.chosen ready.chosen)

  -- what the scopes give is a world for the model
  of_model : length (world_of prepared.ready.scopes lasso).top ≡ length prepared.ready.model.sigs
  of_model = length-map prepared.ready.scopes.numbers (λ (s : SigScope). s.top) ∙ ready.counted

  -- a lasso that satisfies the model and the command meets the target
  meets : Meets prepared.target lasso
  meets =
      let is = made.target_is in
      let s = trace.satisfies in
      let parts : HoldsWith prepared.ready.model prepared.ready.scopes (claim_of ready.command.formula) is.asked lasso =
      record {
        numbers = s.keeps.numbers;
        declared = λ k d lt i never. never ((is.says (world_of prepared.ready.scopes lasso) i of_model).1 (s.declared i) k d lt);
        facts_hold = s.facts_hold;
        command_holds = subst (λ (f : Claim). HoldsAt prepared.ready.model prepared.ready.scopes lasso f no_names 0) same_command s.command_holds;
      } in
      let target = (is.same lasso).1 parts in
      (target.numbers, target.formulas)

-- what the scopes keep tells which sigs are top-level
top_kind : (k : SigKind) (e : SigScope) → KeepsKind k e → e.top ≡ true → k ≡ Top
top_kind Top e kept top = refl
top_kind (Extends p) e kept top = absurd (false≢true (sym kept.0 ∙ top))
top_kind (Subset ps) e kept top = absurd (false≢true (sym kept ∙ top))

sig_scope : (model : Model) (scopes : Scopes) → AreScopes model scopes → (s : ℕ) (d : Sig) (e : SigScope) → slice_get model.sigs s ≡ Some d → slice_get scopes.numbers s ≡ Some e → KeepsKind d.kind e
sig_scope model scopes are s d e get there = (subst (λ (o : Option SigScope). IfSome o (IsSigScope d)) there (are.sigs s d get)).kind

rightly_of : (model : Model) (scopes : Scopes) → AreScopes model scopes → AreScopesOf model scopes
rightly_of model scopes are = record {
  count = are.numbers;
  top = λ s d e get there is. (subst (λ (k : SigKind). KeepsKind k e) is (sig_scope model scopes are s d e get there)).0;
  only = λ s d e get there top. top_kind d.kind e (sig_scope model scopes are s d e get there) top;
}

pub right_of : (number : ℕ) (ready : Ready) → IsReady number ready → IsRight ready.model ready.scopes
right_of number ready is = record {
  kept = is.kept;
  plain = is.plain;
  named = is.named;
  rightly = rightly_of ready.model ready.scopes is.scopes_are;
}

none_within : (number : ℕ) (prepared : Prepared) → IsPrepared number prepared → (bounds : Bounds) → AreBoundsOf prepared.ready.model prepared.ready.scopes bounds → IsTable bounds → IsRuledOut prepared.target bounds → SatisfyingAreCandidates → NoneWithin prepared bounds.states
none_within number prepared made bounds are table ruled law lasso over few trace =
    let placed : ArePlaced prepared.ready.model (claim_of trace.command.formula) = subst (ArePlaced prepared.ready.model) (sym (same_command number prepared made lasso trace)) made.ready.placed in
    let (r, other, renaming, renamed, candidate, satisfied) = law prepared.ready.model prepared.ready.scopes bounds lasso prepared.ready.model.facts (claim_of trace.command.formula) (right_of number prepared.ready made.ready) placed are over few trace.satisfies in
    let shown : IsTraceOf prepared.ready other = record { command = trace.command; chosen = trace.chosen; satisfies = satisfied } in
    ruled table other candidate (meets number prepared made other shown)

pub none_satisfies : (number : ℕ) (prepared : Prepared) → IsPrepared number prepared → IsRuledOut prepared.target prepared.ready.bounds → SatisfyingAreCandidates → NoneSatisfies prepared
none_satisfies number prepared made ruled law = record {
  candidates = λ lasso candidate trace. ruled made.ready.table lasso candidate (meets number prepared made lasso trace);
  lassos = subst (NoneWithin prepared) made.ready.states (none_within number prepared made prepared.ready.bounds made.ready.bounds_are made.ready.table ruled law);
}

pub ruled_out : SatisfyingAreCandidates → RuledOutMeansNone
ruled_out law number prepared states made some out =
    let are = made.ready.bounds_are in
    let bounds : Bounds = bounds_over prepared.ready.bounds.relations states in
    let same : AreBoundsOf prepared.ready.model prepared.ready.scopes bounds = record { most = are.most; origins = are.origins; uppers = are.uppers; fixed = are.fixed } in
    let table : IsTable bounds = record { some = some; placed = made.ready.table.placed; apart = made.ready.table.apart } in
    none_within number prepared made bounds same table out law
