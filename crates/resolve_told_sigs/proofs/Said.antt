-- What is said and read by the picks that are there, and by the type of a sig.
use Rattle.std.proofs.Common.{◌≡◌, ℕ, List, [], ◌∷◌, Option, Some, codes, slice_get, sym, subst}
use Rattle.syntax_tree.specs.declared.expr.Expr.{Expr}
use Rattle.syntax_tree.specs.declared.module.Bound.{Bound}
use Rattle.core_tree.specs.declared.model.Model.{Model}
use Rattle.core_tree.specs.Trees.{Claim, Term}
use Rattle.resolve_picks.specs.declared.picks.Picks.{Picks}
use Rattle.resolve_picks.specs.Picks.{picked_in}
use Rattle.resolve_types.specs.declared.columns.Columns.{Columns}
use Rattle.resolve_names.specs.declared.table.Namespace.{Namespace}
use Rattle.resolve_said.specs.declared.place.OwnField.{OwnField}
use Rattle.resolve_said.specs.Said.{SaysFormula, SaysSet}
use Rattle.resolve_read.specs.declared.types.Ground.TheVariants as grounds
use Rattle.resolve_read.specs.declared.types.Readings.{Readings}
use Rattle.resolve_read.specs.declared.types.Types.{Types}
use Rattle.resolve_readings.specs.declared.meaning.Meaning.{Meaning}
use Rattle.resolve_readings.specs.declared.meaning.What.TheVariants as what
use Rattle.resolve_readings.specs.declared.part.RootPlace.TheVariants as place
use Rattle.resolve_read.specs.Reads.{IsRead, BoundReads, RootReads}
use Rattle.resolve_told_sigs.specs.Says.{SaysAlone, SaysBound, SaysOfThis, SaysValue, no_type, picks_of, read_at, sig_type, standing, this_scope}

module _ (scopes : List Namespace) (model : Model) (readings : Readings) (k : ℕ) (p : Picks) where
  pub said_alone : (tree : Expr) (claim : Claim) (none : Columns) → slice_get readings.of_instances k ≡ Some p → none ≡ no_type →
      SaysFormula (standing scopes model k [] (picked_in p)) [] tree claim →
      IsRead (read_at scopes readings.types k [] none grounds.Anywhere (picked_in p)) [] tree → SaysAlone scopes model readings k tree claim
  said_alone tree claim none at empty said read = record {
    said = subst (λ (o : Option Picks). SaysFormula (standing scopes model k [] (picks_of o)) [] tree claim) (sym at) said;
    read = subst (λ (o : Option Picks). IsRead (read_at scopes readings.types k [] no_type grounds.Anywhere (picks_of o)) [] tree) (sym at)
        (subst (λ (c : Columns). IsRead (read_at scopes readings.types k [] c grounds.Anywhere (picked_in p)) [] tree) empty read);
  }

  module _ (s : ℕ) (own : List OwnField) (this : Columns) (at : slice_get readings.of_sigs s ≡ Some p) (typed : sig_type readings.types s ≡ Some this) where
    pub said_of_this : (tree : Expr) (claim : Claim) →
        SaysFormula (standing scopes model k own (picked_in p)) (codes "this" ∷ []) tree claim →
        IsRead (read_at scopes readings.types k own this grounds.Anywhere (picked_in p)) (this_scope this) tree → SaysOfThis scopes model readings k s own tree claim
    said_of_this tree claim said read = record {
      said = subst (λ (o : Option Picks). SaysFormula (standing scopes model k own (picks_of o)) (codes "this" ∷ []) tree claim) (sym at) said;
      this = this;
      typed = typed;
      read = subst (λ (o : Option Picks). IsRead (read_at scopes readings.types k own this grounds.Anywhere (picks_of o)) (this_scope this) tree) (sym at) read;
    }

    pub bound_said : (b : Bound) (term : Term) (bound : Columns) →
        SaysSet (standing scopes model k own (picked_in p)) (codes "this" ∷ []) b.tree term →
        BoundReads (read_at scopes readings.types k own this grounds.FieldBound (picked_in p)) (this_scope this) b.word b.tree bound →
        SaysBound scopes model readings k s own b term bound
    bound_said b term bound said read = record {
      said = subst (λ (o : Option Picks). SaysSet (standing scopes model k own (picks_of o)) (codes "this" ∷ []) b.tree term) (sym at) said;
      this = this;
      typed = typed;
      read = subst (λ (o : Option Picks). BoundReads (read_at scopes readings.types k own this grounds.FieldBound (picks_of o)) (this_scope this) b.word b.tree bound) (sym at) read;
    }

module _ (scopes : List Namespace) (model : Model) (types : Types) (k : ℕ) (p : Picks) where
  pub value_said : (tree : Expr) (term : Term) (none : Columns) (c : Columns) → none ≡ no_type →
      SaysSet (standing scopes model k [] (picked_in p)) [] tree term →
      (m : Meaning) × RootReads (read_at scopes types k [] none grounds.Anywhere (picked_in p)) [] place.Value tree m × (m.what ≡ what.Set c) → SaysValue scopes model types p k tree term
  value_said tree term none c empty said read = record {
    said = said;
    meaning = read.0;
    read = subst (λ (d : Columns). RootReads (read_at scopes types k [] d grounds.Anywhere (picked_in p)) [] place.Value tree read.0) empty read.1;
  }
