-- The tests of the parts of a model say together what it keeps.
use Rattle.std.proofs.Common.{◌≡◌, ℕ, ◌+◌, ◌^◌, ◌<◌, Bool, true, ◌&&◌, IsTrue, List, length, Some, IfSome, slice_get, slice_index, All, refl, sym, ◌∙◌, subst, arith}
use Rattle.core_tree.specs.declared.model.Model.{Model}
use Rattle.core_tree.specs.declared.model.Sig.{Sig}
use Rattle.core_tree.specs.declared.model.Field.{Field}
use Rattle.core_tree.specs.declared.model.Fact.{Fact}
use Rattle.core_tree.specs.declared.model.Assert.{Assert}
use Rattle.core_tree.specs.declared.model.Body.{Body}
use Rattle.core_tree.specs.declared.model.Command.{Command}
use Rattle.std.proofs.lemmas.Option.{IfSome_then}
use Rattle.core_tree.specs.declared.model.Column.{Column}
use Rattle.core_tree.specs.Trees.{term_of, claim_of}
use Rattle.core_tree.specs.Columns.{no_columns, columns_in, IsFew}
use Rattle.core_tree.specs.Models.{IsAncestor, IsParent, IsRightBound, shapes_of, this_column, IsRightSig, IsRightBody, IsRightFormula, HasAtomParameters}
use Rattle.resolve_check.specs.declared.shape.Shape.{Shape}
use Rattle.resolve_check.specs.Fits.{order_of}
use Rattle.resolve_check.specs.Kept.{IsFieldButType, IsCommand, IsModelButTypes, HasOwner, HasBound, HasDeclarations, HasFormulas, AreFalling}
use Rattle.resolve_check.proofs.Parts.{both_from}
use Rattle.resolve_check.proofs.Falling.{ancestor_falls}

none_above_itself : (sigs : List Sig) (numbers : List ℕ) → AreFalling sigs numbers → (s : ℕ) → IsAncestor sigs s s → ⊥
none_above_itself sigs numbers falls s up = let lower : slice_index numbers s < slice_index numbers s = ancestor_falls sigs numbers falls s s up in omega (arith, lower)

module _ (model : Model) where
  pub command_end : (c : Command) (bodies : ℕ) (there atoms right all : Bool) → bodies ≡ length model.bodies → (IsTrue there → IfSome c.body (λ b. b < bodies)) → (HasAtomParameters model c → IsTrue atoms) → (IsTrue right → IsTrue atoms → IsRightFormula model (claim_of c.formula) no_columns) → all ≡ (there && right) → IsTrue all → IsCommand model c
  command_end c bodies there atoms right all same is_there has is_right e t =
      let b = both_from there right (sym e ∙ t) in
      record {
        body = subst (λ n. IfSome c.body (λ k. k < n)) same (is_there b.first);
        formula = λ h. is_right b.second (has h);
      }

  pub field_end : (order : ℕ → ℕ) (k : ℕ) (f : Field) (sigs : ℕ) (list : List (List Column)) (few rows owner bound x y all : Bool) → sigs ≡ length model.sigs → list ≡ f.rows → (IsTrue few → IsFew f.columns) → (IsTrue rows → All (λ r. length r ≡ f.columns) list) → (IsTrue rows → All (λ r. All (IsParent sigs) r) list) → (IsTrue owner → HasOwner sigs f) → (IsTrue bound → IfSome f.declared (HasBound model order k f.columns)) → x ≡ (few && rows) → y ≡ (owner && bound) → all ≡ (x && y) → IsTrue all → IsFieldButType model order k f
  field_end order k f sigs list few rows owner bound x y all same is are_few wide parts owned bounded ex ey e t =
      let a = both_from x y (sym e ∙ t) in
      let b = both_from few rows (sym ex ∙ a.first) in
      let c = both_from owner bound (sym ey ∙ a.second) in
      let o = subst (λ n. HasOwner n f) same (owned c.first) in
      let d = bounded c.second in
      record {
        columns = are_few b.first;
        rows = subst (λ (l : List (List Column)). All (λ r. length r ≡ f.columns) l) is (wide b.second);
        parts = subst (λ n. All (λ r. All (IsParent n) r) f.rows) same (subst (λ (l : List (List Column)). All (λ r. All (IsParent sigs) r) l) is (parts b.second));
        owner = o.owner;
        declared = o.declared;
        bound = IfSome_then f.declared {P = HasBound model order k f.columns} {Q = λ g. IsRightBound model (λ h. order h < order k) g.bound this_column} d (λ g h. h.bound);
        width = IfSome_then f.declared {P = HasBound model order k f.columns} {Q = λ g. columns_in (shapes_of model) (term_of g.bound.expr) this_column + 1 ≡ f.columns} d (λ g h. h.width);
      }

  module _ (shape : Shape) where
    pub declarations_end : (sigs : List Sig) (numbers : List ℕ) (falling right fields inner all : Bool) → sigs ≡ model.sigs → (IsTrue falling → AreFalling sigs numbers) → (IsTrue right → All (IsRightSig model) sigs) → (IsTrue fields → (k : ℕ) (f : Field) → slice_get model.fields k ≡ Some f → IsFieldButType model (order_of shape) k f) → inner ≡ (right && fields) → all ≡ (falling && inner) → IsTrue all → HasDeclarations model shape
    declarations_end sigs numbers falling right fields inner all same falls are_right each ei ea t =
        let a = both_from falling inner (sym ea ∙ t) in
        let b = both_from right fields (sym ei ∙ a.second) in
        record {
          sigs = subst (λ (l : List Sig). All (IsRightSig model) l) same (are_right b.first);
          hierarchy = subst (λ (l : List Sig). (s : ℕ) → IsAncestor l s s → ⊥) same (none_above_itself sigs numbers (falls a.first));
          fields = each b.second;
        }

  pub formulas_end : (facts : List Fact) (asserts : List Assert) (bodies : List Body) (commands : List Command) (f a b c x y all : Bool) → facts ≡ model.facts → asserts ≡ model.asserts → bodies ≡ model.bodies → commands ≡ model.commands → (IsTrue f → All (λ (g : Fact). IsRightFormula model (claim_of g.formula) no_columns) facts) → (IsTrue a → All (λ (g : Assert). IsRightFormula model (claim_of g.formula) no_columns) asserts) → (IsTrue b → All (IsRightBody model) bodies) → (IsTrue c → All (IsCommand model) commands) → x ≡ (f && a) → y ≡ (b && c) → all ≡ (x && y) → IsTrue all → HasFormulas model
  formulas_end facts asserts bodies commands f a b c x y all sf sa sb sc hf ha hb hc ex ey e t =
      let both = both_from x y (sym e ∙ t) in
      let first = both_from f a (sym ex ∙ both.first) in
      let second = both_from b c (sym ey ∙ both.second) in
      record {
        facts = subst (λ (l : List Fact). All (λ (g : Fact). IsRightFormula model (claim_of g.formula) no_columns) l) sf (hf first.first);
        asserts = subst (λ (l : List Assert). All (λ (g : Assert). IsRightFormula model (claim_of g.formula) no_columns) l) sa (ha first.second);
        bodies = subst (λ (l : List Body). All (IsRightBody model) l) sb (hb second.first);
        commands = subst (λ (l : List Command). All (IsCommand model) l) sc (hc second.second);
      }

  pub model_end : (shape : Shape) (count : ℕ) (few declarations formulas inner all : Bool) → count ≡ length model.bodies → (IsTrue few → count < 2 ^ 32) → (IsTrue declarations → HasDeclarations model shape) → (IsTrue formulas → HasFormulas model) → inner ≡ (declarations && formulas) → all ≡ (few && inner) → all ≡ true → IsModelButTypes model
  model_end shape count few declarations formulas inner all same are_few has holds ei ea t =
      let a = both_from few inner (sym ea ∙ t) in
      let b = both_from declarations formulas (sym ei ∙ a.second) in
      let d = has b.first in
      let f = holds b.second in
      record {
        few = subst (λ n. n < 2 ^ 32) same (are_few a.first);
        sigs = d.sigs;
        hierarchy = d.hierarchy;
        order = order_of shape;
        fields = d.fields;
        facts = f.facts;
        asserts = f.asserts;
        bodies = f.bodies;
        commands = f.commands;
      }
