-- What a model keeps by what is tested of it.
use Rattle.std.proofs.Common.{◌≡◌, ◌<◌, ◌≤◌, ℕ, List, map, length, All, Option, Some, IfSome, slice_get, get_or, subst}
use Rattle.std.proofs.lemmas.List.{length-map}
use Rattle.std.proofs.lemmas.Option.{slice_get_within, slice_get-get_or, get_or_from_slice_get}
use Rattle.core_tree.specs.declared.model.Model.{Model}
use Rattle.core_tree.specs.declared.model.Sig.{Sig}
use Rattle.core_tree.specs.declared.model.Field.{Field}
use Rattle.core_tree.specs.declared.model.FieldBound.{FieldBound}
use Rattle.core_tree.specs.Trees.{Claim, term_of}
use Rattle.core_tree.specs.Types.{NameRows, no_rows}
use Rattle.core_tree.specs.Models.{IsModel, IsRightBound, NoFunction, shapes_of, this_column}
use Rattle.core_laws.specs.Typed.{ExtendsPlain, IsOwned, BoundsNameOwned}
use Rattle.resolve_check.specs.Kept.{IsModelButTypes}
use Rattle.resolve_type_check.specs.Typed.{HasDeclaredRows, HasTypes}
use Rattle.answer_checks.specs.Parts.{ExtendsPlainSig}
use Rattle.bound_laws.specs.Placed.{IsTermBelow, Places, ArePlaced}
use Rattle.answer_checks.specs.Fields.{AreOwnedBefore, IsBoundBelow}
use Rattle.answer_checks.proofs.Narrower.{term_below}

pub typed_is_model : (model : Model) → IsModelButTypes model → HasTypes model → IsModel model
typed_is_model model m types = record {
  few = m.few;
  sigs = m.sigs;
  hierarchy = m.hierarchy;
  order = m.order;
  fields = λ k f at. let field = m.fields k f at in record {
    columns = field.columns;
    rows = field.rows;
    parts = field.parts;
    owner = field.owner;
    declared = field.declared;
    bound = field.bound;
    width = field.width;
    typed = subst (HasDeclaredRows model) (get_or_from_slice_get model.fields k f f at) (types k f (slice_get_within model.fields k f at));
  };
  facts = m.facts;
  asserts = m.asserts;
  bodies = m.bodies;
  commands = λ k c lt. let command = m.commands k c lt in (command.body, command.formula);
}

-- a number below the first fields is that of a field of a sig
owned_at : (model : Model) (first : ℕ) → AreOwnedBefore model.fields first → (d : Field) (g : ℕ) → g < first → g < length model.fields → IsOwned model g
owned_at model first owned d g sooner low =
    let is = slice_get-get_or model.fields g d low in
    (get_or model.fields g d, is, owned g (get_or model.fields g d) sooner is)

-- the bounds of fields name fields of sigs alone, where they name only the first ones
pub named_by : (model : Model) (first : ℕ) → IsModel model → AreOwnedBefore model.fields first → All (IsBoundBelow (length model.sigs) first) model.fields → BoundsNameOwned model
named_by model first m owned below k f d at declared =
    let right : IsRightBound model (λ g. m.order g < m.order k) d.bound this_column = subst (λ (o : Option FieldBound). IfSome o (λ b. IsRightBound model (λ g. m.order g < m.order k) b.bound this_column)) declared (m.fields k f at).bound in
    let low : IsTermBelow (length model.sigs) first (term_of d.bound.expr) = subst (λ (o : Option FieldBound). IfSome o (λ b. IsTermBelow (length model.sigs) first (term_of b.bound.expr))) declared (subst (IsBoundBelow (length model.sigs) first) (get_or_from_slice_get model.fields k f f at) (below k f (slice_get_within model.fields k f at))) in
    let there : (g : ℕ) → g < first → g < length (map (λ (x : Field). x.columns) model.fields) → IsOwned model g = λ g sooner less. owned_at model first owned f g sooner (subst (λ (n : ℕ). g < n) (length-map model.fields (λ (x : Field). x.columns)) less) in
    (term_below (shapes_of model) (length model.sigs) first (λ g. m.order g < m.order k) (IsOwned model) NoFunction there (term_of d.bound.expr) this_column low right.0, right.1)

pub placed_by : (model : Model) (command : Claim) (first known : ℕ) (names : NameRows) → first ≤ length model.fields → AreOwnedBefore model.fields first → names ≡ no_rows → known ≡ length model.fields → Places model command names first known → ArePlaced model command
placed_by model command first known names few owned none all placed = record {
  first = first;
  few = few;
  owned = λ g f low at. owned g f low at;
  placed = subst (λ (n : ℕ). Places model command no_rows first n) all (subst (λ (m : NameRows). Places model command m first known) none placed);
}

pub extends_by : (sigs : List Sig) → ((k : ℕ) (d : Sig) → slice_get sigs k ≡ Some d → ExtendsPlainSig sigs d.kind) → ExtendsPlain sigs
extends_by sigs each s p d e ps at extends there subset = each s d at p extends e there ps subset
