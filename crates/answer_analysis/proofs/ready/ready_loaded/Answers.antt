use Rattle.std.proofs.Common.{◌≡◌, ℕ, Option, Some, arith, refl, subst, sym}
use Rattle.std.specs.Prelude.{All, IfSome}
use Rattle.bound_definitions.specs.Refusals.{AreKept, Breaks, command_rules}
use Rattle.bound_scopes.specs.Numbers.{IsListed}
use Rattle.syntax_tree.specs.declared.loaded.Loaded.{Loaded}
use Rattle.core_tree.specs.Models.{IsModel}
use Rattle.core_tree.specs.declared.model.Command.{Command}
use Rattle.core_tree.specs.declared.model.Model.{Model}
use Rattle.form_skolem.specs.Opened.{IsOpened}
use Rattle.resolve_check.specs.Kept.{IsModelButTypes}
use Rattle.resolve_model.specs.declared.solve.Resolved.{Resolved}
use Rattle.resolve_told.specs.Texts.{IsOfTexts}
use Rattle.answer_analysis.specs.Found.{IsModelIn, OpensResolved}
use Rattle.answer_analysis.proofs.ready.ready_loaded.Goals as goal

of_chosen : (o : Option Command) (command : Command) (P : Command → Type 0) → o ≡ Some command → IfSome o P → P command
of_chosen o command P is held = subst (λ (x : Option Command). IfSome x P) is held

-- the model is the one that the texts declare by what was told, opened
opens_resolved : (loaded : Loaded) (number : ℕ) (resolved told : Resolved) (opened model : Model) → IsModelButTypes resolved.model → told ≡ resolved → IsOfTexts loaded told.model told.readings →
    IsOpened told.model number opened → model ≡ opened → OpensResolved loaded number model told.readings
opens_resolved loaded number resolved told opened model kept same of_texts opens is = record {
  resolved = told.model;
  kept = subst (λ (r : Resolved). IsModelButTypes r.model) (sym same) kept;
  of_texts = of_texts;
  opens = subst (λ (m : Model). IsOpened told.model number m) (sym is) opens;
}

model_in : (loaded : Loaded) (number : ℕ) (resolved told : Resolved) (opened model : Model) → IsModelButTypes resolved.model → told ≡ resolved → IsOfTexts loaded told.model told.readings →
    IsOpened told.model number opened → model ≡ opened → IsModel model → IsModelIn loaded number model
model_in loaded number resolved told opened model kept same of_texts opened_is is is_model = record {
  kept = is_model;
  readings = told.readings;
  opened = opens_resolved loaded number resolved told opened model kept same of_texts opened_is is;
}

pub open_params-requires : goal.open_params-requires
open_params-requires c = subst (λ (r : Resolved). IsModelButTypes r.model) (sym c.in_ok-told.ensures.same) c.in_ok-resolved.ensures.kept

pub scopes_of-requires : goal.scopes_of-requires
scopes_of-requires c = model_in _ _ _ _ _ _ c.in_ok-resolved.ensures.kept c.in_ok-told.ensures.same c.in_ok-told.ensures.told c.in_ok-opened.ensures.opened c.in_ok-model.ensures.same c.in_ok-model.ensures.kept

pub bounds_of-requires-clause-model : goal.bounds_of-requires-clause-model
bounds_of-requires-clause-model c = model_in _ _ _ _ _ _ c.in_ok-resolved.ensures.kept c.in_ok-told.ensures.same c.in_ok-told.ensures.told c.in_ok-opened.ensures.opened c.in_ok-model.ensures.same c.in_ok-model.ensures.kept

pub bounds_of-requires-clause-by : goal.bounds_of-requires-clause-by
bounds_of-requires-clause-by c = of_chosen _ _ _ c.get-chosen.ensures c.in_ok-scopes.ensures.by

pub bounds_of-requires-clause-unbroken : goal.bounds_of-requires-clause-unbroken
bounds_of-requires-clause-unbroken c =
    subst (λ (o : Option Command). IfSome o (λ d. AreKept (Breaks c.in_ok-model.model d c.in_ok-scopes.scopes) command_rules)) c.get-chosen.ensures c.in_ok-scopes.ensures.unbroken

pub places_fields-requires : goal.places_fields-requires
places_fields-requires c = c.in_ok-model.ensures.kept

pub returns-clause-kept : goal.returns-clause-kept
returns-clause-kept c = c.in_ok-model.ensures.kept

pub returns-clause-ready : goal.returns-clause-ready
returns-clause-ready c = record {
  kept = c.in_ok-model.ensures.kept;
  plain = c.in_ok-model.ensures.plain;
  opened = opens_resolved _ _ _ _ _ _ c.in_ok-resolved.ensures.kept c.in_ok-told.ensures.same c.in_ok-told.ensures.told c.in_ok-opened.ensures.opened c.in_ok-model.ensures.same;
  named = c.in_ok-placed.ensures.named c.if-not-placed.false;
  placed = c.in_ok-placed.ensures.placed c.if-not-placed.false;
  command = c.get-chosen.result.now;
  asked = refl;
  chosen = c.get-chosen.ensures;
  counted = c.in_ok-labels.ensures.counted;
  scopes_are = c.in_ok-scopes.ensures.scopes;
  scoped_by = of_chosen _ _ _ c.get-chosen.ensures c.in_ok-scopes.ensures.by;
  listed = subst (λ (o : Option Command). IfSome o (λ d. All (IsListed c.in_ok-scopes.scopes.numbers) d.scope)) c.get-chosen.ensures c.in_ok-scopes.ensures.listed;
  unbroken = subst (λ (o : Option Command). IfSome o (λ d. AreKept (Breaks c.in_ok-model.model d c.in_ok-scopes.scopes) command_rules)) c.get-chosen.ensures c.in_ok-scopes.ensures.unbroken;
  fits = c.in_ok-bounds.ensures.fits;
  table = c.in_ok-bounds.ensures.table;
  bounds_are = record { most = c.in_ok-bounds.ensures.most; origins = c.in_ok-bounds.ensures.origins; uppers = c.in_ok-bounds.ensures.uppers; fixed = c.in_ok-bounds.ensures.fixed };
  states = (let some = c.in_ok-scopes.ensures.scopes.states.0 in c.in_ok-bounds.ensures.states (omega (arith, some)));
  relations_are = c.in_ok-labels.ensures.relations;
  labels_are = c.in_ok-labels.ensures.labels;
  atoms_are = c.in_ok-labels.ensures.atoms;
  read = c.in_ok-labels.ensures.read;
  universe = c.in_ok-labels.ensures.universe;
}
