-- The rules on names and on sigs and fields are among those that a model may break.
use Rattle.std.proofs.Common.{◌≡◌, ◌<◌, Bool, true, false, List, length, refl, sym, ◌∙◌, ap}
use Rattle.base_types.specs.declared.place.Refusal.{Refusal}
use Rattle.base_types.specs.declared.place.Rule.{Rule}
use Rattle.base_types.specs.declared.place.Rule.TheVariants as rule
use Rattle.syntax_tree.specs.declared.instance.Text.{Text}
use Rattle.syntax_tree.specs.declared.instance.Instance.{Instance}
use Rattle.resolve_names.specs.Refused.{IsTwice}
use Rattle.resolve_names.specs.Twice.{IsFirstTwice}
use Rattle.resolve_hierarchy.specs.Refused.{is_of_hierarchy, IsOfHierarchy}
use Rattle.resolve_model.specs.Refused.{is_of_readings, is_of_roots, IsOfReadings}

implied : (r : Rule) → is_of_hierarchy r ≡ true → is_of_readings r ≡ true
implied rule.BadByte e = absurd cc
implied rule.OpenComment e = absurd cc
implied rule.LongNumber e = absurd cc
implied rule.LargeFile e = absurd cc
implied rule.Syntax e = absurd cc
implied rule.TooDeep e = absurd cc
implied rule.NoModule e = absurd cc
implied rule.ModuleCycle e = absurd cc
implied rule.ModuleArguments e = absurd cc
implied rule.AliasTwice e = absurd cc
implied rule.TooManyModules e = absurd cc
implied rule.NameTwice e = refl
implied rule.NoParent e = refl
implied rule.ParentCycle e = refl
implied rule.ExtendsSubset e = refl
implied rule.FieldTwice e = refl
implied rule.UnknownName e = refl
implied rule.Ambiguous e = refl
implied rule.NoReading e = refl
implied rule.TooManyReadings e = refl
implied rule.RecursiveCall e = refl
implied rule.HigherOrder e = refl
implied rule.Literal e = absurd cc
implied rule.ArityLimit e = refl
implied rule.PastDepth e = absurd cc
implied rule.DeepCalls e = absurd cc
implied rule.NoCommand e = absurd cc
implied rule.BadScope e = absurd cc
implied rule.ExactVar e = absurd cc
implied rule.ScopeConflict e = absurd cc
implied rule.Bitwidth e = absurd cc
implied rule.Steps e = absurd cc
implied rule.Atoms e = absurd cc
implied rule.Cells e = absurd cc

read_by_root : (r : Rule) → is_of_roots r ≡ true → is_of_readings r ≡ true
read_by_root rule.BadByte e = absurd cc
read_by_root rule.OpenComment e = absurd cc
read_by_root rule.LongNumber e = absurd cc
read_by_root rule.LargeFile e = absurd cc
read_by_root rule.Syntax e = absurd cc
read_by_root rule.TooDeep e = absurd cc
read_by_root rule.NoModule e = absurd cc
read_by_root rule.ModuleCycle e = absurd cc
read_by_root rule.ModuleArguments e = absurd cc
read_by_root rule.AliasTwice e = absurd cc
read_by_root rule.TooManyModules e = absurd cc
read_by_root rule.NameTwice e = absurd cc
read_by_root rule.NoParent e = absurd cc
read_by_root rule.ParentCycle e = absurd cc
read_by_root rule.ExtendsSubset e = absurd cc
read_by_root rule.FieldTwice e = absurd cc
read_by_root rule.UnknownName e = refl
read_by_root rule.Ambiguous e = refl
read_by_root rule.NoReading e = refl
read_by_root rule.TooManyReadings e = refl
read_by_root rule.RecursiveCall e = refl
read_by_root rule.HigherOrder e = refl
read_by_root rule.Literal e = absurd cc
read_by_root rule.ArityLimit e = refl
read_by_root rule.PastDepth e = absurd cc
read_by_root rule.DeepCalls e = absurd cc
read_by_root rule.NoCommand e = absurd cc
read_by_root rule.BadScope e = absurd cc
read_by_root rule.ExactVar e = absurd cc
read_by_root rule.ScopeConflict e = absurd cc
read_by_root rule.Bitwidth e = absurd cc
read_by_root rule.Steps e = absurd cc
read_by_root rule.Atoms e = absurd cc
read_by_root rule.Cells e = absurd cc

-- false isn't true
apart : (b : Bool) → b ≡ true → b ≡ false → ⊥
apart b t f = let e : true ≡ false = sym t ∙ f in cc

pub of_hierarchy : (texts : List Text) (instances : List Instance) (r : Refusal) → IsOfHierarchy (length texts) r → IsOfReadings texts instances r
of_hierarchy texts instances r h = record {
  number = implied r.rule h.number;
  inside = h.inside;
  first = λ e. absurd (apart (is_of_hierarchy r.rule) h.number (ap is_of_hierarchy e));
}

pub of_names : (texts : List Text) (instances : List Instance) (r : Refusal) → IsTwice (length texts) r → IsFirstTwice texts instances r → IsOfReadings texts instances r
of_names texts instances r h first = record { number = ap is_of_readings h.number; inside = h.inside; first = λ e. first }

pub of_root : (texts : List Text) (instances : List Instance) (r : Refusal) → is_of_roots r.rule ≡ true → r.place.module < length texts → IsOfReadings texts instances r
of_root texts instances r root inside = record {
  number = read_by_root r.rule root;
  inside = inside;
  first = λ e. absurd (apart (is_of_roots r.rule) root (ap is_of_roots e));
}
