-- What a tree measures, by what its parts do.
use Rattle.std.proofs.Common.{◌≡◌, ℕ, ◌≤◌, max, eqb, Bool, true, false, if◌then◌else◌, List, length, Option, sym, ap, ap₂, ◌∙◌}
use Rattle.core_tree.specs.declared.operators.TemporalUnary.{TemporalUnary}
use Rattle.core_tree.specs.declared.operators.TemporalBinary.{TemporalBinary}
use Rattle.core_tree.specs.Trees.{Variables}
use Rattle.core_tree.specs.Past.{Depths, BodyDepths, with_depth}
use Rattle.form_measures.specs.declared.forms.Measure.{Measure}
use Rattle.form_measures.specs.declared.weight.Weight.{Weight}
use Rattle.form_measures.specs.declared.scope.Named.{Named}
use Rattle.form_measures.specs.declared.measure.Summary.{Summary}
use Rattle.form_measures.specs.Measured.{up_to, over_parts, over_row, over_unary, over_binary, over_let, measured_bounds, under}
use Rattle.form_measures.specs.Weights.{weight_at, arguments_at, named, Counts, Agrees, Weighs, AreWeighed, IsUnder}
use Rattle.form_measures.proofs.Counts.{up_to_max}
use Rattle.form_measures.proofs.FormCounts.{parts_of, row_of, unary_of, binary_of, let_of, parts_up, row_up, unary_up, binary_up, let_up}

module _ (m : Measure) (known : List (Option Summary)) (names : List Named) (H : BodyDepths → Depths → ℕ) where
  pub weighs_nothing : (w : Weight) → ((d : Depths) → weight_at d w ≡ 0) → ((all : BodyDepths) (e : Depths) → H all e ≡ 0) → Weighs known names w H
  weighs_nothing w is form all agrees d e counts = is d ∙ sym (ap up_to (form all e))

  pub weighs_name : (w : Weight) (x : ℕ) → ((d : Depths) → weight_at d w ≡ named d names x) → ((all : BodyDepths) (e : Depths) → H all e ≡ e x) → Weighs known names w H
  weighs_name w x is form all agrees d e counts = is d ∙ counts x ∙ ap up_to (sym (form all e))

  pub weighs_same : (w : Weight) (F : BodyDepths → Depths → ℕ) → Weighs known names w F → ((all : BodyDepths) (e : Depths) → H all e ≡ F all e) → Weighs known names w H
  weighs_same w F is form all agrees d e counts = is all agrees d e counts ∙ ap up_to (sym (form all e))

  pub weighs_parts : (x w : Weight) (F : BodyDepths → Depths → ℕ) → Weighs known names x F → ((d : Depths) → weight_at d w ≡ over_parts m (weight_at d x)) → ((all : BodyDepths) (e : Depths) → H all e ≡ parts_of m (F all e)) → Weighs known names w H
  weighs_parts x w F part is form all agrees d e counts = is d ∙ ap (over_parts m) (part all agrees d e counts) ∙ parts_up m (F all e) ∙ ap up_to (sym (form all e))

  pub weighs_two : (x y w : Weight) (F G : BodyDepths → Depths → ℕ) → Weighs known names x F → Weighs known names y G → ((d : Depths) → weight_at d w ≡ over_parts m (max (weight_at d x) (weight_at d y))) → ((all : BodyDepths) (e : Depths) → H all e ≡ parts_of m (max (F all e) (G all e))) → Weighs known names w H
  weighs_two x y w F G first second is form all agrees d e counts =
      is d ∙ ap (over_parts m) (ap₂ max (first all agrees d e counts) (second all agrees d e counts) ∙ sym (up_to_max (F all e) (G all e)))
      ∙ parts_up m (max (F all e) (G all e)) ∙ ap up_to (sym (form all e))

  pub weighs_three : (x y z w : Weight) (F G K : BodyDepths → Depths → ℕ) → Weighs known names x F → Weighs known names y G → Weighs known names z K → ((d : Depths) → weight_at d w ≡ over_parts m (max (max (weight_at d x) (weight_at d y)) (weight_at d z))) → ((all : BodyDepths) (e : Depths) → H all e ≡ parts_of m (max (max (F all e) (G all e)) (K all e))) → Weighs known names w H
  weighs_three x y z w F G K first second third is form all agrees d e counts =
      is d ∙ ap (over_parts m) (ap₂ max (ap₂ max (first all agrees d e counts) (second all agrees d e counts) ∙ sym (up_to_max (F all e) (G all e))) (third all agrees d e counts) ∙ sym (up_to_max (max (F all e) (G all e)) (K all e)))
      ∙ parts_up m (max (max (F all e) (G all e)) (K all e)) ∙ ap up_to (sym (form all e))

  pub weighs_row : (level own : ℕ) (x y w : Weight) (F G : BodyDepths → Depths → ℕ) → Weighs known names x F → Weighs known names y G → ((d : Depths) → weight_at d w ≡ over_row m level own (weight_at d x) (weight_at d y)) → ((all : BodyDepths) (e : Depths) → H all e ≡ row_of m level own (F all e) (G all e)) → Weighs known names w H
  weighs_row level own x y w F G first second is form all agrees d e counts =
      is d ∙ ap₂ (over_row m level own) (first all agrees d e counts) (second all agrees d e counts) ∙ row_up m level own (F all e) (G all e) ∙ ap up_to (sym (form all e))

  pub weighs_unary : (op : TemporalUnary) (x w : Weight) (F : BodyDepths → Depths → ℕ) → Weighs known names x F → ((d : Depths) → weight_at d w ≡ over_unary m op (weight_at d x)) → ((all : BodyDepths) (e : Depths) → H all e ≡ unary_of m op (F all e)) → Weighs known names w H
  weighs_unary op x w F part is form all agrees d e counts = is d ∙ ap (over_unary m op) (part all agrees d e counts) ∙ unary_up m op (F all e) ∙ ap up_to (sym (form all e))

  pub weighs_binary : (op : TemporalBinary) (level own : ℕ) (x y w : Weight) (F G : BodyDepths → Depths → ℕ) → Weighs known names x F → Weighs known names y G → ((d : Depths) → weight_at d w ≡ over_binary m op level own (weight_at d x) (weight_at d y)) → ((all : BodyDepths) (e : Depths) → H all e ≡ binary_of m op level own (F all e) (G all e)) → Weighs known names w H
  weighs_binary op level own x y w F G first second is form all agrees d e counts =
      is d ∙ ap₂ (over_binary m op level own) (first all agrees d e counts) (second all agrees d e counts) ∙ binary_up m op level own (F all e) (G all e) ∙ ap up_to (sym (form all e))

  pub weighs_under : (inner : List Named) (vs : Variables) (x y w : Weight) (G : BodyDepths → Depths → ℕ) → IsUnder m known names x inner vs → Weighs known inner y G → ((d : Depths) → weight_at d w ≡ over_parts m (max (weight_at d x) (weight_at d y))) → ((all : BodyDepths) (e : Depths) → H all e ≡ parts_of m (max (measured_bounds m all vs e) (G all (under vs e)))) → Weighs known names w H
  weighs_under inner vs x y w G first second is form all agrees d e counts =
      is d ∙ ap (over_parts m) (ap₂ max (first.bound all agrees d e counts) (second all agrees d (under vs e) (first.names d e counts)) ∙ sym (up_to_max (measured_bounds m all vs e) (G all (under vs e))))
      ∙ parts_up m (max (measured_bounds m all vs e) (G all (under vs e))) ∙ ap up_to (sym (form all e))

  under_name : (d e : Depths) (x : ℕ) (w : Weight) (n y : ℕ) (b : Bool) → Counts (named d names) e → weight_at d w ≡ up_to n → (if b then weight_at d w else named d names y) ≡ up_to (if b then n else e y)
  under_name d e x w n y true counts is = is
  under_name d e x w n y false counts is = counts y

  pub weighs_let : (inner : List Named) (name : ℕ) (x y w : Weight) (F G : BodyDepths → Depths → ℕ) → Weighs known names x F → ((d : Depths) → named d inner ≡ with_depth (named d names) name (weight_at d x)) → Weighs known inner y G → ((d : Depths) → weight_at d w ≡ over_let m (weight_at d x) (weight_at d y)) → ((all : BodyDepths) (e : Depths) → H all e ≡ let_of m (F all e) (G all (with_depth e name (F all e)))) → Weighs known names w H
  weighs_let inner name x y w F G first scope second is form all agrees d e counts =
      let value : weight_at d x ≡ up_to (F all e) = first all agrees d e counts in
      let inside : Counts (named d inner) (with_depth e name (F all e)) = λ z. ap (λ (k : Depths). k z) (scope d) ∙ under_name d e name x (F all e) z (eqb z name) counts value in
      is d ∙ ap₂ (over_let m) value (second all agrees d (with_depth e name (F all e)) inside) ∙ let_up m (F all e) (G all (with_depth e name (F all e))) ∙ ap up_to (sym (form all e))

  pub weighs_call : (body : ℕ) (weights : List Weight) (x w : Weight) (F : BodyDepths → Depths → Depths) → AreWeighed known names weights F → ((all : BodyDepths) → Agrees all known → (d e : Depths) → Counts (arguments_at d weights) e → ((p : ℕ) → length weights ≤ p → e p ≡ 0) → weight_at d x ≡ up_to (all body e)) → ((d : Depths) → weight_at d w ≡ over_parts m (weight_at d x)) → ((all : BodyDepths) (e : Depths) → H all e ≡ parts_of m (all body (F all e))) → Weighs known names w H
  weighs_call body weights x w F arguments inner is form all agrees d e counts =
      is d ∙ ap (over_parts m) (inner all agrees d (F all e) (arguments.each all agrees d e counts) (λ p far. arguments.none all e p far))
      ∙ parts_up m (all body (F all e)) ∙ ap up_to (sym (form all e))
