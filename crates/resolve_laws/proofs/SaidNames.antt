-- What a name, a constant or a literal says is one thing, by all ways to take names that agree on it.
use Rattle.std.proofs.Common.{◌≡◌, ℕ, true, false, List, [], Option, Some, None, refl, sym, ap, subst, ◌∙◌, inl, inr, true≢false}
use Rattle.std.specs.Prelude.{Contains}
use Rattle.std.specs.Str.{bytes_eq}
use Rattle.std.proofs.lemmas.Slice.Eq.{bytes_eq-Decides}
use Rattle.std.proofs.lemmas.List.Folds.{list_any_at}
use Rattle.base_types.specs.declared.place.Position.{Position}
use Rattle.syntax_tree.specs.declared.operator.Constant.{Constant}
use Rattle.syntax_tree.specs.declared.operator.Constant.TheVariants as constant
use Rattle.syntax_tree.specs.declared.expr.QualName.{QualName}
use Rattle.syntax_tree.specs.declared.expr.Expr.{Expr}
use Rattle.syntax_tree.specs.declared.expr.Expr.TheVariants as expr
use Rattle.resolve_names.specs.declared.table.Decl.{Decl as Declared}
use Rattle.resolve_names.specs.declared.table.Decl.TheVariants as decl
use Rattle.resolve_picks.specs.declared.target.Target.{Target}
use Rattle.resolve_picks.specs.declared.target.Target.TheVariants as target
use Rattle.core_tree.specs.Trees.{Term, sig, field, name, int, combine}
use Rattle.core_tree.specs.declared.operators.RelationOp.TheVariants as relation
use Rattle.resolve_said.specs.declared.place.OwnField.{OwnField}
use Rattle.resolve_said.specs.Operators.{Said, a_set, IsCall}
use Rattle.resolve_said.specs.Locals.{Scope, number_of}
use Rattle.resolve_said.specs.Said.{Standing, NameSays, is_local, is_own, is_declared, text_alone, has_own, IsShown, Stands, target_of, FieldSays, LiteralSays, constant_of}
use Rattle.resolve_laws.specs.Occurs.{Agree, IsOutside, a_name, a_field}
use Rattle.resolve_told_literals.specs.Told.{LabelsDiffer, quoted}
use Rattle.resolve_laws.specs.Said.{repicked}
use Rattle.resolve_laws.proofs.SaidListed.{no_option, same_option}
use Rattle.resolve_laws.proofs.SaidFunctional.{calls_one}
use Rattle.resolve_laws.proofs.SaidViews.{ConstantSays}

same_field : (f g : ℕ) → target.Field f ≡ target.Field g → f ≡ g
same_field f g h = cc

-- a field of `this` hides what is declared under its name
own_hides : (own : List OwnField) (o : OwnField) (text : List ℕ) → Contains own o → o.name ≡ text → has_own own text ≡ true
own_hides own o text has is = list_any_at (λ (x : OwnField). bytes_eq x.name text) own has.0 o has.1 ((bytes_eq-Decides _ text).1 (ap (λ (x : OwnField). x.name) has.2 ∙ is))

module _ (at : Standing) (picks : Position → Option Target) where
  -- what a thing of the model says
  TargetSays : Target → Said → Type 0
  TargetSays (target.Sig n) s = s ≡ a_set (sig n)
  TargetSays target.Int s = s ≡ a_set int
  TargetSays (target.Field f) s = s ≡ a_set (field f)
  TargetSays (target.Body b) s = IsCall at.bodies b [] s

  stood : (a : Declared) (s : Said) → Stands at a s → TargetSays (target_of at.scopes a) s
  unfolding TargetSays
  stood (decl.Sig r) s h = h
  stood (decl.Parameter None) s h = h
  stood (decl.Parameter (Some r)) s h = h
  stood (decl.Field f) s h = h
  stood (decl.Body b) s h = h

  stood_repicked : (a : Declared) (s : Said) → Stands (repicked at picks) a s → TargetSays (target_of at.scopes a) s
  unfolding TargetSays
  stood_repicked (decl.Sig r) s h = h
  stood_repicked (decl.Parameter None) s h = h
  stood_repicked (decl.Parameter (Some r)) s h = h
  stood_repicked (decl.Field f) s h = h
  stood_repicked (decl.Body b) s h = h

  target_one : (t : Target) (r s : Said) → TargetSays t r → TargetSays t s → r ≡ s
  unfolding TargetSays
  target_one (target.Sig n) r s p q = p ∙ sym q
  target_one target.Int r s p q = p ∙ sym q
  target_one (target.Field f) r s p q = p ∙ sym q
  target_one (target.Body b) r s p q = calls_one p q

  shown_outside : (scope : Scope) (o : Option (List ℕ)) → IsShown at scope o → IsOutside scope o
  shown_outside scope None h = tt
  shown_outside scope (Some text) h = h.0

  text_outside : (scope : Scope) (o : Option (List ℕ)) (text : List ℕ) → o ≡ Some text → number_of text scope ≡ None → IsOutside scope o
  text_outside scope o text is none = subst (λ (z : Option (List ℕ)). IsOutside scope z) (sym is) none

  shown_text : (scope : Scope) (o : Option (List ℕ)) (text : List ℕ) → o ≡ Some text → IsShown at scope o → (number_of text scope ≡ None) × (has_own at.own text ≡ false)
  shown_text scope o text is h = subst (λ (z : Option (List ℕ)). IsShown at scope z) is h

  -- the same as two ways to take names say it
  local_or_not : (scope : Scope) (o : Option (List ℕ)) (t u : List ℕ) (n : ℕ) → o ≡ Some t → o ≡ Some u → number_of t scope ≡ Some n → number_of u scope ≡ None → ⊥
  local_or_not scope o t u n p q is none = no_option n (sym none ∙ (ap (λ (x : List ℕ). number_of x scope) (same_option u t (sym q ∙ p)) ∙ is))

  own_or_shown : (scope : Scope) (o : Option (List ℕ)) (text : List ℕ) (f : OwnField) → o ≡ Some text → Contains at.own f → f.name ≡ text → IsShown at scope o → ⊥
  own_or_shown scope o text f is has named h = true≢false (sym (own_hides at.own f text has named) ∙ (shown_text scope o text is h).1)

  names_one : {scope : Scope} {q : QualName} {r s : Said} → (IsOutside scope (text_alone q) → at.picks q.place ≡ picks q.place) → NameSays at scope q r → NameSays (repicked at picks) scope q s → r ≡ s
  names_one {scope} {q} same (is_local {text = t} {n = n} p h) (is_local {text = u} {n = m} k i) =
      ap (λ (x : ℕ). a_set (name x)) (same_option n m (sym h ∙ (ap (λ (x : List ℕ). number_of x scope) (same_option t u (sym p ∙ k)) ∙ i)))
  names_one {scope} {q} same (is_local {text = t} {n = n} p h) (is_own {text = u} f k none has named picked) = absurd (local_or_not scope (text_alone q) t u n p k h none)
  names_one {scope} {q} same (is_local {text = t} {n = n} p h) (is_declared d s visible sees stands picked) = absurd (no_option n (sym (shown_text scope (text_alone q) t p visible).0 ∙ h))
  names_one {scope} {q} same (is_own {text = u} f k none has named picked) (is_local {text = t} {n = n} p h) = absurd (local_or_not scope (text_alone q) t u n p k h none)
  names_one {scope} {q} same (is_own {text = t} f p none has named picked) (is_own {text = u} g k also there called chosen) =
      ap (λ (x : ℕ). a_set (combine relation.Join (name 0) (field x))) (same_field f.field g.field (same_option (target.Field f.field) (target.Field g.field) (sym picked ∙ (same (text_outside scope (text_alone q) t p none) ∙ chosen))))
  names_one {scope} {q} same (is_own {text = t} f p none has named picked) (is_declared d s visible sees stands chosen) = absurd (own_or_shown scope (text_alone q) t f p has named visible)
  names_one {scope} {q} same (is_declared d s visible sees stands picked) (is_local {text = t} {n = n} p h) = absurd (no_option n (sym (shown_text scope (text_alone q) t p visible).0 ∙ h))
  names_one {scope} {q} same (is_declared d s visible sees stands picked) (is_own {text = t} f p none has named chosen) = absurd (own_or_shown scope (text_alone q) t f p has named visible)
  names_one {scope} {q} same (is_declared d r visible sees stands picked) (is_declared c s shown seen stood_too chosen) =
      let one = same_option (target_of at.scopes d.1.what) (target_of at.scopes c.1.what) (sym picked ∙ (same (shown_outside scope (text_alone q) visible) ∙ chosen)) in
      target_one (target_of at.scopes c.1.what) r s (subst (λ (z : Target). TargetSays z r) one (stood d.1.what r stands)) (stood_repicked c.1.what s stood_too)

  pub name_one : (scope : Scope) (e : Expr) (q : QualName) (r s : Said) → e ≡ expr.Name q → Agree at.picks picks scope e → NameSays at scope q r → NameSays (repicked at picks) scope q s → r ≡ s
  name_one scope e q r s is agree one other = names_one (λ out. agree (record { scope = scope; name = q; is_field = false }) (a_name is) (inr out)) one other

  pub field_one : (scope : Scope) (e : Expr) (p : Position) (q : QualName) (f g : ℕ) → e ≡ expr.At p q → Agree at.picks picks scope e → FieldSays at q f → FieldSays (repicked at picks) q g → f ≡ g
  field_one scope e p q f g is agree one other =
      same_field f g (same_option (target.Field f) (target.Field g) (sym one.3 ∙ (agree (record { scope = scope; name = q; is_field = true }) (a_field is) (inl refl) ∙ other.3)))

  pub literal_one : (text : List ℕ) (m n : ℕ) → LabelsDiffer at.sigs → LiteralSays at text m → LiteralSays (repicked at picks) text n → m ≡ n
  literal_one text m n differ one other = differ m n (quoted text) one other

  no_this : (w : Constant) (t : Term) → w ≡ constant.This → constant_of at.scopes w ≡ Some t → ⊥
  no_this w t is h = no_option t (ap (λ (x : Constant). constant_of at.scopes x) (sym is) ∙ h)

  pub constant_one : (scope : Scope) (w : Constant) (r s : Said) → ConstantSays at scope w r → ConstantSays (repicked at picks) scope w s → r ≡ s
  constant_one scope w r s (inl one) (inl other) = one.3 ∙ (ap (λ (x : ℕ). a_set (name x)) (same_option one.0 other.0 (sym one.2 ∙ other.2)) ∙ sym other.3)
  constant_one scope w r s (inl one) (inr other) = absurd (no_this w other.0 one.1 other.1)
  constant_one scope w r s (inr one) (inl other) = absurd (no_this w one.0 other.1 one.1)
  constant_one scope w r s (inr one) (inr other) = one.2 ∙ (ap (λ (x : Term). a_set x) (same_option one.0 other.0 (sym one.1 ∙ other.1)) ∙ sym other.2)
