-- Two readings of a name or of a constant.
use Rattle.std.proofs.Common.{◌≡◌, ◌∙◌, ℕ, false, List, [], ◌∷◌, length, Option, Some, codes, sym, ap, inl, inr}
use Rattle.std.proofs.lemmas.Option.{none-some, same_Some}
use Rattle.base_types.specs.declared.place.Position.{Position}
use Rattle.syntax_tree.specs.declared.operator.Constant.{Constant}
use Rattle.syntax_tree.specs.declared.operator.Constant.TheVariants as constant_word
use Rattle.syntax_tree.specs.declared.expr.QualName.{QualName}
use Rattle.syntax_tree.specs.declared.expr.Expr.{Expr}
use Rattle.syntax_tree.specs.declared.expr.Expr.TheVariants as expr
use Rattle.resolve_types.specs.declared.columns.Columns.{Columns}
use Rattle.resolve_readings.specs.Readings.{Choice}
use Rattle.resolve_readings.specs.declared.meaning.Meaning.{Meaning}
use Rattle.resolve_picks.specs.declared.target.Target.{Target}
use Rattle.resolve_rules.specs.Candidates.{set_of}
use Rattle.resolve_rules.specs.Prepared.{Tree, name, known}
use Rattle.resolve_read.specs.At.{At, Scope, type_of}
use Rattle.resolve_read.specs.Candidates.{constant_type, Picked, PicksField}
use Rattle.resolve_read.specs.Reads.{Reads}
use Rattle.resolve_laws.specs.Occurs.{Agree}
use Rattle.resolve_laws.specs.Readings.{with_picks, names_of}
use Rattle.resolve_laws.proofs.Layers.{layer-Name, layer-At, layer-Constant}
use Rattle.resolve_laws.proofs.Agreeing.{agree-Name, agree-At, agree-Constant}
use Rattle.resolve_laws.proofs.ReadNaming.{picked_alike, field_alike}
use Rattle.resolve_laws.proofs.ReadViews.{reads_as}
use Rattle.resolve_laws.proofs.ReadAlike.{Alike, constant}

module _ (at : At) (picks : Position → Option Target) where
  abbrev other : At
  other = with_picks at picks

  -- on the names of an expression
  abbrev Same : Scope → Expr → Type 0
  Same scope e = Agree at.picks picks (names_of scope) e

  -- ------------------------------------------------------------------ leaves

  one_number : (n k : ℕ) (rest : Choice) → n ∷ [] ≡ rest → rest ≡ k ∷ [] → n ≡ k
  one_number n k rest same is = (let both : n ∷ [] ≡ k ∷ [] = same ∙ is in cc)

  pub name_alike : (scope : Scope) (e : Expr) (q : QualName) → e ≡ expr.Name q → (ms : List Meaning) (n : ℕ) → Picked at scope q ms n → (u : Tree) (choice : Choice) → Reads other scope e u choice → Alike (name ms) u (n ∷ []) choice (Same scope e)
  name_alike scope e q is ms n picked u choice second =
      let v = reads_as other (layer-Name e q is) second in
      let a = picked_alike at picks scope q ms v.0 n v.1 picked v.2 in record {
        tree = ap name a.same ∙ sym v.3;
        size = ap (λ (l : Choice). length l) (sym v.4);
        agree = λ same. agree-Name at.picks picks (names_of scope) e q is (a.agree (one_number n v.1 choice same v.4));
      }

  pub at_alike : (scope : Scope) (e : Expr) (p : Position) (q : QualName) → e ≡ expr.At p q → (ms : List Meaning) (n : ℕ) → PicksField at q ms n → (u : Tree) (choice : Choice) → Reads other scope e u choice → Alike (name ms) u (n ∷ []) choice (Same scope e)
  at_alike scope e p q is ms n picked u choice second =
      let v = reads_as other (layer-At e p q is) second in
      let a = field_alike at picks scope q ms v.0 n v.1 picked v.2 in record {
        tree = ap name a.0 ∙ sym v.3;
        size = ap (λ (l : Choice). length l) (sym v.4);
        agree = λ same. agree-At at.picks picks (names_of scope) e p q is (a.1 (one_number n v.1 choice same v.4));
      }

  pub this_alike : (scope : Scope) (e : Expr) (p : Position) (c : Columns) → e ≡ expr.Constant p constant_word.This → type_of (codes "this") scope ≡ Some c → (u : Tree) (choice : Choice) → Reads other scope e u choice → Alike (name (set_of c false ∷ [])) u (0 ∷ []) choice (Same scope e)
  this_alike scope e p c is typed u choice second =
      let v = reads_as other (layer-Constant e p constant_word.This is) second in
      let d : Columns = v.0 in
      elim v.1 [
        | inl x ↦ record {
          tree = ap (λ (y : Columns). name (set_of y false ∷ [])) (same_Some c d (sym typed ∙ x.1)) ∙ sym x.2;
          size = ap (λ (l : Choice). length l) (sym x.3);
          agree = λ same. agree-Constant at.picks picks (names_of scope) e p constant_word.This is;
        }
        | inr x ↦ absurd (none-some d x.0)
      ]

  pub constant_alike : (scope : Scope) (e : Expr) (p : Position) (w : Constant) (c : Columns) → e ≡ expr.Constant p w → constant_type at w ≡ Some c → (u : Tree) (choice : Choice) → Reads other scope e u choice → Alike (known (set_of c false)) u [] choice (Same scope e)
  constant_alike scope e p w c is typed u choice second =
      let v = reads_as other (layer-Constant e p w is) second in
      let d : Columns = v.0 in
      elim v.1 [
        | inl x ↦ absurd (none-some c (sym (ap (constant_type at) x.0) ∙ typed))
        | inr x ↦ constant c d u choice (same_Some c d (sym typed ∙ x.0)) x.1 (agree-Constant at.picks picks (names_of scope) e p w is)
      ]
