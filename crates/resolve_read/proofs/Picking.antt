-- What a name is taken to stand for is one of its candidates.
use Rattle.std.proofs.Common.{◌≡◌, ℕ, false, List, [], ◌∷◌, Some, None, subst}
use Rattle.syntax_tree.specs.declared.expr.QualName.{QualName}
use Rattle.resolve_types.specs.declared.columns.Columns.{Columns}
use Rattle.resolve_readings.specs.declared.meaning.Meaning.{Meaning}
use Rattle.resolve_names.specs.declared.table.Decl.{Decl}
use Rattle.resolve_names.specs.Visible.{AreCandidates}
use Rattle.resolve_rules.specs.Candidates.{set_of}
use Rattle.resolve_said.specs.Said.{text_alone}
use Rattle.resolve_read.specs.At.{At, Scope, type_of}
use Rattle.resolve_read.specs.Candidates.{Chooses, ChoosesOwn, IsShown, Picked, declared, in_scope, of_this, own_named, standing}

module _ (at : At) (scope : Scope) (q : QualName) (ms : List Meaning) (n : ℕ) where
  pub declared_case : (found ds : List Decl) → AreCandidates at.scopes at.instance q found → ds ≡ standing at q found → Chooses at q ds ms n → IsShown at scope (text_alone q) → Picked at scope q ms n
  declared_case found ds seen same chooses shown =
      declared shown seen (subst (λ (l : List Decl). Chooses at q l ms n) same chooses)

  pub own_case : (text : List ℕ) (fs : List ℕ) → fs ≡ own_named at.own text → ChoosesOwn at q fs ms n → text_alone q ≡ Some text → type_of text scope ≡ None → Picked at scope q ms n
  own_case text fs same chooses alone none =
      of_this alone none (subst (λ (l : List ℕ). ChoosesOwn at q l ms n) same chooses)

  pub local_case : (text : List ℕ) (c : Columns) → ms ≡ set_of c false ∷ [] → n ≡ 0 → text_alone q ≡ Some text → type_of text scope ≡ Some c → Picked at scope q ms n
  local_case text c one first alone found = rw one (rw first (in_scope alone found))
