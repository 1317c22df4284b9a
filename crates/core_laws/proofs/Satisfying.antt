-- Lassos that show the same sequence keep the same scopes, and the same declarations, facts and commands hold in them.
use Rattle.std.specs.Prelude.{ℕ, ◌+◌, List, [], ◌∷◌, length, Option, Some, None, IfSome}
use Rattle.std.proofs.Common.{get_or, sym}
use Rattle.core_tree.specs.declared.model.Model.{Model}
use Rattle.core_tree.specs.declared.model.Sig.{Sig}
use Rattle.core_tree.specs.declared.model.SigKind.{SigKind}
use Rattle.core_tree.specs.declared.model.SigKind.TheVariants.{Top, Extends, Subset}
use Rattle.core_tree.specs.declared.model.Column.{Column}
use Rattle.core_tree.specs.declared.model.Column.TheVariants.{Sig as SigColumn, Int as IntColumn}
use Rattle.core_tree.specs.declared.model.Fact.{Fact}
use Rattle.core_tree.specs.declared.model.Field.{Field}
use Rattle.core_tree.specs.declared.model.FieldBound.{FieldBound}
use Rattle.core_tree.specs.Trees.{Claim, term_of, claim_of}
use Rattle.core_meaning.specs.declared.scopes.Scopes.{Scopes}
use Rattle.core_meaning.specs.Sequence.{LassoValue}
use Rattle.core_meaning.specs.World.{World, InRelation}
use Rattle.core_meaning.specs.Operators.{IsListOf}
use Rattle.core_meaning.specs.Meaning.{Names, Bodies, no_names, atom}
use Rattle.core_meaning.specs.Declarations.{this_is, InColumn, IsPlaced, InValue, SigDeclared, FieldDeclared}
use Rattle.core_meaning.specs.Called.{bodies_of}
use Rattle.core_meaning.specs.Kept.{world_of, IsEverIn, Keeps}
use Rattle.core_meaning.specs.Satisfied.{HoldsAt, DeclaresAt, SatisfiesWith}
use Rattle.core_window.proofs.SameLemmas.{multiplicity_same}
use Rattle.core_laws.specs.Sequences.{ShowSame, SameSatisfied}
use Rattle.core_laws.proofs.Meanings.{relation_same, SameNames, term_same, holds_same, fits_same, model_same, nothing_same, more_same}
use Rattle.core_window.specs.Repeats.{SameTuples}

some_to : {X : Type 0} {P Q : X → Type 0} (o : Option X) → ((x : X) → P x → Q x) → IfSome o P → IfSome o Q
some_to None f h = tt
some_to (Some x) f h = f x h

module _ (model : Model) (scopes : Scopes) (one two : LassoValue) (same : ShowSame one two) where
  abbrev w : World
  w = world_of scopes one

  abbrev v : World
  v = world_of scopes two

  abbrev first : Bodies
  first = bodies_of w model.bodies

  abbrev second : Bodies
  second = bodies_of v model.bodies

  to : (s i : ℕ) (t : List ℕ) → InRelation w s i t → InRelation v s i t
  to s i t = (relation_same scopes one two same s i t).0

  from : (s i : ℕ) (t : List ℕ) → InRelation v s i t → InRelation w s i t
  from s i t = (relation_same scopes one two same s i t).1

  ever_to : (s a : ℕ) → IsEverIn w s a → IsEverIn v s a
  ever_to s a (i, has) = (i, to s i (a ∷ []) has)

  ever_from : (s a : ℕ) → IsEverIn v s a → IsEverIn w s a
  ever_from s a (i, has) = (i, from s i (a ∷ []) has)

  list_to : (s : ℕ) (atoms : List ℕ) → IsListOf (IsEverIn w s) atoms → IsListOf (IsEverIn v s) atoms
  list_to s atoms h = record { distinct = h.distinct; all_and_only = λ a. ((λ among. ever_to s a ((h.all_and_only a).0 among)), (λ ever. (h.all_and_only a).1 (ever_from s a ever))) }

  keeps_to : Keeps model scopes one → Keeps model scopes two
  keeps_to k = record {
    bounded = λ s d get i a has. k.bounded s d get i a (from s i (a ∷ []) has);
    numbers = λ s scope get. some_to scope.number (λ n (atoms, list, within). (atoms, list_to s atoms list, within)) (k.numbers s scope get);
    sigs = λ s d get still i j t has. to s j t (k.sigs s d get still i j t (from s i t has));
    fields = λ g f get still i j t has. to (length model.sigs + g) j t (k.fields g f get still i j t (from (length model.sigs + g) i t has));
  }

  this_same : (a : ℕ) → SameNames scopes one two same (this_is a) (this_is a)
  this_same a = more_same scopes one two same no_names no_names 0 (atom a) (atom a) (nothing_same scopes one two same) (λ i t. ((λ x. x), (λ x. x)))

  holds_to : (f : Claim) (names : Names) → SameNames scopes one two same names names → (i : ℕ) → HoldsAt model scopes one f names i → HoldsAt model scopes two f names i
  holds_to f names same_names i = (holds_same scopes one two same first second (model_same scopes one two same model.bodies) f names names same_names i).0

  column_to : (i : ℕ) (c : Column) (t : List ℕ) → InColumn model w first i c t → InColumn model v second i c t
  column_to i IntColumn t has = has
  column_to i (SigColumn p) t has = to p i t has

  placed_to : (i s : ℕ) (k : SigKind) → IsPlaced model w first i s k → IsPlaced model v second i s k
  placed_to i s Top h = tt
  placed_to i s (Extends p) h = λ t has. to p i t (h t (from s i t has))
  placed_to i s (Subset ps) h = λ t has. (let (c, among, inside) = h t (from s i t has) in (c, among, column_to i c t inside))

  sig_to : (i s : ℕ) (d : Sig) → SigDeclared model w first i s d → SigDeclared model v second i s d
  sig_to i s d h = record {
    placed = placed_to i s d.kind h.placed;
    abstract_union = λ is c child t has. (let (b, under, inside) = h.abstract_union is c child t (from s i t has) in (b, under, to b i t inside));
    disjoint = λ b c under_b under_c other t in_b in_c. h.disjoint b c under_b under_c other t (from b i t in_b) (from c i t in_c);
    multiplicity = (multiplicity_same d.multiplicity (InRelation w s i) (InRelation v s i) (relation_same scopes one two same s i)).0 h.multiplicity;
    appended = some_to d.appended (λ f all a has. holds_to (claim_of f) (this_is a) (this_same a) i (all a (from s i (a ∷ []) has))) h.appended;
  }

  value_same : (i k a : ℕ) → SameTuples (InValue model w first i k a) (InValue model v second i k a)
  value_same i k a u = relation_same scopes one two same (length model.sigs + k) i (a ∷ u)

  field_to : (i k : ℕ) (f : Field) (s : ℕ) (d : FieldBound) → FieldDeclared model w first i k f s d → FieldDeclared model v second i k f s d
  field_to i k f s d h = record {
    owned = λ t has. (let (a, u, is, inside) = h.owned t (from (length model.sigs + k) i t has) in (a, u, is, to s i (a ∷ []) inside));
    bounded = λ a inside u has. (term_same scopes one two same first second (model_same scopes one two same model.bodies) (term_of d.bound.expr) (this_is a) (this_is a) (this_same a) i u).0 (h.bounded a (from s i (a ∷ []) inside) u (from (length model.sigs + k) i (a ∷ u) has));
    multiplicity = λ a inside. (multiplicity_same d.bound.multiplicity (InValue model w first i k a) (InValue model v second i k a) (value_same i k a)).0 (h.multiplicity a (from s i (a ∷ []) inside));
    arrows = λ a inside. (fits_same scopes one two same first second (model_same scopes one two same model.bodies) (term_of d.bound.expr) (this_is a) (this_is a) (this_same a) i (InValue model w first i k a) (InValue model v second i k a) (value_same i k a)).0 (h.arrows a (from s i (a ∷ []) inside));
    disj_values = λ is a b in_a in_b other u has_a has_b. h.disj_values is a b (from s i (a ∷ []) in_a) (from s i (b ∷ []) in_b) other u (from (length model.sigs + k) i (a ∷ u) has_a) (from (length model.sigs + k) i (b ∷ u) has_b);
    disj_list = λ m g e get owner declared n is_k is_m other a u has_k has_m. h.disj_list m g e get owner declared n is_k is_m other a u (from (length model.sigs + k) i (a ∷ u) has_k) (from (length model.sigs + m) i (a ∷ u) has_m);
  }

  declares_to : (i : ℕ) → DeclaresAt model scopes one i → DeclaresAt model scopes two i
  declares_to i h = record {
    sigs = λ s d get. sig_to i s d (h.sigs s d get);
    fields = λ k f s d get owner declared. field_to i k f s d (h.fields k f s d get owner declared);
  }

  satisfies_to : (facts : List Fact) (command : Claim) → SatisfiesWith model scopes one facts command → SatisfiesWith model scopes two facts command
  satisfies_to facts command h = record {
    keeps = keeps_to h.keeps;
    declared = λ i. declares_to i (h.declared i);
    facts_hold = λ k d lt. holds_to (claim_of (get_or facts k d).formula) no_names (nothing_same scopes one two same) 0 (h.facts_hold k d lt);
    command_holds = holds_to command no_names (nothing_same scopes one two same) 0 h.command_holds;
  }

pub satisfied_same : SameSatisfied
satisfied_same model scopes one two same facts command = (satisfies_to model scopes one two same facts command, satisfies_to model scopes two one (λ i. sym (same i)) facts command)
