-- A renaming that keeps the sigs of a model keeps its declarations, its scopes, and what is satisfied.
use Rattle.std.proofs.Common.{◌≡◌, ◌↔◌, ℕ, ◌+◌, ◌<◌, List, [], ◌∷◌, map, length, Contains, get_or, Some, slice_get, sym, ap, ◌∙◌, subst}
use Rattle.core_tree.specs.declared.model.Model.{Model}
use Rattle.core_tree.specs.declared.model.Sig.{Sig}
use Rattle.core_tree.specs.declared.model.SigKind.{SigKind}
use Rattle.core_tree.specs.declared.model.SigKind.TheVariants.{Top, Extends, Subset}
use Rattle.core_tree.specs.declared.model.Column.{Column}
use Rattle.core_tree.specs.declared.model.Column.TheVariants.{Sig as SigColumn, Int as IntColumn}
use Rattle.core_tree.specs.declared.model.Fact.{Fact}
use Rattle.core_tree.specs.declared.model.Field.{Field}
use Rattle.core_tree.specs.declared.model.FieldBound.{FieldBound}
use Rattle.core_tree.specs.Trees.{Term, Claim, term_of, claim_of}
use Rattle.core_tree.specs.Columns.{or_zero}
use Rattle.core_tree.specs.Types.{TypeRow, sig_rows}
use Rattle.core_meaning.specs.declared.scopes.Scopes.{Scopes}
use Rattle.core_meaning.specs.Sequence.{LassoValue}
use Rattle.core_meaning.specs.World.{World, InRelation}
use Rattle.core_meaning.specs.Operators.{IsInside, HasMultiplicity}
use Rattle.core_meaning.specs.Meaning.{Bodies, no_names, atom, InTerm, Fits, Holds}
use Rattle.core_meaning.specs.Declarations.{IsChild, this_is, InColumn, IsPlaced, InValue, SigDeclared, FieldDeclared}
use Rattle.core_meaning.specs.Called.{bodies_of}
use Rattle.core_meaning.specs.Kept.{world_of, IsAtomOf, InColumnBound, InRowBound, InSigBound, Keeps, or_zero_number, first_atom, top_above}
use Rattle.core_meaning.specs.Satisfied.{DeclaresAt, SatisfiesWith}
use Rattle.core_renaming.specs.Renamings.{Renaming, KeepsIntegers, ShowsRenamed, inverse}
use Rattle.core_renaming.specs.Sigs.{IsTopSigAtom, KeepsSigs, IsWellFormed, DeclarationsKeepTruth, ScopesAreKept, SatisfactionIsKept}
use Rattle.core_renaming.proofs.Moves.{same_atom, Moved, onto, alike, moved_by, all_atoms, implied, atoms_moved, atom_moved, inside_moved, multiplicity_moved}
use Rattle.core_renaming.proofs.Meanings.{relation_moved, integers_are, MovedNames, more_moved, no_names_moved, term_moved, fits_moved, holds_moved, bodies_moved}
use Rattle.core_renaming.proofs.Targets.{some_to, inverse_integers, inverse_shows, numbers_to}
use Rattle.core_renaming.proofs.Tops.{IsMarked, columns_marked}
use Rattle.core_renaming.proofs.Literals.{bounded_atom}

-- ---- the other way round

pub inverse_keeps : (model : Model) (scopes : Scopes) (r : Renaming) → KeepsSigs model scopes r → KeepsSigs model scopes (inverse r)
inverse_keeps model scopes r keeps = record {
  sigs = λ s e get top a. (
    (λ of_sig. (keeps.sigs s e get top (r.from a)).1 (subst (IsTopSigAtom scopes.numbers s e) (sym (r.to_from a)) of_sig)),
    (λ of_sig. subst (IsTopSigAtom scopes.numbers s e) (r.to_from a) ((keeps.sigs s e get top (r.from a)).0 of_sig)),
  );
  integers = inverse_integers scopes r keeps.integers;
  literals = λ s d p get is own. sym (ap r.from (keeps.literals s d p get is own)) ∙ r.from_to _;
}

-- ---- declarations

module _ (model : Model) (scopes : Scopes) (r : Renaming) (one two : LassoValue) (stay : KeepsIntegers scopes r) (shows : ShowsRenamed scopes r one two) where
  abbrev w : World
  w = world_of scopes one

  abbrev v : World
  v = world_of scopes two

  abbrev first : Bodies
  first = bodies_of w model.bodies

  abbrev second : Bodies
  second = bodies_of v model.bodies

  rel : (s i : ℕ) → Moved r (InRelation w s i) (InRelation v s i)
  rel s i = relation_moved scopes r one two stay shows s i

  this_moved : (a : ℕ) → MovedNames scopes r one two stay shows (this_is a) (this_is (r.to a))
  this_moved a = more_moved scopes r one two stay shows no_names no_names 0 (atom a) (atom (r.to a)) (no_names_moved scopes r one two stay shows) (atom_moved r a)

  term : (e : Term) (a i : ℕ) → Moved r (InTerm w first e (this_is a) i) (InTerm v second e (this_is (r.to a)) i)
  term e a i = term_moved scopes r one two stay shows first second (bodies_moved scopes r one two stay shows model.bodies) e (this_is a) (this_is (r.to a)) (this_moved a) i

  holds_this : (f : Claim) (a i : ℕ) → Holds w first f (this_is a) i ↔ Holds v second f (this_is (r.to a)) i
  holds_this f a i = holds_moved scopes r one two stay shows first second (bodies_moved scopes r one two stay shows model.bodies) f (this_is a) (this_is (r.to a)) (this_moved a) i

  holds_alone : (f : Claim) (i : ℕ) → Holds w first f no_names i ↔ Holds v second f no_names i
  holds_alone f i = holds_moved scopes r one two stay shows first second (bodies_moved scopes r one two stay shows model.bodies) f no_names no_names (no_names_moved scopes r one two stay shows) i

  column_moved : (i : ℕ) (c : Column) → Moved r (InColumn model w first i c) (InColumn model v second i c)
  column_moved i IntColumn = atoms_moved r (integers_are scopes r one two stay shows)
  column_moved i (SigColumn p) = rel p i

  parents_moved : (i : ℕ) (ps : List Column) → Moved r (λ t. (c : Column) × Contains ps c × InColumn model w first i c t) (λ t. (c : Column) × Contains ps c × InColumn model v second i c t)
  parents_moved i ps = record {
    to = λ t (c, among, has). (c, among, (column_moved i c).to t has);
    from = λ t (c, among, has). (c, among, (column_moved i c).from t has);
  }

  placed_to : (i s : ℕ) (k : SigKind) → IsPlaced model w first i s k → IsPlaced model v second i s k
  placed_to i s Top h = tt
  placed_to i s (Extends p) h = (inside_moved r (rel s i) (rel p i)).0 h
  placed_to i s (Subset ps) h = (inside_moved r (rel s i) (parents_moved i ps)).0 h

  children_moved : (i s : ℕ) → Moved r (λ t. (b : ℕ) × IsChild model.sigs s b × InRelation w b i t) (λ t. (b : ℕ) × IsChild model.sigs s b × InRelation v b i t)
  children_moved i s = record {
    to = λ t (b, under, has). (b, under, (rel b i).to t has);
    from = λ t (b, under, has). (b, under, (rel b i).from t has);
  }

  sig_to : (i s : ℕ) (d : Sig) → SigDeclared model w first i s d → SigDeclared model v second i s d
  sig_to i s d h = record {
    placed = placed_to i s d.kind h.placed;
    abstract_union = λ is c child. (inside_moved r (rel s i) (children_moved i s)).0 (h.abstract_union is c child);
    disjoint = λ b c under_b under_c other t in_b in_c. h.disjoint b c under_b under_c other (map r.from t) ((rel b i).from t in_b) ((rel c i).from t in_c);
    multiplicity = (multiplicity_moved r d.multiplicity (rel s i)).0 h.multiplicity;
    appended = some_to d.appended (λ f. (all_atoms r
        (λ a. InRelation w s i (a ∷ []) → Holds w first (claim_of f) (this_is a) i)
        (λ a. InRelation v s i (a ∷ []) → Holds v second (claim_of f) (this_is a) i)
        (λ a. implied (alike (rel s i) (a ∷ [])) (holds_this (claim_of f) a i))).0) h.appended;
  }

  value_moved : (i k a : ℕ) → Moved r (InValue model w first i k a) (InValue model v second i k (r.to a))
  value_moved i k a = moved_by r (InValue model w first i k a) (InValue model v second i k (r.to a)) (λ u. alike (rel (length model.sigs + k) i) (a ∷ u))

  owned_moved : (i s : ℕ) → Moved r (λ t. (a : ℕ) × (u : List ℕ) × (t ≡ a ∷ u) × InRelation w s i (a ∷ [])) (λ t. (a : ℕ) × (u : List ℕ) × (t ≡ a ∷ u) × InRelation v s i (a ∷ []))
  owned_moved i s = record {
    to = λ t (a, u, is, has). (r.to a, map r.to u, ap (map r.to) is, (rel s i).to (a ∷ []) has);
    from = λ t (a, u, is, has). (r.from a, map r.from u, ap (map r.from) is, (rel s i).from (a ∷ []) has);
  }

  -- what is asked of each atom of a sig
  at_each : (i s : ℕ) (P Q : ℕ → Type 0) → ((a : ℕ) → P a ↔ Q (r.to a)) → ((a : ℕ) → InRelation w s i (a ∷ []) → P a) → (a : ℕ) → InRelation v s i (a ∷ []) → Q a
  at_each i s P Q same = (all_atoms r (λ a. InRelation w s i (a ∷ []) → P a) (λ a. InRelation v s i (a ∷ []) → Q a) (λ a. implied (alike (rel s i) (a ∷ [])) (same a))).0

  field_to : (i k : ℕ) (f : Field) (s : ℕ) (d : FieldBound) → FieldDeclared model w first i k f s d → FieldDeclared model v second i k f s d
  field_to i k f s d h = record {
    owned = (inside_moved r (rel (length model.sigs + k) i) (owned_moved i s)).0 h.owned;
    bounded = at_each i s
        (λ a. IsInside (InValue model w first i k a) (InTerm w first (term_of d.bound.expr) (this_is a) i))
        (λ a. IsInside (InValue model v second i k a) (InTerm v second (term_of d.bound.expr) (this_is a) i))
        (λ a. inside_moved r (value_moved i k a) (term (term_of d.bound.expr) a i)) h.bounded;
    multiplicity = at_each i s
        (λ a. HasMultiplicity d.bound.multiplicity (InValue model w first i k a))
        (λ a. HasMultiplicity d.bound.multiplicity (InValue model v second i k a))
        (λ a. multiplicity_moved r d.bound.multiplicity (value_moved i k a)) h.multiplicity;
    arrows = at_each i s
        (λ a. Fits w first (term_of d.bound.expr) (this_is a) i (InValue model w first i k a))
        (λ a. Fits v second (term_of d.bound.expr) (this_is a) i (InValue model v second i k a))
        (λ a. fits_moved scopes r one two stay shows first second (bodies_moved scopes r one two stay shows model.bodies) (term_of d.bound.expr) (this_is a) (this_is (r.to a)) (this_moved a) i (InValue model w first i k a) (InValue model v second i k (r.to a)) (value_moved i k a)) h.arrows;
    disj_values = λ is a b in_a in_b other u has_a has_b.
        h.disj_values is (r.from a) (r.from b) ((rel s i).from (a ∷ []) in_a) ((rel s i).from (b ∷ []) in_b) (λ e. other (same_atom (inverse r) a b e)) (map r.from u)
        ((rel (length model.sigs + k) i).from (a ∷ u) has_a) ((rel (length model.sigs + k) i).from (b ∷ u) has_b);
    disj_list = λ m g e get owner declared n is_k is_m other a u has_k has_m.
        h.disj_list m g e get owner declared n is_k is_m other (r.from a) (map r.from u) ((rel (length model.sigs + k) i).from (a ∷ u) has_k) ((rel (length model.sigs + m) i).from (a ∷ u) has_m);
  }

  declares_to : (i : ℕ) → DeclaresAt model scopes one i → DeclaresAt model scopes two i
  declares_to i h = record {
    sigs = λ s d get. sig_to i s d (h.sigs s d get);
    fields = λ k f s d get owner declared. field_to i k f s d (h.fields k f s d get owner declared);
  }

-- ---- scopes

module _ (model : Model) (scopes : Scopes) (r : Renaming) (right : IsWellFormed model scopes) (keeps : KeepsSigs model scopes r) where
  column_to : (c : Column) (a : ℕ) → IsMarked model scopes c → InColumnBound model scopes c a → InColumnBound model scopes c (r.to a)
  column_to IntColumn a marked inside = subst (InColumnBound model scopes IntColumn) (sym (keeps.integers a inside.0)) inside
  column_to (SigColumn s) a (e, get, top) inside =
      let number : or_zero_number (slice_get scopes.numbers (top_above model.sigs (length model.sigs) s)) ≡ or_zero e.number = ap or_zero_number get in
      let high = subst (λ n. a < first_atom scopes.numbers (top_above model.sigs (length model.sigs) s) + n) number inside.1 in
      let of_sig = (keeps.sigs (top_above model.sigs (length model.sigs) s) e get top a).0 (inside.0, high) in
      (of_sig.0, subst (λ n. r.to a < first_atom scopes.numbers (top_above model.sigs (length model.sigs) s) + n) (sym number) of_sig.1)

  row_to : (s : ℕ) (row : TypeRow) (a : ℕ) → Contains (sig_rows model.sigs (length model.sigs) s) row → InRowBound model scopes row (a ∷ []) → InRowBound model scopes row (r.to a ∷ [])
  row_to s [] a among inside = elim inside [ ]
  row_to s (c ∷ []) a among inside = (column_to c a (columns_marked model scopes right s c among) inside.0, tt)
  row_to s (c ∷ d ∷ row) a among inside = elim inside.1 [ ]

  bound_to : (s : ℕ) (d : Sig) (a : ℕ) → slice_get model.sigs s ≡ Some d → InSigBound model scopes s d a → InSigBound model scopes s d (r.to a)
  bound_to s d a get h = record {
    typed = (let (row, among, inside) = h.typed in (row, among, row_to s row a among inside));
    literal = λ p is. ap r.to (h.literal p is) ∙ keeps.literals s d p get is (subst (IsAtomOf model scopes s) (h.literal p is) (bounded_atom model scopes right s p a d get is.1 h));
  }

  module _ (one two : LassoValue) (shows : ShowsRenamed scopes r one two) where
    moved : (s i : ℕ) → Moved r (InRelation (world_of scopes one) s i) (InRelation (world_of scopes two) s i)
    moved s i = relation_moved scopes r one two keeps.integers shows s i

    keeps_to : Keeps model scopes one → Keeps model scopes two
    keeps_to k = record {
      bounded = λ s d get i a has. subst (InSigBound model scopes s d) (r.to_from a) (bound_to s d (r.from a) get (k.bounded s d get i (r.from a) ((moved s i).from (a ∷ []) has)));
      numbers = numbers_to scopes r one two keeps.integers shows k.numbers;
      sigs = λ s d get static i j t has. onto (moved s j) t (k.sigs s d get static i j (map r.from t) ((moved s i).from t has));
      fields = λ g f get static i j t has. onto (moved (length model.sigs + g) j) t (k.fields g f get static i j (map r.from t) ((moved (length model.sigs + g) i).from t has));
    }

    satisfies_to : (facts : List Fact) (command : Claim) → SatisfiesWith model scopes one facts command → SatisfiesWith model scopes two facts command
    satisfies_to facts command h = record {
      keeps = keeps_to h.keeps;
      declared = λ i. declares_to model scopes r one two keeps.integers shows i (h.declared i);
      facts_hold = λ k d lt. (holds_alone model scopes r one two keeps.integers shows (claim_of (get_or facts k d).formula) 0).0 (h.facts_hold k d lt);
      command_holds = (holds_alone model scopes r one two keeps.integers shows command 0).0 h.command_holds;
    }

-- ---- the laws

pub declarations_kept : DeclarationsKeepTruth
declarations_kept model scopes r one two stay shows i = (
  declares_to model scopes r one two stay shows i,
  declares_to model scopes (inverse r) two one (inverse_integers scopes r stay) (inverse_shows scopes r one two stay shows) i,
)

pub scopes_kept : ScopesAreKept
scopes_kept model scopes r one two right keeps shows = (
  keeps_to model scopes r right keeps one two shows,
  keeps_to model scopes (inverse r) right (inverse_keeps model scopes r keeps) two one (inverse_shows scopes r one two keeps.integers shows),
)

pub satisfaction_kept : SatisfactionIsKept
satisfaction_kept model scopes r one two right keeps shows facts command = (
  satisfies_to model scopes r right keeps one two shows facts command,
  satisfies_to model scopes (inverse r) right (inverse_keeps model scopes r keeps) two one (inverse_shows scopes r one two keeps.integers shows) facts command,
)
