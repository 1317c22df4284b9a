-- What was built before is right where it is found.
use Rattle.std.proofs.Common.{◌≡◌, ◌⊎◌, ◌↔◌, ◌≤◌, ℕ, Bool, true, false, List, [], ◌∷◌, ◌++◌, Option, Some, None, if◌then◌else◌, eqb, All, Contains, sym, subst, inl, inr, Vec, Global, Bor}
use Rattle.std.proofs.lemmas.List.Elements.{All-contains, All-push, All-weaker}
use Rattle.gate_trait.specs.declared.node.Node.{Node}
use Rattle.gate_trait.specs.Built.{Keeps}
use Rattle.core_tree.specs.Trees.{Term, term_of}
use Rattle.core_tree.specs.Past.{no_depths, past_in}
use Rattle.core_meaning.specs.Sequence.{LassoValue}
use Rattle.core_meaning.specs.Kept.{world_of}
use Rattle.core_meaning.specs.Operators.{Tuples}
use Rattle.core_meaning.specs.Meaning.{InTerm, with_name, one_of, atom}
use Rattle.core_meaning.specs.Called.{no_bodies}
use Rattle.core_window.specs.Repeats.{SameTuples}
use Rattle.core_free.specs.Used.{used_in}
use Rattle.core_free.proofs.AlikeLemmas.{SameOf, term_alike}
use Rattle.gate_matrix.specs.Matrices.{MatrixEntries}
use Rattle.bmc_stack.specs.declared.store.Store.{Store}
use Rattle.bmc_stack.specs.Stored.{AreStored}
use Rattle.bmc_leaves.specs.Shown.{Atoms, names_of, atom_in, Reading, under, HaveTuples, AreRight, none_nested}
use Rattle.bmc_leaves.specs.Relations.{reading_of}
use Rattle.bmc_places.specs.Stores.{Extends}
use Rattle.bmc_walk.specs.declared.walk.Known.{Known}
use Rattle.bmc_walk.specs.declared.walk.Made.{Made}
use Rattle.bmc_walk.specs.declared.walk.Ready.{Ready}
use Rattle.bmc_walk.specs.declared.walk.Ready.TheVariants as ready
use Rattle.bmc_walk.specs.declared.walk.Ground.{Ground}
use Rattle.bmc_walk.specs.Walked.{atoms_of, read_in, IsReady, AreReady, IsGround, HasSets}
use Rattle.bmc_walk.specs.Ready.{StandAlike, IsOf, IsAmong, IsReadyIn, IsMade}
use Rattle.bmc_walk.proofs.WalkLaws.{are_kept, ground_kept}

-- the tuples of a name are told by the atom for which it stands
abbrev atom_tuples : Option ℕ → Tuples
atom_tuples None t = ⊥
atom_tuples (Some a) t = t ≡ a ∷ []

one_named : (b : Bool) (a i : ℕ) (rest : Option ℕ) (A : Tuples) (t : List ℕ) → atom_tuples rest t ↔ A t → atom_tuples (if b then Some a else rest) t ↔ one_of b (atom a i) A t
one_named true a i rest A t h = ((λ p. p), (λ p. p))
one_named false a i rest A t h = h

named : (atoms : Atoms) (x i : ℕ) (t : List ℕ) → atom_tuples (atom_in atoms x) t ↔ names_of atoms x i t
named [] x i t = ((λ p. p), (λ p. p))
named (b ∷ atoms) x i t = one_named (eqb x b.0) b.1 i (atom_in atoms x) (names_of atoms x i) t (named atoms x i t)

same_named : (a b : Atoms) (x i : ℕ) → atom_in a x ≡ atom_in b x → SameTuples (names_of a x i) (names_of b x i)
same_named a b x i same t =
    let one = named a x i t in
    let other = subst (λ (o : Option ℕ). atom_tuples o t ↔ names_of b x i t) (sym same) (named b x i t) in
    ((λ p. other.0 (one.1 p)), (λ q. one.0 (other.1 q)))

-- sets of an expression are right where its names stand for the same
right_alike : (r : Reading) (value : (ℕ → Bool) → Node → Bool) (matrices : List MatrixEntries) (e : Term) (numbers : List ℕ) (here there : Atoms) → All (λ x. atom_in here x ≡ atom_in there x) (used_in e)
    → AreRight (under r there) value matrices e numbers → AreRight (under r here) value matrices e numbers
right_alike r value matrices e numbers here there alike right = record {
  sets = λ loop k s place.
      let (m, stands, means) = right.sets loop k s place in (
        m,
        stands,
        λ x lasso shows at t.
            let of : SameOf (used_in e) (names_of here) (names_of there) = λ y has i. same_named here there y i (All-contains (λ z. atom_in here z ≡ atom_in there z) (used_in e) y alike has) in
            let same = term_alike (world_of r.scopes lasso) e (names_of here) (names_of there) of k t in
            let is = means x lasso shows at t in
            ((λ p. same.1 (is.0 p)), (λ q. is.1 (same.0 q))),
      );
}

-- what is found among the sets that were built there
among_right : (r : Reading) (value : (ℕ → Bool) → Node → Bool) (matrices : List MatrixEntries) (h : ℕ) (list : List Made) (there : Known) (e : Term) (here : Known) (numbers : List ℕ) → All (IsReady r value matrices h there) list → IsAmong list there e here numbers → past_in none_nested e no_depths ≤ h
    → AreRight (under r (atoms_of here)) value matrices e numbers
among_right r value matrices h list there e here numbers all among le =
    let m = among.made in
    let is = All-contains (IsReady r value matrices h there) list m all among.has in
    let less = subst (λ (f : Term). past_in none_nested f no_depths ≤ h) (sym among.of.same) le in
    let alike = subst (λ (xs : List ℕ). All (λ x. atom_in (atoms_of here) x ≡ atom_in (atoms_of there) x) xs) is.names among.of.alike in
    let right = right_alike r value matrices (term_of m.expr.now) m.numbers.items (atoms_of here) (atoms_of there) alike (is.right less) in
    let own = subst (λ (f : Term). AreRight (under r (atoms_of here)) value matrices f m.numbers.items) among.of.same right in
    subst (λ (xs : List ℕ). AreRight (under r (atoms_of here)) value matrices e xs) (sym among.is) own

pub found_right : (r : Reading) (value : (ℕ → Bool) → Node → Bool) (matrices : List MatrixEntries) (h : ℕ) (all : Ready) (e : Term) (here : Known) (numbers : List ℕ) → AreReady r value matrices h all → IsReadyIn all e here numbers → past_in none_nested e no_depths ≤ h
    → AreRight (under r (atoms_of here)) value matrices e numbers
found_right r value matrices h ready.Nothing e here numbers are in_none le = absurd in_none
found_right r value matrices h (ready.Sets' made there p rest) e here numbers are (inl among) le = among_right r value matrices h made.now.items there.now e here numbers are.0 among le
found_right r value matrices h (ready.Sets' made there p rest) e here numbers are (inr later) le = found_right r value matrices h rest e here numbers are.1 later le

pub found_sets : (ground : Ground) (known : Known) (value : (ℕ → Bool) → Node → Bool) (matrices : List MatrixEntries) (e : Term) (numbers : List ℕ) → IsReadyIn ground.ready.now e known numbers → HasSets ground known value value matrices matrices e numbers
found_sets ground known value matrices e numbers found = record {
  right = λ h is le. found_right (reading_of ground.setting h) value matrices h ground.ready.now e known numbers is.ready found le;
}

module _ {S : Type 0} (belongs : S → Node → Type 0) (value : S → (ℕ → Bool) → Node → Bool) (ground : Ground) (known : Known) where
  -- what was made stays so
  pub made_kept : (f g h : S) (first a b : Store) → Keeps belongs value g h → AreStored (belongs g) a → Extends a b → (m : Made) → IsMade ground known (value f) (value g) first.matrices.items a.matrices.items m → IsMade ground known (value f) (value h) first.matrices.items b.matrices.items m
  made_kept f g h first a b keeps stored extends m is = record {
    names = is.names;
    right = record { right = λ n ok le. are_kept belongs value ground known g h keeps a b stored extends (read_in ground known n) (term_of m.expr.now) m.numbers.items (is.right.right n ok le) };
  }

  -- what is made later is made
  pub made_later : (f g h : S) (first a b : Store) → Keeps belongs value f g → AreStored (belongs f) first → Extends first a → (m : Made) → IsMade ground known (value g) (value h) a.matrices.items b.matrices.items m → IsMade ground known (value f) (value h) first.matrices.items b.matrices.items m
  made_later f g h first a b keeps stored extends m is = record {
    names = is.names;
    right = record { right = λ n ok le. is.right.right n (ground_kept belongs value ground known f g keeps first a stored extends n ok) le };
  }

  -- a turn: one more is made
  pub made_more : (f g h : S) (first a b : Store) → Keeps belongs value f g → Keeps belongs value g h → AreStored (belongs f) first → AreStored (belongs g) a → Extends first a → Extends a b → (list more : List Made) (m : Made) → more ≡ list ++ m ∷ []
      → All (IsMade ground known (value f) (value g) first.matrices.items a.matrices.items) list → IsMade ground known (value g) (value h) a.matrices.items b.matrices.items m
      → All (IsMade ground known (value f) (value h) first.matrices.items b.matrices.items) more
  made_more f g h first a b keeps later stored_f stored_g extends_f extends_g list more m is all one =
      let P = IsMade ground known (value f) (value h) first.matrices.items b.matrices.items in
      subst (λ (ms : List Made). All P ms) (sym is)
      (All-push P list m
      (All-weaker (IsMade ground known (value f) (value g) first.matrices.items a.matrices.items) P (made_kept f g h first a b later stored_g extends_g) list all)
      (made_later f g h first a b keeps stored_f extends_f m one))

  -- the ground with what was made
  pub ready_ground : (g h : S) (a b : Store) → Keeps belongs value g h → AreStored (belongs g) a → Extends a b → (inner : Ground) (list : List Made) → inner.setting ≡ ground.setting → inner.kept ≡ ground.kept
      → ((r : Reading) (n : ℕ) → All (IsReady r (value h) b.matrices.items n known) list → AreReady r (value h) b.matrices.items n ground.ready.now → AreReady r (value h) b.matrices.items n inner.ready.now)
      → All (IsMade ground known (value g) (value h) a.matrices.items b.matrices.items) list → (n : ℕ) → IsGround ground (value g) a.matrices.items n → IsGround inner (value h) b.matrices.items n
  ready_ground g h a b keeps stored extends inner list same_setting same_kept more all n is =
      let ok = ground_kept belongs value ground known g h keeps a b stored extends n is in
      let r = reading_of ground.setting n in
      let ready = more r n (All-weaker (IsMade ground known (value g) (value h) a.matrices.items b.matrices.items) (IsReady r (value h) b.matrices.items n known)
      (λ m made. record { names = made.names; right = λ le. made.right.right n is le }) list all) ok.ready in
      rw same_setting (rw same_kept (record { reading = ok.reading; kept = ok.kept; ready = ready }))
