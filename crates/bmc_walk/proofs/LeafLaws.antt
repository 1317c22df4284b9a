-- The sets of expressions without parts are right.
use Rattle.std.proofs.Common.{◌≡◌, ◌<◌, ◌+◌, ℕ, Bool, List, map, length, refl, sym, ap, ◌∙◌, subst, arith, inl, inr, Vec, Global}
use Rattle.std.proofs.lemmas.List.{length-map}
use Rattle.gate_trait.specs.declared.node.Node.{Node}
use Rattle.core_tree.specs.Trees.{Term, sig, field, univ, iden, int}
use Rattle.core_meaning.specs.declared.scopes.SigScope.{SigScope}
use Rattle.gate_matrix.specs.Matrices.{MatrixEntries}
use Rattle.bmc_leaves.specs.Shown.{Reading, AreOf, AreKept, Leaf, IsLeafAt, of_relation, of_univ, of_iden, of_int}
use Rattle.bmc_leaves.specs.Relations.{reading_of}
use Rattle.bmc_walk.specs.declared.walk.Known.{Known}
use Rattle.bmc_walk.specs.declared.walk.Ground.{Ground}
use Rattle.bmc_walk.specs.Walked.{atoms_of, HasSets}
use Rattle.bmc_walk.specs.Leaves.{HoldsLeaf, KeptSets}

-- what is kept of a set without parts
kept_of : (r : Reading) (value : (ℕ → Bool) → Node → Bool) (matrices : List MatrixEntries) (kept : List (Vec ℕ Global)) (leaf : Leaf) (number : ℕ) (v : List ℕ) → AreKept r value matrices kept → IsLeafAt r.bounds.relations leaf number → HoldsLeaf kept number v → AreOf r value matrices leaf v
kept_of r value matrices kept leaf number v have lt (n, at, is, some) = elim (have leaf number n lt at) [
  | inl none ↦ absurd (let e : length v ≡ 0 = ap (λ (s : List ℕ). length s) (is ∙ none) in omega (arith, e, some))
  | inr of ↦ subst (λ (s : List ℕ). AreOf r value matrices leaf s) (sym is) of
]

module _ (ground : Ground) (v : List ℕ) where
  pub sig_kept : (s : ℕ) → s < length ground.setting.bounds.now.relations → HoldsLeaf ground.kept.now.items s v → KeptSets ground (sig s) v
  sig_kept s lt holds = record {
    right = λ value matrices h is atoms. record { sets = (kept_of _ value matrices ground.kept.now.items (of_relation s) s v is.kept (refl, lt) holds).sets };
  }

  pub field_kept : (f n : ℕ) → n ≡ length ground.setting.scopes.now.numbers + f → n < length ground.setting.bounds.now.relations → HoldsLeaf ground.kept.now.items n v → KeptSets ground (field f) v
  field_kept f n is lt holds = record {
    right = λ value matrices h ok atoms.
        let same : n ≡ length (map (λ (s : SigScope). s.top) ground.setting.scopes.now.numbers) + f = is ∙ ap (λ (k : ℕ). k + f) (sym (length-map ground.setting.scopes.now.numbers (λ (s : SigScope). s.top))) in
        let r = reading_of ground.setting h in
        let of : AreOf r value matrices (of_relation n) v = kept_of r value matrices ground.kept.now.items (of_relation n) n v ok.kept (refl, lt) holds in
        let other : AreOf r value matrices (of_relation (length (map (λ (s : SigScope). s.top) ground.setting.scopes.now.numbers) + f)) v = subst (λ (k : ℕ). AreOf r value matrices (of_relation k) v) same of in
        record { sets = other.sets };
  }

  pub univ_kept : (n : ℕ) → n ≡ length ground.setting.bounds.now.relations + 0 → HoldsLeaf ground.kept.now.items n v → KeptSets ground univ v
  univ_kept n is holds = record {
    right = λ value matrices h ok atoms. record { sets = (kept_of _ value matrices ground.kept.now.items of_univ n v ok.kept (is ∙ omega arith) holds).sets };
  }

  pub iden_kept : (n : ℕ) → n ≡ length ground.setting.bounds.now.relations + 1 → HoldsLeaf ground.kept.now.items n v → KeptSets ground iden v
  iden_kept n is holds = record {
    right = λ value matrices h ok atoms. record { sets = (kept_of _ value matrices ground.kept.now.items of_iden n v ok.kept is holds).sets };
  }

  pub int_kept : (n : ℕ) → n ≡ length ground.setting.bounds.now.relations + 2 → HoldsLeaf ground.kept.now.items n v → KeptSets ground int v
  int_kept n is holds = record {
    right = λ value matrices h ok atoms. record { sets = (kept_of _ value matrices ground.kept.now.items of_int n v ok.kept is holds).sets };
  }

-- they are those of the expression where names stand for these atoms
pub kept_law : (ground : Ground) (known : Known) (value : (ℕ → Bool) → Node → Bool) (matrices : List MatrixEntries) (e : Term) (v : List ℕ) → KeptSets ground e v → HasSets ground known value value matrices matrices e v
kept_law ground known value matrices e v kept = record { right = λ n is le. kept.right value matrices n is (atoms_of known) }
