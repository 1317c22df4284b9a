-- Two readings of one part: one tree, as many choices, and agreement where the choices are the same.
use Rattle.std.proofs.Common.{◌≡◌, ◌∙◌, ℕ, ◌+◌, false, [], ◌++◌, length, length-append, sym, ap}
use Rattle.syntax_tree.specs.declared.operator.Prefix.{Prefix}
use Rattle.syntax_tree.specs.declared.operator.Prefix.TheVariants as prefix
use Rattle.resolve_types.specs.declared.columns.Columns.{Columns}
use Rattle.resolve_readings.specs.Readings.{Choice}
use Rattle.resolve_rules.specs.Candidates.{set_of}
use Rattle.resolve_rules.specs.Forms.{IsTest, IsLogical}
use Rattle.resolve_rules.specs.Prepared.{Tree, known}
use Rattle.resolve_laws.proofs.ReadLists.{same_parts}

-- what is right of the names of a part, A, where the same is chosen
pub record Alike (t u : Tree) (choice other : Choice) (A : Type 0) : Type 0 where
  pub tree : t ≡ u
  pub size : length choice ≡ length other
  pub agree : choice ≡ other → A

-- a part made of one
pub one : {A B : Type 0} (f : Tree → Tree) (t u : Tree) (choice other : Choice) → Alike t u choice other A → (v : Tree) → v ≡ f u → (A → B) → Alike (f t) v choice other B
one f t u choice other a v is then = record { tree = ap f a.tree ∙ sym is; size = a.size; agree = λ same. then (a.agree same) }

-- a part made of two
pub two : {A B C : Type 0} (f : Tree → Tree → Tree) (t u v w : Tree) (g h i j : Choice) → Alike t u g h A → Alike v w i j B →
    (x : Tree) (k : Choice) → x ≡ f u w → k ≡ h ++ j → (A → B → C) → Alike (f t v) x (g ++ i) k C
two f t u v w g h i j a b x k is also then = record {
  tree = ap (λ (s : Tree). f s v) a.tree ∙ (ap (f u) b.tree ∙ sym is);
  size = length-append g i ∙ (ap (λ (n : ℕ). n + length i) a.size ∙ (ap (λ (n : ℕ). length h + n) b.size ∙ (sym (length-append h j) ∙ sym (ap (λ (l : Choice). length l) also))));
  agree = λ same. (let parts = same_parts g h i j a.size (same ∙ also) in then (a.agree parts.0) (b.agree parts.1));
}

-- a part with no name to choose for
pub constant : {A : Type 0} (c d : Columns) (u : Tree) (other : Choice) → c ≡ d → (u ≡ known (set_of d false)) × (other ≡ []) → A → Alike (known (set_of c false)) u [] other A
constant c d u other same is a = record { tree = ap (λ (x : Columns). known (set_of x false)) same ∙ sym is.0; size = ap (λ (l : Choice). length l) (sym is.1); agree = λ e. a }

-- no operator stands before a set and before a formula
pub test_logical : (op : Prefix) → IsTest op → IsLogical op → ⊥
test_logical prefix.No test logical = logical
test_logical prefix.Some test logical = logical
test_logical prefix.Lone test logical = logical
test_logical prefix.One test logical = logical
test_logical _ test logical = test
