-- Lists of formulas.
use Rattle.std.proofs.Common.{◌≡◌, ◌≤◌, ◌<◌, ◌+◌, ◌-◌, ℕ, zero, suc, Bool, true, List, [], ◌∷◌, length, map, drop, slice_get, Some, refl, sym, ap, ◌∙◌, subst, arith}
use Rattle.gate_trait.specs.declared.node.Node.{Node}
use Rattle.gate_trait.specs.Built.{Keeps, AllIn}
use Rattle.core_tree.specs.declared.tree.Formula.{Formula}
use Rattle.core_tree.specs.Trees.{Claim, claim_of, claim_list, every}
use Rattle.core_tree.specs.Past.{no_depths, past_of}
use Rattle.gate_matrix.specs.Matrices.{MatrixEntries}
use Rattle.bmc_stack.specs.declared.store.Store.{Store}
use Rattle.bmc_stack.specs.Stored.{AreStored}
use Rattle.bmc_stack.specs.Rows.{AreBoth, IsConstant}
use Rattle.bmc_leaves.specs.Shown.{IsRight, none_nested}
use Rattle.bmc_leaves.specs.Relations.{reading_of}
use Rattle.bmc_leaves.proofs.KeptLaws.{right_kept}
use Rattle.bmc_leaves.proofs.RightLaws.{ok_under, nothing_right, more_right}
use Rattle.bmc_walk.specs.declared.walk.Known.{Known}
use Rattle.bmc_walk.specs.declared.walk.Ground.{Ground}
use Rattle.bmc_places.specs.Stores.{Stays}
use Rattle.bmc_walk.specs.Walked.{atoms_of, read_in, HasRow, AddsFront}
use Rattle.bmc_places.proofs.StoreLaws.{stays_extends}
use Rattle.bmc_walk.proofs.WalkLaws.{max_left, max_right, ground_kept}

pub drop_all : {X : Type 0} (xs : List X) (k : ℕ) → k ≡ length xs → drop k xs ≡ []
drop_all [] zero e = refl
drop_all [] (suc k) e = absurd (omega arith)
drop_all (x ∷ xs) zero e = absurd (omega arith)
drop_all (x ∷ xs) (suc k) e = drop_all xs k (omega arith)

pub drop_front : {X : Type 0} (xs : List X) (k : ℕ) (x : X) → slice_get xs k ≡ Some x → drop k xs ≡ x ∷ drop (suc k) xs
drop_front [] k x at = absurd cc
drop_front (y ∷ xs) zero x at = (let same : y ≡ x = cc in ap (λ z. z ∷ xs) same)
drop_front (y ∷ xs) (suc k) x at = drop_front xs k x at

abbrev claims_from : List Formula → ℕ → Claim
claims_from list k = every (claim_list (map claim_of (drop k list)))

pub every_none : (ground : Ground) (known : Known) (value : (ℕ → Bool) → Node → Bool) (before : List MatrixEntries) (list : List Formula) (row : List Node) (count : ℕ) → count ≡ length ground.setting.frame.now.shown.items → IsConstant value count true row → HasRow ground known value value before (claims_from list (length list - 0)) row
every_none ground known value before list row count is const = record {
  right = λ n of le.
      let r = read_in ground known n in
      let none = drop_all list (length list - 0) (omega arith) in
      subst (λ (fs : List Formula). IsRight r value (every (claim_list (map claim_of fs))) row) (sym none)
      (nothing_right r value row (ok_under (reading_of ground.setting n) (atoms_of known) of.reading) (subst (λ (c : ℕ). IsConstant value c true row) is const));
}

module _ {S : Type 0} (belongs : S → Node → Type 0) (value : S → (ℕ → Bool) → Node → Bool) (ground : Ground) (known : Known) where
  pub front_law : (g h i : S) (before : List MatrixEntries) (f : Claim) (so_far first row : List Node) → Keeps belongs value g h → AllIn (belongs g) so_far → HasRow ground known (value g) (value h) before f first → AreBoth (value h) (value i) so_far first row → AddsFront ground known (value g) (value i) before f so_far row
  front_law g h i before f so_far first row keeps belong part both = record {
    right = λ n is le gs so. (let r = read_in ground known n in more_right r (value h) (value i) f gs so_far first row (right_kept belongs value r g h keeps (every gs) so_far belong so) (part.right n is le) both);
  }

  pub every_more : (first now later : S) (a b : Store) (list : List Formula) (turn : ℕ) (row new : List Node) (f : Formula) → Keeps belongs value first now → AreStored (belongs first) a → Stays a b → turn < length list → slice_get list (length list - 1 - turn) ≡ Some f
      → HasRow ground known (value first) (value now) a.matrices.items (claims_from list (length list - turn)) row → AddsFront ground known (value now) (value later) b.matrices.items (claim_of f) row new → HasRow ground known (value first) (value later) a.matrices.items (claims_from list (length list - (turn + 1))) new
  every_more first now later a b list turn row new f keeps stored stays lt at so adds = record {
    right = λ n is.
        let r = read_in ground known n in
        let k = length list - 1 - turn in
        let here : length list - (turn + 1) ≡ k = omega arith in
        let next : suc k ≡ length list - turn = omega (arith, lt) in
        let split : drop (length list - (turn + 1)) list ≡ f ∷ drop (length list - turn) list = ap (λ (j : ℕ). drop j list) here ∙ drop_front list k f at ∙ ap (λ (j : ℕ). f ∷ drop j list) next in
        subst (λ (fs : List Formula). past_of none_nested (every (claim_list (map claim_of fs))) no_depths ≤ n → IsRight r (value later) (every (claim_list (map claim_of fs))) new) (sym split) (λ le.
        adds.right n (ground_kept belongs value ground known first now keeps a b stored (stays_extends a b stays) n is) (max_left _ _ n le) (claim_list (map claim_of (drop (length list - turn) list))) (so.right n is (max_right _ _ n le)));
  }

-- all formulas have been taken
pub every_all : (ground : Ground) (known : Known) (old new : (ℕ → Bool) → Node → Bool) (before : List MatrixEntries) (list : List Formula) (turn : ℕ) (row : List Node) → length list ≤ turn → HasRow ground known old new before (claims_from list (length list - turn)) row → HasRow ground known old new before (every (claim_list (map claim_of list))) row
every_all ground known old new before list turn row high has =
    let none : length list - turn ≡ 0 = omega (arith, high) in
    subst (λ (k : ℕ). HasRow ground known old new before (claims_from list k) row) none has
