-- Choices of atoms for variables.
use Rattle.std.proofs.Common.{◌≡◌, ◌↔◌, ◌≤◌, ◌<◌, ◌+◌, ◌*◌, ℕ, zero, suc, Bool, true, false, IsTrue, List, [], ◌∷◌, ◌++◌, All, map, take, length, get_or, Contains, Some, slice_get, refl, sym, ap, ◌∙◌, subst, append_assoc, append-nil, arith, inl, inr}
use Rattle.std.proofs.lemmas.Bool.{cases_lt, false≢true}
use Rattle.std.proofs.lemmas.Option.{slice_get-get_or}
use Rattle.gate_trait.specs.declared.node.Node.{Node}
use Rattle.gate_trait.specs.Built.{Keeps, AllIn}
use Rattle.core_tree.specs.declared.tree.Variable.{Variable}
use Rattle.core_tree.specs.Trees.{Variables, Claim, Binder, no_variables, more_variables, comprehension, variable_of, variable_list}
use Rattle.core_tree.specs.Past.{no_depths, past_of, past_under}
use Rattle.core_meaning.specs.Kept.{world_of}
use Rattle.core_meaning.specs.Meaning.{with_name, atom, IsApart, InTerm}
use Rattle.core_meaning.specs.Called.{no_bodies}
use Rattle.core_window.proofs.SameLemmas.{same_trans}
use Rattle.gate_matrix.specs.Matrices.{MatrixEntries, has}
use Rattle.gate_temporal.specs.Rows.{row_value}
use Rattle.bmc_stack.specs.declared.store.Store.{Store}
use Rattle.bmc_stack.specs.Rows.{AreBoth, IsConstant}
use Rattle.bmc_stack.specs.Stored.{AreStored}
use Rattle.bmc_stack.specs.Members.{HasMembers, SayMembers}
use Rattle.bmc_leaves.specs.Shown.{names_of, none_nested}
use Rattle.bmc_leaves.specs.Relations.{reading_of}
use Rattle.bmc_leaves.proofs.PlaceLaws.{place_within}
use Rattle.bmc_leaves.proofs.RightLaws.{ok_under, both_means}
use Rattle.bmc_leaves.proofs.RowLaws.{row_kept}
use Rattle.bmc_walk.specs.declared.walk.Known.{Known}
use Rattle.bmc_walk.specs.declared.walk.Ground.{Ground}
use Rattle.bmc_places.specs.declared.gathering.Choice.{Choice}
use Rattle.bmc_places.specs.Rows.{IsBoth}
use Rattle.bmc_walk.specs.Variables.{SayIn}
use Rattle.bmc_places.specs.Gathered.{AllRows, IsFound, AreGathered}
use Rattle.bmc_walk.specs.Choices.{chosen_of, PickedHere, PickedFrom, FindThose, FindChoices, FindAtoms, FindMore}
use Rattle.bmc_places.specs.Stores.{Extends, Stays}
use Rattle.bmc_walk.specs.Walked.{atoms_of, read_in, IsGround, HasSets, HasRow}
use Rattle.bmc_places.proofs.StoreLaws.{stays_extends, extends_refl}
use Rattle.bmc_walk.proofs.WalkLaws.{max_left, ground_kept}
use Rattle.bmc_places.proofs.ListLaws.{contains_none, more_cases, more_here, more_before, take_all}
use Rattle.bmc_places.proofs.GatherLaws.{found_none, found_append, found_one, found_kept}
use Rattle.bmc_walk.proofs.EachLaws.{past_rest, members_right, say_kept}

-- ---- no variable more

pub choice_law : (ground : Ground) (known : Known) (earlier : List ℕ) (old now new : (ℕ → Bool) → Node → Bool) (before : List MatrixEntries) (f : Claim) (body there : List Node) (already all : List Choice) (c : Choice) → ((x : ℕ → Bool) (i : ℕ) → row_value (now x) there i ≡ row_value (old x) there i)
    → HasRow ground known old now before f body → AreBoth now new body there c.row → c.tuple ≡ chosen_of earlier → all ≡ already ++ c ∷ [] → FindChoices ground known earlier old new before no_variables f there already all
choice_law ground known earlier old now new before f body there already all c kept has both tuple is = record {
  more = c ∷ [];
  is = is;
  right = λ h ground_is le loop k s place x lasso shows at t.
      let right = has.right h ground_is le in
      let i = s.start + k in
      let value = both.values x i (right.inside loop k s place) in
      let holds = right.holds loop k s place x lasso shows at in
      let says : IsTrue (row_value (now x) there i) ↔ IsTrue (row_value (old x) there i) = ((λ y. sym (kept x i) ∙ y), (λ y. kept x i ∙ y)) in
      let means = both_means _ _ _ value holds says in
      same_trans (found_one (new x) c i t) (
        (λ (same, on). (let (p, q) = means.0 on in ([], sym same ∙ tuple ∙ sym (append-nil (chosen_of earlier)), q, (refl, p)))),
        (λ (u, e, on, (none, p)). (tuple ∙ sym (append-nil (chosen_of earlier)) ∙ ap (λ (v : List ℕ). chosen_of earlier ++ v) (sym none) ∙ sym e, means.1 (p, on))),
      );
}

pub no_list : (ground : Ground) (known : Known) (earlier : List ℕ) (old new : (ℕ → Bool) → Node → Bool) (before : List MatrixEntries) (list : List Variable) (f : Claim) (there : List Node) (already now : List Choice) → list ≡ [] → FindChoices ground known earlier old new before no_variables f there already now → FindChoices ground known earlier old new before (variable_list (map variable_of list)) f there already now
no_list ground known earlier old new before list f there already now none find = subst (λ (vs : List Variable). FindChoices ground known earlier old new before (variable_list (map variable_of vs)) f there already now) (sym none) find

-- ---- one variable more

-- the atoms of the first tuples
pub record FoundTo (ground : Ground) (known : Known) (earlier : List ℕ) (old new : (ℕ → Bool) → Node → Bool) (before : List MatrixEntries) (v : Binder) (rest : Variables) (f : Claim) (tuples : List (List ℕ)) (nodes there : List Node) (place : ℕ) (already now : List Choice) : Type 0 where
  pub more : List Choice
  pub is : now ≡ already ++ more
  pub right : (h : ℕ) → IsGround ground old before h → past_under none_nested rest no_depths (λ d. past_of none_nested f d) ≤ h → SayIn (read_in ground known h) old v.bound tuples nodes
      → FindThose (read_in ground known h) old new more earlier there (λ lasso k u. PickedFrom (world_of (read_in ground known h).scopes lasso) (names_of (read_in ground known h).atoms) k earlier v rest f (λ a. Contains (take place tuples) (a ∷ [])) u)

pub found_start : (ground : Ground) (known : Known) (earlier : List ℕ) (value : (ℕ → Bool) → Node → Bool) (before : List MatrixEntries) (v : Binder) (rest : Variables) (f : Claim) (tuples : List (List ℕ)) (nodes there : List Node) (already : List Choice) → FoundTo ground known earlier value value before v rest f tuples nodes there 0 already already
found_start ground known earlier value before v rest f tuples nodes there already = record {
  more = [];
  is = sym (append-nil already);
  right = λ h is le say loop k s place x lasso shows at t.
      let none : IsFound (value x) [] (s.start + k) t → ⊥ = found_none (value x) (s.start + k) t in
      let no_tuple : (a : ℕ) → Contains [] (a ∷ []) → ⊥ = λ a there. contains_none (a ∷ []) there in (
        (λ found. absurd (none found)),
        (λ (u, e, on, (a, w, same, allowed, inside, off, picked)). absurd (no_tuple a allowed)),
      );
}

-- what stands at a place is one
one_of : {X : Type 0} (xs : List X) (i : ℕ) (x y : X) → slice_get xs i ≡ Some x → slice_get xs i ≡ Some y → x ≡ y
one_of xs i x y first second = (let both : Some x ≡ Some y = sym first ∙ second in cc)

pub finds_nothing : (ground : Ground) (known : Known) (earlier : List ℕ) (value : (ℕ → Bool) → Node → Bool) (before : List MatrixEntries) (v : Binder) (rest : Variables) (f : Claim) (tuples : List (List ℕ)) (nodes : List Node) (place : ℕ) (there : List Node) (already : List Choice) (t : List ℕ) → slice_get tuples place ≡ Some t → ((a : ℕ) → t ≡ a ∷ [] → ¬ IsApart v.apart a earlier) → FindMore ground known earlier value value before v rest f tuples nodes place there already already
finds_nothing ground known earlier value before v rest f tuples nodes place there already t at none = record {
  more = [];
  is = sym (append-nil already);
  right = λ h is le say loop k s spot x lasso shows at_loop u.
      let nothing : IsFound (value x) [] (s.start + k) u → ⊥ = found_none (value x) (s.start + k) u in (
        (λ found. absurd (nothing found)),
        (λ (w, e, on, (a, r, same, here, inside, apart, picked)). absurd (none a (one_of tuples place t (a ∷ []) at here) apart)),
      );
}

-- the part of a row of nodes, and the row
value_out : (value : Node → Bool) (row : List Node) (i : ℕ) → length row ≤ i → row_value value row i ≡ false
value_out value [] i le = refl
value_out value (n ∷ row) zero le = absurd (omega arith)
value_out value (n ∷ row) (suc i) le = value_out value row i (omega arith)

both_there : (old new : (ℕ → Bool) → Node → Bool) (there nodes here : List Node) (from : ℕ) → IsBoth old new there nodes from here → (x : ℕ → Bool) (i : ℕ) → IsTrue (row_value (new x) here i) ↔ (IsTrue (row_value (old x) there i) × IsTrue (row_value (old x) nodes (from + i)))
both_there old new there nodes here from both x i = elim (cases_lt i (length there)) [
  | inl lt ↦ both_means _ _ _ (both.values x i lt) ((λ y. y), (λ y. y)) ((λ y. y), (λ y. y))
  | inr ge ↦ (
    (λ y. absurd (false≢true (sym (value_out (new x) here i (let e = both.long in omega (arith, ge, e))) ∙ y))),
    (λ p. absurd (false≢true (sym (value_out (old x) there i (omega (arith, ge))) ∙ p.0))),
  )
]

all_behind : {X : Type 0} (P : X → Type 0) (xs ys : List X) → All P (xs ++ ys) → All P ys
all_behind P [] ys all = all
all_behind P (x ∷ xs) ys all = all_behind P xs ys (λ k d lt. all (suc k) d (omega (arith, lt)))

-- rows behind others
rows_behind : (P : Node → Type 0) (already more all : List Choice) → all ≡ already ++ more → AllRows P all → AllRows P more
rows_behind P already more all is rows = all_behind (λ (c : Choice). AllIn P c.row) already more (subst (λ (cs : List Choice). AllRows P cs) is rows)

module _ {S : Type 0} (belongs : S → Node → Type 0) (value : S → (ℕ → Bool) → Node → Bool) where
  pub finds_atom : (ground : Ground) (known inner : Known) (earlier : List ℕ) (g h i : S) (a : Store) (v : Binder) (rest : Variables) (f : Claim) (tuples : List (List ℕ)) (nodes : List Node) (place d from count : ℕ) (there here : List Node) (already now : List Choice)
      → atoms_of inner ≡ (v.name, d) ∷ atoms_of known → Keeps belongs value g h → AreStored (belongs g) a → slice_get tuples place ≡ Some (d ∷ []) → IsApart v.apart d earlier → count ≡ length ground.setting.frame.now.shown.items → from ≡ place * count
      → IsBoth (value g) (value h) there nodes from here → FindChoices ground inner (d ∷ earlier) (value h) (value i) a.matrices.items rest f here already now
      → FindMore ground known earlier (value g) (value i) a.matrices.items v rest f tuples nodes place there already now
  finds_atom ground known inner earlier g h i a v rest f tuples nodes place d from count there here already now atoms keeps stored at apart count_is from_is both find = record {
    more = find.more;
    is = find.is;
    right = λ n is le say loop k s spot x lasso shows at_loop t.
        let r = read_in ground known n in
        let w = world_of r.scopes lasso in
        let names = names_of r.atoms in
        let q = find.right n (ground_kept belongs value ground known g h keeps a a stored (extends_refl a) n is) le loop k s spot x lasso shows at_loop t in
        let found = subst (λ (zs : List (ℕ × ℕ)). IsFound (value i x) find.more (s.start + k) t ↔ ((u : List ℕ) × (t ≡ chosen_of (d ∷ earlier) ++ u) × IsTrue (row_value (value h x) here (s.start + k)) × PickedHere w (names_of zs) k (d ∷ earlier) rest f u)) atoms q in
        let on = both_there (value g) (value h) there nodes here from both x (s.start + k) in
        let start : from ≡ place * length r.frame.shown.items = from_is ∙ ap (λ (m : ℕ). place * m) count_is in
        let said = subst (λ (m : ℕ). IsTrue (row_value (value g x) nodes (m + (s.start + k))) ↔ InTerm w no_bodies v.bound names k (d ∷ [])) (sym start) (say.values loop k s spot x lasso shows at_loop place (d ∷ []) at) in
        same_trans found (
          (λ (u, e, on_here, picked). (let (on_there, on_nodes) = on.0 on_here in (d ∷ u, e ∙ append_assoc (chosen_of earlier) (d ∷ []) u, on_there, (d, u, refl, at, said.0 on_nodes, apart, picked)))),
          (λ (u, e, on_there, (b, z, same, here_at, inside, off, picked)).
              let b_is : b ≡ d = ap (λ (l : List ℕ). get_or l 0 0) (one_of tuples place (b ∷ []) (d ∷ []) here_at at) in
              let both_of = subst (λ (c : ℕ). InTerm w no_bodies v.bound names k (c ∷ []) × PickedHere w (with_name names v.name (atom c)) k (c ∷ earlier) rest f z × (u ≡ c ∷ z)) b_is (inside, picked, same) in
              (z, e ∙ ap (λ (l : List ℕ). chosen_of earlier ++ l) both_of.2 ∙ sym (append_assoc (chosen_of earlier) (d ∷ []) z), on.1 (on_there, said.1 both_of.0), both_of.1)),
        );
  }

  pub found_step : (ground : Ground) (known : Known) (earlier : List ℕ) (first now later : S) (a b : Store) (v : Binder) (rest : Variables) (f : Claim) (tuples : List (List ℕ)) (nodes there : List Node) (place : ℕ) (already all next : List Choice) → Keeps belongs value first now → Keeps belongs value now later → AreStored (belongs first) a → Stays a b → AllIn (belongs first) nodes → AllIn (belongs first) there → AllRows (belongs now) all → place < length tuples
      → FoundTo ground known earlier (value first) (value now) a.matrices.items v rest f tuples nodes there place already all → FindMore ground known earlier (value now) (value later) b.matrices.items v rest f tuples nodes place there all next → FoundTo ground known earlier (value first) (value later) a.matrices.items v rest f tuples nodes there (place + 1) already next
  found_step ground known earlier first now later a b v rest f tuples nodes there place already all next keeps more_keeps stored stays in_nodes in_there in_all lt so finds = record {
    more = so.more ++ finds.more;
    is = finds.is ∙ ap (λ (cs : List Choice). cs ++ finds.more) so.is ∙ append_assoc already so.more finds.more;
    right = λ n is le say loop k s spot x lasso shows at_loop t.
        let r = read_in ground known n in
        let w = world_of r.scopes lasso in
        let names = names_of r.atoms in
        let i = s.start + k in
        let p = so.right n is le say loop k s spot x lasso shows at_loop t in
        let q = finds.right n (ground_kept belongs value ground known first now keeps a b stored (stays_extends a b stays) n is) le (say_kept belongs value r first now keeps v.bound tuples nodes in_nodes say) loop k s spot x lasso shows at_loop t in
        let kept = found_kept belongs value now later more_keeps so.more (rows_behind (belongs now) already so.more all so.is in_all) x i t in
        let same_there = row_kept belongs value first now keeps there in_there x i in
        let here = slice_get-get_or tuples place [] lt in
        let the = get_or tuples place [] in
        same_trans (found_append (value later x) so.more finds.more i t) (
          (λ h. elim h [
            | inl old ↦ (let (u, e, on, (c, z, same, allowed, inside, off, picked)) = p.0 (kept.0 old) in (u, e, on, (c, z, same, more_before tuples place the (c ∷ []) here allowed, inside, off, picked)))
            | inr new ↦ (let (u, e, on, (c, z, same, allowed, inside, off, picked)) = q.0 new in (u, e, sym same_there ∙ on, (c, z, same, more_here tuples place (c ∷ []) allowed, inside, off, picked)))
          ]),
          (λ (u, e, on, (c, z, same, allowed, inside, off, picked)). elim (more_cases tuples place the (c ∷ []) here allowed) [
            | inl before ↦ inl (kept.1 (p.1 (u, e, on, (c, z, same, before, inside, off, picked))))
            | inr equal ↦ inr (q.1 (u, e, same_there ∙ on, (c, z, same, here ∙ ap Some equal, inside, off, picked)))
          ]),
        );
  }

  pub bound_found : (ground : Ground) (known : Known) (earlier : List ℕ) (g h i : S) (a b c : Store) (v : Binder) (rest : Variables) (f : Claim) (numbers : List ℕ) (tuples : List (List ℕ)) (nodes there : List Node) (already now : List Choice) → Keeps belongs value g h → AreStored (belongs g) a → Extends a b → Stays b c → AllIn (belongs g) there → length numbers ≡ length ground.setting.frame.now.shown.items
      → HasSets ground known (value g) (value h) a.matrices.items b.matrices.items v.bound numbers → HasMembers b.matrices.items numbers tuples → SayMembers (value h) b.matrices.items numbers tuples nodes → FindAtoms ground known earlier (value h) (value i) c.matrices.items v rest f tuples nodes there already now
      → FindChoices ground known earlier (value g) (value i) a.matrices.items (more_variables v.name v.apart v.bound rest) f there already now
  bound_found ground known earlier g h i a b c v rest f numbers tuples nodes there already now keeps stored extends stays in_there long sets have say finds = record {
    more = finds.more;
    is = finds.is;
    right = λ n is le loop k s spot x lasso shows at_loop t.
        let r = read_in ground known n in
        let right = sets.right n is (max_left _ _ n le) in
        let is_b = ground_kept belongs value ground known g h keeps a b stored extends n is in
        let is_c : IsGround ground (value h) c.matrices.items n = subst (λ (ms : List MatrixEntries). IsGround ground (value h) ms n) (sym stays.matrices) is_b in
        let said = members_right r (value h) b.matrices.items v.bound numbers tuples nodes long right have say in
        let q = finds.right n is_c (past_rest v.name v.apart v.bound rest f n le) said loop k s spot x lasso shows at_loop t in
        let same_there = row_kept belongs value g h keeps there in_there x (s.start + k) in
        same_trans q (
          (λ (u, e, on, (d, z, same, allowed, inside, off, picked)). (u, e, sym same_there ∙ on, (d, z, same, inside, off, picked))),
          (λ (u, e, on, (d, z, same, inside, off, picked)). (u, e, same_there ∙ on, (d, z, same, said.all loop k s spot x lasso shows at_loop (d ∷ []) inside, inside, off, picked))),
        );
  }

pub found_all : (ground : Ground) (known : Known) (earlier : List ℕ) (old new : (ℕ → Bool) → Node → Bool) (before : List MatrixEntries) (v : Binder) (rest : Variables) (f : Claim) (tuples : List (List ℕ)) (nodes there : List Node) (place : ℕ) (already now : List Choice) → length tuples ≤ place → FoundTo ground known earlier old new before v rest f tuples nodes there place already now → FindAtoms ground known earlier old new before v rest f tuples nodes there already now
found_all ground known earlier old new before v rest f tuples nodes there place already now high to = record {
  more = to.more;
  is = to.is;
  right = λ n is le say. subst (λ (ts : List (List ℕ)). FindThose (read_in ground known n) old new to.more earlier there (λ lasso k u. PickedFrom (world_of (read_in ground known n).scopes lasso) (names_of (read_in ground known n).atoms) k earlier v rest f (λ a. Contains ts (a ∷ [])) u)) (take_all tuples place high) (to.right n is le say);
}

-- ---- the sets of a comprehension

module _ {S : Type 0} (belongs : S → Node → Type 0) (value : S → (ℕ → Bool) → Node → Bool) where
  pub comprehension_law : (ground : Ground) (known : Known) (g h i : S) (a b c : Store) (vs : Variables) (f : Claim) (there : List Node) (choices : List Choice) (count : ℕ) (numbers : List ℕ) (already : List Choice) → already ≡ [] → count ≡ length ground.setting.frame.now.shown.items → IsConstant (value g) count true there
      → FindChoices ground known [] (value g) (value h) a.matrices.items vs f there already choices → AreGathered (value h) (value i) c.matrices.items choices count numbers
      → HasSets ground known (value g) (value i) a.matrices.items c.matrices.items (comprehension vs f) numbers
  comprehension_law ground known g h i a b c vs f there choices count numbers already none count_is const find gathered = record {
    right = λ n is le. record {
      sets = λ loop k s spot.
          let r = read_in ground known n in
          let ok = ok_under (reading_of ground.setting n) (atoms_of known) is.reading in
          let lt : s.start + k < count = (let l = place_within r ok loop k s spot in omega (arith, l, count_is)) in
          let (o, at, (m, stands, means)) = gathered (s.start + k) lt in (
            m,
            (o, at, stands),
            λ x lasso shows at_loop t.
                let q = find.right n is le loop k s spot x lasso shows at_loop t in
                let found = subst (λ (cs : List Choice). IsFound (value h x) find.more (s.start + k) t ↔ IsFound (value h x) cs (s.start + k) t) (sym (find.is ∙ ap (λ (cs : List Choice). cs ++ find.more) none)) ((λ y. y), (λ y. y)) in
                same_trans (means x t) ((
                  (λ y. (let (u, e, on, picked) = q.0 (found.1 y) in subst (λ (v : List ℕ). PickedHere (world_of r.scopes lasso) (names_of r.atoms) k [] vs f v) (sym e) picked)),
                  (λ picked. found.0 (q.1 (t, refl, const.values x (s.start + k) lt, picked))),
                )),
          );
    };
  }
