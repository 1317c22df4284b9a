-- What holds for all atoms that variables may stand for.
use Rattle.std.proofs.Common.{◌≡◌, ◌≢◌, ◌↔◌, ◌≤◌, ◌<◌, ◌+◌, ◌*◌, ◌&&◌, ℕ, zero, suc, eqb, if◌then◌else◌, Bool, true, false, not, IsTrue, List, [], ◌∷◌, map, take, length, get_or, Contains, Some, slice_get, refl, sym, ap, ◌∙◌, subst, arith, inl, inr}
use Rattle.std.proofs.Math.Path.{fun_ext}
use Rattle.gate_trait.specs.declared.node.Node.{Node}
use Rattle.gate_trait.specs.Built.{Keeps, AllIn}
use Rattle.core_tree.specs.declared.tree.Variable.{Variable}
use Rattle.core_tree.specs.Trees.{Term, Variables, Claim, Binder, more_variables, for_all, variable_of, variable_list}
use Rattle.core_tree.specs.Past.{Depths, no_depths, with_depth, past_of, past_under}
use Rattle.core_meaning.specs.Sequence.{LassoValue}
use Rattle.core_meaning.specs.World.{World}
use Rattle.core_meaning.specs.Kept.{world_of}
use Rattle.core_meaning.specs.Meaning.{Names, with_name, atom, IsApart, InTerm}
use Rattle.core_meaning.specs.Called.{no_bodies}
use Rattle.core_window.proofs.SameLemmas.{same_trans}
use Rattle.gate_matrix.specs.declared.entry.Entry.{Entry}
use Rattle.gate_matrix.specs.Matrices.{MatrixEntries, tuples_of, truth}
use Rattle.gate_matrix.proofs.FoundLemmas.{found_entry}
use Rattle.gate_temporal.specs.Rows.{row_value}
use Rattle.bmc_stack.specs.declared.store.Store.{Store}
use Rattle.bmc_stack.specs.Rows.{IsConstant}
use Rattle.bmc_stack.specs.Stored.{AreStored}
use Rattle.bmc_stack.specs.Members.{HasMembers, SayMembers}
use Rattle.bmc_leaves.specs.Shown.{names_of, Reading, AreRight, none_nested}
use Rattle.bmc_leaves.specs.Relations.{reading_of}
use Rattle.bmc_leaves.proofs.PlaceLaws.{place_within}
use Rattle.bmc_leaves.proofs.RightLaws.{ok_under, true_same}
use Rattle.bmc_leaves.proofs.RowLaws.{row_kept}
use Rattle.bmc_walk.specs.declared.walk.Known.{Known}
use Rattle.bmc_walk.specs.declared.walk.Ground.{Ground}
use Rattle.bmc_places.specs.Rows.{IsHeld}
use Rattle.bmc_walk.specs.Variables.{EachHolds, AtomsHold, SayIn, HasEach, HeldTo, HasAtoms, AddsAtom}
use Rattle.bmc_places.specs.Stores.{Extends, Stays}
use Rattle.bmc_walk.specs.Walked.{atoms_of, read_in, IsGround, Marks, HasSets, HasRow}
use Rattle.bmc_places.proofs.ListLaws.{contains_none, more_cases, more_here, more_before, take_all}
use Rattle.bmc_places.proofs.StoreLaws.{stays_extends}
use Rattle.bmc_walk.proofs.WalkLaws.{max_left, max_right, ground_kept}

-- ---- how deep past operators nest

both_same : (b : Bool) (n : ℕ) → (if b then n else n) ≡ n
both_same true n = refl
both_same false n = refl

pub no_deeper : (x : ℕ) → with_depth no_depths x 0 ≡ no_depths
no_deeper x = fun_ext (λ y. both_same (eqb y x) 0)

-- the variables after the first
pub past_rest : (x apart : ℕ) (e : Term) (rest : Variables) (f : Claim) (h : ℕ) → past_under none_nested (more_variables x apart e rest) no_depths (λ d. past_of none_nested f d) ≤ h → past_under none_nested rest no_depths (λ d. past_of none_nested f d) ≤ h
past_rest x apart e rest f h le = subst (λ (d : Depths). past_under none_nested rest d (λ i. past_of none_nested f i) ≤ h) (no_deeper x) (max_right _ _ h le)

-- ---- rows

pub held_means : {P Q H : Type 0} (v p q h : Bool) → v ≡ (p && not (not q && h)) → IsTrue p ↔ P → IsTrue q ↔ Q → IsTrue h ↔ H → IsTrue v ↔ (P × (H → Q))
held_means v false q h e is_p is_q is_h = ((λ t. let clash : false ≡ true = sym e ∙ t in absurd cc), (λ b. let clash : false ≡ true = is_p.1 b.0 in absurd cc))
held_means v true true h e is_p is_q is_h = ((λ t. (is_p.0 refl, λ there. is_q.0 refl)), (λ b. e))
held_means v true false true e is_p is_q is_h = ((λ t. let clash : false ≡ true = sym e ∙ t in absurd cc), (λ b. let clash : false ≡ true = is_q.1 (b.1 (is_h.0 refl)) in absurd cc))
held_means v true false false e is_p is_q is_h = ((λ t. (is_p.0 refl, λ there. let clash : false ≡ true = is_h.1 there in absurd cc)), (λ b. e))

-- a row for a fact that holds where another does
pub marks_same : (r : Reading) (value : (ℕ → Bool) → Node → Bool) (P Q : LassoValue → ℕ → Type 0) (row : List Node) → ((lasso : LassoValue) (k : ℕ) → P lasso k ↔ Q lasso k) → Marks r value P row → Marks r value Q row
marks_same r value P Q row same marks = record {
  inside = marks.inside;
  holds = λ loop k s place x lasso shows at. same_trans (marks.holds loop k s place x lasso shows at) (same lasso k);
}

-- the atoms of tuples so far
pub record AtomsTo (ground : Ground) (known : Known) (earlier : List ℕ) (old new : (ℕ → Bool) → Node → Bool) (before : List MatrixEntries) (v : Binder) (rest : Variables) (f : Claim) (tuples : List (List ℕ)) (nodes : List Node) (place : ℕ) (row : List Node) : Type 0 where
  pub right : (h : ℕ) → IsGround ground old before h → past_under none_nested rest no_depths (λ d. past_of none_nested f d) ≤ h → SayIn (read_in ground known h) old v.bound tuples nodes → HeldTo (read_in ground known h) new earlier v rest f (take place tuples) row

pub atoms_none : (ground : Ground) (known : Known) (earlier : List ℕ) (value : (ℕ → Bool) → Node → Bool) (before : List MatrixEntries) (v : Binder) (rest : Variables) (f : Claim) (tuples : List (List ℕ)) (nodes row : List Node) (count : ℕ) → count ≡ length ground.setting.frame.now.shown.items → IsConstant value count true row → AtomsTo ground known earlier value value before v rest f tuples nodes 0 row
atoms_none ground known earlier value before v rest f tuples nodes row count is const = record {
  right = λ h of le say.
      let r = read_in ground known h in
      let ok = ok_under (reading_of ground.setting h) (atoms_of known) of.reading in
      record {
        inside = λ loop k s place. (let a = place_within r ok loop k s place in let b = const.long in omega (arith, a, b, is));
        holds = λ loop k s place x lasso shows at. ((λ t a c. absurd (contains_none (a ∷ []) c)), (λ all. const.values x (s.start + k) (let a = place_within r ok loop k s place in omega (arith, a, is))));
      };
}

-- what adds nothing
atoms_skip : (w : World) (names : Names) (k : ℕ) (earlier : List ℕ) (v : Binder) (rest : Variables) (f : Claim) (tuples : List (List ℕ)) (place : ℕ) (t : List ℕ) → slice_get tuples place ≡ Some t → ((a : ℕ) → t ≡ a ∷ [] → ¬ IsApart v.apart a earlier)
    → AtomsHold w names k earlier v rest f (take place tuples) ↔ AtomsHold w names k earlier v rest f (take (place + 1) tuples)
atoms_skip w names k earlier v rest f tuples place t at none = (
  (λ all a c there apart. elim (more_cases tuples place t (a ∷ []) at c) [
    | inl before ↦ all a before there apart
    | inr same ↦ absurd (none a same apart)
  ]),
  (λ all a c there apart. all a (more_before tuples place t (a ∷ []) at c) there apart),
)

pub adds_nothing : (ground : Ground) (known : Known) (earlier : List ℕ) (value : (ℕ → Bool) → Node → Bool) (before : List MatrixEntries) (v : Binder) (rest : Variables) (f : Claim) (tuples : List (List ℕ)) (nodes : List Node) (place : ℕ) (row : List Node) (t : List ℕ) → slice_get tuples place ≡ Some t → ((a : ℕ) → t ≡ a ∷ [] → ¬ IsApart v.apart a earlier) → AddsAtom ground known earlier value value before v rest f tuples nodes place row row
adds_nothing ground known earlier value before v rest f tuples nodes place row t at none = record {
  right = λ h is le say held.
      let r = read_in ground known h in
      marks_same r value (λ lasso k. AtomsHold (world_of r.scopes lasso) (names_of r.atoms) k earlier v rest f (take place tuples)) (λ lasso k. AtomsHold (world_of r.scopes lasso) (names_of r.atoms) k earlier v rest f (take (place + 1) tuples)) row (λ lasso k. atoms_skip (world_of r.scopes lasso) (names_of r.atoms) k earlier v rest f tuples place t at none) held;
}

-- an atom that is apart
atoms_more : (w : World) (names : Names) (k : ℕ) (earlier : List ℕ) (v : Binder) (rest : Variables) (f : Claim) (tuples : List (List ℕ)) (place a : ℕ) → slice_get tuples place ≡ Some (a ∷ []) → IsApart v.apart a earlier
    → (AtomsHold w names k earlier v rest f (take place tuples) × (InTerm w no_bodies v.bound names k (a ∷ []) → EachHolds w (with_name names v.name (atom a)) k (a ∷ earlier) rest f)) ↔ AtomsHold w names k earlier v rest f (take (place + 1) tuples)
atoms_more w names k earlier v rest f tuples place a at apart = (
  (λ both b c there off. elim (more_cases tuples place (a ∷ []) (b ∷ []) at c) [
    | inl before ↦ both.0 b before there off
    | inr same ↦ (let is : a ≡ b = ap (λ (t : List ℕ). get_or t 0 0) same in
        subst (λ (d : ℕ). InTerm w no_bodies v.bound names k (d ∷ []) → EachHolds w (with_name names v.name (atom d)) k (d ∷ earlier) rest f) is both.1 there)
  ]),
  (λ all. ((λ b c there off. all b (more_before tuples place (a ∷ []) (b ∷ []) at c) there off), (λ there. all a (more_here tuples place (a ∷ []) at) there apart))),
)

-- ---- the tuples of the bound

named_tuple : (es : List Entry) (t : List ℕ) (k : ℕ) (e : Entry) → k < length es → get_or es k e ≡ e → e.tuple ≡ t → Contains (tuples_of es) t
named_tuple [] t k e lt is same = absurd (omega (arith, lt))
named_tuple (d ∷ es) t zero e lt is same = (zero, omega arith, ap (λ (n : Entry). n.tuple) is ∙ same)
named_tuple (d ∷ es) t (suc k) e lt is same = (let c = named_tuple es t k e (omega (arith, lt)) is same in (suc c.0, (let l = c.1 in omega (arith, l)), c.2))

pub in_tuples : (value : Node → Bool) (m : MatrixEntries) (t : List ℕ) → truth value m t ≡ true → Contains (tuples_of m.entries) t
in_tuples value m t is = (let (k, e, lt, here, same, there) = found_entry value m.entries t is in named_tuple m.entries t k e lt here same)

pub members_right : (r : Reading) (value : (ℕ → Bool) → Node → Bool) (matrices : List MatrixEntries) (e : Term) (numbers : List ℕ) (tuples : List (List ℕ)) (nodes : List Node) → length numbers ≡ length r.frame.shown.items → AreRight r value matrices e numbers → HasMembers matrices numbers tuples → SayMembers value matrices numbers tuples nodes → SayIn r value e tuples nodes
members_right r value matrices e numbers tuples nodes long right have say = record {
  values = λ loop k s place x lasso shows at j t there.
      let (m, stands, means) = right.sets loop k s place in
      let is = means x lasso shows at t in
      let same = ap (λ (n : ℕ). row_value (value x) nodes (j * n + (s.start + k))) (sym long) ∙ say.values j t (s.start + k) m there stands x in
      ((λ q. is.0 (sym same ∙ q)), (λ q. same ∙ is.1 q));
  all = λ loop k s place x lasso shows at t there.
      let (m, stands, means) = right.sets loop k s place in
      have (s.start + k) m stands t (in_tuples (value x) m t ((means x lasso shows at t).1 there));
}

module _ {S : Type 0} (belongs : S → Node → Type 0) (value : S → (ℕ → Bool) → Node → Bool) where
  pub marks_kept : (r : Reading) (g h : S) → Keeps belongs value g h → (P : LassoValue → ℕ → Type 0) (row : List Node) → AllIn (belongs g) row → Marks r (value g) P row → Marks r (value h) P row
  marks_kept r g h keeps P row all marks = record {
    inside = marks.inside;
    holds = λ loop k s place x lasso shows at. true_same _ _ (row_kept belongs value g h keeps row all x (s.start + k)) (marks.holds loop k s place x lasso shows at);
  }

  pub say_kept : (r : Reading) (g h : S) → Keeps belongs value g h → (e : Term) (tuples : List (List ℕ)) (nodes : List Node) → AllIn (belongs g) nodes → SayIn r (value g) e tuples nodes → SayIn r (value h) e tuples nodes
  say_kept r g h keeps e tuples nodes all say = record {
    values = λ loop k s place x lasso shows at j t there. true_same _ _ (row_kept belongs value g h keeps nodes all x (j * length r.frame.shown.items + (s.start + k))) (say.values loop k s place x lasso shows at j t there);
    all = say.all;
  }

  pub adds_held : (ground : Ground) (known inner : Known) (earlier : List ℕ) (g h i : S) (before : List MatrixEntries) (v : Binder) (rest : Variables) (f : Claim) (tuples : List (List ℕ)) (nodes : List Node) (place a from count : ℕ) (all more row : List Node)
      → atoms_of inner ≡ (v.name, a) ∷ atoms_of known → Keeps belongs value g h → AllIn (belongs g) all → AllIn (belongs g) nodes → slice_get tuples place ≡ Some (a ∷ []) → IsApart v.apart a earlier → count ≡ length ground.setting.frame.now.shown.items → from ≡ place * count
      → HasEach ground inner (a ∷ earlier) (value g) (value h) before rest f more → IsHeld (value h) (value i) all more nodes from row
      → AddsAtom ground known earlier (value g) (value i) before v rest f tuples nodes place all row
  adds_held ground known inner earlier g h i before v rest f tuples nodes place a from count all more row atoms keeps in_all in_nodes at apart count_is from_is each held = record {
    right = λ n is le say so_far.
        let r = read_in ground known n in
        let first = marks_kept r g h keeps (λ lasso k. AtomsHold (world_of r.scopes lasso) (names_of r.atoms) k earlier v rest f (take place tuples)) all in_all so_far in
        let said = say_kept r g h keeps v.bound tuples nodes in_nodes say in
        let second = each.right n is le in
        let start : from ≡ place * length r.frame.shown.items = from_is ∙ ap (λ (m : ℕ). place * m) count_is in
        record {
          inside = λ loop k s spot. (let l = first.inside loop k s spot in let m = held.long in omega (arith, l, m));
          holds = λ loop k s spot x lasso shows at_loop.
              let w = world_of r.scopes lasso in
              let p = first.holds loop k s spot x lasso shows at_loop in
              let q = second.holds loop k s spot x lasso shows at_loop in
              let q' = subst (λ (zs : List (ℕ × ℕ)). IsTrue (row_value (value h x) more (s.start + k)) ↔ EachHolds w (names_of zs) k (a ∷ earlier) rest f) atoms q in
              let there = said.values loop k s spot x lasso shows at_loop place (a ∷ []) at in
              let there' = subst (λ (m : ℕ). IsTrue (row_value (value h x) nodes (m + (s.start + k))) ↔ InTerm w no_bodies v.bound (names_of r.atoms) k (a ∷ [])) (sym start) there in
              same_trans (held_means _ _ _ _ (held.values x (s.start + k) (first.inside loop k s spot)) p q' there') (atoms_more w (names_of r.atoms) k earlier v rest f tuples place a at apart);
        };
  }

  pub atoms_step : (ground : Ground) (known : Known) (earlier : List ℕ) (first now later : S) (a b : Store) (v : Binder) (rest : Variables) (f : Claim) (tuples : List (List ℕ)) (nodes : List Node) (place : ℕ) (row new : List Node) → Keeps belongs value first now → AreStored (belongs first) a → Stays a b → AllIn (belongs first) nodes
      → AtomsTo ground known earlier (value first) (value now) a.matrices.items v rest f tuples nodes place row → AddsAtom ground known earlier (value now) (value later) b.matrices.items v rest f tuples nodes place row new → AtomsTo ground known earlier (value first) (value later) a.matrices.items v rest f tuples nodes (place + 1) new
  atoms_step ground known earlier first now later a b v rest f tuples nodes place row new keeps stored stays in_nodes so adds = record {
    right = λ n is le say.
        let r = read_in ground known n in
        adds.right n (ground_kept belongs value ground known first now keeps a b stored (stays_extends a b stays) n is) le (say_kept r first now keeps v.bound tuples nodes in_nodes say) (so.right n is le say);
  }

  -- all atoms that the bound may have
  pub bound_law : (ground : Ground) (known : Known) (earlier : List ℕ) (g h i : S) (a b c : Store) (v : Binder) (rest : Variables) (f : Claim) (numbers : List ℕ) (tuples : List (List ℕ)) (nodes row : List Node) → Keeps belongs value g h → AreStored (belongs g) a → AreStored (belongs h) b → Extends a b → Stays b c → length numbers ≡ length ground.setting.frame.now.shown.items
      → HasSets ground known (value g) (value h) a.matrices.items b.matrices.items v.bound numbers → HasMembers b.matrices.items numbers tuples → SayMembers (value h) b.matrices.items numbers tuples nodes → HasAtoms ground known earlier (value h) (value i) c.matrices.items v rest f tuples nodes row
      → HasEach ground known earlier (value g) (value i) a.matrices.items (more_variables v.name v.apart v.bound rest) f row
  bound_law ground known earlier g h i a b c v rest f numbers tuples nodes row keeps stored stored_b extends stays long sets have say atoms = record {
    right = λ n is le.
        let r = read_in ground known n in
        let right = sets.right n is (max_left _ _ n le) in
        let is_b = ground_kept belongs value ground known g h keeps a b stored extends n is in
        let is_c : IsGround ground (value h) c.matrices.items n = subst (λ (ms : List MatrixEntries). IsGround ground (value h) ms n) (sym stays.matrices) is_b in
        let said = members_right r (value h) b.matrices.items v.bound numbers tuples nodes long right have say in
        let held = atoms.right n is_c (past_rest v.name v.apart v.bound rest f n le) said in
        record {
          inside = held.inside;
          holds = λ loop k s place x lasso shows at.
              let m = held.holds loop k s place x lasso shows at in (
                (λ t d there off. m.0 t d (said.all loop k s place x lasso shows at (d ∷ []) there) there off),
                (λ all. m.1 (λ d c' there off. all d there off)),
              );
        };
  }

pub atoms_all : (ground : Ground) (known : Known) (earlier : List ℕ) (old new : (ℕ → Bool) → Node → Bool) (before : List MatrixEntries) (v : Binder) (rest : Variables) (f : Claim) (tuples : List (List ℕ)) (nodes : List Node) (place : ℕ) (row : List Node) → length tuples ≤ place → AtomsTo ground known earlier old new before v rest f tuples nodes place row → HasAtoms ground known earlier old new before v rest f tuples nodes row
atoms_all ground known earlier old new before v rest f tuples nodes place row high to = record {
  right = λ n is le say. subst (λ (ts : List (List ℕ)). HeldTo (read_in ground known n) new earlier v rest f ts row) (take_all tuples place high) (to.right n is le say);
}

-- no variable
pub each_none : (ground : Ground) (known : Known) (earlier : List ℕ) (old new : (ℕ → Bool) → Node → Bool) (before : List MatrixEntries) (list : List Variable) (f : Claim) (row : List Node) → list ≡ [] → HasRow ground known old new before f row → HasEach ground known earlier old new before (variable_list (map variable_of list)) f row
each_none ground known earlier old new before list f row none has = subst (λ (vs : List Variable). HasEach ground known earlier old new before (variable_list (map variable_of vs)) f row) (sym none) (record {
  right = λ n is le. (let t = has.right n is le in record { inside = t.inside; holds = t.holds });
})

-- the formula of a quantifier
pub all_law : (ground : Ground) (known : Known) (old new : (ℕ → Bool) → Node → Bool) (before : List MatrixEntries) (vs : Variables) (f : Claim) (row : List Node) → HasEach ground known [] old new before vs f row → HasRow ground known old new before (for_all vs f) row
all_law ground known old new before vs f row has = record {
  right = λ n is le. (let t = has.right n is le in record { inside = t.inside; holds = t.holds });
}

-- a tuple that hasn't one number alone
pub not_single : (t numbers : List ℕ) (a : ℕ) → numbers ≡ t → length numbers ≢ 1 → t ≡ a ∷ [] → ⊥
not_single t numbers a is many same = many (ap (λ (ns : List ℕ). length ns) (is ∙ same))

single_of : (t : List ℕ) → length t ≡ 1 → t ≡ get_or t 0 0 ∷ []
single_of [] one = absurd (omega arith)
single_of (x ∷ []) one = refl
single_of (x ∷ y ∷ t) one = absurd (omega arith)

-- a tuple of one number
pub single_is : (t numbers : List ℕ) → numbers ≡ t → length numbers ≡ 1 → t ≡ get_or numbers 0 0 ∷ []
single_is t numbers is one = sym is ∙ single_of numbers one

pub other_apart : (n a b : ℕ) (earlier t : List ℕ) → t ≡ a ∷ [] → t ≡ b ∷ [] → IsApart n a earlier → IsApart n b earlier
other_apart n a b earlier t one two apart = subst (λ (d : ℕ). IsApart n d earlier) (ap (λ (u : List ℕ). get_or u 0 0) (sym one ∙ two)) apart
