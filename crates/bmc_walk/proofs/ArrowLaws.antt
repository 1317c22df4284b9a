-- Bounds with multiplicities.
use Rattle.std.proofs.Common.{◌++◌, ◌≡◌, ◌↔◌, ◌≤◌, ◌+◌, ◌*◌, ℕ, Bool, true, false, IsTrue, List, ◌∷◌, drop, length, Contains, Some, slice_get, Box, Global, refl, sym, ap, ◌∙◌, subst, arith, inl, inr}
use Rattle.std.proofs.lemmas.List.{drop_all, drop_more}
use Rattle.std.proofs.lemmas.Option.{slice_get_within, get_or_from_slice_get}
use Rattle.gate_trait.specs.declared.node.Node.{Node}
use Rattle.gate_trait.specs.Built.{Keeps, AllIn}
use Rattle.gate_trait.proofs.KeptLemmas.{keeps_trans}
use Rattle.core_tree.specs.declared.operators.Multiplicity.{Multiplicity}
use Rattle.core_tree.specs.declared.operators.Multiplicity.TheVariants.{Set}
use Rattle.core_tree.specs.declared.tree.Expr.{Expr, Product, Product'}
use Rattle.core_tree.specs.Trees.{Term, term_of, product, inside, within}
use Rattle.core_tree.specs.Past.{no_depths, past_in}
use Rattle.core_meaning.specs.Sequence.{LassoValue}
use Rattle.core_meaning.specs.World.{World}
use Rattle.core_meaning.specs.Kept.{world_of}
use Rattle.core_meaning.specs.Operators.{Tuples, IsInside, HasMultiplicity}
use Rattle.core_meaning.specs.Meaning.{Names, InTerm, Fits}
use Rattle.core_meaning.specs.Called.{no_bodies}
use Rattle.core_window.specs.Repeats.{SameTuples}
use Rattle.core_window.proofs.SameLemmas.{same_trans, multiplicity_same}
use Rattle.gate_matrix.specs.Matrices.{MatrixEntries}
use Rattle.gate_operators.specs.Sets.{set_of}
use Rattle.gate_temporal.specs.Rows.{row_value}
use Rattle.bmc_stack.specs.declared.store.Store.{Store}
use Rattle.bmc_stack.specs.Stored.{AreStored}
use Rattle.bmc_stack.specs.Rows.{IsConstant, AreBoth}
use Rattle.bmc_stack.specs.Sets.{StandsAt}
use Rattle.bmc_stack.specs.Members.{HasMembers, SayMembers}
use Rattle.gate_sets.specs.Belonging.{AllMatrices}
use Rattle.bmc_leaves.specs.Lying.{AsksNothing}
use Rattle.bmc_leaves.specs.Shown.{names_of, Reading, IsRight, AreRight, none_nested}
use Rattle.bmc_leaves.specs.Relations.{reading_of}
use Rattle.bmc_leaves.proofs.LyingLaws.{fits_all}
use Rattle.bmc_leaves.proofs.PlaceLaws.{place_within}
use Rattle.bmc_leaves.proofs.RightLaws.{ok_under, both_means, true_same}
use Rattle.bmc_leaves.proofs.RowLaws.{row_kept}
use Rattle.bmc_places.specs.Rows.{IsHeld}
use Rattle.bmc_places.specs.Stores.{Extends, Stays}
use Rattle.bmc_places.specs.Rests.{joined, AreRests, HasWord}
use Rattle.bmc_places.proofs.ListLaws.{contains_none, contains_cases, contains_first, contains_later}
use Rattle.bmc_places.proofs.StoreLaws.{stays_extends}
use Rattle.bmc_places.proofs.RestLaws.{set_kept}
use Rattle.bmc_walk.specs.declared.walk.Known.{Known}
use Rattle.bmc_walk.specs.declared.walk.Ground.{Ground}
use Rattle.bmc_walk.specs.Arrows.{with_end, IsSilent, MarksSets, EndHolds, FitsSets, EndFits, TuplesFit, AddsTuple}
use Rattle.bmc_walk.specs.Variables.{SayIn}
use Rattle.bmc_walk.specs.Walked.{read_in, IsGround, Marks, HasSets, HasRow, atoms_of}
use Rattle.bmc_walk.proofs.EachLaws.{held_means, members_right, say_kept, marks_kept}
use Rattle.bmc_walk.proofs.WalkLaws.{max_left, max_right, ground_kept, are_kept}

-- sets with the same tuples keep the same arrows
pub fits_to : (w : World) (e : Term) (names : Names) (i : ℕ) (E D : Tuples) → SameTuples E D → Fits w no_bodies e names i E → Fits w no_bodies e names i D
fits_to w (product a m n b) names i E D same (f, g) = (
  (λ s in'. let (x, y) = f s in' in ((multiplicity_same n (λ u. E (s ++ u)) (λ u. D (s ++ u)) (λ u. same (s ++ u))).0 x, fits_to w b names i (λ u. E (s ++ u)) (λ u. D (s ++ u)) (λ u. same (s ++ u)) y)),
  (λ u in'. let (x, y) = g u in' in ((multiplicity_same m (λ s. E (s ++ u)) (λ s. D (s ++ u)) (λ s. same (s ++ u))).0 x, fits_to w a names i (λ s. E (s ++ u)) (λ s. D (s ++ u)) (λ s. same (s ++ u)) y)),
)
fits_to w e names i E D same h = tt

pub silent_fits : (w : World) (word : Multiplicity) (other : Term) (names : Names) (k : ℕ) (E : Tuples) → IsSilent word other → HasMultiplicity word E × Fits w no_bodies other names k E
silent_fits w Set other names k E (free, nothing) = (tt, fits_all w other nothing names k E)
silent_fits w word other names k E (free, nothing) = absurd free

-- an expression that is no arrow
pub no_arrow : (e : Expr) → ((a : Box Expr Global) (l r : Multiplicity) (b : Box Expr Global) → e ≡ Product a l r b → ⊥) → AsksNothing (term_of e)
no_arrow (Product' p a l r q b) other = absurd (other (record { ptr = p.ptr; alloc = p.alloc; value = a }) l r (record { ptr = q.ptr; alloc = q.alloc; value = b }) refl)
no_arrow e other = tt

-- the tuples so far
pub record TuplesTo (ground : Ground) (known : Known) (old new : (ℕ → Bool) → Node → Bool) (before : List MatrixEntries) (at_start : Bool) (word : Multiplicity) (other : Term) (set : List ℕ) (tuples : List (List ℕ)) (nodes : List Node) (place : ℕ) (row : List Node) : Type 0 where
  pub right : (h : ℕ) → IsGround ground old before h → past_in none_nested other no_depths ≤ h → (end : Term) → SayIn (read_in ground known h) old end tuples nodes
      → MarksSets (read_in ground known h) old new before set (λ lasso k E. EndHolds (world_of (read_in ground known h).scopes lasso) (names_of (read_in ground known h).atoms) k at_start word other E (λ s. Contains (drop place tuples) s × InTerm (world_of (read_in ground known h).scopes lasso) no_bodies end (names_of (read_in ground known h).atoms) k s)) row

pub tuples_none : (ground : Ground) (known : Known) (value : (ℕ → Bool) → Node → Bool) (before : List MatrixEntries) (at_start : Bool) (word : Multiplicity) (other : Term) (set : List ℕ) (tuples : List (List ℕ)) (nodes row : List Node) (many place : ℕ) → many ≡ length ground.setting.frame.now.shown.items → length tuples ≤ place → IsConstant value many true row → TuplesTo ground known value value before at_start word other set tuples nodes place row
tuples_none ground known value before at_start word other set tuples nodes row many place is high const = record {
  right = λ h of le end say loop k s spot m stands.
      let r = read_in ground known h in
      let ok = ok_under (reading_of ground.setting h) (atoms_of known) of.reading in
      let l = place_within r ok loop k s spot in (
        (let n = const.long in omega (arith, l, n, is)),
        λ x lasso shows at. ((λ t u (c, there). absurd (contains_none u (subst (λ (ts : List (List ℕ)). Contains ts u) (drop_all place tuples high) c))), (λ all. const.values x (s.start + k) (omega (arith, l, is)))),
      );
}

pub tuples_all : (ground : Ground) (known : Known) (old new : (ℕ → Bool) → Node → Bool) (before : List MatrixEntries) (at_start : Bool) (word : Multiplicity) (other : Term) (set : List ℕ) (tuples : List (List ℕ)) (nodes : List Node) (place : ℕ) (row : List Node) → place ≡ 0 → TuplesTo ground known old new before at_start word other set tuples nodes place row → TuplesFit ground known old new before at_start word other set tuples nodes row
tuples_all ground known old new before at_start word other set tuples nodes place row none to = record {
  right = λ h is le end say.
      let r = read_in ground known h in
      subst (λ (n : ℕ). MarksSets r old new before set (λ lasso k E. EndHolds (world_of r.scopes lasso) (names_of r.atoms) k at_start word other E (λ s. Contains (drop n tuples) s × InTerm (world_of r.scopes lasso) no_bodies end (names_of r.atoms) k s)) row) none (to.right h is le end say);
}

-- ---- rows for sets

module _ {S : Type 0} (belongs : S → Node → Type 0) (value : S → (ℕ → Bool) → Node → Bool) where
  -- the same row and the same sets, later
  pub marks_sets_kept : (r : Reading) (g h : S) → Keeps belongs value g h → (matrices : List MatrixEntries) (set : List ℕ) (P : LassoValue → ℕ → Tuples → Type 0) (row : List Node) → AllIn (belongs g) row → MarksSets r (value g) (value g) matrices set P row → MarksSets r (value g) (value h) matrices set P row
  marks_sets_kept r g h keeps matrices set P row all marks loop k s spot m stands = (
    (marks loop k s spot m stands).0,
    λ x lasso shows at. true_same _ _ (row_kept belongs value g h keeps row all x (s.start + k)) ((marks loop k s spot m stands).1 x lasso shows at),
  )

  -- the sets of an earlier circuit
  marks_back : (r : Reading) (g h : S) → Keeps belongs value g h → (matrices : List MatrixEntries) (set : List ℕ) (P : LassoValue → ℕ → Tuples → Type 0) → ((lasso : LassoValue) (k : ℕ) (D E : Tuples) → SameTuples D E → P lasso k D ↔ P lasso k E) → AllMatrices (belongs g) matrices → (new : (ℕ → Bool) → Node → Bool) (row : List Node) → MarksSets r (value h) new matrices set P row → MarksSets r (value g) new matrices set P row
  marks_back r g h keeps matrices set P same all new row marks loop k s spot m stands = (
    (marks loop k s spot m stands).0,
    λ x lasso shows at. same_trans ((marks loop k s spot m stands).1 x lasso shows at) (same lasso k (set_of (value h x) m) (set_of (value g x) m) (λ t. set_kept belongs value g h keeps matrices set (s.start + k) m stands all x t)),
  )

  marks_on : (r : Reading) (g h : S) → Keeps belongs value g h → (matrices : List MatrixEntries) (set : List ℕ) (P : LassoValue → ℕ → Tuples → Type 0) → ((lasso : LassoValue) (k : ℕ) (D E : Tuples) → SameTuples D E → P lasso k D ↔ P lasso k E) → AllMatrices (belongs g) matrices → (new : (ℕ → Bool) → Node → Bool) (row : List Node) → MarksSets r (value g) new matrices set P row → MarksSets r (value h) new matrices set P row
  marks_on r g h keeps matrices set P same all new row marks loop k s spot m stands = (
    (marks loop k s spot m stands).0,
    λ x lasso shows at. same_trans ((marks loop k s spot m stands).1 x lasso shows at) (same lasso k (set_of (value g x) m) (set_of (value h x) m) (λ t. (let e = set_kept belongs value g h keeps matrices set (s.start + k) m stands all x t in (e.1, e.0)))),
  )

-- another set that is the same
end_same : (w : World) (names : Names) (k : ℕ) (at_start : Bool) (word : Multiplicity) (other : Term) (D E : Tuples) (Allowed : List ℕ → Type 0) → SameTuples D E → EndHolds w names k at_start word other D Allowed ↔ EndHolds w names k at_start word other E Allowed
end_same w names k at_start word other D E Allowed same = (
  (λ all s on. (let (x, y) = all s on in ((multiplicity_same word (with_end at_start s D) (with_end at_start s E) (λ u. same (joined at_start s u))).0 x, fits_to w other names k (with_end at_start s D) (with_end at_start s E) (λ u. same (joined at_start s u)) y))),
  (λ all s on. (let (x, y) = all s on in ((multiplicity_same word (with_end at_start s D) (with_end at_start s E) (λ u. same (joined at_start s u))).1 x, fits_to w other names k (with_end at_start s E) (with_end at_start s D) (λ u. ((same (joined at_start s u)).1, (same (joined at_start s u)).0)) y))),
)

drop_front : {X : Type 0} (xs : List X) (k : ℕ) (x : X) → slice_get xs k ≡ Some x → drop k xs ≡ x ∷ drop (k + 1) xs
drop_front xs k x at = drop_more xs k x (slice_get_within xs k x at) ∙ ap (λ y. y ∷ drop (k + 1) xs) (get_or_from_slice_get xs k x x at)

-- one tuple more
tuples_more : (w : World) (names : Names) (k : ℕ) (at_start : Bool) (word : Multiplicity) (other : Term) (E : Tuples) (In : Tuples) (tuples : List (List ℕ)) (place : ℕ) (s : List ℕ) → slice_get tuples place ≡ Some s
    → (EndHolds w names k at_start word other E (λ t. Contains (drop (place + 1) tuples) t × In t) × (In s → HasMultiplicity word (with_end at_start s E) × Fits w no_bodies other names k (with_end at_start s E)))
    ↔ EndHolds w names k at_start word other E (λ t. Contains (drop place tuples) t × In t)
tuples_more w names k at_start word other E In tuples place s at =
    let rest = drop (place + 1) tuples in
    let split : drop place tuples ≡ s ∷ rest = drop_front tuples place s at in (
      (λ both t (c, there). elim (contains_cases s rest t (subst (λ (ts : List (List ℕ)). Contains ts t) split c)) [
        | inl same ↦ subst (λ (u : List ℕ). HasMultiplicity word (with_end at_start u E) × Fits w no_bodies other names k (with_end at_start u E)) same (both.1 (subst (λ (u : List ℕ). In u) (sym same) there))
        | inr later ↦ both.0 t (later, there)
      ]),
      (λ all. (
        (λ t (c, there). all t (subst (λ (ts : List (List ℕ)). Contains ts t) (sym split) (contains_later s rest t c), there)),
        (λ there. all s (subst (λ (ts : List (List ℕ)). Contains ts s) (sym split) (contains_first s rest), there)),
      )),
    )

module _ {S : Type 0} (belongs : S → Node → Type 0) (value : S → (ℕ → Bool) → Node → Bool) where
  -- g before; h after the rests, with the store b; i after the row of the multiplicity, j after that of the arrows, l after both,
  -- n at the end
  pub adds_tuple : (ground : Ground) (known : Known) (g h i j l n : S) (a b c : Store) (at_start : Bool) (word : Multiplicity) (other : Term) (set rest : List ℕ) (tuples : List (List ℕ)) (nodes : List Node) (place from many : ℕ) (s : List ℕ) (all words fits more row : List Node)
      → Keeps belongs value g h → Keeps belongs value h i → Keeps belongs value i j → Keeps belongs value j l → AreStored (belongs g) a → AreStored (belongs h) b → Extends a b → Stays b c → AllIn (belongs g) all → AllIn (belongs g) nodes → AllIn (belongs i) words
      → slice_get tuples place ≡ Some s → many ≡ length ground.setting.frame.now.shown.items → from ≡ place * many
      → AreRests at_start s (value g) (value h) a.matrices.items b.matrices.items set rest → HasWord word (value h) (value i) b.matrices.items rest words
      → FitsSets ground known (value i) (value j) c.matrices.items other rest fits → AreBoth (value j) (value l) words fits more → IsHeld (value l) (value n) all more nodes from row
      → AddsTuple ground known (value g) (value n) a.matrices.items at_start word other set tuples nodes place all row
  adds_tuple ground known g h i j l n a b c at_start word other set rest tuples nodes place from many s all words fits more row k_gh k_hi k_ij k_jl stored stored_b extends stays in_all in_nodes in_words at many_is from_is rests has_word has_fits both held = record {
    right = λ d is le end say so_far loop k t spot m stands.
        let r = read_in ground known d in
        let k_gi = keeps_trans belongs value g h i k_gh k_hi in
        let k_gj = keeps_trans belongs value g i j k_gi k_ij in
        let k_gl = keeps_trans belongs value g j l k_gj k_jl in
        let p = t.start + k in
        let (lt, says) = so_far loop k t spot m stands in
        let (rest_m, rest_stands, rest_means) = rests p m stands in
        let (lt_word, word_says) = has_word p rest_m rest_stands in
        let is_b = ground_kept belongs value ground known g h k_gh a b stored extends d is in
        let is_i = ground_kept belongs value ground known h i k_hi b c stored_b (stays_extends b c stays) d is_b in
        let stands_c = subst (λ (ms : List MatrixEntries). StandsAt ms rest p rest_m) (sym stays.matrices) rest_stands in
        let (lt_fits, fits_says) = has_fits.right d is_i le loop k t spot rest_m stands_c in (
          (let e = held.long in omega (arith, e, lt)),
          λ x lasso shows at_loop.
              let w = world_of r.scopes lasso in
              let names = names_of r.atoms in
              let E = set_of (value g x) m in
              let W = with_end at_start s E in
              let R = set_of (value h x) rest_m in
              let same : SameTuples R W = λ u. rest_means x u in
              let back : SameTuples W R = λ u. ((same u).1, (same u).0) in
              let R_i = set_of (value i x) rest_m in
              let same_i : SameTuples R_i R = λ u. set_kept belongs value h i k_hi b.matrices.items rest p rest_m rest_stands stored_b.matrices x u in
              let to_w : SameTuples R_i W = λ u. same_trans (same_i u) (same u) in
              let words_now = true_same _ _ (row_kept belongs value i j k_ij words in_words x p) (same_trans (word_says x) (multiplicity_same word R W same)) in
              let fits_now = same_trans (fits_says x lasso shows at_loop) ((λ y. fits_to w other names k R_i W to_w y), (λ y. fits_to w other names k W R_i (λ u. ((to_w u).1, (to_w u).0)) y)) in
              let both_now = both_means _ _ _ (both.values x p lt_word) words_now fits_now in
              let first = true_same _ _ (row_kept belongs value g l k_gl all in_all x p) (says x lasso shows at_loop) in
              let said = true_same _ _ (row_kept belongs value g l k_gl nodes in_nodes x (from + p)) (subst (λ (m' : ℕ). IsTrue (row_value (value g x) nodes (m' + p)) ↔ InTerm w no_bodies end names k s) (sym (from_is ∙ ap (λ (m' : ℕ). place * m') many_is)) (say.values loop k t spot x lasso shows at_loop place s at)) in
              same_trans (held_means _ _ _ _ (held.values x p lt) first both_now said) (tuples_more w names k at_start word other E (InTerm w no_bodies end names k) tuples place s at),
        );
  }

  -- the two ends of an arrow
  pub arrow_fits : (ground : Ground) (known : Known) (g h i j : S) (a b : Store) (x y : Term) (m n : Multiplicity) (set : List ℕ) (first second row : List Node) → Keeps belongs value g h → Keeps belongs value h i → AreStored (belongs g) a → Stays a b → AllIn (belongs h) first
      → EndFits ground known (value g) (value h) a.matrices.items true n x y set first → EndFits ground known (value h) (value i) b.matrices.items false m y x set second → AreBoth (value i) (value j) first second row
      → FitsSets ground known (value g) (value j) a.matrices.items (product x m n y) set row
  arrow_fits ground known g h i j a b x y m n set first second row k_gh k_hi stored stays in_first one two both = record {
    right = λ d is le loop k t spot mat stands.
        let r = read_in ground known d in
        let p = t.start + k in
        let is_b = ground_kept belongs value ground known g h k_gh a b stored (stays_extends a b stays) d is in
        let stands_b = subst (λ (ms : List MatrixEntries). StandsAt ms set p mat) (sym stays.matrices) stands in
        let (lt, says) = one.right d is (max_left _ _ d le) (max_right _ _ d le) loop k t spot mat stands in
        let (lt', says') = two.right d is_b (max_right _ _ d le) (max_left _ _ d le) loop k t spot mat stands_b in (
          (let e = both.long in omega (arith, e, lt)),
          λ v lasso shows at_loop.
              let w = world_of r.scopes lasso in
              let names = names_of r.atoms in
              let E = set_of (value g v) mat in
              let D = set_of (value h v) mat in
              let same : SameTuples D E = λ u. set_kept belongs value g h k_gh a.matrices.items set p mat stands stored.matrices v u in
              let first_now = true_same _ _ (row_kept belongs value h i k_hi first in_first v p) (says v lasso shows at_loop) in
              let second_now = same_trans (says' v lasso shows at_loop) (end_same w names k false m x D E (InTerm w no_bodies y names k) same) in
              both_means _ _ _ (both.values v p lt) first_now second_now,
        );
  }

-- an end that asks nothing
pub end_silent : (ground : Ground) (known : Known) (old new : (ℕ → Bool) → Node → Bool) (before : List MatrixEntries) (at_start : Bool) (word : Multiplicity) (end other : Term) (set : List ℕ) (many : ℕ) (row : List Node) → many ≡ length set → IsSilent word other → IsConstant new many true row → EndFits ground known old new before at_start word end other set row
end_silent ground known old new before at_start word end other set many row is silent const = record {
  right = λ d of le more loop k t spot m (o, at, stands). (
    (let l = slice_get_within set (t.start + k) o at in let n = const.long in omega (arith, l, n, is)),
    λ x lasso shows at_loop. (
      (λ y s on. silent_fits (world_of (read_in ground known d).scopes lasso) word other (names_of (read_in ground known d).atoms) k (with_end at_start s (set_of (old x) m)) silent),
      (λ y. const.values x (t.start + k) (let l = slice_get_within set (t.start + k) o at in omega (arith, l, is))),
    ),
  );
}

-- ---- a step, and an end

ends_same : (w : World) (names : Names) (k : ℕ) (at_start : Bool) (word : Multiplicity) (other : Term) (D E : Tuples) (In : Tuples) (tuples : List (List ℕ)) → SameTuples D E → ((s : List ℕ) → In s → Contains tuples s) → EndHolds w names k at_start word other D (λ s. Contains tuples s × In s) ↔ EndHolds w names k at_start word other E In
ends_same w names k at_start word other D E In tuples same within_them = same_trans ((λ all s on. all s (within_them s on, on)), (λ all s (c, on). all s on)) (end_same w names k at_start word other D E In same)

module _ {S : Type 0} (belongs : S → Node → Type 0) (value : S → (ℕ → Bool) → Node → Bool) (ground : Ground) (known : Known) where
  pub tuples_step : (first now later : S) (a b : Store) (at_start : Bool) (word : Multiplicity) (other : Term) (set : List ℕ) (tuples : List (List ℕ)) (nodes : List Node) (place : ℕ) (all more : List Node) → Keeps belongs value first now → AreStored (belongs first) a → Stays a b → AllIn (belongs first) nodes
      → TuplesTo ground known (value first) (value now) a.matrices.items at_start word other set tuples nodes (place + 1) all → AddsTuple ground known (value now) (value later) b.matrices.items at_start word other set tuples nodes place all more → TuplesTo ground known (value first) (value later) a.matrices.items at_start word other set tuples nodes place more
  tuples_step first now later a b at_start word other set tuples nodes place all more keeps stored stays in_nodes to adds = record {
    right = λ h is le end say.
        let r = read_in ground known h in
        let is_b = ground_kept belongs value ground known first now keeps a b stored (stays_extends a b stays) h is in
        let said = say_kept belongs value r first now keeps end tuples nodes in_nodes say in
        let P = λ (n : ℕ) (lasso : LassoValue) (k : ℕ) (E : Tuples). EndHolds (world_of r.scopes lasso) (names_of r.atoms) k at_start word other E (λ s. Contains (drop n tuples) s × InTerm (world_of r.scopes lasso) no_bodies end (names_of r.atoms) k s) in
        let same = λ (n : ℕ) (lasso : LassoValue) (k : ℕ) (D E : Tuples) (e : SameTuples D E). end_same (world_of r.scopes lasso) (names_of r.atoms) k at_start word other D E (λ s. Contains (drop n tuples) s × InTerm (world_of r.scopes lasso) no_bodies end (names_of r.atoms) k s) e in
        let old = marks_on belongs value r first now keeps a.matrices.items set (P (place + 1)) (same (place + 1)) stored.matrices (value now) all (to.right h is le end say) in
        let old_b = subst (λ (ms : List MatrixEntries). MarksSets r (value now) (value now) ms set (P (place + 1)) all) (sym stays.matrices) old in
        let new_b = adds.right h is_b le end said old_b in
        let new = subst (λ (ms : List MatrixEntries). MarksSets r (value now) (value later) ms set (P place) more) stays.matrices new_b in
        marks_back belongs value r first now keeps a.matrices.items set (P place) (same place) stored.matrices (value later) more new;
  }

  pub end_law : (g h i : S) (a b c : Store) (at_start : Bool) (word : Multiplicity) (end other : Term) (set numbers : List ℕ) (tuples : List (List ℕ)) (nodes row : List Node) → Keeps belongs value g h → AreStored (belongs g) a → Extends a b → Stays b c → length numbers ≡ length ground.setting.frame.now.shown.items
      → HasSets ground known (value g) (value h) a.matrices.items b.matrices.items end numbers → HasMembers b.matrices.items numbers tuples → SayMembers (value h) b.matrices.items numbers tuples nodes → TuplesFit ground known (value h) (value i) c.matrices.items at_start word other set tuples nodes row
      → EndFits ground known (value g) (value i) a.matrices.items at_start word end other set row
  end_law g h i a b c at_start word end other set numbers tuples nodes row keeps stored extends stays long sets have say fits = record {
    right = λ n is le_end le_other loop k s spot m stands.
        let r = read_in ground known n in
        let right = sets.right n is le_end in
        let is_b = ground_kept belongs value ground known g h keeps a b stored extends n is in
        let is_c : IsGround ground (value h) c.matrices.items n = subst (λ (ms : List MatrixEntries). IsGround ground (value h) ms n) (sym stays.matrices) is_b in
        let said = members_right r (value h) b.matrices.items end numbers tuples nodes long right have say in
        let (o, at, there) = stands in
        let stands_b : StandsAt b.matrices.items set (s.start + k) m = (o, at, extends.matrices o m there) in
        let stands_c = subst (λ (ms : List MatrixEntries). StandsAt ms set (s.start + k) m) (sym stays.matrices) stands_b in
        let (lt, says) = fits.right n is_c le_other end said loop k s spot m stands_c in (
          lt,
          λ x lasso shows at_loop.
              let w = world_of r.scopes lasso in
              let names = names_of r.atoms in
              same_trans (says x lasso shows at_loop) (ends_same w names k at_start word other (set_of (value h x) m) (set_of (value g x) m) (InTerm w no_bodies end names k) tuples
              (λ t. set_kept belongs value g h keeps a.matrices.items set (s.start + k) m stands stored.matrices x t)
              (λ t on. said.all loop k s spot x lasso shows at_loop t on)),
        );
  }

-- a bound without arrows
pub fits_silent : (ground : Ground) (known : Known) (old new : (ℕ → Bool) → Node → Bool) (before : List MatrixEntries) (bound : Term) (set : List ℕ) (many : ℕ) (row : List Node) → many ≡ length set → IsSilent Set bound → IsConstant new many true row → FitsSets ground known old new before bound set row
fits_silent ground known old new before bound set many row is silent const = record {
  right = λ d of le loop k t spot m (o, at, stands). (
    (let l = slice_get_within set (t.start + k) o at in let n = const.long in omega (arith, l, n, is)),
    λ x lasso shows at_loop. (
      (λ y. (silent_fits (world_of (read_in ground known d).scopes lasso) Set bound (names_of (read_in ground known d).atoms) k (set_of (old x) m) silent).1),
      (λ y. const.values x (t.start + k) (let l = slice_get_within set (t.start + k) o at in omega (arith, l, is))),
    ),
  );
}

-- ---- the formula

marks_words : (r : Reading) (old new : (ℕ → Bool) → Node → Bool) (matrices : List MatrixEntries) (e : Term) (set : List ℕ) (word : Multiplicity) (row : List Node) → AreRight r old matrices e set → HasWord word old new matrices set row → Marks r new (λ lasso k. HasMultiplicity word (InTerm (world_of r.scopes lasso) no_bodies e (names_of r.atoms) k)) row
marks_words r old new matrices e set word row right has = record {
  inside = λ loop k s spot. (let (m, stands, means) = right.sets loop k s spot in (has (s.start + k) m stands).0);
  holds = λ loop k s spot x lasso shows at.
      let (m, stands, means) = right.sets loop k s spot in
      same_trans ((has (s.start + k) m stands).1 x) (multiplicity_same word (set_of (old x) m) (InTerm (world_of r.scopes lasso) no_bodies e (names_of r.atoms) k) (means x lasso shows at));
}

marks_fits : (r : Reading) (old new : (ℕ → Bool) → Node → Bool) (matrices : List MatrixEntries) (e f : Term) (set : List ℕ) (row : List Node) → AreRight r old matrices e set → MarksSets r old new matrices set (λ lasso k E. Fits (world_of r.scopes lasso) no_bodies f (names_of r.atoms) k E) row → Marks r new (λ lasso k. Fits (world_of r.scopes lasso) no_bodies f (names_of r.atoms) k (InTerm (world_of r.scopes lasso) no_bodies e (names_of r.atoms) k)) row
marks_fits r old new matrices e f set row right fits = record {
  inside = λ loop k s spot. (let (m, stands, means) = right.sets loop k s spot in (fits loop k s spot m stands).0);
  holds = λ loop k s spot x lasso shows at.
      let (m, stands, means) = right.sets loop k s spot in
      let w = world_of r.scopes lasso in
      let names = names_of r.atoms in
      let D = set_of (old x) m in
      let E = InTerm w no_bodies e names k in
      let same = means x lasso shows at in
      same_trans ((fits loop k s spot m stands).1 x lasso shows at) ((λ y. fits_to w f names k D E same y), (λ y. fits_to w f names k E D (λ t. ((same t).1, (same t).0)) y));
}

marks_both : (r : Reading) (old new : (ℕ → Bool) → Node → Bool) (P Q : LassoValue → ℕ → Type 0) (a b row : List Node) → Marks r old P a → Marks r old Q b → AreBoth old new a b row → Marks r new (λ lasso k. P lasso k × Q lasso k) row
marks_both r old new P Q a b row first second both = record {
  inside = λ loop k s spot. (let w = first.inside loop k s spot in let l = both.long in omega (arith, w, l));
  holds = λ loop k s spot x lasso shows at. both_means _ _ _ (both.values x (s.start + k) (first.inside loop k s spot)) (first.holds loop k s spot x lasso shows at) (second.holds loop k s spot x lasso shows at);
}

module _ {S : Type 0} (belongs : S → Node → Type 0) (value : S → (ℕ → Bool) → Node → Bool) (ground : Ground) (known : Known) where
  -- g before; h after the first set, i after the second; then after where it lies, the multiplicity, both, the arrows, all
  pub within_all : (g h i j l m o p : S) (a b c d q : Store) (e f : Term) (word : Multiplicity) (first second : List ℕ) (lies words so_far fits row : List Node) → Keeps belongs value g h → Keeps belongs value h i → Keeps belongs value i j → Keeps belongs value j l → Keeps belongs value l m → Keeps belongs value m o
      → AreStored (belongs g) a → AreStored (belongs h) b → AreStored (belongs i) c → AreStored (belongs j) d → AreStored (belongs m) q → Extends a b → Extends b c → Stays c d → Stays d q → AllIn (belongs j) lies → AllIn (belongs m) so_far
      → HasSets ground known (value g) (value h) a.matrices.items b.matrices.items e first → HasSets ground known (value h) (value i) b.matrices.items c.matrices.items f second
      → ((r : Reading) → AreRight r (value i) c.matrices.items e first → AreRight r (value i) c.matrices.items f second → IsRight r (value j) (inside e f) lies)
      → HasWord word (value j) (value l) d.matrices.items first words → AreBoth (value l) (value m) lies words so_far → FitsSets ground known (value m) (value o) q.matrices.items f first fits → AreBoth (value o) (value p) so_far fits row
      → HasRow ground known (value g) (value p) a.matrices.items (within e word f) row
  within_all g h i j l m o p a b c d q e f word first second lies words so_far fits row k_gh k_hi k_ij k_jl k_lm k_mo stored_a stored_b stored_c stored_d stored_q ex_ab ex_bc st_cd st_dq in_lies in_so_far left right inside_is has_word both has_fits all = record {
    right = λ n is le.
        let r = read_in ground known n in
        let le_e = max_left _ _ n le in
        let le_f = max_right _ _ n le in
        let is_b = ground_kept belongs value ground known g h k_gh a b stored_a ex_ab n is in
        let is_c = ground_kept belongs value ground known h i k_hi b c stored_b ex_bc n is_b in
        let is_d = ground_kept belongs value ground known i j k_ij c d stored_c (stays_extends c d st_cd) n is_c in
        let k_jm = keeps_trans belongs value j l m k_jl k_lm in
        let is_q = ground_kept belongs value ground known j m k_jm d q stored_d (stays_extends d q st_dq) n is_d in
        let one = are_kept belongs value ground known h i k_hi b c stored_b ex_bc r e first (left.right n is le_e) in
        let two = right.right n is_b le_f in
        let one_d = are_kept belongs value ground known i j k_ij c d stored_c (stays_extends c d st_cd) r e first one in
        let one_q = are_kept belongs value ground known j m k_jm d q stored_d (stays_extends d q st_dq) r e first one_d in
        let W = λ (lasso : LassoValue). world_of r.scopes lasso in
        let In = λ (lasso : LassoValue) (k : ℕ). IsInside (InTerm (W lasso) no_bodies e (names_of r.atoms) k) (InTerm (W lasso) no_bodies f (names_of r.atoms) k) in
        let Word = λ (lasso : LassoValue) (k : ℕ). HasMultiplicity word (InTerm (W lasso) no_bodies e (names_of r.atoms) k) in
        let Arrows = λ (lasso : LassoValue) (k : ℕ). Fits (W lasso) no_bodies f (names_of r.atoms) k (InTerm (W lasso) no_bodies e (names_of r.atoms) k) in
        let lies_is = inside_is r one two in
        let lies_marks : Marks r (value j) In lies = record { inside = lies_is.inside; holds = lies_is.holds } in
        let lies_now = marks_kept belongs value r j l k_jl In lies in_lies lies_marks in
        let words_now = marks_words r (value j) (value l) d.matrices.items e first word words one_d has_word in
        let front = marks_both r (value l) (value m) In Word lies words so_far lies_now words_now both in
        let front_now = marks_kept belongs value r m o k_mo (λ lasso k. In lasso k × Word lasso k) so_far in_so_far front in
        let fits_now = marks_fits r (value m) (value o) q.matrices.items e f first fits one_q (has_fits.right n is_q le_f) in
        let whole = marks_both r (value o) (value p) (λ lasso k. In lasso k × Word lasso k) Arrows so_far fits row front_now fits_now all in
        record {
          inside = whole.inside;
          holds = λ loop k s spot x lasso shows at. same_trans (whole.holds loop k s spot x lasso shows at) ((λ y. (y.0.0, y.0.1, y.1)), (λ y. ((y.0, y.1), y.2)));
        };
  }
