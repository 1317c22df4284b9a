-- Rows and sets that are made of right ones are right.
use Rattle.std.proofs.Common.{◌≡◌, ◌↔◌, ◌<◌, ◌≤◌, ◌+◌, ◌-◌, ◌&&◌, ℕ, zero, suc, eqb, Bool, true, false, not, IsTrue, List, [], ◌∷◌, ◌++◌, length, replicate, slice_get, Option, Some, refl, sym, ap, ◌∙◌, subst, arith, if◌then◌else◌}
use Rattle.gate_trait.specs.declared.node.Node.{Node}
use Rattle.core_tree.specs.Trees.{Term, Claim, Claims, name, empty, combine, product, unary, prime, inside, equal, test, negation, every, temporal, temporal_pair, no_claims, more_claims}
use Rattle.core_tree.specs.Past.{no_depths, past_in, past_of}
use Rattle.core_tree.specs.declared.operators.Multiplicity.TheVariants.{Set}
use Rattle.core_tree.specs.declared.operators.RelationOp.{RelationOp}
use Rattle.core_tree.specs.declared.operators.TemporalUnary.TheVariants.{After as AfterOf, Before as BeforeOf}
use Rattle.core_tree.specs.declared.operators.TemporalBinary.TheVariants.{Until as UntilOf, Since as SinceOf}
use Rattle.core_tree.specs.declared.operators.UnaryRelation.TheVariants.{Transpose as TransposeOf, Closure as ClosureOf}
use Rattle.core_tree.specs.declared.operators.Quantity.TheVariants.{Some as SomeOf, No as NoneOf, One as OneOf, Lone as LoneOf}
use Rattle.core_meaning.specs.Sequence.{LassoValue}
use Rattle.core_meaning.specs.World.{World}
use Rattle.core_meaning.specs.Kept.{world_of}
use Rattle.core_meaning.specs.Operators.{Tuples}
use Rattle.core_meaning.specs.Meaning.{atom, one_of, InTerm, Holds}
use Rattle.core_meaning.specs.Called.{no_bodies}
use Rattle.core_window.proofs.SameLemmas.{same_trans, combined_same, product_same, closure_same, inside_same, some_same, lone_same}
use Rattle.gate_matrix.specs.Matrices.{MatrixEntries, truth}
use Rattle.gate_operators.specs.Sets.{MeansSet, set_of}
use Rattle.gate_sets.specs.Sets.{one_atom}
use Rattle.gate_sets.specs.declared.operators.SetOperator.TheVariants.{Combine, Product, Transpose, Closure}
use Rattle.gate_sets.specs.declared.questions.Question.TheVariants.{Inside, Some as SomeQuestion, Lone as LoneQuestion}
use Rattle.gate_temporal.specs.Rows.{row_value, folded}
use Rattle.gate_temporal.specs.Times.{UntilAt, SinceAt}
use Rattle.bmc_windows.specs.Frames.{place_next}
use Rattle.bmc_windows.proofs.PushLemmas.{push_last}
use Rattle.bmc_stack.specs.declared.windows.TimeOperator.TheVariants.{Before, Since}
use Rattle.bmc_windows.specs.declared.frame.Stretch.{Stretch}
use Rattle.bmc_stack.specs.Rows.{AreBoth, IsAlong, IsNegated, IsConstant}
use Rattle.bmc_stack.specs.Sets.{StandsAt, AreMade, AreAnswered}
use Rattle.bmc_leaves.specs.Shown.{Atoms, names_of, atom_in, Reading, under, IsReading, HasPlace, IsRight, HaveTuples, AreRight, none_nested}
use Rattle.bmc_leaves.specs.Loops.{GoesRound, IsNextIn}
use Rattle.bmc_leaves.proofs.LoopLaws.{IsShownIn, shown_in}
use Rattle.bmc_leaves.proofs.PlaceLaws.{holds_folds, term_folds, loop_of, place_within, next_is, next_place, next_at, next_in, loop_below, fold_place, back_is}
use Rattle.core_window.specs.Repeats.{repeats_from, fold_of}

-- the same reading where names stand for atoms
pub ok_under : (r : Reading) (atoms : Atoms) → IsReading r → IsReading (under r atoms)
ok_under r atoms ok = record { frame = ok.frame; few = ok.few; universe = ok.universe }

pub true_same : {P : Type 0} (a b : Bool) → a ≡ b → IsTrue b ↔ P → IsTrue a ↔ P
true_same a b e h = ((λ t. h.0 (sym e ∙ t)), (λ p. e ∙ h.1 p))

pub not_means : {P : Type 0} (v b : Bool) → v ≡ not b → IsTrue b ↔ P → IsTrue v ↔ (¬ P)
not_means v true e h = ((λ t. let clash : false ≡ true = sym e ∙ t in absurd cc), (λ never. absurd (never (h.0 refl))))
not_means v false e h = ((λ t p. let clash : false ≡ true = h.1 p in absurd cc), (λ never. e))

pub both_means : {P Q : Type 0} (v a b : Bool) → v ≡ (a && b) → IsTrue a ↔ P → IsTrue b ↔ Q → IsTrue v ↔ (P × Q)
both_means v true true e f g = ((λ t. (f.0 refl, g.0 refl)), (λ p. e))
both_means v true false e f g = ((λ t. let clash : false ≡ true = sym e ∙ t in absurd cc), (λ p. let clash : false ≡ true = g.1 p.1 in absurd cc))
both_means v false b e f g = ((λ t. let clash : false ≡ true = sym e ∙ t in absurd cc), (λ p. let clash : false ≡ true = f.1 p.0 in absurd cc))

pub until_means : (F G H K : ℕ → Type 0) (i : ℕ) (v : Bool) → IsTrue v ↔ UntilAt F G i → ((j : ℕ) → F j ↔ H j) → ((j : ℕ) → G j ↔ K j) → IsTrue v ↔ UntilAt H K i
until_means F G H K i v h f g = (
  (λ e. let (j, low, at, before) = h.0 e in (j, low, (g j).0 at, λ k lo hi. (f k).0 (before k lo hi))),
  (λ (j, low, at, before). h.1 (j, low, (g j).1 at, λ k lo hi. (f k).1 (before k lo hi))),
)

pub since_means : (F G H K : ℕ → Type 0) (i : ℕ) (v : Bool) → IsTrue v ↔ SinceAt F G i → ((j : ℕ) → j ≤ i → F j ↔ H j) → ((j : ℕ) → j ≤ i → G j ↔ K j) → IsTrue v ↔ SinceAt H K i
since_means F G H K i v h f g = (
  (λ e. let (j, le, at, after) = h.0 e in (j, le, (g j le).0 at, λ k lo hi. (f k hi).0 (after k lo hi))),
  (λ (j, le, at, after). h.1 (j, le, (g j le).1 at, λ k lo hi. (f k hi).1 (after k lo hi))),
)

pub before_means : (F H : ℕ → Type 0) (i : ℕ) (v : Bool) → IsTrue v ↔ ((0 < i) × F (i - 1)) → (0 < i → F (i - 1) ↔ H (i - 1)) → IsTrue v ↔ ((0 < i) × H (i - 1))
before_means F H i v h f = ((λ e. let p = h.0 e in (p.0, (f p.0).0 p.1)), (λ p. h.1 (p.0, (f p.0).1 p.1)))

-- ---- rows

pub negation_right : (r : Reading) (value : (ℕ → Bool) → Node → Bool) (f : Claim) (row new : List Node) → IsRight r value f row → IsNegated value row new → IsRight r value (negation f) new
negation_right r value f row new right neg = record {
  inside = λ loop k s place. (let a = right.inside loop k s place in let b = neg.long in omega (arith, a, b));
  holds = λ loop k s place x lasso shows at. not_means _ _ (neg.values x (s.start + k) (right.inside loop k s place)) (right.holds loop k s place x lasso shows at);
}

pub nothing_right : (r : Reading) (value : (ℕ → Bool) → Node → Bool) (row : List Node) → IsReading r → IsConstant value (length r.frame.shown.items) true row → IsRight r value (every no_claims) row
nothing_right r value row ok const = record {
  inside = λ loop k s place. (let a = place_within r ok loop k s place in let b = const.long in omega (arith, a, b));
  holds = λ loop k s place x lasso shows at. ((λ t. tt), (λ u. const.values x (s.start + k) (place_within r ok loop k s place)));
}

-- one formula more at the head of a list
pub more_right : (r : Reading) (old new : (ℕ → Bool) → Node → Bool) (g : Claim) (gs : Claims) (a b row : List Node) → IsRight r old (every gs) a → IsRight r old g b → AreBoth old new a b row → IsRight r new (every (more_claims g gs)) row
more_right r old new g gs a b row first second both = record {
  inside = λ loop k s place. (let l = first.inside loop k s place in let m = both.long in omega (arith, l, m));
  holds = λ loop k s place x lasso shows at.
      let h = both_means _ _ _ (both.values x (s.start + k) (first.inside loop k s place)) (first.holds loop k s place x lasso shows at) (second.holds loop k s place x lasso shows at) in
      ((λ t. let p = h.0 t in (p.1, p.0)), (λ p. h.1 (p.1, p.0)));
}

pub after_right : (r : Reading) (old new : (ℕ → Bool) → Node → Bool) (f : Claim) (row next : List Node) → IsReading r → past_of none_nested f no_depths ≤ r.depth → IsRight r old f row → length next ≡ length r.frame.next.items
    → ((x : ℕ → Bool) (s : Stretch) (i j : ℕ) → IsShownIn r x s → slice_get r.frame.next.items i ≡ Some j → IsNextIn s i j → row_value (new x) next i ≡ row_value (old x) row j)
    → IsRight r new (temporal AfterOf f) next
after_right r old new f row next ok le right long nexts = record {
  inside = λ loop k s place. (let a = place_within r ok loop k s place in let c = ok.frame.together in omega (arith, a, long, c));
  holds = λ loop k s place x lasso shows at.
      let some = loop_below r ok loop k s place in
      let n = place_next r.bounds.states (r.depth + 1) loop k in
      let there = next_place r ok loop k s some place in
      let same = nexts x s (s.start + k) (s.start + n) (shown_in r x lasso loop k s shows at place) (next_at r ok loop k s place) (next_in r ok loop k s place) in
      let folds = holds_folds (world_of r.scopes lasso) r.atoms f r.depth (k + 1) (loop_of r x lasso shows) ok.few le in
      let is = next_is r ok x lasso loop k s shows at place in
      let here = right.holds loop n s there x lasso shows at in
      true_same _ _ same (same_trans (subst (λ (j : ℕ). IsTrue (row_value (old x) row (s.start + n)) ↔ Holds (world_of r.scopes lasso) no_bodies f (names_of r.atoms) j) is here) folds);
}

-- along the window of the loop
pub until_right : (r : Reading) (old new : (ℕ → Bool) → Node → Bool) (f g : Claim) (a b row : List Node) → IsReading r → past_of none_nested f no_depths ≤ r.depth → past_of none_nested g no_depths ≤ r.depth → IsRight r old f a → IsRight r old g b → length row ≡ length r.frame.shown.items
    → ((x : ℕ → Bool) (s : Stretch) → IsShownIn r x s → GoesRound (old x) (new x) s a b row)
    → IsRight r new (temporal_pair UntilOf f g) row
until_right r old new f g a b row ok le le_g first second long along = record {
  inside = λ loop k s place. (let l = place_within r ok loop k s place in omega (arith, l, long));
  holds = λ loop k s place x lasso shows at.
      let w = world_of r.scopes lasso in
      let back = back_is r ok x lasso loop k s shows at place in
      let some = loop_of r x lasso shows in
      let is = λ (j : ℕ). ap (λ (m : ℕ). folded m (s.end - s.start - (s.back - s.start)) j) back.0 ∙ ap (λ (p : ℕ). folded (repeats_from lasso r.depth) p j) back.1 in
      let there = fold_place r ok x lasso loop k s shows at place in
      let left = λ (j : ℕ). same_trans (true_same _ _ (ap (λ (n : ℕ). row_value (old x) a (s.start + n)) (is j)) (first.holds loop (fold_of lasso r.depth j) s (there j) x lasso shows at)) (holds_folds w r.atoms f r.depth j some ok.few le) in
      let right = λ (j : ℕ). same_trans (true_same _ _ (ap (λ (n : ℕ). row_value (old x) b (s.start + n)) (is j)) (second.holds loop (fold_of lasso r.depth j) s (there j) x lasso shows at)) (holds_folds w r.atoms g r.depth j some ok.few le_g) in
      until_means _ _ (λ j. Holds w no_bodies f (names_of r.atoms) j) (λ j. Holds w no_bodies g (names_of r.atoms) j) k _ (along x s (shown_in r x lasso loop k s shows at place) k place.1) left right;
}

pub since_right : (r : Reading) (old new : (ℕ → Bool) → Node → Bool) (f g : Claim) (a b row : List Node) → IsReading r → IsRight r old f a → IsRight r old g b → IsAlong Since old new r.frame a b row → IsRight r new (temporal_pair SinceOf f g) row
since_right r old new f g a b row ok first second along = record {
  inside = λ loop k s place. (let l = place_within r ok loop k s place in let m = along.long in omega (arith, l, m));
  holds = λ loop k s place x lasso shows at.
      let w = world_of r.scopes lasso in
      let lt = place.1 in
      let earlier = λ (j : ℕ) (le : j ≤ k). (let there : HasPlace r.frame loop s j = (place.0, omega (arith, le, lt)) in there) in
      since_means _ _ (λ j. Holds w no_bodies f (names_of r.atoms) j) (λ j. Holds w no_bodies g (names_of r.atoms) j) k _ (along.values x loop s place.0 k place.1)
      (λ j le. first.holds loop j s (earlier j le) x lasso shows at) (λ j le. second.holds loop j s (earlier j le) x lasso shows at);
}

pub before_right : (r : Reading) (old new : (ℕ → Bool) → Node → Bool) (g : Claim) (a b row : List Node) → IsReading r → IsRight r old g b → IsAlong Before old new r.frame a b row → IsRight r new (temporal BeforeOf g) row
before_right r old new g a b row ok second along = record {
  inside = λ loop k s place. (let l = place_within r ok loop k s place in let m = along.long in omega (arith, l, m));
  holds = λ loop k s place x lasso shows at.
      let w = world_of r.scopes lasso in
      let lt = place.1 in
      before_means (λ j. IsTrue (row_value (old x) b (s.start + j))) (λ j. Holds w no_bodies g (names_of r.atoms) j) k _ (along.values x loop s place.0 k place.1)
      (λ some. (let there : HasPlace r.frame loop s (k - 1) = (place.0, omega (arith, lt)) in second.holds loop (k - 1) s there x lasso shows at));
}

-- ---- sets

pub combine_right : (r : Reading) (old new : (ℕ → Bool) → Node → Bool) (before after : List MatrixEntries) (op : RelationOp) (a b : Term) (first second row : List ℕ) → AreRight r old before a first → AreRight r old before b second → AreMade (Combine op) old new before after first second row → AreRight r new after (combine op a b) row
combine_right r old new before after op a b first second row left right made = record {
  sets = λ loop k s place.
      let (p, at_p, means_p) = left.sets loop k s place in
      let (q, at_q, means_q) = right.sets loop k s place in
      let (m, there, means) = made (s.start + k) p q at_p at_q in
      (m, there, λ x lasso shows at t. same_trans (means x t) (combined_same op (set_of (old x) p) (InTerm (world_of r.scopes lasso) no_bodies a (names_of r.atoms) k) (set_of (old x) q) (InTerm (world_of r.scopes lasso) no_bodies b (names_of r.atoms) k) (means_p x lasso shows at) (means_q x lasso shows at) t));
}

pub product_right : (r : Reading) (old new : (ℕ → Bool) → Node → Bool) (before after : List MatrixEntries) (a b : Term) (first second row : List ℕ) → AreRight r old before a first → AreRight r old before b second → AreMade Product old new before after first second row → AreRight r new after (product a Set Set b) row
product_right r old new before after a b first second row left right made = record {
  sets = λ loop k s place.
      let (p, at_p, means_p) = left.sets loop k s place in
      let (q, at_q, means_q) = right.sets loop k s place in
      let (m, there, means) = made (s.start + k) p q at_p at_q in
      (m, there, λ x lasso shows at t. same_trans (means x t) (product_same (set_of (old x) p) (InTerm (world_of r.scopes lasso) no_bodies a (names_of r.atoms) k) (set_of (old x) q) (InTerm (world_of r.scopes lasso) no_bodies b (names_of r.atoms) k) (means_p x lasso shows at) (means_q x lasso shows at) t));
}

pub closure_right : (r : Reading) (old new : (ℕ → Bool) → Node → Bool) (before after : List MatrixEntries) (a : Term) (first row : List ℕ) → AreRight r old before a first → AreMade Closure old new before after first first row → AreRight r new after (unary ClosureOf a) row
closure_right r old new before after a first row left made = record {
  sets = λ loop k s place.
      let (p, at_p, means_p) = left.sets loop k s place in
      let (m, there, means) = made (s.start + k) p p at_p at_p in
      (m, there, λ x lasso shows at t. same_trans (means x t) (closure_same (set_of (old x) p) (InTerm (world_of r.scopes lasso) no_bodies a (names_of r.atoms) k) (means_p x lasso shows at) t));
}

pub transpose_right : (r : Reading) (old new : (ℕ → Bool) → Node → Bool) (before after : List MatrixEntries) (a : Term) (first row : List ℕ) → AreRight r old before a first → AreMade Transpose old new before after first first row → AreRight r new after (unary TransposeOf a) row
transpose_right r old new before after a first row left made = record {
  sets = λ loop k s place.
      let (p, at_p, means_p) = left.sets loop k s place in
      let (m, there, means) = made (s.start + k) p p at_p at_p in (
        m,
        there,
        λ x lasso shows at t. (let u = means_p x lasso shows at in same_trans (means x t) (
          (λ (y, z, h, e). (y, z, (u (z ∷ y ∷ [])).0 h, e)),
          (λ (y, z, h, e). (y, z, (u (z ∷ y ∷ [])).1 h, e)),
        )),
      );
}

pub prime_right : (r : Reading) (old new : (ℕ → Bool) → Node → Bool) (before after : List MatrixEntries) (e : Term) (numbers next : List ℕ) → IsReading r → past_in none_nested e no_depths ≤ r.depth → AreRight r old before e numbers
    → ((s : Stretch) (i j : ℕ) (p : MatrixEntries) → slice_get r.frame.next.items i ≡ Some j → IsNextIn s i j → StandsAt before numbers j p → (m : MatrixEntries) × StandsAt after next i m × ((x : ℕ → Bool) → IsShownIn r x s → MeansSet (new x) m (set_of (old x) p)))
    → AreRight r new after (prime e) next
prime_right r old new before after e numbers next ok le right nexts = record {
  sets = λ loop k s place.
      let some = loop_below r ok loop k s place in
      let n = place_next r.bounds.states (r.depth + 1) loop k in
      let there = next_place r ok loop k s some place in
      let (p, at_p, means_p) = right.sets loop n s there in
      let (m, at_m, means) = nexts s (s.start + k) (s.start + n) p (next_at r ok loop k s place) (next_in r ok loop k s place) at_p in (
        m,
        at_m,
        λ x lasso shows loops t.
            let is = next_is r ok x lasso loop k s shows loops place in
            let folds = term_folds (world_of r.scopes lasso) r.atoms e r.depth (k + 1) (loop_of r x lasso shows) ok.few le in
            let here = means_p x lasso shows loops t in
            let moved = same_trans (means x (shown_in r x lasso loop k s shows loops place) t) here in
            same_trans (subst (λ (j : ℕ). (truth (new x) m t ≡ true) ↔ InTerm (world_of r.scopes lasso) no_bodies e (names_of r.atoms) j t) is moved) (folds t),
      );
}

-- a name: the set of its atom at every place
atom_one : (b : Bool) (a i : ℕ) (rest : Option ℕ) (A : Tuples) (t : List ℕ) → one_atom rest t ↔ A t → one_atom (if b then Some a else rest) t ↔ one_of b (atom a i) A t
atom_one true a i rest A t h = ((λ p. p), (λ p. p))
atom_one false a i rest A t h = h

named : (atoms : Atoms) (x i : ℕ) (t : List ℕ) → one_atom (atom_in atoms x) t ↔ names_of atoms x i t
named [] x i t = ((λ p. p), (λ p. p))
named (b ∷ atoms) x i t = atom_one (eqb x b.0) b.1 i (atom_in atoms x) (names_of atoms x i) t (named atoms x i t)

each_same : (n k i : ℕ) → i < n → slice_get (replicate n k) i ≡ Some k
each_same zero k i lt = absurd (omega arith)
each_same (suc n) k zero lt = refl
each_same (suc n) k (suc i) lt = each_same n k i (omega arith)

pub name_right : (r : Reading) → IsReading r → (value : (ℕ → Bool) → Node → Bool) (before after : List MatrixEntries) (m : MatrixEntries) (said : Option ℕ) (x : ℕ) (row : List ℕ) → after ≡ before ++ m ∷ [] → row ≡ replicate (length r.frame.shown.items) (length before) → ((v : ℕ → Bool) → MeansSet (value v) m (one_atom said)) → said ≡ atom_in r.atoms x → AreRight r value after (name x) row
name_right r ok value before after m said x row is long means same = record {
  sets = λ loop k s place. (
    m,
    (length before, ap (λ (ns : List ℕ). slice_get ns (s.start + k)) long ∙ each_same (length r.frame.shown.items) (length before) (s.start + k) (place_within r ok loop k s place), ap (λ (ms : List MatrixEntries). slice_get ms (length before)) is ∙ push_last before m),
    λ v lasso shows at t. same_trans (means v t) (subst (λ (o : Option ℕ). one_atom o t ↔ names_of r.atoms x k t) (sym same) (named r.atoms x k t)),
  );
}

-- the same set at each place
pub everywhere : (r : Reading) → IsReading r → (value : (ℕ → Bool) → Node → Bool) (before after : List MatrixEntries) (m : MatrixEntries) (row : List ℕ) (P : Tuples) (has : LassoValue → ℕ → Tuples) → after ≡ before ++ m ∷ [] → row ≡ replicate (length r.frame.shown.items) (length before) → ((v : ℕ → Bool) → MeansSet (value v) m P) → ((lasso : LassoValue) (k : ℕ) (t : List ℕ) → P t ↔ has lasso k t) → HaveTuples r value after has row
everywhere r ok value before after m row P has is long means same = λ loop k s place. (
  m,
  (length before, ap (λ (ns : List ℕ). slice_get ns (s.start + k)) long ∙ each_same (length r.frame.shown.items) (length before) (s.start + k) (place_within r ok loop k s place), ap (λ (ms : List MatrixEntries). slice_get ms (length before)) is ∙ push_last before m),
  λ v lasso shows at t. same_trans (means v t) (same lasso k t),
)

no_truth : (value : Node → Bool) (m : MatrixEntries) (arity : ℕ) (t : List ℕ) → m ≡ record { arity = arity; entries = [] } → (truth value m t ≡ true) ↔ ⊥
no_truth value m arity t is = ((λ e. let clash : false ≡ true = sym (ap (λ (n : MatrixEntries). truth value n t) is) ∙ e in absurd cc), (λ never. absurd never))

pub empty_right : (r : Reading) → IsReading r → (value : (ℕ → Bool) → Node → Bool) (before after : List MatrixEntries) (m : MatrixEntries) (row : List ℕ) → after ≡ before ++ m ∷ [] → row ≡ replicate (length r.frame.shown.items) (length before) → m ≡ record { arity = 1; entries = [] } → AreRight r value after empty row
empty_right r ok value before after m row is long none = record {
  sets = everywhere r ok value before after m row (λ t. ⊥) (λ lasso k t. ⊥) is long (λ v t. no_truth (value v) m 1 t none) (λ lasso k t. ((λ p. p), (λ p. p)));
}

-- ---- tests

pub inside_right : (r : Reading) (old new : (ℕ → Bool) → Node → Bool) (matrices : List MatrixEntries) (a b : Term) (first second : List ℕ) (row : List Node) → AreRight r old matrices a first → AreRight r old matrices b second → AreAnswered Inside old new matrices first second row → IsRight r new (inside a b) row
inside_right r old new matrices a b first second row left right says = record {
  inside = λ loop k s place.
      let (p, at_p, means_p) = left.sets loop k s place in
      let (q, at_q, means_q) = right.sets loop k s place in
      (says (s.start + k) p q at_p at_q).0;
  holds = λ loop k s place x lasso shows at.
      let (p, at_p, means_p) = left.sets loop k s place in
      let (q, at_q, means_q) = right.sets loop k s place in
      same_trans ((says (s.start + k) p q at_p at_q).1 x) (inside_same (set_of (old x) p) (InTerm (world_of r.scopes lasso) no_bodies a (names_of r.atoms) k) (set_of (old x) q) (InTerm (world_of r.scopes lasso) no_bodies b (names_of r.atoms) k) (means_p x lasso shows at) (means_q x lasso shows at));
}

pub some_right : (r : Reading) (old new : (ℕ → Bool) → Node → Bool) (matrices : List MatrixEntries) (a : Term) (first : List ℕ) (row : List Node) → AreRight r old matrices a first → AreAnswered SomeQuestion old new matrices first first row → IsRight r new (test SomeOf a) row
some_right r old new matrices a first row left says = record {
  inside = λ loop k s place. (let (p, at_p, means_p) = left.sets loop k s place in (says (s.start + k) p p at_p at_p).0);
  holds = λ loop k s place x lasso shows at.
      let (p, at_p, means_p) = left.sets loop k s place in
      same_trans ((says (s.start + k) p p at_p at_p).1 x) (some_same (set_of (old x) p) (InTerm (world_of r.scopes lasso) no_bodies a (names_of r.atoms) k) (means_p x lasso shows at));
}

pub lone_right : (r : Reading) (old new : (ℕ → Bool) → Node → Bool) (matrices : List MatrixEntries) (a : Term) (first : List ℕ) (row : List Node) → AreRight r old matrices a first → AreAnswered LoneQuestion old new matrices first first row → IsRight r new (test LoneOf a) row
lone_right r old new matrices a first row left says = record {
  inside = λ loop k s place. (let (p, at_p, means_p) = left.sets loop k s place in (says (s.start + k) p p at_p at_p).0);
  holds = λ loop k s place x lasso shows at.
      let (p, at_p, means_p) = left.sets loop k s place in
      same_trans ((says (s.start + k) p p at_p at_p).1 x) (lone_same (set_of (old x) p) (InTerm (world_of r.scopes lasso) no_bodies a (names_of r.atoms) k) (means_p x lasso shows at));
}

-- a test that asks two others
pub both_right : (r : Reading) (old new : (ℕ → Bool) → Node → Bool) (f g h : Claim) (a b row : List Node) → ((w : World) (k : ℕ) → (Holds w no_bodies f (names_of r.atoms) k × Holds w no_bodies g (names_of r.atoms) k) ↔ Holds w no_bodies h (names_of r.atoms) k) → IsRight r old f a → IsRight r old g b → AreBoth old new a b row → IsRight r new h row
both_right r old new f g h a b row same first second both = record {
  inside = λ loop k s place. (let l = first.inside loop k s place in let m = both.long in omega (arith, l, m));
  holds = λ loop k s place x lasso shows at.
      same_trans (both_means _ _ _ (both.values x (s.start + k) (first.inside loop k s place)) (first.holds loop k s place x lasso shows at) (second.holds loop k s place x lasso shows at)) (same (world_of r.scopes lasso) k);
}

pub equal_right : (r : Reading) (old new : (ℕ → Bool) → Node → Bool) (a b : Term) (first second row : List Node) → IsRight r old (inside a b) first → IsRight r old (inside b a) second → AreBoth old new first second row → IsRight r new (equal a b) row
equal_right r old new a b first second row = both_right r old new (inside a b) (inside b a) (equal a b) first second row (λ w k. ((λ p. p), (λ p. p)))

pub one_right : (r : Reading) (old new : (ℕ → Bool) → Node → Bool) (a : Term) (first second row : List Node) → IsRight r old (test SomeOf a) first → IsRight r old (test LoneOf a) second → AreBoth old new first second row → IsRight r new (test OneOf a) row
one_right r old new a first second row = both_right r old new (test SomeOf a) (test LoneOf a) (test OneOf a) first second row (λ w k. ((λ p. p), (λ p. p)))

pub no_right : (r : Reading) (value : (ℕ → Bool) → Node → Bool) (a : Term) (row new : List Node) → IsRight r value (test SomeOf a) row → IsNegated value row new → IsRight r value (test NoneOf a) new
no_right r value a row new right neg = (let n = negation_right r value (test SomeOf a) row new right neg in record { inside = n.inside; holds = n.holds })
