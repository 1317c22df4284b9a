-- The declarations hold at a position just where they hold one round of the loop later.
use Rattle.std.proofs.Common.{◌≡◌, ◌↔◌, ℕ, ◌+◌, ◌<◌, ◌≤◌, max, List, [], ◌∷◌, ◌++◌, refl, sym, ap, subst, ◌∙◌, inl, inr, arith, length, slice_get, Option, Some, None, IfSome}
use Rattle.std.proofs.lemmas.Bool.{cases_lt}
use Rattle.core_tree.specs.declared.model.Sig.{Sig}
use Rattle.core_tree.specs.declared.model.SigKind.{SigKind}
use Rattle.core_tree.specs.declared.model.SigKind.TheVariants.{Top, Extends, Subset}
use Rattle.core_tree.specs.declared.model.Column.{Column}
use Rattle.core_tree.specs.declared.model.Column.TheVariants.{Sig as SigColumn, Int as IntColumn}
use Rattle.core_tree.specs.declared.model.Field.{Field}
use Rattle.core_tree.specs.declared.model.FieldBound.{FieldBound}
use Rattle.core_tree.specs.declared.model.Bound.{Bound}
use Rattle.core_tree.specs.declared.tree.Formula.{Formula}
use Rattle.core_tree.specs.Trees.{term_of, claim_of, within}
use Rattle.core_meaning.specs.Sequence.{period}
use Rattle.core_meaning.specs.World.{World, InRelation}
use Rattle.core_meaning.specs.Operators.{Tuples, IsInside}
use Rattle.core_meaning.specs.Declarations.{this_is, IsPlaced}
use Rattle.core_window.proofs.SameLemmas.{same_trans, turn, inside_same, multiplicity_same}
use Rattle.core_window.proofs.FoldLemmas.{folded, fold_below}
use Rattle.core_window.proofs.WindowLemmas.{place_again}
use Rattle.eval_context.specs.Settings.{SettingValue, world}
use Rattle.eval_steps.specs.Judged.{bodies, Means, HoldsIn, value_term}
use Rattle.eval_tree.proofs.FoundLemmas.{three_same}
use Rattle.eval_tree.proofs.FrontLemmas.{first_of, rest_of}
use Rattle.eval_tree.proofs.FitsSame.{fits_to}
use Rattle.eval_trace.proofs.SetLaw.{same_self}
use Rattle.eval_trace.proofs.FrontLaw.{got_below}
use Rattle.eval_trace.specs.Asked.{Members, Values, InParent, HasAppended, IsBounded, SigIs, FieldIs, AllAre, FactRepeats, BoundRepeats, SigRepeats, FieldRepeats, AllRepeat}
use Rattle.core_window.specs.Repeats.{SameTuples, uncounted, IsFar, HasLoop, fold_of, window_end}

-- one period later a relation is the same
relation_again : (w : World) (n i : ℕ) → HasLoop w.lasso → w.lasso.loop_start ≤ i → SameTuples (InRelation w n i) (InRelation w n (i + period w.lasso))
relation_again w n i some far t =
    let e = place_again w.lasso i some far in (
      (λ (state, set, at, got, c). (state, set, ap (λ (p : ℕ). slice_get w.lasso.states p) e ∙ at, got, c)),
      (λ (state, set, at, got, c). (state, set, ap (λ (p : ℕ). slice_get w.lasso.states p) (sym e) ∙ at, got, c)),
    )

single_end : (p : List ℕ) (x a : ℕ) → p ++ x ∷ [] ≡ a ∷ [] → (p ≡ []) × (x ≡ a)
single_end [] x a e = (refl, first_of x a [] [] e)
single_end (y ∷ []) x a e = let f : x ∷ [] ≡ [] = rest_of y a (x ∷ []) [] e in absurd cc
single_end (y ∷ z ∷ p) x a e = let f : z ∷ (p ++ x ∷ []) ≡ [] = rest_of y a (z ∷ (p ++ x ∷ [])) [] e in absurd cc

module _ (s : SettingValue) where
  -- what `this` has in a relation
  value_is : (n a i : ℕ) → SameTuples (λ u. InRelation (world s) n i (a ∷ u)) (Means s (value_term n) (this_is a) i)
  value_is n a i u = (
    (λ in'. ([], u, a, refl, in', refl)),
    (λ (p, q, x, e, in', whole).
        let (none, same) = single_end p x a e in
        let tail : u ≡ q = whole ∙ ap (λ (l : List ℕ). l ++ q) none in
        subst (λ (z : ℕ). InRelation (world s) n i (z ∷ u)) same (subst (λ (l : List ℕ). InRelation (world s) n i (x ∷ l)) (sym tail) in')),
  )

  bounded_claim : (k : ℕ) (b : Bound) (a i : ℕ) → IsBounded s i k b a ↔ HoldsIn s (within (value_term (length s.model.sigs + k)) b.multiplicity (term_of b.expr)) (this_is a) i
  bounded_claim k b a i =
      let V : Tuples = Values s i k a in
      let X : Tuples = Means s (value_term (length s.model.sigs + k)) (this_is a) i in
      let B : Tuples = Means s (term_of b.expr) (this_is a) i in
      let same : SameTuples V X = value_is (length s.model.sigs + k) a i in
      three_same (inside_same V X B B same (same_self B)) (multiplicity_same b.multiplicity V X same)
      (fits_to (world s) (bodies s) (term_of b.expr) (this_is a) i V X same, fits_to (world s) (bodies s) (term_of b.expr) (this_is a) i X V (λ u. turn (same u)))

  -- from a position to another with the same relations and the same truth of what is asked
  module _ (i j : ℕ) (relation : (n : ℕ) → SameTuples (InRelation (world s) n i) (InRelation (world s) n j))
      (fact : (k : ℕ) (d : Sig) → slice_get s.model.sigs k ≡ Some d → IfSome d.appended (λ f. (a : ℕ) → HoldsIn s (claim_of f) (this_is a) i → HoldsIn s (claim_of f) (this_is a) j))
      (bound : (k : ℕ) (f : Field) → slice_get s.model.fields k ≡ Some f → IfSome f.declared (λ (d : FieldBound). (a : ℕ) → IsBounded s i k d.bound a → IsBounded s j k d.bound a)) where
    inside_to : (n m : ℕ) → IsInside (Members s i n) (Members s i m) → IsInside (Members s j n) (Members s j m)
    inside_to n m = (inside_same (Members s i n) (Members s j n) (Members s i m) (Members s j m) (relation n) (relation m)).0

    parent_to : (c : Column) (t : List ℕ) → InParent s i c t → InParent s j c t
    parent_to (SigColumn p) t x = (relation p t).0 x
    parent_to IntColumn t x = x

    placed_to : (n : ℕ) (kind : SigKind) → IsPlaced s.model (world s) (bodies s) i n kind → IsPlaced s.model (world s) (bodies s) j n kind
    placed_to n Top x = tt
    placed_to n (Extends p) x = inside_to n p x
    placed_to n (Subset ps) x = λ t m. let (c, k, y) = x t ((relation n t).1 m) in (c, k, parent_to c t y)

    appended_to : (n : ℕ) (o : Option Formula) → IfSome o (λ f. (a : ℕ) → HoldsIn s (claim_of f) (this_is a) i → HoldsIn s (claim_of f) (this_is a) j) → HasAppended s i n o → HasAppended s j n o
    appended_to n None k x = tt
    appended_to n (Some f) k x = λ a m. k a (x a ((relation n (a ∷ [])).1 m))

    sig_to : (n : ℕ) (d : Sig) → slice_get s.model.sigs n ≡ Some d → SigIs s i n d → SigIs s j n d
    sig_to n d at h = record {
      placed = placed_to n d.kind h.placed;
      abstract_union = λ is c child t m. let (b, k, x) = h.abstract_union is c child t ((relation n t).1 m) in (b, k, (relation b t).0 x);
      disjoint = λ b c x y other t p q. h.disjoint b c x y other t ((relation b t).1 p) ((relation c t).1 q);
      multiplicity = (multiplicity_same d.multiplicity (Members s i n) (Members s j n) (relation n)).0 h.multiplicity;
      appended = appended_to n d.appended (fact n d at) h.appended;
    }

    bound_at : (k : ℕ) (o : Option FieldBound) (d : FieldBound) → o ≡ Some d → IfSome o (λ (e : FieldBound). (a : ℕ) → IsBounded s i k e.bound a → IsBounded s j k e.bound a) → (a : ℕ) → IsBounded s i k d.bound a → IsBounded s j k d.bound a
    bound_at k o d e h = subst (λ (z : Option FieldBound). IfSome z (λ (x : FieldBound). (a : ℕ) → IsBounded s i k x.bound a → IsBounded s j k x.bound a)) e h

    field_to : (k : ℕ) (f : Field) → slice_get s.model.fields k ≡ Some f → FieldIs s i k f → FieldIs s j k f
    field_to k f at h n d owner declared =
        let old = h n d owner declared in
        let back = λ (a : ℕ) (m : Members s j n (a ∷ [])). (relation n (a ∷ [])).1 m in
        let value = λ (l a : ℕ) (u : List ℕ) (x : Values s j l a u). (relation (length s.model.sigs + l) (a ∷ u)).1 x in
        let moved = λ (a : ℕ) (m : Members s j n (a ∷ [])). bound_at k f.declared d declared (bound k f at) a (old.bounded a (back a m), old.multiplicity a (back a m), old.arrows a (back a m)) in
        record {
          owned = λ t x. let (a, u, e, m) = old.owned t ((relation (length s.model.sigs + k) t).1 x) in (a, u, e, (relation n (a ∷ [])).0 m);
          bounded = λ a m. (moved a m).0;
          multiplicity = λ a m. (moved a m).1;
          arrows = λ a m. (moved a m).2;
          disj_values = λ is a b p q other u x y. old.disj_values is a b (back a p) (back b q) other u (value k a u x) (value k b u y);
          disj_list = λ m g e there owners says r listed also other a u x y. old.disj_list m g e there owners says r listed also other a u (value k a u x) (value m a u y);
        }

    all_to : AllAre s i → AllAre s j
    all_to h = record { sigs = λ n d at. sig_to n d at (h.sigs n d at); fields = λ k f n d at owner declared. field_to k f at (λ m e x y. h.fields k f m e at x y) n d owner declared }

  module _ (r : ℕ) (some : HasLoop s.lasso) (few : r < uncounted) (again : AllRepeat s r) (i : ℕ) (far : IsFar s.lasso r i) where
    facts : (o : Option Formula) → FactRepeats s o r → IfSome o (λ f. (a : ℕ) → HoldsIn s (claim_of f) (this_is a) i ↔ HoldsIn s (claim_of f) (this_is a) (i + period s.lasso))
    facts None h = tt
    facts (Some f) h = λ a. h a r i (omega arith) few far

    bounds : (k : ℕ) (o : Option FieldBound) → BoundRepeats s o r → IfSome o (λ (d : FieldBound). (a : ℕ) → IsBounded s i k d.bound a ↔ IsBounded s (i + period s.lasso) k d.bound a)
    bounds k None h = tt
    bounds k (Some d) h = λ a. same_trans (bounded_claim k d.bound a i) (same_trans (h a (length s.model.sigs + k) r i (omega arith) few far) (turn (bounded_claim k d.bound a (i + period s.lasso))))

    on_some : {X : Type 0} (P Q : X → Type 0) → ((x : X) → P x → Q x) → (o : Option X) → IfSome o P → IfSome o Q
    on_some P Q f None h = tt
    on_some P Q f (Some x) h = f x h

    all_again : AllAre s i ↔ AllAre s (i + period s.lasso)
    all_again =
        let low : s.lasso.loop_start ≤ i = omega arith in
        let relation = λ (n : ℕ). relation_again (world s) n i some low in (
          all_to i (i + period s.lasso) relation
              (λ k d at. on_some _ _ (λ f h a. (h a).0) d.appended (facts d.appended (again.0 k d at)))
              (λ k f at. on_some _ _ (λ d h a. (h a).0) f.declared (bounds k f.declared (again.1 k f at))),
          all_to (i + period s.lasso) i (λ n t. turn (relation n t))
              (λ k d at. on_some _ _ (λ f h a. (h a).1) d.appended (facts d.appended (again.0 k d at)))
              (λ k f at. on_some _ _ (λ d h a. (h a).1) f.declared (bounds k f.declared (again.1 k f at))),
        )

  -- what holds in the window holds everywhere
  pub everywhere : (r end : ℕ) → HasLoop s.lasso → r < uncounted → AllRepeat s r → end ≡ window_end s.lasso r → ((i : ℕ) → i < end → AllAre s i) → (i : ℕ) → AllAre s i
  everywhere r end some few again is all i =
      let below : fold_of s.lasso r i < end = subst (λ (z : ℕ). fold_of s.lasso r i < z) (sym is) (fold_below s.lasso r i some) in
      (folded (λ j. AllAre s j) s.lasso r some (λ j far. all_again r some few again j far) i).0 (all (fold_of s.lasso r i) below)

-- a fact that more rounds keep, at the places of a front
pub record FrontRepeats (R : ℕ → ℕ → Type 0) (place most : ℕ) : Type 0 where
  pub front : (k : ℕ) → k < place → most < uncounted → R k most

module _ (R : ℕ → ℕ → Type 0) (keeps : (k n m : ℕ) → n ≤ m → R k n → R k m) where
  pub none_repeats : (most : ℕ) → FrontRepeats R 0 most
  none_repeats most = record { front = λ k lt few. absurd (omega arith) }

  pub more_repeats : (place most rounds more : ℕ) → FrontRepeats R place most → (rounds < uncounted → R place rounds) → more ≡ max most rounds → FrontRepeats R (place + 1) more
  more_repeats place most rounds more h here e = record {
    front = λ k lt few.
        let low : most ≤ more = grind (arith) in
        let high : rounds ≤ more = grind (arith) in
        elim (cases_lt k place) [
          | inl before ↦ keeps k most more low (h.front k before (omega arith))
          | inr last ↦ let same : place ≡ k = omega arith in subst (λ (z : ℕ). R z more) same (keeps place rounds more high (here (omega arith)))
        ];
  }

-- more rounds keep it
pub fact_keeps : (s : SettingValue) (o : Option Formula) (n m : ℕ) → n ≤ m → FactRepeats s o n → FactRepeats s o m
fact_keeps s None n m le h = tt
fact_keeps s (Some f) n m le h = λ a r i high few far. h a r i (omega arith) few far

pub bound_keeps : (s : SettingValue) (o : Option FieldBound) (n m : ℕ) → n ≤ m → BoundRepeats s o n → BoundRepeats s o m
bound_keeps s None n m le h = tt
bound_keeps s (Some d) n m le h = λ a k r i high few far. h a k r i (omega arith) few far

module _ (s : SettingValue) where
  pub sig_keeps : (k n m : ℕ) → n ≤ m → SigRepeats s k n → SigRepeats s k m
  sig_keeps k n m le h d at = fact_keeps s d.appended n m le (h d at)

  pub field_keeps : (k n m : ℕ) → n ≤ m → FieldRepeats s k n → FieldRepeats s k m
  field_keeps k n m le h f at = bound_keeps s f.declared n m le (h f at)

  pub sig_here : (k : ℕ) (d : Sig) → slice_get s.model.sigs k ≡ Some d → (n : ℕ) → FactRepeats s d.appended n → SigRepeats s k n
  sig_here k d at n h e there = let same : d ≡ e = cc in subst (λ (z : Sig). FactRepeats s z.appended n) same h

  pub field_here : (k : ℕ) (f : Field) → slice_get s.model.fields k ≡ Some f → (n : ℕ) → BoundRepeats s f.declared n → FieldRepeats s k n
  field_here k f at n h g there = let same : f ≡ g = cc in subst (λ (z : Field). BoundRepeats s z.declared n) same h

  pub sigs_repeat : (place most : ℕ) → length s.model.sigs ≤ place → FrontRepeats (SigRepeats s) place most → (k : ℕ) → most < uncounted → SigRepeats s k most
  sigs_repeat place most over h k few d at = h.front k (let lt = got_below s.model.sigs k d at in omega arith) few d at

  pub fields_repeat : (place most : ℕ) → length s.model.fields ≤ place → FrontRepeats (FieldRepeats s) place most → (k : ℕ) → most < uncounted → FieldRepeats s k most
  fields_repeat place most over h k few f at = h.front k (let lt = got_below s.model.fields k f at in omega arith) few f at

  pub all_repeat : (facts bounds most : ℕ) → most ≡ max facts bounds → ((k : ℕ) → facts < uncounted → SigRepeats s k facts) → ((k : ℕ) → bounds < uncounted → FieldRepeats s k bounds) → most < uncounted → AllRepeat s most
  all_repeat facts bounds most e f b few =
      let low : facts ≤ most = grind (arith) in
      let high : bounds ≤ most = grind (arith) in
      ((λ k. sig_keeps k facts most low (f k (omega arith))), (λ k. field_keeps k bounds most high (b k (omega arith))))
