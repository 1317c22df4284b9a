-- What operators make of types that have the same rows.
use Rattle.std.proofs.Common.{◌≡◌, ℕ, zero, suc, ◌+◌, ◌-◌, ◌≤◌, List, [], ◌∷◌, ◌++◌, map, reverse, length, flat_map, refl, sym, ap, ap₂, ◌∙◌, subst, arith}
use Rattle.std.proofs.lemmas.List.{nil_from_length}
use Rattle.std.proofs.lemmas.List.Elements.{Contains-append_left}
use Rattle.core_tree.specs.declared.operators.RelationOp.{RelationOp}
use Rattle.core_tree.specs.declared.operators.RelationOp.TheVariants.{Union, Difference, Intersection, Join, Override, LeftRestrict, RightRestrict}
use Rattle.core_tree.specs.declared.operators.UnaryRelation.TheVariants.{Transpose, Closure, ReflexiveClosure}
use Rattle.core_tree.specs.declared.model.Sig.{Sig}
use Rattle.core_tree.specs.Types.{TypeRow, TypeRows, option_rows, row_meet, row_join, first_meets, last_meets, row_pairs, each_pair, closed_rows, combined_rows, top_rows}
use Rattle.resolve_type_check.specs.Same.{Within, SameRows, IsEachOnce}
use Rattle.resolve_type_check.specs.Closed.{AreWalks, IsClosed, Turns}
use Rattle.std.proofs.lemmas.List.Concat.{flat_map-cons, flat_map_single}
use Rattle.resolve_type_check.specs.declared.pairs.Way.TheVariants.{Product}
use Rattle.resolve_type_check.specs.Steps.{rows_by}
use Rattle.resolve_type_check.proofs.Equal.{no_more}
use Rattle.resolve_type_check.proofs.Flat.{append_within, flat_within, map_within}

pub same_itself : (a : TypeRows) → SameRows a a
same_itself a = record { to = λ r h. h; back = λ r h. h }

pub same_sym : (a b : TypeRows) → SameRows a b → SameRows b a
same_sym a b s = record { to = s.back; back = s.to }

pub same_then : (a b c : TypeRows) → SameRows a b → SameRows b c → SameRows a c
same_then a b c s t = record { to = λ r h. t.to r (s.to r h); back = λ r h. s.back r (t.back r h) }

pub same_from : (a b : TypeRows) → a ≡ b → SameRows a b
same_from a b e = subst (SameRows a) e (same_itself a)

pub pairs_within : (f : TypeRow → TypeRow → TypeRows) (a b c d : TypeRows) → Within a c → Within b d → Within (each_pair f a b) (each_pair f c d)
pairs_within f a b c d w v = flat_within (λ r. flat_map (f r) b) (λ r. flat_map (f r) d) a c w (λ r. flat_within (f r) (f r) b d v (λ q y h. h))

pub row_pairs_within : (a b c d : TypeRows) → Within a c → Within b d → Within (row_pairs a b) (row_pairs c d)
row_pairs_within a b c d w v = flat_within (λ r. map (λ q. r ++ q) b) (λ r. map (λ q. r ++ q) d) a c w (λ r. map_within (λ q. r ++ q) b d v)

pub row_pairs_same : (a b c d : TypeRows) → SameRows a c → SameRows b d → SameRows (row_pairs a b) (row_pairs c d)
row_pairs_same a b c d s t = record { to = row_pairs_within a b c d s.to t.to; back = row_pairs_within c d a b s.back t.back }

pub append_same : (a b c d : TypeRows) → SameRows a c → SameRows b d → SameRows (a ++ b) (c ++ d)
append_same a b c d s t = record { to = append_within a b c d s.to t.to; back = append_within c d a b s.back t.back }

module _ (sigs : List Sig) where
  combined_within : (op : RelationOp) (a b c d : TypeRows) → Within a c → Within b d → Within (combined_rows sigs op a b) (combined_rows sigs op c d)
  combined_within Union a b c d w v = append_within a b c d w v
  combined_within Override a b c d w v = append_within a b c d w v
  combined_within Difference a b c d w v = w
  combined_within Intersection a b c d w v = pairs_within (λ r q. option_rows (λ x. x) (row_meet sigs r q)) a b c d w v
  combined_within Join a b c d w v = pairs_within (row_join sigs) a b c d w v
  combined_within LeftRestrict a b c d w v = pairs_within (first_meets sigs) a b c d w v
  combined_within RightRestrict a b c d w v = pairs_within (last_meets sigs) a b c d w v

  pub combined_same : (op : RelationOp) (a b c d : TypeRows) → SameRows a c → SameRows b d → SameRows (combined_rows sigs op a b) (combined_rows sigs op c d)
  combined_same op a b c d s t = record { to = combined_within op a b c d s.to t.to; back = combined_within op c d a b s.back t.back }

  pub step_within : (a c v w : TypeRows) → Within a c → Within v w → Within (a ++ each_pair (row_join sigs) a v) (c ++ each_pair (row_join sigs) c w)
  step_within a c v w p q = append_within a (each_pair (row_join sigs) a v) c (each_pair (row_join sigs) c w) p (pairs_within (row_join sigs) a v c w p q)

  pub step_same : (a v w : TypeRows) → SameRows v w → SameRows (a ++ each_pair (row_join sigs) a v) (a ++ each_pair (row_join sigs) a w)
  step_same a v w s = record { to = step_within a a v w (λ r h. h) s.to; back = step_within a a w v (λ r h. h) s.back }

  closed_within : (n : ℕ) (a c : TypeRows) → Within a c → Within (closed_rows sigs n a) (closed_rows sigs n c)
  closed_within zero a c w = w
  closed_within (suc n) a c w = step_within a c (closed_rows sigs n a) (closed_rows sigs n c) w (closed_within n a c w)

  module _ (a : TypeRows) where
    up_one : (n : ℕ) → Within (closed_rows sigs n a) (closed_rows sigs (suc n) a)
    up_one zero = λ r h. Contains-append_left a (each_pair (row_join sigs) a a) r h
    up_one (suc n) = step_within a a (closed_rows sigs n a) (closed_rows sigs (suc n) a) (λ r h. h) (up_one n)

    abbrev plus : ℕ → ℕ → ℕ
    plus zero k = k
    plus (suc m) k = suc (plus m k)

    plus_is : (m k : ℕ) → plus m k ≡ m + k
    plus_is zero k = omega arith
    plus_is (suc m) k = ap suc (plus_is m k) ∙ omega arith

    up : (m k : ℕ) → Within (closed_rows sigs k a) (closed_rows sigs (plus m k) a)
    up zero k = λ r h. h
    up (suc m) k = λ r h. up_one (plus m k) r (up m k r h)

    module _ (k : ℕ) (still : Within (closed_rows sigs (suc k) a) (closed_rows sigs k a)) where
      down : (m : ℕ) → Within (closed_rows sigs (plus m k) a) (closed_rows sigs k a)
      down zero = λ r h. h
      down (suc m) = λ r h. still r (step_within a a (closed_rows sigs (plus m k) a) (closed_rows sigs k a) (λ q g. g) (down m) r h)

      pub still_same : (n : ℕ) → k ≤ n → SameRows (closed_rows sigs k a) (closed_rows sigs n a)
      still_same n le =
          let e : plus (n - k) k ≡ n = plus_is (n - k) k ∙ omega (arith, le) in
          subst (λ j. SameRows (closed_rows sigs k a) (closed_rows sigs j a)) e (record { to = up (n - k) k; back = down (n - k) })

  pub closed_same : (rows walks a : TypeRows) → IsClosed sigs rows walks → SameRows rows a → SameRows walks (closed_rows sigs (length a) a)
  closed_same rows walks a c s =
      let base = c.base in
      let w = c.ended in
      let here : SameRows base a = same_then base rows a c.once.same s in
      let few = w.few in
      let most = no_more base a c.once.once here.to in
      let le : w.steps ≤ length a = omega (arith, few, most) in
      same_then walks (closed_rows sigs w.steps base) (closed_rows sigs (length a) a) w.made
      (same_then (closed_rows sigs w.steps base) (closed_rows sigs (length a) base) (closed_rows sigs (length a) a) (still_same base w.steps w.still (length a) le)
      (record { to = closed_within (length a) base a here.to; back = closed_within (length a) a base here.back }))

  pub closure_turns : (rows walks : TypeRows) → IsClosed sigs rows walks → Turns sigs Closure rows walks
  closure_turns rows walks c a s = closed_same rows walks a c s

  pub reflexive_turns : (rows walks tops made : TypeRows) → IsClosed sigs rows walks → tops ≡ row_pairs (top_rows sigs 0) (top_rows sigs 0) → SameRows made (walks ++ tops) → Turns sigs ReflexiveClosure rows made
  reflexive_turns rows walks tops made c e m a s =
      same_then made (walks ++ tops) (closed_rows sigs (length a) a ++ row_pairs (top_rows sigs 0) (top_rows sigs 0)) m
      (append_same walks tops (closed_rows sigs (length a) a) (row_pairs (top_rows sigs 0) (top_rows sigs 0)) (closed_same rows walks a c s) (same_from tops (row_pairs (top_rows sigs 0) (top_rows sigs 0)) e))

  pub transpose_turns : (rows made : TypeRows) → made ≡ map (λ r. reverse r) rows → Turns sigs Transpose rows made
  transpose_turns rows made e a s =
      same_then made (map (λ r. reverse r) rows) (map (λ r. reverse r) a) (same_from made (map (λ r. reverse r) rows) e)
      (record { to = map_within (λ r. reverse r) rows a s.to; back = map_within (λ r. reverse r) a rows s.back })

  pub walks_first : (base walks : TypeRows) (n : ℕ) → n ≡ 0 → walks ≡ base → SameRows walks (closed_rows sigs n base)
  walks_first base walks n e same = subst (λ k. SameRows walks (closed_rows sigs k base)) (sym e) (same_from walks base same)

  pub walks_more : (base walks more : TypeRows) (n m : ℕ) → m ≡ suc n → SameRows walks (closed_rows sigs n base) → SameRows more (base ++ each_pair (row_join sigs) base walks) → SameRows more (closed_rows sigs m base)
  walks_more base walks more n m e s t = subst (λ k. SameRows more (closed_rows sigs k base)) (sym e) (same_then more (base ++ each_pair (row_join sigs) base walks) (closed_rows sigs (suc n) base) t (step_same base walks (closed_rows sigs n base) s))

  pub walks_ended : (base walks more : TypeRows) (n : ℕ) → n ≤ length base → SameRows walks (closed_rows sigs n base) → SameRows more (base ++ each_pair (row_join sigs) base walks) → Within more walks → AreWalks sigs base walks
  walks_ended base walks more n few s t w = record {
    steps = n;
    few = few;
    made = s;
    still = λ r h. s.to r (w r ((walks_more base walks more n (suc n) refl s t).back r h));
  }

  none_closed : (n : ℕ) → closed_rows sigs n [] ≡ []
  none_closed zero = refl
  none_closed (suc n) = refl

  -- over no rows there are none
  pub walks_of_none : (base walks : TypeRows) (n : ℕ) → length base ≡ 0 → SameRows walks (closed_rows sigs n base) → AreWalks sigs base walks
  walks_of_none base walks n none s =
      let e : base ≡ [] = nil_from_length base none in
      subst (λ b. AreWalks sigs b walks) (sym e) (record {
        steps = 0;
        few = omega arith;
        made = subst (SameRows walks) (ap (closed_rows sigs n) e ∙ none_closed n) s;
        still = λ r h. h;
      })

  pub ended_closed : (rows base walks : TypeRows) → IsEachOnce rows base → AreWalks sigs base walks → IsClosed sigs rows walks
  ended_closed rows base walks once w = record { base = base; once = once; ended = w }

  pub pairs_product : (a b : TypeRows) → each_pair (rows_by sigs Product) a b ≡ row_pairs a b
  pairs_product [] b = refl
  pairs_product (r ∷ a) b =
      flat_map-cons (λ p. flat_map (rows_by sigs Product p) b) r a
      ∙ ap₂ (λ x y. x ++ y) (flat_map_single (λ q. r ++ q) b) (pairs_product a b)
      ∙ sym (flat_map-cons (λ p. map (λ q. p ++ q) b) r a)
