-- Uses of parameters, one by one.
use Rattle.std.proofs.Common.{◌≡◌, ℕ, zero, suc, ◌+◌, ◌<◌, ◌≤◌, max, List, [], ◌∷◌, ◌++◌, take, length, get_or, set, Option, Some, None, slice_get, refl, sym, ap, ap₂, ◌∙◌, arith}
use Rattle.std.proofs.lemmas.List.{take_more}
use Rattle.core_tree.specs.Past.{Depths, no_depths}
use Rattle.bound_definitions.proofs.Firsts.{whole}
use Rattle.form_measures.specs.declared.weight.Use.{Use}
use Rattle.form_measures.specs.declared.weight.Weight.{Weight}
use Rattle.form_measures.specs.Measured.{up_to, raised}
use Rattle.form_measures.specs.Weights.{most_used, weight_at, weight_there, arguments_at}
use Rattle.form_measures.proofs.Counts.{max_end, max_flip, raised_max, raised_raised, uses_turn, joined_uses, called_uses, is_up_to, up_to_kept, both_kept, more_kept, own_turn, own_end, none_argument, raised_deepest}

module _ (d : Depths) where
  pub used_last : (us : List Use) (u : Use) → most_used d (us ++ u ∷ []) ≡ max (most_used d us) (raised u.depth (d u.parameter))
  used_last [] u = max_flip (raised u.depth (d u.parameter)) 0
  used_last (x ∷ us) u = ap (max (raised x.depth (d x.parameter))) (used_last us u) ∙ max_end (raised x.depth (d x.parameter)) (most_used d us) (raised u.depth (d u.parameter))

  pub used_more : (us : List Use) (i : ℕ) (u : Use) → i < length us → most_used d (take (i + 1) us) ≡ max (most_used d (take i us)) (raised (get_or us i u).depth (d (get_or us i u).parameter))
  used_more us i u lt = ap (most_used d) (take_more us i u lt) ∙ used_last (take i us) (get_or us i u)

  set_here : (known depth p rest : ℕ) → max (raised (max known depth) (d p)) rest ≡ max (max (raised known (d p)) rest) (raised depth (d p))
  set_here known depth p rest = raised_deepest known depth (d p) rest

  -- a use that was there, deeper
  pub used_set : (us : List Use) (k p depth known deeper : ℕ) (u : Use) → k < length us → (get_or us k u).parameter ≡ p → known ≡ (get_or us k u).depth → deeper ≡ max known depth → most_used d (set us k (record { parameter = p; depth = deeper })) ≡ max (most_used d us) (raised depth (d p))
  used_set [] k p depth known deeper u lt at is now = absurd (omega (arith, lt))
  used_set (x ∷ us) zero p depth known deeper u lt at is now =
      ap (λ (n : ℕ). max (raised n (d p)) (most_used d us)) now ∙ set_here known depth p (most_used d us)
      ∙ ap₂ (λ (k q : ℕ). max (max (raised k (d q)) (most_used d us)) (raised depth (d p))) is (sym at)
  used_set (x ∷ us) (suc k) p depth known deeper u lt at is now =
      ap (max (raised x.depth (d x.parameter))) (used_set us k p depth known deeper u (omega (arith, lt)) at is now)
      ∙ max_end (raised x.depth (d x.parameter)) (most_used d us) (raised depth (d p))

  pub taken_turn : (by : ℕ) (more : List Use) (i next : ℕ) (u : Use) (start old new deeper : ℕ) → next ≡ i + 1 → i < length more → u ≡ get_or more i u → max (raised by 0) old ≡ max start (raised by (most_used d (take i more))) → deeper ≡ raised by u.depth → new ≡ max old (raised deeper (d u.parameter)) → max (raised by 0) new ≡ max start (raised by (most_used d (take next more)))
  taken_turn by more i next u start old new deeper one lt item was deep is =
      uses_turn (raised by 0) old start (raised by (most_used d (take i more))) new (raised deeper (d u.parameter)) was is
      ∙ ap (max start) (ap (max (raised by (most_used d (take i more)))) (ap (λ (n : ℕ). raised n (d u.parameter)) deep ∙ raised_raised by u.depth (d u.parameter))
      ∙ sym (raised_max by (most_used d (take i more)) (raised u.depth (d u.parameter)))
      ∙ ap (raised by) (ap (λ (x : Use). max (most_used d (take i more)) (raised x.depth (d x.parameter))) item ∙ sym (used_more more i u lt) ∙ ap (λ (n : ℕ). most_used d (take n more)) (sym one)))

  pub taken_end : (by : ℕ) (more : List Use) (i : ℕ) (start new : ℕ) → length more ≤ i → max (raised by 0) new ≡ max start (raised by (most_used d (take i more))) → max (raised by 0) new ≡ max start (raised by (most_used d more))
  taken_end by more i start new far is = is ∙ ap (λ (us : List Use). max start (raised by (most_used d us))) (whole more i far)

  pub joined_at : (first second w : Weight) (by own deeper : ℕ) (uses : List Use) → deeper ≡ raised by second.own → own ≡ max first.own deeper → max (raised by 0) (most_used d uses) ≡ max (most_used d first.uses.items) (raised by (most_used d second.uses.items)) → w.own ≡ own → w.uses.items ≡ uses → weight_at d w ≡ max (weight_at d first) (raised by (weight_at d second))
  joined_at first second w by own deeper uses deep is are own_is uses_are =
      ap₂ (λ (n : ℕ) (us : List Use). up_to (max n (most_used d us))) (own_is ∙ is) uses_are
      ∙ joined_uses by second.own deeper (raised by 0) (most_used d first.uses.items) (raised by (most_used d second.uses.items)) (most_used d second.uses.items) (most_used d uses) deep refl refl are first.own

-- the uses of a body, of parameters that measure what arguments do
module _ (d : Depths) (arguments : List Weight) where
  pub argument_turn : (own : ℕ) (us : List Use) (i next : ℕ) (u : Use) (old new : ℕ) → next ≡ i + 1 → i < length us → u ≡ get_or us i u → old ≡ up_to (max own (most_used (arguments_at d arguments) (take i us))) → new ≡ max old (raised u.depth (weight_there d (slice_get arguments u.parameter))) → new ≡ up_to (max own (most_used (arguments_at d arguments) (take next us)))
  argument_turn own us i next u old new one lt item was is =
      is ∙ ap (λ (n : ℕ). max n (raised u.depth (arguments_at d arguments u.parameter))) was
      ∙ called_uses own (most_used (arguments_at d arguments) (take i us)) (raised u.depth (arguments_at d arguments u.parameter)) u.depth (arguments_at d arguments u.parameter) refl
      ∙ ap (λ (n : ℕ). up_to (max own n)) (ap (λ (x : Use). max (most_used (arguments_at d arguments) (take i us)) (raised x.depth (arguments_at d arguments x.parameter))) item
      ∙ sym (used_more (arguments_at d arguments) us i u lt) ∙ ap (λ (n : ℕ). most_used (arguments_at d arguments) (take n us)) (sym one))

  pub argument_end : (own : ℕ) (us : List Use) (i : ℕ) (new : ℕ) → length us ≤ i → new ≡ up_to (max own (most_used (arguments_at d arguments) (take i us))) → new ≡ up_to (max own (most_used (arguments_at d arguments) us))
  argument_end own us i new far is = is ∙ ap (λ (l : List Use). up_to (max own (most_used (arguments_at d arguments) l))) (whole us i far)

pub nothing_weight : (d : Depths) (w : Weight) → w.own ≡ 0 → w.uses.items ≡ [] → weight_at d w ≡ 0
nothing_weight d w own uses = ap₂ (λ (n : ℕ) (us : List Use). up_to (max n (most_used d us))) own uses

pub parameter_weight : (d : Depths) (w : Weight) (p : ℕ) → w.own ≡ 0 → w.uses.items ≡ record { parameter = p; depth = 0 } ∷ [] → weight_at d w ≡ raised 0 (d p)
parameter_weight d w p own uses = ap₂ (λ (n : ℕ) (us : List Use). up_to (max n (most_used d us))) own uses ∙ is_up_to (d p)

pub kept_weight : (d : Depths) (w : Weight) (z : ℕ) → z ≡ 0 → max z (raised 0 (weight_at d w)) ≡ weight_at d w
kept_weight d w z none = ap (λ (n : ℕ). max n (raised 0 (weight_at d w))) none ∙ up_to_kept (max w.own (most_used d w.uses.items))

pub both_weight : (d : Depths) (a : ℕ) (w : Weight) → max a (raised 0 (weight_at d w)) ≡ max a (weight_at d w)
both_weight d a w = both_kept a (max w.own (most_used d w.uses.items))

pub more_weight : (d : Depths) (w : Weight) (z : ℕ) → z ≡ 0 → max z (raised 1 (weight_at d w)) ≡ raised 1 (weight_at d w)
more_weight d w z none = ap (λ (n : ℕ). max n (raised 1 (weight_at d w))) none ∙ more_kept (weight_at d w)

pub called_start : (d : Depths) (w : Weight) (own : ℕ) → w.own ≡ own → w.uses.items ≡ [] → weight_at d w ≡ up_to (max own 0)
called_start d w own is uses = ap₂ (λ (n : ℕ) (us : List Use). up_to (max n (most_used d us))) is uses

-- a use in a tree in which parameters measure nothing
pub own_used : (own : ℕ) (us : List Use) (i next : ℕ) (u : Use) (old here new : ℕ) → next ≡ i + 1 → i < length us → u ≡ get_or us i u → old ≡ max own (most_used no_depths (take i us)) → here ≡ raised u.depth 0 → new ≡ max old here → new ≡ max own (most_used no_depths (take next us))
own_used own us i next u old here new one lt item was at is =
    is ∙ ap₂ max was at ∙ own_turn own (most_used no_depths (take i us)) u.depth
    ∙ ap (max own) (ap (λ (x : Use). max (most_used no_depths (take i us)) (raised x.depth 0)) item ∙ sym (used_more no_depths us i u lt) ∙ ap (λ (n : ℕ). most_used no_depths (take n us)) (sym one))

pub own_all : (w : Weight) (us : List Use) (i most new : ℕ) → length us ≤ i → us ≡ w.uses.items → most ≡ max w.own (most_used no_depths (take i us)) → new ≡ raised 0 most → new ≡ weight_at no_depths w
own_all w us i most new far same was is =
    is ∙ own_end most ∙ ap up_to (was ∙ ap (λ (l : List Use). max w.own (most_used no_depths l)) (whole us i far ∙ same))

-- a use of a parameter, with and without an argument
pub none_argument_weight : (d : Depths) (whole w : Weight) (by own here : ℕ) (o : Option Weight) → o ≡ None → here ≡ raised by 0 → own ≡ max whole.own here → w.own ≡ own → w.uses.items ≡ whole.uses.items → weight_at d w ≡ max (weight_at d whole) (raised by (weight_there d o))
none_argument_weight d whole w by own here o none at is own_is uses_are =
    ap₂ (λ (n : ℕ) (us : List Use). up_to (max n (most_used d us))) (own_is ∙ is ∙ ap (max whole.own) at) uses_are
    ∙ none_argument whole.own (most_used d whole.uses.items) by
    ∙ sym (ap (λ (p : Option Weight). max (weight_at d whole) (raised by (weight_there d p))) none)

pub some_argument_weight : (d : Depths) (whole w argument : Weight) (by : ℕ) (o : Option Weight) → o ≡ Some argument → weight_at d w ≡ max (weight_at d whole) (raised by (weight_at d argument)) → weight_at d w ≡ max (weight_at d whole) (raised by (weight_there d o))
some_argument_weight d whole w argument by o some is = is ∙ sym (ap (λ (p : Option Weight). max (weight_at d whole) (raised by (weight_there d p))) some)
