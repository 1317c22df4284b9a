-- What is mentioned, found by following calls.
use Rattle.std.proofs.Common.{◌≡◌, ◌⊎◌, inl, inr, ℕ, zero, suc, ◌+◌, ◌-◌, ◌^◌, ◌<◌, ◌≤◌, Bool, true, false, List, [], ◌∷◌, ◌++◌, take, length, get_or, set, replicate, Contains, Option, Some, None, slice_get, refl, sym, ap, ◌∙◌, subst, ℤ, arith}
use Rattle.std.proofs.lemmas.Bool.{false≢true, cases_lt, cases_eq}
use Rattle.std.proofs.lemmas.List.{append-nil, get_or-replicate, get_or-set_same, get_or-set_other, length-set}
use Rattle.std.proofs.lemmas.List.Elements.{Contains-append_left, Contains-append_right, Contains-append_cases}
use Rattle.std.proofs.lemmas.Option.{slice_get_within, same_Some}
use Rattle.core_tree.specs.declared.model.Origin.{Origin}
use Rattle.core_tree.specs.declared.model.Body.{Body}
use Rattle.bound_definitions.specs.declared.mention.Mention.{Mention}
use Rattle.bound_definitions.specs.declared.mention.Mention.TheVariants as mention
use Rattle.bound_definitions.specs.Mentions.{mentions_of_body}
use Rattle.bound_definitions.specs.Places.{place_if, each, first_from, Finds}
use Rattle.bound_definitions.specs.Trees.{Counted, mentions_of_tree, is_outside, IsMentioned, in_tree, in_body, IsWideAt}
use Rattle.bound_definitions.proofs.Firsts.{whole, first_turn}
use Rattle.bound_definitions.proofs.Order.{first_found}
use Rattle.bound_scopes.specs.Wide.{wide_places, IsFollowed}

nothing_in : {X : Type 0} (x : X) → Contains [] x → ⊥
nothing_in x (i, lt, is) = omega (arith, lt)

-- where an item of a gathered list comes from
pub each_from : {X Y : Type 0} (f : X → List Y) (xs : List X) (y : Y) → Contains (each f xs) y → (x : X) × Contains xs x × Contains (f x) y
each_from f [] y there = absurd (nothing_in y there)
each_from f (x ∷ xs) y there =
    elim (Contains-append_cases (f x) (each f xs) y there) [
      | inl here ↦ (x, Contains-append_left (x ∷ []) xs x (0, omega arith, refl), here)
      | inr later ↦ (let w = each_from f xs y later in (w.0, Contains-append_right (x ∷ []) xs w.0 w.1, w.2))
    ]

at_zero : {X : Type 0} (x y : X) (xs : List X) (i : ℕ) → i < length (x ∷ xs) → get_or (x ∷ xs) i y ≡ y → (x ≡ y) ⊎ Contains xs y
at_zero x y xs zero lt e = inl e
at_zero x y xs (suc i) lt e = inr (i, omega (arith, lt), e)

pub each_to : {X Y : Type 0} (f : X → List Y) (xs : List X) (x : X) (y : Y) → Contains xs x → Contains (f x) y → Contains (each f xs) y
each_to f [] x y there is = absurd (nothing_in x there)
each_to f (z ∷ xs) x y (i, lt, e) is =
    elim (at_zero z x xs i lt e) [
      | inl same ↦ Contains-append_left (f z) (each f xs) y (subst (λ w. Contains (f w) y) (sym same) is)
      | inr later ↦ Contains-append_right (f z) (each f xs) y (each_to f xs x y later is)
    ]

none_some : {X : Type 0} (x : X) → None ≡ Some x → ⊥
none_some x e = cc

one_there : {X : Type 0} (x y : X) → Contains (x ∷ []) y → x ≡ y
one_there x y (zero, lt, e) = e
one_there x y (suc i, lt, e) = absurd (omega (arith, lt))

pub nothing_at : {X : Type 0} (k : ℕ) (x : X) → slice_get [] k ≡ Some x → ⊥
nothing_at k x e = none_some x e

pub slice_there : {X : Type 0} (xs : List X) (k : ℕ) (y : X) → k < length xs → y ≡ get_or xs k y → slice_get xs k ≡ Some y
slice_there [] k y lt is = absurd (omega (arith, lt))
slice_there (x ∷ xs) zero y lt is = ap Some (sym is)
slice_there (x ∷ xs) (suc k) y lt is = slice_there xs k y (omega (arith, lt)) is

pub read_mark : (marks : List Bool) (k : ℕ) (r : Bool) → k < length marks → r ≡ get_or marks k r → r ≡ true → get_or marks k false ≡ true
read_mark [] k r lt is e = absurd (omega (arith, lt))
read_mark (x ∷ marks) zero r lt is e = sym is ∙ e
read_mark (x ∷ marks) (suc k) r lt is e = read_mark marks k r (omega (arith, lt)) is e

number_from : (half : ℕ) (n : ℤ) (place at : Origin) (b : Bool) → is_outside half n ≡ b → Contains (place_if b place) at → (m : ℤ) × (mention.Number n place ≡ mention.Number m at) × (is_outside half m ≡ true)
number_from half n place at true e there =
    (n, ap (mention.Number n) (one_there place at there), e)
number_from half n place at false e there = absurd (nothing_in at there)

same_finds : (P Q : Origin → Type 0) → ((at : Origin) → P at → Q at) → ((at : Origin) → Q at → P at) → (found : Option Origin) → Finds P found → Finds Q found
same_finds P Q to back None none = λ at q. none at (back at q)
same_finds P Q to back (Some at) (is, least) = (to at is, λ other q. least other (back other q))

module _ (bodies : List Body) (trees : List Counted) where
  -- what is gathered so far, with how many mentions were looked at and which bodies were followed
  pub record IsGathered (half : ℕ) (all : List Mention) (seen : List Bool) (place : ℕ) (first : Option Origin) : Type 0 where
    pub base : (x : Mention) → Contains (each mentions_of_tree trees) x → Contains all x
    pub sound : (x : Mention) → Contains all x → IsMentioned bodies trees x
    pub count : length seen ≡ length bodies
    pub found : first ≡ first_from None (each (wide_places half) (take place all))
    pub marked : (k b : ℕ) (body : Body) → k < place → slice_get all k ≡ Some (mention.Call b) → slice_get bodies b ≡ Some body → get_or seen b false ≡ true
    pub said : (b : ℕ) (body : Body) → get_or seen b false ≡ true → slice_get bodies b ≡ Some body → (x : Mention) → Contains (mentions_of_body body) x → Contains all x

  pub at_start : (half : ℕ) (all : List Mention) (seen : List Bool) (first : Option Origin) → all ≡ each mentions_of_tree trees → seen ≡ replicate (length bodies) false → length seen ≡ length bodies → first ≡ None → IsGathered half all seen 0 first
  at_start half all seen first is none count zero_found = record {
    base = λ x there. subst (λ (l : List Mention). Contains l x) (sym is) there;
    sound = λ x there.
        let w = each_from mentions_of_tree trees x (subst (λ (l : List Mention). Contains l x) is there) in
        in_tree w.0 w.1 w.2;
    count = count;
    found = zero_found;
    marked = λ k b body lt at there. absurd (omega (arith, lt));
    said = λ b body seen_there there x in_it.
        let lt : b < length bodies = slice_get_within bodies b body there in
        absurd (false≢true (sym (get_or-replicate (length bodies) b false false lt) ∙ ap (λ (l : List Bool). get_or l b false) (sym none) ∙ seen_there));
  }

  earlier_kept : (all more : List Mention) (k : ℕ) (x : Mention) → k < length all → slice_get (all ++ more) k ≡ Some x → slice_get all k ≡ Some x
  earlier_kept [] more k x lt at = absurd (omega (arith, lt))
  earlier_kept (y ∷ all) more zero x lt at = at
  earlier_kept (y ∷ all) more (suc k) x lt at = earlier_kept all more k x (omega (arith, lt)) at

  take_kept : (all more : List Mention) (k : ℕ) → k ≤ length all → take k (all ++ more) ≡ take k all
  take_kept all more zero le = refl
  take_kept [] more (suc k) le = absurd (omega (arith, le))
  take_kept (y ∷ all) more (suc k) le = ap (λ l. y ∷ l) (take_kept all more k (omega (arith, le)))

  read_at : (all : List Mention) (k : ℕ) (x y : Mention) → slice_get all k ≡ Some x → y ≡ get_or all k y → y ≡ x
  read_at [] k x y at is = absurd (nothing_at k x at)
  read_at (z ∷ all) zero x y at is = is ∙ same_Some z x at
  read_at (z ∷ all) (suc k) x y at is = read_at all k x y at is

  pub gathered_turn : (half place next : ℕ) (all now : List Mention) (seen marks : List Bool) (m : Mention) (old first : Option Origin) → next ≡ place + 1 → place < length all → m ≡ get_or all place m → IsGathered half all seen place old → first ≡ first_from old (wide_places half m) → IsFollowed bodies m all now seen marks → IsGathered half now marks next first
  gathered_turn half place next all now seen marks m old first one lt item was is follows =
      let grows : (x : Mention) → Contains all x → Contains now x = λ x there. subst (λ (l : List Mention). Contains l x) (sym follows.adds) (Contains-append_left all follows.more x there) in
      let here : Contains all m = (place, lt, sym item) in
      record {
        base = λ x there. grows x (was.base x there);
        sound = λ x there.
            elim (Contains-append_cases all follows.more x (subst (λ (l : List Mention). Contains l x) follows.adds there)) [
              | inl before ↦ was.sound x before
              | inr new ↦ (let w = follows.sound x new in
                  in_body w.0 w.1 (subst (λ (y : Mention). IsMentioned bodies trees y) w.2 (was.sound m here)) w.3 w.4)
            ];
        count = follows.count ∙ was.count;
        found =
            first_turn (wide_places half) None all place next m old first one lt item was.found is
            ∙ ap (λ (l : List Mention). first_from None (each (wide_places half) l)) (sym (take_kept all follows.more next (omega arith)) ∙ ap (λ (l : List Mention). take next l) (sym follows.adds));
        marked = λ k b body less at there.
            elim (cases_lt k place) [
              | inl before ↦ follows.kept b (was.marked k b body before (earlier_kept all follows.more k (mention.Call b) (omega arith) (subst (λ (l : List Mention). slice_get l k ≡ Some (mention.Call b)) follows.adds at)) there)
              | inr far ↦ (let same : k ≡ place = omega arith in
                  let now_at : slice_get all place ≡ Some (mention.Call b) = earlier_kept all follows.more place (mention.Call b) lt (subst (λ (l : List Mention). slice_get l place ≡ Some (mention.Call b)) follows.adds (subst (λ (n : ℕ). slice_get now n ≡ Some (mention.Call b)) same at)) in
                  follows.marked b body (read_at all place (mention.Call b) m now_at item) there)
            ];
        said = λ b body mark there x in_it.
            elim (follows.said b body mark there) [
              | inl before ↦ grows x (was.said b body before there x in_it)
              | inr new ↦ new x in_it
            ];
      }

  complete : (half : ℕ) (all : List Mention) (seen : List Bool) (place : ℕ) (first : Option Origin) → length all ≤ place → IsGathered half all seen place first → (x : Mention) → IsMentioned bodies trees x → Contains all x
  complete half all seen place first far is x (in_tree c there of_it) = is.base x (each_to mentions_of_tree trees c x there of_it)
  complete half all seen place first far is x (in_body b body called there of_it) =
      let w = complete half all seen place first far is (mention.Call b) called in
      let at : slice_get all w.0 ≡ Some (mention.Call b) = slice_there all w.0 (mention.Call b) w.1 (sym w.2) in
      is.said b body (is.marked w.0 b body (let lt = w.1 in omega arith) at there) there x of_it

  wide_from : (half : ℕ) (x : Mention) (at : Origin) → Contains (wide_places half x) at → (n : ℤ) × (x ≡ mention.Number n at) × (is_outside half n ≡ true)
  wide_from half (mention.Number n place) at there = number_from half n place at (is_outside half n) refl there
  wide_from half (mention.Call b) at there = absurd (nothing_in at there)

  wide_to : (half : ℕ) (n : ℤ) (at : Origin) → is_outside half n ≡ true → Contains (wide_places half (mention.Number n at)) at
  wide_to half n at e = subst (λ (b : Bool). Contains (place_if b at) at) (sym e) (0, omega arith, refl)

  -- all mentions were looked at
  pub gathered_all : (bits half : ℕ) (all : List Mention) (seen : List Bool) (place : ℕ) (first : Option Origin) → half ≡ 2 ^ (bits - 1) → length all ≤ place → IsGathered half all seen place first → Finds (IsWideAt bodies trees bits) first
  gathered_all bits half all seen place first e far is =
      same_finds (Contains (each (wide_places half) all)) (IsWideAt bodies trees bits)
      (λ at there.
      let w = each_from (wide_places half) all at there in
      let n = wide_from half w.0 at w.2 in
      (n.0, subst (λ (y : Mention). IsMentioned bodies trees y) n.1 (is.sound w.0 w.1), subst (λ (h : ℕ). is_outside h n.0 ≡ true) e n.2))
      (λ at wide.
      each_to (wide_places half) all (mention.Number wide.0 at) at (complete half all seen place first far is (mention.Number wide.0 at) wide.1) (wide_to half wide.0 at (subst (λ (h : ℕ). is_outside h wide.0 ≡ true) (sym e) wide.2)))
      first
      (first_found (each (wide_places half) all) first (is.found ∙ ap (λ (l : List Mention). first_from None (each (wide_places half) l)) (whole all place far)))

-- the cases in which a call is followed, or not
number_no_call : (n : ℤ) (at : Origin) (b : ℕ) → mention.Number n at ≡ mention.Call b → ⊥
number_no_call n at b e = cc

call_same : (a b : ℕ) → mention.Call a ≡ mention.Call b → a ≡ b
call_same a b e = cc

past_end : {X : Type 0} (xs : List X) (k : ℕ) (x : X) → length xs ≤ k → slice_get xs k ≡ Some x → ⊥
past_end xs k x far at = let lt : k < length xs = slice_get_within xs k x at in omega (arith, far, lt)

module _ (bodies : List Body) (m : Mention) (old : List Mention) (marks : List Bool) where
  nothing_followed : ((b : ℕ) (body : Body) → m ≡ mention.Call b → slice_get bodies b ≡ Some body → get_or marks b false ≡ true) → IsFollowed bodies m old old marks marks
  nothing_followed marked = record {
    more = [];
    adds = sym (append-nil old);
    sound = λ x there. absurd (nothing_in x there);
    count = refl;
    kept = λ b e. e;
    marked = marked;
    said = λ b body e at. inl e;
  }

  pub number_followed : (n : ℤ) (at : Origin) → m ≡ mention.Number n at → IsFollowed bodies m old old marks marks
  number_followed n at is = nothing_followed (λ b body call there. absurd (number_no_call n at b (sym is ∙ call)))

  pub far_followed : (a : ℕ) → m ≡ mention.Call a → length bodies ≤ a → IsFollowed bodies m old old marks marks
  far_followed a is far = nothing_followed (λ b body call there. absurd (past_end bodies a body far (subst (λ (k : ℕ). slice_get bodies k ≡ Some body) (sym (call_same a b (sym is ∙ call))) there)))

  pub marked_followed : (a : ℕ) → m ≡ mention.Call a → get_or marks a false ≡ true → IsFollowed bodies m old old marks marks
  marked_followed a is e = nothing_followed (λ b body call there. subst (λ (k : ℕ). get_or marks k false ≡ true) (call_same a b (sym is ∙ call)) e)

  set_kept : (a b : ℕ) → a < length marks → get_or marks b false ≡ true → (a ≡ b) ⊎ (a ≡ b → ⊥) → get_or (set marks a true) b false ≡ true
  set_kept a b lt e (inl same) = ap (λ (k : ℕ). get_or (set marks a true) k false) (sym same) ∙ get_or-set_same marks a true false lt
  set_kept a b lt e (inr other) = get_or-set_other marks a b true false (λ same. other (sym same)) ∙ e

  new_said : (a b : ℕ) (body one : Body) (now : List Mention) → a < length marks → slice_get bodies a ≡ Some one → now ≡ old ++ mentions_of_body one → get_or (set marks a true) b false ≡ true → slice_get bodies b ≡ Some body → (a ≡ b) ⊎ (a ≡ b → ⊥) → (get_or marks b false ≡ true) ⊎ ((x : Mention) → Contains (mentions_of_body body) x → Contains now x)
  new_said a b body one now lt at adds e there (inl same) =
      let whole : one ≡ body = same_Some one body (sym at ∙ ap (λ (k : ℕ). slice_get bodies k) same ∙ there) in
      inr (λ x in_it. subst (λ (l : List Mention). Contains l x) (sym adds) (Contains-append_right old (mentions_of_body one) x (subst (λ (w : Body). Contains (mentions_of_body w) x) (sym whole) in_it)))
  new_said a b body one now lt at adds e there (inr other) = inl (sym (get_or-set_other marks a b true false (λ same. other (sym same))) ∙ e)

  pub new_followed : (a : ℕ) (one : Body) (now : List Mention) (after : List Bool) → m ≡ mention.Call a → a < length marks → slice_get bodies a ≡ Some one → now ≡ old ++ mentions_of_body one → after ≡ set marks a true → IsFollowed bodies m old now marks after
  new_followed a one now after is lt at adds sets =
      subst (λ (l : List Bool). IsFollowed bodies m old now marks l) (sym sets)
      (record {
        more = mentions_of_body one;
        adds = adds;
        sound = λ x there. (a, one, is, at, there);
        count = length-set marks a true;
        kept = λ b e. set_kept a b lt e (cases_eq a b);
        marked = λ b body call there. ap (λ (k : ℕ). get_or (set marks a true) k false) (sym (call_same a b (sym is ∙ call))) ∙ get_or-set_same marks a true false lt;
        said = λ b body e there. new_said a b body one now lt at adds e there (cases_eq a b);
      })
