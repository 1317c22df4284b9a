-- Each lasso can be renamed: state by state, set by set, each set sorted anew.
use Rattle.std.proofs.Common.{◌≡◌, ◌↔◌, inl, inr, ℕ, zero, suc, ◌<◌, ◌≤◌, nat_lt, if◌then◌else◌, ◌+◌, ◌-◌, ◌%◌, List, [], ◌∷◌, map, length, Contains, All, get_or, Some, slice_get, refl, sym, ap, ◌∙◌, subst, arith}
use Rattle.std.proofs.lemmas.Bool.{cases_lt}
use Rattle.std.proofs.lemmas.List.{length-map, get_or-map}
use Rattle.std.proofs.lemmas.List.Elements.{All-map}
use Rattle.core_tuples.specs.Index.{IsNumber}
use Rattle.core_tuples.specs.Sets.{TupleList, IsTupleSet}
use Rattle.core_tree.specs.declared.model.Model.{Model}
use Rattle.core_meaning.specs.declared.scopes.Scopes.{Scopes}
use Rattle.core_meaning.specs.Sequence.{LassoValue, place_of}
use Rattle.core_meaning.specs.Kept.{FitsColumns, FitsModel, atom_count, relation_columns, universe_size}
use Rattle.core_laws.specs.Typed.{HasSets}
use Rattle.core_renaming.specs.Renamings.{Renaming, KeepsIntegers, ShowsRenamed, inverse}
use Rattle.core_renaming.specs.Renamed.{LassosHaveRenamed}
use Rattle.core_renaming.proofs.Moves.{renamed_back, same_atom, same_tuple}
use Rattle.core_renaming.proofs.Gathered.{gathered, Pairs, paired, paired_length, second_there, first_there, all_get}

-- what stands at a place, of which something holds
at_place : {X : Type 0} (P : X → Type 0) (xs : List X) (k : ℕ) (x : X) → All P xs → slice_get xs k ≡ Some x → P x
at_place P [] k x all get = cc
at_place P (y ∷ xs) zero x all get = let is : y ≡ x = cc in subst P is (all 0 y (omega arith))
at_place P (y ∷ xs) (suc k) x all get = at_place P xs k x (λ j d lt. all (suc j) d (omega (arith, lt))) get

-- a member of a list, of which something holds
of_member : {X : Type 0} (P : X → Type 0) (xs : List X) (x : X) → All P xs → Contains xs x → P x
of_member P xs x all (k, lt, e) = subst P e (all k x lt)

-- what holds of the items of a list holds of the members of another with the same
all_members : {X : Type 0} (P : X → Type 0) (xs : List X) → ((x : X) → Contains xs x → P x) → All P xs
all_members P [] each k d lt = absurd (omega (arith, lt))
all_members P (x ∷ xs) each zero d lt = each x (0, omega arith, refl)
all_members P (x ∷ xs) each (suc k) d lt = all_members P xs (λ y (j, low, e). each y (suc j, omega (arith, low), e)) k d (omega (arith, lt))

-- the second set has the first's tuples, renamed
pub record Renames (r : Renaming) (one two : TupleList) : Type 0 where
  pub is_set : IsTupleSet two
  pub arity : two.arity ≡ one.arity
  pub members : (t : List ℕ) → Contains one.tuples t ↔ Contains two.tuples (map r.to t)

-- membership of a list of renamed tuples
member_there : (r : Renaming) (ts : List (List ℕ)) (t : List ℕ) → Contains ts t → Contains (map (map r.to) ts) (map r.to t)
member_there r ts t (k, lt, e) =
    let count = length-map ts (map r.to) in
    (k, omega (arith, lt, count), get_or-map (map r.to) ts k t (map r.to t) lt ∙ ap (map r.to) e)

member_back : (r : Renaming) (ts : List (List ℕ)) (t : List ℕ) → Contains (map (map r.to) ts) (map r.to t) → Contains ts t
member_back r ts t (k, lt, e) =
    let count = length-map ts (map r.to) in
    let low : k < length ts = omega (arith, lt, count) in
    (k, low, same_tuple r (get_or ts k t) t (sym (get_or-map (map r.to) ts k t (map r.to t) low) ∙ e))

module _ (scopes : Scopes) (r : Renaming) (stay : KeepsIntegers scopes r) where
  -- numbers below one that no atom reaches stay below it
  stays_below : (n : ℕ) → atom_count scopes.numbers ≤ n → (a : ℕ) → a < n → r.to a < n
  stays_below n enough a lt = elim (cases_lt (r.to a) n) [
    | inl less ↦ less
    | inr more ↦ (
        let same : r.to a ≡ a = same_atom r (r.to a) a (stay (r.to a) (omega (arith, enough, more))) in
        absurd (omega (arith, same, lt, more)))
  ]

  all_below : (n : ℕ) → atom_count scopes.numbers ≤ n → (t : List ℕ) → All (λ a. a < n) t → All (λ a. a < n) (map r.to t)
  all_below n enough t all = All-map (λ a. a < n) r.to t (λ k d lt. stays_below n enough (get_or t k d) (all k d lt))

  module _ (few : atom_count scopes.numbers ≤ 16384) where
    renamed_set : (set : TupleList) → IsTupleSet set → (other : TupleList) × Renames r set other
    renamed_set set is =
        let columns : All (λ t. length t ≡ set.arity) (map (map r.to) set.tuples) = All-map (λ t. length t ≡ set.arity) (map r.to) set.tuples (λ k d lt. length-map (get_or set.tuples k d) r.to ∙ is.columns k d lt) in
        let numbers : All (λ t. All IsNumber t) (map (map r.to) set.tuples) = All-map (λ t. All IsNumber t) (map r.to) set.tuples (λ k d lt. all_below 16384 few (get_or set.tuples k d) (is.numbers k d lt)) in
        let (other, all) = gathered set.arity is.least is.most (map (map r.to) set.tuples) columns numbers in (
          other,
          record {
            is_set = all.0;
            arity = all.1;
            members = λ t. ((λ c. (all.2 (map r.to t)).1 (member_there r set.tuples t c)), (λ c. member_back r set.tuples t ((all.2 (map r.to t)).0 c)));
          },
        )

    renamed_states : (lasso : LassoValue) → HasSets lasso → (states : List (List TupleList)) × Pairs (Pairs (Renames r)) lasso.states states
    renamed_states lasso sets = paired (Pairs (Renames r)) lasso.states (λ k state get. paired (Renames r) state (λ j set there. renamed_set set (at_place IsTupleSet state j set (at_place (λ (xs : List TupleList). All IsTupleSet xs) lasso.states k state sets get) there)))

    module _ (lasso : LassoValue) (states : List (List TupleList)) (pairs : Pairs (Pairs (Renames r)) lasso.states states) where
      abbrev other : LassoValue
      other = record { states = states; loop_start = lasso.loop_start }

      same_place : (i : ℕ) → place_of lasso i ≡ place_of other i
      same_place i = ap (λ n. if nat_lt i n then i else lasso.loop_start + (i - lasso.loop_start) % (n - lasso.loop_start)) (sym (paired_length (Pairs (Renames r)) lasso.states states pairs))

      shows : ShowsRenamed scopes r lasso other
      shows relation i t = (
        (λ (state, set, at, there, has).
            let (state', at', sets) = second_there (Pairs (Renames r)) lasso.states states pairs (place_of lasso i) state at in
            let (set', there', same) = second_there (Renames r) state state' sets relation set there in
            (state', set', ap (slice_get states) (sym (same_place i)) ∙ at', there', (same.members t).0 has)),
        (λ (state', set', at', there', has).
            let (state, at, sets) = first_there (Pairs (Renames r)) lasso.states states pairs (place_of other i) state' at' in
            let (set, there, same) = first_there (Renames r) state state' sets relation set' there' in
            (state, set, ap (slice_get lasso.states) (same_place i) ∙ at, there, (same.members t).1 has)),
      )

      has_sets : HasSets other
      has_sets = all_get (λ (xs : List TupleList). All IsTupleSet xs) states (λ k state' at'.
          let (state, at, sets) = first_there (Pairs (Renames r)) lasso.states states pairs k state' at' in
          all_get IsTupleSet state' (λ j set' there'. (let (set, there, same) = first_there (Renames r) state state' sets j set' there' in same.is_set)))

      within_universe : (n : ℕ) → atom_count scopes.numbers ≤ n → (set set' : TupleList) → Renames r set set' → All (λ t. All (λ a. a < n) t) set.tuples → All (λ t. All (λ a. a < n) t) set'.tuples
      within_universe n enough set set' same all = all_members (λ t. All (λ a. a < n) t) set'.tuples (λ t has.
          let whole = renamed_back (inverse r) t in
          let old = (same.members (map r.from t)).1 (subst (λ u. Contains set'.tuples u) (sym whole) has) in
          subst (λ u. All (λ a. a < n) u) whole (all_below n enough (map r.from t) (of_member (λ u. All (λ a. a < n) u) set.tuples (map r.from t) all old)))

      fits : (model : Model) → FitsModel model scopes lasso → FitsModel model scopes other
      fits model all = all_get (FitsColumns (relation_columns model) (universe_size scopes)) states (λ k state' at'.
          let (state, at, sets) = first_there (Pairs (Renames r)) lasso.states states pairs k state' at' in
          let old = at_place (FitsColumns (relation_columns model) (universe_size scopes)) lasso.states k state all at in
          record {
            count = paired_length (Renames r) state state' sets ∙ old.count;
            each = λ j set' there'. (let (set, there, same) = first_there (Renames r) state state' sets j set' there' in same.arity ∙ old.each j set there);
            within = λ j set' there'. (let (set, there, same) = first_there (Renames r) state state' sets j set' there' in within_universe (universe_size scopes) (omega arith) set set' same (old.within j set there));
          })

pub lassos_renamed : LassosHaveRenamed
lassos_renamed model scopes r lasso stay few all sets =
    let (states, pairs) = renamed_states scopes r stay few lasso sets in (
      record { states = states; loop_start = lasso.loop_start },
      shows scopes r stay few lasso states pairs,
      fits scopes r stay few lasso states pairs model all,
      has_sets scopes r stay few lasso states pairs,
      paired_length (Pairs (Renames r)) lasso.states states pairs,
      refl,
    )
