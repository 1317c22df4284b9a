-- A lasso that satisfies a model and a command, of just as many states as the bounds, is a candidate.
use Rattle.std.proofs.Common.{◌≡◌, ◌⊎◌, inl, inr, ℕ, zero, suc, ◌+◌, ◌-◌, ◌<◌, Bool, true, false, List, [], ◌∷◌, ◌++◌, length, map, All, Option, Some, slice_get, get_or, refl, sym, ap, ◌∙◌, subst, arith}
use Rattle.std.specs.Prelude.{slice_index}
use Rattle.std.proofs.lemmas.Bool.{cases_lt, cond_below}
use Rattle.std.proofs.lemmas.Option.{slice_get_within}
use Rattle.core_tuples.specs.Sets.{TupleList, IsTupleSet, In}
use Rattle.core_tree.specs.declared.model.Model.{Model}
use Rattle.core_tree.specs.declared.model.Sig.{Sig}
use Rattle.core_tree.specs.declared.model.Field.{Field}
use Rattle.core_tree.specs.declared.model.Fact.{Fact}
use Rattle.core_tree.specs.Trees.{Claim}
use Rattle.core_tree.specs.Types.{no_rows}
use Rattle.core_meaning.specs.Meaning.{no_names}
use Rattle.core_meaning.specs.declared.scopes.Scopes.{Scopes}
use Rattle.core_meaning.specs.Sequence.{LassoValue, place_of}
use Rattle.core_meaning.specs.World.{InRelation}
use Rattle.core_meaning.specs.Kept.{FitsColumns, relation_columns, universe_size, world_of}
use Rattle.core_meaning.specs.Satisfied.{SatisfiesWith}
use Rattle.bound_uppers.specs.declared.table.Bound.{Bound}
use Rattle.bound_uppers.specs.declared.table.Bounds.{Bounds}
use Rattle.bound_uppers.specs.Table.{is_fixed, are_fixed}
use Rattle.bound_uppers.specs.Candidates.{IsWithinBound, IsCandidate}
use Rattle.bound_uppers.specs.Shortest.{IsLasso, Unrolls}
use Rattle.core_laws.specs.Sequences.{ShowSame, SameSatisfied}
use Rattle.core_laws.proofs.Fields.{given_of}
use Rattle.core_laws.proofs.Held.{IsGiven}
use Rattle.core_laws.proofs.Members.{of_contains, to_contains}
use Rattle.core_laws.specs.Typed.{IsTypedLasso, ColumnsHaveAtoms, SigsHaveRows, FieldsHaveRows, SigsOfOneAtom}
use Rattle.core_renaming.specs.Renamings.{Renaming, ShowsRenamed}
use Rattle.core_renaming.specs.Sigs.{IsWellFormed, SatisfactionIsKept}
use Rattle.core_renaming.specs.Renamed.{LassosHaveRenamed}
use Rattle.bound_laws.specs.Satisfying.{AreBoundsOf, IsRight, IsLassoOver, SatisfyingAreCandidates}
use Rattle.bound_laws.specs.Placed.{ArePlaced}
use Rattle.bound_laws.specs.Owning.{OwnersHave, OwnersCanHave, OwningAreCandidates}
use Rattle.bound_laws.proofs.Columns.{item_of, sig_columns, one_of_list, tuple_columns}
use Rattle.bound_laws.proofs.Sorted.{sorted_same}
use Rattle.bound_laws.proofs.Owning.{row_given}
use Rattle.bound_laws.proofs.Decided.{Decided, decided_among}
use Rattle.bound_laws.proofs.Typing.{nothing}
use Rattle.bound_laws.proofs.Placing.{AreKnown, places}

some_same : {X : Type 0} (o : Option X) (x y : X) → o ≡ Some x → o ≡ Some y → x ≡ y
some_same o x y e f = cc

there : {X : Type 0} (xs : List X) (k : ℕ) → k < length xs → (x : X) × (slice_get xs k ≡ Some x)
there [] k lt = absurd (omega (arith, lt))
there (x ∷ xs) zero lt = (x, refl)
there (x ∷ xs) (suc k) lt = there xs k (omega (arith, lt))

-- all items pass where each one does at its place
all_of : {X : Type 0} (P : X → Type 0) (xs : List X) → ((k : ℕ) (x : X) → slice_get xs k ≡ Some x → P x) → All P xs
all_of P xs each k d lt = each k (get_or xs k d) (get_item xs k d lt)
  where
    get_item : {Y : Type 0} (ys : List Y) (j : ℕ) (e : Y) → j < length ys → slice_get ys j ≡ Some (get_or ys j e)
    get_item [] j e less = absurd (omega (arith, less))
    get_item (y ∷ ys) zero e less = refl
    get_item (y ∷ ys) (suc j) e less = get_item ys j e (omega (arith, less))

-- ---- the relations of a model

map_count : {X Y : Type 0} (f : X → Y) (xs : List X) → length (map f xs) ≡ length xs
map_count f [] = refl
map_count f (x ∷ xs) = ap suc (map_count f xs)

joined_count : {X : Type 0} (xs ys : List X) → length (xs ++ ys) ≡ length xs + length ys
joined_count [] ys = omega arith
joined_count (x ∷ xs) ys = let rest = joined_count xs ys in omega (arith, rest)

columns_count : (model : Model) → length (relation_columns model) ≡ length model.sigs + length model.fields
columns_count model =
    let both = joined_count (map (λ (s : Sig). 1) model.sigs) (map (λ (f : Field). f.columns) model.fields) in
    let sigs = map_count {Y = ℕ} (λ (s : Sig). 1) model.sigs in
    let fields = map_count (λ (f : Field). f.columns) model.fields in
    omega (arith, both, sigs, fields)

fixed_count : (model : Model) → length (are_fixed model) ≡ length model.sigs + length model.fields
fixed_count model =
    let both = joined_count (map (λ (d : Sig). is_fixed d.is_var) model.sigs) (map (λ (f : Field). is_fixed f.is_var) model.fields) in
    let sigs = map_count (λ (d : Sig). is_fixed d.is_var) model.sigs in
    let fields = map_count (λ (f : Field). is_fixed f.is_var) model.fields in
    omega (arith, both, sigs, fields)

own_columns : (fs : List Field) (g : ℕ) (f : Field) → slice_get fs g ≡ Some f → slice_index (map (λ (h : Field). h.columns) fs) g ≡ f.columns
own_columns [] g f get = cc
own_columns (h ∷ fs) zero f get = let is : h ≡ f = cc in ap (λ (x : Field). x.columns) is
own_columns (h ∷ fs) (suc g) f get = own_columns fs g f get

field_columns : (ds : List Sig) (fs : List Field) (g k : ℕ) (f : Field) → k ≡ length ds + g → slice_get fs g ≡ Some f → slice_index (map (λ (d : Sig). 1) ds ++ map (λ (h : Field). h.columns) fs) k ≡ f.columns
field_columns [] fs g k f e get = let same : k ≡ g = omega (arith, e) in ap (slice_index (map (λ (h : Field). h.columns) fs)) same ∙ own_columns fs g f get
field_columns (d ∷ ds) fs g zero f e get = absurd (omega (arith, e))
field_columns (d ∷ ds) fs g (suc k) f e get = field_columns ds fs g k f (omega (arith, e)) get

sig_fixed : (ds : List Sig) (rest : List Bool) (s : ℕ) (d : Sig) → slice_get ds s ≡ Some d → slice_get (map (λ (e : Sig). is_fixed e.is_var) ds ++ rest) s ≡ Some (is_fixed d.is_var)
sig_fixed [] rest s d get = cc
sig_fixed (e ∷ ds) rest zero d get = let is : e ≡ d = cc in ap (λ (x : Sig). Some (is_fixed x.is_var)) is
sig_fixed (e ∷ ds) rest (suc s) d get = sig_fixed ds rest s d get

own_fixed : (fs : List Field) (g : ℕ) (f : Field) → slice_get fs g ≡ Some f → slice_get (map (λ (h : Field). is_fixed h.is_var) fs) g ≡ Some (is_fixed f.is_var)
own_fixed [] g f get = cc
own_fixed (h ∷ fs) zero f get = let is : h ≡ f = cc in ap (λ (x : Field). Some (is_fixed x.is_var)) is
own_fixed (h ∷ fs) (suc g) f get = own_fixed fs g f get

field_fixed : (ds : List Sig) (fs : List Field) (g k : ℕ) (f : Field) → k ≡ length ds + g → slice_get fs g ≡ Some f → slice_get (map (λ (e : Sig). is_fixed e.is_var) ds ++ map (λ (h : Field). is_fixed h.is_var) fs) k ≡ Some (is_fixed f.is_var)
field_fixed [] fs g k f e get = let same : k ≡ g = omega (arith, e) in ap (slice_get (map (λ (h : Field). is_fixed h.is_var) fs)) same ∙ own_fixed fs g f get
field_fixed (d ∷ ds) fs g zero f e get = absurd (omega (arith, e))
field_fixed (d ∷ ds) fs g (suc k) f e get = field_fixed ds fs g k f (omega (arith, e)) get

map_item : (bs : List Bound) (r : ℕ) (b : Bound) → slice_get bs r ≡ Some b → slice_get (map (λ (c : Bound). c.fixed) bs) r ≡ Some b.fixed
map_item [] r b get = cc
map_item (c ∷ bs) zero b get = let is : c ≡ b = cc in ap (λ (x : Bound). Some x.fixed) is
map_item (c ∷ bs) (suc r) b get = map_item bs r b get

still_of : (v : Bool) → is_fixed v ≡ true → v ≡ false
still_of true e = cc
still_of false e = refl

-- a relation is that of a sig, or of a field behind the sigs
abbrev IsSigAt : Model → ℕ → Type 0
IsSigAt model r = (d : Sig) × (slice_get model.sigs r ≡ Some d)

abbrev IsFieldAt : Model → ℕ → Type 0
IsFieldAt model r = (g : ℕ) × (f : Field) × (slice_get model.fields g ≡ Some f) × (length model.sigs + g ≡ r)

which : (model : Model) (r : ℕ) → r < length model.sigs + length model.fields → IsSigAt model r ⊎ IsFieldAt model r
which model r lt = elim (cases_lt r (length model.sigs)) [
  | inl less ↦ inl (there model.sigs r less)
  | inr more ↦ inr (
      let (f, get) = there model.fields (r - length model.sigs) (omega (arith, lt, more)) in
      (r - length model.sigs, f, get, omega (arith, more)))
]

-- whether a tuple is in a set is decided
in_set : (set : TupleList) (t : List ℕ) → Decided (In t set)
in_set set t = decided_among set.tuples t

by_two : {P : Type 0} → Decided P → ((P → ⊥) → ⊥) → P
by_two (inl held) twice = held
by_two (inr off) twice = absurd (twice off)

module _ (model : Model) (scopes : Scopes) (bounds : Bounds) (lasso : LassoValue) (facts : List Fact) (command : Claim) (atoms : ColumnsHaveAtoms) (sig_rows_are : SigsHaveRows) (field_rows_are : FieldsHaveRows) (one_atom : SigsOfOneAtom)
    (right : IsRight model scopes) (placed : ArePlaced model command) (are : AreBoundsOf model scopes bounds) (over : IsLassoOver model scopes lasso) (long : length lasso.states ≡ bounds.states) (satisfied : SatisfiesWith model scopes lasso facts command) (have : OwnersHave model scopes lasso) where
  typed : IsTypedLasso model scopes lasso
  typed = record {
    kept = right.kept;
    plain = right.plain;
    named = right.named;
    rightly = right.rightly;
    fits = over.fits;
    sets = over.sets;
    keeps = satisfied.keeps;
    declared = satisfied.declared;
  }

  count : length bounds.relations ≡ length model.sigs + length model.fields
  count = let all = map_count (λ (b : Bound). b.fixed) bounds.relations in let same = ap length are.fixed in let fixed = fixed_count model in omega (arith, all, same, fixed)

  -- a state is shown at its own position
  shown_at : (s : ℕ) (state : List TupleList) → slice_get lasso.states s ≡ Some state → slice_get lasso.states (place_of lasso s) ≡ Some state
  shown_at s state get =
      let lt = slice_get_within lasso.states s state get in
      ap (slice_get lasso.states) (sym (cond_below s (length lasso.states) s _ lt)) ∙ get

  fits_at : (s : ℕ) (state : List TupleList) → slice_get lasso.states s ≡ Some state → FitsColumns (relation_columns model) (universe_size scopes) state
  fits_at s state get = item_of lasso.states s state (FitsColumns (relation_columns model) (universe_size scopes)) over.fits get

  set_at : (s r : ℕ) (state : List TupleList) (set : TupleList) → slice_get lasso.states s ≡ Some state → slice_get state r ≡ Some set → IsTupleSet set
  set_at s r state set get at = item_of state r set IsTupleSet (item_of lasso.states s state (λ (xs : List TupleList). All IsTupleSet xs) over.sets get) at

  state_count : (s : ℕ) (state : List TupleList) → slice_get lasso.states s ≡ Some state → length state ≡ length bounds.relations
  state_count s state get = let one = (fits_at s state get).count in let two = columns_count model in omega (arith, one, two, count)

  in_relation : (s r : ℕ) (state : List TupleList) (set : TupleList) (t : List ℕ) → slice_get lasso.states s ≡ Some state → slice_get state r ≡ Some set → In t set → InRelation (world_of scopes lasso) r s t
  in_relation s r state set t get at among = (state, set, shown_at s state get, at, among)

  small : (s r : ℕ) (state : List TupleList) (set : TupleList) (t : List ℕ) → slice_get lasso.states s ≡ Some state → slice_get state r ≡ Some set → In t set → All (λ a. a < universe_size scopes) t
  small s r state set t get at (k, lt, is) = subst (λ u. All (λ a. a < universe_size scopes) u) is ((fits_at s state get).within r set at k t lt)

  arity_at : (s r n : ℕ) (state : List TupleList) (set : TupleList) → slice_get lasso.states s ≡ Some state → slice_get state r ≡ Some set → slice_index (relation_columns model) r ≡ n → set.arity ≡ n
  arity_at s r n state set get at is = (fits_at s state get).each r set at ∙ is

  sig_within : (s r : ℕ) (state : List TupleList) (set : TupleList) (b : Bound) → slice_get lasso.states s ≡ Some state → slice_get state r ≡ Some set → slice_get bounds.relations r ≡ Some b → IsSigAt model r → IsWithinBound b set
  sig_within s r state set b get at bound (d, sig) =
      let (c, same, just) = are.uppers.sigs r d sig in
      let alike : c ≡ b = some_same (slice_get bounds.relations r) c b same bound in
      let set_is = set_at s r state set get at in
      let arity = arity_at s r 1 state set get at (sig_columns model.sigs model.fields r (slice_get_within model.sigs r d sig)) in
      subst (λ (o : Bound). IsWithinBound o set) alike (
        set_is,
        arity ∙ sym just.columns,
        λ t among. (just.just t).1 (
            let (a, is) = one_of_list t (tuple_columns set t set_is among ∙ arity) in
            let one : In (a ∷ []) set = subst (λ u. In u set) is among in
            let low = small s r state set (a ∷ []) get at one in
            let held = in_relation s r state set (a ∷ []) get at one in
            let (q, among_rows, row) = sig_rows_are model scopes lasso typed r d sig s a held in
            (a, is, record { typed = (q, among_rows, row_given model scopes lasso typed atoms one_atom have q (a ∷ []) row); literal = (satisfied.keeps.bounded r d sig s a held).literal }, low 0 a (omega arith))),
      )

  given : IsGiven model scopes lasso
  given = given_of model scopes lasso typed

  -- the tuples of the first fields have rows, since these belong to sigs; so those of the others have too, by the command
  first_known : AreKnown model scopes lasso given placed.first
  first_known = record {
    few = placed.few;
    typed = λ g low f field i t has.
        let (q, among, row) = field_rows_are model scopes lasso typed g f field (placed.owned g f low field) i t has in
        (q, of_contains f.rows q among, row);
  }

  all_known : (AreKnown model scopes lasso given (length model.fields) → ⊥) → ⊥
  all_known off = places model scopes lasso given command no_rows no_names placed.first (length model.fields) placed.placed first_known (nothing model scopes lasso given) satisfied.command_holds off

  field_within : (s r : ℕ) (state : List TupleList) (set : TupleList) (b : Bound) → slice_get lasso.states s ≡ Some state → slice_get state r ≡ Some set → slice_get bounds.relations r ≡ Some b → IsFieldAt model r → IsWithinBound b set
  field_within s r state set b get at bound (g, f, field, place) =
      let rightly = right.kept.fields g f field in
      let (c, same, just) = are.uppers.fields g f field rightly.columns rightly.rows in
      let alike : c ≡ b = some_same (slice_get bounds.relations r) c b (ap (slice_get bounds.relations) (sym place) ∙ same) bound in
      let set_is = set_at s r state set get at in
      let arity = arity_at s r f.columns state set get at (field_columns model.sigs model.fields g r f (sym place) field) in
      subst (λ (o : Bound). IsWithinBound o set) alike (
        set_is,
        arity ∙ sym just.columns,
        λ t among. by_two (in_set c.upper t) (λ off.
            all_known (λ known. off ((just.just t).1 (
              (let (q, among_rows, row) = known.typed g (slice_get_within model.fields g f field) f field s t (subst (λ k. InRelation (world_of scopes lasso) k s t) (sym place) (in_relation s r state set t get at among)) in
                  (q, to_contains f.rows q among_rows, row_given model scopes lasso typed atoms one_atom have q t row)),
              small s r state set t get at among,
            )))),
      )

  -- what is the same at every position has the same set at each state
  same_set : (s q r : ℕ) (state other : List TupleList) (set another : TupleList) → slice_get lasso.states s ≡ Some state → slice_get lasso.states q ≡ Some other → slice_get state r ≡ Some set → slice_get other r ≡ Some another →
      ((i j : ℕ) (t : List ℕ) → InRelation (world_of scopes lasso) r i t → InRelation (world_of scopes lasso) r j t) → set ≡ another
  same_set s q r state other set another get_s get_q at_s at_q fixed =
      let one = set_at s r state set get_s at_s in
      let two = set_at q r other another get_q at_q in
      let arity : set.arity ≡ another.arity = (fits_at s state get_s).each r set at_s ∙ sym ((fits_at q other get_q).each r another at_q) in
      let tuples : set.tuples ≡ another.tuples = sorted_same set.tuples another.tuples one.sorted two.sorted
      (λ t h. moved q other another get_q at_q t (fixed s q t (in_relation s r state set t get_s at_s h)))
      (λ t h. moved s state set get_s at_s t (fixed q s t (in_relation q r other another t get_q at_q h))) in
      λ i. record { arity = arity i; tuples = tuples i }
    where
      moved : (p : ℕ) (st : List TupleList) (x : TupleList) → slice_get lasso.states p ≡ Some st → slice_get st r ≡ Some x → (t : List ℕ) → InRelation (world_of scopes lasso) r p t → In t x
      moved p st x get at t (st2, x2, shown, at2, among) =
          let same_state : st2 ≡ st = some_same (slice_get lasso.states (place_of lasso p)) st2 st shown (shown_at p st get) in
          let same_x : x2 ≡ x = some_same (slice_get st r) x2 x (ap (λ (l : List TupleList). slice_get l r) (sym same_state) ∙ at2) at in
          subst (λ (y : TupleList). In t y) same_x among

  static_at : (r : ℕ) (b : Bound) → slice_get bounds.relations r ≡ Some b → b.fixed ≡ true → IsSigAt model r ⊎ IsFieldAt model r → (i j : ℕ) (t : List ℕ) → InRelation (world_of scopes lasso) r i t → InRelation (world_of scopes lasso) r j t
  static_at r b bound fixed (inl (d, sig)) =
      let said : Some b.fixed ≡ Some (is_fixed d.is_var) = sym (map_item bounds.relations r b bound) ∙ (ap (λ l. slice_get l r) are.fixed ∙ sig_fixed model.sigs (map (λ (f : Field). is_fixed f.is_var) model.fields) r d sig) in
      let is : is_fixed d.is_var ≡ true = cc in
      satisfied.keeps.sigs r d sig (still_of d.is_var is)
  static_at r b bound fixed (inr (g, f, field, place)) =
      let said : Some b.fixed ≡ Some (is_fixed f.is_var) = sym (map_item bounds.relations r b bound) ∙ (ap (λ l. slice_get l r) are.fixed ∙ field_fixed model.sigs model.fields g r f (sym place) field) in
      let is : is_fixed f.is_var ≡ true = cc in
      subst (λ k. (i j : ℕ) (t : List ℕ) → InRelation (world_of scopes lasso) k i t → InRelation (world_of scopes lasso) k j t) place (satisfied.keeps.fields g f field (still_of f.is_var is))

  fixed_at : (s q r : ℕ) (state other : List TupleList) (b : Bound) → slice_get lasso.states s ≡ Some state → slice_get lasso.states q ≡ Some other → slice_get bounds.relations r ≡ Some b → b.fixed ≡ true → slice_get state r ≡ slice_get other r
  fixed_at s q r state other b get_s get_q bound fixed =
      let low : r < length bounds.relations = slice_get_within bounds.relations r b bound in
      let count_s = state_count s state get_s in
      let count_q = state_count q other get_q in
      let (set, at_s) = there state r (omega (arith, low, count_s)) in
      let (another, at_q) = there other r (omega (arith, low, count_q)) in
      let same = same_set s q r state other set another get_s get_q at_s at_q (static_at r b bound fixed (which model r (omega (arith, low, count)))) in
      at_s ∙ (ap (λ (x : TupleList). Some x) same ∙ sym at_q)

  is_candidate : IsCandidate bounds lasso
  is_candidate = record {
    states = long;
    loop = (let lt = over.loop in omega (arith, lt, long));
    relations = state_count;
    within = λ s r state set b get at bound. elim (which model r (let low = slice_get_within bounds.relations r b bound in omega (arith, low, count))) [
      | inl sig ↦ sig_within s r state set b get at bound sig
      | inr field ↦ field_within s r state set b get at bound field
    ];
    fixed = fixed_at;
  }

-- a lasso that shows what another does is over the same relations and universe
over_same : (model : Model) (scopes : Scopes) (lasso other : LassoValue) → IsLassoOver model scopes lasso → IsLasso other → ShowSame lasso other → IsLassoOver model scopes other
over_same model scopes lasso other over loop same = record {
  loop = loop;
  fits = all_of (FitsColumns (relation_columns model) (universe_size scopes)) other.states (λ s state get. item_of lasso.states (place_of lasso s) state (FitsColumns (relation_columns model) (universe_size scopes)) over.fits (was s state get));
  sets = all_of (λ (xs : List TupleList). All IsTupleSet xs) other.states (λ s state get. item_of lasso.states (place_of lasso s) state (λ (xs : List TupleList). All IsTupleSet xs) over.sets (was s state get));
}
  where
    was : (s : ℕ) (state : List TupleList) → slice_get other.states s ≡ Some state → slice_get lasso.states (place_of lasso s) ≡ Some state
    was s state get =
        let lt = slice_get_within other.states s state get in
        same s ∙ (ap (slice_get other.states) (sym (cond_below s (length other.states) s _ lt)) ∙ get)

pub owning_are_candidates : ColumnsHaveAtoms → SigsHaveRows → FieldsHaveRows → SigsOfOneAtom → OwningAreCandidates
owning_are_candidates atoms sigs fields one_atom model scopes bounds lasso facts command right placed are over long satisfied have =
    is_candidate model scopes bounds lasso facts command atoms sigs fields one_atom right placed are over long satisfied have

-- a lasso that shows the same shows the relations renamed alike
shows_both : (scopes : Scopes) (r : Renaming) (one two three : LassoValue) → ShowSame one two → ShowsRenamed scopes r two three → ShowsRenamed scopes r one three
shows_both scopes r one two three same shows relation i t = (
  (λ (state, set, shown, at, among). (shows relation i t).0 (state, set, sym (same i) ∙ shown, at, among)),
  (λ h. let (state, set, shown, at, among) = (shows relation i t).1 h in (state, set, same i ∙ shown, at, among)),
)

pub candidates_of : Unrolls → SameSatisfied → OwnersCanHave → LassosHaveRenamed → SatisfactionIsKept → OwningAreCandidates → SatisfyingAreCandidates
candidates_of unrolls same_satisfied can_have renamings kept_satisfied owning model scopes bounds lasso facts command right placed are over few satisfied =
    let (mid, loop, long, same) = unrolls lasso bounds.states over.loop few in
    let mid_over = over_same model scopes lasso mid over loop same in
    let mid_satisfied = (same_satisfied model scopes lasso mid same facts command).0 satisfied in
    let (r, keeps, gives) = can_have model scopes mid facts command right are.origins mid_over mid_satisfied in
    let most = are.most in
    let (other, shows, fits, sets, count, start) = renamings model scopes r mid keeps.integers (omega (arith, most)) mid_over.fits mid_over.sets in
    let loop_in = mid_over.loop in
    let other_over : IsLassoOver model scopes other = record { loop = omega (arith, loop_in, count, start); fits = fits; sets = sets } in
    let formed : IsWellFormed model scopes = record { kept = right.kept; plain = right.plain; rightly = right.rightly } in
    let other_satisfied = (kept_satisfied model scopes r mid other formed keeps shows facts command).0 mid_satisfied in
    (r, other, keeps, shows_both scopes r lasso mid other same shows, owning model scopes bounds other facts command right placed are other_over (count ∙ long) other_satisfied (gives other shows), other_satisfied)
