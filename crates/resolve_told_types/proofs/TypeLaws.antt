-- Where the rows of each type are right by those of the sig's parents, which have lower ranks, all
-- types are right.
use Rattle.std.proofs.Common.{◌≡◌, ◌∙◌, ℕ, zero, suc, ◌<◌, true, false, List, [], ◌∷◌, length, get_or, Contains, Some, slice_get, refl, sym, ap, subst, arith}
use Rattle.std.proofs.lemmas.Option.{slice_get_within, slice_get-get_or}
use Rattle.std.proofs.lemmas.List.Elements.{Contains-push}
use Rattle.core_tree.specs.declared.model.Sig.{Sig}
use Rattle.resolve_types.specs.Types.{Row}
use Rattle.resolve_types.specs.declared.columns.Columns.{Columns}
use Rattle.resolve_types.specs.declared.member.Member.{Member}
use Rattle.resolve_types.specs.declared.member.Member.TheVariants as member
use Rattle.resolve_hierarchy.specs.declared.sigs.Kind.{Kind}
use Rattle.resolve_hierarchy.specs.declared.sigs.Kind.TheVariants as kind
use Rattle.resolve_hierarchy.specs.Above.{IsMember, IsParent, IsSubset, Sigs, integer, is_inside, itself, of_parent, parents_in}
use Rattle.resolve_rules.specs.Types.{IsSigRow, IsSigType}
use Rattle.resolve_told_types.specs.Kinds.{kind_in, kinds_of}
use Rattle.resolve_told_types.specs.Steps.{AreRowsByParents, Gives, IsInside, IsTypeStep, IsUnion, own_row, rank_at, rows_at, rows_in}
use Rattle.resolve_told_types.specs.Told.{AreTypes}
use Rattle.resolve_told_types.proofs.Lists.{map_at, only_one}

module _ (sigs : Sigs) (types : List Columns) (ranks : List ℕ) (every : length types ≡ length sigs)
    (steps : (s : ℕ) (d : Kind) (c : Columns) → slice_get sigs s ≡ Some d → slice_get types s ≡ Some c → IsTypeStep types ranks s d c) where
  kind_at : (s : ℕ) (c : Columns) → slice_get types s ≡ Some c → (d : Kind) × (slice_get sigs s ≡ Some d)
  kind_at s c at =
      let within = slice_get_within types s c at in
      (get_or sigs s kind.Top, slice_get-get_or sigs s kind.Top (omega arith))

  plain_at : (s : ℕ) (d : Kind) → slice_get sigs s ≡ Some d → is_inside d ≡ false → IsSubset sigs s → ⊥
  plain_at s d at plain (e, there, sub) =
      let same : d ≡ e = cc in
      let both : true ≡ false = sym sub ∙ ap is_inside (sym same) ∙ plain in
      absurd (cc)

  -- the rows of a subset sig are those of its parents
  union_by : (s : ℕ) (d : Kind) (c : Columns) → is_inside d ≡ true → IsTypeStep types ranks s d c → IsUnion types ranks (rank_at ranks s) (parents_in d) c.rows
  union_by s kind.Top c sub step = absurd (cc)
  union_by s (kind.Extends t) c sub step = absurd (cc)
  union_by s (kind.Subset ms) c sub step = step.rows

  inside_at : (s : ℕ) (c : Columns) (m : Member) → IsSubset sigs s → slice_get types s ≡ Some c → IsParent sigs s m → IsInside types ranks (rank_at ranks s) c.rows m
  inside_at s c m (d, at, sub) there (e, again, here) =
      let same : e ≡ d = cc in
      (union_by s d c sub (steps s d c at there)).each m (subst (λ (k : Kind). Contains (parents_in k) m) same here)

  -- the type of a sig that is no subset sig has its own row
  own_by : (s : ℕ) (d : Kind) (rows : List Row) → (is_inside d ≡ true → ⊥) → AreRowsByParents types ranks s d rows → Contains rows (own_row s)
  own_by s kind.Top rows plain e = subst (λ (l : List Row). Contains l (own_row s)) (sym e) (Contains-push [] (own_row s))
  own_by s (kind.Extends t) rows plain e = subst (λ (l : List Row). Contains l (own_row s)) (sym e) (Contains-push [] (own_row s))
  own_by s (kind.Subset ms) rows plain step = absurd (plain refl)

  own_there : (s : ℕ) (c : Columns) → (IsSubset sigs s → ⊥) → slice_get types s ≡ Some c → Contains c.rows (own_row s)
  own_there s c plain there =
      let k = kind_at s c there in
      own_by s k.0 c.rows (λ sub. plain (k.0, k.1, sub)) (steps s k.0 c k.1 there).rows

  -- the rows of a parent that has a type
  rows_there : (t : ℕ) (c : Columns) → slice_get types t ≡ Some c → rows_at types t ≡ c.rows
  rows_there t c at = ap rows_in at

  -- each member has its row
  whole : {s : ℕ} {m : Member} → IsMember sigs s m → (c : Columns) → slice_get types s ≡ Some c → Contains c.rows (m ∷ [])
  whole (itself {s = s} plain) c there = own_there s c plain there
  whole (integer {s = s} sub parent) c there = (inside_at s c member.Int sub there parent).whole (member.Int ∷ []) refl
  whole (of_parent {s = s} {t = t} {m = m} sub parent up) c there =
      let i = inside_at s c (member.Sig t) sub there parent in
      let at : slice_get types t ≡ Some (get_or types t c) = slice_get-get_or types t c i.before.0 in
      i.whole (m ∷ []) (subst (λ (rows : List Row). Contains rows (m ∷ [])) (sym (rows_there t (get_or types t c) at)) (whole up (get_or types t c) at))

  -- what is proved of the sigs of lower ranks
  abbrev IsSoundBelow : ℕ → Type 0
  IsSoundBelow n = (s : ℕ) (c : Columns) → rank_at ranks s < n → slice_get types s ≡ Some c → (row : Row) → Contains c.rows row → IsSigRow sigs s row

  given_by : (n : ℕ) → IsSoundBelow n → (s : ℕ) (ms : List Member) (rows : List Row) (m : Member) (row : Row) → rank_at ranks s < suc n → slice_get sigs s ≡ Some (kind.Subset ms) →
      Contains ms m → IsInside types ranks (rank_at ranks s) rows m → Gives types m row → IsSigRow sigs s row
  given_by n below s ms rows member.Int row low at here inside e = (member.Int, integer (kind.Subset ms, at, refl) (kind.Subset ms, at, here), e)
  given_by n below s ms rows (member.Sig t) row low at here inside there =
      let before = inside.before in
      let c = types_at t before.0 in
      let r = below t c.0 (omega (arith, before.1, low)) c.1 row (subst (λ (l : List Row). Contains l row) (rows_there t c.0 c.1) there) in
      (r.0, of_parent (kind.Subset ms, at, refl) (kind.Subset ms, at, here) r.1, r.2)
    where
      types_at : (u : ℕ) → u < length types → (c : Columns) × (slice_get types u ≡ Some c)
      types_at u lt = (get_or types u (record { count = 0; rows = [] }), slice_get-get_or types u (record { count = 0; rows = [] }) lt)

  own_is : (s : ℕ) (d : Kind) (rows : List Row) (row : Row) → slice_get sigs s ≡ Some d → is_inside d ≡ false → rows ≡ own_row s ∷ [] → Contains rows row → IsSigRow sigs s row
  own_is s d rows row at plain e here =
      (member.Sig s, itself (plain_at s d at plain), sym (only_one (own_row s) row (subst (λ (l : List Row). Contains l row) e here)))

  row_by : (n : ℕ) → IsSoundBelow n → (s : ℕ) (d : Kind) (rows : List Row) (row : Row) → rank_at ranks s < suc n → slice_get sigs s ≡ Some d → AreRowsByParents types ranks s d rows → Contains rows row → IsSigRow sigs s row
  row_by n below s kind.Top rows row low at step here = own_is s kind.Top rows row at refl step here
  row_by n below s (kind.Extends t) rows row low at step here = own_is s (kind.Extends t) rows row at refl step here
  row_by n below s (kind.Subset ms) rows row low at step here =
      let g = step.only row here in
      given_by n below s ms rows g.0 row low at g.1 (step.each g.0 g.1) g.2

  -- each row is that of a member
  sound : (n : ℕ) → IsSoundBelow n
  sound zero s c low there row here = absurd (omega arith)
  sound (suc n) s c low there row here =
      let k = kind_at s c there in
      row_by n (sound n) s k.0 c.rows row low k.1 (steps s k.0 c k.1 there).rows here

  is_type : (s : ℕ) (c : Columns) → slice_get types s ≡ Some c → IsSigType sigs s c
  is_type s c there = record {
    columns = let k = kind_at s c there in (steps s k.0 c k.1 there).columns;
    rows = λ row. (
      (λ here. sound (suc (rank_at ranks s)) s c (omega arith) there row here),
      (λ h. subst (λ (r : Row). Contains c.rows r) (sym h.2) (whole h.1 c there)),
    );
  }

pub are_types_of : (sigs : List Sig) (types : List Columns) (ranks : List ℕ) → length types ≡ length (kinds_of sigs) →
    ((s : ℕ) (x : Sig) → slice_get sigs s ≡ Some x → (c : Columns) → slice_get types s ≡ Some c → IsTypeStep types ranks s (kind_in x) c) → AreTypes (kinds_of sigs) types
are_types_of sigs types ranks every steps = record {
  every = every;
  each = is_type (kinds_of sigs) types ranks every (λ s d c at there.
      let x = map_at kind_in sigs s d at in
      subst (λ (k : Kind). IsTypeStep types ranks s k c) x.2 (steps s x.0 x.1 c there));
}
