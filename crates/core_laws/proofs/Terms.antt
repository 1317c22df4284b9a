-- The type of an expression has a row for each of its tuples.
use Rattle.std.proofs.Common.{◌≡◌, ◌⊎◌, inl, inr, ℕ, zero, suc, ◌+◌, ◌-◌, ◌^◌, ◌<◌, ◌≤◌, Bool, true, false, eqb, if◌then◌else◌, List, [], ◌∷◌, ◌++◌, length, map, Contains, All, Option, Some, None, slice_get, get_or, ℤ, pos, negsuc, ◌+ℤ◌, refl, sym, ap, ◌∙◌, subst, arith}
use Rattle.std.specs.Prelude.{slice_index, reverse, is_some}
use Rattle.std.specs.List.{flat_map}
use Rattle.std.proofs.lemmas.Nat.{mod_below}
use lib.Pow.{pow_pos}
use Rattle.core_tuples.specs.Sets.{TupleList, IsTupleSet}
use Rattle.core_tree.specs.declared.operators.RelationOp.{RelationOp}
use Rattle.core_tree.specs.declared.operators.RelationOp.TheVariants.{Union, Difference, Intersection, Join, Override, LeftRestrict, RightRestrict}
use Rattle.core_tree.specs.declared.operators.UnaryRelation.{UnaryRelation}
use Rattle.core_tree.specs.declared.operators.UnaryRelation.TheVariants.{Transpose, Closure, ReflexiveClosure}
use Rattle.core_tree.specs.declared.model.Model.{Model}
use Rattle.core_tree.specs.declared.model.Sig.{Sig}
use Rattle.core_tree.specs.declared.model.Field.{Field}
use Rattle.core_tree.specs.declared.model.SigKind.{SigKind}
use Rattle.core_tree.specs.declared.model.SigKind.TheVariants.{Top, Extends, Subset}
use Rattle.core_tree.specs.declared.model.Column.{Column}
use Rattle.core_tree.specs.declared.model.Column.TheVariants.{Sig as SigColumn, Int as IntColumn}
use Rattle.core_tree.specs.Trees.{Term, Variables, sig, field, name, univ, iden, empty, int, combine, product, unary, prime, choose_term, comprehension, number, count, arithmetic, sum_over, let_term, call_term, no_variables, more_variables}
use Rattle.core_tree.specs.Columns.{Columns, with_columns, columns_in, IsRightTerm, AreRightVariables}
use Rattle.core_tree.specs.Models.{NoFunction, shapes_of, parents_of}
use Rattle.core_tree.specs.Types.{TypeRows, NameRows, by_parent, by_sig, standing, sig_rows, parent_rows, top_row, top_rows, row_pairs, combined_rows, closed_rows, unary_rows, with_rows, rows_or_none, literal_parent, typed_as, rows_in, variable_rows, result_rows}
use Rattle.core_meaning.specs.Integers.{low_bits, wrap, result_of}
use Rattle.core_meaning.specs.declared.scopes.SigScope.{SigScope}
use Rattle.core_meaning.specs.declared.scopes.Scopes.{Scopes}
use Rattle.core_meaning.specs.Sequence.{LassoValue, place_of}
use Rattle.core_meaning.specs.World.{InRelation, atom_of, IsInteger, InUniverse}
use Rattle.core_meaning.specs.Operators.{Tuples, combined_tuples, unary_tuples, closure_tuples, identity_tuples}
use Rattle.core_meaning.specs.Meaning.{Names, Bodies, one_of, with_name, atom, InTerm, Holds, Picked}
use Rattle.core_meaning.specs.Declarations.{IsPlaced, InColumn}
use Rattle.core_meaning.specs.Called.{bodies_of}
use Rattle.core_meaning.specs.Kept.{FitsColumns, relation_columns, world_of}
use Rattle.core_laws.proofs.Members.{Member, member_left, member_right, member_map, member_flat, of_contains}
use Rattle.core_laws.proofs.Climbs.{Climb, climb_more, one_more, item_of, get_there, get_within, Extending, HasParent, climb_parents, few_steps, parent_within}
use Rattle.core_laws.proofs.Standing.{IsPlainKind, stands_at, plain_rows, subset_rows}
use Rattle.core_laws.proofs.Held.{IsGiven, InSigAt, HasColumn, child_in, climb_in, sig_declared}
use Rattle.core_laws.proofs.Rows.{InRows, rows_left, rows_right, rows_pair, rows_join, rows_meet, rows_first, rows_last}
use Rattle.core_laws.proofs.Closed.{rows_closed}

some_none : (n : ℕ) → Some n ≡ None → ⊥
some_none n e = cc

low_below : (bits : ℕ) (z : ℤ) → low_bits bits z < 2 ^ bits
low_below bits (pos n) = mod_below n (2 ^ bits) (pow_pos bits)
low_below bits (negsuc n) = let some : 0 < 2 ^ bits = pow_pos bits in omega (arith, some)

module _ (model : Model) (scopes : Scopes) (lasso : LassoValue) (given : IsGiven model scopes lasso) where
  abbrev In : TypeRows → List ℕ → Type 0
  In rows t = InRows model scopes lasso rows t

  -- ---- sigs

  subset_in : (i s a : ℕ) (d : Sig) (ps : List Column) → slice_get model.sigs s ≡ Some d → d.kind ≡ Subset ps → InSigAt model scopes lasso i s a → (c : Column) × Contains ps c × InColumn model (world_of scopes lasso) (bodies_of (world_of scopes lasso) model.bodies) i c (a ∷ [])
  subset_in i s a d ps get is has =
      let placed : IsPlaced model (world_of scopes lasso) (bodies_of (world_of scopes lasso) model.bodies) i s (Subset ps) = subst (λ (k : SigKind). IsPlaced model (world_of scopes lasso) (bodies_of (world_of scopes lasso) model.bodies) i s k) is (sig_declared model scopes lasso given i s d get).placed in
      placed (a ∷ []) has

  kind_of : (k : SigKind) → IsPlainKind k ⊎ ((ps : List Column) × (k ≡ Subset ps))
  kind_of Top = inl (inl refl)
  kind_of (Extends p) = inl (inr (p, refl))
  kind_of (Subset ps) = inr (ps, refl)

  abbrev head_or : List ℕ → ℕ
  head_or [] = 0
  head_or (x ∷ xs) = x

  -- a parent's row is one of an `in` sig
  subset_row : (n i a : ℕ) (cs : List Column) (c : Column) → Member c cs → InColumn model (world_of scopes lasso) (bodies_of (world_of scopes lasso) model.bodies) i c (a ∷ []) →
      ((p : ℕ) → Member (SigColumn p) cs → InSigAt model scopes lasso i p a → In (sig_rows model.sigs n p) (a ∷ [])) → In (flat_map (parent_rows (λ p. sig_rows model.sigs n p)) cs) (a ∷ [])
  subset_row n i a cs IntColumn among (b, is, e) of_sig =
      let same : b ≡ a = ap head_or (sym e) in
      (IntColumn ∷ [], member_flat (parent_rows (λ p. sig_rows model.sigs n p)) cs IntColumn (IntColumn ∷ []) among (inl refl), (subst (HasColumn model scopes lasso IntColumn) same is, tt))
  subset_row n i a cs (SigColumn p) among has of_sig =
      let (r, in_rows, row) = of_sig p among has in
      (r, member_flat (parent_rows (λ q. sig_rows model.sigs n q)) cs (SigColumn p) r among in_rows, row)

  -- an atom of a sig has a row of it
  sig_typed : (n i b s a : ℕ) (ps : List ℕ) (d : Sig) → b < length model.sigs → Climb (HasParent model.sigs) b ps s → length model.sigs ≤ length ps + n → slice_get model.sigs s ≡ Some d → InSigAt model scopes lasso i s a → In (sig_rows model.sigs n s) (a ∷ [])
  sig_typed zero i b s a ps d lt climb enough get has =
      let few = few_steps model.sigs given.tree b s ps lt climb in
      absurd (omega (arith, few, enough))
  sig_typed (suc n) i b s a ps d lt climb enough get has = elim (kind_of d.kind) [
    | inl plain ↦ (
        let (way, up, e, there, is) = stands_at model.sigs given.tree s d get plain in
        let t : ℕ = standing model.sigs (length model.sigs) s in
        let rows = plain_rows model.sigs n s d get plain in
        (SigColumn t ∷ [], subst (Member (SigColumn t ∷ [])) (sym rows) (inl refl), ((e, there, is, (i, climb_in model scopes lasso given i s t a way up has)), tt)))
    | inr (cs, is) ↦ (
        let rows = subset_rows model.sigs n s d cs get is in
        let (c, among, in_c) = subset_in i s a d cs get is has in
        subst (λ rs. In rs (a ∷ [])) (sym rows) (subset_row n i a cs c (of_contains cs c among) in_c (λ p parent in_p.
        let step : HasParent model.sigs s p = (d, get, subst (λ (k : SigKind). Member (SigColumn p) (parents_of k)) (sym is) parent) in
        let (e, there) = get_there model.sigs p (parent_within model.sigs given.tree s p step) in
        let longer = one_more ps p in
        sig_typed n i b p a (ps ++ p ∷ []) e lt (climb_more (HasParent model.sigs) b s p ps climb step) (omega (arith, longer, enough)) there in_p)))
  ]

  pub sig_rows_have : (i s a : ℕ) (d : Sig) → slice_get model.sigs s ≡ Some d → InSigAt model scopes lasso i s a → In (sig_rows model.sigs (length model.sigs) s) (a ∷ [])
  sig_rows_have i s a d get has = sig_typed (length model.sigs) i s s a [] d (get_within model.sigs s d get) refl (omega arith) get has

  -- a sig has one column
  first_columns : (ds : List Sig) (fs : List Field) (s : ℕ) → s < length ds → slice_index (map (λ (d : Sig). 1) ds ++ map (λ (f : Field). f.columns) fs) s ≡ 1
  first_columns [] fs s lt = absurd (omega (arith, lt))
  first_columns (d ∷ ds) fs zero lt = refl
  first_columns (d ∷ ds) fs (suc s) lt = first_columns ds fs s (omega (arith, lt))

  one_of_list : (t : List ℕ) → length t ≡ 1 → (a : ℕ) × (t ≡ a ∷ [])
  one_of_list [] e = absurd (omega (arith, e))
  one_of_list (a ∷ []) e = (a, refl)
  one_of_list (a ∷ b ∷ t) e = absurd (omega (arith, e))

  pub one_atom : (i s : ℕ) (t : List ℕ) → s < length model.sigs → InRelation (world_of scopes lasso) s i t → (a : ℕ) × (t ≡ a ∷ [])
  one_atom i s t lt (state, set, at, there, among) =
      let fits : FitsColumns (relation_columns model) _ state = item_of lasso.states (place_of lasso i) state (FitsColumns (relation_columns model) _) given.fits at in
      let set_is : IsTupleSet set = item_of state s set IsTupleSet (item_of lasso.states (place_of lasso i) state (λ (xs : List TupleList). All IsTupleSet xs) given.sets at) there in
      let arity : set.arity ≡ 1 = fits.each s set there ∙ first_columns model.sigs model.fields s lt in
      let (k, low, is) = among in
      let long : length (get_or set.tuples k t) ≡ set.arity = set_is.columns k t low in
      one_of_list t (ap length (sym is) ∙ (long ∙ arity))

  -- a sig of an expression; a literal's stands as `String`
  expr_sig : (i s a : ℕ) (d : Sig) → slice_get model.sigs s ≡ Some d → InSigAt model scopes lasso i s a → In (sig_rows model.sigs (length model.sigs) (typed_as model.sigs s)) (a ∷ [])
  expr_sig i s a d get has =
      let typed : typed_as model.sigs s ≡ literal_parent s d = ap (λ (o : Option Sig). by_sig s (literal_parent s) o) get in
      subst (λ p. In (sig_rows model.sigs (length model.sigs) p) (a ∷ [])) (sym typed) (by_origin (is_some d.origin) (kind_of d.kind))
    where
      up : (p : ℕ) → d.kind ≡ Extends p → In (sig_rows model.sigs (length model.sigs) p) (a ∷ [])
      up p is =
          let step : Extending model.sigs s p = (d, get, is) in
          let (e, there) = get_there model.sigs p (parent_within model.sigs given.tree s p (climb_parents model.sigs s p (p ∷ []) (step, refl)).0) in
          sig_rows_have i p a e there (child_in model scopes lasso given i s p a step has)

      by_origin : (b : Bool) → IsPlainKind d.kind ⊎ ((ps : List Column) × (d.kind ≡ Subset ps)) → In (sig_rows model.sigs (length model.sigs) (if b then s else by_parent s (λ p. p) d.kind)) (a ∷ [])
      by_origin true kind = sig_rows_have i s a d get has
      by_origin false (inl (inl top)) = subst (λ (k : SigKind). In (sig_rows model.sigs (length model.sigs) (by_parent s (λ p. p) k)) (a ∷ [])) (sym top) (sig_rows_have i s a d get has)
      by_origin false (inl (inr (p, is))) = subst (λ (k : SigKind). In (sig_rows model.sigs (length model.sigs) (by_parent s (λ q. q) k)) (a ∷ [])) (sym is) (up p is)
      by_origin false (inr (ps, is)) = subst (λ (k : SigKind). In (sig_rows model.sigs (length model.sigs) (by_parent s (λ p. p) k)) (a ∷ [])) (sym is) (sig_rows_have i s a d get has)

  -- ---- the universe and its integers

  pub integer_rows : (a : ℕ) → IsInteger (world_of scopes lasso) a → In ((IntColumn ∷ []) ∷ []) (a ∷ [])
  integer_rows a is = (IntColumn ∷ [], inl refl, (is, tt))

  number_rows : (z : ℤ) → In ((IntColumn ∷ []) ∷ []) (atom_of (world_of scopes lasso) z ∷ [])
  number_rows z =
      let low = low_below scopes.bits (z +ℤ pos (2 ^ (scopes.bits - 1))) in
      integer_rows (atom_of (world_of scopes lasso) z) (omega arith, omega (arith, low))

  top_of_list : (ds : List Sig) (k s : ℕ) (d : Sig) → slice_get ds s ≡ Some d → d.kind ≡ Top → Member (SigColumn (k + s) ∷ []) (top_rows ds k)
  top_of_list [] k s d get top = cc
  top_of_list (e ∷ ds) k zero d get top =
      let is : e ≡ d = cc in
      let none : k ≡ k + 0 = omega arith in
      let row : top_row k e.kind ≡ (SigColumn (k + 0) ∷ []) ∷ [] = ap (λ (c : Sig). top_row k c.kind) is ∙ (ap (top_row k) top ∙ ap (λ n. (SigColumn n ∷ []) ∷ []) none) in
      member_left (top_row k e.kind) (top_rows ds (suc k)) (SigColumn (k + 0) ∷ []) (subst (Member (SigColumn (k + 0) ∷ [])) (sym row) (inl refl))
  top_of_list (e ∷ ds) k (suc s) d get top =
      let same : suc k + s ≡ k + suc s = omega arith in
      member_right (top_row k e.kind) (top_rows ds (suc k)) (SigColumn (k + suc s) ∷ []) (subst (λ n. Member (SigColumn n ∷ []) (top_rows ds (suc k))) same (top_of_list ds (suc k) s d get top))

  int_of_list : (ds : List Sig) (k : ℕ) → Member (IntColumn ∷ []) (top_rows ds k)
  int_of_list [] k = inl refl
  int_of_list (e ∷ ds) k = member_right (top_row k e.kind) (top_rows ds (suc k)) (IntColumn ∷ []) (int_of_list ds (suc k))

  marked_there : (ns : List SigScope) (s : ℕ) → slice_get (map (λ (e : SigScope). e.top) ns) s ≡ Some true → (e : SigScope) × (slice_get ns s ≡ Some e) × (e.top ≡ true)
  marked_there [] s get = cc
  marked_there (n ∷ ns) zero get = (n, refl, (let is : n.top ≡ true = cc in is))
  marked_there (n ∷ ns) (suc s) get = marked_there ns s get

  universe_rows : (i a : ℕ) → InUniverse (world_of scopes lasso) i a → In (top_rows model.sigs 0) (a ∷ [])
  universe_rows i a (inl (s, marked, has)) =
      let (e, listed, top) = marked_there scopes.numbers s marked in
      let count = given.rightly.count in
      let lt = get_within scopes.numbers s e listed in
      let (d, there) = get_there model.sigs s (omega (arith, lt, count)) in
      let kind = given.rightly.only s d e there listed top in
      let same : 0 + s ≡ s = omega arith in
      (SigColumn s ∷ [], subst (λ n. Member (SigColumn n ∷ []) (top_rows model.sigs 0)) same (top_of_list model.sigs 0 s d there kind), ((d, there, inl kind, (i, has)), tt))
  universe_rows i a (inr is) = (IntColumn ∷ [], int_of_list model.sigs 0, (is, tt))

  -- ---- expressions

  -- each tuple of a name has one of its rows
  abbrev pub NamesHave : NameRows → Names → Type 0
  NamesHave rows names = (x j : ℕ) (t : List ℕ) → names x j t → In (rows x) t

  either_name : (b : Bool) (one two : TypeRows) (A B : Tuples) (t : List ℕ) → (A t → In one t) → (B t → In two t) → one_of b A B t → In (if b then one else two) t
  either_name true one two A B t of_one of_two has = of_one has
  either_name false one two A B t of_one of_two has = of_two has

  pub names_more : (rows : NameRows) (names : Names) (x : ℕ) (more : TypeRows) (means : ℕ → Tuples) → NamesHave rows names → ((j : ℕ) (t : List ℕ) → means j t → In more t) → NamesHave (with_rows rows x more) (with_name names x means)
  names_more rows names x more means had has y j t among = either_name (eqb y x) more (rows y) (means j) (names y j) t (has j t) (had y j t) among

  pub atom_rows : (rows : TypeRows) (a : ℕ) → In rows (a ∷ []) → (j : ℕ) (t : List ℕ) → atom a j t → In rows t
  atom_rows rows a has j t e = subst (In rows) (sym e) has

  -- operators on two relations, and on one
  combined_typed : (op : RelationOp) (a b : TypeRows) (A B : Tuples) → ((t : List ℕ) → A t → In a t) → ((t : List ℕ) → B t → In b t) → (t : List ℕ) → combined_tuples op A B t → In (combined_rows model.sigs op a b) t
  combined_typed Union a b A B of_a of_b t (inl has) = rows_left model scopes lasso a b t (of_a t has)
  combined_typed Union a b A B of_a of_b t (inr has) = rows_right model scopes lasso a b t (of_b t has)
  combined_typed Override a b A B of_a of_b t (inl has) = rows_right model scopes lasso a b t (of_b t has)
  combined_typed Override a b A B of_a of_b t (inr has) = rows_left model scopes lasso a b t (of_a t has.0)
  combined_typed Difference a b A B of_a of_b t has = of_a t has.0
  combined_typed Intersection a b A B of_a of_b t has = rows_meet model scopes lasso given a b t (of_a t has.0) (of_b t has.1)
  combined_typed Join a b A B of_a of_b t (s, u, x, one, two, is) =
      subst (In (combined_rows model.sigs Join a b)) (sym is) (rows_join model scopes lasso given a b s u x (of_a (s ++ x ∷ []) one) (of_b (x ∷ u) two))
  combined_typed LeftRestrict a b A B of_a of_b t (has, (x, r, is, first)) =
      subst (In (combined_rows model.sigs LeftRestrict a b)) (sym is) (rows_first model scopes lasso given a b x r (of_a (x ∷ []) first) (subst (In b) is (of_b t has)))
  combined_typed RightRestrict a b A B of_a of_b t (has, (r, x, is, last)) =
      subst (In (combined_rows model.sigs RightRestrict a b)) (sym is) (rows_last model scopes lasso given a b r x (subst (In a) is (of_a t has)) (of_b (x ∷ []) last))

  turned_row : (a : TypeRows) (x y : ℕ) → In a (y ∷ x ∷ []) → In (map (λ r. reverse r) a) (x ∷ y ∷ [])
  turned_row a x y ([], among, row) = elim row [ ]
  turned_row a x y (c ∷ [], among, row) = elim row.1 [ ]
  turned_row a x y (c ∷ d ∷ [], among, row) = (d ∷ c ∷ [], member_map (λ r. reverse r) a (c ∷ d ∷ []) among, (row.1.0, (row.0, tt)))
  turned_row a x y (c ∷ d ∷ e ∷ r, among, row) = elim row.1.1 [ ]

  closure_row : (a : TypeRows) (A : Tuples) → ((t : List ℕ) → A t → In a t) → (t : List ℕ) → closure_tuples A t → In (closed_rows model.sigs (length a) a) t
  closure_row a A of_a t (x, y, walk, is) = subst (In (closed_rows model.sigs (length a) a)) (sym is) (rows_closed model scopes lasso a given A of_a x y walk)

  identity_row : (i : ℕ) (t : List ℕ) → identity_tuples (world_of scopes lasso) i t → In (row_pairs (top_rows model.sigs 0) (top_rows model.sigs 0)) t
  identity_row i t (a, has, is) =
      let one = universe_rows i a has in
      subst (In (row_pairs (top_rows model.sigs 0) (top_rows model.sigs 0))) (sym is) (rows_pair model scopes lasso (top_rows model.sigs 0) (top_rows model.sigs 0) (a ∷ []) (a ∷ []) one one)

  unary_typed : (op : UnaryRelation) (i : ℕ) (a : TypeRows) (A : Tuples) → ((t : List ℕ) → A t → In a t) → (t : List ℕ) → unary_tuples (world_of scopes lasso) i op A t → In (unary_rows model.sigs op a) t
  unary_typed Transpose i a A of_a t (x, y, has, is) = subst (In (map (λ r. reverse r) a)) (sym is) (turned_row a x y (of_a (y ∷ x ∷ []) has))
  unary_typed Closure i a A of_a t has = closure_row a A of_a t has
  unary_typed ReflexiveClosure i a A of_a t (inl has) = rows_left model scopes lasso (closed_rows model.sigs (length a) a) (row_pairs (top_rows model.sigs 0) (top_rows model.sigs 0)) t (closure_row a A of_a t has)
  unary_typed ReflexiveClosure i a A of_a t (inr has) = rows_right model scopes lasso (closed_rows model.sigs (length a) a) (row_pairs (top_rows model.sigs 0) (top_rows model.sigs 0)) t (identity_row i t has)

  -- each tuple of a field has one of its rows
  abbrev pub IsTyped : ℕ → Type 0
  IsTyped g = (f : Field) → slice_get model.fields g ≡ Some f → (i : ℕ) (t : List ℕ) → InRelation (world_of scopes lasso) (length model.sigs + g) i t → In f.rows t

  abbrev the_bodies : Bodies
  the_bodies = bodies_of (world_of scopes lasso) model.bodies

  count_fields : (fs : List Field) → length (map (λ (f : Field). f.columns) fs) ≡ length fs
  count_fields [] = refl
  count_fields (f ∷ fs) = ap suc (count_fields fs)

  count_tops : (ns : List SigScope) → length (map (λ (e : SigScope). e.top) ns) ≡ length ns
  count_tops [] = refl
  count_tops (n ∷ ns) = ap suc (count_tops ns)

  field_typed : (g : ℕ) → g < length (map (λ (f : Field). f.columns) model.fields) → IsTyped g → (i : ℕ) (t : List ℕ) → InRelation (world_of scopes lasso) (length (world_of scopes lasso).top + g) i t → In (rows_or_none (slice_get model.fields g)) t
  field_typed g lt typed i t has =
      let all = count_fields model.fields in
      let (f, there) = get_there model.fields g (omega (arith, lt, all)) in
      let same : length (world_of scopes lasso).top ≡ length model.sigs = count_tops scopes.numbers ∙ given.rightly.count in
      subst (λ rs. In rs t) (sym (ap rows_or_none there)) (typed f there i t (subst (λ n. InRelation (world_of scopes lasso) (n + g) i t) same has))

  sig_of_expr : (s : ℕ) → s < length model.sigs → (i : ℕ) (t : List ℕ) → InRelation (world_of scopes lasso) s i t → In (sig_rows model.sigs (length model.sigs) (typed_as model.sigs s)) t
  sig_of_expr s lt i t has =
      let (a, is) = one_atom i s t lt has in
      let (d, there) = get_there model.sigs s lt in
      subst (In (sig_rows model.sigs (length model.sigs) (typed_as model.sigs s))) (sym is) (expr_sig i s a d there (subst (λ u. InRelation (world_of scopes lasso) s i u) is has))

  module _ (Allowed Owned : ℕ → Type 0) (known : (g : ℕ) → Allowed g → Owned g → IsTyped g) where
    abbrev OneRight : Term → Columns → Type 0
    OneRight e columns = IsRightTerm (shapes_of model) Allowed NoFunction e columns

    abbrev TwoRight : Term → Columns → Type 0
    TwoRight e columns = IsRightTerm (shapes_of model) Owned NoFunction e columns

    mutual
      pub term_typed : (e : Term) (columns : Columns) (rows : NameRows) (names : Names) → OneRight e columns → TwoRight e columns → NamesHave rows names → (i : ℕ) (t : List ℕ) → InTerm (world_of scopes lasso) the_bodies e names i t → In (rows_in model.sigs model.fields (result_rows model) e rows) t
      term_typed (sig s) columns rows names one two have i t has = sig_of_expr s one i t has
      term_typed (field g) columns rows names one two have i t has = field_typed g one.0 (known g one.2 two.2) i t has
      term_typed (name x) columns rows names one two have i t has = have x i t has
      term_typed univ columns rows names one two have i t (a, has, is) = subst (In (top_rows model.sigs 0)) (sym is) (universe_rows i a has)
      term_typed iden columns rows names one two have i t has = identity_row i t has
      term_typed empty columns rows names one two have i t has = elim has [ ]
      term_typed int columns rows names one two have i t (a, has, is) = subst (In ((IntColumn ∷ []) ∷ [])) (sym is) (integer_rows a has)
      term_typed (combine op a b) columns rows names one two have i t has =
          combined_typed op (rows_in model.sigs model.fields (result_rows model) a rows) (rows_in model.sigs model.fields (result_rows model) b rows) (InTerm (world_of scopes lasso) the_bodies a names i) (InTerm (world_of scopes lasso) the_bodies b names i)
          (term_typed a columns rows names one.0 two.0 have i) (term_typed b columns rows names one.1 two.1 have i) t has
      term_typed (product a m n b) columns rows names one two have i t (s, u, first, second, is) =
          subst (In (rows_in model.sigs model.fields (result_rows model) (product a m n b) rows)) (sym is) (rows_pair model scopes lasso (rows_in model.sigs model.fields (result_rows model) a rows) (rows_in model.sigs model.fields (result_rows model) b rows) s u (term_typed a columns rows names one.0 two.0 have i s first) (term_typed b columns rows names one.1 two.1 have i u second))
      term_typed (unary op a) columns rows names one two have i t has =
          unary_typed op i (rows_in model.sigs model.fields (result_rows model) a rows) (InTerm (world_of scopes lasso) the_bodies a names i) (term_typed a columns rows names one.0 two.0 have i) t has
      term_typed (prime a) columns rows names one two have i t has = term_typed a columns rows names one two have (i + 1) t has
      term_typed (choose_term f a b) columns rows names one two have i t (inl has) =
          rows_left model scopes lasso (rows_in model.sigs model.fields (result_rows model) a rows) (rows_in model.sigs model.fields (result_rows model) b rows) t (term_typed a columns rows names one.1 two.1 have i t has.1)
      term_typed (choose_term f a b) columns rows names one two have i t (inr has) =
          rows_right model scopes lasso (rows_in model.sigs model.fields (result_rows model) a rows) (rows_in model.sigs model.fields (result_rows model) b rows) t (term_typed b columns rows names one.2 two.2 have i t has.1)
      term_typed (comprehension vs f) columns rows names one two have i t has =
          picked_typed vs (λ inner. Holds (world_of scopes lasso) the_bodies f inner i) columns rows names one.0 two.0 have i [] t has
      term_typed (number n place) columns rows names one two have i t is = subst (In ((IntColumn ∷ []) ∷ [])) (sym is) (number_rows n)
      term_typed (count a) columns rows names one two have i t (n, is_count, is) = subst (In ((IntColumn ∷ []) ∷ [])) (sym is) (number_rows n)
      term_typed (arithmetic op a b) columns rows names one two have i t (x, y, first, second, is) = subst (In ((IntColumn ∷ []) ∷ [])) (sym is) (number_rows (wrap scopes.bits (result_of op x y)))
      term_typed (sum_over vs a) columns rows names one two have i t (n, is_sum, is) = subst (In ((IntColumn ∷ []) ∷ [])) (sym is) (number_rows n)
      term_typed (let_term x a b) columns rows names one two have i t has =
          term_typed b (with_columns columns x (columns_in (shapes_of model) a columns)) (with_rows rows x (rows_in model.sigs model.fields (result_rows model) a rows)) (with_name names x (λ j. InTerm (world_of scopes lasso) the_bodies a names j)) one.1 two.1
          (names_more rows names x (rows_in model.sigs model.fields (result_rows model) a rows) (λ j. InTerm (world_of scopes lasso) the_bodies a names j) have (λ j u k. term_typed a columns rows names one.0 two.0 have j u k)) i t has
      term_typed (call_term body es) columns rows names (s, there, predicate, (n, result, few), arguments) two have i t has = absurd (some_none n (sym result ∙ predicate))

      picked_typed : (vs : Variables) (Passes : Names → Type 0) (columns : Columns) (rows : NameRows) (names : Names) → AreRightVariables (shapes_of model) Allowed NoFunction vs columns → AreRightVariables (shapes_of model) Owned NoFunction vs columns → NamesHave rows names → (i : ℕ) (earlier t : List ℕ) →
          Picked (world_of scopes lasso) the_bodies vs Passes names i earlier t → In (variable_rows model.sigs model.fields (result_rows model) vs rows) t
      picked_typed no_variables Passes columns rows names one two have i earlier t (is, passes) = subst (In ([] ∷ [])) (sym is) ([], inl refl, tt)
      picked_typed (more_variables x apart e rest) Passes columns rows names one two have i earlier t (a, u, is, among, different, others) =
          let bound = rows_in model.sigs model.fields (result_rows model) e rows in
          let first = term_typed e columns rows names one.0 two.0 have i (a ∷ []) among in
          let further = picked_typed rest Passes (with_columns columns x 1) (with_rows rows x bound) (with_name names x (atom a)) one.2 two.2 (names_more rows names x bound (atom a) have (atom_rows bound a first)) i (a ∷ earlier) u others in
          subst (In (variable_rows model.sigs model.fields (result_rows model) (more_variables x apart e rest) rows)) (sym is) (rows_pair model scopes lasso bound (variable_rows model.sigs model.fields (result_rows model) rest (with_rows rows x bound)) (a ∷ []) u first further)
