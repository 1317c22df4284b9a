-- Relations have their columns: each tuple of a sig has one number.
use Rattle.std.proofs.Common.{◌≡◌, ℕ, zero, suc, ◌<◌, List, [], ◌∷◌, ◌++◌, length, map, All, Some, slice_get, refl, sym, ap, ◌∙◌, subst, arith}
use Rattle.std.specs.Prelude.{slice_index}
use Rattle.std.proofs.lemmas.Option.{slice_get_within}
use Rattle.core_tuples.specs.Sets.{TupleList, IsTupleSet, In}
use Rattle.core_tree.specs.declared.model.Model.{Model}
use Rattle.core_tree.specs.declared.model.Sig.{Sig}
use Rattle.core_tree.specs.declared.model.Field.{Field}
use Rattle.core_meaning.specs.declared.scopes.Scopes.{Scopes}
use Rattle.core_meaning.specs.Sequence.{LassoValue, place_of}
use Rattle.core_meaning.specs.World.{InRelation}
use Rattle.core_meaning.specs.Kept.{FitsColumns, FitsModel, relation_columns, universe_size, world_of}
use Rattle.core_laws.specs.Typed.{HasSets}

pub item_of : {X : Type 0} (xs : List X) (k : ℕ) (x : X) (P : X → Type 0) → All P xs → slice_get xs k ≡ Some x → P x
item_of [] k x P all get = cc
item_of (y ∷ xs) zero x P all get = let is : y ≡ x = cc in subst P is (all 0 y (omega arith))
item_of (y ∷ xs) (suc k) x P all get = item_of xs k x P (λ j d lt. all (suc j) d (omega (arith, lt))) get

pub sig_columns : (ds : List Sig) (fs : List Field) (s : ℕ) → s < length ds → slice_index (map (λ (d : Sig). 1) ds ++ map (λ (f : Field). f.columns) fs) s ≡ 1
sig_columns [] fs s lt = absurd (omega (arith, lt))
sig_columns (d ∷ ds) fs zero lt = refl
sig_columns (d ∷ ds) fs (suc s) lt = sig_columns ds fs s (omega (arith, lt))

-- a tuple of one number
pub one_of_list : (t : List ℕ) → length t ≡ 1 → (a : ℕ) × (t ≡ a ∷ [])
one_of_list [] e = absurd (omega (arith, e))
one_of_list (a ∷ []) e = (a, refl)
one_of_list (a ∷ b ∷ t) e = absurd (omega (arith, e))

-- a tuple of a set has the set's columns
pub tuple_columns : (set : TupleList) (t : List ℕ) → IsTupleSet set → In t set → length t ≡ set.arity
tuple_columns set t is (k, lt, e) = ap length (sym e) ∙ is.columns k t lt

-- each tuple of a sig has one number
pub one_number : (model : Model) (scopes : Scopes) (lasso : LassoValue) → FitsModel model scopes lasso → HasSets lasso →
    (i c : ℕ) (d : Sig) (t : List ℕ) → slice_get model.sigs c ≡ Some d → InRelation (world_of scopes lasso) c i t → (a : ℕ) × (t ≡ a ∷ [])
one_number model scopes lasso fits sets i c d t get (state, set, shown, at, among) =
    let is : IsTupleSet set = item_of state c set IsTupleSet (item_of lasso.states (place_of lasso i) state (λ (xs : List TupleList). All IsTupleSet xs) sets shown) at in
    let fit : FitsColumns (relation_columns model) (universe_size scopes) state = item_of lasso.states (place_of lasso i) state (FitsColumns (relation_columns model) (universe_size scopes)) fits shown in
    let columns : slice_index (relation_columns model) c ≡ 1 = sig_columns model.sigs model.fields c (slice_get_within model.sigs c d get) in
    one_of_list t (tuple_columns set t is among ∙ (fit.each c set at ∙ columns))
