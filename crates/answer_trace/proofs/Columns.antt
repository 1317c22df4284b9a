-- The relations of a model, by their places.
use Rattle.std.proofs.Common.{◌≡◌, ℕ, ◌+◌, List, ◌++◌, map, length, slice_get, Some, option_map, ap, subst, ◌∙◌, arith}
use Rattle.std.proofs.lemmas.Option.{slice_get_within, slice_get-get_or, get_or_from_slice_get, slice_get-map}
use Rattle.std.proofs.lemmas.List.{get_or_append_left, get_or-append-add, length-append, length-map}
use Rattle.core_tree.specs.declared.model.Model.{Model}
use Rattle.core_tree.specs.declared.model.Sig.{Sig}
use Rattle.core_tree.specs.declared.model.Field.{Field}
use Rattle.core_meaning.specs.Kept.{relation_columns}

in_front : {X : Type 0} (xs ys : List X) (k : ℕ) (x : X) → slice_get xs k ≡ Some x → slice_get (xs ++ ys) k ≡ Some x
in_front xs ys k x e =
    let lt = slice_get_within xs k x e in
    let more = length-append xs ys in
    slice_get-get_or (xs ++ ys) k x (omega arith) ∙ ap Some (get_or_append_left xs ys x k lt ∙ get_or_from_slice_get xs k x x e)

in_back : {X : Type 0} (xs ys : List X) (k : ℕ) (y : X) → slice_get ys k ≡ Some y → slice_get (xs ++ ys) (length xs + k) ≡ Some y
in_back xs ys k y e =
    let lt = slice_get_within ys k y e in
    let more = length-append xs ys in
    slice_get-get_or (xs ++ ys) (length xs + k) y (omega arith) ∙ ap Some (get_or-append-add xs ys k y ∙ get_or_from_slice_get ys k y y e)

pub sig_column : (model : Model) (k : ℕ) (s : Sig) → slice_get model.sigs k ≡ Some s → slice_get (relation_columns model) k ≡ Some 1
sig_column model k s e = in_front (map (λ (d : Sig). 1) model.sigs) (map (λ (f : Field). f.columns) model.fields) k 1 (slice_get-map (λ (d : Sig). 1) model.sigs k ∙ ap (option_map (λ (d : Sig). 1)) e)

pub field_column : (model : Model) (k : ℕ) (f : Field) → slice_get model.fields k ≡ Some f → slice_get (relation_columns model) (length model.sigs + k) ≡ Some f.columns
field_column model k f e =
    subst (λ n. slice_get (relation_columns model) (n + k) ≡ Some f.columns) (length-map model.sigs (λ (d : Sig). 1))
    (in_back (map (λ (d : Sig). 1) model.sigs) (map (λ (g : Field). g.columns) model.fields) k f.columns (slice_get-map (λ (g : Field). g.columns) model.fields k ∙ ap (option_map (λ (g : Field). g.columns)) e))
