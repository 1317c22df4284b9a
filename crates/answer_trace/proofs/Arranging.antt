-- A set that is put into a state.
use Rattle.std.proofs.Common.{◌≡◌, ℕ, ◌<◌, ◌≤◌, List, [], ◌∷◌, ◌++◌, length, get_or, slice_get, sym, ap, ◌∙◌}
use Rattle.std.proofs.lemmas.Option.{slice_get-get_or, slice_get_past}
use Rattle.std.proofs.lemmas.List.{append-nil}
use Rattle.core_tuples.specs.Sets.{TupleList}
use Rattle.answer_trace.specs.Reading.{one_set}

pub none_put : (old sets : List TupleList) (order : ℕ) → length sets ≤ order → old ≡ old ++ one_set (slice_get sets order)
none_put old sets order h = sym (append-nil old) ∙ ap (λ o. old ++ one_set o) (sym (slice_get_past sets order h))

pub one_put : (old new sets : List TupleList) (order : ℕ) (set copy : TupleList) → order < length sets → set ≡ get_or sets order set → copy ≡ set → new ≡ old ++ copy ∷ [] → new ≡ old ++ one_set (slice_get sets order)
one_put old new sets order set copy h is same put =
    put ∙ ap (λ s. old ++ s ∷ []) (same ∙ is) ∙ ap (λ o. old ++ one_set o) (sym (slice_get-get_or sets order set h))
