-- The meets of two rows, member by member.
use Rattle.std.proofs.Common.{◌≡◌, ℕ, suc, ◌+◌, ◌<◌, [], ◌∷◌, ◌++◌, Option, Some, None, length, get_or, drop, refl, sym, ◌∙◌, ap, append_assoc, drop-cons, add-one}
use Rattle.std.specs.Option.{option_map}
use Rattle.resolve_types.specs.Types.{Lines, Row, meet_of, met, met_on}
use Rattle.resolve_types.specs.declared.member.Member.{Member}

-- the row before what may follow
abbrev pub onto : Row → Option Row → Option Row
onto row more = option_map (λ r. row ++ r) more

onto_on : (row : Row) (m : Member) (o : Option Row) → onto row (met_on (Some m) o) ≡ onto (row ++ m ∷ []) o
onto_on row m None = refl
onto_on row m (Some r) = ap Some (sym (append_assoc row (m ∷ []) r))

pub met_step : (lines : Lines) (row a b : Row) (i : ℕ) (x y m : Member) → i < length a → i < length b → x ≡ get_or a i x → y ≡ get_or b i y → meet_of lines x y ≡ Some m →
    onto row (met lines (drop i a) (drop i b)) ≡ onto (row ++ m ∷ []) (met lines (drop (i + 1) a) (drop (i + 1) b))
met_step lines row a b i x y m p q ex ey e =
    let da : drop i a ≡ x ∷ drop (i + 1) a = drop-cons a i x p ∙ ap (λ z. z ∷ drop (suc i) a) (sym ex) ∙ ap (λ k. x ∷ drop k a) (sym (add-one i)) in
    let db : drop i b ≡ y ∷ drop (i + 1) b = drop-cons b i y q ∙ ap (λ z. z ∷ drop (suc i) b) (sym ey) ∙ ap (λ k. y ∷ drop k b) (sym (add-one i)) in
    rw (da, db) (ap (λ o. onto row (met_on o (met lines (drop (i + 1) a) (drop (i + 1) b)))) e ∙ onto_on row m (met lines (drop (i + 1) a) (drop (i + 1) b)))

met_on_none : (o : Option Member) → met_on o None ≡ None
met_on_none None = refl
met_on_none (Some m) = refl

pub met_unequal : (lines : Lines) (a b : Row) → (length a ≡ length b → ⊥) → None ≡ met lines a b
met_unequal lines [] [] other = absurd (other refl)
met_unequal lines [] (n ∷ b) other = refl
met_unequal lines (m ∷ a) [] other = refl
met_unequal lines (m ∷ a) (n ∷ b) other = sym (met_on_none (meet_of lines m n)) ∙ ap (met_on (meet_of lines m n)) (met_unequal lines a b (λ e. other (ap suc e)))
