-- What is chosen of the right choices is one of them, and a root means by it what the definition says.
use Rattle.std.proofs.Common.{◌≡◌, ◌⊎◌, not, List, [], ◌∷◌, Option, Some, None, refl, sym, ◌∙◌, ap, inl, inr}
use Rattle.std.proofs.lemmas.List.{append-nil}
use Rattle.resolve_readings.specs.declared.part.Decision.{Decision}
use Rattle.resolve_readings.specs.declared.part.Found.{Found}
use Rattle.resolve_readings.specs.declared.part.Part.{Part}
use Rattle.resolve_readings.specs.declared.part.Typing.{Typing}
use Rattle.resolve_readings.specs.Found.{found, single, relevant_of, plain_of, else_all, first_of_two, chosen, chosen_by, IsMeant}
use Rattle.resolve_readings.specs.Readings.{read, MeansSo}
use Rattle.resolve_readings.proofs.Chosen.{chosen_same}
use Rattle.resolve_readings.proofs.Decided.{which}
use Rattle.resolve_readings.proofs.Lists.{In, in_filter}
use Rattle.resolve_readings.proofs.Sound.{sound}

single_in : (xs : List Found) (f : Found) → single xs ≡ Some f → In xs f
single_in [] f e = absurd cc
single_in (x ∷ []) f e = inl cc
single_in (x ∷ y ∷ more) f e = absurd cc

relevant_in : (all : List Found) (f : Found) → In (relevant_of all) f → In all f
relevant_in all f i = (in_filter (λ (g : Found). g.meaning.relevant) all f i).0

either_in : (relevant all : List Found) (f : Found) → (In relevant f → In all f) → In (else_all relevant all) f → In all f
either_in [] all f into i = i
either_in (x ∷ xs) all f into i = into i

plain_in : (all : List Found) (f : Found) → In (plain_of (else_all (relevant_of all) all)) f → In all f
plain_in all f i = either_in (relevant_of all) all f (relevant_in all f) (in_filter (λ (g : Found). not g.meaning.integer) (else_all (relevant_of all) all) f i).0

chosen_in : (all : List Found) (f : Found) → chosen all ≡ Some f → In all f
chosen_in all f e =
    elim (which (single all) (first_of_two (single (relevant_of all)) (single (plain_of (else_all (relevant_of all) all)))) f e) [
      | inl right ↦ single_in all f right
      | inr later ↦ elim (which (single (relevant_of all)) (single (plain_of (else_all (relevant_of all) all))) f later) [
        | inl relevant ↦ relevant_in all f (single_in (relevant_of all) f relevant)
        | inr plain ↦ plain_in all f (single_in (plain_of (else_all (relevant_of all) all)) f plain)
      ]
    ]

pub meant : (typing : Typing) (root : Part) (d : Decision) → IsMeant (found typing root) d → MeansSo typing root d
meant typing root d is choice e =
    let at = is choice e in
    let there : In (found typing root) at.0 = chosen_in (found typing root) at.0 (sym (chosen_same (found typing root)) ∙ at.1) in
    (at.0.meaning, at.3, ap (read typing root) (sym at.2 ∙ sym (append-nil at.0.choice)) ∙ sound typing root at.0 there [])
