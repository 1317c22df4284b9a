-- The right choices of a part, computed from those of its parts.
use Rattle.std.specs.Prelude.{◌≡◌, ◌&&◌, ◌||◌, ℕ, ◌+◌, Bool, true, false, not, List, [], ◌∷◌, ◌++◌, Option, Some, None}
use Rattle.std.specs.List.{filter, filter_map}
use Rattle.std.specs.Option.{option_map}
use Rattle.resolve_types.specs.Types.{pairs}
use Rattle.resolve_readings.specs.declared.part.Typing.{Typing}
use Rattle.resolve_readings.specs.Meanings.{single_of, pair_of, is_none}
use Rattle.resolve_readings.specs.declared.meaning.Meaning.{Meaning}
use Rattle.resolve_readings.specs.declared.part.Unary.{Unary}
use Rattle.resolve_readings.specs.declared.part.Binary.{Binary}
use Rattle.resolve_readings.specs.declared.part.Decision.{Decision}
use Rattle.resolve_readings.specs.declared.part.Found.{Found}
use Rattle.resolve_readings.specs.declared.part.Outcome.{Outcome}
use Rattle.resolve_readings.specs.declared.part.Outcome.TheVariants as outcome
use Rattle.resolve_readings.specs.declared.part.Part.{Part, Name, Known, Single', Pair'}

abbrev pub found_as : List ℕ → Meaning → Found
found_as choice m = record { choice = choice; meaning = m }

-- each candidate with its number, counted from a number on
abbrev pub numbered : ℕ → List Meaning → List Found
numbered n [] = []
numbered n (m ∷ ms) = found_as (n ∷ []) m ∷ numbered (n + 1) ms

module _ (typing : Typing) where
  -- what an operator makes of one choice, where that is right
  abbrev pub made : Unary → Found → Option Found
  made op f = option_map (found_as f.choice) (single_of typing op f.meaning)

  -- what an operator makes of two choices, where that is right
  abbrev pub paired : Binary → Found → Found → Option Found
  paired op f g = option_map (found_as (f.choice ++ g.choice)) (pair_of typing op f.meaning g.meaning)

  -- the right choices of a part, the earlier names' candidates first
  abbrev pub found : Part → List Found
  found (Name candidates) = numbered 0 candidates
  found (Known m) = found_as [] m ∷ []
  found (Single' op p a) = filter_map (made op) (found a)
  found (Pair' op p a q b) = pairs (paired op) (found a) (found b)

-- the only one of a list
abbrev pub single : {X : Type 0} → List X → Option X
single (x ∷ []) = Some x
single _ = None

abbrev pub relevant_of : List Found → List Found
relevant_of = filter (λ f. f.meaning.relevant)

abbrev pub plain_of : List Found → List Found
plain_of = filter (λ f. not f.meaning.integer)

-- the first list, or the second where that is empty
abbrev pub else_all : {X : Type 0} → List X → List X → List X
else_all [] ys = ys
else_all (x ∷ xs) ys = x ∷ xs

abbrev pub first_of_two : {X : Type 0} → Option X → Option X → Option X
first_of_two (Some x) o = Some x
first_of_two None o = o

-- the one that is chosen of all right ones
abbrev pub chosen : List Found → Option Found
chosen all = first_of_two (single all) (first_of_two (single (relevant_of all)) (single (plain_of (else_all (relevant_of all) all))))

abbrev pub outcome_of : List Found → Option Found → Outcome
outcome_of [] o = outcome.NoReading
outcome_of (f ∷ fs) None = outcome.Ambiguous
outcome_of (f ∷ fs) (Some g) = outcome.Read g.choice

abbrev pub picked : List Found → Outcome
picked all = outcome_of all (chosen all)

-- whether it is relevant, where that is asked, and names nothing of the integer module, where that is asked
abbrev pub passes : Bool → Bool → Found → Bool
passes relevant plain f = (not relevant || f.meaning.relevant) && (not plain || not f.meaning.integer)

abbrev pub passing : Bool → Bool → List Found → List Found
passing relevant plain = filter (passes relevant plain)

abbrev pub chosen_by : List Found → Option Found
chosen_by all =
    first_of_two (single (passing false false all))
    (first_of_two (single (passing true false all)) (single (passing (not (is_none (passing true false all))) true all)))

-- what is decided means what the chosen one does
abbrev pub IsMeant : List Found → Decision → Type 0
IsMeant all d = (choice : List ℕ) → d.outcome ≡ outcome.Read choice → (f : Found) × (chosen_by all ≡ Some f) × (f.choice ≡ choice) × (d.meaning ≡ Some f.meaning)
