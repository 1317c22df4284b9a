-- The first tuple of a line and those behind it.
use Rattle.std.proofs.Common.{◌≡◌, ℕ, suc, ◌-◌, ◌≤◌, List, [], ◌∷◌, ◌++◌, flat_map, codes, length, take, drop, get_or, ap, ◌∙◌, arith}
use Rattle.std.proofs.lemmas.List.{take_all, append_assoc}
use Rattle.answer_trace.specs.Text.{tuple_text, tuples_text}

abbrev further : List (List ℕ) → List (List ℕ) → List ℕ
further atoms ts = flat_map (λ u. codes ", " ++ tuple_text atoms u) ts

in_all : (atoms ts : List (List ℕ)) (first : List ℕ) → 1 ≤ length ts → first ≡ get_or ts 0 first → codes " " ++ tuple_text atoms first ++ further atoms (take (length ts - 1) (drop 1 ts)) ≡ tuples_text atoms ts
in_all atoms [] first some is = absurd (omega arith)
in_all atoms (t ∷ rest) first some is =
    let whole : take (suc (length rest) - 1) rest ≡ rest = take_all (suc (length rest) - 1) rest (omega arith) in
    ap (λ f. codes " " ++ tuple_text atoms f ++ further atoms (take (suc (length rest) - 1) rest)) is
    ∙ ap (λ r. codes " " ++ tuple_text atoms t ++ further atoms r) whole

pub behind : (atoms ts : List (List ℕ)) (first given old mid new : List ℕ) → 1 ≤ length ts → first ≡ get_or ts 0 first → given ≡ first → mid ≡ old ++ codes " " ++ tuple_text atoms given → new ≡ mid ++ further atoms (take (length ts - 1) (drop 1 ts)) → new ≡ old ++ tuples_text atoms ts
behind atoms ts first given old mid new some is same one more =
    let tail = further atoms (take (length ts - 1) (drop 1 ts)) in
    more
    ∙ ap (λ m. m ++ tail) (one ∙ ap (λ g. old ++ codes " " ++ tuple_text atoms g) same ∙ append_assoc old (codes " ") (tuple_text atoms first))
    ∙ append_assoc old (codes " " ++ tuple_text atoms first) tail
    ∙ ap (λ r. old ++ r) (in_all atoms ts first some is)
