-- The lemmas of some lines of a refutation are as new as they were, and no more.
use Rattle.std.proofs.Common.{◌≡◌, inl, inr, ℕ, ◌≤◌, ℤ, false, List, [], ◌∷◌, length, All, Option, Some, None, sym, subst, arith}
use Rattle.std.specs.List.{list_all}
use Rattle.std.proofs.lemmas.List.Elements.{All-cons, All-head, All-tail}
use Rattle.sat_lrat.specs.declared.line.Line.{Line}
use Rattle.sat_lrat.specs.declared.line.Line.TheVariants.{Lemma, Delete}
use Rattle.sat_lrat.specs.Step.{among}
use Rattle.sat_lrat.specs.Spent.{IsNewClause}
use Rattle.sat_lemmas.specs.Kept.{ArePart}
use Rattle.sat_solver.specs.News.{AreNew}
use Rattle.sat_solver.specs.Turn.{AreWithin}
use Rattle.answer_search.specs.Found.{AreNewWithin}

-- not all of the literals of another are those of a clause
abbrev IsOther : List ℤ → List ℤ → Type 0
IsOther clause other = list_all (among clause) other ≡ false

-- a clause that contains none of the one list contains none of the other
abbrev AreFewer : List (List ℤ) → List (List ℤ) → Type 0
AreFewer fewer more = (clause : List ℤ) → All (IsOther clause) more → All (IsOther clause) fewer

-- the same with a clause more on both sides, or on the greater
both_more : (fewer more : List (List ℤ)) (own : List ℤ) → AreFewer fewer more → AreFewer (own ∷ fewer) (own ∷ more)
both_more fewer more own less clause all = All-cons (IsOther clause) own fewer (All-head (IsOther clause) own more all) (less clause (All-tail (IsOther clause) own more all))

one_more : (fewer more : List (List ℤ)) (own : List ℤ) → AreFewer fewer more → AreFewer fewer (own ∷ more)
one_more fewer more own less clause all = less clause (All-tail (IsOther clause) own more all)

-- what is new behind more clauses is new behind fewer
new_clause : (fewer more : List (List ℤ)) (clause : List ℤ) → AreFewer fewer more → IsNewClause more clause → IsNewClause fewer clause
new_clause fewer more clause less new = (new.0, less clause new.1)

-- some of the lines, in their order, are new behind fewer clauses
part_new : (rest lines : List Line) (fewer more : List (List ℤ)) → AreFewer fewer more → ArePart rest lines → AreNew more lines → AreNew fewer rest
part_new [] lines fewer more less part new = tt
part_new (one ∷ rest) [] fewer more less part new = absurd part
part_new (one ∷ rest) (Lemma id clause hints ∷ lines) fewer more less (inl both) new =
    subst (λ (line : Line). AreNew fewer (line ∷ rest)) (sym both.0)
    (new_clause fewer more clause less new.0, part_new rest lines (clause ∷ fewer) (clause ∷ more) (both_more fewer more clause less) both.1 new.1)
part_new (one ∷ rest) (Lemma id clause hints ∷ lines) fewer more less (inr later) new = part_new (one ∷ rest) lines fewer (clause ∷ more) (one_more fewer more clause less) later new.1
part_new (one ∷ rest) (Delete ids ∷ lines) fewer more less (inl both) new = subst (λ (line : Line). AreNew fewer (line ∷ rest)) (sym both.0) (part_new rest lines fewer more less both.1 new)
part_new (one ∷ rest) (Delete ids ∷ lines) fewer more less (inr later) new = part_new (one ∷ rest) lines fewer more less later new

-- fewer lines are within the same budget
part_within : (budget : Option ℕ) (rest lines : List Line) → length rest ≤ length lines → AreWithin budget lines → AreWithin budget rest
part_within None rest lines few within = tt
part_within (Some limit) rest lines few within = omega (arith, few, within)

pub part_new_within : (budget : Option ℕ) (clauses : List (List ℤ)) (rest lines : List Line) → ArePart rest lines → length rest ≤ length lines → AreNew clauses lines → AreWithin budget lines → AreNewWithin budget clauses rest
part_new_within budget clauses rest lines part few new within = record {
  few = part_within budget rest lines few within;
  fresh = part_new rest lines clauses clauses (λ clause all. all) part new;
}
