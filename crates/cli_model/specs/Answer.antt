-- The status and the text of an answer.
use Rattle.std.specs.Prelude.{ℕ, ◌/◌, ◌%◌, List, [], ◌∷◌, ◌++◌, codes, decimal}
use Rattle.base_types.specs.Place.{number_of}
use Rattle.base_types.specs.declared.place.Position.{Position}
use Rattle.base_types.specs.declared.place.Refusal.{Refusal}
use Rattle.sat_verdict.specs.Mode as lrat
use Rattle.sat_verdict.specs.declared.mode.Verdict.{Verdict}
use Rattle.answer_judge.specs.Answer as traced
use Rattle.cli_model.specs.declared.answer.Answer.{Answer}
use Rattle.cli_model.specs.declared.answer.Answer.TheVariants.{Usage, Refused, ReadFault, Trace, Refuted, Unknown, Made, Listed, Checked, Traced}

abbrev pub usage_line : List ℕ
usage_line = codes "usage: alloyc MODE FILE [SECOND] [--command N] [--conflicts N] [--part PART] [--chooser N] [--expr E] [--at N]" ++ 10 ∷ []

-- the line of a refusal, with the two digits of the rule's number
abbrev pub numbered_line : ℕ → ℕ → List ℕ → Position → List ℕ
numbered_line tens ones name place = codes "refused S" ++ (decimal tens ++ (decimal ones ++ (codes " " ++ (name ++ (codes ":" ++ (decimal place.line ++ (codes ":" ++ (decimal place.column ++ 10 ∷ []))))))))

abbrev pub refused_line : Refusal → List ℕ → List ℕ
refused_line refusal name = numbered_line (number_of refusal.rule / 10) (number_of refusal.rule % 10) name refusal.place

abbrev pub fault_line : List ℕ → List ℕ
fault_line name = codes "fault read " ++ name ++ 10 ∷ []

-- the line of a checked proof
abbrev pub checked_line : Verdict → List ℕ → List ℕ → List ℕ
checked_line verdict clauses lines = lrat.message_of verdict clauses lines ++ 10 ∷ []

abbrev pub text_of : Answer → List ℕ
text_of Usage = usage_line
text_of (Refused refusal name) = refused_line refusal name
text_of (ReadFault name) = fault_line name
text_of (Trace text) = text
text_of (Refuted text) = text
text_of (Unknown text) = text
text_of (Made text) = text
text_of (Listed text) = text
text_of (Checked verdict clauses lines) = checked_line verdict clauses lines
text_of (Traced said second) = traced.text_of said second

abbrev pub status_of : Answer → ℕ
status_of Usage = 2
status_of (Refused refusal name) = 3
status_of (ReadFault name) = 4
status_of (Trace text) = 10
status_of (Refuted text) = 20
status_of (Unknown text) = 30
status_of (Made text) = 0
status_of (Listed text) = 0
status_of (Checked verdict clauses lines) = lrat.status_of verdict
status_of (Traced said second) = traced.status_of said
