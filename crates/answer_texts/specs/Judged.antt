-- The text of a judgement, and when it is that everything holds.
use Rattle.std.specs.Prelude.{ℕ, Bool, true, false, ◌&&◌, List, ◌++◌, codes, decimal, Option, Some, None, flat_map, is_none}
use Rattle.std.specs.List.{list_all}
use Rattle.answer_texts.specs.Facts.{fact_words}
use Rattle.answer_texts.specs.declared.judgement.Judgement.{Judgement}
use Rattle.answer_texts.specs.declared.judgement.JudgedFact.{JudgedFact}

abbrev pub verdict_words : Bool → List ℕ
verdict_words true = codes " ok\n"
verdict_words false = codes " broken\n"

unfoldable pub broken_words : List ℕ
broken_words = codes "declarations broken "

-- the least position at which the declarations don't hold
abbrev pub broken_line : ℕ → List ℕ
broken_line position = broken_words ++ decimal position ++ codes "\n"

-- whether the declarations hold at all positions, or the least one at which they don't
abbrev pub declarations_line : Option ℕ → List ℕ
declarations_line None = codes "declarations ok\n"
declarations_line (Some position) = broken_line position

abbrev pub fact_line : JudgedFact → List ℕ
fact_line judged = fact_words judged.fact ++ verdict_words judged.holds

abbrev pub last_line : Bool → List ℕ
last_line true = codes "satisfied\n"
last_line false = codes "broken\n"

-- everything holds
abbrev pub is_satisfied : Judgement → Bool
is_satisfied judgement = judgement.scopes && is_none judgement.broken_at && list_all (λ f. f.holds) judgement.facts && judgement.command

-- a line for each part, and one for all of them
abbrev pub judgement_text : Judgement → List ℕ
judgement_text judgement =
    codes "scopes" ++ verdict_words judgement.scopes ++ declarations_line judgement.broken_at ++ flat_map fact_line judgement.facts
    ++ codes "command" ++ verdict_words judgement.command ++ last_line (is_satisfied judgement)
