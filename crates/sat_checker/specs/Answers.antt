-- What the checker answers to a line: what it does where it passes, or the rule that it breaks.
use Rattle.std.specs.Prelude.{ℕ, Option, Some, None, Result, Ok, Err}
use Rattle.std.specs.Prelude.{ℤ, [], ◌∷◌}
use Rattle.sat_lrat.specs.declared.line.Line.{Line}
use Rattle.sat_lrat.specs.declared.line.Line.TheVariants.{Lemma, Delete}
use Rattle.sat_checker.specs.declared.fault.Step.{Step}
use Rattle.sat_checker.specs.declared.fault.Step.TheVariants.{Added, Deleted, Refuted}
use Rattle.sat_lrat.specs.Step.{beside}
use Rattle.sat_lrat.specs.declared.line.Rest.{Rest}
use Rattle.sat_lrat.specs.declared.line.Rest.TheVariants.{Nothing, One, Several}
use Rattle.sat_checker.specs.declared.fault.LineFault.{LineFault}
use Rattle.sat_checker.specs.declared.fault.LineFault.TheVariants.{L1, L2, L3, L4, L5, Memory}

-- the number of a rule, where a rule was broken
abbrev pub rule_of : LineFault → Option ℕ
rule_of L1 = Some 1
rule_of L2 = Some 2
rule_of L3 = Some 3
rule_of L4 = Some 4
rule_of L5 = Some 5
rule_of Memory = None

-- the rule that the hints broke, if any
abbrev pub broken_rule : {X : Type 0} → Result X LineFault → Option ℕ
broken_rule (Ok x) = None
broken_rule (Err fault) = rule_of fault

-- a fact of the one literal that a clause has beside false ones
abbrev pub IfOne : Rest → (ℤ → Type 0) → Type 0
IfOne Nothing P = Unit {0}
IfOne (One literal) P = P literal
IfOne Several P = Unit {0}

-- what a line does where it passes
abbrev pub kind_of : Line → Step
kind_of (Lemma id [] hints) = Refuted
kind_of (Lemma id (literal ∷ literals) hints) = Added
kind_of (Delete ids) = Deleted

-- what was found so far, with what the other literals give
abbrev pub together : Rest → Rest → Rest
together Nothing rest = rest
together (One literal) rest = beside literal rest
together Several rest = Several
