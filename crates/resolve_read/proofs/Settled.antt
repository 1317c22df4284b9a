-- What was found of a root is what it means.
use Rattle.std.proofs.Common.{◌≡◌, ◌∙◌, [], Option, Some, sym, subst}
use Rattle.std.specs.Prelude.{IfSome}
use Rattle.resolve_readings.specs.declared.meaning.Meaning.{Meaning}
use Rattle.resolve_readings.specs.declared.part.Decision.{Decision}
use Rattle.resolve_readings.specs.declared.part.Outcome.{Outcome}
use Rattle.resolve_readings.specs.declared.part.Outcome.TheVariants as outcome
use Rattle.resolve_readings.specs.declared.part.Part.{Part}
use Rattle.resolve_readings.specs.declared.part.Typing.{Typing}
use Rattle.resolve_readings.specs.Readings.{Choice, read, Decides, IsReading, MeansSo}
use Rattle.resolve_rules.specs.Prepared.{Tree, tree_of}
use Rattle.resolve_read.specs.Reads.{ReadAs}

-- a root that is decided means what is told, under a choice that is its reading
pub means_read : (typing : Typing) (root : Part) (d : Decision) (found choice : Choice) → Decides typing root d.outcome → MeansSo typing root d → d.outcome ≡ outcome.Read found → found ≡ choice →
    IfSome d.meaning (λ m. IsReading typing root choice × (read typing root choice ≡ Some (m, [])))
means_read typing root d found choice decides means is same =
    let at = means found is in
    let reading : IsReading typing root found = subst (λ (o : Outcome). Decides typing root o) is decides in
    subst (λ (o : Option Meaning). IfSome o (λ m. IsReading typing root choice × (read typing root choice ≡ Some (m, [])))) (sym at.1)
    (subst (λ (c : Choice). IsReading typing root c) same reading, subst (λ (c : Choice). read typing root c ≡ Some (at.0, [])) same at.2)

-- a root whose parts are these, under a choice that is this one
pub read_as : (typing : Typing) (t : Tree) (choice : Choice) (m : Meaning) (root : Part) (passed whole : Choice) → tree_of root ≡ t → passed ≡ whole → whole ≡ choice → IsReading typing root passed → read typing root passed ≡ Some (m, []) → ReadAs typing t choice m
read_as typing t choice m root passed whole parts same is reads means =
    let one : passed ≡ choice = same ∙ is in
    (root, parts, subst (λ (c : Choice). IsReading typing root c) one reads, subst (λ (c : Choice). read typing root c ≡ Some (m, [])) one means)
