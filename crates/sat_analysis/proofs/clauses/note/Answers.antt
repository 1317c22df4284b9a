use Rattle.std.proofs.Common.{ℤ, ◌≡◌, ◌∙◌, sym, subst, rules, w64, SFits}
use Rattle.std.proofs.lemmas.Int.{to_z-of_z}
use Rattle.std.proofs.lemmas.Bool.{false≢true}
use Rattle.sat_analysis.specs.Resolved.{IsOneNoted}
use Rattle.sat_analysis.proofs.Noting.{one_new}
use Rattle.sat_analysis.proofs.clauses.note.Goals as goal

pub returns-clause-noted : goal.returns-clause-noted
returns-clause-noted c =
    let literal_fits : SFits w64 c.wide-its_value.result = search rules in
    let is : c.wide-its_value.result ≡ c.args.literal.now = c.wide-its_value.ensures in
    let added = simp to_z-of_z at c.in_ok-add.ensures.added in
    let has = simp to_z-of_z at c.has.ensures in
    subst (λ (l : ℤ). IsOneNoted l c.args.noted.now.literals c.add.new.self.literals) is
    (one_new c.wide-its_value.result c.args.noted.now.literals c.add.new.self.literals added (λ h. false≢true (sym c.if-has.false ∙ has.1 h)))
