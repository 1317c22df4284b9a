use Rattle.std.proofs.Common.{◌≡◌, ◌↔◌, ℕ, List, subst}
use Rattle.std.proofs.lemmas.Slice.Eq.{strip_suffix_is}
use Rattle.std.proofs.lemmas.Bool.Decides.{Decides-eqb}
use Rattle.eval_sets.specs.SetOf.{Gains}
use Rattle.eval_sets.specs.Rows.{GivesBefore}
use Rattle.eval_sets.proofs.Gather.{gains_put, gains_none}
use Rattle.eval_sets.proofs.RowLaw.{before_row}
use Rattle.eval_sets.proofs.rows.add_before.Goals as goal

pub returns-in_ok-row-in-Some : goal.returns-in_ok-row-in-Some
returns-in_ok-row-in-Some c =
    let n = c.numbers.result.now in
    let split = rw c.in-Some.is at (strip_suffix_is Decides-eqb n c.args.end.now c.strip_suffix.result c.strip_suffix.ensures.cases) in
    gains_put c.put.result c.args.all.now c.put.new.set (GivesBefore c.args.end.now) c.args.tuple.now c.in_ok-row-in-Some.row
    (subst (λ (v : List ℕ). (t : List ℕ) → (t ≡ c.in_ok-row-in-Some.row) ↔ GivesBefore c.args.end.now v t) c.numbers.ensures.same (before_row c.args.end.now n c.in-Some.rest.now c.in_ok-row-in-Some.row split c.in_ok-row-in-Some.ensures))
    c.put.ensures.ok

pub returns-in-None : goal.returns-in-None
returns-in-None c =
    let n = c.numbers.result.now in
    let never = rw c.in-None.is at (strip_suffix_is Decides-eqb n c.args.end.now c.strip_suffix.result c.strip_suffix.ensures.cases) in
    subst (λ (v : List ℕ). Gains c.args.all.now c.args.all.now (GivesBefore c.args.end.now) v) c.numbers.ensures.same (gains_none c.args.all.now (GivesBefore c.args.end.now) n never)
