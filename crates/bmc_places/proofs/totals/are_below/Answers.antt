use Rattle.std.proofs.Common.{◌≡◌, ◌≤◌, ◌<◌, ◌∷◌, [], ℕ, List, All, length, refl, subst, arith}
use Rattle.std.proofs.lemmas.Option.{slice_get_read}
use Rattle.gate_matrix.specs.declared.entry.Entry.{Entry}
use Rattle.bmc_places.proofs.ListLaws.{all_more, take_all}
use Rattle.bmc_places.proofs.totals.are_below.Goals as goal

pub loop-entry-preserved : goal.loop-entry-preserved
loop-entry-preserved c =
    let es = c.args.entries.now in
    let e = c.entry-item.result in
    all_more (λ (d : Entry). (a : ℕ) → d.tuple ≡ a ∷ [] → a < c.args.end) es c.loop-entry.entry-index e (slice_get_read es (length es) c.loop-entry.entry-index e refl c.loop-entry-test.true c.entry-item.is) c.loop-entry.invariant (c.is_below-below.ensures c.if-not-below.false)

pub returns : goal.returns
returns c = λ yes. (let high : length c.args.entries.now ≤ c.loop-entry.entry-index = omega (arith, c.loop-entry-test.false) in
    subst (λ (es : List Entry). All (λ (e : Entry). (a : ℕ) → e.tuple ≡ a ∷ [] → a < c.args.end) es) (take_all c.args.entries.now c.loop-entry.entry-index high) c.loop-entry.invariant)
