use Rattle.std.proofs.Common.{List, subst, arith}
use Rattle.core_tree.specs.declared.operators.Multiplicity.TheVariants.{Lone}
use Rattle.gate_matrix.specs.Matrices.{MatrixEntries}
use Rattle.bmc_places.specs.Rests.{HasWord}
use Rattle.bmc_places.proofs.StoreLaws.{stays_refl, stays_trans}
use Rattle.bmc_places.proofs.RestLaws.{word_set, word_some, word_lone, word_one}
use Rattle.bmc_places.proofs.rests.word_row.Goals as goal

pub returns-in_ok-row-in-Set-clause-stays : goal.returns-in_ok-row-in-Set-clause-stays
returns-in_ok-row-in-Set-clause-stays g c = stays_refl c.args.store.now

pub returns-in_ok-row-in-Set-clause-word : goal.returns-in_ok-row-in-Set-clause-word
returns-in_ok-row-in-Set-clause-word g c =
    let value = g.G.Gates.node_value c.args.gates.now in
    rw c.in-Set.is (word_set value value c.args.store.now.matrices.items c.args.set.now.items c.len-count.result c.in_ok-row-in-Set.row (omega (arith, c.len-count.ensures, c.args.set.now.ok.0)) c.in_ok-row-in-Set.ensures.values)

pub returns-in_ok-row-in-Some-clause-word : goal.returns-in_ok-row-in-Some-clause-word
returns-in_ok-row-in-Some-clause-word g c =
    let value = g.G.Gates.node_value in
    rw c.in-Some.is (word_some (value c.args.gates.now) (value c.question_row.new.gates) c.args.store.now.matrices.items c.args.set.now.items c.in_ok-row-in-Some.row c.in_ok-row-in-Some.ensures.answered)

pub returns-in_ok-row-in-Lone-clause-word : goal.returns-in_ok-row-in-Lone-clause-word
returns-in_ok-row-in-Lone-clause-word g c =
    let value = g.G.Gates.node_value in
    rw c.in-Lone.is (word_lone (value c.args.gates.now) (value c.question_row-in-Lone.new.gates) c.args.store.now.matrices.items c.args.set.now.items c.in_ok-row-in-Lone.row c.in_ok-row-in-Lone.ensures.answered)

pub returns-in_ok-row-in-One-clause-stays : goal.returns-in_ok-row-in-One-clause-stays
returns-in_ok-row-in-One-clause-stays g c = stays_trans c.args.store.now c.question_row-in-One.new.store c.question_row-in-One-2.new.store c.in_ok-some-in-One.ensures.stays c.in_ok-lone-in-One.ensures.stays

pub returns-in_ok-row-in-One-clause-word : goal.returns-in_ok-row-in-One-clause-word
returns-in_ok-row-in-One-clause-word g c =
    let value = g.G.Gates.node_value in
    let belongs = g.G.Gates.belongs in
    let first = c.args.gates.now in
    let now = c.question_row-in-One.new.gates in
    let later = c.question_row-in-One-2.new.gates in
    let ms = c.args.store.now.matrices.items in
    let set = c.args.set.now.items in
    let some = c.in_ok-some-in-One.some in
    let lone = c.in_ok-lone-in-One.lone in
    let has_lone = subst (λ (xs : List MatrixEntries). HasWord Lone (value now) (value later) xs set lone) c.in_ok-some-in-One.ensures.stays.matrices (word_lone (value now) (value later) c.question_row-in-One.new.store.matrices.items set lone c.in_ok-lone-in-One.ensures.answered) in
    rw c.in-One.is (word_one belongs value first now later c.both.new.gates ms set some lone c.in_ok-row-in-One.row c.question_row-in-One.ensures.keeps c.question_row-in-One-2.ensures.keeps c.requires.matrices c.in_ok-some-in-One.ensures.belongs
    (word_some (value first) (value now) ms set some c.in_ok-some-in-One.ensures.answered) has_lone c.in_ok-row-in-One.ensures.both)
