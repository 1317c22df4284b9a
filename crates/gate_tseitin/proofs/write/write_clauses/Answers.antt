use Rattle.std.proofs.Common.{◌∙◌, Bool, List, length, ap, subst, sym, arith}
use Rattle.gate_trait.specs.declared.node.Node.{Node}
use Rattle.gate_tseitin.specs.Folded.{AreKept}
use Rattle.gate_tseitin.specs.Named.{variable_count}
use Rattle.gate_tseitin.specs.Reached.{HasMark, Grows, AreReached}
use Rattle.gate_tseitin.proofs.Linking.{sure_kept, kept_same, kept_least}
use Rattle.gate_tseitin.proofs.Naming.{count_grows}
use Rattle.gate_tseitin.proofs.write.write_clauses.Goals as goal

pub kept_of-requires-clause-marks_each : goal.kept_of-requires-clause-marks_each
kept_of-requires-clause-marks_each c = ap (λ (ms : List Bool). length ms) c.deref.ensures.value ∙ c.in_ok-marks.ensures.reached.each

pub names_of-requires-clause-each : goal.names_of-requires-clause-each
names_of-requires-clause-each c = ap (λ (ms : List Bool). length ms) c.deref-2.ensures.value ∙ c.in_ok-kept.ensures.kept.each

pub names_of-requires-clause-sure_marked : goal.names_of-requires-clause-sure_marked
names_of-requires-clause-sure_marked c =
    let store = c.args.store.now in
    let nodes = c.as_slice-nodes.result.now in
    let reach : AreReached store c.args.sure nodes c.deref.result.now = subst (λ (ms : List Bool). AreReached store c.args.sure nodes ms) (sym c.deref.ensures.value) c.in_ok-marks.ensures.reached in
    subst (λ (ms : List Bool). HasMark ms c.args.sure) (sym c.deref-2.ensures.value) (sure_kept store c.args.sure nodes c.deref.result.now c.in_ok-kept.kept.items reach c.in_ok-kept.ensures.kept)

pub clauses_with-requires-clause-reached : goal.clauses_with-requires-clause-reached
clauses_with-requires-clause-reached c = subst (λ (ms : List Bool). AreReached c.args.store.now c.args.sure c.as_slice-nodes.result.now ms) (sym c.deref-3.ensures.value) c.in_ok-marks.ensures.reached

pub clauses_with-requires-clause-kept : goal.clauses_with-requires-clause-kept
clauses_with-requires-clause-kept c =
    kept_same c.args.store.now c.args.sure c.as_slice-nodes.result.now c.deref.result.now c.in_ok-kept.kept.items c.deref-3.result.now c.deref-4.result.now
    (c.deref.ensures.value ∙ sym c.deref-3.ensures.value) (sym c.deref-4.ensures.value) c.in_ok-kept.ensures.kept

pub returns-clause-fewest : goal.returns-clause-fewest
returns-clause-fewest c = λ other all.
    let store = c.args.store.now in
    let kept = c.in_ok-kept.kept.items in
    let reached : AreReached store c.args.sure c.as_slice-nodes.result.now other = subst (λ (ns : List Node). AreReached store c.args.sure ns other) (sym c.as_slice-nodes.ensures) all in
    let grows : Grows c.deref.result.now other = subst (λ (ms : List Bool). Grows ms other) (sym c.deref.ensures.value) (c.in_ok-marks.ensures.fewest other reached) in
    let more = count_grows kept other store (λ k has. grows k (c.in_ok-kept.ensures.kept.reached k has)) in
    let same = ap (λ (ms : List Bool). variable_count ms store) c.deref-2.ensures.value in
    omega (arith, c.in_ok-cnf.ensures.variables, c.in_ok-names.ensures.count, same, more)

pub returns-clause-folded : goal.returns-clause-folded
returns-clause-folded c = λ others fewer all keeps.
    let store = c.args.store.now in
    let nodes = c.as_slice-nodes.result.now in
    let kept = c.in_ok-kept.kept.items in
    let reached : AreReached store c.args.sure nodes others = subst (λ (ns : List Node). AreReached store c.args.sure ns others) (sym c.as_slice-nodes.ensures) all in
    let choice : AreKept store c.args.sure nodes others fewer = subst (λ (ns : List Node). AreKept store c.args.sure ns others fewer) (sym c.as_slice-nodes.ensures) keeps in
    let grows : Grows c.deref.result.now others = subst (λ (ms : List Bool). Grows ms others) (sym c.deref.ensures.value) (c.in_ok-marks.ensures.fewest others reached) in
    let more = count_grows kept fewer store (kept_least store c.args.sure nodes c.deref.result.now kept others fewer c.in_ok-kept.ensures.kept c.in_ok-kept.ensures.fewest grows choice) in
    let same = ap (λ (ms : List Bool). variable_count ms store) c.deref-2.ensures.value in
    omega (arith, c.in_ok-cnf.ensures.variables, c.in_ok-names.ensures.count, same, more)
