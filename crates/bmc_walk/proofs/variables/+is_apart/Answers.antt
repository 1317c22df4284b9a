use Rattle.bmc_walk.specs.Variables.{earlier_list}
use Rattle.bmc_walk.proofs.ApartLaws.{apart_zero, apart_start, apart_equal, apart_more}
use Rattle.bmc_walk.proofs.variables.+is_apart.Goals as goal

pub returns-then-other-atom : goal.returns-then-other-atom
returns-then-other-atom t c =
    rw c.in-Then.is (apart_more c.args.apart c.args.atom c.in-Then.other (earlier_list c.in-Then.rest.now) c.is_apart.result c.if-apart-eq0.false c.if-other-atom.true c.is_apart.ensures)

pub returns-then-apart-eq0 : goal.returns-then-apart-eq0
returns-then-apart-eq0 t c = apart_zero c.args.apart c.args.atom (earlier_list c.args.earlier.now) c.if-apart-eq0.true

pub returns-in-Start : goal.returns-in-Start
returns-in-Start t c = rw c.in-Start.is (apart_start c.args.apart c.args.atom)

pub returns-else-other-atom : goal.returns-else-other-atom
returns-else-other-atom t c =
    rw c.in-Then.is (apart_equal c.args.apart c.args.atom c.in-Then.other (earlier_list c.in-Then.rest.now) c.if-apart-eq0.false c.if-other-atom.false)
