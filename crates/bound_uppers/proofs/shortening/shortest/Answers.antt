use Rattle.std.proofs.Common.{◌≡◌, ◌≤◌, ◌-◌, ◌%◌, ℕ, length, sym, subst, arith}
use Rattle.bound_uppers.specs.Shortest.{IsLasso, IsSameSequence, HasFewestStates, HasEarliestLoop}
use Rattle.bound_uppers.specs.Repeats.{AreFirsts}
use Rattle.bound_uppers.proofs.Cut.{IsLeast, cut_of, cut_same, cut_fewest, cut_earliest, cut_count, answers}
use Rattle.bound_uppers.proofs.shortening.shortest.Goals as goal

pub returns : goal.returns
returns c =
    let lasso = c.args.lasso.now in
    let firsts = c.in_ok-all.all.items in
    let begin = c.least_start-begin.result in
    let d = c.least_period-period.result in
    let is : IsLasso lasso = omega (arith, c.states-count.ensures.count, c.states-count.ensures.some) in
    let are : AreFirsts lasso.states firsts = c.in_ok-all.ensures in
    let at_start = c.loop_start-start.ensures in
    let period = rw c.deref.ensures.value at (rw at_start at c.least_period-period.ensures) in
    let start = rw c.deref-2.ensures.value at (rw at_start at c.least_start-begin.ensures) in
    let whole : length firsts ≡ length lasso.states = are.0 in
    let least : IsLeast lasso firsts begin d = record {
      some = period.some;
      fits = rw whole at period.fits;
      divides = rw whole at period.divides;
      repeats = period.repeats;
      least = λ q some lt e r. period.least q some lt (subst (λ (n : ℕ). (n - lasso.loop_start) % q ≡ 0) (sym whole) e) r;
      most = start.most;
      before = start.repeats;
      first = start.least;
    } in
    record {
      count = answers (λ l. length l.states ≤ length lasso.states) (cut_of lasso begin d) c.cut.result (cut_count lasso firsts begin d least) c.cut.ensures;
      same = answers (IsSameSequence lasso) (cut_of lasso begin d) c.cut.result (cut_same lasso firsts begin d is are least) c.cut.ensures;
      fewest = answers HasFewestStates (cut_of lasso begin d) c.cut.result (cut_fewest lasso firsts begin d is are least) c.cut.ensures;
      earliest = answers HasEarliestLoop (cut_of lasso begin d) c.cut.result (cut_earliest lasso firsts begin d is are least) c.cut.ensures;
    }
