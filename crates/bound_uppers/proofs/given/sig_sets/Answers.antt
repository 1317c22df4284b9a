use Rattle.std.proofs.Common.{◌+◌, ℕ, length, ap, sym, ◌∙◌, subst, arith}
use Rattle.core_tuples.specs.Sets.{HasJust}
use Rattle.bound_owners.specs.Tops.{top_at}
use Rattle.bound_uppers.specs.AtomSets.{InSigSet}
use Rattle.bound_uppers.proofs.Giving.{sets_more, sets_all}
use Rattle.bound_uppers.proofs.given.sig_sets.Goals as goal

pub loop-sig-preserved : goal.loop-sig-preserved
loop-sig-preserved c =
    let was = c.loop-sig.invariant in
    let model = c.args.model.now in
    let scopes = c.args.scopes.now in
    let standing = c.args.standing.now in
    let set = c.in_ok-set.set in
    let up = c.top_of-stands.ensures ∙ ap (λ (m : ℕ). top_at standing m) was.number in
    record {
      number = ap (λ (m : ℕ). m + 1) was.number;
      sets = sets_more model scopes standing c.loop-sig._sig-index c.top_of-stands.result set c.loop-sig.sets.items c.push.new.self.items up c.in_ok-set.ensures.columns (λ e. subst (λ (m : ℕ). HasJust set 1 (InSigSet model scopes m)) was.number (c.in_ok-set.ensures.given (e ∙ sym was.number))) was.sets c.in_ok-push.ensures.items;
    }

pub returns : goal.returns
returns c =
    let same = ap length c.as_slice-sig-items.ensures in
    sets_all c.args.model.now c.args.scopes.now c.args.standing.now c.loop-sig._sig-index (length c.args.model.now.sigs) c.loop-sig.sets.items (omega (arith, same)) (omega (arith, same)) c.loop-sig.invariant.sets
