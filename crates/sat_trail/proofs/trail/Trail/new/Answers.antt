use Rattle.std.proofs.Common.{ℕ, ◌≡◌, ◌+◌, ◌<◌, ◌∙◌, ◌∷◌, [], true, false, ap, sym, length, get_or, below_more, arith, length-append}
use Rattle.std.proofs.lemmas.List.{get_or_default, get_or_append_left, get_or_push}
use Rattle.sat_trail.specs.Assignment.{Assignment}
use Rattle.sat_trail.specs.State.{clause_at, IsAttached}
use Rattle.sat_trail.proofs.trail.Trail.new.Goals as goal

pub loop-clause-preserved : goal.loop-clause-preserved
loop-clause-preserved c =
    let old = c.loop-clause.invariant in
    let index = c.loop-clause.clause-index in
    let items = c.clauses-clause-items.result.now in
    let after = c.add_clause.new.self in
    let adds = c.in_ok-add_clause.ensures.added.0 in
    let same = c.add_clause.ensures.assignment in
    let inside : index < length items = omega arith in
    let before = c.loop-clause.trail in
    record {
      variables = same.0 ∙ old.variables;
      count = adds.count ∙ ap (λ (n : ℕ). n + 1) old.count;
      each = below_more (λ (i : ℕ). clause_at after i ≡ get_or items i []) index (λ i l. adds.others i (omega (arith, old.count, l)) ∙ old.each i l)
          (ap (clause_at after) (sym old.count) ∙ (adds.last ∙ (c.clause-item.is ∙ get_or_default items index c.clause-item.result [] inside)));
      marked = ap length adds.attached ∙ (length-append before.attached (true ∷ []) ∙ ap (λ (n : ℕ). n + 1) old.marked);
      attached = below_more (λ (i : ℕ). IsAttached after i) index
          (λ i l. rw adds.attached (get_or_append_left before.attached (true ∷ []) false i (omega (arith, old.marked, l)) ∙ old.attached i l))
          (rw adds.attached (get_or_push before.attached true false index old.marked));
      unassigned = ap (λ (x : Assignment). x.trail) same.1 ∙ old.unassigned;
      no_level = same.2 ∙ old.no_level;
    }
