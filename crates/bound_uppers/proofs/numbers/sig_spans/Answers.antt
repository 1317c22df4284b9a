use Rattle.std.proofs.Common.{arith, sym, ap, ◌∙◌, ◌++◌, ◌∷◌, [], ◌<◌, ◌≤◌, ℕ, length}
use Rattle.std.proofs.lemmas.Option.{get_or_from_slice_get}
use Rattle.bound_uppers.specs.declared.numbers.AtomRange.{AtomRange}
use Rattle.bound_uppers.specs.Kinds.{span_in}
use Rattle.bound_uppers.proofs.Spanning.{first_none, first_more, spans_none, spans_more, spans_all}
use Rattle.bound_uppers.proofs.numbers.sig_spans.Goals as goal

pub loop-place-init : goal.loop-place-init
loop-place-init c = record {
  next = sym (first_none c.args.numbers.now);
  most = omega arith;
  spans = c.new-sigs.ensures.items ∙ spans_none c.args.size c.args.numbers.now;
}

pub loop-place-preserved : goal.loop-place-preserved
loop-place-preserved c =
    let was = c.loop-place.invariant in
    let xs = c.args.numbers.now in
    let k = c.loop-place.place in
    let x = c.scope_at-scope.result in
    let lt : k < length xs = omega arith in
    let is = sym (get_or_from_slice_get xs k x x c.scope_at-scope.ensures) in
    let begins = was.next in
    let further = first_more xs k x lt is in
    let its = c.atoms_of-more.ensures in
    let made = c.span_within-span.ensures ∙ ap (λ (n : ℕ). span_in c.args.size c.loop-place.next n) c.number_of-number.ensures in
    record {
      next = omega (arith, begins, further, its);
      most = omega arith;
      spans = spans_more c.args.size xs k c.loop-place.next x c.loop-place.sigs.items c.push.new.self.items lt is was.next was.spans (c.in_ok-push.ensures.items ∙ ap (λ (s : AtomRange). c.loop-place.sigs.items ++ s ∷ []) made);
    }

pub returns : goal.returns
returns c =
    let over : length c.args.numbers.now ≤ c.loop-place.place = omega arith in
    spans_all c.args.size c.args.numbers.now c.loop-place.place c.loop-place.sigs.items over c.loop-place.invariant.spans
