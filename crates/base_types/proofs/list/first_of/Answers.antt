use Rattle.std.proofs.Common.{◌<◌, length, length-set, arith, ◌∙◌}
use Rattle.base_types.specs.declared.library.Fetch.TheVariants.{Absent}
use Rattle.base_types.proofs.Counts.{list_cause, list_other, same_cause}
use Rattle.base_types.proofs.First.{keeps_holds, answers_found, answers_absent}
use Rattle.base_types.proofs.list.first_of.Goals as goal

pub returns-in-Ok-Found-clause-keeps : goal.returns-in-Ok-Found-clause-keeps
returns-in-Ok-Found-clause-keeps g c =
    keeps_holds _ c.args.libraries.now.items c.loop-i.libraries.items c.loop-i.i c.index_mut.result.now c.fetch.new.self c.loop-i.invariant.keeps c.index_mut.ensures.value c.fetch.ensures.keeps

pub returns-in-Ok-Found-clause-answer : goal.returns-in-Ok-Found-clause-answer
returns-in-Ok-Found-clause-answer g c told fetch tells is =
    let lt : c.loop-i.i < length c.loop-i.libraries.items = omega (arith, c.loop-i.invariant.size) in
    answers_found _ c.args.libraries.now.items c.loop-i.libraries.items c.loop-i.i c.index_mut.result.now c.args.name.now c.args.most
    c.loop-i.invariant.keeps lt c.index_mut.ensures.value told tells (c.loop-i.invariant.absent told tells) fetch (λ e. cc)
    (λ texts h. c.fetch.ensures.answer texts fetch h (cc (c.in-Ok-Found.is, c.in-Ok-Found.field-0-is, is)))

pub returns-in-Ok-Found-clause-cause : goal.returns-in-Ok-Found-clause-cause
returns-in-Ok-Found-clause-cause g c =
    let lt : c.loop-i.i < length c.loop-i.libraries.items = omega (arith, c.loop-i.invariant.size) in
    list_cause _ c.args.libraries.now.items c.loop-i.libraries.items c.loop-i.i c.index_mut.result.now c.fetch.new.self _ c.loop-i.invariant.counts lt c.index_mut.ensures.value
    (rw (← c.in-Ok-Found.field-0-is, ← c.in-Ok-Found.is) c.fetch.ensures.cause)

pub returns-in-Err-clause-keeps : goal.returns-in-Err-clause-keeps
returns-in-Err-clause-keeps g c =
    keeps_holds _ c.args.libraries.now.items c.loop-i.libraries.items c.loop-i.i c.index_mut.result.now c.fetch.new.self c.loop-i.invariant.keeps c.index_mut.ensures.value c.fetch.ensures.keeps

pub returns-in-Err-clause-cause : goal.returns-in-Err-clause-cause
returns-in-Err-clause-cause g c =
    let lt : c.loop-i.i < length c.loop-i.libraries.items = omega (arith, c.loop-i.invariant.size) in
    list_cause _ c.args.libraries.now.items c.loop-i.libraries.items c.loop-i.i c.index_mut.result.now c.fetch.new.self _ c.loop-i.invariant.counts lt c.index_mut.ensures.value c.in-Err.ensures.cause

pub returns-clause-cause : goal.returns-clause-cause
returns-clause-cause g c = same_cause _ _ _ c.loop-i.invariant.counts (λ e. cc)

pub loop-i-preserved : goal.loop-i-preserved
loop-i-preserved g c =
    let lt : c.loop-i.i < length c.loop-i.libraries.items = omega (arith, c.loop-i.invariant.size) in
    record {
      size = length-set c.loop-i.libraries.items c.loop-i.i c.fetch.new.self ∙ c.loop-i.invariant.size;
      keeps = keeps_holds _ c.args.libraries.now.items c.loop-i.libraries.items c.loop-i.i c.index_mut.result.now c.fetch.new.self c.loop-i.invariant.keeps c.index_mut.ensures.value c.fetch.ensures.keeps;
      counts = list_other _ c.args.libraries.now.items c.loop-i.libraries.items c.loop-i.i c.index_mut.result.now c.fetch.new.self _ c.loop-i.invariant.counts lt c.index_mut.ensures.value c.fetch.ensures.cause (λ e. cc);
      absent = λ told tells. answers_absent _ c.args.libraries.now.items c.loop-i.libraries.items c.loop-i.i c.index_mut.result.now c.args.name.now c.args.most
          c.loop-i.invariant.keeps lt c.index_mut.ensures.value told tells (c.loop-i.invariant.absent told tells)
          (λ texts h. c.fetch.ensures.answer texts Absent h (cc (c.in-Ok-Absent.is, c.in-Ok-Absent.field-0-is)));
    }
