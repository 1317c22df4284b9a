use Rattle.std.proofs.Common.{◌≡◌, ◌+◌, ◌-◌, ◌<◌, ◌++◌, ◌∷◌, [], Some, sym, ap, ◌∙◌, subst, length, length-append, All, arith}
use Rattle.std.proofs.lemmas.List.Elements.{All-push}
use Rattle.core_tuples.specs.Index.{IsNumber}
use Rattle.answer_trace.specs.Reading.{further_atom, further_atoms}
use Rattle.answer_trace.proofs.Steps.{further_more}
use Rattle.answer_trace.proofs.row.read_tuple.Goals as goal

pub loop-column-preserved : goal.loop-column-preserved
loop-column-preserved c =
    let pushed : c.push-in-loop-column.new.self ≡ c.loop-column.tuple ++ c.in-Some-read_further.number ∷ [] = c.in_ok-push-2.ensures.ok in
    let small : IsNumber c.in-Some-read_further.number = c.in-Some-read_further.ensures.bound in
    let given : Some (c.in-Some-read_further.number, c.in-Some-read_further.next.now) ≡ further_atom c.args.index.now c.loop-column.rest.now = cc (c.in-Some-read_further.ensures.atom, c.in-Some-read_further.number-is, c.in-Some-read_further.next-is) in
    let below : c.loop-column._column < c.args.columns = omega arith in
    record {
      columns = omega (arith, ap length pushed, length-append c.loop-column.tuple (c.in-Some-read_further.number ∷ []));
      numbers = subst (All IsNumber) (sym pushed) (All-push IsNumber c.loop-column.tuple c.in-Some-read_further.number c.loop-column.invariant.numbers small);
      way = ap (λ t. further_atoms c.args.index.now (c.args.columns - (c.loop-column._column + 1)) t c.in-Some-read_further.next.now) pushed
          ∙ sym (further_more c.args.index.now c.args.columns c.loop-column._column c.loop-column.tuple c.loop-column.rest.now c.in-Some-read_further.number c.in-Some-read_further.next.now below given)
          ∙ c.loop-column.invariant.way;
    }
