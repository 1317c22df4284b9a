use Rattle.std.proofs.Common.{◌&&◌, ◌||◌, take, ap, sym, ◌∙◌}
use Rattle.std.specs.List.{list_any}
use Rattle.gate_matrix.specs.declared.entry.Entry.{Entry}
use Rattle.gate_matrix.specs.Questions.{more_than_one}
use Rattle.gate_matrix.proofs.BasicLemmas.{keeps_trans, all_here, any_more}
use Rattle.gate_matrix.proofs.QuestionLaw.{more_step}
use Rattle.gate_matrix.proofs.questions.seen_of.Goals as goal

pub loop-entry-preserved : goal.loop-entry-preserved
loop-entry-preserved g c =
    let value = g.G.Gates.node_value in
    let belongs = g.G.Gates.belongs in
    let before = c.loop-entry.invariant in
    let first = c.args.gates.now in
    let now = c.loop-entry.gates in
    let later = c.seen_more.new.gates in
    let es = c.args.entries.now in
    let e = c.entry-item.result in
    let i = c.loop-entry.entry-index in
    let there : belongs first e.node = all_here (λ (f : Entry). belongs first f.node) es i e c.requires c.loop-entry-test.true c.entry-item.is in
    let ok = c.in_ok-seen.ensures.ok in
    record {
      keeps = keeps_trans belongs value first now later before.keeps c.seen_more.ensures.keeps;
      seen = record {
        one = record {
          there = ok.one.there;
          gives = λ x. any_more (λ (f : Entry). value first x f.node) es i e _ _ _
              (ok.one.gives x) (before.seen.one.gives x) (before.keeps.values e.node there x) c.loop-entry-test.true c.entry-item.is;
        };
        two = record {
          there = ok.two.there;
          gives = λ x. ok.two.gives x
              ∙ ap (λ z. z || (value now x c.loop-entry.seen.one && value now x e.node)) (before.seen.two.gives x)
              ∙ ap (λ z. more_than_one (value first x) (take i es) || (z && value now x e.node)) (before.seen.one.gives x)
              ∙ ap (λ z. more_than_one (value first x) (take i es) || (list_any (λ (f : Entry). value first x f.node) (take i es) && z)) (before.keeps.values e.node there x)
              ∙ sym (more_step (value first x) es i e c.loop-entry-test.true c.entry-item.is);
        };
      };
    }
