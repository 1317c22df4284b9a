-- Two texts come to one verdict at most.
use Rattle.std.proofs.Common.{◌≡◌, ◌∙◌, ◌+◌, ℕ, List, Result, Ok, Err, refl, sym, subst}
use Rattle.sat_dimacs.specs.Text.{Formula, Break, formula_of}
use Rattle.sat_lrat.specs.declared.line.Line.{Line}
use Rattle.sat_lrat.specs.Step.{State, start}
use Rattle.sat_verdict.specs.Mode as lrat
use Rattle.sat_verdict.specs.Mode.{Ends, refuted, rejected, unfinished, unreadable, more, lemmas_of, ForFormula}
use Rattle.sat_verdict.specs.declared.mode.Verdict.{Verdict}

one_end : (text : List ℕ) (from count : ℕ) (state : State) (v w : Verdict) → Ends text from count state v → Ends text from count state w → v ≡ w
one_end text from count state v w (refuted from1 count1 start1 next1 state1 after1 line1 read1 ok1 empty1) (refuted from2 count2 start2 next2 state2 after2 line2 read2 ok2 empty2) = refl
one_end text from count state v w (refuted from1 count1 start1 next1 state1 after1 line1 read1 ok1 empty1) (rejected from2 count2 start2 next2 rule2 state2 line2 read2 err2) = cc
one_end text from count state v w (refuted from1 count1 start1 next1 state1 after1 line1 read1 ok1 empty1) (unfinished from2 count2 state2 read2) = cc
one_end text from count state v w (refuted from1 count1 start1 next1 state1 after1 line1 read1 ok1 empty1) (unreadable from2 count2 start2 rule2 state2 read2) = cc
one_end text from count state v w (refuted from1 count1 start1 next1 state1 after1 line1 read1 ok1 empty1) (more from2 count2 start2 next2 state2 after2 line2 verdict2 read2 ok2 full2 rest2) = cc
one_end text from count state v w (rejected from1 count1 start1 next1 rule1 state1 line1 read1 err1) (refuted from2 count2 start2 next2 state2 after2 line2 read2 ok2 empty2) = cc
one_end text from count state v w (rejected from1 count1 start1 next1 rule1 state1 line1 read1 err1) (rejected from2 count2 start2 next2 rule2 state2 line2 read2 err2) = cc
one_end text from count state v w (rejected from1 count1 start1 next1 rule1 state1 line1 read1 err1) (unfinished from2 count2 state2 read2) = cc
one_end text from count state v w (rejected from1 count1 start1 next1 rule1 state1 line1 read1 err1) (unreadable from2 count2 start2 rule2 state2 read2) = cc
one_end text from count state v w (rejected from1 count1 start1 next1 rule1 state1 line1 read1 err1) (more from2 count2 start2 next2 state2 after2 line2 verdict2 read2 ok2 full2 rest2) = cc
one_end text from count state v w (unfinished from1 count1 state1 read1) (refuted from2 count2 start2 next2 state2 after2 line2 read2 ok2 empty2) = cc
one_end text from count state v w (unfinished from1 count1 state1 read1) (rejected from2 count2 start2 next2 rule2 state2 line2 read2 err2) = cc
one_end text from count state v w (unfinished from1 count1 state1 read1) (unfinished from2 count2 state2 read2) = refl
one_end text from count state v w (unfinished from1 count1 state1 read1) (unreadable from2 count2 start2 rule2 state2 read2) = cc
one_end text from count state v w (unfinished from1 count1 state1 read1) (more from2 count2 start2 next2 state2 after2 line2 verdict2 read2 ok2 full2 rest2) = cc
one_end text from count state v w (unreadable from1 count1 start1 rule1 state1 read1) (refuted from2 count2 start2 next2 state2 after2 line2 read2 ok2 empty2) = cc
one_end text from count state v w (unreadable from1 count1 start1 rule1 state1 read1) (rejected from2 count2 start2 next2 rule2 state2 line2 read2 err2) = cc
one_end text from count state v w (unreadable from1 count1 start1 rule1 state1 read1) (unfinished from2 count2 state2 read2) = cc
one_end text from count state v w (unreadable from1 count1 start1 rule1 state1 read1) (unreadable from2 count2 start2 rule2 state2 read2) = cc
one_end text from count state v w (unreadable from1 count1 start1 rule1 state1 read1) (more from2 count2 start2 next2 state2 after2 line2 verdict2 read2 ok2 full2 rest2) = cc
one_end text from count state v w (more from1 count1 start1 next1 state1 after1 line1 verdict1 read1 ok1 full1 rest1) (refuted from2 count2 start2 next2 state2 after2 line2 read2 ok2 empty2) = cc
one_end text from count state v w (more from1 count1 start1 next1 state1 after1 line1 verdict1 read1 ok1 full1 rest1) (rejected from2 count2 start2 next2 rule2 state2 line2 read2 err2) = cc
one_end text from count state v w (more from1 count1 start1 next1 state1 after1 line1 verdict1 read1 ok1 full1 rest1) (unfinished from2 count2 state2 read2) = cc
one_end text from count state v w (more from1 count1 start1 next1 state1 after1 line1 verdict1 read1 ok1 full1 rest1) (unreadable from2 count2 start2 rule2 state2 read2) = cc
one_end text from count state v w (more from1 count1 start1 next1 state1 after1 line1 verdict1 read1 ok1 full1 rest1) (more from2 count2 start2 next2 state2 after2 line2 verdict2 read2 ok2 full2 rest2) =
    let line_is : line2 ≡ line1 = cc in
    let next_is : next2 ≡ next1 = cc in
    let after_is : after2 ≡ after1 = cc in
    let at_next : Ends text next1 (count1 + lemmas_of line2) after2 w = subst (λ (n : ℕ). Ends text n (count1 + lemmas_of line2) after2 w) next_is rest2 in
    let at_after : Ends text next1 (count1 + lemmas_of line2) after1 w = subst (λ (s : State). Ends text next1 (count1 + lemmas_of line2) s w) after_is at_next in
    let at_line : Ends text next1 (count1 + lemmas_of line1) after1 w = subst (λ (l : Line). Ends text next1 (count1 + lemmas_of l) after1 w) line_is at_after in
    one_end text next1 (count1 + lemmas_of line1) after1 v w rest1 at_line

one_for : (lines : List ℕ) (v w : Verdict) (formula : Result Formula Break) → ForFormula lines v formula → ForFormula lines w formula → v ≡ w
one_for lines v w (Ok formula) one two = one_end lines 0 0 (start formula.clauses) v w one two
one_for lines v w (Err stop) one two = one ∙ sym two

pub one_verdict : (clauses lines : List ℕ) (v w : Verdict) → lrat.IsVerdict clauses lines v → lrat.IsVerdict clauses lines w → v ≡ w
one_verdict clauses lines v w one two = one_for lines v w (formula_of clauses) one two
