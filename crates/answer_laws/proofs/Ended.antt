-- What is read to its end is the text of the lasso that was read.
use Rattle.std.proofs.Common.{◌≡◌, ℕ, suc, ◌<◌, ◌≤◌, Bool, true, false, cond, List, [], ◌∷◌, ◌++◌, length, codes, Option, refl, sym, ap, ◌∙◌, arith, subst}
use Rattle.std.specs.List.{join_with_byte}
use Rattle.std.specs.Str.{bytes_eq}
use Rattle.std.proofs.lemmas.List.Splits.{join_with_byte-slice_split}
use Rattle.std.proofs.lemmas.Slice.Eq.{bytes_eq-Decides}
use Rattle.base_words.specs.Words.{parts}
use Rattle.core_tuples.specs.Sets.{TupleList}
use Rattle.core_meaning.specs.Sequence.{LassoValue}
use Rattle.answer_trace.specs.declared.label.Labels.{Labels}
use Rattle.answer_trace.specs.Text.{trace_text}
use Rattle.answer_trace.specs.Reading.{Way, go, on_line, where_true, states_way, is_over, over_way, end_way, with_start, header_of, body_way, lines_way, trace_way}
use Rattle.answer_trace.specs.Reading.Way.{on, off}
use Rattle.answer_laws.specs.Form.{IsLassoOf}
use Rattle.answer_laws.proofs.Whole.{header_line}
use Rattle.answer_laws.proofs.Sound.{header_is}
use Rattle.answer_laws.proofs.Progress.{Goes, goes_both, took, AreGiven, states_lines, StatesOn, states_on, where_is}
use Rattle.answer_laws.proofs.Built.{Allow, Values, all_lines, lasso_of, values_fit, text_parts, some_lines}

end_on : (lines : List (List ℕ)) (n a : ℕ) (rest : List (List ℕ)) (m : ℕ) → end_way lines n ≡ on a rest m → Goes n m lines rest (codes "end" ∷ []) × (is_over rest ≡ true)
end_on lines n a rest m e = by_first (on_line (λ line. where_true (bytes_eq line (codes "end"))) lines n) refl e
  where
    f : List ℕ → Option ℕ
    f line = where_true (bytes_eq line (codes "end"))

    by_over : (b : ℕ) (others : List (List ℕ)) (c : ℕ) → on_line f lines n ≡ on b others c → (over : Bool) → is_over others ≡ over → cond {A = Way ℕ} over (on 0 others c) (off (suc c)) ≡ on a rest m → Goes n m lines rest (codes "end" ∷ []) × (is_over rest ≡ true)
    by_over b others c was false over e = cc
    by_over b others c was true over e =
        let left : others ≡ rest = cc in
        let count : c ≡ m = cc in
        let one = took f lines n b others c was in
        let line : one.line ≡ codes "end" = (bytes_eq-Decides one.line (codes "end")).0 (where_is (bytes_eq one.line (codes "end")) b one.gave) in
        let goes : Goes n c lines others (codes "end" ∷ []) = subst (λ l. Goes n c lines others (l ∷ [])) line one.goes in
        (subst (λ x. Goes n m lines x (codes "end" ∷ [])) left (subst (λ x. Goes n x lines others (codes "end" ∷ [])) count goes), ap is_over (sym left) ∙ over)

    by_first : (w : Way ℕ) → on_line f lines n ≡ w → go (λ none others c. over_way others c) w ≡ on a rest m → Goes n m lines rest (codes "end" ∷ []) × (is_over rest ≡ true)
    by_first (off i) was e = cc
    by_first (on b others c) was e = by_over b others c was (is_over others) refl e

over_is : (rest : List (List ℕ)) → 1 ≤ length rest → is_over rest ≡ true → rest ≡ [] ∷ []
over_is [] some e = absurd (omega arith)
over_is ([] ∷ []) some e = refl
over_is ((byte ∷ bytes) ∷ lines) some e = cc
over_is ([] ∷ line ∷ lines) some e = cc

-- the values of lines that were read to their end
pub record LinesOn (labels : Labels) (lines : List (List ℕ)) (lasso : LassoValue) : Type 0 where
  pub values : Values labels
  pub is : lasso ≡ lasso_of labels values
  pub are : lines ≡ all_lines labels values ++ [] ∷ []

pub record BodyOn (labels : Labels) (count start : ℕ) (lines : List (List ℕ)) (lasso : LassoValue) : Type 0 where
  pub values : Values labels
  pub count_is : values.count ≡ count
  pub start_is : values.start ≡ start
  pub is : lasso ≡ lasso_of labels values
  pub are : lines ≡ (states_lines labels 0 values.all ++ codes "end" ∷ []) ++ [] ∷ []

body_on : (labels : Labels) → AreGiven labels labels.relations → (count start : ℕ) → start < count → count ≤ 4294967295 → (lines : List (List ℕ)) (n : ℕ) (lasso : LassoValue) (rest : List (List ℕ)) (m : ℕ) → 1 ≤ length lines → body_way labels (count, start) lines n ≡ on lasso rest m
    → BodyOn labels count start lines lasso
body_on labels given count start less few lines n lasso rest m some e = by_states (states_way labels count [] 0 lines n) refl e
  where
    by_end : (states : List (List TupleList)) (others : List (List ℕ)) (c : ℕ) → StatesOn labels count [] 0 n c lines others states → (w : Way ℕ) → end_way others c ≡ w → go (λ none left d. with_start start states left d) w ≡ on lasso rest m → BodyOn labels count start lines lasso
    by_end states others c found (off i) was e = cc
    by_end states others c found (on a left d) was e =
        let value : lasso_with states start ≡ lasso = cc in
        let last = end_on others c a left d was in
        let all = goes_both n c d lines others left (states_lines labels 0 found.all) (codes "end" ∷ []) found.goes last.0 in
        let over : left ≡ [] ∷ [] = over_is left (all.some some) last.1 in
        record {
          values = record { count = count; start = start; all = found.all; less = less; few = few; long = found.long; are = found.are };
          count_is = refl;
          start_is = refl;
          is = sym value ∙ ap (λ (s : List (List TupleList)). lasso_with s start) found.is;
          are = all.are ∙ ap (λ x. (states_lines labels 0 found.all ++ codes "end" ∷ []) ++ x) over;
        }
      where
        lasso_with : List (List TupleList) → ℕ → LassoValue
        lasso_with s k = record { states = s; loop_start = k }

    by_states : (w : Way (List (List TupleList))) → states_way labels count [] 0 lines n ≡ w → go (λ states others c. go (λ none left d. with_start start states left d) (end_way others c)) w ≡ on lasso rest m → BodyOn labels count start lines lasso
    by_states (off i) was e = cc
    by_states (on states others c) was e = by_end states others c (states_on labels given count [] 0 lines n states others c was) (end_way others c) refl e

lines_on : (labels : Labels) → AreGiven labels labels.relations → (lines : List (List ℕ)) (lasso : LassoValue) (rest : List (List ℕ)) (m : ℕ) → 1 ≤ length lines → lines_way labels lines 0 ≡ on lasso rest m → LinesOn labels lines lasso
lines_on labels given lines lasso rest m some e = by_header (on_line header_of lines 0) refl e
  where
    by_header : (w : Way (ℕ × ℕ)) → on_line header_of lines 0 ≡ w → go (body_way labels) w ≡ on lasso rest m → LinesOn labels lines lasso
    by_header (off i) was e = cc
    by_header (on header others c) was e =
        let one = took header_of lines 0 header others c was in
        let first = header_is one.line header.0 header.1 one.gave in
        let found = body_on labels given header.0 header.1 first.less first.few others c lasso rest m (one.goes.some some) e in
        let line : one.line ≡ header_line found.values.count found.values.start = first.text ∙ sym (ap (λ k. header_line k found.values.start) found.count_is ∙ ap (header_line header.0) found.start_is) in
        record {
          values = found.values;
          is = found.is;
          are = one.goes.are ∙ ap (λ l. l ∷ others) line ∙ ap (λ ls. header_line found.values.count found.values.start ∷ ls) found.are;
        }

same_text : (a b : List ℕ) → parts a ≡ parts b → a ≡ b
same_text a b e = sym (join_with_byte-slice_split 10 a) ∙ ap (join_with_byte 10) e ∙ join_with_byte-slice_split 10 b

-- a text that is read to its end is that of the lasso, and the lasso is one of the labels
pub text_of_read : (labels : Labels) → Allow labels → (text : List ℕ) (lasso : LassoValue) (rest : List (List ℕ)) (m : ℕ) → trace_way labels text ≡ on lasso rest m → (trace_text labels lasso ≡ text) × IsLassoOf labels lasso
text_of_read labels allow text lasso rest m e =
    let found = lines_on labels allow.given (parts text) lasso rest m (some_lines text) e in
    let whole : parts (trace_text labels (lasso_of labels found.values)) ≡ parts text = text_parts labels allow found.values ∙ sym found.are in (
      ap (trace_text labels) found.is ∙ same_text (trace_text labels (lasso_of labels found.values)) text whole,
      subst (IsLassoOf labels) (sym found.is) (values_fit labels allow found.values),
    )
