-- What the last line gives.
use Rattle.std.proofs.Common.{◌≡◌, ℕ, suc, Bool, true, false, cond, codes, List, refl, ap, ◌∙◌}
use Rattle.std.specs.Str.{bytes_eq}
use Rattle.base_words.specs.Words.{parts}
use Rattle.answer_trace.specs.Unread.{Unread}
use Rattle.answer_trace.specs.Reading.{Way, go, on_line, way_from, over_way, end_way, is_over, where_true}
use Rattle.answer_trace.specs.Reading.Way.{on, off}

over_or_not : (left : Unread) (over b : Bool) → b ≡ over → way_from left (where_true b) ≡ cond over (on 0 (parts left.bytes) left.lines) (off (suc left.lines))
over_or_not left true true same = refl
over_or_not left true false same = cc
over_or_not left false true same = cc
over_or_not left false false same = refl

abbrev over_behind : ℕ → List (List ℕ) → ℕ → Way ℕ
over_behind none rest m = over_way rest m

pub ended : (lines : List (List ℕ)) (n z : ℕ) (left : Unread) (b : Bool) → on z (parts left.bytes) left.lines ≡ on_line (λ line. where_true (bytes_eq line (codes "end"))) lines n → b ≡ is_over (parts left.bytes)
    → way_from left (where_true b) ≡ end_way lines n
ended lines n z left b e is = over_or_not left (is_over (parts left.bytes)) b is ∙ ap (go over_behind) e
