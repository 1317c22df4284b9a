-- How the lines of a trace are read.
use Rattle.std.specs.Prelude.{ℕ, zero, suc, ◌+◌, ◌-◌, ◌==◌, ◌&&◌, ◌||◌, Bool, true, false, if◌then◌else◌, List, [], ◌∷◌, ◌++◌, length, take, drop, codes, decimal, min, nat_lt, nat_le, Option, Some, None, option_map, slice_get, slice_index_or}
use Rattle.std.specs.List.{position_or_len, flat_map}
use Rattle.std.specs.Option.{option_and_then}
use Rattle.std.specs.Str.{bytes_eq}
use Rattle.std.specs.declared.cmp.Ordering.{Ordering}
use Rattle.std.specs.declared.cmp.Ordering.TheVariants.{Less, Equal, Greater}
use Rattle.base_words.specs.Words.{parts, decimal_of}
use Rattle.core_tuples.specs.Sets.{TupleList, tuple_cmp}
use Rattle.core_meaning.specs.Sequence.{LassoValue}
use Rattle.answer_trace.specs.declared.label.Shown.{Shown}
use Rattle.answer_trace.specs.declared.label.Shown.TheVariants.{Line, Nothing, Just}
use Rattle.answer_trace.specs.declared.label.RelationLabel.{RelationLabel}
use Rattle.answer_trace.specs.declared.label.Labels.{Labels}
use Rattle.answer_trace.specs.Text.{atom_text}
use Rattle.answer_trace.specs.Unread.{Unread}

-- ---- the parts of a line

abbrev pub is_quote : ℕ → Bool
is_quote byte = byte == 34

-- a hyphen or a comma
abbrev pub is_stop : ℕ → Bool
is_stop byte = (byte == 45) || (byte == 44)

abbrev pub is_blank : ℕ → Bool
is_blank byte = byte == 32

-- what follows a word at the beginning of a text
abbrev pub behind : List ℕ → List ℕ → Option (List ℕ)
behind word text = if bytes_eq (take (length word) text) word then Some (drop (length word) text) else None

-- how long the atom is with which a text begins: a literal with its quotes, or up to a stop behind its first byte
abbrev pub atom_length : List ℕ → ℕ
atom_length [] = 0
atom_length (byte ∷ bytes) = if is_quote byte then min (position_or_len is_quote bytes + 2) (length bytes + 1) else position_or_len is_stop bytes + 1

-- the last of the first so many atoms with a text
abbrev pub found_before : List (List ℕ) → ℕ → List ℕ → Option ℕ
found_before atoms zero text = None
found_before atoms (suc k) text = if bytes_eq (atom_text atoms k) text then Some k else found_before atoms k text

-- the number with a text
abbrev pub number_of : List (List ℕ) → List ℕ → Option ℕ
number_of atoms text = found_before atoms (min (length atoms) 16384) text

abbrev pub with_rest : List ℕ → Option ℕ → Option (ℕ × List ℕ)
with_rest rest None = None
with_rest rest (Some n) = Some (n, rest)

-- the atom with which a text begins, and what follows it
abbrev pub next_atom : List (List ℕ) → List ℕ → Option (ℕ × List ℕ)
next_atom atoms text = with_rest (drop (atom_length text) text) (number_of atoms (take (atom_length text) text))

-- an atom behind an arrow
abbrev pub further_atom : List (List ℕ) → List ℕ → Option (ℕ × List ℕ)
further_atom atoms text = option_and_then (next_atom atoms) (behind (codes "->") text)

-- so many further atoms, with an arrow before each
abbrev pub further_atoms : List (List ℕ) → ℕ → List ℕ → List ℕ → Option (List ℕ × List ℕ)
further_atoms atoms zero tuple text = Some (tuple, text)
further_atoms atoms (suc k) tuple text = option_and_then (λ found. further_atoms atoms k (tuple ++ found.0 ∷ []) found.1) (further_atom atoms text)

-- the tuple with which a text begins, and what follows it
abbrev pub next_tuple : List (List ℕ) → ℕ → List ℕ → Option (List ℕ × List ℕ)
next_tuple atoms columns text = option_and_then (λ found. further_atoms atoms (columns - 1) (found.0 ∷ []) found.1) (next_atom atoms text)

abbrev pub is_less : Ordering → Bool
is_less Less = true
is_less Equal = false
is_less Greater = false

-- whether a tuple comes after the last of others
abbrev pub comes_after : List (List ℕ) → List ℕ → Bool
comes_after tuples t = (length tuples == 0) || is_less (tuple_cmp (slice_index_or tuples (length tuples - 1) []) t)

abbrev pub separator : List (List ℕ) → List ℕ
separator [] = codes " "
separator (t ∷ ts) = codes ", "

abbrev pub with_tuple : List (List ℕ) → List ℕ × List ℕ → Option (List (List ℕ) × List ℕ)
with_tuple tuples found = if comes_after tuples found.0 then Some (tuples ++ found.0 ∷ [], found.1) else None

-- tuples with the next one of a line, and what follows it
abbrev pub one_more : List (List ℕ) → ℕ → List (List ℕ) → List ℕ → Option (List (List ℕ) × List ℕ)
one_more atoms columns tuples text = option_and_then (with_tuple tuples) (option_and_then (next_tuple atoms columns) (behind (separator tuples) text))

-- the tuples of a text of at most so many bytes, behind others
abbrev pub tuples_of : List (List ℕ) → ℕ → ℕ → List (List ℕ) → List ℕ → Option (List (List ℕ))
tuples_of atoms columns most tuples [] = Some tuples
tuples_of atoms columns zero tuples (byte ∷ bytes) = None
tuples_of atoms columns (suc most) tuples (byte ∷ bytes) = option_and_then (λ found. tuples_of atoms columns most found.0 found.1) (one_more atoms columns tuples (byte ∷ bytes))

abbrev pub is_width : ℕ → Bool
is_width columns = nat_le 1 columns && nat_le columns 9

abbrev pub set_with : ℕ → List (List ℕ) → TupleList
set_with columns tuples = record { arity = columns; tuples = tuples }

-- the set whose tuples a text has
abbrev pub set_of : List (List ℕ) → ℕ → List ℕ → Option TupleList
set_of atoms columns text = if is_width columns then option_map (set_with columns) (tuples_of atoms columns (length text) [] text) else None

-- the set of a relation's line
abbrev pub line_set : List (List ℕ) → RelationLabel → List ℕ → Option TupleList
line_set atoms r line = option_and_then (set_of atoms r.columns) (option_and_then (behind (codes " =")) (behind r.label line))

abbrev pub is_rest : List ℕ → Option (List ℕ) → Bool
is_rest word None = false
is_rest word (Some rest) = bytes_eq rest word

-- the first line of a state
abbrev pub is_state_line : ℕ → List ℕ → Bool
is_state_line number line = is_rest (decimal number) (behind (codes "state ") line)

abbrev pub counts : Option ℕ → Option ℕ → Option (ℕ × ℕ)
counts None start = None
counts (Some count) None = None
counts (Some count) (Some start) = if nat_lt start count then Some (count, start) else None

abbrev pub header_numbers : List ℕ → Option (ℕ × ℕ)
header_numbers rest =
    let place = position_or_len is_blank rest in
    counts (decimal_of 4294967295 (take place rest)) (option_and_then (decimal_of 4294967295) (behind (codes " loop ") (drop place rest)))

-- the number of states and the loop index of a first line
abbrev pub header_of : List ℕ → Option (ℕ × ℕ)
header_of line = option_and_then header_numbers (behind (codes "trace states ") line)

-- ---- lines

-- What lines gave, the lines that are left, and how many were taken; or the number of the first line that is none of a
-- trace. The last of the lines is what stands behind the last line feed.
pub data Way (A : Type 0) : Type 0 where
  on : A → List (List ℕ) → ℕ → Way A
  off : ℕ → Way A

abbrev pub go : {A B : Type 0} → (A → List (List ℕ) → ℕ → Way B) → Way A → Way B
go f (on a lines n) = f a lines n
go f (off k) = off k

-- what a line gave
abbrev pub after_line : {A : Type 0} → List (List ℕ) → ℕ → Option A → Way A
after_line lines n None = off (suc n)
after_line lines n (Some a) = on a lines (suc n)

-- the next line, which ends with a line feed
abbrev pub on_line : {A : Type 0} → (List ℕ → Option A) → List (List ℕ) → ℕ → Way A
on_line f [] n = off (suc n)
on_line f (line ∷ []) n = off (suc n)
on_line f (line ∷ next ∷ lines) n = after_line (next ∷ lines) n (f line)

-- a value that no line gives
abbrev pub no_line : {A : Type 0} → List (List ℕ) → ℕ → Option A → Way A
no_line lines n None = off (suc n)
no_line lines n (Some a) = on a lines n

abbrev pub where_true : Bool → Option ℕ
where_true true = Some 0
where_true false = None

-- the set of a relation that has no line
abbrev pub hidden_set : ℕ → Option ℕ → Option TupleList
hidden_set columns None = if is_width columns then Some (set_with columns []) else None
hidden_set columns (Some atom) = if (columns == 1) && nat_lt atom 16384 then Some (set_with columns ((atom ∷ []) ∷ [])) else None

abbrev pub shown_way : List (List ℕ) → RelationLabel → Shown → List (List ℕ) → ℕ → Way TupleList
shown_way atoms r Line lines n = on_line (line_set atoms r) lines n
shown_way atoms r Nothing lines n = no_line lines n (hidden_set r.columns None)
shown_way atoms r (Just atom) lines n = no_line lines n (hidden_set r.columns (Some atom))

-- the set of a relation
abbrev pub relation_way : List (List ℕ) → RelationLabel → List (List ℕ) → ℕ → Way TupleList
relation_way atoms r lines n = shown_way atoms r r.shown lines n

-- the sets of relations, behind others
abbrev pub relations_way : List (List ℕ) → List TupleList → List RelationLabel → List (List ℕ) → ℕ → Way (List TupleList)
relations_way atoms sets [] lines n = on sets lines n
relations_way atoms sets (r ∷ rs) lines n = go (λ set rest m. relations_way atoms (sets ++ set ∷ []) rs rest m) (relation_way atoms r lines n)

abbrev pub has_place : ℕ → RelationLabel → Bool
has_place place r = r.place == place

-- the place among relations of the one that has a place in a state
abbrev pub order_of : List RelationLabel → ℕ → ℕ
order_of relations place = position_or_len (has_place place) relations

-- those of the first so many places
abbrev pub orders_before : List RelationLabel → ℕ → List ℕ
orders_before relations zero = []
orders_before relations (suc place) = orders_before relations place ++ order_of relations place ∷ []

abbrev pub orders_of : List RelationLabel → List ℕ
orders_of relations = orders_before relations (length relations)

abbrev pub one_set : Option TupleList → List TupleList
one_set None = []
one_set (Some set) = set ∷ []

-- the sets at these places
abbrev pub arranged : List ℕ → List TupleList → List TupleList
arranged orders sets = flat_map (λ order. one_set (slice_get sets order)) orders

-- the state of these sets
abbrev pub with_state : List RelationLabel → List TupleList → List (List ℕ) → ℕ → Way (List TupleList)
with_state relations sets lines n = on (arranged (orders_of relations) sets) lines n

abbrev pub state_line_way : ℕ → List (List ℕ) → ℕ → Way ℕ
state_line_way number lines n = on_line (λ line. where_true (is_state_line number line)) lines n

-- a state
abbrev pub state_way : Labels → ℕ → List (List ℕ) → ℕ → Way (List TupleList)
state_way labels number lines n =
    go (λ none rest m. go (with_state labels.relations) (relations_way labels.atoms [] labels.relations rest m)) (state_line_way number lines n)

-- so many states, behind others
abbrev pub states_way : Labels → ℕ → List (List TupleList) → ℕ → List (List ℕ) → ℕ → Way (List (List TupleList))
states_way labels zero states number lines n = on states lines n
states_way labels (suc k) states number lines n = go (λ state rest m. states_way labels k (states ++ state ∷ []) (suc number) rest m) (state_way labels number lines n)

-- whether nothing stands behind the last line feed
abbrev pub is_over : List (List ℕ) → Bool
is_over [] = true
is_over ([] ∷ []) = true
is_over ((byte ∷ bytes) ∷ lines) = false
is_over ([] ∷ line ∷ lines) = false

abbrev pub over_way : List (List ℕ) → ℕ → Way ℕ
over_way rest m = if is_over rest then on 0 rest m else off (suc m)

-- the last line, behind which nothing stands
abbrev pub end_way : List (List ℕ) → ℕ → Way ℕ
end_way lines n = go (λ none rest m. over_way rest m) (on_line (λ line. where_true (bytes_eq line (codes "end"))) lines n)

abbrev pub with_start : ℕ → List (List TupleList) → List (List ℕ) → ℕ → Way LassoValue
with_start start states lines n = on (record { states = states; loop_start = start }) lines n

-- the lines behind the first
abbrev pub body_way : Labels → ℕ × ℕ → List (List ℕ) → ℕ → Way LassoValue
body_way labels header lines n =
    go (λ states others k. go (λ none rest m. with_start header.1 states rest m) (end_way others k)) (states_way labels header.0 [] 0 lines n)

-- the lines of a trace
abbrev pub lines_way : Labels → List (List ℕ) → ℕ → Way LassoValue
lines_way labels lines n = go (body_way labels) (on_line header_of lines n)

abbrev pub trace_way : Labels → List ℕ → Way LassoValue
trace_way labels text = lines_way labels (parts text) 0

-- what was read up to an unread rest, or that its next line is none of a trace
abbrev pub way_from : {A : Type 0} → Unread → Option A → Way A
way_from left None = off (suc left.lines)
way_from left (Some a) = on a (parts left.bytes) left.lines
