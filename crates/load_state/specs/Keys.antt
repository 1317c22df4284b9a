-- Instances as texts with arguments: no two of them have one text with equal arguments.
use Rattle.std.specs.Prelude.{◌≡◌, ◌≢◌, ℕ, ◌+◌, ◌<◌, ◌==◌, Bool, false, not, ◌&&◌, ◌||◌, cond, List, [], ◌∷◌, map, length, slice_index_or, slice_get, bytes_eq, Option, Some, None}
use Rattle.std.specs.List.{AllPairs, list_any}
use Rattle.syntax_tree.specs.declared.instance.Instance.{Instance}
use Rattle.syntax_tree.specs.declared.instance.SigRef.{SigRef}
use Rattle.syntax_tree.specs.declared.instance.Text.{Text}
use Rattle.load_state.specs.declared.loading.Asked.{Asked}
use Rattle.load_state.specs.declared.loading.Finished.{Finished}
use Rattle.load_state.specs.declared.loading.Key.{Key}
use Rattle.load_state.specs.declared.source.Source.{Source}

-- the number of a text, and arguments
abbrev pub Pair : Type 0
Pair = ℕ × List (Option SigRef)

abbrev pub pair_of : Key → Pair
pair_of key = (key.text, key.arguments)

abbrev pub pairs_of : List Instance → List Pair
pairs_of instances = map (λ i. (i.text, i.arguments)) instances

-- none of the instances has this text with these arguments
abbrev pub Lacks : List Key → Pair → Type 0
Lacks keys pair = (n : ℕ) (d : Key) → n < length keys → pair_of (slice_index_or keys n d) ≢ pair

-- no two instances have one text with equal arguments
abbrev pub AreDistinct : List Pair → Type 0
AreDistinct pairs = AllPairs (λ a b. a ≢ b) pairs

-- the instance of this number has this text with these arguments
abbrev pub IsAt : List Key → ℕ → Pair → Type 0
IsAt keys n pair = slice_get (map pair_of keys) n ≡ Some pair

-- the opens of the instance of this number are all followed
abbrev pub is_followed : List Finished → ℕ → Bool
is_followed finished n = list_any (λ f. f.instance == n) finished

-- some instance of a text has opens that aren't all followed, among these instances, which are numbered from here on
abbrev pub is_open_from : List Finished → ℕ → ℕ → List Key → Bool
is_open_from finished text n [] = false
is_open_from finished text n (k ∷ ks) = (k.text == text && not (is_followed finished n)) || is_open_from finished text (n + 1) ks

-- what the libraries answered for a name, where they were asked for it: the number of its text, or that it has none
abbrev pub answer_in : List Asked → List ℕ → Option (Option ℕ)
answer_in [] name = None
answer_in (a ∷ rest) name = cond (bytes_eq a.name name) (Some a.text) (answer_in rest name)

abbrev pub texts_of : List Source → List Text
texts_of sources = map (λ s. s.text) sources

abbrev pub text_of_key : List Text → Option Key → Option Text
text_of_key texts None = None
text_of_key texts (Some k) = slice_get texts k.text

-- the text of the instance of this number
abbrev pub text_at : List Key → List Text → ℕ → Option Text
text_at keys texts n = text_of_key texts (slice_get keys n)
