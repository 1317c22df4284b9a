-- Lemmas on one more tuple among gathered entries, where it has a node.
use Rattle.std.proofs.Common.{◌≡◌, ℕ, Bool, true, false, ◌&&◌, ◌||◌, List, [], ◌∷◌, ◌++◌, All, Option, Some, None, refl, sym, ◌∙◌, ap}
use Rattle.std.proofs.lemmas.List.Elements.{All-append, All-nil, All-cons}
use Rattle.std.proofs.lemmas.List.Folds.{list_any-append}
use Rattle.gate_trait.specs.declared.node.Node.{Node}
use Rattle.core_tuples.specs.Sets.{is_same}
use Rattle.core_tuples.proofs.OrderedLemmas.{or_false}
use Rattle.gate_matrix.specs.declared.entry.Entry.{Entry}
use Rattle.gate_matrix.specs.Matrices.{truth_of, has, AllBelong}
use Rattle.gate_matrix.specs.Merged.{entries_of}

pub and_false : (b : Bool) → b && false ≡ false
and_false true = refl
and_false false = refl

-- the entry of a tuple that has a node, after others
pub has_more : (value : Node → Bool) (o : Option Node) (all : List Entry) (x t : List ℕ) → has value (all ++ entries_of x o) t ≡ has value all t || (is_same x t && truth_of value o)
has_more value None all x t = list_any-append (λ e. is_same e.tuple t && value e.node) all [] ∙ ap (λ z. has value all t || z) (sym (and_false (is_same x t)))
has_more value (Some n) all x t = list_any-append (λ e. is_same e.tuple t && value e.node) all (record { tuple = x; node = n } ∷ []) ∙ ap (λ z. has value all t || z) (or_false (is_same x t && value n))

pub belong_more : (belongs : Node → Type 0) (o : Option Node) (all : List Entry) (x : List ℕ) → AllBelong belongs all → ((n : Node) → o ≡ Some n → belongs n) → AllBelong belongs (all ++ entries_of x o)
belong_more belongs None all x before here = let P : Entry → Type 0 = λ e. belongs e.node in All-append P all [] before (All-nil P)
belong_more belongs (Some n) all x before here = let P : Entry → Type 0 = λ e. belongs e.node in All-append P all (record { tuple = x; node = n } ∷ []) before (All-cons P (record { tuple = x; node = n }) [] (here n refl) (All-nil P))

pub tuples_more : (P : List ℕ → Type 0) (o : Option Node) (all : List Entry) (x : List ℕ) → All (λ e. P e.tuple) all → P x → All (λ e. P e.tuple) (all ++ entries_of x o)
tuples_more P None all x before here = let Q : Entry → Type 0 = λ e. P e.tuple in All-append Q all [] before (All-nil Q)
tuples_more P (Some n) all x before here = let Q : Entry → Type 0 = λ e. P e.tuple in All-append Q all (record { tuple = x; node = n } ∷ []) before (All-cons Q (record { tuple = x; node = n }) [] here (All-nil Q))
