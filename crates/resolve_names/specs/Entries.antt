-- Where the texts declare the sigs, the fields and the bodies of all instances, in load order and then text order.
use Rattle.std.specs.Prelude.{ℕ, zero, suc, ◌+◌, List, [], ◌∷◌, ◌++◌, length, replicate}
use Rattle.syntax_tree.specs.declared.module.Field.{Field}
use Rattle.syntax_tree.specs.declared.module.Paragraph.{Paragraph}
use Rattle.syntax_tree.specs.declared.module.Paragraph.TheVariants as paragraph
use Rattle.syntax_tree.specs.declared.instance.Text.{Text}
use Rattle.syntax_tree.specs.declared.instance.Instance.{Instance}
use Rattle.syntax_tree.specs.Instances.{sigs_in, sig_count}
use Rattle.resolve_names.specs.declared.table.SigEntry.{SigEntry}
use Rattle.resolve_names.specs.declared.table.FieldEntry.{FieldEntry}
use Rattle.resolve_names.specs.declared.table.BodyEntry.{BodyEntry}
use Rattle.resolve_names.specs.Gathered.{bodies_in, module_of}

-- so many things in turn, from number m on
abbrev pub numbered : {X : Type 0} → (ℕ → X) → ℕ → ℕ → List X
numbered make m zero = []
numbered make m (suc n) = make m ∷ numbered make (m + 1) n

-- the sig of place m among the names of paragraph k of instance i
abbrev pub sig_entry : ℕ → ℕ → ℕ → SigEntry
sig_entry i k m = record { instance = i; paragraph = k; member = m }

-- the sigs of paragraphs, the first of which has place k
abbrev pub sig_entries_in : ℕ → ℕ → List Paragraph → List SigEntry
sig_entries_in i k [] = []
sig_entries_in i k (p ∷ ps) = numbered (sig_entry i k) 0 (sigs_in p) ++ sig_entries_in i (k + 1) ps

abbrev pub sig_entries_from : List Text → ℕ → List Instance → List SigEntry
sig_entries_from texts i [] = []
sig_entries_from texts i (x ∷ xs) = sig_entries_in i 0 (module_of texts x).paragraphs ++ sig_entries_from texts (i + 1) xs

abbrev pub sig_entries : List Text → List Instance → List SigEntry
sig_entries texts instances = sig_entries_from texts 0 instances

-- the field of place m among the names of list g of the paragraph, which belongs to sig s
abbrev pub field_entry : ℕ → ℕ → ℕ → ℕ → ℕ → FieldEntry
field_entry s i k g m = record { sig = s; instance = i; paragraph = k; group = g; member = m }

-- the fields of sig s, the first list of which has place g
abbrev pub field_entries_of : ℕ → ℕ → ℕ → ℕ → List Field → List FieldEntry
field_entries_of s i k g [] = []
field_entries_of s i k g (x ∷ xs) = numbered (field_entry s i k g) 0 (length x.names) ++ field_entries_of s i k (g + 1) xs

-- the fields of so many sigs of a paragraph, each of which has the same lists
abbrev pub field_entries_each : ℕ → ℕ → ℕ → List Field → ℕ → List FieldEntry
field_entries_each s i k fields zero = []
field_entries_each s i k fields (suc n) = field_entries_of s i k 0 fields ++ field_entries_each (s + 1) i k fields n

-- the fields of a paragraph, the first sig of which has number s over all instances
abbrev pub field_entries_by : ℕ → ℕ → ℕ → Paragraph → List FieldEntry
field_entries_by s i k (paragraph.Sig g) = field_entries_each s i k g.fields (length g.names)
field_entries_by s i k _ = []

abbrev pub field_entries_in : ℕ → ℕ → ℕ → List Paragraph → List FieldEntry
field_entries_in s i k [] = []
field_entries_in s i k (p ∷ ps) = field_entries_by s i k p ++ field_entries_in (s + sigs_in p) i (k + 1) ps

abbrev pub field_entries_from : List Text → ℕ → ℕ → List Instance → List FieldEntry
field_entries_from texts s i [] = []
field_entries_from texts s i (x ∷ xs) =
    let m = module_of texts x in
    field_entries_in s i 0 m.paragraphs ++ field_entries_from texts (s + sig_count m) (i + 1) xs

abbrev pub field_entries : List Text → List Instance → List FieldEntry
field_entries texts instances = field_entries_from texts 0 0 instances

abbrev pub body_entry : ℕ → ℕ → BodyEntry
body_entry i k = record { instance = i; paragraph = k }

-- the predicates and functions of paragraphs, the first of which has place k
abbrev pub body_entries_in : ℕ → ℕ → List Paragraph → List BodyEntry
body_entries_in i k [] = []
body_entries_in i k (p ∷ ps) = replicate (bodies_in p) (body_entry i k) ++ body_entries_in i (k + 1) ps

abbrev pub body_entries_from : List Text → ℕ → List Instance → List BodyEntry
body_entries_from texts i [] = []
body_entries_from texts i (x ∷ xs) = body_entries_in i 0 (module_of texts x).paragraphs ++ body_entries_from texts (i + 1) xs

abbrev pub body_entries : List Text → List Instance → List BodyEntry
body_entries texts instances = body_entries_from texts 0 instances
