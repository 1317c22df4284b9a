-- One step of a walk over where things are declared, and its end.
use Rattle.std.proofs.Common.{◌≡◌, ◌∙◌, ℕ, zero, suc, ◌+◌, ◌<◌, List, [], ◌∷◌, ◌++◌, length, drop, get_or, replicate, sym, ap, append_assoc, append-nil, arith}
use Rattle.std.proofs.lemmas.List.{replicate_more}
use Rattle.syntax_tree.specs.declared.module.Field.{Field}
use Rattle.syntax_tree.specs.declared.module.Paragraph.{Paragraph}
use Rattle.syntax_tree.specs.declared.instance.Text.{Text}
use Rattle.syntax_tree.specs.declared.instance.Instance.{Instance}
use Rattle.syntax_tree.specs.Instances.{sigs_in, sig_count}
use Rattle.resolve_names.specs.declared.table.FieldEntry.{FieldEntry}
use Rattle.resolve_names.specs.Gathered.{module_of}
use Rattle.resolve_names.specs.Entries.{numbered, field_entries_of, field_entries_each, field_entries_by, field_entries_in, field_entries_from}
use Rattle.resolve_names.proofs.Gathering.{step_on, front_of}

-- one element more of a walk that counts its places
pub walk_next : {X Y : Type 0} (rest : ℕ → List Y → List X) (part : ℕ → Y → List X) → ((k : ℕ) (y : Y) (ys : List Y) → rest k (y ∷ ys) ≡ part k y ++ rest (k + 1) ys) →
    (ys : List Y) (k : ℕ) (y : Y) (all now whole : List X) → k < length ys → y ≡ get_or ys k y → all ++ rest k (drop k ys) ≡ whole → now ≡ all ++ part k y →
    now ++ rest (k + 1) (drop (k + 1) ys) ≡ whole
walk_next rest part split ys k y all now whole inside at was adds =
    step_on all (part k y) (rest k (drop k ys)) (rest (k + 1) (drop (k + 1) ys)) whole now was adds (ap (rest k) (front_of ys k y inside at) ∙ split k y (drop (k + 1) ys))

numbered_more : {X : Type 0} (make : ℕ → X) (m n : ℕ) → numbered make m (suc n) ≡ numbered make m n ++ make (m + n) ∷ []
numbered_more make m zero = let same : m ≡ m + 0 = omega arith in ap (λ k. make k ∷ []) same
numbered_more make m (suc n) =
    let same : m + 1 + n ≡ m + suc n = omega arith in
    ap (λ z. make m ∷ z) (numbered_more make (m + 1) n ∙ ap (λ k. numbered make (m + 1) n ++ make k ∷ []) same)

-- one more of a number
pub numbered_next : {X : Type 0} (make : ℕ → X) (n : ℕ) (x : X) (old all now : List X) → x ≡ make n → all ≡ old ++ numbered make 0 n → now ≡ all ++ x ∷ [] → now ≡ old ++ numbered make 0 (n + 1)
numbered_next make n x old all now is was adds =
    let next : suc n ≡ n + 1 = omega arith in
    let same : 0 + n ≡ n = omega arith in
    adds ∙ (ap (λ z. z ++ x ∷ []) was ∙ (append_assoc old (numbered make 0 n) (x ∷ []) ∙
    (ap (λ y. old ++ (numbered make 0 n ++ y ∷ [])) (is ∙ ap make (sym same)) ∙ ap (λ z. old ++ z) (sym (numbered_more make 0 n) ∙ ap (numbered make 0) next))))

-- one more of the same
pub same_next : {X : Type 0} (n : ℕ) (x : X) (old all now : List X) → all ≡ old ++ replicate n x → now ≡ all ++ x ∷ [] → now ≡ old ++ replicate (n + 1) x
same_next n x old all now was adds = adds ∙ (ap (λ z. z ++ x ∷ []) was ∙ (append_assoc old (replicate n x) (x ∷ []) ∙ ap (λ z. old ++ z) (replicate_more n x)))

each_more : (s i k : ℕ) (groups : List Field) (n : ℕ) → field_entries_each s i k groups (suc n) ≡ field_entries_each s i k groups n ++ field_entries_of (s + n) i k 0 groups
each_more s i k groups zero =
    let same : s ≡ s + 0 = omega arith in
    append-nil (field_entries_of s i k 0 groups) ∙ ap (λ t. field_entries_of t i k 0 groups) same
each_more s i k groups (suc n) =
    let same : s + 1 + n ≡ s + suc n = omega arith in
    let own = field_entries_of s i k 0 groups in
    ap (λ z. own ++ z) (each_more (s + 1) i k groups n ∙ ap (λ t. field_entries_each (s + 1) i k groups n ++ field_entries_of t i k 0 groups) same) ∙
    sym (append_assoc own (field_entries_each (s + 1) i k groups n) (field_entries_of (s + suc n) i k 0 groups))

-- the fields of one sig more
pub each_next : (s i k : ℕ) (groups : List Field) (n t : ℕ) (old all now : List FieldEntry) → t ≡ s + n → all ≡ old ++ field_entries_each s i k groups n → now ≡ all ++ field_entries_of t i k 0 groups →
    now ≡ old ++ field_entries_each s i k groups (n + 1)
each_next s i k groups n t old all now is was adds =
    let next : suc n ≡ n + 1 = omega arith in
    adds ∙ (ap (λ z. z ++ field_entries_of t i k 0 groups) was ∙ (append_assoc old (field_entries_each s i k groups n) (field_entries_of t i k 0 groups) ∙
    (ap (λ u. old ++ (field_entries_each s i k groups n ++ field_entries_of u i k 0 groups)) is ∙
    ap (λ z. old ++ z) (sym (each_more s i k groups n) ∙ ap (λ m. field_entries_each s i k groups m) next))))

-- the fields of one paragraph more
pub fields_in_next : (i : ℕ) (ps : List Paragraph) (k s s_next : ℕ) (p : Paragraph) (all now whole : List FieldEntry) → k < length ps → p ≡ get_or ps k p →
    all ++ field_entries_in s i k (drop k ps) ≡ whole → now ≡ all ++ field_entries_by s i k p → s_next ≡ s + sigs_in p → now ++ field_entries_in s_next i (k + 1) (drop (k + 1) ps) ≡ whole
fields_in_next i ps k s s_next p all now whole inside at was adds sigs =
    let rest = drop (k + 1) ps in
    ap (λ n. now ++ field_entries_in n i (k + 1) rest) sigs ∙
    step_on all (field_entries_by s i k p) (field_entries_in s i k (drop k ps)) (field_entries_in (s + sigs_in p) i (k + 1) rest) whole now was adds
    (ap (field_entries_in s i k) (front_of ps k p inside at))

-- the fields of one instance more
pub fields_from_next : (texts : List Text) (xs : List Instance) (i s s_next : ℕ) (x : Instance) (all now whole : List FieldEntry) → i < length xs → x ≡ get_or xs i x →
    all ++ field_entries_from texts s i (drop i xs) ≡ whole → now ≡ all ++ field_entries_in s i 0 (module_of texts x).paragraphs → s_next ≡ s + sig_count (module_of texts x) →
    now ++ field_entries_from texts s_next (i + 1) (drop (i + 1) xs) ≡ whole
fields_from_next texts xs i s s_next x all now whole inside at was adds sigs =
    let rest = drop (i + 1) xs in
    ap (λ n. now ++ field_entries_from texts n (i + 1) rest) sigs ∙
    step_on all (field_entries_in s i 0 (module_of texts x).paragraphs) (field_entries_from texts s i (drop i xs)) (field_entries_from texts (s + sig_count (module_of texts x)) (i + 1) rest) whole now was adds
    (ap (field_entries_from texts s i) (front_of xs i x inside at))
