-- One step of a walk over a list, and its end.
use Rattle.std.proofs.Common.{◌≡◌, ◌∙◌, ℕ, suc, ◌+◌, ◌<◌, ◌≤◌, List, [], ◌∷◌, ◌++◌, Option, Some, None, length, take, drop, get_or, replicate, refl, sym, ap, append_assoc, append-nil, drop-cons, add-one}
use Rattle.std.proofs.lemmas.List.{drop_all, replicate_more, take_more}
use Rattle.std.specs.List.{cons_option}
use Rattle.syntax_tree.specs.declared.instance.Instance.{Instance}
use Rattle.syntax_tree.specs.declared.instance.Text.{Text}
use Rattle.syntax_tree.specs.declared.module.Paragraph.{Paragraph}
use Rattle.std.specs.Prelude.{slice_get}
use Rattle.core_tree.specs.declared.model.Origin.{Origin}
use Rattle.core_tree.specs.declared.model.Sig.{Sig}
use Rattle.resolve_places.specs.Places.{count_in, declared_by, declared_from, declared_in, place_of, root_commands, sig_origins}
use Rattle.resolve_places.specs.declared.texts.Kind.{Kind}
use Rattle.resolve_places.specs.declared.texts.Kind.TheVariants.{Commands}

front_of : {X : Type 0} (xs : List X) (i : ℕ) (x : X) → i < length xs → x ≡ get_or xs i x → drop i xs ≡ x ∷ drop (i + 1) xs
front_of xs i x inside at = drop-cons xs i x inside ∙ ap (λ z. z ∷ drop (suc i) xs) (sym at) ∙ ap (λ k. x ∷ drop k xs) (sym (add-one i))

-- one paragraph more
pub paragraph_next : (kind : Kind) (number : ℕ) (ps : List Paragraph) (i : ℕ) (p : Paragraph) (all now whole : List Origin) → i < length ps → p ≡ get_or ps i p →
    all ++ declared_in kind number (drop i ps) ≡ whole → now ≡ all ++ replicate (count_in kind p) (record { instance = number; place = place_of p }) →
    now ++ declared_in kind number (drop (i + 1) ps) ≡ whole
paragraph_next kind number ps i p all now whole inside at was adds =
    let own = replicate (count_in kind p) (record { instance = number; place = place_of p }) in
    ap (λ z. z ++ declared_in kind number (drop (i + 1) ps)) adds ∙
    (append_assoc all own (declared_in kind number (drop (i + 1) ps)) ∙ (ap (λ r. all ++ declared_in kind number r) (sym (front_of ps i p inside at)) ∙ was))

-- no paragraph is left
pub paragraph_end : (kind : Kind) (number : ℕ) (ps : List Paragraph) (i : ℕ) (all whole : List Origin) → length ps ≤ i → all ++ declared_in kind number (drop i ps) ≡ whole → all ≡ whole
paragraph_end kind number ps i all whole past was =
    sym (append-nil all) ∙ (ap (λ r. all ++ declared_in kind number r) (sym (drop_all i ps past)) ∙ was)

-- one instance more
pub instance_next : (kind : Kind) (texts : List Text) (number next : ℕ) (is : List Instance) (i : ℕ) (x : Instance) (all now whole : List Origin) → i < length is → x ≡ get_or is i x →
    all ++ declared_from kind texts number (drop i is) ≡ whole → now ≡ all ++ declared_by kind number (slice_get texts x.text) → next ≡ number + 1 →
    now ++ declared_from kind texts next (drop (i + 1) is) ≡ whole
instance_next kind texts number next is i x all now whole inside at was adds after =
    let own = declared_by kind number (slice_get texts x.text) in
    ap (λ n. now ++ declared_from kind texts n (drop (i + 1) is)) after ∙
    (ap (λ z. z ++ declared_from kind texts (number + 1) (drop (i + 1) is)) adds ∙
    (append_assoc all own (declared_from kind texts (number + 1) (drop (i + 1) is)) ∙ (ap (λ r. all ++ declared_from kind texts number r) (sym (front_of is i x inside at)) ∙ was)))

pub instance_end : (kind : Kind) (texts : List Text) (number : ℕ) (is : List Instance) (i : ℕ) (all whole : List Origin) → length is ≤ i → all ++ declared_from kind texts number (drop i is) ≡ whole → all ≡ whole
instance_end kind texts number is i all whole past was =
    sym (append-nil all) ∙ (ap (λ r. all ++ declared_from kind texts number r) (sym (drop_all i is past)) ∙ was)

-- one more of the same
pub origin_next : (n : ℕ) (o : Origin) (old all now : List Origin) → all ≡ old ++ replicate n o → now ≡ all ++ o ∷ [] → now ≡ old ++ replicate (n + 1) o
origin_next n o old all now was adds =
    adds ∙ (ap (λ z. z ++ o ∷ []) was ∙ (append_assoc old (replicate n o) (o ∷ []) ∙ ap (λ z. old ++ z) (replicate_more n o)))

cons_more : (o : Option Origin) (xs ys : List Origin) → cons_option o (xs ++ ys) ≡ cons_option o xs ++ ys
cons_more None xs ys = refl
cons_more (Some x) xs ys = refl

sig_more : (front : List Sig) (s : Sig) → sig_origins (front ++ s ∷ []) ≡ sig_origins front ++ cons_option s.origin []
sig_more [] s = refl
sig_more (f ∷ fs) s = ap (cons_option f.origin) (sig_more fs s) ∙ cons_more f.origin (sig_origins fs) (cons_option s.origin [])

-- one sig more
pub sig_next : (sigs : List Sig) (i : ℕ) (s : Sig) (all now : List Origin) → i < length sigs → s ≡ get_or sigs i s → all ≡ sig_origins (take i sigs) → now ≡ all ++ cons_option s.origin [] →
    now ≡ sig_origins (take (i + 1) sigs)
sig_next sigs i s all now inside at was adds =
    adds ∙ (ap (λ z. z ++ cons_option s.origin []) was ∙ (sym (sig_more (take i sigs) s) ∙
    ap sig_origins (ap (λ x. take i sigs ++ x ∷ []) at ∙ sym (take_more sigs i s inside))))

-- the root is the first instance
pub root_first : (texts : List Text) (is : List Instance) (root : Instance) → slice_get is 0 ≡ Some root → root_commands texts is ≡ declared_by Commands 0 (slice_get texts root.text)
root_first texts [] root get = cc
root_first texts (x ∷ xs) root get =
    let same : x ≡ root = cc in
    ap (λ (i : Instance). declared_by Commands 0 (slice_get texts i.text)) same
