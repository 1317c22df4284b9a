-- One step of a walk over what a text declares, and its end.
use Rattle.std.proofs.Common.{◌≡◌, ◌∙◌, ℕ, zero, suc, ◌+◌, ◌*◌, ◌<◌, ◌≤◌, Bool, false, List, [], ◌∷◌, ◌++◌, Option, length, drop, get_or, slice_get, refl, sym, ap, append_assoc, append-nil, drop-cons, add-one, arith}
use Rattle.std.specs.Prelude.{sum_by}
use Rattle.std.specs.List.{list_any}
use Rattle.std.proofs.lemmas.List.{drop_all}
use Rattle.std.proofs.lemmas.List.Sums.{sum_by-cons}
use Rattle.syntax_tree.specs.declared.expr.Named.{Named}
use Rattle.syntax_tree.specs.declared.module.Parameter.{Parameter}
use Rattle.syntax_tree.specs.declared.module.Open.{Open}
use Rattle.syntax_tree.specs.declared.module.Field.{Field}
use Rattle.syntax_tree.specs.declared.module.Sig.{Sig}
use Rattle.syntax_tree.specs.declared.module.Paragraph.{Paragraph}
use Rattle.syntax_tree.specs.declared.instance.Text.{Text}
use Rattle.syntax_tree.specs.declared.instance.SigRef.{SigRef}
use Rattle.syntax_tree.specs.declared.instance.Opened.{Opened}
use Rattle.syntax_tree.specs.declared.instance.Instance.{Instance}
use Rattle.syntax_tree.specs.Instances.{sigs_in, sig_count}
use Rattle.resolve_names.specs.declared.table.Decl.{Decl}
use Rattle.resolve_names.specs.declared.table.Decl.TheVariants as decl
use Rattle.resolve_names.specs.declared.table.Declared.{Declared}
use Rattle.resolve_names.specs.declared.table.Link.{Link}
use Rattle.resolve_names.specs.declared.table.Namespace.{Namespace}
use Rattle.resolve_names.specs.Gathered.{declared_as, named_from, is_private_qualifier, is_private_word, field_count, fields_from, sig_of, sigs_from, declared_by, fields_in, bodies_in, declared_by_all, parameters_with, argument_in, link_as, links_from, is_private_open, scope_of, scopes_from, module_of, field_total, body_total}

pub front_of : {X : Type 0} (xs : List X) (i : ℕ) (x : X) → i < length xs → x ≡ get_or xs i x → drop i xs ≡ x ∷ drop (i + 1) xs
front_of xs i x inside at = drop-cons xs i x inside ∙ ap (λ z. z ∷ drop (suc i) xs) (sym at) ∙ ap (λ k. x ∷ drop k xs) (sym (add-one i))

-- a part moves from what is left to what was done
pub step_on : {X : Type 0} (all part before after whole now : List X) → all ++ before ≡ whole → now ≡ all ++ part → before ≡ part ++ after → now ++ after ≡ whole
step_on all part before after whole now was adds split = ap (λ z. z ++ after) adds ∙ (append_assoc all part after ∙ (ap (λ r. all ++ r) (sym split) ∙ was))

-- nothing is left
pub end_on : {X Y : Type 0} (rest : List Y → List X) (ys : List Y) (i : ℕ) (all whole : List X) → rest [] ≡ [] → length ys ≤ i → all ++ rest (drop i ys) ≡ whole → all ≡ whole
end_on rest ys i all whole empty past was = sym (append-nil all) ∙ (ap (λ r. all ++ r) (sym empty) ∙ (ap (λ r. all ++ rest r) (sym (drop_all i ys past)) ∙ was))

-- a sum of what was counted and what is left
pub sum_next : {X : Type 0} (f : X → ℕ) (xs : List X) (i n next : ℕ) (x : X) (whole : ℕ) → i < length xs → x ≡ get_or xs i x → n + sum_by f (drop i xs) ≡ whole → next ≡ n + f x →
    next + sum_by f (drop (i + 1) xs) ≡ whole
sum_next f xs i n next x whole inside at was adds =
    let split : sum_by f (drop i xs) ≡ f x + sum_by f (drop (i + 1) xs) = ap (sum_by f) (front_of xs i x inside at) ∙ sum_by-cons f x (drop (i + 1) xs) in
    omega (arith, split, was, adds)

pub sum_end : {X : Type 0} (f : X → ℕ) (xs : List X) (i n whole : ℕ) → length xs ≤ i → n + sum_by f (drop i xs) ≡ whole → n ≡ whole
sum_end f xs i n whole past was =
    let none : sum_by f (drop i xs) ≡ 0 = ap (sum_by f) (drop_all i xs past) in
    omega (arith, none, was)

pub length_next : {X : Type 0} (xs : List X) (i n next : ℕ) (x : X) (whole : ℕ) → i < length xs → x ≡ get_or xs i x → n + length (drop i xs) ≡ whole → next ≡ n + 1 →
    next + length (drop (i + 1) xs) ≡ whole
length_next xs i n next x whole inside at was adds =
    let split : length (drop i xs) ≡ suc (length (drop (i + 1) xs)) = ap (λ ys. length ys) (front_of xs i x inside at) in
    omega (arith, split, was, adds)

pub length_end : {X : Type 0} (xs : List X) (i n whole : ℕ) → length xs ≤ i → n + length (drop i xs) ≡ whole → n ≡ whole
length_end xs i n whole past was =
    let none : length (drop i xs) ≡ 0 = ap (λ ys. length ys) (drop_all i xs past) in
    omega (arith, none, was)

-- so many each
pub times_next : {X : Type 0} (k : ℕ) (xs : List X) (i n next : ℕ) (x : X) (whole : ℕ) → i < length xs → x ≡ get_or xs i x → n + length (drop i xs) * k ≡ whole → next ≡ n + k →
    next + length (drop (i + 1) xs) * k ≡ whole
times_next k xs i n next x whole inside at was adds =
    let split : length (drop i xs) * k ≡ k + length (drop (i + 1) xs) * k = ap (λ ys. length ys * k) (front_of xs i x inside at) ∙ more (length (drop (i + 1) xs)) in
    omega (arith, split, was, adds)
  where
    more : (m : ℕ) → suc m * k ≡ k + m * k
    more m = omega arith

pub times_end : {X : Type 0} (k : ℕ) (xs : List X) (i n whole : ℕ) → length xs ≤ i → n + length (drop i xs) * k ≡ whole → n ≡ whole
times_end k xs i n whole past was =
    let none : length (drop i xs) * k ≡ 0 * k = ap (λ ys. length ys * k) (drop_all i xs past) in
    let zero_times : 0 * k ≡ 0 = omega arith in
    omega (arith, none, zero_times, was)

-- one name more
pub named_next : (what : ℕ → Decl) (private : Bool) (names : List Named) (i number next : ℕ) (name : Named) (all now whole : List Declared) → i < length names → name ≡ get_or names i name →
    all ++ named_from what private number (drop i names) ≡ whole → now ≡ all ++ declared_as private (what number) name ∷ [] → next ≡ number + 1 →
    now ++ named_from what private next (drop (i + 1) names) ≡ whole
named_next what private names i number next name all now whole inside at was adds after =
    let rest = drop (i + 1) names in
    ap (λ n. now ++ named_from what private n rest) after ∙
    step_on all (declared_as private (what number) name ∷ []) (named_from what private number (drop i names)) (named_from what private (number + 1) rest) whole now was adds
    (ap (named_from what private number) (front_of names i name inside at))

-- one list of fields more
pub fields_next : (groups : List Field) (i number next : ℕ) (group : Field) (all now whole : List Declared) → i < length groups → group ≡ get_or groups i group →
    all ++ fields_from number (drop i groups) ≡ whole → now ≡ all ++ named_from decl.Field (list_any is_private_word group.words) number group.names → next ≡ number + length group.names →
    now ++ fields_from next (drop (i + 1) groups) ≡ whole
fields_next groups i number next group all now whole inside at was adds after =
    let rest = drop (i + 1) groups in
    ap (λ n. now ++ fields_from n rest) after ∙
    step_on all (named_from decl.Field (list_any is_private_word group.words) number group.names) (fields_from number (drop i groups)) (fields_from (number + length group.names) rest) whole now was adds
    (ap (fields_from number) (front_of groups i group inside at))

-- one sig more, with its fields
pub sigs_next : (k : ℕ) (g : Sig) (names : List Named) (i s s_next f f_next : ℕ) (name : Named) (all mid now whole : List Declared) → i < length names → name ≡ get_or names i name →
    all ++ sigs_from k s f g (drop i names) ≡ whole → mid ≡ all ++ declared_as (list_any is_private_qualifier g.qualifiers) (sig_of k s) name ∷ [] → now ≡ mid ++ fields_from f g.fields →
    s_next ≡ s + 1 → f_next ≡ f + field_count g.fields → now ++ sigs_from k s_next f_next g (drop (i + 1) names) ≡ whole
sigs_next k g names i s s_next f f_next name all mid now whole inside at was adds fields after after_fields =
    let rest = drop (i + 1) names in
    let own = declared_as (list_any is_private_qualifier g.qualifiers) (sig_of k s) name in
    let both : now ≡ all ++ (own ∷ fields_from f g.fields) = fields ∙ (ap (λ z. z ++ fields_from f g.fields) adds ∙ append_assoc all (own ∷ []) (fields_from f g.fields)) in
    ap (λ n. now ++ sigs_from k n f_next g rest) after ∙
    (ap (λ n. now ++ sigs_from k (s + 1) n g rest) after_fields ∙
    step_on all (own ∷ fields_from f g.fields) (sigs_from k s f g (drop i names)) (sigs_from k (s + 1) (f + field_count g.fields) g rest) whole now was both
    (ap (sigs_from k s f g) (front_of names i name inside at)))

-- one paragraph more
pub paragraphs_next : (k : ℕ) (ps : List Paragraph) (i s s_next f f_next b b_next : ℕ) (p : Paragraph) (all now whole : List Declared) → i < length ps → p ≡ get_or ps i p →
    all ++ declared_by_all k s f b (drop i ps) ≡ whole → now ≡ all ++ declared_by k s f b p → s_next ≡ s + sigs_in p → f_next ≡ f + fields_in p → b_next ≡ b + bodies_in p →
    now ++ declared_by_all k s_next f_next b_next (drop (i + 1) ps) ≡ whole
paragraphs_next k ps i s s_next f f_next b b_next p all now whole inside at was adds sigs fields bodies =
    let rest = drop (i + 1) ps in
    ap (λ n. now ++ declared_by_all k n f_next b_next rest) sigs ∙
    (ap (λ n. now ++ declared_by_all k (s + sigs_in p) n b_next rest) fields ∙
    (ap (λ n. now ++ declared_by_all k (s + sigs_in p) (f + fields_in p) n rest) bodies ∙
    step_on all (declared_by k s f b p) (declared_by_all k s f b (drop i ps)) (declared_by_all k (s + sigs_in p) (f + fields_in p) (b + bodies_in p) rest) whole now was adds
    (ap (declared_by_all k s f b) (front_of ps i p inside at))))

-- one instance more
pub scopes_next : (texts : List Text) (xs : List Instance) (i s s_next f f_next b b_next : ℕ) (x : Instance) (all now whole : List Namespace) → i < length xs → x ≡ get_or xs i x →
    all ++ scopes_from texts i s f b (drop i xs) ≡ whole → now ≡ all ++ scope_of (module_of texts x) i s f b x ∷ [] →
    s_next ≡ s + sig_count (module_of texts x) → f_next ≡ f + field_total (module_of texts x) → b_next ≡ b + body_total (module_of texts x) →
    now ++ scopes_from texts (i + 1) s_next f_next b_next (drop (i + 1) xs) ≡ whole
scopes_next texts xs i s s_next f f_next b b_next x all now whole inside at was adds sigs fields bodies =
    let rest = drop (i + 1) xs in
    let m = module_of texts x in
    ap (λ n. now ++ scopes_from texts (i + 1) n f_next b_next rest) sigs ∙
    (ap (λ n. now ++ scopes_from texts (i + 1) (s + sig_count m) n b_next rest) fields ∙
    (ap (λ n. now ++ scopes_from texts (i + 1) (s + sig_count m) (f + field_total m) n rest) bodies ∙
    step_on all (scope_of m i s f b x ∷ []) (scopes_from texts i s f b (drop i xs)) (scopes_from texts (i + 1) (s + sig_count m) (f + field_total m) (b + body_total m) rest) whole now was adds
    (ap (scopes_from texts i s f b) (front_of xs i x inside at))))

drop_on : {X : Type 0} (xs : List X) (i : ℕ) → drop (suc i) xs ≡ drop (i + 1) xs
drop_on xs i = ap (λ k. drop k xs) (sym (add-one i))

parameters_at : (p : Parameter) (ps : List Parameter) (arguments : List (Option SigRef)) (i : ℕ) →
    parameters_with (p ∷ ps) (drop i arguments) ≡ declared_as false (decl.Parameter (argument_in (slice_get arguments i))) p.name ∷ parameters_with ps (drop (suc i) arguments)
parameters_at p ps [] zero = refl
parameters_at p ps [] (suc i) = refl
parameters_at p ps (a ∷ arguments) zero = refl
parameters_at p ps (a ∷ arguments) (suc i) = parameters_at p ps arguments i

-- one parameter more
pub parameters_next : (ps : List Parameter) (arguments : List (Option SigRef)) (i : ℕ) (p : Parameter) (all now whole : List Declared) → i < length ps → p ≡ get_or ps i p →
    all ++ parameters_with (drop i ps) (drop i arguments) ≡ whole → now ≡ all ++ declared_as false (decl.Parameter (argument_in (slice_get arguments i))) p.name ∷ [] →
    now ++ parameters_with (drop (i + 1) ps) (drop (i + 1) arguments) ≡ whole
parameters_next ps arguments i p all now whole inside at was adds =
    let rest = drop (i + 1) ps in
    step_on all (declared_as false (decl.Parameter (argument_in (slice_get arguments i))) p.name ∷ []) (parameters_with (drop i ps) (drop i arguments)) (parameters_with rest (drop (i + 1) arguments)) whole now was adds
    (ap (λ z. parameters_with z (drop i arguments)) (front_of ps i p inside at) ∙
    (parameters_at p rest arguments i ∙ ap (λ z. declared_as false (decl.Parameter (argument_in (slice_get arguments i))) p.name ∷ parameters_with rest z) (drop_on arguments i)))

-- no parameter is left
pub parameters_end : (ps : List Parameter) (arguments : List (Option SigRef)) (i : ℕ) (all whole : List Declared) → length ps ≤ i → all ++ parameters_with (drop i ps) (drop i arguments) ≡ whole → all ≡ whole
parameters_end ps arguments i all whole past was = end_on (λ z. parameters_with z (drop i arguments)) ps i all whole refl past was

links_at : (o : Opened) (os : List Opened) (written : List Open) (i : ℕ) → links_from (drop i written) (o ∷ os) ≡ link_as (is_private_open (slice_get written i)) o ∷ links_from (drop (suc i) written) os
links_at o os [] zero = refl
links_at o os [] (suc i) = refl
links_at o os (w ∷ written) zero = refl
links_at o os (w ∷ written) (suc i) = links_at o os written i

-- one open more
pub links_next : (written : List Open) (opens : List Opened) (i : ℕ) (o : Opened) (all now whole : List Link) → i < length opens → o ≡ get_or opens i o →
    all ++ links_from (drop i written) (drop i opens) ≡ whole → now ≡ all ++ link_as (is_private_open (slice_get written i)) o ∷ [] →
    now ++ links_from (drop (i + 1) written) (drop (i + 1) opens) ≡ whole
links_next written opens i o all now whole inside at was adds =
    let rest = drop (i + 1) opens in
    step_on all (link_as (is_private_open (slice_get written i)) o ∷ []) (links_from (drop i written) (drop i opens)) (links_from (drop (i + 1) written) rest) whole now was adds
    (ap (λ z. links_from (drop i written) z) (front_of opens i o inside at) ∙
    (links_at o rest written i ∙ ap (λ z. link_as (is_private_open (slice_get written i)) o ∷ links_from z rest) (drop_on written i)))

none_linked : (written : List Open) → links_from written [] ≡ []
none_linked [] = refl
none_linked (w ∷ written) = refl

-- no open is left
pub links_end : (written : List Open) (opens : List Opened) (i : ℕ) (all whole : List Link) → length opens ≤ i → all ++ links_from (drop i written) (drop i opens) ≡ whole → all ≡ whole
links_end written opens i all whole past was = end_on (λ z. links_from (drop i written) z) opens i all whole (none_linked (drop i written)) past was
