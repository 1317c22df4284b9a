-- Names in scope, one by one.
use Rattle.std.proofs.Common.{◌≡◌, ℕ, ◌+◌, ◌<◌, ◌≤◌, eqb, if◌then◌else◌, List, [], ◌∷◌, ◌++◌, take, length, get_or, refl, sym, ap, ap₂, ◌∙◌}
use Rattle.std.proofs.lemmas.List.{take_more}
use Rattle.core_tree.specs.Past.{Depths, with_depth, no_depths}
use Rattle.bound_definitions.proofs.Firsts.{whole}
use Rattle.form_measures.specs.declared.scope.Named.{Named}
use Rattle.form_measures.specs.Weights.{weight_at, named_from, named}

module _ (d : Depths) where
  from_last : (base : Depths) (ns : List Named) (n : Named) → named_from d base (ns ++ n ∷ []) ≡ with_depth (named_from d base ns) n.name (weight_at d n.weight)
  from_last base [] n = refl
  from_last base (x ∷ ns) n = from_last (with_depth base x.name (weight_at d x.weight)) ns n

  pub named_last : (ns : List Named) (n : Named) → named d (ns ++ n ∷ []) ≡ with_depth (named d ns) n.name (weight_at d n.weight)
  named_last ns n = from_last no_depths ns n

  pub named_more : (ns : List Named) (i : ℕ) (n : Named) → i < length ns → named d (take (i + 1) ns) ≡ with_depth (named d (take i ns)) (get_or ns i n).name (weight_at d (get_or ns i n).weight)
  named_more ns i n lt = ap (named d) (take_more ns i n lt) ∙ named_last (take i ns) (get_or ns i n)

  pub copied_turn : (ns all now : List Named) (i next : ℕ) (n c : Named) → next ≡ i + 1 → i < length ns → n ≡ get_or ns i n → named d all ≡ named d (take i ns) → c.name ≡ n.name → weight_at d c.weight ≡ weight_at d n.weight → now ≡ all ++ c ∷ [] → named d now ≡ named d (take next ns)
  copied_turn ns all now i next n c one lt item was name weight is =
      ap (named d) is ∙ named_last all c
      ∙ ap (λ (e : Depths). with_depth e c.name (weight_at d c.weight)) was
      ∙ ap₂ (λ (x w : ℕ). with_depth (named d (take i ns)) x w) name weight
      ∙ ap (λ (m : Named). with_depth (named d (take i ns)) m.name (weight_at d m.weight)) item
      ∙ sym (named_more ns i n lt) ∙ ap (λ (k : ℕ). named d (take k ns)) (sym one)

  pub named_end : (ns all : List Named) (i : ℕ) → length ns ≤ i → named d all ≡ named d (take i ns) → named d all ≡ named d ns
  named_end ns all i far is = is ∙ ap (named d) (whole ns i far)

  pub looked_turn : (ns : List Named) (i next : ℕ) (n : Named) (name old new : ℕ) → next ≡ i + 1 → i < length ns → n ≡ get_or ns i n → old ≡ named d (take i ns) name → new ≡ (if eqb name n.name then weight_at d n.weight else old) → new ≡ named d (take next ns) name
  looked_turn ns i next n name old new one lt item was is =
      is ∙ ap (λ (o : ℕ). if eqb name n.name then weight_at d n.weight else o) was
      ∙ ap (λ (m : Named). if eqb name m.name then weight_at d m.weight else named d (take i ns) name) item
      ∙ ap (λ (e : Depths). e name) (sym (named_more ns i n lt)) ∙ ap (λ (k : ℕ). named d (take k ns) name) (sym one)

  pub looked_end : (ns : List Named) (i name new : ℕ) → length ns ≤ i → new ≡ named d (take i ns) name → new ≡ named d ns name
  looked_end ns i name new far is = is ∙ ap (λ (l : List Named). named d l name) (whole ns i far)

pub no_names_yet : (d : Depths) (all : List Named) → all ≡ [] → named d all ≡ no_depths
no_names_yet d all is = ap (named d) is
