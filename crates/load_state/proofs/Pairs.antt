-- Instances as pairs, and which of them are equal.
use Rattle.std.proofs.Common.{◌≡◌, ◌≢◌, ℕ, ◌<◌, Bool, ◌&&◌, List, [], ◌∷◌, ◌++◌, map, length, get_or, Option, Some, None, Decides, eqb, refl, sym, ap, ap₂, subst, ◌∙◌, arith}
use mathlib.Core.Bool.{true≢false}
use Rattle.std.proofs.lemmas.Bool.Decides.{Decides-and, Decides-eqb, Decides-like}
use Rattle.std.proofs.lemmas.List.{length-map, get_or-map, map-append}
use Rattle.std.proofs.lemmas.List.Quantifiers.{all_pairs_push}
use Rattle.std.proofs.lemmas.Option.{none-some, same_Some}
use Rattle.std.specs.Option.{option_eq}
use Rattle.syntax_tree.specs.declared.instance.Instance.{Instance}
use Rattle.syntax_tree.specs.declared.instance.SigRef.{SigRef}
use Rattle.load_state.specs.Keys.{Pair, pair_of, pairs_of, Lacks, AreDistinct}
use Rattle.load_state.specs.declared.loading.Key.{Key}

same_sig : (a b : SigRef) → a.instance ≡ b.instance → a.sig ≡ b.sig → a ≡ b
same_sig a b i s = let make : ℕ → ℕ → SigRef = λ x y. record { instance = x; sig = y } in ap₂ make i s

pub sig_decides : (a b : SigRef) → Decides (eqb a.instance b.instance && eqb a.sig b.sig) (a ≡ b)
sig_decides a b =
    Decides-like (eqb a.instance b.instance && eqb a.sig b.sig) (λ p. same_sig a b p.0 p.1) (λ e. (ap (λ (s : SigRef). s.instance) e, ap (λ (s : SigRef). s.sig) e))
    (Decides-and (eqb a.instance b.instance) (eqb a.sig b.sig) (Decides-eqb a.instance b.instance) (Decides-eqb a.sig b.sig))

pub option_decides : {E : SigRef → SigRef → Bool} → ((a b : SigRef) → Decides (E a b) (a ≡ b)) → (a b : Option SigRef) → Decides (option_eq E a b) (a ≡ b)
option_decides decides None None = (λ e. refl, λ e. refl)
option_decides decides None (Some b) = (λ e. absurd (true≢false (sym e)), λ e. absurd (none-some b e))
option_decides decides (Some a) None = (λ e. absurd (true≢false (sym e)), λ e. absurd (none-some a (sym e)))
option_decides decides (Some a) (Some b) = (λ e. ap (λ (s : SigRef). Some s) ((decides a b).0 e), λ e. (decides a b).1 (same_Some a b e))

lacks_pairs : (keys : List Key) (pair : Pair) → Lacks keys pair → (n : ℕ) (d : Pair) → n < length (map pair_of keys) → get_or (map pair_of keys) n d ≢ pair
lacks_pairs [] pair lacks n d lt = absurd (omega (arith, lt))
lacks_pairs (k ∷ ks) pair lacks n d lt =
    let inside : n < length (k ∷ ks) = omega (arith, lt, length-map ks pair_of) in
    λ same. lacks n k inside (sym (get_or-map pair_of (k ∷ ks) n k d inside) ∙ same)

-- one more instance, which none of the others equals
pub distinct_push : (keys more given : List Key) (pair : Pair) → given ≡ keys → map pair_of more ≡ map pair_of keys ++ pair ∷ [] → Lacks given pair → AreDistinct (map pair_of keys) →
    AreDistinct (map pair_of more)
distinct_push keys more given pair same is lacks distinct =
    subst (λ (ps : List Pair). AreDistinct ps) (sym is)
    (all_pairs_push (λ a b. a ≢ b) (map pair_of keys) pair distinct (lacks_pairs keys pair (subst (λ (ks : List Key). Lacks ks pair) same lacks)))

-- the next instance is that of the next key
pub pairs_next : (instances more : List Instance) (i : Instance) (keys : List Key) (k : Key) → pairs_of instances ≡ map pair_of keys → more ≡ instances ++ i ∷ [] →
    (i.text, i.arguments) ≡ pair_of k → pairs_of more ≡ map pair_of (keys ++ k ∷ [])
pairs_next instances more i keys k same is next =
    ap pairs_of is
    ∙ (map-append (λ (x : Instance). (x.text, x.arguments)) instances (i ∷ [])
    ∙ (ap₂ (λ (ps : List Pair) (p : Pair). ps ++ p ∷ []) same next
    ∙ sym (map-append pair_of keys (k ∷ []))))
