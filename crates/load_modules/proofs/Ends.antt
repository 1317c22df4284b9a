-- The refusals of a whole model.
use Rattle.std.proofs.Common.{◌≡◌, ◌⊎◌, inl, inr, ℕ, ◌+◌, ◌≤◌, List, [], ◌∷◌, ◌++◌, map, length, take, Option, Some, None, Vec, refl, sym, ap, subst, ◌∙◌}
use Rattle.std.specs.Prelude.{option_map}
use Rattle.std.specs.declared.alloc.Global.{Global}
use Rattle.base_types.specs.Texts.{Texts, text_of}
use Rattle.base_types.specs.declared.limits.TheConstants.{MODULE_BYTES}
use Rattle.base_types.specs.declared.place.Position.{Position}
use Rattle.base_types.specs.declared.place.Refusal.{Refusal}
use Rattle.base_types.specs.declared.place.Rule.TheVariants as rule
use Rattle.syntax_tree.specs.declared.instance.Text.{Text}
use Rattle.syntax_tree.specs.declared.module.Module.{Module}
use Rattle.load_state.specs.Causes.{IsRefusal, IsUnread}
use Rattle.load_state.specs.Refusals.{start_of, refusal_at}
use Rattle.load_state.specs.declared.fault.LoadFault.{LoadFault}
use Rattle.load_state.specs.declared.fault.LoadFault.TheVariants.{Refused, Read, Memory}
use Rattle.load_state.specs.declared.loading.Asked.{Asked}
use Rattle.load_state.specs.declared.loading.Loading.{Loading}
use Rattle.load_state.specs.declared.source.Source.{Source}
use Rattle.load_modules.specs.Reading.{IsModuleOf}
use Rattle.load_modules.specs.Refused.{IsOfBytes, IsInRoot, at_open, at_start, IsPlaced, in_root, of_bytes, of_opens, IsOfText, Refuses, RefusesTree, RefusesGiven, RefusesTold}
use Rattle.load_modules.specs.Told.{IsFront, IsModuleUnder, Knows, IsTaken, texts_in}
use Rattle.load_modules.proofs.Known.{under, absent_held, begun, asked_once}
use Rattle.load_modules.proofs.Placed.{front_told, front_broken}

root_as : (P Q : Module → Type 0) (r : Refusal) → ((m : Module) → P m → Q m) → IsInRoot P r → IsInRoot Q r
root_as P Q r on (at_open m is here) = at_open m (on m is) here
root_as P Q r on (at_start at) = at_start at

placed_as : (told : List Texts) (root : List ℕ) (P Q : Module → Type 0) (r : Refusal) (name : List ℕ) → ((m : Module) → P m → Q m) → IsPlaced told root P r name → IsPlaced told root Q r name
placed_as told root P Q r name on (in_root same is) = in_root same (root_as P Q r on is)
placed_as told root P Q r name on (of_bytes bytes number held broken) = of_bytes bytes number held broken
placed_as told root P Q r name on (of_opens m number is here) = of_opens m number is here

pub tree_memory : (held : List (Option Texts)) (root : List ℕ) (tree : Module) (fault : LoadFault) → fault ≡ Memory → RefusesTree held root tree fault
unfolding RefusesTree
tree_memory held root tree fault same = let P : LoadFault → Type 0 = λ f. RefusesTree held root tree f in subst P (sym same) tt

pub given_memory : (held : List (Option Texts)) (root bytes : List ℕ) (fault : LoadFault) → fault ≡ Memory → RefusesGiven held root bytes fault
unfolding RefusesGiven
given_memory held root bytes fault same = let P : LoadFault → Type 0 = λ f. RefusesGiven held root bytes f in subst P (sym same) tt

pub told_unread : (held : List (Option Texts)) (root : List ℕ) (fault : LoadFault) → IsUnread root fault → RefusesTold held root fault
unfolding RefusesTold IsUnread
told_unread held root (Refused r name) is = absurd is
told_unread held root (Read name) is = tt
told_unread held root Memory is = tt

-- the root's module was given
pub refuses_tree : (held : List (Option Texts)) (root : List ℕ) (loading : Loading) (fault : LoadFault) (source : Source) (tree : Module) (before : List Source) (before_asked : List Asked) →
    Refuses held root loading fault → loading.sources.items ≡ before ++ source ∷ [] → before ≡ [] → source.text.name ≡ root → source.text.tree ≡ tree →
    loading.asked.items ≡ before_asked ++ record { name = root; text = Some 0 } ∷ [] → before_asked ≡ [] → RefusesTree held root tree fault
unfolding Refuses RefusesTree
refuses_tree held root loading (Refused r name) source tree before before_asked refuses is none named same asked none_asked = λ told tells.
    let sources : loading.sources.items ≡ source ∷ [] = is ∙ ap (λ (ss : List Source). ss ++ source ∷ []) none in
    let noted : loading.asked.items ≡ asked_once root 0 = asked ∙ ap (λ (xs : List Asked). xs ++ asked_once root 0) none_asked in
    let knows = begun told root source.text loading (ap (λ (ss : List Source). map (λ (s : Source). s.text) ss) sources) named noted in
    placed_as told root (λ m. m ≡ source.text.tree) (λ m. m ≡ tree) r name (λ m e. e ∙ same) (refuses told source.text tells knows)
refuses_tree held root loading (Read name) source tree before before_asked refuses is none named same asked none_asked = tt
refuses_tree held root loading Memory source tree before before_asked refuses is none named same asked none_asked = tt

-- the root's bytes were given
pub refuses_given : (held : List (Option Texts)) (root : List ℕ) (loading : Loading) (fault : LoadFault) (bytes : List ℕ) (number : ℕ) (before : List Source) (before_asked : List Asked) →
    Refuses held root loading fault → IsTaken bytes root number (map (λ s. s.text) before) (texts_in loading) → before ≡ [] → number ≡ length before →
    loading.asked.items ≡ before_asked ++ record { name = root; text = Some number } ∷ [] → before_asked ≡ [] → RefusesGiven held root bytes fault
unfolding Refuses RefusesGiven
refuses_given held root loading (Refused r name) bytes number before before_asked refuses taken none last asked none_asked = λ told tells.
    let first : number ≡ 0 = last ∙ ap length none in
    let read : IsModuleOf bytes 0 taken.text.tree = subst (λ (n : ℕ). IsModuleOf bytes n taken.text.tree) first taken.read in
    let added : texts_in loading ≡ taken.text ∷ [] = taken.added ∙ ap (λ (ss : List Source). map (λ (s : Source). s.text) ss ++ taken.text ∷ []) none in
    let noted : loading.asked.items ≡ asked_once root 0 =
    asked ∙ (ap (λ (xs : List Asked). xs ++ asked_once root number) none_asked ∙ ap (λ (n : ℕ). asked_once root n) first) in
    let knows = begun told root taken.text loading added taken.named noted in
    inr (placed_as told root (λ m. m ≡ taken.text.tree) (IsModuleOf bytes 0) r name (λ m e. subst (λ (x : Module). IsModuleOf bytes 0 x) (sym e) read) (refuses told taken.text tells knows))
refuses_given held root loading (Read name) bytes number before before_asked refuses taken none last asked none_asked = tt
refuses_given held root loading Memory bytes number before before_asked refuses taken none last asked none_asked = tt

pub breaks_given : (held : List (Option Texts)) (root bytes : List ℕ) (number : ℕ) (before : List Source) (fault : LoadFault) → IsOfText bytes number root fault → number ≡ length before → before ≡ [] → RefusesGiven held root bytes fault
unfolding IsOfText RefusesGiven
breaks_given held root bytes number before (Refused r name) is last none = λ told tells.
    inl (is.0, subst (λ (n : ℕ). IsOfBytes bytes n r) (last ∙ ap length none) is.1)
breaks_given held root bytes number before (Read name) is last none = tt
breaks_given held root bytes number before Memory is last none = tt

told_either : (told : List Texts) (root given name : List ℕ) (r : Refusal) → Some given ≡ option_map (take (MODULE_BYTES + 1)) (text_of told root) →
    ((name ≡ root) × IsOfBytes given 0 r) ⊎ IsPlaced told root (IsModuleOf given 0) r name → IsPlaced told root (IsModuleUnder told root 0) r name
told_either told root given name r front (inl broken) =
    subst (λ (n : List ℕ). IsPlaced told root (IsModuleUnder told root 0) r n) (sym broken.0) (front_broken told root root given 0 r (IsModuleUnder told root 0) front broken.1)
told_either told root given name r front (inr placed) = placed_as told root (IsModuleOf given 0) (IsModuleUnder told root 0) r name (λ m read. under told root given 0 m front read) placed

-- the root is told
pub refuses_told : (held between : List (Option Texts)) (root given : List ℕ) (found : Option (Vec ℕ Global)) (bytes : Vec ℕ Global) (fault : LoadFault) → IsFront held root found → found ≡ Some bytes →
    RefusesGiven between root given fault → between ≡ held → given ≡ bytes.items → RefusesTold held root fault
unfolding RefusesGiven RefusesTold
refuses_told held between root given found bytes (Refused r name) front some refuses same is = λ told tells.
    inr (told_either told root given name r (ap (λ (b : List ℕ). Some b) is ∙ front_told held root found bytes front some told tells) (refuses told (same ∙ tells)))
refuses_told held between root given found bytes (Read name) front some refuses same is = tt
refuses_told held between root given found bytes Memory front some refuses same is = tt

-- no library has the root
pub told_absent : (held : List (Option Texts)) (root name : List ℕ) (found : Option (Vec ℕ Global)) (place : Position) (fault : LoadFault) → IsFront held root found → found ≡ None → IsRefusal rule.NoModule place name fault →
    place ≡ start_of 0 → name ≡ root → RefusesTold held root fault
unfolding IsFront IsRefusal RefusesTold
told_absent held root name found place (Refused r text) front none is at same = λ told tells.
    let absent : None ≡ option_map (take (MODULE_BYTES + 1)) (text_of told root) =
    subst (λ (f : Option (Vec ℕ Global)). option_map (λ v. v.items) f ≡ option_map (take (MODULE_BYTES + 1)) (text_of told root)) none (front told tells) in
    inl (is.1 ∙ same, absent_held (text_of told root) absent, is.0 ∙ ap (λ (p : Position). refusal_at rule.NoModule p) at)
told_absent held root name found place (Read text) front none is at same = tt
told_absent held root name found place Memory front none is at same = tt
