-- A refusal is in the text that it names.
use Rattle.std.proofs.Common.{◌≡◌, ℕ, zero, suc, ◌+◌, List, [], ◌∷◌, ◌++◌, map, length, take, Option, Some, None, Vec, refl, sym, ap, subst, ◌∙◌, arith, slice_get, append-nil, append_assoc}
use Rattle.std.proofs.lemmas.List.{length-take}
use Rattle.std.proofs.lemmas.Option.{none-some, same_Some}
use Rattle.std.specs.Prelude.{option_map, min}
use Rattle.std.specs.declared.alloc.Global.{Global}
use Rattle.base_types.specs.Texts.{Texts, text_of}
use Rattle.base_types.specs.declared.limits.TheConstants.{MODULE_BYTES}
use Rattle.base_types.specs.declared.place.Position.{Position}
use Rattle.base_types.specs.declared.place.Refusal.{Refusal}
use Rattle.base_types.specs.declared.place.Rule.{Rule}
use Rattle.base_types.specs.declared.place.Rule.TheVariants as rule
use Rattle.syntax_tree.specs.declared.instance.Text.{Text}
use Rattle.syntax_tree.specs.declared.module.Module.{Module}
use Rattle.load_state.specs.Causes.{IsRefusal, IsUnread}
use Rattle.load_state.specs.Keys.{texts_of, text_of_key, text_at}
use Rattle.load_state.specs.Opens.{IsOpenPlace, IsPlaceOf}
use Rattle.load_state.specs.Places.{IsPlacedIn, IsInText}
use Rattle.load_state.specs.Refusals.{start_of}
use Rattle.load_state.specs.declared.fault.LoadFault.{LoadFault}
use Rattle.load_state.specs.declared.fault.LoadFault.TheVariants.{Refused, Read, Memory}
use Rattle.load_state.specs.declared.loading.Key.{Key}
use Rattle.load_state.specs.declared.loading.Loading.{Loading}
use Rattle.load_state.specs.declared.source.Source.{Source}
use Rattle.load_modules.specs.Refused.{IsOfBytes, large, uncut, at_token, at_open, at_start, IsPlaced, in_root, of_bytes, of_opens, IsOfText, Refuses}
use Rattle.load_modules.specs.Told.{IsFront, AreTold, Keeps, Learns, LearnsPath, IsTaken, IsGrown}
use Rattle.load_modules.proofs.Known.{whole, keeps_learnt, keeps_path, keeps_same}

-- what a front breaks by itself its text breaks too
in_full : (front full : List ℕ) (number : ℕ) (r : Refusal) → front ≡ take (MODULE_BYTES + 1) full → IsOfBytes front number r → IsOfBytes full number r
in_full front full number r is (large many same) =
    let count : length front ≡ min (MODULE_BYTES + 1) (length full) = ap length is ∙ length-take (MODULE_BYTES + 1) full in
    large (omega (arith, count, many)) same
in_full front full number r is (uncut small broken) = subst (λ (b : List ℕ). IsOfBytes b number r) (sym (whole MODULE_BYTES front full is small)) (uncut small broken)
in_full front full number r is (at_token tokens small cut breaks) =
    subst (λ (b : List ℕ). IsOfBytes b number r) (sym (whole MODULE_BYTES front full is small)) (at_token tokens small cut breaks)

-- the text of a front
full_of : (held : Option (List ℕ)) (front : List ℕ) → Some front ≡ option_map (take (MODULE_BYTES + 1)) held → (full : List ℕ) × (held ≡ Some full) × (front ≡ take (MODULE_BYTES + 1) full)
full_of None front is = absurd (none-some front (sym is))
full_of (Some full) front is = (full, refl, same_Some front (take (MODULE_BYTES + 1) full) is)

pub front_broken : (told : List Texts) (root name front : List ℕ) (number : ℕ) (r : Refusal) (P : Module → Type 0) → Some front ≡ option_map (take (MODULE_BYTES + 1)) (text_of told name) → IsOfBytes front number r →
    IsPlaced told root P r name
front_broken told root name front number r P is broken =
    let found = full_of (text_of told name) front is in
    of_bytes found.0 number found.1 (in_full front found.0 number r found.2 broken)

pub front_told : (held : List (Option Texts)) (name : List ℕ) (found : Option (Vec ℕ Global)) (bytes : Vec ℕ Global) → IsFront held name found → found ≡ Some bytes → (told : List Texts) → held ≡ map Some told →
    Some bytes.items ≡ option_map (take (MODULE_BYTES + 1)) (text_of told name)
unfolding IsFront
front_told held name found bytes front some told tells =
    subst (λ (f : Option (Vec ℕ Global)). option_map (λ v. v.items) f ≡ option_map (take (MODULE_BYTES + 1)) (text_of told name)) some (front told tells)

-- want of memory, and a text that could not be read, are no refusals
pub refuses_memory : (held : List (Option Texts)) (root : List ℕ) (loading : Loading) (fault : LoadFault) → fault ≡ Memory → Refuses held root loading fault
unfolding Refuses
refuses_memory held root loading fault same = let P : LoadFault → Type 0 = λ f. Refuses held root loading f in subst P (sym same) tt

pub refuses_unread : (held : List (Option Texts)) (root name : List ℕ) (loading : Loading) (fault : LoadFault) → IsUnread name fault → Refuses held root loading fault
unfolding Refuses IsUnread
refuses_unread held root name loading (Refused r text) unread = absurd unread
refuses_unread held root name loading (Read text) unread = tt
refuses_unread held root name loading Memory unread = tt

-- a text that was asked for breaks a rule by itself
pub refuses_text : (held : List (Option Texts)) (root name bytes : List ℕ) (loading : Loading) (number : ℕ) (found : Option (Vec ℕ Global)) (vec : Vec ℕ Global) (fault : LoadFault) → IsFront held name found →
    found ≡ Some vec → bytes ≡ vec.items → IsOfText bytes number name fault → Refuses held root loading fault
unfolding Refuses IsOfText
refuses_text held root name bytes loading number found vec (Refused r text) front some same broken = λ told first tells knows.
    let is : Some bytes ≡ option_map (take (MODULE_BYTES + 1)) (text_of told name) = ap (λ (b : List ℕ). Some b) same ∙ front_told held name found vec front some told tells in
    subst (λ (n : List ℕ). IsPlaced told root (λ m. m ≡ first.tree) r n) (sym broken.0) (front_broken told root name bytes number r (λ m. m ≡ first.tree) is broken.1)
refuses_text held root name bytes loading number found vec (Read text) front some same broken = tt
refuses_text held root name bytes loading number found vec Memory front some same broken = tt

-- a refusal of a step after others
pub refuses_later : (held between : List (Option Texts)) (root : List ℕ) (old mid : Loading) (fault : LoadFault) → Keeps held root old mid → Refuses between root mid fault → between ≡ held → Refuses held root old fault
unfolding Refuses Keeps
refuses_later held between root old mid (Refused r name) keeps refuses same = λ told first tells knows. refuses told first (same ∙ tells) (keeps told first tells knows)
refuses_later held between root old mid (Read name) keeps refuses same = tt
refuses_later held between root old mid Memory keeps refuses same = tt

in_told : (told : List Texts) (root : List ℕ) (number : ℕ) (texts : List Text) (n : ℕ) (t : Text) (r : Refusal) (P : Module → Type 0) → AreTold told root number texts → slice_get texts n ≡ Some t → IsOpenPlace t.tree r.place →
    IsPlaced told root P r t.name
in_told told root number [] n t r P are is here = absurd (none-some t is)
in_told told root number (x ∷ texts) zero t r P are is here =
    let same : x ≡ t = same_Some x t is in
    subst (λ (y : Text). IsPlaced told root P r y.name) same (of_opens x.tree number are.0 (subst (λ (y : Text). IsOpenPlace y.tree r.place) (sym same) here))
in_told told root number (x ∷ texts) (suc n) t r P are is here = in_told told root (suc number) texts n t r P are.2 is here

in_first : (told : List Texts) (root : List ℕ) (first : Text) (more : List Text) (n : ℕ) (t : Text) (r : Refusal) → first.name ≡ root → AreTold told root 1 more → slice_get (first ∷ more) n ≡ Some t → IsOpenPlace t.tree r.place →
    IsPlaced told root (λ m. m ≡ first.tree) r t.name
in_first told root first more zero t r named are is here =
    let same : first ≡ t = same_Some first t is in
    in_root (ap (λ (y : Text). y.name) (sym same) ∙ named) (at_open t.tree (ap (λ (y : Text). y.tree) (sym same)) here)
in_first told root first more (suc n) t r named are is here = in_told told root 1 more n t r (λ m. m ≡ first.tree) are is here

in_some : (told : List Texts) (root : List ℕ) (first : Text) (more : List Text) (n : ℕ) (found : Option Text) (name : List ℕ) (r : Refusal) → first.name ≡ root → AreTold told root 1 more → slice_get (first ∷ more) n ≡ found →
    IsPlacedIn found name r.place → IsPlaced told root (λ m. m ≡ first.tree) r name
in_some told root first more n None name r named others is at = absurd at
in_some told root first more n (Some t) name r named others is at =
    subst (λ (x : List ℕ). IsPlaced told root (λ m. m ≡ first.tree) r x) (sym at.0) (in_first told root first more n t r named others is at.1)

in_texts : (told : List Texts) (root : List ℕ) (first : Text) (more : List Text) (found : Option Key) (texts : List Text) (name : List ℕ) (r : Refusal) → texts ≡ first ∷ more → first.name ≡ root → AreTold told root 1 more →
    IsPlacedIn (text_of_key texts found) name r.place → IsPlaced told root (λ m. m ≡ first.tree) r name
in_texts told root first more None texts name r are named others at = absurd at
in_texts told root first more (Some k) texts name r are named others at =
    in_some told root first more k.text (slice_get texts k.text) name r named others (ap (λ (ts : List Text). slice_get ts k.text) (sym are)) at

-- an open of an instance is refused
pub refuses_open : (held : List (Option Texts)) (root : List ℕ) (loading : Loading) (keys : List Key) (sources : List Source) (n : ℕ) (fault : LoadFault) → sources ≡ loading.sources.items →
    IsInText (text_at keys (texts_of sources) n) fault → Refuses held root loading fault
unfolding Refuses IsInText
refuses_open held root loading keys sources n (Refused r name) same at = λ told first tells knows.
    in_texts told root first knows.more (slice_get keys n) (texts_of sources) name r (ap texts_of same ∙ knows.texts) knows.named knows.others at
refuses_open held root loading keys sources n (Read name) same at = tt
refuses_open held root loading keys sources n Memory same at = tt

-- the root is refused at its start
pub refuses_start : (held : List (Option Texts)) (root name : List ℕ) (loading : Loading) (rule : Rule) (place : Position) (fault : LoadFault) → IsRefusal rule place name fault → place ≡ start_of 0 → name ≡ root →
    Refuses held root loading fault
unfolding Refuses IsRefusal
refuses_start held root name loading rule place (Refused r text) is at same = λ told first tells knows. in_root (is.1 ∙ same) (at_start (ap (λ (x : Refusal). x.place) is.0 ∙ at))
refuses_start held root name loading rule place (Read text) is at same = tt
refuses_start held root name loading rule place Memory is at same = tt

found_more : (texts more : List Text) (n : ℕ) (place : Position) → IsPlaceOf (slice_get texts n) place → IsPlaceOf (slice_get (texts ++ more) n) place
found_more [] more n place at = absurd at
found_more (t ∷ texts) more zero place at = at
found_more (t ∷ texts) more (suc n) place at = found_more texts more n place at

text_more : (texts more : List Text) (found : Option Key) (place : Position) → IsPlaceOf (text_of_key texts found) place → IsPlaceOf (text_of_key (texts ++ more) found) place
text_more texts more None place at = absurd at
text_more texts more (Some k) place at = found_more texts more k.text place at

-- the place of an open is one of the text still, when more texts were read
pub place_grown : (keys now : List Key) (sources read : List Source) (n : ℕ) (place : Position) → IsPlaceOf (text_at keys (texts_of sources) n) place → now ≡ keys → IsGrown (texts_of sources) (texts_of read) →
    IsPlaceOf (text_at now (texts_of read) n) place
place_grown keys now sources read n place at same grown =
    let P : List Key → List Text → Type 0 = λ ks ts. IsPlaceOf (text_at ks ts n) place in
    subst (λ (ks : List Key). P ks (texts_of read)) (sym same) (subst (λ (ts : List Text). P keys ts) (sym grown.added) (text_more (texts_of sources) grown.more (slice_get keys n) place at))

pub unread_memory : (name : List ℕ) (fault : LoadFault) → fault ≡ Memory → IsUnread name fault
unfolding IsUnread
unread_memory name fault same = let P : LoadFault → Type 0 = λ f. IsUnread name f in subst P (sym same) tt

pub grown_same : (old new : List Text) → new ≡ old → IsGrown old new
grown_same old new same = record { more = []; added = same ∙ sym (append-nil old) }

pub grown_taken : (bytes name : List ℕ) (number : ℕ) (old new : List Text) → IsTaken bytes name number old new → IsGrown old new
grown_taken bytes name number old new taken = record { more = taken.text ∷ []; added = taken.added }

pub grown_on : (old mid new : List Text) → IsGrown old mid → IsGrown mid new → IsGrown old new
grown_on old mid new one two =
    record { more = one.more ++ two.more; added = two.added ∙ (ap (λ (ts : List Text). ts ++ two.more) one.added ∙ append_assoc old one.more two.more) }

-- a refusal after a name, or a path, was learnt
pub refuses_after : (held between : List (Option Texts)) (root name : List ℕ) (old mid : Loading) (answer : Option ℕ) (fault : LoadFault) → Learns held root old mid name answer → Refuses between root mid fault → between ≡ held →
    Refuses held root old fault
refuses_after held between root name old mid answer fault learns refuses same = refuses_later held between root old mid fault (keeps_learnt held root old mid name answer learns) refuses same

pub refuses_path : (held between : List (Option Texts)) (root path : List ℕ) (old mid : Loading) (answer : Option ℕ) (fault : LoadFault) → LearnsPath held root old mid path answer → Refuses between root mid fault → between ≡ held →
    Refuses held root old fault
refuses_path held between root path old mid answer fault learns refuses same = refuses_later held between root old mid fault (keeps_path held root old mid path answer learns) refuses same

-- a refusal after a step that changed nothing of which is spoken
pub refuses_same : (held between : List (Option Texts)) (root : List ℕ) (old mid : Loading) (fault : LoadFault) → mid.sources.items ≡ old.sources.items → mid.asked.items ≡ old.asked.items → Refuses between root mid fault →
    between ≡ held → Refuses held root old fault
refuses_same held between root old mid fault sources asked refuses same = refuses_later held between root old mid fault (keeps_same held root old mid sources asked) refuses same

pub refuses_further : (held between : List (Option Texts)) (root : List ℕ) (old first mid : Loading) (fault : LoadFault) → first.sources.items ≡ old.sources.items → first.asked.items ≡ old.asked.items → Keeps held root first mid →
    Refuses between root mid fault → between ≡ held → Refuses held root old fault
refuses_further held between root old first mid fault sources asked keeps refuses same =
    refuses_same held held root old first fault sources asked (refuses_later held between root first mid fault keeps refuses same) refl
