-- What is known of the texts stays known.
use Rattle.std.proofs.Common.{◌≡◌, ◌≢◌, ℕ, zero, suc, ◌+◌, ◌<◌, ◌≤◌, List, [], ◌∷◌, ◌++◌, map, length, take, Bool, true, false, cond, Option, Some, None, Vec, refl, sym, ap, subst, ◌∙◌, arith}
use Rattle.std.proofs.lemmas.List.{length-map, length-take, take_all}
use Rattle.std.proofs.lemmas.Option.{none-some, same_Some}
use Rattle.std.proofs.lemmas.Slice.Eq.{bytes_eq-Decides}
use Rattle.std.specs.Prelude.{bytes_eq, slice_get, option_map, min}
use Rattle.std.specs.declared.alloc.Global.{Global}
use Rattle.base_types.specs.Texts.{Texts, text_of, fetched}
use Rattle.base_types.specs.declared.library.Fetch.{Fetch}
use Rattle.base_types.specs.declared.library.Fetch.TheVariants.{Found, Absent}
use Rattle.base_types.specs.declared.limits.TheConstants.{MODULE_BYTES}
use Rattle.syntax_tree.specs.declared.instance.Text.{Text}
use Rattle.syntax_tree.specs.declared.module.Module.{Module}
use Rattle.load_state.specs.Causes.{IsTried}
use Rattle.load_state.proofs.Pairs.{distinct_push}
use Rattle.load_state.specs.Keys.{Pair, answer_in, pair_of, Lacks, AreDistinct}
use Rattle.load_state.specs.declared.loading.Key.{Key}
use Rattle.load_state.specs.declared.loading.Asked.{Asked}
use Rattle.load_state.specs.declared.loading.Loading.{Loading}
use Rattle.load_state.specs.declared.source.Source.{Source}
use Rattle.load_modules.specs.Reading.{IsModuleOf}
use Rattle.load_modules.specs.Told.{IsModuleUnder, near_name, far_name, name_at, texts_in, IsFront, IsAbsent, HasText, the_root, a_text, IsFound, near, far, AreTold, AreTexts, IsAnswer, IsPathAnswer, AreAnswers, Knows, Learns, LearnsPath, Keeps, StaysDistinct, LoadsTold, LoadsGiven, LoadsTree, Follows, IsTaken}

-- a text that isn't over the limit is its own front
pub whole : (most : ℕ) (front full : List ℕ) → front ≡ take (most + 1) full → length front ≤ most → full ≡ front
whole most front full is small =
    let count : length front ≡ min (most + 1) (length full) = ap length is ∙ length-take (most + 1) full in
    let short : length full ≤ most + 1 = omega (arith, count, small) in
    sym (is ∙ take_all (most + 1) full short)

front_held : (told : List Texts) (name front : List ℕ) (held : Option (List ℕ)) → Some front ≡ option_map (take (MODULE_BYTES + 1)) held → length front ≤ MODULE_BYTES → held ≡ Some front
front_held told name front None is small = absurd (none-some front (sym is))
front_held told name front (Some full) is small = ap (λ (b : List ℕ). Some b) (whole MODULE_BYTES front full (same_Some front (take (MODULE_BYTES + 1) full) is) small)

-- the module of the front is that of the text
pub under : (told : List Texts) (name front : List ℕ) (number : ℕ) (tree : Module) → Some front ≡ option_map (take (MODULE_BYTES + 1)) (text_of told name) → IsModuleOf front number tree →
    IsModuleUnder told name number tree
under told name front number tree is read =
    record { bytes = front; held = front_held told name front (text_of told name) is read.small; read = read }

pub slice_get-more : {A : Type 0} (xs ys : List A) (n : ℕ) (x : A) → slice_get xs n ≡ Some x → slice_get (xs ++ ys) n ≡ Some x
slice_get-more [] ys n x is = absurd (none-some x is)
slice_get-more (a ∷ xs) ys zero x is = is
slice_get-more (a ∷ xs) ys (suc n) x is = slice_get-more xs ys n x is

pub name_at-more : (xs ys : List Text) (n : ℕ) (name : List ℕ) → name_at xs n ≡ Some name → name_at (xs ++ ys) n ≡ Some name
name_at-more [] ys n name is = absurd (none-some name is)
name_at-more (t ∷ xs) ys zero name is = is
name_at-more (t ∷ xs) ys (suc n) name is = name_at-more xs ys n name is

name_at-last : (xs : List Text) (t : Text) → name_at (xs ++ t ∷ []) (length xs) ≡ Some t.name
name_at-last [] t = refl
name_at-last (x ∷ xs) t = name_at-last xs t

answer_in-more : (xs ys : List Asked) (name : List ℕ) (answer : Option ℕ) → answer_in xs name ≡ Some answer → answer_in (xs ++ ys) name ≡ Some answer
answer_in-more [] ys name answer is = absurd (none-some answer is)
answer_in-more (a ∷ xs) ys name answer is =
    elim (bytes_eq a.name name) as (λ t. cond t (Some a.text) (answer_in xs name) ≡ Some answer → cond t (Some a.text) (answer_in (xs ++ ys) name) ≡ Some answer) [
      | true ↦ λ e. e
      | false ↦ λ e. answer_in-more xs ys name answer e
    ] is

pub absent_held : (held : Option (List ℕ)) → None ≡ option_map (take (MODULE_BYTES + 1)) held → held ≡ None
absent_held None is = refl
absent_held (Some full) is = absurd (none-some (take (MODULE_BYTES + 1) full) is)

module _ (told : List Texts) (root : List ℕ) where
  is_answer-more : (xs ys : List Text) (name : List ℕ) (answer : Option ℕ) → IsAnswer told root xs name answer → IsAnswer told root (xs ++ ys) name answer
  is_answer-more xs ys name None is = is
  is_answer-more xs ys name (Some n) is = name_at-more xs ys n name is

  answers-more : (xs ys : List Text) (asked : List Asked) → AreAnswers told root xs asked → AreAnswers told root (xs ++ ys) asked
  answers-more xs ys [] are = tt
  answers-more xs ys (a ∷ rest) are = (is_answer-more xs ys a.name a.text are.0, answers-more xs ys rest are.1)

  answers-push : (texts : List Text) (asked : List Asked) (a : Asked) → AreAnswers told root texts asked → IsAnswer told root texts a.name a.text → AreAnswers told root texts (asked ++ a ∷ [])
  answers-push texts [] a are is = (is, tt)
  answers-push texts (b ∷ rest) a are is = (are.0, answers-push texts rest a are.1 is)

  told-push : (number : ℕ) (texts : List Text) (t : Text) → AreTold told root number texts → IsModuleUnder told t.name (number + length texts) t.tree → IsTried root t.name →
      AreTold told root number (texts ++ t ∷ [])
  told-push number [] t are under tried =
      let e : number + 0 ≡ number = omega arith in
      (subst (λ (n : ℕ). IsModuleUnder told t.name n t.tree) e under, tried, tt)
  told-push number (x ∷ texts) t are under tried =
      let e : number + suc (length texts) ≡ suc number + length texts = omega arith in
      (are.0, are.1, told-push (suc number) texts t are.2 (subst (λ (n : ℕ). IsModuleUnder told t.name n t.tree) e under) tried)

  answered : (texts : List Text) (asked : List Asked) (name : List ℕ) (answer : Option ℕ) → AreAnswers told root texts asked → answer_in asked name ≡ Some answer → IsAnswer told root texts name answer
  answered texts [] name answer are is = absurd (none-some answer is)
  answered texts (a ∷ rest) name answer are is =
      elim (bytes_eq a.name name) as (λ t. bytes_eq a.name name ≡ t → cond t (Some a.text) (answer_in rest name) ≡ Some answer → IsAnswer told root texts name answer) [
        | true ↦ λ e h. subst (λ (x : Option ℕ). IsAnswer told root texts name x) (same_Some a.text answer h)
            (subst (λ (m : List ℕ). IsAnswer told root texts m a.text) ((bytes_eq-Decides a.name name).0 e) are.0)
        | false ↦ λ e h. answered texts rest name answer are.1 h
      ] refl is

  not_root : (asked : List Asked) (name : List ℕ) → answer_in asked root ≡ Some (Some 0) → answer_in asked name ≡ None → name ≢ root
  not_root asked name own none same = none-some (Some 0) (sym none ∙ (ap (λ (n : List ℕ). answer_in asked n) same ∙ own))

  -- a name that was answered
  pub known_answer : (first : Text) (loading : Loading) (name : List ℕ) (answer : Option ℕ) → Knows told root first loading → answer_in loading.asked.items name ≡ Some answer →
      IsAnswer told root (texts_in loading) name answer
  known_answer first loading name answer knows is =
      subst (λ (ts : List Text). IsAnswer told root ts name answer) (sym knows.texts) (answered (first ∷ knows.more) loading.asked.items name answer knows.answers is)

  -- a name that is absent
  pub known_absent : (first : Text) (old new : Loading) (a : Asked) → Knows told root first old → answer_in old.asked.items a.name ≡ None →
      None ≡ option_map (take (MODULE_BYTES + 1)) (text_of told a.name) → a.text ≡ None → texts_in new ≡ texts_in old → new.asked.items ≡ old.asked.items ++ a ∷ [] →
      Knows told root first new × IsAbsent told root a.name
  known_absent first old new a knows new_name none is_none same noted =
      let absent : IsAbsent told root a.name = (not_root old.asked.items a.name knows.own new_name, absent_held (text_of told a.name) none) in
      let answer : IsAnswer told root (first ∷ knows.more) a.name a.text = subst (λ (x : Option ℕ). IsAnswer told root (first ∷ knows.more) a.name x) (sym is_none) absent in (
        record {
          more = knows.more;
          named = knows.named;
          texts = same ∙ knows.texts;
          others = knows.others;
          answers = subst (λ (xs : List Asked). AreAnswers told root (first ∷ knows.more) xs) (sym noted) (answers-push (first ∷ knows.more) old.asked.items a knows.answers answer);
          own = ap (λ (xs : List Asked). answer_in xs root) noted ∙ answer_in-more old.asked.items (a ∷ []) root (Some 0) knows.own;
        },
        absent,
      )

  -- a name whose text was read
  pub known_found : (first : Text) (old new : Loading) (a : Asked) (bytes : List ℕ) (number : ℕ) → Knows told root first old →
      Some bytes ≡ option_map (take (MODULE_BYTES + 1)) (text_of told a.name) → IsTried root a.name → a.text ≡ Some number → number ≡ length (texts_in old) →
      IsTaken bytes a.name number (texts_in old) (texts_in new) → new.asked.items ≡ old.asked.items ++ a ∷ [] →
      Knows told root first new × (name_at (texts_in new) number ≡ Some a.name)
  known_found first old new a bytes number knows found tried is_number last taken noted =
      let t = taken.text in
      let grown : texts_in new ≡ first ∷ (knows.more ++ t ∷ []) = taken.added ∙ ap (λ (ts : List Text). ts ++ t ∷ []) knows.texts in
      let size : number ≡ suc (length knows.more) = last ∙ ap length knows.texts in
      let count : number ≡ 1 + length knows.more = omega (arith, size) in
      let read : IsModuleUnder told t.name (1 + length knows.more) t.tree =
      subst (λ (m : List ℕ). IsModuleUnder told m (1 + length knows.more) t.tree) (sym taken.named)
      (under told a.name bytes (1 + length knows.more) t.tree found (subst (λ (n : ℕ). IsModuleOf bytes n t.tree) count taken.read)) in
      let is_tried : IsTried root t.name = subst (IsTried root) (sym taken.named) tried in
      let named : name_at (first ∷ (knows.more ++ t ∷ [])) number ≡ Some a.name =
      ap (λ (n : ℕ). name_at (first ∷ (knows.more ++ t ∷ [])) n) size ∙ (name_at-last (first ∷ knows.more) t ∙ ap (λ (m : List ℕ). Some m) taken.named) in
      let answer : IsAnswer told root (first ∷ (knows.more ++ t ∷ [])) a.name a.text = subst (λ (x : Option ℕ). IsAnswer told root (first ∷ (knows.more ++ t ∷ [])) a.name x) (sym is_number) named in (
        record {
          more = knows.more ++ t ∷ [];
          named = knows.named;
          texts = grown;
          others = told-push 1 knows.more t knows.others read is_tried;
          answers = subst (λ (xs : List Asked). AreAnswers told root (first ∷ (knows.more ++ t ∷ [])) xs) (sym noted)
              (answers-push (first ∷ (knows.more ++ t ∷ [])) old.asked.items a (answers-more (first ∷ knows.more) (t ∷ []) old.asked.items knows.answers) answer);
          own = ap (λ (xs : List Asked). answer_in xs root) noted ∙ answer_in-more old.asked.items (a ∷ []) root (Some 0) knows.own;
        },
        ap (λ (ts : List Text). name_at ts number) grown ∙ named,
      )

  told_has : (number : ℕ) (texts : List Text) (n : ℕ) (name : List ℕ) → AreTold told root number texts → name_at texts n ≡ Some name → HasText told root name
  told_has number [] n name are is = absurd (none-some name is)
  told_has number (t ∷ texts) zero name are is = subst (HasText told root) (same_Some t.name name is) (a_text are.0.bytes are.0.held)
  told_has number (t ∷ texts) (suc n) name are is = told_has (suc number) texts n name are.2 is

  has_at : (first : Text) (more : List Text) (n : ℕ) (name : List ℕ) → first.name ≡ root → AreTold told root 1 more → name_at (first ∷ more) n ≡ Some name → HasText told root name
  has_at first more zero name named are is = the_root (sym (same_Some first.name name is) ∙ named)
  has_at first more (suc n) name named are is = told_has 1 more n name are is

  -- the name of a text that was loaded is that of a text
  pub knows_has : (first : Text) (loading : Loading) (n : ℕ) (name : List ℕ) → Knows told root first loading → name_at (texts_in loading) n ≡ Some name → HasText told root name
  knows_has first loading n name knows is =
      has_at first knows.more n name knows.named knows.others (subst (λ (ts : List Text). name_at ts n ≡ Some name) knows.texts is)

  -- nothing that is spoken of has changed
  pub knows_same : (first : Text) (old new : Loading) → new.sources.items ≡ old.sources.items → new.asked.items ≡ old.asked.items → Knows told root first old → Knows told root first new
  knows_same first old new sources asked knows = record {
    more = knows.more;
    named = knows.named;
    texts = ap (λ (ss : List Source). map (λ (s : Source). s.text) ss) sources ∙ knows.texts;
    others = knows.others;
    answers = subst (λ (xs : List Asked). AreAnswers told root (first ∷ knows.more) xs) (sym asked) knows.answers;
    own = ap (λ (xs : List Asked). answer_in xs root) asked ∙ knows.own;
  }

pub keeps_itself : (held : List (Option Texts)) (root : List ℕ) (loading : Loading) → Keeps held root loading loading
unfolding Keeps
keeps_itself held root loading told first is knows = knows

pub keeps_same : (held : List (Option Texts)) (root : List ℕ) (old new : Loading) → new.sources.items ≡ old.sources.items → new.asked.items ≡ old.asked.items → Keeps held root old new
unfolding Keeps
keeps_same held root old new sources asked told first is knows = knows_same told root first old new sources asked knows

pub keeps_on : (held between : List (Option Texts)) (root : List ℕ) (old mid new : Loading) → Keeps held root old mid → Keeps between root mid new → between ≡ held → Keeps held root old new
unfolding Keeps
keeps_on held between root old mid new one two same told first is knows = two told first (same ∙ is) (one told first is knows)

pub keeps_learnt : (held : List (Option Texts)) (root : List ℕ) (old new : Loading) (name : List ℕ) (answer : Option ℕ) → Learns held root old new name answer → Keeps held root old new
unfolding Keeps Learns
keeps_learnt held root old new name answer learns told first is knows = (learns told first is knows).0

pub keeps_path : (held : List (Option Texts)) (root : List ℕ) (old new : Loading) (path : List ℕ) (answer : Option ℕ) → LearnsPath held root old new path answer → Keeps held root old new
unfolding Keeps LearnsPath
keeps_path held root old new path answer learns told first is knows = (learns told first is knows).0

-- a name that was answered before
pub learns_again : (held : List (Option Texts)) (root name : List ℕ) (loading : Loading) (answer : Option ℕ) → answer_in loading.asked.items name ≡ Some answer → Learns held root loading loading name answer
unfolding Learns
learns_again held root name loading answer is told first tells knows = (knows, known_answer told root first loading name answer knows is)

-- a name that no library has
pub learns_absent : (held : List (Option Texts)) (root name : List ℕ) (old new : Loading) (found : Option (Vec ℕ Global)) (answer : Option ℕ) → IsFront held name found → found ≡ None → answer_in old.asked.items name ≡ None →
    new.sources.items ≡ old.sources.items → new.asked.items ≡ old.asked.items ++ record { name = name; text = None } ∷ [] → answer ≡ None → Learns held root old new name answer
unfolding Learns IsFront
learns_absent held root name old new found answer front none new_name same noted is_none told first tells knows =
    subst (λ (x : Option ℕ). Knows told root first new × IsAnswer told root (texts_in new) name x) (sym is_none) (
    let a : Asked = record { name = name; text = None } in
    known_absent told root first old new a knows new_name (subst (λ (f : Option (Vec ℕ Global)). option_map (λ v. v.items) f ≡ option_map (take (MODULE_BYTES + 1)) (text_of told name)) none (front told tells))
    refl (ap (λ (ss : List Source). map (λ (s : Source). s.text) ss) same) noted)

-- a name whose text was read
pub learns_found : (held : List (Option Texts)) (root name : List ℕ) (old new : Loading) (found : Option (Vec ℕ Global)) (bytes : Vec ℕ Global) (number : ℕ) (answer : Option ℕ) → IsFront held name found → found ≡ Some bytes →
    answer_in old.asked.items name ≡ None → IsTried root name → number ≡ length old.sources.items → IsTaken bytes.items name number (texts_in old) (texts_in new) →
    new.asked.items ≡ old.asked.items ++ record { name = name; text = Some number } ∷ [] → answer ≡ Some number → Learns held root old new name answer
unfolding Learns IsFront
learns_found held root name old new found bytes number answer front some new_name tried last taken noted is_some told first tells knows =
    subst (λ (x : Option ℕ). Knows told root first new × IsAnswer told root (texts_in new) name x) (sym is_some) (
    let a : Asked = record { name = name; text = Some number } in
    known_found told root first old new a bytes.items number knows
    (subst (λ (f : Option (Vec ℕ Global)). option_map (λ v. v.items) f ≡ option_map (take (MODULE_BYTES + 1)) (text_of told name)) some (front told tells))
    tried refl (last ∙ sym (length-map old.sources.items (λ (s : Source). s.text))) taken noted)

-- a path whose first name is found
pub path_near : (held : List (Option Texts)) (root path name : List ℕ) (old new : Loading) (n : ℕ) (answer : Option ℕ) → Learns held root old new name answer → answer ≡ Some n → name ≡ near_name root path → LearnsPath held root old new path (Some n)
unfolding Learns LearnsPath
path_near held root path name old new n answer learns some is told first tells knows =
    let got : Knows told root first new × IsAnswer told root (texts_in new) name (Some n) =
    subst (λ (x : Option ℕ). Knows told root first new × IsAnswer told root (texts_in new) name x) some (learns told first tells knows) in
    (got.0, (name, got.1, near (knows_has told root first new n name got.0 got.1) is))

-- a path whose first name is absent
pub path_far : (held between : List (Option Texts)) (root path name other : List ℕ) (old mid new : Loading) (answer before : Option ℕ) → Learns held root old mid name before → before ≡ None → Learns between root mid new other answer →
    between ≡ held → name ≡ near_name root path → other ≡ far_name path → LearnsPath held root old new path answer
unfolding Learns LearnsPath
path_far held between root path name other old mid new None before one none two same is is_other told first tells knows =
    let got : Knows told root first mid × IsAnswer told root (texts_in mid) name None =
    subst (λ (x : Option ℕ). Knows told root first mid × IsAnswer told root (texts_in mid) name x) none (one told first tells knows) in
    let then = two told first (same ∙ tells) got.0 in
    (then.0, (subst (IsAbsent told root) is got.1, subst (IsAbsent told root) is_other then.1))
path_far held between root path name other old mid new (Some n) before one none two same is is_other told first tells knows =
    let got : Knows told root first mid × IsAnswer told root (texts_in mid) name None =
    subst (λ (x : Option ℕ). Knows told root first mid × IsAnswer told root (texts_in mid) name x) none (one told first tells knows) in
    let then = two told first (same ∙ tells) got.0 in
    (then.0, (other, then.1, far (subst (IsAbsent told root) is got.1) (knows_has told root first new n other then.0 then.1) is_other))

pub front_found : (held : List (Option Texts)) (name : List ℕ) (bytes : Vec ℕ Global) →
    ((told : List Texts) (fetch : Fetch) → held ≡ map Some told → fetch ≡ Found bytes → fetched fetch ≡ option_map (take (MODULE_BYTES + 1)) (text_of told name)) → IsFront held name (Some bytes)
unfolding IsFront
front_found held name bytes answer told tells = answer told (Found bytes) tells refl

pub front_absent : (held : List (Option Texts)) (name : List ℕ) →
    ((told : List Texts) (fetch : Fetch) → held ≡ map Some told → fetch ≡ Absent → fetched fetch ≡ option_map (take (MODULE_BYTES + 1)) (text_of told name)) → IsFront held name None
unfolding IsFront
front_absent held name answer told tells = answer told Absent tells refl

pub stays_itself : (keys : List Key) → StaysDistinct keys keys
unfolding StaysDistinct
stays_itself keys distinct = distinct

pub stays_same : (old new : List Key) → new ≡ old → StaysDistinct old new
unfolding StaysDistinct
stays_same old new same distinct = subst (λ (ks : List Key). AreDistinct (map pair_of ks)) (sym same) distinct

pub stays_on : (old mid new : List Key) → StaysDistinct old mid → StaysDistinct mid new → StaysDistinct old new
unfolding StaysDistinct
stays_on old mid new one two distinct = two (one distinct)

pub stays_placed : (old new : List Key) → (AreDistinct (map pair_of old) → AreDistinct (map pair_of new)) → StaysDistinct old new
unfolding StaysDistinct
stays_placed old new stays = stays

-- one more instance, which none of the others equals
pub stays_plain : (keys more given : List Key) (pair : Pair) → map pair_of more ≡ map pair_of keys ++ pair ∷ [] → Lacks given pair → given ≡ keys → StaysDistinct keys more
unfolding StaysDistinct
stays_plain keys more given pair is lacks same distinct = distinct_push keys more given pair same is lacks distinct

-- the instances of a model, from the root on
pub distinct_end : (keys first last : List Key) (pair : Pair) (pairs : List Pair) → keys ≡ [] → map pair_of first ≡ map pair_of keys ++ pair ∷ [] → StaysDistinct first last → pairs ≡ map pair_of last → AreDistinct pairs
unfolding StaysDistinct
distinct_end keys first last pair pairs none is stays are =
    subst (λ (ps : List Pair). AreDistinct ps) (sym are)
    (stays (subst (λ (ps : List Pair). AreDistinct ps) (sym is)
    (subst (λ (ks : List Key). AreDistinct (map pair_of ks ++ pair ∷ [])) (sym none) (λ i j d lt inside. absurd (omega (arith, lt, inside))))))

texts_as : (told : List Texts) (root : List ℕ) (P Q : Module → Type 0) (texts : List Text) → ((m : Module) → P m → Q m) → AreTexts told root P texts → AreTexts told root Q texts
texts_as told root P Q [] on are = are
texts_as told root P Q (t ∷ ts) on are = (are.0, on t.tree are.1, are.2)

-- the texts that were loaded are those of the model
pub follows : (held : List (Option Texts)) (root : List ℕ) (old new : Loading) (texts : List Text) → Keeps held root old new → texts ≡ map (λ s. s.text) new.sources.items → Follows held root old texts
unfolding Keeps Follows
follows held root old new texts keeps are told first tells knows =
    let known = keeps told first tells knows in
    subst (λ (ts : List Text). AreTexts told root (λ m. m ≡ first.tree) ts) (sym (are ∙ known.texts)) (known.named, refl, known.others)

abbrev pub asked_once : List ℕ → ℕ → List Asked
asked_once root number = record { name = root; text = Some number } ∷ []

own_answer : (root : List ℕ) → answer_in (asked_once root 0) root ≡ Some (Some 0)
own_answer root = ap (λ (t : Bool). cond t (Some (Some 0)) None) ((bytes_eq-Decides root root).1 refl)

-- what is known at the beginning
pub begun : (told : List Texts) (root : List ℕ) (first : Text) (loading : Loading) → texts_in loading ≡ first ∷ [] → first.name ≡ root → loading.asked.items ≡ record { name = root; text = Some 0 } ∷ [] → Knows told root first loading
begun told root first loading texts named asked =
    let a : Asked = record { name = root; text = Some 0 } in
    let answer : IsAnswer told root (first ∷ []) a.name a.text = ap (λ (n : List ℕ). Some n) named in record {
      more = [];
      named = named;
      texts = texts;
      others = tt;
      answers = subst (λ (xs : List Asked). AreAnswers told root (first ∷ []) xs) (sym asked) (answer, tt);
      own = ap (λ (xs : List Asked). answer_in xs root) asked ∙ own_answer root;
    }

pub loads_tree : (held : List (Option Texts)) (root : List ℕ) (loading : Loading) (texts : List Text) (source : Source) (tree : Module) (before : List Source) (before_asked : List Asked) →
    Follows held root loading texts → loading.sources.items ≡ before ++ source ∷ [] → before ≡ [] → source.text.name ≡ root → source.text.tree ≡ tree →
    loading.asked.items ≡ before_asked ++ record { name = root; text = Some 0 } ∷ [] → before_asked ≡ [] → LoadsTree held root tree texts
unfolding Follows LoadsTree
loads_tree held root loading texts source tree before before_asked follows is none named same asked none_asked told tells =
    let sources : loading.sources.items ≡ source ∷ [] = is ∙ ap (λ (ss : List Source). ss ++ source ∷ []) none in
    let noted : loading.asked.items ≡ asked_once root 0 = asked ∙ ap (λ (xs : List Asked). xs ++ asked_once root 0) none_asked in
    let knows = begun told root source.text loading (ap (λ (ss : List Source). map (λ (s : Source). s.text) ss) sources) named noted in
    texts_as told root (λ m. m ≡ source.text.tree) (λ m. m ≡ tree) texts (λ m e. e ∙ same) (follows told source.text tells knows)

pub loads_given : (held : List (Option Texts)) (root : List ℕ) (loading : Loading) (texts : List Text) (bytes : List ℕ) (number : ℕ) (before : List Source) (before_asked : List Asked) →
    Follows held root loading texts → IsTaken bytes root number (map (λ s. s.text) before) (texts_in loading) → before ≡ [] → number ≡ length before →
    loading.asked.items ≡ before_asked ++ record { name = root; text = Some number } ∷ [] → before_asked ≡ [] → LoadsGiven held root bytes texts
unfolding Follows LoadsGiven
loads_given held root loading texts bytes number before before_asked follows taken none last asked none_asked told tells =
    let first : number ≡ 0 = last ∙ ap length none in
    let read : IsModuleOf bytes 0 taken.text.tree = subst (λ (n : ℕ). IsModuleOf bytes n taken.text.tree) first taken.read in
    let added : texts_in loading ≡ taken.text ∷ [] = taken.added ∙ ap (λ (ss : List Source). map (λ (s : Source). s.text) ss ++ taken.text ∷ []) none in
    let noted : loading.asked.items ≡ asked_once root 0 =
    asked ∙ (ap (λ (xs : List Asked). xs ++ asked_once root number) none_asked ∙ ap (λ (n : ℕ). asked_once root n) first) in
    let knows = begun told root taken.text loading added taken.named noted in
    texts_as told root (λ m. m ≡ taken.text.tree) (IsModuleOf bytes 0) texts (λ m e. subst (λ (x : Module). IsModuleOf bytes 0 x) (sym e) read) (follows told taken.text tells knows)

-- the text that was given is that of a library
pub loads_told : (held between : List (Option Texts)) (root : List ℕ) (texts : List Text) (found : Option (Vec ℕ Global)) (bytes : Vec ℕ Global) (given : List ℕ) → IsFront held root found → found ≡ Some bytes →
    LoadsGiven between root given texts → between ≡ held → given ≡ bytes.items → LoadsTold held root texts
unfolding IsFront LoadsGiven LoadsTold
loads_told held between root texts found bytes given front some loads same is told tells =
    let told_front : Some bytes.items ≡ option_map (take (MODULE_BYTES + 1)) (text_of told root) =
    subst (λ (f : Option (Vec ℕ Global)). option_map (λ v. v.items) f ≡ option_map (take (MODULE_BYTES + 1)) (text_of told root)) some (front told tells) in
    texts_as told root (IsModuleOf given 0) (IsModuleUnder told root 0) texts
    (λ m read. under told root bytes.items 0 m told_front (subst (λ (b : List ℕ). IsModuleOf b 0 m) is read)) (loads told (same ∙ tells))
