-- The walks of two models from their roots, and from the module of the integers, meet the same instances.
use Rattle.std.proofs.Common.{◌≡◌, ℕ, zero, suc, ◌<◌, List, [], ◌∷◌, ◌++◌, length, slice_get, Option, Some, codes, sym, ap, subst, ◌∙◌, inl, inr, arith}
use Rattle.std.proofs.lemmas.Bool.{cases_lt}
use Rattle.std.proofs.lemmas.Option.{same_Some, slice_get_within}
use Rattle.base_types.specs.Texts.{Texts}
use Rattle.syntax_tree.specs.declared.instance.Instance.{Instance}
use Rattle.syntax_tree.specs.declared.instance.Text.{Text}
use Rattle.syntax_tree.specs.declared.module.Module.{Module}
use Rattle.load_state.specs.Keys.{pairs_of, AreDistinct}
use Rattle.load_modules.specs.Numbered.{IsAmong, AreApart, HasPlain, Begins, AreWalked, by_root, and_integers}
use Rattle.load_modules.specs.Reached.{IsPlain}
use Rattle.load_modules.specs.Told.{name_at, IsFound, IsPathAnswer}
use Rattle.load_laws.specs.One.{TextsHaveOneModule}
use Rattle.load_laws.specs.Unique.{IsLoad}
use Rattle.load_laws.proofs.Alike.{AreSame, turned, among_more, among_last, among_none, one_number}
use Rattle.load_laws.proofs.Found.{root_name, answered}
use Rattle.load_laws.proofs.Names.{Carries, SameBelow, IsState}
use Rattle.load_laws.proofs.Targets.{known_number, same_next}
use Rattle.load_laws.proofs.Lockstep.{HasRun, Locked, start_inner, state_passed, lock}

module _ (texts others : List Text) (instances rest : List Instance) where
  -- so many instances of both models are the same, and so are their opens
  pub record AreWhole (count other : ℕ) : Type 0 where
    pub numbers : List ℕ
    pub size : count ≡ other
    pub same : SameBelow texts others instances rest count
    pub carries : (m : ℕ) → m < count → Carries texts others instances rest numbers m

  -- two walks from the root
  whole_root : (after other : ℕ) (behind beyond : List ℕ) → Locked texts others instances rest 0 1 [] after other behind beyond → AreWhole after other
  whole_root after other behind beyond locked = record { numbers = behind; size = locked.count; same = locked.run.state.same; carries = carries }
    where
      carries : (m : ℕ) → m < after → Carries texts others instances rest behind m
      carries zero lt = locked.run.own
      carries (suc m) lt = locked.run.state.carries (suc m) (locked.run.all (suc m) (omega arith) lt)

  -- two walks behind these
  whole_more : (met after other : ℕ) (passed behind beyond : List ℕ) → HasRun texts others instances rest 0 1 [] met passed → Locked texts others instances rest met (suc met) (passed ++ 0 ∷ []) after other behind beyond →
      AreWhole after other
  whole_more met after other passed behind beyond run locked = record { numbers = behind; size = locked.count; same = locked.run.state.same; carries = carries }
    where
      front : (m : ℕ) → m < met → IsAmong (passed ++ 0 ∷ []) m
      front zero lt = among_last passed 0
      front (suc m) lt = among_more passed (0 ∷ []) (suc m) (run.all (suc m) (omega arith) lt)

      carries : (m : ℕ) → m < after → Carries texts others instances rest behind m
      carries m lt = elim (cases_lt m met) [
        | inl less ↦ locked.run.state.carries m (locked.run.grown m (front m less))
        | inr least ↦ elim (cases_lt met m) [
          | inl more ↦ locked.run.state.carries m (locked.run.all m more lt)
          | inr most ↦ let at : met ≡ m = omega (arith, least, most) in subst (λ (x : ℕ). Carries texts others instances rest behind x) at locked.run.own
        ]
      ]

  -- Where one model has an instance of the integers' text already, the other does not meet one at the end.
  no_plain : (met n number : ℕ) (j : Instance) (name : List ℕ) → AreApart others → AreDistinct (pairs_of rest) → SameBelow texts others instances rest met → HasPlain instances n → length instances ≡ met → slice_get rest met ≡ Some j →
      IsPlain number j → name_at texts n ≡ Some name → name_at others number ≡ Some name → ⊥
  no_plain met n number j name apart distinct below has size is plain named called =
      let lt : has.number < met = omega (arith, size, slice_get_within instances has.number has.instance has.is) in
      let same = below has.number lt in
      let one : same.alike.first ≡ has.instance = same_Some same.alike.first has.instance (sym same.alike.is_first ∙ has.is) in
      let there : name_at texts (has.instance).text ≡ Some name = ap (λ (x : ℕ). name_at texts x) has.plain.text ∙ named in
      let called_so : number ≡ (has.instance).text = known_number texts others instances rest has.number has.instance number name apart same has.is there called in
      let text : same.alike.second.text ≡ j.text = sym same.alike.text ∙ (ap (λ (i : Instance). i.text) one ∙ (sym called_so ∙ sym plain.text)) in
      let arguments : same.alike.second.arguments ≡ j.arguments = sym same.alike.arguments ∙ (ap (λ (i : Instance). i.arguments) one ∙ (has.plain.none ∙ sym plain.none)) in
      let at : has.number ≡ met = one_number rest has.number met same.alike.second j distinct same.alike.is_second is text arguments in
      absurd (omega (arith, at, lt))

-- an instance of the integers' text, where this text is found
found_plain : (told : List Texts) (root path name : List ℕ) (texts : List Text) (instances : List Instance) (answer : Option ℕ) → IsPathAnswer told root texts path answer → IsFound told root path name →
    ((text : ℕ) → answer ≡ Some text → HasPlain instances text) → (n : ℕ) × HasPlain instances n × (name_at texts n ≡ Some name)
found_plain told root path name texts instances answer is found has =
    let got = answered told root texts path name answer is found in
    (got.0, has got.0 got.1, got.2)

module _ (law : TextsHaveOneModule) (told : List Texts) (root : List ℕ) (tree : Module) (texts others : List Text) (instances rest : List Instance) (a : IsLoad told root tree texts instances)
    (b : IsLoad told root tree others rest) where
  -- two plain instances that are met next
  plain_same : (met n m : ℕ) (way name : List ℕ) (i j : Instance) (passed beyond : List ℕ) (after other : ℕ) (behind rear : List ℕ) → SameBelow texts others instances rest met → slice_get instances met ≡ Some i → slice_get rest met ≡ Some j →
      IsPlain n i → IsPlain m j → name_at texts n ≡ Some name → name_at others m ≡ Some name → Begins instances texts met way passed after behind → Begins rest others met way beyond other rear →
      AreSame texts others instances rest met
  plain_same met n m way name i j passed beyond after other behind rear below is was plain blank named called begins begun =
      same_next law told root tree texts others instances rest a b met way i j name below is was (plain.none ∙ sym blank.none) (ap (λ (x : ℕ). name_at texts x) plain.text ∙ named)
      (ap (λ (x : ℕ). name_at others x) blank.text ∙ called) begins.labelled begun.labelled

  -- two walks that begin at the same new instance
  both_begin : (met : ℕ) (way : List ℕ) (passed : List ℕ) (after other : ℕ) (behind beyond : List ℕ) → IsState texts others instances rest met passed → AreSame texts others instances rest met →
      Begins instances texts met way passed after behind → Begins rest others met way passed other beyond → Locked texts others instances rest met (suc met) passed after other behind beyond
  both_begin met way passed after other behind beyond state same begins begun =
      lock law told root tree texts others instances rest a b met way 0 (suc met) passed after other behind beyond begins.walks begun.walks (start_inner texts others instances rest met passed state same)

  none_yet : IsState texts others instances rest 0 []
  none_yet = record { same = λ m lt. absurd (omega (arith, lt)); within = λ m among. absurd (among_none m among); carries = λ m among. absurd (among_none m among) }

  -- the walks from the roots
  from_roots : (after other : ℕ) (behind beyond : List ℕ) → Begins instances texts 0 [] [] after behind → Begins rest others 0 [] [] other beyond → Locked texts others instances rest 0 1 [] after other behind beyond
  from_roots after other behind beyond begins begun =
      both_begin 0 [] [] after other behind beyond none_yet
      (plain_same 0 0 0 [] root a.reached.root b.reached.root [] [] after other behind beyond none_yet.same a.reached.begins b.reached.begins a.reached.plain b.reached.plain (root_name told root tree texts a.texts)
      (root_name told root tree others b.texts) begins begun)
      begins begun

  -- the walks of both
  from_integers : (met count after other n m : ℕ) (passed beyond behind rear : List ℕ) (i j : Instance) (path : List ℕ) → IsPathAnswer told root texts path (Some n) → IsPathAnswer told root others path (Some m) →
      Locked texts others instances rest 0 1 [] met count passed beyond → slice_get instances met ≡ Some i → slice_get rest count ≡ Some j → IsPlain n i → IsPlain m j →
      Begins instances texts met (codes "integer") (passed ++ 0 ∷ []) after behind → Begins rest others count (codes "integer") (beyond ++ 0 ∷ []) other rear → AreWhole texts others instances rest after other
  from_integers met count after other n m passed beyond behind rear i j path found sought locked is was plain blank begins begun =
      let run = locked.run in
      let named = answered told root others path found.0 (Some m) sought found.2 in
      let number : m ≡ named.0 = same_Some m named.0 named.1 in
      let called : name_at others m ≡ Some found.0 = ap (λ (x : ℕ). name_at others x) number ∙ named.2 in
      let there : slice_get rest met ≡ Some j = ap (λ (x : ℕ). slice_get rest x) locked.count ∙ was in
      let begun_there : Begins rest others met (codes "integer") (passed ++ 0 ∷ []) other rear =
      subst (λ (x : ℕ). Begins rest others x (codes "integer") (passed ++ 0 ∷ []) other rear) (sym locked.count)
      (subst (λ (x : List ℕ). Begins rest others count (codes "integer") (x ++ 0 ∷ []) other rear) (sym locked.numbers) begun) in
      let same = plain_same met n m (codes "integer") found.0 i j (passed ++ 0 ∷ []) (passed ++ 0 ∷ []) after other behind rear run.state.same is there plain blank found.1 called begins begun_there in
      let inside : 0 < met = omega (arith, run.more) in
      whole_more texts others instances rest met after other passed behind rear run
      (both_begin met (codes "integer") (passed ++ 0 ∷ []) after other behind rear (state_passed texts others instances rest 0 1 met [] passed inside run) same begins begun_there)

  -- all instances of both
  pub both_walked : (path : List ℕ) (answer reply : Option ℕ) → IsPathAnswer told root texts path answer → IsPathAnswer told root others path reply → AreWalked instances texts answer → AreWalked rest others reply →
      AreWhole texts others instances rest (length instances) (length rest)
  both_walked path answer reply found sought (by_root x behind begins has) (by_root y beyond begun had) =
      whole_root texts others instances rest (length instances) (length rest) behind beyond (from_roots (length instances) (length rest) behind beyond begins begun)
  both_walked path answer reply found sought (by_root x behind begins has) (and_integers m count beyond rear j begun was blank then) =
      let locked = from_roots (length instances) count behind beyond begins begun in
      let plain = found_plain told root path sought.0 texts instances answer found sought.2 has in
      let below : SameBelow texts others instances rest count = subst (λ (x : ℕ). SameBelow texts others instances rest x) locked.count locked.run.state.same in
      absurd (no_plain texts others instances rest count plain.0 m j sought.0 b.numbered.numbered.apart b.distinct below plain.1 locked.count was blank plain.2 sought.1)
  both_walked path answer reply found sought (and_integers n met passed behind i begins is plain then) (by_root y beyond begun had) =
      let locked = from_roots met (length rest) passed beyond begins begun in
      let blank = found_plain told root path found.0 others rest reply sought found.2 had in
      let below : SameBelow others texts rest instances met = λ k lt. turned texts others instances rest k (locked.run.state.same k lt) in
      absurd (no_plain others texts rest instances met blank.0 n i found.0 a.numbered.numbered.apart a.distinct below blank.1 (sym locked.count) is plain blank.2 found.1)
  both_walked path answer reply found sought (and_integers n met passed behind i begins is plain then) (and_integers m count beyond rear j begun was blank next) =
      from_integers met count (length instances) (length rest) n m passed beyond behind rear i j path found sought (from_roots met count passed beyond begins begun) is was plain blank then next
