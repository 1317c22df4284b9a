-- The instances of a loaded model are the least set.
use Rattle.std.proofs.Common.{◌≡◌, ◌⊎◌, ℕ, ◌<◌, ◌≤◌, List, [], length, slice_get, Option, Some, codes, sym, subst, ◌∙◌, inl, inr, arith}
use Rattle.std.proofs.lemmas.Bool.{cases_lt}
use Rattle.std.proofs.lemmas.Option.{same_Some, slice_get_within}
use Rattle.base_types.specs.Texts.{Texts}
use Rattle.syntax_tree.specs.declared.instance.Instance.{Instance}
use Rattle.syntax_tree.specs.declared.instance.Text.{Text}
use Rattle.syntax_tree.specs.declared.module.Module.{Module}
use Rattle.load_modules.specs.Instances as least
use Rattle.load_modules.specs.Instances.{Given, given, Arguments, nothing}
use Rattle.load_modules.specs.Numbered.{AreWalked, by_root, and_integers}
use Rattle.load_modules.specs.Told.{name_at, IsFound, IsPathAnswer}
use Rattle.load_laws.specs.Least.{arguments_of, AreInstances, InstancesAreLeast}
use Rattle.syntax_single.specs.Single.{ModulesAreSingle}
use Rattle.load_laws.specs.Unique.{IsLoad}
use Rattle.load_laws.proofs.Found.{root_name, answered}
use Rattle.load_laws.proofs.LeastMeant.{Means, means, AreMeant, one_meant, one_place, meant_within, meant_by}
use Rattle.load_laws.proofs.LeastBack.{opened_in, leads_back}
use Rattle.load_laws.proofs.LeastRun.{plain_means, all_meant_at}

module _ (told : List Texts) (root : List ℕ) (tree : Module) (texts : List Text) (instances : List Instance) (load : IsLoad told root tree texts instances) where
  -- the instance of a number that is below their count or isn't
  by_case : (n : ℕ) → (n < length instances) ⊎ (length instances ≤ n) → Given
  by_case n (inl lt) = (all_meant_at told root tree texts instances load n lt).who
  by_case n (inr le) = given [] nothing

  case_means : (n : ℕ) (c : (n < length instances) ⊎ (length instances ≤ n)) → n < length instances → Means texts instances n (by_case n c)
  unfolding by_case
  case_means n (inl less) lt = (all_meant_at told root tree texts instances load n less).meant
  case_means n (inr le) lt = absurd (omega (arith, lt, le))

  case_instance : (n : ℕ) (c : (n < length instances) ⊎ (length instances ≤ n)) → n < length instances → least.IsInstance told root tree (by_case n c)
  unfolding by_case
  case_instance n (inl less) lt = (all_meant_at told root tree texts instances load n less).instance
  case_instance n (inr le) lt = absurd (omega (arith, lt, le))

  given_at : ℕ → Given
  given_at n = by_case n (cases_lt n (length instances))

  at_means : (n : ℕ) → n < length instances → Means texts instances n (given_at n)
  unfolding given_at
  at_means n lt = case_means n (cases_lt n (length instances)) lt

  at_instance : (n : ℕ) → n < length instances → least.IsInstance told root tree (given_at n)
  unfolding given_at
  at_instance n lt = case_instance n (cases_lt n (length instances)) lt

  says_so : (n : ℕ) (g : Given) (i : Instance) (name : List ℕ) → Means texts instances n g → slice_get instances n ≡ Some i → name_at texts i.text ≡ Some name → g ≡ given name (arguments_of given_at i.arguments)
  says_so n g i name (means m j other arguments there called are) is named =
      let same : j ≡ i = same_Some j i (sym there ∙ is) in
      let these : AreMeant texts instances i.arguments arguments = subst (λ (x : Instance). AreMeant texts instances x.arguments arguments) same are in
      one_meant texts instances n (given other arguments) (given name (arguments_of given_at i.arguments)) (means n j other arguments there called are)
      (means n i name (arguments_of given_at i.arguments) is named (meant_by texts instances given_at at_means i.arguments arguments these))

  -- an instance that some number means
  record IsFoundAt (g : Given) : Type 0 where
    number : ℕ
    meant : Means texts instances number g

  integers_found : (text : List ℕ) (integers : Option ℕ) → AreWalked instances texts integers → IsPathAnswer told root texts (codes "util/integer") integers → IsFound told root (codes "util/integer") text → IsFoundAt (given text nothing)
  integers_found text integers (by_root answer behind begins plain) is found =
      let got = answered told root texts (codes "util/integer") text answer is found in
      let has = plain got.0 got.1 in
      record { number = has.number; meant = plain_means texts instances has.number got.0 has.instance text has.is has.plain got.2 }
  integers_found text integers (and_integers number met passed behind instance begins there plain second) is found =
      let got = answered told root texts (codes "util/integer") text (Some number) is found in
      let same : number ≡ got.0 = same_Some number got.0 got.1 in
      let named : name_at texts number ≡ Some text = subst (λ (n : ℕ). name_at texts n ≡ Some text) (sym same) got.2 in
      record { number = met; meant = plain_means texts instances met number instance text there plain named }

  every_found : ModulesAreSingle → (g : Given) → least.IsInstance told root tree g → IsFoundAt g
  every_found law g least.first =
      record { number = 0; meant = plain_means texts instances 0 0 load.reached.root root load.reached.begins load.reached.plain (root_name told root tree texts load.texts) }
  every_found law g (least.opened i j k before leads) =
      let at = every_found law i before in
      let o = opened_in law told root tree texts instances load at.number i k j at.meant leads in
      record { number = o.opened.instance; meant = leads_back law told root tree texts instances load at.number i k j leads at.meant o.opened o.hidden o.is_open }
  every_found law g (least.integers text found) = integers_found text load.numbered.integers load.numbered.numbered.walked load.numbered.found found

  are_instances : ModulesAreSingle → AreInstances told root tree texts instances given_at
  are_instances law = record {
    says = λ n i name is named. says_so n (given_at n) i name (at_means n (slice_get_within instances n i is)) is named;
    sound = at_instance;
    every = every;
    apart = apart;
  }
    where
      every : (i : Given) → least.IsInstance told root tree i → (n : ℕ) × (n < length instances) × (given_at n ≡ i)
      every i is =
          let at = every_found law i is in
          let lt = meant_within texts instances at.number i at.meant in
          (at.number, lt, one_meant texts instances at.number (given_at at.number) i (at_means at.number lt) at.meant)

      apart : (m n : ℕ) → m < length instances → n < length instances → given_at m ≡ given_at n → m ≡ n
      apart m n low high same =
          one_place texts instances load.numbered.numbered.apart load.distinct m n (given_at n) (subst (λ (g : Given). Means texts instances m g) same (at_means m low)) (at_means n high)

pub instances_least : ModulesAreSingle → InstancesAreLeast
instances_least law told root tree texts instances load = (given_at told root tree texts instances load, are_instances told root tree texts instances load law)
