-- What a fetched file is, by how much of it came.
use Rattle.std.proofs.Common.{◌≡◌, ℕ, ◌+◌, ◌<◌, ◌≤◌, Bool, true, false, cond, nat_le, List, length, map, take, Option, Some, None, option_map, Vec, Global, Result, Ok, refl, sym, ap, ◌∙◌, subst, arith}
use Rattle.std.proofs.lemmas.Bool.{le-leb, lt-leb, leb-true, leb-false}
use Rattle.std.proofs.lemmas.List.{length-take, take_all}
use Rattle.std.specs.declared.alloc.AllocError.{AllocError}
use Rattle.base_types.specs.Texts as texts
use Rattle.base_types.specs.Texts.{Texts, AnswersFirst}
use Rattle.base_types.specs.declared.library.Fetch.TheVariants.{Absent}
use Rattle.base_types.specs.declared.place.Rule.TheVariants.{NoModule, LargeFile}
use Rattle.cli_model.specs.Files.{IsFile, rule_broken, file_rule}
use Rattle.cli_model.specs.declared.files.File.{File}
use Rattle.cli_model.specs.declared.files.File.TheVariants.{Whole, Broken}

-- what holds of the value that was built holds of the one that is returned
pub same_value : {T : Type 0} (P : T → Type 0) (x y : T) → ◌≡◌ {A = Result T AllocError} (Ok x) (Ok y) → P x → P y
same_value P x y is h = subst P (cc is) h

none_broken : (f : List ℕ → List ℕ) (o : Option (List ℕ)) (most : ℕ) → None ≡ option_map f o → rule_broken o most ≡ Some NoModule
none_broken f None most h = refl
none_broken f (Some x) most h = cc

pub absent_rule : (told : List Texts) (name : List ℕ) (most next : ℕ) → AnswersFirst told name next Absent → file_rule told (name, most) ≡ Some NoModule
absent_rule told name most next h = none_broken (take next) (texts.text_of told name) most h

-- a front of at most `most` bytes, where one more was asked for, is the whole text
front_whole : (most : ℕ) (front text : List ℕ) → front ≡ take (most + 1) text → length front ≤ most → front ≡ text
front_whole most front text is le =
    let short : length text ≤ most + 1 = omega (arith, ap length is, length-take (most + 1) text) in
    is ∙ take_all (most + 1) text short

front_over : (most : ℕ) (front text : List ℕ) → front ≡ take (most + 1) text → most < length front → most < length text
front_over most front text is lt = omega (arith, ap length is, length-take (most + 1) text)

whole_rule : (most : ℕ) (front : List ℕ) (o : Option (List ℕ)) → Some front ≡ option_map (take (most + 1)) o → length front ≤ most →
    (o ≡ Some front) × (rule_broken o most ≡ None)
whole_rule most front None is le = cc
whole_rule most front (Some text) is le =
    let same : front ≡ text = front_whole most front text (cc) le in
    (ap (λ t. Some t) (sym same), rw (le-leb (length text) most (subst (λ t. length t ≤ most) same le)) refl)

over_rule : (most : ℕ) (front : List ℕ) (o : Option (List ℕ)) → Some front ≡ option_map (take (most + 1)) o → most < length front → rule_broken o most ≡ Some LargeFile
over_rule most front None is lt = cc
over_rule most front (Some text) is lt = rw (lt-leb (length text) most (front_over most front text (cc) lt)) refl

module _ (held : List (Option Texts)) (name : List ℕ) (most : ℕ) (before now : List ℕ) (text : Vec ℕ Global) (same : now ≡ before)
    (front : (told : List Texts) → held ≡ map (λ t. Some t) told → Some text.items ≡ option_map (take (most + 1)) (texts.text_of told name)) where
  by_length : (b : Bool) → nat_le (length text.items) most ≡ b → IsFile held name most before now (cond b (Whole text) (Broken LargeFile))
  by_length true le = (same, λ told tells. whole_rule most text.items (texts.text_of told name) (front told tells) (leb-true _ _ le))
  by_length false le = (same, λ told tells. over_rule most text.items (texts.text_of told name) (front told tells) (leb-false _ _ le))

  pub found_file : (file : File) → file ≡ cond (nat_le (length text.items) most) (Whole text) (Broken LargeFile) → IsFile held name most before now file
  found_file file is = subst (λ f. IsFile held name most before now f) (sym is) (by_length (nat_le (length text.items) most) refl)

-- a file that is whole is within the limit
pub whole_length : (text got : Vec ℕ Global) (most : ℕ) → ◌≡◌ {A = File} (Whole got) (cond (nat_le (length text.items) most) (Whole text) (Broken LargeFile)) → length got.items ≤ most
whole_length text got most is = go (nat_le (length text.items) most) refl
  where
    go : (b : Bool) → nat_le (length text.items) most ≡ b → length got.items ≤ most
    go true le =
        let same : ◌≡◌ {A = File} (Whole got) (Whole text) = rw le at is in
        let equal : got ≡ text = cc in
        subst (λ (v : Vec ℕ Global). length v.items ≤ most) (sym equal) (leb-true _ _ le)
    go false le =
        let other : ◌≡◌ {A = File} (Whole got) (Broken LargeFile) = rw le at is in
        cc
