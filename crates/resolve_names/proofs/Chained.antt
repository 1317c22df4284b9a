-- The places of a name lead to just the declarations of that name, in order.
use Rattle.std.proofs.Common.{◌≡◌, ◌⊎◌, ℕ, zero, suc, ◌+◌, ◌<◌, ◌≤◌, Bool, true, false, cond, ◌&&◌, ◌||◌, not, List, [], ◌∷◌, ◌++◌, drop, set, length, Option, Some, None, slice_get, if◌then◌else◌, append_assoc, append-nil, refl, sym, subst, ◌∙◌, ap, inl, inr, arith}
use Rattle.std.specs.List.{filter_map, cons_option}
use Rattle.std.specs.Str.{bytes_eq}
use Rattle.std.proofs.lemmas.Slice.Eq.{bytes_eq-Decides}
use Rattle.std.proofs.lemmas.Bool.{cases_lt}
use Rattle.std.proofs.lemmas.Bool.Decides.{same_from_decides, Decides-like}
use Rattle.std.proofs.lemmas.Option.{slice_get_within}
use Rattle.std.specs.Map.{lookup}
use Rattle.indexmap.specs.IndexMap.{insert_entry}
use Rattle.resolve_names.specs.declared.table.Decl.{Decl}
use Rattle.resolve_names.specs.declared.table.Declared.{Declared}
use Rattle.resolve_names.specs.Lookup.{seen_in}
use Rattle.resolve_names.specs.Indexed.{first_place, IsChained, IsIndexed}

bytes_turned : (a b : List ℕ) → bytes_eq a b ≡ bytes_eq b a
bytes_turned a b = same_from_decides (bytes_eq a b) (bytes_eq b a) (bytes_eq-Decides a b) (Decides-like (bytes_eq b a) sym sym (bytes_eq-Decides b a))

-- a look-up after a key is put
module _ {K X : Type 0} (text : K → List ℕ) (key : K) (value : X) (q : List ℕ) where
  pub looked_put : (es : List (K × X)) → lookup (λ (k : K). bytes_eq q (text k)) (insert_entry (λ (a b : K). bytes_eq (text a) (text b)) es key value) ≡
      (if bytes_eq (text key) q then Some value else lookup (λ (k : K). bytes_eq q (text k)) es)
  looked_put [] = ap (λ b. if b then Some value else None) (bytes_turned q (text key))
  looked_put (e ∷ es) = by_tests (bytes_eq (text key) (text e.0)) (bytes_eq q (text e.0)) (bytes_eq (text key) q) refl refl refl (looked_put es)
    where
      by_tests : (a b c : Bool) → bytes_eq (text key) (text e.0) ≡ a → bytes_eq q (text e.0) ≡ b → bytes_eq (text key) q ≡ c →
          lookup (λ (k : K). bytes_eq q (text k)) (insert_entry (λ (a b : K). bytes_eq (text a) (text b)) es key value) ≡ (if bytes_eq (text key) q then Some value else lookup (λ (k : K). bytes_eq q (text k)) es) →
          lookup (λ (k : K). bytes_eq q (text k)) (if a then (e.0, value) ∷ es else e ∷ insert_entry (λ (a b : K). bytes_eq (text a) (text b)) es key value) ≡
          (if c then Some value else (if b then Some e.1 else lookup (λ (k : K). bytes_eq q (text k)) es))
      by_tests true true true x y z h = ap (λ t. if t then Some value else lookup (λ (k : K). bytes_eq q (text k)) es) y
      by_tests true true false x y z h =
          absurd (let f = (bytes_eq-Decides (text key) (text e.0)).0 x in let g = (bytes_eq-Decides q (text e.0)).0 y in let t = (bytes_eq-Decides (text key) q).1 (f ∙ sym g) in cc)
      by_tests true false true x y z h =
          absurd (let f = (bytes_eq-Decides (text key) (text e.0)).0 x in let g = (bytes_eq-Decides (text key) q).0 z in let t = (bytes_eq-Decides q (text e.0)).1 (sym g ∙ f) in cc)
      by_tests true false false x y z h = ap (λ t. if t then Some value else lookup (λ (k : K). bytes_eq q (text k)) es) y
      by_tests false true true x y z h =
          absurd (let f = (bytes_eq-Decides (text key) q).0 z in let g = (bytes_eq-Decides q (text e.0)).0 y in let t = (bytes_eq-Decides (text key) (text e.0)).1 (f ∙ g) in cc)
      by_tests false true false x y z h =
          ap (λ t. if t then Some e.1 else lookup (λ (k : K). bytes_eq q (text k)) (insert_entry (λ (a b : K). bytes_eq (text a) (text b)) es key value)) y
      by_tests false false true x y z h =
          ap (λ t. if t then Some e.1 else lookup (λ (k : K). bytes_eq q (text k)) (insert_entry (λ (a b : K). bytes_eq (text a) (text b)) es key value)) y ∙ h ∙ ap (λ t. if t then Some value else lookup (λ (k : K). bytes_eq q (text k)) es) z
      by_tests false false false x y z h =
          ap (λ t. if t then Some e.1 else lookup (λ (k : K). bytes_eq q (text k)) (insert_entry (λ (a b : K). bytes_eq (text a) (text b)) es key value)) y ∙ h ∙ ap (λ t. if t then Some value else lookup (λ (k : K). bytes_eq q (text k)) es) z

one_more_place : (n : ℕ) → n + 1 ≡ suc n
one_more_place n = omega arith

drop_head_at : (xs : List Declared) (n : ℕ) (d : Declared) (ds : List Declared) → drop n xs ≡ d ∷ ds → (slice_get xs n ≡ Some d) × (drop (suc n) xs ≡ ds)
drop_head_at [] zero d ds e = absurd cc
drop_head_at [] (suc n) d ds e = absurd cc
drop_head_at (x ∷ xs) zero d ds e = (cc, cc)
drop_head_at (x ∷ xs) (suc n) d ds e = drop_head_at xs n d ds e

drop_head : (xs : List Declared) (n : ℕ) (d : Declared) (ds : List Declared) → drop n xs ≡ d ∷ ds → (slice_get xs n ≡ Some d) × (drop (n + 1) xs ≡ ds)
drop_head xs n d ds e = let h = drop_head_at xs n d ds e in (h.0, ap (λ m. drop m xs) (one_more_place n) ∙ h.1)

drop_at_one : (xs : List Declared) (n : ℕ) (d : Declared) → slice_get xs n ≡ Some d → drop n xs ≡ d ∷ drop (suc n) xs
drop_at_one [] n d e = absurd cc
drop_at_one (x ∷ xs) zero d e = let same : x ≡ d = cc in ap (λ y. y ∷ xs) same
drop_at_one (x ∷ xs) (suc n) d e = drop_at_one xs n d e

drop_at : (xs : List Declared) (n : ℕ) (d : Declared) → slice_get xs n ≡ Some d → drop n xs ≡ d ∷ drop (n + 1) xs
drop_at xs n d e = drop_at_one xs n d e ∙ ap (λ m. d ∷ drop m xs) (sym (one_more_place n))

drop_past : (xs : List Declared) (n : ℕ) → length xs ≤ n → drop n xs ≡ []
drop_past [] zero le = refl
drop_past [] (suc n) le = refl
drop_past (x ∷ xs) zero le = absurd (omega arith)
drop_past (x ∷ xs) (suc n) le = drop_past xs n (omega arith)

set_here : (xs : List (Option ℕ)) (i : ℕ) (y : Option ℕ) → i < length xs → slice_get (set xs i y) i ≡ Some y
set_here [] i y lt = absurd (omega arith)
set_here (x ∷ xs) zero y lt = refl
set_here (x ∷ xs) (suc i) y lt = set_here xs i y (omega arith)

set_there : (xs : List (Option ℕ)) (i k : ℕ) (y : Option ℕ) → i < k → slice_get (set xs i y) k ≡ slice_get xs k
set_there [] i k y lt = refl
set_there (x ∷ xs) zero zero y lt = absurd (omega arith)
set_there (x ∷ xs) zero (suc k) y lt = refl
set_there (x ∷ xs) (suc i) zero y lt = absurd (omega arith)
set_there (x ∷ xs) (suc i) (suc k) y lt = set_there xs i k y (omega arith)

length_set : (xs : List (Option ℕ)) (i : ℕ) (y : Option ℕ) → length (set xs i y) ≡ length xs
length_set [] i y = refl
length_set (x ∷ xs) zero y = refl
length_set (x ∷ xs) (suc i) y = ap suc (length_set xs i y)

-- one declaration more at the front of those that are indexed
pub indexed_more : (ds : List Declared) (n place : ℕ) (d : Declared) (find find_then : List ℕ → Option ℕ) (next : List (Option ℕ)) → place + 1 ≡ n → slice_get ds place ≡ Some d →
    IsIndexed ds n find next → ((q : List ℕ) → find_then q ≡ (if bytes_eq d.name q then Some place else find q)) → IsIndexed ds place find_then (set next place (find d.name))
indexed_more ds n place d find find_then next e at old put = record {
  first = λ q.
      put q
      ∙ ap (λ b. if b then Some place else find q) (bytes_turned d.name q)
      ∙ ap (λ o. if bytes_eq q d.name then Some place else o) (old.first q ∙ ap (λ m. first_place q m (drop m ds)) (sym e))
      ∙ ap (first_place q place) (sym (drop_at ds place d at));
  chained = record {
    every = length_set next place (find d.name) ∙ old.chained.every;
    each = λ k one le at_k. by_place k one (cases_lt place k) le at_k;
  };
}
  where
    here : (k : ℕ) (one : Declared) → k ≡ place → one ≡ d → slice_get (set next place (find d.name)) k ≡ Some (first_place one.name (k + 1) (drop (k + 1) ds))
    here k one f same =
        ap (slice_get (set next place (find d.name))) f
        ∙ set_here next place (find d.name) (let every = old.chained.every in let within = slice_get_within ds place d at in omega arith)
        ∙ ap (λ o. Some o) (old.first d.name ∙ ap (λ m. first_place d.name m (drop m ds)) (omega arith) ∙ ap (λ (x : Declared). first_place x.name (k + 1) (drop (k + 1) ds)) (sym same))

    by_place : (k : ℕ) (one : Declared) → (place < k) ⊎ (k ≤ place) → place ≤ k → slice_get ds k ≡ Some one → slice_get (set next place (find d.name)) k ≡ Some (first_place one.name (k + 1) (drop (k + 1) ds))
    by_place k one (inl lt) le at_k = set_there next place k (find d.name) lt ∙ old.chained.each k one (omega arith) at_k
    by_place k one (inr ge) le at_k =
        let f : k ≡ place = omega arith in
        let there : slice_get ds place ≡ Some one = subst (λ m. slice_get ds m ≡ Some one) f at_k in
        let same : one ≡ d = cc in
        here k one f same

pub indexed_none : (ds : List Declared) (n : ℕ) (find : List ℕ → Option ℕ) (next : List (Option ℕ)) → length ds ≤ n → length next ≡ length ds → ((q : List ℕ) → find q ≡ None) → IsIndexed ds n find next
indexed_none ds n find next le every none = record {
  first = λ q. none q ∙ ap (first_place q n) (sym (drop_past ds n le));
  chained = record { every = every; each = λ k d far at. absurd (let within = slice_get_within ds k d at in omega arith) };
}

module _ (own : Bool) (q : List ℕ) where
  not_seen : (d : Declared) (ds : List Declared) → bytes_eq q d.name ≡ false → filter_map (seen_in own q) (d ∷ ds) ≡ filter_map (seen_in own q) ds
  not_seen d ds e = by (bytes_eq d.name q) (bytes_turned d.name q ∙ e)
    where
      by : (b : Bool) → b ≡ false → cons_option (cond (b && (own || not d.is_private)) (Some d.what) None) (filter_map (seen_in own q) ds) ≡ filter_map (seen_in own q) ds
      by true f = absurd cc
      by false f = refl

  none_found : (n : ℕ) (ds : List Declared) → first_place q n ds ≡ None → filter_map (seen_in own q) ds ≡ []
  none_found n [] e = refl
  none_found n (d ∷ ds) e = by (bytes_eq q d.name) refl e (none_found (n + 1) ds)
    where
      by : (b : Bool) → bytes_eq q d.name ≡ b → (if b then Some n else first_place q (n + 1) ds) ≡ None → (first_place q (n + 1) ds ≡ None → filter_map (seen_in own q) ds ≡ []) → filter_map (seen_in own q) (d ∷ ds) ≡ []
      by true same f rest = absurd cc
      by false same f rest = not_seen d ds same ∙ rest f

  record IsFound (list : List Declared) (n p : ℕ) (ds : List Declared) : Type 0 where
    past : n ≤ p
    one : Declared
    at : slice_get list p ≡ Some one
    named : q ≡ one.name
    same : filter_map (seen_in own q) ds ≡ filter_map (seen_in own q) (drop p list)

  found : (list : List Declared) (n p : ℕ) (ds : List Declared) → drop n list ≡ ds → first_place q n ds ≡ Some p → IsFound list n p ds
  found list n p [] e f = absurd cc
  found list n p (d ∷ ds) e f = by (bytes_eq q d.name) refl f (found list (n + 1) p ds (drop_head list n d ds e).1)
    where
      later : bytes_eq q d.name ≡ false → IsFound list (n + 1) p ds → IsFound list n p (d ∷ ds)
      later apart r = record { past = (let far = r.past in omega arith); one = r.one; at = r.at; named = r.named; same = not_seen d ds apart ∙ r.same }

      by : (b : Bool) → bytes_eq q d.name ≡ b → (if b then Some n else first_place q (n + 1) ds) ≡ Some p → (first_place q (n + 1) ds ≡ Some p → IsFound list (n + 1) p ds) → IsFound list n p (d ∷ ds)
      by true same g rest =
          let e_p : n ≡ p = cc in
          record {
            past = omega arith;
            one = d;
            at = subst (λ m. slice_get list m ≡ Some d) e_p (drop_head list n d ds e).0;
            named = (bytes_eq-Decides q d.name).0 same;
            same = ap (filter_map (seen_in own q)) (sym e ∙ ap (λ m. drop m list) e_p);
          }
      by false apart g rest = later apart (rest g)

  -- so far done, where the next place to look at is this
  pub record IsOnChain (list : List Declared) (step : ℕ) (at : Option ℕ) (done all : List Decl) : Type 0 where
    pub n : ℕ
    pub far : step ≤ n
    pub at_is : at ≡ first_place q n (drop n list)
    pub rest : done ++ filter_map (seen_in own q) (drop n list) ≡ all

  pub begun : (list : List Declared) (at : Option ℕ) (done : List Decl) → at ≡ first_place q 0 list → IsOnChain list 0 at done (done ++ filter_map (seen_in own q) list)
  begun list at done e = record { n = 0; far = omega arith; at_is = e; rest = refl }

  pub over : (list : List Declared) (step : ℕ) (done all : List Decl) → IsOnChain list step None done all → done ≡ all
  over list step done all o = sym (append-nil done) ∙ ap (λ zs. done ++ zs) (sym (none_found o.n (drop o.n list) (sym o.at_is))) ∙ o.rest

  pub ended : (list : List Declared) (step : ℕ) (at : Option ℕ) (done all : List Decl) → length list ≤ step → IsOnChain list step at done all → done ≡ all
  ended list step at done all le o =
      sym (append-nil done) ∙ ap (λ zs. done ++ filter_map (seen_in own q) zs) (sym (drop_past list o.n (let far = o.far in omega arith))) ∙ o.rest

  pub place_within : (list : List Declared) (step p : ℕ) (done all : List Decl) → IsOnChain list step (Some p) done all → p < length list
  place_within list step p done all o = let f = found list o.n p (drop o.n list) refl (sym o.at_is) in slice_get_within list p f.one f.at

  one_more : (o : Option Decl) (ys : List Decl) → cons_option o [] ++ ys ≡ cons_option o ys
  one_more None ys = refl
  one_more (Some x) ys = refl

  pub goes_on : (list : List Declared) (next : List (Option ℕ)) (step p : ℕ) (at_then : Option ℕ) (done done_then all : List Decl) → IsChained list 0 next → IsOnChain list step (Some p) done all →
      slice_get next p ≡ Some at_then → ((d : Declared) → slice_get list p ≡ Some d → done_then ≡ done ++ cons_option (seen_in own q d) []) → IsOnChain list (step + 1) at_then done_then all
  goes_on list next step p at_then done done_then all chained o taken put =
      let f = found list o.n p (drop o.n list) refl (sym o.at_is) in
      let told = chained.each p f.one (omega arith) f.at in
      let then_is : at_then ≡ first_place f.one.name (p + 1) (drop (p + 1) list) = cc in
      record {
        n = p + 1;
        far = (let far = o.far in let past = f.past in omega arith);
        at_is = then_is ∙ ap (λ t. first_place t (p + 1) (drop (p + 1) list)) (sym f.named);
        rest =
            ap (λ zs. zs ++ filter_map (seen_in own q) (drop (p + 1) list)) (put f.one f.at)
            ∙ append_assoc done (cons_option (seen_in own q f.one) []) (filter_map (seen_in own q) (drop (p + 1) list))
            ∙ ap (λ zs. done ++ zs) (one_more (seen_in own q f.one) (filter_map (seen_in own q) (drop (p + 1) list)) ∙ ap (filter_map (seen_in own q)) (sym (drop_at list p f.one f.at)) ∙ sym f.same)
            ∙ o.rest;
      }
