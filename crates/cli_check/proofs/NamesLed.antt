-- The file that a schema's name stands for.
use Rattle.std.proofs.Common.{◌≡◌, ◌≢◌, ℕ, ◌+◌, ◌<◌, ◌≤◌, List, ◌∷◌, ◌++◌, length, take, drop, get_or, Option, Some, None, sym, ap, ◌∙◌, subst, arith, ⊎_elim, take-append-drop}
use Rattle.std.specs.declared.alloc.Global.{Global}
use Rattle.std.specs.Borrow.{Bor}
use Rattle.std.specs.Prelude.{IfOk, MatchOption, Ok, Err, Result, String, string_bytes}
use Rattle.std.specs.Str.Pattern.{FindsText, HasCharAt, HasMatch}
use lib.Chars.{codes}
use Rattle.std.specs.Char.{encode_utf8}
use Rattle.std.specs.List.{Any}
use Rattle.std.proofs.lemmas.Bool.{cases_eq}
use Rattle.std.proofs.lemmas.List.{append_cancel_left, get_or_default}
use Rattle.std.proofs.lemmas.Str.{encode_ascii}
use Rattle.cli_check.specs.Naming.{HasNoSlash, IsBeside, IsElsewhere, IsFolderOf, MapsTo, equals, slash}

module _ (schema : List ℕ) (maps : List (String Global)) (i : ℕ) where
  pub any_here : (map : String Global) (text file : List ℕ) → i < length maps → map ≡ get_or maps i map → text ≡ string_bytes map → text ≡ schema ++ equals ∷ file → Any (MapsTo schema file) maps
  any_here map text file h is value k = (i, map, h, sym is, sym value ∙ k)

  pub none_more : (map : String Global) (text : List ℕ) → i < length maps → map ≡ get_or maps i map → text ≡ string_bytes map → ((file : List ℕ) → text ≢ schema ++ equals ∷ file)
      → ((k : ℕ) (d : String Global) (file : List ℕ) → k < i → ¬ (MapsTo schema file (get_or maps k d)))
      → (k : ℕ) (d : String Global) (file : List ℕ) → k < i + 1 → ¬ (MapsTo schema file (get_or maps k d))
  none_more map text h is value this before k d file low has =
      ⊎_elim
      (λ (e : k ≡ i). this file (value ∙ ap string_bytes (is ∙ get_or_default maps i map d h ∙ ap (λ n. get_or maps n d) (sym e)) ∙ has))
      (λ other. before k d file (omega (arith, low, other)) has)
      (cases_eq k i)

  pub none_at_all : length maps ≤ i → ((k : ℕ) (d : String Global) (file : List ℕ) → k < i → ¬ (MapsTo schema file (get_or maps k d))) → (file : List ℕ) → ¬ (Any (MapsTo schema file) maps)
  none_at_all h none file (k, x, low, is, has) = none k x file (omega (arith, low, h)) (ap string_bytes is ∙ has)

-- what stands before and behind a slash
pub parted : (name folder base : List ℕ) (i j : ℕ) → drop i name ≡ encode_utf8 slash ++ drop j name → folder ≡ take i name → base ≡ drop j name → name ≡ folder ++ slash ∷ base
parted name folder base i j split front back =
    sym (take-append-drop i name) ∙ ap (λ l. take i name ++ l) (split ∙ ap (λ l. l ++ drop j name) (encode_ascii slash (omega arith)))
    ∙ ap (λ l. l ++ slash ∷ drop j name) (sym front) ∙ ap (λ l. folder ++ slash ∷ l) (sym back)

pub folder_parted : (name folder base : List ℕ) (i j : ℕ) → HasCharAt slash name i j → HasNoSlash (drop j name) → folder ≡ take i name → base ≡ drop j name → IsFolderOf name folder
folder_parted name folder base i j at none front back = (base, parted name folder base i j at.split front back, subst HasNoSlash (sym back) none)

-- a file that is called so
pub beside_so : {E : Type 0} (name path p : List ℕ) (r : Result (String Global) E) → IsBeside name path p → IfOk r (λ f. string_bytes f ≡ p) → IfOk r (λ f. IsBeside name path (string_bytes f))
beside_so name path p (Ok f) k is = subst (IsBeside name path) (sym is) k
beside_so name path p (Err e) k is = tt

-- behind the name of a map
pub file_found : (map schema rest : List ℕ) (r : Option (Bor (List ℕ))) → map ≡ schema ++ rest → MatchOption r ((f : List ℕ) → rest ≢ equals ∷ f) (λ x. rest ≡ equals ∷ x.now)
    → MatchOption r ((f : List ℕ) → map ≢ schema ++ equals ∷ f) (λ x. map ≡ schema ++ equals ∷ x.now)
file_found map schema rest None is none = λ f e. none f (append_cancel_left schema rest (equals ∷ f) (sym is ∙ e))
file_found map schema rest (Some x) is k = is ∙ ap (λ l. schema ++ l) k

-- a URL that no map has
pub elsewhere : (maps : List (String Global)) (schema : List ℕ) → ((file : List ℕ) → ¬ (Any (MapsTo schema file) maps)) → HasMatch (FindsText (codes "://")) schema → IsElsewhere maps schema
elsewhere maps schema none (i, j, (before, at), low, long) = (none, (take i schema, drop j schema, sym (take-append-drop i schema) ∙ ap (λ l. take i schema ++ l) at.split))
