-- What is to be given stays as more is read.
use Rattle.std.proofs.Common.{◌≡◌, ℕ, ◌+◌, Bool, List, [], ◌∷◌, ◌++◌, length-append, take, drop, zero, suc, refl, sym, ap, ◌∙◌, subst, append_assoc, Option, Some, None, arith}
use Rattle.std.specs.Prelude.{IsUtf8}
use Rattle.std.specs.Io.KnownBytes.{IsAtEnd, prepend_known}
use Rattle.std.specs.Str.{IsCharBoundary}
use Rattle.std.proofs.lemmas.List.{drop-append-le, drop-drop, take-append-drop, length-drop}
use Rattle.std.proofs.lemmas.Str.{IsCharBoundary-from_drop, IsUtf8-append, IsUtf8-drop}
use Rattle.json5_convert.specs.Sources.{IsCut, IsTextFront}

pub boundary : (text : List ℕ) (given : ℕ) (behind : Option (List ℕ)) (ended : Bool) → IsCut text given behind ended → IsCharBoundary text given
boundary text given behind ended c = IsCharBoundary-from_drop text given c.within c.is_text

pub more_given : (text : List ℕ) (given count : ℕ) (behind : Option (List ℕ)) (ended : Bool) → IsCut text given behind ended → IsCharBoundary (drop given text) count → IsCut text (given + count) behind ended
more_given text given count behind ended c (short, between) = record {
  within = let a = length-drop given text in let b = c.within in omega (arith, a, b, short);
  is_text = subst IsUtf8 (drop-drop count given text) (IsUtf8-drop (drop given text) count c.is_text (short, between));
  ends = c.ends;
}

none_behind : (xs ys : List ℕ) (known : Option (List ℕ)) → (xs ≡ [] → ys ≡ []) → IsAtEnd (prepend_known xs known) → IsAtEnd (prepend_known ys known)
none_behind xs ys None e h = tt
none_behind [] ys (Some r) e h = ap (λ z. z ++ r) (e refl) ∙ h
none_behind (x ∷ xs) ys (Some r) e h = absurd (cc)

none_left : (count : ℕ) (xs : List ℕ) → xs ≡ [] → drop count xs ≡ []
none_left zero xs e = e
none_left (suc n) [] e = refl
none_left (suc n) (x ∷ xs) e = absurd (cc)

more_text : (text front : List ℕ) (given : ℕ) (behind after : Option (List ℕ)) (ended : Bool) → IsUtf8 front → (IsAtEnd behind → IsAtEnd after) → IsCut text given behind ended → IsCut (text ++ front) given after ended
more_text text front given behind after ended u at_end c = record {
  within = let a = length-append text front in let b = c.within in omega (arith, a, b);
  is_text = subst IsUtf8 (sym (drop-append-le given text front c.within)) (IsUtf8-append (drop given text) front c.is_text u);
  ends = λ e. at_end (c.ends e);
}

-- text was moved from the front of the rest behind the text
module _ (text rest new front : List ℕ) (given count : ℕ) (known : Option (List ℕ)) (ended : Bool) (f : IsTextFront rest count) (c : IsCut text given (prepend_known rest known) ended) (is : front ≡ take count rest) (grown : new ≡ text ++ front) where
  utf8 : IsUtf8 front
  utf8 = subst IsUtf8 (sym is) f.is_text

  pub text_copied : (after : List ℕ) → after ≡ rest → IsCut new given (prepend_known after known) ended
  text_copied after e = subst (λ z. IsCut z given (prepend_known after known) ended) (sym grown) (more_text text front given _ _ ended utf8 (none_behind rest after known (λ h. e ∙ h)) c)

  pub text_moved : (after : List ℕ) → after ≡ drop count rest → IsCut new given (prepend_known after known) ended
  text_moved after e = subst (λ z. IsCut z given (prepend_known after known) ended) (sym grown) (more_text text front given _ _ ended utf8 (none_behind rest after known (λ h. e ∙ none_left count rest h)) c)

  joined : (after xs : List ℕ) → after ≡ drop count rest → drop given new ++ (after ++ xs) ≡ drop given text ++ (rest ++ xs)
  joined after xs e = ap (λ z. z ++ (after ++ xs)) (ap (drop given) grown ∙ drop-append-le given text front c.within)
      ∙ append_assoc (drop given text) front (after ++ xs)
      ∙ ap (λ z. drop given text ++ z) (sym (append_assoc front after xs) ∙ ap (λ z. z ++ xs) (ap (λ z. z ++ after) is ∙ ap (λ z. take count rest ++ z) e ∙ take-append-drop count rest))

  pub stream_kept : (after : List ℕ) → after ≡ drop count rest → prepend_known (drop given new) (prepend_known after known) ≡ prepend_known (drop given text) (prepend_known rest known)
  stream_kept after e = kept known
    where
      kept : (k : Option (List ℕ)) → prepend_known (drop given new) (prepend_known after k) ≡ prepend_known (drop given text) (prepend_known rest k)
      kept None = refl
      kept (Some xs) = ap Some (joined after xs e)
