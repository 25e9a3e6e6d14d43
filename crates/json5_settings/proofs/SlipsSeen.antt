-- Escapes that are seen in a spelling.
use Rattle.std.proofs.Common.{◌≡◌, ◌∙◌, ◌++◌, ◌∷◌, [], ℕ, Bool, true, false, ◌==◌, ◌&&◌, not, List, refl, ap, sym, subst, append_assoc, IsUtf8}
use Rattle.std.specs.Prelude.{Result, Ok, Err, IfOk}
use Rattle.std.specs.Char.{encode_utf8}
use Rattle.std.specs.Str.{chars}
use Rattle.std.proofs.lemmas.Str.{IsUtf8-past_char, chars_past_char}
use Rattle.json5_grammar.proofs.CommonLemmas.{eq_from}
use Rattle.json5_grammar.specs.Language.Characters.{backslash}
use Rattle.json5_settings.specs.Slips.{AllPaired, HasIdleEscape, escape, is_idle, none, other}

-- what was passed: pairs, and perhaps one backslash more
abbrev pub Half : Bool → List ℕ → Type 0
Half false done = AllPaired done
Half true done = (pairs : List ℕ) × (done ≡ pairs ++ backslash ∷ []) × AllPaired pairs

pub record Scanned (escaped : Bool) (all rest : List ℕ) : Type 0 where
  pub utf8 : IsUtf8 rest
  pub done : List ℕ
  pub split : chars all ≡ done ++ chars rest
  pub half : Half escaped done

pub scan_none : (all rest : List ℕ) → IsUtf8 all → rest ≡ all → Scanned false all rest
scan_none all rest utf8 e = record { utf8 = subst IsUtf8 (sym e) utf8; done = []; split = ap chars (sym e); half = none }

half_more : (escaped : Bool) (done : List ℕ) (c : ℕ) → Half escaped done → Half (not escaped && (c == backslash)) (done ++ c ∷ [])
half_more true done c (pairs, is, paired) = subst AllPaired (sym (ap (λ z. z ++ c ∷ []) is ∙ append_assoc pairs (backslash ∷ []) (c ∷ []))) (escape c paired)
half_more false done c paired = go (c == backslash) refl
  where
    go : (b : Bool) → (c == backslash) ≡ b → Half b (done ++ c ∷ [])
    go true e = (done, ap (λ z. done ++ z ∷ []) (eq_from c backslash e), paired)
    go false e = other c paired (λ is. let h : true ≡ false = sym (ap (λ z. z == backslash) is) ∙ e in absurd (cc))

pub scan_more : (escaped now : Bool) (all rest next : List ℕ) (c : ℕ) → rest ≡ encode_utf8 c ++ next → now ≡ (not escaped && (c == backslash)) → Scanned escaped all rest → Scanned now all next
scan_more escaped now all rest next c split is s = record {
  utf8 = IsUtf8-past_char rest next c s.utf8 split;
  done = s.done ++ c ∷ [];
  split = s.split ∙ ap (λ z. s.done ++ z) (chars_past_char rest next c s.utf8 split) ∙ sym (append_assoc s.done (c ∷ []) (chars next));
  half = subst (λ b. Half b (s.done ++ c ∷ [])) (sym is) (half_more escaped s.done c s.half);
}

pub idle_seen : (escaped : Bool) (all rest next : List ℕ) (c : ℕ) → rest ≡ encode_utf8 c ++ next → escaped ≡ true → is_idle c ≡ true → Scanned escaped all rest → HasIdleEscape (chars all)
idle_seen escaped all rest next c split on idle s = seen (subst (λ b. Half b s.done) on s.half)
  where
    seen : Half true s.done → HasIdleEscape (chars all)
    seen (pairs, is, paired) = (pairs, c, chars next, s.split ∙ ap (λ z. z ++ chars rest) is ∙ ap (λ z. (pairs ++ backslash ∷ []) ++ z) (chars_past_char rest next c s.utf8 split) ∙ append_assoc pairs (backslash ∷ []) (c ∷ chars next), paired, idle)

-- what holds of a result's value, and what follows from it
pub if_ok_then : {T E : Type 0} {A B : T → Type 0} (r : Result T E) → IfOk r A → ((t : T) → A t → B t) → IfOk r B
if_ok_then (Ok t) a next = next t a
if_ok_then (Err e) a next = tt
