-- What an array or an object goes on with after the gap in front, and that it goes on with nothing else.
use Rattle.std.proofs.Common.{◌≡◌, ℕ, true, List, [], ◌∷◌, ◌++◌, refl, ap, sym, ◌∙◌, subst, Option}
use Rattle.std.specs.Prelude.{◌==◌}
use Rattle.std.proofs.lemmas.Bool.{both_ways}
use Rattle.json5_grammar.specs.Language.Characters.{NotBegun}
use Rattle.json5_grammar.specs.Faults.Codes.{ErrorCode, Shown}
use Rattle.json5_grammar.specs.Language.Blanks.{Blanks, Gap, is_solid, Solid}
use Rattle.json5_grammar.specs.Faults.Tokens.{BlankFault}
use Rattle.json5_grammar.specs.Language.Trees.{Tree}
use Rattle.json5_grammar.specs.Language.Values.{Reads}
use Rattle.json5_grammar.specs.Model.Collections.{IsSign}
use Rattle.json5_grammar.proofs.CommonLemmas.{same_char}
use Rattle.json5_grammar.proofs.BlanksRead.{begins_solid}
use Rattle.json5_grammar.proofs.BlanksSound.{gap_blanks, no_blank_fault}
use Rattle.json5_grammar.proofs.ValueHeads.{val_head, value_solid}
use Rattle.json5_grammar.proofs.ArraysRead.{sign_found, reads_after}

-- ---- what goes on

-- a phrase after a gap
pub reads_here : (x w y r : List ℕ) (t : Tree) → x ≡ w ++ y → Gap w y → Reads y t r → Reads x t r
reads_here x w y r t e g p = subst (λ z. Reads z t r) (sym e) (reads_after w y r t (blanks_of y refl g) p)
  where
    head_of : (q : List ℕ) → [] ≡ p.front ++ (p.phrase ++ q) → ⊥
    head_of q e = none p.front p.phrase (val_head p.value).char (val_head p.value).more q (val_head p.value).is e
      where
        none : (v s : List ℕ) (c : ℕ) (m q : List ℕ) → s ≡ c ∷ m → [] ≡ v ++ (s ++ q) → ⊥
        none [] s c m q h e = let k : [] ≡ c ∷ (m ++ q) = e ∙ ap (λ z. z ++ q) h in absurd (cc)
        none (d ∷ v) s c m q h e = absurd (cc)

    blanks_of : (z : List ℕ) → y ≡ z → Gap w y → Blanks w
    blanks_of [] k g = absurd (head_of r (sym k ∙ p.split))
    blanks_of (c ∷ z) k g = gap_blanks c z (subst (λ q. Gap w q) k g)

-- ---- what doesn't

-- no sign goes on where the rest after the gap doesn't begin with it
pub no_sign : (sign : ℕ) (x w y r : List ℕ) → is_solid sign ≡ true → x ≡ w ++ y → Gap w y → Solid y → NotBegun (λ c. c == sign) y → IsSign sign x r → ⊥
no_sign sign x w y r h e g s n a =
    let begins : NotBegun (λ c. c == sign) (sign ∷ r) = subst (NotBegun (λ c. c == sign)) (sign_found sign x w y r h e g s a) n in
    both_ways (sign == sign) begins (same_char sign)

-- nor where a comment is at fault
pub no_sign_in_blanks : (sign : ℕ) (x b p r : List ℕ) (code : Option ErrorCode) (place : Option (List ℕ)) (shown : Shown) → is_solid sign ≡ true → BlankFault x code place b p shown → IsSign sign x r → ⊥
no_sign_in_blanks sign x b p r code place shown h f a =
    no_blank_fault (Gap.blanks a.blank) (begins_solid sign r h) (subst (λ z. BlankFault z code place b p shown) a.split f)

-- no phrase begins where a comment is at fault
pub no_reads_in_blanks : (x b p r : List ℕ) (t : Tree) (code : Option ErrorCode) (place : Option (List ℕ)) (shown : Shown) → BlankFault x code place b p shown → Reads x t r → ⊥
no_reads_in_blanks x b p r t code place shown f a =
    no_blank_fault (Gap.blanks a.blank) (value_solid r (val_head a.value)) (subst (λ z. BlankFault z code place b p shown) a.split f)
