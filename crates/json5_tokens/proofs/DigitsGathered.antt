-- The digits of a literal that are gathered while it is read.
use Rattle.std.proofs.Common.{◌≡◌, ℕ, Bool, true, false, cond, List, [], ◌++◌, refl, ap, sym, subst, ◌∙◌, Option, Some, None}
use Rattle.std.specs.Prelude.{IfSome, IsSome, ◌↔◌, ℤ, pos, ◌+ℤ◌, ◌-◌, length, reverse}
use Rattle.std.proofs.lemmas.List.{append-nil, append_assoc}
use Rattle.json5_grammar.specs.Language.Numbers.{is_empty, finite, InExponents, without_front_zeros, without_zeros, normal_exponent, all_digits, digits_after}
use Rattle.json5_grammar.specs.Model.ReadNumbers.{Parts, is_integer, exponent_at, with_exponent, no_point, at_point}
use Rattle.json5_grammar.proofs.NormalForms.{front_twice}
use Rattle.json5_tokens.specs.declared.numbers.decimal_literals.DecimalLiteral.{DecimalLiteral}
use Rattle.json5_tokens.specs.NumberParts.{parts_of, digits_of, IsDecimalLiteral, ReadsDecimalLiteral, MeansFinite}
use Rattle.json5_tokens.proofs.DecimalLiteralValues.{Found, means_decimal}
use Rattle.json5_types.specs.DigitRuns.{Gathers}
use Rattle.json5_types.specs.NumberDecimals.{IsFiniteIfInRange, Normalizes}
use Rattle.json5_grammar.specs.Language.Numbers as numbers

pub if_read : (n : Option Parts) (x : List ℕ) (o : Option DecimalLiteral) → ReadsDecimalLiteral n x o → IfSome o (IsDecimalLiteral n x)
if_read n x None h = tt
if_read n x (Some l) h = h

digits_or : Option Parts → List ℕ
digits_or None = []
digits_or (Some p) = all_digits p.before p.after

-- the digits are those that were split off
parts_digits : (b : Bool) (i : List ℕ) (f : Option (List ℕ)) (w : Option (Option ℤ)) (p : Parts) → cond b (with_exponent i f w) None ≡ Some p → all_digits p.before p.after ≡ i ++ digits_after f
unfolding digits_or
parts_digits false i f w p e = cc
parts_digits true i f None p e = cc
parts_digits true i f (Some w) p e = ap digits_or (sym e)

gathers_same : {a b s t : List ℕ} → Gathers a b s → t ≡ s → Gathers a b t
gathers_same g e seen h = g seen h ∙ ap (λ z. without_front_zeros (seen ++ z)) (sym e)

gathers_on : {a b c s t : List ℕ} → Gathers a b s → Gathers b c t → Gathers a c (s ++ t)
gathers_on {s = s} {t = t} g k seen h = k (seen ++ s) (g seen h) ∙ ap without_front_zeros (append_assoc seen s t)

pub gathers_plain : {a b : List ℕ} (i x y : List ℕ) (o : Option DecimalLiteral) → Gathers a b i → ReadsDecimalLiteral (no_point i y) x o → IfSome o (λ l. Gathers a b (digits_of l))
gathers_plain i x y None g h = tt
gathers_plain i x y (Some l) g h = gathers_same g (parts_digits (is_integer i) i None (exponent_at y) (parts_of l) h.read ∙ append-nil i)

pub gathers_pointed : {a b c : List ℕ} (i f x y : List ℕ) (o : Option DecimalLiteral) → Gathers a b i → Gathers b c f → ReadsDecimalLiteral (at_point i f y) x o → IfSome o (λ l. Gathers a c (digits_of l))
gathers_pointed i f x y None g k h = tt
gathers_pointed i f x y (Some l) g k h = gathers_same (gathers_on g k) (parts_digits _ i (Some f) (exponent_at y) (parts_of l) h.read)

-- the zeros in front may be gone already
zeros_same : (s d : List ℕ) → d ≡ without_front_zeros s → without_zeros d ≡ without_zeros s
zeros_same s d g = ap without_zeros g ∙ ap (λ z. reverse (without_front_zeros (reverse z))) (front_twice s)

exponent_same : (s d : List ℕ) (e : ℤ) → d ≡ without_front_zeros s → normal_exponent d e ≡ normal_exponent s e
exponent_same s d e g =
    ap (λ z. normal_exponent z e) g
    ∙ ap (λ z. cond (is_empty (reverse (without_front_zeros (reverse z)))) (pos 0) (e +ℤ pos (length z - length (reverse (without_front_zeros (reverse z)))))) (front_twice s)

pub finite_same : (m : Bool) (s d : List ℕ) (e : ℤ) (o : Option numbers.Decimal) → d ≡ without_front_zeros s → IsFiniteIfInRange m d e o → IsFiniteIfInRange m s e o
finite_same m s d e o g h = record {
  in_range = subst (λ z. IsSome o ↔ InExponents z) (exponent_same s d e g) h.in_range;
  value = subst (λ z. IfSome o (λ x. x ≡ finite m z (normal_exponent s e))) (zeros_same s d g) (subst (λ z. IfSome o (λ x. x ≡ finite m (without_zeros d) z)) (exponent_same s d e g) h.value);
}

finite_normal : (m : Bool) (d new : List ℕ) (e x : ℤ) → Normalizes d e new (Some x) → IsFiniteIfInRange m d e (Some (finite m new x))
finite_normal m d new e x n = record { in_range = (λ _. n.in_range.0 refl, λ _. refl); value = ap (λ z. finite m z x) n.digits ∙ ap (finite m (without_zeros d)) n.value }

-- what the digits of a literal and its exponent mean
pub few_means : (l : DecimalLiteral) (after d new : List ℕ) (e : ℤ) (o : Option ℤ) → Found l after e → d ≡ without_front_zeros (l.before.now ++ after) → Normalizes d e new o → IfSome o (λ x. MeansFinite l new x)
few_means l after d new e None f g n = tt
few_means l after d new e (Some x) f g n = λ m w. means_decimal m l after e (Some (finite m new x)) f w (finite_same m (l.before.now ++ after) d e (Some (finite m new x)) g (finite_normal m d new e x n))
