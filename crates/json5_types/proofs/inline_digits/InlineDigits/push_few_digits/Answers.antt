use Rattle.std.proofs.Common.{◌≡◌, ◌∙◌, ◌+◌, ◌-◌, ◌≤◌, ◌++◌, false, length, take, sym, ap, subst, arith}
use Rattle.std.specs.Prelude.{◌==◌, get_or}
use Rattle.std.specs.List.{prefix_len}
use borrow.Rule.Slice.PartMut.{put_mid}
use lib.Count.{count_trailing_zeros}
use Rattle.std.proofs.lemmas.List.{length-take-le, take-take}
use Rattle.json5_grammar.specs.Language.Characters.{is_digit, Each}
use Rattle.json5_grammar.proofs.CharacterTests.{Each-append, front_each}
use Rattle.json5_types.specs.DigitRuns.{is_no_digit}
use Rattle.json5_types.proofs.AsciiRuns.{counted, front_cut}
use Rattle.json5_types.proofs.ByteSearch.{run_stops, run_within, digit_or_none}
use Rattle.json5_types.proofs.GatheredDigits.{gathers_solid, first_taken}
use Rattle.json5_types.proofs.InlineDigits.{copied_few}
use Rattle.json5_types.proofs.inline_digits.InlineDigits.push_few_digits.Goals as goal
use Rattle.json5_types.proofs.inline_digits.InlineDigits.push_few_digits.Goals.{then-len-eq0, else-len-eq0}

all : (c : goal.After-self-1) → count_trailing_zeros 64 c.no_digits-found.result ≡ prefix_len is_digit c.args.bytes.now
all c = ap (count_trailing_zeros 64) c.no_digits-found.ensures ∙ sym (run_stops is_no_digit is_digit digit_or_none c.args.bytes.now 0 16 (omega arith) (omega arith) (omega (arith, c.no_digits-found.ensures)))

few : (c : goal.After-self-1) → count_trailing_zeros 64 c.no_digits-found.result ≤ 16
few c = subst (λ m. count_trailing_zeros 64 m ≤ 16) (sym c.no_digits-found.ensures) (run_within is_no_digit is_digit digit_or_none c.args.bytes.now 0 16 (omega arith) (omega arith) (omega (arith, c.no_digits-found.ensures)))

copied : (c : goal.After-self-1) → take (c.from-len.result + count_trailing_zeros 64 c.no_digits-found.result) (put_mid c.from-len.result (c.from-len.result + 16 - c.from-len.result) c.self.inside.bytes c.copy_from_slice.new.self)
    ≡ take c.self.inside.len c.self.inside.bytes ++ take (count_trailing_zeros 64 c.no_digits-found.result) c.args.bytes.now
copied c =
    let n = count_trailing_zeros 64 c.no_digits-found.result in
    let k = length-take-le 16 c.args.bytes.now (omega arith) in
    copied_few c.self.inside.bytes c.copy_from_slice.new.self c.from-len.result n (omega (arith, c.from-len.ensures)) (ap length c.copy_from_slice.ensures.after ∙ k) (few c)
    ∙ ap (λ m. take m c.self.inside.bytes ++ take n c.copy_from_slice.new.self) c.from-len.ensures
    ∙ ap (λ y. take c.self.inside.len c.self.inside.bytes ++ y) (ap (take n) c.copy_from_slice.ensures.after ∙ take-take n 16 c.args.bytes.now (few c))

pub invariant_of-self : goal.invariant_of-self
invariant_of-self c =
    let each : Each is_digit (take (count_trailing_zeros 64 c.no_digits-found.result) c.args.bytes.now) = rw (front_cut is_digit c.args.bytes.now _ (counted is_digit c.args.bytes.now _ (all c))) (front_each is_digit c.args.bytes.now) in (
      omega (arith, c.from-len.ensures, c.if-len-gt3.false, few c),
      rw (copied c) (Each-append c.self.invariant.1 each),
    )

solid : (c : goal.After-self-1) → length c.args.self.now ≡ 0 → (get_or c.args.bytes.now 0 0 == 48) ≡ false
solid c none =
    let n = length-take-le c.self.inside.len c.self.inside.bytes (omega (arith, c.self.invariant.0)) in
    elim c.if-len-eq0.branch [
      | then-len-eq0 w ↦ sym w.value-is ∙ c.if-bytes-eq48.false
      | else-len-eq0 w ↦ absurd (omega (arith, none, n, ap length c.self.view_is, w.if-len-eq0.false, c.from-len.ensures))
    ]

pub returns : goal.returns
returns c = record {
  all = all c;
  gathered = λ seen e.
      copied c ∙ ap (λ z. z ++ take (count_trailing_zeros 64 c.no_digits-found.result) c.args.bytes.now) c.self.view_is
      ∙ gathers_solid c.args.self.now (take (count_trailing_zeros 64 c.no_digits-found.result) c.args.bytes.now) (λ none. first_taken _ c.args.bytes.now (solid c none)) seen e;
}
