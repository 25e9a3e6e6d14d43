-- How many digits a number below 1,000 has, and the copies that a writer of digits makes.
use Rattle.std.proofs.Common.{◌≡◌, ℕ, ◌+◌, ◌/◌, ◌^◌, ◌<◌, ◌≤◌, List, ◌++◌, length, take, drop, sym, ap, ◌∙◌, arith, append_assoc, length-append, length-take-le, length-drop, take_at, take-append-drop}
use Rattle.std.specs.Fmt.{decimal}
use Rattle.std.proofs.lemmas.Fmt.{decimal_digit, decimal_step, length-decimal-le}
use Rattle.json5_write.specs.Copies.{Copied}

pub length_one : (n : ℕ) → n < 10 → 1 ≡ length (decimal n)
length_one n h = sym (ap length (decimal_digit n h))

length_step : (n : ℕ) → 10 ≤ n → n < 2 ^ 64 → length (decimal n) ≡ length (decimal (n / 10)) + 1
length_step n low high = ap length (decimal_step n low high) ∙ length-append _ _

pub length_two : (n : ℕ) → 10 ≤ n → n < 100 → 2 ≡ length (decimal n)
length_two n low high = omega (arith, length_step n low (omega arith), length_one (n / 10) (omega arith))

pub length_three : (n : ℕ) → 100 ≤ n → n < 1000 → 3 ≡ length (decimal n)
length_three n low high = omega (arith, length_step n (omega arith) (omega arith), length_two (n / 10) (omega arith) (omega arith))

-- a writer of digits keeps what is before them and after them
pub Copied-digits : {old new digits : List ℕ} {at end : ℕ} (start : ℕ) → end ≡ at + length digits → end ≤ length old
    → start + length digits ≡ end → drop start new ≡ digits ++ drop end old → take start new ≡ take start old → Copied old new at digits end
Copied-digits {old} {new} {digits} {at} {end} start moved within from written before =
    let here : start ≡ at = omega arith in
    let back = rw here at written in
    let kept = rw here at before in
    let whole : new ≡ (take at old ++ digits) ++ drop end old =
    sym (take-append-drop at new) ∙ (λ k. kept k ++ back k) ∙ sym (append_assoc (take at old) digits (drop end old)) in
    let front : length (take at old ++ digits) ≡ end = length-append (take at old) digits ∙ omega (arith, length-take-le at old (omega arith)) in
    let same : length new ≡ length old = ap length whole ∙ length-append (take at old ++ digits) (drop end old) ∙ omega (arith, front, length-drop end old) in
    record { front = ap (take end) whole ∙ take_at (take at old ++ digits) (drop end old) end front; moved = moved; len = same }

pub length_few : (n : ℕ) → n < 1000 → length (decimal n) ≤ 3
length_few n h = length-decimal-le 3 n (omega arith) h (omega arith)
