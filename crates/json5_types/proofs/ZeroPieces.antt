-- Zeros in pieces, and digits that are cut.
use Rattle.std.proofs.Common.{◌≡◌, ℕ, ◌+◌, ◌-◌, ◌≤◌, List, ◌++◌, length, take, ap, sym, ◌∙◌, arith}
use Rattle.std.specs.Str.{IsCharBoundary}
use Rattle.std.proofs.Math.Seq.{take-append_seam}
use Rattle.std.proofs.lemmas.List.{replicate-append-replicate, length-replicate}
use Rattle.std.proofs.lemmas.Str.{IsCharBoundary-from_ascii}
use Rattle.json5_grammar.specs.Language.Characters.{is_digit, Each}
use Rattle.json5_grammar.specs.Written.NumberText.{zeros}
use Rattle.json5_types.proofs.AsciiRuns.{zero_is_ascii, digit_is_ascii, each_below}
use Rattle.json5_grammar.proofs.DecimalsWritten.{each_zero}

pub zeros_boundary : (s : List ℕ) (n i : ℕ) → s ≡ zeros n → i ≤ n → IsCharBoundary s i
zeros_boundary s n i e h = rw e (IsCharBoundary-from_ascii (zeros n) i (λ j. each_below zero_is_ascii (each_zero n) j) (omega (arith, length-replicate {A = ℕ} n 48)))

pub zeros_cut : (s : List ℕ) (n i : ℕ) → s ≡ zeros n → i ≤ n → take i s ≡ zeros i
zeros_cut s n i e h =
    let j : i + (n - i) ≡ n = omega arith in
    let k : zeros n ≡ zeros i ++ zeros (n - i) = ap zeros (sym j) ∙ sym (replicate-append-replicate i (n - i) 48) in
    let l : i ≡ length (zeros i) = sym (length-replicate {A = ℕ} i 48) in
    ap (take i) (e ∙ k) ∙ ap (λ m. take m (zeros i ++ zeros (n - i))) l ∙ take-append_seam (zeros i) (zeros (n - i))

pub digits_boundary : (s : List ℕ) (i : ℕ) → Each is_digit s → i ≤ length s → IsCharBoundary s i
digits_boundary s i e h = IsCharBoundary-from_ascii s i (λ j. each_below digit_is_ascii e j) h
