-- The first piece of a spelling that is made of parts.
use Rattle.std.proofs.Common.{◌≡◌, ℕ, ◌+◌, ◌-◌, ◌<◌, ◌≤◌, List, [], ◌∷◌, ◌++◌, length, ap, sym, ◌∙◌, arith, append_assoc}
use Rattle.std.proofs.lemmas.List.{replicate-append-replicate, length-replicate}
use Rattle.json5_grammar.specs.Written.NumberText.{zeros}
use Rattle.json5_types.specs.DecimalPieces.{BeginsWithPiece}

-- after a part that is empty
pub front_after : (s text piece rest : List ℕ) → length s ≡ 0 → BeginsWithPiece text piece rest → BeginsWithPiece (s ++ text) piece (s ++ rest)
front_after [] text piece rest e f = f
front_after (c ∷ s) text piece rest e f = absurd (omega arith)

pub front_of_zeros : (n k : ℕ) (piece rest : List ℕ) → piece ≡ zeros k → 0 < k → k ≤ n → BeginsWithPiece (zeros n ++ rest) piece (zeros (n - k) ++ rest)
front_of_zeros n k piece rest e some less =
    let s : k + (n - k) ≡ n = omega arith in
    let parts : zeros n ≡ zeros k ++ zeros (n - k) = ap zeros (sym s) ∙ sym (replicate-append-replicate k (n - k) 48) in
    rw e (record { parts = ap (λ z. z ++ rest) parts ∙ append_assoc (zeros k) (zeros (n - k)) rest; some = omega (arith, length-replicate {A = ℕ} k 48) })
