-- Open brackets, whose kinds and starts are apart.
use Rattle.std.proofs.Common.{◌≡◌, ℕ, ◌<◌, List, [], ◌∷◌, ◌++◌, length, refl, ap, ◌∙◌, arith, length-append}
use Rattle.json5_read.specs.declared.brackets.BracketKind.{BracketKind}
use Rattle.json5_read.specs.declared.brackets.OpenBracket.{OpenBracket}
use Rattle.json5_read.specs.Brackets.{brackets_in}

as_many : (ks : List BracketKind) (ss : List ℕ) → length ks ≡ length ss → length (brackets_in ks ss) ≡ length ks
as_many [] ss e = refl
as_many (k ∷ ks) [] e = absurd (omega (arith, e))
as_many (k ∷ ks) (s ∷ ss) e = let rest = as_many ks ss (omega (arith, e)) in omega (arith, rest)

-- there is room for one more
pub room_for_one : (ks : List BracketKind) (ss : List ℕ) (bs : List OpenBracket) → brackets_in ks ss ≡ bs → length ks ≡ length ss → length bs < 128 → (length ks < 128) × (length ss < 128)
room_for_one ks ss bs is e less = let n = as_many ks ss e in (omega (arith, n, ap length is, less), omega (arith, n, ap length is, e, less))

added_last : (ks : List BracketKind) (ss : List ℕ) (b : OpenBracket) → length ks ≡ length ss → brackets_in (ks ++ b.kind ∷ []) (ss ++ b.start ∷ []) ≡ brackets_in ks ss ++ b ∷ []
added_last [] [] b e = refl
added_last [] (t ∷ ss) b e = absurd (omega (arith, e))
added_last (a ∷ ks) [] b e = absurd (omega (arith, e))
added_last (a ∷ ks) (t ∷ ss) b e = ap (λ z. record { kind = a; start = t } ∷ z) (added_last ks ss b (omega (arith, e)))

-- the innermost apart
pub innermost_apart : (ks js : List BracketKind) (ss ts : List ℕ) (b : OpenBracket) → js ≡ ks ++ b.kind ∷ [] → ts ≡ ss ++ b.start ∷ [] → length js ≡ length ts → brackets_in js ts ≡ brackets_in ks ss ++ b ∷ []
innermost_apart ks js ss ts b k s e =
    ap (λ z. brackets_in z ts) k ∙ ap (brackets_in (ks ++ b.kind ∷ [])) s ∙ added_last ks ss b (omega (arith, e, ap length k, ap length s, length-append ks (b.kind ∷ []), length-append ss (b.start ∷ [])))
