-- A name is found by comparing its bytes.
use Rattle.std.proofs.Common.{◌≡◌, ◌∙◌, ℕ, ◌+◌, List, [], ◌∷◌, length, Some, None, not, refl, ap, sym}
use Rattle.std.proofs.lemmas.List.{length-map}
use Rattle.std.specs.Borrow.{Bor}
use Rattle.std.specs.Prelude.{cond, nat_lt}
use Rattle.std.specs.List.{position, prefix_len}
use Rattle.std.specs.Str.{bytes_eq}
use Rattle.json5_de.specs.Convert.{names_bytes}

others_before : (b : List ℕ) (names : List (Bor (List ℕ))) → prefix_len (λ n. not (bytes_eq n.now b)) names ≡ prefix_len (λ n. not (bytes_eq n b)) (names_bytes names)
others_before b [] = refl
others_before b (n ∷ names) = ap (λ k. cond (not (bytes_eq n.now b)) (1 + k) 0) (others_before b names)

-- the index of a name among these is its index among their bytes
pub place_spelled : (b : List ℕ) (names : List (Bor (List ℕ))) → position (λ n. bytes_eq n.now b) names ≡ position (λ n. bytes_eq n b) (names_bytes names)
place_spelled b names =
    ap (λ k. cond (nat_lt k (length names)) (Some k) None) (others_before b names)
    ∙ ap (λ k. cond (nat_lt (prefix_len (λ n. not (bytes_eq n b)) (names_bytes names)) k) (Some (prefix_len (λ n. not (bytes_eq n b)) (names_bytes names))) None) (sym (length-map names (λ n. n.now)))
