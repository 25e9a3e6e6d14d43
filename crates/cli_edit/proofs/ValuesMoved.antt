-- A value that goes to another place.
use Rattle.std.proofs.Common.{◌≡◌, ℕ, ◌<◌, ◌+◌, zero, suc, List, [], ◌∷◌, ◌++◌, length, take, get_or, sym, subst, arith}
use Rattle.std.specs.declared.alloc.Global.{Global}
use Rattle.std.specs.Prelude.{String, string_bytes}
use Rattle.json5_edit.specs.Changes.{ChangesBy}
use Rattle.json5_edit.specs.declared.paths.Step.{Step}
use Rattle.json5_edit_values.specs.Patches.{Patches, Performs}
use Rattle.json5_edit_values.specs.declared.patch.operations.Operation.{Operation}
use Rattle.cli_edit.specs.Makes.{AreTokensOf, IsTokenOf}

tokens_grow : (i : ℕ) (ss : List Step) (d : Step) (ws : List (String Global)) (w : String Global) → i < length ss → AreTokensOf (take i ss) ws → IsTokenOf (get_or ss i d) (string_bytes w) → AreTokensOf (take (suc i) ss) (ws ++ (w ∷ []))
tokens_grow zero [] d ws w h a k = absurd (omega (arith, h))
tokens_grow zero (s ∷ ss) d [] w h a k = (k, tt)
tokens_grow zero (s ∷ ss) d (v ∷ ws) w h a k = absurd a
tokens_grow (suc i) [] d ws w h a k = absurd (omega (arith, h))
tokens_grow (suc i) (s ∷ ss) d [] w h a k = absurd a
tokens_grow (suc i) (s ∷ ss) d (v ∷ ws) w h (t, a) k = (t, tokens_grow i ss d ws w (omega (arith, h)) a k)

pub tokens_more : (i : ℕ) (ss : List Step) (d : Step) (ws all : List (String Global)) (w : String Global) → i < length ss → AreTokensOf (take i ss) ws → all ≡ ws ++ (w ∷ []) → IsTokenOf (get_or ss i d) (string_bytes w) → AreTokensOf (take (i + 1) ss) all
tokens_more i ss d ws all w h a e k =
    let next : i + 1 ≡ suc i = omega arith in
    rw (next, e) (tokens_grow i ss d ws w h a k)

pub one_operation : (o : Operation) (text made : List ℕ) → ChangesBy (Patches (o ∷ [])) text made → ChangesBy (Performs o) text made
one_operation o text made (t, u, d, e, (between, p, same)) = (t, u, d, e, subst (Performs o t) (sym same) p)
