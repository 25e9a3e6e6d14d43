-- The opening of a variant's object, and of what the variant holds.
use Rattle.std.proofs.Common.{◌≡◌, ℕ, ◌+◌, List, [], ◌∷◌, Result, ◌∙◌, subst}
use Rattle.std.specs.Result.{IsErrAnd}
use Rattle.json5_types.specs.declared.error.Error.{Error}
use Rattle.json5_grammar.specs.Language.Characters.{colon_sign, space, left_brace}
use Rattle.json5_write.specs.WrittenTrees.{named}
use Rattle.json5_write.specs.Out.{piece, ◌then◌, opened_by, key_part, variant_opening}
use Rattle.json5_write.specs.Writes.{SerializerState, Wrote, RefusesWrite, Writes, at_depth}
use Rattle.json5_write.proofs.OutputsJoined.{Reaches, Reaches-first, Reaches-next, Reaches-exit, Reaches-last}
use Rattle.json5_ser.proofs.RemainingOutput.{Wrote-at, Refuses-at, Writes-at}

pub before_key : (u : List ℕ) (sign : ℕ) (o m : SerializerState) → Wrote (opened_by o.limit o.depth left_brace) o (at_depth o.depth m)
    → Reaches (variant_opening o.limit u sign o.depth) o (at_depth o.depth m) (key_part (o.depth + 1) (named u) then (piece (colon_sign ∷ space ∷ []) then opened_by o.limit (o.depth + 1) sign))
before_key u sign o m p = Reaches-first (opened_by o.limit o.depth left_brace) (key_part (o.depth + 1) (named u) then (piece (colon_sign ∷ space ∷ []) then opened_by o.limit (o.depth + 1) sign)) o (at_depth o.depth m) p

key_at : (u : List ℕ) (d : ℕ) (m n : SerializerState) → m.depth ≡ d + 1 → Wrote (key_part m.depth (named u)) m n → Wrote (key_part (d + 1) (named u)) (at_depth d m) (at_depth d n)
key_at u d m n e p = Wrote-at d (key_part (d + 1) (named u)) m n (subst (λ k. Wrote (key_part k (named u)) m n) e p)

pub key_refused : {A : Type 0} (u : List ℕ) (sign : ℕ) (o m n : SerializerState) (e : Error) (r : Result A Error) → Wrote (opened_by o.limit o.depth left_brace) o (at_depth o.depth m) → m.depth ≡ o.depth + 1
    → RefusesWrite (key_part m.depth (named u)) m e n → IsErrAnd r (λ y. y ≡ e) → Writes (variant_opening o.limit u sign o.depth) o r (at_depth o.depth n)
key_refused u sign o m n e r p deeper q is =
    let d = o.depth in
    let k = key_part (d + 1) (named u) in
    Reaches-exit (variant_opening o.limit u sign d) k (piece (colon_sign ∷ space ∷ []) then opened_by o.limit (d + 1) sign) o (at_depth d m) (at_depth d n) e r (before_key u sign o m p) is
    (Refuses-at d d k m n e (subst (λ j. RefusesWrite (key_part j (named u)) m e n) deeper q))

pub before_colon : (u : List ℕ) (sign : ℕ) (o m n : SerializerState) → Wrote (opened_by o.limit o.depth left_brace) o (at_depth o.depth m) → m.depth ≡ o.depth + 1 → Wrote (key_part m.depth (named u)) m n
    → Reaches (variant_opening o.limit u sign o.depth) o (at_depth o.depth n) (piece (colon_sign ∷ space ∷ []) then opened_by o.limit (o.depth + 1) sign)
before_colon u sign o m n p deeper q =
    let d = o.depth in
    Reaches-next (variant_opening o.limit u sign d) (key_part (d + 1) (named u)) (piece (colon_sign ∷ space ∷ []) then opened_by o.limit (d + 1) sign) o (at_depth d m) (at_depth d n) (before_key u sign o m p) (key_at u d m n deeper q)

pub colon_refused : {A : Type 0} (u : List ℕ) (sign : ℕ) (o m n k : SerializerState) (e : Error) (r : Result A Error) → Wrote (opened_by o.limit o.depth left_brace) o (at_depth o.depth m) → m.depth ≡ o.depth + 1
    → Wrote (key_part m.depth (named u)) m n → RefusesWrite (piece (colon_sign ∷ space ∷ [])) n e k → IsErrAnd r (λ y. y ≡ e) → Writes (variant_opening o.limit u sign o.depth) o r (at_depth o.depth k)
colon_refused u sign o m n k e r p deeper q w is =
    let d = o.depth in
    Reaches-exit (variant_opening o.limit u sign d) (piece (colon_sign ∷ space ∷ [])) (opened_by o.limit (d + 1) sign) o (at_depth d n) (at_depth d k) e r (before_colon u sign o m n p deeper q) is
    (Refuses-at d d (piece (colon_sign ∷ space ∷ [])) n k e w)

bracket_at : {A : Type 0} (sign d e l : ℕ) (k j : SerializerState) (r : Result A Error) → e ≡ d + 1 → k.depth ≡ e → k.limit ≡ l → Writes (opened_by k.limit k.depth sign) k r (at_depth k.depth j) → Writes (opened_by l (d + 1) sign) (at_depth d k) r (at_depth d j)
bracket_at sign d e l k j r same is limit w =
    Writes-at d (opened_by l (d + 1) sign) k (at_depth k.depth j) r (subst (λ m. Writes (opened_by m (d + 1) sign) k r (at_depth k.depth j)) limit (subst (λ i. Writes (opened_by k.limit i sign) k r (at_depth k.depth j)) (is ∙ same) w))

pub variant_opened : {A : Type 0} (u : List ℕ) (sign : ℕ) (o m n k j : SerializerState) (r : Result A Error) → Wrote (opened_by o.limit o.depth left_brace) o (at_depth o.depth m) → m.depth ≡ o.depth + 1
    → Wrote (key_part m.depth (named u)) m n → Wrote (piece (colon_sign ∷ space ∷ [])) n k → Writes (opened_by k.limit k.depth sign) k r (at_depth k.depth j) → Writes (variant_opening o.limit u sign o.depth) o r (at_depth o.depth j)
variant_opened u sign o m n k j r p deeper q c w =
    let d = o.depth in
    Reaches-last (variant_opening o.limit u sign d) (opened_by o.limit (d + 1) sign) o (at_depth d k) (at_depth d j) r
    (Reaches-next (variant_opening o.limit u sign d) (piece (colon_sign ∷ space ∷ [])) (opened_by o.limit (d + 1) sign) o (at_depth d n) (at_depth d k) (before_colon u sign o m n p deeper q) (Wrote-at d (piece (colon_sign ∷ space ∷ [])) n k c))
    (bracket_at sign d m.depth o.limit k j r deeper (c.depth ∙ q.depth) (c.limit ∙ (q.limit ∙ p.limit)) w)
