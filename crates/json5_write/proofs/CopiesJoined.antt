-- Copies to places of one row, one after another.
use Rattle.std.proofs.Common.{◌≡◌, ℕ, ◌+◌, ◌-◌, ◌≤◌, List, ◌++◌, length, take, drop, refl, ap, sym, ◌∙◌, subst, arith, append_assoc, length-append, length-take-le, length-drop, take-add, take-take, take_at, drop_at, take_all, take-append-drop}
use lib.Lanes.{put_chunk}
use Rattle.std.proofs.lemmas.Simd.{take_more_put_chunk, length-put_chunk}
use Rattle.json5_write.specs.Copies.{Copied}

-- a chunk that is put into the row
pub chunk_copied : (n at : ℕ) (row text : List ℕ) → n ≤ length text → at + n ≤ length row → Copied row (put_chunk at row (take n text)) at (take n text) (at + n)
chunk_copied n at row text few fits =
    let long : length (take n text) ≡ n = length-take-le n text few in
    record { front = take_more_put_chunk at row (take n text) _ (omega arith) fits; moved = omega arith; len = length-put_chunk at row (take n text) }

-- a second copy begins where the first ended
pub Copied-then : {a b c xs ys : List ℕ} {i j k : ℕ} → Copied a b i xs j → Copied b c j ys k → Copied a c i (xs ++ ys) k
Copied-then {a} {b} {c} {xs} {ys} {i} p q = record {
  front = q.front ∙ ap (λ l. l ++ ys) p.front ∙ append_assoc (take i a) xs ys;
  moved = omega (arith, p.moved, q.moved, length-append xs ys);
  len = q.len ∙ p.len;
}

-- only the first n bytes of a copy count
Copied-less : {a b xs : List ℕ} {i j : ℕ} (n : ℕ) → i ≤ length a → n ≤ length xs → Copied a b i xs j → Copied a b i (take n xs) (i + n)
Copied-less {a} {b} {xs} {i} {j} n within few p =
    let front = length-take-le i a within in
    record {
      front = sym (take-take (i + n) j b (omega (arith, p.moved))) ∙ ap (take (i + n)) p.front ∙ take-add i n (take i a ++ xs)
          ∙ (λ k. take_at (take i a) xs i front k ++ take n (drop_at (take i a) xs i front k));
      moved = omega (arith, length-take-le n xs few);
      len = p.len;
    }

-- the first and the last `half` bytes, laid over each other, are all of them
pub Copied-ends : {a b c : List ℕ} {i j k : ℕ} (text : List ℕ) (half : ℕ) → i ≤ length a → half ≤ length text → length text ≤ half + half
    → Copied a b i (take half text) j → Copied b c (i + (length text - half)) (take half (drop (length text - half) text)) k → Copied a c i text (i + length text)
Copied-ends {a} {b} {c} {i} {j} {k} text half within fits covers p q =
    let last = length text - half in
    let both = Copied-then (Copied-less last within (omega (arith, length-take-le half text fits)) p) q in
    let whole : take last (take half text) ++ take half (drop last text) ≡ text =
    (λ x. take-take last half text (omega arith) x ++ take_all half (drop last text) (omega (arith, length-drop last text)) x) ∙ take-append-drop last text in
    let end : k ≡ i + length text = both.moved ∙ ap (λ l. i + length l) whole in
    record { front = ap (λ m. take m c) (sym end) ∙ (both.front ∙ ap (λ l. take i a ++ l) whole); moved = refl; len = both.len }

-- the same end
pub Copied-at : {a b xs : List ℕ} {i j : ℕ} (k : ℕ) → j ≡ k → Copied a b i xs j → Copied a b i xs k
Copied-at {a} {b} {xs} {i} k e p = subst (λ end. Copied a b i xs end) e p
