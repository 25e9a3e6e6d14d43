-- What a writer holds after several strings were written in turn.
use Rattle.std.proofs.Common.{◌≡◌, ℕ, ◌+◌, ◌<◌, List, [], ◌∷◌, ◌++◌, length, take, drop, get_or, Option, Result, Ok, Err, true, false, refl, sym, ap, ◌∙◌, append_assoc, append-nil, take-append-drop}
use Rattle.std.specs.Result.{is_err}
use Rattle.std.specs.Borrow.{Bor}
use Rattle.std.specs.Io.KnownBytes.{Appends}
use Rattle.std.proofs.KnownBytes.{Appends-trans}
use Rattle.std.proofs.lemmas.List.{take_more}
use Rattle.json5_write.specs.Pieces.{Pushes}
use Rattle.cli_files.specs.JoinedTexts.{joined_texts}

-- ---- strings in a row

joined_texts-append : (ts us : List (Bor (List ℕ))) → joined_texts (ts ++ us) ≡ joined_texts ts ++ joined_texts us
joined_texts-append [] us = refl
joined_texts-append (t ∷ ts) us = ap (λ l. t.now ++ l) (joined_texts-append ts us) ∙ sym (append_assoc t.now (joined_texts ts) (joined_texts us))

pub joined_more : (ts : List (Bor (List ℕ))) (i : ℕ) (d : Bor (List ℕ)) → i < length ts → joined_texts (take (i + 1) ts) ≡ joined_texts (take i ts) ++ (get_or ts i d).now
joined_more ts i d h = ap joined_texts (take_more ts i d h) ∙ joined_texts-append (take i ts) (get_or ts i d ∷ []) ∙ ap (λ l. joined_texts (take i ts) ++ l) (append-nil (get_or ts i d).now)

pub joined_split : (ts : List (Bor (List ℕ))) (i : ℕ) → joined_texts ts ≡ joined_texts (take i ts) ++ joined_texts (drop i ts)
joined_split ts i = ap joined_texts (sym (take-append-drop i ts)) ∙ joined_texts-append (take i ts) (drop i ts)

-- ---- what a writer holds then

pub pushed_all : {A E : Type 0} (old mid new : Option (List ℕ)) (a b : List ℕ) (result : Result A E) → is_err result ≡ false → Appends old mid a → Pushes mid new b result → Appends old new (a ++ b)
pushed_all old mid new a b (Ok x) h p q = Appends-trans _ _ _ _ _ p q
pushed_all old mid new a b (Err e) h p q = cc

pub pushed_part : {A E : Type 0} (old mid new : Option (List ℕ)) (a b all rest : List ℕ) (result : Result A E) → is_err result ≡ true → all ≡ (a ++ b) ++ rest → Appends old mid a → Pushes mid new b result → Pushes old new all result
pushed_part old mid new a b all rest (Ok x) h e p q = cc
pushed_part old mid new a b all rest (Err x) h e p q =
    (a ++ q.0, q.1 ++ rest, e ∙ ap (λ l. (a ++ l) ++ rest) q.2 ∙ ap (λ l. l ++ rest) (sym (append_assoc a q.0 q.1)) ∙ append_assoc (a ++ q.0) q.1 rest, Appends-trans _ _ _ _ _ p q.3)

-- a piece, and then another one

pub front_pushed : {A E : Type 0} (old new : Option (List ℕ)) (a rest : List ℕ) (result : Result A E) → is_err result ≡ true → Pushes old new a result → Pushes old new (a ++ rest) result
front_pushed old new a rest (Ok x) h p = cc
front_pushed old new a rest (Err e) h p = (p.0, p.1 ++ rest, ap (λ l. l ++ rest) p.2 ∙ append_assoc p.0 p.1 rest, p.3)

pub both_pushed : {A B E F : Type 0} (old mid new : Option (List ℕ)) (a b : List ℕ) (first : Result A E) (second : Result B F) → is_err first ≡ false → Pushes old mid a first → Pushes mid new b second → Pushes old new (a ++ b) second
both_pushed old mid new a b (Ok x) (Ok y) h p q = Appends-trans _ _ _ _ _ p q
both_pushed old mid new a b (Ok x) (Err e) h p q = (a ++ q.0, q.1, ap (λ l. a ++ l) q.2 ∙ sym (append_assoc a q.0 q.1), Appends-trans _ _ _ _ _ p q.3)
both_pushed old mid new a b (Err e) second h p q = cc
