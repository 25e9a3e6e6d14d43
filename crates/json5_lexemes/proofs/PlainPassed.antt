-- A lexeme was passed, and what is left is plain exactly where the text is.
use denote.Ref.{Bor}
use Rattle.std.proofs.Common.{◌≡◌, ◌≢◌, ◌<◌, ◌≤◌, ℕ, Bool, true, false, inl, inr, Option, Some, None, List, [], ◌∷◌, ◌++◌, length, length-append, refl, sym, ap, ◌∙◌, subst, append_assoc, arith}
use Rattle.std.specs.Prelude.{◌==◌, ◌↔◌}
use Rattle.std.specs.Str.{chars}
use Rattle.std.proofs.lemmas.Bool.{both_ways}
use Rattle.std.proofs.lemmas.Bool.Decides.{nat_tests}
use Rattle.json5_grammar.specs.Language.Characters.{NotBegun, Each, no_char, char}
use Rattle.json5_styles.specs.Json.{is_json_blank, quoted, JsonNumber}
use Rattle.json5_tokens.specs.Scan.{SkipsAll}
use Rattle.json5_lexemes.specs.SameLexemes.{is_word_part}
use Rattle.json5_lexemes.specs.Plain.{Plain, is_opening, is_closing, JsonWord}
use Rattle.json5_lexemes.specs.Plain as plain
use Rattle.json5_lexemes.specs.PlainSteps.{begins_number, TakesString, TakesWord, TakesComment, LeavesWith, PassesSign, PassesComment, PassesLexeme, StaysPassed, Then}
use Rattle.json5_lexemes.specs.declared.plain.Last.{Last}
use Rattle.json5_lexemes.specs.declared.plain.Last.TheVariants as last
use Rattle.json5_lexemes.proofs.PlainTakes.{leaves_with_by}
use Rattle.json5_lexemes.proofs.PlainWords.{number_alone, number_no_letter}
use Rattle.json5_lexemes.proofs.PlainTokens.{Asks, asked, WordThen, CommentThen, plain_quote, plain_slash, plain_open, plain_close, plain_comma, plain_colon, no_empty_word}

-- ---- blanks

blanks_plain : {k : Bool} {l : Last} (w r : List ℕ) → Each is_json_blank w → Plain k l (w ++ r) ↔ Plain k l r
blanks_plain [] r no_char = (λ p. p, λ p. p)
blanks_plain {k = k} {l = l} (c ∷ w) r (char h e) =
    let a = blanks_plain {k = k} {l = l} w r e in
    (λ p. a.0 (past p), λ p. plain.blank h (a.1 p))
  where
    past : Plain k l (c ∷ (w ++ r)) → Plain k l (w ++ r)
    past p = let q : Asks k l c (w ++ r) = asked c (w ++ r) p refl in rw h at q

pub skipped_plain : (k : Bool) (l : Last) (x y : List ℕ) → SkipsAll is_json_blank x y → Plain k l (chars x) ↔ Plain k l (chars y)
skipped_plain k l x y s = subst (λ z. Plain k l z ↔ Plain k l (chars y)) (sym s.split) (blanks_plain s.passed (chars y) s.each)

pub skipped_less : {p : ℕ → Bool} (x y : List ℕ) → SkipsAll p x y → length (chars y) ≤ length (chars x)
skipped_less x y s = let k = ap length s.split ∙ length-append s.passed (chars y) in omega (arith, k)

-- ---- what may follow each first character

module _ (k : Bool) (l : Last) (text after : List ℕ) (c : ℕ) (f : chars text ≡ c ∷ chars after) where
  front_less : length (chars after) < length (chars text)
  front_less = let n = ap length f in omega (arith, n)

  front_plain : Plain k l (chars text) → Plain k l (c ∷ chars after)
  front_plain p = subst (Plain k l) f p

  plain_front : Plain k l (c ∷ chars after) → Plain k l (chars text)
  plain_front p = subst (Plain k l) (sym f) p

  pub opening_passed : is_opening c ≡ true → (Plain k l (chars text) ↔ Plain k last.Sign (chars after)) × (length (chars after) < length (chars text))
  opening_passed h = ((λ p. plain_open c h (front_plain p), λ p. plain_front (plain.opens h p)), front_less)

  pub comma_passed : c ≡ 44 → (Plain k l (chars text) ↔ Plain k last.Comma (chars after)) × (length (chars after) < length (chars text))
  comma_passed h = ((λ p. plain_comma (subst (λ z. Plain k l (z ∷ chars after)) h (front_plain p)), λ p. plain_front (subst (λ z. Plain k l (z ∷ chars after)) (sym h) (plain.comma p))), front_less)

  pub blank_passed : is_json_blank c ≡ true → (Plain k l (chars text) ↔ Plain k l (chars after)) × (length (chars after) < length (chars text))
  blank_passed h =
      let a = blanks_plain {k = k} {l = l} (c ∷ []) (chars after) (char h no_char) in
      ((λ p. a.0 (front_plain p), λ p. plain_front (a.1 p)), front_less)

  pub blanks_passed : is_json_blank c ≡ true → (rest : List ℕ) → SkipsAll is_json_blank text rest → (Plain k l (chars text) ↔ Plain k l (chars rest)) × (length (chars rest) < length (chars text))
  blanks_passed h rest s = (skipped_plain k l text rest s, shorter s.passed s.split)
    where
      shorter : (w : List ℕ) → chars text ≡ w ++ chars rest → length (chars rest) < length (chars text)
      shorter [] e = absurd (both_ways (is_json_blank c) (subst (NotBegun is_json_blank) (sym e ∙ f) s.stops) h)
      shorter (d ∷ w) e = let n = ap length e ∙ length-append (d ∷ w) (chars rest) in omega (arith, n)

  sign_passed : (May : Type 0) → (Plain k l (c ∷ chars after) → May × Plain k last.Sign (chars after)) → (May → Plain k last.Sign (chars after) → Plain k l (c ∷ chars after)) → (result : Option (Last × Bor (List ℕ)))
      → PassesSign May after result → PassesLexeme k l text result
  sign_passed May there back None n = λ p. n (there (front_plain p)).0
  sign_passed May there back (Some p) (may, is, same) = (
    (
      λ q. subst (λ z. Plain k z (chars p.1.now)) (sym is) (subst (λ z. Plain k last.Sign (chars z)) (sym same) (there (front_plain q)).1),
      λ q. plain_front (back may (subst (λ z. Plain k last.Sign (chars z)) same (subst (λ z. Plain k z (chars p.1.now)) is q))),
    ),
    subst (λ z. length (chars z) < length (chars text)) (sym same) front_less,
  )

  pub closing_passed : is_closing c ≡ true → (result : Option (Last × Bor (List ℕ))) → PassesSign (l ≢ last.Comma) after result → PassesLexeme k l text result
  closing_passed h = sign_passed (l ≢ last.Comma) (λ p. plain_close c h p) (λ n p. plain.closes n h p)

  pub colon_passed : c ≡ 58 → (result : Option (Last × Bor (List ℕ))) → PassesSign (l ≡ last.Text) after result → PassesLexeme k l text result
  colon_passed h = sign_passed (l ≡ last.Text) (λ p. plain_colon (subst (λ z. Plain k l (z ∷ chars after)) h p)) back
    where
      back : l ≡ last.Text → Plain k last.Sign (chars after) → Plain k l (c ∷ chars after)
      back is p = subst (λ z. Plain k z (c ∷ chars after)) (sym is) (subst (λ z. Plain k last.Text (z ∷ chars after)) (sym h) (plain.colon p))

  pub string_passed : c ≡ 34 → (result : Option (Last × Bor (List ℕ))) → LeavesWith TakesString last.Text after result → PassesLexeme k l text result
  string_passed h None n = λ p. let a = plain_quote (subst (λ z. Plain k l (z ∷ chars after)) h (front_plain p)) in n a.left (a.chars, a.is_json, a.split)
  string_passed h (Some p) (is, o) = ((λ q. there q, λ q. back ((o (chars p.1.now)).1 refl) q), shorter ((o (chars p.1.now)).1 refl))
    where
      there : Plain k l (chars text) → Plain k p.0 (chars p.1.now)
      there q =
          let a = plain_quote (subst (λ z. Plain k l (z ∷ chars after)) h (front_plain q)) in
          subst (λ z. Plain k z (chars p.1.now)) (sym is) (subst (Plain k last.Text) ((o a.left).0 (a.chars, a.is_json, a.split)) a.plain)

      back : TakesString (chars after) (chars p.1.now) → Plain k p.0 (chars p.1.now) → Plain k l (chars text)
      back (s, j, e) q =
          plain_front (subst (λ z. Plain k l (z ∷ chars after)) (sym h) (subst (λ z. Plain k l (34 ∷ z)) (append_assoc s (34 ∷ []) (chars p.1.now) ∙ sym e)
          (plain.string (quoted j) (subst (λ z. Plain k z (chars p.1.now)) is q))))

      shorter : TakesString (chars after) (chars p.1.now) → length (chars p.1.now) < length (chars text)
      shorter (s, j, e) = let n = ap length e ∙ length-append s (34 ∷ chars p.1.now) in let m = ap length f in omega (arith, n, m)

  comment_then : CommentThen k l (chars after) → (k ≡ true) × ((r : List ℕ) × TakesComment (chars after) r × Plain k l r)
  comment_then (is, inl a) = (is, (a.left, inl (a.text ++ a.left, a.split, (a.text, a.is_line, a.stops, refl)), a.plain))
  comment_then (is, inr a) = (is, (a.left, inr (a.text ++ 42 ∷ 47 ∷ a.left, a.split, (a.text, a.is_block, refl)), a.plain))

  comment_back : k ≡ true → (r : List ℕ) → TakesComment (chars after) r → Plain k l r → Plain k l (47 ∷ chars after)
  comment_back is r (inl (y, e, (s, i, n, g))) p = subst (λ z. Plain k l (47 ∷ z)) (sym (e ∙ ap (λ z. 47 ∷ z) g)) (plain.line is i n p)
  comment_back is r (inr (y, e, (s, i, g))) p = subst (λ z. Plain k l (47 ∷ z)) (sym (e ∙ ap (λ z. 42 ∷ z) g)) (plain.block is i p)

  comment_less : (r : List ℕ) → TakesComment (chars after) r → length r < length (chars text)
  comment_less r (inl (y, e, (s, i, n, g))) = let a = ap length e in let b = ap length g ∙ length-append s r in let d = ap length f in omega (arith, a, b, d)
  comment_less r (inr (y, e, (s, i, g))) = let a = ap length e in let b = ap length g ∙ length-append s (42 ∷ 47 ∷ r) in let d = ap length f in omega (arith, a, b, d)

  pub comment_passed : c ≡ 47 → (result : Option (Last × Bor (List ℕ))) → PassesComment k l after result → PassesLexeme k l text result
  comment_passed h None n = λ p. let a = comment_then (plain_slash (subst (λ z. Plain k l (z ∷ chars after)) h (front_plain p))) in n a.0 a.1.0 a.1.1
  comment_passed h (Some p) (may, is, o) = (
    (there, λ q. plain_front (subst (λ z. Plain k l (z ∷ chars after)) (sym h) (comment_back may (chars p.1.now) ((o (chars p.1.now)).1 refl) (subst (λ z. Plain k z (chars p.1.now)) is q)))),
    comment_less (chars p.1.now) ((o (chars p.1.now)).1 refl),
  )
    where
      there : Plain k l (chars text) → Plain k p.0 (chars p.1.now)
      there q =
          let a = comment_then (plain_slash (subst (λ z. Plain k l (z ∷ chars after)) h (front_plain q))) in
          subst (λ z. Plain k z (chars p.1.now)) (sym is) (subst (Plain k l) ((o a.1.0).0 a.1.1) a.1.2)

  -- c is none of the signs, no slash and no quote
  pub record IsOther : Type 0 where
    pub no_blank : is_json_blank c ≡ false
    pub no_opening : is_opening c ≡ false
    pub no_closing : is_closing c ≡ false
    pub no_comma : (c == 44) ≡ false
    pub no_colon : (c == 58) ≡ false
    pub no_slash : (c == 47) ≡ false
    pub no_quote : (c == 34) ≡ false

  pub number_other : begins_number c ≡ true → IsOther
  number_other h = record {
    no_blank = grind (arith, nat_tests);
    no_opening = grind (arith, nat_tests);
    no_closing = grind (arith, nat_tests);
    no_comma = grind (arith, nat_tests);
    no_colon = grind (arith, nat_tests);
    no_slash = grind (arith, nat_tests);
    no_quote = grind (arith, nat_tests);
  }

  word_then : IsOther → Plain k l (chars text) → WordThen k c (chars after)
  word_then i p = by_part (is_word_part c) refl
    where
      by_part : (b : Bool) → is_word_part c ≡ b → WordThen k c (chars after)
      by_part true h = let q : Asks k l c (chars after) = asked c (chars after) (front_plain p) refl in rw (i.no_blank, h) at q
      by_part false h =
          let q : Asks k l c (chars after) = asked c (chars after) (front_plain p) refl in
          absurd (rw (i.no_blank, h, i.no_opening, i.no_closing, i.no_comma, i.no_colon, i.no_slash, i.no_quote) at q)

  taken_word : (a : WordThen k c (chars after)) → TakesWord (chars text) a.left
  taken_word a = (c ∷ a.more, a.is_word, a.stops, f ∙ ap (λ z. c ∷ z) a.split)

  pub word_passed : IsOther → (result : Option (Last × Bor (List ℕ))) → LeavesWith TakesWord last.Word text result → PassesLexeme k l text result
  word_passed i None n = λ p. let a = word_then i p in n a.left (taken_word a)
  word_passed i (Some p) (is, o) = ((there, λ q. back ((o (chars p.1.now)).1 refl) q), shorter ((o (chars p.1.now)).1 refl))
    where
      there : Plain k l (chars text) → Plain k p.0 (chars p.1.now)
      there q = let a = word_then i q in subst (λ z. Plain k z (chars p.1.now)) (sym is) (subst (Plain k last.Word) ((o a.left).0 (taken_word a)) a.plain)

      back : TakesWord (chars text) (chars p.1.now) → Plain k p.0 (chars p.1.now) → Plain k l (chars text)
      back (s, w, n, e) q = subst (Plain k l) (sym e) (plain.word w n (subst (λ z. Plain k z (chars p.1.now)) is q))

      shorter : TakesWord (chars text) (chars p.1.now) → length (chars p.1.now) < length (chars text)
      shorter ([], w, n, e) = absurd (no_empty_word w refl)
      shorter (d ∷ s, w, n, e) = let m = ap length e ∙ length-append (d ∷ s) (chars p.1.now) in omega (arith, m)

  -- a number is a word
  pub number_passed : begins_number c ≡ true → (result : Option (Last × Bor (List ℕ))) → LeavesWith (Then JsonNumber) last.Word text result → PassesLexeme k l text result
  number_passed h result n = word_passed (number_other h) result (leaves_with_by TakesWord (Then JsonNumber) last.Word text result (λ r. number_alone (chars text) c (chars after) r f (number_no_letter c h)) n)

-- ---- one lexeme after another

pub passed_on : (k : Bool) (l m : Last) (text : List ℕ) (rest : Bor (List ℕ)) (result : Option (Last × Bor (List ℕ))) → PassesLexeme k l text (Some (m, rest)) → PassesLexeme k m rest.now result
    → PassesLexeme k l text result
passed_on k l m text rest None a n = λ p. n (a.0.0 p)
passed_on k l m text rest (Some q) a b = ((λ p. b.0.0 (a.0.0 p), λ p. a.0.1 (b.0.1 p)), omega (arith, a.1, b.1))

pub stays_none : (passed : Option (Last × Bor (List ℕ))) → passed ≡ None → StaysPassed passed None
stays_none passed e = λ k l text p. subst (PassesLexeme k l text) e p

pub stays_after : (m : Last) (rest : Bor (List ℕ)) (passed result : Option (Last × Bor (List ℕ))) → passed ≡ Some (m, rest) → ((k : Bool) → PassesLexeme k m rest.now result) → StaysPassed passed result
stays_after m rest passed result e f = λ k l text p. passed_on k l m text rest result (subst (PassesLexeme k l text) e p) (f k)
