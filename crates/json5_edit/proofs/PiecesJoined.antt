-- A text with a part taken out of it or put into it.
use Rattle.std.proofs.Common.{◌≡◌, ◌⊎◌, ℕ, ◌-◌, Bool, true, List, [], ◌∷◌, ◌++◌, length, refl, ap, sym, ◌∙◌, append_assoc, subst, inl, inr, take, Option, Some, arith}
use Rattle.std.specs.Prelude.{IfOk, Result, Ok, Err, ⊤}
use Rattle.std.specs.Str.{chars, IsUtf8, all_scalars, encode_utf8_all}
use Rattle.std.proofs.lemmas.Str.{chars-encodes, scalars-chars, chars-append}
use Rattle.std.proofs.Math.Seq.{take-append_seam}
use Rattle.json5_grammar.specs.Language.Blanks.{Blanks, Gap, LastBlanks, at_end}
use Rattle.json5_grammar.specs.Language.Names.{Key}
use Rattle.json5_grammar.specs.Language.Values.{KeyText}
use Rattle.json5_grammar.proofs.ValueHeads.{key_spelling}
use Rattle.json5_tokens.specs.Outcome.{bytes_in}
use Rattle.json5_walk.proofs.Calls.{bytes_joined}
use Rattle.json5_read.specs.declared.brackets.BracketKind.{BracketKind as Kind}
use Rattle.json5_walk.specs.Seams.{WholeTokens, then_blanks}
use Rattle.json5_walk.proofs.Rests.{append_nil}
use Rattle.json5_edit.specs.Pieces.{IsCommaBetween, IsSpace, IsNameAlone, IsEntryAlone, Grows, IsKeyText, SplitsKey, Respells, CutsWith, GoesWith}
use Rattle.json5_edit.specs.declared.belongings.Lead.{Lead}
use Rattle.json5_edit.specs.Spots.{EndTokens, EndsInBlanks, IsAroundComma, TakesComma}
use Rattle.json5_edit.proofs.Placed.{scalars_left, bytes_cut}
use Rattle.json5_edit.proofs.StepsSurveyed.{found_some}

pub ok_both : {A B : Type 0} {P Q R : A → Type 0} (r : Result A B) → ((a : A) → P a → Q a → R a) → IfOk r P → IfOk r Q → IfOk r R
ok_both (Ok a) k p q = k a p q
ok_both (Err e) k p q = tt

pub no_characters : chars [] ≡ []
no_characters = chars-encodes [] refl

pub last_gap : (w r : List ℕ) → r ≡ [] → Gap w r → LastBlanks w
last_gap w r e (Gap.blanks b) = LastBlanks.blanks b
last_gap w r e (at_end l) = l

pub no_comma : (x : List ℕ) (n : Option ℕ) → IsAroundComma x n x [] []
no_comma x n = record { comma = []; split = sym (append_nil x); is_comma = inl refl }

-- the comma between these is one between tokens
module _ (x before front blank middle more : List ℕ) (n : Option ℕ) (ends : EndTokens x n) (a : IsAroundComma before n front blank middle) (was : x ≡ before ++ more) where
  around : before ≡ (front ++ blank) ++ (a.comma ++ middle)
  around = a.split ∙ sym (append_assoc front blank (a.comma ++ middle))

  front_is : take (length front) x ≡ front
  front_is = ap (take (length front)) (was ∙ ap (λ z. z ++ more) a.split ∙ append_assoc front (blank ++ (a.comma ++ middle)) more) ∙ take-append_seam front ((blank ++ (a.comma ++ middle)) ++ more)

  tokens : n ≡ Some (length front) → Blanks (chars blank) → WholeTokens true (chars (front ++ blank))
  tokens e b =
      let (u, t) = found_some ⊤ (λ m. IsUtf8 (take m x) × WholeTokens true (chars (take m x))) n (length front) e ends in
      subst (WholeTokens true) (sym (chars-append front blank (subst IsUtf8 front_is u))) (then_blanks (subst (λ z. WholeTokens true (chars z)) front_is t) b)

  between : (a.comma ≡ []) ⊎ ((a.comma ≡ 44 ∷ []) × (n ≡ Some (length front)) × Blanks (chars blank) × LastBlanks (chars middle)) → IsCommaBetween (front ++ blank) a.comma middle
  between (inl e) = inl e
  between (inr (e, at, b, l)) = inr (e, tokens at b, l)

pub cuts : (l : Lead) (x y head before gone back front blank middle : List ℕ) (n : Option ℕ) → EndTokens x n → x ≡ head ++ back → head ≡ before ++ gone → IsAroundComma before n front blank middle → GoesWith l before gone back → y ≡ front ++ (blank ++ (middle ++ back)) → CutsWith l x y
cuts l x y head before gone back front blank middle n ends e f a b h =
    let was : x ≡ before ++ (gone ++ back) = e ∙ ap (λ z. z ++ back) f ∙ append_assoc before gone back in
    let is = around x before front blank middle (gone ++ back) n ends a was in
    let with_comments = subst (λ z. GoesWith l z gone back) is b in (
      record {
        front = front ++ blank;
        comma = a.comma;
        middle = middle;
        gone = gone;
        back = back;
        was =
            was ∙ ap (λ z. z ++ (gone ++ back)) is
            ∙ append_assoc (front ++ blank) (a.comma ++ middle) (gone ++ back) ∙ ap (λ z. (front ++ blank) ++ z) (append_assoc a.comma middle (gone ++ back));
        now = h ∙ sym (append_assoc front blank (middle ++ back));
        is_comma = between x before front blank middle (gone ++ back) n ends a was a.is_comma;
        belongs = with_comments.0;
      },
      with_comments.1,
    )

pub entry_alone : (k : Kind) (value x lead name trail : List ℕ) → IsSpace lead → IsNameAlone k name → IsSpace trail → x ≡ lead ++ (name ++ (value ++ trail)) → IsEntryAlone k value x
entry_alone k value x lead name trail l n t e = record { lead = lead; name = name; trail = trail; split = e; is_lead = l; is_name = n; is_trail = t }

-- no comma comes
pub takes_none : (x : List ℕ) (last : Option ℕ) → TakesComma x last x [] []
takes_none x last = record { split = sym (append_nil x); is_comma = inl refl }

-- a comma comes where one is due, between blanks alone
pub takes_there : (x front middle head blank gap left : List ℕ) (last : Option ℕ) (n : ℕ) → last ≡ Some n → length head ≡ n → x ≡ front ++ middle → front ≡ head ++ blank → Blanks (chars blank) → middle ≡ gap ++ left → Gap (chars gap) (chars left) → left ≡ [] → TakesComma x last front (44 ∷ []) middle
takes_there x front middle head blank gap left last n is len e g b f after none = record {
  split = e;
  is_comma = inr (refl, (head, blank, g, is ∙ ap Some (sym len), b), subst (λ z. LastBlanks (chars z)) (sym (f ∙ ap (λ z. gap ++ z) none ∙ append_nil gap)) (last_gap (chars gap) (chars left) (ap chars none ∙ no_characters) after));
}

-- whole tokens come before the comma
comma_between : (x front comma middle more : List ℕ) (n : Option ℕ) → EndTokens x n → x ≡ front ++ more → (comma ≡ []) ⊎ ((comma ≡ 44 ∷ []) × EndsInBlanks n front × LastBlanks (chars middle)) → IsCommaBetween front comma middle
comma_between x front comma middle more n ends was (inl e) = inl e
comma_between x front comma middle more n ends was (inr (e, (head, blank, f, at, b), l)) =
    let (u, t) = found_some ⊤ (λ m. IsUtf8 (take m x) × WholeTokens true (chars (take m x))) n (length head) at ends in
    let head_is : take (length head) x ≡ head = ap (take (length head)) (was ∙ ap (λ z. z ++ more) f ∙ append_assoc head blank more) ∙ take-append_seam head (blank ++ more) in
    inr (e, subst (WholeTokens true) (sym (ap chars f ∙ chars-append head blank (subst IsUtf8 head_is u))) (then_blanks (subst (λ z. WholeTokens true (chars z)) head_is t) b), l)

pub grows : (k : Kind) (value x y head before gone back front middle comma came : List ℕ) (n : Option ℕ) → EndTokens x n → x ≡ head ++ back → head ≡ before ++ gone → TakesComma before n front comma middle → IsSpace gone → IsEntryAlone k value came → y ≡ front ++ (comma ++ (middle ++ (came ++ back))) → Grows k value x y
grows k value x y head before gone back front middle comma came n ends e f g b a h =
    let was : x ≡ front ++ (middle ++ (gone ++ back)) = e ∙ ap (λ z. z ++ back) f ∙ append_assoc before gone back ∙ ap (λ z. z ++ (gone ++ back)) g.split ∙ append_assoc front middle (gone ++ back) in
    record {
      front = front;
      middle = middle;
      gone = gone;
      back = back;
      comma = comma;
      came = came;
      was = was;
      now = h;
      is_comma = comma_between x front comma middle (middle ++ (gone ++ back)) n ends was g.is_comma;
      blank = b;
      alone = a;
    }

-- the key that was taken, as far as it goes
pub key_there : (bytes s y u part : List ℕ) (b : Bool) (n : ℕ) → IsUtf8 bytes → chars bytes ≡ s ++ y → n ≡ bytes_in (s ++ y) - bytes_in y → part ≡ take n bytes → Key s y u b → IsKeyText part
key_there bytes s y u part b n utf8 e size is k =
    let j = bytes_joined s y in
    let same : n ≡ bytes_in s = omega (arith, size, j) in
    let cut : part ≡ encode_utf8_all s =
    is ∙ ap (λ z. take z bytes) same ∙ ap (take (bytes_in s)) (bytes_cut bytes s y utf8 e) ∙ take-append_seam (encode_utf8_all s) (encode_utf8_all y) in
    let scalars : all_scalars s ≡ true = scalars_left s y (ap all_scalars (sym e) ∙ scalars-chars bytes utf8) in
    let spelled : chars part ≡ s = ap chars cut ∙ chars-encodes s scalars in
    (u, b, subst (λ z. KeyText z u b) (sym spelled) (key_spelling k))

pub respells : (x y front rest gone back key : List ℕ) → x ≡ front ++ rest → SplitsKey rest gone back → IsKeyText key → y ≡ front ++ (key ++ back) → Respells x y
respells x y front rest gone back key e (f, k) h now = record {
  front = front;
  gone = gone;
  came = key;
  back = back;
  was = e ∙ ap (λ z. front ++ z) f;
  now = now;
  old_key = k;
  new_key = h;
}
