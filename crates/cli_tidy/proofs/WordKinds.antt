-- What tells the words of the command line apart: no words begin with two parts.
use Rattle.std.proofs.Common.{◌≡◌, ◌≢◌, inl, inr, ℕ, ◌<◌, Bool, true, false, ◌||◌, cond, List, [], ◌∷◌, ◌++◌, length, refl, sym, ap, ◌∙◌, subst, append-nil, arith, true≢false}
use Rattle.std.specs.Prelude.{◌==◌}
use Rattle.std.specs.Str.Parse.{IsNumeral, without_leading_plus}
use lib.Chars.{codes}
use Rattle.json5_tidy.specs.declared.style.LastCommas.{LastCommas}
use Rattle.json5_tidy.specs.declared.style.LastCommas.TheVariants as commas
use Rattle.cli_tidy.specs.declared.options.Flag.{Flag}
use Rattle.cli_tidy.specs.declared.options.Flag.TheVariants as flags
use Rattle.cli_tidy.specs.declared.options.Setting.{Setting}
use Rattle.cli_tidy.specs.declared.options.Setting.TheVariants as settings
use Rattle.cli_files.specs.Folders.{IsEnding}
use Rattle.cli_tidy.specs.CommandWords.{minus, equals, end_word, IsDashed, IsFlag, setting_word, IsCount, IsIndent, commas_word, Part, name, flag, indent, width, last_commas, ending, Sets, Starts, plain, alone, joined, apart}

-- ---- bytes of words

abbrev second : List ℕ → ℕ
second (a ∷ b ∷ rest) = b
second rest = 0

abbrev third : List ℕ → ℕ
third (a ∷ b ∷ c ∷ rest) = c
third rest = 0

abbrev fifth : List ℕ → ℕ
fifth (a ∷ b ∷ c ∷ d ∷ e ∷ rest) = e
fifth rest = 0

-- whether the third is that of an option with a value
abbrev is_setting : List ℕ → Bool
is_setting word = (third word == 105) || ((third word == 119) || ((third word == 108) || ((third word == 101) || (third word == 115))))

-- the option that the third byte is of, and the fifth of two that begin alike
abbrev setting_at : List ℕ → Setting
setting_at word =
    cond (third word == 105) settings.Indent (cond (third word == 119) settings.Width (cond (third word == 108) settings.LastCommas (cond (third word == 101) (cond (fifth word == 99) settings.Exclude settings.Ext) settings.StdinName)))

abbrev flag_at : List ℕ → Flag
flag_at word = cond (third word == 118) flags.Version (cond (third word == 110) flags.NoLastComma (cond (third word == 107) flags.KeepStars (cond (third word == 113) flags.Quiet flags.Help)))

abbrev has_equals : List ℕ → Bool
has_equals [] = false
has_equals (c ∷ cs) = (c == equals) || has_equals cs

abbrev after_equals : List ℕ → List ℕ
after_equals [] = []
after_equals (c ∷ cs) = cond (c == equals) cs (after_equals cs)

-- ---- flags

flag_found : (word : List ℕ) (f : Flag) → IsFlag word f → flag_at word ≡ f
flag_found word flags.Help (inl e) = ap flag_at e
flag_found word flags.Help (inr e) = ap flag_at e
flag_found word flags.Version e = ap flag_at e
flag_found word flags.NoLastComma e = ap flag_at e
flag_found word flags.KeepStars e = ap flag_at e
flag_found word flags.Quiet e = ap flag_at e

flag_unset : (word : List ℕ) (f : Flag) → IsFlag word f → is_setting word ≡ false
flag_unset word flags.Help (inl e) = ap is_setting e
flag_unset word flags.Help (inr e) = ap is_setting e
flag_unset word flags.Version e = ap is_setting e
flag_unset word flags.NoLastComma e = ap is_setting e
flag_unset word flags.KeepStars e = ap is_setting e
flag_unset word flags.Quiet e = ap is_setting e

flag_no_end : (word : List ℕ) (f : Flag) → IsFlag word f → word ≢ end_word
flag_no_end word flags.Help (inl e) n = let d : 6 ≡ 2 = ap length (sym e ∙ n) in omega (arith, d)
flag_no_end word flags.Help (inr e) n = let d : 104 ≡ 45 = ap second (sym e ∙ n) in omega (arith, d)
flag_no_end word flags.Version e n = let d : 9 ≡ 2 = ap length (sym e ∙ n) in omega (arith, d)
flag_no_end word flags.NoLastComma e n = let d : 15 ≡ 2 = ap length (sym e ∙ n) in omega (arith, d)
flag_no_end word flags.KeepStars e n = let d : 12 ≡ 2 = ap length (sym e ∙ n) in omega (arith, d)
flag_no_end word flags.Quiet e n = let d : 7 ≡ 2 = ap length (sym e ∙ n) in omega (arith, d)

-- ---- options with a value

setting_found : (s : Setting) (more : List ℕ) → setting_at (setting_word s ++ more) ≡ s
setting_found settings.Indent more = refl
setting_found settings.Width more = refl
setting_found settings.LastCommas more = refl
setting_found settings.Ext more = refl
setting_found settings.Exclude more = refl
setting_found settings.StdinName more = refl

setting_set : (s : Setting) (more : List ℕ) → is_setting (setting_word s ++ more) ≡ true
setting_set settings.Indent more = refl
setting_set settings.Width more = refl
setting_set settings.LastCommas more = refl
setting_set settings.Ext more = refl
setting_set settings.Exclude more = refl
setting_set settings.StdinName more = refl

setting_whole : (s : Setting) → has_equals (setting_word s) ≡ false
setting_whole settings.Indent = refl
setting_whole settings.Width = refl
setting_whole settings.LastCommas = refl
setting_whole settings.Ext = refl
setting_whole settings.Exclude = refl
setting_whole settings.StdinName = refl

joined_split : (s : Setting) (value : List ℕ) → has_equals (setting_word s ++ equals ∷ value) ≡ true
joined_split settings.Indent value = refl
joined_split settings.Width value = refl
joined_split settings.LastCommas value = refl
joined_split settings.Ext value = refl
joined_split settings.Exclude value = refl
joined_split settings.StdinName value = refl

joined_after : (s : Setting) (value : List ℕ) → after_equals (setting_word s ++ equals ∷ value) ≡ value
joined_after settings.Indent value = refl
joined_after settings.Width value = refl
joined_after settings.LastCommas value = refl
joined_after settings.Ext value = refl
joined_after settings.Exclude value = refl
joined_after settings.StdinName value = refl

-- nothing more stands behind it
alone_word : (s : Setting) (word : List ℕ) → word ≡ setting_word s → word ≡ setting_word s ++ []
alone_word s word e = e ∙ sym (append-nil (setting_word s))

same_setting : (s t : Setting) (more others : List ℕ) → setting_word s ++ more ≡ setting_word t ++ others → s ≡ t
same_setting s t more others e = sym (setting_found s more) ∙ ap setting_at e ∙ setting_found t others

same_value : (s t : Setting) (v u : List ℕ) → setting_word s ++ equals ∷ v ≡ setting_word t ++ equals ∷ u → v ≡ u
same_value s t v u e = sym (joined_after s v) ∙ ap after_equals e ∙ joined_after t u

not_joined : (s t : Setting) (value : List ℕ) → setting_word s ≢ setting_word t ++ equals ∷ value
not_joined s t value e = true≢false (sym (joined_split t value) ∙ sym (ap has_equals e) ∙ setting_whole s)

flag_no_setting : (word : List ℕ) (f : Flag) → IsFlag word f → (s : Setting) (more : List ℕ) → word ≢ setting_word s ++ more
flag_no_setting word f k s more e = true≢false (sym (setting_set s more) ∙ sym (ap is_setting e) ∙ flag_unset word f k)

setting_no_end : (s : Setting) (more : List ℕ) → setting_word s ++ more ≢ end_word
setting_no_end s more e = true≢false (sym (setting_set s more) ∙ ap is_setting e)

-- ---- dashes

some : (x : ℕ) (xs : List ℕ) → x ∷ xs ≢ []
some x xs e = absurd (cc)

dashed : (word : List ℕ) (x : ℕ) (rest : List ℕ) → word ≡ minus ∷ x ∷ rest → IsDashed word
dashed word x rest e = (x ∷ rest, some x rest, e)

pub end_dashed : (word : List ℕ) → word ≡ end_word → IsDashed word
end_dashed word e = dashed word minus [] e

pub flag_dashed : (word : List ℕ) (f : Flag) → IsFlag word f → IsDashed word
flag_dashed word flags.Help (inl e) = dashed word minus (codes "help") e
flag_dashed word flags.Help (inr e) = dashed word 104 [] e
flag_dashed word flags.Version e = dashed word minus (codes "version") e
flag_dashed word flags.NoLastComma e = dashed word minus (codes "no-last-comma") e
flag_dashed word flags.KeepStars e = dashed word minus (codes "keep-stars") e
flag_dashed word flags.Quiet e = dashed word minus (codes "quiet") e

pub setting_dashed : (s : Setting) (more word : List ℕ) → word ≡ setting_word s ++ more → IsDashed word
setting_dashed settings.Indent more word e = dashed word minus (codes "indent" ++ more) e
setting_dashed settings.Width more word e = dashed word minus (codes "width" ++ more) e
setting_dashed settings.LastCommas more word e = dashed word minus (codes "last-commas" ++ more) e
setting_dashed settings.Ext more word e = dashed word minus (codes "ext" ++ more) e
setting_dashed settings.Exclude more word e = dashed word minus (codes "exclude" ++ more) e
setting_dashed settings.StdinName more word e = dashed word minus (codes "stdin-name" ++ more) e

-- ---- a value sets one thing

no_tab : (most n : ℕ) (value : List ℕ) → value ≡ codes "tab" → IsCount most value n → ⊥
no_tab most n value e k = let d : 29 < 10 = (subst (λ w. IsNumeral 10 (without_leading_plus w)) e k.0).1.0 in omega (arith, d)

indent_once : (value : List ℕ) (n m : ℕ) → IsIndent value n → IsIndent value m → n ≡ m
indent_once value n m (inl a) (inl b) = a.1 ∙ sym b.1
indent_once value n m (inl a) (inr b) = absurd (no_tab 16 m value a.0 b)
indent_once value n m (inr a) (inl b) = absurd (no_tab 16 n value b.0 a)
indent_once value n m (inr a) (inr b) = a.1 ∙ sym b.1

ending_once : (value e f : List ℕ) → IsEnding value e → IsEnding value f → e ≡ f
ending_once value e f (x, inl a) (y, inl b) = cc
ending_once value e f (x, inl a) (y, inr b) = absurd (b.1 e a)
ending_once value e f (x, inr a) (y, inl b) = absurd (a.1 f b)
ending_once value e f (x, inr a) (y, inr b) = sym a.0 ∙ b.0

abbrev commas_at : List ℕ → LastCommas
commas_at word = cond (second word == 117) commas.Auto (cond (second word == 108) commas.Always commas.Never)

commas_found : (c : LastCommas) → commas_at (commas_word c) ≡ c
commas_found commas.Auto = refl
commas_found commas.Always = refl
commas_found commas.Never = refl

commas_once : (value : List ℕ) (c d : LastCommas) → value ≡ commas_word c → value ≡ commas_word d → c ≡ d
commas_once value c d e f = sym (commas_found c) ∙ ap commas_at (sym e ∙ f) ∙ commas_found d

sets_once : (s : Setting) (value : List ℕ) (p q : Part) → Sets s value p → Sets s value q → p ≡ q
sets_once settings.Indent value p q a b = a.2 ∙ ap indent (indent_once value a.0 b.0 a.1 b.1) ∙ sym b.2
sets_once settings.Width value p q a b = a.2 ∙ ap width (a.1.1 ∙ sym b.1.1) ∙ sym b.2
sets_once settings.LastCommas value p q a b = a.2 ∙ ap last_commas (commas_once value a.0 b.0 a.1 b.1) ∙ sym b.2
sets_once settings.Ext value p q a b = a.2 ∙ ap ending (ending_once value a.0 b.0 a.1 b.1) ∙ sym b.2
sets_once settings.Exclude value p q a b = a.1 ∙ sym b.1
sets_once settings.StdinName value p q a b = a.1 ∙ sym b.1

pub like_sets : (s t : Setting) (v u : List ℕ) (p : Part) → s ≡ t → v ≡ u → Sets s v p → Sets t u p
like_sets s t v u p e f k = subst (λ x. Sets t x p) f (subst (λ x. Sets x v p) e k)

-- ---- words begin with one part

heads : (w x : List ℕ) (words l m : List (List ℕ)) → words ≡ w ∷ l → words ≡ x ∷ m → w ≡ x
heads w x words l m e f = cc

tails : (w x : List ℕ) (words l m : List (List ℕ)) → words ≡ w ∷ l → words ≡ x ∷ m → l ≡ m
tails w x words l m e f = cc

pub starts_once : (words l m : List (List ℕ)) (p q : Part) → Starts words p l → Starts words q m → (p ≡ q) × (l ≡ m)
starts_once words l m p q (plain w e bare is) (plain x f other same) = (is ∙ ap name (heads w x words l m e f) ∙ sym same, tails w x words l m e f)
starts_once words l m p q (plain w e bare is) (alone x g f k same) = absurd (bare (subst IsDashed (sym (heads w x words l m e f)) (flag_dashed x g k)))
starts_once words l m p q (plain w e bare is) (joined s v f k) = absurd (bare (setting_dashed s (equals ∷ v) w (heads w _ words l m e f)))
starts_once words l m p q (plain w e bare is) (apart s v f k) = absurd (bare (setting_dashed s [] w (alone_word s w (heads w _ words l (v ∷ m) e f))))
starts_once words l m p q (alone w g e k is) (plain x f bare same) = absurd (bare (subst IsDashed (heads w x words l m e f) (flag_dashed w g k)))
starts_once words l m p q (alone w g e k is) (alone x h f j same) =
    (is ∙ ap flag (sym (flag_found w g k) ∙ ap flag_at (heads w x words l m e f) ∙ flag_found x h j) ∙ sym same, tails w x words l m e f)
starts_once words l m p q (alone w g e k is) (joined s v f j) = absurd (flag_no_setting w g k s (equals ∷ v) (heads w _ words l m e f))
starts_once words l m p q (alone w g e k is) (apart s v f j) = absurd (flag_no_setting w g k s [] (alone_word s w (heads w _ words l (v ∷ m) e f)))
starts_once words l m p q (joined s v e k) (plain x f bare same) = absurd (bare (setting_dashed s (equals ∷ v) x (heads x _ words m l f e)))
starts_once words l m p q (joined s v e k) (alone x g f j same) = absurd (flag_no_setting x g j s (equals ∷ v) (heads x _ words m l f e))
starts_once words l m p q (joined s v e k) (joined t u f j) =
    let h = heads _ _ words l m e f in
    (sets_once t u p q (like_sets s t v u p (same_setting s t (equals ∷ v) (equals ∷ u) h) (same_value s t v u h) k) j, tails _ _ words l m e f)
starts_once words l m p q (joined s v e k) (apart t u f j) = absurd (not_joined t s v (heads _ _ words (u ∷ m) l f e))
starts_once words l m p q (apart s v e k) (plain x f bare same) = absurd (bare (setting_dashed s [] x (alone_word s x (heads x _ words m (v ∷ l) f e))))
starts_once words l m p q (apart s v e k) (alone x g f j same) = absurd (flag_no_setting x g j s [] (alone_word s x (heads x _ words m (v ∷ l) f e)))
starts_once words l m p q (apart s v e k) (joined t u f j) = absurd (not_joined s t u (heads _ _ words (v ∷ l) m e f))
starts_once words l m p q (apart s v e k) (apart t u f j) =
    let h = heads _ _ words (v ∷ l) (u ∷ m) e f in
    let r = tails _ _ words (v ∷ l) (u ∷ m) e f in
    (sets_once t u p q (like_sets s t v u p (same_setting s t [] [] (ap (λ x. x ++ []) h)) (heads v u _ l m refl r) k) j, tails v u _ l m refl r)

pub starts_some : (words l : List (List ℕ)) (p : Part) → words ≡ [] → Starts words p l → ⊥
starts_some words l p none (plain w e bare is) = absurd (cc)
starts_some words l p none (alone w g e k is) = absurd (cc)
starts_some words l p none (joined s v e k) = absurd (cc)
starts_some words l p none (apart s v e k) = absurd (cc)

pub starts_before_end : (words l rest : List (List ℕ)) (p : Part) → words ≡ end_word ∷ rest → Starts words p l → ⊥
starts_before_end words l rest p end (plain w e bare is) = bare (end_dashed w (heads w _ words l rest e end))
starts_before_end words l rest p end (alone w g e k is) = flag_no_end w g k (heads w _ words l rest e end)
starts_before_end words l rest p end (joined s v e k) = setting_no_end s (equals ∷ v) (heads _ _ words l rest e end)
starts_before_end words l rest p end (apart s v e k) = setting_no_end s [] (ap (λ x. x ++ []) (heads _ _ words (v ∷ l) rest e end))

-- ---- what the program saw of a word, and so what it begins with

pub pair_only : (words rest l : List (List ℕ)) (word : List ℕ) (p : Part) → words ≡ word ∷ rest → IsDashed word → ((f : Flag) → ¬ (IsFlag word f))
    → ((s : Setting) (value : List ℕ) → word ≢ setting_word s ++ equals ∷ value) → Starts words p l
    → (s : Setting) × (value : List ℕ) × (word ≡ setting_word s) × (rest ≡ value ∷ l) × Sets s value p
pair_only words rest l word p start dash unflagged split (plain w e bare is) = absurd (bare (subst IsDashed (heads word w words rest l start e) dash))
pair_only words rest l word p start dash unflagged split (alone w g e k is) = absurd (unflagged g (subst (λ x. IsFlag x g) (heads w word words l rest e start) k))
pair_only words rest l word p start dash unflagged split (joined s v e k) = absurd (split s v (heads word _ words rest l start e))
pair_only words rest l word p start dash unflagged split (apart s v e k) = (s, v, heads word _ words rest (v ∷ l) start e, tails word _ words rest (v ∷ l) start e, k)
