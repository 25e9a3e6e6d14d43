-- The words of the command line, one part after the other.
use Rattle.std.proofs.Common.{◌≡◌, ◌≢◌, ◌≤◌, ◌↔◌, ℕ, List, [], ◌∷◌, length, refl, sym, ap, ◌∙◌, subst, append-nil, arith}
use Rattle.std.proofs.lemmas.List.{length-map}
use Rattle.std.specs.declared.alloc.Global.{Global}
use Rattle.std.specs.Prelude.{String, string_bytes, Result, Ok, Err, IfOk, IfErr}
use Rattle.std.specs.Borrow.{Bor}
use Rattle.cli_tidy.specs.declared.options.Fault.{Fault}
use Rattle.cli_tidy.specs.declared.options.Fault.TheVariants as faults
use Rattle.cli_tidy.specs.declared.options.Flag.{Flag}
use Rattle.cli_tidy.specs.declared.options.Setting.{Setting}
use Rattle.cli_tidy.specs.declared.requests.TidyRequest.{TidyRequest}
use Rattle.cli_tidy.specs.declared.taking.Words.{Words}
use Rattle.cli_tidy.specs.CommandWords.{end_word, IsDashed, IsFlag, Part, Starts, apart, Choices, nothing_chosen, with_part, with_names, Choose, none, ended, next, IsFor, AsksNothing}
use Rattle.cli_files.specs.NameLists.{names_of}
use Rattle.cli_tidy.specs.WordSteps.{choices_of, IsJoined, IsPair, BeginsPair, Gains, Refuses, IsStart, ChooseAlike, TakesAll, ChooseNothing, Requests, ReadsWords}
use Rattle.cli_tidy.proofs.WordKinds.{starts_once, starts_some, starts_before_end, pair_only}

-- ---- how choices go on

both : {A B C : Type 0} → A ↔ B → B ↔ C → A ↔ C
both a b = ((λ k. b.0 (a.0 k)), (λ k. a.1 (b.1 k)))

no_more : (c : Choices) → c ≡ with_names [] c
no_more c = ap (λ o. record c { others = o }) (sym (append-nil c.others))

after : (c : Choices) (words left : List (List ℕ)) (p : Part) → Starts words p left → (e : Choices) → Choose c words e → Choose (with_part p c) left e
after c _ left p start _ (none d) = absurd (starts_some [] left p refl start)
after c words left p start _ (ended d w rest is) = absurd (starts_before_end words left rest p is start)
after c words left p start e (next d f w m q s k) =
    let o = starts_once words left m p q start s in subst (λ l. Choose (with_part p c) l e) (sym o.1) (subst (λ x. Choose (with_part x c) m e) (sym o.0) k)

pub step : (c d f : Choices) (words left m : List (List ℕ)) (p : Part) → ChooseAlike c words d left → Starts left p m → f ≡ with_part p d → ChooseAlike c words f m
step c d f words left m p alike start is e =
    subst (λ x. Choose c words e ↔ Choose x m e) (sym is) (both (alike e) (after d left m p start e, next d e left m p start))

at_end : (c : Choices) (words rest : List (List ℕ)) → words ≡ end_word ∷ rest → (e : Choices) → Choose c words e → e ≡ with_names rest c
at_end c _ rest is _ (none d) = absurd (cc)
at_end c words rest is _ (ended d w more same) = let r : more ≡ rest = cc in ap (λ l. with_names l c) r
at_end c words rest is e (next d f w m q s k) = absurd (starts_before_end words m rest q is s)

pub ends_there : (c d : Choices) (words left rest : List (List ℕ)) → ChooseAlike c words d left → left ≡ end_word ∷ rest → (e : Choices) → Choose c words e ↔ (e ≡ with_names rest d)
ends_there c d words left rest alike is e =
    both (alike e) (at_end d left rest is e, λ same. subst (Choose d left) (sym same) (ended d left rest is))

at_last : (c : Choices) (words : List (List ℕ)) → words ≡ [] → (e : Choices) → Choose c words e → e ≡ with_names [] c
at_last c _ empty _ (none d) = no_more c
at_last c words empty _ (ended d w rest is) = absurd (cc)
at_last c words empty e (next d f w m q s k) = absurd (starts_some words m q empty s)

pub ends_last : (c d : Choices) (words left : List (List ℕ)) → ChooseAlike c words d left → left ≡ [] → (e : Choices) → Choose c words e ↔ (e ≡ with_names left d)
ends_last c d words left alike empty e =
    subst (λ l. Choose c words e ↔ (e ≡ with_names l d)) (sym empty)
    (both (alike e) (at_last d left empty e, λ same. subst (λ w. Choose d w e) (sym empty) (subst (Choose d []) (no_more d ∙ sym same) (none d))))

no_choice : (c : Choices) (words rest : List (List ℕ)) (word : List ℕ) → words ≡ word ∷ rest → word ≢ end_word → ((p : Part) → ¬ (IsStart (word ∷ rest) p)) → (e : Choices) → ¬ (Choose c words e)
no_choice c _ rest word is other refused _ (none d) = absurd (cc)
no_choice c words rest word is other refused _ (ended d w more same) = let h : word ≡ end_word = cc in other h
no_choice c words rest word is other refused e (next d f w m q s k) = refused q (m, subst (λ l. Starts l q m) is s)

pub chooses_nothing : (c d : Choices) (words left rest : List (List ℕ)) (word : List ℕ) → ChooseAlike c words d left → left ≡ word ∷ rest → word ≢ end_word
    → ((p : Part) → ¬ (IsStart (word ∷ rest) p)) → (e : Choices) → ¬ (Choose c words e)
chooses_nothing c d words left rest word alike is other refused e k = no_choice d left rest word is other refused e ((alike e).0 k)

-- ---- what is asked for

pub asks : (list : List (String Global)) (old new : Words) (rest : List (List ℕ)) (c : Choices) → choices_of old ≡ nothing_chosen → TakesAll (names_of list) old new rest → c ≡ with_names rest (choices_of new)
    → (r : Result TidyRequest Fault) → Requests c r → ReadsWords list r
asks list old new rest c start taken is (Ok request) k = (c, subst (λ x. Choose x (names_of list) c) start ((taken c).1 is), k)
asks list old new rest c start taken is (Err fault) k = λ unknown request (e, chosen, fits).
    let same : e ≡ c = (taken e).0 (subst (λ x. Choose x (names_of list) e) (sym start) chosen) ∙ sym is in
    k.1 request (subst (λ x. IsFor x request) same fits)

pub asks_nothing : (list : List (String Global)) (c : Choices) (fault : Fault) → c ≡ nothing_chosen → ChooseNothing c (names_of list) fault → fault ≡ faults.Unknown → AsksNothing list
asks_nothing list c fault start nothing unknown request (e, chosen, fits) = nothing unknown e (subst (λ x. Choose x (names_of list) e) (sym start) chosen)

-- ---- an option and its value

pub pair_starts : (word : List ℕ) (rest : List (String Global)) (old new : Words) (r : Result (Bor (List (String Global))) Fault)
    → IfOk r (λ left. Gains (λ p. IsPair word (names_of rest) p (names_of left.now)) old new) → IfOk r (λ left. Gains (λ p. Starts (word ∷ names_of rest) p (names_of left.now)) old new)
pair_starts word rest old new (Ok left) (p, (s, value, w, r, sets), e) = (p, apart s value (cc) sets, e)
pair_starts word rest old new (Err fault) k = tt

-- fewer words are left
pub pair_shorter : (word : List ℕ) (rest : List (String Global)) (old new : Words) (r : Result (Bor (List (String Global))) Fault)
    → IfOk r (λ left. Gains (λ p. IsPair word (names_of rest) p (names_of left.now)) old new) → IfOk r (λ left. length left.now ≤ length rest)
pair_shorter word rest old new (Ok left) (p, (s, value, w, r, sets), e) =
    let n : length rest ≡ length (value ∷ names_of left.now) = sym (length-map rest string_bytes) ∙ ap length r in
    let m = length-map left.now string_bytes in
    omega (arith, n, m)
pair_shorter word rest old new (Err fault) k = tt

pub pair_refused : (word : List ℕ) (rest : List (List ℕ)) (r : Result (Bor (List (String Global))) Fault) → IsDashed word → ((f : Flag) → ¬ (IsFlag word f))
    → ((s : Setting) (value : List ℕ) → ¬ (IsJoined word s value)) → IfErr r (Refuses (BeginsPair word rest)) → IfErr r (Refuses (IsStart (word ∷ rest)))
pair_refused word rest (Ok left) dashed unflagged split k = tt
pair_refused word rest (Err fault) dashed unflagged split k = λ unknown p (left, start). k unknown p (left, pair_only (word ∷ rest) rest left word p refl dashed unflagged split start)

pub front_word : (left rest : List (String Global)) (word : String Global) (text : List ℕ) → left ≡ word ∷ rest → text ≡ string_bytes word → names_of left ≡ text ∷ names_of rest
front_word left rest word text is value = ap names_of is ∙ ap (λ w. w ∷ names_of rest) (sym value)
