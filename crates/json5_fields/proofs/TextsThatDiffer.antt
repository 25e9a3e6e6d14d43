-- Texts that differ, one after another, and what is made of a list of them.
use Rattle.std.proofs.Common.{◌≡◌, ◌<◌, ◌≤◌, ◌-◌, ℕ, Bool, true, false, List, [], ◌∷◌, ◌++◌, length, take, refl, sym, ap, ◌∙◌, subst, inl, inr, Some, None, Result, Ok, Err, arith}
use Rattle.std.specs.Prelude.{◌&&◌, not, nat_lt, if◌then◌else◌, String, Vec, IfOk, IfErr, MatchResult}
use Rattle.std.specs.Str.{bytes_eq}
use Rattle.std.specs.declared.alloc.Global.{Global}
use Rattle.std.proofs.lemmas.Bool.Decides.{nat_tests}
use Rattle.std.proofs.lemmas.List.{length-append, map-append, append-nil, append_assoc}
use Rattle.std.proofs.Math.Seq.{take-append_seam}
use Rattle.std.proofs.lemmas.Slice.Eq.{bytes_eq-Decides}
use Rattle.json5_types.specs.declared.error.Error.{Error}
use Rattle.json5_types.specs.Errors.{LacksMemory}
use Rattle.json5_read.proofs.NoFailedCode.{memory_other}
use Rattle.json5_de.specs.State.{State}
use Rattle.json5_de.specs.DeserializeLaw.{Gives, Completes, Unprompted}
use Rattle.json5_de.specs.Refinement.{if_more}
use Rattle.json5_de.specs.Spans.{SpansValue}
use Rattle.json5_de.proofs.Refinement.{refused_at}
use Rattle.json5_fields.proofs.TextsApart.{one_of_neither, apart}
use Rattle.json5_fields.specs.Distinct.{is_one_of, no_two_equal, all_within, all_fit, if_distinct, texts_of, distinct_texts, may_follow, Placed, text_at, texts, all_texts, IsFirstUnfit, IsOwnAt, TookTexts, DistinctFault, too_few, no_memory}

-- ---- the tests of a condition

both_true : (a b : Bool) → (if a then b else false) ≡ true → (a ≡ true) × (b ≡ true)
both_true true b is = (refl, is)
both_true false b is = absurd (cc)

and_true : (a b : Bool) → (a && b) ≡ true → (a ≡ true) × (b ≡ true)
and_true true b is = (refl, is)
and_true false b is = absurd (cc)

not_true : (a : Bool) → not a ≡ true → a ≡ false
not_true true is = absurd (cc)
not_true false is = refl

first_not : (a b : Bool) → (if a then false else b) ≡ true → (a ≡ false) × (b ≡ true)
first_not true b is = absurd (cc)
first_not false b is = (refl, is)

either_not : (a b : Bool) → (if a then true else b) ≡ false → (a ≡ false) × (b ≡ false)
either_not true b is = absurd (cc)
either_not false b is = (refl, is)

-- ---- names

same_not : (n u : List ℕ) → bytes_eq u n ≡ false → bytes_eq n u ≡ false
same_not n u other = by (bytes_eq n u) refl
  where
    by : (b : Bool) → bytes_eq n u ≡ b → b ≡ false
    by false is = refl
    by true is = let same : n ≡ u = (bytes_eq-Decides n u).0 is in let equal : bytes_eq u n ≡ true = (bytes_eq-Decides u n).1 (sym same) in absurd (cc)

one_differs : (ns : List (List ℕ)) (u : List ℕ) → no_two_equal ns ≡ true → is_one_of ns u ≡ false → no_two_equal (ns ++ u ∷ []) ≡ true
one_differs [] u differ other = refl
one_differs (n ∷ ns) u differ other =
    let (none, rest) = first_not (is_one_of ns n) (no_two_equal ns) differ in
    let (not_first, not_others) = either_not (bytes_eq u n) (is_one_of ns u) other in
    let apart_from : is_one_of (u ∷ []) n ≡ false = rw (same_not n u not_first) refl in
    rw (one_of_neither ns (u ∷ []) n none apart_from, one_differs ns u rest not_others) refl

is_itself : (us : List (List ℕ)) (u : List ℕ) → is_one_of (u ∷ us) u ≡ true
is_itself us u = let equal : bytes_eq u u ≡ true = (bytes_eq-Decides u u).1 refl in rw equal refl

none_before : (ns us : List (List ℕ)) (u : List ℕ) → no_two_equal (ns ++ u ∷ us) ≡ true → is_one_of ns u ≡ false
none_before ns us u differ = by (is_one_of ns u) refl
  where
    by : (b : Bool) → is_one_of ns u ≡ b → b ≡ false
    by false is = refl
    by true is = let not_there : is_one_of (u ∷ us) u ≡ false = apart ns (u ∷ us) u differ is in let there : is_one_of (u ∷ us) u ≡ true = is_itself us u in absurd (cc)

-- ---- lengths

one_within : (longest : ℕ) (us : List (List ℕ)) (u : List ℕ) → all_within longest us ≡ true → nat_lt longest (length u) ≡ false → all_within longest (us ++ u ∷ []) ≡ true
one_within longest [] u all short = rw short refl
one_within longest (v ∷ vs) u all short = let (first, rest) = first_not (nat_lt longest (length v)) (all_within longest vs) all in rw (first, one_within longest vs u rest short) refl

is_within : (longest : ℕ) (us vs : List (List ℕ)) (u : List ℕ) → all_within longest (us ++ u ∷ vs) ≡ true → nat_lt longest (length u) ≡ false
is_within longest [] vs u all = (first_not (nat_lt longest (length u)) (all_within longest vs) all).0
is_within longest (w ∷ ws) vs u all = is_within longest ws vs u (first_not (nat_lt longest (length w)) (all_within longest (ws ++ u ∷ vs)) all).1

room_for_one : (most : ℕ) (us : List (List ℕ)) (u : List ℕ) → nat_lt (length us) most ≡ true → nat_lt most (length (us ++ u ∷ [])) ≡ false
room_for_one most us u room = grind (arith, nat_tests, length-append us (u ∷ []))

room_before : (most : ℕ) (us vs : List (List ℕ)) (u : List ℕ) → nat_lt most (length (us ++ u ∷ vs)) ≡ false → nat_lt (length us) most ≡ true
room_before most us vs u all = grind (arith, nat_tests, length-append us (u ∷ vs))

-- ---- all of them

parts_of : (most longest : ℕ) (us : List (List ℕ)) → all_fit most longest us ≡ true → (no_two_equal us ≡ true) × (all_within longest us ≡ true) × (nat_lt most (length us) ≡ false)
parts_of most longest us fit =
    let (differ, rest) = both_true (no_two_equal us) (if all_within longest us then not (nat_lt most (length us)) else false) fit in
    let (within, few) = both_true (all_within longest us) (not (nat_lt most (length us))) rest in
    (differ, within, not_true (nat_lt most (length us)) few)

follows_parts : (most longest : ℕ) (before : List (List ℕ)) (u : List ℕ) → may_follow most longest before u ≡ true → (nat_lt (length before) most ≡ true) × (nat_lt longest (length u) ≡ false) × (is_one_of before u ≡ false)
follows_parts most longest before u may =
    let (room, rest) = and_true (nat_lt (length before) most) (not (nat_lt longest (length u)) && not (is_one_of before u)) may in
    let (short, other) = and_true (not (nat_lt longest (length u))) (not (is_one_of before u)) rest in
    (room, not_true (nat_lt longest (length u)) short, not_true (is_one_of before u) other)

pub none_fits : (most longest : ℕ) → all_fit most longest [] ≡ true
none_fits most longest = grind (arith, nat_tests)

-- one more that may follow
pub one_more : (most longest : ℕ) (before : List (List ℕ)) (u : List ℕ) → all_fit most longest before ≡ true → may_follow most longest before u ≡ true → all_fit most longest (before ++ u ∷ []) ≡ true
one_more most longest before u fit may =
    let (differ, within, few) = parts_of most longest before fit in
    let (room, short, other) = follows_parts most longest before u may in
    rw (one_differs before u differ other, one_within longest before u within short, room_for_one most before u room) refl

-- where all fit, each may follow those before it
follows : (most longest : ℕ) (before after : List (List ℕ)) (u : List ℕ) → all_fit most longest (before ++ u ∷ after) ≡ true → may_follow most longest before u ≡ true
follows most longest before after u fit =
    let (differ, within, few) = parts_of most longest (before ++ u ∷ after) fit in
    rw (room_before most before after u few, is_within longest before after u within, none_before before after u differ) refl

-- so a list with one that may not follow isn't taken
pub not_whole : (least most longest : ℕ) (before after : List (List ℕ)) (u : List ℕ) → may_follow most longest before u ≡ false → if_distinct least most longest (before ++ u ∷ after) ≡ None
not_whole least most longest before after u unfit = by (all_fit most longest (before ++ u ∷ after)) refl
  where
    by : (b : Bool) → all_fit most longest (before ++ u ∷ after) ≡ b → (if b then (if nat_lt (length (before ++ u ∷ after)) least then None else Some (before ++ u ∷ after)) else None) ≡ None
    by false is = refl
    by true is = let may : may_follow most longest before u ≡ true = follows most longest before after u is in absurd (cc)

-- ---- the same of texts with their places

pub texts_split : (before after : List Placed) (p : Placed) → texts (before ++ p ∷ after) ≡ texts before ++ text_at p ∷ texts after
texts_split before after p = map-append text_at before (p ∷ after)

-- ---- the loop that looks for the first unfit string

-- the strings before these were looked at, and each may stand where it does
abbrev pub Judged : ℕ → ℕ → List Placed → List Placed → Type 0
Judged most longest list rest = (before : List Placed) × (list ≡ before ++ rest) × (all_fit most longest (texts before) ≡ true)

pub judged_none : (most longest : ℕ) (list : List Placed) → Judged most longest list list
judged_none most longest list = ([], refl, none_fits most longest)

module _ (most longest : ℕ) {list rest : List Placed} (judged : Judged most longest list rest) where
  -- those that were looked at are the front of the list
  front : (place : ℕ) → place ≡ length list - length rest → take place list ≡ judged.0
  front place at =
      let (before, split, fit) = judged in
      let whole = ap length split in
      let parts = length-append before rest in
      let counted : place ≡ length before = omega (arith, at, whole, parts) in
      ap (λ n. take n list) counted ∙ ap (take (length before)) split ∙ take-append_seam before rest

  pub judged_all : length rest ≡ 0 → all_fit most longest (texts list) ≡ true
  judged_all none = by rest judged none
    where
      by : (rest : List Placed) → Judged most longest list rest → length rest ≡ 0 → all_fit most longest (texts list) ≡ true
      by [] (before, split, fit) none = subst (λ ps. all_fit most longest (texts ps) ≡ true) (sym (split ∙ append-nil before)) fit
      by (p ∷ ps) judged none = absurd (omega arith)

  module _ {item : Placed} {others : List Placed} (is : rest ≡ item ∷ others) (place : ℕ) (at : place ≡ length list - length rest) where
    pub judged_unfit : may_follow most longest (texts (take place list)) (text_at item) ≡ false → IsFirstUnfit most longest list item
    judged_unfit unfit = let (before, split, fit) = judged in record {
      before = before;
      after = others;
      split = split ∙ ap (λ ps. before ++ ps) is;
      fit = fit;
      unfit = subst (λ ps. may_follow most longest (texts ps) (text_at item) ≡ false) (front place at) unfit;
    }

    pub judged_more : may_follow most longest (texts (take place list)) (text_at item) ≡ true → Judged most longest list others
    judged_more may = let (before, split, fit) = judged in (
      before ++ item ∷ [],
      split ∙ ap (λ ps. before ++ ps) is ∙ sym (append_assoc before (item ∷ []) others),
      subst (λ us. all_fit most longest us ≡ true) (sym (texts_split before [] item)) (one_more most longest (texts before) (text_at item) fit (subst (λ ps. may_follow most longest (texts ps) (text_at item) ≡ true) (front place at) may)),
    )

-- a list whose first unfit string is known isn't taken
pub unfit_none : (least most longest : ℕ) (list : List Placed) (item : Placed) → IsFirstUnfit most longest list item → if_distinct least most longest (texts list) ≡ None
unfit_none least most longest list item first =
    ap (λ ps. if_distinct least most longest (texts ps)) first.split ∙ ap (if_distinct least most longest) (texts_split first.before first.after item)
    ∙ not_whole least most longest (texts first.before) (texts first.after) (text_at item) first.unfit

-- nor is one that is too short
pub few_none : (least most longest : ℕ) (us : List (List ℕ)) → all_fit most longest us ≡ true → length us < least → if_distinct least most longest us ≡ None
few_none least most longest us fit few = let short : nat_lt (length us) least ≡ true = grind (arith, nat_tests) in rw (fit, short) refl

-- any other is
pub all_taken : (least most longest : ℕ) (us : List (List ℕ)) → all_fit most longest us ≡ true → least ≤ length us → if_distinct least most longest us ≡ Some us
all_taken least most longest us fit enough = let many : nat_lt (length us) least ≡ false = grind (arith, nat_tests) in rw (fit, many) refl

-- ---- what is made of a list that was read

module _ (least most longest : ℕ) (old new : State) (list : List Placed) (result : Result (Vec (String Global) Global) Error) (made : MatchResult result (λ v. all_texts v ≡ texts list) LacksMemory) where
  pub made_sound : TookTexts old (texts list) new → if_distinct least most longest (texts list) ≡ Some (texts list) → IfOk result (λ v. Gives all_texts (distinct_texts least most longest) old new v)
  made_sound took taken = by result made
    where
      by : (r : Result (Vec (String Global) Global) Error) → MatchResult r (λ v. all_texts v ≡ texts list) LacksMemory → IfOk r (λ v. Gives all_texts (distinct_texts least most longest) old new v)
      by (Ok v) same = let (t, read, is) = took in (t, read, ap (if_more (if_distinct least most longest)) is ∙ taken ∙ ap Some (sym same))
      by (Err e) memory = tt

  pub made_complete : Completes (distinct_texts least most longest) old result
  made_complete = by result made
    where
      by : (r : Result (Vec (String Global) Global) Error) → MatchResult r (λ v. all_texts v ≡ texts list) LacksMemory → Completes (distinct_texts least most longest) old r
      by (Ok v) same = tt
      by (Err e) memory = record { memory = λ t r c live reads shallow converts. memory.kind }

  pub made_refused : IfErr result (λ e. DistinctFault least most longest old e new)
  made_refused = by result made
    where
      by : (r : Result (Vec (String Global) Global) Error) → MatchResult r (λ v. all_texts v ≡ texts list) LacksMemory → IfErr r (λ e. DistinctFault least most longest old e new)
      by (Ok v) same = tt
      by (Err e) memory = no_memory memory.kind

  pub made_unprompted : Unprompted old result
  made_unprompted = by result made
    where
      by : (r : Result (Vec (String Global) Global) Error) → MatchResult r (λ v. all_texts v ≡ texts list) LacksMemory → Unprompted old r
      by (Ok v) same = tt
      by (Err e) memory = λ live. memory_other e memory.kind

-- too few are refused at the bracket
pub few_refused : (least most longest : ℕ) (old new : State) (us : List (List ℕ)) (start end : ℕ) (e : Error) → TookTexts old us new → SpansValue old start end new → all_fit most longest us ≡ true → length us < least → IsOwnAt new.input start e → DistinctFault least most longest old e new
few_refused least most longest old new us start end e took span fit few (inl memory) = no_memory memory.kind
few_refused least most longest old new us start end e took span fit few (inr (p, place, own)) =
    too_few us took few (inr (refused_at texts_of (if_distinct least most longest) old new us start end p e took span (few_none least most longest us fit few) place own))
