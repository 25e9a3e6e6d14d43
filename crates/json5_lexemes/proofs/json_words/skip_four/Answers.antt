use Rattle.std.proofs.Common.{◌∷◌, []}
use Rattle.std.specs.Prelude.{None}
use Rattle.json5_lexemes.proofs.PlainWords.{past_none, past_last, past_more}
use Rattle.json5_lexemes.proofs.json_words.skip_four.Goals as goal

pub returns-in_default : goal.returns-in_default
returns-in_default c = past_none c.args.first (c.args.second ∷ c.args.third ∷ c.args.fourth ∷ []) _ c.in_default.ensures

pub returns-in_default-past_byte : goal.returns-in_default-past_byte
returns-in_default-past_byte c = past_more c.args.first (c.args.second ∷ c.args.third ∷ c.args.fourth ∷ []) _ c.in-Some.after_first.now None c.in-Some.ensures.chars (past_none c.args.second (c.args.third ∷ c.args.fourth ∷ []) _ c.in_default-past_byte.ensures)

pub returns-in_default-past_byte-2 : goal.returns-in_default-past_byte-2
returns-in_default-past_byte-2 c =
    past_more c.args.first (c.args.second ∷ c.args.third ∷ c.args.fourth ∷ []) _ c.in-Some.after_first.now None c.in-Some.ensures.chars
    (past_more c.args.second (c.args.third ∷ c.args.fourth ∷ []) _ c.in-Some-past_byte.after_second.now None c.in-Some-past_byte.ensures.chars (past_none c.args.third (c.args.fourth ∷ []) _ c.in_default-past_byte-2.ensures))

pub returns : goal.returns
returns c =
    past_more c.args.first (c.args.second ∷ c.args.third ∷ c.args.fourth ∷ []) _ c.in-Some.after_first.now _ c.in-Some.ensures.chars
    (past_more c.args.second (c.args.third ∷ c.args.fourth ∷ []) _ c.in-Some-past_byte.after_second.now _ c.in-Some-past_byte.ensures.chars
    (past_more c.args.third (c.args.fourth ∷ []) _ c.in-Some-past_byte-2.after_third.now _ c.in-Some-past_byte-2.ensures.chars (past_last c.args.fourth _ _ c.past_byte-4.ensures)))
