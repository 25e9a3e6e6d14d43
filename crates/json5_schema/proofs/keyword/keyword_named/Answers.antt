use Rattle.std.proofs.Common.{◌∙◌, arith}
use Rattle.json5_schema.proofs.KeywordGroups.{as-keyword_to_four, as-keyword_of_five, as-keyword_to_seven, as-keyword_of_eight, as-keyword_to_ten, as-keyword_to_sixteen, as-long_keyword}
use Rattle.json5_schema.proofs.keyword.keyword_named.Goals as goal

pub returns-in-0-to-4 : goal.returns-in-0-to-4
returns-in-0-to-4 c = c.keyword_to_four.ensures ∙ as-keyword_to_four c.args.name.now (omega arith)

pub returns-in-5 : goal.returns-in-5
returns-in-5 c = c.keyword_of_five.ensures ∙ as-keyword_of_five c.args.name.now (omega arith)

pub returns-in-8 : goal.returns-in-8
returns-in-8 c = c.keyword_of_eight.ensures ∙ as-keyword_of_eight c.args.name.now (omega arith)

pub returns-in-9-to-10 : goal.returns-in-9-to-10
returns-in-9-to-10 c = c.keyword_to_ten.ensures ∙ as-keyword_to_ten c.args.name.now (omega arith, omega arith)

pub returns-in-11-to-16 : goal.returns-in-11-to-16
returns-in-11-to-16 c = c.keyword_to_sixteen.ensures ∙ as-keyword_to_sixteen c.args.name.now (omega arith, omega arith)

pub returns-in_default : goal.returns-in_default
returns-in_default c = c.long_keyword.ensures ∙ as-long_keyword c.args.name.now (omega arith)

pub returns-in-6-to-7 : goal.returns-in-6-to-7
returns-in-6-to-7 c = c.keyword_to_seven.ensures ∙ as-keyword_to_seven c.args.name.now (omega arith, omega arith)
